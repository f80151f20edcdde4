use Rattle.rx_tree_laws.proofs.Histories.{fold_reached}
use Rattle.rx_verdict.proofs.Seating.{seats_stay}
use Rattle.rx_verify.proofs.AdmitPlayers.{quiet_after}
use Rattle.rx_verify.proofs.laws.players_stay.Goals as goal

pub returns : goal.returns
returns c = λ shape code U es js i ps e q f p. quiet_after shape code U es js i ps e seats_stay fold_reached q f p
