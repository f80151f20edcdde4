use Rattle.rx_runs.proofs.Opening.{starts_ok}
use Rattle.rx_runs.proofs.opening_game_is_sound.Goals as goal

pub returns : goal.returns
returns c = starts_ok
