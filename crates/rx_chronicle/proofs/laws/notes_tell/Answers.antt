use Rattle.rx_chronicle.proofs.Noted as noted
use Rattle.rx_chronicle.proofs.laws.notes_tell.Goals as goal

pub returns : goal.returns
returns c = noted.notes_tell
