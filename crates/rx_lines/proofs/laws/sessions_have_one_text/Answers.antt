use Rattle.rx_lines.proofs.Sessions.{one_text, one_text_with_enough}
use Rattle.rx_lines.proofs.laws.sessions_have_one_text.Goals as goal

pub returns-clause-same : goal.returns-clause-same
returns-clause-same c = one_text

pub returns-clause-enough : goal.returns-clause-enough
returns-clause-enough c = one_text_with_enough
