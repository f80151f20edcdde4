use Rattle.std.proofs.Common.{refl}
use Rattle.std.specs.Fmt.{digits}
use Rattle.rx_trace.specs.Parts.{lost_part, masked_part}
use Rattle.rx_trace.specs.Text.{setup_lines, trace_text}
use Rattle.rx_trace.proofs.laws.loss_in_transit_has_its_text.Goals as goal

pub returns : goal.returns
unfolding digits lost_part masked_part setup_lines trace_text
returns c = refl
