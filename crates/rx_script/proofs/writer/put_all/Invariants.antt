use Rattle.std.proofs.Common.{List, reverse}
use Rattle.rx_syntax.specs.declared.token.Token.{Token}
use Rattle.rx_script.specs.Inside.Unwritten.{PartsStand, Wrote, turns_left}
use Rattle.rx_script.proofs.writer.put_all.Given as goal

-- each list of tokens that the parts stood for is written in part, and the parts at hand stand for the others
abbrev pub invariant-parts : goal.invariant-parts
invariant-parts l = record {
  some : (ts : List Token) × PartsStand l.script (reverse l.fn.parts.items) ts;
  wrote : (ts : List Token) → PartsStand l.script (reverse l.fn.parts.items) ts → Wrote l.script l.fn.text.items l.text.items (reverse l.parts.items) ts;
}

abbrev pub decreases-parts : goal.decreases-parts
decreases-parts l = turns_left l.text.items l.parts.items
