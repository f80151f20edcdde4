use Rattle.std.proofs.Common.{List, subst, reverse}
use Rattle.rx_script.specs.declared.writer.Part.{Part}
use Rattle.rx_script.specs.Inside.Unwritten.{Wrote}
use Rattle.rx_script.proofs.Written.{last-first, wrote-more}
use Rattle.rx_script.proofs.writer.put_all.Goals as goal

pub parts-preserved : goal.parts-preserved
parts-preserved c = record {
  some = c.parts.invariant.some;
  wrote = λ ts h.
      wrote-more c.args.script.now c.args.text.now.items c.parts.text.items c.put_part.new.text.items c.in-Some.part (reverse c.pop.new.self.items) (reverse c.put_part.new.parts.items) ts
      (subst (λ (ps : List Part). Wrote c.args.script.now c.args.text.now.items c.parts.text.items ps ts) (last-first c.parts.parts.items c.pop.new.self.items c.in-Some.part c.in-Some.ensures.items) (c.parts.invariant.wrote ts h))
      c.in_ok-put_part.ensures.wrote;
}
