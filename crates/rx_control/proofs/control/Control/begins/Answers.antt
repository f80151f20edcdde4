use Rattle.std.proofs.Common.{Some, ap, sym, ◌∙◌}
use Rattle.std.proofs.lemmas.Option.{none-some, same_Some}
use Rattle.rx_control.specs.declared.frame.Frame.TheVariants.{Seq}
use Rattle.rx_control.proofs.Standing.{at-statement}
use Rattle.rx_control.proofs.Carried.{statement-begin}
use Rattle.rx_control.proofs.control.Control.begins.Goals as goal

pub returns-in-Some : goal.returns-in-Some
returns-in-Some c t h =
    let e = c.in-Some.ensures in
    let a = at-statement c.args.p.now.script c.args.self.now t e.1.0 c.in-Some.field-0-0 c.in-Some.next c.in-Some.part e.0 e.1.1 h in
    let begun = statement-begin c.args.p.now.script c.args.self.now t e.1.0 c.in-Some.field-0-0 c.in-Some.next c.in-Some.part a in
    let same = c.is_front_path.ensures e.1.0 (Seq c.in-Some.field-0-0 c.in-Some.next c.in-Some.part) e.1.1 in
    (λ k. begun ∙ ap (λ x. Some x) (sym (same.0 k)), λ k. same.1 (same_Some _ _ (sym k ∙ begun)))

pub returns-in-None : goal.returns-in-None
returns-in-None c t h = (λ k. cc, λ k. absurd (none-some c.args.path.now (sym (c.in-None.ensures c.args.p.now.script t h) ∙ k)))
