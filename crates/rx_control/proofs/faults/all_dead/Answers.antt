use Rattle.std.proofs.Common.{rules, ◌≡◌, ℕ, ◌+◌, List, ◌∷◌, drop, true, false, Some, ap, sym, ◌∙◌, slice_get, ◌&&◌}
use Rattle.std.specs.List.{list_all}
use Rattle.std.proofs.lemmas.List.{at_drop_more}
use Rattle.std.proofs.lemmas.Option.{slice_get_within, get_or_from_slice_get}
use Rattle.rx_rules.proofs.Common.{Fault, is_dead}
use Rattle.rx_control.proofs.faults.all_dead.Goals as goal

more : (fs : List Fault) (i : ℕ) (f : Fault) → slice_get fs i ≡ Some f → drop i fs ≡ f ∷ drop (i + 1) fs
more fs i f g = at_drop_more {Y = List Fault} (λ l. l) fs i f (slice_get_within fs i f g) ∙ ap (λ y. y ∷ drop (i + 1) fs) (get_or_from_slice_get fs i f f g)

pub returns-then-not-dead : goal.returns-then-not-dead
returns-then-not-dead c =
    let e : is_dead c.item.result ≡ false = search rules in
    sym (ap (λ b. b && list_all is_dead (drop (c.loop-i.i + 1) c.args.faults.now)) e) ∙ sym (ap (list_all is_dead) (more c.args.faults.now c.loop-i.i c.item.result c.item.ensures)) ∙ c.loop-i.invariant

pub loop-i-preserved : goal.loop-i-preserved
loop-i-preserved c =
    let e : is_dead c.item.result ≡ true = search rules in
    sym (ap (λ b. b && list_all is_dead (drop (c.loop-i.i + 1) c.args.faults.now)) e) ∙ sym (ap (list_all is_dead) (more c.args.faults.now c.loop-i.i c.item.result c.item.ensures)) ∙ c.loop-i.invariant
