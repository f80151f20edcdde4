use Rattle.std.proofs.Common.{rules, ◌≡◌, ◌++◌, ◌∷◌, [], ◌||◌, Bool, Option, ℕ, ap, sym, ◌∙◌}
use Rattle.tests_of_runs.specs.declared.book.event.Event.{Event}
use Rattle.rx_book.specs.History.{has_death, is_place}
use Rattle.rx_book.proofs.Masks.{has_death-snoc}
use Rattle.tests_of_runs.proofs.book.Events.add.Goals as goal

pub invariant_of-self-2 : goal.invariant_of-self-2
invariant_of-self-2 c =
    let place : Event → Option ℕ = λ e. e.dead in
    let items : c.push.new.self.items ≡ c.args.self.now.all.items ++ c.args.event ∷ [] = search rules in
    record {
      short = search rules;
      marks = λ p h. c.with_death-dead.ensures p h ∙ (ap (λ (b : Bool). b || is_place p c.args.event.dead) (c.args.self.now.marks p h) ∙ (sym (has_death-snoc place p c.args.self.now.all.items c.args.event) ∙ ap (has_death place p) (sym items)));
    }
