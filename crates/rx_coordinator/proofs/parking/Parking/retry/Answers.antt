use Rattle.rx_rules.proofs.Common.{tree_of, ScopeId}
use Rattle.std.proofs.Common.{ℕ, ◌≡◌, None, refl, sym, ◌∙◌, ap, subst, inl, inr, cond, ◌==◌}
use Rattle.rx_coordinator.specs.declared.parking.Parking.{Parking}
use Rattle.rx_coordinator.specs.Stands.{StandsAfter, IsReplyTo}
use Rattle.rx_coordinator.specs.Waiters.{waiter_at, ScopeIsDue}
use Rattle.rx_coordinator.specs.Parking.{Parks}
use Rattle.rx_coordinator.specs.declared.parking.Retried.{Retried}
use Rattle.rx_coordinator.specs.declared.parking.Retried.TheVariants.{Short, Passed}
use Rattle.rx_coordinator.specs.declared.waiters.Waiters.{Waiters}
use Rattle.rx_coordinator.specs.declared.waiters.Due.{Due}
use Rattle.rx_coordinator.specs.Parking.{request_of, answer_to}
use Rattle.rx_coordinator.proofs.Moves.{Kept, kept, freed_told, released_is, root_is, waits_on, drops, short_told}
use Rattle.rx_coordinator.proofs.parking.Parking.retry.Goals as goal

no_pass : Short ≡ Passed → ⊥
no_pass e = cc

pub returns-in-Released-clause-parks : goal.returns-in-Released-clause-parks
returns-in-Released-clause-parks c = λ p es k.
    let old = c.args.self.now in
    let l = c.ask_again.new.self in
    let same = c.ask_again.ensures.same in
    let a = c.in-Released.ensures.asked p es k.stands in
    let left : (n : ℕ) → waiter_at c.leave.new.self n ≡ cond (n == c.args.scope.0) None (waiter_at old.waiters n) = λ n. c.leave.ensures n ∙ ap (λ (x : Parking). cond (n == c.args.scope.0) None (waiter_at x.waiters n)) same in (
      subst (λ (e : Due). IsReplyTo p es (request_of c.args.waiter) (answer_to c.args.waiter c.in-Released.outcome) (Kept l.core c.leave.new.self e p)) (sym (ap (λ (x : Parking). x.due) same))
          (freed_told p es old.waiters old.due k.all k.stands.tree.reached l.core c.args.scope c.args.waiter c.requires.next c.leave.new.self left c.in-Released.outcome c.args.waiter refl (released_is p es c.args.waiter c.in-Released.outcome _ a)),
      left,
    )

pub returns-in-RootDone-clause-parks : goal.returns-in-RootDone-clause-parks
returns-in-RootDone-clause-parks c = λ p es k.
    let old = c.args.self.now in
    let l = c.ask_again.new.self in
    let same = c.ask_again.ensures.same in
    let us = c.leave-in-RootDone.new.self in
    let a = c.in-RootDone.ensures.asked p es k.stands in
    let left : (n : ℕ) → waiter_at us n ≡ cond (n == c.args.scope.0) None (waiter_at old.waiters n) = λ n. c.leave-in-RootDone.ensures n ∙ ap (λ (x : Parking). cond (n == c.args.scope.0) None (waiter_at x.waiters n)) same in (
      subst (λ (e : Due). IsReplyTo p es (request_of c.args.waiter) (answer_to c.args.waiter c.in-RootDone.outcome) (Kept l.core us e p)) (sym (ap (λ (x : Parking). x.due) same))
          (freed_told p es old.waiters old.due k.all k.stands.tree.reached l.core c.args.scope c.args.waiter c.requires.next us left c.in-RootDone.outcome c.args.waiter refl (root_is p es c.args.waiter c.in-RootDone.outcome _ a)),
      left,
    )

pub returns-in-NotYet-clause-parks : goal.returns-in-NotYet-clause-parks
returns-in-NotYet-clause-parks c = λ p es k.
    let old = c.args.self.now in
    let l = c.ask_again.new.self in
    let same = c.ask_again.ensures.same in
    let e = c.past-self.result in
    let due : (n : ℕ) → ScopeIsDue old.due n → ScopeIsDue l.due n = λ n. subst (λ (x : Due). ScopeIsDue x n) (sym (ap (λ (x : Parking). x.due) same)) in
    let a = c.in-NotYet.ensures.asked p es k.stands in (
      subst (λ (ws : Waiters). Kept l.core ws e p es) (sym (ap (λ (x : Parking). x.waiters) same))
          (waits_on p es old.waiters old.due k.all k.stands.tree.reached l.core c.args.scope c.args.waiter c.requires.next e (λ n i j low. c.past-self.ensures.kept n (due n i) (due c.args.scope.0 j) low) c.in-NotYet.place a),
      inl (λ n. ap (λ (x : Parking). waiter_at x.waiters n) same),
    )

pub returns-in-Bad-clause-parks : goal.returns-in-Bad-clause-parks
returns-in-Bad-clause-parks c = λ p es k.
    let old = c.args.self.now in
    let l = c.ask_again.new.self in
    let same = c.ask_again.ensures.same in
    let us = c.leave-in-Bad.new.self in
    let e = c.past-self-in-Bad.result in
    let due : (n : ℕ) → ScopeIsDue old.due n → ScopeIsDue l.due n = λ n. subst (λ (x : Due). ScopeIsDue x n) (sym (ap (λ (x : Parking). x.due) same)) in
    let a = c.in-Bad.ensures.asked p es k.stands in
    let left : (n : ℕ) → waiter_at us n ≡ cond (n == c.args.scope.0) None (waiter_at old.waiters n) = λ n. c.leave-in-Bad.ensures n ∙ ap (λ (x : Parking). cond (n == c.args.scope.0) None (waiter_at x.waiters n)) same in
    (drops p es old.waiters old.due k.all k.stands.tree.reached l.core c.args.scope c.args.waiter c.requires.next us left e (λ n i j low. c.past-self-in-Bad.ensures.kept n (due n i) (due c.args.scope.0 j) low) a, inr (a.0, left))

pub returns-in_default : goal.returns-in_default
returns-in_default c =
    let old = c.args.self.now in
    let l = c.ask_again.new.self in
    let same = c.ask_again.ensures.same in
    record {
      later = λ e. absurd (no_pass e);
      parks = λ p es k.
          let st = short_told p es c.args.waiter c.ask_again.result (StandsAfter l.core p) c.in_default.not-Bad c.in_default.not-NotYet c.in_default.not-Released c.in_default.not-RootDone (c.ask_again.ensures.asked p es k.stands) in
          (subst (λ (x : Parking). Parks x p es) (sym same) (kept l.core old.waiters old.due p es st k.all), λ n. ap (λ (x : Parking). waiter_at x.waiters n) same);
    }
