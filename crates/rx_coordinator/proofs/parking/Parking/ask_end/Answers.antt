use Rattle.std.proofs.Common.{◌≡◌, [], ◌∷◌, ◌++◌, true, refl, sym, ap, subst, inr}
use Rattle.rx_rules.proofs.Common.{ScopeId, the_root, on_chain, tree_of}
use Rattle.rx_coordinator.specs.declared.parking.Parking.{Parking}
use Rattle.rx_coordinator.specs.Waiters.{waiter_at}
use Rattle.rx_coordinator.specs.Parking.{Parks}
use Rattle.rx_coordinator.specs.Inside.Walks.{AllDue}
use Rattle.rx_coordinator.proofs.Moves.{kept, leads, end_told, no_end_told}
use Rattle.rx_coordinator.proofs.parking.Parking.ask_end.Goals as goal

pub wake-requires : goal.wake-requires
wake-requires c =
    let r = c.requires in
    let a = c.in-Ended.ensures r.0 r.1 r.2.stands in (
      r.0,
      r.1 ++ a.0 ∷ [],
      a.3,
      subst (λ (s : ScopeId). on_chain (tree_of r.0 (r.1 ++ a.0 ∷ [])) the_root s ≡ true) (sym c.under-under.ensures)
          (leads r.0 r.1 c.args.task c.args.thrown a.0 a.1 a.2 r.2.stands.tree.reached c.args.self.now.core r.2.stands),
    )

pub returns-in-Ended : goal.returns-in-Ended
returns-in-Ended c = λ p es k.
    let old = c.args.self.now in
    let ws = old.waiters in
    let l = c.wake.new.self in
    let a = c.in-Ended.ensures p es k.stands in
    let r = k.stands.tree.reached in
    let V = tree_of p (es ++ a.0 ∷ []) in
    let on = subst (λ (s : ScopeId). on_chain V the_root s ≡ true) (sym c.under-under.ensures) (leads p es c.args.task c.args.thrown a.0 a.1 a.2 r old.core k.stands) in
    let all = end_told p es c.args.task c.args.thrown a.0 a.1 a.2 r old.core k.stands ws old.due l.due k.all c.wake.ensures.kept
    (λ there. subst (λ (s : ScopeId). AllDue V ws s l.due) c.under-under.ensures (c.wake.ensures.due p (es ++ a.0 ∷ []) a.3 on there)) in
    inr (
      (λ h. absurd h),
      (a.0, a.1, a.2, subst (λ (x : Parking). Parks x p (es ++ a.0 ∷ [])) (sym c.wake.ensures.same) (kept c.end.new.self ws l.due p _ a.3 all)),
      λ n. ap (λ (x : Parking). waiter_at x.waiters n) c.wake.ensures.same,
    )

pub returns-in_default : goal.returns-in_default
returns-in_default c = λ p es k.
    inr ((λ h. absurd h), no_end_told p es c.end.new.self c.args.self.now.waiters c.args.self.now.due k.all c.args.task c.args.thrown c.end.result c.in_default.not-Ended (c.end.ensures p es k.stands), λ n. refl)
