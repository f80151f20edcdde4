use Rattle.std.proofs.Common.{rules, ℕ, List, Option, Some, ◌≡◌, [], ◌∷◌, sym, ap, ◌∙◌, subst, eqb}
use mathlib.Core.Option.{none}
use prog.Atomic.{either}
use Rattle.atomic_table.specs.Table.{Me, Allows, step, rest}
use Rattle.rx_book.specs.declared.steps.Hand.{Hand}
use Rattle.rx_book.specs.Latched.{Latched, Took, Marked, idle}
use Rattle.rx_book.proofs.Latches.{sits, locks, marks}
use Rattle.rx_book.proofs.keyed_lock.Lock.lock.Goals as goal

pub load_new_seat-seat-requires : goal.load_new_seat-seat-requires
load_new_seat-seat-requires g c = (search rules, sits g.F.Fact.holds _ _)

pub compare_exchange-found-requires : goal.compare_exchange-found-requires
compare_exchange-found-requires g c =
    let t = c.self.inside.table.shared in (
      search rules,
      search rules,
      subst (λ (m : Me (Option g.row.T.Denot) (Hand g.row.K.Denot)). Allows (Latched g.F.Fact.holds t.key) t.table_id.slots c.loop.seat.id m 0 (λ n. either (eqb n 0) c.taken.result n) (Took g.F.Fact.holds (step t.table_id.slots 0 0 c.taken.result none) m)) (sym c.loop.invariant.1) (locks g.F.Fact.holds t.key t.table_id.slots c.loop.seat.id c.taken.result (search rules)),
    )

pub exchange-requires : goal.exchange-requires
exchange-requires g c =
    let took = c.compare_exchange-found.ensures.2.0 (search rules) in (
      search rules,
      (Some took.1.0, took.1.2 ∙ ap (λ (l : List (ℕ × Option g.row.T.Denot)). (0, Some took.1.0) ∷ rest l) (sym took.1.2)),
    )

pub compare_exchange-requires : goal.compare_exchange-requires
compare_exchange-requires g c =
    let t = c.self.inside.table.shared in
    let seat = c.compare_exchange-found.new.seat in
    let me : seat.me ≡ (idle t.key, []) = c.compare_exchange-found.ensures.2.1 (search rules) ∙ c.loop.invariant.1 in (
      search rules,
      search rules,
      subst (λ (m : Me (Option g.row.T.Denot) (Hand g.row.K.Denot)). Allows (Latched g.F.Fact.holds t.key) t.table_id.slots seat.id m 0 (λ n. either (eqb n 1) 2 n) (Marked (step t.table_id.slots 0 1 2 none) m)) (sym me) (marks g.F.Fact.holds t.key t.table_id.slots seat.id),
    )
