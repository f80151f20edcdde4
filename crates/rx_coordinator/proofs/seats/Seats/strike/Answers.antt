use Rattle.std.proofs.Common.{rules, ◌≡◌, cond, Some, None, true, false, not, Option, ◌∙◌, ap, refl}
use Rattle.std.specs.Ordering.{nat_cmp, eq_by_cmp}
use Rattle.std.specs.Map.{lookup}
use Rattle.std.proofs.lemmas.Cmp.{nat_cmp_total, eq_by_cmp_equiv}
use Rattle.std.proofs.lemmas.Map.Keys.{IsDistinct-from_sorted}
use Rattle.std.proofs.lemmas.Map.Entries.{lookup-filter-values, option_filter}
use Rattle.std.proofs.lemmas.Map.Made.{filter_same_pairs}
use Rattle.rx_rules.proofs.Common.{PlaceId, is_hit as hits}
use Rattle.rx_coordinator.specs.declared.seats.Seat.{Seat}
use Rattle.rx_coordinator.specs.Seats.{seat_at, unhit}
use Rattle.rx_coordinator.proofs.seats.Seats.strike.Goals as goal

kept : (d : PlaceId) (o : Option Seat) → option_filter (λ s. not (hits d s.who.place)) o ≡ unhit d o
kept d None = refl
kept d (Some w) = elim (hits d w.who.place) as (λ b. cond (not b) (Some w) None ≡ cond b None (Some w)) [ true ↦ refl | false ↦ refl ]

pub returns : goal.returns
returns c = λ q.
    let es = c.args.self.now.rows.entries in
    let d = c.args.place in
    let left = filter_same_pairs _ (λ e. not (hits d e.1.who.place)) _ (λ k v b w f' t. search rules) es c.retain.new.self.entries c.retain.ensures.filtered in
    ap (lookup (eq_by_cmp nat_cmp q)) left
    ∙ (lookup-filter-values (eq_by_cmp_equiv nat_cmp_total) (λ (s : Seat). not (hits d s.who.place)) q es (IsDistinct-from_sorted nat_cmp _ c.retain.ensures.was_ordered) ∙ kept d (seat_at c.args.self.now q))
