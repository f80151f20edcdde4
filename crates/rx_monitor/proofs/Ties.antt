-- Each step of a handle keeps the tie.
use Rattle.std.proofs.Common.{◌≡◌, ◌≢◌, ℕ, Some, List, [], ◌∷◌, ◌++◌, set, refl, sym, ◌∙◌, ap, subst, ⊎_elim}
use mathlib.Core.Option.{some}
use Rattle.std.specs.declared.snapshot.Snapshot.{Snapshot}
use Rattle.atomic_table.specs.declared.shared.Seat.{Seat}
use Rattle.rx_monitor.specs.declared.summary.Summary.{Summary}
use Rattle.rx_monitor.specs.declared.shown_list.View.{View}
use lib.ListN.{get_elem?}
use Rattle.crossbeam_utils.specs.Register.{Admits, TurnsAt, Turns, Forks, Merges}
use Rattle.atomic_table.specs.Seated.{TableId}
use Rattle.atomic_table.proofs.Lists.{at_set, at_snoc, set_again, set_else}
use Rattle.rx_monitor.specs.declared.page.Page.{Page}
use Rattle.rx_monitor.specs.declared.page.Tie.{Tie}
use Rattle.rx_monitor.specs.Inside.Pages.{board_of}
use Rattle.rx_monitor.specs.Inside.Ties.{label_of, untied, IsOf, Tied, IsSeen}

module _ (p : Page) where
  untied_is : (z : TableId) → IsOf z untied → z ≡ board_of (label_of p)
  untied_is z h = absurd (cc (h.1))

  set_tied : (ties : List Tie) (id : ℕ) (w : Tie) → Tied p ties → ((z : TableId) → IsOf z w → z ≡ board_of (label_of p)) → Tied p (set ties id w)
  set_tied ties id w h new j u e = ⊎_elim (λ (t : (j ≡ id) × (w ≡ u)). subst (λ (x : Tie). (z : TableId) → IsOf z x → z ≡ board_of (label_of p)) t.1 new)
      (λ (t : (j ≢ id) × (get_elem? ties j ≡ some u)). h j u t.1) (at_set ties id j w u e)

  snoc_tied : (ties : List Tie) (w : Tie) → Tied p ties → ((z : TableId) → IsOf z w → z ≡ board_of (label_of p)) → Tied p (ties ++ w ∷ [])
  snoc_tied ties w h new j u e = ⊎_elim (h j u) (λ (same : w ≡ u). subst (λ (x : Tie). (z : TableId) → IsOf z x → z ≡ board_of (label_of p)) same new) (at_snoc ties w u j e)

pub admits : Admits Tied untied
admits p ties h = snoc_tied p ties untied h (untied_is p)

same_board : (a b : Snapshot (Seat Summary View)) → Some a ≡ Some b → b.value.table_id ≡ a.value.table_id
same_board a b e = ap (λ (x : Snapshot (Seat Summary View)). x.value.table_id) {x = b} {y = a} (cc e)

pub names : (id : ℕ) (v : Tie) (x y : Page) → board_of (label_of y) ≡ board_of (label_of x) → TurnsAt Tied id v x y (λ v x y w. IsOf (board_of (label_of y)) w)
names id v x y same ties h at =
    let w : Tie = record { board = Some (label_of y).before } in (
      w,
      set_tied y ties id w (λ j u e z of. h j u e z of ∙ sym same) (λ z of. sym of.2 ∙ same_board (label_of y).before of.0 of.1),
      ((label_of y).before, refl, refl),
    )

pub sees : (id : ℕ) (v : Tie) → Turns Tied id v (λ x. x) (λ v x y w. IsSeen v x w)
sees id v x ties h at = (v, subst (Tied x) (sym (set_again ties id v at)) h, (refl, h id v at))

pub forks : (id : ℕ) (v : Tie) → Forks Tied id v v v
forks id v p ties h at = snoc_tied p (set ties id v) v (set_tied p ties id v h (h id v at)) (h id v at)

pub merges : (id : ℕ) (v : Tie) (other : ℕ) (w : Tie) → Merges Tied id v other w w untied
merges id v other w p ties h at apart there =
    let own : get_elem? ties other ≡ some w = sym (set_else ties id other w apart) ∙ there in
    set_tied p (set ties id w) other untied (set_tied p ties id w h (h other w own)) (untied_is p)
