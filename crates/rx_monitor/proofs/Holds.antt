-- What the writer and the reader of a board hold after a step.
use Rattle.std.proofs.Common.{◌≡◌, ℕ, ◌≤◌, true, false, Option, Some, List, [], ◌∷◌, ◌++◌, length, refl, sym, ap, ◌∙◌, subst}
use mathlib.Core.List.{IsPrefix}
use Rattle.atomic_table.specs.Seated.{TableId}
use Rattle.atomic_table.specs.declared.shared.Seat.{Seat}
use Rattle.rx_monitor.specs.declared.summary.Summary.{Summary}
use Rattle.rx_monitor.specs.declared.shown_list.View.{View}
use Rattle.rx_monitor.specs.declared.page.Page.{Page}
use Rattle.rx_monitor.specs.declared.page.Tie.{Tie}
use Rattle.rx_monitor.specs.Boards.{longer, EndsWith}
use Rattle.rx_monitor.specs.Inside.ShownLists.{opening_view, noted, met, settled, grown}
use Rattle.rx_monitor.specs.Inside.Pages.{board_of}
use Rattle.rx_monitor.specs.Inside.Ties.{label_of, IsOf}
use Rattle.rx_monitor.specs.Inside.Holding.{Writes, Reads}
use Rattle.rx_monitor.proofs.Beginnings.{longer-second}

abbrev Sp : Type 0
Sp = Seat Summary View

abbrev plain : List Summary → View × List (ℕ × Summary)
plain l = (record { marked = false; seen = l; also = [] }, [])

abbrev marked_with : List Summary → View × List (ℕ × Summary)
marked_with l = (record { marked = true; seen = l; also = [] }, [])

module _ {R : Type 0} (tie : R → Tie) (z : TableId) where
  pub reads_met : (spot spot' : Sp) (n : View) (reader : Option R) → Reads tie z spot reader → spot'.table_id ≡ spot.table_id → spot'.me ≡ (settled (met spot.me.0 n), spot.me.1) → Reads tie z spot' reader
  reads_met spot spot' n reader h same met_is =
      let now : spot'.me ≡ plain (longer spot.me.0.seen n.seen) = met_is ∙ ap (λ (m : View × List (ℕ × Summary)). (settled (met m.0 n), m.1)) h.1 in
      (same ∙ h.0, now ∙ ap plain (sym (ap (λ (m : View × List (ℕ × Summary)). m.0.seen) now)), h.2)

  pub reads_again : (spot : Sp) (reader : Option R) (r r' : R) → Reads tie z spot reader → reader ≡ Some r → tie r' ≡ tie r → Reads tie z spot (Some r')
  reads_again spot reader r r' h is same =
      let one : h.2.0 ≡ r = cc (h.2.1, is) in
      (h.0, h.1, (r', refl, subst (IsOf z) (ap tie one ∙ sym same) h.2.2))

-- the last item of the longer list
pub ends_second : (xs ys : List Summary) (y : Summary) → IsPrefix ys (longer xs ys) → length xs ≤ length ys → EndsWith ys y → EndsWith (longer xs ys) y
ends_second xs ys y p le e = (e.0, longer-second xs ys p le ∙ e.1)

-- the writer after a page was shown
pub writes_again : {W : Type 0} (w w' : W) (page : W → Page) (z : TableId) (mark : Sp) (writer dest : Option W) → Writes page z mark writer → writer ≡ Some w → dest ≡ Some w' → board_of (label_of (page w')) ≡ board_of (label_of (page w)) → Writes page z mark dest
writes_again {W} w w' page z mark writer dest h is put same =
    let one : h.2.0 ≡ w = cc (h.2.1, is) in
    (h.0, h.1, (w', put, same ∙ (sym (ap (λ (x : W). board_of (label_of (page x))) one) ∙ h.2.2)))

pub writes_grown : {W : Type 0} (w w' : W) (page : W → Page) (z : TableId) (mark mark' : Sp) (s : Summary) (writer dest : Option W) → Writes page z mark writer → writer ≡ Some w → dest ≡ Some w' → board_of (label_of (page w')) ≡ board_of (label_of (page w))
    → mark'.table_id ≡ mark.table_id → mark'.me ≡ (grown mark.me.0 s, mark.me.1) → Writes page z mark' dest
writes_grown w w' page z mark mark' s writer dest h is put same table me =
    let again = writes_again w w' page z mark writer dest h is put same in
    let now : mark'.me ≡ marked_with (mark.me.0.seen ++ s ∷ []) = me ∙ ap (λ (m : View × List (ℕ × Summary)). (grown m.0 s, m.1)) h.1 in
    (table ∙ h.0, now ∙ ap marked_with (sym (ap (λ (m : View × List (ℕ × Summary)). m.0.seen) now)), again.2)

pub writes_opened : {W : Type 0} (w : W) (page : W → Page) (z : TableId) (mark mark' : Sp) (s : Summary) → mark.me ≡ (opening_view, []) → mark'.table_id ≡ z → mark'.me ≡ (grown mark.me.0 s, mark.me.1) → board_of (label_of (page w)) ≡ z
    → Writes page z mark' (Some w) × EndsWith mark'.me.0.seen s × (1 ≡ length mark'.me.0.seen)
writes_opened w page z mark mark' s first table me of =
    let now : mark'.me ≡ marked_with (s ∷ []) = me ∙ ap (λ (m : View × List (ℕ × Summary)). (grown m.0 s, m.1)) first in
    let seen = ap (λ (m : View × List (ℕ × Summary)). m.0.seen) now in
    ((table, now ∙ ap marked_with (sym seen), (w, refl, of)), ([], seen), sym (ap length seen))

pub reads_opened : {R : Type 0} (tie : R → Tie) (z : TableId) (mark mark' spot : Sp) (s : Summary) (r : R) → mark.me ≡ (opening_view, []) → mark'.me ≡ (grown mark.me.0 s, mark.me.1) → spot.table_id ≡ z → spot.me ≡ (noted mark'.me.0, []) → IsOf z (tie r)
    → Reads tie z spot (Some r) × EndsWith spot.me.0.seen s × (1 ≡ length spot.me.0.seen)
reads_opened tie z mark mark' spot s r first me table note of =
    let grew : mark'.me ≡ marked_with (s ∷ []) = me ∙ ap (λ (m : View × List (ℕ × Summary)). (grown m.0 s, m.1)) first in
    let now : spot.me ≡ plain (s ∷ []) = note ∙ ap (λ (m : View × List (ℕ × Summary)). plain m.0.seen) grew in
    let seen = ap (λ (m : View × List (ℕ × Summary)). m.0.seen) now in
    ((table, now ∙ ap plain (sym seen), (r, refl, of)), ([], seen), sym (ap length seen))
