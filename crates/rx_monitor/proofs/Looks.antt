-- What a look at a page finds.
use Rattle.std.proofs.Common.{◌≡◌, Some, List, [], ◌∷◌, ◌++◌, length, length-append, sym, ap, ◌∙◌}
use Rattle.atomic_table.specs.Seated.{TableId}
use Rattle.atomic_table.specs.declared.shared.Seat.{Seat}
use Rattle.rx_monitor.specs.declared.summary.Summary.{Summary}
use Rattle.rx_monitor.specs.declared.shown_list.View.{View}
use Rattle.rx_monitor.specs.declared.page.Posted.{Posted}
use Rattle.rx_monitor.specs.declared.page.Tie.{Tie}
use Rattle.rx_monitor.specs.Inside.Pages.{board_of, list_of, IsNote}
use Rattle.rx_monitor.specs.Inside.Ties.{IsOf}
use Rattle.rx_monitor.specs.Inside.Holding.{IsLook}

pub look_is : (e e' : Posted) (note : Seat Summary View) (t : Tie) → e ≡ e' → IsNote e.one_shot.table.shared.key note → ((z : TableId) → IsOf z t → z ≡ board_of e'.one_shot.table.shared.key) → IsLook t (Some (note, e.last, e.count))
look_is e e' note t same is tied =
    let k = e.one_shot.table.shared.key in
    let front : List Summary = k.before.value.me.0.seen in
    let seen : note.me.0.seen ≡ list_of k = ap (λ m. m.0.seen) is.1 in (
      (λ z of. is.0 ∙ (ap (λ (x : Posted). board_of x.one_shot.table.shared.key) same ∙ sym (tied z of))),
      ap (λ m. m.1) is.1,
      (front, seen ∙ ap (λ x. front ++ x ∷ []) (sym e.named)),
      e.counted ∙ sym (ap length seen ∙ length-append front (k.summary ∷ [])),
    )
