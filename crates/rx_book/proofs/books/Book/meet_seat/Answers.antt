use Rattle.std.proofs.Common.{◌≡◌, ap, sym, ◌∙◌, subst}
use Rattle.rx_book.specs.declared.views.View.{View}
use Rattle.rx_book.specs.Kept.{both, Told}
use Rattle.rx_book.specs.Calls.{Met}
use Rattle.rx_book.proofs.Calls.{met}
use Rattle.rx_book.proofs.books.Book.meet_seat.Goals as goal

pub returns-clause-met : goal.returns-clause-met
returns-clause-met g c =
    let place = g.O.Item.Dies.place in
    let v = c.args.seat.now.me.0 in
    let n = c.args.other.me.0 in
    let is : c.tell.new.seat.me.0 ≡ both v n = ap (λ m. m.0) (c.tell.ensures.same.2 ∙ c.meet.ensures.2) in
    subst (λ (w : View g.row.O-Item.Denot). Met place v n w) (sym is) (met place v n c.requires.plain.1 (subst (Told place) (ap (λ m. m.0) c.meet.ensures.2) c.tell.ensures.told))
