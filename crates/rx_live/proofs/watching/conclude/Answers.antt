use Rattle.std.proofs.Common.{◌≡◌, false, length, Option, Some, Ok, IfOk, subst, rules}
use Rattle.rx_monitor.specs.Boards.{Listing, StandInOrder}
use Rattle.rx_objects.specs.Shown.{board_of, BoardShows}
use Rattle.rx_live.specs.Inside.Looking.{EndsLooked}
use Rattle.rx_live.proofs.Watched.{tells}
use Rattle.rx_live.proofs.watching.conclude.Goals as goal

pub returns : goal.returns
returns g c =
    let h = c.args.history.now in
    let there : c.args.board ≡ Some c.in-Some.writer = search rules in
    let done : c.args.looked ≡ Some c.in-Some-looked.field-0 = search rules in
    let ends = subst (EndsLooked (board_of c.args.board) c.args.watch) done c.requires.looked in
    let made : c.in-Some-looked.field-0.items ≡ Ok c.in-Ok.items = cc c.in-Ok.is in
    let stand = subst (λ (r : _). IfOk r (λ v. (length v.items ≡ c.args.watch) × StandInOrder c.in-Some-looked.field-0.reader.list 0 v.items)) made ends.1 in
    tells c.watch_tells.ensures c.args.watch h.setup.places h.entries c.in-Some.writer c.in-Ok.items.items c.in_ok-items.items.items stand.0
    (subst (λ (b : Option Listing). BoardShows h.setup.places h.entries false b) there c.requires.shown) c.in_ok-items.ensures.watched
