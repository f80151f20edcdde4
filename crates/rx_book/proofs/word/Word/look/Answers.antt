use Rattle.std.proofs.Common.{rules, ap, sym, subst}
use Rattle.rx_book.specs.declared.views.View.{View}
use Rattle.rx_book.specs.Calls.{Looked}
use Rattle.rx_book.proofs.Keeps.{loads}
use Rattle.rx_book.proofs.Calls.{looks}
use Rattle.rx_book.proofs.word.Word.look.Goals as goal

pub load-requires : goal.load-requires
load-requires g c = (search rules, search rules, loads g.I.Dies.place _ _ _)

pub returns-clause-later : goal.returns-clause-later
returns-clause-later g c =
    let told = c.load.ensures.2 in
    subst (λ (w : View g.row.I.Denot). Looked c.args.seat.now.me.0 w) (ap (λ m. m.0) (sym told.0)) (looks c.args.seat.now.me.0 c.load.result told.1 told.3)
