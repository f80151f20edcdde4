use Rattle.std.proofs.Common.{◌++◌, length, ap, sym, subst, ◌∙◌, arith}
use Rattle.rx_check.specs.Checked.{Checked}
use Rattle.rx_syntax.specs.Shape.{Stands}
use Rattle.rx_counts.specs.Stands.{StandsFor}
use Rattle.rx_book.specs.Passes.{view_of}
use Rattle.rx_objects.proofs.LedgerClosed.{whole_is, all_seen, all_made, stands_there, shown_there}
use Rattle.rx_objects.proofs.closing.close_ledger.Goals as goal

pub returns-clause-reach : goal.returns-clause-reach
returns-clause-reach g c =
    let stands = subst (λ (q : Checked). Stands q.script c.checked.ensures.0) (sym c.requires.program) c.checked.ensures.1 in
    let cl = c.close_book-object.ensures.closed in
    let same = ap length (whole_is c.checked.ensures.0 c.args.ledger.fixed (view_of c.args.host).seen cl.0 stands c.requires.host.ends cl.2 cl.3) in
    let long = cl.4 in
    omega (arith, same, long)

pub returns-then-late-clause-reach : goal.returns-then-late-clause-reach
returns-then-late-clause-reach g c =
    let stands = subst (λ (q : Checked). Stands q.script c.checked.ensures.0) (sym c.requires.program) c.checked.ensures.1 in
    let cl = c.close_book-object.ensures.closed in
    let same = ap length (whole_is c.checked.ensures.0 c.args.ledger.fixed (view_of c.args.host).seen cl.0 stands c.requires.host.ends cl.2 cl.3) in
    let long = cl.4 in
    omega (arith, same, long)

pub returns-clause-setup : goal.returns-clause-setup
returns-clause-setup g c = c.into_history-history.ensures.setup ∙ (c.into_parts-keeper.ensures.setup ∙ c.close_book-object.ensures.fixed.0)

pub returns-clause-entries : goal.returns-clause-entries
returns-clause-entries g c =
    let stands = subst (λ (q : Checked). Stands q.script c.checked.ensures.0) (sym c.requires.program) c.checked.ensures.1 in
    let cl = c.close_book-object.ensures.closed in
    c.into_history-history.ensures.entries
    ∙ all_made c.checked.ensures.0 c.args.ledger c.args.host cl.0 c.close_book-object.result.entries c.into_parts-keeper.result.keeper stands c.requires.host cl.2 cl.3 cl.1 c.into_parts-keeper.ensures.entries c.is_history.ensures

pub returns-clause-few : goal.returns-clause-few
returns-clause-few g c =
    let stands = subst (λ (q : Checked). Stands q.script c.checked.ensures.0) (sym c.requires.program) c.checked.ensures.1 in
    let cl = c.close_book-object.ensures.closed in
    let seen = ap length (all_seen c.checked.ensures.0 c.args.ledger c.args.host cl.0 c.close_book-object.result.entries c.into_parts-keeper.result.keeper stands c.requires.host cl.2 cl.3 cl.1 c.into_parts-keeper.ensures.entries) in
    let made = ap length (c.into_history-history.ensures.entries
    ∙ all_made c.checked.ensures.0 c.args.ledger c.args.host cl.0 c.close_book-object.result.entries c.into_parts-keeper.result.keeper stands c.requires.host cl.2 cl.3 cl.1 c.into_parts-keeper.ensures.entries c.is_history.ensures) in
    let short = c.is_short.ensures in
    omega (arith, seen, made, short)

pub returns-clause-ledger : goal.returns-clause-ledger
returns-clause-ledger g c =
    stands_there StandsFor c.into_history-history.result.1 c.into_parts-keeper.result.keeper.setup c.args.ledger.fixed.setup (c.into_parts-keeper.result.keeper.entries ++ c.into_parts-keeper.result.keeper.behind) c.into_history-history.result.0.entries
    (c.into_parts-keeper.ensures.setup ∙ c.close_book-object.ensures.fixed.0) c.into_history-history.ensures.entries c.into_history-history.ensures.ledger

pub returns-clause-board : goal.returns-clause-board
returns-clause-board g c =
    let stands = subst (λ (q : Checked). Stands q.script c.checked.ensures.0) (sym c.requires.program) c.checked.ensures.1 in
    let cl = c.close_book-object.ensures.closed in
    let k = c.into_parts-keeper.result.keeper in
    let seen = all_seen c.checked.ensures.0 c.args.ledger c.args.host cl.0 c.close_book-object.result.entries k stands c.requires.host cl.2 cl.3 cl.1 c.into_parts-keeper.ensures.entries in
    let made = c.into_history-history.ensures.entries
    ∙ all_made c.checked.ensures.0 c.args.ledger c.args.host cl.0 c.close_book-object.result.entries k stands c.requires.host cl.2 cl.3 cl.1 c.into_parts-keeper.ensures.entries c.is_history.ensures in (
      c.into_parts-keeper.ensures.board ∙ c.close_book-object.ensures.board,
      shown_there c.into_parts-keeper.result.board k.setup c.args.ledger.fixed.setup k.entries c.into_history-history.result.0.entries c.into_parts-keeper.result.late c.if-late.false
          (c.into_parts-keeper.ensures.setup ∙ c.close_book-object.ensures.fixed.0) (made ∙ sym seen) c.into_parts-keeper.ensures.shown,
    )
