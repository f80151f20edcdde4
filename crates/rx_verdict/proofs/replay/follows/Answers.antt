use Rattle.std.proofs.Common.{sym, ◌∙◌, arith}
use Rattle.std.proofs.lemmas.Bool.{true≢false, leb-true, le-leb}
use Rattle.rx_verdict.proofs.Following.{follows-close, follows-not, follows-done}
use Rattle.rx_verdict.proofs.Same.{answers-same}
use Rattle.rx_verdict.proofs.replay.follows.Goals as goal
use Rattle.rx_verdict.proofs.replay.follows.Goals.{then-stamp-last-via-then-stamp-last, then-stamp-last-via-else-stamp-last+then-not-asks_some}

pub returns-in-Close : goal.returns-in-Close
returns-in-Close c = follows-close c.args.blocks.now c.args.last c.in-Close.stamp c.args.event.now _ c.in-Close.is (λ t. leb-true _ _ t, λ l. le-leb _ _ l)

pub returns-then-stamp-last : goal.returns-then-stamp-last
returns-then-stamp-last c =
    follows-not c.args.blocks.now c.args.last c.in-Done.stamp c.in-Done.task c.in-Done.path c.in-Done.cell c.args.event.now c.in-Done.is
    (elim c.then-stamp-last.branch [
      | then-stamp-last-via-then-stamp-last w ↦ λ low some. let less = w.if-stamp-last.true in omega arith
      | then-stamp-last-via-else-stamp-last+then-not-asks_some w ↦ λ low some. true≢false (sym (w.asks_some.ensures.1 some) ∙ w.if-not-asks_some.true)
    ])

pub returns-else-not-asks_some : goal.returns-else-not-asks_some
returns-else-not-asks_some c =
    let same = answers-same c.ask.result c.in-Done.cell c.ask.ensures.asked in
    follows-done c.args.blocks.now c.ask.new.blocks c.args.last c.in-Done.stamp c.in-Done.task c.in-Done.path c.in-Done.cell c.ask.result c.args.event.now c.is_answer.result c.in-Done.is (omega arith) (c.asks_some.ensures.0 c.if-not-asks_some.false) c.ask.ensures.asked c.ask.ensures.told
    (λ t. same.0 (sym c.is_answer.ensures ∙ t), λ e. c.is_answer.ensures ∙ same.1 e)
