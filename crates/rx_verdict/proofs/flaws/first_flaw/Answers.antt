use Rattle.std.proofs.Common.{◌<◌, ℕ, length, subst, ap, arith, below_more, None, slice_index_or}
use Rattle.rx_rules.proofs.Common.{journal_at}
use Rattle.rx_history.specs.Logs.{Log}
use Rattle.rx_history.specs.Events.{events_of}
use Rattle.rx_verdict.specs.Marked.{row_at}
use Rattle.rx_verdict.specs.Flaws.{IsSound, IsFirstIn}
use Rattle.rx_verdict.proofs.EventsOfJournals.{events-at}
use Rattle.rx_verdict.proofs.OneJournal.{sound-here}
use Rattle.rx_verdict.proofs.flaws.first_flaw.Goals as goal
use Rattle.rx_runs.proofs.Pairs.{journal_got}

pub loop-p-preserved : goal.loop-p-preserved
loop-p-preserved c =
    let js = events_of c.args.journals.now in
    let es = c.args.history.now.entries in
    let p = c.loop-p.p in
    let death = c.requires.deaths.each p (omega arith) in
    let is = journal_got js p c.item.result.now.events (events-at c.args.journals.now p c.item.result.now c.item.ensures) in
    let heap = ap (λ (h : Log). h.setup.heap) c.history.view_is in
    let sound = subst (IsFirstIn c.history.inside.setup.heap (slice_index_or c.args.deaths.now p None) c.item.result.now.events (row_at c.args.marks.now p)) c.in-None.is c.in_ok-found.ensures in
    let here = sound-here c.history.inside.setup.heap c.args.history.now.setup.heap es js c.args.marks.now p (slice_index_or c.args.deaths.now p None) c.item.result.now.events heap death is sound in
    λ q f l k. below_more (λ q. (f : ℕ) → f < length (journal_at js q) → IsSound c.args.history.now.setup.heap es js c.args.marks.now q f) p (λ q l f k. c.loop-p.invariant q f l k) here q l f k
