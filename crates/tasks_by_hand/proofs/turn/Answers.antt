use Rattle.std.proofs.Common.{◌≡◌, ◌+◌, ◌<◌, ◌^◌, nat_lt, true, List, length, refl, arith, subst, sym}
use Rattle.std.proofs.lemmas.Bool.{ltb-true}
use Rattle.rx_ledger.specs.declared.asks.Request.{Request}
use Rattle.tasks_by_hand.specs.declared.Job.{Job}
use Rattle.tasks_by_hand.specs.Jobs.{IsReady}
use Rattle.tasks_by_hand.proofs.Turns.{ready_next, may_ask, taken, if_few}
use Rattle.tasks_by_hand.proofs.turn.Goals as goal

pub apply-reply-requires : goal.apply-reply-requires
apply-reply-requires c =
    let k = c.args.keeper.now in
    let j = c.remove-job.result in
    let ready = subst (λ (js : List Job). IsReady k js) (taken c.args.jobs.now.items c.reserve.new.self.items c.remove-job.new.self.items j c.requires.some c.reserve.ensures.items c.remove-job.ensures.value c.remove-job.ensures.items) c.requires.ready in
    may_ask c.may_wait_next.ensures c.may_end_next.ensures k j.task j.inside c.wants-ask.result.0 c.wants-ask.result.1 c.is_history.ensures ready.places ready.fit.0.serves ready.fit.0.owns c.wants-ask.ensures

pub returns : goal.returns
returns c =
    let k = c.args.keeper.now in
    let k' = c.apply-reply.new.self in
    let j = c.remove-job.result in
    let us = c.remove-job.new.self.items in
    let ready = subst (λ (js : List Job). IsReady k js) (taken c.args.jobs.now.items c.reserve.new.self.items us j c.requires.some c.reserve.ensures.items c.remove-job.ensures.value c.remove-job.ensures.items) c.requires.ready in
    let q : Request = record { ticket = j.task; ask = c.wants-ask.result.0; batch = c.open.result; path = c.wants-ask.result.1 } in
    let r = c.apply-reply.result in
    let may = may_ask c.may_wait_next.ensures c.may_end_next.ensures k j.task j.inside c.wants-ask.result.0 c.wants-ask.result.1 c.is_history.ensures ready.places ready.fit.0.serves ready.fit.0.owns c.wants-ask.ensures in
    let left = c.saturating_sub.result in
    if_few _ _ _ _ c.then_some.ensures
    (λ (e : nat_lt c.len.result 1000 ≡ true).
    let count : c.len.result ≡ length k'.entries = c.len.ensures in
    let few_entries : c.len.result < 1000 = ltb-true c.len.result 1000 e in
    let low : length k'.entries + 1 < 2 ^ 31 = omega (arith, few_entries, count) in
    let few = c.numbers_are_left.ensures k'.setup.places k'.entries low in
    let next = ready_next c.calls_go_on.ensures c.calls_keep_others.ensures c.calls_own.ensures c.calls_spare_scopes.ensures c.started_are_new.ensures k k' q r j us refl c.wants-ask.ensures ready c.is_history-2.ensures few may c.apply-reply.ensures left in
    subst (λ (js : List Job). IsReady k' js) (sym c.put.ensures) next)
