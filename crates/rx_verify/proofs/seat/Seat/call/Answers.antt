use Rattle.std.proofs.Common.{rules, ◌≡◌, ℕ, suc, ◌<◌, ◌≤◌, List, [], length, slice_get, Some, refl, ap, sym, ◌∙◌}
use Rattle.std.proofs.lemmas.Bool.{true≢false}
use Rattle.std.proofs.lemmas.Option.{same_Some}
use Rattle.rx_rules.specs.declared.events.PlaceEvent.{PlaceEvent}
use Rattle.rx_rules.proofs.Common.{journal_at}
use Rattle.rx_history.specs.Events.{events_of}
use Rattle.rx_verify.proofs.Following.{none_past}
use Rattle.rx_verify.proofs.Rows.{first_again, no_task_there}
use Rattle.rx_verify.proofs.Walking.{no_walk, is_store_call, none_halts, other_halts, path_halts, left_out, left_is, journal_here, is_here, event_left, walked_store}
use Rattle.rx_verify.proofs.seat.Seat.call.Goals as goal

pub returns-then-len-place : goal.returns-then-len-place
returns-then-len-place c = λ tasks is lt z left s e.
    let out : length c.args.journals.now.journals ≤ c.args.self.now.home.0 = search rules in (
      no_walk c.args.p.now.script (events_of c.args.journals.now) c.args.self.now z left s,
      none_halts c.args.self.now.home z left (left_out c.args.p.now.script c.args.journals.now c.args.self.now z left s out),
      λ batch g. g,
    )

pub returns-then-len-at : goal.returns-then-len-at
returns-then-len-at c = λ tasks is lt z left s e.
    let seat = c.args.self.now in
    let over : length c.item-journal.result.now.events ≤ seat.position = search rules in
    let none = none_past seat.who.task.0 c.item-journal.result.now.events seat.position over in (
      no_walk c.args.p.now.script (events_of c.args.journals.now) seat z left s,
      none_halts seat.home z left (left_is c.args.p.now.script c.args.journals.now seat z left [] c.item-journal.result.now s c.item-journal.ensures none),
      λ batch g. g,
    )

pub unreachable-requires : goal.unreachable-requires
unreachable-requires c =
    let r = c.requires in
    let seat = c.args.self.now in
    let journal = c.item-journal.result.now in
    let js = events_of c.args.journals.now in
    let within : seat.position < length journal.events = search rules in
    let mine = is_here c.args.p.now.script c.args.journals.now seat r.3 r.4 journal r.5 c.item-journal.ensures within in
    let same = journal_here c.args.journals.now.journals seat.home.0 journal c.item-journal.ensures in
    no_task_there (journal_at js seat.home.0) seat.position seat.who.task.0 c.in-Close.stamp c.item.result.now
    (ap (λ (l : List PlaceEvent). slice_get l seat.position) same ∙ c.item.ensures) c.in-Close.is mine

pub returns-then-not-answers : goal.returns-then-not-answers
returns-then-not-answers c = λ tasks is lt z left s e.
    let seat = c.args.self.now in
    let shape = c.args.p.now.script in
    let event = event_left shape c.args.journals.now seat z left c.item-journal.result.now c.item.result.now c.in-Done.task c.in-Done.stamp c.in-Done.cell c.in-Done.path s c.item-journal.ensures c.item.ensures c.in-Done.is in (
      no_walk shape (events_of c.args.journals.now) seat z left s,
      other_halts seat.home z left _ c.args.op c.in-Done.stamp c.in-Done.cell c.in-Done.path e event (sym c.answers.ensures ∙ c.if-not-answers.true),
      λ batch g. g,
    )

pub returns-then-not-begins : goal.returns-then-not-begins
returns-then-not-begins c = λ tasks is lt z left s e.
    let seat = c.args.self.now in
    let shape = c.args.p.now.script in
    let event = event_left shape c.args.journals.now seat z left c.item-journal.result.now c.item.result.now c.in-Done.task c.in-Done.stamp c.in-Done.cell c.in-Done.path s c.item-journal.ensures c.item.ensures c.in-Done.is in
    let call = is_store_call seat.home z c.args.op c.terms_sink.ensures e in (
      no_walk shape (events_of c.args.journals.now) seat z left s,
      path_halts seat.home z left _ c.in-Done.stamp c.in-Done.cell call.begins.0 c.in-Done.path call.begins.1 event
          (λ q. true≢false (sym ((c.begins.ensures z.term s.term).1 (call.begins.1 ∙ ap (λ (w : List ℕ). Some w) q)) ∙ c.if-not-begins.true)),
      λ batch g. g,
    )

pub returns : goal.returns
returns c = λ tasks is lt z left s e.
    let seat = c.args.self.now in
    let shape = c.args.p.now.script in
    let js = events_of c.args.journals.now in
    let journal = c.item-journal.result.now in
    let event = event_left shape c.args.journals.now seat z left journal c.item.result.now c.in-Done.task c.in-Done.stamp c.in-Done.cell c.in-Done.path s c.item-journal.ensures c.item.ensures c.in-Done.is in
    let call = is_store_call seat.home z c.args.op c.terms_sink.ensures e in
    let begun : call.begins.0 ≡ c.in-Done.path = same_Some _ _ (sym call.begins.1 ∙ (c.begins.ensures z.term s.term).0 c.if-not-begins.false) in
    let done = c.in_ok-cell_done-in-Done.ensures.ok z.term call.begins.0 s.term call.begins.1 in
    let within : seat.position < length journal.events = search rules in
    let mine = is_here shape c.args.journals.now seat z left journal s c.item-journal.ensures within in
    let next = c.after-self.ensures js tasks seat.who.task.0 mine.0 mine.1 mine.2 is lt mine.3 in
    walked_store shape js seat _ c.args.along.now _ z left _ c.args.op call.begins.0 c.in-Done.path c.in-Done.stamp c.in-Done.cell c.told.result c.terms_sink.ensures s e call.begins.1 event
    begun c.told.ensures done.0 done.1
    c.tell.ensures refl refl refl next.same
    (first_again seat.who.task.0 (journal_at js seat.home.0) (suc seat.position) c.after-self.result next)
