use Rattle.std.proofs.Common.{rules, arith, true, ◌≡◌, ◌++◌, [], MatchBool, Bool, List, map, drop, length, ap, sym, ◌∙◌, subst, refl}
use Rattle.rx_rules.specs.declared.entries.Entry.{Entry}
use Rattle.rx_history.specs.declared.setup.Setup.{Setup}
use Rattle.atomic_table.specs.Seated.{TableId}
use Rattle.rx_ledger.specs.declared.asks.Reply.TheVariants.{NoMemory}
use Rattle.rx_parts.specs.declared.items.EntryItem.{EntryItem}
use Rattle.rx_parts.specs.Histories.{event_named}
use Rattle.rx_objects.specs.declared.hint.Hint.TheVariants.{Nobody}
use Rattle.rx_objects.specs.declared.ledger.LedgerReply.{LedgerReply}
use Rattle.rx_objects.specs.Mentioned.{items_called, item_for, events_new, entries_in}
use Rattle.rx_objects.specs.Noted.{Notes, NoteSuits, asked_place, with_note}
use Rattle.rx_objects.specs.Ledger.{LedgerView, LedgerKeeps, LedgerDoes, MayBeAsked}
use Rattle.rx_objects.specs.Shown.{board_of, BoardShows}
use Rattle.rx_objects.proofs.Leaving.{new_is, keeps, does, refused}
use Rattle.rx_objects.proofs.Shows.{begins, whole_after}
use Rattle.rx_objects.proofs.ledger.LedgerObjectObject.apply.Goals as goal

pub returns-then-not-keep_note-clause-did : goal.returns-then-not-keep_note-clause-did
returns-then-not-keep_note-clause-did g c =
    let s = c.self.inside in
    let reply : LedgerReply = record { reply = NoMemory c.args.op.request; notes = c.new.result; shown = true; hint = Nobody } in
    subst (λ (v : LedgerView). (x : List EntryItem) × (items_called s.calls ≡ v.entries ++ x) × LedgerDoes (record { program = v.program; setup = v.setup; places = v.places; board = v.board }) v.entries c.args.op reply x) c.self.view_is
    ([], search rules, refused s.program.value s.places.value.items (board_of s.board) s.keeper s.notes.items (items_called s.calls) c.args.op reply c.self.invariant.0 refl c.new.ensures.items)

pub answer-reply-requires : goal.answer-reply-requires
answer-reply-requires g c =
    let s = c.self.inside in
    let fits = c.requires.4 in
    let lines : entries_in (items_called s.calls) ≡ s.keeper.entries = c.self.invariant.0.same in
    let log = ap entries_in (ap (λ (v : LedgerView). v.entries) c.self.view_is ∙ c.requires.3) in
    let setup = ap (λ (v : LedgerView). v.setup) c.self.view_is in
    subst (λ (U : Setup). MayBeAsked U.places s.keeper.entries c.args.op.request) (sym setup)
    (subst (λ (es : List Entry). MayBeAsked c.args.self.now.setup.places es c.args.op.request) (sym log ∙ lines) fits.may)

pub show_new-shown-requires-clause-whole : goal.show_new-shown-requires-clause-whole
show_new-shown-requires-clause-whole g c =
    let s = c.self.inside in
    let count = c.len-before.ensures in
    λ more. whole_after s.keeper c.answer-reply.new.keeper c.args.op.request c.answer-reply.result.0 c.answer-reply.ensures.applied (omega (arith, more, count))

pub show_new-shown-requires-clause-shows : goal.show_new-shown-requires-clause-shows
show_new-shown-requires-clause-shows g c =
    let s = c.self.inside in
    let step = c.answer-reply.ensures in
    (begins s.keeper c.answer-reply.new.keeper step.new c.len-before.result s.late s.board c.len-before.ensures step.entries step.setup c.self.invariant.1).1

pub invariant_of-self-2 : goal.invariant_of-self-2
invariant_of-self-2 g c =
    let s = c.self.inside in
    let op = c.args.op in
    let items = items_called s.calls in
    let places : List TableId = s.places.value.items in
    let step = c.answer-reply.ensures in
    let places_are = ap (λ (v : LedgerView). v.places) c.self.view_is in
    let entries_are = ap (λ (v : LedgerView). v.entries) c.self.view_is ∙ c.requires.3 in
    let suits : NoteSuits places items op.request.ticket (map event_named (events_new op.mentions)) op.note =
    subst (λ (ps : List TableId). NoteSuits ps items op.request.ticket (map event_named (events_new op.mentions)) op.note) (sym places_are)
    (subst (λ (xs : List EntryItem). NoteSuits c.args.self.now.places xs op.request.ticket (map event_named (events_new op.mentions)) op.note) (sym entries_are) c.requires.4.note) in
    let kept : c.keep_note.new.notes.items ≡ with_note s.notes.items c.place_asked-place.result op.note = search rules in
    let noted : c.keep_note.new.notes.items ≡ with_note s.notes.items (asked_place op.request.ticket) op.note = kept ∙ ap (λ p. with_note s.notes.items p op.note) c.place_asked-place.ensures in
    let handed = subst (λ (ns : Notes). MatchBool c.answer-reply.result.1 ((c.hand_out-notes.result.items ≡ ns) × (c.hand_out-notes.new.notes.items ≡ [])) ((c.hand_out-notes.result.items ≡ []) × (c.hand_out-notes.new.notes.items ≡ ns))) noted c.hand_out-notes.ensures in
    let now : items_called c.of.result.value ++ map (item_for op.mentions) (drop (length (items_called c.of.result.value)) c.of-2.result.value.entries) ≡ items ++ map (item_for op.mentions) step.new =
    (λ i. items_called (c.of.ensures i) ++ map (item_for op.mentions) (drop (length (items_called (c.of.ensures i))) (c.of-2.ensures i).entries))
    ∙ ap (λ (es : List Entry). items ++ map (item_for op.mentions) es) (new_is s.program.value places (board_of s.board) s.keeper s.notes.items items op c.answer-reply.result.0 c.answer-reply.result.1 c.answer-reply.new.keeper step c.self.invariant.0 suits) in
    let kept_so = subst (LedgerKeeps places c.answer-reply.new.keeper.entries c.hand_out-notes.new.notes.items) (sym now) (keeps s.program.value places (board_of s.board) s.keeper s.notes.items items op c.answer-reply.result.0 c.answer-reply.result.1 c.answer-reply.new.keeper step c.self.invariant.0 suits c.answer-reply.result.1 refl c.hand_out-notes.result.items c.hand_out-notes.new.notes.items handed) in
    let shows = subst (λ (b : Bool). BoardShows c.answer-reply.new.keeper.setup.places c.answer-reply.new.keeper.entries b c.show_new-shown.new.board) (sym c.is_late-self-inside.ensures) c.show_new-shown.ensures.shows in
    (kept_so, shows)

pub returns-clause-did : goal.returns-clause-did
returns-clause-did g c =
    let s = c.self.inside in
    let op = c.args.op in
    let items = items_called s.calls in
    let places : List TableId = s.places.value.items in
    let step = c.answer-reply.ensures in
    let places_are = ap (λ (v : LedgerView). v.places) c.self.view_is in
    let entries_are = ap (λ (v : LedgerView). v.entries) c.self.view_is ∙ c.requires.3 in
    let suits : NoteSuits places items op.request.ticket (map event_named (events_new op.mentions)) op.note =
    subst (λ (ps : List TableId). NoteSuits ps items op.request.ticket (map event_named (events_new op.mentions)) op.note) (sym places_are)
    (subst (λ (xs : List EntryItem). NoteSuits c.args.self.now.places xs op.request.ticket (map event_named (events_new op.mentions)) op.note) (sym entries_are) c.requires.4.note) in
    let kept : c.keep_note.new.notes.items ≡ with_note s.notes.items c.place_asked-place.result op.note = search rules in
    let noted : c.keep_note.new.notes.items ≡ with_note s.notes.items (asked_place op.request.ticket) op.note = kept ∙ ap (λ p. with_note s.notes.items p op.note) c.place_asked-place.ensures in
    let handed = subst (λ (ns : Notes). MatchBool c.answer-reply.result.1 ((c.hand_out-notes.result.items ≡ ns) × (c.hand_out-notes.new.notes.items ≡ [])) ((c.hand_out-notes.result.items ≡ []) × (c.hand_out-notes.new.notes.items ≡ ns))) noted c.hand_out-notes.ensures in
    let now : items_called c.of.result.value ++ map (item_for op.mentions) (drop (length (items_called c.of.result.value)) c.of-2.result.value.entries) ≡ items ++ map (item_for op.mentions) step.new =
    (λ i. items_called (c.of.ensures i) ++ map (item_for op.mentions) (drop (length (items_called (c.of.ensures i))) (c.of-2.ensures i).entries))
    ∙ ap (λ (es : List Entry). items ++ map (item_for op.mentions) es) (new_is s.program.value places (board_of s.board) s.keeper s.notes.items items op c.answer-reply.result.0 c.answer-reply.result.1 c.answer-reply.new.keeper step c.self.invariant.0 suits) in
    let reply : LedgerReply = record { reply = c.answer-reply.result.0; notes = c.hand_out-notes.result; shown = c.show_new-shown.result; hint = c.hint_of-hint.result } in
    subst
    (λ (v : LedgerView). (x : List EntryItem) × (items_called c.of.result.value ++ map (item_for op.mentions) (drop (length (items_called c.of.result.value)) c.of-2.result.value.entries) ≡ v.entries ++ x) × LedgerDoes (record { program = v.program; setup = v.setup; places = v.places; board = v.board }) v.entries op reply x)
    c.self.view_is (
      map (item_for op.mentions) step.new,
      now,
      does s.program.value places (board_of s.board) s.keeper s.notes.items items op c.answer-reply.result.0 c.answer-reply.result.1 c.answer-reply.new.keeper step c.self.invariant.0 suits reply refl c.hand_out-notes.new.notes.items handed,
    )
