use Rattle.std.proofs.Common.{◌≡◌, ◌≤◌, false, Some, ap, sym, ◌∙◌, subst, ◌++◌, [], ◌∷◌, List, ℕ}
use Rattle.rx_rules.proofs.Common.{has_bit, Term, begins, answered, answer_of, receives, vars_after}
use Rattle.rx_control.specs.declared.control.Control.{Control}
use Rattle.rx_control.specs.Stands.{StandsFor}
use Rattle.rx_book.specs.declared.views.View.{View}
use Rattle.rx_book.specs.Passes.{view_of}
use Rattle.rx_book.specs.History.{items_of}
use Rattle.rx_book.specs.declared.passes.Pass.{Pass}
use Rattle.rx_parts.specs.declared.items.EntryItem.{EntryItem}
use Rattle.rx_objects.specs.declared.place.PlaceFixed.{PlaceFixed}
use Rattle.rx_objects.specs.declared.place.PlaceOp.{PlaceOp}
use Rattle.rx_objects.specs.declared.place.PlaceReply.TheVariants.{Cell as Answered}
use Rattle.rx_objects.specs.Laws.{AsksPlace}
use Rattle.rx_activities.specs.declared.hand.Hand.{Hand}
use Rattle.rx_activities.proofs.Calling.{sees_on, fixed_at, fixed_is, op_of, asked_by, looked_knows, asks_place, of_program, of_run, next_in_run, place_small, call_asked, call_path}
use Rattle.rx_activities.proofs.Stored.{stored_knows, answered_parts, came_back, back_of_run, called_so}
use Rattle.rx_activities.proofs.hand.Hand.call_store.Goals as goal

pub stamp_for-requires-clause-small : goal.stamp_for-requires-clause-small
stamp_for-requires-clause-small g c =
    let b = c.checked.ensures in place_small c.args.p.now (g.L.LedgerBook.name c.args.ledger.now) c.args.self.now c.requires.known c.requires.program c.args.op c.requires.next b.0 b.1

pub begin_call-requires : goal.begin_call-requires
begin_call-requires g c =
    let b = c.checked.ensures in
    let t = call_asked c.args.p.now (g.L.LedgerBook.name c.args.ledger.now) c.args.self.now c.requires.known c.requires.program c.args.op c.requires.next c.terms_sink.ensures b.0 b.1 in
    (t.0, t.1, subst (λ (x : Control). StandsFor c.args.p.now.script x t.0) (sym c.as_ref.ensures) t.2, t.3)

pub call-reply-requires-clause-fits : goal.call-reply-requires-clause-fits
call-reply-requires-clause-fits g c = λ h legal before.
    let L = g.L.LedgerBook.name c.args.ledger.now in
    let a : Hand = c.args.self.now in
    let q : Pass EntryItem = c.take_pass-pass.result in
    let b = c.checked.ensures in
    let place = g.P.PlaceBook.name c.args.place_book.now in
    let word = c.take_pass-pass.ensures.own ∙ c.in-Some.ensures.own in
    let on = sees_on (view_of a.pass) (view_of c.stamp_for.new.pass) (view_of q) c.in-Some.ensures.looked c.take_pass-pass.ensures.view in
    let k = asked_by L a c.requires.known c.caller_of.result c.caller_of.ensures in
    let t = call_asked c.args.p.now L a k c.requires.program c.args.op c.requires.next c.terms_sink.ensures b.0 b.1 in
    let paths : (t : Term) (y : List ℕ) → StandsFor c.args.p.now.script c.args.self.now.control.value t → begins t ≡ Some y → (c.in-Ok.path ≡ y) × (c.begin_call.new.batch ≡ c.args.self.now.batch ++ y ∷ []) =
    subst (λ (x : Control). (t : Term) (y : List ℕ) → StandsFor c.args.p.now.script x t → begins t ≡ Some y → (c.in-Ok.path ≡ y) × (c.begin_call.new.batch ≡ c.args.self.now.batch ++ y ∷ [])) c.as_ref.ensures c.in-Ok.ensures in
    let path = call_path c.args.p.now L a k c.requires.program c.args.op c.requires.next c.in-Ok.path (λ u y s e. (paths u y s e).0) in
    let op : PlaceOp = op_of c.caller_of.result.task c.in-Some.stamp c.in-Ok.path c.args.op q in
    let below : c.in-Some.stamp ≤ (view_of q).reach = subst (λ (v : View EntryItem). c.in-Some.stamp ≤ v.reach) (sym c.take_pass-pass.ensures.view) c.in-Some.ensures.below in
    let alive : has_bit (view_of q).dead a.place.0 ≡ false = subst (λ (v : View EntryItem). has_bit v.dead a.place.0 ≡ false) (sym c.take_pass-pass.ensures.view) c.in-Some.ensures.alive in
    let asks = asks_place L a q k word on place.fixed.words c.in-Some.stamp c.in-Ok.path c.args.op c.in-Some.ensures.above below alive t.4
    (next_in_run c.args.p.now L a k c.requires.program c.args.op c.requires.next) path in
    c.place_op_fits.ensures place.fixed _ (view_of a.seat) h op a.seat.own before legal (subst (λ (f : PlaceFixed). AsksPlace f (view_of a.seat) op) (sym (fixed_is L a place c.requires.place)) asks)

-- the pass that came back is of the run
pub returns-in_default-answer : goal.returns-in_default-answer
returns-in_default-answer g c =
    let L = g.L.LedgerBook.name c.args.ledger.now in
    let a : Hand = c.args.self.now in
    let q : Pass EntryItem = c.take_pass-pass.result in
    let place = g.P.PlaceBook.name c.args.place_book.now in
    let called = c.call-reply.ensures.called in
    let on = sees_on (view_of a.pass) (view_of c.stamp_for.new.pass) (view_of q) c.in-Some.ensures.looked c.take_pass-pass.ensures.view in
    let known = looked_knows L a q c.requires.known (c.take_pass-pass.ensures.own ∙ c.in-Some.ensures.own) on in
    let op : PlaceOp = op_of c.caller_of.result.task c.in-Some.stamp c.in-Ok.path c.args.op q in
    back_of_run L place.fixed q c.parts_of-pass.result.0 c.requires.place.ledger
    (came_back place.fixed (items_of ((view_of a.seat).seen ++ called.between)) op c.call-reply.result called.added c.parts_of-pass.result.0 c.parts_of-pass.result.1 called.replied c.parts_of-pass.ensures) known.pass

pub cell_done-requires : goal.cell_done-requires
cell_done-requires g c =
    let b = c.checked.ensures in
    let t = call_asked c.args.p.now (g.L.LedgerBook.name c.args.ledger.now) c.args.self.now c.requires.known c.requires.program c.args.op c.requires.next c.terms_sink.ensures b.0 b.1 in
    (t.0, subst (λ (x : Control). StandsFor c.args.p.now.script x t.0) (sym c.as_mut.ensures.value) t.2)

pub returns-in-Err : goal.returns-in-Err
returns-in-Err g c =
    let L = g.L.LedgerBook.name c.args.ledger.now in
    let a : Hand = c.args.self.now in
    let q : Pass EntryItem = c.take_pass-pass.result in
    let place = g.P.PlaceBook.name c.args.place_book.now in
    let called = c.call-reply.ensures.called in
    let on = sees_on (view_of a.pass) (view_of c.stamp_for.new.pass) (view_of q) c.in-Some.ensures.looked c.take_pass-pass.ensures.view in
    let known = looked_knows L a q c.requires.known (c.take_pass-pass.ensures.own ∙ c.in-Some.ensures.own) on in
    let op : PlaceOp = op_of c.caller_of.result.task c.in-Some.stamp c.in-Ok.path c.args.op q in
    back_of_run L place.fixed q c.parts_of-pass.result.0 c.requires.place.ledger
    (came_back place.fixed (items_of ((view_of a.seat).seen ++ called.between)) op c.call-reply.result called.added c.parts_of-pass.result.0 c.parts_of-pass.result.1 called.replied c.parts_of-pass.ensures) known.pass

pub returns-in-Ok-cell_done : goal.returns-in-Ok-cell_done
returns-in-Ok-cell_done g c =
    let L = g.L.LedgerBook.name c.args.ledger.now in
    let p = c.args.p.now in
    let a : Hand = c.args.self.now in
    let q : Pass EntryItem = c.take_pass-pass.result in
    let b = c.checked.ensures in
    let place = g.P.PlaceBook.name c.args.place_book.now in
    let word = c.take_pass-pass.ensures.own ∙ c.in-Some.ensures.own in
    let on = sees_on (view_of a.pass) (view_of c.stamp_for.new.pass) (view_of q) c.in-Some.ensures.looked c.take_pass-pass.ensures.view in
    let k = asked_by L a c.requires.known c.caller_of.result c.caller_of.ensures in
    let t = call_asked p L a k c.requires.program c.args.op c.requires.next c.terms_sink.ensures b.0 b.1 in
    let paths : (t : Term) (y : List ℕ) → StandsFor c.args.p.now.script c.args.self.now.control.value t → begins t ≡ Some y → (c.in-Ok.path ≡ y) × (c.begin_call.new.batch ≡ c.args.self.now.batch ++ y ∷ []) =
    subst (λ (x : Control). (t : Term) (y : List ℕ) → StandsFor c.args.p.now.script x t → begins t ≡ Some y → (c.in-Ok.path ≡ y) × (c.begin_call.new.batch ≡ c.args.self.now.batch ++ y ∷ [])) c.as_ref.ensures c.in-Ok.ensures in
    let path = call_path p L a k c.requires.program c.args.op c.requires.next c.in-Ok.path (λ u y s e. (paths u y s e).0) in
    let op : PlaceOp = op_of c.caller_of.result.task c.in-Some.stamp c.in-Ok.path c.args.op q in
    let came : Pass EntryItem = c.parts_of-pass.result.0 in
    let reply = answered_parts c.call-reply.result came c.parts_of-pass.result.1 c.in-Some-answer.answer c.parts_of-pass.ensures c.in-Some-answer.is in
    let called = called_so _ place.fixed (fixed_at L a place.fixed.words) (view_of a.seat) (view_of c.call-reply.new.seat) op c.call-reply.result (Answered c.in-Some-answer.answer came) (fixed_is L a place c.requires.place) reply c.call-reply.ensures.called in
    let ok = subst (λ (x : Control). (u : Term) (y : List ℕ) → StandsFor p.script x u → begins u ≡ Some y → StandsFor p.script c.cell_done.new.self (answered (answer_of (receives u) c.in-Some-answer.answer) u) × (c.cell_done.new.self.vars ≡ vars_after (answer_of (receives u) c.in-Some-answer.answer) x.vars)) c.as_mut.ensures.value
    c.in-Ok-cell_done.ensures.ok in
    let begun = paths t.0 t.1 t.2 t.3 in
    stored_knows L a k q word on place.fixed.words c.in-Some.stamp c.in-Ok.path c.args.op c.in-Some.ensures.above _ c.in-Some-answer.answer came c.call-reply.new.seat called c.terms_sink.ensures
    (record a.control { value = c.cell_done.new.self }) c.begin_call.new.batch c.call-reply.ensures.own (next_in_run p L a k c.requires.program c.args.op c.requires.next) path
    (λ u y s e. (let r = ok u y (of_program p L a k c.requires.program c.args.op c.requires.next a.control.value u s) e in (of_run p L a k c.requires.program c.args.op c.requires.next c.cell_done.new.self _ r.0, r.1)))
    (begun.1 ∙ ap (λ (y : List ℕ). a.batch ++ y ∷ []) (sym begun.0))
