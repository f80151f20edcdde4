use Rattle.std.proofs.Common.{rules, ◌≡◌, List, ◌++◌, drop, length, ap, sym, ◌∙◌, subst}
use Rattle.rx_book.specs.declared.views.View.{View}
use Rattle.rx_book.specs.History.{items_of}
use Rattle.rx_book.specs.Kept.{both, Told, grown, settled, unmarked, mark_only}
use Rattle.rx_book.specs.Calls.{Called}
use Rattle.rx_book.specs.Replay.{Replays}
use Rattle.rx_book.proofs.Calls.{at_point, called, lawful, replayed}
use Rattle.rx_book.proofs.History.{gains}
use Rattle.rx_book.proofs.books.Book.run.Goals as goal

pub apply-reply-requires : goal.apply-reply-requires
apply-reply-requires g c =
    let v = c.args.seat.now.me.0 in
    let locked = c.lock-locked.result.0 in
    let fact = c.lock-locked.ensures.fact in
    let p = at_point g.O.Item.Dies.place v locked.mark.me.0 c.requires.plain.1 fact.2 (subst (Told g.O.Item.Dies.place) (ap (λ m. m.0) c.meet.ensures.2) c.tell.ensures.told) in
    let seen = locked.mark.me.0.seen in
    let kept = ap g.O.Object.fixed c.as_mut-object.ensures.value ∙ fact.7 in
    let named = ap (λ b. b.fixed) c.self.view_is in (
      seen,
      v.number,
      subst (λ (f : g.row.O-Fixed.Denot). g.O.Object.legal f seen) (sym kept) fact.5,
      ap g.O.Object.entries c.as_mut-object.ensures.value ∙ fact.4,
      subst (λ (f : g.row.O-Fixed.Denot). g.O.Object.fits f seen v.number c.args.op) (sym (kept ∙ named))
          (c.requires.fits seen (subst (λ (f : g.row.O-Fixed.Denot). g.O.Object.legal f seen) named fact.5) p.begins),
    )

pub record_new-requires-clause-tight : goal.record_new-requires-clause-tight
record_new-requires-clause-tight g c =
    let v = c.args.seat.now.me.0 in
    let m = c.lock-locked.result.0.mark.me.0 in
    let p = at_point g.O.Item.Dies.place v m c.requires.plain.1 c.lock-locked.ensures.fact.2 (subst (Told g.O.Item.Dies.place) (ap (λ m. m.0) c.meet.ensures.2) c.tell.ensures.told) in
    let is : c.tell.new.seat.me.0 ≡ both v m = ap (λ m. m.0) (c.tell.ensures.same.2 ∙ c.meet.ensures.2) in
    rw is (p.reach, p.dead)

pub unlock-requires-clause-fact : goal.unlock-requires-clause-fact
unlock-requires-clause-fact g c =
    let place = g.O.Item.Dies.place in
    let v = c.args.seat.now.me.0 in
    let locked = c.lock-locked.result.0 in
    let m = locked.mark.me.0 in
    let fact = c.lock-locked.ensures.fact in
    let whole = ap g.O.Object.entries c.as_mut-object.ensures.value ∙ fact.4 in
    let kept = ap g.O.Object.fixed c.as_mut-object.ensures.value ∙ fact.7 in
    let before = g.O.Object.entries c.as_mut-object.result.now in
    let after = g.O.Object.entries c.apply-reply.new.self in
    let p = at_point place v m c.requires.plain.1 fact.2 (subst (Told place) (ap (λ m. m.0) c.meet.ensures.2) c.tell.ensures.told) in
    let is : c.tell.new.seat.me.0 ≡ both v m = ap (λ m. m.0) (c.tell.ensures.same.2 ∙ c.meet.ensures.2) in
    let done : settled c.record_new.new.seat.me.0 ≡ grown place (both v m) (drop (length before) after) =
    c.record_new.ensures.grown ∙ (λ i. grown place (is i) (drop (length (g.O.Object.entries (c.of-before.ensures i))) after)) in
    let mark : c.mark_off-mark.result.me.0 ≡ mark_only (grown place (both v m) (drop (length before) after)) = ap (λ m. m.0) c.mark_off-mark.ensures.mark.1 ∙ ap mark_only done in
    let named = ap (λ b. b.fixed) c.self.view_is in
    let f = g.O.Object.fixed c.self.inside.lock.key.value.object.value in
    let fit = subst (λ (f : g.row.O-Fixed.Denot). g.O.Object.fits f m.seen v.number c.args.op) (sym named) (c.requires.fits m.seen (subst (λ (f : g.row.O-Fixed.Denot). g.O.Object.legal f m.seen) named fact.5) p.begins) in
    let more : (new : List g.row.O-Item.Denot) × (after ≡ before ++ new) × g.O.Object.step f before c.args.op c.apply-reply.result new = subst (λ (f : g.row.O-Fixed.Denot). (new : List g.row.O-Item.Denot) × (after ≡ before ++ new) × g.O.Object.step f before c.args.op c.apply-reply.result new) kept c.apply-reply.ensures.did in
    let law = lawful place (g.O.Object.step f) (g.O.Object.legal f) (g.O.Object.fits f) (c.stays.ensures f) v m p c.args.op c.apply-reply.result before after whole more fact.5 fit in
    let again = replayed place (g.O.Object.step f) (g.O.Object.legal f) v m p c.args.op c.apply-reply.result before after whole more fact.6 in
    let all = gains place v.number (both v m).seen before after (whole ∙ ap items_of (sym p.seen)) (more.0, more.1) in (
      search rules,
      ap (λ m. m.1) c.mark_off-mark.ensures.mark.1,
      ap (λ m. m.marked) mark ∙ p.marked,
      ap (λ m. m.numbered) mark,
      sym all.0 ∙ ap (λ m. items_of m.seen) (sym mark),
      subst (λ (m : View g.row.O-Item.Denot). g.O.Object.legal f m.seen) (sym mark) law,
      subst (λ (m : View g.row.O-Item.Denot). Replays (g.O.Object.step f) m.seen) (sym mark) again,
      c.apply-reply.ensures.fixed ∙ kept,
    )

pub returns-clause-called : goal.returns-clause-called
returns-clause-called g c =
    let place = g.O.Item.Dies.place in
    let v = c.args.seat.now.me.0 in
    let locked = c.lock-locked.result.0 in
    let m = locked.mark.me.0 in
    let fact = c.lock-locked.ensures.fact in
    let whole = ap g.O.Object.entries c.as_mut-object.ensures.value ∙ fact.4 in
    let kept = ap g.O.Object.fixed c.as_mut-object.ensures.value ∙ fact.7 in
    let before = g.O.Object.entries c.as_mut-object.result.now in
    let after = g.O.Object.entries c.apply-reply.new.self in
    let p = at_point place v m c.requires.plain.1 fact.2 (subst (Told place) (ap (λ m. m.0) c.meet.ensures.2) c.tell.ensures.told) in
    let is : c.tell.new.seat.me.0 ≡ both v m = ap (λ m. m.0) (c.tell.ensures.same.2 ∙ c.meet.ensures.2) in
    let done : settled c.record_new.new.seat.me.0 ≡ grown place (both v m) (drop (length before) after) =
    c.record_new.ensures.grown ∙ (λ i. grown place (is i) (drop (length (g.O.Object.entries (c.of-before.ensures i))) after)) in
    let last : c.mark_off-mark.new.seat.me.0 ≡ unmarked (grown place (both v m) (drop (length before) after)) = ap (λ m. m.0) c.mark_off-mark.ensures.same.2 ∙ ap unmarked done in
    let named = ap (λ b. b.fixed) c.self.view_is in
    let f = c.args.self.now.fixed in
    let was = subst (λ (f : g.row.O-Fixed.Denot). g.O.Object.legal f m.seen) named fact.5 in
    let made = subst (λ (f : g.row.O-Fixed.Denot). Replays (g.O.Object.step f) m.seen) named fact.6 in
    let more : (new : List g.row.O-Item.Denot) × (after ≡ before ++ new) × g.O.Object.step f before c.args.op c.apply-reply.result new = subst (λ (f : g.row.O-Fixed.Denot). (new : List g.row.O-Item.Denot) × (after ≡ before ++ new) × g.O.Object.step f before c.args.op c.apply-reply.result new) (kept ∙ named) c.apply-reply.ensures.did in
    let law = lawful place (g.O.Object.step f) (g.O.Object.legal f) (g.O.Object.fits f) (c.stays.ensures f) v m p c.args.op c.apply-reply.result before after whole more was (c.requires.fits m.seen was p.begins) in
    let again = replayed place (g.O.Object.step f) (g.O.Object.legal f) v m p c.args.op c.apply-reply.result before after whole more made in
    subst (λ (w : View g.row.O-Item.Denot). Called place (g.O.Object.step f) (g.O.Object.legal f) v c.args.op c.apply-reply.result w) (sym last)
    (called place (g.O.Object.step f) (g.O.Object.legal f) v m p c.args.op c.apply-reply.result before after whole more law again)
