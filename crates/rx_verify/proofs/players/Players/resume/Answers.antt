use Rattle.std.proofs.Common.{◌≡◌, ℕ, Bool, List, Some, get_or, slice_get, true, refl, ap, sym, subst, ◌∙◌}
use Rattle.std.specs.Global.{Box}
use Rattle.rx_rules.proofs.Common.{ScopeId}
use Rattle.rx_rules.specs.Plays.{Fits}
use Rattle.rx_tree_laws.proofs.Histories.{fold_reached}
use Rattle.rx_verdict.specs.Walks.{next_does}
use Rattle.rx_verify.specs.declared.seat.Seat.{Seat}
use Rattle.rx_verify.specs.declared.players.Slot.{Slot}
use Rattle.rx_verify.specs.declared.players.Slot.TheVariants.{Here}
use Rattle.rx_verify.specs.Reaching.{wanted}
use Rattle.rx_verify.specs.Inside.Requests.{AfterRequest, CountsMore}
use Rattle.rx_verify.proofs.AdmitAsked.{asked, asks_only, at_hand, tells_more}
use Rattle.rx_verify.proofs.AdmitSlots.{same_seat}
use Rattle.rx_verify.proofs.Reaching.{asks_so}
use Rattle.rx_verify.proofs.players.Players.resume.Goals as goal

-- the seat in the box that was found
found : (slots : List Slot) (t : ℕ) (x : Slot) (got was : Box Seat) (v : Seat) → v ≡ got.value → x ≡ get_or slots t x → x ≡ Here got → slice_get slots t ≡ Some (Here was) → v ≡ was.value
found slots t x got was v value at is there = value ∙ ap (λ (b : Box Seat). b.value) (same_seat slots t x got was at is there)

pub newborn-requires-clause-asks : goal.newborn-requires-clause-asks
newborn-requires-clause-asks c =
    let r = c.requires.ready in
    let a = asks_so c.args.p.now.script r.0 r.1 r.2 r.3 c.args.number c.args.self.now c.args.task c.args.act.now r.4 r.5 c.requires.goes in
    let h = a.1 in
    let e = found c.args.self.now.slots.items c.args.task.0 c.index_mut.result.now c.in-Here.seat h.stops.seat c.deref_mut-seat.result.now c.deref_mut-seat.ensures.value c.index_mut.ensures.value c.in-Here.is h.stops.slot in
    let s = at_hand c.args.p.now.script r.0 r.1 r.2 r.3 c.args.number c.args.self.now c.args.task c.args.act.now r.4 a.0 h r.6 c.deref_mut-seat.result.now e (ap (λ (v : Seat). wanted a.0 v.home c.args.act.now) e ∙ a.2) in
    (r.3, h.stops.player, h.stops.left, s.0, s.1)

pub go_on-requires-clause-asks : goal.go_on-requires-clause-asks
go_on-requires-clause-asks c =
    let r = c.requires.ready in
    let a = asks_so c.args.p.now.script r.0 r.1 r.2 r.3 c.args.number c.args.self.now c.args.task c.args.act.now r.4 r.5 c.requires.goes in
    let h = a.1 in
    let e = found c.args.self.now.slots.items c.args.task.0 c.index_mut.result.now c.in-Here.seat h.stops.seat c.deref_mut-seat.result.now c.deref_mut-seat.ensures.value c.index_mut.ensures.value c.in-Here.is h.stops.slot in
    let s = at_hand c.args.p.now.script r.0 r.1 r.2 r.3 c.args.number c.args.self.now c.args.task c.args.act.now r.4 a.0 h r.6 c.deref_mut-seat.result.now e (ap (λ (v : Seat). wanted a.0 v.home c.args.act.now) e ∙ a.2) in
    (r.3, h.stops.player, h.stops.left, s.0, s.1)

pub go_on-requires-clause-counts : goal.go_on-requires-clause-counts
go_on-requires-clause-counts c =
    let r = c.requires.ready in
    let a = asks_so c.args.p.now.script r.0 r.1 r.2 r.3 c.args.number c.args.self.now c.args.task c.args.act.now r.4 r.5 c.requires.goes in
    let h = a.1 in
    let e = found c.args.self.now.slots.items c.args.task.0 c.index_mut.result.now c.in-Here.seat h.stops.seat c.deref_mut-seat.result.now c.deref_mut-seat.ensures.value c.index_mut.ensures.value c.in-Here.is h.stops.slot in
    subst (λ (v : Seat). CountsMore v.control.vars.places c.args.act.now) (sym e)
    (tells_more c.args.p.now.script r.0 r.1 r.2 r.3 c.args.number c.args.self.now c.args.task c.args.act.now r.4 a.0 h r.6 fold_reached c.reached_is_sound.ensures)

pub returns-then-not-branch : goal.returns-then-not-branch
returns-then-not-branch c = λ code U es js batch r f k.
    let shape = c.args.p.now.script in
    let act = c.args.act.now in
    let got = c.deref_mut-seat.result.now in
    let a = asks_so shape code U es js c.args.number c.args.self.now c.args.task act batch r c.requires.goes in
    let h = a.1 in
    let z = h.stops.player in
    let e = found c.args.self.now.slots.items c.args.task.0 c.index_mut.result.now c.in-Here.seat h.stops.seat got c.deref_mut-seat.ensures.value c.index_mut.ensures.value c.in-Here.is h.stops.slot in
    let s = at_hand shape code U es js c.args.number c.args.self.now c.args.task act batch a.0 h f got e (ap (λ (v : Seat). wanted a.0 v.home act) e ∙ a.2) in
    let fits = asks_only shape code U es js c.args.number c.args.self.now c.args.task act batch a.0 h f c.seats_ask.ensures k in
    let missed = subst (λ (b : Bool). AfterRequest shape js c.deref.result.now got c.go_on.new.self c.args.number z h.stops.left act b) c.if-not-branch.true
    (c.in_ok-go_on.ensures js z h.stops.left s.0 s.1) in
    missed (subst (λ (v : Seat). Fits v.home z.term (next_does v.home z) act) (sym e) fits)

pub returns : goal.returns
returns c = λ code U es js batch r f.
    let shape = c.args.p.now.script in
    let act = c.args.act.now in
    let got = c.deref_mut-seat.result.now in
    let a = asks_so shape code U es js c.args.number c.args.self.now c.args.task act batch r c.requires.goes in
    let h = a.1 in
    let z = h.stops.player in
    let e = found c.args.self.now.slots.items c.args.task.0 c.index_mut.result.now c.in-Here.seat h.stops.seat got c.deref_mut-seat.ensures.value c.index_mut.ensures.value c.in-Here.is h.stops.slot in
    let s = at_hand shape code U es js c.args.number c.args.self.now c.args.task act batch a.0 h f got e (ap (λ (v : Seat). wanted a.0 v.home act) e ∙ a.2) in
    let on = subst (λ (b : Bool). AfterRequest shape js c.deref.result.now got c.go_on.new.self c.args.number z h.stops.left act b) c.if-not-branch.false
    (c.in_ok-go_on.ensures js z h.stops.left s.0 s.1) in
    let told = subst (λ (ps : List ScopeId). AfterRequest shape js ps got c.go_on.new.self c.args.number z h.stops.left act true) c.deref.ensures.value on in
    let made = subst (λ (v : Seat). AfterRequest shape js c.args.self.now.parents.items v c.go_on.new.self c.args.number z h.stops.left act true) e told in
    let gone : Box Seat = record c.in-Here.seat { value = c.go_on.new.self } in
    asked shape code U es js c.args.number c.args.self.now c.args.task act batch a.0 h f _ gone c.in_ok-newborn.newborn fold_reached c.seats_ask.ensures
    made.0 made.1 (c.in_ok-newborn.ensures js z h.stops.left s.0 s.1) c.in_ok-note_parent.ensures c.in_ok-add.ensures refl refl
