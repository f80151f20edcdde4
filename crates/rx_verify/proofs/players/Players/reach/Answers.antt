use Rattle.std.proofs.Common.{rules, ◌≡◌, ℕ, ◌<◌, ◌≤◌, List, Some, length, take, get_or, slice_get, refl, ap, sym, subst, ◌∙◌}
use Rattle.std.proofs.lemmas.Option.{slice_get_read}
use Rattle.rx_base.proofs.Elements.{empty-from}
use Rattle.rx_rules.proofs.Common.{tree_of}
use Rattle.rx_ledger.specs.TermAsks.{MayAskAct}
use Rattle.rx_history.specs.Events.{events_of}
use Rattle.rx_tree_laws.proofs.Histories.{fold_reached}
use Rattle.rx_verify.specs.declared.players.Slot.{Slot}
use Rattle.rx_verify.specs.declared.seat.Seat.{Seat}
use Rattle.rx_verify.proofs.AdmitPlay.{arrives, over, stays_away, unborn}
use Rattle.rx_verify.proofs.players.Players.reach.Goals as goal

-- the slot that was found
found : (slots : List Slot) (t : ℕ) (x slot : Slot) → t < length slots → x ≡ get_or slots t x → x ≡ slot → slice_get slots t ≡ Some slot
found slots t x slot inside value is = slice_get_read slots (length slots) t x refl inside value ∙ ap (λ (s : Slot). Some s) is

pub returns-then-len-t : goal.returns-then-len-t
returns-then-len-t c = λ code U es a k.
    let past : length c.args.self.now.slots.items ≤ c.args.task.0 = search rules in
    unborn c.args.p.now.script code U es (events_of c.args.journals.now) c.args.number c.args.self.now c.args.task c.args.act.now c.args.batch.now a c.parts_may_follow.ensures fold_reached past k

pub returns-in_default : goal.returns-in_default
returns-in_default c = λ code U es a k.
    let inside : c.args.task.0 < length c.args.self.now.slots.items = search rules in
    stays_away c.args.p.now.script code U es (events_of c.args.journals.now) c.args.number c.args.self.now c.args.task c.args.act.now c.args.batch.now a c.parts_may_follow.ensures c.seats_arrive.ensures c.in-Away.seat
    (found c.args.self.now.slots.items c.args.task.0 _ _ inside c.index.ensures c.in-Away.is) (λ p is none. c.in_default.not-Arrive p is) k

pub returns-then-len-ne0 : goal.returns-then-len-ne0
returns-then-len-ne0 c = λ code U es a k.
    let inside : c.args.task.0 < length c.args.self.now.slots.items = search rules in
    stays_away c.args.p.now.script code U es (events_of c.args.journals.now) c.args.number c.args.self.now c.args.task c.args.act.now c.args.batch.now a c.parts_may_follow.ensures c.seats_arrive.ensures c.in-Away.seat
    (found c.args.self.now.slots.items c.args.task.0 _ _ inside c.index.ensures c.in-Away.is) (λ p is none. c.if-len-ne0.true (c.len-in-Away.ensures ∙ ap length none)) k

pub returns-else-len-ne0 : goal.returns-else-len-ne0
returns-else-len-ne0 c = λ code U es a.
    let inside : c.args.task.0 < length c.args.self.now.slots.items = search rules in
    let e : c.deref.result.now ≡ c.in-Away.seat.value = c.deref.ensures in
    let r = arrives c.args.p.now.script code U es (events_of c.args.journals.now) c.args.number c.args.self.now c.args.task c.args.act.now c.args.batch.now a c.in-Away.seat c.in-Arrive.place
    (found c.args.self.now.slots.items c.args.task.0 _ _ inside c.index.ensures c.in-Away.is) c.in-Arrive.is (empty-from c.args.batch.now (sym c.len-in-Away.ensures ∙ c.if-len-ne0.false)) c.requires.few in (
      ap (λ (v : Seat). v.who.task) e ∙ r.0,
      subst (λ (v : Seat). MayAskAct (tree_of U.places (take c.args.number es)) v.who c.args.act.now) (sym e) r.1,
      r.2,
    )

pub play-requires-clause-here : goal.play-requires-clause-here
play-requires-clause-here c =
    let inside : c.args.task.0 < length c.args.self.now.slots.items = search rules in
    (c.in-Here.field-0, found c.args.self.now.slots.items c.args.task.0 _ _ inside c.index.ensures c.in-Here.is)

pub returns-in-Over : goal.returns-in-Over
returns-in-Over c = λ code U es a k.
    let inside : c.args.task.0 < length c.args.self.now.slots.items = search rules in
    over c.args.p.now.script code U es (events_of c.args.journals.now) c.args.number c.args.self.now c.args.task c.args.act.now c.args.batch.now a c.parts_may_follow.ensures c.seats_refuse.ensures
    (found c.args.self.now.slots.items c.args.task.0 _ _ inside c.index.ensures c.in-Over.is) k
