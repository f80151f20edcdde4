use Rattle.std.proofs.Common.{◌≡◌, ℕ, ◌<◌, ◌≤◌, length, suc, List, Some, get_or, slice_get, subst, refl, ap, sym, ◌∙◌}
use Rattle.std.specs.Global.{Box}
use Rattle.std.proofs.lemmas.Option.{slice_get_within, slice_get_read}
use Rattle.rx_rules.proofs.Common.{PlaceId, journal_at}
use Rattle.rx_finish.specs.declared.ledger.Caller.{Caller}
use Rattle.rx_history.specs.Events.{events_of}
use Rattle.rx_verify.specs.declared.players.Slot.{Slot}
use Rattle.rx_verify.specs.declared.players.Slot.TheVariants.{Here}
use Rattle.rx_verify.specs.declared.seat.Seat.{Seat}
use Rattle.rx_verify.specs.Events.{IsFirst}
use Rattle.rx_verify.specs.Marked.{MarksUsed}
use Rattle.rx_verify.specs.Stood.{Stood}
use Rattle.rx_verify.specs.Inside.Steps.{AfterWalk}
use Rattle.rx_verify.proofs.MarksWalk.{sits, numbered, onward, walked}
use Rattle.rx_verify.proofs.players.Players.walk.Goals as goal

-- the seat that was found
found : (slots : List Slot) (t : ℕ) (x : Slot) (seat was : Box Seat) → x ≡ get_or slots t x → x ≡ Here seat → slice_get slots t ≡ Some (Here was) → slice_get slots t ≡ Some (Here seat)
found slots t x seat was value is at = slice_get_read slots (length slots) t x refl (slice_get_within slots t (Here was) at) value ∙ ap (λ (s : Slot). Some s) is

pub advance-requires : goal.advance-requires
advance-requires c =
    let q = c.requires in
    let e = c.deref_mut-seat.ensures.value in
    let at = found c.args.self.now.slots.items c.args.t c.index_mut.result.now c.in-Here.seat q.4 c.index_mut.ensures.value c.in-Here.is q.7 in
    let s = sits c.args.p.now.script q.0 q.1 q.2 (events_of c.args.journals.now) q.3 c.args.self.now q.6 c.args.t c.in-Here.seat at in
    let few = numbered c.args.p.now.script q.0 q.1 q.2 (events_of c.args.journals.now) q.3 c.args.self.now q.6 c.args.t c.in-Here.seat at in
    let within = subst (λ (v : Seat). v.who.task.0 < suc (length q.2)) (sym e) few in
    let stood = subst (λ (v : Seat). Stood c.args.p.now.script (events_of c.args.journals.now) v s.player s.left) (sym e) s.is.stood in
    (suc (length q.2), q.6.table, within, s.player, s.left, stood)

pub mark_used-requires : goal.mark_used-requires
mark_used-requires c =
    let q = c.requires in
    let js = events_of c.args.journals.now in
    let shape = c.args.p.now.script in
    let seat = c.in-Here.seat in
    let e = c.deref_mut-seat.ensures.value in
    let new : Box Seat = record seat { value = c.advance.new.self } in
    let at = found c.args.self.now.slots.items c.args.t c.index_mut.result.now seat q.4 c.index_mut.ensures.value c.in-Here.is q.7 in
    let s = sits shape q.0 q.1 q.2 js q.3 c.args.self.now q.6 c.args.t seat at in
    let few = numbered shape q.0 q.1 q.2 js q.3 c.args.self.now q.6 c.args.t seat at in
    let within = subst (λ (v : Seat). v.who.task.0 < suc (length q.2)) (sym e) few in
    let stood = subst (λ (v : Seat). Stood shape js v s.player s.left) (sym e) s.is.stood in
    let w : AfterWalk shape js seat.value new.value c.args.along.now c.advance.new.along s.player s.left c.in_ok-stop.stop =
    subst (λ (v : Seat). AfterWalk shape js v new.value c.args.along.now c.advance.new.along s.player s.left c.in_ok-stop.stop) e (c.in_ok-stop.ensures (suc (length q.2)) q.6.table within s.player s.left stood) in
    let begins : IsFirst new.value.who.task.0 (journal_at js new.value.home.0) seat.value.position seat.value.position =
    subst (λ (n : Caller). IsFirst n.task.0 (journal_at js new.value.home.0) seat.value.position seat.value.position) (sym w.2.who)
    (subst (λ (h : PlaceId). IsFirst seat.value.who.task.0 (journal_at js h.0) seat.value.position seat.value.position) (sym w.2.home) s.is.stood.first) in
    record {
      shape = q.6.marks.shape;
      table = (suc (length q.2), q.6.table, subst (λ (n : Caller). n.task.0 < suc (length q.2)) (sym w.2.who) few);
      begins = subst (λ (v : Seat). IsFirst new.value.who.task.0 (journal_at js new.value.home.0) v.position v.position) (sym e) begins;
      ends = w.2.stood.first;
      onward = subst (λ (v : Seat). v.position ≤ new.value.position) (sym e) (onward shape q.0 q.1 q.2 js q.3 c.args.t seat new s.player w.0 s.left w.1 s.is w.2);
    }

pub returns : goal.returns
returns c = λ code U es i script before next.
    let q = c.requires in
    let js = events_of c.args.journals.now in
    let shape = c.args.p.now.script in
    let seat = c.in-Here.seat in
    let e = c.deref_mut-seat.ensures.value in
    let new : Box Seat = record seat { value = c.advance.new.self } in
    let at = found c.args.self.now.slots.items c.args.t c.index_mut.result.now seat q.4 c.index_mut.ensures.value c.in-Here.is q.7 in
    let s = sits shape code U es js i c.args.self.now before c.args.t seat at in
    let few = numbered shape code U es js i c.args.self.now before c.args.t seat at in
    let within = subst (λ (v : Seat). v.who.task.0 < suc (length es)) (sym e) few in
    let stood = subst (λ (v : Seat). Stood shape js v s.player s.left) (sym e) s.is.stood in
    let w : AfterWalk shape js seat.value new.value c.args.along.now c.advance.new.along s.player s.left c.in_ok-stop.stop =
    subst (λ (v : Seat). AfterWalk shape js v new.value c.args.along.now c.advance.new.along s.player s.left c.in_ok-stop.stop) e (c.in_ok-stop.ensures (suc (length es)) before.table within s.player s.left stood) in
    let used = subst (λ (v : Seat). MarksUsed js c.args.self.now.marks c.mark_used.new.marks new.value.home.0 new.value.who.task.0 v.position new.value.position new.value.low c.args.last) e c.mark_used.ensures in
    walked shape code U es js i c.args.self.now _ before c.args.t seat new c.args.last at c.seats_tell.ensures c.seats_walk.ensures w.0 w.1 w.2 refl refl refl used next c.in_ok-stop.stop c.args.along.now c.advance.new.along w.3 w.4
