use Rattle.std.proofs.Common.{◌≡◌, ◌+◌, List, slice_set, length, suc, refl, ap, ◌∙◌, arith}
use Rattle.std.specs.Global.{Box}
use Rattle.std.proofs.lemmas.List.{length-set}
use Rattle.std.proofs.lemmas.Option.{slice_get_within}
use Rattle.rx_rules.specs.declared.tasks.Where.TheVariants.{At}
use Rattle.rx_verify.specs.declared.seat.Seat.{Seat}
use Rattle.rx_verify.specs.declared.players.Slot.{Slot}
use Rattle.rx_verify.specs.declared.players.Slot.TheVariants.{Away, Here, Over}
use Rattle.rx_verify.proofs.AdmitSlots.{set_twice}
use Rattle.rx_verify.proofs.players.Players.land.Goals as goal

pub put_in-requires : goal.put_in-requires
put_in-requires c =
    let r = c.requires.away in
    let slots = c.args.self.now.slots.items in
    let inside = slice_get_within slots c.args.task.0 (Away r.0) r.1 in
    let size : length c.take_seat-taken.new.slots.items ≡ length slots = ap length c.take_seat-taken.ensures.left ∙ length-set slots c.args.task.0 Over in
    omega (arith, inside, size)

pub returns : goal.returns
returns c = λ seat at.
    let slots = c.args.self.now.slots.items in
    let t = c.args.task.0 in
    let next : c.args.number + 1 ≡ suc c.args.number = omega arith in
    let same : c.deref_mut-seat.result.now ≡ seat.value = c.deref_mut-seat.ensures.value ∙ ap (λ (v : Box Seat). v.value) (c.take_seat-taken.ensures.away seat at) in
    let v : Seat = c.deref_mut-seat.result.now in
    let landing : Box Seat = record c.take_seat-taken.result { value = record v { low = c.args.number + 1; who = record v.who { place = At c.args.place } } } in (
      landing,
      refl,
      c.put_in.ensures ∙ (ap (λ (l : List Slot). slice_set l t (Here landing)) c.take_seat-taken.ensures.left ∙ set_twice slots t Over (Here landing)),
      λ j. (let w : Seat = record (same j) { low = next j; who = record (same j).who { place = At c.args.place } } in w),
    )
