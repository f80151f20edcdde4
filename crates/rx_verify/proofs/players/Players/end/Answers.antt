use Rattle.std.proofs.Common.{◌≡◌, ℕ, ◌<◌, List, refl, ap, sym, subst, ◌∙◌}
use Rattle.std.specs.Global.{Box}
use Rattle.std.proofs.lemmas.Bool.{true≢false}
use Rattle.std.proofs.lemmas.List.{length-set}
use Rattle.std.proofs.lemmas.Option.{slice_get_within}
use Rattle.rx_rules.proofs.Common.{Fault}
use Rattle.rx_rules.specs.declared.entries.Act.TheVariants.{End}
use Rattle.rx_tree_laws.proofs.Histories.{fold_reached}
use Rattle.rx_verify.specs.declared.players.Slot.TheVariants.{Here, Over}
use Rattle.rx_verify.specs.declared.seat.Seat.{Seat}
use Rattle.rx_verify.proofs.AdmitPlayers.{carries, ended, ends_only, ends_with}
use Rattle.rx_verify.proofs.AdmitSlots.{same_seat, set_twice}
use Rattle.rx_verify.proofs.Reaching.{ends_so}
use Rattle.rx_verify.proofs.players.Players.end.Goals as goal

pub put_in-requires : goal.put_in-requires
put_in-requires c =
    let h = c.requires.here in
    subst (λ (n : ℕ). c.args.task.0 < n) (sym (length-set c.args.self.now.slots.items c.args.task.0 _))
    (slice_get_within c.args.self.now.slots.items c.args.task.0 (Here h.0) h.1)

pub returns-then-not-same_faults : goal.returns-then-not-same_faults
returns-then-not-same_faults c = λ shape i code U es js batch r f k.
    let h = ends_so shape code U es js i c.args.self.now c.args.task c.args.thrown.now batch r in
    let act = End c.args.thrown.now in
    let e = c.deref_mut-seat.ensures.value ∙ ap (λ (v : Box Seat). v.value) (same_seat c.args.self.now.slots.items c.args.task.0 c.index_mut.result.now c.in-Here.seat h.stops.seat c.index_mut.ensures.value c.in-Here.is h.stops.slot) in
    let with_it = ends_with shape code U es js i c.args.self.now c.args.task act batch h in
    let carry = carries shape code U es js i c.args.self.now c.args.task act batch h c.deref_mut-seat.result.now e in
    let list = c.take_faults.ensures.list shape h.stops.player.term h.stops.seat.value.home with_it.0 carry.0 carry.1 in
    let both : End c.args.thrown.now ≡ End with_it.0 = ends_only shape code U es js i c.args.self.now c.args.task act batch h c.seats_end.ensures f k in
    let g : c.args.thrown.now ≡ with_it.0 = cc both in
    true≢false (sym (c.same_faults-2.ensures.1 (list ∙ sym g)) ∙ c.if-not-same_faults.true)

pub returns : goal.returns
returns c = λ shape i code U es js batch r f.
    let h = ends_so shape code U es js i c.args.self.now c.args.task c.args.thrown.now batch r in
    let act = End c.args.thrown.now in
    let e = c.deref_mut-seat.ensures.value ∙ ap (λ (v : Box Seat). v.value) (same_seat c.args.self.now.slots.items c.args.task.0 c.index_mut.result.now c.in-Here.seat h.stops.seat c.index_mut.ensures.value c.in-Here.is h.stops.slot) in
    let with_it = ends_with shape code U es js i c.args.self.now c.args.task act batch h in
    let carry = carries shape code U es js i c.args.self.now c.args.task act batch h c.deref_mut-seat.result.now e in
    let list = c.take_faults.ensures.list shape h.stops.player.term h.stops.seat.value.home with_it.0 carry.0 carry.1 in
    let faults = c.same_faults-2.ensures.0 c.if-not-same_faults.false in
    ended shape code U es js i c.args.self.now c.args.task act batch h fold_reached _ f c.seats_tell.ensures c.seats_end.ensures
    (ap (λ (v : List Fault). End v) (sym faults ∙ list)) refl
    (c.put_in.ensures ∙ set_twice c.args.self.now.slots.items c.args.task.0 _ Over) refl refl
