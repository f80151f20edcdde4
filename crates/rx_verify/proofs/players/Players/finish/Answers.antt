use Rattle.std.proofs.Common.{◌≡◌, ℕ, ◌+◌, length, suc, List, [], drop, Some, slice_get, subst, refl, ap, sym, ◌∙◌, arith}
use Rattle.std.proofs.lemmas.Option.{slice_get_read}
use Rattle.rx_rules.proofs.Common.{Block, Given, moves_from}
use Rattle.rx_rules.specs.declared.entries.Entry.{Entry}
use Rattle.rx_rules.specs.declared.events.PlaceEvent.{PlaceEvent}
use Rattle.rx_syntax.specs.Shape.{Shape}
use Rattle.rx_syntax.specs.Grammar.{AllInRange}
use Rattle.rx_check.proofs.OneTree.{one-tree}
use Rattle.rx_history.specs.Events.{events_of}
use Rattle.rx_verify.specs.declared.players.Players.{Players}
use Rattle.rx_verify.specs.declared.players.Slot.{Slot}
use Rattle.rx_verify.specs.Players.{PlayersStand, none_rests}
use Rattle.rx_control.proofs.SomeWords.{makes-some}
use Rattle.rx_verify.proofs.MarksWalk.{same_size, standing}
use Rattle.rx_verify.proofs.MarksEnd.{StuckBelow, one_stuck, none_stuck, pass_is, marks_made}
use Rattle.rx_verify.proofs.players.Players.finish.Goals as goal
use Rattle.rx_verify.proofs.players.Players.finish.Goals.{in-Here+in_ok-walk, in_default}

-- the players so far
abbrev Kept : Shape → Block → Given → List Entry → List (List PlaceEvent) → ℕ → Players → Type 0
Kept shape code U es js t ps = (now : PlayersStand none_rests shape code U es js (length es) ps) × StuckBelow es (length es) now.seats t

pub loop-t-init : goal.loop-t-init
loop-t-init c = λ code U es script now. (standing c.args.p.now.script code U es (events_of c.args.journals.now) (length es) c.args.self now, λ u z left lt at. absurd (omega (arith, lt)))

pub index-requires : goal.index-requires
index-requires c =
    let q = c.requires in
    let now = (c.loop-t.invariant q.0 q.1 q.2 q.3 q.4).0 in
    let same = same_size c.args.p.now.script q.0 q.1 q.2 (events_of c.args.journals.now) (length q.2) c.args.self c.loop-t.self q.4 now in
    let old = c.args.self.slots.ok.0 in
    let new = c.loop-t.self.slots.ok.0 in
    let end = c.len-t-end.ensures in
    let test = c.loop-t-test.true in
    omega (arith, same, old, new, end, test)

pub walk-requires : goal.walk-requires
walk-requires c =
    let q = c.requires in
    let now = (c.loop-t.invariant q.0 q.1 q.2 q.3 q.4).0 in
    let same = same_size c.args.p.now.script q.0 q.1 q.2 (events_of c.args.journals.now) (length q.2) c.args.self c.loop-t.self q.4 now in
    let old = c.args.self.slots.ok.0 in
    let end = c.len-t-end.ensures in
    let test = c.loop-t-test.true in
    let at : slice_get c.loop-t.self.slots.items c.loop-t.t ≡ Some c.index.result.now = slice_get_read c.loop-t.self.slots.items _ c.loop-t.t _ refl (omega (arith, same, old, end, test)) c.index.ensures in
    (q.0, q.1, q.2, length q.2, c.in-Here.field-0, q.3, now, at ∙ ap (λ (s : Slot). Some s) c.in-Here.is)

pub loop-t-preserved : goal.loop-t-preserved
loop-t-preserved c = λ code U es script first.
    let js = events_of c.args.journals.now in
    let was = c.loop-t.invariant code U es script first in
    let none : moves_from (length es) (drop (length es) es) c.loop-t.t ≡ [] = (c.entries_come.ensures es (length es) c.loop-t.t).1 (omega arith) in
    elim c.match-index.branch [
      | in-Here+in_ok-walk w ↦
          let on = w.in_ok-walk.ensures code U es (length es) script was.0 none in
          let stuck : StuckBelow es (length es) on.0.seats (suc c.loop-t.t) = one_stuck c.args.p.now.script code U es js (length es) c.loop-t.self w.walk.new.self was.0 c.loop-t.t was.1 w.in_ok-walk.field-0 on.0 on.1 on.2 none in
          subst (λ (ps : Players). Kept c.args.p.now.script code U es js (c.loop-t.t + 1) ps) (sym w.self-is) (on.0, λ u z left lt at. stuck u z left (omega (arith, lt)) at)
      | in_default w ↦
          let same = same_size c.args.p.now.script code U es js (length es) c.args.self c.loop-t.self first was.0 in
          let old = c.args.self.slots.ok.0 in
          let end = c.len-t-end.ensures in
          let test = c.loop-t-test.true in
          let at : slice_get c.loop-t.self.slots.items c.loop-t.t ≡ Some c.index.result.now = slice_get_read c.loop-t.self.slots.items _ c.loop-t.t _ refl (omega (arith, same, old, end, test)) c.index.ensures in
          let stuck : StuckBelow es (length es) was.0.seats (suc c.loop-t.t) = none_stuck c.args.p.now.script code U es js (length es) c.loop-t.self c.loop-t.self was.0 c.loop-t.t was.1 c.index.result.now at w.in_default.not-Here in
          subst (λ (ps : Players). Kept c.args.p.now.script code U es js (c.loop-t.t + 1) ps) (sym w.self-is) (was.0, λ u z left lt at. stuck u z left (omega (arith, lt)) at)
    ]

pub returns-clause-shape : goal.returns-clause-shape
returns-clause-shape c =
    let q = c.requires in
    (c.loop-t.invariant q.0 q.1 q.2 q.3 q.4).0.marks.shape

pub returns-clause-tell : goal.returns-clause-tell
returns-clause-tell c = λ code U es script first.
    let js = events_of c.args.journals.now in
    let shape = c.args.p.now.script in
    let was = c.loop-t.invariant code U es script first in
    let same = same_size shape code U es js (length es) c.args.self c.loop-t.self first was.0 in
    let old = c.args.self.slots.ok.0 in
    let end = c.len-t-end.ensures in
    let test = c.loop-t-test.false in
    let stuck : StuckBelow es (length es) was.0.seats (length c.loop-t.self.slots.items) = λ u z left lt at. was.1 u z left (omega (arith, lt, same, old, end, test)) at in
    let w = c.checked.ensures in
    let some = makes-some code (subst (λ (t : Block). AllInRange t) (one-tree shape w.0 code w.1 script) w.2) in
    c.made_marks_tell.ensures code U es js c.loop-t.self.marks some (pass_is shape code U es js c.loop-t.self was.0 stuck c.seats_tell.ensures c.travellers_tell_nothing.ensures)
    (marks_made shape code U es js c.loop-t.self was.0 stuck c.seats_tell.ensures c.travellers_tell_nothing.ensures)
