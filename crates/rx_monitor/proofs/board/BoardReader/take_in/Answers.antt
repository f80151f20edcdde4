use Rattle.std.proofs.Common.{◌≤◌, ◌≡◌, length, ap, sym, ◌∙◌, subst, arith}
use mathlib.Core.List.{IsPrefix}
use Rattle.rx_monitor.specs.Boards.{longer}
use Rattle.rx_monitor.proofs.Beginnings.{longer-second}
use Rattle.rx_monitor.proofs.Holds.{reads_met, ends_second}
use Rattle.rx_monitor.proofs.board.BoardReader.take_in.Goals as goal

pub invariant_of-self : goal.invariant_of-self
invariant_of-self c =
    let out = c.meet.ensures in
    let v = c.self.inside.seat.me.0.seen in
    let n = c.args.note.me.0.seen in
    let more = c.if-count-self.true in
    let le : length v ≤ length n = omega (arith, c.self.invariant.2, c.requires.last.1) in
    let now : c.meet.new.seat.me.0.seen ≡ longer v n = ap (λ m. m.0.seen) out.met in
    let p : IsPrefix n (longer v n) = subst (IsPrefix n) now out.begins.1 in
    let e = ends_second v n c.args.last p le c.requires.last.0 in (
      reads_met _ _ c.self.inside.seat c.meet.new.seat c.args.note.me.0 c.self.inside.reader c.self.invariant.0 out.same out.met,
      (e.0, now ∙ e.1),
      c.requires.last.1 ∙ ap length (sym (now ∙ longer-second v n p le)),
    )
