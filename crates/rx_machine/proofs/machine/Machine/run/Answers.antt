use Rattle.std.proofs.Common.{◌≡◌, ◌+◌, ◌≤◌, ℕ, Ok, ap, ◌∙◌, arith}
use Rattle.rx_rules.proofs.Common.{used_after, start_game}
use Rattle.rx_machine.proofs.Whole.{run-begins, run-goes, run-stops, run-ends, run-picked, picks-left}
use Rattle.rx_machine.proofs.machine.Machine.run.Goals as goal

pub make_turn-requires : goal.make_turn-requires
make_turn-requires g c =
    let w = c.requires.game c.if-self.false in
    let r = c.loop-made.invariant.2 w.0 w.1 w.2 w.3 in
    record { game = (w.0, w.1, r.game, r.holds) }

pub unreachable-requires : goal.unreachable-requires
unreachable-requires g c =
    let w = c.requires.game c.if-self.false in
    let r = c.loop-made.invariant.2 w.0 w.1 w.2 w.3 in
    let few : c.loop-made._made ≤ 400055 = run-stops c.args.p.now.script w.0 w.1 (g.P.Picks.number c.args.picks.now) w.2 c.loop-made.self c.loop-made._made c.loop-made.invariant.0 c.games_come.ensures r in
    omega (arith, few, c.loop-made-test.false)

pub loop-made-init : goal.loop-made-init
loop-made-init g c = (
  0,
  λ j. (let e : j ≡ 0 + j = omega arith in ap (g.P.Picks.number c.args.picks.now) e),
  λ code U G h. run-begins c.args.p.now.script code U (g.P.Picks.number c.args.picks.now) G c.args.self h,
)

pub loop-made-preserved : goal.loop-made-preserved
loop-made-preserved g c =
    let number = g.P.Picks.number in
    let i : ℕ = c.loop-made._made in
    let used : ℕ = c.loop-made.invariant.0 in
    let moved = c.in_ok-make_turn.ensures.moved (ap (λ b. Ok b) c.if-not-branch.false) in (
      used_after moved.0 used,
      picks-left (number c.args.picks.now) (number c.loop-made.picks) (number c.make_turn.new.picks) used moved.0 c.loop-made.invariant.1 moved.2,
      λ code U G h.
          let r = c.loop-made.invariant.2 code U G h in
          let z : used + 0 ≡ used = omega arith in
          run-goes c.args.p.now.script code U (number c.args.picks.now) G c.loop-made.self c.make_turn.new.self i used (number c.loop-made.picks 0) moved.0 c.games_come.ensures r (c.loop-made.invariant.1 0 ∙ ap (number c.args.picks.now) z) (moved.1 code U r.game r.holds),
    )

pub returns-then-not-branch-clause-ran : goal.returns-then-not-branch-clause-ran
returns-then-not-branch-clause-ran g c = λ code U G h.
    let number = g.P.Picks.number in
    let i : ℕ = c.loop-made._made in
    let used : ℕ = c.loop-made.invariant.0 in
    let ended = c.in_ok-make_turn.ensures.ended (ap (λ b. Ok b) c.if-not-branch.true) in
    let r = c.loop-made.invariant.2 code U G h in
    let z : used + 0 ≡ used = omega arith in
    let a = ended code U r.game r.holds in
    let unused = c.in_ok-make_turn.ensures.unused (ap (λ b. Ok b) c.if-not-branch.true) in
    let left : (n : ℕ) → number c.make_turn.new.picks n ≡ number c.args.picks.now (used + n) = λ n. (ap (λ p. number p n) unused ∙ c.loop-made.invariant.1 n) in
    run-ends g.L.FinishLedger.stands c.args.p.now.script code U (number c.args.picks.now) G c.loop-made.self c.make_turn.new.self i used (number c.loop-made.picks 0) (number c.make_turn.new.picks) c.games_come.ensures r (c.loop-made.invariant.1 0 ∙ ap (number c.args.picks.now) z) left a c.into_parts.result (c.into_parts.ensures.finished U a.0 a.2)

pub returns-then-not-branch-clause-picked : goal.returns-then-not-branch-clause-picked
returns-then-not-branch-clause-picked g c = λ code U h.
    run-picked g.L.FinishLedger.stands code U (g.P.Picks.number c.args.picks.now) (g.P.Picks.number c.make_turn.new.picks) c.into_parts.result (returns-then-not-branch-clause-ran g c code U (start_game code U) h)
