use Rattle.std.proofs.Common.{◌<◌, ℕ, List, All, take, arith, sym, subst, ◌+◌}
use Rattle.std.proofs.lemmas.List.Elements.{All-more}
use Rattle.rx_heap.specs.Inside.Longest.{IsBounded}
use Rattle.rx_heap.proofs.Finding.{tightened, none_fits}
use Rattle.rx_heap.proofs.holes.fitting.Goals.{then-n-longest+in-Err, else-n-longest}
use Rattle.rx_heap.proofs.holes.fitting.Goals as goal

pub loop-group-preserved : goal.loop-group-preserved
loop-group-preserved c =
    let hs = c.args.holes.now in
    let g = c.loop-group.group in
    let G : List ℕ → Type 0 = λ z. All (λ most. most < c.args.n) (take (g + 1) z) × All (IsBounded z) hs in
    let e = c.loop-group.auto.longest in
    let lt = c.loop-group-test.true in
    elim c.if-n-longest.branch [
      | then-n-longest+in-Err w ↦
          subst G (sym w.longest-is) (tightened c.loop-group.longest g c.args.n _ hs (omega arith) w.in-Err.ensures.less c.loop-group.invariant.0 c.loop-group.invariant.1 w.in-Err.ensures.longest)
      | else-n-longest w ↦
          subst G (sym w.longest-is) (All-more (λ most. most < c.args.n) c.loop-group.longest g 0 (omega arith) c.loop-group.invariant.0 (let less = w.if-n-longest in omega arith), c.loop-group.invariant.1)
    ]

pub returns-clause-none : goal.returns-clause-none
returns-clause-none c =
    let e = c.loop-group.auto.longest in
    let out = c.loop-group-test.false in
    none_fits c.loop-group.longest c.loop-group.group c.args.n c.args.holes.now c.requires.some (omega arith) c.loop-group.invariant.0 c.loop-group.invariant.1
