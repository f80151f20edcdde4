use Rattle.std.proofs.Common.{◌≡◌, ◌+◌, ◌-◌, ◌<◌, List, length, get_or, remove, set, arith, ap, sym, subst, ◌∙◌}
use Rattle.rx_heap.specs.declared.block.Hole.{Hole}
use Rattle.rx_heap.specs.Inside.HoleEdits.{Cuts}
use Rattle.rx_heap.proofs.Cutting.{cuts_whole, cuts_part}
use Rattle.rx_heap.proofs.holes.cut.Goals as goal

pub returns-then-hole-n-clause-cuts : goal.returns-then-hole-n-clause-cuts
returns-then-hole-n-clause-cuts c =
    let hs = c.args.holes.now.items in
    let within : c.args.i < length hs = omega (arith, c.args.holes.now.ok.0) in
    let h = c.index-hole.result.now in
    let e : h ≡ get_or hs c.args.i h = c.index-hole.ensures in
    let C : Hole → Type 0 = λ z. Cuts hs (remove hs c.args.i) z.start c.args.n in
    let D : List Hole → Type 0 = λ z. Cuts hs z h.start c.args.n in
    let here = subst C (sym e) (cuts_whole hs c.args.i c.args.n h within (sym c.if-hole-n.true ∙ ap (λ (z : Hole). z.len) e)) in
    subst D (sym c.remove.ensures.items) here

pub returns-else-hole-n-clause-cuts : goal.returns-else-hole-n-clause-cuts
returns-else-hole-n-clause-cuts c =
    let hs = c.args.holes.now.items in
    let within : c.args.i < length hs = omega (arith, c.args.holes.now.ok.0) in
    let h = c.index-hole.result.now in
    let e : h ≡ get_or hs c.args.i h = c.index-hole.ensures in
    let g : Hole = record { start = h.start + c.args.n; len = h.len - c.args.n } in
    let C : Hole → Type 0 = λ z. Cuts hs (set hs c.args.i g) z.start c.args.n in
    let starts = ap (λ (z : Hole). z.start) e in
    let lens = ap (λ (z : Hole). z.len) e in
    let fits = c.requires.fits h in
    subst C (sym e) (cuts_part hs c.args.i c.args.n h g within (omega arith) (ap (λ z. z + c.args.n) starts) (ap (λ z. z - c.args.n) lens))
