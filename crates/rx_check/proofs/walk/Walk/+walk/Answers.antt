use Rattle.std.proofs.Common.{◌≡◌, ℕ, suc, ◌+◌, [], ap, sym, ◌∙◌, subst, arith, Vec, Global, Option, None, option_map, Result}
use Rattle.std.proofs.lemmas.Option.{slice_get_within}
use Rattle.std.proofs.lemmas.Result.{err_from_is_err_and}
use Rattle.rx_rules.proofs.Common.{work}
use Rattle.rx_syntax.specs.declared.nodes.NameId.{NameId}
use Rattle.rx_check.specs.Rules.{Kind, Sight, assigned, inside, learned, sights}
use Rattle.rx_check.specs.Inside.Walk.{Sofar, cap, known_with, noted, sights_run, rule_with, seen_all, seen_as, sofar_of, work_with, KnowsNames}
use Rattle.rx_check.specs.declared.parts.Bodies.{Bodies}
use Rattle.rx_check.specs.declared.parts.Parts.{Parts}
use Rattle.rx_check.proofs.Blocks.{BodiesAre, bodies-are}
use Rattle.rx_check.proofs.Capping.{cap-with}
use Rattle.rx_check.proofs.Going.{Going, knows-same, append-none, extends-trans, going-all, going-bad, going-end, going-next, going-on, knows-more, knows-own, not-deep, numbers, one-more, points, run-bad, run-on, stepped-none}
use Rattle.rx_check.proofs.Statements.{parts-stand}
use Rattle.rx_check.proofs.walk.Walk.+walk.Goals as goal
use Rattle.rx_check.proofs.Causes.{passed}

pub block-items-init : goal.block-items-init
block-items-init t c = (λ u known k b. going-all c.args.script.now c.args.block c.args.depth c.args.self.now u known k b, ([], append-none c.args.self.now.known.items), omega arith)

pub block-block_item-requires-clause-block : goal.block-block_item-requires-clause-block
block-block_item-requires-clause-block t c = let b = c.requires.stands.1 in slice_get_within c.args.script.now.blocks c.args.block.0 b.0 b.1

pub block-stmt-stmt-requires : goal.block-stmt-stmt-requires
block-stmt-stmt-requires t c =
    let s = c.args.script.now in
    let w = c.args.self.now in
    let own = numbers w.known.items in
    let g = c.items.invariant.0 c.requires.stands.0 own (knows-own w.known.items) c.requires.stands.1 in
    let p = points s c.args.block c.items.i c.args.depth c.items.work w c.items.self c.requires.stands.0 own c.block_item.result g c.block_item.ensures in
    slice_get_within s.stmts c.block_item.result.0 p.node p.at

pub block-statement-requires : goal.block-statement-requires
block-statement-requires t c =
    let s = c.args.script.now in
    let w = c.args.self.now in
    let own = numbers w.known.items in
    let g = c.items.invariant.0 c.requires.stands.0 own (knows-own w.known.items) c.requires.stands.1 in
    let n = going-next s c.args.block c.items.i c.args.depth c.items.work w c.items.self c.requires.stands.0 own c.block_item.result c.stmt-stmt.result g c.block_item.ensures c.stmt-stmt.ensures in
    (omega (arith, c.decreases), ((n.first, n.is), c.requires.depth))

pub block-returns-in_err-statement-clause-bad : goal.block-returns-in_err-statement-clause-bad
block-returns-in_err-statement-clause-bad t c rule node h u known k b =
    let s = c.args.script.now in
    let w = c.args.self.now in
    let g = c.items.invariant.0 u known k b in
    let n = going-next s c.args.block c.items.i c.args.depth c.items.work w c.items.self u known c.block_item.result c.stmt-stmt.result g c.block_item.ensures c.stmt-stmt.ensures in
    let p = err_from_is_err_and c.from_residual.result c.from_residual.ensures.1 in
    let f = c.in_err-statement.ensures.bad rule node (passed c.from_residual.result p.0 c.in_err-statement.field-0.0 rule node p.1 p.2 h) n.first n.names n.knows n.is in
    going-bad s c.args.block c.items.i c.args.depth c.items.work w c.items.self u known c.stmt-stmt.result (rule, node) n f

pub block-items-preserved : goal.block-items-preserved
block-items-preserved t c = (
  λ u known k b.
      let s = c.args.script.now in
      let w = c.args.self.now in
      let g = c.items.invariant.0 u known k b in
      let n = going-next s c.args.block c.items.i c.args.depth c.items.work w c.items.self u known c.block_item.result c.stmt-stmt.result g c.block_item.ensures c.stmt-stmt.ensures in
      let o = c.in_ok-statement.ensures.ok n.first n.names n.knows n.is in
      let P : ℕ → Type 0 = λ m. Going s c.args.block (c.items.i + 1) c.args.depth m w c.statement.new.self u known in
      subst P (sym c.capped-work.ensures.cap) (going-on s c.args.block c.items.i c.args.depth c.items.work w c.items.self c.statement.new.self u known c.stmt-stmt.result c.in_ok-statement.field-0 n o.0 o.1 o.2),
  extends-trans c.args.self.now.known.items c.items.self.known.items c.statement.new.self.known.items c.items.invariant.1 c.in_ok-statement.ensures.kept,
  c.capped-work.ensures.small,
)

pub block-returns-clause-ok : goal.block-returns-clause-ok
block-returns-clause-ok t c u known k b =
    let g = c.items.invariant.0 u known k b in
    going-end c.args.script.now c.args.block c.items.i c.args.depth c.items.work c.block_len-i-end.result c.args.self.now c.items.self u known g c.block_len-i-end.ensures (omega (arith, c.items-test.false)) c.items.invariant.2

pub inside-returns-in_err-work-in-One-clause-bad : goal.inside-returns-in_err-work-in-One-clause-bad
inside-returns-in_err-work-in-One-clause-bad t c rule node h u known k b =
    let st = sofar_of c.args.self.now in
    let P : Bodies → Type 0 = λ o. BodiesAre c.args.script.now o c.args.stmt u in
    let y = subst P (sym c.in-One.ensures) (bodies-are c.args.script.now c.args.stmt u b) in
    let p = err_from_is_err_and c.from_residual.result c.from_residual.ensures.1 in
    let f = c.in_err-work-in-One.ensures.bad rule node (passed c.from_residual.result p.0 c.in_err-work-in-One.field-0.0 rule node p.1 p.2 h) y.0 known k y.1 in
    ap (sights_run st) (y.2 known c.args.depth) ∙ (ap (λ d. sights_run st (sights known d y.0)) (sym (one-more c.args.depth)) ∙ f)

pub inside-returns-in_err-first-in-Two-clause-bad : goal.inside-returns-in_err-first-in-Two-clause-bad
inside-returns-in_err-first-in-Two-clause-bad t c rule node h u known k b =
    let st = sofar_of c.args.self.now in
    let P : Bodies → Type 0 = λ o. BodiesAre c.args.script.now o c.args.stmt u in
    let y = subst P (sym c.in-Two.ensures) (bodies-are c.args.script.now c.args.stmt u b) in
    let r = c.from_residual-in_err-first-in-Two in
    let p = err_from_is_err_and r.result r.ensures.1 in
    let f = c.in_err-first-in-Two.ensures.bad rule node (passed r.result p.0 c.in_err-first-in-Two.field-0.0 rule node p.1 p.2 h) y.0 known k y.2 in
    let d : ℕ = c.args.depth in
    ap (sights_run st) (y.4 known d) ∙ run-bad st (sights known (suc d) y.0) (sights known (suc d) y.1) (rule, node) (ap (λ m. sights_run st (sights known m y.0)) (sym (one-more d)) ∙ f)

pub inside-returns-in_err-second-in-Two-clause-bad : goal.inside-returns-in_err-second-in-Two-clause-bad
inside-returns-in_err-second-in-Two-clause-bad t c rule node h u known k b =
    let st = sofar_of c.args.self.now in
    let P : Bodies → Type 0 = λ o. BodiesAre c.args.script.now o c.args.stmt u in
    let y = subst P (sym c.in-Two.ensures) (bodies-are c.args.script.now c.args.stmt u b) in
    let o = c.in_ok-first-in-Two.ensures.ok y.0 known k y.2 in
    let r = c.from_residual-in_err-second-in-Two in
    let p = err_from_is_err_and r.result r.ensures.1 in
    let q = c.in_err-second-in-Two.ensures.bad rule node (passed r.result p.0 c.in_err-second-in-Two.field-0.0 rule node p.1 p.2 h) y.1 known (knows-same c.block-in-Two.new.self.known.items c.args.self.now.known.items known c.in_ok-first-in-Two.ensures.kept k) y.3 in
    let d : ℕ = c.args.depth in
    let e = ap (λ m. sights_run st (sights known m y.0)) (sym (one-more d)) ∙ o.0 in
    let f = ap (λ m. sights_run (sofar_of c.block-in-Two.new.self) (sights known m y.1)) (sym (one-more d)) ∙ q in
    ap (sights_run st) (y.4 known d) ∙ (run-on st (sofar_of c.block-in-Two.new.self) (sights known (suc d) y.0) (sights known (suc d) y.1) e ∙ f)

pub inside-returns-in-No-clause-ok : goal.inside-returns-in-No-clause-ok
inside-returns-in-No-clause-ok t c u known k b =
    let P : Bodies → Type 0 = λ o. BodiesAre c.args.script.now o c.args.stmt u in
    let y = subst P (sym c.in-No.ensures) (bodies-are c.args.script.now c.args.stmt u b) in
    (ap (sights_run (sofar_of c.args.self.now)) (y.0 known c.args.depth), c.total.ensures.total ∙ ap cap (sym y.1))

pub inside-returns-in_ok-work-in-One-clause-ok : goal.inside-returns-in_ok-work-in-One-clause-ok
inside-returns-in_ok-work-in-One-clause-ok t c u known k b =
    let st = sofar_of c.args.self.now in
    let P : Bodies → Type 0 = λ o. BodiesAre c.args.script.now o c.args.stmt u in
    let y = subst P (sym c.in-One.ensures) (bodies-are c.args.script.now c.args.stmt u b) in
    let o = c.in_ok-work-in-One.ensures.ok y.0 known k y.1 in (
      ap (sights_run st) (y.2 known c.args.depth) ∙ (ap (λ d. sights_run st (sights known d y.0)) (sym (one-more c.args.depth)) ∙ o.0),
      c.total-in-One.ensures.total ∙ (ap (λ w. cap (work_with c.args.stmt w 0)) o.1 ∙ (cap-with c.args.stmt (work y.0) 0 ∙ ap cap (sym y.3))),
    )

pub inside-returns-in_ok-second-in-Two-clause-ok : goal.inside-returns-in_ok-second-in-Two-clause-ok
inside-returns-in_ok-second-in-Two-clause-ok t c u known k b =
    let st = sofar_of c.args.self.now in
    let P : Bodies → Type 0 = λ o. BodiesAre c.args.script.now o c.args.stmt u in
    let y = subst P (sym c.in-Two.ensures) (bodies-are c.args.script.now c.args.stmt u b) in
    let o = c.in_ok-first-in-Two.ensures.ok y.0 known k y.2 in
    let q = c.in_ok-second-in-Two.ensures.ok y.1 known (knows-same c.block-in-Two.new.self.known.items c.args.self.now.known.items known c.in_ok-first-in-Two.ensures.kept k) y.3 in
    let d : ℕ = c.args.depth in
    let e = ap (λ m. sights_run st (sights known m y.0)) (sym (one-more d)) ∙ o.0 in
    let f = ap (λ m. sights_run (sofar_of c.block-in-Two.new.self) (sights known m y.1)) (sym (one-more d)) ∙ q.0 in (
      ap (sights_run st) (y.4 known d) ∙ (run-on st (sofar_of c.block-in-Two.new.self) (sights known (suc d) y.0) (sights known (suc d) y.1) e ∙ f),
      c.total-in-Two.ensures.total ∙ (ap (λ w. cap (work_with c.args.stmt w c.in_ok-second-in-Two.second)) o.1 ∙ (ap (λ w. cap (work_with c.args.stmt (cap (work y.0)) w)) q.1 ∙ (cap-with c.args.stmt (work y.0) (work y.1) ∙ ap cap (sym y.5)))),
    )

pub statement-inside-requires : goal.statement-inside-requires
statement-inside-requires t c =
    let w = c.args.self.now in
    let own = numbers w.known.items in
    let u = c.requires.stands.0 in
    let x : Sight = record { stmt = u; depth = c.args.depth; known = own } in
    let r : rule_with (seen_all w.seen.items) x ≡ None = sym (c.in_ok-rule.ensures.rule u own (knows-own w.known.items) c.requires.stands.1) ∙ c.in_default.is in
    (omega (arith, c.decreases, not-deep (seen_all w.seen.items) x r), (c.requires.stands, not-deep (seen_all w.seen.items) x r))

pub statement-returns-in_err-work-clause-bad : goal.statement-returns-in_err-work-clause-bad
statement-returns-in_err-work-clause-bad t c rule node h u known k b =
    let w = c.args.self.now in
    let st = sofar_of w in
    let x : Sight = record { stmt = u; depth = c.args.depth; known = known } in
    let r : rule_with (seen_all w.seen.items) x ≡ None = sym (c.in_ok-rule.ensures.rule u known k b) ∙ c.in_default.is in
    let F : Sofar → Result Sofar (ℕ × ℕ) = λ next. sights_run next (inside known c.args.depth u) in
    let y = parts-stand c.args.script.now c.args.stmt u b in
    let a : option_map seen_as c.split.result.assigned ≡ assigned u = ap (λ (p : Parts). option_map seen_as p.assigned) c.split.ensures ∙ sym y.assigns in
    let n : sofar_of c.note.new.self ≡ noted (assigned u) st = c.in_ok-note.ensures.noted ∙ ap (λ o. noted o st) a in
    let same : c.note.new.self.known.items ≡ w.known.items = ap (λ (v : Vec NameId Global). v.items) c.in_ok-note.ensures.known in
    let p = err_from_is_err_and c.from_residual-in_err-work.result c.from_residual-in_err-work.ensures.1 in
    let f = c.in_err-work.ensures.bad rule node (passed c.from_residual-in_err-work.result p.0 c.in_err-work.field-0.0 rule node p.1 p.2 h) u known (knows-same c.note.new.self.known.items w.known.items known same k) b in
    stepped-none (rule_with (seen_all w.seen.items) x) (assigned u) st F r ∙ (ap F (sym n) ∙ f)

pub statement-returns-clause-ok : goal.statement-returns-clause-ok
statement-returns-clause-ok t c u known k b =
    let w = c.args.self.now in
    let st = sofar_of w in
    let x : Sight = record { stmt = u; depth = c.args.depth; known = known } in
    let r : rule_with (seen_all w.seen.items) x ≡ None = sym (c.in_ok-rule.ensures.rule u known k b) ∙ c.in_default.is in
    let F : Sofar → Result Sofar (ℕ × ℕ) = λ next. sights_run next (inside known c.args.depth u) in
    let y = parts-stand c.args.script.now c.args.stmt u b in
    let a : option_map seen_as c.split.result.assigned ≡ assigned u = ap (λ (p : Parts). option_map seen_as p.assigned) c.split.ensures ∙ sym y.assigns in
    let a2 : option_map seen_as c.split-2.result.assigned ≡ assigned u = ap (λ (p : Parts). option_map seen_as p.assigned) c.split-2.ensures ∙ sym y.assigns in
    let n : sofar_of c.note.new.self ≡ noted (assigned u) st = c.in_ok-note.ensures.noted ∙ ap (λ o. noted o st) a in
    let same : c.note.new.self.known.items ≡ w.known.items = ap (λ (v : Vec NameId Global). v.items) c.in_ok-note.ensures.known in
    let k2 = knows-same c.note.new.self.known.items w.known.items known same k in
    let f = c.in_ok-work.ensures.ok u known k2 b in
    let k3 = knows-same c.inside.new.self.known.items c.note.new.self.known.items known c.in_ok-work.ensures.kept k2 in
    let N : Option (ℕ × Kind) → Type 0 = λ o. KnowsNames (known_with c.split-2.result.assigned c.inside.new.self.known.items) (learned o known) in
    let k4 = subst N a2 (knows-more c.split-2.result.assigned c.inside.new.self.known.items known k3) in (
      stepped-none (rule_with (seen_all w.seen.items) x) (assigned u) st F r ∙ (ap F (sym n) ∙ f.0),
      knows-same c.add_known.new.known.items (known_with c.split-2.result.assigned c.inside.new.self.known.items) (learned (assigned u) known) c.in_ok-add_known.ensures.known k4,
      f.1,
    )
