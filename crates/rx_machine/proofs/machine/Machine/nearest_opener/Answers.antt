use Rattle.std.proofs.Common.{arith, ◌≡◌, ◌<◌, true, false, length, Some, ap, ◌∙◌, sym}
use Rattle.rx_rules.proofs.Common.{TaskId, ScopeId, tree_in}
use Rattle.rx_tree_laws.specs.Enabling.{is_left}
use Rattle.rx_machine.proofs.Walking.{step_at, left_seen, found_left, goes_on, none_above_root}
use Rattle.rx_machine.proofs.machine.Machine.nearest_opener.Goals as goal

pub index-requires : goal.index-requires
index-requires g c =
    let w = c.requires.game in
    let m = c.args.self.now in
    let k = step_at w.4 c.games_come.ensures c.walk_goes_up.ensures c.notes_tell.ensures c.args.under c.scopes.scope c.note-note.result.opener c.note-note.result.parent (c.scopes.invariant w.0 w.1 w.2 w.3 w.4 w.5) c.scopes-test.true c.note-note.ensures.opener c.note-note.ensures.parent in
    let low = k.up.is_task in
    let same = ap (λ (v : TaskId). v.0) k.opener_is in
    let slots = w.4.holds.shares.slots in
    omega (arith, low, same, slots, m.seats.ok.0)

pub returns-then-is_some-clause-inside : goal.returns-then-is_some-clause-inside
returns-then-is_some-clause-inside g c =
    let w = c.requires.game in
    let k = step_at w.4 c.games_come.ensures c.walk_goes_up.ensures c.notes_tell.ensures c.args.under c.scopes.scope c.note-note.result.opener c.note-note.result.parent (c.scopes.invariant w.0 w.1 w.2 w.3 w.4 w.5) c.scopes-test.true c.note-note.ensures.opener c.note-note.ensures.parent in
    let low = k.up.is_task in
    let same = ap (λ (v : TaskId). v.0) k.opener_is in
    let slots = w.4.holds.shares.slots in
    omega (arith, low, same, slots)

pub returns-then-is_some-clause-nearest : goal.returns-then-is_some-clause-nearest
returns-then-is_some-clause-nearest g c = λ shape code U G h leads.
    let T = tree_in U G in
    let m = c.args.self.now in
    let k = step_at h c.games_come.ensures c.walk_goes_up.ensures c.notes_tell.ensures c.args.under c.scopes.scope c.note-note.result.opener c.note-note.result.parent (c.scopes.invariant shape code U G h leads) c.scopes-test.true c.note-note.ensures.opener c.note-note.ensures.parent in
    let low = k.up.is_task in
    let same = ap (λ (v : TaskId). v.0) k.opener_is in
    let slots = h.holds.shares.slots in
    let inside : c.note-note.result.opener.0 < length m.seats.items = omega (arith, low, same, slots) in
    let left : is_left T (Some c.note-note.result.opener) ≡ true = left_seen shape G.entries T G.players m.seats.items c.note-note.result.opener.0 c.index.result.now h.holds.seats inside c.index.ensures ∙ (sym c.is_some.ensures ∙ c.if-is_some.true) in
    found_left T c.args.under c.scopes.scope c.note-note.result.opener k.way k.up k.opener_is left

pub scopes-smaller : goal.scopes-smaller
scopes-smaller g c =
    let w = c.requires.game in
    let k = step_at w.4 c.games_come.ensures c.walk_goes_up.ensures c.notes_tell.ensures c.args.under c.scopes.scope c.note-note.result.opener c.note-note.result.parent (c.scopes.invariant w.0 w.1 w.2 w.3 w.4 w.5) c.scopes-test.true c.note-note.ensures.opener c.note-note.ensures.parent in
    let low = k.up.older in
    let same = ap (λ (v : ScopeId). v.0) k.parent_is in
    omega (arith, low, same)

pub scopes-preserved : goal.scopes-preserved
scopes-preserved g c = λ shape code U G h leads.
    let T = tree_in U G in
    let m = c.args.self.now in
    let k = step_at h c.games_come.ensures c.walk_goes_up.ensures c.notes_tell.ensures c.args.under c.scopes.scope c.note-note.result.opener c.note-note.result.parent (c.scopes.invariant shape code U G h leads) c.scopes-test.true c.note-note.ensures.opener c.note-note.ensures.parent in
    let low = k.up.is_task in
    let same = ap (λ (v : TaskId). v.0) k.opener_is in
    let slots = h.holds.shares.slots in
    let inside : c.note-note.result.opener.0 < length m.seats.items = omega (arith, low, same, slots) in
    let left : is_left T (Some c.note-note.result.opener) ≡ false = left_seen shape G.entries T G.players m.seats.items c.note-note.result.opener.0 c.index.result.now h.holds.seats inside c.index.ensures ∙ (sym c.is_some.ensures ∙ c.if-is_some.false) in
    goes_on T c.args.under c.scopes.scope c.note-note.result.parent c.note-note.result.opener k.way k.up k.opener_is k.parent_is left

pub returns-clause-nearest : goal.returns-clause-nearest
returns-clause-nearest g c = λ shape code U G h leads.
    none_above_root (tree_in U G) c.args.under c.scopes.scope h.reached c.walk_ends_at_root.ensures (c.scopes.invariant shape code U G h leads) c.scopes-test.false
