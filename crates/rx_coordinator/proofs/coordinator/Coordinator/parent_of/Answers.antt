use Rattle.std.proofs.Common.{◌-◌, sym, ◌∙◌, ap}
use Rattle.rx_rules.proofs.Common.{tree_of, scope_of}
use Rattle.rx_coordinator.proofs.Acting.{none_told, parent_told}
use Rattle.rx_coordinator.proofs.coordinator.Coordinator.parent_of.Goals as goal
use Rattle.rx_coordinator.specs.Inside.Rows.{parent_or_root}

pub returns-in-Some-parent : goal.returns-in-Some-parent
returns-in-Some-parent c = λ p es st.
    let T = tree_of p es in
    ap parent_or_root (sym c.in-Some-parent.is) ∙ parent_told (scope_of T c.args.s) c.in-Some.seen (sym (c.scope_seen.ensures (16 - T.places) T st.tree) ∙ c.in-Some.is)

pub returns-in-None-parent : goal.returns-in-None-parent
returns-in-None-parent c = λ p es st.
    let T = tree_of p es in
    ap parent_or_root (sym c.in-None-parent.is) ∙ parent_told (scope_of T c.args.s) c.in-Some.seen (sym (c.scope_seen.ensures (16 - T.places) T st.tree) ∙ c.in-Some.is)

pub returns-in-None : goal.returns-in-None
returns-in-None c = λ p es st.
    let T = tree_of p es in
    (none_told (scope_of T c.args.s) (sym (c.scope_seen.ensures (16 - T.places) T st.tree) ∙ c.in-None.is)).1
