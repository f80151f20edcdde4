use Rattle.std.proofs.Common.{◌-◌, sym, ◌∙◌, ap}
use Rattle.rx_rules.proofs.Common.{tree_of, scope_of, is_finish}
use Rattle.rx_coordinator.proofs.Acting.{finish_told, none_told}
use Rattle.rx_coordinator.proofs.coordinator.Coordinator.is_finish.Goals as goal
use Rattle.rx_rules.specs.declared.tasks.Kind.{Kind}

pub returns-in-Finish : goal.returns-in-Finish
returns-in-Finish c = λ p es st.
    let T = tree_of p es in
    ap (λ (k : Kind). is_finish k) (sym c.in-Finish.is) ∙ finish_told (scope_of T c.args.s) c.in-Some.seen (sym (c.scope_seen.ensures (16 - T.places) T st.tree) ∙ c.in-Some.is)

pub returns-in-Call : goal.returns-in-Call
returns-in-Call c = λ p es st.
    let T = tree_of p es in
    ap (λ (k : Kind). is_finish k) (sym c.in-Call.is) ∙ finish_told (scope_of T c.args.s) c.in-Some.seen (sym (c.scope_seen.ensures (16 - T.places) T st.tree) ∙ c.in-Some.is)

pub returns-in-None : goal.returns-in-None
returns-in-None c = λ p es st.
    let T = tree_of p es in
    (none_told (scope_of T c.args.s) (sym (c.scope_seen.ensures (16 - T.places) T st.tree) ∙ c.in-None.is)).0
