use Rattle.std.proofs.Common.{◌-◌, sym, ◌∙◌, ap, Option}
use Rattle.rx_rules.proofs.Common.{tree_of}
use Rattle.rx_coordinator.proofs.Acting.{root_of}
use Rattle.rx_coordinator.proofs.coordinator.Coordinator.has_root.Goals as goal
use Rattle.std.specs.Option.{is_some}
use Rattle.rx_counts.specs.declared.ledger.ScopeSeen.{ScopeSeen}

pub returns : goal.returns
returns c = λ p es st.
    let T = tree_of p es in
    let h = c.is_some.ensures in
    let told = c.scope_seen.ensures (16 - T.places) T st.tree in
    root_of T c.is_some.result (ap (λ (o : Option ScopeSeen). is_some o) (sym told) ∙ sym h)
