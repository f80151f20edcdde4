use Rattle.std.proofs.Common.{◌≡◌, ◌++◌, ◌∙◌, ap, sym, subst, List}
use Rattle.std.proofs.lemmas.List.{take-append-drop}
use Rattle.rx_rules.specs.declared.entries.Entry.{Entry}
use Rattle.rx_rules.proofs.Common.{tree_of}
use Rattle.rx_finish.specs.Totals.{totals_of}
use Rattle.rx_history.specs.Setups.{given}
use Rattle.rx_chronicle.specs.Told.{left_to_join}
use Rattle.rx_ledger.specs.Kept.{KeeperView}
use Rattle.rx_ledger.proofs.keeper.Keeper+CountLedger.totals.Goals as goal

pub returns : goal.returns
returns c =
    let k = c.self.inside in
    let es = k.chronicle.entries in
    let p = k.chronicle.setup in
    let whole : c.totals.result ≡ totals_of (tree_of p.places es) = c.totals.ensures (left_to_join (given p) es) (tree_of p.places es) c.ledger.ensures in
    subst (λ (v : KeeperView). c.totals.result ≡ totals_of (tree_of v.setup.places (v.entries ++ v.behind))) c.self.view_is
    (whole ∙ ap (λ (fs : List Entry). totals_of (tree_of p.places fs)) (sym (take-append-drop k.shown es)))
