use Rattle.std.proofs.Common.{◌++◌, ◌∙◌, ap, sym, subst, List}
use Rattle.std.proofs.lemmas.List.{take-append-drop}
use Rattle.rx_rules.specs.declared.entries.Entry.{Entry}
use Rattle.rx_rules.proofs.Common.{tree_of}
use Rattle.rx_history.specs.Logs.{Log}
use Rattle.rx_history.specs.Setups.{given}
use Rattle.rx_chronicle.specs.Told.{left_to_join}
use Rattle.rx_ledger.specs.Kept.{KeeperView}
use Rattle.rx_ledger.proofs.keeper.Keeper.into_history.Goals as goal

pub returns-clause-entries : goal.returns-clause-entries
returns-clause-entries g c =
    let k = c.self.inside in
    ap (λ (h : Log). h.entries) c.into_parts.ensures.history ∙ (sym (take-append-drop k.shown k.chronicle.entries) ∙ ap (λ (v : KeeperView). v.entries ++ v.behind) c.self.view_is)

pub returns-clause-ledger : goal.returns-clause-ledger
returns-clause-ledger g c =
    let k = c.self.inside in
    let es = k.chronicle.entries in
    let p = k.chronicle.setup in
    let l = c.into_parts.result.1 in
    subst (λ (v : KeeperView). g.L.FinishLedger.stands l (left_to_join (given v.setup) (v.entries ++ v.behind)) (tree_of v.setup.places (v.entries ++ v.behind))) c.self.view_is
    (subst (λ (fs : List Entry). g.L.FinishLedger.stands l (left_to_join (given p) fs) (tree_of p.places fs)) (sym (take-append-drop k.shown es)) c.into_parts.ensures.ledger)
