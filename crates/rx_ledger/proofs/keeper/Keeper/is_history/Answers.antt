use Rattle.std.proofs.Common.{sym, subst, List}
use Rattle.std.proofs.lemmas.List.{take-append-drop}
use Rattle.rx_rules.specs.declared.entries.Entry.{Entry}
use Rattle.rx_rules.proofs.Common.{Folds}
use Rattle.rx_history.specs.Setups.{given}
use Rattle.rx_chronicle.specs.Told.{RootLast}
use Rattle.rx_ledger.specs.Kept.{KeeperView, IsHistory}
use Rattle.rx_ledger.proofs.keeper.Keeper.is_history.Goals as goal

pub returns : goal.returns
returns g c =
    let k = c.self.inside in
    let law = c.is_lawful.ensures in
    let all = take-append-drop k.shown k.chronicle.entries in
    subst (λ (v : KeeperView). IsHistory v) c.self.view_is
    (record {
      proper = law.proper;
      folds = subst (λ (es : List Entry). Folds (given k.chronicle.setup) es) (sym all) law.folds;
      root_last = subst (λ (es : List Entry). RootLast es) (sym all) law.root_last;
      hidden = c.self.invariant.hidden;
      due_alone = c.self.invariant.hidden_are;
    })
