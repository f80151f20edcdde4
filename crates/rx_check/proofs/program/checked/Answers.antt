use Rattle.std.proofs.Common.{◌≡◌, ◌≤◌, subst}
use Rattle.rx_rules.proofs.Common.{Block, work}
use Rattle.rx_syntax.specs.Shape.{Stands}
use Rattle.rx_syntax.specs.Grammar.{AllInRange, spellings}
use Rattle.rx_syntax.specs.Tokens.{AreNames}
use Rattle.rx_check.specs.Checked.{Checked, Meets}
use Rattle.rx_check.proofs.Judging.{meets-work}
use Rattle.rx_check.proofs.program.checked.Goals as goal

pub returns : goal.returns
returns c =
    let w = c.whole.ensures in
    let i = c.p.invariant w.0 w.1 in
    let P : Checked → Type 0 = λ p. (t : Block) × Stands p.script t × AllInRange t × AreNames p.script.names (spellings t) × Meets t × (p.work ≡ work t) × (work t ≤ 100000) in
    subst P c.p.view_is (w.0, w.1, w.2, w.3, i.0, i.1, meets-work w.0 i.0)
