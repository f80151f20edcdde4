use Rattle.std.proofs.Common.{subst}
use Rattle.rx_rules.specs.declared.entries.Entry.TheVariants.{Root}
use Rattle.rx_program.proofs.Ends.{IsLast, last-entry, by-test}
use Rattle.rx_program.proofs.run.ends_clean.Goals as goal

pub returns-in-Root : goal.returns-in-Root
returns-in-Root c =
    let es = c.args.history.now.entries in
    let l : IsLast es (Root c.in-Root.lost _ c.in-Root.thrown) = subst (IsLast es) c.in-Root.is (last-entry es c.len.result c.item.result.now c.requires c.len.ensures c.item.ensures) in
    by-test c.in-Root.lost _ c.in-Root.thrown es l c.is_clean.result c.is_clean.ensures

pub returns-in_default : goal.returns-in_default
returns-in_default c =
    let l = last-entry c.args.history.now.entries c.len.result c.item.result.now c.requires c.len.ensures c.item.ensures in absurd (c.in_default.not-Root l.lost l.masked l.thrown l.is)
