use Rattle.std.proofs.Common.{◌∙◌}
use Rattle.std.proofs.lemmas.List.{length-map}
use Rattle.rx_script.proofs.Arena.{takes-close, counts-close, on-ok}
use Rattle.rx_script.proofs.reader.close.Goals as goal

pub returns-clause-takes : goal.returns-clause-takes
returns-clause-takes c =
    let r = c.args.reader.now in
    let e = c.in_ok-block-in-Some.ensures in
    on-ok _ _ _ c.end_block.ensures (λ m. takes-close r c.shut.new.reader c.end_block.new.reader c.pop.new.self c.in-Some.opened c.in_ok-block-in-Some.block c.in-Some.ensures.items e.shuts (simp length-map (e.block ∙ r.blocks.ok.0)) m)

pub returns-clause-counts : goal.returns-clause-counts
returns-clause-counts c =
    let e = c.in_ok-block-in-Some.ensures in
    on-ok _ _ _ c.end_block.ensures (λ m. counts-close c.args.reader.now c.shut.new.reader c.end_block.new.reader c.pop.new.self c.in-Some.opened.start c.in-Some.opened.owner c.in_ok-block-in-Some.block e.shuts m)
