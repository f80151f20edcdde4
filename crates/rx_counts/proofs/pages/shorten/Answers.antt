use Rattle.std.proofs.Common.{◌≡◌, ◌∙◌, Some, None, sym, ap, rules, slice_index_or}
use Rattle.rx_counts.proofs.Paging.{default_more}
use Rattle.rx_counts.proofs.pages.shorten.Goals as goal

pub loop-page-preserved : goal.loop-page-preserved
loop-page-preserved c = λ k.
    let popped : c.pop.result ≡ Some None = search rules in
    let split = rw popped at c.pop.ensures.items in
    sym (default_more c.pop.new.self.items None k) ∙ (ap (λ zs. slice_index_or zs k None) (sym split) ∙ c.loop-page.invariant k)
