use Rattle.std.proofs.Common.{ap, ◌∙◌}
use Rattle.rx_book.specs.declared.passes.Pass.{Pass}
use Rattle.rx_book.specs.Passes.{view_of, word_of}
use Rattle.rx_parts.specs.declared.items.EntryItem.{EntryItem}
use Rattle.rx_activities.proofs.store.take_pass.Goals as goal

pub returns-clause-own : goal.returns-clause-own
returns-clause-own g c = ap (λ (p : Pass EntryItem). word_of p) c.replace.ensures.value ∙ c.in-Ok.ensures.same.0

pub returns-clause-view : goal.returns-clause-view
returns-clause-view g c = ap (λ (p : Pass EntryItem). view_of p) c.replace.ensures.value ∙ c.in-Ok.ensures.same.1
