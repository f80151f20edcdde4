use Rattle.std.proofs.Common.{◌∙◌, ap, sym}
use Rattle.rx_book.specs.History.{has_death}
use Rattle.rx_chronicle.specs.Told.{dies_in}
use Rattle.rx_parts.specs.declared.items.EntryItem.{EntryItem}
use Rattle.rx_parts.specs.Deaths.{place_shown}
use Rattle.rx_objects.proofs.Lines.{deaths_same}
use Rattle.rx_objects.specs.Mentioned.{items_called}
use Rattle.rx_objects.proofs.ledger.LedgerObjectObject.deaths.Goals as goal

pub returns : goal.returns
returns c = λ p h.
    c.deaths.ensures p h
    ∙ (ap (dies_in p) (sym c.self.invariant.0.same)
    ∙ (deaths_same p h (items_called c.self.inside.calls) ∙ ap (λ v. has_death (λ (x : EntryItem). place_shown x.entry) p v.entries) c.self.view_is))
