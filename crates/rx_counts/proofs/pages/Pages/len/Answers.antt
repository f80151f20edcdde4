use Rattle.std.proofs.Common.{◌∙◌, sym, ap, length}
use Rattle.std.proofs.lemmas.List.FromFn.{length-map-range_with_len}
use Rattle.rx_counts.specs.Inside.Paging.{lists, slot_at}
use Rattle.rx_counts.proofs.pages.Pages.len.Goals as goal

pub returns : goal.returns
returns c = sym (length-map-range_with_len (slot_at (lists c.self.inside.pages.items)) 0 c.self.inside.count) ∙ ap length c.self.view_is
