use Rattle.std.proofs.Common.{◌<◌, ◌≤◌, ◌/◌, ◌∙◌, List, length, Option, None, sym, ap, arith, rules, slice_index_or, slice_set}
use Rattle.std.specs.Global.{Vec, Box}
use Rattle.rx_counts.specs.declared.record.Record.{Record}
use Rattle.rx_counts.proofs.PageList.{page_read, slots_lent, filled_lent, slots_empty}
use Rattle.rx_counts.proofs.pages.Pages.clear.Goals as goal

pub returns-in_default : goal.returns-in_default
returns-in_default c =
    let pages : List (Vec (Option (Box Record))) = c.self.inside.pages.items in
    let high : length pages ≤ c.args.n / 1024 = search rules in
    slots_empty pages c.self.inside.count c.args.n high ∙ ap (λ xs. slice_set xs c.args.n None) c.self.view_is

pub invariant_of-self-2 : goal.invariant_of-self-2
invariant_of-self-2 c =
    let pages : List (Vec (Option (Box Record))) = c.self.inside.pages.items in
    let v : Vec (Option (Box Record)) = c.in-Some.slots.now in
    let low : c.args.n / 1024 < length pages = search rules in
    let read = page_read pages (c.args.n / 1024) v low c.in-Some.ensures.value in
    filled_lent pages c.self.inside.count (c.args.n / 1024) c.clear_slot.new.page low
    (λ e. c.clear_slot.ensures.len (grind arith) ∙ ap length (sym read)) c.self.invariant

pub returns : goal.returns
returns c =
    let pages : List (Vec (Option (Box Record))) = c.self.inside.pages.items in
    let v : Vec (Option (Box Record)) = c.in-Some.slots.now in
    let low : c.args.n / 1024 < length pages = search rules in
    let read = page_read pages (c.args.n / 1024) v low c.in-Some.ensures.value in
    slots_lent pages c.self.inside.count c.args.n c.clear_slot.new.page None low c.clear_slot.ensures.here
    (λ k d. c.clear_slot.ensures.others k d ∙ ap (λ zs. slice_index_or zs k None) (sym read))
    ∙ ap (λ xs. slice_set xs c.args.n None) c.self.view_is
