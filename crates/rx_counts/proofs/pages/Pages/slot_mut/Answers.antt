use Rattle.std.proofs.Common.{◌<◌, ◌/◌, ◌%◌, ◌∙◌, ℕ, List, length, Option, None, refl, sym, ap, subst, arith, slice_index_or, slice_set}
use Rattle.std.specs.Global.{Vec, Box}
use Rattle.std.specs.Vec.{with_item}
use Rattle.std.proofs.lemmas.List.{get_or-set_same, get_or-set_other, get_or_read, length-set}
use Rattle.rx_counts.specs.declared.record.Record.{Record}
use Rattle.rx_counts.specs.Inside.Paging.{lists}
use Rattle.rx_counts.proofs.Paging.{slot_read, slot_within}
use Rattle.rx_counts.proofs.PageList.{page_low, page_read, some_slot, slots_lent, filled_lent}
use Rattle.rx_counts.proofs.pages.Pages.slot_mut.Goals as goal

pub index_mut-requires : goal.index_mut-requires
index_mut-requires c =
    let pages : List (Vec (Option (Box Record))) = c.self.inside.pages.items in
    let low = page_low pages c.args.n (some_slot pages c.self.inside.count c.args.n c.args.self.now c.self.view_is c.self.invariant c.requires) in
    omega (arith, c.self.inside.pages.ok.0)

pub index_mut-requires-2 : goal.index_mut-requires-2
index_mut-requires-2 c =
    let pages : List (Vec (Option (Box Record))) = c.self.inside.pages.items in
    let v : Vec (Option (Box Record)) = c.index_mut.result.now in
    let some = some_slot pages c.self.inside.count c.args.n c.args.self.now c.self.view_is c.self.invariant c.requires in
    let read = page_read pages (c.args.n / 1024) v (page_low pages c.args.n some) c.index_mut.ensures.value in
    let within : c.args.n % 1024 < length v.items = subst (λ (zs : List (Option (Box Record))). c.args.n % 1024 < length zs) read (slot_within (lists pages) c.args.n some) in
    omega (arith, v.ok.0)

pub invariant_of-self-lent : goal.invariant_of-self-lent
invariant_of-self-lent c = λ w.
    let pages : List (Vec (Option (Box Record))) = c.self.inside.pages.items in
    let v : Vec (Option (Box Record)) = c.index_mut.result.now in
    let low = page_low pages c.args.n (some_slot pages c.self.inside.count c.args.n c.args.self.now c.self.view_is c.self.invariant c.requires) in
    let read = page_read pages (c.args.n / 1024) v low c.index_mut.ensures.value in
    filled_lent pages c.self.inside.count (c.args.n / 1024) (with_item v (c.args.n % 1024) w) low (λ e. length-set v.items (c.args.n % 1024) w ∙ ap length (sym read)) c.self.invariant

pub returns : goal.returns
returns c =
    let pages : List (Vec (Option (Box Record))) = c.self.inside.pages.items in
    let v : Vec (Option (Box Record)) = c.index_mut.result.now in
    let q : ℕ = c.args.n % 1024 in
    let some = some_slot pages c.self.inside.count c.args.n c.args.self.now c.self.view_is c.self.invariant c.requires in
    let low = page_low pages c.args.n some in
    let read = page_read pages (c.args.n / 1024) v low c.index_mut.ensures.value in
    let within : q < length v.items = subst (λ (zs : List (Option (Box Record))). q < length zs) read (slot_within (lists pages) c.args.n some) in (
      (
        refl,
        λ w. slots_lent pages c.self.inside.count c.args.n (with_item v q w) w low (get_or-set_same v.items q w None within) (λ k d. get_or-set_other v.items q k w None d ∙ ap (λ zs. slice_index_or zs k None) (sym read))
            ∙ ap (λ xs. slice_set xs c.args.n w) c.self.view_is,
      ),
      record {
        writes_back = tt;
        value = get_or_read v.items q _ within c.index_mut-2.ensures.value None
            ∙ (ap (λ zs. slice_index_or zs q None) (sym read) ∙ (sym (slot_read (lists pages) c.self.inside.count c.args.n c.self.invariant) ∙ ap (λ xs. slice_index_or xs c.args.n None) c.self.view_is));
      },
    )
