use Rattle.std.proofs.Common.{◌/◌, ◌++◌, ◌∷◌, [], ◌∙◌, ℕ, List, Option, Some, sym, ap, subst, slice_set}
use Rattle.std.specs.Global.{Vec, Box}
use Rattle.rx_counts.specs.declared.record.Record.{Record}
use Rattle.rx_counts.specs.Inside.Paging.{lists, slots_of, Filled}
use Rattle.rx_counts.proofs.PageList.{begun_slots, begun_filled, lists_kept, page_read, pushed_filled, pushed_slots, on_err}
use Rattle.rx_counts.proofs.pages.Pages.push.Goals as goal

pub invariant_of-self : goal.invariant_of-self
invariant_of-self c = begun_filled c.self.inside.pages.items c.begin.new.pages.items _ c.self.inside.count c.begin.ensures.same c.self.invariant c.begin.ensures.few

pub returns-in_err-begin-clause-refused : goal.returns-in_err-begin-clause-refused
returns-in_err-begin-clause-refused c = on_err c.from_residual.result _ (begun_slots c.self.inside.pages.items c.begin.new.pages.items _ c.self.inside.count c.begin.ensures.same ∙ c.self.view_is)

pub invariant_of-self-in-Err : goal.invariant_of-self-in-Err
invariant_of-self-in-Err c =
    let begun : List (Vec (Option (Box Record))) = c.begin.new.pages.items in
    let p : ℕ = c.self.inside.count / 1024 in
    let kept = lists_kept begun p c.push.new.self (c.in-Err.ensures.items ∙ sym (page_read begun p c.index_mut.result.now c.in_ok-begin.ensures.begun c.index_mut.ensures.value)) in
    subst (λ xs. Filled xs c.self.inside.count) (sym kept) (begun_filled c.self.inside.pages.items begun _ c.self.inside.count c.begin.ensures.same c.self.invariant c.begin.ensures.few)

pub returns-in-Err-clause-refused : goal.returns-in-Err-clause-refused
returns-in-Err-clause-refused c =
    let begun : List (Vec (Option (Box Record))) = c.begin.new.pages.items in
    let p : ℕ = c.self.inside.count / 1024 in
    let kept = lists_kept begun p c.push.new.self (c.in-Err.ensures.items ∙ sym (page_read begun p c.index_mut.result.now c.in_ok-begin.ensures.begun c.index_mut.ensures.value)) in
    ap (λ xs. slots_of xs c.self.inside.count) kept ∙ (begun_slots c.self.inside.pages.items begun _ c.self.inside.count c.begin.ensures.same ∙ c.self.view_is)

pub invariant_of-self-2 : goal.invariant_of-self-2
invariant_of-self-2 c =
    let begun : List (Vec (Option (Box Record))) = c.begin.new.pages.items in
    let f = begun_filled c.self.inside.pages.items begun _ c.self.inside.count c.begin.ensures.same c.self.invariant c.begin.ensures.few in
    subst (λ (m : ℕ). Filled (lists (slice_set begun (c.self.inside.count / 1024) c.push.new.self)) m) (sym c.in-Some.ensures.1)
    (pushed_filled begun c.self.inside.count c.index_mut.result.now c.push.new.self (Some c.args.kept) c.in_ok-begin.ensures.begun c.index_mut.ensures.value c.in-Ok.ensures.items f)

pub returns-clause-pushed : goal.returns-clause-pushed
returns-clause-pushed c =
    let begun : List (Vec (Option (Box Record))) = c.begin.new.pages.items in
    let f = begun_filled c.self.inside.pages.items begun _ c.self.inside.count c.begin.ensures.same c.self.invariant c.begin.ensures.few in
    ap (slots_of (lists (slice_set begun (c.self.inside.count / 1024) c.push.new.self))) c.in-Some.ensures.1
    ∙ (pushed_slots begun c.self.inside.count c.index_mut.result.now c.push.new.self (Some c.args.kept) c.in_ok-begin.ensures.begun c.index_mut.ensures.value c.in-Ok.ensures.items f
    ∙ ap (λ xs. xs ++ Some c.args.kept ∷ []) (begun_slots c.self.inside.pages.items begun _ c.self.inside.count c.begin.ensures.same ∙ c.self.view_is))
