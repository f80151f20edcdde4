use Rattle.std.proofs.Common.{rules, arith, ◌≡◌, ℕ, List, Some, length, slice_get, ap, sym, subst, ◌∙◌, eqb, refl}
use Rattle.std.specs.Option.{option_eq}
use Rattle.std.proofs.lemmas.Bool.{true≢false, eq-eqb}
use Rattle.rx_rank.specs.Numbers.{Numbers, removed}
use Rattle.rx_rank.specs.Counts.{numbers, leaves}
use Rattle.rx_rank.proofs.Keeping.{kept_removed, set_again}
use Rattle.rx_rank.proofs.Least.{take-other}
use Rattle.rx_rank.proofs.ranks.Ranks.remove.Goals as goal

pub returns-else-x-len-clause-members : goal.returns-else-x-len-clause-members
returns-else-x-len-clause-members c =
    let R : Numbers → Type 0 = λ z. z.members ≡ removed c.args.x z.members in
    subst R c.self.view_is (sym (kept_removed c.self.inside.height c.args.x c.self.inside.counts.items c.self.invariant.kept (search rules)))

pub invariant_of-self-else-eq : goal.invariant_of-self-else-eq
invariant_of-self-else-eq c =
    let x : ℕ = c.args.x in
    let items : List ℕ = c.self.inside.counts.items in
    let new : List ℕ = c.mark.new.counts in
    let within = c.if-x-len.true in
    let held = c.len.ensures in
    let old : c.deref_mut.result.now ≡ items = c.deref_mut.ensures.value in
    let long : length new ≡ length items = c.mark.auto.counts ∙ ap (λ (z : List ℕ). length z) old in
    let told : numbers 0 (leaves new) ≡ removed x (numbers 0 (leaves items)) = c.mark.ensures.marked ∙ ap (λ (z : List ℕ). removed x (numbers 0 (leaves z))) old in
    let other : c.self.inside.least ≡ Some x → ⊥ = λ e. true≢false (sym (eq-eqb x x refl) ∙ sym (c.if-eq.ensures ∙ ap (λ z. option_eq eqb z (Some x)) e)) in
    let first = take-other x c.self.inside.least (numbers 0 (leaves items)) c.self.invariant.first other ∙ ap (λ (z : List ℕ). slice_get z 0) (sym told) in
    set_again c.self.inside.height c.self.inside.counts.len items new c.self.inside.least c.self.invariant.kept c.self.inside.counts.ok.0 long (omega arith) c.mark.ensures.tree first
