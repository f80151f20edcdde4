-- That a book shows no place above 15.
use Rattle.std.specs.Prelude.{nat_le, ◌≡◌, ◌≤◌, ◌<◌, ℕ, Bool, true, false, Option, Some, None, cond}
use Rattle.std.specs.Option.{ForSome}
use mathlib.Core.Path.{subst}
use Rattle.std.proofs.Common.{◌⊎◌, inl, inr}
use Rattle.std.proofs.Math.Dec.{leb}
use Rattle.std.proofs.lemmas.Bool.Decides.{leb_tells}
use Rattle.rx_rules.specs.declared.entries.Entry.{Entry}
use Rattle.rx_rules.specs.declared.entries.Entry.TheVariants.{Death}
use Rattle.rx_parts.specs.Deaths.{place_shown}

abbrev is_small : Option ℕ → Type 0
is_small None = ⊥
is_small (Some p) = p ≤ 15

abbrev is_none : Option ℕ → Type 0
is_none None = Unit {0}
is_none (Some p) = ⊥

pub nobody : (p : ℕ) → None ≡ Some p → p ≤ 15
nobody p h = absurd (subst is_none h tt)

small_place : (d x : ℕ) → ((leb d 15 ≡ true) × (d ≤ 15)) ⊎ ((leb d 15 ≡ false) × (15 < d))
    → cond (nat_le d 15) (Some d) None ≡ Some x → x ≤ 15
small_place d x (inl low) h = subst is_small (subst (λ (b : Bool). cond b (Some d) None ≡ Some x) low.0 h) low.1
small_place d x (inr high) h = nobody x (subst (λ (b : Bool). cond b (Some d) None ≡ Some x) high.0 h)

pub shows_small : (e : Entry) → ForSome (place_shown e) (λ p. p ≤ 15)
shows_small (Death d) x h = small_place d.0 x (leb_tells d.0 15) h
shows_small _ x h = nobody x h
