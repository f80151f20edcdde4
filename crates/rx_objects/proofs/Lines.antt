-- The deaths of the items are those of the entries.
use Rattle.std.proofs.Common.{nat_le, ◌≡◌, ◌≢◌, ℕ, ◌<◌, ◌==◌, ◌||◌, Bool, true, false, cond, Some, None, List, [], ◌∷◌, refl, arith, inl, inr}
use Rattle.std.proofs.lemmas.Bool.{ne_eqb}
use Rattle.std.proofs.lemmas.Bool.Decides.{leb_tells}
use Rattle.rx_rules.specs.declared.entries.Entry.{Entry}
use Rattle.rx_rules.specs.declared.entries.Entry.TheVariants.{Death}
use Rattle.rx_book.specs.History.{has_death, is_place}
use Rattle.rx_chronicle.specs.Told.{dies_in}
use Rattle.rx_parts.specs.declared.items.EntryItem.{EntryItem}
use Rattle.rx_parts.specs.Deaths.{place_shown}
use Rattle.rx_objects.specs.Mentioned.{entries_in}

-- a place below 16 is shown as itself
same_place : (d p : ℕ) → p < 16 → (d == p) ≡ is_place p (cond (nat_le d 15) (Some d) None)
same_place d p h = at (nat_le d 15) refl where
  at : (b : Bool) → nat_le d 15 ≡ b → (d == p) ≡ is_place p (cond b (Some d) None)
  at true e = refl
  at false e =
      let high : 15 < d = elim (leb_tells d 15) [ inl l ↦ absurd (let f : ⊥ = cc (e, l.0) in f) | inr g ↦ g.1 ] in
      let other : d ≢ p = λ w. omega (arith, high, h, w) in
      ne_eqb d p other

at_entry : (p : ℕ) → p < 16 → (e : Entry) (es : List Entry) (b : Bool) → dies_in p es ≡ b → dies_in p (e ∷ es) ≡ (is_place p (place_shown e) || b)
at_entry p h (Death d) es b e = (λ i. same_place d.0 p h i || e i)
at_entry p h _ es b e = e

pub deaths_same : (p : ℕ) → p < 16 → (xs : List EntryItem) → dies_in p (entries_in xs) ≡ has_death (λ (x : EntryItem). place_shown x.entry) p xs
deaths_same p h [] = refl
deaths_same p h (x ∷ xs) = at_entry p h x.entry (entries_in xs) (has_death (λ (x : EntryItem). place_shown x.entry) p xs) (deaths_same p h xs)
