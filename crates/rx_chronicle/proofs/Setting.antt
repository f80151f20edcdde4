-- A note with another bound.
use Rattle.std.proofs.Common.{◌≡◌, ℕ, zero, suc, List, [], ◌∷◌, map, get_or, slice_set, refl, ap, ◌∙◌}
use Rattle.rx_chronicle.specs.declared.notes.Note.{Note}

-- what is read of a note beside its bound
pub set_same : {A : Type 0} (f : Note → A) (ns : List Note) (i : ℕ) (x : Note) (m : ℕ) → ((n : Note) (k : ℕ) → f (record n { faults = k }) ≡ f n) → x ≡ get_or ns i x → map f (slice_set ns i (record x { faults = m })) ≡ map f ns
set_same f [] i x m keeps h = refl
set_same {A = A} f (n ∷ ns) zero x m keeps h = ap (λ (a : A). a ∷ map f ns) (keeps x m ∙ ap f h)
set_same {A = A} f (n ∷ ns) (suc i) x m keeps h = ap (λ (rest : List A). f n ∷ rest) (set_same f ns i x m keeps h)

pub set_counts : (ns : List Note) (i : ℕ) (x : Note) (m : ℕ) → map (λ (n : Note). n.faults) (slice_set ns i (record x { faults = m })) ≡ slice_set (map (λ n. n.faults) ns) i m
set_counts [] i x m = refl
set_counts (n ∷ ns) zero x m = refl
set_counts (n ∷ ns) (suc i) x m = ap (λ (ks : List ℕ). n.faults ∷ ks) (set_counts ns i x m)
