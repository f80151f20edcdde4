-- One option more.
use Rattle.std.proofs.Common.{◌≡◌, ◌∙◌, ℕ, suc, ◌+◌, List, ◌∷◌, ap, sym, subst, arith}
use Rattle.rx_words.specs.Words.{Wants, Taken, NotAnOption, BadValue, Takes, BadWord, taken, choice, options}
use Rattle.rx_words.specs.Commands.{IsTaken, IsInRange, wants_of}
use Rattle.rx_words.specs.declared.said.Said.{Said}
use Rattle.rx_words.specs.declared.said.Verb.{Verb}
use Rattle.rx_words.specs.declared.taking.Took.{Took}
use Rattle.rx_words.specs.declared.taking.Took.TheVariants as tooks

good-takes : (t : Taken) (new : Said) → IsTaken tooks.Good new t → (t ≡ Takes (wants_of new)) × IsInRange new
good-takes NotAnOption new h = absurd h
good-takes BadValue new h = absurd h
good-takes (Takes w) new h = (ap (λ v. Takes v) h.0, h.1)

options-on : (verb : Verb) (w v : Wants) (k : ℕ) (name value : List ℕ) (rest : List (List ℕ)) → taken (choice verb w name) w (suc k) value ≡ Takes v → options verb w k (name ∷ value ∷ rest) ≡ options verb v (suc (suc k)) rest
options-on verb w v k name value rest e =
    ap (λ (t : Taken). elim t [ NotAnOption ↦ BadWord k | BadValue ↦ BadWord (suc k) | Takes u ↦ options verb u (suc (suc k)) rest ]) e

pub one-option : (verb : Verb) (old new : Said) (took : Took) (k : ℕ) (name value : List ℕ) (left after rest : List (List ℕ)) → left ≡ name ∷ after → after ≡ value ∷ rest → took ≡ tooks.Good → IsTaken took new (taken (choice verb (wants_of old) name) (wants_of old) (k + 1) value) → (options verb (wants_of old) k left ≡ options verb (wants_of new) (k + 2) rest) × IsInRange new
one-option verb old new took k name value left after rest e f g h =
    let one : k + 1 ≡ suc k = omega arith in
    let two : suc (suc k) ≡ k + 2 = omega arith in
    let P : Took → Type 0 = λ t. IsTaken t new (taken (choice verb (wants_of old) name) (wants_of old) (k + 1) value) in
    let t = good-takes (taken (choice verb (wants_of old) name) (wants_of old) (k + 1) value) new (subst P g h) in
    let s : taken (choice verb (wants_of old) name) (wants_of old) (suc k) value ≡ Takes (wants_of new) = sym (ap (λ n. taken (choice verb (wants_of old) name) (wants_of old) n value) one) ∙ t.0 in
    let whole : left ≡ name ∷ value ∷ rest = e ∙ ap (λ ws. name ∷ ws) f in (
      ap (options verb (wants_of old) k) whole ∙ options-on verb (wants_of old) (wants_of new) k name value rest s ∙ ap (λ n. options verb (wants_of new) n rest) two,
      t.1,
    )
