-- The words of faults.
use Rattle.std.proofs.Common.{◌≡◌, ℕ, ◌<◌, ◌≤◌, Bool, true, false, cond, ◌==◌, List, [], ◌∷◌, ◌++◌, refl, ap, ◌∙◌, subst, arith, Option, Some, None, option_map, codes, ℤ}
use Rattle.std.specs.Str.{bytes_eq}
use Rattle.std.proofs.lemmas.Bool.{eqb-false}
use Rattle.std.proofs.lemmas.Option.{same_Some, none-some}
use Rattle.rx_rules.proofs.Common.{PlaceId, Fault, Dead, Thrown, Overflow, NoPlace, WrongPlace, Stale, Index, HeapFull}
use Rattle.rx_text.specs.Numbers.{natural_text, number_text}
use Rattle.rx_trace.specs.Fields.{fault_field}
use Rattle.rx_trace.specs.Limits.{FitsFault}
use Rattle.rx_fields.specs.Words.{stripped}
use Rattle.rx_fields.specs.Inside.FieldWords.{next, or_else, place_of, number_of, plain_fault, dead_of, fault_spelt, fault_of}
use Rattle.rx_fields.proofs.Cuts.{IsPlain, Plain, all-append, stripped-is, stripped-again, bytes-same}
use Rattle.rx_fields.proofs.Figures.{number-takes, number-again, number-plain, natural-plain}
use Rattle.rx_trace.proofs.ReadFields.{next-is, map-is, place-again, place-takes}
use Rattle.rx_trace.proofs.Spelt.{Item}

abbrev IsFault : ℕ → List ℕ → Fault → Type 0
IsFault places w fault = (32 ∷ w ≡ fault_field fault) × FitsFault places fault

-- one word more of those that are faults
plain-word : (places : ℕ) (w key : List ℕ) (f g : Fault) (other : Option Fault) → (32 ∷ key ≡ fault_field f) × FitsFault places f → (other ≡ Some g → IsFault places w g) → cond (bytes_eq w key) (Some f) other ≡ Some g → IsFault places w g
plain-word places w key f g other known more e = by (bytes_eq w key) refl e
  where
    by : (b : Bool) → bytes_eq w key ≡ b → cond b (Some f) other ≡ Some g → IsFault places w g
    by true same is = subst (λ (x : Fault). IsFault places w x) (same_Some f g is) (ap (λ v. 32 ∷ v) (bytes-same w key same) ∙ known.0, known.1)
    by false same is = more is

plain-takes : (places : ℕ) (w : List ℕ) (g : Fault) → plain_fault w ≡ Some g → IsFault places w g
plain-takes places w g e =
    plain-word places w (codes "overflow") Overflow g _ (refl, tt) (λ e1.
    plain-word places w (codes "noplace") NoPlace g _ (refl, tt) (λ e2.
    plain-word places w (codes "wrongplace") WrongPlace g _ (refl, tt) (λ e3.
    plain-word places w (codes "stale") Stale g _ (refl, tt) (λ e4.
    plain-word places w (codes "index") Index g _ (refl, tt) (λ e5.
    plain-word places w (codes "heapfull") HeapFull g None (refl, tt) (λ e6. absurd (none-some g e6)) e5) e4) e3) e2) e1) e

abbrev dead_at : PlaceId → Fault
dead_at p = Dead p

abbrev thrown_with : ℤ → Fault
thrown_with v = Thrown v

dead-takes : (places : ℕ) (w : List ℕ) (g : Fault) → dead_of places w ≡ Some g → IsFault places w g
dead-takes places w g e =
    let m = map-is dead_at (next (stripped (codes "dead:") w) (place_of places)) g e in
    let two = next-is (stripped (codes "dead:") w) (place_of places) m.value m.was in
    let place = place-takes places two.first m.value two.then_was in
    let text : 32 ∷ two.first ≡ 32 ∷ natural_text m.value.0 = place.0 in
    let tail : two.first ≡ natural_text m.value.0 = cc in
    subst (λ (x : Fault). IsFault places w x) m.is
    (ap (λ v. 32 ∷ v) (stripped-is (codes "dead:") w two.first two.was) ∙ ap (λ v. codes " dead:" ++ v) tail, place.1)

thrown-takes : (places : ℕ) (w : List ℕ) (g : Fault) → fault_spelt w ≡ Some g → IsFault places w g
thrown-takes places w g e =
    let m = map-is thrown_with (next (stripped (codes "code:") w) number_of) g e in
    let two = next-is (stripped (codes "code:") w) number_of m.value m.was in
    let value = number-takes two.first m.value two.then_was in
    subst (λ (x : Fault). IsFault places w x) m.is
    (ap (λ v. 32 ∷ v) (stripped-is (codes "code:") w two.first two.was) ∙ ap (λ v. codes " code:" ++ v) value.0, value.1)

pub fault-takes : (places : ℕ) (w : List ℕ) (g : Fault) → fault_of places w ≡ Some g → (32 ∷ w ≡ fault_field g) × FitsFault places g
fault-takes places w g e = first (dead_of places w) refl e
  where
    second : (o : Option Fault) → fault_spelt w ≡ o → or_else o (plain_fault w) ≡ Some g → IsFault places w g
    second None was is = plain-takes places w g is
    second (Some f) was is = thrown-takes places w g (was ∙ is)

    first : (o : Option Fault) → dead_of places w ≡ o → or_else o (or_else (fault_spelt w) (plain_fault w)) ≡ Some g → IsFault places w g
    first None was is = second (fault_spelt w) refl is
    first (Some f) was is = dead-takes places w g (was ∙ is)

abbrev pub is_plain : List ℕ → Bool
is_plain [] = true
is_plain (b ∷ bs) = cond (b == 32) false (cond (b == 10) false (is_plain bs))

plain-more : (b : ℕ) (bs : List ℕ) (s t : Bool) → (b == 32) ≡ s → (b == 10) ≡ t → cond s false (cond t false (is_plain bs)) ≡ true → (is_plain bs ≡ true → Plain bs) → Plain (b ∷ bs)
plain-more b bs true t es et e more = cc
plain-more b bs false true es et e more = cc
plain-more b bs false false es et e more = ((eqb-false b 32 es, eqb-false b 10 et), more e)

-- no byte of the word is a blank or a newline
pub plain-word-is : (w : List ℕ) → is_plain w ≡ true → Plain w
plain-word-is [] e = tt
plain-word-is (b ∷ bs) e = plain-more b bs (b == 32) (b == 10) refl refl e (plain-word-is bs)

pub fault-item : (places : ℕ) (f : Fault) → places ≤ 16 → FitsFault places f → Item (fault_of places) fault_field f
fault-item places (Dead p) few fits =
    let low : p.0 < places = fits in
    record {
      text = codes "dead:" ++ natural_text p.0;
      spelled = refl;
      plain = all-append IsPlain (codes "dead:") (natural_text p.0) (plain-word-is (codes "dead:") refl) (natural-plain p.0 (omega arith));
      reads = ap (λ o. or_else (option_map dead_at (next o (place_of places))) (or_else (fault_spelt (codes "dead:" ++ natural_text p.0)) (plain_fault (codes "dead:" ++ natural_text p.0)))) (stripped-again (codes "dead:") (natural_text p.0))
          ∙ ap (λ o. or_else (option_map dead_at o) (or_else (fault_spelt (codes "dead:" ++ natural_text p.0)) (plain_fault (codes "dead:" ++ natural_text p.0)))) (place-again places p few fits);
    }
fault-item places (Thrown v) few fits = record {
  text = codes "code:" ++ number_text v;
  spelled = refl;
  plain = all-append IsPlain (codes "code:") (number_text v) (plain-word-is (codes "code:") refl) (number-plain v fits);
  reads = ap (λ o. or_else (option_map thrown_with (next o number_of)) (plain_fault (codes "code:" ++ number_text v))) (stripped-again (codes "code:") (number_text v))
      ∙ ap (λ o. or_else (option_map thrown_with o) (plain_fault (codes "code:" ++ number_text v))) (number-again v fits);
}
fault-item places Overflow few fits = record { text = codes "overflow"; spelled = refl; plain = plain-word-is (codes "overflow") refl; reads = refl }
fault-item places NoPlace few fits = record { text = codes "noplace"; spelled = refl; plain = plain-word-is (codes "noplace") refl; reads = refl }
fault-item places WrongPlace few fits = record { text = codes "wrongplace"; spelled = refl; plain = plain-word-is (codes "wrongplace") refl; reads = refl }
fault-item places Stale few fits = record { text = codes "stale"; spelled = refl; plain = plain-word-is (codes "stale") refl; reads = refl }
fault-item places Index few fits = record { text = codes "index"; spelled = refl; plain = plain-word-is (codes "index") refl; reads = refl }
fault-item places HeapFull few fits = record { text = codes "heapfull"; spelled = refl; plain = plain-word-is (codes "heapfull") refl; reads = refl }
