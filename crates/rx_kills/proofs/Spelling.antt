-- The kill that a word spells.
use Rattle.std.proofs.Common.{◌≡◌, ℕ, suc, ◌+◌, ◌<◌, ◌≤◌, ◌^◌, Bool, true, false, cond, nat_lt, List, [], ◌∷◌, ◌++◌, Some, None, refl, ap, sym, ◌∙◌, subst, arith, length, take, drop, length-append, append_assoc, not, ◌==◌, nat_le, Option, IfSome}
use Rattle.std.specs.List.{prefix_len}
use Rattle.std.specs.Str.{bytes_eq}
use Rattle.std.specs.Str.Parse.{AllDigits, digits_value}
use Rattle.std.specs.Char.{digit_value}
use Rattle.std.proofs.lemmas.Bool.Decides.{nat_tests}
use Rattle.std.proofs.lemmas.Fmt.{decimal_is_IsNumeral}
use Rattle.std.proofs.lemmas.Slice.Eq.{bytes_eq-Decides}
use Rattle.std.proofs.Math.Seq.{take-append_seam, drop-append_seam}
use Rattle.rx_rules.proofs.Common.{Kill}
use Rattle.rx_text.specs.Numbers.{natural_text}
use Rattle.rx_kills.specs.Words.{kill_text, IsKillWord, Spelling}

-- what is not the sign `@`
abbrev pub no_sign : ℕ → Bool
no_sign b = not (b == 64)

-- no digit is the sign
digit-is-none : (c : ℕ) → digit_value c < 10 → no_sign c ≡ true
digit-is-none c d = ne_sign c (λ e. let k : digit_value 64 < 10 = subst (λ (x : ℕ). digit_value x < 10) e d in omega arith)
  where
    ne_sign : (c : ℕ) → (c ≡ 64 → ⊥) → no_sign c ≡ true
    ne_sign c other = grind (arith, nat_tests)

all-pass : (cs : List ℕ) → AllDigits 10 cs → prefix_len no_sign cs ≡ length cs
all-pass [] d = refl
all-pass (c ∷ cs) d =
    let rest : prefix_len no_sign cs ≡ length cs = all-pass cs d.1 in
    ap (λ b. cond b (1 + prefix_len no_sign cs) 0) (digit-is-none c d.0) ∙ omega (arith, rest)

digits-pass : (n : ℕ) → n < 2 ^ 64 → prefix_len no_sign (natural_text n) ≡ length (natural_text n)
digits-pass n small = all-pass (natural_text n) (decimal_is_IsNumeral n small).0.1

head-passes : (c : ℕ) (cs : List ℕ) (b : Bool) → no_sign c ≡ b → prefix_len no_sign (c ∷ cs) ≡ suc (length cs) → (no_sign c ≡ true) × (prefix_len no_sign cs ≡ length cs)
head-passes c cs true h e =
    let one : 1 + prefix_len no_sign cs ≡ suc (length cs) = sym (ap (λ b. cond b (1 + prefix_len no_sign cs) 0) h) ∙ e in (h, omega (arith, one))
head-passes c cs false h e =
    let none : 0 ≡ suc (length cs) = sym (ap (λ b. cond b (1 + prefix_len no_sign cs) 0) h) ∙ e in absurd (omega (arith, none))

-- up to the sign
sign-by : (cs rest : List ℕ) → prefix_len no_sign cs ≡ length cs → prefix_len no_sign (cs ++ 64 ∷ rest) ≡ length cs
sign-by [] rest e = refl
sign-by (c ∷ cs) rest e =
    let h = head-passes c cs (no_sign c) refl e in
    let more : prefix_len no_sign (cs ++ 64 ∷ rest) ≡ length cs = sign-by cs rest h.1 in
    ap (λ b. cond b (1 + prefix_len no_sign (cs ++ 64 ∷ rest)) 0) h.0 ∙ omega (arith, more)

sign-after : (m : ℕ) (rest : List ℕ) → m < 2 ^ 64 → prefix_len no_sign (natural_text m ++ 64 ∷ rest) ≡ length (natural_text m)
sign-after m rest small = sign-by (natural_text m) rest (digits-pass m small)

-- the kill that a word is the text of, if it is that of one: the values on both sides of its first sign
candidate : List ℕ → Kill
candidate word =
    record { place = record { 0 = digits_value 10 (take (prefix_len no_sign word) word) }; moment = digits_value 10 (drop (suc (prefix_len no_sign word)) word) }

is-candidate : (word : List ℕ) (kill : Kill) → IsKillWord word kill → candidate word ≡ kill
unfolding candidate
is-candidate word kill is =
    let place = natural_text kill.place.0 in
    let moment = natural_text kill.moment in
    let small : kill.place.0 < 2 ^ 64 = omega (arith, is.place) in
    let few : kill.moment < 2 ^ 64 = omega (arith, is.moment) in
    let at : prefix_len no_sign word ≡ length place = ap (prefix_len no_sign) is.spelled ∙ sign-after kill.place.0 moment small in
    let front : take (prefix_len no_sign word) word ≡ place = ap (λ n. take n word) at ∙ ap (take (length place)) is.spelled ∙ take-append_seam place (64 ∷ moment) in
    let parts : word ≡ (place ++ 64 ∷ []) ++ moment = is.spelled ∙ sym (append_assoc place (64 ∷ []) moment) in
    let long : suc (length place) ≡ length (place ++ 64 ∷ []) = omega (arith, length-append place (64 ∷ [])) in
    let back : drop (suc (prefix_len no_sign word)) word ≡ moment = ap (λ n. drop (suc n) word) at ∙ ap (λ n. drop n word) long ∙ ap (drop (length (place ++ 64 ∷ []))) parts ∙ drop-append_seam (place ++ 64 ∷ []) moment in
    let a : digits_value 10 (take (prefix_len no_sign word) word) ≡ kill.place.0 = ap (digits_value 10) front ∙ (decimal_is_IsNumeral kill.place.0 small).1 in
    let b : digits_value 10 (drop (suc (prefix_len no_sign word)) word) ≡ kill.moment = ap (digits_value 10) back ∙ (decimal_is_IsNumeral kill.moment few).1 in
    ap (λ n. (let k : Kill = record { place = record { 0 = n }; moment = digits_value 10 (drop (suc (prefix_len no_sign word)) word) } in k)) a
    ∙ ap (λ n. (let k : Kill = record { place = kill.place; moment = n } in k)) b

-- where a word can be the text of one kill alone, that kill is tried
tried : (word : List ℕ) (k : Kill) → ((j : Kill) → IsKillWord word j → k ≡ j) → Spelling word
tried word k one = by (bytes_eq word (kill_text k)) (nat_lt k.place.0 16) (nat_le k.moment 1000000) refl refl refl
  where
    none : (IsKillWord word k → ⊥) → Spelling word
    none other = record { kill = None; spelled = tt; exact = λ j is. absurd (other (subst (IsKillWord word) (sym (one j is)) is)) }

    by : (a b d : Bool) → bytes_eq word (kill_text k) ≡ a → nat_lt k.place.0 16 ≡ b → nat_le k.moment 1000000 ≡ d → Spelling word
    by true true true e f g =
        record { kill = Some k; spelled = record { place = grind (arith, nat_tests); moment = grind (arith, nat_tests); spelled = (bytes_eq-Decides word (kill_text k)).0 e }; exact = λ j is. ap (λ x. Some x) (one j is) }
    by true true false e f g = none (λ is. (let m : k.moment ≤ 1000000 = is.moment in grind (arith, nat_tests)))
    by true false d e f g = none (λ is. (let p : k.place.0 < 16 = is.place in grind (arith, nat_tests)))
    by false b d e f g = none (λ is. (let t : bytes_eq word (kill_text k) ≡ true = (bytes_eq-Decides word (kill_text k)).1 is.spelled in cc))

pub spelling : (word : List ℕ) → Spelling word
spelling word = tried word (candidate word) (is-candidate word)

-- an answer that tells the kill of a word is the one
pub spelling-told : (r : Option Kill) (word : List ℕ) → IfSome r (λ k. IsKillWord word k) → ((k : Kill) → IsKillWord word k → r ≡ Some k) → r ≡ (spelling word).kill
spelling-told (Some k) word spelled exact = sym ((spelling word).exact k spelled)
spelling-told None word spelled exact = by (spelling word).kill (spelling word).spelled
  where
    by : (o : Option Kill) → IfSome o (IsKillWord word) → None ≡ o
    by None is = refl
    by (Some k) is = exact k is
