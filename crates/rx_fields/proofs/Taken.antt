-- What stands before a byte, and after it.
use Rattle.std.proofs.Common.{◌≡◌, ℕ, ◌+◌, ◌-◌, ◌<◌, Bool, true, false, cond, ◌==◌, not, List, [], ◌∷◌, ◌++◌, length, take, drop, suc, refl, ap, sym, ◌∙◌, subst, arith, Some}
use Rattle.std.specs.List.{prefix_len}
use Rattle.std.proofs.lemmas.Bool.{eqb-true, eq-eqb, eqb-false}
use Rattle.std.proofs.lemmas.List.{take_rest, take_all, drop_all, length-take-le}
use Rattle.std.proofs.lemmas.List.Sums.{prefix_len-le-length}
use Rattle.std.proofs.Math.Seq.{drop-append_seam}
use Rattle.rx_fields.specs.Words.{Lacks, pieces, later, words_left, first_word}
use Rattle.rx_fields.proofs.Cuts.{pieces-cut, pieces-one}

abbrev pub before : ℕ → List ℕ → ℕ
before c bytes = prefix_len (λ b. not (b == c)) bytes

pub lacks-before : (c : ℕ) (bytes : List ℕ) → Lacks c (take (before c bytes) bytes)
lacks-before c [] = tt
lacks-before c (b ∷ bs) = by (b == c) refl (lacks-before c bs)
  where
    by : (t : Bool) → (b == c) ≡ t → Lacks c (take (before c bs) bs) → Lacks c (take (cond (not t) (1 + before c bs) 0) (b ∷ bs))
    by true e more = tt
    by false e more = let one : 1 + before c bs ≡ suc (before c bs) = omega arith in subst (λ n. Lacks c (take n (b ∷ bs))) (sym one) (eqb-false b c e, more)

pub lacks-all : (c : ℕ) (bytes : List ℕ) → before c bytes ≡ length bytes → Lacks c bytes
lacks-all c [] e = tt
lacks-all c (b ∷ bs) e = by (b == c) refl e (lacks-all c bs)
  where
    by : (t : Bool) → (b == c) ≡ t → cond (not t) (1 + before c bs) 0 ≡ length (b ∷ bs) → (before c bs ≡ length bs → Lacks c bs) → Lacks c (b ∷ bs)
    by true h f more = absurd (omega arith)
    by false h f more = (eqb-false b c h, more (omega arith))

-- the byte stands there
pub cut-there : (c : ℕ) (bytes : List ℕ) → (before c bytes ≡ length bytes → ⊥) → bytes ≡ take (before c bytes) bytes ++ c ∷ drop (before c bytes + 1) bytes
cut-there c [] some = absurd (some refl)
cut-there c (b ∷ bs) some = by (b == c) refl (λ e. some e) (cut-there c bs)
  where
    by : (t : Bool) → (b == c) ≡ t → (cond (not t) (1 + before c bs) 0 ≡ length (b ∷ bs) → ⊥) → ((before c bs ≡ length bs → ⊥) → bs ≡ take (before c bs) bs ++ c ∷ drop (before c bs + 1) bs)
        → b ∷ bs ≡ take (cond (not t) (1 + before c bs) 0) (b ∷ bs) ++ c ∷ drop (cond (not t) (1 + before c bs) 0 + 1) (b ∷ bs)
    by true h none more = ap (λ x. x ∷ bs) (eqb-true b c h)
    by false h none more =
        let one : 1 + before c bs ≡ suc (before c bs) = omega arith in
        let two : 1 + before c bs + 1 ≡ suc (before c bs + 1) = omega arith in
        ap (λ t. b ∷ t) (more (λ e. none (omega arith))) ∙ ap (λ n. take n (b ∷ bs) ++ c ∷ drop (before c bs + 1) bs) (sym one) ∙ ap (λ n. take (1 + before c bs) (b ∷ bs) ++ c ∷ drop n (b ∷ bs)) (sym two)

-- what is cut off at the byte
pub cut-is : (c n : ℕ) (bytes : List ℕ) → n ≡ before c bytes → (n ≡ length bytes → ⊥) → (bytes ≡ take n bytes ++ c ∷ take (length bytes - (n + 1)) (drop (n + 1) bytes)) × Lacks c (take n bytes)
cut-is c n bytes is some = (
  cut-there c bytes (λ e. some (is ∙ e)) ∙ ap (λ k. take k bytes ++ c ∷ drop (k + 1) bytes) (sym is) ∙ ap (λ r. take n bytes ++ c ∷ r) (sym (take_rest bytes (n + 1))),
  subst (λ k. Lacks c (take k bytes)) (sym is) (lacks-before c bytes),
)

pub none-left : (rest : List ℕ) → Lacks 32 rest → words_left rest ≡ []
none-left rest lacks = ap later (pieces-one 32 rest lacks)

-- bytes that have no blank, or have one after the word
first-cut : (t : List ℕ) (n : ℕ) → n ≡ before 32 t → (b : Bool) → (n == length t) ≡ b → pieces 32 t ≡ take n t ∷ words_left (drop n t)
first-cut t n is true e =
    let end : n ≡ length t = eqb-true n (length t) e in
    pieces-one 32 t (lacks-all 32 t (sym is ∙ end)) ∙ ap (λ w. w ∷ []) (sym (take_all n t (omega arith))) ∙ ap (λ r. take n t ∷ words_left r) (sym (drop_all n t (omega arith)))
first-cut t n is false e =
    let open_end : n ≡ length t → ⊥ = λ h. (let y : (n == length t) ≡ true = eq-eqb n (length t) h in cc) in
    let there : t ≡ take n t ++ 32 ∷ drop (n + 1) t = cut-there 32 t (λ h. open_end (is ∙ h)) ∙ ap (λ k. take k t ++ 32 ∷ drop (k + 1) t) (sym is) in
    let free : Lacks 32 (take n t) = subst (λ k. Lacks 32 (take k t)) (sym is) (lacks-before 32 t) in
    let long : n < length t = omega (arith, prefix_len-le-length (λ b. not (b == 32)) t, is, open_end) in
    let rest : drop n t ≡ 32 ∷ drop (n + 1) t = ap (drop n) there ∙ ap (λ k. drop k (take n t ++ 32 ∷ drop (n + 1) t)) (sym (length-take-le n t (omega arith))) ∙ drop-append_seam (take n t) (32 ∷ drop (n + 1) t) in
    ap (pieces 32) there ∙ pieces-cut 32 (take n t) (drop (n + 1) t) free ∙ ap (λ r. take n t ∷ words_left r) (sym rest)

-- the first word of bytes that begin with it
pub word-first : (n : ℕ) (tail : List ℕ) → n ≡ before 32 tail → pieces 32 tail ≡ take n tail ∷ words_left (take (length tail - n) (drop n tail))
word-first n tail is = first-cut tail n is (n == length tail) refl ∙ ap (λ r. take n tail ∷ words_left r) (sym (take_rest tail n))

-- the next word of what is left of a line
pub next-word : (n : ℕ) (rest front tail : List ℕ) → rest ≡ front ++ 32 ∷ tail → Lacks 32 front → n ≡ before 32 tail → Some (take n tail, words_left (take (length tail - n) (drop n tail))) ≡ first_word (words_left rest)
next-word n rest front tail whole lacks is =
    sym (ap (λ r. first_word (words_left r)) whole ∙ ap (λ ws. first_word (later ws)) (pieces-cut 32 front tail lacks) ∙ ap first_word (word-first n tail is))
