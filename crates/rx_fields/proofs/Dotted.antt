-- Numbers that stand one behind the other, with dots.
use Rattle.std.proofs.Common.{◌≡◌, ℕ, ◌+◌, ◌<◌, ◌≤◌, ◌^◌, true, cond, nat_le, List, [], ◌∷◌, ◌++◌, length, take, zero, suc, refl, ap, sym, ◌∙◌, subst, arith, append_assoc, ◌≢◌, Some, None, option_map, slice_set}
use Rattle.std.specs.List.{AllByRecursion, flat_map}
use Rattle.std.proofs.lemmas.Bool.{le-leb}
use Rattle.std.proofs.lemmas.List.{length-take}
use Rattle.rx_text.specs.Numbers.{natural_text}
use Rattle.rx_fields.specs.Words.{Lacks, pieces, words_left}
use Rattle.rx_fields.specs.Inside.FieldWords.{next, naturals_of, path_of, path_at}
use Rattle.rx_fields.specs.Inside.Readers.{is_word_end}
use Rattle.rx_fields.proofs.Cuts.{all-append, pieces-cut, pieces-one}
use Rattle.rx_fields.proofs.Fronts.{no-blank, no_dot, read_again, word-then}

-- numbers below 2^32
abbrev pub Short : List ℕ → Type 0
Short ns = AllByRecursion (λ n. n < 2 ^ 32) ns

-- numbers, each with a dot behind it
abbrev pub ended : List ℕ → List ℕ
ended ns = flat_map (λ n. natural_text n ++ 46 ∷ []) ns

dot-is : ◌≢◌ {A = ℕ} 46 32
dot-is e = omega (arith, e)

dot-lacks : (w rest : List ℕ) → Lacks 32 w → Lacks 32 rest → Lacks 32 ((w ++ 46 ∷ []) ++ rest)
dot-lacks w rest l m = all-append (λ b. b ≢ 32) (w ++ 46 ∷ []) rest (all-append (λ b. b ≢ 32) w (46 ∷ []) l (dot-is, tt)) m

ended-one : (n : ℕ) (ns : List ℕ) → ended (n ∷ ns) ≡ (natural_text n ++ 46 ∷ []) ++ ended ns
ended-one n ns = refl

-- they have no blank
ended-lacks : (ns : List ℕ) → Short ns → Lacks 32 (ended ns)
ended-lacks [] s = tt
ended-lacks (n ∷ ns) s = subst (Lacks 32) (sym (ended-one n ns)) (dot-lacks (natural_text n) (ended ns) (no-blank n s.0) (ended-lacks ns s.1))

-- numbers and a last one are read again
read-all : (ns : List ℕ) (n : ℕ) → Short ns → n < 2 ^ 32 → naturals_of (pieces 46 (ended ns ++ natural_text n)) ≡ Some (ns ++ n ∷ [])
read-all [] n s low = ap naturals_of (pieces-one 46 (natural_text n) (no_dot n low)) ∙ ap (λ o. next o (λ k. Some (k ∷ []))) (read_again n low)
read-all (m ∷ ns) n s low =
    ap (λ w. naturals_of (pieces 46 w)) (append_assoc (natural_text m ++ 46 ∷ []) (ended ns) (natural_text n) ∙ append_assoc (natural_text m) (46 ∷ []) (ended ns ++ natural_text n))
    ∙ ap naturals_of (pieces-cut 46 (natural_text m) (ended ns ++ natural_text n) (no_dot m s.0))
    ∙ ap (λ o. next o (λ k. option_map (λ ks. k ∷ ks) (naturals_of (pieces 46 (ended ns ++ natural_text n))))) (read_again m s.0)
    ∙ ap (option_map (λ ks. m ∷ ks)) (read-all ns n s.1 low)

-- one number more, in front of the rest of the list
take-set : (xs : List ℕ) (len n : ℕ) → len < length xs → take (suc len) (slice_set xs len n) ≡ take len xs ++ n ∷ []
take-set [] len n low = absurd (omega arith)
take-set (x ∷ xs) zero n low = refl
take-set (x ∷ xs) (suc len) n low = ap (λ l. x ∷ l) (take-set xs len n (omega (arith, low)))

pub take-more : (xs : List ℕ) (len n : ℕ) → len < length xs → take (len + 1) (slice_set xs len n) ≡ take len xs ++ n ∷ []
take-more xs len n low = ap (λ k. take k (slice_set xs len n)) (let one : len + 1 ≡ suc len = omega arith in one) ∙ take-set xs len n low

pub set-keeps : (xs : List ℕ) (len n : ℕ) → length (slice_set xs len n) ≡ length xs
set-keeps [] len n = refl
set-keeps (x ∷ xs) zero n = refl
set-keeps (x ∷ xs) (suc len) n = ap suc (set-keeps xs len n)

-- they are no more than a path has
pub few-long : (xs : List ℕ) (k : ℕ) → k ≤ 65 → length (take k xs) ≤ 65
few-long xs k few = omega (arith, length-take k xs)

short-more : (ns : List ℕ) (n : ℕ) → Short ns → n < 2 ^ 32 → Short (ns ++ n ∷ [])
short-more ns n s low = all-append (λ k. k < 2 ^ 32) ns (n ∷ []) s (low, tt)

ended-more : (ns : List ℕ) (n : ℕ) → ended (ns ++ n ∷ []) ≡ ended ns ++ (natural_text n ++ 46 ∷ [])
ended-more [] n = append-end (natural_text n ++ 46 ∷ [])
  where
    append-end : (xs : List ℕ) → xs ++ [] ≡ xs
    append-end [] = refl
    append-end (x ∷ xs) = ap (λ l. x ∷ l) (append-end xs)
ended-more (m ∷ ns) n = ap (λ l. (natural_text m ++ 46 ∷ []) ++ l) (ended-more ns n) ∙ sym (append_assoc (natural_text m ++ 46 ∷ []) (ended ns) (natural_text n ++ 46 ∷ []))

-- the bytes are these numbers, each with a dot behind it, and what is left
abbrev pub Read : List ℕ → List ℕ → List ℕ → Type 0
Read bytes ns rest = (bytes ≡ ended ns ++ rest) × Short ns

-- the numbers have one more
pub read-more : (bytes ns new rest tail after : List ℕ) (n : ℕ) → Read bytes ns rest → n < 2 ^ 32 → rest ≡ natural_text n ++ tail → tail ≡ 46 ∷ after → new ≡ ns ++ n ∷ [] → Read bytes new after
read-more bytes ns new rest tail after n r low is dot e = (
  r.0 ∙ ap (λ l. ended ns ++ l) (is ∙ ap (λ l. natural_text n ++ l) dot ∙ sym (append_assoc (natural_text n) (46 ∷ []) after)) ∙ sym (append_assoc (ended ns) (natural_text n ++ 46 ∷ []) after) ∙ ap (λ l. l ++ after) (sym (ended-more ns n)) ∙ ap (λ l. ended l ++ after) (sym e),
  subst Short (sym e) (short-more ns n r.1 low),
)

-- the last number makes a path of them
pub read-path : (bytes ns new rest tail : List ℕ) (n : ℕ) → Read bytes ns rest → n < 2 ^ 32 → rest ≡ natural_text n ++ tail → is_word_end tail ≡ true → new ≡ ns ++ n ∷ [] → length new ≤ 65 → path_at (pieces 32 bytes) ≡ Some (new, words_left tail)
read-path bytes ns new rest tail n r low is end e few =
    ap path_at cut ∙ ap (option_map (λ a. (a, words_left tail))) path
  where
    word : List ℕ
    word = ended ns ++ natural_text n

    whole : bytes ≡ word ++ tail
    whole = r.0 ∙ ap (λ l. ended ns ++ l) is ∙ sym (append_assoc (ended ns) (natural_text n) tail)

    cut : pieces 32 bytes ≡ word ∷ words_left tail
    cut = ap (pieces 32) whole ∙ word-then word tail (all-append (λ b. b ≢ 32) (ended ns) (natural_text n) (ended-lacks ns r.1) (no-blank n low)) end

    path : path_of word ≡ Some new
    path =
        ap (λ o. next o (λ ks. cond (nat_le (length ks) 65) (Some ks) None)) (read-all ns n r.1 low ∙ ap Some (sym e))
        ∙ ap (λ b. cond b (Some new) None) (le-leb (length new) 65 few)
