-- The numbers of a path, one after the other.
use Rattle.std.proofs.Common.{◌≡◌, ℕ, ◌<◌, ◌≤◌, cond, nat_le, List, [], ◌∷◌, ◌++◌, length, refl, ap, sym, ◌∙◌, arith, append_assoc, Option, Some, None, option_map}
use Rattle.std.proofs.lemmas.Bool.{lt-leb, le-leb}
use Rattle.rx_fields.specs.Words.{Lacks, pieces}
use Rattle.rx_fields.specs.Inside.FieldWords.{next, natural_of, naturals_of, path_of}
use Rattle.rx_fields.proofs.Cuts.{pieces-cut, pieces-one}

abbrev consed : ℕ → List ℕ → List ℕ
consed n ns = n ∷ ns

abbrev Left : List ℕ → List ℕ → List ℕ → Type 0
Left pre rest word = option_map (λ ns. pre ++ ns) (naturals_of (pieces 46 rest)) ≡ naturals_of (pieces 46 word)

front-read : (rest front tail : List ℕ) → rest ≡ front ++ 46 ∷ tail → Lacks 46 front → naturals_of (pieces 46 rest) ≡ next (natural_of front) (λ n. option_map (consed n) (naturals_of (pieces 46 tail)))
front-read rest front tail is lacks = ap (λ r. naturals_of (pieces 46 r)) is ∙ ap naturals_of (pieces-cut 46 front tail lacks)

pub push-through : (pre : List ℕ) (n : ℕ) (o : Option (List ℕ)) → option_map (λ ns. (pre ++ n ∷ []) ++ ns) o ≡ option_map (λ ns. pre ++ ns) (option_map (consed n) o)
push-through pre n None = refl
push-through pre n (Some ns) = ap Some (append_assoc pre (n ∷ []) ns)

-- a number more
pub number-more : (pre new rest front tail word : List ℕ) (n : ℕ) → Left pre rest word → rest ≡ front ++ 46 ∷ tail → Lacks 46 front → natural_of front ≡ Some n → new ≡ pre ++ n ∷ [] → Left new tail word
number-more pre new rest front tail word n left is lacks e more =
    ap (λ p. option_map (λ ns. p ++ ns) (naturals_of (pieces 46 tail))) more
    ∙ push-through pre n (naturals_of (pieces 46 tail))
    ∙ ap (λ o. option_map (λ ns. pre ++ ns) (next o (λ k. option_map (consed k) (naturals_of (pieces 46 tail))))) (sym e)
    ∙ ap (option_map (λ ns. pre ++ ns)) (sym (front-read rest front tail is lacks)) ∙ left

abbrev short_path : List ℕ → Option (List ℕ)
short_path ns = cond (nat_le (length ns) 65) (Some ns) None

-- a part that is no number
pub number-none : (pre rest front tail word : List ℕ) → Left pre rest word → rest ≡ front ++ 46 ∷ tail → Lacks 46 front → natural_of front ≡ None → None ≡ path_of word
number-none pre rest front tail word left is lacks e =
    ap (λ o. next (option_map (λ ns. pre ++ ns) (next o (λ k. option_map (consed k) (naturals_of (pieces 46 tail))))) short_path) (sym e)
    ∙ ap (λ o. next (option_map (λ ns. pre ++ ns) o) short_path) (sym (front-read rest front tail is lacks))
    ∙ ap (λ o. next o short_path) left

last-read : (rest : List ℕ) → Lacks 46 rest → naturals_of (pieces 46 rest) ≡ next (natural_of rest) (λ n. Some (n ∷ []))
last-read rest lacks = ap naturals_of (pieces-one 46 rest lacks)

pub last-none : (pre rest word : List ℕ) → Left pre rest word → Lacks 46 rest → natural_of rest ≡ None → None ≡ path_of word
last-none pre rest word left lacks e =
    ap (λ o. next (option_map (λ ns. pre ++ ns) (next o (λ k. Some (k ∷ [])))) short_path) (sym e)
    ∙ ap (λ o. next (option_map (λ ns. pre ++ ns) o) short_path) (sym (last-read rest lacks))
    ∙ ap (λ o. next o short_path) left

last-some : (pre new rest word : List ℕ) (n : ℕ) → Left pre rest word → Lacks 46 rest → natural_of rest ≡ Some n → new ≡ pre ++ n ∷ [] → short_path new ≡ path_of word
last-some pre new rest word n left lacks e more =
    ap short_path more
    ∙ ap (λ o. next (option_map (λ ns. pre ++ ns) (next o (λ k. Some (k ∷ [])))) short_path) (sym e)
    ∙ ap (λ o. next (option_map (λ ns. pre ++ ns) o) short_path) (sym (last-read rest lacks))
    ∙ ap (λ o. next o short_path) left

pub last-long : (pre new rest word : List ℕ) (n len : ℕ) → Left pre rest word → Lacks 46 rest → natural_of rest ≡ Some n → new ≡ pre ++ n ∷ [] → len ≡ length new → 65 < len → None ≡ path_of word
last-long pre new rest word n len left lacks e more is long = ap (λ b. cond b (Some new) None) (sym (lt-leb (length new) 65 (omega arith))) ∙ last-some pre new rest word n left lacks e more

pub last-ok : (pre new rest word : List ℕ) (n len : ℕ) → Left pre rest word → Lacks 46 rest → natural_of rest ≡ Some n → new ≡ pre ++ n ∷ [] → len ≡ length new → len ≤ 65 → Some new ≡ path_of word
last-ok pre new rest word n len left lacks e more is few = ap (λ b. cond b (Some new) None) (sym (le-leb (length new) 65 (omega arith))) ∙ last-some pre new rest word n left lacks e more
