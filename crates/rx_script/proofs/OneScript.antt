-- Bytes are one script at most, or have one place where they go wrong, and what is written is the script that it was written from.
use Rattle.std.proofs.Common.{◌≡◌, ℕ, ◌-◌, List, [], length, Some, slice_get, sym, ap, subst, ◌∙◌, arith}
use Rattle.std.proofs.lemmas.Option.{same_Some}
use Rattle.rx_rules.proofs.Common.{Block}
use Rattle.rx_syntax.specs.declared.token.Token.{Token}
use Rattle.rx_syntax.specs.Scans.{Scans}
use Rattle.rx_syntax.specs.Grammar.{spellings, IsScriptOf}
use Rattle.rx_script.specs.Places.{IsPlace}
use Rattle.rx_script.specs.Faults.{IsFaultAt}
use Rattle.rx_script.specs.Writing.{WrittenReadsBack, ScriptsAreSpelled}
use Rattle.rx_syntax.proofs.Scanning.{begins-scans}
use Rattle.rx_syntax.proofs.OneScan.{one-scan}
use Rattle.rx_syntax.proofs.Spelling.{begins-spelled}
use Rattle.rx_syntax.proofs.ReadBack.{joined-begin, all-plain}
use Rattle.rx_script.proofs.Places.{one-place, no-place, one-tree}

-- a script is scanned
script-scans : (names : List (List ℕ)) (bytes : List ℕ) (t : Block) → IsScriptOf names bytes t → (starts : List ℕ) × Scans names (length bytes) bytes (spellings t) starts
script-scans names bytes t s = begins-scans names (length bytes) bytes (spellings t) (omega arith) s.lexes.begins

-- bytes are one script at most
pub one-script : (bytes : List ℕ) (names other : List (List ℕ)) (s t : Block) → IsScriptOf names bytes s → IsScriptOf other bytes t → (names ≡ other) × (s ≡ t)
one-script bytes names other s t a b =
    let v = script-scans names bytes s a in
    let w = script-scans other bytes t b in
    let one = one-scan names other (length bytes) bytes (spellings s) (spellings t) v.0 w.0 v.1 a.lexes.are_names w.1 b.lexes.are_names in
    (one.0, one-tree s t a.fits b.fits one.1)

-- they have one place at most where they can't go on
pub one-fault : (bytes : List ℕ) (m n : ℕ) → IsFaultAt bytes m → IsFaultAt bytes n → m ≡ n
one-fault bytes m n a b =
    let one = one-scan a.names b.names (length bytes) bytes a.tokens b.tokens a.starts b.starts a.scans a.are_names b.scans b.are_names in
    let bad : a.bad ≡ b.bad = one-place b.tokens a.bad b.bad (subst (λ (us : List Token). IsPlace us a.bad) one.1 a.place) b.place in
    let there : slice_get b.starts (length b.tokens - length b.bad) ≡ Some m = ap (λ ss. slice_get ss (length b.tokens - length b.bad)) (sym one.2) ∙ ap (λ (us : List Token). slice_get a.starts (length us - length b.bad)) (sym one.1) ∙ ap (λ (us : List Token). slice_get a.starts (length a.tokens - length us)) (sym bad) ∙ a.start in
    same_Some m n (sym there ∙ b.start)

-- a script has none
pub no-fault : (bytes : List ℕ) (names : List (List ℕ)) (s : Block) (n : ℕ) → IsScriptOf names bytes s → IsFaultAt bytes n → ⊥
no-fault bytes names s n a b =
    let v = script-scans names bytes s a in
    let one = one-scan names b.names (length bytes) bytes (spellings s) b.tokens v.0 b.starts v.1 a.lexes.are_names b.scans b.are_names in
    no-place s b.bad a.fits (subst (λ (us : List Token). IsPlace us b.bad) (sym one.1) b.place)

-- the tokens of a script's bytes can be spelled
pub scripts-are-spelled : ScriptsAreSpelled
scripts-are-spelled names bytes b h = begins-spelled names bytes (spellings b) [] h.lexes.begins

-- what is written reads back
pub written-reads-back : WrittenReadsBack
written-reads-back names b are fits spelled = record {
  lexes = record { begins = joined-begin names (spellings b) (all-plain names (spellings b) 0 are.are_names are.in_order spelled); are_names = are };
  fits = fits;
}
