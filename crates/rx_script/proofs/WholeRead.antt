-- What has been read of the tokens says what the bytes are.
use Rattle.std.proofs.Common.{◌≡◌, ℕ, ◌-◌, ◌<◌, List, length, ap, sym, ◌∙◌, subst, arith, Some, Result, Ok, Err, slice_get}
use Rattle.rx_syntax.specs.Scans.{Scans}
use Rattle.rx_script.specs.Faults.{IsFaultAt}
use Rattle.rx_syntax.specs.Tokens.{AreNames}
use Rattle.rx_syntax.specs.Grammar.{IsScriptOf}
use Rattle.rx_script.specs.Places.{IsPlace}
use Rattle.rx_script.specs.Inside.Arena.{IsRead, IsParsed}
use Rattle.rx_syntax.specs.declared.token.Token.{Token}
use Rattle.rx_script.specs.declared.reader.Reader.{Reader}
use Rattle.rx_script.proofs.ScriptTokens.{scanned-script}
use Rattle.rx_syntax.proofs.Scanning.{starts-long}

-- the tokens of the bytes, with their starts and names
pub record IsScanned (names : List (List ℕ)) (bytes : List ℕ) (tokens : List Token) (starts : List ℕ) : Type 0 where
  pub scans : Scans names (length bytes) bytes tokens starts
  pub are_names : AreNames names tokens

pub parse-ok : (tokens ts : List Token) (a : Result Reader ℕ) (r : Reader) → tokens ≡ ts → a ≡ Ok r → IsParsed tokens a → IsRead ts r
parse-ok tokens ts a r e f h =
    let k : IsParsed tokens (Ok r) = subst (λ (b : Result Reader ℕ). IsParsed tokens b) f h in
    subst (λ (us : List Token). IsRead us r) e k

pub parse-err : (tokens ts : List Token) (a : Result Reader ℕ) (left : ℕ) → tokens ≡ ts → a ≡ Err left → IsParsed tokens a → (bad : List Token) × (left ≡ length bad) × IsPlace ts bad
parse-err tokens ts a left e f h =
    let k : IsParsed tokens (Err left) = subst (λ (b : Result Reader ℕ). IsParsed tokens b) f h in
    (k.0, k.1, subst (λ (us : List Token). IsPlace us k.0) e k.2)

pub is-script : (names : List (List ℕ)) (bytes : List ℕ) (tokens : List Token) (starts : List ℕ) (r : Reader) → IsScanned names bytes tokens starts → (k : IsRead tokens r) → IsScriptOf names bytes k.script
is-script names bytes tokens starts r s k =
    scanned-script names bytes k.script starts
    (subst (λ (ts : List Token). Scans names (length bytes) bytes ts starts) k.spelled s.scans)
    (subst (λ (ts : List Token). AreNames names ts) k.spelled s.are_names)
    k.fits

pub is-fault : (names : List (List ℕ)) (bytes : List ℕ) (tokens : List Token) (starts : List ℕ) (left at : ℕ) → IsScanned names bytes tokens starts → (bad : List Token) × (left ≡ length bad) × IsPlace tokens bad → slice_get starts (length tokens - left) ≡ Some at → IsFaultAt bytes at
is-fault names bytes tokens starts left at s p e = record {
  names = names;
  tokens = tokens;
  starts = starts;
  scans = s.scans;
  are_names = s.are_names;
  bad = p.0;
  place = p.2;
  start = ap (λ n. slice_get starts (length tokens - n)) (sym p.1) ∙ e;
}

pub start-within : (names : List (List ℕ)) (bytes : List ℕ) (tokens : List Token) (starts : List ℕ) (left : ℕ) → IsScanned names bytes tokens starts → length tokens - left < length starts
start-within names bytes tokens starts left s = omega (arith, starts-long names (length bytes) bytes tokens starts s.scans)
