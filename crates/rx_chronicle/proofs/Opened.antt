-- A chronicle without entries.
use Rattle.std.proofs.Common.{◌≡◌, ℕ, ◌+◌, ◌-◌, length, ◌%◌, ◌^◌, ◌<◌, ◌≤◌, ◌==◌, false, List, [], ◌∷◌, refl, ap, sym, subst, arith}
use Rattle.std.proofs.Math.Nat.{zero-div}
use Rattle.rx_rules.proofs.Common.{has_bit, Tree, the_root, opening, Event, Given, Proper, plan_of}
use Rattle.rx_history.specs.Logs.{Log}
use Rattle.rx_history.specs.Setups.{given}
use Rattle.rx_history.specs.declared.setup.Setup.{Setup}
use Rattle.rx_runs.proofs.Plans.{plan_comes}
use Rattle.rx_chronicle.specs.declared.notes.Note.{Note}
use Rattle.rx_chronicle.specs.Keeping.{KeepsSo, Keeps}

pub no_bit : (p : ℕ) → has_bit 0 p ≡ false
no_bit p = ap (λ n. (n % 2) == 1) (zero-div (2 ^ p))

pub opens : {L : Type 0} (stands : L → ℕ → Tree → Type 0) (U : Given) (l : L) → Proper U → stands l (length U.joins) (opening U.places) → KeepsSo stands U l [] (plan_of U) (record { 0 = 0 }) false (record { opener = record { 0 = 0 }; parent = the_root; faults = 0 } ∷ [])
opens stands U l proper stood =
    record {
      proper = proper;
      folds = record { some = proper.some; few = (let a = proper.few in omega (arith, a)); allowed = tt; plan = tt };
      tree = subst (λ (n : ℕ). stands l n (opening U.places)) (let z : length U.joins ≡ U.places + length U.joins - U.places = omega arith in z) stood;
      left = refl;
      come = plan_comes U proper;
      ending = tt;
      died = λ p low. no_bit p;
      noted = record { parents = refl; openers = refl; bounds = (((let a : 0 < 1 = omega arith in a), (let b : 0 ≤ 0 = omega arith in b)), tt) };
    }

-- the same of the parts of one that was just made
pub opened : {L : Type 0} (stands : L → ℕ → Tree → Type 0) (s : Setup) (l : L) → Proper (given s) → stands l (length s.joins) (opening s.places) → (h : Log) → h ≡ record { setup = s; entries = []; spare = 0 } → (ks : List Event) → ks ≡ plan_of (given s) → (ns : List Note) → ns ≡ record { opener = record { 0 = 0 }; parent = the_root; faults = 0 } ∷ [] → Keeps stands h l ks (record { 0 = 0 }) false ns
opened stands s l proper stood h history ks plan ns notes =
    subst (λ (x : Log). Keeps stands x l ks (record { 0 = 0 }) false ns) (sym history)
    (subst (λ (xs : List Event). KeepsSo stands (given s) l [] xs (record { 0 = 0 }) false ns) (sym plan)
    (subst (λ (xs : List Note). KeepsSo stands (given s) l [] (plan_of (given s)) (record { 0 = 0 }) false xs) (sym notes) (opens stands (given s) l proper stood)))
