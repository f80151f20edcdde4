-- Lawful events and one more.
use Rattle.std.proofs.Common.{◌≡◌, ◌⊎◌, ℕ, zero, suc, ◌<◌, ◌≤◌, Bool, true, false, List, [], ◌∷◌, ◌++◌, length, take, refl, ap, sym, subst, ◌∙◌, arith, ⊎_elim}
use Rattle.rx_rules.specs.declared.events.PlaceEvent.{PlaceEvent}
use Rattle.rx_rules.specs.declared.events.PlaceEvent.TheVariants.{Done, Close}
use Rattle.rx_rules.proofs.Common.{State, after_cell, IsStoreRun, opening_state, NotFalling, stamp_of}
use Rattle.rx_store.specs.Kept.{state_from, closed_from, stamp_from, state_of, ends_closed, last_stamp}
use Rattle.rx_store.proofs.Running.{run_done, run_close}
use Rattle.rx_verdict.specs.Lawful.{AreLawful, AllWantSome, WantsSome, IsLawfulCount, OneLawfulCount}
use Rattle.rx_verdict.specs.Inside.Next.{MayFollow, state_after, is_close}
use Rattle.rx_verdict.proofs.Single.{order}

-- The first of more events.

take-none : (n : ℕ) → take n (let none : List PlaceEvent = [] in none) ≡ []
take-none zero = refl
take-none (suc n) = refl

pub run-first : (w : ℕ) (S : State) (n : ℕ) (es : List PlaceEvent) → IsStoreRun w S es → IsStoreRun w S (take n es)
run-first w S zero es h = tt
run-first w S (suc n) [] h = tt
run-first w S (suc n) (Done t s c p ∷ es) h = (h.0, run-first w (after_cell S c) n es h.1)
run-first w S (suc n) (Close s ∷ es) h = ap (take n) h ∙ take-none n

pub rising-first : (low n : ℕ) (es : List PlaceEvent) → NotFalling low es → NotFalling low (take n es)
rising-first low zero es h = tt
rising-first low (suc n) [] h = tt
rising-first low (suc n) (e ∷ es) h = (h.0, rising-first (stamp_of e) n es h.1)

pub some-first : (n : ℕ) (es : List PlaceEvent) → AllWantSome es → AllWantSome (take n es)
some-first zero es h = tt
some-first (suc n) [] h = tt
some-first (suc n) (e ∷ es) h = (h.0, some-first n es h.1)

take-less : (m n : ℕ) (es : List PlaceEvent) → m ≤ n → take m (take n es) ≡ take m es
take-less zero n es l = refl
take-less (suc m) zero es l = absurd (omega arith)
take-less (suc m) (suc n) [] l = refl
take-less (suc m) (suc n) (e ∷ es) l = ap (λ r. e ∷ r) (take-less m n es (omega arith))

pub lawful-first : (w m n : ℕ) (es : List PlaceEvent) → m ≤ n → AreLawful w (take n es) → AreLawful w (take m es)
lawful-first w m n es l h =
    subst (AreLawful w) (take-less m n es l) (record {
      law = run-first w opening_state m (take n es) h.law;
      rising = rising-first 0 m (take n es) h.rising;
      some = some-first m (take n es) h.some;
    })

-- One event more.

true-false : true ≡ false → ⊥
true-false q = cc

run-last : (w : ℕ) (S : State) (b : Bool) (es : List PlaceEvent) (e : PlaceEvent) (last : ℕ) → closed_from b es ≡ false → IsStoreRun w S (es ++ e ∷ []) → (WantsSome e) → (last ≤ stamp_of e) → MayFollow w (state_from S es) last e
run-last w S b [] (Done t s c p) last o h a l = (l, a, h.0)
run-last w S b [] (Close s) last o h a l = l
run-last w S b (Done t s c p ∷ es) e last o h a l = run-last w (after_cell S c) false es e last o h.1 a l
run-last w S b (Close s ∷ []) e last o h a l = absurd (true-false o)
run-last w S b (Close s ∷ x ∷ es) e last o h a l = absurd cc

-- nothing follows a close
pub closed-none : (w : ℕ) (S : State) (es : List PlaceEvent) (e : PlaceEvent) → closed_from false es ≡ true → IsStoreRun w S (es ++ e ∷ []) → ⊥
closed-none w S [] e o h = true-false (sym o)
closed-none w S (Done t s c p ∷ es) e o h = closed-none w (after_cell S c) es e o h.1
closed-none w S (Close s ∷ []) e o h = cc
closed-none w S (Close s ∷ x ∷ es) e o h = cc

rising-last : (low : ℕ) (es : List PlaceEvent) (e : PlaceEvent) → NotFalling low (es ++ e ∷ []) → stamp_from low es ≤ stamp_of e
rising-last low [] e h = h.0
rising-last low (Done t s c p ∷ es) e h = rising-last s es e h.1
rising-last low (Close s ∷ es) e h = rising-last s es e h.1

rising-more : (low : ℕ) (es : List PlaceEvent) (e : PlaceEvent) → NotFalling low es → stamp_from low es ≤ stamp_of e → NotFalling low (es ++ e ∷ [])
rising-more low [] e h l = (l, tt)
rising-more low (Done t s c p ∷ es) e h l = (h.0, rising-more s es e h.1 l)
rising-more low (Close s ∷ es) e h l = (h.0, rising-more s es e h.1 l)

pub some-last : (es : List PlaceEvent) (e : PlaceEvent) → AllWantSome (es ++ e ∷ []) → WantsSome e
some-last [] e h = h.0
some-last (x ∷ es) e h = some-last es e h.1

pub some-more : (es : List PlaceEvent) (e : PlaceEvent) → AllWantSome es → WantsSome e → AllWantSome (es ++ e ∷ [])
some-more [] e h a = (a, tt)
some-more (x ∷ es) e h a = (h.0, some-more es e h.1 a)

pub lawful-last : (w : ℕ) (es : List PlaceEvent) (e : PlaceEvent) → ends_closed es ≡ false → AreLawful w (es ++ e ∷ []) → MayFollow w (state_of es) (last_stamp es) e
lawful-last w es e o h = run-last w opening_state false es e (last_stamp es) o h.law (some-last es e h.some) (rising-last 0 es e h.rising)

pub lawful-more : (w : ℕ) (es : List PlaceEvent) (e : PlaceEvent) → ends_closed es ≡ false → AreLawful w es → MayFollow w (state_of es) (last_stamp es) e → AreLawful w (es ++ e ∷ [])
lawful-more w es (Done t s c p) o h m = record {
  law = run_done w opening_state false es t s c p h.law o m.2;
  rising = rising-more 0 es (Done t s c p) h.rising m.0;
  some = some-more es (Done t s c p) h.some m.1;
}
lawful-more w es (Close s) o h m = record {
  law = run_close w opening_state false es s h.law o;
  rising = rising-more 0 es (Close s) h.rising m;
  some = some-more es (Close s) h.some tt;
}

-- What the events leave.

state-more : (S : State) (es : List PlaceEvent) (e : PlaceEvent) → state_from S (es ++ e ∷ []) ≡ state_after (state_from S es) e
state-more S [] (Done t s c p) = refl
state-more S [] (Close s) = refl
state-more S (Done t s c p ∷ es) e = state-more (after_cell S c) es e
state-more S (Close s ∷ es) e = state-more S es e

stamp-more : (n : ℕ) (es : List PlaceEvent) (e : PlaceEvent) → stamp_from n (es ++ e ∷ []) ≡ stamp_of e
stamp-more n [] (Done t s c p) = refl
stamp-more n [] (Close s) = refl
stamp-more n (Done t s c p ∷ es) e = stamp-more s es e
stamp-more n (Close s ∷ es) e = stamp-more s es e

closed-more : (b : Bool) (es : List PlaceEvent) (e : PlaceEvent) → closed_from b (es ++ e ∷ []) ≡ is_close e
closed-more b [] (Done t s c p) = refl
closed-more b [] (Close s) = refl
closed-more b (Done t s c p ∷ es) e = closed-more false es e
closed-more b (Close s ∷ es) e = closed-more true es e

pub state-next : (es : List PlaceEvent) (e : PlaceEvent) → state_of (es ++ e ∷ []) ≡ state_after (state_of es) e
state-next es e = state-more opening_state es e

pub stamp-next : (es : List PlaceEvent) (e : PlaceEvent) → last_stamp (es ++ e ∷ []) ≡ stamp_of e
stamp-next es e = stamp-more 0 es e

pub closed-next : (es : List PlaceEvent) (e : PlaceEvent) → ends_closed (es ++ e ∷ []) ≡ is_close e
closed-next es e = closed-more false es e

-- One number.

not-less : (w : ℕ) (j : List PlaceEvent) (m n : ℕ) → IsLawfulCount w j m → IsLawfulCount w j n → m < n → ⊥
not-less w j m n h k l = let within : n ≤ length j = k.within in h.no_more (omega arith) (lawful-first w (suc m) n j (omega arith) k.lawful)

pub lawful_count_is_one : OneLawfulCount
lawful_count_is_one w j m n h k = ⊎_elim (λ (l : m < n). absurd (not-less w j m n h k l)) (λ (t : (m ≡ n) ⊎ (n < m)). ⊎_elim (λ (e : m ≡ n). e) (λ (l : n < m). absurd (not-less w j n m k h l)) t) (order m n)
