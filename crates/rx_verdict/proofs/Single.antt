-- Two verdicts on one pair are the same.
use Rattle.std.proofs.Common.{◌≡◌, ◌⊎◌, ℕ, zero, suc, ◌<◌, List, length, refl, ap, sym, arith, inl, inr, ⊎_elim}
use Rattle.rx_rules.specs.declared.entries.Entry.{Entry}
use Rattle.rx_rules.specs.declared.events.PlaceEvent.{PlaceEvent}
use Rattle.rx_rules.proofs.Common.{Block, Given}
use Rattle.rx_verdict.specs.declared.verdict.Verdict.{Verdict}
use Rattle.rx_verdict.specs.declared.verdict.Verdict.TheVariants.{Run, Entry as AtEntry, End, Event, Open}
use Rattle.rx_verdict.specs.Verdicts.{IsVerdict, OneVerdict, AllParts, Part, IsShut}

pub order : (a b : ℕ) → (a < b) ⊎ ((a ≡ b) ⊎ (b < a))
order zero zero = inr (inl refl)
order zero (suc b) = inl (omega arith)
order (suc a) zero = inr (inr (omega arith))
order (suc a) (suc b) = ⊎_elim (λ (l : a < b). inl (omega arith)) (λ (t : (a ≡ b) ⊎ (b < a)). ⊎_elim (λ (e : a ≡ b). inr (inl (ap suc e))) (λ (l : b < a). inr (inr (omega arith))) t) (order a b)

-- a first failure is one
least : (P : ℕ → Type 0) (a b : ℕ) → ((m : ℕ) → m < a → P m) → (P a → ⊥) → ((m : ℕ) → m < b → P m) → (P b → ⊥) → a ≡ b
least P a b below not below' not' = ⊎_elim (λ (l : a < b). absurd (not (below' a l))) (λ (t : (a ≡ b) ⊎ (b < a)). ⊎_elim (λ (e : a ≡ b). e) (λ (l : b < a). absurd (not' (below b l))) t) (order a b)

module _ (code : Block) (U : Given) (es : List Entry) (js : List (List PlaceEvent)) where
  no_part : (n : ℕ) → IsVerdict code U es js (AtEntry n) → AllParts code U es js → ⊥
  no_part n v all = let l : n < length es = v.0 in v.2 (all (suc n) (omega arith))

  pub one : (v w : Verdict) → IsVerdict code U es js v → IsVerdict code U es js w → v ≡ w
  one Run Run h k = refl
  one Run (AtEntry n) h k = absurd (no_part n k h.0)
  one Run End h k = absurd (k.1 h.1)
  one Run (Event p e) h k = absurd (k.4 (h.2 p.0 e k.2))
  one Run (Open p) h k = absurd (k.5 (h.3 p.0 k.3))
  one (AtEntry n) Run h k = absurd (no_part n h k.0)
  one (AtEntry n) (AtEntry m) h k =
      ap AtEntry (least (λ i. Part code U es js (suc i)) n m (λ i l. h.1 (suc i) (omega (arith, l))) h.2 (λ i l. k.1 (suc i) (omega (arith, l))) k.2)
  one (AtEntry n) End h k = absurd (no_part n h k.0)
  one (AtEntry n) (Event p e) h k = absurd (no_part n h k.0)
  one (AtEntry n) (Open p) h k = absurd (no_part n h k.0)
  one End Run h k = absurd (h.1 k.1)
  one End (AtEntry n) h k = absurd (no_part n k h.0)
  one End End h k = refl
  one End (Event p e) h k = absurd (h.1 k.1)
  one End (Open p) h k = absurd (h.1 k.1)
  one (Event p e) Run h k = absurd (h.4 (k.2 p.0 e h.2))
  one (Event p e) (AtEntry n) h k = absurd (no_part n k h.0)
  one (Event p e) End h k = absurd (k.1 h.1)
  one (Event p e) (Event q f) h k =
      ⊎_elim (λ (l : p.0 < q.0). absurd (h.4 (k.3 p.0 e h.2 (inl l))))
      (λ (t : (p.0 ≡ q.0) ⊎ (q.0 < p.0)). ⊎_elim
      (λ (same : p.0 ≡ q.0).
      ⊎_elim (λ (l : e < f). absurd (h.4 (k.3 p.0 e h.2 (inr (same, l)))))
      (λ (t : (e ≡ f) ⊎ (f < e)). ⊎_elim (λ (eq : e ≡ f). λ i. Event (record { 0 = same i }) (eq i)) (λ (l : f < e). absurd (k.4 (h.3 q.0 f k.2 (inr (sym same, l))))) t)
      (order e f))
      (λ (l : q.0 < p.0). absurd (k.4 (h.3 q.0 f k.2 (inl l)))) t)
      (order p.0 q.0)
  one (Event p e) (Open q) h k = absurd (h.4 (k.2 p.0 e h.2))
  one (Open p) Run h k = absurd (h.5 (k.3 p.0 h.3))
  one (Open p) (AtEntry n) h k = absurd (no_part n k h.0)
  one (Open p) End h k = absurd (k.1 h.1)
  one (Open p) (Event q f) h k = absurd (k.4 (h.2 q.0 f k.2))
  one (Open p) (Open q) h k = ap (λ (i : ℕ). Open (record { 0 = i })) (least (IsShut es js) p.0 q.0 h.4 h.5 k.4 k.5)

pub one_verdict : OneVerdict
one_verdict code U es js v w h k = one code U es js v w h k
