-- The first event that is not sound is the first that is not good.
use Rattle.std.proofs.Common.{◌≡◌, ℕ, zero, suc, ◌<◌, ◌≤◌, Bool, List, Option, Some, None, slice_get, refl, sym, subst, arith, inl, inr, ⊎_elim}
use Rattle.std.proofs.lemmas.Bool.{cases_lt}
use Rattle.rx_rules.specs.declared.entries.Entry.{Entry}
use Rattle.rx_rules.specs.declared.events.PlaceEvent.{PlaceEvent}
use Rattle.rx_rules.specs.declared.events.PlaceEvent.TheVariants.{Done, Close}
use Rattle.rx_rules.proofs.Common.{Block, journal_at, Given, death_number}
use Rattle.rx_verdict.specs.Makes.{Between}
use Rattle.rx_verdict.specs.Verdicts.{CauseOf, IsGood, Precedes}
use Rattle.rx_verdict.specs.declared.verdict.Verdict.TheVariants.{Run, Entry as AtEntry, End, Event, Open}
use Rattle.rx_verdict.specs.Goods.{IsNextGood}
use Rattle.rx_verdict.proofs.Stamps.{good_goes_on}
use Rattle.rx_verdict.proofs.SomeCauses.{causes_ask_some}
use Rattle.rx_verdict.specs.declared.flaws.EventAt.{EventAt}
use Rattle.rx_verdict.specs.Marked.{row_at}
use Rattle.rx_verdict.specs.Flaws.{CauseAt, IsSound, IsFirstFlaw}
use Rattle.rx_verdict.specs.Judged.{MarksTell, MadeMarksTell, IsFirstBad, FlawIsBad, EventsDecide}

module _ (code : Block) (U : Given) (es : List Entry) (js : List (List PlaceEvent)) (ms : List (List Bool)) (tell : MarksTell code U es js ms) where
  caused : (p e : ℕ) (o : Option PlaceEvent) → slice_get (journal_at js p) e ≡ o → CauseOf Between code U es js p e o → CauseAt (death_number 0 (record { 0 = p }) es) (row_at ms p) e o
  caused p e None at h = h
  caused p e (Some (Done t s c x)) at h = let m = (tell.made p e t s c x at).0 (subst (CauseOf Between code U es js p e) (sym at) h) in (m, tell.some p e t s c x at m)
  caused p e (Some (Close s)) at h = h

  causes : (p e : ℕ) (o : Option PlaceEvent) → slice_get (journal_at js p) e ≡ o → CauseAt (death_number 0 (record { 0 = p }) es) (row_at ms p) e o → CauseOf Between code U es js p e o
  causes p e None at h = h
  causes p e (Some (Done t s c x)) at h = subst (CauseOf Between code U es js p e) at ((tell.made p e t s c x at).1 h.0)
  causes p e (Some (Close s)) at h = h

  sound : (p e : ℕ) → IsNextGood code U es js p e → IsSound U.heap es js ms p e
  sound p e h = record { law = h.law; rising = h.rising; cause = caused p e (slice_get (journal_at js p) e) refl h.cause }

  next : (p e : ℕ) → IsSound U.heap es js ms p e → IsNextGood code U es js p e
  next p e h = record { law = h.law; rising = h.rising; cause = causes p e (slice_get (journal_at js p) e) refl h.cause }

  -- events are good where they and all before them are sound
  good : (p n : ℕ) → ((f : ℕ) → f < n → IsSound U.heap es js ms p f) → (f : ℕ) → f < n → IsGood code U es js p f
  good p zero h f l = absurd (omega arith)
  good p (suc n) h f l =
      let before : (g : ℕ) → g < n → IsGood code U es js p g = good p n (λ g k. h g (omega arith)) in
      ⊎_elim (λ (k : f < n). before f k)
      (λ (k : n ≤ f).
      let same : n ≡ f = omega arith in
      subst (λ i. IsGood code U es js p i) same ((good_goes_on code U es js p n).0 before (next p n (h n (omega arith)))))
      (cases_lt f n)

  flaw-is : (found : Option EventAt) → IsFirstFlaw U.heap es js ms found → IsFirstBad code U es js found
  flaw-is None h = λ p e l. good p (suc e) (λ f k. h p f (omega arith)) e (omega arith)
  flaw-is (Some at) h = (
    h.0,
    λ q f l before. good q (suc f) (λ g k. h.1 q g (omega arith) (earlier q f g before (omega arith))) f (omega arith),
    λ g. h.2 (sound at.place.0 at.number ((good_goes_on code U es js at.place.0 at.number).1 g)),
  )
    where
      earlier : (q f g : ℕ) → Precedes q f at.place.0 at.number → g ≤ f → Precedes q g at.place.0 at.number
      earlier q f g (inl x) k = inl x
      earlier q f g (inr x) k = let y = x.1 in inr (x.0, omega arith)

pub flaw_is_bad : FlawIsBad
flaw_is_bad code U es js ms found tell h = flaw-is code U es js ms tell found h

pub events_decide : EventsDecide
events_decide code U es js ms (Event p e) parts ends long tell h =
    let bad = flaw-is code U es js ms tell (Some (record { place = p; number = e })) h in (parts, ends, bad.0, bad.1, bad.2)
events_decide code U es js ms (Open p) parts ends long tell h =
    let closed = h.1 in (parts, ends, flaw-is code U es js ms tell None h.0, omega (arith, closed.0, long), closed.1, closed.2)
events_decide code U es js ms Run parts ends long tell h =
    (parts, ends, flaw-is code U es js ms tell None h.0, λ q l. h.1 q (omega (arith, l, long)))
events_decide code U es js ms (AtEntry n) parts ends long tell h = absurd h
events_decide code U es js ms End parts ends long tell h = absurd h

pub made_marks_tell : MadeMarksTell
made_marks_tell code U es js ms begin whole made = record {
  made = made;
  some = λ p e task stamp cell path at mark. causes_ask_some Between code U es js p e task stamp cell path begin whole at ((made p e task stamp cell path at).1 mark);
}
