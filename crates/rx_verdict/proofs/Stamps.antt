-- Events whose stamps lie between the entries are made, whatever their stamps.
use Rattle.std.proofs.Common.{◌≡◌, ℕ, zero, suc, ◌<◌, ◌≤◌, length, List, [], Option, Some, None, slice_get, subst, arith, inl, inr, ⊎_elim}
use Rattle.std.proofs.lemmas.Bool.{cases_lt}
use Rattle.rx_rules.proofs.Common.{PlaceId, Block, Cells, Moves, Starts, journal_at, birth_of, travels, moves_from, Given, Term, Vars}
use Rattle.rx_rules.specs.declared.entries.Entry.{Entry}
use Rattle.rx_rules.specs.declared.events.PlaceEvent.{PlaceEvent}
use Rattle.rx_rules.specs.declared.events.PlaceEvent.TheVariants.{Done, Close}
use Rattle.rx_verdict.specs.Makes as parts
use Rattle.rx_verdict.specs.Makes.{MakesEvent, AnyStamp, Between, TaskMakesEvent, cells_of}
use Rattle.rx_verdict.specs.Verdicts.{CauseOf, HasCause, IsGood, Precedes, GoodBefore}
use Rattle.rx_verdict.specs.Goods.{IsNextGood, GoodGoesOn, GoodTogether}
use Rattle.rx_verdict.proofs.Once.{landing_map}

event_any : {starts : Starts} {here : PlaceId} {low k : ℕ} {vars : Vars} {t : Term} {batch : List (List ℕ)} {cells : Cells} {moves : Moves} → MakesEvent Between starts here low vars t batch cells moves k → MakesEvent AnyStamp starts here low vars t batch cells moves k
event_any (parts.now a keeps tells b) = parts.now a tt tells b
event_any (parts.MakesEvent.local g m) = parts.MakesEvent.local g (event_any m)
event_any (parts.MakesEvent.stores a tells b m) = parts.MakesEvent.stores a tells b (event_any m)
event_any (parts.MakesEvent.asks fits so m) = parts.MakesEvent.asks fits so (event_any m)

task_any : (starts : Starts) (es : List Entry) (js : List (List PlaceEvent)) (t : ℕ) (s : Term × Vars) (k : ℕ) → TaskMakesEvent Between starts es js t s k → TaskMakesEvent AnyStamp starts es js t s k
task_any starts es js t s k h =
    landing_map (λ low moves. MakesEvent Between starts (birth_of es t).to low s.1 s.0 [] (cells_of es js t) moves k)
    (λ low moves. MakesEvent Between starts (birth_of es t).to low s.1 s.0 [] (cells_of es js t) moves k)
    (λ low moves. MakesEvent AnyStamp starts (birth_of es t).to low s.1 s.0 [] (cells_of es js t) moves k) ⊥ ⊥ ⊥ (λ low moves a b. event_any a) (λ a b. a)
    (travels (birth_of es t)) (birth_of es t).low (moves_from 0 es t) h h

module _ (code : Block) (U : Given) (es : List Entry) (js : List (List PlaceEvent)) where
  of_any : (p e : ℕ) (o : Option PlaceEvent) → CauseOf Between code U es js p e o → CauseOf AnyStamp code U es js p e o
  of_any p e None h = h
  of_any p e (Some (Done u stamp cell x)) h =
      record {
        born = h.born;
        home = h.home;
        starts = h.starts;
        made = h.made;
        start = h.start;
        begins = h.begins;
        event = task_any h.starts es js u.0 h.start _ h.event;
      }
  of_any p e (Some (Close stamp)) h = h

  -- what has its cause with its stamp between the entries, has its cause
  pub cause_any : (p e : ℕ) → HasCause Between code U es js p e → HasCause AnyStamp code U es js p e
  cause_any p e h = of_any p e (slice_get (journal_at js p) e) h

  stamps_go_on : (p e : ℕ) → ((f : ℕ) → f < e → IsGood code U es js p f) → HasCause Between code U es js p e → (f : ℕ) → f ≤ e → HasCause AnyStamp code U es js p f → HasCause Between code U es js p f
  stamps_go_on p e good h f le any =
      ⊎_elim (λ (l : f < e). (good f l).stamps f (omega arith) any)
      (λ (ge : e ≤ f). let same : e ≡ f = omega arith in subst (λ (i : ℕ). HasCause Between code U es js p i) same h)
      (cases_lt f e)

  next_good : (p e : ℕ) → ((f : ℕ) → f < e → IsGood code U es js p f) → IsNextGood code U es js p e → IsGood code U es js p e
  next_good p e good h =
      record { law = h.law; rising = h.rising; stamps = stamps_go_on p e good h.cause; cause = cause_any p e h.cause }

  good_next : (p e : ℕ) → IsGood code U es js p e → IsNextGood code U es js p e
  good_next p e h = record { law = h.law; rising = h.rising; cause = h.stamps e (omega arith) h.cause }

pub good_goes_on : GoodGoesOn
good_goes_on code U es js p e = (next_good code U es js p e, good_next code U es js p e)

module _ (code : Block) (U : Given) (es : List Entry) (js : List (List PlaceEvent)) where
  -- an event is good where the one-event form holds of it and of all before it
  pub good_from : (p n : ℕ) → ((f : ℕ) → f ≤ n → IsNextGood code U es js p f) → (e : ℕ) → e ≤ n → IsGood code U es js p e
  good_from p n next e le = up e e (omega arith) le where
    up : (m e : ℕ) → e ≤ m → e ≤ n → IsGood code U es js p e
    up zero e low le = next_good code U es js p e (λ f l. absurd (omega arith)) (next e le)
    up (suc m) e low le = next_good code U es js p e (λ f l. up m f (omega arith) (omega arith)) (next e le)

  pub good_before : (p e : ℕ) → ((q f : ℕ) → f < length (journal_at js q) → Precedes q f p e → IsNextGood code U es js q f) → GoodBefore code U es js p e
  good_before p e next q f low k =
      good_from q f (λ g le. next q g (omega (arith, le, low)) (⊎_elim (λ (l : q < p). inl l) (λ (s : (q ≡ p) × (f < e)). inr (s.0, (let less : f < e = s.1 in omega (arith, le, less)))) k)) f (omega arith)

pub good_together : GoodTogether
good_together code U es js = (
  good_before code U es js,
  λ next p e low. good_from code U es js p e (λ f le. next p f (omega (arith, le, low))) e (omega arith),
)
