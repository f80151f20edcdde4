-- Journals in a longer history.
use Rattle.std.proofs.Common.{◌≡◌, ◌≢◌, ℕ, suc, ◌+◌, ◌<◌, ◌≤◌, List, [], ◌∷◌, ◌++◌, length, Option, Some, None, refl, ap, ◌∙◌, sym, subst, arith}
use Rattle.std.specs.List.{filter_map}
use Rattle.std.proofs.lemmas.Bool.{eq-eqb, ne_eqb}
use Rattle.std.proofs.lemmas.List.{length-append}
use Rattle.std.proofs.lemmas.List.Elements.{filter_map-append}
use Rattle.std.proofs.lemmas.List.Sums.{sum_by-append}
use Rattle.rx_rules.proofs.Common.{PlaceId, births, births_of, Birth, birth_of, State, IsStoreRun, opening_state, Given, AtHome, NotFalling, ClosesAt, stamp_of, close_in, death_number}
use Rattle.rx_rules.specs.declared.entries.Entry.{Entry}
use Rattle.rx_rules.specs.declared.entries.Entry.TheVariants.{Death}
use Rattle.rx_rules.specs.declared.events.PlaceEvent.{PlaceEvent}
use Rattle.rx_rules.specs.declared.events.PlaceEvent.TheVariants.{Done as Did, Close}
use Rattle.rx_runs.specs.Games.{Leads, rests, steps, NotAbove, JournalSo}
use Rattle.rx_rules.proofs.Deaths.{death-push, first_of}
use Rattle.rx_runs.proofs.Pushes.{birth-push}
use Rattle.rx_tree_laws.proofs.Histories.{first_none}

pub leads_law : {w : ℕ} {S Z : State} {j : List PlaceEvent} → Leads w S j Z → IsStoreRun w S j
leads_law rests = tt
leads_law (steps t n cell x may l) = (may, leads_law l)

pub leads_joined : {w : ℕ} {S Y Z : State} {j k : List PlaceEvent} → Leads w S j Y → Leads w Y k Z → Leads w S (j ++ k) Z
leads_joined rests l = l
leads_joined (steps t n cell x may m) l = steps t n cell x may (leads_joined m l)

pub leads_close : {w : ℕ} {S Z : State} {j : List PlaceEvent} (n : ℕ) → Leads w S j Z → IsStoreRun w S (j ++ Close n ∷ [])
leads_close n rests = refl
leads_close n (steps t m cell x may l) = (may, leads_close n l)

lower : (low n : ℕ) (k : List PlaceEvent) → low ≤ n → NotFalling n k → NotFalling low k
lower low n [] le h = tt
lower low n (e ∷ k) le h = (let first : n ≤ stamp_of e = h.0 in omega arith, h.1)

pub rising_joined : (low n : ℕ) (j k : List PlaceEvent) → low ≤ n → NotFalling low j → NotAbove n j → NotFalling n k → NotFalling low (j ++ k)
rising_joined low n [] k le h a q = lower low n k le q
rising_joined low n (e ∷ j) k le h a q = (h.0, rising_joined (stamp_of e) n j k a.0 h.1 a.1 q)

pub top_joined : (n m : ℕ) (j k : List PlaceEvent) → n ≤ m → NotAbove n j → NotAbove m k → NotAbove m (j ++ k)
top_joined n m [] k le h q = q
top_joined n m (e ∷ j) k le h q = (let first : stamp_of e ≤ n = h.0 in omega arith, top_joined n m j k le h.1 q)

top_up : (n m : ℕ) (j : List PlaceEvent) → n ≤ m → NotAbove n j → NotAbove m j
top_up n m [] le h = tt
top_up n m (e ∷ j) le h = (let first : stamp_of e ≤ n = h.0 in omega arith, top_up n m j le h.1)

pub longer : (es : List Entry) (e : Entry) → length (es ++ e ∷ []) ≡ suc (length es)
longer es e = let h : length (es ++ e ∷ []) ≡ length es + 1 = length-append es (e ∷ []) in omega arith

-- an entry that is no death of the place
abbrev pub NoDeathOf : PlaceId → List Entry → Entry → Type 0
NoDeathOf p es e = death_number (0 + length es) p (e ∷ []) ≡ None

pub death_same : (p : PlaceId) (es : List Entry) (e : Entry) → NoDeathOf p es e → death_number 0 p (es ++ e ∷ []) ≡ death_number 0 p es
death_same p es e h = death-push 0 p es e ∙ ap (first_of (death_number 0 p es)) h ∙ first_none (death_number 0 p es)

pub other_death : (p d : PlaceId) (es : List Entry) → d.0 ≢ p.0 → NoDeathOf p es (Death d)
other_death p d es o = rw (ne_eqb d.0 p.0 o)

pub own_death : (d : PlaceId) (es : List Entry) → death_number 0 d es ≡ None → death_number 0 d (es ++ Death d ∷ []) ≡ Some (length es)
own_death d es h =
    let z : 0 + length es ≡ length es = omega arith in
    death-push 0 d es (Death d) ∙ ap (λ (o : Option ℕ). first_of o (death_number (0 + length es) d (Death d ∷ []))) h
    ∙ rw (eq-eqb d.0 d.0 refl) (ap Some z)

-- the tasks that were born have the same births in a longer history
abbrev pub BirthsStay : List Entry → Entry → Type 0
BirthsStay es e = (m : ℕ) → m < 1 + births es → birth_of (es ++ e ∷ []) m ≡ birth_of es m

pub homes_on : (es : List Entry) (e : Entry) (p : ℕ) (j : List PlaceEvent) → BirthsStay es e → AtHome es p j → AtHome (es ++ e ∷ []) p j
homes_on es e p [] same h = tt
homes_on es e p (Did t n cell x ∷ j) same h =
    let more : births (es ++ e ∷ []) ≡ births es + births (e ∷ []) = sum_by-append births_of es (e ∷ []) in
    let low : t.0 < 1 + births es = h.0 in
    (omega arith, ap (λ (b : Birth). b.to.0) (same t.0 low) ∙ h.1, homes_on es e p j same h.2)
homes_on es e p (Close n ∷ j) same h = homes_on es e p j same h

homes_joined : (es : List Entry) (p : ℕ) (j k : List PlaceEvent) → AtHome es p j → AtHome es p k → AtHome es p (j ++ k)
homes_joined es p [] k h q = q
homes_joined es p (Did t n cell x ∷ j) k h q = (h.0, h.1, homes_joined es p j k h.2 q)
homes_joined es p (Close n ∷ j) k h q = homes_joined es p j k h q

-- a journal to which nothing is added
pub journal_on : (U : Given) (es : List Entry) (e : Entry) (p : ℕ) (j : List PlaceEvent) (S : State) → NoDeathOf (record { 0 = p }) es e → BirthsStay es e → JournalSo U es p j S → JournalSo U (es ++ e ∷ []) p j S
journal_on U es e p j S h born o =
    let same : death_number 0 (record { 0 = p }) (es ++ e ∷ []) ≡ death_number 0 (record { 0 = p }) es = death_same (record { 0 = p }) es e h in
    let size : length (es ++ e ∷ []) ≡ suc (length es) = longer es e in
    record {
      law = o.law;
      live = λ l. o.live (sym same ∙ l);
      homes = homes_on es e p j born o.homes;
      rising = o.rising;
      top = top_up (length es) (length (es ++ e ∷ [])) j (omega arith) o.top;
      closed = subst (λ (d : Option ℕ). ClosesAt d j) (sym same) o.closed;
    }

-- the events of a turn
pub journal_more : (U : Given) (es : List Entry) (e : Entry) (p : ℕ) (j new : List PlaceEvent) (S Z : State) → NoDeathOf (record { 0 = p }) es e → BirthsStay es e → death_number 0 (record { 0 = p }) es ≡ None → Leads U.heap S new Z → AtHome es p new → NotFalling (length es) new → NotAbove (length es) new → filter_map close_in new ≡ [] → JournalSo U es p j S → JournalSo U (es ++ e ∷ []) p (j ++ new) Z
journal_more U es e p j new S Z h born lives leads homes rising top unclosed o =
    let same : death_number 0 (record { 0 = p }) (es ++ e ∷ []) ≡ None = death_same (record { 0 = p }) es e h ∙ lives in
    let size : length (es ++ e ∷ []) ≡ suc (length es) = longer es e in
    let all : Leads U.heap opening_state (j ++ new) Z = leads_joined (o.live lives) leads in
    let before : filter_map close_in j ≡ [] = subst (λ (d : Option ℕ). ClosesAt d j) lives o.closed in
    let none : filter_map close_in (j ++ new) ≡ [] = filter_map-append close_in j new ∙ ap (λ xs. xs ++ filter_map close_in new) before ∙ unclosed in
    record {
      law = leads_law all;
      live = λ l. all;
      homes = homes_on es e p (j ++ new) born (homes_joined es p j new o.homes homes);
      rising = rising_joined 0 (length es) j new (omega arith) o.rising o.top rising;
      top = top_joined (length es) (length (es ++ e ∷ [])) j new (omega arith) o.top (top_up (length es) (length (es ++ e ∷ [])) new (omega arith) top);
      closed = subst (λ (d : Option ℕ). ClosesAt d (j ++ new)) (sym same) none;
    }

-- the close of a place that dies
pub journal_close : (U : Given) (es : List Entry) (d : PlaceId) (j : List PlaceEvent) (S : State) → death_number 0 (record { 0 = d.0 }) es ≡ None → JournalSo U es d.0 j S → JournalSo U (es ++ Death d ∷ []) d.0 (j ++ Close (length es) ∷ []) S
journal_close U es d j S lives o =
    let now : death_number 0 (record { 0 = d.0 }) (es ++ Death d ∷ []) ≡ Some (length es) = own_death d es lives in
    let size : length (es ++ Death d ∷ []) ≡ suc (length es) = longer es (Death d) in
    let before : filter_map close_in j ≡ [] = subst (λ (k : Option ℕ). ClosesAt k j) lives o.closed in
    let one : filter_map close_in (j ++ Close (length es) ∷ []) ≡ length es ∷ [] = filter_map-append close_in j (Close (length es) ∷ []) ∙ ap (λ xs. xs ++ length es ∷ []) before in
    record {
      law = leads_close (length es) (o.live lives);
      live = λ l. cc;
      homes = homes_on es (Death d) d.0 (j ++ Close (length es) ∷ []) (λ m low. birth-push 0 es (Death d) m refl) (homes_joined es d.0 j (Close (length es) ∷ []) o.homes tt);
      rising = rising_joined 0 (length es) j (Close (length es) ∷ []) (omega arith) o.rising o.top (omega arith, tt);
      top = top_joined (length es) (length (es ++ Death d ∷ [])) j (Close (length es) ∷ []) (omega arith) o.top (omega arith, tt);
      closed = subst (λ (k : Option ℕ). ClosesAt k (j ++ Close (length es) ∷ [])) (sym now) one;
    }
