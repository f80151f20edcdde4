-- The worked pairs have their verdicts.
use Rattle.std.proofs.Common.{◌≡◌, ℕ, zero, suc, ◌<◌, ◌≤◌, pos, true, false, List, [], ◌∷◌, length, take, Option, Some, slice_get, refl, subst, arith, lit<, lit≤, ⊎_elim}
use Rattle.rx_rules.proofs.Common.{Ref, Stale, Index, Block, Nothing, Then, Num, Print as Prints, Term, Vars, no_vars, Empty, items, Gives, Fine, Fails, Starts, journal_at, Given, IsRun, p, ordinary_script, stale_script, ordinary_setup, kill_setup, ordinary_case, ordinary_case_journals, loss_in_transit, stale_reference, stale_reference_journals, GlobalRef}
use Rattle.rx_rules.specs.declared.entries.Act.TheVariants.{End}
use Rattle.rx_rules.specs.declared.entries.Entry.{Entry}
use Rattle.rx_rules.specs.declared.events.PlaceEvent.{PlaceEvent}
use Rattle.rx_rules.proofs.Worked.{ordinary_case_runs, loss_in_transit_runs, stale_reference_runs, at_front}
use Rattle.rx_verdict.specs.declared.verdict.Verdict.TheVariants.{Run, Entry as AtEntry, End as NoEnd, Event, Open}
use Rattle.rx_verdict.specs.Makes as parts
use Rattle.rx_verdict.specs.Makes.{Made, Between, KeepsRule, TaskMakesEvent}
use Rattle.rx_verdict.specs.Verdicts.{Part, IsMade, IsVerdict, AllGood, GoodBefore, IsShut}
use Rattle.rx_verdict.specs.Rows.{exchanged, no_events, closed_at, wrong_refusal, heaps_of, new_script, new_case, stamped}
use Rattle.rx_rules.specs.declared.events.Cell.TheVariants.{Make}
use Rattle.rx_rules.specs.Plays as plays
use Rattle.rx_runs.specs.Games.{fresh}
use Rattle.rx_verdict.specs.Walks as walks
use Rattle.rx_verdict.proofs.Once.{made_at}
use Rattle.rx_verdict.proofs.Events.{past_store}
use Rattle.rx_verdict.proofs.Parting.{part_begins}
use Rattle.rx_verdict.proofs.Shown.{run_is_verdict}
use Rattle.rx_verdict.proofs.Stamps.{good_goes_on}
use Rattle.rx_verdict.proofs.Walking.{cut, at_end_only}

-- parts of a run up to the greatest one
upto : (code : Block) (U : Given) (es : List Entry) (js : List (List PlaceEvent)) (n : ℕ) → Part code U es js n → (m : ℕ) → m ≤ n → Part code U es js m
upto code U es js n h m le = (part_begins code U es js).1 m n le h

pub ordinary_case_is_run : IsVerdict ordinary_script ordinary_setup ordinary_case ordinary_case_journals Run
ordinary_case_is_run = run_is_verdict ordinary_script ordinary_setup ordinary_case ordinary_case_journals ordinary_case_runs

pub loss_in_transit_is_run : IsVerdict ordinary_script kill_setup loss_in_transit (closed_at 3) Run
loss_in_transit_is_run = run_is_verdict ordinary_script kill_setup loss_in_transit (closed_at 3) loss_in_transit_runs

pub stale_reference_is_run : IsVerdict stale_script ordinary_setup stale_reference stale_reference_journals Run
stale_reference_is_run = run_is_verdict stale_script ordinary_setup stale_reference stale_reference_journals stale_reference_runs

-- no event stands before the first one
none_before : (code : Block) (U : Given) (es : List Entry) (js : List (List PlaceEvent)) → GoodBefore code U es js 0 0
none_before code U es js q f l k = absurd (⊎_elim (λ (less : q < 0). omega arith) (λ (same : (q ≡ 0) × (f < 0)). let no : f < 0 = same.1 in omega (arith, no)) k)

-- Entries.

five : Part ordinary_script ordinary_setup exchanged ordinary_case_journals 5
five =
    let h : Part ordinary_script ordinary_setup ordinary_case ordinary_case_journals 5 = ordinary_case_is_run.0 5 (lit≤ tt) in
    record { allowed = h.allowed; rooted = h.rooted; plan = h.plan; starts = h.starts; made = h.made }

pub early_release_is_flaw : IsVerdict ordinary_script ordinary_setup exchanged ordinary_case_journals (AtEntry 5)
early_release_is_flaw = (
  lit< tt,
  upto ordinary_script ordinary_setup exchanged ordinary_case_journals 5 five,
  λ h. let e : false ≡ true = h.allowed.1.1.1.1.1.0.asks.3.is_quiet in cc,
)

three : Part ordinary_script ordinary_setup loss_in_transit (closed_at 3) 3
three =
    let h : Part ordinary_script kill_setup loss_in_transit (closed_at 3) 3 = loss_in_transit_is_run.0 3 (lit≤ tt) in
    record { allowed = h.allowed; rooted = h.rooted; plan = (tt, (tt, (tt, tt))); starts = h.starts; made = h.made }

pub unplanned_death_is_flaw : IsVerdict ordinary_script ordinary_setup loss_in_transit (closed_at 3) (AtEntry 3)
unplanned_death_is_flaw = (lit< tt, upto ordinary_script ordinary_setup loss_in_transit (closed_at 3) 3 three, λ h. h.plan.1.1.1.0)

pub wrong_refusal_is_flaw : IsVerdict stale_script ordinary_setup stale_reference wrong_refusal (AtEntry 0)
wrong_refusal_is_flaw = (lit< tt, upto stale_script ordinary_setup stale_reference wrong_refusal 0 (part_begins stale_script ordinary_setup stale_reference wrong_refusal).0, not_made) where
  not_made : Part stale_script ordinary_setup stale_reference wrong_refusal 1 → ⊥
  not_made h =
      let m = made_at stale_script 2 (take 1 stale_reference) wrong_refusal h.starts h.made 0 (items stale_script [] Empty, no_vars 2) h.made.main in
      let old : GlobalRef = record { home = p 0; start = 0; generation = 1 } in
      let last = cut h.starts h.starts (p 0) {a = fresh (items stale_script [] Empty, no_vars 2)} (0, End (Stale ∷ []), (0 ∷ []) ∷ (1 ∷ []) ∷ (2 ∷ []) ∷ (3 ∷ []) ∷ []) []
      (walks.stores (Gives 0 (Ref old)) (refl, refl) refl (walks.stores Fine (refl, refl) refl (walks.stores (Gives 1 (Ref (record { home = p 0; start = 0; generation = 2 }))) (refl, refl) refl (walks.stores (Fails Index) (refl, refl, refl) refl walks.stays)))) m.1 in
      let is = at_end_only h.starts (p 0) (0, End (Stale ∷ []), (0 ∷ []) ∷ (1 ∷ []) ∷ (2 ∷ []) ∷ (3 ∷ []) ∷ []) (Index ∷ []) refl refl last in
      let e : End (Stale ∷ []) ≡ End (Index ∷ []) = is.1 in
      let f : ⊥ = cc in
      f

-- Events and closes.

-- how the tasks of the loss in transit start
abbrev lossy_starts : Starts
lossy_starts = (items ordinary_script [] Empty, no_vars 2) ∷ (items (Then (Prints (Num (pos 7))) Nothing) (0 ∷ 0 ∷ []) Empty, no_vars 2) ∷ []

-- its entries are a part of a run whatever the closes
lossy : (js : List (List PlaceEvent)) → Made ordinary_script 2 loss_in_transit js lossy_starts → Part ordinary_script kill_setup loss_in_transit js 7
lossy js made = record { allowed = loss_in_transit_runs.folds.allowed; rooted = refl; plan = loss_in_transit_runs.folds.plan; starts = _; made = made }

pub missing_close_is_flaw : IsVerdict ordinary_script kill_setup loss_in_transit no_events (Open (p 1))
missing_close_is_flaw = (
  upto ordinary_script kill_setup loss_in_transit no_events 7
      (lossy no_events (record { main = refl; all = refl; each = (([], parts.Makes.asks refl tt (parts.Makes.asks (refl, refl, refl) refl (parts.Makes.asks refl tt (parts.Makes.asks tt tt (parts.ends refl))))), (tt, tt)) })),
  refl,
  quiet,
  lit< tt,
  shut,
  λ h. h,
)
  where
    quiet : AllGood ordinary_script kill_setup loss_in_transit no_events
    quiet zero e l = absurd (omega arith)
    quiet (suc zero) e l = absurd (omega arith)
    quiet (suc (suc q)) e l = absurd (let none : length (journal_at no_events (suc (suc q))) ≡ 0 = refl in omega (arith, none, l))

    shut : (q : ℕ) → q < 1 → IsShut loss_in_transit no_events q
    shut zero l = tt
    shut (suc q) l = absurd (omega arith)

pub late_close_is_flaw : IsVerdict ordinary_script kill_setup loss_in_transit (closed_at 4) (Event (p 1) 0)
late_close_is_flaw = (
  upto ordinary_script kill_setup loss_in_transit (closed_at 4) 7
      (lossy (closed_at 4) (record { main = refl; all = refl; each = (([], parts.Makes.asks refl tt (parts.Makes.asks (refl, refl, refl) refl (parts.Makes.asks refl tt (parts.Makes.asks tt tt (parts.ends refl))))), (tt, tt)) })),
  refl,
  lit< tt,
  before,
  λ h. let e : ◌≡◌ {A = Option ℕ} (Some 3) (Some 4) = h.cause in let same : ◌≡◌ {A = ℕ} 3 4 = cc in omega (arith, same),
)
  where
    before : GoodBefore ordinary_script kill_setup loss_in_transit (closed_at 4) 1 0
    before zero f l k = absurd (omega arith)
    before (suc q) f l k = absurd (⊎_elim (λ (less : suc q < 1). omega arith) (λ (same : (suc q ≡ 1) × (f < 0)). let no : f < 0 = same.1 in omega (arith, no)) k)

pub small_heap_is_flaw : IsVerdict stale_script (heaps_of 2) stale_reference stale_reference_journals (Event (p 0) 0)
small_heap_is_flaw = (
  λ n le. let h : Part stale_script ordinary_setup stale_reference stale_reference_journals n = stale_reference_is_run.0 n le in record { allowed = h.allowed; rooted = h.rooted; plan = h.plan; starts = h.starts; made = h.made },
  refl,
  lit< tt,
  none_before stale_script (heaps_of 2) stale_reference stale_reference_journals,
  λ h. let e : false ≡ true = h.law.0.0.here in cc,
)

-- the one block of the new case
abbrev block : GlobalRef
block = record { home = p 0; start = 0; generation = 1 }

abbrev new_starts : Starts
new_starts = (items new_script [] Empty, no_vars 2) ∷ []

new_case_runs : IsRun new_script (heaps_of 256) new_case (stamped 0)
new_case_runs =
    record {
      folds =
          record {
            some = lit≤ tt;
            few = lit≤ tt;
            allowed = (record { task = _; stands = refl; unstruck = refl; asks = ((p 0, (refl, refl)), refl) }, ((_, refl, record { is_quiet = refl; places = refl; count = refl; faults = refl }), tt));
            plan = (tt, (tt, tt));
          };
      ends = refl;
      played = record { starts = new_starts; main = refl; all = refl; each = (plays.stores (Gives 0 (Ref block)) (lit≤ tt) (refl, refl) refl (plays.ends (lit≤ tt) refl), tt) };
      one_each = refl;
      journals = (record { law = ((at_front refl, refl), tt); homes = (lit< tt, refl, tt); rising = (lit≤ tt, tt); closed = refl }, (record { law = tt; homes = tt; rising = tt; closed = refl }, tt));
    }

pub new_case_is_run : IsVerdict new_script (heaps_of 256) new_case (stamped 0) Run
new_case_is_run = run_is_verdict new_script (heaps_of 256) new_case (stamped 0) new_case_runs

pub late_stamp_is_flaw : IsVerdict new_script (heaps_of 256) new_case (stamped 1) (Event (p 0) 0)
late_stamp_is_flaw = (
  upto new_script (heaps_of 256) new_case (stamped 1) 2
      (record {
        allowed = new_case_runs.folds.allowed;
        rooted = refl;
        plan = (tt, (tt, tt));
        starts = new_starts;
        made = record { main = refl; all = refl; each = (([], parts.Makes.stores (Gives 0 (Ref block)) (refl, refl) refl (parts.ends refl)), tt) };
      }),
  refl,
  lit< tt,
  none_before new_script (heaps_of 256) new_case (stamped 1),
  λ h. too_late ((good_goes_on new_script (heaps_of 256) new_case (stamped 1) 0 0).1 h).cause,
)
  where
    too_late : IsMade Between new_script (heaps_of 256) new_case (stamped 1) 0 0 0 → ⊥
    too_late m =
        let one : slice_get m.starts 0 ≡ Some m.start = m.begins in
        let two : slice_get m.starts 0 ≡ Some (items new_script [] Empty, no_vars 2) = m.made.main in
        let same : m.start ≡ (items new_script [] Empty, no_vars 2) = cc (one, two) in
        let made = subst (λ (v : Term × Vars). TaskMakesEvent Between m.starts new_case (stamped 1) 0 v 0) same m.event in
        let keeps : KeepsRule Between 0 1 ((0, End [], (0 ∷ []) ∷ []) ∷ []) = past_store Between m.starts (p 0) 1 (Make 3 0 1) (0 ∷ []) [] (Gives 0 (Ref block)) refl (refl, refl) made in
        let late : 1 ≤ 0 = keeps.1 in
        omega (arith, late)

pub no_entries_are_no_end : IsVerdict Nothing ordinary_setup [] no_events NoEnd
no_entries_are_no_end = (upto Nothing ordinary_setup [] no_events 0 (part_begins Nothing ordinary_setup [] no_events).0, λ h. h)
