-- The journals of a whole run keep the order of statements.
use Rattle.std.proofs.Common.{◌≡◌, ◌⊎◌, ℕ, zero, suc, ◌+◌, ◌<◌, ◌≤◌, true, List, [], ◌∷◌, length, Option, Some, None, slice_get, refl, ap, sym, subst, ◌∙◌, arith, inl, inr, add-zero}
use Rattle.std.specs.List.{filter_map}
use Rattle.std.proofs.lemmas.Bool.{eq-eqb, ne_eqb, cases_eq, cases_order}
use Rattle.rx_rules.proofs.Common.{TaskId, Block, Term, Empty, Vars, no_vars, items, Tree, made, AllAllowed, opening, BeginsWithArrival, Birth, EachPlays, birth_of, travels, cell_of, journal_at, moves_from, IsStoreRun, State, after_cell, opening_state, AtHome, Given, IsRun, AllJournals, JournalOk, death_number, close_in, ClosesAt}
use Rattle.rx_rules.specs.declared.entries.Entry.{Entry}
use Rattle.rx_rules.specs.declared.entries.Entry.TheVariants.{Step, Root, Death, Join}
use Rattle.rx_rules.specs.declared.events.Cell.{Cell}
use Rattle.rx_rules.specs.declared.events.PlaceEvent.{PlaceEvent}
use Rattle.rx_rules.specs.declared.events.PlaceEvent.TheVariants.{Done, Close}
use Rattle.rx_rules.specs.Order.{OrderKept, JournalsInOrder}
use Rattle.rx_tree_laws.proofs.Births.{born_before}
use Rattle.rx_history_laws.proofs.Paths.{Comes, comes-kept}
use Rattle.rx_history_laws.proofs.TermOrder.{Todo}
use Rattle.rx_history_laws.proofs.Ties.{Tied}
use Rattle.rx_history_laws.proofs.Made.{tied-made}
use Rattle.rx_history_laws.proofs.LawsHold.{tied-opening}
use Rattle.rx_history_laws.proofs.Says.{Goes, on}
use Rattle.rx_history_laws.proofs.Story.{Shape, set_at, set_case, shape-host, shape-step, shape-birth}
use Rattle.rx_history_laws.proofs.ToldPairs.{is_alive, Keeps, Others, Pending, AllSo, EachPair, all_so-map, related-so, back-plain, back-birth, back-host, acting, Starting, starts_none, starts_one, starting}
use Rattle.rx_history_laws.proofs.ToldOnce.{NotAfter, pairs-in_order, shape-start}
use Rattle.rx_history_laws.proofs.Front.{front-first}
use Rattle.rx_history_laws.proofs.Kept.{Kept, kept-start}
use Rattle.rx_history_laws.proofs.HistoryOrder.{keeps-open, kept-covers, history-order}
use Rattle.rx_history_laws.proofs.Events.{due-from}
use Rattle.rx_history_laws.proofs.Here.{stays_here}
use Rattle.rx_history_laws.proofs.JournalPairs.{paths, ClosesLast, closes-late, not_first, Homed, Events, Tale, Ahead, Behind, behind, born-due, now, tale-step, tale-birth, tale-root, tale-death, tale-join}

closes-done : (o : Option ℕ) (u : TaskId) (stamp : ℕ) (cell : Cell) (x : List ℕ) (j : List PlaceEvent) → ClosesAt o (Done u stamp cell x ∷ j) → ClosesAt o j
closes-done None u stamp cell x j h = h
closes-done (Some n) u stamp cell x j h = h

module _ (code : Block) (starts : List (Term × Vars)) (p : ℕ) (home : ℕ → ℕ) (K : List Entry → Tree → (ℕ → Term) → Type 0) (keeps : Keeps code starts K) (R : List ℕ → List ℕ → Type 0) (own : (z w : List ℕ) → Comes z w → R z w) (others : Others code K R) where
  abbrev Result : Tree → (ℕ → Term) → List PlaceEvent → Type 0
  Result T f j = AllSo (Pending T f) (paths j) × EachPair R (paths j)

  -- an event, and what is pending behind it
  joins : (n : ℕ) (es past : List Entry) (T : Tree) (f : ℕ → Term) (u : TaskId) (stamp : ℕ) (cell : Cell) (x : List ℕ) (j : List PlaceEvent) → Tied past T → Shape code past T.next_task f → K past T f → (b : Behind p home starts code n es past T f u.0 x j) → Result T (set_at u.0 b.after f) j → Result T f (Done u stamp cell x ∷ j)
  joins n es past T f u stamp cell x j i s k b r = (
    (record { task = u.0; born = b.low; alive = b.alive; todo = b.todo }, all_so-map (Pending T (set_at u.0 b.after f)) (Pending T f) back (paths j) r.0),
    (related-so R (Pending T (set_at u.0 b.after f)) x (paths j) cross r.0, r.1),
  )
    where
      back : (w : List ℕ) → Pending T (set_at u.0 b.after f) w → Pending T f w
      back w c =
          record {
            task = c.task;
            born = c.born;
            alive = c.alive;
            todo = set_case (λ v. Todo v w → Todo (f c.task) w) u.0 c.task b.after f (λ e h. subst (λ d. Todo (f d) w) e (b.shrinks w h)) (λ o h. h) c.todo;
          }

      cross : (w : List ℕ) → Pending T (set_at u.0 b.after f) w → R x w
      cross w c =
          set_case (λ v. Todo v w → R x w) u.0 c.task b.after f (λ e h. own x w (b.comes w h))
          (λ o h. others past T f i s k u.0 b.low x b.todo b.deep c.task c.born o c.alive w h) c.todo

  closed : (T : Tree) (f : ℕ → Term) (stamp : ℕ) (j : List PlaceEvent) → j ≡ [] → Result T f (Close stamp ∷ j)
  closed T f stamp j e = subst (Result T f) (sym e) (tt, tt)

  -- where no entry is left
  finish : (n low : ℕ) (past : List Entry) (T : Tree) (f : ℕ → Term) (j : List PlaceEvent) → Tied past T → Shape code past T.next_task f → K past T f → Tale p home starts n [] past T f j → Ahead p home starts n low [] j → Result T f j
  finish n low past T f [] i s k tale ahead = (tt, tt)
  finish n low past T f (Close stamp ∷ j) i s k tale ahead = closed T f stamp j ahead.last
  finish n low past T f (Done u stamp cell x ∷ j) i s k tale ahead =
      let born = born-due p home starts code n [] past T f s u stamp cell x j tale ahead.homed.1 (λ c. tt) tt ahead.homed.0 (inl refl) in
      let b = behind p home starts code n [] past T f s u stamp cell x j tale ahead.homed.1 (λ c. tt) born in
      joins n [] past T f u stamp cell x j i s k b
      (finish n stamp past T (set_at u.0 b.after f) j i b.shape (keeps.inner past T u.0 b.after f s b.low b.moves k) b.tale
      (record { rising = ahead.rising.1; last = ahead.last; closes = ahead.closes; homed = ahead.homed.2 }))

  abbrev Next : ℕ → List Entry → List Entry → Tree → Type 0
  Next n es past T = (f : ℕ → Term) (j : List PlaceEvent) → Shape code past T.next_task f → K past T f → Tale p home starts n es past T f j → Ahead p home starts n (suc n) es j → Result T f j

  -- events before the next entry
  process : (n low : ℕ) (es past : List Entry) (T : Tree) (f : ℕ → Term) (j : List PlaceEvent) → AllAllowed n T es → Tied past T → Next n es past T → Shape code past T.next_task f → K past T f → Tale p home starts n es past T f j → Ahead p home starts n low es j → Result T f j
  process n low es past T f [] a i next s k tale ahead = (tt, tt)
  process n low es past T f (Close stamp ∷ j) a i next s k tale ahead = closed T f stamp j ahead.last
  process n low es past T f (Done u stamp cell x ∷ j) a i next s k tale ahead =
      by_stamp (stamp_order stamp n)
      (λ b ah. process n stamp es past T (set_at u.0 b.after f) j a i next b.shape (keeps.inner past T u.0 b.after f s b.low b.moves k) b.tale ah)
    where
      stamp_order : (m n : ℕ) → (m ≤ n) ⊎ (suc n ≤ m)
      stamp_order m n =
          elim (cases_order m n) [
            | inl e ↦ inl (omega arith)
            | inr (inl h) ↦ inl (omega arith)
            | inr (inr h) ↦ inr (omega arith)
          ]

      by_stamp : (stamp ≤ n) ⊎ (suc n ≤ stamp) → ((b : Behind p home starts code n es past T f u.0 x j) → Ahead p home starts n stamp es j → Result T (set_at u.0 b.after f) j) → Result T f (Done u stamp cell x ∷ j)
      by_stamp (inl early) go =
          let due = due-from stamp n early es in
          let born = born-due p home starts code n es past T f s u stamp cell x j tale ahead.homed.1 due a ahead.homed.0 (inr early) in
          let b = behind p home starts code n es past T f s u stamp cell x j tale ahead.homed.1 due born in
          joins n es past T f u stamp cell x j i s k b
          (go b (record { rising = ahead.rising.1; last = ahead.last; closes = closes-done (death_number n (record { 0 = p }) es) u stamp cell x j ahead.closes; homed = ahead.homed.2 }))
      by_stamp (inr late) go =
          next f (Done u stamp cell x ∷ j) s k tale (record { rising = (late, ahead.rising.1); last = ahead.last; closes = ahead.closes; homed = ahead.homed })

  abbrev Later : ℕ → List Entry → Type 0
  Later n es =
      (past : List Entry) (T : Tree) (f : ℕ → Term) (j : List PlaceEvent) → AllAllowed n T es → Tied past T → Shape code past T.next_task f → K past T f → Tale p home starts n es past T f j → Ahead p home starts n n es j → Result T f j

  -- an entry after which the rest of the events comes
  by_entry : (n : ℕ) (e : Entry) (es past : List Entry) (T : Tree) (a : AllAllowed n T (e ∷ es)) → Tied past T → Later (suc n) es → Next n (e ∷ es) past T
  by_entry n (Root lost masked thrown) es past T a i ih f j s k tale ahead =
      let r = ih (Root lost masked thrown ∷ past) (made n T (Root lost masked thrown)) f j a.1 (tied-made n past T i (Root lost masked thrown) a.0) (shape-host code past (Root lost masked thrown) T.next_task f (λ c. refl) s) (keeps.host n past T (Root lost masked thrown) f i s a.0 refl k) (tale-root p home starts n past T lost masked thrown es f j tale)
      (record { rising = ahead.rising; last = ahead.last; closes = ahead.closes; homed = ahead.homed })
      in
      (all_so-map (Pending (made n T (Root lost masked thrown)) f) (Pending T f) (back-host n T (Root lost masked thrown) f refl refl a.0) (paths j) r.0, r.1)
  by_entry n (Death d) es past T a i ih f j s k tale ahead =
      elim (cases_eq d.0 p) [
        | inl same ↦
            let at : death_number n (record { 0 = p }) (Death d ∷ es) ≡ Some n = rw (eq-eqb d.0 p same) in
            absurd (not_first n (filter_map close_in j) (closes-late (suc n) j ahead.rising) (subst (λ o. ClosesAt o j) at ahead.closes))
        | inr other ↦
            let past_it : death_number n (record { 0 = p }) (Death d ∷ es) ≡ death_number (suc n) (record { 0 = p }) es = rw (ne_eqb d.0 p other) in
            let r = ih (Death d ∷ past) (made n T (Death d)) f j a.1 (tied-made n past T i (Death d) a.0) (shape-host code past (Death d) T.next_task f (λ c. refl) s) (keeps.host n past T (Death d) f i s a.0 refl k) (tale-death p home starts n past T d es f j other tale)
            (record { rising = ahead.rising; last = ahead.last; closes = subst (λ o. ClosesAt o j) past_it ahead.closes; homed = ahead.homed })
            in
            (all_so-map (Pending (made n T (Death d)) f) (Pending T f) (back-host n T (Death d) f refl refl a.0) (paths j) r.0, r.1)
      ]
  by_entry n (Join d) es past T a i ih f j s k tale ahead =
      let r = ih (Join d ∷ past) (made n T (Join d)) f j a.1 (tied-made n past T i (Join d) a.0) (shape-host code past (Join d) T.next_task f (λ c. refl) s) (keeps.host n past T (Join d) f i s a.0 refl k) (tale-join p home starts n past T d es f j tale)
      (record { rising = ahead.rising; last = ahead.last; closes = ahead.closes; homed = ahead.homed })
      in
      (all_so-map (Pending (made n T (Join d)) f) (Pending T f) (back-host n T (Join d) f refl refl a.0) (paths j) r.0, r.1)
  by_entry n (Step t act batch) es past T a i ih f j s k tale ahead =
      let act_by = acting past T i t act a.0 in
      by_start act_by.low act_by.lives (starting n T t act batch a.0)
    where
      ahead_after : Ahead p home starts (suc n) (suc n) es j
      ahead_after = record { rising = ahead.rising; last = ahead.last; closes = ahead.closes; homed = ahead.homed }

      by_start : t.0 < T.next_task → (lives : is_alive T t.0 ≡ true) → Starting n T t act batch → Result T f j
      by_start low lives (starts_none none same) =
          let sd = now p home starts code n past T t act batch es f j i s tale a.0 low ahead.rising in
          let g = set_at t.0 sd.says.after f in
          let r = ih (Step t act batch ∷ past) (made n T (Step t act batch)) g j a.1 (tied-made n past T i (Step t act batch) a.0)
          (subst (λ m. Shape code (Step t act batch ∷ past) m g) (sym same) (shape-step code past starts t act batch sd.fresh T.next_task f low s sd.says))
          (keeps.step n past T t act batch sd.fresh f i s sd.says a.0 low lives none k)
          (tale-step p home starts code n past T t act batch es f j i s tale a.0 low ahead.rising none same)
          ahead_after
          in
          (all_so-map (Pending (made n T (Step t act batch)) g) (Pending T f) (back-plain code starts n past T t act batch sd.fresh f s sd.says a.0 low lives none same) (paths j) r.0, r.1)
      by_start low lives (starts_one c e new more) =
          let sd = now p home starts code n past T t act batch es f j i s tale a.0 low ahead.rising in
          let g = set_at T.next_task (sd.says.child c e).term (set_at t.0 sd.says.after f) in
          let r = ih (Step t act batch ∷ past) (made n T (Step t act batch)) g j a.1 (tied-made n past T i (Step t act batch) a.0)
          (subst (λ m. Shape code (Step t act batch ∷ past) m g) (sym more) (shape-birth code past starts t act batch sd.fresh T.next_task f low s sd.says c new (sd.says.child c e) (sd.says.child_path c e)))
          (keeps.birth n past T t act batch sd.fresh f i s sd.says a.0 low lives c e new k)
          (tale-birth p home starts code n past T t act batch es f j i s tale a.0 low ahead.rising c e new more)
          ahead_after
          in
          (all_so-map (Pending (made n T (Step t act batch)) g) (Pending T f) (back-birth code starts n past T t act batch sd.fresh f s sd.says a.0 low lives c e new more) (paths j) r.0, r.1)

  pub events-from : (n : ℕ) (es : List Entry) → Later n es
  events-from n [] past T f j a i s k tale ahead = finish n n past T f j i s k tale ahead
  events-from n (e ∷ es) past T f j a i s k tale ahead =
      process n n (e ∷ es) past T f j a i (by_entry n e es past T a i (events-from (suc n) es)) s k tale ahead

-- The start of a whole run.

closes-last : (w : ℕ) (S : State) (j : List PlaceEvent) → IsStoreRun w S j → ClosesLast j
closes-last w S [] h = tt
closes-last w S (Done u stamp cell x ∷ j) h = closes-last w (after_cell S cell) j h.1
closes-last w S (Close stamp ∷ j) h = h

each-begins : (starts : List (Term × Vars)) (es : List Entry) (js : List (List PlaceEvent)) (n : ℕ) (more : List (Term × Vars)) → EachPlays starts es js n more → (i : ℕ) (t : Term) (vars : Vars) → slice_get more i ≡ Some (t, vars) → BeginsWithArrival starts (birth_of es (n + i)).to (travels (birth_of es (n + i))) (birth_of es (n + i)).low vars t (filter_map (cell_of (n + i)) (journal_at js (birth_of es (n + i)).to.0)) (moves_from 0 es (n + i))
each-begins starts es js n [] p i t vars h = cc
each-begins starts es js n (s ∷ more) p zero t vars h =
    let same : s ≡ (t, vars) = let k : Some s ≡ Some (t, vars) = h in cc in
    subst (λ m. BeginsWithArrival starts (birth_of es m).to (travels (birth_of es m)) (birth_of es m).low vars t (filter_map (cell_of m) (journal_at js (birth_of es m).to.0)) (moves_from 0 es m)) (sym (add-zero n))
    (subst (λ (v : Term × Vars). BeginsWithArrival starts (birth_of es n).to (travels (birth_of es n)) (birth_of es n).low v.1 v.0 (filter_map (cell_of n) (journal_at js (birth_of es n).to.0)) (moves_from 0 es n)) same p.0)
each-begins starts es js n (s ∷ more) p (suc i) t vars h =
    let next : suc n + i ≡ n + suc i = omega arith in
    subst (λ m. BeginsWithArrival starts (birth_of es m).to (travels (birth_of es m)) (birth_of es m).low vars t (filter_map (cell_of m) (journal_at js (birth_of es m).to.0)) (moves_from 0 es m)) next
    (each-begins starts es js (suc n) more p.1 i t vars h)

module _ (code : Block) (U : Given) (es : List Entry) (js : List (List PlaceEvent)) (r : IsRun code U es js) where
  abbrev home : ℕ → ℕ
  home c = (birth_of es c).to.0

  begins_at : (c : ℕ) (t : Term) (vars : Vars) → slice_get r.played.starts c ≡ Some (t, vars) → BeginsWithArrival r.played.starts (birth_of es c).to (travels (birth_of es c)) (birth_of es c).low vars t (filter_map (cell_of c) (journal_at js (home c))) (moves_from 0 es c)
  begins_at c t vars h =
      let e : 0 + c ≡ c = omega arith in
      subst (λ m. BeginsWithArrival r.played.starts (birth_of es m).to (travels (birth_of es m)) (birth_of es m).low vars t (filter_map (cell_of m) (journal_at js (birth_of es m).to.0)) (moves_from 0 es m)) e
      (each-begins r.played.starts es js 0 r.played.starts r.played.each c t vars h)

  main_birth : birth_of es 0 ≡ record { from = record { 0 = 0 }; to = record { 0 = 0 }; low = 0 }
  main_birth = born_before 0 (opening U.places) es r.folds.allowed 0 (omega arith)

  module _ (p : ℕ) (j : List PlaceEvent) (at : journal_at js p ≡ j) (ok : JournalOk U es p j) where
    main_goes : (batch : List (List ℕ)) × Goes (Events p home [] (opening U.places) j 0) r.played.starts (items code [] Empty) batch (moves_from 0 es 0)
    main_goes =
        let begins = subst (λ (b : Birth). BeginsWithArrival r.played.starts b.to (travels b) b.low (no_vars U.places) (items code [] Empty) (filter_map (cell_of 0) (journal_at js (home 0))) (moves_from 0 es 0)) main_birth (begins_at 0 (items code [] Empty) (no_vars U.places) r.played.main) in
        let home_zero : home 0 ≡ 0 = ap (λ (b : Birth). b.to.0) main_birth in (
          [],
          on (record { 0 = 0 }) 0 (no_vars U.places) (filter_map (cell_of 0) (journal_at js (home 0)))
              (sym home_zero, λ h. (ap (λ m. filter_map (cell_of 0) (journal_at js m)) h ∙ ap (filter_map (cell_of 0)) at, inr (subst (λ m. stays_here (opening U.places) 0 m ≡ true) (sym home_zero ∙ h) refl)))
              begins,
        )

    tale-start : Tale p home r.played.starts 0 es [] (opening U.places) (λ c. items code [] Empty) j
    tale-start =
        record {
          goes = λ c h. let e : 0 ≡ c = omega arith in subst (λ m. (batch : List (List ℕ)) × Goes (Events p home [] (opening U.places) j m) r.played.starts (items code [] Empty) batch (moves_from 0 es m)) e main_goes;
          unborn = λ c t vars h g. record {
            cells = filter_map (cell_of c) (journal_at js (home c));
            begins = begins_at c t vars g;
            home_is = refl;
            events = λ e. ap (λ m. filter_map (cell_of c) (journal_at js m)) e ∙ ap (filter_map (cell_of c)) at;
          };
          all = r.played.all;
          lives = refl;
        }

    homed : (k : List PlaceEvent) → AtHome es p k → Homed p home (length r.played.starts) k
    homed [] h = tt
    homed (Done u stamp cell x ∷ k) h = (let all = r.played.all in let low = h.0 in omega (arith, all, low), h.1, homed k h.2)
    homed (Close stamp ∷ k) h = homed k h

    journal-pairs : EachPair (NotAfter code) (paths j)
    journal-pairs =
        (events-from code r.played.starts p home (Kept code) (keeps-open code r.played.starts) (NotAfter code) (comes-kept code) (front-first code (Kept code) (kept-covers code))
        0 es [] (opening U.places) (λ c. items code [] Empty) j r.folds.allowed (tied-opening U.places r.folds.few) (shape-start code) (kept-start code U.places) tale-start
        (record { rising = ok.rising; last = closes-last U.heap opening_state j ok.law; closes = ok.closed; homed = homed j ok.homes })).1

  journals-from : (p : ℕ) (ks : List (List PlaceEvent)) → ((i : ℕ) → slice_get js (p + i) ≡ slice_get ks i) → AllJournals U es p ks → JournalsInOrder code ks
  journals-from p [] same ok = tt
  journals-from p (j ∷ ks) same ok =
      let there : slice_get js p ≡ Some j = subst (λ m. slice_get js m ≡ Some j) (add-zero p) (same 0) in
      let at : journal_at js p ≡ j = rw (there, journal_at) in (
        pairs-in_order code (paths j) (journal-pairs p j at ok.0),
        journals-from (suc p) ks (λ i. let e : p + suc i ≡ suc p + i = omega arith in ap (slice_get js) (sym e) ∙ same (suc i)) ok.1,
      )

  pub journals-order : JournalsInOrder code js
  journals-order = journals-from 0 js (λ i. let e : 0 + i ≡ i = omega arith in ap (slice_get js) e) r.journals

  -- the order in history and journals
  pub run-order : OrderKept code es js
  run-order = record { history = history-order code U es js r; journals = journals-order }
