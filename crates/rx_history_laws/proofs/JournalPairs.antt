-- A relation that holds of each two statements of the events of a journal, the earlier first, if it follows from the order of
-- words and holds of each one that a task begins and each one that another living task has still to begin then.
use Rattle.std.proofs.Common.{◌≡◌, ◌⊎◌, ℕ, suc, ◌+◌, ◌<◌, ◌≤◌, Bool, true, false, cond, not, ◌==◌, List, [], ◌∷◌, length, Some, None, is_some, slice_get, refl, ap, sym, subst, ◌∙◌, arith, inl, inr}
use Rattle.std.specs.List.{filter_map, cons_option}
use Rattle.std.proofs.lemmas.Bool.{eq-eqb, ne_eqb, cases_order}
use Rattle.rx_rules.proofs.Common.{PlaceId, TaskId, Fault, PlaceSet, Block, Term, Vars, Tree, death_of, the_root, AllowedAct, made, made_act, AllAllowed, births, BeginsWithArrival, Birth, birth_from, travels, cell_of, moves_from, started_by, NotFalling, death_number, close_in, ClosesAt, born_so_far}
use Rattle.rx_rules.specs.declared.entries.Act.{Act}
use Rattle.rx_rules.specs.declared.entries.Act.TheVariants.{Arrive}
use Rattle.rx_rules.specs.declared.entries.Entry.{Entry}
use Rattle.rx_rules.specs.declared.entries.Entry.TheVariants.{Step, Root, Death, Join}
use Rattle.rx_rules.specs.declared.events.Cell.{Cell}
use Rattle.rx_rules.specs.declared.events.PlaceEvent.{PlaceEvent}
use Rattle.rx_rules.specs.declared.events.PlaceEvent.TheVariants.{Done, Close}
use Rattle.rx_base.proofs.Options.{none-of}
use Rattle.rx_base.proofs.Elements.{get-within}
use Rattle.rx_rules.specs.declared.entries.Act.{Act}
use Rattle.rx_rules.specs.declared.entries.Act.TheVariants.{Arrive}
use Rattle.rx_rules.specs.declared.entries.Entry.{Entry}
use Rattle.rx_rules.specs.declared.entries.Entry.TheVariants.{Step, Root, Death, Join}
use Rattle.rx_rules.specs.declared.events.Cell.{Cell}
use Rattle.rx_rules.specs.declared.events.PlaceEvent.{PlaceEvent}
use Rattle.rx_rules.specs.declared.events.PlaceEvent.TheVariants.{Done, Close}
use Rattle.rx_rules.specs.Order.{event_path}
use Rattle.rx_rules.proofs.Lookups.{number-of}
use Rattle.rx_tree_laws.proofs.Births.{StartsOther, from-other, from-here, births-left}
use Rattle.rx_history_laws.proofs.Paths.{Comes}
use Rattle.rx_history_laws.proofs.TermOrder.{Todo}
use Rattle.rx_history_laws.proofs.Lies.{Moves}
use Rattle.rx_history_laws.proofs.Rows.{to_in, travels-to}
use Rattle.rx_history_laws.proofs.NestedTerm.{EachStarts}
use Rattle.rx_history_laws.proofs.Ties.{Tied, has_died}
use Rattle.rx_history_laws.proofs.Stacks.{open_paths, outermost}
use Rattle.rx_history_laws.proofs.Says.{Goes, on, travels as on_its_way, goes-map, Passes, Said, said}
use Rattle.rx_history_laws.proofs.Story.{Shape, set_at, set_case, moves_own, moves_other, shape-inner}
use Rattle.rx_history_laws.proofs.ToldPairs.{is_alive}
use Rattle.rx_history_laws.proofs.Events.{EventFrom, IsDue, NextEvent, next-event, none-due, none-before}
use Rattle.rx_history_laws.proofs.Here.{stays_here, here-alive, here-act, here-without, here-death, here-lands}
use Rattle.rx_history_laws.proofs.Newborn.{to-same, newborn, birth-low}

abbrev pub Cells : Type 0
Cells = List (ℕ × Cell × List ℕ)

-- the statements of a journal's events
abbrev pub paths : List PlaceEvent → List (List ℕ)
paths j = filter_map event_path j

-- nothing stands after a close
abbrev pub ClosesLast : List PlaceEvent → Type 0
ClosesLast [] = Unit {0}
ClosesLast (Done u stamp cell x ∷ j) = ClosesLast j
ClosesLast (Close stamp ∷ j) = j ≡ []

own_cell : (u : TaskId) (stamp : ℕ) (cell : Cell) (x : List ℕ) (j : List PlaceEvent) → filter_map (cell_of u.0) (Done u stamp cell x ∷ j) ≡ (stamp, cell, x) ∷ filter_map (cell_of u.0) j
own_cell u stamp cell x j = rw (eq-eqb u.0 u.0 refl)

other_cell : (u : TaskId) (stamp : ℕ) (cell : Cell) (x : List ℕ) (j : List PlaceEvent) (d : ℕ) → (u.0 ≡ d → ⊥) → filter_map (cell_of d) (Done u stamp cell x ∷ j) ≡ filter_map (cell_of d) j
other_cell u stamp cell x j d o = rw (ne_eqb u.0 d o)

falling-lower : (low high : ℕ) → low ≤ high → (j : List PlaceEvent) → NotFalling high j → NotFalling low j
falling-lower low high h [] f = tt
falling-lower low high h (e ∷ j) f = (let k = f.0 in omega (arith, k), f.1)

events-late : (low c : ℕ) (j : List PlaceEvent) → NotFalling low j → EventFrom low (filter_map (cell_of c) j)
events-late low c [] f = tt
events-late low c (Close stamp ∷ j) f = events-late low c j (falling-lower low stamp f.0 j f.1)
events-late low c (Done u stamp cell x ∷ j) f =
    by_task (u.0 == c) (events-late low c j (falling-lower low stamp f.0 j f.1)) where
      by_task : (y : Bool) → EventFrom low (filter_map (cell_of c) j) → EventFrom low (cons_option (cond y (Some (stamp, cell, x)) None) (filter_map (cell_of c) j))
      by_task true h = f.0
      by_task false h = h

abbrev FirstFrom : ℕ → List ℕ → Type 0
FirstFrom low [] = Unit {0}
FirstFrom low (n ∷ ns) = low ≤ n

pub closes-late : (low : ℕ) (j : List PlaceEvent) → NotFalling low j → FirstFrom low (filter_map close_in j)
closes-late low [] f = tt
closes-late low (Close stamp ∷ j) f = f.0
closes-late low (Done u stamp cell x ∷ j) f = closes-late low j (falling-lower low stamp f.0 j f.1)

pub not_first : (n : ℕ) (ns : List ℕ) → FirstFrom (suc n) ns → ns ≡ n ∷ [] → ⊥
not_first n [] f e = cc
not_first n (m ∷ ns) f e = let same : m ≡ n = cc in omega arith

empty_cell : (stamp : ℕ) (cell : Cell) (x : List ℕ) (cells rest : Cells) → cells ≡ (stamp, cell, x) ∷ rest → cells ≡ [] → ⊥
empty_cell stamp cell x cells rest e k = let bad : [] ≡ (stamp, cell, x) ∷ rest = sym k ∙ e in cc

module _ (p : ℕ) (home : ℕ → ℕ) where
  -- each event is of a task that is started for the place
  abbrev pub Homed : ℕ → List PlaceEvent → Type 0
  Homed bound [] = Unit {0}
  Homed bound (Done u stamp cell x ∷ j) = (u.0 < bound) × (home u.0 ≡ p) × Homed bound j
  Homed bound (Close stamp ∷ j) = Homed bound j

  -- what is known of the events that task c has still to make: at the place they are those of the journal, and a task that has
  -- some and does not travel is living there
  abbrev pub Events : List Entry → Tree → List PlaceEvent → ℕ → Bool → PlaceId → Cells → Type 0
  Events past T j c false here cells = (here.0 ≡ home c) × (home c ≡ p → (cells ≡ filter_map (cell_of c) j) × ((cells ≡ []) ⊎ (stays_here T c p ≡ true)))
  Events past T j c true here cells = (here.0 ≡ home c) × (home c ≡ p → cells ≡ filter_map (cell_of c) j) × (to_in (born_so_far past) c ≡ home c)

  module _ (starts : List (Term × Vars)) where
    pub record Unborn (n : ℕ) (es : List Entry) (j : List PlaceEvent) (c : ℕ) (t : Term) (vars : Vars) : Type 0 where
      pub cells : Cells
      pub begins : BeginsWithArrival starts (birth_from n es c).to (travels (birth_from n es c)) (birth_from n es c).low vars t cells (moves_from n es c)
      pub home_is : (birth_from n es c).to.0 ≡ home c
      pub events : home c ≡ p → cells ≡ filter_map (cell_of c) j

    -- the entries from entry n on and the events of j are still to come
    pub record Tale (n : ℕ) (es past : List Entry) (T : Tree) (f : ℕ → Term) (j : List PlaceEvent) : Type 0 where
      pub goes : (c : ℕ) → c < T.next_task → (batch : List (List ℕ)) × Goes (Events past T j c) starts (f c) batch (moves_from n es c)
      pub unborn : (c : ℕ) (t : Term) (vars : Vars) → T.next_task ≤ c → slice_get starts c ≡ Some (t, vars) → Unborn n es j c t vars
      pub all : length starts ≡ T.next_task + births es
      pub lives : has_died past p ≡ false

    -- the journal from here on
    pub record Ahead (n low : ℕ) (es : List Entry) (j : List PlaceEvent) : Type 0 where
      pub rising : NotFalling low j
      pub last : ClosesLast j
      pub closes : ClosesAt (death_number n (record { 0 = p }) es) j
      pub homed : Homed (length starts) j

    unborn-other : (n m : ℕ) (es fs : List Entry) (j k : List PlaceEvent) (c : ℕ) (t : Term) (vars : Vars) → birth_from n es c ≡ birth_from m fs c → moves_from n es c ≡ moves_from m fs c → filter_map (cell_of c) j ≡ filter_map (cell_of c) k → Unborn n es j c t vars → Unborn m fs k c t vars
    unborn-other n m es fs j k c t vars eb em ej u =
        record {
          cells = u.cells;
          begins = subst (λ (b : Birth). BeginsWithArrival starts b.to (travels b) b.low vars t u.cells (moves_from m fs c)) eb (subst (BeginsWithArrival starts (birth_from n es c).to (travels (birth_from n es c)) (birth_from n es c).low vars t u.cells) em u.begins);
          home_is = ap (λ (b : Birth). b.to.0) (sym eb) ∙ u.home_is;
          events = λ h. u.events h ∙ ej;
        }

    -- An event that is due: its task is born and lives, and goes on behind it.
    pub record Behind (code : Block) (n : ℕ) (es past : List Entry) (T : Tree) (f : ℕ → Term) (u : ℕ) (x : List ℕ) (j : List PlaceEvent) : Type 0 where
      pub low : u < T.next_task
      pub alive : is_alive T u ≡ true
      pub after : Term
      pub todo : Todo (f u) x
      pub shrinks : (y : List ℕ) → Todo after y → Todo (f u) y
      pub comes : (y : List ℕ) → Todo after y → Comes x y
      pub deep : EachStarts (outermost (open_paths past u)) x
      pub moves : Moves code (f u) after
      pub shape : Shape code past T.next_task (set_at u after f)
      pub tale : Tale n es past T (set_at u after f) j

    module _ (code : Block) (n : ℕ) (es past : List Entry) (T : Tree) (f : ℕ → Term) (s : Shape code past T.next_task f) (u : TaskId) (stamp : ℕ) (cell : Cell) (x : List ℕ) (j : List PlaceEvent) (tale : Tale n es past T f (Done u stamp cell x ∷ j)) (at_home : home u.0 ≡ p) (due : (c : ℕ) → IsDue stamp (moves_from n es c)) where
      pub behind : u.0 < T.next_task → Behind code n es past T f u.0 x j
      behind low = by_goes (tale.goes u.0 low).1 where
        by_event : (batch : List (List ℕ)) (here : PlaceId) (lo : ℕ) (vars : Vars) (cells : Cells) → Events past T (Done u stamp cell x ∷ j) u.0 false here cells → cells ≡ (stamp, cell, x) ∷ filter_map (cell_of u.0) j → stays_here T u.0 p ≡ true → NextEvent starts here (f u.0) x (filter_map (cell_of u.0) j) (moves_from n es u.0) → Behind code n es past T f u.0 x j
        by_event batch here lo vars cells ev same stays e =
            record {
              low = low;
              alive = here-alive T u.0 p stays;
              after = e.after;
              todo = e.todo;
              shrinks = e.shrinks;
              comes = e.comes;
              deep = e.inside (outermost (open_paths past u.0)) (s.nested u.0 low);
              moves = e.brings code (s.coded u.0 low);
              shape = shape-inner code past u.0 e.after T.next_task f low e.sorted e.shrinks (e.coded code) e.nested s;
              tale = record {
                goes = λ d h. set_case (λ v. (b : List (List ℕ)) × Goes (Events past T j d) starts v b (moves_from n es d)) u.0 d e.after f
                    (λ i. subst (λ m. (b : List (List ℕ)) × Goes (Events past T j m) starts e.after b (moves_from n es m)) i
                    (e.batch, on here e.low e.vars (filter_map (cell_of u.0) j) (ev.0, λ h. (refl, inr stays)) e.plays))
                    (λ o. let g = tale.goes d h in (g.0, goes-map (Events past T (Done u stamp cell x ∷ j) d) (Events past T j d) starts (f d) g.0 (moves_from n es d) (pass d o) g.1));
                unborn = λ d t vars h g. unborn-other n n es es (Done u stamp cell x ∷ j) j d t vars refl refl (other_cell u stamp cell x j d (λ i. omega arith)) (tale.unborn d t vars h g);
                all = tale.all;
                lives = tale.lives;
              };
            }
          where
            pass : (d : ℕ) → (u.0 ≡ d → ⊥) → (y : Bool) (here : PlaceId) (cells : Cells) → Events past T (Done u stamp cell x ∷ j) d y here cells → Events past T j d y here cells
            pass d o false here cells ev = (ev.0, λ h. ((ev.1 h).0 ∙ other_cell u stamp cell x j d o, (ev.1 h).1))
            pass d o true here cells ev = (ev.0, λ h. ev.1 h ∙ other_cell u stamp cell x j d o, ev.2)

        by_goes : Goes (Events past T (Done u stamp cell x ∷ j) u.0) starts (f u.0) (tale.goes u.0 low).0 (moves_from n es u.0) → Behind code n es past T f u.0 x j
        by_goes (on here lo vars cells ev plays) =
            let known = ev.1 at_home in
            let same : cells ≡ (stamp, cell, x) ∷ filter_map (cell_of u.0) j = known.0 ∙ own_cell u stamp cell x j in
            let stays : stays_here T u.0 p ≡ true = elim known.1 [
              | inl none ↦ absurd (empty_cell stamp cell x cells (filter_map (cell_of u.0) j) same none)
              | inr h ↦ h
            ] in
            by_event (tale.goes u.0 low).0 here lo vars cells ev same stays (next-event (s.sorted u.0 low) plays stamp cell x (filter_map (cell_of u.0) j) same (due u.0))
        by_goes (on_its_way here lo vars cells ev e b) =
            absurd (none-due starts here lo vars (f u.0) cells (moves_from n es u.0) b stamp cell x (filter_map (cell_of u.0) j) (ev.1 at_home ∙ own_cell u stamp cell x j) (due u.0))

      -- a task with an event that is due is born
      pub born-due : AllAllowed n T es → u.0 < length starts → (es ≡ []) ⊎ (stamp ≤ n) → u.0 < T.next_task
      born-due a bound when =
          elim (cases_order u.0 T.next_task) [
            | inl same ↦ absurd (unborn_due (omega arith))
            | inr (inl less) ↦ less
            | inr (inr more) ↦ absurd (unborn_due (omega arith))
          ]
        where
          count : u.0 < T.next_task + births es
          count = let k = tale.all in omega (arith, k)

          unborn_due : T.next_task ≤ u.0 → ⊥
          unborn_due le =
              elim when [
                | inl none ↦
                    let few : births es ≡ 0 = ap births none in
                    let k = count in omega (arith, few, k)
                | inr early ↦
                    let at = get-within starts u.0 bound in
                    let w = tale.unborn u.0 at.0.0 at.0.1 le at.1 in
                    none-before starts (birth_from n es u.0).to (travels (birth_from n es u.0)) n (birth_from n es u.0).low at.0.1 at.0.0 w.cells (moves_from n es u.0) w.begins (birth-low n T es a u.0 le count) stamp cell x (filter_map (cell_of u.0) j) (w.events at_home ∙ own_cell u stamp cell x j) early (due u.0)
              ]

    late_cell : (n c stamp : ℕ) (cell : Cell) (x : List ℕ) (cells : Cells) (j : List PlaceEvent) → NotFalling (suc n) j → (stamp, cell, x) ∷ cells ≡ filter_map (cell_of c) j → stamp ≤ n → ⊥
    late_cell n c stamp cell x cells j rising e le =
        let k : suc n ≤ stamp = subst (EventFrom (suc n)) (sym e) (events-late (suc n) c j rising) in omega arith

    -- an entry of a task, where no event is due
    module _ (code : Block) (n : ℕ) (past : List Entry) (T : Tree) (t : TaskId) (act : Act) (batch : List (List ℕ)) (es : List Entry) (f : ℕ → Term) (j : List PlaceEvent) (i : Tied past T) (s : Shape code past T.next_task f) (tale : Tale n (Step t act batch ∷ es) past T f j) (a : AllowedAct T t act) (low : t.0 < T.next_task) (rising : NotFalling (suc n) j) where
      abbrev pub after : Tree
      after = made_act T t act

      lands_here : (w : PlaceId) → act ≡ Arrive w → to_in (born_so_far past) t.0 ≡ home t.0 → home t.0 ≡ p → stays_here after t.0 p ≡ true
      lands_here w e to h =
          let may = subst (AllowedAct T t) e a in
          let at : w.0 ≡ p = travels-to past T i t may.task may.asks.0 w may.stands may.asks.1 ∙ to ∙ h in
          subst (λ v. stays_here (made_act T t v) t.0 p ≡ true) (sym e)
          (subst (λ v. stays_here (made_act T t (Arrive w)) t.0 v ≡ true) at (here-lands T t w may.task may.stands (number-of T t may.task may.stands) may.unstruck))

      pub passes : Passes (Events past T j t.0) (Events (Step t act batch ∷ past) after j t.0) n act
      passes =
          record {
            drops = λ here stamp cell x cells le ev. (ev.0, λ h. absurd (late_cell n t.0 stamp cell x cells j rising (ev.1 h).0 le));
            stays = λ here cells no_arrival no_end ev. (
              ev.0,
              λ h. (
                (ev.1 h).0,
                elim (ev.1 h).1 [
                  | inl e ↦ inl e
                  | inr k ↦ inr (here-act T t act t.0 p a (inr (no_arrival, no_end)) k)
                ],
              ),
            );
            ends = λ here ev. (ev.0, λ h. ((ev.1 h).0, inl refl));
            lands = λ here w cells e ev. (ev.0, λ h. (ev.1 h, inr (lands_here w e ev.2 h)));
          }

      pub now : Said (Events (Step t act batch ∷ past) after j t.0) starts (f t.0) act (tale.goes t.0 low).0 batch (moves_from (suc n) es t.0)
      now =
          said (Events past T j t.0) (Events (Step t act batch ∷ past) after j t.0) starts (f t.0) n act (tale.goes t.0 low).0 batch (moves_from (suc n) es t.0) passes (s.sorted t.0 low)
          (subst (Goes (Events past T j t.0) starts (f t.0) (tale.goes t.0 low).0) (moves_own n t act batch es) (tale.goes t.0 low).1)

      pass_other : (d : ℕ) → (t.0 ≡ d → ⊥) → d < T.next_task → (y : Bool) (here : PlaceId) (cells : Cells) → Events past T j d y here cells → Events (Step t act batch ∷ past) after j d y here cells
      pass_other d o hd false here cells ev = (
        ev.0,
        λ h. (
          (ev.1 h).0,
          elim (ev.1 h).1 [
            | inl e ↦ inl e
            | inr k ↦ inr (here-act T t act d p a (inl o) k)
          ],
        ),
      )
      pass_other d o hd true here cells ev = (ev.0, ev.1, to-same past T t act batch a d hd ∙ ev.2)

      old_goes : (d : ℕ) → d < T.next_task → (b : List (List ℕ)) × Goes (Events (Step t act batch ∷ past) after j d) starts (set_at t.0 now.says.after f d) b (moves_from (suc n) es d)
      old_goes d h =
          set_case (λ v. (b : List (List ℕ)) × Goes (Events (Step t act batch ∷ past) after j d) starts v b (moves_from (suc n) es d)) t.0 d now.says.after f
          (λ e. subst (λ m. (b : List (List ℕ)) × Goes (Events (Step t act batch ∷ past) after j m) starts now.says.after b (moves_from (suc n) es m)) e ([], now.goes))
          (λ o. let g = tale.goes d h in (g.0, subst (Goes (Events (Step t act batch ∷ past) after j d) starts (f d) g.0) (moves_other n t act batch es d o) (goes-map (Events past T j d) (Events (Step t act batch ∷ past) after j d) starts (f d) g.0 (moves_from n (Step t act batch ∷ es) d) (pass_other d o h) g.1)))

      old_unborn : (d : ℕ) (u : Term) (vars : Vars) → T.next_task ≤ d → StartsOther act d → slice_get starts d ≡ Some (u, vars) → Unborn (suc n) es j d u vars
      old_unborn d u vars h o g =
          unborn-other n (suc n) (Step t act batch ∷ es) es j j d u vars (from-other n d t act batch es o) (moves_other n t act batch es d (λ e. omega arith)) refl (tale.unborn d u vars h g)

      pub tale-step : started_by act ≡ None → after.next_task ≡ T.next_task → Tale (suc n) es (Step t act batch ∷ past) after (set_at t.0 now.says.after f) j
      tale-step none same =
          record {
            goes = λ d h. old_goes d (omega (arith, same, h));
            unborn = λ d u vars h g. old_unborn d u vars (omega (arith, same, h)) (λ c e k. let bad : None ≡ Some c = sym none ∙ e in absurd (let f : ⊥ = cc in f)) g;
            all = tale.all ∙ births-left n T (Step t act batch) es;
            lives = tale.lives;
          }

      -- the task that the entry starts
      module _ (c : TaskId) (e : started_by act ≡ Some c) (new : c.0 ≡ T.next_task) where
        new_goes : Goes (Events (Step t act batch ∷ past) after j c.0) starts (now.says.child c e).term [] (moves_from (suc n) es c.0)
        new_goes =
            let ch = now.says.child c e in
            let b = newborn n past T t act batch a c e in
            let it : birth_from n (Step t act batch ∷ es) c.0 ≡ record { from = b.from; to = b.to; low = suc n } = from-here n t act batch es c.0 (record { from = b.from; to = b.to; low = suc n }) b.birth in
            let w = tale.unborn c.0 ch.term ch.vars (omega (arith, new)) ch.at in
            let at_home : b.to.0 ≡ home c.0 = ap (λ (v : Birth). v.to.0) (sym it) ∙ w.home_is in
            let others : moves_from n (Step t act batch ∷ es) c.0 ≡ moves_from (suc n) es c.0 = moves_other n t act batch es c.0 (λ k. omega (arith, new)) in
            let begins : BeginsWithArrival starts b.to (not (b.from.0 == b.to.0)) (suc n) ch.vars ch.term w.cells (moves_from (suc n) es c.0) =
            subst (λ (v : Birth). BeginsWithArrival starts v.to (travels v) v.low ch.vars ch.term w.cells (moves_from (suc n) es c.0)) it
            (subst (BeginsWithArrival starts (birth_from n (Step t act batch ∷ es) c.0).to (travels (birth_from n (Step t act batch ∷ es) c.0)) (birth_from n (Step t act batch ∷ es) c.0).low ch.vars ch.term w.cells) others w.begins)
            in
            by_way ch.term ch.vars b.from b.to w.cells (b.from.0 == b.to.0) refl at_home w.events (b.dest ∙ at_home) b.target b.here begins
          where
            by_way : (u : Term) (vars : Vars) (from to : PlaceId) (cells : Cells) (y : Bool) → (from.0 == to.0) ≡ y → to.0 ≡ home c.0 → (home c.0 ≡ p → cells ≡ filter_map (cell_of c.0) j) → to_in (born_so_far (Step t act batch ∷ past)) c.0 ≡ home c.0 → to.0 < T.places → ((from.0 == to.0) ≡ true → death_of T to ≡ None → stays_here after c.0 to.0 ≡ true) → BeginsWithArrival starts to (not y) (suc n) vars u cells (moves_from (suc n) es c.0) → Goes (Events (Step t act batch ∷ past) after j c.0) starts u [] (moves_from (suc n) es c.0)
            by_way u vars from to cells true y at_home events dest target here begins =
                on to (suc n) vars cells (
                  at_home,
                  λ h. (
                    events h,
                    inr (
                        let at : to.0 ≡ p = at_home ∙ h in
                        let low : to.0 < length T.dead = let k : T.places ≤ length T.dead = i.few in omega (arith, k, target) in
                        let alive : is_some (death_of T to) ≡ false = i.dead_so to low ∙ ap (has_died past) at ∙ tale.lives in
                        subst (λ v. stays_here after c.0 v ≡ true) at (here y (none-of (death_of T to) alive))),
                  ),
                ) begins
            by_way u vars from to cells false y at_home events dest target here begins =
                on_its_way to (suc n) vars cells (at_home, events, dest) refl begins

        pub tale-birth : after.next_task ≡ suc T.next_task → Tale (suc n) es (Step t act batch ∷ past) after (set_at T.next_task (now.says.child c e).term (set_at t.0 now.says.after f)) j
        tale-birth more =
            record {
              goes = λ d h. set_case (λ v. (b : List (List ℕ)) × Goes (Events (Step t act batch ∷ past) after j d) starts v b (moves_from (suc n) es d)) T.next_task d (now.says.child c e).term (set_at t.0 now.says.after f)
                  (λ k. subst (λ m. (b : List (List ℕ)) × Goes (Events (Step t act batch ∷ past) after j m) starts (now.says.child c e).term b (moves_from (suc n) es m)) (new ∙ k) ([], new_goes))
                  (λ o. old_goes d (before d h o));
              unborn = λ d u vars h g. old_unborn d u vars (omega (arith, more, h))
                  (λ m k w. let same : c ≡ m = let g : Some c ≡ Some m = sym e ∙ k in cc in let number : c.0 ≡ m.0 = ap (λ (v : TaskId). v.0) same in omega (arith, more, h, new, number, w)) g;
              all = tale.all ∙ births-left n T (Step t act batch) es;
              lives = tale.lives;
            }
          where
            before : (d : ℕ) → d < after.next_task → (T.next_task ≡ d → ⊥) → d < T.next_task
            before d h o =
                elim (cases_order d T.next_task) [
                  | inl k ↦ absurd (o (sym k))
                  | inr (inl k) ↦ k
                  | inr (inr k) ↦ absurd (omega (arith, more, h, k))
                ]

    -- an entry of the host
    pub tale-root : (n : ℕ) (past : List Entry) (T : Tree) (lost : PlaceSet) (masked : ℕ) (thrown : List Fault) (es : List Entry) (f : ℕ → Term) (j : List PlaceEvent) → Tale n (Root lost masked thrown ∷ es) past T f j → Tale (suc n) es (Root lost masked thrown ∷ past) (made n T (Root lost masked thrown)) f j
    tale-root n past T lost masked thrown es f j tale =
        record {
          goes = λ d h. let g = tale.goes d h in (g.0, goes-map (Events past T j d) (Events (Root lost masked thrown ∷ past) (made n T (Root lost masked thrown)) j d) starts (f d) g.0 (moves_from (suc n) es d) (pass d) g.1);
          unborn = λ d u vars h g. unborn-other n (suc n) (Root lost masked thrown ∷ es) es j j d u vars refl refl refl (tale.unborn d u vars h g);
          all = tale.all ∙ births-left n T (Root lost masked thrown) es;
          lives = tale.lives;
        }
      where
        pass : (d : ℕ) (y : Bool) (here : PlaceId) (cells : Cells) → Events past T j d y here cells → Events (Root lost masked thrown ∷ past) (made n T (Root lost masked thrown)) j d y here cells
        pass d false here cells ev = (
          ev.0,
          λ h. (
            (ev.1 h).0,
            elim (ev.1 h).1 [
              | inl e ↦ inl e
              | inr k ↦ inr (here-without T the_root d p k)
            ],
          ),
        )
        pass d true here cells ev = ev

    pub tale-death : (n : ℕ) (past : List Entry) (T : Tree) (d : PlaceId) (es : List Entry) (f : ℕ → Term) (j : List PlaceEvent) → (d.0 ≡ p → ⊥) → Tale n (Death d ∷ es) past T f j → Tale (suc n) es (Death d ∷ past) (made n T (Death d)) f j
    tale-death n past T d es f j o tale =
        record {
          goes = λ c h. let g = tale.goes c h in (g.0, goes-map (Events past T j c) (Events (Death d ∷ past) (made n T (Death d)) j c) starts (f c) g.0 (moves_from (suc n) es c) (pass c) g.1);
          unborn = λ c u vars h g. unborn-other n (suc n) (Death d ∷ es) es j j c u vars refl refl refl (tale.unborn c u vars h g);
          all = tale.all ∙ births-left n T (Death d) es;
          lives = rw (ne_eqb d.0 p o) tale.lives;
        }
      where
        pass : (c : ℕ) (y : Bool) (here : PlaceId) (cells : Cells) → Events past T j c y here cells → Events (Death d ∷ past) (made n T (Death d)) j c y here cells
        pass c false here cells ev = (
          ev.0,
          λ h. (
            (ev.1 h).0,
            elim (ev.1 h).1 [
              | inl e ↦ inl e
              | inr k ↦ inr (here-death T (record { place = d; entry = n }) c p o k)
            ],
          ),
        )
        pass c true here cells ev = ev

    pub tale-join : (n : ℕ) (past : List Entry) (T : Tree) (d : PlaceId) (es : List Entry) (f : ℕ → Term) (j : List PlaceEvent) → Tale n (Join d ∷ es) past T f j → Tale (suc n) es (Join d ∷ past) (made n T (Join d)) f j
    tale-join n past T d es f j tale =
        record {
          goes = λ c h. let g = tale.goes c h in (g.0, goes-map (Events past T j c) (Events (Join d ∷ past) (made n T (Join d)) j c) starts (f c) g.0 (moves_from (suc n) es c) (pass c) g.1);
          unborn = λ c u vars h g. unborn-other n (suc n) (Join d ∷ es) es j j c u vars refl refl refl (tale.unborn c u vars h g);
          all = tale.all ∙ births-left n T (Join d) es;
          lives = tale.lives;
        }
      where
        pass : (c : ℕ) (y : Bool) (here : PlaceId) (cells : Cells) → Events past T j c y here cells → Events (Join d ∷ past) (made n T (Join d)) j c y here cells
        pass c false here cells ev = ev
        pass c true here cells ev = ev
