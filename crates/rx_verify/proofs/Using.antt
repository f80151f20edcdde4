-- Which events a walk has used, and that each of them has its cause exactly where its stamp lies between the entries of its task.
use Rattle.std.proofs.Common.{◌≡◌, ℕ, zero, suc, ◌<◌, ◌≤◌, ◌==◌, Bool, true, false, cond, List, [], ◌∷◌, length, take, drop, Some, None, slice_get, refl, ap, ◌∙◌, sym, subst, arith, inl, inr}
use Rattle.std.specs.List.{filter_map, cons_option}
use Rattle.std.proofs.lemmas.Bool.{eq-eqb, eqb-true, true≢false}
use Rattle.std.proofs.lemmas.Bool.Decides.{leb_tells}
use Rattle.rx_rules.proofs.Common.{PlaceId, TaskId, Block, Player, Cells, Moves, Starts, begun, cell_of, journal_at, moves_from, Given, answered, vars_after}
use Rattle.rx_base.proofs.SameIds.{task-is}
use Rattle.rx_rules.specs.declared.entries.Entry.{Entry}
use Rattle.rx_rules.specs.declared.events.Cell.{Cell}
use Rattle.rx_rules.specs.declared.events.PlaceEvent.{PlaceEvent}
use Rattle.rx_rules.specs.declared.events.PlaceEvent.TheVariants.{Done, Close}
use Rattle.rx_verdict.specs.Makes.{KeepsRule, Between}
use Rattle.rx_verdict.specs.Marks.{low_of, home_of, StandsAt, WholePass}
use Rattle.rx_verdict.specs.Verdicts.{HasCause}
use Rattle.rx_verdict.specs.Walks.{Walks, stays, local, stores, asks}
use Rattle.rx_verdict.proofs.Deciding.{seat_walks}
use Rattle.rx_verdict.proofs.Marking.{later, used_event}

-- Events of a task in a journal.

-- a task's event at a position
abbrev IsTold : ℕ → List PlaceEvent → ℕ → ℕ → Cell → List ℕ → Type 0
IsTold t j e stamp cell path = slice_get j e ≡ Some (Done (record { 0 = t }) stamp cell path)

-- the first event of a task from a position on
record First (t : ℕ) (j : List PlaceEvent) (q : ℕ) (c : ℕ × Cell × List ℕ) (cells : Cells) : Type 0 where
  at : ℕ
  from : q ≤ at
  here : IsTold t j at c.0 c.1 c.2
  rest : filter_map (cell_of t) (drop (suc at) j) ≡ cells
  none : (e stamp : ℕ) (cell : Cell) (path : List ℕ) → q ≤ e → e < at → IsTold t j e stamp cell path → ⊥

one_later : (t : ℕ) (x : PlaceEvent) (j : List PlaceEvent) (c : ℕ × Cell × List ℕ) (cells : Cells) → First t j 0 c cells → ((stamp : ℕ) (cell : Cell) (path : List ℕ) → x ≡ Done (record { 0 = t }) stamp cell path → ⊥) → First t (x ∷ j) 0 c cells
one_later t x j c cells f other =
    record {
      at = suc f.at;
      from = omega arith;
      here = f.here;
      rest = f.rest;
      none = passed;
    }
  where
    passed : (e stamp : ℕ) (cell : Cell) (path : List ℕ) → 0 ≤ e → e < suc f.at → IsTold t (x ∷ j) e stamp cell path → ⊥
    passed zero stamp cell path le lt h = other stamp cell path (let it : x ≡ Done (record { 0 = t }) stamp cell path = cc in it)
    passed (suc e) stamp cell path le lt h = f.none e stamp cell path (omega arith) (omega (arith, lt)) h

first_event : (t : ℕ) (j : List PlaceEvent) (q : ℕ) (c : ℕ × Cell × List ℕ) (cells : Cells) → filter_map (cell_of t) (drop q j) ≡ c ∷ cells → First t j q c cells
first_event t [] zero c cells h = absurd (let v : ⊥ = cc in v)
first_event t [] (suc q) c cells h = absurd (let v : ⊥ = cc in v)
first_event t (x ∷ j) (suc q) c cells h =
    let f = first_event t j q c cells h in
    record {
      at = suc f.at;
      from = (let a = f.from in omega (arith, a));
      here = f.here;
      rest = f.rest;
      none = later_on f;
    }
  where
    later_on : (f : First t j q c cells) (e stamp : ℕ) (cell : Cell) (path : List ℕ) → suc q ≤ e → e < suc f.at → IsTold t (x ∷ j) e stamp cell path → ⊥
    later_on f zero stamp cell path le lt k = absurd (omega (arith, le))
    later_on f (suc e) stamp cell path le lt k = f.none e stamp cell path (omega (arith, le)) (omega (arith, lt)) k
first_event t (Close s ∷ j) zero c cells h = one_later t (Close s) j c cells (first_event t j 0 c cells h) (λ stamp cell path e. absurd (let v : ⊥ = cc in v))
first_event t (Done u s d x ∷ j) zero c cells h = by (λ k. first_event t j 0 c cells k) (u.0 == t) refl h where
  other : (stamp : ℕ) (cell : Cell) (path : List ℕ) → (u.0 == t) ≡ false → Done u s d x ≡ Done (record { 0 = t }) stamp cell path → ⊥
  other stamp cell path off e =
      let it : u ≡ record { 0 = t } = cc in
      true≢false (sym (eq-eqb u.0 t (ap (λ (v : TaskId). v.0) it)) ∙ off)

  by : (filter_map (cell_of t) j ≡ c ∷ cells → First t j 0 c cells) → (b : Bool) → (u.0 == t) ≡ b → cons_option (cond b (Some (s, d, x)) None) (filter_map (cell_of t) j) ≡ c ∷ cells → First t (Done u s d x ∷ j) 0 c cells
  by tail_first true w k =
      let it : u ≡ record { 0 = t } = task-is u (record { 0 = t }) (eqb-true u.0 t w) in
      let head : ◌≡◌ {A = ℕ × Cell × List ℕ} (s, d, x) c = cc in
      let tail : filter_map (cell_of t) j ≡ cells = cc in
      record {
        at = 0;
        from = omega arith;
        here = ap (λ (v : TaskId). Some (Done v s d x)) it ∙ ap (λ (v : ℕ × Cell × List ℕ). Some (Done (record { 0 = t }) v.0 v.1 v.2)) head;
        rest = tail;
        none = λ e stamp cell path le lt told. absurd (omega (arith, lt));
      }
  by tail_first false w k = one_later t (Done u s d x) j c cells (tail_first k) (λ stamp cell path e. other stamp cell path w e)

-- Numbers of events.

pub from_here : (t : ℕ) (j : List PlaceEvent) (e stamp : ℕ) (cell : Cell) (x : List ℕ) → IsTold t j e stamp cell x → filter_map (cell_of t) (drop e j) ≡ (stamp, cell, x) ∷ filter_map (cell_of t) (drop (suc e) j)
from_here t [] e stamp cell x h = absurd (let f : ⊥ = cc in f)
from_here t (y ∷ j) zero stamp cell x h =
    let same : y ≡ Done (record { 0 = t }) stamp cell x = cc in
    ap (λ (v : PlaceEvent). cons_option (cell_of t v) (filter_map (cell_of t) j)) same ∙ ap (λ (b : Bool). cons_option (cond b (Some (stamp, cell, x)) None) (filter_map (cell_of t) j)) (eq-eqb t t refl)
from_here t (y ∷ j) (suc e) stamp cell x h = from_here t j e stamp cell x h

-- where as many events are left from one position on as from another, the task has none between them
pub none_between : (t : ℕ) (j : List PlaceEvent) (q r e stamp : ℕ) (cell : Cell) (path : List ℕ) (left : Cells) → filter_map (cell_of t) (drop q j) ≡ left → filter_map (cell_of t) (drop r j) ≡ left → q ≤ e → e < r → IsTold t j e stamp cell path → ⊥
none_between t j q r e stamp cell path left a b low high told =
    let one = later t j q e low in
    let two = later t j (suc e) r (omega (arith, high)) in
    let here = ap (λ (k : Cells). length k) (from_here t j e stamp cell path told) in
    let all = ap (λ (k : Cells). length k) a in
    let end = ap (λ (k : Cells). length k) b in
    absurd (omega (arith, one, two, here, all, end))

-- A walk.

module _ (code : Block) (U : Given) (es : List Entry) (js : List (List PlaceEvent)) (i t : ℕ) (w : WholePass code U es js) where
  abbrev home : PlaceId
  home = home_of (take i es) t

  abbrev journal : List PlaceEvent
  journal = journal_at js home.0

  -- the event has its cause exactly where its stamp lies between the entries of the task before and after this moment
  abbrev pub IsExact : ℕ → ℕ → Type 0
  IsExact e stamp =
      (KeepsRule Between (low_of (take i es) t) stamp (moves_from i (drop i es) t) → HasCause Between code U es js (home_of (take i es) t).0 e)
      × (HasCause Between code U es js (home_of (take i es) t).0 e → KeepsRule Between (low_of (take i es) t) stamp (moves_from i (drop i es) t))

  walked_on : (z y : Player) (left rest : Cells) → StandsAt code U.places es js i t z left → ((starts : Starts) → Walks starts (home_of (take i es) t) z left [] y rest) → StandsAt code U.places es js i t y rest
  walked_on z y left rest g walk =
      record { starts = g.starts; made = g.made; start = g.start; begins = g.begins; seat = seat_walks g.starts (take i es) js t g.start z y left rest g.seat (walk g.starts) }

  used_in : (z y : Player) (left rest : Cells) (moves : Moves) (q r e stamp : ℕ) (cell : Cell) (path : List ℕ) → Walks [] (home_of (take i es) t) z left moves y rest → moves ≡ [] → StandsAt code U.places es js i t z left → filter_map (cell_of t) (drop q (journal_at js (home_of (take i es) t).0)) ≡ left → filter_map (cell_of t) (drop r (journal_at js (home_of (take i es) t).0)) ≡ rest → q ≤ e → e < r → IsTold t (journal_at js (home_of (take i es) t).0) e stamp cell path → IsExact e stamp
  used_in z y left rest moves q r e stamp cell path stays none g a b low high told = absurd (none_between t journal q r e stamp cell path left a b low high told)
  used_in z y left rest moves q r e stamp cell path (local {after = after} {vars = vars} does walk) none g a b low high told =
      let z' : Player = record { term = after; vars = vars; batch = begun z.term z.batch } in
      used_in z' y left rest moves q r e stamp cell path walk none (walked_on z z' left left g (λ starts. local does stays)) a b low high told
  used_in z y left rest moves q r e stamp cell path (stores {cells = cells} {stamp = s0} {cell = c0} {x = x0} answer tells begins walk) none g a b low high told =
      let f = first_event t journal q (s0, c0, x0) cells a in
      let z' : Player = record { term = answered answer z.term; vars = vars_after answer z.vars; batch = begun z.term z.batch } in
      elim (leb_tells f.at e) [
        | inr k ↦ absurd (f.none e stamp cell path low k.1 told)
        | inl k ↦ elim (leb_tells (suc f.at) e) [
          | inl m ↦ used_in z' y cells rest moves (suc f.at) r e stamp cell path walk none (walked_on z z' left cells g (λ starts. stores answer tells begins stays)) f.rest b m.1 high told
          | inr m ↦
              let same : f.at ≡ e = (let c = k.1 in let d = m.1 in omega (arith, c, d)) in
              let there : IsTold t journal e s0 c0 x0 = subst (λ (n : ℕ). IsTold t journal n s0 c0 x0) same f.here in
              let both : Some (Done (record { 0 = t }) s0 c0 x0) ≡ Some (Done (record { 0 = t }) stamp cell path) = sym there ∙ told in
              let stamps : s0 ≡ stamp = cc in
              let after : filter_map (cell_of t) (drop (suc e) journal) ≡ cells = subst (λ (n : ℕ). filter_map (cell_of t) (drop (suc n) journal) ≡ cells) same f.rest in
              subst (λ (n : ℕ). IsExact e n) stamps (used_event Between code U es js i t e s0 z c0 x0 cells w g (record { here = there; rest = after; answer = answer; tells = tells; begins = begins }))
        ]
      ]
  used_in z y left rest moves q r e stamp cell path (asks fits so walk) none g a b low high told = absurd (let v : ⊥ = cc in v)

  -- each event that a walk without entries used is so
  pub used_exactly : (z y : Player) (left rest : Cells) (q r e stamp : ℕ) (cell : Cell) (path : List ℕ) → Walks [] (home_of (take i es) t) z left [] y rest → StandsAt code U.places es js i t z left → filter_map (cell_of t) (drop q (journal_at js (home_of (take i es) t).0)) ≡ left → filter_map (cell_of t) (drop r (journal_at js (home_of (take i es) t).0)) ≡ rest → q ≤ e → e < r → slice_get (journal_at js (home_of (take i es) t).0) e ≡ Some (Done (record { 0 = t }) stamp cell path) → IsExact e stamp
  used_exactly z y left rest q r e stamp cell path walk g a b low high told = used_in z y left rest [] q r e stamp cell path walk refl g a b low high told
