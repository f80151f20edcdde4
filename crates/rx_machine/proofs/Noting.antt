-- The set of the enabled tasks after a turn.
use Rattle.std.proofs.Common.{◌≡◌, ◌≢◌, ℕ, suc, ◌<◌, ◌≤◌, ◌%◌, Bool, true, false, List, [], ◌∷◌, ◌++◌, length, Option, Some, None, slice_get, refl, ap, ◌∙◌, sym, subst, arith, inl, inr}
use Rattle.std.proofs.lemmas.Bool.{cases_lt}
use Rattle.rx_rules.proofs.Common.{TaskId, ScopeId, Fault, Block, Tree, task_of, on_chain, the_root, AllowedAct, made_act, made, after_end, tree_of, Reached, Given, Game, Player, Turn, planned as due, arrives, moves, root, enabled, tree_in}
use Rattle.rx_rules.specs.declared.tasks.Task.{Task}
use Rattle.rx_rules.specs.declared.entries.Act.{Act}
use Rattle.rx_rules.specs.declared.entries.Act.TheVariants.{Open, At as Calls, Spawn, Arrive, Wait, Release, End, Print, Census}
use Rattle.rx_rules.specs.declared.entries.Entry.{Entry}
use Rattle.rx_rules.specs.declared.entries.Entry.TheVariants.{Step, Root, Death, Join}
use Rattle.rx_rules.specs.Picked.{ends}
use Rattle.rx_rules.proofs.Append.{tree-push}
use Rattle.rx_rank.specs.Numbers.{Numbers, Ascends, marked}
use Rattle.rx_tree_laws.specs.Sound.{Sound, ReachedSound}
use Rattle.rx_tree_laws.specs.Enabling.{able, OthersStay, nearest_opener, FreesOne, WayStays}
use Rattle.rx_tree_laws.specs.Histories.{FoldReached}
use Rattle.rx_runs.specs.Coming.{GamesCome}
use Rattle.rx_syntax.specs.Shape.{Shape}
use Rattle.rx_history.specs.Logs.{Log}
use Rattle.rx_machine.specs.declared.machine.Machine.{Machine}
use Rattle.rx_machine.specs.declared.seat.Seat.{Seat}
use Rattle.rx_machine.specs.Slots.{row_of, seat_at, live_task, SlotIs}
use Rattle.rx_machine.specs.Picking.{slot_able, is_listed, AreEnabled}
use Rattle.rx_machine.specs.Holds.{Seated, MachineInvariant, CanTurn}
use Rattle.rx_machine.specs.Runs.{HasMoved, AfterTurn, WentOn, Taken}
use Rattle.rx_machine.proofs.Finding.{same_or_not}
use Rattle.rx_machine.proofs.Live.{live_stands, live_number}
use Rattle.rx_machine.proofs.Whole.{stays_open}
use Rattle.rx_machine.proofs.BeforeTurn.{seated-on, can-turn}
use Rattle.rx_machine.proofs.Deaths.{HasFallen}
use Rattle.rx_machine.proofs.Walking.{acts_on}
use Rattle.rx_machine.proofs.Readying.{marked_same, marked_other, ascends_marked, slot_task, able_high}

-- nothing but the set is another
pub can-same : {L : Type 0} (shape : Shape) (code : Block) (U : Given) (m : Machine L) (r : Numbers) (G : Game) → CanTurn shape code U m G → CanTurn shape code U (record m { ready = r }) G
can-same shape code U m r G c = record { holds = seated-on m (record m { ready = r }) refl refl refl refl refl c.holds; unreleased = c.unreleased; numbers = c.numbers; reached = c.reached }

-- How many tasks there are after an entry.

pub record Grows (T T' : Tree) : Type 0 where
  pub least : T.next_task ≤ T'.next_task
  pub most : T'.next_task ≤ suc T.next_task

grows : (T T' : Tree) → T'.next_task ≡ T.next_task → Grows T T'
grows T T' e = record { least = omega (arith, e); most = omega (arith, e) }

one_more : (T T' : Tree) → T'.next_task ≡ suc T.next_task → Grows T T'
one_more T T' e = record { least = omega (arith, e); most = omega (arith, e) }

grows-act : (T : Tree) (t : TaskId) (act : Act) → Grows T (made_act T t act)
grows-act T t (Open s r path) = grows T (made_act T t (Open s r path)) refl
grows-act T t (Calls from to s r callee path) = one_more T (made_act T t (Calls from to s r callee path)) refl
grows-act T t (Spawn child s from to path) = one_more T (made_act T t (Spawn child s from to path)) refl
grows-act T t (Arrive p) = grows T (made_act T t (Arrive p)) refl
grows-act T t (Wait s thrown) = grows T (made_act T t (Wait s thrown)) refl
grows-act T t (Release s lost masked thrown) = grows T (made_act T t (Release s lost masked thrown)) refl
grows-act T t (End thrown) = grows T (after_end T t thrown) (of_end (task_of T t) refl) where
  of_end : (o : Option Task) → task_of T t ≡ o → (after_end T t thrown).next_task ≡ T.next_task
  of_end (Some x) e = rw (e, after_end) refl
  of_end None e = rw (e, after_end) refl
grows-act T t (Print value path) = grows T T refl
grows-act T t (Census places path) = grows T T refl

grows-made : (n : ℕ) (T : Tree) (e : Entry) → Grows T (made n T e)
grows-made n T (Step t act batch) = grows-act T t act
grows-made n T (Root lost masked thrown) = grows T (made n T (Root lost masked thrown)) refl
grows-made n T (Death d) = grows T (made n T (Death d)) refl
grows-made n T (Join p) = grows T (made n T (Join p)) refl

grows-push : (U : Given) (G : Game) (e : Entry) → Grows (tree_in U G) (tree_of U.places (G.entries ++ e ∷ []))
grows-push U G e = subst (λ (T : Tree). Grows (tree_in U G) T) (sym (tree-push U.places G.entries e)) (grows-made (length G.entries) (tree_in U G) e)

pub turn-grows : (U : Given) (k : ℕ) (used : Bool) (G H : Game) → Turn U k G used H → Grows (tree_in U G) (tree_in U H)
turn-grows U k used G H (due e is) = grows-push U G e
turn-grows U k used G H (arrives x p (none_due, pick) may) = grows-push U G (Step x.number (Arrive p) [])
turn-grows U k used G H (moves x here p q S Z j act (none_due, pick) at player store goes fits may) = grows-push U G (Step x.number act q.batch)
turn-grows U k used G H (ends x here p q S Z j f (none_due, pick) at player store goes done may) = grows-push U G (Step x.number (End f) q.batch)
turn-grows U k used G H (root lost masked thrown none_due none may) = grows-push U G (Root lost masked thrown)

-- The act of a turn.

pub record TurnAct (U : Given) (k : ℕ) (G H : Game) : Type 0 where
  pub task : Task
  pub act : Act
  pub picked : slice_get (enabled (tree_in U G)) (k % length (enabled (tree_in U G))) ≡ Some task
  pub allowed : AllowedAct (tree_in U G) task.number act
  pub tree : tree_in U H ≡ made_act (tree_in U G) task.number act

pub turn-act : (U : Given) (k : ℕ) (G H : Game) → Turn U k G true H → TurnAct U k G H
turn-act U k G H (arrives x p (none_due, pick) may) = record { task = x; act = Arrive p; picked = pick; allowed = may; tree = tree-push U.places G.entries (Step x.number (Arrive p) []) }
turn-act U k G H (moves x here p q S Z j act (none_due, pick) at player store goes fits may) = record { task = x; act = act; picked = pick; allowed = may; tree = tree-push U.places G.entries (Step x.number act q.batch) }
turn-act U k G H (ends x here p q S Z j f (none_due, pick) at player store goes done may) = record { task = x; act = End f; picked = pick; allowed = may; tree = tree-push U.places G.entries (Step x.number (End f) q.batch) }

module _ {L : Type 0} (shape : Shape) (code : Block) (U : Given) (m : Machine L) (k i : ℕ) (under : ScopeId) (before : ℕ) (G H : Game) (sound : ReachedSound) (h : HasMoved shape code U m k i under before G H) where
  abbrev mine : TurnAct U k G H
  mine = turn-act U k G H h.turn

  same-mover : h.mover ≡ mine.task
  same-mover = (let e : Some h.mover ≡ Some mine.task = sym h.picked ∙ mine.picked in cc)

  mover-number : mine.task.number.0 ≡ i
  mover-number = sym (ap (λ (x : Task). x.number.0) same-mover) ∙ h.number

  -- another task that was there is enabled, or not, as it was
  others-stay : OthersStay → (seat : Seat) → seat_at m.seats.items i ≡ Some seat → (n : ℕ) → n ≢ i → n < before → able (tree_in U H) (record { 0 = n }) ≡ able (tree_in U G) (record { 0 = n })
  others-stay stay seat at n apart low =
      let a : TurnAct U k G H = mine in
      let number : a.task.number.0 ≡ i = mover-number in
      let slot = subst (λ (o : Option Seat). SlotIs shape H.entries (tree_in U H) H.players i o) at (h.can.holds.seats i) in
      let stays : task_of (tree_in U H) (record { 0 = i }) ≡ Some (row_of seat) = (live_stands (tree_in U H) i (row_of seat) slot.3.row).0 in
      let found : task_of (made_act (tree_in U G) a.task.number a.act) a.task.number ≡ Some (row_of seat) =
      subst (λ (T : Tree). task_of T a.task.number ≡ Some (row_of seat)) a.tree (subst (λ (v : ℕ). task_of (tree_in U H) (record { 0 = v }) ≡ Some (row_of seat)) (sym number) stays)
      in
      ap (λ (T : Tree). able T (record { 0 = n })) a.tree
      ∙ stay (tree_in U G) a.task.number a.act (row_of seat) (record { 0 = n }) h.reached a.allowed found (λ e. apart (e ∙ number)) (let z = h.slots in omega (arith, low, z))

  now-able : (n : ℕ) → slot_able (tree_in U H) (seat_at m.seats.items n) ≡ able (tree_in U H) (record { 0 = n })
  now-able n = slot_task shape H.entries (tree_in U H) H.players n (seat_at m.seats.items n) (h.can.holds.seats n)

  was-not : (n : ℕ) → before ≤ n → is_listed n m.ready.members ≡ false
  was-not n high = h.ready.1 n ∙ able_high (tree_in U G) n (sound (tree_in U G) h.reached) (let z = h.slots in omega (arith, high, z))

  is-not : (n : ℕ) → length m.seats.items ≤ n → able (tree_in U H) (record { 0 = n }) ≡ false
  is-not n high = able_high (tree_in U H) n (sound (tree_in U H) h.can.reached) (let z = h.can.holds.shares.slots in omega (arith, high, z))

  -- the task has moved and started no other
  pub noted-one : OthersStay → (seat : Seat) → seat_at m.seats.items i ≡ Some seat → length m.seats.items ≤ before → (ns : List ℕ) → ns ≡ marked (slot_able (tree_in U H) (seat_at m.seats.items i)) i m.ready.members → AreEnabled (tree_in U H) ns
  noted-one stay seat at few ns e =
      let b : Bool = slot_able (tree_in U H) (seat_at m.seats.items i) in
      subst (AreEnabled (tree_in U H)) (sym e) (
        ascends_marked b i m.ready.members h.ready.0,
        λ n. elim (same_or_not n i) [
          | inl w ↦ subst (λ (v : ℕ). is_listed v (marked b i m.ready.members) ≡ able (tree_in U H) (record { 0 = v })) (sym w) (marked_same b i m.ready.members ∙ now-able i)
          | inr apart ↦ marked_other b i n m.ready.members apart ∙ (elim (cases_lt n before) [
            | inl low ↦ h.ready.1 n ∙ sym (others-stay stay seat at n apart low)
            | inr high ↦ was-not n high ∙ sym (is-not n (omega (arith, few, high)))
          ])
        ],
      )

  -- the task has moved and started another
  pub noted-two : OthersStay → (seat : Seat) → seat_at m.seats.items i ≡ Some seat → (ns : List ℕ) → ns ≡ marked (slot_able (tree_in U H) (seat_at m.seats.items before)) before (marked (slot_able (tree_in U H) (seat_at m.seats.items i)) i m.ready.members) → AreEnabled (tree_in U H) ns
  noted-two stay seat at ns e =
      let b : Bool = slot_able (tree_in U H) (seat_at m.seats.items i) in
      let c : Bool = slot_able (tree_in U H) (seat_at m.seats.items before) in
      let old : List ℕ = marked b i m.ready.members in
      subst (AreEnabled (tree_in U H)) (sym e) (
        ascends_marked c before old (ascends_marked b i m.ready.members h.ready.0),
        λ n. elim (same_or_not n before) [
          | inl w ↦ subst (λ (v : ℕ). is_listed v (marked c before old) ≡ able (tree_in U H) (record { 0 = v })) (sym w) (marked_same c before old ∙ now-able before)
          | inr other ↦ marked_other c before n old other ∙ (elim (same_or_not n i) [
            | inl w ↦ subst (λ (v : ℕ). is_listed v old ≡ able (tree_in U H) (record { 0 = v })) (sym w) (marked_same b i m.ready.members ∙ now-able i)
            | inr apart ↦ marked_other b i n m.ready.members apart ∙ (elim (cases_lt n before) [
              | inl low ↦ h.ready.1 n ∙ sym (others-stay stay seat at n apart low)
              | inr high ↦ was-not n high ∙ sym (is-not n (let z = h.can.holds.shares.slots in let y = h.slots in let most = (turn-grows U k true G H h.turn).most in omega (arith, z, y, most, high, other)))
            ])
          ])
        ],
      )

  -- The task has ended.

  pub has-ended : seat_at m.seats.items i ≡ None → (thrown : List Fault) × (mine.act ≡ End thrown)
  has-ended gone =
      elim (acts_on (tree_in U G) mine.task.number mine.act (sound (tree_in U G) h.reached) mine.allowed) [
        | inl e ↦ e
        | inr y ↦
            let slot : live_task (tree_in U H) i ≡ None = subst (λ (o : Option Seat). SlotIs shape H.entries (tree_in U H) H.players i o) gone (h.can.holds.seats i) in
            let live : live_task (tree_in U H) mine.task.number.0 ≡ Some y.0 = ap (λ (T : Tree). live_task T mine.task.number.0) mine.tree ∙ y.1 in
            let here : live_task (tree_in U H) i ≡ Some y.0 = subst (λ (v : ℕ). live_task (tree_in U H) v ≡ Some y.0) mover-number live in
            let f : None ≡ Some y.0 = sym slot ∙ here in
            cc
      ]

  mover-found : task_of (tree_in U G) mine.task.number ≡ Some h.mover
  mover-found = subst (λ (x : Task). task_of (tree_in U G) x.number ≡ Some h.mover) same-mover h.found

  -- the tree after the end
  end-tree : (e : (thrown : List Fault) × (mine.act ≡ End thrown)) → tree_in U H ≡ made_act (tree_in U G) mine.task.number (End e.0)
  end-tree e = mine.tree ∙ ap (λ (a : Act). made_act (tree_in U G) mine.task.number a) e.1

  -- the scope that it hung under still leads to the root
  pub end-way : WayStays → seat_at m.seats.items i ≡ None → on_chain (tree_in U H) the_root under ≡ true
  end-way law gone =
      let e = has-ended gone in
      let may : AllowedAct (tree_in U G) mine.task.number (End e.0) = subst (λ (a : Act). AllowedAct (tree_in U G) mine.task.number a) e.1 mine.allowed in
      ap (λ (T : Tree). on_chain T the_root under) (end-tree e)
      ∙ subst (λ (v : ScopeId). on_chain (made_act (tree_in U G) mine.task.number (End e.0)) the_root v ≡ true) h.hung
      (law (tree_in U G) mine.task.number e.0 h.mover h.reached may mover-found)

  -- any other task than the nearest opener is enabled, or not, as it was
  others-free : FreesOne → seat_at m.seats.items i ≡ None → (n : ℕ) → n ≢ i → nearest_opener (tree_in U H) (Some under) ≢ Some (record { 0 = n }) → able (tree_in U H) (record { 0 = n }) ≡ able (tree_in U G) (record { 0 = n })
  others-free law gone n apart other =
      let e = has-ended gone in
      let may : AllowedAct (tree_in U G) mine.task.number (End e.0) = subst (λ (a : Act). AllowedAct (tree_in U G) mine.task.number a) e.1 mine.allowed in
      let t : TaskId = record { 0 = n } in
      ap (λ (T : Tree). able T t) (end-tree e)
      ∙ law (tree_in U G) mine.task.number e.0 h.mover t h.reached may mover-found (λ k. apart (k ∙ mover-number))
      (λ k. other (ap (λ (T : Tree). nearest_opener T (Some under)) (end-tree e) ∙ (sym (ap (λ (v : ScopeId). nearest_opener (made_act (tree_in U G) mine.task.number (End e.0)) (Some v)) h.hung) ∙ k)))

  -- and none was left above it
  pub noted-alone : FreesOne → seat_at m.seats.items i ≡ None → nearest_opener (tree_in U H) (Some under) ≡ None → (ns : List ℕ) → ns ≡ marked (slot_able (tree_in U H) (seat_at m.seats.items i)) i m.ready.members → AreEnabled (tree_in U H) ns
  noted-alone law gone none ns e =
      let b : Bool = slot_able (tree_in U H) (seat_at m.seats.items i) in
      subst (AreEnabled (tree_in U H)) (sym e) (
        ascends_marked b i m.ready.members h.ready.0,
        λ n. elim (same_or_not n i) [
          | inl w ↦ subst (λ (v : ℕ). is_listed v (marked b i m.ready.members) ≡ able (tree_in U H) (record { 0 = v })) (sym w) (marked_same b i m.ready.members ∙ now-able i)
          | inr apart ↦ marked_other b i n m.ready.members apart ∙ (h.ready.1 n ∙ sym (others-free law gone n apart (λ k. let f : None ≡ Some (record { 0 = n }) = sym none ∙ k in cc)))
        ],
      )

  -- or the nearest opener was asked
  pub noted-end : FreesOne → seat_at m.seats.items i ≡ None → (o : TaskId) → nearest_opener (tree_in U H) (Some under) ≡ Some o → (ns : List ℕ) → ns ≡ marked (slot_able (tree_in U H) (seat_at m.seats.items o.0)) o.0 (marked (slot_able (tree_in U H) (seat_at m.seats.items i)) i m.ready.members) → AreEnabled (tree_in U H) ns
  noted-end law gone o near ns e =
      let b : Bool = slot_able (tree_in U H) (seat_at m.seats.items i) in
      let c : Bool = slot_able (tree_in U H) (seat_at m.seats.items o.0) in
      let old : List ℕ = marked b i m.ready.members in
      subst (AreEnabled (tree_in U H)) (sym e) (
        ascends_marked c o.0 old (ascends_marked b i m.ready.members h.ready.0),
        λ n. elim (same_or_not n o.0) [
          | inl w ↦ subst (λ (v : ℕ). is_listed v (marked c o.0 old) ≡ able (tree_in U H) (record { 0 = v })) (sym w) (marked_same c o.0 old ∙ now-able o.0)
          | inr other ↦ marked_other c o.0 n old other ∙ (elim (same_or_not n i) [
            | inl w ↦ subst (λ (v : ℕ). is_listed v old ≡ able (tree_in U H) (record { 0 = v })) (sym w) (marked_same b i m.ready.members ∙ now-able i)
            | inr apart ↦ marked_other b i n m.ready.members apart ∙ (h.ready.1 n ∙ sym (others-free law gone n apart (λ k.
                let f : Some o ≡ Some (record { 0 = n }) = sym near ∙ k in
                let g : o ≡ record { 0 = n } = cc in
                other (sym (ap (λ (v : TaskId). v.0) g)))))
          ])
        ],
      )

-- every task was asked
pub noted-all : (shape : Shape) (es : List Entry) (T T' : Tree) (ps : List Player) (os : List (Option Seat)) (old ns : List ℕ) → Sound T → Sound T' → Grows T T' → length os ≡ T'.next_task → ((n : ℕ) → SlotIs shape es T' ps n (seat_at os n)) → AreEnabled T old → (Ascends 0 old → Ascends 0 ns) → ((n : ℕ) → n < length os → is_listed n ns ≡ slot_able T' (seat_at os n)) → ((n : ℕ) → length os ≤ n → is_listed n ns ≡ is_listed n old) → AreEnabled T' ns
noted-all shape es T T' ps os old ns before after more size slots ready ascends noted others = (
  ascends ready.0,
  λ n. elim (cases_lt n (length os)) [
    | inl low ↦ noted n low ∙ slot_task shape es T' ps n (seat_at os n) (slots n)
    | inr high ↦ others n high ∙ (ready.1 n ∙ (able_high T n before (let l = more.least in omega (arith, l, size, high)) ∙ sym (able_high T' n after (omega (arith, size, high)))))
  ],
)

-- what is noted after a turn of the task of slot i
pub has-moved : {L : Type 0} (shape : Shape) (code : Block) (U : Given) (m m' : Machine L) (k i : ℕ) (under : ScopeId) (before : ℕ) (G : Game) → GamesCome → FoldReached → (t : Taken shape code U m k i G) → AreEnabled (tree_in U G) m.ready.members → (a : AfterTurn shape code U m' k G) → m'.ready ≡ m.ready → ((seat : Seat) → seat_at m.seats.items i ≡ Some seat → under ≡ seat.who.scope) → before ≡ length m.seats.items → HasMoved shape code U m' k i under before G a.0
has-moved shape code U m m' k i under before G come fold t ready a same hung size =
    let slot = subst (λ (o : Option Seat). SlotIs shape G.entries (tree_in U G) G.players i o) t.at (t.can.holds.seats i) in
    record {
      can = can-turn shape code U m' a.0 come fold a.2 (stays_open U k G a.0 a.1 t.can.unreleased);
      turn = a.1;
      reached = t.can.reached;
      mover = row_of t.seat;
      picked = t.picked;
      number = live_number (tree_in U G) i (row_of t.seat) slot.3.row;
      found = subst (λ (v : ℕ). task_of (tree_in U G) (record { 0 = v }) ≡ Some (row_of t.seat)) (sym (live_number (tree_in U G) i (row_of t.seat) slot.3.row)) (live_stands (tree_in U G) i (row_of t.seat) slot.3.row).0;
      hung = sym (hung t.seat t.at);
      slots = size ∙ t.can.holds.shares.slots;
      ready = subst (λ (r : Numbers). AreEnabled (tree_in U G) r.members) (sym same) ready;
    }

-- there is room for the numbers of all slots
pub room-left : {L : Type 0} (shape : Shape) (code : Block) (U : Given) (m m' : Machine L) (k i : ℕ) (G : Game) → Taken shape code U m k i G → AfterTurn shape code U m' k G → m'.ready ≡ m.ready → length m.seats.items < m.ready.room → length m'.seats.items ≤ m'.ready.room
room-left shape code U m m' k i G t a same room =
    let most = (turn-grows U k true G a.0 a.1).most in
    let old = t.can.holds.shares.slots in
    let new = a.2.shares.slots in
    let size : m'.ready.room ≡ m.ready.room = ap (λ (r : Numbers). r.room) same in
    omega (arith, most, old, new, room, size)

-- the slot of the task is there still
pub inside-still : {L : Type 0} (shape : Shape) (code : Block) (U : Given) (m m' : Machine L) (k i : ℕ) (G : Game) → Taken shape code U m k i G → AfterTurn shape code U m' k G → i < length m'.seats.items
inside-still shape code U m m' k i G t a =
    let least = (turn-grows U k true G a.0 a.1).least in
    let old = t.can.holds.shares.slots in
    let new = a.2.shares.slots in
    let inside = t.inside in
    omega (arith, least, old, new, inside)

-- the turn was noted
pub went-on : {L : Type 0} (shape : Shape) (code : Block) (U : Given) (m m' : Machine L) (k i : ℕ) (under : ScopeId) (before : ℕ) (G H : Game) → HasMoved shape code U m k i under before G H → m' ≡ record m { ready = m'.ready } → AreEnabled (tree_in U H) m'.ready.members → WentOn shape code U m' k true G
went-on {L = L} shape code U m m' k i under before G H h same ready = (
  H,
  h.turn,
  record {
    seated = subst (λ (x : Machine L). Seated shape code U x H) (sym same) (can-same shape code U m m'.ready H h.can).holds;
    unreleased = h.can.unreleased;
    ready = ready;
  },
)

-- the death was noted
pub died-on : {L : Type 0} (shape : Shape) (code : Block) (U : Given) (m m' : Machine L) (k : ℕ) (G : Game) (old : List ℕ) → ReachedSound → Reached (tree_in U G) → (a : HasFallen shape code U m k G) → CanTurn shape code U m a.0 → AreEnabled (tree_in U G) old → m' ≡ record m { ready = m'.ready } → (Ascends 0 old → Ascends 0 m'.ready.members) → ((n : ℕ) → n < length m.seats.items → is_listed n m'.ready.members ≡ slot_able (tree_in U a.0) (seat_at m.seats.items n)) → ((n : ℕ) → length m.seats.items ≤ n → is_listed n m'.ready.members ≡ is_listed n old) → WentOn shape code U m' k false G
died-on {L = L} shape code U m m' k G old sound reached a can ready same ascends noted others = (
  a.0,
  a.1,
  record {
    seated = subst (λ (x : Machine L). Seated shape code U x a.0) (sym same) (can-same shape code U m m'.ready a.0 can).holds;
    unreleased = a.2.1;
    ready =
        noted-all shape a.0.entries (tree_in U G) (tree_in U a.0) a.0.players m.seats.items old m'.ready.members
        (sound (tree_in U G) reached) (sound (tree_in U a.0) can.reached) (turn-grows U k false G a.0 a.1) a.2.0.shares.slots a.2.0.seats ready ascends noted others;
  },
)

-- a turn can be made where there is more room
pub roomy-can : {L : Type 0} (shape : Shape) (code : Block) (U : Given) (m : Machine L) (c : Log) (r : Numbers) (G : Game) → GamesCome → FoldReached → (c.entries ≡ m.chronicle.entries) × (c.setup ≡ m.chronicle.setup) → MachineInvariant shape code U m G → CanTurn shape code U (record m { chronicle = c; ready = r }) G
roomy-can shape code U m c r G come fold told h =
    can-turn shape code U (record m { chronicle = c; ready = r }) G come fold (seated-on m (record m { chronicle = c; ready = r }) told.0 told.1 refl refl refl h.seated) h.unreleased
