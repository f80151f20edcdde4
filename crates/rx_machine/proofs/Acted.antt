-- What a task's entry makes of the game for which a machine stands.
use Rattle.std.proofs.Common.{◌≡◌, ◌≢◌, ℕ, ◌<◌, Bool, true, false, List, [], ◌∷◌, ◌++◌, length, Option, Some, None, slice_get, slice_set, refl, ap, ◌∙◌, sym, subst, inl, inr}
use Rattle.std.proofs.lemmas.List.{append-nil, length-set}
use Rattle.std.proofs.lemmas.Option.{slice_get_within}
use Rattle.rx_rules.proofs.Common.{PlaceId, TaskId, Block, Vars, Does, Counts, does, Tree, AllowedAct, made_act, State, vars_told, started_by, tree_of, Given, Game, Player, Turn, moves, turns, tree_in, child_of, acted as played}
use Rattle.rx_base.proofs.Elements.{get-set}
use Rattle.rx_rules.specs.declared.tasks.Task.{Task}
use Rattle.rx_rules.specs.declared.entries.Act.{Act}
use Rattle.rx_rules.specs.declared.entries.Entry.{Entry}
use Rattle.rx_rules.specs.declared.entries.Entry.TheVariants.{Step}
use Rattle.rx_rules.specs.declared.events.PlaceEvent.{PlaceEvent}
use Rattle.rx_rules.specs.declared.entries.Act.TheVariants.{Open, At as CallsAt, Spawn, Arrive, Wait, Release, End, Print, Census}
use Rattle.rx_rules.specs.Plays.{Fits}
use Rattle.rx_rules.proofs.Append.{tree-push}
use Rattle.rx_history.specs.Logs.{Log}
use Rattle.rx_history.specs.Setups.{given}
use Rattle.rx_store.specs.Kept.{StoreView}
use Rattle.rx_finish.specs.declared.ledger.Caller.{Caller}
use Rattle.rx_chronicle.specs.Requests.{tree_told, with_entry, Granted}
use Rattle.rx_syntax.specs.Shape.{Shape}
use Rattle.rx_machine.specs.declared.machine.Machine.{Machine}
use Rattle.rx_machine.specs.declared.seat.Seat.{Seat}
use Rattle.rx_machine.specs.declared.seat.Mover.{Mover}
use Rattle.rx_machine.specs.Slots.{row_of, seat_at, seat_in, live_task, SlotIs, IsSeat, seat_of}
use Rattle.rx_store.specs.Kepts.{StoresAre}
use Rattle.rx_machine.specs.Holds.{Shares, Seated, Acting, LeadsTo}
use Rattle.rx_machine.specs.Refusals.{HasMade}
use Rattle.rx_machine.proofs.Finding.{same_or_not, get_other}
use Rattle.rx_machine.proofs.Own.{SameOwn, slot-on}

-- no act but a census tells a task anything
abbrev pub is_census : Act → Bool
is_census (Census n path) = true
is_census _ = false

pub told-nothing : (d : Does) (act : Act) (vars : Vars) → is_census act ≡ false → vars_told d act vars ≡ vars
told-nothing (Counts name) (Open s r path) vars h = refl
told-nothing (Counts name) (CallsAt from to s r callee path) vars h = refl
told-nothing (Counts name) (Spawn child s from to path) vars h = refl
told-nothing (Counts name) (Arrive p) vars h = refl
told-nothing (Counts name) (Wait s thrown) vars h = refl
told-nothing (Counts name) (Release s lost masked thrown) vars h = refl
told-nothing (Counts name) (End thrown) vars h = refl
told-nothing (Counts name) (Print value path) vars h = refl
told-nothing (Counts name) (Census n path) vars h = absurd (let f : ⊥ = cc in f)
told-nothing _ act vars h = refl

-- the game after the entry
abbrev pub game_after : Game → TaskId → PlaceId → Player → State → List PlaceEvent → Act → Game
game_after G t here q Z j act =
    record G {
      players = slice_set G.players t.0 (played here q act) ++ child_of q act;
      entries = G.entries ++ Step t act q.batch ∷ [];
      journals = slice_set G.journals here.0 j;
      stores = slice_set G.stores here.0 Z;
    }

-- the tree of the game after it
pub tree-after : (U : Given) (G : Game) (t : TaskId) (here : PlaceId) (q : Player) (Z : State) (j : List PlaceEvent) (act : Act) → tree_in U (game_after G t here q Z j act) ≡ made_act (tree_in U G) t act
tree-after U G t here q Z j act = tree-push U.places G.entries (Step t act q.batch)

-- what a machine has after an entry, beside its seats
pub record Went {L : Type 0} (m m' : Machine L) (e : Entry) : Type 0 where
  pub told : m'.chronicle ≡ with_entry m.chronicle e
  pub failed : m'.failed ≡ m.failed
  pub stores : m'.stores ≡ m.stores

-- what it has whose chronicle has granted an act
pub went : {L : Type 0} (m m' : Machine L) {who : Caller} {act : Act} {batch : List (List ℕ)} → m' ≡ record m { chronicle = m'.chronicle; seats = m'.seats; idle = m'.idle } → Granted m.chronicle who act batch m'.chronicle → Went m m' (Step who.task act batch)
went {L = L} m m' on did = record { told = did.told; failed = ap (λ (x : Machine L). x.failed) on; stores = ap (λ (x : Machine L). x.stores) on }

-- the chronicle folds to the tree of the game
pub tree-is : {L : Type 0} {code : Block} {U : Given} {m : Machine L} {G : Game} → Shares code U m G → tree_told m.chronicle ≡ tree_in U G
tree-is {U = U} {m = m} h = ap (λ (V : Given). tree_of V.places m.chronicle.entries) h.setup ∙ ap (λ (es : List Entry). tree_of U.places es) h.entries

-- what is said of the tree of the game, said of that of the chronicle
pub of-told : {L : Type 0} {code : Block} {U : Given} {m : Machine L} {G : Game} (P : Tree → Type 0) → Shares code U m G → P (tree_in U G) → P (tree_told m.chronicle)
of-told P h x = subst P (sym (tree-is h)) x

-- and the other way round
pub of-game : {L : Type 0} {code : Block} {U : Given} {m : Machine L} {G : Game} (P : Tree → Type 0) → Shares code U m G → P (tree_told m.chronicle) → P (tree_in U G)
of-game P h x = subst P (tree-is h) x

-- a seat that was put back
pub seat_back : (xs : List (Option Seat)) (i : ℕ) (s : Seat) → i < length xs → seat_at (slice_set xs i (Some s)) i ≡ Some s
seat_back xs i s h = ap seat_in (get-set xs i (Some s) h)

pub seat_other : (xs : List (Option Seat)) (i n : ℕ) (o : Option Seat) → n ≢ i → seat_at (slice_set xs i o) n ≡ seat_at xs n
seat_other xs i n o apart = ap seat_in (get_other xs i n o apart)

module _ {L : Type 0} {shape : Shape} {code : Block} {U : Given} {m : Machine L} {k i : ℕ} {here : PlaceId} {q : Player} {mover : Mover} {G : Game} (a : Acting shape code U m k i here q mover G) (act : Act) (fits : Fits here q.term (does q.vars here.0 q.term) act) (may : AllowedAct (tree_in U G) mover.who.task act) where
  -- the turn
  pub turned : Turn U k G true (game_after G mover.who.task here q a.left a.events act)
  turned =
      moves (row_of (seat_of mover)) here a.began q a.store a.left a.events act (a.pick.none_due, a.pick.picked) a.gone.is_at (subst (λ (n : ℕ). slice_get G.players n ≡ Some a.began) (sym a.pick.number) a.gone.player) a.gone.store a.gone.goes fits may

  entries-after : (m' : Machine L) → Went m m' (Step mover.who.task act mover.batch) → m'.chronicle.entries ≡ G.entries ++ Step mover.who.task act q.batch ∷ []
  entries-after m' went =
      ap (λ (c : Log). c.entries) went.told
      ∙ (ap (λ (es : List Entry). es ++ Step mover.who.task act mover.batch ∷ []) a.but.shares.entries ∙ ap (λ (b : List (List ℕ)). G.entries ++ Step mover.who.task act b ∷ []) a.gone.batch)

  pub stores-after : (m' : Machine L) → Went m m' (Step mover.who.task act mover.batch) → StoresAre U.heap 0 m'.stores.items (slice_set G.journals here.0 a.events)
  stores-after m' went = subst (λ (ss : List StoreView). StoresAre U.heap 0 ss (slice_set G.journals here.0 a.events)) (ap (λ v. v.items) (sym went.stores)) a.stores

  -- the entry stands, whatever becomes of the seat
  pub told-so : (m' : Machine L) → Went m m' (Step mover.who.task act mover.batch) → HasMade U k G m'
  told-so m' went =
      record {
        after = game_after G mover.who.task here q a.left a.events act;
        turn = turned;
        entries = entries-after m' went;
        stores = stores-after m' went;
      }

  -- beside the seats the machine goes on with the game
  pub shared : (m' : Machine L) → Went m m' (Step mover.who.task act mover.batch) → length m'.seats.items ≡ (made_act (tree_in U G) mover.who.task act).next_task → Shares code U m' (game_after G mover.who.task here q a.left a.events act)
  shared m' went slots =
      let h = a.but.shares in
      let t : TaskId = mover.who.task in
      record {
        on = h.on;
        comes = turns h.comes a.pick.stands turned;
        setup = ap (λ (c : Log). given c.setup) went.told ∙ h.setup;
        entries = entries-after m' went;
        slots = slots ∙ ap (λ (T : Tree). T.next_task) (sym (tree-after U G t here q a.left a.events act));
        failed = went.failed ∙ h.failed;
      }

  -- An entry that starts no task: the seat goes back changed, and all others stay.
  pub acted : (m' : Machine L) (seat' : Seat) → started_by act ≡ None → ((n : ℕ) → n ≢ i → live_task (made_act (tree_in U G) mover.who.task act) n ≡ live_task (tree_in U G) n) → ((n : ℕ) → n ≢ i → (x : Task) → live_task (tree_in U G) n ≡ Some x → SameOwn (tree_in U G) (made_act (tree_in U G) mover.who.task act) n) → (made_act (tree_in U G) mover.who.task act).next_task ≡ (tree_in U G).next_task → IsSeat shape (G.entries ++ Step mover.who.task act q.batch ∷ []) (made_act (tree_in U G) mover.who.task act) i (played here q act) seat' → Went m m' (Step mover.who.task act mover.batch) → m'.seats.items ≡ slice_set m.seats.items i (Some seat') → LeadsTo (Turn U k G true) (Seated shape code U m')
  acted m' seat' childless live own next new went back =
      let t : TaskId = mover.who.task in
      let T : Tree = tree_in U G in
      let T' : Tree = made_act T t act in
      let G' : Game = game_after G t here q a.left a.events act in
      let same : T' ≡ tree_in U G' = sym (tree-after U G t here q a.left a.events act) in
      let players : slice_set G.players i (played here q act) ≡ G'.players =
      subst (λ (n : ℕ). slice_set G.players n (played here q act) ≡ G'.players) a.pick.number
      (sym (ap (λ c. slice_set G.players t.0 (played here q act) ++ c) (childless_of q act childless) ∙ append-nil (slice_set G.players t.0 (played here q act)))) in
      let within : i < length G.players = slice_get_within G.players i a.began a.gone.player in
      let mine : slice_get G'.players i ≡ Some (played here q act) = subst (λ (ps : List Player). slice_get ps i ≡ Some (played here q act)) players (get-set G.players i (played here q act) within) in
      let others : (n : ℕ) → n ≢ i → slice_get G'.players n ≡ slice_get G.players n = λ n apart. subst (λ (ps : List Player). slice_get ps n ≡ slice_get G.players n) players (get_other G.players i n (played here q act) apart) in
      let length_is : length m'.seats.items ≡ T'.next_task = ap (λ xs. length xs) back ∙ (length-set m.seats.items i (Some seat') ∙ (a.but.shares.slots ∙ sym next)) in (
        G',
        turned,
        record {
          shares = shared m' went length_is;
          stores = stores-after m' went;
          seats = λ n.
              subst (λ (V : Tree). SlotIs shape G'.entries V G'.players n (seat_at m'.seats.items n)) same
              (subst (λ (xs : List (Option Seat)). SlotIs shape G'.entries T' G'.players n (seat_at xs n)) (sym back)
              (elim (same_or_not n i) [
                | inl e ↦ subst (λ (v : ℕ). SlotIs shape G'.entries T' G'.players v (seat_at (slice_set m.seats.items i (Some seat')) v)) (sym e)
                    (subst (λ (o : Option Seat). SlotIs shape G'.entries T' G'.players i o) (sym (seat_back m.seats.items i seat' a.inside)) (played here q act, mine, refl, new))
                | inr apart ↦ subst (λ (o : Option Seat). SlotIs shape G'.entries T' G'.players n o) (sym (seat_other m.seats.items i n (Some seat') apart))
                    (slot-on shape G.entries (Step t act q.batch) T T' G.players G'.players n (seat_at m.seats.items n) (live n apart) (own n apart) (others n apart) (a.but.others n apart))
              ]));
        },
      )
    where
      childless_of : (q : Player) (act : Act) → started_by act ≡ None → child_of q act ≡ []
      childless_of q act e = rw (e, child_of) refl
