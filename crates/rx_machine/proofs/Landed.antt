-- The turn of an arrival, and the root's release.
use Rattle.std.proofs.Common.{◌≡◌, ℕ, true, List, [], ◌∷◌, ◌++◌, length, filter, reverse, Option, Some, slice_set, refl, false, ap, ◌∙◌, sym, subst, inl, inr}
use Rattle.std.proofs.lemmas.List.{length-set}
use Rattle.rx_rules.proofs.Common.{PlaceId, TaskId, Block, Tree, inner, the_root, quiet, AllowedAct, Allowed, made_act, without, Given, NoRoot, Game, Turn, arrives, root, turns, is_enabled, enabled, tree_in}
use Rattle.rx_rules.specs.declared.tasks.Task.{Task}
use Rattle.rx_rules.specs.declared.tasks.Where.{Where}
use Rattle.rx_rules.specs.declared.tasks.Where.TheVariants.{At}
use Rattle.rx_rules.specs.declared.entries.Act.TheVariants.{Arrive}
use Rattle.rx_rules.specs.declared.entries.Entry.{Entry}
use Rattle.rx_rules.specs.declared.entries.Entry.TheVariants.{Step, Root}
use Rattle.rx_rules.proofs.Append.{root-push, tree-push}
use Rattle.rx_finish.specs.declared.ledger.LedgerFault.{LedgerFault}
use Rattle.rx_finish.specs.declared.ledger.LedgerFault.TheVariants.{NotYet, Lost, NoMemory}
use Rattle.rx_finish.specs.Callers.{MayAskArrive, Travels, does_travel}
use Rattle.rx_finish.specs.Calls.{landing}
use Rattle.rx_history.specs.Logs.{Log}
use Rattle.rx_history.specs.Setups.{given}
use Rattle.rx_chronicle.specs.Requests.{tree_told, IsRefused, NoWait, Granted, Freed, RootDone, IsRootRefused}
use Rattle.rx_chronicle.proofs.Ended.{root_or_none}
use Rattle.rx_chronicle.proofs.Granting.{unhindered}
use Rattle.rx_store.specs.Kept.{StoreView}
use Rattle.rx_syntax.specs.Shape.{Shape}
use Rattle.rx_machine.specs.declared.machine.Machine.{Machine}
use Rattle.rx_machine.specs.declared.seat.Seat.{Seat}
use Rattle.rx_machine.specs.Slots.{row_of, seat_at, live_task, SlotIs, IsSeat, IsWork}
use Rattle.rx_store.specs.Kepts.{StoresAre}
use Rattle.rx_machine.specs.Holds.{Seated, Landing, Finished, LeadsTo}
use Rattle.rx_machine.proofs.Asking.{seat_asks, no-memory}
use Rattle.rx_machine.proofs.BeforeTurn.{Releasing}
use Rattle.rx_machine.proofs.Finding.{same_or_not}
use Rattle.rx_machine.proofs.Live.{change-other, change-same, live_stands}
use Rattle.rx_machine.proofs.Own.{slot-on, work-still}
use Rattle.rx_machine.proofs.Acted.{went, of-told, of-game, seat_back, seat_other}
use Rattle.rx_machine.specs.declared.seat.Work.{Work}

-- where the task lands
abbrev pub there : PlaceId → Task → Task
there to x = record x { place = At to }

module _ {L : Type 0} {shape : Shape} {code : Block} {U : Given} {m : Machine L} {k i : ℕ} {to : PlaceId} {seat : Seat} {G : Game} (a : Landing shape code U m k i to seat G) where
  -- the chronicle may be asked
  pub arrive-may : MayAskArrive (tree_told m.chronicle) seat.who
  arrive-may =
      of-told (λ (V : Tree). MayAskArrive V seat.who) a.but.shares
      (seat_asks a.seat_is Travels a.numbers (record { travels = ap (λ (w : Where). does_travel w) a.travels }))

  -- and refuses for want of memory alone
  pub arrive-out : (f : LedgerFault) → IsRefused (tree_told m.chronicle) seat.who NoWait f → f ≡ NoMemory
  arrive-out f h = no-memory a.seat_is f (of-game (λ (V : Tree). IsRefused V seat.who NoWait f) a.but.shares h)

  pub landed : (m' : Machine L) (seat' : Seat) (batch : List (List ℕ)) → batch ≡ [] → m' ≡ record m { chronicle = m'.chronicle; seats = m'.seats; idle = m'.idle } → Granted m.chronicle seat.who (Arrive (landing seat.who.place)) batch m'.chronicle → row_of seat' ≡ there to (row_of seat) → seat'.who.inner ≡ seat.who.inner → seat'.work ≡ seat.work → m'.seats.items ≡ slice_set m.seats.items i (Some seat') → LeadsTo (Turn U k G true) (Seated shape code U m')
  landed m' seat' batch none on granted_so row inside work back =
      let T : Tree = tree_in U G in
      let t : TaskId = seat.who.task in
      let T' : Tree = made_act T t (Arrive to) in
      let G' : Game = record G { entries = G.entries ++ Step t (Arrive to) [] ∷ [] } in
      let same : T' ≡ tree_in U G' = sym (tree-push U.places G.entries (Step t (Arrive to) [])) in
      let h = a.but.shares in
      let here : landing seat.who.place ≡ to = ap (λ (w : Where). landing w) a.travels in
      let did : Granted m.chronicle seat.who (Arrive to) [] m'.chronicle =
      subst (λ (b : List (List ℕ)). Granted m.chronicle seat.who (Arrive to) b m'.chronicle) none
      (subst (λ (p : PlaceId). Granted m.chronicle seat.who (Arrive p) batch m'.chronicle) here granted_so) in
      let e = went m m' on did in
      let may : AllowedAct T t (Arrive to) = of-game (λ (V : Tree). AllowedAct V t (Arrive to)) h did.allowed in
      let turn : Turn U k G true G' = arrives (row_of seat) to (a.pick.none_due, a.pick.picked) may in
      let number : t.0 ≡ i = a.pick.number in
      let s = a.seat_is in
      let live_t : live_task T t.0 ≡ Some (row_of seat) = subst (λ (n : ℕ). live_task T n ≡ Some (row_of seat)) (sym number) s.row in
      let now : live_task T' i ≡ Some (there to (row_of seat)) = subst (λ (n : ℕ). live_task T' n ≡ Some (there to (row_of seat))) number (change-same T (there to) t (row_of seat) (λ x. refl) live_t (live_stands T t.0 (row_of seat) live_t).1) in
      let new : IsSeat shape G'.entries T' i a.player seat' = record {
        row = now ∙ ap (λ (x : Task). Some x) (sym row);
        inner = ap (λ (x : Task). inner T x) row ∙ (s.inner ∙ sym inside);
        work = subst (λ (w : Work). IsWork shape G'.entries a.player w) (sym work) (work-still shape G.entries (Step t (Arrive to) []) a.player seat.work s.work);
        waits = ap (λ (x : Task). x.waits) row ∙ s.waits;
        held = s.held;
        spine = s.spine;
      } in (
        G',
        turn,
        record {
          shares = record {
            on = h.on;
            comes = turns h.comes a.pick.stands turn;
            setup = ap (λ (c : Log). given c.setup) e.told ∙ h.setup;
            entries = ap (λ (c : Log). c.entries) e.told ∙ ap (λ (es : List Entry). es ++ Step t (Arrive to) [] ∷ []) h.entries;
            slots = ap (λ xs. length xs) back ∙ (length-set m.seats.items i (Some seat') ∙ (h.slots ∙ ap (λ (V : Tree). V.next_task) same));
            failed = e.failed ∙ h.failed;
          };
          stores = subst (λ (ss : List StoreView). StoresAre U.heap 0 ss G.journals) (ap (λ v. v.items) (sym e.stores)) a.stores;
          seats = λ n.
              subst (λ (V : Tree). SlotIs shape G'.entries V G.players n (seat_at m'.seats.items n)) same
              (subst (λ (xs : List (Option Seat)). SlotIs shape G'.entries T' G.players n (seat_at xs n)) (sym back)
              (elim (same_or_not n i) [
                | inl w ↦ subst (λ (v : ℕ). SlotIs shape G'.entries T' G.players v (seat_at (slice_set m.seats.items i (Some seat')) v)) (sym w)
                    (subst (λ (o : Option Seat). SlotIs shape G'.entries T' G.players i o) (sym (seat_back m.seats.items i seat' a.inside)) (a.player, a.is_player, a.none_begun, new))
                | inr apart ↦ subst (λ (o : Option Seat). SlotIs shape G'.entries T' G.players n o) (sym (seat_other m.seats.items i n (Some seat') apart))
                    (slot-on shape G.entries (Step t (Arrive to) []) T T' G.players G.players n (seat_at m.seats.items n) (change-other T (there to) t n (λ x. refl) (λ w. apart (sym w ∙ number))) (λ x live. (refl, refl)) refl (a.but.others n apart))
              ]));
        },
      )

-- a release of the root that is quiet is refused for want of memory alone
root-refused : (T : Tree) (f : LedgerFault) → quiet T the_root ≡ true → IsRootRefused T f → f ≡ NoMemory
root-refused T NoMemory calm h = refl
root-refused T (Lost place at) calm h = absurd h
root-refused T (NotYet place) calm h = absurd (unhindered T the_root place calm h)

-- where no task is left none is enabled
none-left : (T : Tree) → T.tasks ≡ [] → enabled T ≡ []
none-left T e = ap (λ (xs : List Task). reverse (filter (is_enabled T) xs)) e

module _ {L : Type 0} {shape : Shape} {code : Block} {U : Given} {m : Machine L} {G : Game} (a : Releasing shape code U m G) where
  pub root-out : (f : LedgerFault) → IsRootRefused (tree_told m.chronicle) f → f ≡ NoMemory
  root-out f h = root-refused (tree_in U G) f a.is_quiet (of-game (λ (V : Tree). IsRootRefused V f) a.holds.shares h)

  pub finished : (m' : Machine L) (k : ℕ) → m' ≡ record m { chronicle = m'.chronicle } → RootDone m.chronicle m'.chronicle → LeadsTo (Turn U k G false) (Finished U m')
  finished m' k on done =
      elim done [
        | inl old ↦ absurd (root_or_none m.chronicle.entries old.0 (subst (λ (es : List Entry). NoRoot es) (sym a.holds.shares.entries) a.unreleased))
        | inr f ↦ freed m' k on f
      ]
    where
      freed : (m' : Machine L) (k : ℕ) → m' ≡ record m { chronicle = m'.chronicle } → Freed m.chronicle m'.chronicle → LeadsTo (Turn U k G false) (Finished U m')
      freed m' k on f =
          let e : Entry = Root f.lost f.masked f.thrown in
          let T : Tree = tree_in U G in
          let G' : Game = record G { entries = G.entries ++ e ∷ [] } in
          let h = a.holds.shares in
          let may : Allowed T e = of-game (λ (V : Tree). Allowed V e) h f.allowed in
          let same : without T the_root ≡ tree_in U G' = sym (tree-push U.places G.entries e) in (
            G',
            root f.lost f.masked f.thrown a.none_due a.none_enabled may,
            record {
              entries = ap (λ (c : Log). c.entries) f.told ∙ ap (λ (es : List Entry). es ++ e ∷ []) h.entries;
              setup = ap (λ (c : Log). given c.setup) f.told ∙ h.setup;
              stores = subst (λ (x : Machine L). StoresAre U.heap 0 x.stores.items G.journals) (sym on) a.holds.stores;
              ended = root-push G.entries f.lost f.masked f.thrown a.unreleased;
              none_enabled = subst (λ (V : Tree). enabled V ≡ []) same (none-left (without T the_root) a.none_left);
              none_ready = ap (λ (x : Machine L). x.ready.members) on ∙ a.none_ready;
            },
          )
