-- The start of a turn: the seat of the task that moves is taken out of its slot.
use Rattle.std.proofs.Common.{◌≡◌, ℕ, ◌<◌, ◌≤◌, Bool, List, [], length, Option, Some, None, slice_get, slice_set, arith, ap, ◌∙◌, sym, subst}
use Rattle.std.proofs.lemmas.List.{length-set}
use Rattle.rx_rules.proofs.Common.{PlaceId, Block, Tree, inner, journal_at, Reached, Given, in_all, Game, Player, stays, tree_in}
use Rattle.rx_base.proofs.Elements.{get-set}
use Rattle.rx_rules.specs.declared.tasks.Task.{Task}
use Rattle.rx_rules.specs.declared.tasks.Where.{Where}
use Rattle.rx_rules.specs.declared.tasks.Where.TheVariants.{At, Travel}
use Rattle.rx_rules.specs.declared.events.PlaceEvent.{PlaceEvent}
use Rattle.rx_tree_laws.specs.Sound.{Sound, Inside}
use Rattle.rx_tree_laws.proofs.Reach.{fits_of}
use Rattle.rx_runs.specs.Coming.{CameTo, GamesCome}
use Rattle.rx_runs.proofs.Pairs.{pairs-get, journal_got, set_same}
use Rattle.rx_history.specs.Setups.{given}
use Rattle.rx_syntax.specs.Shape.{Shape}
use Rattle.rx_machine.specs.declared.machine.Machine.{Machine}
use Rattle.rx_machine.specs.declared.seat.Seat.{Seat}
use Rattle.rx_machine.specs.Slots.{row_of, seat_at, seat_in, IsSeat, SlotIs, IsWork, seat_of}
use Rattle.rx_store.specs.Kepts.{StoresAre}
use Rattle.rx_machine.specs.Holds.{Seated, HoldsBut, IsPick, Acting, Landing}
use Rattle.rx_machine.specs.Runs.{Taken}
use Rattle.rx_machine.proofs.Acted.{seat_other}
use Rattle.rx_machine.proofs.Live.{live_stands, live_number}
use Rattle.rx_rules.specs.declared.entries.Entry.{Entry}
use Rattle.rx_machine.specs.declared.seat.Mover.{Mover}
use Rattle.rx_machine.specs.Inside.Acts.{IsRoused}
use Rattle.rx_finish.specs.declared.ledger.Caller.{Caller}

-- the machine m' is m, but for its idle controls and its seats, of which that of slot i is gone
pub record Emptied {L : Type 0} (m m' : Machine L) (i : ℕ) : Type 0 where
  pub same : m' ≡ record m { seats = m'.seats; idle = m'.idle }
  pub left : m'.seats.items ≡ slice_set m.seats.items i None

-- the seat that was found is that of the pick, with its player
pub record Found (shape : Shape) (U : Given) (k i : ℕ) (seat : Seat) (G : Game) : Type 0 where
  pub pick : IsPick U k i seat G
  pub player : Player
  pub is_player : slice_get G.players i ≡ Some player
  pub none_begun : player.batch ≡ []
  pub seat_is : IsSeat shape G.entries (tree_in U G) i player seat

pub found : {L : Type 0} (shape : Shape) (code : Block) (U : Given) (m : Machine L) (k i : ℕ) (seat : Seat) (G : Game) → Taken shape code U m k i G → seat_at m.seats.items i ≡ Some seat → Found shape U k i seat G
found shape code U m k i seat G t at =
    let T = tree_in U G in
    let same : t.seat ≡ seat = let e : Some t.seat ≡ Some seat = sym t.at ∙ at in cc in
    let slot : (p : Player) × (slice_get G.players i ≡ Some p) × (p.batch ≡ []) × IsSeat shape G.entries T i p seat = subst (λ (o : Option Seat). SlotIs shape G.entries T G.players i o) at (t.can.holds.seats i) in
    record {
      pick = record { stands = t.can.unreleased; none_due = t.none_due; picked = t.picked ∙ ap (λ (s : Seat). Some (row_of s)) same; number = live_number T i (row_of seat) slot.3.row };
      player = slot.0;
      is_player = slot.1;
      none_begun = slot.2;
      seat_is = slot.3;
    }

-- so its work is what some player has still to run
pub has-work : {L : Type 0} (shape : Shape) (code : Block) (U : Given) (m : Machine L) (k i : ℕ) (seat : Seat) (G : Game) → Taken shape code U m k i G → seat_at m.seats.items i ≡ Some seat → (q : Player) × IsWork shape m.chronicle.entries q seat.work
has-work shape code U m k i seat G t at =
    let f = found shape code U m k i seat G t at in
    (f.player, subst (λ (es : List Entry). IsWork shape es f.player seat.work) (sym t.can.holds.shares.entries) f.seat_is.work)

-- the same caller that waits, or does not, is the same task
pub row-same : (s s' : Seat) → s'.who ≡ s.who → s'.waits ≡ s.waits → row_of s' ≡ row_of s
row-same s s' who waits =
    ap (λ (w : Caller). let x : Task = record { number = w.task; under = w.scope; place = w.place; waits = s'.waits; struck = None } in x) who
    ∙ ap (λ (b : Bool). let x : Task = record { number = s.who.task; under = s.who.scope; place = s.who.place; waits = b; struck = None } in x) waits

-- a roused task is that of its seat
pub roused-seat : (shape : Shape) (es : List Entry) (T : Tree) (i : ℕ) (q : Player) (seat : Seat) (mover : Mover) → IsRoused shape es seat mover → IsSeat shape es T i q seat → IsSeat shape es T i q (seat_of mover)
roused-seat shape es T i q seat mover r s =
    let row = row-same seat (seat_of mover) r.who r.waits in
    record {
      row = s.row ∙ ap (λ (x : Task). Some x) (sym row);
      inner = ap (λ (x : Task). inner T x) row ∙ (s.inner ∙ sym (ap (λ (w : Caller). w.inner) r.who));
      work = r.work q s.work;
      waits = r.waits ∙ s.waits;
      held = s.held;
      spine = s.spine;
    }

pub roused-pick : (shape : Shape) (es : List Entry) (U : Given) (k i : ℕ) (seat : Seat) (mover : Mover) (G : Game) → IsRoused shape es seat mover → IsPick U k i seat G → IsPick U k i (seat_of mover) G
roused-pick shape es U k i seat mover G r pick =
    record {
      stands = pick.stands;
      none_due = pick.none_due;
      picked = pick.picked ∙ ap (λ (x : Task). Some x) (sym (row-same seat (seat_of mover) r.who r.waits));
      number = ap (λ (w : Caller). w.task.0) r.who ∙ pick.number;
    }

pub holds-but : {L : Type 0} (shape : Shape) (code : Block) (U : Given) (m m' : Machine L) (i : ℕ) (G : Game) → Seated shape code U m G → i < length m.seats.items → Emptied m m' i → HoldsBut shape code U m' i G
holds-but {L = L} shape code U m m' i G h inside e =
    let s = h.shares in
    record {
      shares = record {
        on = s.on;
        comes = s.comes;
        setup = ap (λ (x : Machine L). given x.chronicle.setup) e.same ∙ s.setup;
        entries = ap (λ (x : Machine L). x.chronicle.entries) e.same ∙ s.entries;
        slots = ap (λ xs. length xs) e.left ∙ (length-set m.seats.items i None ∙ s.slots);
        failed = ap (λ (x : Machine L). x.failed) e.same ∙ s.failed;
      };
      empty = ap (λ xs. seat_at xs i) e.left ∙ ap seat_in (get-set m.seats.items i None inside);
      others = λ n apart. subst (λ (o : Option Seat). SlotIs shape G.entries (tree_in U G) G.players n o) (sym (ap (λ xs. seat_at xs n) e.left ∙ seat_other m.seats.items i n None apart)) (h.seats n);
    }

pub stores-stay : {L : Type 0} (heap : ℕ) (js : List (List PlaceEvent)) (m m' : Machine L) (i : ℕ) → Emptied m m' i → StoresAre heap 0 m.stores.items js → StoresAre heap 0 m'.stores.items js
stores-stay {L = L} heap js m m' i e h = subst (λ (x : Machine L). StoresAre heap 0 x.stores.items js) (sym e.same) h

pub inside-still : {L : Type 0} (m m' : Machine L) (i : ℕ) → Emptied m m' i → i < length m.seats.items → i < length m'.seats.items
inside-still m m' i e inside = subst (λ (n : ℕ). i < n) (sym (ap (λ xs. length xs) e.left ∙ length-set m.seats.items i None)) inside

-- a task that travels is landing
pub lands : {L : Type 0} (shape : Shape) (code : Block) (U : Given) (m m' : Machine L) (k i : ℕ) (from to : PlaceId) (seat : Seat) (G : Game) → Taken shape code U m k i G → seat_at m.seats.items i ≡ Some seat → Emptied m m' i → seat.who.place ≡ Travel from to → Landing shape code U m' k i to seat G
lands shape code U m m' k i from to seat G t at e travels =
    let f = found shape code U m k i seat G t at in
    record {
      but = holds-but shape code U m m' i G t.can.holds t.inside e;
      pick = f.pick;
      player = f.player;
      is_player = f.is_player;
      none_begun = f.none_begun;
      seat_is = f.seat_is;
      from = from;
      travels = travels;
      numbers = t.can.numbers;
      inside = inside-still m m' i e t.inside;
      stores = stores-stay U.heap G.journals m m' i e t.can.holds.stores;
    }

-- a task at a place is acting, as the player that it was
pub acts : {L : Type 0} (shape : Shape) (code : Block) (U : Given) (m m' : Machine L) (k i : ℕ) (here : PlaceId) (seat : Seat) (mover : Mover) (G : Game) → GamesCome → ((T : Tree) → Reached T → Sound T) → Taken shape code U m k i G → seat_at m.seats.items i ≡ Some seat → Emptied m m' i → seat.who.place ≡ At here → IsRoused shape m.chronicle.entries seat mover → (q : Player) × Acting shape code U m' k i here q mover G
acts shape code U m m' k i here seat mover G come sound t at e is_at roused =
    let T = tree_in U G in
    let f = found shape code U m k i seat G t at in
    let r : IsRoused shape G.entries seat mover = subst (λ (es : List Entry). IsRoused shape es seat mover) t.can.holds.shares.entries roused in
    let came : CameTo code U G = come code U G t.can.holds.shares.on.proper t.can.holds.shares.comes t.can.unreleased in
    let row = live_stands T i (row_of seat) f.seat_is.row in
    let fits = fits_of T (record { 0 = i }) (row_of seat) (sound T t.can.reached) row.0 in
    let place : here.0 < T.places = subst (λ (w : Where). Inside T.places w) is_at fits.inside in
    let most : T.places ≤ in_all U = came.ok.ties.within in
    let stored : here.0 < in_all U = omega (arith, place, most) in
    let low : here.0 < length G.journals = subst (λ (n : ℕ). here.0 < n) (sym came.ok.one_each) stored in
    let both = pairs-get 0 here.0 G.journals G.stores low came.ok.journals in
    let got : slice_get G.journals here.0 ≡ Some (journal_at G.journals here.0) = both.at_left ∙ ap (λ (j : List PlaceEvent). Some j) (sym (journal_got G.journals here.0 both.left both.at_left)) in (
      f.player,
      record {
        but = holds-but shape code U m m' i G t.can.holds t.inside e;
        pick = roused-pick shape G.entries U k i seat mover G r f.pick;
        began = f.player;
        store = both.right;
        left = both.right;
        events = journal_at G.journals here.0;
        gone = record { player = f.is_player; store = both.at_right; is_at = ap (λ (w : Caller). w.place) r.who ∙ is_at; goes = stays; seat_is = roused-seat shape G.entries T i f.player seat mover r f.seat_is; batch = r.batch ∙ sym f.none_begun };
        numbers = t.can.numbers;
        reached = t.can.reached;
        inside = inside-still m m' i e t.inside;
        place = place;
        stored = stored;
        stores = subst (λ (js : List (List PlaceEvent)). StoresAre U.heap 0 m'.stores.items js) (sym (set_same G.journals here.0 (journal_at G.journals here.0) got)) (stores-stay U.heap G.journals m m' i e t.can.holds.stores);
        players = came.players;
      },
    )
