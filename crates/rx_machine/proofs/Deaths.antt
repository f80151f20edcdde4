-- The turn of a death.
use Rattle.std.proofs.Common.{◌≡◌, ◌≢◌, ◌⊎◌, ℕ, zero, suc, ◌+◌, ◌<◌, ◌≤◌, Bool, true, false, cond, List, [], ◌∷◌, ◌++◌, length, Option, Some, None, slice_get, slice_set, slice_index_or, refl, ap, ◌∙◌, sym, subst, arith, inl, inr}
use Rattle.std.proofs.lemmas.List.{length-set}
use Rattle.rx_rules.proofs.Common.{PlaceId, Block, Tree, strike, is_hit, journal_at, opening_state, Given, Event, in_all, NoRoot, IsDue, rest_of, death_number, Game, Player, Turn, planned as due_turn, turns, tree_in}
use Rattle.rx_base.proofs.Elements.{get-set}
use Rattle.rx_rules.specs.declared.tasks.Blow.{Blow}
use Rattle.rx_rules.specs.declared.entries.Entry.{Entry}
use Rattle.rx_rules.specs.declared.entries.Entry.TheVariants.{Death}
use Rattle.rx_rules.specs.declared.events.PlaceEvent.{PlaceEvent}
use Rattle.rx_rules.specs.declared.events.PlaceEvent.TheVariants.{Close}
use Rattle.rx_rules.proofs.Append.{no_root-death, tree-push}
use Rattle.rx_runs.specs.Coming.{CameTo, GamesCome}
use Rattle.rx_runs.specs.Games.{JournalSo, Leads}
use Rattle.rx_runs.specs.Ties.{MayBe, MayCome}
use Rattle.rx_runs.proofs.Pairs.{pairs-get, journal_got}
use Rattle.rx_history.specs.Logs.{Log}
use Rattle.rx_history.specs.Setups.{given}
use Rattle.rx_chronicle.specs.Requests.{with_entry}
use Rattle.rx_store.specs.Kept.{StoreView, ends_closed, last_stamp}
use Rattle.rx_syntax.specs.Shape.{Shape}
use Rattle.rx_machine.specs.declared.machine.Machine.{Machine}
use Rattle.rx_machine.specs.declared.seat.Seat.{Seat}
use Rattle.rx_machine.specs.Slots.{row_of, seat_at, seat_in, live_task, SlotIs, left_by}
use Rattle.rx_store.specs.Kepts.{StoresAre}
use Rattle.rx_machine.specs.Holds.{Seated, LeadsTo}
use Rattle.rx_machine.specs.Runs.{Falling}
use Rattle.rx_machine.proofs.Finding.{same_or_not}
use Rattle.rx_machine.proofs.Acted.{seat_other}
use Rattle.rx_machine.proofs.Live.{if_missed, strike-live}
use Rattle.rx_machine.proofs.Called.{stores-at, stores-set, leads-open, stamp-most}
use Rattle.rx_machine.proofs.Own.{work-still}

-- What the death that is due says of its place.

pub record DueSo (q : ℕ) (es : List Entry) (d : PlaceId) : Type 0 where
  pub inside : d.0 < q
  pub lives : death_number 0 d es ≡ None

due-so : (all here n : ℕ) (es : List Entry) (d : PlaceId) (xs : List Event) → IsDue n (Death d) xs → MayCome all here es xs → DueSo here es d
due-so all here n es d [] due h = absurd due
due-so all here n es d (x ∷ xs) due h =
    let may : MayBe here es xs (Death d) = subst (λ (e : Entry). MayBe here es xs e) due.0 h.0 in
    record { inside = may.0; lives = may.2 }

-- The slots.

-- a slot after the blow
pub slot-struck : (shape : Shape) (es : List Entry) (e : Entry) (T : Tree) (b : Blow) (players : List Player) (n : ℕ) (o : Option Seat) → SlotIs shape es T players n o → SlotIs shape (es ++ e ∷ []) (strike b T) players n (left_by b.place o)
slot-struck shape es e T b players n None h = strike-live b T.tasks n ∙ ap (if_missed b) h
slot-struck shape es e T b players n (Some seat) h =
    (elim (is_hit b.place seat.who.place) as (λ c. is_hit b.place seat.who.place ≡ c → SlotIs shape (es ++ e ∷ []) (strike b T) players n (cond c None (Some seat))) [
      | true ↦ λ hit. row ∙ ap (λ (c : Bool). cond c None (Some (row_of seat))) hit
      | false ↦ λ hit. (
        h.0,
        h.1,
        h.2,
        record {
          row = row ∙ ap (λ (c : Bool). cond c None (Some (row_of seat))) hit;
          inner = h.3.inner;
          work = work-still shape es e h.0 seat.work h.3.work;
          waits = h.3.waits;
          held = h.3.held;
          spine = h.3.spine;
        },
      )
    ]) refl
  where
    row : live_task (strike b T) n ≡ cond (is_hit b.place seat.who.place) None (Some (row_of seat))
    row = strike-live b T.tasks n ∙ ap (if_missed b) h.3.row

-- no slot beyond the list has a seat
pub none-beyond : (seats : List (Option Seat)) (n : ℕ) → length seats ≤ n → seat_at seats n ≡ None
none-beyond [] n h = refl
none-beyond (o ∷ seats) zero h = absurd (omega (arith, h))
none-beyond (o ∷ seats) (suc n) h = none-beyond seats n (omega (arith, h))

-- the store of the place is open
pub record IsOpen (n : ℕ) (d : PlaceId) (heap : ℕ) (items : List StoreView) (j : List PlaceEvent) (s : StoreView) : Type 0 where
  pub found : slice_get items d.0 ≡ Some s
  pub place : s.place.0 ≡ d.0
  pub words : s.words ≡ heap
  pub events : s.events ≡ j
  pub unclosed : ends_closed s.events ≡ false
  pub last : last_stamp s.events ≤ n

-- a turn without a pick leads to a game for which the machine stands, but for what tells which tasks are enabled, and the root stands
abbrev pub HasFallen : {L : Type 0} → Shape → Block → Given → Machine L → ℕ → Game → Type 0
HasFallen shape code U m k G = LeadsTo (Turn U k G false) (λ G'. Seated shape code U m G' × NoRoot G'.entries)

-- what a death leaves of a machine
pub record Fell {L : Type 0} (m m' : Machine L) (d : PlaceId) (n : ℕ) : Type 0 where
  pub told : m'.chronicle ≡ with_entry m.chronicle (Death d)
  pub failed : m'.failed ≡ m.failed
  pub stores : (s : StoreView) → slice_get m.stores.items d.0 ≡ Some s → m'.stores.items ≡ slice_set m.stores.items d.0 (record s { events = s.events ++ Close n ∷ [] })
  pub many : length m'.seats.items ≡ length m.seats.items
  pub each : (i : ℕ) → seat_at m'.seats.items i ≡ left_by d (seat_at m.seats.items i)

module _ {L : Type 0} {shape : Shape} {code : Block} {U : Given} {m : Machine L} {G : Game} (d : PlaceId) (come : GamesCome) (t : Falling shape code U m (Death d) G) where
  came : CameTo code U G
  came = come code U G t.can.holds.shares.on.proper t.can.holds.shares.comes t.can.unreleased

  due : DueSo (tree_in U G).places G.entries d
  due = due-so (in_all U) (tree_in U G).places (length G.entries) G.entries d G.plan t.due came.ok.plan

  stored : d.0 < in_all U
  stored = let here : d.0 < (tree_in U G).places = due.inside in let most : (tree_in U G).places ≤ in_all U = came.ok.ties.within in omega (arith, here, most)

  pub store-open : (s : StoreView) × IsOpen (length G.entries) d U.heap m.stores.items (journal_at G.journals d.0) s
  store-open =
      let low : d.0 < length G.journals = subst (λ (n : ℕ). d.0 < n) (sym came.ok.one_each) stored in
      let both = pairs-get 0 d.0 G.journals G.stores low came.ok.journals in
      let so : JournalSo U G.entries d.0 both.left both.right = (let z : 0 + d.0 ≡ d.0 = omega arith in subst (λ (v : ℕ). JournalSo U G.entries v both.left both.right) z both.holds) in
      let leads : Leads U.heap opening_state both.left both.right = so.live due.lives in
      let same : journal_at G.journals d.0 ≡ both.left = journal_got G.journals d.0 both.left both.at_left in
      let s = stores-at U.heap 0 m.stores.items G.journals d.0 both.left t.can.holds.stores both.at_left in (
        s.0,
        record {
          found = s.1;
          place = (let w : s.0.place.0 ≡ 0 + d.0 = s.2 in omega (arith, w));
          words = s.3;
          events = s.4 ∙ sym same;
          unclosed = ap ends_closed s.4 ∙ leads-open leads;
          last = subst (λ (j : List PlaceEvent). last_stamp j ≤ length G.entries) (sym s.4) (stamp-most (length G.entries) 0 both.left (omega arith) so.top);
        },
      )

  pub fallen : (m' : Machine L) (k : ℕ) → Fell m m' d (length G.entries) → HasFallen shape code U m' k G
  fallen m' k f =
      let b : Blow = record { place = d; entry = length G.entries } in
      let h = t.can.holds in
      let j : List PlaceEvent = journal_at G.journals d.0 ++ Close (length G.entries) ∷ [] in
      let G' : Game = record G { entries = G.entries ++ Death d ∷ []; journals = slice_set G.journals d.0 j; plan = rest_of G.plan } in
      let turn : Turn U k G false G' = due_turn (Death d) t.due in
      let same : strike b (tree_in U G) ≡ tree_in U G' = sym (tree-push U.places G.entries (Death d)) in
      let s = store-open in
      let s' : StoreView = record s.0 { events = s.0.events ++ Close (length G.entries) ∷ [] } in
      let at : s'.place.0 ≡ 0 + d.0 = (let w : s.0.place.0 ≡ d.0 = s.1.place in omega (arith, w)) in
      let events : s'.events ≡ j = ap (λ (es : List PlaceEvent). es ++ Close (length G.entries) ∷ []) s.1.events in (
        G',
        turn,
        (
          record {
            shares = record {
              on = h.shares.on;
              comes = turns h.shares.comes t.can.unreleased turn;
              setup = ap (λ (c : Log). given c.setup) f.told ∙ h.shares.setup;
              entries = ap (λ (c : Log). c.entries) f.told ∙ ap (λ (es : List Entry). es ++ Death d ∷ []) h.shares.entries;
              slots = f.many ∙ (h.shares.slots ∙ ap (λ (T : Tree). T.next_task) same);
              failed = f.failed ∙ h.shares.failed;
            };
            stores = subst (λ (ss : List StoreView). StoresAre U.heap 0 ss (slice_set G.journals d.0 j)) (sym (f.stores s.0 s.1.found)) (stores-set U.heap 0 m.stores.items G.journals d.0 s' j h.stores at s.1.words events);
            seats = λ i.
                subst (λ (T : Tree). SlotIs shape G'.entries T G.players i (seat_at m'.seats.items i)) same
                (subst (λ (o : Option Seat). SlotIs shape G'.entries (strike b (tree_in U G)) G.players i o) (sym (f.each i)) (slot-struck shape G.entries (Death d) (tree_in U G) b G.players i (seat_at m.seats.items i) (h.seats i)));
          },
          no_root-death G.entries d t.can.unreleased,
        ),
      )

-- Giving up the seats, slot by slot.

-- the slots before i are done, and those from i on are as they were
abbrev pub DoneTo : PlaceId → List (Option Seat) → List (Option Seat) → ℕ → Type 0
DoneTo d first now i =
    (length now ≡ length first)
    × ((n : ℕ) → n < i → seat_at now n ≡ left_by d (seat_at first n))
    × ((n : ℕ) → i ≤ n → seat_at now n ≡ seat_at first n)

seat_is : (now : List (Option Seat)) (i : ℕ) (o d : Option Seat) → i < length now → o ≡ slice_index_or now i d → seat_at now i ≡ o
seat_is [] i o d low e = absurd (omega (arith, low))
seat_is (x ∷ now) zero o d low e = sym e
seat_is (x ∷ now) (suc i) o d low e = seat_is now i o d (omega (arith, low)) e

pub done-more : (d : PlaceId) (first now : List (Option Seat)) (i : ℕ) (o new : Option Seat) → i < length now → o ≡ slice_index_or now i o → new ≡ left_by d o → DoneTo d first now i → DoneTo d first (slice_set now i new) (i + 1)
done-more d first now i o new low at is h = (
  length-set now i new ∙ h.0,
  λ n under.
      elim (same_or_not n i) [
        | inl e ↦
            subst (λ (v : ℕ). seat_at (slice_set now i new) v ≡ left_by d (seat_at first v)) (sym e)
            (ap seat_in (get-set now i new low) ∙ (is ∙ ap (left_by d) (sym (seat_is now i o o low at) ∙ h.2 i (let r : i ≤ i = omega arith in r))))
        | inr apart ↦ seat_other now i n new apart ∙ h.1 n (below n i under apart)
      ],
  λ n over. seat_other now i n new (λ e. absurd (omega (arith, over, e))) ∙ h.2 n (omega (arith, over)),
)
  where
    below : (n i : ℕ) → n < i + 1 → n ≢ i → n < i
    below n i under apart = omega (arith, under, apart)

lt_or_not : (n i : ℕ) → (n < i) ⊎ (i ≤ n)
lt_or_not n zero = inr (omega arith)
lt_or_not zero (suc i) = inl (omega arith)
lt_or_not (suc n) (suc i) = elim (lt_or_not n i) [ inl h ↦ inl (omega (arith, h)) | inr h ↦ inr (omega (arith, h)) ]

pub all-done : (d : PlaceId) (first now : List (Option Seat)) (i : ℕ) → length first ≤ i → DoneTo d first now i → (n : ℕ) → seat_at now n ≡ left_by d (seat_at first n)
all-done d first now i all h n =
    (elim (lt_or_not n i) [
      | inl low ↦ h.1 n low
      | inr high ↦
          let none : seat_at first n ≡ None = none-beyond first n (omega (arith, all, high)) in
          h.2 n high ∙ (none ∙ sym (ap (left_by d) none))
    ])
