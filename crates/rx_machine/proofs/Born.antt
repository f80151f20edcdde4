-- What an entry that starts a task makes of the game for which a machine stands.
use Rattle.std.proofs.Common.{◌≡◌, ◌≢◌, ℕ, suc, ◌+◌, ◌<◌, ◌≤◌, ◌==◌, Bool, true, false, cond, List, [], ◌∷◌, ◌++◌, length, map, filter, reverse, Option, Some, None, is_none, is_some, IfSome, option_map, slice_get, slice_set, refl, ap, ◌∙◌, sym, subst, inl, inr, arith}
use Rattle.std.specs.List.{find}
use Rattle.std.proofs.lemmas.List.{length-set, length-append}
use Rattle.std.proofs.lemmas.Bool.{eqb-true}
use Rattle.std.proofs.lemmas.Option.{slice_get_within}
use Rattle.rx_rules.proofs.Common.{PlaceId, TaskId, ScopeId, Block, does, child, Tree, is_task, opened_by, death_of, AllowedAct, made_act, born, started_by, Given, Game, Player, Turn, tree_in, child_of, acted as played}
use Rattle.rx_base.proofs.Options.{none-of}
use Rattle.rx_base.proofs.Elements.{get-set, get-pushed}
use Rattle.rx_rules.specs.declared.tasks.Task.{Task}
use Rattle.rx_rules.specs.declared.tasks.Scope.{Scope}
use Rattle.rx_rules.specs.declared.tasks.Kind.{Kind}
use Rattle.rx_rules.specs.declared.tasks.Blow.{Blow}
use Rattle.rx_rules.specs.declared.entries.Act.{Act}
use Rattle.rx_rules.specs.declared.entries.Entry.TheVariants.{Step}
use Rattle.rx_rules.specs.Plays.{Fits}
use Rattle.rx_tree_laws.specs.Chains.{Opened, HasOpener}
use Rattle.rx_tree_laws.specs.Sound.{Sound, TasksFall}
use Rattle.rx_syntax.specs.Shape.{Shape}
use Rattle.rx_machine.specs.declared.machine.Machine.{Machine}
use Rattle.rx_machine.specs.declared.seat.Seat.{Seat}
use Rattle.rx_machine.specs.declared.seat.Mover.{Mover}
use Rattle.rx_tree_laws.specs.Held.{is_held, HeldInFront}
use Rattle.rx_tree_laws.specs.Spine.{Spine}
use Rattle.rx_machine.specs.Slots.{row_of, seat_at, seat_in, live_task, if_unstruck, own_kinds, SlotIs, IsSeat, IsWork}
use Rattle.rx_machine.specs.Holds.{Seated, Acting, LeadsTo}
use Rattle.rx_machine.proofs.Acted.{Went, game_after, tree-after, turned, shared, stores-after}
use Rattle.rx_machine.proofs.Finding.{same_or_not, get_other, get_before}
use Rattle.rx_tree_laws.proofs.Granting.{unheld-child}
use Rattle.rx_tree_laws.proofs.Holding.{unheld-front}
use Rattle.rx_machine.proofs.Live.{none_above, live_number}
use Rattle.rx_machine.proofs.Own.{own_scopes, newest, inner-newest, SameOwn, slot-on}
use Rattle.rx_tree_laws.proofs.SpineGrants.{flat-child}
use Rattle.rx_tree_laws.proofs.Spines.{flat-spine}
use Rattle.rx_rules.specs.declared.entries.Entry.{Entry}
use Rattle.rx_machine.specs.declared.seat.Work.{Work}

-- A task that is not yet born opened no scope.

opener_is_born : (n k : ℕ) (ts : List Task) (g : Scope) (gs : List Scope) (o : Option TaskId) → TasksFall k ts → k ≤ n → HasOpener ts g gs o → (elim o as (λ _. Bool) [ Some x ↦ x.0 == n | None ↦ false ]) ≡ false
opener_is_born n k ts g gs None falls le h = refl
opener_is_born n k ts g gs (Some o) falls le h =
    (elim (o.0 == n) as (λ b. (o.0 == n) ≡ b → b ≡ false) [
      | true ↦ λ e.
          let same : o.0 ≡ n = eqb-true o.0 n e in
          let none : find (is_task o) ts ≡ None = subst (λ (v : ℕ). find (λ (x : Task). x.number.0 == v) ts ≡ None) (sym same) (none_above n k ts falls le) in
          absurd (let f : None ≡ Some h.task = sym none ∙ h.stands in let g : ⊥ = cc in g)
      | false ↦ λ e. refl
    ]) refl

pub none-opened : (n k : ℕ) (ts : List Task) (gs : List Scope) → TasksFall k ts → k ≤ n → Opened ts gs → filter (opened_by (record { 0 = n })) gs ≡ []
none-opened n k ts [] falls le h = refl
none-opened n k ts (g ∷ gs) falls le h =
    let e : opened_by (record { 0 = n }) g ≡ false = opener_is_born n k ts g gs g.opener falls le h.0 in
    rw e (none-opened n k ts gs falls le h.1)

-- the scopes that the next task opened
pub none-own : (T : Tree) → Sound T → (own_scopes T T.next_task ≡ []) × (own_kinds T T.next_task ≡ [])
none-own T sound =
    let le : T.next_task ≤ T.next_task = omega arith in
    let e : filter (opened_by (record { 0 = T.next_task })) T.scopes ≡ [] = none-opened T.next_task T.next_task T.tasks T.scopes sound.tasks_fall le sound.opened in
    (ap (map (λ g. g.number)) e, ap (map (λ g. g.kind)) e)

-- A new task is struck exactly where its place is dead.

born-struck : (T : Tree) (number : TaskId) (under : ScopeId) (from to : PlaceId) (b : Bool) → is_some (death_of T to) ≡ b → if_unstruck (born T number under from to) ≡ cond b None (Some (born T number under from to))
born-struck T number under from to b e =
    let blow : ℕ → Blow = λ n. record { place = to; entry = n } in
    subst (λ (v : Bool). if_unstruck (born T number under from to) ≡ cond v None (Some (born T number under from to))) e
    (elim (death_of T to) as (λ (o : Option ℕ). cond (is_none (option_map blow o)) (Some (born T number under from to)) None ≡ cond (is_some o) None (Some (born T number under from to))) [
      | Some n ↦ refl
      | None ↦ refl
    ])

-- what the task of an act begins with
abbrev pub child_player : Player → Player
child_player q = record { term = child q.term; vars = q.vars; batch = [] }

-- a slot says of the next task what it must
abbrev pub NewSlot : Shape → List Entry → Tree → ℕ → Player → Option Seat → Type 0
NewSlot shape es T n p None = live_task T n ≡ None
NewSlot shape es T n p (Some seat) = IsSeat shape es T n p seat

-- the seat of a new task that no death struck
abbrev pub NewSeat : Work → ScopeId → Seat → Type 0
NewSeat work under seat = (seat.who.inner ≡ under) × (seat.work ≡ work)

pub new-slot : (shape : Shape) (es : List Entry) (T T' : Tree) (n : ℕ) (q : Player) (slot : Option Seat) (work : Work) (number : TaskId) (under : ScopeId) (from to : PlaceId) → live_task T' n ≡ if_unstruck (born T number under from to) → (own_scopes T' n ≡ []) × (own_kinds T' n ≡ []) → IsWork shape es (child_player q) work → is_none slot ≡ is_some (death_of T to) → IfSome slot (λ seat. (V : Tree) → death_of V to ≡ None → row_of seat ≡ born V number under from to) → IfSome slot (NewSeat work under) → NewSlot shape es T' n (child_player q) slot
new-slot shape es T T' n q None work number under from to live own is_work lost row rest = live ∙ born-struck T number under from to true (sym lost)
new-slot shape es T T' n q (Some seat) work number under from to live own is_work lost row rest =
    let is : row_of seat ≡ born T number under from to = row T (none-of (death_of T to) (sym lost)) in
    let there : live_task T' n ≡ Some (row_of seat) = live ∙ (born-struck T number under from to false (sym lost) ∙ ap (λ (r : Task). Some r) (sym is)) in
    let front : HeldInFront (child q.term) × (is_held (child q.term) ≡ false) = unheld-front (child q.term) (unheld-child q.term) in
    record {
      row = there;
      inner = inner-newest T' n (row_of seat) (live_number T' n (row_of seat) there)
          ∙ (ap (λ (ss : List ScopeId). newest ss seat.who.scope) own.0 ∙ (ap (λ (r : Task). r.under) is ∙ sym rest.0));
      work = subst (λ (w : Work). IsWork shape es (child_player q) w) (sym rest.1) is_work;
      waits = ap (λ (r : Task). r.waits) is ∙ sym front.1;
      held = front.0;
      spine = subst (λ (ks : List Kind). Spine (child q.term) (reverse ks)) (sym own.1) (flat-spine (child q.term) (flat-child q.term));
    }

new-is : (shape : Shape) (es : List Entry) (T : Tree) (players : List Player) (n : ℕ) (p : Player) (slot : Option Seat) → slice_get players n ≡ Some p → p.batch ≡ [] → NewSlot shape es T n p slot → SlotIs shape es T players n slot
new-is shape es T players n p None player none h = h
new-is shape es T players n p (Some seat) player none h = (p, player, none, h)

-- An entry that starts a task: the seat goes back changed, the child gets a slot of its own at the end, and all others stay.
module _ {L : Type 0} {shape : Shape} {code : Block} {U : Given} {m : Machine L} {k i : ℕ} {here : PlaceId} {q : Player} {mover : Mover} {G : Game} (a : Acting shape code U m k i here q mover G) (act : Act) (fits : Fits here q.term (does q.vars here.0 q.term) act) (may : AllowedAct (tree_in U G) mover.who.task act) where
  pub started : (m' : Machine L) (seat' : Seat) (slot : Option Seat) (c : TaskId) → started_by act ≡ Some c → ((n : ℕ) → n ≢ i → n ≢ (tree_in U G).next_task → live_task (made_act (tree_in U G) mover.who.task act) n ≡ live_task (tree_in U G) n) → ((n : ℕ) → n ≢ i → n ≢ (tree_in U G).next_task → SameOwn (tree_in U G) (made_act (tree_in U G) mover.who.task act) n) → (made_act (tree_in U G) mover.who.task act).next_task ≡ suc (tree_in U G).next_task → IsSeat shape (G.entries ++ Step mover.who.task act q.batch ∷ []) (made_act (tree_in U G) mover.who.task act) i (played here q act) seat' → NewSlot shape (G.entries ++ Step mover.who.task act q.batch ∷ []) (made_act (tree_in U G) mover.who.task act) (tree_in U G).next_task (child_player q) slot → Went m m' (Step mover.who.task act mover.batch) → m'.seats.items ≡ slice_set m.seats.items i (Some seat') ++ slot ∷ [] → LeadsTo (Turn U k G true) (Seated shape code U m')
  started m' seat' slot c starts live own next new born_so went back =
      let t : TaskId = mover.who.task in
      let T : Tree = tree_in U G in
      let T' : Tree = made_act T t act in
      let G' : Game = game_after G t here q a.left a.events act in
      let same : T' ≡ tree_in U G' = sym (tree-after U G t here q a.left a.events act) in
      let ps : List Player = slice_set G.players i (played here q act) in
      let xs : List (Option Seat) = slice_set m.seats.items i (Some seat') in
      let players : ps ++ child_player q ∷ [] ≡ G'.players =
      subst (λ (n : ℕ). slice_set G.players n (played here q act) ++ child_player q ∷ [] ≡ G'.players) a.pick.number
      (ap (λ d. slice_set G.players t.0 (played here q act) ++ d) (sym (child_is q act c starts))) in
      let ps_long : length ps ≡ T.next_task = length-set G.players i (played here q act) ∙ a.players in
      let xs_long : length xs ≡ T.next_task = length-set m.seats.items i (Some seat') ∙ a.but.shares.slots in
      let older : i ≢ T.next_task = λ e. let low : i < T.next_task = subst (λ (v : ℕ). i < v) a.but.shares.slots a.inside in absurd (omega (arith, e)) in
      let within : i < length G.players = slice_get_within G.players i a.began a.gone.player in
      let mine : slice_get G'.players i ≡ Some (played here q act) =
      subst (λ (v : List Player). slice_get v i ≡ Some (played here q act)) players
      (get_before ps (child_player q) i (λ e. older (e ∙ ps_long)) ∙ get-set G.players i (played here q act) within) in
      let its : slice_get G'.players T.next_task ≡ Some (child_player q) =
      subst (λ (v : List Player). slice_get v T.next_task ≡ Some (child_player q)) players
      (subst (λ (v : ℕ). slice_get (ps ++ child_player q ∷ []) v ≡ Some (child_player q)) ps_long (get-pushed ps (child_player q))) in
      let others : (n : ℕ) → n ≢ i → n ≢ T.next_task → slice_get G'.players n ≡ slice_get G.players n = λ n apart fresh.
      subst (λ (v : List Player). slice_get v n ≡ slice_get G.players n) players
      (get_before ps (child_player q) n (λ e. fresh (e ∙ ps_long)) ∙ get_other G.players i n (played here q act) apart) in
      let seat_mine : seat_at (xs ++ slot ∷ []) i ≡ Some seat' = ap seat_in (get_before xs slot i (λ e. older (e ∙ xs_long)) ∙ get-set m.seats.items i (Some seat') a.inside) in
      let seat_new : seat_at (xs ++ slot ∷ []) T.next_task ≡ slot =
      ap seat_in (subst (λ (v : ℕ). slice_get (xs ++ slot ∷ []) v ≡ Some slot) xs_long (get-pushed xs slot)) in
      let seat_others : (n : ℕ) → n ≢ i → n ≢ T.next_task → seat_at (xs ++ slot ∷ []) n ≡ seat_at m.seats.items n = λ n apart fresh.
      ap seat_in (get_before xs slot n (λ e. fresh (e ∙ xs_long)) ∙ get_other m.seats.items i n (Some seat') apart) in
      let pushed : length (xs ++ slot ∷ []) ≡ suc T.next_task = let one : length (xs ++ slot ∷ []) ≡ length xs + 1 = length-append xs (slot ∷ []) in omega (arith, one, xs_long) in
      let length_is : length m'.seats.items ≡ T'.next_task = ap (λ v. length v) back ∙ (pushed ∙ sym next) in (
        G',
        turned a act fits may,
        record {
          shares = shared a act fits may m' went length_is;
          stores = stores-after a act fits may m' went;
          seats = λ n.
              subst (λ (V : Tree). SlotIs shape G'.entries V G'.players n (seat_at m'.seats.items n)) same
              (subst (λ (v : List (Option Seat)). SlotIs shape G'.entries T' G'.players n (seat_at v n)) (sym back)
              (elim (same_or_not n i) [
                | inl e ↦ subst (λ (v : ℕ). SlotIs shape G'.entries T' G'.players v (seat_at (xs ++ slot ∷ []) v)) (sym e)
                    (subst (λ (o : Option Seat). SlotIs shape G'.entries T' G'.players i o) (sym seat_mine) (played here q act, mine, refl, new))
                | inr apart ↦
                    elim (same_or_not n T.next_task) [
                      | inl e ↦ subst (λ (v : ℕ). SlotIs shape G'.entries T' G'.players v (seat_at (xs ++ slot ∷ []) v)) (sym e)
                          (subst (λ (o : Option Seat). SlotIs shape G'.entries T' G'.players T.next_task o) (sym seat_new) (new-is shape G'.entries T' G'.players T.next_task (child_player q) slot its refl born_so))
                      | inr fresh ↦ subst (λ (o : Option Seat). SlotIs shape G'.entries T' G'.players n o) (sym (seat_others n apart fresh))
                          (slot-on shape G.entries (Step t act q.batch) T T' G.players G'.players n (seat_at m.seats.items n) (live n apart fresh) (λ x h. own n apart fresh) (others n apart fresh) (a.but.others n apart))
                    ]
              ]));
        },
      )
    where
      child_is : (q : Player) (act : Act) (c : TaskId) → started_by act ≡ Some c → child_of q act ≡ child_player q ∷ []
      child_is q act c e = rw (e, child_of) refl
