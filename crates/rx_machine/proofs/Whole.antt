-- A picked run, turn by turn.
use Rattle.std.proofs.Common.{length, ◌≡◌, ℕ, suc, ◌+◌, ◌*◌, ◌≤◌, Bool, true, false, List, [], ◌∷◌, ◌++◌, map, refl, ap, ◌∙◌, sym, subst, arith, length-append}
use Rattle.std.proofs.lemmas.List.{append_assoc, append-nil}
use Rattle.rx_rules.proofs.Common.{TaskId, Block, work, Tree, tree_of, Given, IsDue, in_all, NoRoot, Game, Turn, planned as due, arrives, moves, root, none, more, IsPicked, start_game, tree_in, used_after}
use Rattle.rx_rules.specs.declared.entries.Act.{Act}
use Rattle.rx_rules.specs.declared.entries.Act.TheVariants.{Arrive, End}
use Rattle.rx_rules.specs.declared.entries.Entry.{Entry}
use Rattle.rx_rules.specs.declared.entries.Entry.TheVariants.{Step, Root, Death, Join}
use Rattle.rx_rules.specs.Picked.{ends, Turns}
use Rattle.rx_rules.proofs.Append.{no_root-push}
use Rattle.rx_runs.proofs.Planned.{IsPlanned, due_planned}
use Rattle.rx_runs.specs.Coming.{GamesCome}
use Rattle.rx_history.specs.Logs.{Log}
use Rattle.rx_history.specs.Events.{AllEvents, events_of}
use Rattle.rx_history.specs.Setups.{given, to_join}
use Rattle.rx_chronicle.specs.Requests.{tree_told}
use Rattle.rx_store.specs.Kepts.{StoresAre}
use Rattle.rx_syntax.specs.Shape.{Shape}
use Rattle.rx_machine.specs.declared.machine.Machine.{Machine}
use Rattle.rx_store.proofs.Journals.{journals_are}
use Rattle.rx_machine.specs.Holds.{MachineInvariant, Finished, LeadsTo}
use Rattle.rx_machine.specs.Runs.{WentOn, picks_in, RanFrom, Gives}

-- Turns that move tasks.

-- the root stands after it
pub stays_open : (U : Given) (k : ℕ) (G G' : Game) → Turn U k G true G' → NoRoot G.entries → NoRoot G'.entries
stays_open U k G G' (arrives x p (none_due, pick) may) h = no_root-push G.entries (Step x.number (Arrive p) []) h tt
stays_open U k G G' (moves x here p q S Z j act (none_due, pick) at player store goes fits may) h = no_root-push G.entries (Step x.number act q.batch) h tt
stays_open U k G G' (ends x here p q S Z j f (none_due, pick) at player store goes done may) h = no_root-push G.entries (Step x.number (End f) q.batch) h tt

-- The picks that turns use.

pub pick-more : (es : List Entry) (t : TaskId) (act : Act) (batch : List (List ℕ)) → picks_in (es ++ Step t act batch ∷ []) ≡ suc (picks_in es)
pick-more [] t act batch = refl
pick-more (Step u a b ∷ es) t act batch = ap suc (pick-more es t act batch)
pick-more (Root lost masked thrown ∷ es) t act batch = pick-more es t act batch
pick-more (Death d ∷ es) t act batch = pick-more es t act batch
pick-more (Join p ∷ es) t act batch = pick-more es t act batch

pub no-pick-more : (es : List Entry) (e : Entry) → picks_in (e ∷ []) ≡ 0 → picks_in (es ++ e ∷ []) ≡ picks_in es
no-pick-more [] e h = h
no-pick-more (Step t act batch ∷ es) e h = ap suc (no-pick-more es e h)
no-pick-more (Root lost masked thrown ∷ es) e h = no-pick-more es e h
no-pick-more (Death d ∷ es) e h = no-pick-more es e h
no-pick-more (Join p ∷ es) e h = no-pick-more es e h

-- a turn adds one entry, and uses a pick exactly where that is a task's
pub record AddsEntry (used : Bool) (G G' : Game) : Type 0 where
  pub entry : Entry
  pub entries : G'.entries ≡ G.entries ++ entry ∷ []
  pub uses : (es : List Entry) → picks_in (es ++ entry ∷ []) ≡ used_after used (picks_in es)

pub turn-adds : (U : Given) (k : ℕ) (G G' : Game) (used : Bool) → ((e : Entry) → IsDue (length G.entries) e G.plan → IsPlanned e) → Turn U k G used G' → AddsEntry used G G'
turn-adds U k G G' false planned (due (Death d) is) = record { entry = Death d; entries = refl; uses = λ es. no-pick-more es (Death d) refl }
turn-adds U k G G' false planned (due (Join p) is) = record { entry = Join p; entries = refl; uses = λ es. no-pick-more es (Join p) refl }
turn-adds U k G G' false planned (due (Step t act batch) is) = absurd (planned (Step t act batch) is)
turn-adds U k G G' false planned (due (Root lost masked thrown) is) = absurd (planned (Root lost masked thrown) is)
turn-adds U k G G' true planned (arrives x p (none_due, pick) may) = record { entry = Step x.number (Arrive p) []; entries = refl; uses = λ es. pick-more es x.number (Arrive p) [] }
turn-adds U k G G' true planned (moves x here p q S Z j act (none_due, pick) at player store goes fits may) = record { entry = Step x.number act q.batch; entries = refl; uses = λ es. pick-more es x.number act q.batch }
turn-adds U k G G' true planned (ends x here p q S Z j f (none_due, pick) at player store goes done may) = record { entry = Step x.number (End f) q.batch; entries = refl; uses = λ es. pick-more es x.number (End f) q.batch }
turn-adds U k G G' false planned (root lost masked thrown none_due none_enabled may) = record { entry = Root lost masked thrown; entries = refl; uses = λ es. no-pick-more es (Root lost masked thrown) refl }

-- Turns from a game on.

-- after i turns from a game on, of which j used a pick, the machine stands for a game
pub record RunTo {L : Type 0} (shape : Shape) (code : Block) (U : Given) (picks : ℕ → ℕ) (G : Game) (m : Machine L) (i j : ℕ) : Type 0 where
  pub game : Game
  pub holds : MachineInvariant shape code U m game
  pub added : List Entry
  pub adds : game.entries ≡ G.entries ++ added
  pub size : length added ≡ i
  pub used : j ≡ picks_in added
  pub made : (n : ℕ) (G' : Game) → Turns U picks n j game G' → Turns U picks (i + n) 0 G G'

pub run-begins : {L : Type 0} (shape : Shape) (code : Block) (U : Given) (picks : ℕ → ℕ) (G : Game) (m : Machine L) → MachineInvariant shape code U m G → RunTo shape code U picks G m 0 0
run-begins shape code U picks G m h =
    record {
      game = G;
      holds = h;
      added = [];
      adds = sym (append-nil G.entries);
      size = refl;
      used = refl;
      made = λ n G' ts. (let e : n ≡ 0 + n = omega arith in subst (λ x. Turns U picks x 0 G G') e ts);
    }

added-more : (es fs added : List Entry) (e : Entry) (gs : List Entry) → gs ≡ fs ++ e ∷ [] → fs ≡ es ++ added → gs ≡ es ++ (added ++ e ∷ [])
added-more es fs added e gs grown adds = grown ∙ (ap (λ xs. xs ++ e ∷ []) adds ∙ append_assoc es added (e ∷ []))

size-more : (added : List Entry) (e : Entry) (i : ℕ) → length added ≡ i → length (added ++ e ∷ []) ≡ i + 1
size-more added e i h = let one : length (e ∷ []) ≡ 1 = refl in omega (arith, length-append added (e ∷ []), h, one)

pub run-goes : {L : Type 0} (shape : Shape) (code : Block) (U : Given) (picks : ℕ → ℕ) (G : Game) (m m' : Machine L) (i j k : ℕ) (used : Bool) → GamesCome → (r : RunTo shape code U picks G m i j) → k ≡ picks j → WentOn shape code U m' k used r.game → RunTo shape code U picks G m' (i + 1) (used_after used j)
run-goes shape code U picks G m m' i j k used come r e a =
    let s = r.holds.seated.shares in
    let more_one = turn-adds U k r.game a.0 used (λ x d. due_planned (length r.game.entries) (in_all U) (tree_in U r.game).places r.game.entries r.game.plan x d (come code U r.game s.on.proper s.comes r.holds.unreleased).ok.plan) a.1 in
    record {
      game = a.0;
      holds = a.2;
      added = r.added ++ more_one.entry ∷ [];
      adds = added-more G.entries r.game.entries r.added more_one.entry a.0.entries more_one.entries r.adds;
      size = size-more r.added more_one.entry i r.size;
      used = ap (used_after used) r.used ∙ sym (more_one.uses r.added);
      made = λ n G' ts. (let z : i + suc n ≡ i + 1 + n = omega arith in
          let t : Turn U (picks j) r.game used a.0 = subst (λ x. Turn U x r.game used a.0) e a.1 in
          subst (λ x. Turns U picks x 0 G G') z (r.made (suc n) G' (more r.holds.unreleased t ts)));
    }

-- the picks that are left after a turn
pub picks-left : (picks old new : ℕ → ℕ) (j : ℕ) (used : Bool) → ((n : ℕ) → old n ≡ picks (j + n)) → ((n : ℕ) → new n ≡ old (used_after used n)) → (n : ℕ) → new n ≡ picks (used_after used j + n)
picks-left picks old new j true were are n = let e : j + suc n ≡ suc j + n = omega arith in are n ∙ (were (suc n) ∙ ap picks e)
picks-left picks old new j false were are n = are n ∙ were n

-- its turns and the entries before them are few
run-few : {L : Type 0} (shape : Shape) (code : Block) (U : Given) (picks : ℕ → ℕ) (G : Game) (m : Machine L) (i j : ℕ) → GamesCome → (r : RunTo shape code U picks G m i j) → length G.entries + i ≤ 4 * work code + U.places + 2 * length U.joins
run-few shape code U picks G m i j come r =
    let s = r.holds.seated.shares in
    let most : length r.game.entries ≤ 4 * work code + U.places + 2 * length U.joins = (come code U r.game s.on.proper s.comes r.holds.unreleased).entries in
    omega (arith, most, r.size, ap (λ es. length es) r.adds, length-append G.entries r.added)

-- no run makes so many turns
pub run-stops : {L : Type 0} (shape : Shape) (code : Block) (U : Given) (picks : ℕ → ℕ) (G : Game) (m : Machine L) (i j : ℕ) → GamesCome → RunTo shape code U picks G m i j → i ≤ 400055
run-stops shape code U picks G m i j come r =
    let most = run-few shape code U picks G m i j come r in
    let few : work code ≤ 100000 = r.holds.seated.shares.on.few in
    let places : U.places + length U.joins ≤ 16 = r.holds.seated.shares.on.proper.few in
    omega (arith, most, few, places)

-- The end.

-- what the machine gives out is that of the game
pub gives-so : {L : Type 0} (stands : L → ℕ → Tree → Type 0) (U : Given) (m : Machine L) (G : Game) (r : Log × AllEvents × L) → r.0 ≡ m.chronicle → events_of r.1 ≡ map (λ s. s.events) m.stores.items → stands r.2 (to_join (given m.chronicle.setup) (tree_told m.chronicle)) (tree_told m.chronicle) → given m.chronicle.setup ≡ U → m.chronicle.entries ≡ G.entries → StoresAre U.heap 0 m.stores.items G.journals → Gives stands U G r
gives-so stands U m G r history events ledger setup entries stores =
    record {
      entries = ap (λ l. l.entries) history ∙ entries;
      setup = ap (λ l. given l.setup) history ∙ setup;
      journals = events ∙ journals_are U.heap 0 m.stores.items G.journals stores;
      ledger =
          subst (λ (es : List Entry). stands r.2 (to_join U (tree_of U.places es)) (tree_of U.places es)) entries
          (subst (λ (V : Given). stands r.2 (to_join V (tree_of V.places m.chronicle.entries)) (tree_of V.places m.chronicle.entries)) setup ledger);
    }

pub run-ends : {L : Type 0} (stands : L → ℕ → Tree → Type 0) (shape : Shape) (code : Block) (U : Given) (picks : ℕ → ℕ) (G : Game) (m m' : Machine L) (i j k : ℕ) (left : ℕ → ℕ) → GamesCome → (r : RunTo shape code U picks G m i j) → k ≡ picks j → ((n : ℕ) → left n ≡ picks (j + n)) → (a : LeadsTo (Turn U k r.game false) (Finished U m')) → (parts : Log × AllEvents × L) → Gives stands U a.0 parts → RanFrom stands code U picks left G parts
run-ends stands shape code U picks G m m' i j k left come r e are a parts gives =
    let t : Turn U (picks j) r.game false a.0 = subst (λ x. Turn U x r.game false a.0) e a.1 in
    let s = r.holds.seated.shares in
    let last = turn-adds U k r.game a.0 false (λ x d. due_planned (length r.game.entries) (in_all U) (tree_in U r.game).places r.game.entries r.game.plan x d (come code U r.game s.on.proper s.comes r.holds.unreleased).ok.plan) a.1 in
    let used : j ≡ picks_in (r.added ++ last.entry ∷ []) = r.used ∙ sym (last.uses r.added) in
    let most = run-few shape code U picks G m i j come r in
    record {
      turns = i + 1;
      game = a.0;
      made = r.made 1 a.0 (more r.holds.unreleased t none);
      ended = a.2.ended;
      gives = gives;
      added = r.added ++ last.entry ∷ [];
      adds = added-more G.entries r.game.entries r.added last.entry a.0.entries last.entries r.adds;
      used = λ n. are n ∙ ap (λ x. picks (x + n)) used;
      few = omega (arith, most);
    }

-- from the game before the first turn they are the picked run
pub run-picked : {L : Type 0} (stands : L → ℕ → Tree → Type 0) (code : Block) (U : Given) (picks left : ℕ → ℕ) (parts : Log × AllEvents × L) → RanFrom stands code U picks left (start_game code U) parts → IsPicked code U picks parts.0.entries (events_of parts.1)
run-picked stands code U picks left parts r =
    record { turns = r.turns; game = r.game; made = r.made; ended = r.ended; entries = r.gives.entries; journals = r.gives.journals }
