-- A picked run stays one where its sets of places keep the bits of places alone.
use Rattle.std.proofs.Common.{◌≡◌, ℕ, zero, suc, ◌%◌, ◌/◌, ◌^◌, ◌<◌, ◌==◌, Bool, true, false, List, [], ◌∷◌, ◌++◌, length, map, filter, cond, slice_get, slice_set, Some, refl, ap, ◌∙◌, sym, subst, arith}
use Rattle.std.specs.List.{AllByRecursion}
use Rattle.std.proofs.lemmas.List.{length-map, map-append}
use Rattle.rx_rules.proofs.Common.{all_places, has_bit, members, PlaceId, ScopeId, PlaceSet, Fault, Dead, Block, Term, Vars, Does, Local, Makes, Gets, Puts, Forgets, Opens, Calls as Asks, Spawns, Waits, Releases, Prints, Counts, Done, does, granted, Tree, the_root, Allowed, MayFree, made, fold_from, opening, brought, vars_told, journal_at, State, Given, NoRoot, EndsWithRoot, NoneDue, IsDue, rest_of, Player, Game, RunsWithoutEntry, Turn, IsPicked, none, more, child_of, with_entry, closed_by, enabled, tree_in, start_game}
use Rattle.rx_rules.specs.declared.tasks.Task.{Task}
use Rattle.rx_rules.specs.declared.entries.Act.{Act}
use Rattle.rx_rules.specs.declared.entries.Act.TheVariants.{Open, At as Calls, Spawn, Arrive, Wait, Release, End, Print, Census}
use Rattle.rx_rules.specs.declared.entries.Entry.{Entry}
use Rattle.rx_rules.specs.declared.entries.Entry.TheVariants.{Step, Root, Death, Join}
use Rattle.rx_rules.specs.declared.events.PlaceEvent.{PlaceEvent}
use Rattle.rx_rules.specs.declared.events.PlaceEvent.TheVariants.{Close}
use Rattle.rx_rules.specs.Plays.{Fits}
use Rattle.rx_rules.specs.Picked as picked
use Rattle.rx_rules.specs.Picked.{Turns}
use Rattle.rx_runs.proofs.Planned.{IsPlanned, EachPlanned, each_due, rest_planned, events_planned}
use Rattle.rx_runs.specs.PickedRuns.{ActFits, SetsFit, plain_set, plain_act, plain}

-- Sets.

bit_plain : (m p : ℕ) → p < 16 → has_bit (m % 2 ^ 16) p ≡ has_bit m p
bit_plain m zero low = let e : ((m % 65536) / 1) % 2 ≡ (m / 1) % 2 = omega arith in ap (λ k. k == 1) e
bit_plain m (suc zero) low = let e : ((m % 65536) / 2) % 2 ≡ (m / 2) % 2 = omega arith in ap (λ k. k == 1) e
bit_plain m (suc (suc zero)) low = let e : ((m % 65536) / 4) % 2 ≡ (m / 4) % 2 = omega arith in ap (λ k. k == 1) e
bit_plain m (suc (suc (suc zero))) low = let e : ((m % 65536) / 8) % 2 ≡ (m / 8) % 2 = omega arith in ap (λ k. k == 1) e
bit_plain m (suc (suc (suc (suc zero)))) low = let e : ((m % 65536) / 16) % 2 ≡ (m / 16) % 2 = omega arith in ap (λ k. k == 1) e
bit_plain m (suc (suc (suc (suc (suc zero))))) low = let e : ((m % 65536) / 32) % 2 ≡ (m / 32) % 2 = omega arith in ap (λ k. k == 1) e
bit_plain m (suc (suc (suc (suc (suc (suc zero)))))) low = let e : ((m % 65536) / 64) % 2 ≡ (m / 64) % 2 = omega arith in ap (λ k. k == 1) e
bit_plain m (suc (suc (suc (suc (suc (suc (suc zero))))))) low = let e : ((m % 65536) / 128) % 2 ≡ (m / 128) % 2 = omega arith in ap (λ k. k == 1) e
bit_plain m (suc (suc (suc (suc (suc (suc (suc (suc zero)))))))) low = let e : ((m % 65536) / 256) % 2 ≡ (m / 256) % 2 = omega arith in ap (λ k. k == 1) e
bit_plain m (suc (suc (suc (suc (suc (suc (suc (suc (suc zero))))))))) low = let e : ((m % 65536) / 512) % 2 ≡ (m / 512) % 2 = omega arith in ap (λ k. k == 1) e
bit_plain m (suc (suc (suc (suc (suc (suc (suc (suc (suc (suc zero)))))))))) low = let e : ((m % 65536) / 1024) % 2 ≡ (m / 1024) % 2 = omega arith in ap (λ k. k == 1) e
bit_plain m (suc (suc (suc (suc (suc (suc (suc (suc (suc (suc (suc zero))))))))))) low = let e : ((m % 65536) / 2048) % 2 ≡ (m / 2048) % 2 = omega arith in ap (λ k. k == 1) e
bit_plain m (suc (suc (suc (suc (suc (suc (suc (suc (suc (suc (suc (suc zero)))))))))))) low = let e : ((m % 65536) / 4096) % 2 ≡ (m / 4096) % 2 = omega arith in ap (λ k. k == 1) e
bit_plain m (suc (suc (suc (suc (suc (suc (suc (suc (suc (suc (suc (suc (suc zero))))))))))))) low = let e : ((m % 65536) / 8192) % 2 ≡ (m / 8192) % 2 = omega arith in ap (λ k. k == 1) e
bit_plain m (suc (suc (suc (suc (suc (suc (suc (suc (suc (suc (suc (suc (suc (suc zero)))))))))))))) low = let e : ((m % 65536) / 16384) % 2 ≡ (m / 16384) % 2 = omega arith in ap (λ k. k == 1) e
bit_plain m (suc (suc (suc (suc (suc (suc (suc (suc (suc (suc (suc (suc (suc (suc (suc zero))))))))))))))) low = let e : ((m % 65536) / 32768) % 2 ≡ (m / 32768) % 2 = omega arith in ap (λ k. k == 1) e
bit_plain m (suc (suc (suc (suc (suc (suc (suc (suc (suc (suc (suc (suc (suc (suc (suc (suc p)))))))))))))))) low = absurd (omega arith)

same_filter : (f g : ℕ → Bool) (xs : List ℕ) → AllByRecursion (λ p. f p ≡ g p) xs → filter f xs ≡ filter g xs
same_filter f g [] all = refl
same_filter f g (x ∷ xs) all =
    ap (λ b. cond b (x ∷ filter f xs) (filter f xs)) all.0 ∙ ap (λ ys. cond (g x) (x ∷ ys) ys) (same_filter f g xs all.1)

places_low : AllByRecursion (λ p. p < 16) all_places
places_low = (omega arith, (omega arith, (omega arith, (omega arith, (omega arith, (omega arith, (omega arith, (omega arith, (omega arith, (omega arith, (omega arith, (omega arith, (omega arith, (omega arith, (omega arith, (omega arith, tt))))))))))))))))

all_bits : (m : ℕ) (ps : List ℕ) → AllByRecursion (λ p. p < 16) ps → AllByRecursion (λ p. has_bit (m % 2 ^ 16) p ≡ has_bit m p) ps
all_bits m [] low = tt
all_bits m (p ∷ ps) low = (bit_plain m p low.0, all_bits m ps low.1)

pub members_plain : (s : PlaceSet) → members (plain_set s) ≡ members s
members_plain s = same_filter (has_bit (s.0 % 2 ^ 16)) (has_bit s.0) all_places (all_bits s.0 all_places places_low)

-- Entries.

plain_fits_act : (act : Act) → ActFits (plain_act act)
plain_fits_act (Release s lost masked thrown) = omega arith
plain_fits_act _ = tt

pub plain_fits : (es : List Entry) → SetsFit (map plain es)
plain_fits [] = tt
plain_fits (Step t act batch ∷ es) = (plain_fits_act act, plain_fits es)
plain_fits (Root lost masked thrown ∷ es) = (omega arith, plain_fits es)
plain_fits (Death d ∷ es) = plain_fits es
plain_fits (Join p ∷ es) = plain_fits es

-- Trees.

made_plain : (n : ℕ) (T : Tree) (e : Entry) → made n T (plain e) ≡ made n T e
made_plain n T (Step t (Open s r x) batch) = refl
made_plain n T (Step t (Calls from to s r c x) batch) = refl
made_plain n T (Step t (Spawn c s from to x) batch) = refl
made_plain n T (Step t (Arrive p) batch) = refl
made_plain n T (Step t (Wait s thrown) batch) = refl
made_plain n T (Step t (Release s lost masked thrown) batch) = refl
made_plain n T (Step t (End thrown) batch) = refl
made_plain n T (Step t (Print value x) batch) = refl
made_plain n T (Step t (Census places x) batch) = refl
made_plain n T (Root lost masked thrown) = refl
made_plain n T (Death d) = refl
made_plain n T (Join p) = refl

fold_plain : (n : ℕ) (T : Tree) (es : List Entry) → fold_from n T (map plain es) ≡ fold_from n T es
fold_plain n T [] = refl
fold_plain n T (e ∷ es) = ap (λ V. fold_from (suc n) V (map plain es)) (made_plain n T e) ∙ fold_plain (suc n) (made n T e) es

pub root_stays : (es : List Entry) → NoRoot es → NoRoot (map plain es)
root_stays [] h = h
root_stays (Step t act batch ∷ es) h = root_stays es h
root_stays (Root lost masked thrown ∷ es) h = h
root_stays (Death d ∷ es) h = root_stays es h
root_stays (Join p ∷ es) h = root_stays es h

end_stays : (es : List Entry) → EndsWithRoot es → EndsWithRoot (map plain es)
end_stays [] h = h
end_stays (Step t act batch ∷ es) h = end_stays es h
end_stays (Root lost masked thrown ∷ es) h = ap (map plain) h
end_stays (Death d ∷ es) h = end_stays es h
end_stays (Join p ∷ es) h = end_stays es h

-- Acts.

brought_plain : (act : Act) → brought (plain_act act) ≡ brought act
brought_plain (Release s lost masked thrown) = ap (λ ps. map (λ p. Dead (record { 0 = p })) ps ++ thrown) (members_plain lost)
brought_plain _ = refl

child_plain : (q : Player) (act : Act) → child_of q (plain_act act) ≡ child_of q act
child_plain q (Open s r x) = refl
child_plain q _ = refl

release_fits : (here : PlaceId) (t : Term) (d : Does) (s : ScopeId) (lost other : PlaceSet) (masked : ℕ) (thrown : List Fault)
    → Fits here t d (Release s lost masked thrown) → Fits here t d (Release s other masked thrown)
release_fits here t (Local left vars) s lost other masked thrown h = h
release_fits here t _ s lost other masked thrown h = h

fits_plain : (here : PlaceId) (t : Term) (d : Does) (act : Act) → Fits here t d act → Fits here t d (plain_act act)
fits_plain here t d (Release s lost masked thrown) h = release_fits here t d s lost (plain_set lost) masked thrown h
fits_plain here t d _ h = h

-- what the act tells is the same
vars_plain : (d : Does) (act : Act) (vars : Vars) → vars_told d (plain_act act) vars ≡ vars_told d act vars
vars_plain d (Release s lost masked thrown) vars = release_tells d s (plain_set lost) lost masked thrown vars where
  release_tells : (d : Does) (s : ScopeId) (lost other : PlaceSet) (masked : ℕ) (thrown : List Fault) (vars : Vars)
      → vars_told d (Release s lost masked thrown) vars ≡ vars_told d (Release s other masked thrown) vars
  release_tells (Local left kept) s lost other masked thrown vars = refl
  release_tells (Makes name words) s lost other masked thrown vars = refl
  release_tells (Gets name target index) s lost other masked thrown vars = refl
  release_tells (Puts target index value) s lost other masked thrown vars = refl
  release_tells (Forgets target) s lost other masked thrown vars = refl
  release_tells Opens s lost other masked thrown vars = refl
  release_tells (Asks place) s lost other masked thrown vars = refl
  release_tells (Spawns place) s lost other masked thrown vars = refl
  release_tells (Waits faults) s lost other masked thrown vars = refl
  release_tells Releases s lost other masked thrown vars = refl
  release_tells (Prints value) s lost other masked thrown vars = refl
  release_tells (Counts name) s lost other masked thrown vars = refl
  release_tells (Done faults) s lost other masked thrown vars = refl
vars_plain d _ vars = refl

free_as_plain : (T : Tree) (s : ScopeId) (lost : PlaceSet) (masked : ℕ) (thrown : List Fault) → MayFree T s lost masked thrown → MayFree T s (plain_set lost) masked thrown
free_as_plain T s lost masked thrown h = record { is_quiet = h.is_quiet; places = members_plain lost ∙ h.places; count = h.count; faults = h.faults }

allowed_plain : (T : Tree) (e : Entry) → Allowed T e → Allowed T (plain e)
allowed_plain T (Step t (Open s r x) batch) h = h
allowed_plain T (Step t (Calls from to s r c x) batch) h = h
allowed_plain T (Step t (Spawn c s from to x) batch) h = h
allowed_plain T (Step t (Arrive p) batch) h = h
allowed_plain T (Step t (Wait s thrown) batch) h = h
allowed_plain T (Step t (Release s lost masked thrown) batch) h =
    record { task = h.task; stands = h.stands; unstruck = h.unstruck; asks = (h.asks.0, h.asks.1, h.asks.2, free_as_plain T s lost masked thrown h.asks.3) }
allowed_plain T (Step t (End thrown) batch) h = h
allowed_plain T (Step t (Print value x) batch) h = h
allowed_plain T (Step t (Census places x) batch) h = h
allowed_plain T (Root lost masked thrown) h = (h.0, h.1, free_as_plain T the_root lost masked thrown h.2)
allowed_plain T (Death d) h = h
allowed_plain T (Join p) h = h

-- Turns.

abbrev told : Game → Game
told G = record G { entries = map plain G.entries }

push : (es : List Entry) (e : Entry) → map plain es ++ plain e ∷ [] ≡ map plain (es ++ e ∷ [])
push es e = sym (map-append plain es (e ∷ []))

module _ (U : Given) (k : ℕ) (G : Game) where
  long : length (map plain G.entries) ≡ length G.entries
  long = length-map G.entries plain

  tree : tree_in U (told G) ≡ tree_in U G
  tree = fold_plain 0 (opening U.places) G.entries

  free_plain : NoneDue (length G.entries) G.plan → NoneDue (length (map plain G.entries)) G.plan
  free_plain h = subst (λ n. NoneDue n G.plan) (sym long) h

  picks : (x : Task) → slice_get (enabled (tree_in U G)) (k % length (enabled (tree_in U G))) ≡ Some x
      → slice_get (enabled (tree_in U (told G))) (k % length (enabled (tree_in U (told G)))) ≡ Some x
  picks x h = subst (λ T. slice_get (enabled T) (k % length (enabled T)) ≡ Some x) (sym tree) h

  may : (e : Entry) → Allowed (tree_in U G) e → Allowed (tree_in U (told G)) (plain e)
  may e h = subst (λ T. Allowed T (plain e)) (sym tree) (allowed_plain (tree_in U G) e h)

  walks : (x : Task) (here : PlaceId) (p q : Player) (S Z : State) (j : List PlaceEvent)
      → RunsWithoutEntry U.heap (length G.entries) x.number here p S (journal_at G.journals here.0) q Z j
      → RunsWithoutEntry U.heap (length (map plain G.entries)) x.number here p S (journal_at G.journals here.0) q Z j
  walks x here p q S Z j h = subst (λ n. RunsWithoutEntry U.heap n x.number here p S (journal_at G.journals here.0) q Z j) (sym long) h

  -- the game after an act
  abbrev acted : Task → PlaceId → Player → List Fault → Vars → List Player → State → List PlaceEvent → List Entry → Game
  acted x here q raised vars children Z j es = record G {
    players = slice_set G.players x.number.0 (record { term = granted raised q.term; vars = vars; batch = [] }) ++ children;
    entries = es;
    journals = slice_set G.journals here.0 j;
    stores = slice_set G.stores here.0 Z;
  }

  -- what is planned
  due_plain : (e : Entry) → IsPlanned e → IsDue (length G.entries) e G.plan → Turn U k (told G) false (told (record (with_entry G e) { journals = closed_by G e; plan = rest_of G.plan }))
  due_plain (Death d) h now =
      let died : ℕ → List Entry → Game = λ n es. record G {
        entries = es;
        journals = slice_set G.journals d.0 (journal_at G.journals d.0 ++ Close n ∷ []);
        plan = rest_of G.plan;
      } in
      let longer : List Entry = map plain G.entries ++ Death d ∷ [] in
      let same : died (length (map plain G.entries)) longer ≡ died (length G.entries) (map plain (G.entries ++ Death d ∷ [])) =
      ap (λ n. died n longer) long ∙ ap (died (length G.entries)) (push G.entries (Death d)) in
      subst (Turn U k (told G) false) same (picked.due (Death d) (subst (λ n. IsDue n (Death d) G.plan) (sym long) now))
  due_plain (Join p) h now =
      let joined : List Entry → Game = λ es. record G { entries = es; plan = rest_of G.plan } in
      subst (Turn U k (told G) false) (ap joined (push G.entries (Join p)))
      (picked.due (Join p) (subst (λ n. IsDue n (Join p) G.plan) (sym long) now))
  due_plain (Step t act batch) h now = absurd h
  due_plain (Root lost masked thrown) h now = absurd h

  turn_plain : EachPlanned G.plan → (u : Bool) (G' : Game) → Turn U k G u G' → Turn U k (told G) u (told G')
  turn_plain can u G' (picked.due e now) = due_plain e (each_due (length G.entries) e G.plan can now) now
  turn_plain can u G' (picked.arrives x p takes allowed) =
      let landed : List Entry → Game = λ es. record G { entries = es } in
      subst (Turn U k (told G) true) (ap landed (push G.entries (Step x.number (Arrive p) [])))
      (picked.arrives x p (free_plain takes.0, picks x takes.1) (may (Step x.number (Arrive p) []) allowed))
  turn_plain can u G' (picked.moves x here p q S Z j act takes at player store goes fits allowed) =
      let e : Entry = Step x.number act q.batch in
      let longer : List Entry = map plain G.entries ++ plain e ∷ [] in
      let d : Does = does q.vars here.0 q.term in
      let vars : Vars = vars_told d act q.vars in
      let same : acted x here q (brought (plain_act act)) (vars_told d (plain_act act) q.vars) (child_of q (plain_act act)) Z j longer
      ≡ acted x here q (brought act) vars (child_of q act) Z j (map plain (G.entries ++ e ∷ [])) =
      ap (λ raised. acted x here q raised (vars_told d (plain_act act) q.vars) (child_of q (plain_act act)) Z j longer) (brought_plain act)
      ∙ ap (λ vs. acted x here q (brought act) vs (child_of q (plain_act act)) Z j longer) (vars_plain d act q.vars)
      ∙ ap (λ children. acted x here q (brought act) vars children Z j longer) (child_plain q act)
      ∙ ap (acted x here q (brought act) vars (child_of q act) Z j) (push G.entries e) in
      let asks = fits_plain here q.term (does q.vars here.0 q.term) act fits in
      subst (Turn U k (told G) true) same
      (picked.moves x here p q S Z j (plain_act act) (free_plain takes.0, picks x takes.1) at player store (walks x here p q S Z j goes) asks (may e allowed))
  turn_plain can u G' (picked.ends x here p q S Z j faults takes at player store goes done allowed) =
      let ended : List Entry → Game = λ es. record G { entries = es; journals = slice_set G.journals here.0 j; stores = slice_set G.stores here.0 Z } in
      subst (Turn U k (told G) true) (ap ended (push G.entries (Step x.number (End faults) q.batch)))
      (picked.ends x here p q S Z j faults (free_plain takes.0, picks x takes.1) at player store (walks x here p q S Z j goes) done (may (Step x.number (End faults) q.batch) allowed))
  turn_plain can u G' (picked.root lost masked thrown free empty allowed) =
      let rooted : List Entry → Game = λ es. record G { entries = es } in
      subst (Turn U k (told G) false) (ap rooted (push G.entries (Root lost masked thrown)))
      (picked.root (plain_set lost) masked thrown (free_plain free) (subst (λ T. enabled T ≡ []) (sym tree) empty) (may (Root lost masked thrown) allowed))

plan_stays : (U : Given) (k : ℕ) (u : Bool) (G G' : Game) → EachPlanned G.plan → Turn U k G u G' → EachPlanned G'.plan
plan_stays U k u G G' can (picked.due e now) = rest_planned G.plan can
plan_stays U k u G G' can (picked.arrives x p takes allowed) = can
plan_stays U k u G G' can (picked.moves x here p q S Z j act takes at player store goes fits allowed) = can
plan_stays U k u G G' can (picked.ends x here p q S Z j faults takes at player store goes done allowed) = can
plan_stays U k u G G' can (picked.root lost masked thrown free empty allowed) = can

turns_plain : (U : Given) (picks : ℕ → ℕ) (n j : ℕ) (G G' : Game) → EachPlanned G.plan → Turns U picks n j G G' → Turns U picks n j (told G) (told G')
turns_plain U picks n j G G' can none = none
turns_plain U picks n j G G'' can (more {G' = G'} {used = u} free t ts) =
    more (root_stays G.entries free) (turn_plain U (picks j) G can u G' t) (turns_plain U picks _ _ G' G'' (plan_stays U (picks j) u G G' can t) ts)

pub picked_plain : (code : Block) (U : Given) (picks : ℕ → ℕ) (es : List Entry) (js : List (List PlaceEvent)) → IsPicked code U picks es js → IsPicked code U picks (map plain es) js
picked_plain code U picks es js p = record {
  turns = p.turns;
  game = told p.game;
  made = turns_plain U picks p.turns 0 (start_game code U) p.game (events_planned U.places U.joins U.kills) p.made;
  ended = end_stays p.game.entries p.ended;
  entries = ap (map plain) p.entries;
  journals = p.journals;
}
