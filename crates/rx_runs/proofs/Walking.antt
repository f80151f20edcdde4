-- A task at a place walks on to an entry or to its end: the store always answers, and each step leaves fewer.
use Rattle.std.proofs.Common.{◌≡◌, ℕ, zero, suc, ℤ, ◌+◌, ◌<◌, ◌≤◌, Bool, true, false, nat_le, List, [], ◌∷◌, ◌++◌, Option, Some, None, ◌⊎◌, refl, ap, ◌∙◌, sym, subst, arith, ⊎_elim, inl, inr}
use Rattle.std.specs.List.{list_all}
use Rattle.std.proofs.lemmas.Bool.{leb-true, false_from_ne_true, and_parts, cases_lt}
use Rattle.rx_rules.proofs.Common.{PlaceId, TaskId, GlobalRef, Number, Ref, Stale, Index, HeapFull, Answer, Gives, Fine, Fails, answered, vars_after, Does, Local, Makes, Gets, Puts, Forgets, Opens, Calls, Spawns, Waits, Releases, Prints, Counts, Done, does, Tells, begun, State, Live, block_of, fits, is_apart, IsLeastFree, is_index, word_at, MayCell, after_cell, Player, RunsWithoutEntry, stays, local, stores}
use Rattle.rx_rules.specs.declared.events.Cell.{Cell}
use Rattle.rx_rules.specs.declared.events.Cell.TheVariants.{Make, MakeFull, GetRefused, PutRefused, ForgetStale}
use Rattle.rx_rules.specs.declared.events.PlaceEvent.{PlaceEvent}
use Rattle.rx_rules.specs.declared.events.PlaceEvent.TheVariants.{Done as Did}
use Rattle.rx_rules.specs.declared.events.Cell.TheVariants.{Get, Put, Forget}
use Rattle.rx_runs.specs.Framing.{frames, FlatAfterItem}
use Rattle.rx_runs.specs.Steps.{steps, Sinks}
use Rattle.rx_runs.proofs.Framing.{Framed, Stored, enough, all_framed}
use Rattle.rx_runs.proofs.Sinking.{sinks}
use Rattle.rx_runs.proofs.Walks.{IsLast}

-- The store answers.

abbrev Found : (ℕ → Bool) → ℕ → Type 0
Found f a = (f a ≡ true) × ((b : ℕ) → b < a → f b ≡ false)

search_to : (f : ℕ → Bool) (m : ℕ) → ((a : ℕ) × Found f a) ⊎ ((b : ℕ) → b < m → f b ≡ false)
search_to f zero = inr (λ b low. absurd (omega arith))
search_to f (suc m) = either (search_to f m) where
  one_more : ((b : ℕ) → b < m → f b ≡ false) → (v : Bool) → f m ≡ v → ((a : ℕ) × Found f a) ⊎ ((b : ℕ) → b < suc m → f b ≡ false)
  one_more none true e = inl (m, (e, none))
  one_more none false e = inr (λ b low. ⊎_elim (λ (lt : b < m). none b lt) (λ (ge : m ≤ b). let same : m ≡ b = omega arith in ap f (sym same) ∙ e) (cases_lt b m))

  either : ((a : ℕ) × Found f a) ⊎ ((b : ℕ) → b < m → f b ≡ false) → ((a : ℕ) × Found f a) ⊎ ((b : ℕ) → b < suc m → f b ≡ false)
  either (inl r) = inl r
  either (inr none) = one_more none (f m) refl

fits_not : (w : ℕ) (S : State) (n a : ℕ) → w < a → fits w S n a ≡ false
fits_not w S n a low =
    false_from_ne_true (fits w S n a) (λ e.
    let inside : a + n ≤ w = leb-true (a + n) w (and_parts (nat_le (a + n) w) (list_all (is_apart a n) S.blocks) e).0 in
    absurd (omega arith))

least_free : (w : ℕ) (S : State) (n : ℕ) → ((a : ℕ) × IsLeastFree w S n a) ⊎ ((a : ℕ) → fits w S n a ≡ false)
least_free w S n = either (search_to (fits w S n) (suc w)) where
  either : ((a : ℕ) × Found (fits w S n) a) ⊎ ((b : ℕ) → b < suc w → fits w S n b ≡ false) → ((a : ℕ) × IsLeastFree w S n a) ⊎ ((a : ℕ) → fits w S n a ≡ false)
  either (inl r) = inl (r.0, record { here = r.1.0; least = r.1.1 })
  either (inr none) = inr (λ a. ⊎_elim (λ (lt : a < suc w). none a lt) (λ (ge : suc w ≤ a). fits_not w S n a (omega arith)) (cases_lt a (suc w)))

-- an event and an answer that a call of the store may have
pub record Answers (w : ℕ) (S : State) (here : PlaceId) (d : Does) : Type 0 where
  pub cell : Cell
  pub answer : Answer
  pub tells : Tells d here cell answer
  pub may : MayCell w S cell

makes : (w : ℕ) (S : State) (here : PlaceId) (name words : ℕ) → Answers w S here (Makes name words)
makes w S here name words = either (least_free w S words) where
  either : ((a : ℕ) × IsLeastFree w S words a) ⊎ ((a : ℕ) → fits w S words a ≡ false) → Answers w S here (Makes name words)
  either (inl r) = record { cell = Make words r.0 (suc S.made); answer = Gives name (Ref (record { home = here; start = r.0; generation = suc S.made })); tells = (refl, refl); may = (r.1, refl) }
  either (inr none) = record { cell = MakeFull words; answer = Fails HeapFull; tells = (refl, refl); may = none }

gets : (w : ℕ) (S : State) (here : PlaceId) (name : ℕ) (target : GlobalRef) (index : ℤ) → Answers w S here (Gets name target index)
gets w S here name target index = either (block_of S target) refl where
  inside : (b : Live) → block_of S target ≡ Some b → (v : Bool) → is_index index b.words ≡ v → Answers w S here (Gets name target index)
  inside b e true q = record { cell = Get target index (word_at b.words index); answer = Gives name (Number (word_at b.words index)); tells = (refl, refl, refl); may = (b, record { block = e; index = q }, refl) }
  inside b e false q = record { cell = GetRefused target index false; answer = Fails Index; tells = (refl, refl, refl); may = (b, e, q) }

  either : (o : Option Live) → block_of S target ≡ o → Answers w S here (Gets name target index)
  either (Some b) e = inside b e (is_index index b.words) refl
  either None e = record { cell = GetRefused target index true; answer = Fails Stale; tells = (refl, refl, refl); may = e }

puts : (w : ℕ) (S : State) (here : PlaceId) (target : GlobalRef) (index value : ℤ) → Answers w S here (Puts target index value)
puts w S here target index value = either (block_of S target) refl where
  inside : (b : Live) → block_of S target ≡ Some b → (v : Bool) → is_index index b.words ≡ v → Answers w S here (Puts target index value)
  inside b e true q = record { cell = Put target index value; answer = Fine; tells = (refl, refl, refl, refl); may = (b, record { block = e; index = q }) }
  inside b e false q = record { cell = PutRefused target index value false; answer = Fails Index; tells = (refl, refl, refl, refl); may = (b, e, q) }

  either : (o : Option Live) → block_of S target ≡ o → Answers w S here (Puts target index value)
  either (Some b) e = inside b e (is_index index b.words) refl
  either None e = record { cell = PutRefused target index value true; answer = Fails Stale; tells = (refl, refl, refl, refl); may = e }

forgets : (w : ℕ) (S : State) (here : PlaceId) (target : GlobalRef) → Answers w S here (Forgets target)
forgets w S here target = either (block_of S target) refl where
  either : (o : Option Live) → block_of S target ≡ o → Answers w S here (Forgets target)
  either (Some b) e = record { cell = Forget target; answer = Fine; tells = (refl, refl); may = (b, e) }
  either None e = record { cell = ForgetStale target; answer = Fails Stale; tells = (refl, refl); may = e }

-- The walk.

pub record Walked (heap n : ℕ) (t : TaskId) (here : PlaceId) (p : Player) (S : State) (j : List PlaceEvent) : Type 0 where
  pub player : Player
  pub store : State
  pub journal : List PlaceEvent
  pub goes : RunsWithoutEntry heap n t here p S j player store journal
  pub last : IsLast (does player.vars here.0 player.term)
  pub shape : FlatAfterItem player.term
  pub same : frames player.term ≡ frames p.term

module _ (heap n : ℕ) (t : TaskId) (here : PlaceId) where
  abbrev Walks : ℕ → Type 0
  Walks fuel = (p : Player) (S : State) (j : List PlaceEvent) → steps p.term < fuel → FlatAfterItem p.term → Walked heap n t here p S j

  by_store : (fuel : ℕ) → Walks fuel → (p : Player) (S : State) (j : List PlaceEvent) (d : Does) → steps p.term < suc fuel → does p.vars here.0 p.term ≡ d → Stored p.term → ((a : Answer) → steps (answered a p.term) + 1 ≤ steps p.term) → Answers heap S here d → Walked heap n t here p S j
  by_store fuel on p S j d less e st sink a =
      let x : List ℕ = st.1.0 in
      let q : Player = record { term = answered a.answer p.term; vars = vars_after a.answer p.vars; batch = begun p.term p.batch } in
      let fewer : steps (answered a.answer p.term) + 1 ≤ steps p.term = sink a.answer in
      let keeps = st.2 a.answer in
      let r : Walked heap n t here q (after_cell S a.cell) (j ++ Did t n a.cell x ∷ []) = on q (after_cell S a.cell) (j ++ Did t n a.cell x ∷ []) (omega (arith, fewer, less)) keeps.0 in
      record { player = r.player; store = r.store; journal = r.journal; goes = stores a.cell x a.answer (subst (λ (v : Does). Tells v here a.cell a.answer) (sym e) a.tells) st.1.1 a.may r.goes; last = r.last; shape = r.shape; same = r.same ∙ keeps.1 }

  stopped : (p : Player) (S : State) (j : List PlaceEvent) (d : Does) → does p.vars here.0 p.term ≡ d → IsLast d → FlatAfterItem p.term → Walked heap n t here p S j
  stopped p S j d e l shape = record { player = p; store = S; journal = j; goes = stays; last = subst IsLast (sym e) l; shape = shape; same = refl }

  by_step : (fuel : ℕ) → Walks fuel → (p : Player) (S : State) (j : List PlaceEvent) (d : Does) → steps p.term < suc fuel → FlatAfterItem p.term → does p.vars here.0 p.term ≡ d → Framed (enough p.vars here.0) p.term d → Sinks p.term d → Walked heap n t here p S j
  by_step fuel on p S j (Local after left) less shape e f s =
      let fewer : steps after + 1 ≤ steps p.term = s in
      let r = on (record { term = after; vars = left; batch = begun p.term p.batch }) S j (omega (arith, fewer, less)) f.1.0 in
      record { player = r.player; store = r.store; journal = r.journal; goes = local e r.goes; last = r.last; shape = r.shape; same = r.same ∙ f.1.1 }
  by_step fuel on p S j (Makes name words) less shape e f s = by_store fuel on p S j (Makes name words) less e f s (makes heap S here name words)
  by_step fuel on p S j (Gets name target index) less shape e f s = by_store fuel on p S j (Gets name target index) less e f s (gets heap S here name target index)
  by_step fuel on p S j (Puts target index value) less shape e f s = by_store fuel on p S j (Puts target index value) less e f s (puts heap S here target index value)
  by_step fuel on p S j (Forgets target) less shape e f s = by_store fuel on p S j (Forgets target) less e f s (forgets heap S here target)
  by_step fuel on p S j Opens less shape e f s = stopped p S j Opens e tt shape
  by_step fuel on p S j (Calls place) less shape e f s = stopped p S j (Calls place) e tt shape
  by_step fuel on p S j (Spawns place) less shape e f s = stopped p S j (Spawns place) e tt shape
  by_step fuel on p S j (Waits faults) less shape e f s = stopped p S j (Waits faults) e tt shape
  by_step fuel on p S j Releases less shape e f s = stopped p S j Releases e tt shape
  by_step fuel on p S j (Prints value) less shape e f s = stopped p S j (Prints value) e tt shape
  by_step fuel on p S j (Counts name) less shape e f s = stopped p S j (Counts name) e tt shape
  by_step fuel on p S j (Done faults) less shape e f s = stopped p S j (Done faults) e tt shape

  walk_in : (fuel : ℕ) → Walks fuel
  walk_in zero p S j less shape = absurd (omega arith)
  walk_in (suc fuel) p S j less shape = by_step fuel (walk_in fuel) p S j (does p.vars here.0 p.term) less shape refl (all_framed p.vars here.0 p.term shape) (sinks p.vars here.0 p.term)

  pub walk : (p : Player) (S : State) (j : List PlaceEvent) → FlatAfterItem p.term → Walked heap n t here p S j
  walk p S j shape = walk_in (suc (steps p.term)) p S j (omega arith) shape
