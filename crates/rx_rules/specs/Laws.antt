-- The laws of a history by itself. They read it entry by entry and mention no tree. What a law asks of a release depends on
-- what stands before it alone: `past` is that, the newest entry first.
use Rattle.std.specs.Prelude.{◌≡◌, ℕ, Bool, true, false, cond, not, ◌&&◌, ◌||◌, ◌==◌, List, [], ◌∷◌, filter, Option, Some, None, is_some}
use Rattle.std.specs.Option.{option_or}
use Rattle.std.specs.List.{list_any, list_all, range_with_len, cons_option}
use Rattle.rx_base.specs.declared.place_set.PlaceSet.{PlaceSet}
use Rattle.rx_base.specs.Sets.{all_places, members}
use Rattle.rx_rules.specs.declared.entries.Act.TheVariants.{Open, At as Calls, Spawn, Arrive, Release, End}
use Rattle.rx_rules.specs.declared.entries.Entry.{Entry}
use Rattle.rx_rules.specs.declared.entries.Entry.TheVariants.{Step, Root, Death}

-- a scope and its parent
pub record Link : Type 0 where
  pub scope : ℕ
  pub parent : ℕ

-- the scope that an entry opens
abbrev pub link_in : Entry → Option Link
link_in (Step t (Open s r path) batch) = Some (record { scope = s.0; parent = r.0 })
link_in (Step t (Calls from to s r c path) batch) = Some (record { scope = s.0; parent = r.0 })
link_in _ = None

-- the scopes opened so far, the newest first; no entry opens the root
abbrev pub links : List Entry → List Link
links [] = []
links (e ∷ past) = cons_option (link_in e) (links past)

-- s and its parents up to the root
abbrev pub walk : List Link → ℕ → List ℕ
walk [] s = s ∷ []
walk (l ∷ ls) s = cond (l.scope == s) (s ∷ walk ls l.parent) (walk ls s)

-- a task's birth: its number, the scope that it hangs under, and the ends of its travel
pub record TaskBirth : Type 0 where
  pub task : ℕ
  pub under : ℕ
  pub from : ℕ
  pub to : ℕ

-- the birth that an entry tells
abbrev pub birth_told : Entry → Option TaskBirth
birth_told (Step t (Calls from to s r c path) batch) = Some (record { task = c.0; under = s.0; from = from.0; to = to.0 })
birth_told (Step t (Spawn c s from to path) batch) = Some (record { task = c.0; under = s.0; from = from.0; to = to.0 })
birth_told _ = None

-- t0 is there from the start: no entry tells its birth
abbrev pub main_birth : TaskBirth
main_birth = record { task = 0; under = 0; from = 0; to = 0 }

-- the births so far, the newest first
abbrev pub born_so_far : List Entry → List TaskBirth
born_so_far [] = main_birth ∷ []
born_so_far (e ∷ past) = cons_option (birth_told e) (born_so_far past)

-- the scopes that a task is under, from the one that it hangs under
abbrev pub chain_of : List Entry → TaskBirth → List ℕ
chain_of past b = walk (links past) b.under

-- s is on the chain
abbrev pub is_on : ℕ → List ℕ → Bool
is_on s gs = list_any (λ g. g == s) gs

-- the part of a chain before s
abbrev pub until : ℕ → List ℕ → List ℕ
until s [] = []
until s (g ∷ gs) = cond (g == s) [] (g ∷ until s gs)

-- the entry is the end of task t
abbrev pub ends_task : ℕ → Entry → Bool
ends_task t (Step u (End thrown) batch) = u.0 == t
ends_task t _ = false

-- the entry is the arrival of task t
abbrev pub lands_task : ℕ → Entry → Bool
lands_task t (Step u (Arrive p) batch) = u.0 == t
lands_task t _ = false

-- the birth is that of task t
abbrev pub is_birth_of : ℕ → TaskBirth → Bool
is_birth_of t b = b.task == t

-- task t is born
abbrev pub is_born : List Entry → ℕ → Bool
is_born past t = list_any (is_birth_of t) (born_so_far past)

-- task t has ended
abbrev pub has_ended : List Entry → ℕ → Bool
has_ended past t = list_any (ends_task t) past

-- task t has arrived
abbrev pub has_landed : List Entry → ℕ → Bool
has_landed past t = list_any (lands_task t) past

-- a death of d touches a task that is yet to be born for d, is at d, or is on its way from or to d
abbrev pub is_exposed : List Entry → TaskBirth → ℕ → Bool
is_exposed past b d =
    cond (is_born past b.task)
    (not (has_ended past b.task)
    && cond ((b.from == b.to) || has_landed past b.task) (b.to == d) ((b.from == d) || (b.to == d)))
    (b.to == d)

-- the place of the first death that touches the task
abbrev pub hit_at : List Entry → TaskBirth → Option ℕ
hit_at [] b = None
hit_at (Death d ∷ past) b = option_or (hit_at past b) (cond (is_exposed past b d.0) (Some d.0) None)
hit_at (e ∷ past) b = hit_at past b

-- the entry releases the scope
abbrev pub releases : ℕ → Entry → Bool
releases g (Step t (Release s lost masked thrown) batch) = s.0 == g
releases g (Root lost masked thrown) = 0 == g
releases g _ = false

-- the scope was released
abbrev pub was_released : List Entry → ℕ → Bool
was_released past g = list_any (releases g) past

-- what is asked of each release: of what stands before it, its scope, and the places that it names
abbrev pub AtRelease : (List Entry → ℕ → PlaceSet → Type 0) → List Entry → Entry → Type 0
AtRelease P past (Step t (Release s lost masked thrown) batch) = P past s.0 lost
AtRelease P past (Root lost masked thrown) = P past 0 lost
AtRelease P past _ = Unit {0}

-- the same of each release among the entries
abbrev pub EachRelease : (List Entry → ℕ → PlaceSet → Type 0) → List Entry → List Entry → Type 0
EachRelease P past [] = Unit {0}
EachRelease P past (e ∷ es) = AtRelease P past e × EachRelease P (e ∷ past) es

-- a task under s has ended or is hit
abbrev pub is_over : List Entry → ℕ → TaskBirth → Bool
is_over past s b = not (is_on s (chain_of past b)) || (has_ended past b.task || is_some (hit_at past b))

-- every task under s is over
abbrev pub AllOver : List Entry → ℕ → PlaceSet → Type 0
AllOver past s lost = list_all (is_over past s) (born_so_far past) ≡ true

-- each task born before a release of s, whose chain has s, has ended before it or is hit before it
abbrev pub NoEarlyRelease : List Entry → Type 0
NoEarlyRelease es = EachRelease AllOver [] es

-- the task was lost at p, and no scope before s on its chain was released
abbrev pub is_named : List Entry → ℕ → ℕ → TaskBirth → Bool
is_named past s p b =
    (is_on s (chain_of past b) && not (list_any (was_released past) (until s (chain_of past b))))
    && elim (hit_at past b) [ Some d ↦ d == p | None ↦ false ]

-- the places named are those at which such tasks were lost
abbrev pub NamesLost : List Entry → ℕ → PlaceSet → Type 0
NamesLost past s lost = members lost ≡ filter (λ p. list_any (is_named past s p) (born_so_far past)) all_places

-- each release of s names the places at which such tasks were lost, and no other
abbrev pub LossExact : List Entry → Type 0
LossExact es = EachRelease NamesLost [] es

-- the same where there can be as many places as the limit tells
abbrev pub NamesLostOf : ℕ → List Entry → ℕ → PlaceSet → Type 0
NamesLostOf limit past s lost =
    members lost ≡ filter (λ p. list_any (is_named past s p) (born_so_far past)) (range_with_len 0 limit)

-- each release of s names the places at which such tasks were lost, and no other
abbrev pub LossExactOf : ℕ → List Entry → Type 0
LossExactOf limit es = EachRelease (NamesLostOf limit) [] es
