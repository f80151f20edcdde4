-- The parts that are there only where their list is not empty, or their number not 0.
use Rattle.std.specs.Prelude.{ℕ, ◌+◌, ◌^◌, nat_lt, ◌==◌, Bool, true, false, List, [], ◌∷◌, Option, Some, None, if◌then◌else◌, codes}
use Rattle.std.specs.Str.{bytes_eq}
use Rattle.rx_base.specs.declared.ids.PlaceId.{PlaceId}
use Rattle.rx_base.specs.declared.ids.ScopeId.{ScopeId}
use Rattle.rx_base.specs.declared.place_set.PlaceSet.{PlaceSet}
use Rattle.rx_base.specs.declared.values.Fault.{Fault}
use Rattle.rx_fields.specs.Inside.FieldWords.{place_of, path_of, masked_of, fault_of, place_at, scope_at}
use Rattle.rx_fields.specs.Inside.Readers.{Reader, word, part, followed, done, keyed}

-- the set with this number
abbrev pub set_of : ℕ → PlaceSet
set_of set = record { 0 = set }

-- a place joins the set where it is above all that are in it
abbrev pub place_joined : Option PlaceId → ℕ → List ℕ → List (List ℕ) → (ℕ → Option (PlaceSet × List (List ℕ)))
    → Option (PlaceSet × List (List ℕ))
place_joined None set w ws more = Some (set_of set, w ∷ ws)
place_joined (Some p) set w ws more = if nat_lt set (2 ^ p.0) then more (set + 2 ^ p.0) else None

-- places in ascending order, which join the set
abbrev pub places_at : ℕ → ℕ → Reader PlaceSet
places_at places set [] = Some (set_of set, [])
places_at places set (w ∷ ws) = place_joined (place_of places w) set w ws (λ s. places_at places s ws)

abbrev pub some_place : Option (PlaceSet × List (List ℕ)) → Option (PlaceSet × List (List ℕ))
some_place None = None
some_place (Some x) = if x.0.0 == 0 then None else Some x

-- the places that lost tasks
abbrev pub lost_read : ℕ → Reader PlaceSet
lost_read places [] = Some (set_of 0, [])
lost_read places (w ∷ ws) = if bytes_eq w (codes "lost") then some_place (places_at places 0 ws) else Some (set_of 0, w ∷ ws)

-- how many faults are masked
abbrev pub masked_read : Reader ℕ
masked_read [] = Some (0, [])
masked_read (w ∷ ws) = if bytes_eq w (codes "masked") then word masked_of ws else Some (0, w ∷ ws)

-- faults in their order
abbrev pub thrown_at : ℕ → Reader (List Fault)
thrown_at places = part (codes "thrown") (fault_of places)

-- a scope, and the one inside which it stands
abbrev pub nested_at : Reader (ScopeId × ScopeId)
nested_at = followed scope_at (λ scope. keyed (codes "in") (followed scope_at (λ parent. done (scope, parent))))

-- where a task comes from, and where it goes
abbrev pub way_at : ℕ → Reader (PlaceId × PlaceId)
way_at places = followed (place_at places) (λ from. followed (place_at places) (λ to. done (from, to)))

-- what a release names
abbrev pub outcome_at : ℕ → Reader (PlaceSet × ℕ × List Fault)
outcome_at places = followed (lost_read places) (λ lost. followed masked_read
    (λ masked. followed (thrown_at places) (λ thrown. done (lost, masked, thrown))))

-- the paths of a batch in their order
abbrev pub batch_at : Reader (List (List ℕ))
batch_at = part (codes "|") path_of

-- whether the first word is this one, and the words after it
abbrev pub key_of : List ℕ → List (List ℕ) → Bool × List (List ℕ)
key_of key [] = (false, [])
key_of key (w ∷ ws) = if bytes_eq w key then (true, ws) else (false, w ∷ ws)

abbrev pub left_of : {A : Type 0} → Option A → List ℕ → List (List ℕ) → Option A × List (List ℕ)
left_of None w ws = (None, w ∷ ws)
left_of (Some a) w ws = (Some a, ws)

-- the item that the first word is, and the words after it
abbrev pub item_of : {A : Type 0} → (List ℕ → Option A) → List (List ℕ) → Option A × List (List ℕ)
item_of of [] = (None, [])
item_of of (w ∷ ws) = left_of (of w) w ws
