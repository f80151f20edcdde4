-- The parts of a line that are there only where their list is not empty, or their number not 0.
use Rattle.std.specs.Prelude.{ℕ, ◌==◌, List, [], ◌∷◌, ◌++◌, codes, if◌then◌else◌}
use Rattle.std.specs.List.{flat_map}
use Rattle.rx_base.specs.declared.place_set.PlaceSet.{PlaceSet}
use Rattle.rx_base.specs.declared.values.Fault.{Fault}
use Rattle.rx_base.specs.Sets.{members}
use Rattle.rx_trace.specs.Fields.{natural_field, path_field, fault_field}

-- a word and the fields of a list, or nothing where the list is empty
abbrev pub part_text : {A : Type 0} → List ℕ → (A → List ℕ) → List A → List ℕ
part_text word field [] = []
part_text word field (x ∷ xs) = word ++ flat_map field (x ∷ xs)

-- the places that lost tasks, in ascending order
unfoldable pub lost_part : PlaceSet → List ℕ
lost_part lost = part_text (codes " lost") natural_field (members lost)

-- faults in their order
abbrev pub thrown_part : List Fault → List ℕ
thrown_part thrown = part_text (codes " thrown") fault_field thrown

-- how many faults are masked, where it is not 0
unfoldable pub masked_part : ℕ → List ℕ
masked_part masked = if masked == 0 then [] else codes " masked" ++ natural_field masked

-- what a release names: the places that lost tasks, how many faults are masked, and then the faults
abbrev pub release_parts : PlaceSet → ℕ → List Fault → List ℕ
release_parts lost masked thrown = lost_part lost ++ masked_part masked ++ thrown_part thrown

-- the paths of a batch in their order
abbrev pub batch_part : List (List ℕ) → List ℕ
batch_part batch = part_text (codes " |") path_field batch
