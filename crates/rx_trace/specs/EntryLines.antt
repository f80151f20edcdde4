-- The lines of entries.
use Rattle.std.specs.Prelude.{ℕ, ◌+◌, List, [], ◌∷◌, ◌++◌, codes}
use Rattle.rx_base.specs.declared.ids.PlaceId.{PlaceId}
use Rattle.rx_base.specs.declared.ids.ScopeId.{ScopeId}
use Rattle.rx_rules.specs.declared.entries.Act.{Act}
use Rattle.rx_rules.specs.declared.entries.Act.TheVariants.{Open, At, Spawn, Arrive, Wait, Release, End, Print, Census}
use Rattle.rx_rules.specs.declared.entries.Entry.{Entry}
use Rattle.rx_rules.specs.declared.entries.Entry.TheVariants.{Step, Root, Death, Join}
use Rattle.rx_text.specs.Numbers.{natural_text}
use Rattle.rx_trace.specs.Fields.{natural_field, number_field, path_field, place_field, task_field, scope_field}
use Rattle.rx_trace.specs.Parts.{thrown_part, release_parts, batch_part}

-- a scope in its parent
abbrev pub scope_in : ScopeId → ScopeId → List ℕ
scope_in scope parent = scope_field scope ++ codes " in" ++ scope_field parent

-- where a task begins its way, and where that ends
abbrev pub way : PlaceId → PlaceId → List ℕ
way from to = place_field from ++ place_field to

-- the word of an act, which stands before the task
abbrev pub act_word : Act → List ℕ
act_word (Open scope parent path) = codes " open"
act_word (At from to scope parent callee path) = codes " at"
act_word (Spawn child scope from to path) = codes " spawn"
act_word (Arrive place) = codes " arrive"
act_word (Wait scope thrown) = codes " wait"
act_word (Release scope lost masked thrown) = codes " release"
act_word (End thrown) = codes " end"
act_word (Print value path) = codes " print"
act_word (Census places path) = codes " census"

-- what stands after the task
abbrev pub act_fields : Act → List ℕ
act_fields (Open scope parent path) = scope_in scope parent ++ path_field path
act_fields (At from to scope parent callee path) = scope_in scope parent ++ task_field callee ++ way from to ++ path_field path
act_fields (Spawn child scope from to path) = task_field child ++ codes " in" ++ scope_field scope ++ way from to ++ path_field path
act_fields (Arrive place) = place_field place
act_fields (Wait scope thrown) = scope_field scope ++ thrown_part thrown
act_fields (Release scope lost masked thrown) = scope_field scope ++ release_parts lost masked thrown
act_fields (End thrown) = thrown_part thrown
act_fields (Print value path) = number_field value ++ path_field path
act_fields (Census places path) = natural_field places ++ path_field path

-- what stands after the number
abbrev pub entry_text : Entry → List ℕ
entry_text (Step task act batch) = act_word act ++ task_field task ++ act_fields act ++ batch_part batch
entry_text (Root lost masked thrown) = codes " release host s0" ++ release_parts lost masked thrown
entry_text (Death place) = codes " death" ++ place_field place
entry_text (Join place) = codes " join" ++ place_field place

-- the line of an entry and its number
abbrev pub entry_line : ℕ → Entry → List ℕ
entry_line n e = natural_text n ++ entry_text e ++ codes "\n"

-- the lines of entries that are numbered from n
abbrev pub entry_lines : ℕ → List Entry → List ℕ
entry_lines n [] = []
entry_lines n (e ∷ es) = entry_line n e ++ entry_lines (n + 1) es
