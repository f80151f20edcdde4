-- The lines of the log, piece by piece.
use Rattle.std.specs.Prelude.{ℕ, List, ◌++◌, codes}
use Rattle.rx_base.specs.declared.ids.PlaceId.{PlaceId}
use Rattle.rx_base.specs.declared.ids.ScopeId.{ScopeId}
use Rattle.rx_base.specs.declared.ids.TaskId.{TaskId}
use Rattle.rx_base.specs.declared.values.Fault.{Fault}
use Rattle.rx_text.specs.Numbers.{natural_text}
use Rattle.rx_trace.specs.Parts.{lost_part, masked_part, thrown_part}
use Rattle.rx_finish.specs.declared.ledger.Outcome.{Outcome}
use Rattle.rx_lines.specs.Replies.{numbered}

-- the number, the word of the act and the task
abbrev pub head_text : ℕ → List ℕ → TaskId → List ℕ
head_text n word t = natural_text n ++ word ++ numbered (codes " t") t.0

-- a scope in its parent
abbrev pub scope_text : ScopeId → ScopeId → List ℕ
scope_text s r = numbered (codes " s") s.0 ++ numbered (codes " in s") r.0

-- a way, and the end of the line
abbrev pub way_text : PlaceId → PlaceId → List ℕ
way_text from to = numbered (codes " ") from.0 ++ numbered (codes " ") to.0 ++ codes " 0\n"

-- what a release names, and the end of the line
abbrev pub release_text : Outcome → List ℕ
release_text o = lost_part o.lost ++ masked_part o.masked ++ thrown_part o.thrown ++ codes "\n"

abbrev pub open_line : ℕ → TaskId → ScopeId → ScopeId → List ℕ
open_line n t s r = head_text n (codes " open") t ++ scope_text s r ++ codes " 0\n"

abbrev pub call_line : ℕ → TaskId → ScopeId → ScopeId → TaskId → PlaceId → PlaceId → List ℕ
call_line n t s r callee from to = head_text n (codes " at") t ++ scope_text s r ++ numbered (codes " t") callee.0 ++ way_text from to

abbrev pub spawn_line : ℕ → TaskId → TaskId → ScopeId → PlaceId → PlaceId → List ℕ
spawn_line n t child s from to =
    head_text n (codes " spawn") t ++ numbered (codes " t") child.0 ++ numbered (codes " in s") s.0 ++ way_text from to

abbrev pub arrive_line : ℕ → TaskId → PlaceId → List ℕ
arrive_line n t p = head_text n (codes " arrive") t ++ numbered (codes " ") p.0 ++ codes "\n"

abbrev pub wait_line : ℕ → TaskId → ScopeId → List Fault → List ℕ
wait_line n t s thrown = head_text n (codes " wait") t ++ numbered (codes " s") s.0 ++ thrown_part thrown ++ codes "\n"

abbrev pub release_line : ℕ → TaskId → ScopeId → Outcome → List ℕ
release_line n t s o = head_text n (codes " release") t ++ numbered (codes " s") s.0 ++ release_text o

abbrev pub end_line : ℕ → TaskId → List Fault → List ℕ
end_line n t thrown = head_text n (codes " end") t ++ thrown_part thrown ++ codes "\n"

abbrev pub root_line : ℕ → Outcome → List ℕ
root_line n o = natural_text n ++ codes " release host s0" ++ release_text o

-- the line of a place that dies or joins
abbrev pub place_line : ℕ → List ℕ → PlaceId → List ℕ
place_line n word p = natural_text n ++ word ++ numbered (codes " ") p.0 ++ codes "\n"
