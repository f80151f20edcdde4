-- The texts of answers.
use Rattle.std.specs.Prelude.{ℕ, List, ◌++◌, length, codes}
use Rattle.std.specs.List.{flat_map}
use Rattle.rx_text.specs.Numbers.{natural_text}
use Rattle.rx_text.specs.Paths.{path_text}
use Rattle.rx_verdict.specs.declared.verdict.Verdict.{Verdict}
use Rattle.rx_verdict.specs.declared.verdict.Verdict.TheVariants.{Run, Entry, End, Event, Open}

-- a line that ends with a number
abbrev pub numbered : List ℕ → ℕ → List ℕ
numbered words n = words ++ natural_text n ++ codes "\n"

-- the line of a verdict
abbrev pub verdict_line : Verdict → List ℕ
verdict_line Run = codes "run\n"
verdict_line (Entry number) = numbered (codes "entry ") number
verdict_line End = codes "end\n"
verdict_line (Event place number) = codes "event " ++ natural_text place.0 ++ numbered (codes " ") number
verdict_line (Open place) = numbered (codes "open ") place.0

-- the line of a path, spelled as in the text of a trace
abbrev pub path_line : List ℕ → List ℕ
path_line path = path_text path ++ codes "\n"

-- the lines of the longest chain: how many statements there are, how many the chain has, and each of these
abbrev pub span_text : ℕ → List (List ℕ) → List ℕ
span_text statements chain =
    numbered (codes "statements ") statements ++ numbered (codes "chain ") (length chain) ++ flat_map path_line chain
