-- A trace text is no shorter than it tells statements.
use Rattle.std.proofs.Common.{◌≡◌, ℕ, ◌+◌, ◌≤◌, ◌<◌, ◌^◌, List, [], ◌∷◌, ◌++◌, length, ap, ◌∙◌, arith, length-append, codes}
use Rattle.std.specs.List.{flat_map}
use Rattle.rx_text.specs.Numbers.{natural_text}
use Rattle.rx_rules.proofs.Common.{told, told_in, own_path, Given, Block}
use Rattle.rx_rules.specs.declared.entries.Act.{Act}
use Rattle.rx_rules.specs.declared.entries.Act.TheVariants.{Open}
use Rattle.rx_rules.specs.declared.entries.Entry.{Entry}
use Rattle.rx_rules.specs.declared.entries.Entry.TheVariants.{Step}
use Rattle.rx_rules.specs.declared.events.PlaceEvent.{PlaceEvent}
use Rattle.rx_trace.specs.Fields.{path_field, task_field}
use Rattle.rx_trace.specs.Parts.{batch_part}
use Rattle.rx_trace.specs.EntryLines.{act_word, act_fields, entry_text, entry_line, entry_lines}
use Rattle.rx_trace.specs.EventLines.{journals_lines}
use Rattle.rx_trace.specs.Text.{setup_lines, trace_text}
use Rattle.rx_answers.specs.Pair.{first_line}
use Rattle.rx_answers.specs.Cases.{IsCase}

-- a path in a batch takes a byte at least
fields-long : (batch : List (List ℕ)) → length batch ≤ length (flat_map path_field batch)
fields-long [] = omega arith
fields-long (x ∷ batch) = omega (arith, fields-long batch, length-append (path_field x) (flat_map path_field batch))

batch-long : (batch : List (List ℕ)) → length batch ≤ length (batch_part batch)
batch-long [] = omega arith
batch-long (x ∷ batch) = omega (arith, fields-long (x ∷ batch), length-append (codes " |") (flat_map path_field (x ∷ batch)))

-- so does the word of an act, which tells one path at most
own-long : (act : Act) → length (own_path act) ≤ length (act_word act)
own-long (Open scope parent path) = omega arith
own-long _ = omega arith

entry-long : (e : Entry) → length (told_in e) ≤ length (entry_text e)
entry-long (Step t act batch) =
    let whole : length (entry_text (Step t act batch)) ≡ length (act_word act) + (length (task_field t) + (length (act_fields act) + length (batch_part batch))) =
    lengths (act_word act) (task_field t) (act_fields act) (batch_part batch) in
    omega (arith, whole, length-append batch (own_path act), batch-long batch, own-long act)
  where
    lengths : (a b c d : List ℕ) → length (a ++ b ++ c ++ d) ≡ length a + (length b + (length c + length d))
    lengths a b c d = omega (arith, length-append (a ++ b ++ c) d, length-append (a ++ b) c, length-append a b)
entry-long _ = omega arith

lines-long : (n : ℕ) (es : List Entry) → length (told es) ≤ length (entry_lines n es)
lines-long n [] = omega arith
lines-long n (e ∷ es) =
    omega (arith, lines-long (n + 1) es, entry-long e, length-append (told_in e) (told es), length-append (entry_line n e) (entry_lines (n + 1) es), length-append (natural_text n ++ entry_text e) (codes "\n"), length-append (natural_text n) (entry_text e))

text-long : (U : Given) (es : List Entry) (js : List (List PlaceEvent)) → length (told es) ≤ length (trace_text U es js)
unfolding trace_text
text-long U es js =
    within (codes "rx10 trace 2\n" ++ setup_lines U ++ codes "history\n") (entry_lines 0 es) (journals_lines 0 js) (codes "done\n") (lines-long 0 es)
  where
    within : (a b c d : List ℕ) → length (told es) ≤ length b → length (told es) ≤ length (a ++ b ++ c ++ d)
    within a b c d h = omega (arith, h, length-append (a ++ b ++ c) d, length-append (a ++ b) c, length-append a b)

-- the statements of what bytes give are no more than the bytes
pub few-told : (bytes : List ℕ) (code : Block) (U : Given) (es : List Entry) (js : List (List PlaceEvent)) → IsCase bytes code U es js → length bytes ≤ 16777216 → length (told es) < 2 ^ 32
few-told bytes code U es js c small =
    let all : length bytes ≡ length (first_line (length c.script)) + (length c.script + length c.trace) =
    ap length c.pair.whole ∙ length-append (first_line (length c.script)) (c.script ++ c.trace) ∙ ap (λ k. length (first_line (length c.script)) + k) (length-append c.script c.trace) in
    omega (arith, all, ap length c.tells, text-long U es js, small)
