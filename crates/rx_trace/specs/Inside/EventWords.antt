-- The words of events.
use Rattle.std.specs.Prelude.{ℕ, ℤ, true, false, List, [], ◌∷◌, Option, Some, None, codes}
use Rattle.rx_base.specs.declared.ids.GlobalRef.{GlobalRef}
use Rattle.rx_base.specs.declared.ids.TaskId.{TaskId}
use Rattle.rx_rules.specs.declared.events.Cell.{Cell}
use Rattle.rx_rules.specs.declared.events.Cell.TheVariants.{Make, MakeFull, Get, Put, Forget, GetRefused, PutRefused, ForgetStale}
use Rattle.rx_rules.specs.declared.events.PlaceEvent.{PlaceEvent}
use Rattle.rx_rules.specs.declared.events.PlaceEvent.TheVariants.{Done, Close}
use Rattle.rx_fields.specs.Inside.FieldWords.{natural_at, number_at, task_spelt, path_at, block_at}
use Rattle.rx_fields.specs.Inside.Readers.{Reader, followed, done, keyed, either}

-- whether a block was made, and where
abbrev pub made_at : ℕ → Reader Cell
made_at words =
    either (codes "at") (followed natural_at (λ start. followed natural_at (λ generation. done (Make words start generation)))) (
    keyed (codes "full") (done (MakeFull words)))

abbrev pub make_at : Reader Cell
make_at = followed natural_at made_at

-- the word that was read, or why none was
abbrev pub got_at : GlobalRef → ℤ → Reader Cell
got_at target index =
    either (codes "is") (followed number_at (λ value. done (Get target index value))) (
    either (codes "stale") (done (GetRefused target index true)) (
    keyed (codes "index") (done (GetRefused target index false))))

-- the index of a word that was to be read, and the answer
abbrev pub indexed_at : GlobalRef → Reader Cell
indexed_at target = followed number_at (got_at target)

abbrev pub get_at : ℕ → Reader Cell
get_at home = followed (block_at home) indexed_at

-- that a word was written, or why none was
abbrev pub written_at : GlobalRef → ℤ → ℤ → Reader Cell
written_at target index value =
    either (codes "ok") (done (Put target index value)) (
    either (codes "stale") (done (PutRefused target index value true)) (
    keyed (codes "index") (done (PutRefused target index value false))))

abbrev pub put_at : ℕ → Reader Cell
put_at home = followed (block_at home) (λ target. followed number_at (λ index. followed number_at (written_at target index)))

-- that a block was forgotten, or was before
abbrev pub forgotten_at : GlobalRef → Reader Cell
forgotten_at target = either (codes "ok") (done (Forget target)) (keyed (codes "stale") (done (ForgetStale target)))

abbrev pub forget_at : ℕ → Reader Cell
forget_at home = followed (block_at home) forgotten_at

-- a store call and its answer
abbrev pub cell_at : ℕ → Reader Cell
cell_at home =
    either (codes "make") make_at (
    either (codes "get") (get_at home) (
    either (codes "put") (put_at home) (
    keyed (codes "forget") (forget_at home))))

abbrev pub done_at : ℕ → TaskId → Reader PlaceEvent
done_at home task = followed natural_at (λ stamp. followed (cell_at home)
    (λ cell. followed path_at (λ path. done (Done task stamp cell path))))

abbrev pub close_at : Reader PlaceEvent
close_at = followed natural_at (λ stamp. keyed (codes "close") (done (Close stamp)))

-- an event that begins with a task, or else a close
abbrev pub event_from : ℕ → Option TaskId → List ℕ → List (List ℕ) → Option (PlaceEvent × List (List ℕ))
event_from home None w ws = close_at (w ∷ ws)
event_from home (Some task) w ws = done_at home task ws

-- the words of an event after its number
abbrev pub event_at : ℕ → Reader PlaceEvent
event_at home [] = None
event_at home (w ∷ ws) = event_from home (task_spelt w) w ws
