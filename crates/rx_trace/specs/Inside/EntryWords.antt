-- The words of entries.
use Rattle.std.specs.Prelude.{ℕ, Bool, true, false, List, [], ◌∷◌, ◌++◌, Option, Some, None, option_map, codes, if◌then◌else◌}
use Rattle.std.specs.Str.{bytes_eq}
use Rattle.rx_rules.specs.declared.entries.Act.{Act}
use Rattle.rx_rules.specs.declared.entries.Act.TheVariants.{Open, At, Spawn, Arrive, Wait, Release, End, Print, Census}
use Rattle.rx_rules.specs.declared.entries.Entry.{Entry}
use Rattle.rx_rules.specs.declared.entries.Entry.TheVariants.{Step, Root, Death, Join}
use Rattle.rx_base.specs.declared.ids.TaskId.{TaskId}
use Rattle.rx_trace.specs.declared.acts.Kind.{Kind}
use Rattle.rx_trace.specs.declared.acts.Kind.TheVariants as kinds
use Rattle.rx_fields.specs.Inside.FieldWords.{number_at, place_at, task_at, scope_at, path_at, count_at}
use Rattle.rx_fields.specs.Inside.PartWords.{thrown_at, batch_at, nested_at, way_at, outcome_at}
use Rattle.rx_fields.specs.Inside.Readers.{Reader, followed, done, keyed, either, all_read}

abbrev pub open_at : Reader Act
open_at = followed nested_at (λ n. followed path_at (λ path. done (Open n.0 n.1 path)))

abbrev pub at_at : ℕ → Reader Act
at_at places = followed nested_at (λ n. followed task_at (λ callee. followed (way_at places)
    (λ w. followed path_at (λ path. done (At w.0 w.1 n.0 n.1 callee path)))))

abbrev pub spawn_at : ℕ → Reader Act
spawn_at places = followed task_at (λ child. keyed (codes "in") (followed scope_at (λ scope.
    followed (way_at places) (λ w. followed path_at (λ path. done (Spawn child scope w.0 w.1 path))))))

abbrev pub arrive_at : ℕ → Reader Act
arrive_at places = followed (place_at places) (λ place. done (Arrive place))

abbrev pub wait_at : ℕ → Reader Act
wait_at places = followed scope_at (λ scope. followed (thrown_at places) (λ thrown. done (Wait scope thrown)))

abbrev pub release_at : ℕ → Reader Act
release_at places = followed scope_at (λ scope. followed (outcome_at places) (λ o. done (Release scope o.0 o.1 o.2)))

abbrev pub end_at : ℕ → Reader Act
end_at places = followed (thrown_at places) (λ thrown. done (End thrown))

abbrev pub print_at : Reader Act
print_at = followed number_at (λ value. followed path_at (λ path. done (Print value path)))

abbrev pub census_at : Reader Act
census_at = followed (count_at 16) (λ count. followed path_at (λ path. done (Census count path)))

-- an act of this kind
abbrev pub act_at : ℕ → Kind → Reader Act
act_at places kinds.Open = open_at
act_at places kinds.At = at_at places
act_at places kinds.Spawn = spawn_at places
act_at places kinds.Arrive = arrive_at places
act_at places kinds.Wait = wait_at places
act_at places kinds.Release = release_at places
act_at places kinds.End = end_at places
act_at places kinds.Print = print_at
act_at places kinds.Census = census_at

-- the entry of what a task did, with its batch
abbrev pub stepped : TaskId → Act → Reader Entry
stepped task act = followed batch_at (λ batch. done (Step task act batch))

-- a task, what it did, and its batch
abbrev pub step_at : Reader Act → Reader Entry
step_at act_at = followed task_at (λ task. followed act_at (stepped task))

-- the host's release of the root
abbrev pub root_at : ℕ → Reader Entry
root_at places = keyed (codes "s0") (followed (outcome_at places) (λ o. done (Root o.0 o.1 o.2)))

abbrev pub death_at : ℕ → Reader Entry
death_at places = followed (place_at places) (λ place. done (Death place))

abbrev pub join_at : ℕ → Reader Entry
join_at places = followed (place_at places) (λ place. done (Join place))

-- a release by the host or by a task
abbrev pub release_or_root_at : ℕ → Reader Entry
release_or_root_at places = either (codes "host") (root_at places) (step_at (release_at places))

-- the word that names a kind of act
abbrev pub word_of : Kind → List ℕ
word_of kinds.Open = codes "open"
word_of kinds.At = codes "at"
word_of kinds.Spawn = codes "spawn"
word_of kinds.Arrive = codes "arrive"
word_of kinds.Wait = codes "wait"
word_of kinds.Release = codes "release"
word_of kinds.End = codes "end"
word_of kinds.Print = codes "print"
word_of kinds.Census = codes "census"

-- the entry of an act of this kind
abbrev pub acted_at : ℕ → Kind → Reader Entry
acted_at places kinds.Open = step_at open_at
acted_at places kinds.At = step_at (at_at places)
acted_at places kinds.Spawn = step_at (spawn_at places)
acted_at places kinds.Arrive = step_at (arrive_at places)
acted_at places kinds.Wait = step_at (wait_at places)
acted_at places kinds.Release = release_or_root_at places
acted_at places kinds.End = step_at (end_at places)
acted_at places kinds.Print = step_at print_at
acted_at places kinds.Census = step_at census_at

-- the entry of a death or of a join
abbrev pub changed_at : ℕ → Reader Entry
changed_at places = either (codes "death") (death_at places) (keyed (codes "join") (join_at places))

-- the words of an entry after its number
abbrev pub entry_at : ℕ → Reader Entry
entry_at places =
    either (codes "open") (step_at open_at) (
    either (codes "at") (step_at (at_at places)) (
    either (codes "spawn") (step_at (spawn_at places)) (
    either (codes "arrive") (step_at (arrive_at places)) (
    either (codes "wait") (step_at (wait_at places)) (
    either (codes "release") (release_or_root_at places) (
    either (codes "end") (step_at (end_at places)) (
    either (codes "print") (step_at print_at) (
    either (codes "census") (step_at census_at) (
    either (codes "death") (death_at places) (
    keyed (codes "join") (join_at places)))))))))))

-- the entries and the one that all these words are
abbrev pub entered : List Entry → Option (Entry × List (List ℕ)) → Option (List Entry)
entered entries read = option_map (λ e. entries ++ e ∷ []) (all_read read)

-- what is there, where the answer is yes
abbrev pub if_good : {A : Type 0} → Bool → A → Option A
if_good true a = Some a
if_good false a = None
