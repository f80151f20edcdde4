-- Which entries an answer stands for, by what was noted of its request and of the row of its task before.
use Rattle.std.specs.Prelude.{◌==◌, ◌||◌, cond, Option, Some, None, List, [], ◌∷◌}
use Rattle.rx_base.specs.declared.ids.PlaceId.{PlaceId}
use Rattle.rx_base.specs.declared.ids.ScopeId.{ScopeId}
use Rattle.rx_base.specs.declared.ids.TaskId.{TaskId}
use Rattle.rx_base.specs.declared.values.Fault.{Fault}
use Rattle.rx_rules.specs.declared.tasks.Where.{Where}
use Rattle.rx_rules.specs.declared.tasks.Where.TheVariants.{At as Here}
use Rattle.rx_rules.specs.declared.entries.Act.TheVariants.{Open as OpenAct, At as CallAct, Spawn as SpawnAct, Arrive as ArriveAct}
use Rattle.rx_rules.specs.declared.entries.Act.TheVariants.{Wait as WaitAct, Release as ReleaseAct, End as EndAct}
use Rattle.rx_rules.specs.declared.entries.Entry.{Entry}
use Rattle.rx_rules.specs.declared.entries.Entry.TheVariants.{Step, Root as RootEntry, Death as DeathEntry, Join as JoinEntry}
use Rattle.rx_rules.specs.Tree.{the_root}
use Rattle.rx_rules.specs.Entries.{place_number}
use Rattle.rx_finish.specs.Calls.{landing}
use Rattle.rx_finish.specs.declared.ledger.Born.{Born}
use Rattle.rx_finish.specs.declared.ledger.Outcome.{Outcome}
use Rattle.rx_coordinator.specs.declared.seats.Seat.{Seat}
use Rattle.rx_coordinator.specs.declared.requests.Request.{Request}
use Rattle.rx_coordinator.specs.declared.requests.Request.TheVariants.{Open, At, Spawn, Send, Arrive, Wait, Release, End, Death}
use Rattle.rx_coordinator.specs.declared.requests.Answer.{Answer}
use Rattle.rx_coordinator.specs.declared.requests.Answer.TheVariants.{Opened, Called, Spawned, Sent, Landed, Waits, Released, Ended, Died, Joined, RootDone}
use Rattle.rx_coordinator.specs.declared.waiters.Waiter.{Waiter}
use Rattle.rx_coordinator.specs.declared.waiters.Waiter.TheVariants.{Task, Root}
use Rattle.rx_lines.specs.declared.note.Note.{Note}

-- where no task asks, the main one stands for it, and where no place is named, place 0
abbrev pub main_task : TaskId
main_task = record { 0 = 0 }

abbrev pub place_zero : PlaceId
place_zero = record { 0 = 0 }

-- the task that asks
abbrev pub asker : Request → TaskId
asker (Open t) = t
asker (At t to) = t
asker (Spawn t to) = t
asker (Send t to) = t
asker (Arrive t) = t
asker (Wait t thrown) = t
asker (Release t) = t
asker (End t thrown) = t
asker _ = main_task

-- the place that is named
abbrev pub place_in : Request → PlaceId
place_in (At t to) = to
place_in (Spawn t to) = to
place_in (Send t to) = to
place_in (Death p) = p
place_in _ = place_zero

-- the faults that are told
abbrev pub thrown_in : Request → List Fault
thrown_in (Wait t thrown) = thrown
thrown_in (End t thrown) = thrown
thrown_in _ = []

-- what a row says of the scope in which its task works, and of its place
abbrev pub row_inner : Option Seat → ScopeId
row_inner None = the_root
row_inner (Some w) = w.who.inner

abbrev pub row_place : Option Seat → Where
row_place None = Here place_zero
row_place (Some w) = w.who.place

abbrev pub noted : Option Seat → TaskId → PlaceId → List Fault → Note
noted row t to thrown = record { task = t; inner = row_inner row; place = row_place row; to = to; thrown = thrown }

-- what is noted of a request
abbrev pub note_of : Option Seat → Request → Note
note_of row q = noted row (asker q) (place_in q) (thrown_in q)

-- a task that is sent lands where it travels
abbrev pub landings : Note → Born → List Entry
landings n b = cond (b.lost || ((place_number n.place).0 == n.to.0)) [] (Step b.child (ArriveAct n.to) [] ∷ [])

-- the entries for which an answer stands
abbrev pub entries_of : Note → Answer → List Entry
entries_of n (Opened s) = Step n.task (OpenAct s n.inner []) [] ∷ []
entries_of n (Called b) = Step n.task (CallAct (place_number n.place) n.to b.scope n.inner b.child []) [] ∷ []
entries_of n (Spawned b) = Step n.task (SpawnAct b.child b.scope (place_number n.place) n.to []) [] ∷ []
entries_of n (Sent b) = Step n.task (SpawnAct b.child b.scope (place_number n.place) n.to []) [] ∷ landings n b
entries_of n Landed = Step n.task (ArriveAct (landing n.place)) [] ∷ []
entries_of n Waits = Step n.task (WaitAct n.inner n.thrown) [] ∷ []
entries_of n (Released o) = Step n.task (ReleaseAct n.inner o.lost o.masked o.thrown) [] ∷ []
entries_of n Ended = Step n.task (EndAct n.thrown) [] ∷ []
entries_of n Died = DeathEntry n.to ∷ []
entries_of n (Joined p) = JoinEntry p ∷ []
entries_of n (RootDone o) = RootEntry o.lost o.masked o.thrown ∷ []
entries_of n _ = []

-- the entry of a release that has waited
abbrev pub freed_entry : ScopeId → Waiter → Outcome → Entry
freed_entry s (Task t) o = Step t (ReleaseAct s o.lost o.masked o.thrown) []
freed_entry s Root o = RootEntry o.lost o.masked o.thrown
