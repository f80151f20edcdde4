-- The names of the rules, passed on from one place. Declares nothing.
pub use Rattle.rx_base.specs.Lists.{has}
pub use Rattle.rx_base.specs.Outside.{Rose}
pub use Rattle.rx_base.specs.Sets.{MembersMakeTheSet, all_places, has_bit, members}
pub use Rattle.rx_base.specs.declared.failures.NoMemory.{NoMemory}
pub use Rattle.rx_base.specs.declared.ids.GlobalRef.{GlobalRef}
pub use Rattle.rx_base.specs.declared.ids.Kill.{Kill}
pub use Rattle.rx_base.specs.declared.ids.PlaceId.{PlaceId}
pub use Rattle.rx_base.specs.declared.ids.ScopeId.{ScopeId}
pub use Rattle.rx_base.specs.declared.ids.TaskId.{TaskId}
pub use Rattle.rx_base.specs.declared.place_set.PlaceSet.{PlaceSet}
pub use Rattle.rx_base.specs.declared.values.Fault.{Fault}
pub use Rattle.rx_base.specs.declared.values.Fault.TheVariants.{Dead, HeapFull, Index, NoPlace, Overflow, Stale, Thrown, WrongPlace}
pub use Rattle.rx_base.specs.declared.values.Value.{Value}
pub use Rattle.rx_base.specs.declared.values.Value.TheVariants.{Num as Number, Ref}
pub use Rattle.rx_rules.specs.Code.{Add, Async, At, AtAsync, Bin, Block, Census, Expr, Finish, Forget, Get, Here, If, Name, New, Nothing, Num, Print, Put, Repeat, SetTo, Stmt, Then, Throw, Try, work, work_of}
pub use Rattle.rx_rules.specs.Counts.{has_number}
pub use Rattle.rx_rules.specs.Entries.{ActAsks, Allowed, AllowedAct, IsLive, MayFree, Unstruck, WorksIn, add_task, after_end, born, change_first, change_scope, change_task, hit, home_for, is_hit, lost_under, made, made_act, masked_under, opened, place_number, resumed, strike, thrown_of, waiting, was_lost_at, widened, without}
pub use Rattle.rx_rules.specs.Examples.{adoption_script, adoption_setup, at_waits, full_heap_journals, full_script, full_setup, joining_script, joining_setup, kill_setup, loss_in_transit, loss_in_transit_journals, masked_script, ordinary_case, ordinary_case_journals, ordinary_script, ordinary_setup, orphan_script, p, s, source_script, stale_reference, stale_reference_journals, stale_script, t}
pub use Rattle.rx_rules.specs.Fold.{AllAllowed, births, births_of, fold_from, opening, tree_of, wide_opening}
pub use Rattle.rx_rules.specs.Inversions.{BeginsNoRun, FromOn, UpTo, acts_of, events_of_task}
pub use Rattle.rx_rules.specs.Laws.{TaskBirth, born_so_far, has_ended, has_landed, hit_at, is_birth_of, is_born, is_on, links, until, walk}
pub use Rattle.rx_rules.specs.Order.{InOrder, before_inside, comes_before, is_before_in, is_kept, is_kept_in, own_path, told, told_in}
pub use Rattle.rx_rules.specs.Picked.{MadeByTurns, Game, RunsWithoutEntry, IsPicked, Player, Turn, acted, arrives, child_of, closed_by, due as planned, enabled, is_enabled, local, more, moves, none, root, start_game, stays, stores, tree_in, turns, used_after, with_entry}
pub use Rattle.rx_rules.specs.Plays.{BeginsWithArrival, Birth, Cells, EachPlays, Moves, Played, Plays, Starts, StartsSo, Tells, asks, begun, birth_from, birth_in, birth_of, brought, cell_of, ends, journal_at, move_of, moves_from, raised_by, started_by, stops, travels, vars_told}
pub use Rattle.rx_rules.specs.Reached.{IsOlder, Reached, acts, dies, joins, opens}
pub use Rattle.rx_rules.specs.Run.{AllJournals, AreJoins, AreKills, Ascends, AtHome, ClosesAt, ComesAfter, EndsWithRoot, Event, Folds, Given, IsDue, IsRun, Joined, JournalOk, NoRoot, NoneDue, NotFalling, PlanKept, Proper, Spares, close_in, death_number, events, in_all, plan_of, put_in, rest_of, stamp_of}
pub use Rattle.rx_rules.specs.Store.{IsLeastFree, IsStoreRun, Live, MayCell, Reads, Refuses, State, after_cell, block_of, fits, is_apart, is_block, is_index, opening_state, set_word, word_at}
pub use Rattle.rx_rules.specs.Terms.{Answer, Body, Calls, Counts, Does, Done, Empty, Fails, Fine, Forgets, Gets, Gives, Held, Local, Makes, Opens, Prints, Puts, Raise, Releases, Run, Spawns, Term, Trying, Turns, Vars, Waits, after_it, answer_of, answered, at, begins, body_does, body_granted, bound, catches, child, does, eval, granted, is_dead, is_zero, items, items_from, no_vars, on_ref, or_raise, raise, receives, ref_in, replaced, stmt_child, stmt_does, stmt_granted, stmt_receives, target_of, trying_does, value_of, vars_after, with_number, with_place, within}
pub use Rattle.rx_rules.specs.Tree.{Tree, chain_in, death_of, governing_in, governs, inner, is_finish, is_scope, is_task, is_under, on_chain, opened_by, own_scope, places_of, quiet, scope_of, task_of, the_root, wants}
