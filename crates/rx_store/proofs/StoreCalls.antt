-- What the statement that asks the store gives to the call.
use Rattle.std.proofs.Common.{◌≡◌, ℕ, zero, suc, ℤ, ◌+◌, ◌*◌, ◌^◌, ◌<◌, ◌≤◌, ◌==◌, max, Bool, true, false, cond, List, [], ◌∷◌, ◌++◌, reverse, length, Option, Some, None, Result, Ok, Err, slice_get, slice_set, refl, ap, ◌∙◌, sym, subst, arith}
use Rattle.std.proofs.lemmas.Bool.{eqb-true}
use Rattle.rx_rules.proofs.Common.{PlaceId, TaskId, Value, Number, Fault, Thrown, WrongPlace, Block, work, Stmt, SetTo, New, Get, Put, Forget, Print, Census, Throw, Async, AtAsync, At, Finish, If, Repeat, Try, Vars, Term, Empty, Run, Raise, Turns, Trying, Body, Held, items, at, Answer, Gives, Fine, Fails, answered, vars_after, answer_of, Does, Makes, Gets, Puts, Forgets, Releases, raise, bound, value_of, ref_in, eval, target_of, is_zero, with_number, with_place, stmt_does, within, does, begins, after_it, receives, stmt_receives, Tree, State, opening_state, MayCell, after_cell, Tells, begun, journal_at, Given, in_all, Proper, death_number, Game, Player, RunsWithoutEntry, stays, local, stores, tree_in}
use Rattle.rx_base.proofs.SameIds.{place-is}
use Rattle.rx_base.proofs.Elements.{get-set}
use Rattle.rx_rules.specs.declared.tasks.Task.{Task}
use Rattle.rx_rules.specs.declared.tasks.Where.TheVariants.{At as IsAt}
use Rattle.rx_rules.specs.declared.tasks.Kind.{Kind}
use Rattle.rx_rules.specs.declared.events.Cell.{Cell}
use Rattle.rx_rules.specs.declared.events.PlaceEvent.{PlaceEvent}
use Rattle.rx_rules.specs.declared.events.PlaceEvent.TheVariants.{Done as Did, Close}
use Rattle.rx_runs.specs.Steps.{steps, Sinks, TermSinks}
use Rattle.rx_runs.specs.Games.{Leads, rests, steps as more, NotAbove, JournalSo, GameOk}
use Rattle.rx_runs.specs.Ties.{RowSo}
use Rattle.rx_runs.specs.Coming.{CameTo, GamesCome}
use Rattle.rx_runs.specs.Events.{FewEvents, GoingTells}
use Rattle.rx_runs.specs.SomeWords.{MakesSome, TermMakesSome, AsksSome, ComesSome, GoesSome}
use Rattle.rx_runs.proofs.Pairs.{pairs-get}
use Rattle.rx_runs.proofs.Rows.{row-found}
use Rattle.rx_history.specs.declared.step.CellOp.{CellOp}
use Rattle.rx_history.specs.declared.step.CellOp.TheVariants.{Make, Get as GetWord, Put as PutWord, Forget as ForgetBlock}
use Rattle.rx_history.specs.declared.step.Next.TheVariants.{Cell as CellStep}
use Rattle.rx_history.specs.Next.{next_of}
use Rattle.rx_store.specs.Kepts.{StoresAre}
use Rattle.rx_store.specs.Asked.{MayAskStore, Receives, CallMade}
use Rattle.rx_tree_laws.specs.TermSteps.{BeginsStatement}
use Rattle.rx_tree_laws.specs.TermSteps.{CallSo}

-- what is told of a call, for its statement, the name that waits, the store that may be asked, and the steps that are left
pub record IsCall (t : Term) (here : PlaceId) (op : CellOp) (d : Does) : Type 0 where
  pub begins : (x : List ℕ) × (begins t ≡ Some x)
  pub receives : Receives d (receives t)
  pub may : MayAskStore here op
  pub sinks : (a : Answer) → steps (answered a t) + 1 ≤ steps t
  pub free : d ≡ Releases → ⊥

pub is_call : (t : Term) (here : PlaceId) (op : CellOp) (d : Does) → next_of d ≡ CellStep op → BeginsStatement d (begins t) → CallSo here.0 d (receives t) → AsksSome d → Sinks t d → IsCall t here op d
is_call t here (Make n) (Makes name words) e b c s k = record { begins = b; receives = c; may = (let w : words ≡ n = cc in subst (λ (v : ℕ). 0 < v) w s); sinks = k; free = λ f. (let g : ⊥ = cc in g) }
is_call t here (GetWord r i) (Makes name words) e b c s k = absurd (let f : ⊥ = cc in f)
is_call t here (PutWord r i v) (Makes name words) e b c s k = absurd (let f : ⊥ = cc in f)
is_call t here (ForgetBlock r) (Makes name words) e b c s k = absurd (let f : ⊥ = cc in f)
is_call t here (Make n) (Gets name target index) e b c s k = absurd (let f : ⊥ = cc in f)
is_call t here (GetWord r i) (Gets name target index) e b c s k = record { begins = b; receives = c.1; may = (let w : target ≡ r = cc in ap (λ v. v.home) (sym w) ∙ place-is target.home here c.0); sinks = k; free = λ f. (let g : ⊥ = cc in g) }
is_call t here (PutWord r i v) (Gets name target index) e b c s k = absurd (let f : ⊥ = cc in f)
is_call t here (ForgetBlock r) (Gets name target index) e b c s k = absurd (let f : ⊥ = cc in f)
is_call t here (Make n) (Puts target index value) e b c s k = absurd (let f : ⊥ = cc in f)
is_call t here (GetWord r i) (Puts target index value) e b c s k = absurd (let f : ⊥ = cc in f)
is_call t here (PutWord r i v) (Puts target index value) e b c s k = record { begins = b; receives = tt; may = (let w : target ≡ r = cc in ap (λ v. v.home) (sym w) ∙ place-is target.home here c); sinks = k; free = λ f. (let g : ⊥ = cc in g) }
is_call t here (ForgetBlock r) (Puts target index value) e b c s k = absurd (let f : ⊥ = cc in f)
is_call t here (Make n) (Forgets target) e b c s k = absurd (let f : ⊥ = cc in f)
is_call t here (GetWord r i) (Forgets target) e b c s k = absurd (let f : ⊥ = cc in f)
is_call t here (PutWord r i v) (Forgets target) e b c s k = absurd (let f : ⊥ = cc in f)
is_call t here (ForgetBlock r) (Forgets target) e b c s k = record { begins = b; receives = tt; may = (let w : target ≡ r = cc in ap (λ v. v.home) (sym w) ∙ place-is target.home here c); sinks = k; free = λ f. (let g : ⊥ = cc in g) }
is_call t here op _ e b c s k = absurd (let f : ⊥ = cc in f)
