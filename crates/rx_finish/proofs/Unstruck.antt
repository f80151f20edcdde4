-- What an unstruck caller's entry does, by what the caller says of itself.
use Rattle.std.proofs.Common.{◌≡◌, List, ◌++◌, filter, not, ap, ◌∙◌}
use Rattle.rx_rules.proofs.Common.{Fault, Tree, is_task, home_for, place_number, after_end, change_scope, Reached}
use Rattle.rx_rules.specs.declared.tasks.Task.{Task}
use Rattle.rx_finish.specs.declared.ledger.Caller.{Caller}
use Rattle.rx_finish.specs.Callers.{MayAsk}
use Rattle.rx_finish.specs.Calls.{IsUnstruck}
use Rattle.rx_finish.proofs.Allowed.{Free, free}

-- the home of the scopes that an unstruck caller opens
pub home_is : (T : Tree) (who : Caller) (P : Task → Type 0) → Reached T → MayAsk T who P → IsUnstruck T who → home_for T who.task ≡ place_number who.place
home_is T who P r may u =
    let f : Free T who P = free T who P r may u in
    let e : home_for T who.task ≡ place_number f.at.task.place = rw (f.at.stands, home_for) in
    e ∙ ap place_number f.at.says.place

-- an unstruck caller's end, by the scope that it names
pub ended_is : (T : Tree) (who : Caller) (P : Task → Type 0) (thrown : List Fault) → Reached T → MayAsk T who P → IsUnstruck T who → after_end T who.task thrown ≡ change_scope (λ g. record g { ends = g.ends ++ thrown }) who.scope (record T { tasks = filter (λ y. not (is_task who.task y)) T.tasks })
ended_is T who P thrown r may u =
    let f : Free T who P = free T who P r may u in
    let e : after_end T who.task thrown ≡ change_scope (λ g. record g { ends = g.ends ++ thrown }) f.at.task.under (record T { tasks = filter (λ y. not (is_task who.task y)) T.tasks }) = rw (f.at.stands, after_end) in
    e ∙ ap (λ s. change_scope (λ g. record g { ends = g.ends ++ thrown }) s (record T { tasks = filter (λ y. not (is_task who.task y)) T.tasks })) f.at.says.under
