-- What a look-up of a task finds.
use Rattle.std.proofs.Common.{◌≡◌, Some}
use Rattle.std.proofs.lemmas.Bool.{eqb-true}
use Rattle.rx_rules.proofs.Common.{TaskId, Tree, is_task, task_of}
use Rattle.rx_base.proofs.Elements.{find-passes}
use Rattle.rx_rules.specs.declared.tasks.Task.{Task}

-- a task that is found has the number
pub number-of : (T : Tree) (t : TaskId) (x : Task) → task_of T t ≡ Some x → x.number.0 ≡ t.0
number-of T t x h = eqb-true x.number.0 t.0 (find-passes (is_task t) T.tasks x h)
