-- The answers of two events.
use Rattle.std.specs.Prelude.{Bool, true, false, cond, not, ◌&&◌, ◌==◌}
use Rattle.std.specs.Ordering.{int_eq}
use Rattle.rx_rules.specs.declared.events.Cell.{Cell}
use Rattle.rx_rules.specs.declared.events.Cell.TheVariants.{Make, MakeFull, Get, Put, Forget, GetRefused, PutRefused, ForgetStale}

-- two events of one call have the same answer
abbrev pub same_answer : Cell → Cell → Bool
same_answer (Make n start generation) (Make m s g) = (start == s) && (generation == g)
same_answer (MakeFull n) (MakeFull m) = true
same_answer (Get r i value) (Get q j v) = int_eq value v
same_answer (GetRefused r i stale) (GetRefused q j s) = cond stale s (not s)
same_answer (Put r i value) (Put q j v) = true
same_answer (PutRefused r i value stale) (PutRefused q j v s) = cond stale s (not s)
same_answer (Forget r) (Forget q) = true
same_answer (ForgetStale r) (ForgetStale q) = true
same_answer a b = false
