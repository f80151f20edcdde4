-- Whether an event answers a call.
use Rattle.std.specs.Prelude.{◌≡◌, Bool, true, false, ◌&&◌, ◌==◌}
use Rattle.std.specs.Ordering.{int_eq}
use Rattle.rx_base.specs.declared.ids.PlaceId.{PlaceId}
use Rattle.rx_base.specs.declared.ids.GlobalRef.{GlobalRef}
use Rattle.rx_rules.specs.declared.events.Cell.{Cell}
use Rattle.rx_rules.specs.declared.events.Cell.TheVariants.{Make, MakeFull, Get, Put, Forget, GetRefused, PutRefused, ForgetStale}
use Rattle.rx_rules.specs.Terms.{Does, Answer}
use Rattle.rx_rules.specs.Plays.{Tells}
use Rattle.rx_history.specs.declared.step.CellOp.{CellOp}
use Rattle.rx_history.specs.declared.step.CellOp.TheVariants.{Make as Makes, Get as Gets, Put as Puts, Forget as Forgets}
use Rattle.rx_history.specs.declared.step.Next.TheVariants.{Cell as Calls}
use Rattle.rx_history.specs.Next.{next_of}

-- two references with the same parts
abbrev pub same_ref : GlobalRef → GlobalRef → Bool
same_ref r q = (r.home.0 == q.home.0) && (r.start == q.start) && (r.generation == q.generation)

-- the event is of the kind of the call, and has its operands
abbrev pub answers : CellOp → Cell → Bool
answers (Makes words) (Make n start generation) = n == words
answers (Makes words) (MakeFull n) = n == words
answers (Gets target index) (Get r i value) = same_ref r target && int_eq i index
answers (Gets target index) (GetRefused r i stale) = same_ref r target && int_eq i index
answers (Puts target index value) (Put r i v) = same_ref r target && int_eq i index && int_eq v value
answers (Puts target index value) (PutRefused r i v stale) = same_ref r target && int_eq i index && int_eq v value
answers (Forgets target) (Forget r) = same_ref r target
answers (Forgets target) (ForgetStale r) = same_ref r target
answers op cell = false

-- exactly there the event tells the term that makes this call an answer
abbrev pub AnswersTells : Type 0
AnswersTells =
    (d : Does) (here : PlaceId) (op : CellOp) (cell : Cell) → next_of d ≡ Calls op
    → (answers op cell ≡ true → (a : Answer) × Tells d here cell a)
    × ((a : Answer) → Tells d here cell a → answers op cell ≡ true)
