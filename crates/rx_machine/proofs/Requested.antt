-- Which request a told step is.
use Rattle.std.proofs.Common.{◌≡◌, ℕ, ℤ, List, Result, Ok, Err, OnOk, OnErr, ap, sym, ◌∙◌}
use Rattle.rx_rules.proofs.Common.{PlaceId, Fault, Does, Local, Makes, Gets, Puts, Forgets, Opens, Calls, Spawns, Waits, Releases, Prints, Counts, Done}
use Rattle.rx_history.specs.declared.step.CellOp.{CellOp}
use Rattle.rx_history.specs.declared.step.Want.{Want}
use Rattle.rx_history.specs.declared.step.Want.TheVariants.{Open, At, Spawn, Wait, Release, Print, Census}
use Rattle.rx_history.specs.declared.step.Next.{Next}
use Rattle.rx_history.specs.declared.step.Next.TheVariants.{Local as LocalStep, Cell, Book, Done as Ended}
use Rattle.rx_history.specs.Next.{next_of}
use Rattle.rx_plan.proofs.Requests.{asks_open, asks_call, asks_spawn, asks_wait, asks_release, asks_print, asks_census, asks_end}
use Rattle.rx_machine.specs.Inside.Requests.{AsksOrEnds, IsRequest}

pub asks_no_local : (d : Does) → AsksOrEnds d → next_of d ≡ LocalStep → ⊥
asks_no_local (Local left vars) a h = a
asks_no_local _ a h = cc

pub asks_no_cell : (d : Does) (op : CellOp) → AsksOrEnds d → next_of d ≡ Cell op → ⊥
asks_no_cell (Makes name words) op a h = a
asks_no_cell (Gets name target index) op a h = a
asks_no_cell (Puts target index value) op a h = a
asks_no_cell (Forgets target) op a h = a
asks_no_cell _ op a h = cc

-- the same of what was told
pub told_open : (n : Next) (d : Does) (w : Want) → IsRequest n d → n ≡ Book w → w ≡ Open → d ≡ Opens
told_open n d w r is which = asks_open d (sym r.0 ∙ (is ∙ ap (λ v. Book v) which))

pub told_call : (n : Next) (d : Does) (w : Want) (to : PlaceId) → IsRequest n d → n ≡ Book w → w ≡ At to → d ≡ Calls to.0
told_call n d w to r is which = asks_call d to (sym r.0 ∙ (is ∙ ap (λ v. Book v) which))

pub told_spawn : (n : Next) (d : Does) (w : Want) (to : PlaceId) → IsRequest n d → n ≡ Book w → w ≡ Spawn to → d ≡ Spawns to.0
told_spawn n d w to r is which = asks_spawn d to (sym r.0 ∙ (is ∙ ap (λ v. Book v) which))

pub told_wait : (n : Next) (d : Does) (w : Want) → IsRequest n d → n ≡ Book w → w ≡ Wait → (fs : List Fault) × (d ≡ Waits fs)
told_wait n d w r is which = asks_wait d (sym r.0 ∙ (is ∙ ap (λ v. Book v) which))

pub told_release : (n : Next) (d : Does) (w : Want) → IsRequest n d → n ≡ Book w → w ≡ Release → d ≡ Releases
told_release n d w r is which = asks_release d (sym r.0 ∙ (is ∙ ap (λ v. Book v) which))

pub told_print : (n : Next) (d : Does) (w : Want) (value : ℤ) → IsRequest n d → n ≡ Book w → w ≡ Print value → d ≡ Prints value
told_print n d w value r is which = asks_print d value (sym r.0 ∙ (is ∙ ap (λ v. Book v) which))

pub told_census : (n : Next) (d : Does) (w : Want) → IsRequest n d → n ≡ Book w → w ≡ Census → (name : ℕ) × (d ≡ Counts name)
told_census n d w r is which = asks_census d (sym r.0 ∙ (is ∙ ap (λ v. Book v) which))

pub told_end : (n : Next) (d : Does) → IsRequest n d → n ≡ Ended → (fs : List Fault) × (d ≡ Done fs)
told_end n d r is = asks_end d (sym r.0 ∙ is)

pub told_no_local : (n : Next) (d : Does) → IsRequest n d → n ≡ LocalStep → ⊥
told_no_local n d r is = asks_no_local d r.1 (sym r.0 ∙ is)

pub told_no_cell : (n : Next) (d : Does) (op : CellOp) → IsRequest n d → n ≡ Cell op → ⊥
told_no_cell n d op r is = asks_no_cell d op r.1 (sym r.0 ∙ is)

-- what follows where a call has answered Ok
pub on_ok : {A E P Q : Type 0} (r : Result A E) → (P → Q) → OnOk r P → OnOk r Q
on_ok (Ok x) f h = f h
on_ok (Err e) f h = h

-- and where it has answered Err
pub on_err : {A E P Q : Type 0} (r : Result A E) → (P → Q) → OnErr r P → OnErr r Q
on_err (Ok x) f h = h
on_err (Err e) f h = f h

pub any_err : {A E P : Type 0} (r : Result A E) → P → OnErr r P
any_err (Ok x) h = tt
any_err (Err e) h = h

pub on_errs : {A E P Q R : Type 0} (r : Result A E) → (P → Q → R) → OnErr r P → OnErr r Q → OnErr r R
on_errs (Ok x) f h k = h
on_errs (Err e) f h k = f h k
