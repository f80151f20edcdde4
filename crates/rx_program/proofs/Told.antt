-- What answers tell.
use Rattle.std.proofs.Common.{◌≡◌, ℕ, subst, Result, Ok, Err, IsErrOf, IfOk}
use Rattle.rx_program.specs.declared.status.Status.{Status}
use Rattle.rx_program.specs.declared.status.Status.TheVariants.{Syntax}

pub one-at : {T : Type 0} (m n : ℕ) → IsErrOf {T = T} {E = Status} (Err (Syntax m)) (Syntax n) → m ≡ n
one-at m n e = cc

-- what an answer that is handed on says
pub handed-on : {A E F : Type 0} (r : Result A E) (s : Result A F) (P Q : A → Type 0) → IfOk r (λ a. s ≡ Ok a) → IfOk s P → ((a : A) → P a → Q a) → IfOk r Q
handed-on (Ok a) s P Q is p f = f a (subst (λ o. IfOk o P) is p)
handed-on (Err e) s P Q is p f = tt
