-- A fault that is handed on.
use Rattle.std.proofs.Common.{◌≡◌, ℕ, Result, Err, IsErrOf, ap, sym, ◌∙◌}
use Rattle.rx_check.specs.declared.checker.CheckCause.{CheckCause}
use Rattle.rx_check.specs.declared.checker.CheckCause.TheVariants.{Bad}

pub passed : (r : Result ℕ CheckCause) (e f : CheckCause) (rule node : ℕ) → r ≡ Err e → e ≡ f → IsErrOf r (Bad rule node) → IsErrOf {T = ℕ} (Err f) (Bad rule node)
passed r e f rule node p q h = let F : CheckCause → Result ℕ CheckCause = λ x. Err x in sym (ap F q) ∙ (sym p ∙ h)
