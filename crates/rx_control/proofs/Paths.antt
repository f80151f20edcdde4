-- What a path has behind another.
use Rattle.std.proofs.Common.{◌≡◌, ℕ, List, ◌++◌, ap, sym, ◌∙◌, append_assoc, ◌↔◌}
use Rattle.std.proofs.lemmas.List.{append_cancel_left}

-- a path with left behind the base goes on behind the base and what is added as left goes on behind what is added
pub goes-on : (path base left added rest : List ℕ) → path ≡ base ++ left → (path ≡ (base ++ added) ++ rest) ↔ (left ≡ added ++ rest)
goes-on path base left added rest e = (
  λ h. append_cancel_left base left (added ++ rest) (sym e ∙ h ∙ append_assoc base added rest),
  λ h. e ∙ ap (λ x. base ++ x) h ∙ sym (append_assoc base added rest),
)
