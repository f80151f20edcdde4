use Rattle.std.proofs.Common.{◌≡◌, ℕ, List, [], ◌∷◌, ◌++◌, ap, ◌∙◌, refl}
use Rattle.rx_rules.proofs.Common.{work}
use Rattle.rx_text.specs.Numbers.{natural_text}
use Rattle.rx_check.proofs.OneTree.{one-tree}
use Rattle.rx_program.proofs.run.tell_work.Goals as goal

pub returns : goal.returns
returns c code stands =
    let w = c.checked.ensures in
    let same = one-tree c.args.program.now.script w.0 code w.1 stands in
    let value : c.work.result ≡ work code = c.work.ensures ∙ w.5 ∙ ap work same in
    let front : c.extend_from_slice.new.self.items ≡ 119 ∷ 111 ∷ 114 ∷ 107 ∷ 32 ∷ [] =
    c.in_ok-extend_from_slice.ensures.items ∙ ap (λ (xs : List ℕ). xs ++ 119 ∷ 111 ∷ 114 ∷ 107 ∷ 32 ∷ []) c.new-text.ensures.items in
    let more : c.put_natural.new.out.items ≡ (119 ∷ 111 ∷ 114 ∷ 107 ∷ 32 ∷ []) ++ natural_text (work code) =
    c.in_ok-put_natural.ensures.ok ∙ ap (λ (xs : List ℕ). xs ++ natural_text c.work.result) front ∙ ap (λ n. (119 ∷ 111 ∷ 114 ∷ 107 ∷ 32 ∷ []) ++ natural_text n) value in
    (c.in_ok-push.ensures.items ∙ ap (λ (xs : List ℕ). xs ++ 10 ∷ []) more, refl)
