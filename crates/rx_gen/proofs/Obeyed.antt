-- The lines meet the rules of the checker.
use Rattle.std.proofs.Common.{◌≡◌, ℕ, ◌+◌, ◌*◌, ◌≤◌, zero, suc, nat_lt, false, List, [], Some, None, if◌then◌else◌, refl, arith, ap, sym, ◌∙◌}
use Rattle.std.proofs.lemmas.Bool.Decides.{nat_tests}
use Rattle.rx_rules.proofs.Common.{work, work_of}
use Rattle.rx_check.specs.Rules.{Sight, sights, nodes, first_fault, or_work, verdict}
use Rattle.rx_gen.specs.Lines.{line, lines_from, lines}

no-fault : (script : List Sight) (m q i n : ℕ) → first_fault script m (sights [] 0 (lines_from q i n)) ≡ None
no-fault script m q i zero = refl
no-fault script m q i (suc n) = no-fault script (suc (suc (suc (suc (suc m))))) q (i + 1) n

line-work : (q i : ℕ) → work_of (line q i) ≡ 5
line-work q i = refl

lines-work : (q i n : ℕ) → work (lines_from q i n) ≡ 5 * n
lines-work q i zero = refl
lines-work q i (suc n) =
    let all : work (lines_from q i (suc n)) ≡ work_of (line q i) + work (lines_from q (i + 1) n) = refl in
    omega (arith, all, line-work q i, lines-work q (i + 1) n)

pub work-is : (q n : ℕ) → work (lines q n) ≡ 5 * n
work-is q n = lines-work q 0 n

not-over : (n : ℕ) → n ≤ 100000 → nat_lt 100000 n ≡ false
not-over n h = grind (arith, nat_tests)

meets : (q n : ℕ) → n ≤ 10000 → verdict (lines q n) ≡ None
meets q n h =
    ap (λ f. or_work f (work (lines q n))) (no-fault (nodes (lines q n)) 0 q 0 n)
    ∙ ap (λ b. if b then Some (5, 0) else None) (not-over (work (lines q n)) (omega (arith, work-is q n, h)))

none-some : (x : ℕ × ℕ) → None ≡ Some x → ⊥
none-some x h = cc

-- no rule fails
pub no-rule : (q n rule node : ℕ) → n ≤ 10000 → verdict (lines q n) ≡ Some (rule, node) → ⊥
no-rule q n rule node h is = none-some (rule, node) (sym (meets q n h) ∙ is)
