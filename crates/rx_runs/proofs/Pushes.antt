-- One entry more.
use Rattle.std.proofs.Common.{◌≡◌, ℕ, suc, ◌+◌, List, [], ◌∷◌, ◌++◌, length, Option, Some, None, refl, ap, ◌∙◌, sym, arith, subst}
use Rattle.std.specs.List.{cons_option}
use Rattle.rx_rules.proofs.Common.{Birth, moves_from, move_of, birth_in, birth_from, Event, PlanKept, rest_of}
use Rattle.rx_rules.specs.declared.entries.Entry.{Entry}
use Rattle.rx_rules.specs.declared.entries.Entry.TheVariants.{Step, Root, Death, Join}
use Rattle.rx_runs.specs.Segments.{plan_left, InTime}

alone : (n : ℕ) (xs : List Event) (e : Entry) → InTime n xs e → PlanKept n xs (e ∷ [])
alone n xs (Step t act batch) h = (h, tt)
alone n xs _ h = (h, tt)

-- what is planned
pub plan-push : (n : ℕ) (xs : List Event) (es : List Entry) (e : Entry) → PlanKept n xs es → InTime (n + length es) (plan_left xs es) e → PlanKept n xs (es ++ e ∷ [])
plan-push n xs [] e h a = alone n xs e (let z : n + 0 ≡ n = omega arith in subst (λ k. InTime k xs e) z a)
plan-push n xs (Step t act batch ∷ es) e h a =
    (h.0, plan-push (suc n) xs es e h.1 (let z : n + length (Step t act batch ∷ es) ≡ suc n + length es = omega arith in subst (λ k. InTime k (plan_left xs es) e) z a))
plan-push n xs (Root lost masked thrown ∷ es) e h a =
    (h.0, plan-push (suc n) xs es e h.1 (let z : n + length (Root lost masked thrown ∷ es) ≡ suc n + length es = omega arith in subst (λ k. InTime k (plan_left xs es) e) z a))
plan-push n xs (Death d ∷ es) e h a =
    (h.0, plan-push (suc n) (rest_of xs) es e h.1 (let z : n + length (Death d ∷ es) ≡ suc n + length es = omega arith in subst (λ k. InTime k (plan_left (rest_of xs) es) e) z a))
plan-push n xs (Join p ∷ es) e h a =
    (h.0, plan-push (suc n) (rest_of xs) es e h.1 (let z : n + length (Join p ∷ es) ≡ suc n + length es = omega arith in subst (λ k. InTime k (plan_left (rest_of xs) es) e) z a))

cons_first : {X : Type 0} (o : Option X) (xs ys : List X) → cons_option o (xs ++ ys) ≡ cons_option o xs ++ ys
cons_first None xs ys = refl
cons_first (Some x) xs ys = refl

-- what a task has made
pub moves-push : (n : ℕ) (es : List Entry) (e : Entry) (t : ℕ) → moves_from n (es ++ e ∷ []) t ≡ moves_from n es t ++ cons_option (move_of (n + length es) t e) []
moves-push n [] e t = let z : n + 0 ≡ n = omega arith in ap (λ k. cons_option (move_of k t e) []) (sym z)
moves-push n (x ∷ es) e t =
    let z : suc n + length es ≡ n + length (x ∷ es) = omega arith in
    ap (cons_option (move_of n t x)) (moves-push (suc n) es e t ∙ ap (λ k. moves_from (suc n) es t ++ cons_option (move_of k t e) []) z)
    ∙ cons_first (move_of n t x) (moves_from (suc n) es t) (cons_option (move_of (n + length (x ∷ es)) t e) [])

-- a birth that stands in a history stays
pub birth-push : (n : ℕ) (es : List Entry) (e : Entry) (t : ℕ) → birth_in (n + length es) t e ≡ None → birth_from n (es ++ e ∷ []) t ≡ birth_from n es t
birth-push n [] e t h = let z : n + 0 ≡ n = omega arith in let h' : birth_in n t e ≡ None = subst (λ k. birth_in k t e ≡ None) z h in ap (λ (o : Option Birth). elim o [ Some b ↦ b | None ↦ birth_from (suc n) [] t ]) h'
birth-push n (x ∷ es) e t h =
    let z : n + length (x ∷ es) ≡ suc n + length es = omega arith in
    let h' : birth_in (suc n + length es) t e ≡ None = subst (λ k. birth_in k t e ≡ None) z h in
    ap (λ (v : Birth). elim (birth_in n t x) [ Some b ↦ b | None ↦ v ]) (birth-push (suc n) es e t h')
