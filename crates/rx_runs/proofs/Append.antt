-- Folds of a longer history, and of the front of a history.
use Rattle.std.proofs.Common.{ℕ, suc, List, [], ◌∷◌, ◌++◌}
use Rattle.rx_rules.specs.declared.entries.Entry.{Entry}
use Rattle.rx_rules.specs.declared.entries.Entry.TheVariants.{Step, Root, Death, Join}
use Rattle.rx_rules.proofs.Common.{Tree, Allowed, made, fold_from, AllAllowed, Event, PlanKept, rest_of}

pub allowed-push : (n : ℕ) (T : Tree) (es : List Entry) (e : Entry) → AllAllowed n T es → Allowed (fold_from n T es) e → AllAllowed n T (es ++ e ∷ [])
allowed-push n T [] e h a = (a, tt)
allowed-push n T (x ∷ es) e h a = (h.0, allowed-push (suc n) (made n T x) es e h.1 a)

pub allowed-first : (n : ℕ) (T : Tree) (es fs : List Entry) → AllAllowed n T (es ++ fs) → AllAllowed n T es
allowed-first n T [] fs h = tt
allowed-first n T (e ∷ es) fs h = (h.0, allowed-first (suc n) (made n T e) es fs h.1)

pub plan-first : (n : ℕ) (xs : List Event) (es fs : List Entry) → PlanKept n xs (es ++ fs) → PlanKept n xs es
plan-first n xs [] fs h = tt
plan-first n xs (Step t act batch ∷ es) fs h = (h.0, plan-first (suc n) xs es fs h.1)
plan-first n xs (Root lost masked thrown ∷ es) fs h = (h.0, plan-first (suc n) xs es fs h.1)
plan-first n xs (Death d ∷ es) fs h = (h.0, plan-first (suc n) (rest_of xs) es fs h.1)
plan-first n xs (Join p ∷ es) fs h = (h.0, plan-first (suc n) (rest_of xs) es fs h.1)
