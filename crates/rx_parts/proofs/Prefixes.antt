-- A legal history begins with legal ones.
use Rattle.std.proofs.Common.{◌≡◌, List, [], ◌∷◌, ◌++◌, refl, subst}
use Rattle.std.proofs.lemmas.List.{map-append}
use Rattle.rx_rules.specs.declared.entries.Entry.{Entry}
use Rattle.rx_rules.specs.declared.entries.Entry.TheVariants.{Step, Root, Death, Join}
use Rattle.rx_rules.proofs.Common.{AllAllowed, opening, PlanKept, plan_of}
use Rattle.rx_runs.proofs.Append.{allowed-first, plan-first}
use Rattle.rx_parts.specs.Ledger.{LedgerItem, main_actor, RootIsLast, entries_of}
use Rattle.rx_parts.specs.Growing.{PrefixLegal}
use Rattle.rx_parts.proofs.Determined.{leads_split}

none_first : {X : Type 0} (xs ys : List X) → xs ++ ys ≡ [] → xs ≡ []
none_first [] ys h = refl
none_first (x ∷ xs) ys h = absurd (let f : ⊥ = cc in f)

root_first : (es fs : List Entry) → RootIsLast (es ++ fs) → RootIsLast es
root_first [] fs h = tt
root_first (Step t act batch ∷ es) fs h = root_first es fs h
root_first (Root lost masked thrown ∷ es) fs h = none_first es fs h
root_first (Death d ∷ es) fs h = root_first es fs h
root_first (Join p ∷ es) fs h = root_first es fs h

pub prefix-legal : PrefixLegal
prefix-legal code U g h legal =
    let e : entries_of (g ++ h) ≡ entries_of g ++ entries_of h = map-append (λ (i : LedgerItem). i.entry) g h in
    let s = leads_split 0 (main_actor code U.places ∷ []) g h legal.actors legal.made in
    record {
      folds = record {
        some = legal.folds.some;
        few = legal.folds.few;
        allowed = allowed-first 0 (opening U.places) (entries_of g) (entries_of h) (subst (AllAllowed 0 (opening U.places)) e legal.folds.allowed);
        plan = plan-first 0 (plan_of U) (entries_of g) (entries_of h) (subst (PlanKept 0 (plan_of U)) e legal.folds.plan);
      };
      last = root_first (entries_of g) (entries_of h) (subst RootIsLast e legal.last);
      actors = s.0;
      made = s.1;
    }
