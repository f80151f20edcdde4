-- Histories in which no entry follows a release of the root.
use Rattle.std.proofs.Common.{List, [], ◌∷◌, ◌++◌, refl}
use Rattle.rx_rules.specs.declared.entries.Entry.{Entry}
use Rattle.rx_rules.specs.declared.entries.Entry.TheVariants.{Step, Root, Death, Join}
use Rattle.rx_rules.proofs.Common.{NoRoot, EndsWithRoot}
use Rattle.rx_runs.specs.Rooted.{RootIsLast}

pub root_last-push : (es : List Entry) (e : Entry) → NoRoot es → RootIsLast (es ++ e ∷ [])
root_last-push [] (Step t act batch) h = tt
root_last-push [] (Root lost masked thrown) h = refl
root_last-push [] (Death d) h = tt
root_last-push [] (Join p) h = tt
root_last-push (Step t act batch ∷ es) e h = root_last-push es e h
root_last-push (Root lost masked thrown ∷ es) e h = absurd h
root_last-push (Death d ∷ es) e h = root_last-push es e h
root_last-push (Join p ∷ es) e h = root_last-push es e h

pub root_last-ends : (es : List Entry) → EndsWithRoot es → RootIsLast es
root_last-ends [] h = absurd h
root_last-ends (Root lost masked thrown ∷ es) h = h
root_last-ends (e ∷ es) h = root_last-ends es h
