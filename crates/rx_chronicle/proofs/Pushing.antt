-- What is read from a history, with one entry more.
use Rattle.std.proofs.Common.{◌≡◌, ℕ, ◌||◌, ◌==◌, Bool, List, [], ◌∷◌, ◌++◌, refl, ap, ◌∙◌}
use Rattle.rx_rules.proofs.Common.{PlaceSet, TaskId, ScopeId, Event, Fault, NoRoot, rest_of}
use Rattle.rx_base.proofs.Bools.{or-assoc}
use Rattle.rx_rules.specs.declared.entries.Act.{Act}
use Rattle.rx_rules.specs.declared.entries.Act.TheVariants.{Open, At as Calls, Spawn, Arrive, Wait, Release, End, Print, Census}
use Rattle.rx_rules.specs.declared.entries.Entry.{Entry}
use Rattle.rx_rules.specs.declared.entries.Entry.TheVariants.{Step, Root, Death, Join}
use Rattle.rx_runs.specs.Segments.{plan_left}
use Rattle.rx_chronicle.specs.Told.{parents_in, openers_in, dies_in}

-- What is left of the plan.

pub left-root : (ks : List Event) (es : List Entry) (lost : PlaceSet) (masked : ℕ) (thrown : List Fault) → plan_left ks (es ++ Root lost masked thrown ∷ []) ≡ plan_left ks es
left-root ks [] lost masked thrown = refl
left-root ks (Step u a b ∷ es) lost masked thrown = left-root ks es lost masked thrown
left-root ks (Root l m f ∷ es) lost masked thrown = left-root ks es lost masked thrown
left-root ks (Death d ∷ es) lost masked thrown = left-root (rest_of ks) es lost masked thrown
left-root ks (Join d ∷ es) lost masked thrown = left-root (rest_of ks) es lost masked thrown

-- The root.

pub still_open-step : (es : List Entry) (t : TaskId) (act : Act) (batch : List (List ℕ)) → NoRoot es → NoRoot (es ++ Step t act batch ∷ [])
still_open-step [] t act batch h = tt
still_open-step (Step u a b ∷ es) t act batch h = still_open-step es t act batch h
still_open-step (Root lost masked thrown ∷ es) t act batch h = h
still_open-step (Death e ∷ es) t act batch h = still_open-step es t act batch h
still_open-step (Join e ∷ es) t act batch h = still_open-step es t act batch h

-- Parents, openers and deaths.

pub parents-push : (es : List Entry) (e : Entry) → parents_in (es ++ e ∷ []) ≡ parents_in es ++ parents_in (e ∷ [])
parents-push [] e = refl
parents-push (Step t (Open s r path) batch ∷ es) e = ap (λ (ps : List ScopeId). r ∷ ps) (parents-push es e)
parents-push (Step t (Calls from to s r callee path) batch ∷ es) e = ap (λ (ps : List ScopeId). r ∷ ps) (parents-push es e)
parents-push (Step t (Spawn child s from to path) batch ∷ es) e = parents-push es e
parents-push (Step t (Arrive p) batch ∷ es) e = parents-push es e
parents-push (Step t (Wait s thrown) batch ∷ es) e = parents-push es e
parents-push (Step t (Release s lost masked thrown) batch ∷ es) e = parents-push es e
parents-push (Step t (End thrown) batch ∷ es) e = parents-push es e
parents-push (Step t (Print value path) batch ∷ es) e = parents-push es e
parents-push (Step t (Census places path) batch ∷ es) e = parents-push es e
parents-push (Root lost masked thrown ∷ es) e = parents-push es e
parents-push (Death d ∷ es) e = parents-push es e
parents-push (Join d ∷ es) e = parents-push es e

pub openers-push : (es : List Entry) (e : Entry) → openers_in (es ++ e ∷ []) ≡ openers_in es ++ openers_in (e ∷ [])
openers-push [] e = refl
openers-push (Step t (Open s r path) batch ∷ es) e = ap (λ (os : List TaskId). t ∷ os) (openers-push es e)
openers-push (Step t (Calls from to s r callee path) batch ∷ es) e = ap (λ (os : List TaskId). t ∷ os) (openers-push es e)
openers-push (Step t (Spawn child s from to path) batch ∷ es) e = openers-push es e
openers-push (Step t (Arrive p) batch ∷ es) e = openers-push es e
openers-push (Step t (Wait s thrown) batch ∷ es) e = openers-push es e
openers-push (Step t (Release s lost masked thrown) batch ∷ es) e = openers-push es e
openers-push (Step t (End thrown) batch ∷ es) e = openers-push es e
openers-push (Step t (Print value path) batch ∷ es) e = openers-push es e
openers-push (Step t (Census places path) batch ∷ es) e = openers-push es e
openers-push (Root lost masked thrown ∷ es) e = openers-push es e
openers-push (Death d ∷ es) e = openers-push es e
openers-push (Join d ∷ es) e = openers-push es e

pub dies-push : (p : ℕ) (es : List Entry) (e : Entry) → dies_in p (es ++ e ∷ []) ≡ (dies_in p es || dies_in p (e ∷ []))
dies-push p [] e = refl
dies-push p (Step t act batch ∷ es) e = dies-push p es e
dies-push p (Root lost masked thrown ∷ es) e = dies-push p es e
dies-push p (Death d ∷ es) e = ap (λ (b : Bool). (d.0 == p) || b) (dies-push p es e) ∙ or-assoc (d.0 == p) (dies_in p es) (dies_in p (e ∷ []))
dies-push p (Join q ∷ es) e = dies-push p es e
