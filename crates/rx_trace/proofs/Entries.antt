-- The words of entries are read as the entries that they tell.
use Rattle.std.proofs.Common.{◌≡◌, ℕ, ◌<◌, ◌≤◌, ◌^◌, List, [], ◌∷◌, ◌++◌, refl, ap, sym, ◌∙◌, subst, arith, append-nil, append_assoc, None, option_map, codes, ℤ, FitsSigned}
use Rattle.std.specs.Int.{w64}
use Rattle.std.specs.List.{AllByRecursion}
use Rattle.rx_rules.proofs.Common.{PlaceId, TaskId, ScopeId, PlaceSet, Fault}
use Rattle.rx_base.proofs.Elements.{flat4}
use Rattle.rx_rules.specs.declared.entries.Act.{Act}
use Rattle.rx_rules.specs.declared.entries.Act.TheVariants.{Open, At, Spawn, Arrive, Wait, Release, End, Print, Census}
use Rattle.rx_rules.specs.declared.entries.Entry.{Entry}
use Rattle.rx_rules.specs.declared.entries.Entry.TheVariants.{Step, Root, Death, Join}
use Rattle.rx_trace.specs.EntryLines.{act_word, act_fields, entry_text}
use Rattle.rx_trace.specs.Fields.{natural_field, number_field, path_field, place_field, task_field, scope_field, fault_field}
use Rattle.rx_trace.specs.Parts.{lost_part, masked_part, thrown_part, batch_part}
use Rattle.rx_trace.specs.Limits.{IsShort, FitsPath, FitsFault, FitsAct, FitsEntry}
use Rattle.rx_fields.specs.Words.{fields}
use Rattle.rx_fields.specs.Inside.Readers.{Reader, followed, done, either}
use Rattle.rx_fields.specs.Inside.FieldWords.{number_below, number_of, place_of, task_spelt, scope_spelt, path_of, fault_of, count_of, number_at, place_at, task_at, scope_at, path_at, count_at}
use Rattle.rx_fields.specs.Inside.PartWords.{lost_read, masked_read, thrown_at, batch_at, nested_at, way_at, outcome_at}
use Rattle.rx_trace.specs.Inside.EntryWords.{open_at, at_at, spawn_at, arrive_at, wait_at, release_at, end_at, print_at, census_at, step_at, root_at, death_at, join_at, entry_at}
use Rattle.rx_fields.proofs.Cuts.{Plain, all-map}
use Rattle.rx_trace.proofs.Faults.{plain-word-is, fault-item, fault-takes}
use Rattle.rx_trace.proofs.ReadFields.{place-item, place-takes, task-item, task-takes, scope-item, scope-takes, path-item, path-takes, value-item, value-takes, IsCount, count-item, count-takes, one-word, word-again}
use Rattle.rx_fields.proofs.Figures.{no-number}
use Rattle.rx_trace.proofs.Losses.{lost-takes, lost-again}
use Rattle.rx_trace.proofs.Masks.{masked-take, Unmasked, masked-again}
use Rattle.rx_trace.proofs.Spelt.{Takes, takes-done, takes-followed, takes-keyed, takes-either, takes-part, Again, Any, again-as, again-done, again-keyed, again-kind, again-there, again-followed, before-followed, again-field, NotFirst, Item, AfterPart, Starts, AgainPart, again-part, again-last}

abbrev IsScope : ScopeId → Type 0
IsScope s = IsShort s.0

abbrev IsTask : TaskId → Type 0
IsTask t = IsShort t.0

abbrev IsPlace : ℕ → PlaceId → Type 0
IsPlace places p = p.0 < places

abbrev IsValue : ℤ → Type 0
IsValue v = FitsSigned w64 v

abbrev pub Told : {A : Type 0} → (A → List ℕ) → (A → Type 0) → A → List ℕ → Type 0
Told spell P a t = (t ≡ spell a) × P a

pub scope-one : Takes scope_at (Told scope_field IsScope)
scope-one = one-word scope_spelt scope_field IsScope scope-takes

pub task-one : Takes task_at (Told task_field IsTask)
task-one = one-word task_spelt task_field IsTask task-takes

pub place-one : (places : ℕ) → Takes (place_at places) (Told place_field (IsPlace places))
place-one places = one-word (place_of places) place_field (IsPlace places) (place-takes places)

pub path-one : Takes path_at (Told path_field FitsPath)
path-one = one-word path_of path_field FitsPath path-takes

pub value-one : Takes number_at (Told number_field IsValue)
value-one = one-word number_of number_field IsValue value-takes

thrown-one : (places : ℕ) → Takes (thrown_at places) (Told thrown_part (AllByRecursion (FitsFault places)))
thrown-one places = takes-part (codes "thrown") (fault_of places) fault_field (FitsFault places) (fault-takes places)

batch-one : Takes batch_at (Told batch_part (AllByRecursion FitsPath))
batch-one = takes-part (codes "|") path_of path_field FitsPath path-takes

-- an act of this word, by its fields
abbrev IsAct : ℕ → List ℕ → Act → List ℕ → Type 0
IsAct places key act t = (t ≡ act_fields act) × (FitsAct places act × (32 ∷ key ≡ act_word act))

flat2 : (a b : List ℕ) → a ++ (b ++ []) ≡ a ++ b
flat2 a b = simp append-nil

flat-nested : (s i r : List ℕ) → s ++ (i ++ (r ++ [])) ≡ s ++ (i ++ r)
flat-nested s i r = simp append-nil

flat-open : (s i r p : List ℕ) → (s ++ (i ++ r)) ++ (p ++ []) ≡ ((s ++ i) ++ r) ++ p
flat-open s i r p = simp (append_assoc, append-nil)

flat-at : (s i r t f o p : List ℕ) → (s ++ (i ++ r)) ++ (t ++ ((f ++ o) ++ (p ++ []))) ≡ ((((s ++ i) ++ r) ++ t) ++ (f ++ o)) ++ p
flat-at s i r t f o p = simp (append_assoc, append-nil)

flat-spawn : (t i s f o p : List ℕ) → t ++ (i ++ (s ++ ((f ++ o) ++ (p ++ [])))) ≡ (((t ++ i) ++ s) ++ (f ++ o)) ++ p
flat-spawn t i s f o p = simp (append_assoc, append-nil)

flat-release : (s l m t : List ℕ) → s ++ ((l ++ (m ++ t)) ++ []) ≡ s ++ ((l ++ m) ++ t)
flat-release s l m t = simp (append_assoc, append-nil)

-- a scope and the one inside which it stands
abbrev nested_field : ScopeId × ScopeId → List ℕ
nested_field n = scope_field n.0 ++ (codes " in" ++ scope_field n.1)

abbrev AreScopes : ScopeId × ScopeId → Type 0
AreScopes n = IsScope n.0 × IsScope n.1

nested-one : Takes nested_at (Told nested_field AreScopes)
nested-one =
    takes-followed scope_at _ scope_field IsScope (Told nested_field AreScopes) scope-one (λ scope a.
    takes-keyed (codes "in") _ _ (
    takes-followed scope_at _ scope_field IsScope _ scope-one (λ parent b.
    takes-done (scope, parent) _ (flat-nested (scope_field scope) (codes " in") (scope_field parent), (a, b)))))

-- from where, and where to
abbrev way_text : PlaceId × PlaceId → List ℕ
way_text w = place_field w.0 ++ place_field w.1

abbrev ArePlaces : ℕ → PlaceId × PlaceId → Type 0
ArePlaces places w = IsPlace places w.0 × IsPlace places w.1

way-one : (places : ℕ) → Takes (way_at places) (Told way_text (ArePlaces places))
way-one places =
    takes-followed (place_at places) _ place_field (IsPlace places) (Told way_text (ArePlaces places)) (place-one places) (λ from a.
    takes-followed (place_at places) _ place_field (IsPlace places) _ (place-one places) (λ to b.
    takes-done (from, to) _ (flat2 (place_field from) (place_field to), (a, b))))

-- what a release names
abbrev outcome_text : PlaceSet × ℕ × List Fault → List ℕ
outcome_text o = lost_part o.0 ++ (masked_part o.1 ++ thrown_part o.2)

abbrev IsOutcome : ℕ → PlaceSet × ℕ × List Fault → Type 0
IsOutcome places o = (o.0.0 < 2 ^ places) × IsShort o.1 × AllByRecursion (FitsFault places) o.2

outcome-one : (places : ℕ) → places ≤ 16 → Takes (outcome_at places) (Told outcome_text (IsOutcome places))
outcome-one places few =
    takes-followed (lost_read places) _ lost_part (λ s. s.0 < 2 ^ places) (Told outcome_text (IsOutcome places)) (lost-takes places few) (λ lost a.
    takes-followed masked_read _ masked_part IsShort _ masked-take (λ masked b.
    takes-followed (thrown_at places) _ thrown_part (AllByRecursion (FitsFault places)) _ (thrown-one places) (λ thrown c.
    takes-done (lost, masked, thrown) _ (flat-nested (lost_part lost) (masked_part masked) (thrown_part thrown), (a, b, c)))))

open-takes : (places : ℕ) → Takes open_at (IsAct places (codes "open"))
open-takes places =
    takes-followed nested_at _ nested_field AreScopes (IsAct places (codes "open")) nested-one (λ n a.
    takes-followed path_at _ path_field FitsPath _ path-one (λ path b.
    takes-done (Open n.0 n.1 path) _ (flat-open (scope_field n.0) (codes " in") (scope_field n.1) (path_field path), ((a.0, a.1, b), refl))))

at-takes : (places : ℕ) → Takes (at_at places) (IsAct places (codes "at"))
at-takes places =
    takes-followed nested_at _ nested_field AreScopes (IsAct places (codes "at")) nested-one (λ n a.
    takes-followed task_at _ task_field IsTask _ task-one (λ callee b.
    takes-followed (way_at places) _ way_text (ArePlaces places) _ (way-one places) (λ w c.
    takes-followed path_at _ path_field FitsPath _ path-one (λ path d.
    takes-done (At w.0 w.1 n.0 n.1 callee path) _
    (flat-at (scope_field n.0) (codes " in") (scope_field n.1) (task_field callee) (place_field w.0) (place_field w.1) (path_field path), ((a.0, a.1, b, c.0, c.1, d), refl))))))

spawn-takes : (places : ℕ) → Takes (spawn_at places) (IsAct places (codes "spawn"))
spawn-takes places =
    takes-followed task_at _ task_field IsTask (IsAct places (codes "spawn")) task-one (λ child a.
    takes-keyed (codes "in") _ _ (
    takes-followed scope_at _ scope_field IsScope _ scope-one (λ scope b.
    takes-followed (way_at places) _ way_text (ArePlaces places) _ (way-one places) (λ w c.
    takes-followed path_at _ path_field FitsPath _ path-one (λ path d.
    takes-done (Spawn child scope w.0 w.1 path) _
    (flat-spawn (task_field child) (codes " in") (scope_field scope) (place_field w.0) (place_field w.1) (path_field path), ((a, b, c.0, c.1, d), refl)))))))

arrive-takes : (places : ℕ) → Takes (arrive_at places) (IsAct places (codes "arrive"))
arrive-takes places =
    takes-followed (place_at places) _ place_field (IsPlace places) (IsAct places (codes "arrive")) (place-one places) (λ place a.
    takes-done (Arrive place) _ (append-nil (place_field place), (a, refl)))

wait-takes : (places : ℕ) → Takes (wait_at places) (IsAct places (codes "wait"))
wait-takes places =
    takes-followed scope_at _ scope_field IsScope (IsAct places (codes "wait")) scope-one (λ scope a.
    takes-followed (thrown_at places) _ thrown_part (AllByRecursion (FitsFault places)) _ (thrown-one places) (λ thrown b.
    takes-done (Wait scope thrown) _ (flat2 (scope_field scope) (thrown_part thrown), ((a, b), refl))))

release-takes : (places : ℕ) → places ≤ 16 → Takes (release_at places) (IsAct places (codes "release"))
release-takes places few =
    takes-followed scope_at _ scope_field IsScope (IsAct places (codes "release")) scope-one (λ scope a.
    takes-followed (outcome_at places) _ outcome_text (IsOutcome places) _ (outcome-one places few) (λ o b.
    takes-done (Release scope o.0 o.1 o.2) _ (flat-release (scope_field scope) (lost_part o.0) (masked_part o.1) (thrown_part o.2), ((a, b.0, b.1, b.2), refl))))

end-takes : (places : ℕ) → Takes (end_at places) (IsAct places (codes "end"))
end-takes places =
    takes-followed (thrown_at places) _ thrown_part (AllByRecursion (FitsFault places)) (IsAct places (codes "end")) (thrown-one places) (λ thrown a.
    takes-done (End thrown) _ (append-nil (thrown_part thrown), (a, refl)))

print-takes : (places : ℕ) → Takes print_at (IsAct places (codes "print"))
print-takes places =
    takes-followed number_at _ number_field IsValue (IsAct places (codes "print")) value-one (λ value a.
    takes-followed path_at _ path_field FitsPath _ path-one (λ path b.
    takes-done (Print value path) _ (flat2 (number_field value) (path_field path), ((a, b), refl))))

census-takes : (places : ℕ) → Takes census_at (IsAct places (codes "census"))
census-takes places =
    takes-followed (count_at 16) _ natural_field (IsCount 16) (IsAct places (codes "census")) (one-word (count_of 16) natural_field (IsCount 16) (count-takes 16)) (λ count a.
    takes-followed path_at _ path_field FitsPath _ path-one (λ path b.
    takes-done (Census count path) _ (flat2 (natural_field count) (path_field path), ((a.0, a.1, b), refl))))

-- an entry, by its text after this word
abbrev IsAfter : ℕ → List ℕ → Entry → List ℕ → Type 0
IsAfter places key e t = ((32 ∷ key) ++ t ≡ entry_text e) × FitsEntry places e

step-takes : (places : ℕ) (key : List ℕ) (act_at : Reader Act) → Takes act_at (IsAct places key) → Takes (step_at act_at) (IsAfter places key)
step-takes places key act_at h =
    takes-followed task_at _ task_field IsTask (IsAfter places key) task-one (λ task a.
    takes-followed act_at _ act_fields (λ act. FitsAct places act × (32 ∷ key ≡ act_word act)) _ h (λ act b.
    takes-followed batch_at _ batch_part (AllByRecursion FitsPath) _ batch-one (λ batch c.
    takes-done (Step task act batch) _
    (flat4 (32 ∷ key) (task_field task) (act_fields act) (batch_part batch) ∙ ap (λ w. ((w ++ task_field task) ++ act_fields act) ++ batch_part batch) b.1, (a, b.0, c)))))

root-takes : (places : ℕ) → places ≤ 16 → Takes (root_at places) (λ e t. IsAfter places (codes "release") e ((32 ∷ codes "host") ++ t))
root-takes places few =
    takes-keyed (codes "s0") _ (λ e t. IsAfter places (codes "release") e ((32 ∷ codes "host") ++ t)) (
    takes-followed (outcome_at places) _ outcome_text (IsOutcome places) _ (outcome-one places few) (λ o a.
    takes-done (Root o.0 o.1 o.2) _ (flat-release (codes " release host s0") (lost_part o.0) (masked_part o.1) (thrown_part o.2), (a.0, a.1, a.2))))

death-takes : (places : ℕ) → Takes (death_at places) (IsAfter places (codes "death"))
death-takes places =
    takes-followed (place_at places) _ place_field (IsPlace places) (IsAfter places (codes "death")) (place-one places) (λ place a.
    takes-done (Death place) _ (flat2 (codes " death") (place_field place), a))

join-takes : (places : ℕ) → Takes (join_at places) (IsAfter places (codes "join"))
join-takes places =
    takes-followed (place_at places) _ place_field (IsPlace places) (IsAfter places (codes "join")) (place-one places) (λ place a.
    takes-done (Join place) _ (flat2 (codes " join") (place_field place), a))

abbrev pub IsEntry : ℕ → Entry → List ℕ → Type 0
IsEntry places e t = (t ≡ entry_text e) × FitsEntry places e

-- what is read as an entry is its text
pub entry-takes : (places : ℕ) → places ≤ 16 → Takes (entry_at places) (IsEntry places)
entry-takes places few =
    let S : Entry → List ℕ → Type 0 = IsEntry places in
    takes-either (codes "open") _ _ S (step-takes places (codes "open") open_at (open-takes places)) (
    takes-either (codes "at") _ _ S (step-takes places (codes "at") (at_at places) (at-takes places)) (
    takes-either (codes "spawn") _ _ S (step-takes places (codes "spawn") (spawn_at places) (spawn-takes places)) (
    takes-either (codes "arrive") _ _ S (step-takes places (codes "arrive") (arrive_at places) (arrive-takes places)) (
    takes-either (codes "wait") _ _ S (step-takes places (codes "wait") (wait_at places) (wait-takes places)) (
    takes-either (codes "release") _ _ S (
    takes-either (codes "host") _ _ (IsAfter places (codes "release")) (root-takes places few) (step-takes places (codes "release") (release_at places) (release-takes places few))) (
    takes-either (codes "end") _ _ S (step-takes places (codes "end") (end_at places) (end-takes places)) (
    takes-either (codes "print") _ _ S (step-takes places (codes "print") print_at (print-takes places)) (
    takes-either (codes "census") _ _ S (step-takes places (codes "census") census_at (census-takes places)) (
    takes-either (codes "death") _ _ S (death-takes places) (
    takes-keyed (codes "join") _ S (join-takes places)))))))))))

-- nothing, or a batch
abbrev OnlyBatch : List (List ℕ) → Type 0
OnlyBatch [] = Unit {0}
OnlyBatch (w ∷ ws) = w ≡ codes "|"

-- nothing
abbrev pub IsEnd : List (List ℕ) → Type 0
IsEnd rest = rest ≡ []

end-only : (rest : List (List ℕ)) → IsEnd rest → OnlyBatch rest
end-only [] e = tt
end-only (w ∷ ws) e = cc

only-thrown : (places : ℕ) (rest : List (List ℕ)) → OnlyBatch rest → AfterPart (codes "thrown") (fault_of places) rest
only-thrown places [] o = tt
only-thrown places (w ∷ ws) o = subst (λ (v : List ℕ). AfterPart (codes "thrown") (fault_of places) (v ∷ ws)) (sym o) (refl, refl)

no-place : (places : ℕ) (w : List ℕ) → places ≤ 16 → number_below places w ≡ None → place_of places w ≡ None
no-place places w few e = ap (option_map (λ n. record { 0 = n })) e

-- after places that were lost comes nothing of them
only-lost : (places : ℕ) (front rest : List (List ℕ)) → places ≤ 16 → Starts (codes "thrown") front → OnlyBatch rest → AfterPart (codes "lost") (place_of places) (front ++ rest)
only-lost places [] [] few s o = tt
only-lost places [] (w ∷ ws) few s o = subst (λ (v : List ℕ). AfterPart (codes "lost") (place_of places) (v ∷ ws)) (sym o) (refl, no-place places (codes "|") few (no-number places (codes "|") (omega arith) refl))
only-lost places (w ∷ front) rest few s o =
    subst (λ (v : List ℕ). AfterPart (codes "lost") (place_of places) (v ∷ (front ++ rest))) (sym s) (refl, no-place places (codes "thrown") few (no-number places (codes "thrown") (omega arith) refl))

unmasked : (front rest : List (List ℕ)) → Starts (codes "thrown") front → OnlyBatch rest → Unmasked (front ++ rest)
unmasked [] [] s o = tt
unmasked [] (w ∷ ws) s o = subst (λ (v : List ℕ). Unmasked (v ∷ ws)) (sym o) refl
unmasked (w ∷ front) rest s o = subst (λ (v : List ℕ). Unmasked (v ∷ (front ++ rest))) (sym s) refl

-- the same where a number of masked faults may come between
then-masked : (places : ℕ) (number front rest : List (List ℕ)) → places ≤ 16 → Starts (codes "masked") number → Starts (codes "thrown") front → OnlyBatch rest → AfterPart (codes "lost") (place_of places) (number ++ (front ++ rest))
then-masked places [] front rest few m s o = only-lost places front rest few s o
then-masked places (w ∷ number) front rest few m s o =
    subst (λ (v : List ℕ). AfterPart (codes "lost") (place_of places) (v ∷ (number ++ (front ++ rest)))) (sym m) (refl, no-place places (codes "masked") few (no-number places (codes "masked") (omega arith) refl))

end-batch : (rest : List (List ℕ)) → IsEnd rest → AfterPart (codes "|") path_of rest
end-batch [] e = tt
end-batch (w ∷ ws) e = cc

batch-only : (front rest : List (List ℕ)) → Starts (codes "|") front → IsEnd rest → OnlyBatch (front ++ rest)
batch-only [] rest s e = end-only rest e
batch-only (w ∷ front) rest s e = s

scope-again : (s : ScopeId) → IsScope s → Again scope_at s (scope_field s) Any
scope-again s fits = word-again scope_spelt scope_field s (scope-item s fits)

pub task-again : (t : TaskId) → IsTask t → Again task_at t (task_field t) Any
task-again t fits = word-again task_spelt task_field t (task-item t fits)

place-once : (places : ℕ) (p : PlaceId) → places ≤ 16 → IsPlace places p → Again (place_at places) p (place_field p) Any
place-once places p few fits = word-again (place_of places) place_field p (place-item places p few fits)

pub path-again : (p : List ℕ) → FitsPath p → Again path_at p (path_field p) Any
path-again p fits = word-again path_of path_field p (path-item p fits)

pub value-again : (v : ℤ) → IsValue v → Again number_at v (number_field v) Any
value-again v fits = word-again number_of number_field v (value-item v fits)

thrown-again : (places : ℕ) (thrown : List Fault) → places ≤ 16 → AllByRecursion (FitsFault places) thrown → AgainPart (thrown_at places) thrown (thrown_part thrown) (codes "thrown") (AfterPart (codes "thrown") (fault_of places))
thrown-again places thrown few fits =
    again-part (codes "thrown") (fault_of places) fault_field thrown (plain-word-is (codes "thrown") refl)
    (all-map (FitsFault places) (Item (fault_of places) fault_field) (λ f fit. fault-item places f few fit) thrown fits)

batch-again : (batch : List (List ℕ)) → AllByRecursion FitsPath batch → AgainPart batch_at batch (batch_part batch) (codes "|") (AfterPart (codes "|") path_of)
batch-again batch fits =
    again-part (codes "|") path_of path_field batch (plain-word-is (codes "|") refl)
    (all-map FitsPath (Item path_of path_field) path-item batch fits)

nested-again : (scope parent : ScopeId) → IsScope scope → IsScope parent → Again nested_at (scope, parent) (nested_field (scope, parent)) Any
nested-again scope parent a b =
    let n : ScopeId × ScopeId = (scope, parent) in
    again-as nested_at n _ _ Any Any (flat-nested (scope_field scope) (codes " in") (scope_field parent)) (λ rest o. o) (
    again-field scope_at _ scope n (scope_field scope) _ Any (scope-again scope a) (
    again-keyed (codes "in") _ n _ Any (plain-word-is (codes "in") refl) (
    again-field scope_at _ parent n (scope_field parent) _ Any (scope-again parent b) (
    again-done n Any))))

way-again : (places : ℕ) (from to : PlaceId) → places ≤ 16 → IsPlace places from → IsPlace places to → Again (way_at places) (from, to) (way_text (from, to)) Any
way-again places from to few a b =
    let w : PlaceId × PlaceId = (from, to) in
    again-as (way_at places) w _ _ Any Any (flat2 (place_field from) (place_field to)) (λ rest o. o) (
    again-field (place_at places) _ from w (place_field from) _ Any (place-once places from few a) (
    again-field (place_at places) _ to w (place_field to) _ Any (place-once places to few b) (
    again-done w Any)))

open-again : (places : ℕ) (scope parent : ScopeId) (path : List ℕ) → FitsAct places (Open scope parent path) → Again open_at (Open scope parent path) (act_fields (Open scope parent path)) OnlyBatch
open-again places scope parent path fits =
    let act : Act = Open scope parent path in
    again-as open_at act _ _ Any OnlyBatch (flat-open (scope_field scope) (codes " in") (scope_field parent) (path_field path)) (λ rest o. tt) (
    again-field nested_at _ (scope, parent) act (nested_field (scope, parent)) _ Any (nested-again scope parent fits.0 fits.1) (
    again-field path_at _ path act (path_field path) _ Any (path-again path fits.2) (
    again-done act Any)))

at-again : (places : ℕ) (scope parent : ScopeId) (callee : TaskId) (from to : PlaceId) (path : List ℕ) → places ≤ 16 → FitsAct places (At from to scope parent callee path) → Again (at_at places) (At from to scope parent callee path) (act_fields (At from to scope parent callee path)) OnlyBatch
at-again places scope parent callee from to path few fits =
    let act : Act = At from to scope parent callee path in
    again-as (at_at places) act _ _ Any OnlyBatch (flat-at (scope_field scope) (codes " in") (scope_field parent) (task_field callee) (place_field from) (place_field to) (path_field path)) (λ rest o. tt) (
    again-field nested_at _ (scope, parent) act (nested_field (scope, parent)) _ Any (nested-again scope parent fits.0 fits.1) (
    again-field task_at _ callee act (task_field callee) _ Any (task-again callee fits.2) (
    again-field (way_at places) _ (from, to) act (way_text (from, to)) _ Any (way-again places from to few fits.3 fits.4) (
    again-field path_at _ path act (path_field path) _ Any (path-again path fits.5) (
    again-done act Any)))))

spawn-again : (places : ℕ) (child : TaskId) (scope : ScopeId) (from to : PlaceId) (path : List ℕ) → places ≤ 16 → FitsAct places (Spawn child scope from to path) → Again (spawn_at places) (Spawn child scope from to path) (act_fields (Spawn child scope from to path)) OnlyBatch
spawn-again places child scope from to path few fits =
    let act : Act = Spawn child scope from to path in
    again-as (spawn_at places) act _ _ Any OnlyBatch (flat-spawn (task_field child) (codes " in") (scope_field scope) (place_field from) (place_field to) (path_field path)) (λ rest o. tt) (
    again-field task_at _ child act (task_field child) _ Any (task-again child fits.0) (
    again-keyed (codes "in") _ act _ Any (plain-word-is (codes "in") refl) (
    again-field scope_at _ scope act (scope_field scope) _ Any (scope-again scope fits.1) (
    again-field (way_at places) _ (from, to) act (way_text (from, to)) _ Any (way-again places from to few fits.2 fits.3) (
    again-field path_at _ path act (path_field path) _ Any (path-again path fits.4) (
    again-done act Any))))))

arrive-again : (places : ℕ) (place : PlaceId) → places ≤ 16 → place.0 < places → Again (arrive_at places) (Arrive place) (act_fields (Arrive place)) OnlyBatch
arrive-again places place few fits =
    again-as (arrive_at places) (Arrive place) _ _ Any OnlyBatch (append-nil (place_field place)) (λ rest o. tt) (
    again-field (place_at places) _ place (Arrive place) (place_field place) _ Any (place-once places place few fits) (
    again-done (Arrive place) Any))

print-again : (places : ℕ) (value : ℤ) (path : List ℕ) → FitsAct places (Print value path) → Again print_at (Print value path) (act_fields (Print value path)) OnlyBatch
print-again places value path fits =
    again-as print_at (Print value path) _ _ Any OnlyBatch (flat2 (number_field value) (path_field path)) (λ rest o. tt) (
    again-field number_at _ value (Print value path) (number_field value) _ Any (value-again value fits.0) (
    again-field path_at _ path (Print value path) (path_field path) _ Any (path-again path fits.1) (
    again-done (Print value path) Any)))

census-again : (places count : ℕ) (path : List ℕ) → FitsAct places (Census count path) → Again census_at (Census count path) (act_fields (Census count path)) OnlyBatch
census-again places count path fits =
    again-as census_at (Census count path) _ _ Any OnlyBatch (flat2 (natural_field count) (path_field path)) (λ rest o. tt) (
    again-field (count_at 16) _ count (Census count path) (natural_field count) _ Any (word-again (count_of 16) natural_field count (count-item 16 count (omega arith) (fits.0, fits.1))) (
    again-field path_at _ path (Census count path) (path_field path) _ Any (path-again path fits.2) (
    again-done (Census count path) Any)))

abbrev waiting : ScopeId → List Fault → Act
waiting scope thrown = Wait scope thrown

wait-again : (places : ℕ) (scope : ScopeId) (thrown : List Fault) → places ≤ 16 → FitsAct places (Wait scope thrown) → Again (wait_at places) (Wait scope thrown) (act_fields (Wait scope thrown)) OnlyBatch
wait-again places scope thrown few fits =
    let last = again-last (thrown_at places) (waiting scope) thrown _ _ _ OnlyBatch (only-thrown places) (thrown-again places thrown few fits.1) in
    again-field scope_at _ scope (Wait scope thrown) (scope_field scope) (thrown_part thrown) OnlyBatch (scope-again scope fits.0) last.again

abbrev ending : List Fault → Act
ending thrown = End thrown

end-again : (places : ℕ) (thrown : List Fault) → places ≤ 16 → FitsAct places (End thrown) → Again (end_at places) (End thrown) (act_fields (End thrown)) OnlyBatch
end-again places thrown few fits = (again-last (thrown_at places) ending thrown _ _ _ OnlyBatch (only-thrown places) (thrown-again places thrown few fits)).again

outcome-again : (places : ℕ) (lost : PlaceSet) (masked : ℕ) (thrown : List Fault) (M : List (List ℕ) → Type 0) → ((rest : List (List ℕ)) → M rest → OnlyBatch rest) → places ≤ 16 → IsOutcome places (lost, masked, thrown) → Again (outcome_at places) (lost, masked, thrown) (outcome_text (lost, masked, thrown)) M
outcome-again places lost masked thrown M only few fits =
    let o : PlaceSet × ℕ × List Fault = (lost, masked, thrown) in
    let last = again-last (thrown_at places) (λ t. (lost, masked, t)) thrown _ _ _ M (λ rest m. only-thrown places rest (only rest m)) (thrown-again places thrown few fits.2) in
    let number = masked-again masked fits.1 in
    let more = before-followed masked_read (λ k. followed (thrown_at places) (λ t. done (lost, k, t))) masked o (masked_part masked) (thrown_part thrown) (AfterPart (codes "lost") (place_of places)) Unmasked M number.again last.again
    (λ rest m. unmasked last.again.front rest last.starts (only rest m))
    (λ rest m. then-masked places number.again.front last.again.front rest few number.starts last.starts (only rest m)) in
    again-followed (lost_read places) _ lost o (lost_part lost) _ _ M (lost-again places lost few fits.0) more.again more.before

release-again : (places : ℕ) (scope : ScopeId) (lost : PlaceSet) (masked : ℕ) (thrown : List Fault) → places ≤ 16 → FitsAct places (Release scope lost masked thrown) → Again (release_at places) (Release scope lost masked thrown) (act_fields (Release scope lost masked thrown)) OnlyBatch
release-again places scope lost masked thrown few fits =
    let act : Act = Release scope lost masked thrown in
    again-as (release_at places) act _ _ OnlyBatch OnlyBatch (flat-release (scope_field scope) (lost_part lost) (masked_part masked) (thrown_part thrown)) (λ rest o. o) (
    again-field scope_at _ scope act (scope_field scope) _ OnlyBatch (scope-again scope fits.0) (
    again-followed (outcome_at places) _ (lost, masked, thrown) act (outcome_text (lost, masked, thrown)) [] OnlyBatch OnlyBatch (outcome-again places lost masked thrown OnlyBatch (λ rest o. o) few (fits.1, fits.2, fits.3))
    (record { front = []; spelled = refl; plain = tt; reads = λ rest n. refl }) (λ rest o. o)))

abbrev stepped : TaskId → Act → List (List ℕ) → Entry
stepped task act batch = Step task act batch

-- a step, after its word
step-again : (places : ℕ) (act_at : Reader Act) (task : TaskId) (act : Act) (batch : List (List ℕ)) → IsTask task → AllByRecursion FitsPath batch → Again act_at act (act_fields act) OnlyBatch → Again (step_at act_at) (Step task act batch) (task_field task ++ (act_fields act ++ batch_part batch)) IsEnd
step-again places act_at task act batch short fits h =
    let last = again-last batch_at (stepped task act) batch _ _ _ IsEnd end-batch (batch-again batch fits) in
    again-field task_at _ task (Step task act batch) (task_field task) _ IsEnd (task-again task short) (
    again-followed act_at _ act (Step task act batch) (act_fields act) (batch_part batch) OnlyBatch IsEnd h last.again
    (λ rest e. batch-only last.again.front rest last.starts e))

flat-step : (w t a b : List ℕ) → w ++ (t ++ (a ++ b)) ≡ ((w ++ t) ++ a) ++ b
flat-step w t a b = simp append_assoc

not-host : (front : List (List ℕ)) (x : List ℕ) → fields front ≡ 32 ∷ 116 ∷ x → NotFirst (codes "host") front
not-host [] x e = cc
not-host ([] ∷ ws) x e = refl
not-host ((b ∷ bs) ∷ ws) x e =
    let same : b ≡ 116 = second _ _ _ _ _ _ e in
    subst (λ c. NotFirst (codes "host") ((c ∷ bs) ∷ ws)) (sym same) refl
  where
    second : (a b c d : ℕ) (x y : List ℕ) → a ∷ b ∷ x ≡ c ∷ d ∷ y → b ≡ d
    second a b c d x y e = cc

root-again : (places : ℕ) (lost : PlaceSet) (masked : ℕ) (thrown : List Fault) → places ≤ 16 → FitsEntry places (Root lost masked thrown) → Again (root_at places) (Root lost masked thrown) (codes " s0" ++ (outcome_text (lost, masked, thrown) ++ [])) IsEnd
root-again places lost masked thrown few fits =
    let e : Entry = Root lost masked thrown in
    again-keyed (codes "s0") _ e _ IsEnd (plain-word-is (codes "s0") refl) (
    again-followed (outcome_at places) _ (lost, masked, thrown) e (outcome_text (lost, masked, thrown)) [] IsEnd IsEnd (outcome-again places lost masked thrown IsEnd end-only few (fits.0, fits.1, fits.2))
    (record { front = []; spelled = refl; plain = tt; reads = λ rest n. refl }) (λ rest o. o))

join-again : (places : ℕ) (place : PlaceId) → places ≤ 16 → place.0 < places → Again (join_at places) (Join place) (place_field place) IsEnd
join-again places place few fits =
    again-as (join_at places) (Join place) _ _ Any IsEnd (append-nil (place_field place)) (λ rest e. tt) (
    again-field (place_at places) _ place (Join place) (place_field place) _ Any (place-once places place few fits) (
    again-done (Join place) Any))

death-again : (places : ℕ) (place : PlaceId) → places ≤ 16 → place.0 < places → Again (death_at places) (Death place) (place_field place) IsEnd
death-again places place few fits =
    again-as (death_at places) (Death place) _ _ Any IsEnd (append-nil (place_field place)) (λ rest e. tt) (
    again-field (place_at places) _ place (Death place) (place_field place) _ Any (place-once places place few fits) (
    again-done (Death place) Any))

-- an entry of a step, by the word of its act
stepped-again : (places : ℕ) (key : List ℕ) (act_at : Reader Act) (task : TaskId) (act : Act) (batch : List (List ℕ)) → 32 ∷ key ≡ act_word act → Plain key → ((ws : List (List ℕ)) → entry_at places (key ∷ ws) ≡ step_at act_at ws) → FitsEntry places (Step task act batch) → Again act_at act (act_fields act) OnlyBatch → Again (entry_at places) (Step task act batch) (entry_text (Step task act batch)) IsEnd
stepped-again places key act_at task act batch is plain picks fits h =
    again-as (entry_at places) (Step task act batch) _ _ IsEnd IsEnd
    (flat-step (32 ∷ key) (task_field task) (act_fields act) (batch_part batch) ∙ ap (λ w. ((w ++ task_field task) ++ act_fields act) ++ batch_part batch) is) (λ rest e. e)
    (again-kind (entry_at places) (step_at act_at) key (Step task act batch) _ IsEnd picks plain (step-again places act_at task act batch fits.0 fits.2 h))

release-step : (places : ℕ) (task : TaskId) (scope : ScopeId) (lost : PlaceSet) (masked : ℕ) (thrown : List Fault) (batch : List (List ℕ)) → places ≤ 16 → FitsEntry places (Step task (Release scope lost masked thrown) batch) → Again (entry_at places) (Step task (Release scope lost masked thrown) batch) (entry_text (Step task (Release scope lost masked thrown) batch)) IsEnd
release-step places task scope lost masked thrown batch few fits =
    let act : Act = Release scope lost masked thrown in
    let h = step-again places (release_at places) task act batch fits.0 fits.2 (release-again places scope lost masked thrown few fits.1) in
    again-as (entry_at places) (Step task act batch) _ _ IsEnd IsEnd (flat-step (codes " release") (task_field task) (act_fields act) (batch_part batch)) (λ rest e. e)
    (again-kind (entry_at places) (either (codes "host") (root_at places) (step_at (release_at places))) (codes "release") (Step task act batch) _ IsEnd (λ ws. refl) (plain-word-is (codes "release") refl)
    (again-there (codes "host") (root_at places) (step_at (release_at places)) (Step task act batch) _ IsEnd h (not-host h.front _ h.spelled)))

-- the text of an entry is read as it
pub entry-again : (places : ℕ) (e : Entry) → places ≤ 16 → FitsEntry places e → Again (entry_at places) e (entry_text e) IsEnd
entry-again places (Step task (Open scope parent path) batch) few fits = stepped-again places (codes "open") open_at task (Open scope parent path) batch refl (plain-word-is (codes "open") refl) (λ ws. refl) fits (open-again places scope parent path fits.1)
entry-again places (Step task (At from to scope parent callee path) batch) few fits = stepped-again places (codes "at") (at_at places) task (At from to scope parent callee path) batch refl (plain-word-is (codes "at") refl) (λ ws. refl) fits (at-again places scope parent callee from to path few fits.1)
entry-again places (Step task (Spawn child scope from to path) batch) few fits = stepped-again places (codes "spawn") (spawn_at places) task (Spawn child scope from to path) batch refl (plain-word-is (codes "spawn") refl) (λ ws. refl) fits (spawn-again places child scope from to path few fits.1)
entry-again places (Step task (Arrive place) batch) few fits = stepped-again places (codes "arrive") (arrive_at places) task (Arrive place) batch refl (plain-word-is (codes "arrive") refl) (λ ws. refl) fits (arrive-again places place few fits.1)
entry-again places (Step task (Wait scope thrown) batch) few fits = stepped-again places (codes "wait") (wait_at places) task (Wait scope thrown) batch refl (plain-word-is (codes "wait") refl) (λ ws. refl) fits (wait-again places scope thrown few fits.1)
entry-again places (Step task (Release scope lost masked thrown) batch) few fits = release-step places task scope lost masked thrown batch few fits
entry-again places (Step task (End thrown) batch) few fits = stepped-again places (codes "end") (end_at places) task (End thrown) batch refl (plain-word-is (codes "end") refl) (λ ws. refl) fits (end-again places thrown few fits.1)
entry-again places (Step task (Print value path) batch) few fits = stepped-again places (codes "print") print_at task (Print value path) batch refl (plain-word-is (codes "print") refl) (λ ws. refl) fits (print-again places value path fits.1)
entry-again places (Step task (Census count path) batch) few fits = stepped-again places (codes "census") census_at task (Census count path) batch refl (plain-word-is (codes "census") refl) (λ ws. refl) fits (census-again places count path fits.1)
entry-again places (Root lost masked thrown) few fits =
    let root : Entry = Root lost masked thrown in
    again-as (entry_at places) root _ _ IsEnd IsEnd (flat-release (codes " release host s0") (lost_part lost) (masked_part masked) (thrown_part thrown)) (λ rest e. e)
    (again-kind (entry_at places) (either (codes "host") (root_at places) (step_at (release_at places))) (codes "release") root _ IsEnd (λ ws. refl) (plain-word-is (codes "release") refl)
    (again-kind (either (codes "host") (root_at places) (step_at (release_at places))) (root_at places) (codes "host") root _ IsEnd (λ ws. refl) (plain-word-is (codes "host") refl)
    (root-again places lost masked thrown few fits)))
entry-again places (Death place) few fits =
    again-kind (entry_at places) (death_at places) (codes "death") (Death place) (place_field place) IsEnd (λ ws. refl) (plain-word-is (codes "death") refl) (death-again places place few fits)
entry-again places (Join place) few fits =
    again-kind (entry_at places) (join_at places) (codes "join") (Join place) (place_field place) IsEnd (λ ws. refl) (plain-word-is (codes "join") refl) (join-again places place few fits)
