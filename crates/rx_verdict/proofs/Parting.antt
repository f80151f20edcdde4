-- A part of a run with one entry more.
use Rattle.std.proofs.Common.{◌≡◌, ℕ, zero, suc, ◌+◌, ◌≤◌, true, List, [], ◌∷◌, ◌++◌, length, take, Some, None, slice_get, refl, ap, sym, subst, ◌∙◌, arith}
use Rattle.std.specs.List.{filter_map}
use Rattle.std.proofs.lemmas.List.{append-nil, take-take}
use Rattle.rx_rules.proofs.Common.{Fault, Block, Term, Vars, Tree, Allowed, made, AllAllowed, opening, fold_from, births, births_of, Player, Cells, Moves, Starts, Birth, birth_in, birth_of, moves_from, travels, cell_of, journal_at, Given, Event, PlanKept, plan_of, rest_of, NoRoot}
use Rattle.rx_rules.specs.declared.entries.Act.TheVariants.{End}
use Rattle.rx_rules.specs.declared.entries.Entry.{Entry}
use Rattle.rx_rules.specs.declared.entries.Entry.TheVariants.{Step, Root, Death, Join}
use Rattle.rx_rules.specs.declared.events.PlaceEvent.{PlaceEvent}
use Rattle.rx_runs.specs.Games.{fresh}
use Rattle.rx_runs.specs.Segments.{plan_left, InTime}
use Rattle.rx_runs.proofs.Append.{allowed-push}
use Rattle.rx_runs.proofs.Pushes.{plan-push, moves-push, birth-push}
use Rattle.rx_verdict.specs.Makes.{Makes, Landing, Made, TaskMakes}
use Rattle.rx_runs.specs.Rooted.{RootIsLast}
use Rattle.rx_runs.proofs.RootLast.{root_last-push}
use Rattle.rx_verdict.specs.Verdicts.{Part}
use Rattle.rx_verdict.specs.Walks.{Walks}
use Rattle.rx_verdict.specs.Passes.{IsAway, IsAt, HasEnded}
use Rattle.rx_verdict.specs.Parts.{PartBegins, PartGoesOn, IsQuiet}
use Rattle.rx_verdict.proofs.Once.{made_at}
use Rattle.rx_verdict.proofs.Shown.{allowed_take, plan_take, each_makes, made_first, rooted_begins}
use Rattle.rx_verdict.proofs.Deciding.{opening_stands}
use Rattle.rx_verdict.specs.Seats.{main_start}
use Rattle.rx_verdict.proofs.Passing.{births_push}

pub take_next : (es : List Entry) (i : ℕ) (e : Entry) → slice_get es i ≡ Some e → take (suc i) es ≡ take i es ++ e ∷ []
take_next [] i e h = absurd (let f : ⊥ = cc in f)
take_next (x ∷ es) zero e h = (let same : x ≡ e = cc in ap (λ (y : Entry). y ∷ []) same)
take_next (x ∷ es) (suc i) e h = ap (λ (l : List Entry). x ∷ l) (take_next es i e h)

pub allowed_last : (n : ℕ) (T : Tree) (es : List Entry) (e : Entry) → AllAllowed n T (es ++ e ∷ []) → Allowed (fold_from n T es) e
allowed_last n T [] e a = a.0
allowed_last n T (x ∷ es) e a = allowed_last (suc n) (made n T x) es e a.1

alone : (n : ℕ) (ks : List Event) (e : Entry) → PlanKept n ks (e ∷ []) → InTime n ks e
alone n ks (Step t act batch) h = h.0
alone n ks _ h = h.0

plan_last : (n : ℕ) (ks : List Event) (es : List Entry) (e : Entry) → PlanKept n ks (es ++ e ∷ []) → InTime (n + length es) (plan_left ks es) e
plan_last n ks [] e h = let z : n ≡ n + 0 = omega arith in subst (λ (k : ℕ). InTime k ks e) z (alone n ks e h)
plan_last n ks (Step t act batch ∷ es) e h = let z : suc n + length es ≡ n + length (Step t act batch ∷ es) = omega arith in subst (λ (k : ℕ). InTime k (plan_left ks es) e) z (plan_last (suc n) ks es e h.1)
plan_last n ks (Root lost masked thrown ∷ es) e h = let z : suc n + length es ≡ n + length (Root lost masked thrown ∷ es) = omega arith in subst (λ (k : ℕ). InTime k (plan_left ks es) e) z (plan_last (suc n) ks es e h.1)
plan_last n ks (Death d ∷ es) e h = let z : suc n + length es ≡ n + length (Death d ∷ es) = omega arith in subst (λ (k : ℕ). InTime k (plan_left (rest_of ks) es) e) z (plan_last (suc n) (rest_of ks) es e h.1)
plan_last n ks (Join d ∷ es) e h = let z : suc n + length es ≡ n + length (Join d ∷ es) = omega arith in subst (λ (k : ℕ). InTime k (plan_left (rest_of ks) es) e) z (plan_last (suc n) (rest_of ks) es e h.1)

rooted_last : (es : List Entry) (e : Entry) → RootIsLast (es ++ e ∷ []) → NoRoot es
rooted_last [] e h = tt
rooted_last (Step t act batch ∷ es) e h = rooted_last es e h
rooted_last (Root lost masked thrown ∷ []) e h = absurd (let f : ⊥ = cc in f)
rooted_last (Root lost masked thrown ∷ x ∷ es) e h = absurd (let f : ⊥ = cc in f)
rooted_last (Death d ∷ es) e h = rooted_last es e h
rooted_last (Join d ∷ es) e h = rooted_last es e h

pub part_goes_on : PartGoesOn
part_goes_on code U es js i e at = (
  λ p g.
      let next : take i es ++ e ∷ [] ≡ take (suc i) es = sym (take_next es i e at) in
      record {
        allowed = subst (λ (l : List Entry). AllAllowed 0 (opening U.places) l) next (allowed-push 0 (opening U.places) (take i es) e p.allowed g.allowed);
        rooted = subst RootIsLast next (root_last-push (take i es) e g.no_root);
        plan = subst (λ (l : List Entry). PlanKept 0 (plan_of U) l) next (plan-push 0 (plan_of U) (take i es) e p.plan (let z : length (take i es) ≡ 0 + length (take i es) = omega arith in subst (λ (k : ℕ). InTime k (plan_left (plan_of U) (take i es)) e) z g.in_time));
        starts = g.starts;
        made = subst (λ (l : List Entry). Made code U.places l js g.starts) next g.made;
      },
  λ p.
      let next : take (suc i) es ≡ take i es ++ e ∷ [] = take_next es i e at in
      record {
        allowed = allowed_last 0 (opening U.places) (take i es) e (subst (λ (l : List Entry). AllAllowed 0 (opening U.places) l) next p.allowed);
        no_root = rooted_last (take i es) e (subst RootIsLast next p.rooted);
        in_time = (let z : 0 + length (take i es) ≡ length (take i es) = omega arith in subst (λ (k : ℕ). InTime k (plan_left (plan_of U) (take i es)) e) z (plan_last 0 (plan_of U) (take i es) e (subst (λ (l : List Entry). PlanKept 0 (plan_of U) l) next p.plan)));
        starts = p.starts;
        made = subst (λ (l : List Entry). Made code U.places l js p.starts) next p.made;
      },
)

none : (code : Block) (U : Given) (es : List Entry) (js : List (List PlaceEvent)) → Part code U es js 0
none code U es js =
    record { allowed = tt; rooted = tt; plan = tt; starts = main_start code U.places ∷ []; made = (opening_stands code U.places js).0 }

fewer : (code : Block) (U : Given) (es : List Entry) (js : List (List PlaceEvent)) (m n : ℕ) → m ≤ n → Part code U es js n → Part code U es js m
fewer code U es js m n le h =
    let cut : take m (take n es) ≡ take m es = take-take m n es le in
    record {
      allowed = subst (λ (l : List Entry). AllAllowed 0 (opening U.places) l) cut (allowed_take 0 (opening U.places) (take n es) m h.allowed);
      rooted = subst RootIsLast cut (rooted_begins (take n es) m h.rooted);
      plan = subst (λ (l : List Entry). PlanKept 0 (plan_of U) l) cut (plan_take 0 (plan_of U) (take n es) m h.plan);
      starts = take (1 + births (take m (take n es))) h.starts;
      made = subst (λ (l : List Entry). Made code U.places l js (take (1 + births (take m (take n es))) h.starts)) cut (made_first code U.places (take n es) js h.starts h.made h.allowed m);
    }

pub part_begins : PartBegins
part_begins code U es js = (none code U es js, λ m n le h. fewer code U es js m n le h)

-- An entry of no task makes no term do anything, and leaves every task where it was.

pub no_birth : (n u : ℕ) (e : Entry) → IsQuiet e → birth_in n u e ≡ None
no_birth n u (Step t act batch) q = absurd q
no_birth n u _ q = refl

no_births : (e : Entry) → IsQuiet e → births_of e ≡ 0
no_births (Step t act batch) q = absurd q
no_births _ q = refl

pub no_moves : (es : List Entry) (e : Entry) → IsQuiet e → (u : ℕ) → moves_from 0 (es ++ e ∷ []) u ≡ moves_from 0 es u
no_moves es (Step t act batch) q u = absurd q
no_moves es (Root lost masked thrown) q u = moves-push 0 es (Root lost masked thrown) u ∙ append-nil (moves_from 0 es u)
no_moves es (Death d) q u = moves-push 0 es (Death d) u ∙ append-nil (moves_from 0 es u)
no_moves es (Join d) q u = moves-push 0 es (Join d) u ∙ append-nil (moves_from 0 es u)

module _ (code : Block) (places : ℕ) (es : List Entry) (js : List (List PlaceEvent)) (starts : Starts) (e : Entry) (q : IsQuiet e) (h : Made code places es js starts) where
  pair : (u : ℕ) → ◌≡◌ {A = Birth × Moves} (birth_of es u, moves_from 0 es u) (birth_of (es ++ e ∷ []) u, moves_from 0 (es ++ e ∷ []) u)
  pair u = λ j. (sym (birth-push 0 es e u (no_birth (0 + length es) u e q)) j, sym (no_moves es e q u) j)

  stays : (u : ℕ) (r : Term × Vars) → TaskMakes starts es js u r → TaskMakes starts (es ++ e ∷ []) js u r
  stays u r m = subst (λ (v : Birth × Moves). Landing (λ low moves. (rest : Cells) × Makes starts v.0.to r.1 r.0 [] (filter_map (cell_of u) (journal_at js v.0.to.0)) moves rest) (Unit {0}) (travels v.0) v.0.low v.1) (pair u) m

  pub quiet_made : Made code places (es ++ e ∷ []) js starts
  quiet_made =
      let all : length starts ≡ 1 + births es = h.all in
      let sum = births_push es e in
      let none = no_births e q in
      record {
        main = h.main;
        all = omega (arith, all, sum, none);
        each = each_makes starts (es ++ e ∷ []) js 0 starts (λ i s k. let at : i ≡ 0 + i = omega arith in subst (λ (z : ℕ). TaskMakes starts (es ++ e ∷ []) js z s) at (stays i s (made_at code places es js starts h i s k)));
      }

  pub quiet_seats : (u : ℕ) (r : Term × Vars) (z : Player) (left : Cells) → (IsAway es u → IsAway (es ++ e ∷ []) u) × (IsAt starts es js u r z left → IsAt starts (es ++ e ∷ []) js u r z left) × (HasEnded es u → HasEnded (es ++ e ∷ []) u)
  quiet_seats u r z left = (
    λ a. subst (λ (v : Birth × Moves). (travels v.0 ≡ true) × (v.1 ≡ [])) (pair u) a,
    λ a. subst (λ (v : Birth × Moves). Landing (λ low moves. Walks starts v.0.to (fresh r) (filter_map (cell_of u) (journal_at js v.0.to.0)) moves z left) ⊥ (travels v.0) v.0.low v.1) (pair u) a,
    λ a. subst (λ (v : Birth × Moves). Landing (λ low moves. (before : Moves) × (n : ℕ) × (faults : List Fault) × (batch : List (List ℕ)) × (moves ≡ before ++ (n, End faults, batch) ∷ [])) ⊥ (travels v.0) v.0.low v.1) (pair u) a,
  )
