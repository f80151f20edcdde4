-- The scopes that a task has opened and not released, with their numbers: `open_paths` has the paths alone.
use Rattle.std.proofs.Common.{◌≡◌, ◌⊎◌, ℕ, Bool, true, false, cond, ◌==◌, List, [], ◌∷◌, Option, Some, None, refl, ap, sym, ◌∙◌, inl, inr}
use Rattle.std.proofs.lemmas.Bool.{eqb-true, eq-eqb, cond_both, or_cases, or_left, or_right, true≢false}
use Rattle.rx_rules.proofs.Common.{TaskId, is_on, own_path}
use Rattle.rx_rules.specs.declared.entries.Act.{Act}
use Rattle.rx_rules.specs.declared.entries.Act.TheVariants.{Open, At as Calling, Release}
use Rattle.rx_rules.specs.declared.entries.Entry.{Entry}
use Rattle.rx_rules.specs.declared.entries.Entry.TheVariants.{Step, Root, Death, Join}
use Rattle.rx_history_laws.proofs.Stacks.{stack_after, open_paths, Stacked}

abbrev pub less_one : List (ℕ × List ℕ) → List (ℕ × List ℕ)
less_one [] = []
less_one (m ∷ ms) = ms

abbrev pub opened_after : Act → List (ℕ × List ℕ) → List (ℕ × List ℕ)
opened_after (Open s r x) ms = (s.0, x) ∷ ms
opened_after (Calling from to s r c x) ms = (s.0, x) ∷ ms
opened_after (Release s lost masked thrown) ms = less_one ms
opened_after _ ms = ms

abbrev pub opened : List Entry → ℕ → List (ℕ × List ℕ)
opened [] c = []
opened (Step t act batch ∷ past) c = cond (t.0 == c) (opened_after act (opened past c)) (opened past c)
opened (Root lost masked thrown ∷ past) c = opened past c
opened (Death d ∷ past) c = opened past c
opened (Join d ∷ past) c = opened past c

abbrev pub paths_of : List (ℕ × List ℕ) → List (List ℕ)
paths_of [] = []
paths_of (m ∷ ms) = m.1 ∷ paths_of ms

abbrev pub nums_of : List (ℕ × List ℕ) → List ℕ
nums_of [] = []
nums_of (m ∷ ms) = m.0 ∷ nums_of ms

after-paths : (act : Act) (ms : List (ℕ × List ℕ)) → paths_of (opened_after act ms) ≡ stack_after act (paths_of ms)
after-paths (Release s lost masked thrown) [] = refl
after-paths (Release s lost masked thrown) (m ∷ ms) = refl
after-paths _ ms = refl

paths_either : (y : Bool) (ms ns : List (ℕ × List ℕ)) (ps qs : List (List ℕ)) → paths_of ms ≡ ps → paths_of ns ≡ qs → paths_of (cond y ms ns) ≡ cond y ps qs
paths_either true ms ns ps qs h k = h
paths_either false ms ns ps qs h k = k

pub same-paths : (past : List Entry) (c : ℕ) → paths_of (opened past c) ≡ open_paths past c
same-paths [] c = refl
same-paths (Step t act batch ∷ past) c =
    paths_either (t.0 == c) (opened_after act (opened past c)) (opened past c) (stack_after act (open_paths past c)) (open_paths past c)
    (after-paths act (opened past c) ∙ ap (stack_after act) (same-paths past c)) (same-paths past c)
same-paths (Root lost masked thrown ∷ past) c = same-paths past c
same-paths (Death d ∷ past) c = same-paths past c
same-paths (Join d ∷ past) c = same-paths past c

-- scope s with the statement at x is among them
abbrev pub On : ℕ → List ℕ → List (ℕ × List ℕ) → Type 0
On s x [] = ⊥
On s x (m ∷ ms) = ((s ≡ m.0) × (x ≡ m.1)) ⊎ On s x ms

pub stacked-on : (x : List ℕ) (ms : List (ℕ × List ℕ)) → Stacked x (paths_of ms) → (s : ℕ) × On s x ms
stacked-on x [] h = absurd h
stacked-on x (m ∷ ms) (inl e) = (m.0, inl (refl, e))
stacked-on x (m ∷ ms) (inr h) = let r = stacked-on x ms h in (r.0, inr r.1)

pub on-stacked : (s : ℕ) (x : List ℕ) (ms : List (ℕ × List ℕ)) → On s x ms → Stacked x (paths_of ms)
on-stacked s x [] h = absurd h
on-stacked s x (m ∷ ms) (inl e) = inl e.1
on-stacked s x (m ∷ ms) (inr h) = inr (on-stacked s x ms h)

pub on-nums : (s : ℕ) (x : List ℕ) (ms : List (ℕ × List ℕ)) → On s x ms → is_on s (nums_of ms) ≡ true
on-nums s x [] h = absurd h
on-nums s x (m ∷ ms) (inl e) = or_left (m.0 == s) (is_on s (nums_of ms)) (eq-eqb m.0 s (sym e.0))
on-nums s x (m ∷ ms) (inr h) = or_right (m.0 == s) (is_on s (nums_of ms)) (on-nums s x ms h)

pub nums-on : (s : ℕ) (ms : List (ℕ × List ℕ)) → is_on s (nums_of ms) ≡ true → (x : List ℕ) × On s x ms
nums-on s [] h = cc
nums-on s (m ∷ ms) h =
    elim (or_cases (m.0 == s) (is_on s (nums_of ms)) h) [
      | inl e ↦ (m.1, inl (sym (eqb-true m.0 s e), refl))
      | inr k ↦ let r = nums-on s ms k in (r.0, inr r.1)
    ]

-- the number of the scope that an act opens
abbrev pub scope_in : Act → Option ℕ
scope_in (Open s r x) = Some s.0
scope_in (Calling from to s r c x) = Some s.0
scope_in _ = None

after-on : (act : Act) (ms : List (ℕ × List ℕ)) (s : ℕ) (x : List ℕ) → On s x (opened_after act ms) → ((scope_in act ≡ Some s) × (own_path act ≡ x ∷ [])) ⊎ On s x ms
after-on (Open n r y) ms s x (inl e) = inl (ap Some (sym e.0), ap (λ v. v ∷ []) (sym e.1))
after-on (Open n r y) ms s x (inr h) = inr h
after-on (Calling from to n r c y) ms s x (inl e) = inl (ap Some (sym e.0), ap (λ v. v ∷ []) (sym e.1))
after-on (Calling from to n r c y) ms s x (inr h) = inr h
after-on (Release n lost masked thrown) [] s x h = inr h
after-on (Release n lost masked thrown) (m ∷ ms) s x h = inr (inr h)
after-on _ ms s x h = inr h

-- the entry opens scope s with the statement at x, for task c
pub record New (t : TaskId) (act : Act) (c s : ℕ) (x : List ℕ) : Type 0 where
  pub mine : t.0 ≡ c
  pub number : scope_in act ≡ Some s
  pub path : own_path act ≡ x ∷ []

-- by cases on whether c is the task of the entry
pub opened_case : (past : List Entry) (t : TaskId) (act : Act) (batch : List (List ℕ)) (c : ℕ) (P : List (ℕ × List ℕ) → Type 0) → (t.0 ≡ c → P (opened_after act (opened past c))) → ((t.0 ≡ c → ⊥) → P (opened past c)) → P (opened (Step t act batch ∷ past) c)
opened_case past t act batch c P y n =
    cond_both (t.0 == c) (opened_after act (opened past c)) (opened past c) P (λ e. y (eqb-true t.0 c e)) (λ e. n (λ k. true≢false (sym (eq-eqb t.0 c k) ∙ e)))

-- what is open after an entry was open before, or the entry opens it
pub on-after : (past : List Entry) (t : TaskId) (act : Act) (batch : List (List ℕ)) (c s : ℕ) (x : List ℕ) → On s x (opened (Step t act batch ∷ past) c) → New t act c s x ⊎ On s x (opened past c)
on-after past t act batch c s x =
    opened_case past t act batch c (λ ms. On s x ms → New t act c s x ⊎ On s x (opened past c))
    (λ e h. elim (after-on act (opened past c) s x h) [
      | inl k ↦ inl (record { mine = e; number = k.0; path = k.1 })
      | inr k ↦ inr k
    ])
    (λ o h. inr h)
