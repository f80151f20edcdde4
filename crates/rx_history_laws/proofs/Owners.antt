-- Scopes as numbers with openers, and what each act makes of them.
use Rattle.std.proofs.Common.{◌≡◌, ℕ, Bool, true, false, cond, not, ◌==◌, List, [], ◌∷◌, ◌++◌, map, filter, Option, Some, None, option_map, refl, ap, sym, ◌∙◌, inl, inr}
use Rattle.std.specs.List.{find}
use Rattle.std.proofs.lemmas.Bool.{or_cases, or_left, or_right, cond_both}
use Rattle.std.proofs.lemmas.List.Elements.{filter_agree}
use Rattle.rx_rules.proofs.Common.{TaskId, ScopeId, PlaceSet, Fault, Tree, is_finish, is_task, task_of, opened_by, own_scope, inner, on_chain, is_scope, AllowedAct, made_act, after_end, change_first, change_scope, without, is_on}
use Rattle.rx_rules.specs.declared.tasks.Task.{Task}
use Rattle.rx_rules.specs.declared.tasks.Scope.{Scope}
use Rattle.rx_rules.specs.declared.entries.Act.{Act}
use Rattle.rx_rules.specs.declared.entries.Act.TheVariants.{Open, At as Calling, Spawn, Arrive, Wait, Release, End, Print as Printed, Census as Counted}
use Rattle.rx_history_laws.proofs.Lines.{bone, bones, nums, on_chain-line}
use Rattle.rx_history_laws.proofs.Losses.{is_off}
use Rattle.rx_history_laws.proofs.Opening.{is_opening}
use Rattle.rx_history_laws.proofs.Numbered.{scope_in, opened_after, nums_of}

pub record Core : Type 0 where
  pub number : ℕ
  pub opener : Option ℕ
  pub finish : Bool

abbrev pub task_number : TaskId → ℕ
task_number t = t.0

abbrev pub core : Scope → Core
core g = record { number = g.number.0; opener = option_map task_number g.opener; finish = is_finish g.kind }

abbrev pub cores : Tree → List Core
cores T = map core T.scopes

abbrev pub owns : ℕ → Option ℕ → Bool
owns c None = false
owns c (Some x) = x == c

-- the numbers of the scopes that task c opened
abbrev pub own_nums : ℕ → List Core → List ℕ
own_nums c [] = []
own_nums c (k ∷ ks) = cond (owns c k.opener) (k.number ∷ own_nums c ks) (own_nums c ks)

abbrev pub top : ℕ → List ℕ → ℕ
top u [] = u
top u (n ∷ ns) = n

by-owns : (t : TaskId) (g : Scope) → opened_by t g ≡ owns t.0 (option_map task_number g.opener)
by-owns t g = by_opener g.opener where
  by_opener : (o : Option TaskId) → (elim o as (λ _. Bool) [ Some x ↦ x.0 == t.0 | None ↦ false ]) ≡ owns t.0 (option_map task_number o)
  by_opener None = refl
  by_opener (Some x) = refl

-- the scope that a task works in is the first that it opened
pub find-own : (t : TaskId) (gs : List Scope) (g : Scope) → find (opened_by t) gs ≡ Some g → (ns : List ℕ) × (own_nums t.0 (map core gs) ≡ g.number.0 ∷ ns)
find-own t [] g h = cc
find-own t (y ∷ gs) g h = own_step y gs g (opened_by t y) refl (find-own t gs g) h where
  own_step : (y : Scope) (gs : List Scope) (g : Scope) (b : Bool) → opened_by t y ≡ b → (find (opened_by t) gs ≡ Some g → (ns : List ℕ) × (own_nums t.0 (map core gs) ≡ g.number.0 ∷ ns)) → find (opened_by t) (y ∷ gs) ≡ Some g → (ns : List ℕ) × (own_nums t.0 (map core (y ∷ gs)) ≡ g.number.0 ∷ ns)
  own_step y gs g true e on h =
      let same : y ≡ g = let k : Some y ≡ Some g = rw e at h in cc in
      (own_nums t.0 (map core gs), rw (sym (by-owns t y) ∙ e) (ap (λ (v : Scope). v.number.0 ∷ own_nums t.0 (map core gs)) same))
  own_step y gs g false e on h = let r = on (rw e at h) in (r.0, rw (sym (by-owns t y) ∙ e) r.1)

pub find-none : (t : TaskId) (gs : List Scope) → find (opened_by t) gs ≡ None → own_nums t.0 (map core gs) ≡ []
find-none t [] h = refl
find-none t (y ∷ gs) h = none_step y gs (opened_by t y) refl (find-none t gs) h where
  none_step : (y : Scope) (gs : List Scope) (b : Bool) → opened_by t y ≡ b → (find (opened_by t) gs ≡ None → own_nums t.0 (map core gs) ≡ []) → find (opened_by t) (y ∷ gs) ≡ None → own_nums t.0 (map core (y ∷ gs)) ≡ []
  none_step y gs true e on h = let k : Some y ≡ None = rw e at h in cc
  none_step y gs false e on h = rw (sym (by-owns t y) ∙ e) (on (rw e at h))

pub inner-top : (T : Tree) (x : Task) → (inner T x).0 ≡ top x.under.0 (own_nums x.number.0 (cores T))
inner-top T x = by_own (own_scope T x.number) refl where
  by_own : (o : Option Scope) → own_scope T x.number ≡ o → (elim o as (λ _. ScopeId) [ Some g ↦ g.number | None ↦ x.under ]).0 ≡ top x.under.0 (own_nums x.number.0 (cores T))
  by_own (Some g) e = let r = find-own x.number T.scopes g e in ap (top x.under.0) (sym r.1)
  by_own None e = ap (top x.under.0) (sym (find-none x.number T.scopes e))

-- what a task opened stands
pub own-stands : (c n : ℕ) (gs : List Scope) → is_on n (own_nums c (map core gs)) ≡ true → is_on n (nums (map bone gs)) ≡ true
own-stands c n [] h = cc
own-stands c n (g ∷ gs) h =
    cond_both (owns c (option_map task_number g.opener)) (g.number.0 ∷ own_nums c (map core gs)) (own_nums c (map core gs)) (λ l. is_on n l ≡ true → is_on n (nums (map bone (g ∷ gs))) ≡ true)
    (λ e k. elim (or_cases (g.number.0 == n) (is_on n (own_nums c (map core gs))) k) [
      | inl a ↦ or_left (g.number.0 == n) (is_on n (nums (map bone gs))) a
      | inr b ↦ or_right (g.number.0 == n) (is_on n (nums (map bone gs))) (own-stands c n gs b)
    ])
    (λ e k. or_right (g.number.0 == n) (is_on n (nums (map bone gs))) (own-stands c n gs k)) h

-- Changes.

cores-change : (p : Scope → Bool) (f : Scope → Scope) → ((g : Scope) → core (f g) ≡ core g) → (gs : List Scope) → map core (change_first p f gs) ≡ map core gs
cores-change p f same [] = refl
cores-change p f same (g ∷ gs) =
    cond_both (p g) (f g ∷ gs) (g ∷ change_first p f gs) (λ l. map core l ≡ map core (g ∷ gs)) (λ e. ap (λ x. x ∷ map core gs) (same g))
    (λ e. ap (λ l. core g ∷ l) (cores-change p f same gs))

cores-filter : (test : ℕ → Bool) (gs : List Scope) → map core (filter (λ g. test g.number.0) gs) ≡ filter (λ k. test k.number) (map core gs)
cores-filter test [] = refl
cores-filter test (g ∷ gs) = filter_step g gs (test g.number.0) refl (cores-filter test gs) where
  filter_step : (g : Scope) (gs : List Scope) (x : Bool) → test g.number.0 ≡ x → map core (filter (λ g. test g.number.0) gs) ≡ filter (λ k. test k.number) (map core gs) → map core (filter (λ g. test g.number.0) (g ∷ gs)) ≡ filter (λ k. test k.number) (map core (g ∷ gs))
  filter_step g gs true e ih = rw e (ap (λ l. core g ∷ l) ih)
  filter_step g gs false e ih = rw e ih

pub own-filter : (test : ℕ → Bool) (c : ℕ) (ks : List Core) → own_nums c (filter (λ k. test k.number) ks) ≡ filter test (own_nums c ks)
own-filter test c [] = refl
own-filter test c (k ∷ ks) = own_step k ks (test k.number) (owns c k.opener) refl refl (own-filter test c ks) where
  own_step : (k : Core) (ks : List Core) (x y : Bool) → test k.number ≡ x → owns c k.opener ≡ y → own_nums c (filter (λ k. test k.number) ks) ≡ filter test (own_nums c ks) → own_nums c (filter (λ k. test k.number) (k ∷ ks)) ≡ filter test (own_nums c (k ∷ ks))
  own_step k ks true true e f ih = rw (e, f) (rw e (ap (λ l. k.number ∷ l) ih))
  own_step k ks true false e f ih = rw (e, f) ih
  own_step k ks false true e f ih = rw (e, f) (rw e ih)
  own_step k ks false false e f ih = rw (e, f) ih

pub cores-without : (T : Tree) (s : ScopeId) → cores (without T s) ≡ filter (λ k. is_off (bones T) s.0 k.number) (cores T)
cores-without T s =
    ap (map core) (filter_agree (λ g. not (on_chain T s g.number)) (λ g. is_off (bones T) s.0 g.number.0) (λ g. ap not (on_chain-line T s g.number)) T.scopes)
    ∙ cores-filter (is_off (bones T) s.0) T.scopes

pub cores-end : (T : Tree) (t : TaskId) (thrown : List Fault) (x : Task) → task_of T t ≡ Some x → cores (after_end T t thrown) ≡ cores T
cores-end T t thrown x e =
    let made_so : after_end T t thrown ≡ change_scope (λ g. record g { ends = g.ends ++ thrown }) x.under (record T { tasks = filter (λ y. not (is_task t y)) T.tasks }) = rw (e, after_end) in
    ap cores made_so ∙ cores-change (is_scope x.under) (λ g. record g { ends = g.ends ++ thrown }) (λ g. refl) T.scopes

-- what an act makes of the scopes, and of those that its task has open: it leaves them, opens one, or releases some
pub data Became (T : Tree) (t : TaskId) : Act → List Core → Type 0 where
  leaves : {act : Act} {ks : List Core} → scope_in act ≡ None → ((ms : List (ℕ × List ℕ)) → opened_after act ms ≡ ms) → ks ≡ cores T → Became T t act ks
  opens : {act : Act} {ks : List Core} (s : ℕ) → scope_in act ≡ Some s → s ≡ T.next_scope → ((ms : List (ℕ × List ℕ)) → nums_of (opened_after act ms) ≡ s ∷ nums_of ms) → ks ≡ record { number = s; opener = Some t.0; finish = is_opening act } ∷ cores T → Became T t act ks
  releases : {act : Act} {ks : List Core} (s : ScopeId) (lost : PlaceSet) (masked : ℕ) (thrown : List Fault) → act ≡ Release s lost masked thrown → ks ≡ filter (λ k. is_off (bones T) s.0 k.number) (cores T) → Became T t act ks

pub became : (T : Tree) (t : TaskId) (act : Act) → AllowedAct T t act → Became T t act (cores (made_act T t act))
became T t (Open s r x) a = opens s.0 refl a.asks.1 (λ ms. refl) refl
became T t (Calling from to s r c x) a = opens s.0 refl a.asks.1 (λ ms. refl) refl
became T t (Spawn c s from to x) a = leaves refl (λ ms. refl) refl
became T t (Arrive p) a = leaves refl (λ ms. refl) refl
became T t (Wait s thrown) a = leaves refl (λ ms. refl) (cores-change (is_scope s) (λ g. record g { body = thrown }) (λ g. refl) T.scopes)
became T t (Release s lost masked thrown) a = releases s lost masked thrown refl (cores-without T s)
became T t (End thrown) a = leaves refl (λ ms. refl) (cores-end T t thrown a.task a.stands)
became T t (Printed value x) a = leaves refl (λ ms. refl) refl
became T t (Counted places x) a = leaves refl (λ ms. refl) refl
