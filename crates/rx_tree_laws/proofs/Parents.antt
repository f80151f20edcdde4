-- The parent of a scope: none is the root's alone, and each leads to the root.
use Rattle.std.proofs.Common.{◌≡◌, ◌<◌, Bool, true, false, cond, ◌||◌, ◌==◌, not, List, [], ◌∷◌, ◌++◌, filter, Option, Some, None, is_some, refl, ℕ, sym, ap, ◌∙◌}
use Rattle.std.specs.List.{find}
use Rattle.std.proofs.lemmas.Bool.{true≢false}
use Rattle.rx_rules.proofs.Common.{TaskId, ScopeId, Tree, is_scope, the_root, task_of, on_chain, made_act, change_first, Reached, opens, acts, dies, joins}
use Rattle.rx_rules.specs.declared.tasks.Task.{Task}
use Rattle.rx_rules.specs.declared.tasks.Scope.{Scope}
use Rattle.rx_rules.specs.declared.entries.Act.{Act}
use Rattle.rx_rules.specs.declared.entries.Act.TheVariants.{Open, At as Calls, Spawn, Arrive, Wait, Release, End, Print, Census}
use Rattle.rx_rules.specs.Reached.{ends}
use Rattle.rx_tree_laws.specs.Chains.{meets, Falls, HasOpener, Opened}
use Rattle.rx_tree_laws.specs.Sound.{Each}
use Rattle.rx_tree_laws.proofs.Changes.{each_filter, each_change}
use Rattle.rx_tree_laws.proofs.Chains.{meets_skips, met_start}

-- a scope without a parent is number 0
abbrev pub Based : List Scope → Type 0
Based gs = Each (λ g. g.parent ≡ None → g.number.0 ≡ 0) gs

based_act : (T : Tree) (t : TaskId) (act : Act) → Based T.scopes → Based (made_act T t act).scopes
based_act T t (Open s r path) h = ((λ e. cc), h)
based_act T t (Calls from to s r callee path) h = ((λ e. cc), h)
based_act T t (Spawn child s from to path) h = h
based_act T t (Arrive p) h = h
based_act T t (Wait s thrown) h = each_change (λ g. g.parent ≡ None → g.number.0 ≡ 0) (is_scope s) (λ g. record g { body = thrown }) T.scopes (λ x found v. v) h
based_act T t (Release s lost masked thrown) h = each_filter (λ g. g.parent ≡ None → g.number.0 ≡ 0) (λ g. not (on_chain T s g.number)) T.scopes h
based_act T t (End thrown) h =
    elim (task_of T t) as (λ o. Based (elim o as (λ _. Tree) [ Some x ↦ record T { scopes = change_first (is_scope x.under) (λ g. record g { ends = g.ends ++ thrown }) T.scopes; tasks = filter (λ y. not (y.number.0 == t.0)) T.tasks } | None ↦ T ]).scopes) [
      | Some x ↦ each_change (λ g. g.parent ≡ None → g.number.0 ≡ 0) (is_scope x.under) (λ g. record g { ends = g.ends ++ thrown }) T.scopes (λ y found v. v) h
      | None ↦ h
    ]
based_act T t (Print value path) h = h
based_act T t (Census n path) h = h

pub based : {T : Tree} → Reached T → Based T.scopes
based (opens places lo hi) = ((λ e. refl), tt)
based (acts {T = T} t act r a) = based_act T t act (based r)
based (ends {T = T} lost masked thrown r a) = each_filter (λ g. g.parent ≡ None → g.number.0 ≡ 0) (λ g. not (on_chain T the_root g.number)) T.scopes (based r)
based (dies b r a o) = based r
based (joins p r a) = based r

head_rooted : (ts : List Task) (g : Scope) (gs : List Scope) (o : Option TaskId) (u : ScopeId) → g.parent ≡ Some u → HasOpener ts g gs o → meets the_root gs (Some u) ≡ true
head_rooted ts g gs None u e h = let k = h.1 in cc
head_rooted ts g gs (Some o) u e h = sym (ap (meets the_root gs) e) ∙ h.rooted

-- the parent of a scope that is found leads to the root
pub parent_rooted : (ts : List Task) (p : Scope → Bool) (n : ℕ) (gs : List Scope) (g : Scope) (u : ScopeId) → Falls n gs → Opened ts gs → find p gs ≡ Some g → g.parent ≡ Some u → meets the_root gs (Some u) ≡ true
parent_rooted ts p n [] g u f o e k = cc
parent_rooted ts p n (h ∷ hs) g u f o e k =
    let later : meets the_root hs (Some u) ≡ true =
    (elim (p h) as (λ b. cond b (Some h) (find p hs) ≡ Some g → meets the_root hs (Some u) ≡ true) [
      | true ↦ λ v. let same : h ≡ g = cc in head_rooted ts h hs h.opener u (ap (λ (x : Scope). x.parent) same ∙ k) o.0
      | false ↦ λ v. parent_rooted ts p h.number.0 hs g u f.1 o.1 v k
    ]) e
    in
    let low : u.0 < h.number.0 = met_start the_root h.number.0 hs u f.1 later in
    meets_skips the_root h hs u low ∙ later

-- a walk that meets a scope starts at one that stands
pub met_found : (s : ScopeId) (gs : List Scope) (u : ScopeId) → meets s gs (Some u) ≡ true → is_some (find (is_scope u) gs) ≡ true
met_found s [] u m = absurd (true≢false (sym m))
met_found s (g ∷ gs) u m =
    (elim (is_scope u g) as (λ b. cond b (is_scope s g || meets s gs g.parent) (meets s gs (Some u)) ≡ true → is_some (cond b (Some g) (find (is_scope u) gs)) ≡ true) [
      | true ↦ λ k. refl
      | false ↦ λ k. met_found s gs u k
    ]) m
