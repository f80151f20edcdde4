-- What a release takes of the own scopes of tasks.
use Rattle.std.proofs.Common.{◌≡◌, ℕ, ◌<◌, ◌≤◌, Bool, true, false, cond, not, List, [], ◌∷◌, filter, Some, refl, sym, ap, ◌∙◌, subst, arith}
use Rattle.std.specs.List.{find}
use Rattle.std.proofs.lemmas.Bool.{false_from_ne_true}
use Rattle.rx_rules.proofs.Common.{ScopeId, opened_by, on_chain, quiet}
use Rattle.rx_rules.specs.declared.tasks.Scope.{Scope}
use Rattle.rx_tree_laws.specs.Chains.{meets, Falls}
use Rattle.rx_tree_laws.specs.Sound.{Each, Sound}
use Rattle.rx_tree_laws.specs.Owning.{OwnBelow, ReleaseSpares, ReleaseKeeps, ReleasePops}
use Rattle.rx_tree_laws.proofs.Changes.{each_more}
use Rattle.rx_tree_laws.proofs.Opening.{own_chain}
use Rattle.rx_tree_laws.proofs.Reach.{fits_of}
use Rattle.rx_tree_laws.proofs.Releasing.{each_below, on_meets}
use Rattle.rx_tree_laws.proofs.Reached.{sound}
use Rattle.rx_tree_laws.proofs.Below.{met_newer, met_self, own_stays, find_kept}

pub own_below : OwnBelow
own_below T x g r found own =
    let h : Sound T = sound r in
    let c = (own_chain T.tasks T.next_scope T.scopes x.number x g h.falls h.opened found own).chain in
    on_meets x.under T.scopes (Some g.number) ∙ c.hangs x.under (met_self _ T.scopes x.under (fits_of T x.number x h found).rooted)

pub release_spares : ReleaseSpares
release_spares T t s lost masked thrown x r may found free other =
    let h : Sound T = sound r in
    find_kept (opened_by x.number) (λ g. not (on_chain T s g.number)) T.scopes
    (subst (λ (v : ScopeId). Each (λ k. opened_by x.number k ≡ true → not (on_chain T v k.number) ≡ true) T.scopes) may.asks.2.1
    (own_stays T t x.number x may.asks.1 h may.asks.2.0 (subst (λ (v : ScopeId). quiet T v ≡ true) (sym may.asks.2.1) may.asks.3.is_quiet) found free other))

-- what passes the first test passes the second, so the second takes none of it
pub kept : (p q : Scope → Bool) (gs : List Scope) → Each (λ k. p k ≡ true → q k ≡ true) gs → filter p (filter q gs) ≡ filter p gs
kept p q [] h = refl
kept p q (k ∷ gs) h =
    (elim (p k) as (λ b. p k ≡ b → filter p (cond (q k) (k ∷ filter q gs) (filter q gs)) ≡ cond b (k ∷ filter p gs) (filter p gs)) [
      | true ↦ λ w. rw (h.0 w, w) (ap (λ v. k ∷ v) (kept p q gs h.1))
      | false ↦ λ w. elim (q k) as (λ c. filter p (cond c (k ∷ filter q gs) (filter q gs)) ≡ filter p gs) [ true ↦ rw w (kept p q gs h.1) | false ↦ kept p q gs h.1 ]
    ]) refl

pub release_keeps : ReleaseKeeps
release_keeps T t s lost masked thrown x r may found free other =
    let h : Sound T = sound r in
    kept (opened_by x.number) (λ g. not (on_chain T s g.number)) T.scopes
    (subst (λ (v : ScopeId). Each (λ k. opened_by x.number k ≡ true → not (on_chain T v k.number) ≡ true) T.scopes) may.asks.2.1
    (own_stays T t x.number x may.asks.1 h may.asks.2.0 (subst (λ (v : ScopeId). quiet T v ≡ true) (sym may.asks.2.1) may.asks.3.is_quiet) found free other))

-- the first that passes goes, and all others stay
popped : (p q : Scope → Bool) (n : ℕ) (gs : List Scope) (g : Scope) → Falls n gs → find p gs ≡ Some g → q g ≡ false → ((k : Scope) → k.number.0 < g.number.0 → q k ≡ true) → filter p gs ≡ g ∷ filter p (filter q gs)
popped p q n [] g f e out stay = cc
popped p q n (k ∷ gs) g f e out stay =
    (elim (p k) as (λ b. p k ≡ b → cond b (Some k) (find p gs) ≡ Some g → cond b (k ∷ filter p gs) (filter p gs) ≡ g ∷ filter p (cond (q k) (k ∷ filter q gs) (filter q gs))) [
      | true ↦ λ w a.
          let same : k ≡ g = cc in
          let gone : q k ≡ false = ap q same ∙ out in
          let rest : filter q gs ≡ gs = all_stay gs (each_more (λ h. h.number.0 < k.number.0) (λ h. q h ≡ true) (λ h low. stay h (subst (λ (v : Scope). h.number.0 < v.number.0) same low)) gs (each_below k.number.0 gs f.1)) in
          rw gone (ap (λ v. v ∷ filter p gs) same ∙ ap (λ v. g ∷ filter p v) (sym rest))
      | false ↦ λ w a.
          let more : filter p gs ≡ g ∷ filter p (filter q gs) = popped p q k.number.0 gs g f.1 a out stay in
          elim (q k) as (λ c. filter p gs ≡ g ∷ filter p (cond c (k ∷ filter q gs) (filter q gs))) [
            | true ↦ rw w more
            | false ↦ more
          ]
    ]) refl e
  where
    all_stay : (xs : List Scope) → Each (λ h. q h ≡ true) xs → filter q xs ≡ xs
    all_stay [] h = refl
    all_stay (x ∷ xs) h = rw h.0 (ap (λ v. x ∷ v) (all_stay xs h.1))

pub release_pops : ReleasePops
release_pops T t s lost masked thrown r may =
    let h : Sound T = sound r in
    let g : Scope = may.asks.1 in
    let c = (own_chain T.tasks T.next_scope T.scopes t may.task g h.falls h.opened may.stands may.asks.2.0).chain in
    let self : meets g.number T.scopes (Some g.number) ≡ true = met_self _ T.scopes g.number c.rooted in (
      g,
      may.asks.2.1,
      popped (opened_by t) (λ k. not (on_chain T s k.number)) T.next_scope T.scopes g h.falls may.asks.2.0
          (ap not (on_meets s T.scopes (Some g.number) ∙ subst (λ (v : ScopeId). meets v T.scopes (Some g.number) ≡ true) may.asks.2.1 self))
          (λ k low. ap not (on_meets s T.scopes (Some k.number) ∙ false_from_ne_true (meets s T.scopes (Some k.number)) (λ e.
          let num : g.number.0 ≡ s.0 = ap (λ (v : ScopeId). v.0) may.asks.2.1 in
          let le : s.0 ≤ k.number.0 = met_newer s T.next_scope T.scopes k.number h.falls e in
          absurd (omega arith)))),
    )
