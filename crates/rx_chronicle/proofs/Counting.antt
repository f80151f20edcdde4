-- What the notes of scopes bound.
use Rattle.std.proofs.Common.{◌≡◌, ℕ, zero, suc, ◌+◌, ◌<◌, ◌≤◌, true, false, cond, not, List, [], ◌∷◌, ◌++◌, filter, map, length, slice_index_or, slice_set, Some, None, refl, ap, ◌∙◌, sym, subst, arith, length-append}
use Rattle.std.proofs.lemmas.Bool.{eqb-true}
use Rattle.rx_rules.proofs.Common.{PlaceId, TaskId, ScopeId, Fault, Tree, is_scope, task_of, scope_of, own_scope, opened_by, on_chain, change_first, made, made_act, after_end, home_for, thrown_of, fold_from, opening, tree_of}
use Rattle.rx_base.proofs.Elements.{find-passes}
use Rattle.rx_rules.specs.declared.entries.Act.{Act}
use Rattle.rx_rules.specs.declared.entries.Act.TheVariants.{Open, At as Calls, Spawn, Arrive, Wait, Release, End, Print, Census}
use Rattle.rx_rules.specs.declared.entries.Entry.{Entry}
use Rattle.rx_rules.specs.declared.entries.Entry.TheVariants.{Step, Root, Death, Join}
use Rattle.rx_rules.specs.declared.tasks.Task.{Task}
use Rattle.rx_rules.specs.declared.tasks.Scope.{Scope}
use Rattle.rx_rules.specs.declared.tasks.Kind.TheVariants.{Finish, Call}
use Rattle.rx_rules.proofs.Numbers.{scope-after_end}
use Rattle.rx_tree_laws.specs.Sound.{Each}
use Rattle.rx_tree_laws.proofs.Changes.{each_found, each_more, each_filter}
use Rattle.rx_chronicle.specs.declared.notes.Note.{Note}
use Rattle.rx_chronicle.specs.Told.{parents_by, parents_in, parents_told}
use Rattle.rx_chronicle.specs.Keeping.{Bounds}

-- The next scope's number is how many parents are told.

pub next-act : (T : Tree) (t : TaskId) (act : Act) → (made_act T t act).next_scope ≡ length (parents_by act) + T.next_scope
next-act T t (Open s r path) = omega arith
next-act T t (Calls from to s r callee path) = omega arith
next-act T t (Spawn child s from to path) = omega arith
next-act T t (Arrive p) = omega arith
next-act T t (Wait s thrown) = omega arith
next-act T t (Release s lost masked thrown) = omega arith
next-act T t (End thrown) = let e = scope-after_end T t thrown in omega (arith, e)
next-act T t (Print value path) = omega arith
next-act T t (Census places path) = omega arith

next-from : (n : ℕ) (T : Tree) (es : List Entry) → (fold_from n T es).next_scope ≡ length (parents_in es) + T.next_scope
next-from n T [] = omega arith
next-from n T (Step t act batch ∷ es) =
    let a = next-from (suc n) (made_act T t act) es in let b = next-act T t act in let c = length-append (parents_by act) (parents_in es) in omega (arith, a, b, c)
next-from n T (Root lost masked thrown ∷ es) = next-from (suc n) (made n T (Root lost masked thrown)) es
next-from n T (Death d ∷ es) = next-from (suc n) (made n T (Death d)) es
next-from n T (Join d ∷ es) = next-from (suc n) (made n T (Join d)) es

pub next-told : (q : ℕ) (es : List Entry) → (tree_of q es).next_scope ≡ length (parents_told es)
next-told q es = let a = next-from 0 (opening q) es in omega (arith, a)

-- The bounds after each act.

more_zero : (ns : List ℕ) (i : ℕ) → slice_index_or (ns ++ 0 ∷ []) i 0 ≡ slice_index_or ns i 0
more_zero [] zero = refl
more_zero [] (suc i) = refl
more_zero (n ∷ ns) zero = refl
more_zero (n ∷ ns) (suc i) = more_zero ns i

-- a scope more, which holds none
bounds-more : (ns : List ℕ) (g : Scope) (gs : List Scope) → g.number.0 ≡ length ns → g.body ≡ [] → g.ends ≡ [] → Each (Bounds ns) gs → Each (Bounds (ns ++ 0 ∷ [])) (g ∷ gs)
bounds-more ns g gs i b e h =
    let size : length (ns ++ 0 ∷ []) ≡ length ns + 1 = length-append ns (0 ∷ []) in (
      ((omega (arith, i, size)), (let z : length g.body ≡ 0 = ap length b in let y : length g.ends ≡ 0 = ap length e in omega arith)),
      each_more (Bounds ns) (Bounds (ns ++ 0 ∷ [])) (λ (x : Scope) a. ((let low : x.number.0 < length ns = a.0 in omega (arith, low, size)), subst (λ (n : ℕ). length x.body + length x.ends ≤ n) (sym (more_zero ns x.number.0)) a.1)) gs h,
    )

pub bounds-open : (ns : List ℕ) (T : Tree) (t : TaskId) (s r : ScopeId) (path : List ℕ) → s.0 ≡ length ns → Each (Bounds ns) T.scopes → Each (Bounds (ns ++ 0 ∷ [])) (made_act T t (Open s r path)).scopes
bounds-open ns T t s r path i h = bounds-more ns (record { number = s; kind = Finish; opener = Some t; home = home_for T t; parent = Some r; body = []; ends = [] }) T.scopes i refl refl h

pub bounds-call : (ns : List ℕ) (T : Tree) (t : TaskId) (s r : ScopeId) (callee : TaskId) (from to : PlaceId) (path : List ℕ) → s.0 ≡ length ns → Each (Bounds ns) T.scopes → Each (Bounds (ns ++ 0 ∷ [])) (made_act T t (Calls from to s r callee path)).scopes
bounds-call ns T t s r callee from to path i h = bounds-more ns (record { number = s; kind = Call; opener = Some t; home = home_for T t; parent = Some r; body = []; ends = [] }) T.scopes i refl refl h

bounds-change : (ns ms : List ℕ) (s : ScopeId) (f : Scope → Scope) → ((g : Scope) → is_scope s g ≡ true → Bounds ns g → Bounds ms (f g)) → ((g : Scope) → Bounds ns g → Bounds ms g) → (gs : List Scope) → Each (Bounds ns) gs → Each (Bounds ms) (change_first (is_scope s) f gs)
bounds-change ns ms s f on other [] h = tt
bounds-change ns ms s f on other (g ∷ gs) h =
    (elim (is_scope s g) as (λ b. is_scope s g ≡ b → Each (Bounds ms) (cond b (f g ∷ gs) (g ∷ change_first (is_scope s) f gs))) [
      | true ↦ λ e. (on g e h.0, each_more (Bounds ns) (Bounds ms) other gs h.1)
      | false ↦ λ e. (other g h.0, bounds-change ns ms s f on other gs h.1)
    ]) refl

set_there : (ns : List ℕ) (i m : ℕ) → i < length ns → slice_index_or (slice_set ns i m) i 0 ≡ m
set_there [] i m low = absurd (omega arith)
set_there (n ∷ ns) zero m low = refl
set_there (n ∷ ns) (suc i) m low = set_there ns i m (omega arith)

set_above : (ns : List ℕ) (i m j : ℕ) → slice_index_or ns i 0 ≤ m → slice_index_or ns j 0 ≤ slice_index_or (slice_set ns i m) j 0
set_above [] i m j low = omega arith
set_above (n ∷ ns) zero m zero low = low
set_above (n ∷ ns) zero m (suc j) low = omega arith
set_above (n ∷ ns) (suc i) m zero low = omega arith
set_above (n ∷ ns) (suc i) m (suc j) low = set_above ns i m j low

set_length : (ns : List ℕ) (i m : ℕ) → length (slice_set ns i m) ≡ length ns
set_length [] i m = refl
set_length (n ∷ ns) zero m = refl
set_length (n ∷ ns) (suc i) m = ap suc (set_length ns i m)

-- the bound of one scope raised
module _ (ns : List ℕ) (s : ScopeId) (m k : ℕ) (is : m ≡ slice_index_or ns s.0 0 + k) where
  abbrev pub ms : List ℕ
  ms = slice_set ns s.0 m

  above : (j : ℕ) → slice_index_or ns j 0 ≤ slice_index_or ms j 0
  above j = set_above ns s.0 m j (omega (arith, is))

  pub stay : (g : Scope) → Bounds ns g → Bounds ms g
  stay g h = ((let a : g.number.0 < length ns = h.0 in omega (arith, a, set_length ns s.0 m)), (let a = h.1 in let b = above g.number.0 in omega (arith, a, b)))

  raise : (g : Scope) (b e : ℕ) → is_scope s g ≡ true → Bounds ns g → b + e ≤ length g.body + length g.ends + k → (g.number.0 < length ms) × (b + e ≤ slice_index_or ms g.number.0 0)
  raise g b e it h more =
      let at : g.number.0 ≡ s.0 = eqb-true g.number.0 s.0 it in
      let low : g.number.0 < length ns = h.0 in
      let old : length g.body + length g.ends ≤ slice_index_or ns g.number.0 0 = h.1 in
      let old_at : length g.body + length g.ends ≤ slice_index_or ns s.0 0 = subst (λ (i : ℕ). length g.body + length g.ends ≤ slice_index_or ns i 0) at old in
      let there : slice_index_or ms s.0 0 ≡ m = set_there ns s.0 m (omega (arith, low, at)) in
      ((omega (arith, low, set_length ns s.0 m)), subst (λ (i : ℕ). b + e ≤ slice_index_or ms i 0) (sym at) (omega (arith, more, old_at, there, is)))

  pub bounds-wait : (T : Tree) (t : TaskId) (thrown : List Fault) → length thrown ≡ k → Each (Bounds ns) T.scopes → Each (Bounds ms) (made_act T t (Wait s thrown)).scopes
  bounds-wait T t thrown size h =
      bounds-change ns ms s (λ g. record g { body = thrown }) (λ g it b. raise g (length thrown) (length g.ends) it b (omega (arith, size))) stay T.scopes h

  pub bounds-end : (T : Tree) (t : TaskId) (thrown : List Fault) (x : Task) → length thrown ≡ k → task_of T t ≡ Some x → x.under ≡ s → Each (Bounds ns) T.scopes → Each (Bounds ms) (made_act T t (End thrown)).scopes
  bounds-end T t thrown x size found under h =
      let on : Each (Bounds ms) (change_first (is_scope s) (λ g. record g { ends = g.ends ++ thrown }) T.scopes) =
      bounds-change ns ms s (λ g. record g { ends = g.ends ++ thrown }) (λ (g : Scope) it b. raise g (length g.body) (length (g.ends ++ thrown)) it b (let l = length-append g.ends thrown in omega (arith, size, l))) stay T.scopes h
      in
      let at : Each (Bounds ms) (change_first (is_scope x.under) (λ g. record g { ends = g.ends ++ thrown }) T.scopes) = subst (λ (v : ScopeId). Each (Bounds ms) (change_first (is_scope v) (λ g. record g { ends = g.ends ++ thrown }) T.scopes)) (sym under) on in
      rw (found, after_end) at

pub bounds-release : (ns : List ℕ) (T : Tree) (s : ScopeId) → Each (Bounds ns) T.scopes → Each (Bounds ns) (filter (λ g. not (on_chain T s g.number)) T.scopes)
bounds-release ns T s h = each_filter (Bounds ns) (λ g. not (on_chain T s g.number)) T.scopes h

-- There is a note for each scope that is named.

pub notes_size : (notes : List Note) → length (map (λ n. n.faults) notes) ≡ length (map (λ n. n.parent) notes)
notes_size [] = refl
notes_size (n ∷ ns) = ap suc (notes_size ns)

pub notes_length : (notes : List Note) → length (map (λ n. n.faults) notes) ≡ length notes
notes_length [] = refl
notes_length (n ∷ ns) = ap suc (notes_length ns)

pub next-size : (q : ℕ) (es : List Entry) (notes : List Note) → map (λ n. n.parent) notes ≡ parents_told es → (tree_of q es).next_scope ≡ length (map (λ n. n.faults) notes)
next-size q es notes h = next-told q es ∙ (ap (λ (ps : List ScopeId). length ps) (sym h) ∙ sym (notes_size notes))

-- what a release throws is bounded
pub thrown_bound : (ns : List ℕ) (T : Tree) (s : ScopeId) → Each (Bounds ns) T.scopes → length (thrown_of T s) ≤ slice_index_or ns s.0 0
thrown_bound ns T s h =
    (elim (scope_of T s) as (λ o. scope_of T s ≡ o → length (elim o as (λ _. List Fault) [ Some g ↦ g.body ++ g.ends | None ↦ [] ]) ≤ slice_index_or ns s.0 0) [
      | Some g ↦ λ e.
          let a = each_found (Bounds ns) (is_scope s) T.scopes g h e in
          let at : g.number.0 ≡ s.0 = eqb-true g.number.0 s.0 (find-passes (is_scope s) T.scopes g e) in
          let low : length g.body + length g.ends ≤ slice_index_or ns s.0 0 = subst (λ (i : ℕ). length g.body + length g.ends ≤ slice_index_or ns i 0) at a.1 in
          let size = length-append g.body g.ends in
          omega (arith, low, size)
      | None ↦ λ e. omega arith
    ]) refl

-- an own scope has a note
pub own_noted : (ns : List ℕ) (T : Tree) (t : TaskId) (g : Scope) → own_scope T t ≡ Some g → Each (Bounds ns) T.scopes → g.number.0 < length ns
own_noted ns T t g e h = (each_found (Bounds ns) (opened_by t) T.scopes g h e).0
