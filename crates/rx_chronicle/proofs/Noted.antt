-- The parents and openers of scopes are those that the entries tell.
use Rattle.std.proofs.Common.{◌≡◌, ◌≢◌, ℕ, zero, suc, ◌+◌, ◌<◌, not, List, [], ◌∷◌, ◌++◌, length, slice_index_or, Some, refl, ap, ◌∙◌, sym, subst, arith, append_assoc, append-nil, length-append}
use Rattle.rx_rules.proofs.Common.{TaskId, ScopeId, Tree, is_scope, on_chain, the_root, made, made_act, after_end, Allowed, AllowedAct, without, home_for, AllAllowed, fold_from, opening, tree_of, Given, Folds}
use Rattle.rx_rules.specs.declared.entries.Act.{Act}
use Rattle.rx_rules.specs.declared.entries.Act.TheVariants.{Open, At as Calls, Spawn, Arrive, Wait, Release, End, Print, Census}
use Rattle.rx_rules.specs.declared.entries.Entry.{Entry}
use Rattle.rx_rules.specs.declared.entries.Entry.TheVariants.{Step, Root, Death, Join}
use Rattle.rx_rules.specs.declared.tasks.Scope.{Scope}
use Rattle.rx_rules.specs.declared.tasks.Kind.{Kind}
use Rattle.rx_rules.specs.declared.tasks.Kind.TheVariants.{Finish, Call}
use Rattle.rx_tree_laws.specs.Sound.{Each}
use Rattle.rx_tree_laws.proofs.Changes.{each_more, each_filter, each_change}
use Rattle.rx_chronicle.specs.Told.{parents_by, parents_in, parents_told, openers_by, openers_in, openers_told, no_opener}
use Rattle.rx_chronicle.specs.Noting.{IsNoted, NotesTell}
use Rattle.rx_chronicle.proofs.Counting.{next-act}

got_end : {A : Type 0} (d : A) (ps : List A) (r : A) → slice_index_or (ps ++ r ∷ []) (length ps) d ≡ r
got_end d [] r = refl
got_end d (p ∷ ps) r = got_end d ps r

got_front : {A : Type 0} (d : A) (ps qs : List A) (i : ℕ) → i < length ps → slice_index_or (ps ++ qs) i d ≡ slice_index_or ps i d
got_front d [] qs i low = absurd (omega (arith, low))
got_front d (p ∷ ps) qs zero low = refl
got_front d (p ∷ ps) qs (suc i) low = got_front d ps qs i (omega (arith, low))

-- the scope's parent and its opener are told
pub record Told (ps : List ScopeId) (os : List TaskId) (g : Scope) : Type 0 where
  pub low : g.number.0 < length ps
  pub parent : g.number.0 ≢ 0 → g.parent ≡ Some (slice_index_or ps g.number.0 the_root)
  pub opener : g.number.0 ≢ 0 → g.opener ≡ Some (slice_index_or os g.number.0 no_opener)

pub record AllTold (ps : List ScopeId) (os : List TaskId) (T : Tree) : Type 0 where
  pub each : Each (Told ps os) T.scopes
  pub next : T.next_scope ≡ length ps
  pub size : length os ≡ length ps

more_told : (ps qs : List ScopeId) (os ts : List TaskId) (gs : List Scope) → length os ≡ length ps → Each (Told ps os) gs → Each (Told (ps ++ qs) (os ++ ts)) gs
more_told ps qs os ts gs size h =
    each_more (Told ps os) (Told (ps ++ qs) (os ++ ts)) (λ (g : Scope) a.
    let low : g.number.0 < length ps = a.low in
    let long = length-append ps qs in
    record {
      low = omega (arith, low, long);
      parent = λ o. a.parent o ∙ ap (λ (p : ScopeId). Some p) (sym (got_front the_root ps qs g.number.0 low));
      opener = λ o. a.opener o ∙ ap (λ (t : TaskId). Some t) (sym (got_front no_opener os ts g.number.0 (omega (arith, low, size))));
    }) gs h

new_told : (ps : List ScopeId) (os : List TaskId) (T : Tree) (t : TaskId) (kind : Kind) (s r : ScopeId) → s.0 ≡ T.next_scope → AllTold ps os T → Each (Told (ps ++ r ∷ []) (os ++ t ∷ [])) (record { number = s; kind = kind; opener = Some t; home = home_for T t; parent = Some r; body = []; ends = [] } ∷ T.scopes)
new_told ps os T t kind s r is h =
    let next = h.next in
    let size = h.size in
    let long = length-append ps (r ∷ []) in
    let at : s.0 ≡ length ps = is ∙ next in
    let there : s.0 ≡ length os = at ∙ sym size in (
      record {
        low = omega (arith, at, long);
        parent = λ o. ap (λ (p : ScopeId). Some p) (sym (ap (λ (i : ℕ). slice_index_or (ps ++ r ∷ []) i the_root) at ∙ got_end the_root ps r));
        opener = λ o. ap (λ (v : TaskId). Some v) (sym (ap (λ (i : ℕ). slice_index_or (os ++ t ∷ []) i no_opener) there ∙ got_end no_opener os t));
      },
      more_told ps (r ∷ []) os (t ∷ []) T.scopes size h.each,
    )

same_body : (ps : List ScopeId) (os : List TaskId) (g : Scope) (f : Scope → Scope) → (f g).number ≡ g.number → (f g).parent ≡ g.parent → (f g).opener ≡ g.opener → Told ps os g → Told ps os (f g)
same_body ps os g f n p o a = record {
  low = subst (λ (s : ScopeId). s.0 < length ps) (sym n) a.low;
  parent = subst (λ (s : ScopeId). s.0 ≢ 0 → (f g).parent ≡ Some (slice_index_or ps s.0 the_root)) (sym n) (λ z. p ∙ a.parent z);
  opener = subst (λ (s : ScopeId). s.0 ≢ 0 → (f g).opener ≡ Some (slice_index_or os s.0 no_opener)) (sym n) (λ z. o ∙ a.opener z);
}

told_scopes : (ps : List ScopeId) (os : List TaskId) (T : Tree) (t : TaskId) (act : Act) → AllowedAct T t act → AllTold ps os T → Each (Told (ps ++ parents_by act) (os ++ openers_by t act)) (made_act T t act).scopes
told_scopes ps os T t (Open s r path) may h = new_told ps os T t Finish s r may.asks.1 h
told_scopes ps os T t (Calls from to s r callee path) may h = new_told ps os T t Call s r may.asks.1 h
told_scopes ps os T t (Spawn child s from to path) may h = more_told ps [] os [] T.scopes h.size h.each
told_scopes ps os T t (Arrive p) may h = more_told ps [] os [] T.scopes h.size h.each
told_scopes ps os T t (Wait s thrown) may h =
    more_told ps [] os [] _ h.size (each_change (Told ps os) (is_scope s) (λ g. record g { body = thrown }) T.scopes (λ g e a. same_body ps os g (λ x. record x { body = thrown }) refl refl refl a) h.each)
told_scopes ps os T t (Release s lost masked thrown) may h = more_told ps [] os [] _ h.size (each_filter (Told ps os) (λ g. not (on_chain T s g.number)) T.scopes h.each)
told_scopes ps os T t (End thrown) may h =
    let changed = more_told ps [] os [] _ h.size (each_change (Told ps os) (is_scope may.task.under) (λ g. record g { ends = g.ends ++ thrown }) T.scopes (λ g e a. same_body ps os g (λ x. record x { ends = x.ends ++ thrown }) refl refl refl a) h.each) in
    let found = may.stands in rw (found, after_end) changed
told_scopes ps os T t (Print value path) may h = more_told ps [] os [] T.scopes h.size h.each
told_scopes ps os T t (Census places path) may h = more_told ps [] os [] T.scopes h.size h.each

by_size : (t : TaskId) (act : Act) → length (openers_by t act) ≡ length (parents_by act)
by_size t (Open s r path) = refl
by_size t _ = refl

-- where an entry opens no scope
none_told : (ps : List ScopeId) (os : List TaskId) (T : Tree) → AllTold ps os T → AllTold (ps ++ []) (os ++ []) T
none_told ps os T h = subst (λ (qs : List ScopeId). AllTold qs (os ++ []) T) (sym (append-nil ps)) (subst (λ (ts : List TaskId). AllTold ps ts T) (sym (append-nil os)) h)

told_entry : (n : ℕ) (ps : List ScopeId) (os : List TaskId) (T : Tree) (e : Entry) → Allowed T e → AllTold ps os T → AllTold (ps ++ parents_in (e ∷ [])) (os ++ openers_in (e ∷ [])) (made n T e)
told_entry n ps os T (Step t act batch) may h =
    subst (λ (qs : List ScopeId). AllTold (ps ++ qs) (os ++ openers_in (Step t act batch ∷ [])) (made_act T t act)) (sym (append-nil (parents_by act)))
    (subst (λ (ts : List TaskId). AllTold (ps ++ parents_by act) (os ++ ts) (made_act T t act)) (sym (append-nil (openers_by t act)))
    (record {
      each = told_scopes ps os T t act may h;
      next = (let a = next-act T t act in let b = h.next in let c = length-append ps (parents_by act) in omega (arith, a, b, c));
      size = (let a = h.size in let b = length-append ps (parents_by act) in let c = length-append os (openers_by t act) in let d = by_size t act in omega (arith, a, b, c, d));
    }))
told_entry n ps os T (Root lost masked thrown) may h =
    none_told ps os (without T the_root) (record { each = each_filter (Told ps os) (λ g. not (on_chain T the_root g.number)) T.scopes h.each; next = h.next; size = h.size })
told_entry n ps os T (Death d) may h = none_told ps os (made n T (Death d)) (record { each = h.each; next = h.next; size = h.size })
told_entry n ps os T (Join d) may h = none_told ps os (made n T (Join d)) (record { each = h.each; next = h.next; size = h.size })

one_then : (e : Entry) (es : List Entry) → parents_in (e ∷ []) ++ parents_in es ≡ parents_in (e ∷ es)
one_then (Step t act batch) es = ap (λ (qs : List ScopeId). qs ++ parents_in es) (append-nil (parents_by act))
one_then _ es = refl

opener_then : (e : Entry) (es : List Entry) → openers_in (e ∷ []) ++ openers_in es ≡ openers_in (e ∷ es)
opener_then (Step t act batch) es = ap (λ (qs : List TaskId). qs ++ openers_in es) (append-nil (openers_by t act))
opener_then _ es = refl

told_from : (n : ℕ) (ps : List ScopeId) (os : List TaskId) (T : Tree) (es : List Entry) → AllAllowed n T es → AllTold ps os T → AllTold (ps ++ parents_in es) (os ++ openers_in es) (fold_from n T es)
told_from n ps os T [] may h = none_told ps os T h
told_from n ps os T (e ∷ es) may h =
    subst (λ (qs : List ScopeId). AllTold qs (os ++ openers_in (e ∷ es)) (fold_from (suc n) (made n T e) es)) (append_assoc ps (parents_in (e ∷ [])) (parents_in es) ∙ ap (λ (qs : List ScopeId). ps ++ qs) (one_then e es))
    (subst (λ (ts : List TaskId). AllTold ((ps ++ parents_in (e ∷ [])) ++ parents_in es) ts (fold_from (suc n) (made n T e) es)) (append_assoc os (openers_in (e ∷ [])) (openers_in es) ∙ ap (λ (ts : List TaskId). os ++ ts) (opener_then e es))
    (told_from (suc n) (ps ++ parents_in (e ∷ [])) (os ++ openers_in (e ∷ [])) (made n T e) es may.1 (told_entry n ps os T e may.0 h)))

opening_told : (q : ℕ) → AllTold (the_root ∷ []) (no_opener ∷ []) (opening q)
opening_told q = record { each = (record { low = (let a : 0 < 1 = omega arith in a); parent = λ o. absurd (o refl); opener = λ o. absurd (o refl) }, tt); next = refl; size = refl }

-- so it is after each history
pub all_told : (U : Given) (es : List Entry) → Folds U es → AllTold (parents_told es) (openers_told es) (tree_of U.places es)
all_told U es folds = told_from 0 (the_root ∷ []) (no_opener ∷ []) (opening U.places) es folds.allowed (opening_told U.places)

pub notes_tell : NotesTell
notes_tell U es folds =
    each_more (Told (parents_told es) (openers_told es)) (IsNoted es) (λ (g : Scope) a. λ o. (a.opener o, a.parent o)) (tree_of U.places es).scopes (all_told U es folds).each
