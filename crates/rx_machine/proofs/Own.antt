-- The own scopes of tasks after each kind of change, and slots that a change leaves as they were.
use Rattle.std.proofs.Common.{◌<◌, length, ◌≡◌, ◌≢◌, ℕ, Bool, true, false, cond, ◌==◌, List, [], ◌∷◌, ◌++◌, map, filter, reverse, Option, Some, None, slice_get, refl, ap, ◌∙◌, sym, subst, arith}
use Rattle.std.specs.List.{find}
use Rattle.std.proofs.lemmas.Bool.{eq-eqb, ne_eqb}
use Rattle.rx_rules.proofs.Common.{TaskId, ScopeId, Fault, Tree, task_of, inner, opened_by, change_first, change_scope, opened, after_end, Player}
use Rattle.rx_base.proofs.SameIds.{task-is}
use Rattle.rx_rules.specs.declared.tasks.Task.{Task}
use Rattle.rx_rules.specs.declared.tasks.Scope.{Scope}
use Rattle.rx_rules.specs.declared.tasks.Kind.{Kind}
use Rattle.rx_syntax.specs.Shape.{Shape}
use Rattle.rx_machine.specs.declared.seat.Seat.{Seat}
use Rattle.rx_machine.specs.Slots.{row_of, live_task, own_kinds, SlotIs, IsWork}
use Rattle.rx_tree_laws.specs.Spine.{Spine}
use Rattle.rx_machine.proofs.Live.{live_number, without_task}
use Rattle.rx_rules.specs.declared.entries.Entry.{Entry}
use Rattle.rx_machine.specs.declared.seat.Work.{Work}
use Rattle.rx_machine.proofs.Finding.{get_before}
use Rattle.std.proofs.lemmas.Option.{slice_get_within}
use Rattle.rx_machine.specs.declared.seat.Work.TheVariants.{Control as Begun, Seed as NotBegun}

-- the scopes that a task opened and that stand, the newest first
abbrev pub own_scopes : Tree → ℕ → List ScopeId
own_scopes T n = map (λ g. g.number) (filter (opened_by (record { 0 = n })) T.scopes)

-- the newest of them, or else the scope that the task hangs under
abbrev pub newest : List ScopeId → ScopeId → ScopeId
newest [] under = under
newest (s ∷ ss) under = s

first_found : (p : Scope → Bool) (gs : List Scope) (under : ScopeId) → (elim (find p gs) as (λ _. ScopeId) [ Some g ↦ g.number | None ↦ under ]) ≡ newest (map (λ g. g.number) (filter p gs)) under
first_found p [] under = refl
first_found p (g ∷ gs) under =
    elim (p g) as (λ b. (elim (cond b (Some g) (find p gs)) as (λ _. ScopeId) [ Some g ↦ g.number | None ↦ under ]) ≡ newest (map (λ g. g.number) (cond b (g ∷ filter p gs) (filter p gs))) under) [
      | true ↦ refl
      | false ↦ first_found p gs under
    ]

-- that is the innermost scope of the task
pub inner-newest : (T : Tree) (n : ℕ) (x : Task) → x.number.0 ≡ n → inner T x ≡ newest (own_scopes T n) x.under
inner-newest T n x number =
    let id : x.number ≡ record { 0 = n } = task-is x.number (record { 0 = n }) number in
    subst (λ (t : TaskId). (elim (find (opened_by t) T.scopes) as (λ _. ScopeId) [ Some g ↦ g.number | None ↦ x.under ]) ≡ newest (own_scopes T n) x.under) (sym id)
    (first_found (opened_by (record { 0 = n })) T.scopes x.under)

-- where the own scopes are the same, so is the innermost one
pub inner-same : (T T' : Tree) (n : ℕ) (x : Task) → x.number.0 ≡ n → own_scopes T' n ≡ own_scopes T n → inner T' x ≡ inner T x
inner-same T T' n x number own =
    inner-newest T' n x number ∙ (ap (λ (ss : List ScopeId). newest ss x.under) own ∙ sym (inner-newest T n x number))

-- and where a scope is the newest, it is the innermost one
pub inner-opened : (T : Tree) (n : ℕ) (x : Task) (s : ScopeId) (ss : List ScopeId) → x.number.0 ≡ n → own_scopes T n ≡ s ∷ ss → inner T x ≡ s
inner-opened T n x s ss number own = inner-newest T n x number ∙ ap (λ (v : List ScopeId). newest v x.under) own

-- the own scopes of a task, their numbers and kinds, are those of another tree
abbrev pub SameOwn : Tree → Tree → ℕ → Type 0
SameOwn T T' n = (own_scopes T' n ≡ own_scopes T n) × (own_kinds T' n ≡ own_kinds T n)

-- a scope that a task opens is its newest
pub opened-same : (T : Tree) (t : TaskId) (kind : Kind) (s r : ScopeId) → (own_scopes (opened T t kind s r) t.0 ≡ s ∷ own_scopes T t.0) × (own_kinds (opened T t kind s r) t.0 ≡ kind ∷ own_kinds T t.0)
opened-same T t kind s r = let e : (t.0 == t.0) ≡ true = eq-eqb t.0 t.0 refl in (rw e refl, rw e refl)

-- and none of another task
pub opened-other : (T : Tree) (t : TaskId) (kind : Kind) (s r : ScopeId) (n : ℕ) → t.0 ≢ n → SameOwn T (opened T t kind s r) n
opened-other T t kind s r n apart = let e : (t.0 == n) ≡ false = ne_eqb t.0 n apart in (rw e refl, rw e refl)

-- a change of faults alone
abbrev pub KeepsBones : (Scope → Scope) → Type 0
KeepsBones f = (g : Scope) → ((f g).number ≡ g.number) × ((f g).opener ≡ g.opener) × ((f g).kind ≡ g.kind)

bones : {X : Type 0} (h : Scope → X) (p : Scope → Bool) (q : Scope → Bool) (f : Scope → Scope) (gs : List Scope) → ((g : Scope) → h (f g) ≡ h g) → ((g : Scope) → p (f g) ≡ p g) → map h (filter p (change_first q f gs)) ≡ map h (filter p gs)
bones h p q f [] keeps same = refl
bones h p q f (g ∷ gs) keeps same =
    elim (q g) as (λ b. map h (filter p (cond b (f g ∷ gs) (g ∷ change_first q f gs))) ≡ map h (filter p (g ∷ gs))) [
      | true ↦ rw (same g) (elim (p g) as (λ b. map h (cond b (f g ∷ filter p gs) (filter p gs)) ≡ map h (cond b (g ∷ filter p gs) (filter p gs))) [ true ↦ ap (λ v. v ∷ map h (filter p gs)) (keeps g) | false ↦ refl ])
      | false ↦ elim (p g) as (λ b. map h (cond b (g ∷ filter p (change_first q f gs)) (filter p (change_first q f gs))) ≡ map h (cond b (g ∷ filter p gs) (filter p gs))) [
        | true ↦ ap (λ v. h g ∷ v) (bones h p q f gs keeps same)
        | false ↦ bones h p q f gs keeps same
      ]
    ]

pub scope-change : (T : Tree) (f : Scope → Scope) (s : ScopeId) (n : ℕ) → KeepsBones f → SameOwn T (change_scope f s T) n
scope-change T f s n keeps =
    let same : (g : Scope) → opened_by (record { 0 = n }) (f g) ≡ opened_by (record { 0 = n }) g = λ g. ap (λ (o : Option TaskId). elim o as (λ _. Bool) [ Some x ↦ x.0 == n | None ↦ false ]) (keeps g).1 in
    (bones (λ g. g.number) (opened_by (record { 0 = n })) _ f T.scopes (λ g. (keeps g).0) same, bones (λ g. g.kind) (opened_by (record { 0 = n })) _ f T.scopes (λ g. (keeps g).2) same)

-- An end takes the task out, and adds its faults to its scope.

pub end-tasks : (T : Tree) (t : TaskId) (thrown : List Fault) (x : Task) (n : ℕ) → task_of T t ≡ Some x → live_task (after_end T t thrown) n ≡ live_task (without_task t T) n
end-tasks T t thrown x n h = rw (h, after_end) refl

pub end-own : (T : Tree) (t : TaskId) (thrown : List Fault) (x : Task) (n : ℕ) → task_of T t ≡ Some x → SameOwn T (after_end T t thrown) n
end-own T t thrown x n h =
    let r = scope-change (without_task t T) (λ g. record g { ends = g.ends ++ thrown }) x.under n (λ g. (refl, refl, refl)) in
    (rw (h, after_end) r.0, rw (h, after_end) r.1)

-- a release by another task takes none of a task's own scopes
pub release-own : (T T' : Tree) (n : ℕ) → filter (opened_by (record { 0 = n })) T'.scopes ≡ filter (opened_by (record { 0 = n })) T.scopes → SameOwn T T' n
release-own T T' n e = (ap (map (λ g. g.number)) e, ap (map (λ g. g.kind)) e)

-- an entry more leaves the work of a task as it is
pub work-still : (shape : Shape) (es : List Entry) (e : Entry) (p : Player) (w : Work) → IsWork shape es p w → IsWork shape (es ++ e ∷ []) p w
work-still shape es e p (Begun control) h = h
work-still shape es e p (NotBegun entry seed) h =
    let low : entry < length es = slice_get_within es entry h.1.0 h.1.1 in
    let before : slice_get (es ++ e ∷ []) entry ≡ slice_get es entry = get_before es e entry (λ w. absurd (omega (arith, low, w))) in
    (h.0, (h.1.0, before ∙ h.1.1, h.1.2), h.2, h.3)

-- a slot stays where its task, that task's scopes and its player stay
pub slot-on : (shape : Shape) (es : List Entry) (e : Entry) (T T' : Tree) (ps ps' : List Player) (n : ℕ) (o : Option Seat) → live_task T' n ≡ live_task T n → ((x : Task) → live_task T n ≡ Some x → SameOwn T T' n) → slice_get ps' n ≡ slice_get ps n → SlotIs shape es T ps n o → SlotIs shape (es ++ e ∷ []) T' ps' n o
slot-on shape es e T T' ps ps' n None live own player h = live ∙ h
slot-on shape es e T T' ps ps' n (Some seat) live own player h =
    let s = h.3 in
    let o = own (row_of seat) s.row in (
      h.0,
      player ∙ h.1,
      h.2,
      record {
        row = live ∙ s.row;
        inner = inner-same T T' n (row_of seat) (live_number T n (row_of seat) s.row) o.0 ∙ s.inner;
        work = work-still shape es e h.0 seat.work s.work;
        waits = s.waits;
        held = s.held;
        spine = subst (λ (ks : List Kind). Spine h.0.term (reverse ks)) (sym o.1) s.spine;
      },
    )
