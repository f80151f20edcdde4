-- What is pending falls from entry to entry, and what an entry tells is related to all that is pending after it.
use Rattle.std.proofs.Common.{◌≡◌, ◌⊎◌, ℕ, suc, ◌<◌, Bool, true, false, not, ◌&&◌, ◌||◌, ◌==◌, List, [], ◌∷◌, ◌++◌, map, filter, Some, None, is_none, is_some, refl, ap, sym, subst, ◌∙◌, arith, inl, inr, add-zero}
use Rattle.std.specs.List.{list_any, find}
use Rattle.std.proofs.lemmas.Bool.{eqb-true, eq-eqb, cond_both, or_cases, or_left, or_right, and_parts, and_from, cases_order}
use Rattle.rx_rules.proofs.Common.{TaskId, Fault, Tree, is_task, task_of, is_under, the_root, Allowed, AllowedAct, made, after_end, born, waiting, resumed, without, change_first, hit, is_hit, Block, Term, Vars, started_by, own_path, is_born, born_so_far}
use Rattle.rx_rules.specs.declared.tasks.Where.TheVariants.{At}
use Rattle.rx_rules.specs.declared.entries.Act.{Act}
use Rattle.rx_rules.specs.declared.entries.Act.TheVariants.{Open, At as Calls, Spawn, Arrive, Wait, Release, End, Print, Census}
use Rattle.rx_rules.specs.declared.entries.Entry.{Entry}
use Rattle.rx_rules.specs.declared.entries.Entry.TheVariants.{Step, Root, Death, Join}
use Rattle.rx_rules.specs.declared.tasks.Task.{Task}
use Rattle.rx_rules.specs.declared.tasks.Blow.{Blow}
use Rattle.rx_history_laws.proofs.Paths.{Comes}
use Rattle.rx_history_laws.proofs.TermOrder.{Todo}
use Rattle.rx_history_laws.proofs.Turns.{InTurn, ComesAll, AllWithin}
use Rattle.rx_history_laws.proofs.NestedTerm.{EachStarts}
use Rattle.rx_history_laws.proofs.Stacks.{open_paths, outermost}
use Rattle.rx_history_laws.proofs.Lies.{Moves}
use Rattle.rx_history_laws.proofs.Says.{Says, ChildOf}
use Rattle.rx_history_laws.proofs.Story.{Shape, set_at, set_case}
use Rattle.rx_history_laws.proofs.Lines.{bones}
use Rattle.rx_history_laws.proofs.Aligned.{facts}
use Rattle.rx_history_laws.proofs.Ties.{Tied, has_died}
use Rattle.rx_history_laws.proofs.TiesStep.{found_older}
use Rattle.rx_rules.proofs.Lookups.{number-of}
use Rattle.rx_rules.proofs.Numbers.{next-made}

-- a task with a row that no death has struck
abbrev pub is_free : ℕ → Task → Bool
is_free c x = (x.number.0 == c) && is_none x.struck

abbrev pub is_alive : Tree → ℕ → Bool
is_alive T c = list_any (is_free c) T.tasks

-- Where an entry leaves a task alive, it was alive before, or the entry starts it.

alive-change : (p : Task → Bool) (f : Task → Task) (c : ℕ) → ((x : Task) → is_free c (f x) ≡ is_free c x) → (xs : List Task) → list_any (is_free c) (change_first p f xs) ≡ list_any (is_free c) xs
alive-change p f c same [] = refl
alive-change p f c same (x ∷ xs) =
    cond_both (p x) (f x ∷ xs) (x ∷ change_first p f xs) (λ l. list_any (is_free c) l ≡ list_any (is_free c) (x ∷ xs))
    (λ e. ap (λ y. y || list_any (is_free c) xs) (same x)) (λ e. ap (λ y. is_free c x || y) (alive-change p f c same xs))

alive-filter : (p : Task → Bool) (c : ℕ) (xs : List Task) → list_any (is_free c) (filter p xs) ≡ true → list_any (is_free c) xs ≡ true
alive-filter p c [] h = h
alive-filter p c (x ∷ xs) h =
    cond_both (p x) (x ∷ filter p xs) (filter p xs) (λ l. list_any (is_free c) l ≡ true → list_any (is_free c) (x ∷ xs) ≡ true)
    (λ e k. elim (or_cases (is_free c x) (list_any (is_free c) (filter p xs)) k) [
      | inl a ↦ or_left (is_free c x) (list_any (is_free c) xs) a
      | inr b ↦ or_right (is_free c x) (list_any (is_free c) xs) (alive-filter p c xs b)
    ])
    (λ e k. or_right (is_free c x) (list_any (is_free c) xs) (alive-filter p c xs k)) h

free-hit : (b : Blow) (c : ℕ) (x : Task) → is_free c (hit b x) ≡ true → is_free c x ≡ true
free-hit b c x =
    cond_both (is_none x.struck && is_hit b.place x.place) (record x { struck = Some b }) x (λ y. is_free c y ≡ true → is_free c x ≡ true)
    (λ e h. let k : false ≡ true = (and_parts (x.number.0 == c) false h).1 in cc) (λ e h. h)

alive-hit : (b : Blow) (c : ℕ) (xs : List Task) → list_any (is_free c) (map (hit b) xs) ≡ true → list_any (is_free c) xs ≡ true
alive-hit b c [] h = h
alive-hit b c (x ∷ xs) h =
    elim (or_cases (is_free c (hit b x)) (list_any (is_free c) (map (hit b) xs)) h) [
      | inl a ↦ or_left (is_free c x) (list_any (is_free c) xs) (free-hit b c x a)
      | inr r ↦ or_right (is_free c x) (list_any (is_free c) xs) (alive-hit b c xs r)
    ]

-- a task that acts is alive
pub alive-acts : (p : Task → Bool) (xs : List Task) (x : Task) (c : ℕ) → find p xs ≡ Some x → x.number.0 ≡ c → x.struck ≡ None → list_any (is_free c) xs ≡ true
alive-acts p [] x c h e u = cc
alive-acts p (y ∷ ys) x c h e u = acts_step p y ys x c (p y) refl h e u (λ k. alive-acts p ys x c k e u) where
  acts_step : (p : Task → Bool) (y : Task) (ys : List Task) (x : Task) (c : ℕ) (b : Bool) → p y ≡ b → find p (y ∷ ys) ≡ Some x → x.number.0 ≡ c → x.struck ≡ None → (find p ys ≡ Some x → list_any (is_free c) ys ≡ true) → list_any (is_free c) (y ∷ ys) ≡ true
  acts_step p y ys x c true b h e u on =
      let same : y ≡ x = let k : Some y ≡ Some x = rw b at h in cc in
      or_left (is_free c y) (list_any (is_free c) ys) (and_from (y.number.0 == c) (is_none y.struck) (eq-eqb y.number.0 c (ap (λ (v : Task). v.number.0) same ∙ e)) (ap (λ (v : Task). is_none v.struck) same ∙ ap is_none u))
  acts_step p y ys x c false b h e u on = or_right (is_free c y) (list_any (is_free c) ys) (on (rw b at h))

alive-born : (x : Task) (c : ℕ) (xs : List Task) → list_any (is_free c) (x ∷ xs) ≡ true → (list_any (is_free c) xs ≡ true) ⊎ (x.number.0 ≡ c)
alive-born x c xs h =
    elim (or_cases (is_free c x) (list_any (is_free c) xs) h) [
      | inl a ↦ inr (eqb-true x.number.0 c (and_parts (x.number.0 == c) (is_none x.struck) a).0)
      | inr r ↦ inl r
    ]

abbrev pub Starts_it : Entry → ℕ → Type 0
Starts_it (Step t act batch) c = (d : TaskId) × (started_by act ≡ Some d) × (d.0 ≡ c)
Starts_it _ c = ⊥

alive-end : (T : Tree) (t : TaskId) (thrown : List Fault) (c : ℕ) (x : Task) → task_of T t ≡ Some x → is_alive (after_end T t thrown) c ≡ true → is_alive T c ≡ true
alive-end T t thrown c x e h =
    let left : (after_end T t thrown).tasks ≡ filter (λ y. not (is_task t y)) T.tasks = rw (e, after_end) in
    alive-filter (λ y. not (is_task t y)) c T.tasks (ap (list_any (is_free c)) (sym left) ∙ h)

pub alive-back : (n : ℕ) (T : Tree) (e : Entry) (c : ℕ) → Allowed T e → is_alive (made n T e) c ≡ true → (is_alive T c ≡ true) ⊎ Starts_it e c
alive-back n T (Step t (Open s r path) batch) c a h = inl h
alive-back n T (Step t (Calls from to s r d path) batch) c a h =
    elim (alive-born (born T d s from to) c T.tasks (sym (alive-change (is_task t) waiting c (λ x. refl) (born T d s from to ∷ T.tasks)) ∙ h)) [
      | inl k ↦ inl k
      | inr k ↦ inr (d, refl, k)
    ]
alive-back n T (Step t (Spawn d s from to path) batch) c a h =
    elim (alive-born (born T d s from to) c T.tasks h) [
      | inl k ↦ inl k
      | inr k ↦ inr (d, refl, k)
    ]
alive-back n T (Step t (Arrive p) batch) c a h = inl (sym (alive-change (is_task t) (λ x. record x { place = At p }) c (λ x. refl) T.tasks) ∙ h)
alive-back n T (Step t (Wait s thrown) batch) c a h = inl (sym (alive-change (is_task t) waiting c (λ x. refl) T.tasks) ∙ h)
alive-back n T (Step t (Release s lost masked thrown) batch) c a h =
    inl (alive-filter (λ x. not (is_under T s x && is_some x.struck)) c T.tasks (sym (alive-change (is_task t) resumed c (λ x. refl) (without T s).tasks) ∙ h))
alive-back n T (Step t (End thrown) batch) c a h = inl (alive-end T t thrown c a.task a.stands h)
alive-back n T (Step t (Print value path) batch) c a h = inl h
alive-back n T (Step t (Census places path) batch) c a h = inl h
alive-back n T (Root lost masked thrown) c a h = inl (alive-filter (λ x. not (is_under T the_root x && is_some x.struck)) c T.tasks h)
alive-back n T (Death d) c a h = inl (alive-hit (record { place = d; entry = n }) c T.tasks h)
alive-back n T (Join d) c a h = inl h

-- Pairs.

abbrev pub Among : List ℕ → List (List ℕ) → Type 0
Among z [] = ⊥
Among z (y ∷ ys) = (z ≡ y) ⊎ Among z ys

abbrev pub Related : (List ℕ → List ℕ → Type 0) → List ℕ → List (List ℕ) → Type 0
Related R z [] = Unit {0}
Related R z (y ∷ ys) = R z y × Related R z ys

abbrev pub EachPair : (List ℕ → List ℕ → Type 0) → List (List ℕ) → Type 0
EachPair R [] = Unit {0}
EachPair R (z ∷ zs) = Related R z zs × EachPair R zs

abbrev pub AllSo : (List ℕ → Type 0) → List (List ℕ) → Type 0
AllSo P [] = Unit {0}
AllSo P (z ∷ zs) = P z × AllSo P zs

pub all_so-append : (P : List ℕ → Type 0) (zs ws : List (List ℕ)) → AllSo P zs → AllSo P ws → AllSo P (zs ++ ws)
all_so-append P [] ws a b = b
all_so-append P (z ∷ zs) ws a b = (a.0, all_so-append P zs ws a.1 b)

pub all_so-map : (P Q : List ℕ → Type 0) → ((z : List ℕ) → P z → Q z) → (zs : List (List ℕ)) → AllSo P zs → AllSo Q zs
all_so-map P Q f [] a = tt
all_so-map P Q f (z ∷ zs) a = (f z a.0, all_so-map P Q f zs a.1)

related-append : (R : List ℕ → List ℕ → Type 0) (z : List ℕ) (ys ws : List (List ℕ)) → Related R z ys → Related R z ws → Related R z (ys ++ ws)
related-append R z [] ws a b = b
related-append R z (y ∷ ys) ws a b = (a.0, related-append R z ys ws a.1 b)

pub pairs-append : (R : List ℕ → List ℕ → Type 0) (zs ws : List (List ℕ)) → EachPair R zs → EachPair R ws → ((z : List ℕ) → Among z zs → Related R z ws) → EachPair R (zs ++ ws)
pairs-append R [] ws a b f = b
pairs-append R (z ∷ zs) ws a b f =
    (related-append R z zs ws a.0 (f z (inl refl)), pairs-append R zs ws a.1 b (λ y m. f y (inr m)))

pub in_turn-at : (t after : Term) (zs : List (List ℕ)) → InTurn t zs after → (z : List ℕ) → Among z zs → Todo t z × ((y : List ℕ) → Todo after y → Comes z y)
in_turn-at t after [] i z m = absurd m
in_turn-at t after (y ∷ ys) i z (inl e) = subst (λ v. Todo t v × ((w : List ℕ) → Todo after w → Comes v w)) (sym e) (i.0, i.1)
in_turn-at t after (y ∷ ys) i z (inr m) = in_turn-at t after ys i.3 z m

related-all : (R : List ℕ → List ℕ → Type 0) → ((z w : List ℕ) → Comes z w → R z w) → (z : List ℕ) (ys : List (List ℕ)) → ComesAll z ys → Related R z ys
related-all R own z [] c = tt
related-all R own z (y ∷ ys) c = (own z y c.0, related-all R own z ys c.1)

pub in_turn-pairs : (R : List ℕ → List ℕ → Type 0) → ((z w : List ℕ) → Comes z w → R z w) → (t after : Term) (zs : List (List ℕ)) → InTurn t zs after → EachPair R zs
in_turn-pairs R own t after [] i = tt
in_turn-pairs R own t after (z ∷ zs) i = (related-all R own z zs i.2, in_turn-pairs R own t after zs i.3)

pub in_turn-todo : (t after : Term) (zs : List (List ℕ)) → InTurn t zs after → AllSo (Todo t) zs
in_turn-todo t after [] i = tt
in_turn-todo t after (z ∷ zs) i = (i.0, in_turn-todo t after zs i.3)

pub related-so : (R : List ℕ → List ℕ → Type 0) (P : List ℕ → Type 0) (z : List ℕ) (ws : List (List ℕ)) → ((w : List ℕ) → P w → R z w) → AllSo P ws → Related R z ws
related-so R P z [] h p = tt
related-so R P z (w ∷ ws) h p = (h w p.0, related-so R P z ws h p.1)

-- a task that is born and that no death has struck has the statement still to begin
pub record Pending (T : Tree) (term_at : ℕ → Term) (y : List ℕ) : Type 0 where
  pub task : ℕ
  pub born : task < T.next_task
  pub alive : is_alive T task ≡ true
  pub todo : Todo (term_at task) y

abbrev pub by_host : Entry → Bool
by_host (Step t act batch) = false
by_host _ = true

-- a fact of what stands before an entry, the tree and the terms that each entry keeps, and each step between entries
pub record Keeps (code : Block) (starts : List (Term × Vars)) (K : List Entry → Tree → (ℕ → Term) → Type 0) : Type 0 where
  pub host : (n : ℕ) (past : List Entry) (T : Tree) (e : Entry) (f : ℕ → Term) → Tied past T → Shape code past T.next_task f → Allowed T e → by_host e ≡ true → K past T f → K (e ∷ past) (made n T e) f
  pub step : (n : ℕ) (past : List Entry) (T : Tree) (t : TaskId) (act : Act) (batch told : List (List ℕ)) (f : ℕ → Term) → Tied past T → Shape code past T.next_task f → (sd : Says starts (f t.0) act told) → Allowed T (Step t act batch) → t.0 < T.next_task → is_alive T t.0 ≡ true → started_by act ≡ None → K past T f → K (Step t act batch ∷ past) (made n T (Step t act batch)) (set_at t.0 sd.after f)
  pub birth : (n : ℕ) (past : List Entry) (T : Tree) (t : TaskId) (act : Act) (batch told : List (List ℕ)) (f : ℕ → Term) → Tied past T → Shape code past T.next_task f → (sd : Says starts (f t.0) act told) → Allowed T (Step t act batch) → t.0 < T.next_task → is_alive T t.0 ≡ true → (c : TaskId) (e : started_by act ≡ Some c) → c.0 ≡ T.next_task → K past T f → K (Step t act batch ∷ past) (made n T (Step t act batch)) (set_at T.next_task (sd.child c e).term (set_at t.0 sd.after f))
  pub inner : (past : List Entry) (T : Tree) (c : ℕ) (after : Term) (f : ℕ → Term) → Shape code past T.next_task f → c < T.next_task → Moves code (f c) after → K past T f → K past T (set_at c after f)

-- R holds of each statement that a task begins, within the scopes that it has open, and each one that another living task has
-- still to begin then
abbrev pub Others : Block → (List Entry → Tree → (ℕ → Term) → Type 0) → (List ℕ → List ℕ → Type 0) → Type 0
Others code K R =
    (past : List Entry) (T : Tree) (f : ℕ → Term) → Tied past T → Shape code past T.next_task f → K past T f → (t : ℕ) → t < T.next_task → (z : List ℕ) → Todo (f t) z → EachStarts (outermost (open_paths past t)) z → (c : ℕ) → c < T.next_task → (t ≡ c → ⊥) → is_alive T c ≡ true → (w : List ℕ) → Todo (f c) w → R z w

pub within-at : (ps zs : List (List ℕ)) (z : List ℕ) → AllWithin ps zs → Among z zs → EachStarts ps z
within-at ps [] z a m = absurd m
within-at ps (y ∷ ys) z a (inl e) = subst (EachStarts ps) (sym e) a.0
within-at ps (y ∷ ys) z a (inr m) = within-at ps ys z a.1 m

-- Pending falls from entry to entry, and what an entry tells is related to all that is pending after it.
module _ (code : Block) (starts : List (Term × Vars)) (n : ℕ) (past : List Entry) (T : Tree) (t : TaskId) (act : Act) (batch told : List (List ℕ)) (f : ℕ → Term) (s : Shape code past T.next_task f) (sd : Says starts (f t.0) act told) (a : Allowed T (Step t act batch)) (low : t.0 < T.next_task) (lives : is_alive T t.0 ≡ true) where
  old_todo : (w : List ℕ) (c : ℕ) → Todo (set_at t.0 sd.after f c) w → Todo (f c) w
  old_todo w c =
      set_case (λ u. Todo u w → Todo (f c) w) t.0 c sd.after f (λ e h. subst (λ d. Todo (f d) w) e (sd.shrinks w h)) (λ o h. h)

  was_alive : started_by act ≡ None → (c : ℕ) → is_alive (made n T (Step t act batch)) c ≡ true → is_alive T c ≡ true
  was_alive none c h =
      elim (alive-back n T (Step t act batch) c a h) [
        | inl k ↦ k
        | inr k ↦ let bad : None ≡ Some k.0 = sym none ∙ k.1 in absurd (let f : ⊥ = cc in f)
      ]

  pub back-plain : started_by act ≡ None → (made n T (Step t act batch)).next_task ≡ T.next_task → (w : List ℕ) → Pending (made n T (Step t act batch)) (set_at t.0 sd.after f) w → Pending T f w
  back-plain none same w p =
      record { task = p.task; born = (let k : p.task < (made n T (Step t act batch)).next_task = p.born in omega (arith, same)); alive = was_alive none p.task p.alive; todo = old_todo w p.task p.todo }

  -- what a task that was there has pending
  module _ (i : Tied past T) (K : List Entry → Tree → (ℕ → Term) → Type 0) (kept : K past T f) (R : List ℕ → List ℕ → Type 0) (own : (z w : List ℕ) → Comes z w → R z w) (others : Others code K R) where
    old_pair : (z : List ℕ) → Among z (told ++ own_path act) → (w : List ℕ) (c : ℕ) → c < T.next_task → is_alive T c ≡ true → Todo (set_at t.0 sd.after f c) w → R z w
    old_pair z m w c low_c alive_c =
        let at = in_turn-at (f t.0) sd.after (told ++ own_path act) sd.order z m in
        let deep = within-at (outermost (open_paths past t.0)) (told ++ own_path act) z (sd.inside (outermost (open_paths past t.0)) (s.nested t.0 low)) m in
        set_case (λ u. Todo u w → R z w) t.0 c sd.after f (λ e h. own z w (at.1 w h))
        (λ o h. others past T f i s kept t.0 low z at.0 deep c low_c o alive_c w h)

    pub cross-plain : started_by act ≡ None → (made n T (Step t act batch)).next_task ≡ T.next_task → (z : List ℕ) → Among z (told ++ own_path act) → (w : List ℕ) → Pending (made n T (Step t act batch)) (set_at t.0 sd.after f) w → R z w
    cross-plain none same z m w p =
        old_pair z m w p.task (let k : p.task < (made n T (Step t act batch)).next_task = p.born in omega (arith, same)) (was_alive none p.task p.alive) p.todo

  module _ (c : TaskId) (e : started_by act ≡ Some c) (new : c.0 ≡ T.next_task) (more : (made n T (Step t act batch)).next_task ≡ suc T.next_task) where
    abbrev ch : ChildOf starts c (f t.0) sd.after (told ++ own_path act)
    ch = sd.child c e

    abbrev old : ℕ → Term
    old = set_at t.0 sd.after f

    below : (d : ℕ) → d < (made n T (Step t act batch)).next_task → (T.next_task ≡ d → ⊥) → d < T.next_task
    below d h o =
        elim (cases_order d T.next_task) [
          | inl k ↦ absurd (o (sym k))
          | inr (inl k) ↦ k
          | inr (inr k) ↦ absurd (omega (arith, more))
        ]

    before : (d : ℕ) → is_alive (made n T (Step t act batch)) d ≡ true → (T.next_task ≡ d → ⊥) → is_alive T d ≡ true
    before d h o =
        elim (alive-back n T (Step t act batch) d a h) [
          | inl k ↦ k
          | inr k ↦ absurd (o (sym new ∙ (let it : c ≡ k.0 = let j : Some c ≡ Some k.0 = sym e ∙ k.1 in cc in ap (λ (v : TaskId). v.0) it) ∙ k.2))
        ]

    pub back-birth : (w : List ℕ) → Pending (made n T (Step t act batch)) (set_at T.next_task ch.term old) w → Pending T f w
    back-birth w p =
        set_case (λ u. Todo u w → Pending T f w) T.next_task p.task ch.term old
        (λ k h. record { task = t.0; born = low; alive = lives; todo = ch.shrinks w h })
        (λ o h. record { task = p.task; born = below p.task p.born o; alive = before p.task p.alive o; todo = old_todo w p.task h }) p.todo

    pub cross-birth : (i : Tied past T) (K : List Entry → Tree → (ℕ → Term) → Type 0) → K past T f → (R : List ℕ → List ℕ → Type 0) → ((z w : List ℕ) → Comes z w → R z w) → Others code K R → (z : List ℕ) → Among z (told ++ own_path act) → (w : List ℕ) → Pending (made n T (Step t act batch)) (set_at T.next_task ch.term old) w → R z w
    cross-birth i K kept R own others z m w p =
        set_case (λ u. Todo u w → R z w) T.next_task p.task ch.term old
        (λ k h. own z w ((in_turn-at (f t.0) ch.term (told ++ own_path act) ch.order z m).1 w h))
        (λ o h. old_pair i K kept R own others z m w p.task (below p.task p.born o) (before p.task p.alive o) h) p.todo

host_none : {X : Type 0} → X ⊎ ⊥ → X
host_none (inl x) = x
host_none (inr x) = absurd x

pub back-host : (n : ℕ) (T : Tree) (e : Entry) (f : ℕ → Term) → by_host e ≡ true → (made n T e).next_task ≡ T.next_task → Allowed T e → (w : List ℕ) → Pending (made n T e) f w → Pending T f w
back-host n T (Root lost masked thrown) f h same a w p =
    record { task = p.task; born = p.born; alive = host_none (alive-back n T (Root lost masked thrown) p.task a p.alive); todo = p.todo }
back-host n T (Death d) f h same a w p =
    record { task = p.task; born = p.born; alive = host_none (alive-back n T (Death d) p.task a p.alive); todo = p.todo }
back-host n T (Join d) f h same a w p =
    record { task = p.task; born = p.born; alive = host_none (alive-back n T (Join d) p.task a p.alive); todo = p.todo }
back-host n T (Step t act batch) f h same a w p = cc

-- the task of an entry is born and alive
pub record Acting (T : Tree) (t : TaskId) : Type 0 where
  pub low : t.0 < T.next_task
  pub lives : is_alive T t.0 ≡ true

pub acting : (past : List Entry) (T : Tree) → Tied past T → (t : TaskId) (act : Act) → AllowedAct T t act → Acting T t
acting past T i t act a =
    record {
      low = found_older (facts past) (is_born past) (has_died past) (born_so_far past) T.next_task T.next_scope T.places T.dead (bones T) T.tasks i t a.task a.stands (number-of T t a.task a.stands);
      lives = alive-acts (is_task t) T.tasks a.task t.0 a.stands (number-of T t a.task a.stands) a.unstruck;
    }

-- an act starts no task, or the next one
pub data Starting (n : ℕ) (T : Tree) (t : TaskId) (act : Act) (batch : List (List ℕ)) : Type 0 where
  starts_none : started_by act ≡ None → (made n T (Step t act batch)).next_task ≡ T.next_task → Starting n T t act batch
  starts_one : (c : TaskId) → started_by act ≡ Some c → c.0 ≡ T.next_task → (made n T (Step t act batch)).next_task ≡ suc T.next_task → Starting n T t act batch

pub starting : (n : ℕ) (T : Tree) (t : TaskId) (act : Act) (batch : List (List ℕ)) → AllowedAct T t act → Starting n T t act batch
starting n T t (Open s1 r x) batch a = starts_none refl refl
starting n T t (Calls from to s1 r c x) batch a = starts_one c refl a.asks.3 refl
starting n T t (Spawn c s1 from to x) batch a = starts_one c refl a.asks.1 refl
starting n T t (Arrive p) batch a = starts_none refl refl
starting n T t (Wait s1 thrown) batch a = starts_none refl refl
starting n T t (Release s1 lost masked thrown) batch a = starts_none refl refl
starting n T t (End thrown) batch a = starts_none refl (next-made n T (Step t (End thrown) batch) ∙ add-zero T.next_task)
starting n T t (Print value x) batch a = starts_none refl refl
starting n T t (Census places x) batch a = starts_none refl refl
