-- What ties the tree of a history to what is read from its entries.
use Rattle.std.proofs.Common.{◌≡◌, ℕ, suc, ◌<◌, ◌≤◌, Bool, true, false, cond, ◌||◌, ◌==◌, List, [], ◌∷◌, length, Option, Some, None, is_some, refl, slice_index_or, ap, sym, subst, ◌∙◌, arith, inl, inr}
use Rattle.std.specs.Option.{option_or}
use Rattle.std.specs.List.{list_any, cons_option}
use Rattle.std.proofs.lemmas.Bool.{eqb-true, eq-eqb, ne_eqb, or_parts, or_cases, or_left, or_right, or_from, cond_both, true≢false}
use Rattle.rx_rules.proofs.Common.{PlaceId, Tree, TaskBirth, is_on, hit_at, is_born, born_so_far, is_birth_of}
use Rattle.rx_rules.specs.declared.entries.Entry.{Entry}
use Rattle.rx_rules.specs.declared.entries.Entry.TheVariants.{Step, Root, Death, Join}
use Rattle.rx_rules.specs.Laws.{birth_told}
use Rattle.rx_history_laws.proofs.Lines.{Bone, bones, nums, line, Falls, has_finish, has-below}
use Rattle.rx_history_laws.proofs.Aligned.{Facts, facts, IsRow, IsOut, ended, gone, Aligned, row, BirthsOk, births-ok_up, aligned-kept}
use Rattle.rx_rules.specs.declared.tasks.Task.{Task}

abbrev pub is_death : ℕ → Entry → Bool
is_death p (Death d) = d.0 == p
is_death p _ = false

abbrev pub has_died : List Entry → ℕ → Bool
has_died past p = list_any (is_death p) past

-- a scope that stands: its chain in the tree is that of the entries, no scope of it was released, and it has a finish
pub record ScopeOk (F : Facts) (B : List Bone) (n : ℕ) : Type 0 where
  pub walks : nums (line B (Some n)) ≡ F.walk n
  pub free : list_any F.released (F.walk n) ≡ false
  pub finish : has_finish (line B (Some n)) ≡ true

pub record Unborn (F : Facts) (born : ℕ → Bool) (t : ℕ) : Type 0 where
  pub unborn : born t ≡ false
  pub going : F.ended t ≡ false
  pub unlanded : F.landed t ≡ false

-- over the parts of a tree, and what was read
pub record Ties (F : Facts) (born died : ℕ → Bool) (bs : List TaskBirth) (next_task next_scope places : ℕ) (dead : List (Option ℕ)) (B : List Bone) (xs : List Task) : Type 0 where
  pub falls : Falls next_scope B
  pub scopes : (n : ℕ) → is_on n (nums B) ≡ true → ScopeOk F B n
  pub older : (g k : ℕ) → is_on k (F.walk g) ≡ true → k ≤ g
  pub unreleased : (g : ℕ) → next_scope ≤ g → F.released g ≡ false
  pub births : BirthsOk born next_task next_scope bs
  pub later : (t : ℕ) → next_task ≤ t → Unborn F born t
  pub tasks : Aligned F B bs xs
  pub dead_so : (p : PlaceId) → p.0 < length dead → is_some (slice_index_or dead p.0 None) ≡ died p.0
  pub few : places ≤ length dead

-- the tree stands for what stands before
abbrev pub Tied : List Entry → Tree → Type 0
Tied past T =
    Ties (facts past) (is_born past) (has_died past) (born_so_far past) T.next_task T.next_scope T.places T.dead (bones T) T.tasks

-- A task that is yet to be born is hit exactly where the place that it is born for has died.

hit_by : (was : Bool) (to d : ℕ) → option_or (cond was (Some to) None) (cond (to == d) (Some d) None) ≡ cond ((d == to) || was) (Some to) None
hit_by true to d = rw (or_right (d == to) true refl)
hit_by false to d = same_either (to == d) refl where
  same_either : (y : Bool) → (to == d) ≡ y → option_or None (cond (to == d) (Some d) None) ≡ cond ((d == to) || false) (Some to) None
  same_either true e = let k : to ≡ d = eqb-true to d e in rw (e, eq-eqb d to (sym k)) (ap Some (sym k))
  same_either false e = rw (e, ne_eqb d to (λ k. true≢false (sym (eq-eqb to d (sym k)) ∙ e)))

born-before : (e : Entry) (past : List Entry) (t : ℕ) → is_born (e ∷ past) t ≡ false → is_born past t ≡ false
born-before e past t h = rest_none (birth_told e) (born_so_far past) h where
  rest_none : (o : Option TaskBirth) (bs : List TaskBirth) → list_any (is_birth_of t) (cons_option o bs) ≡ false → list_any (is_birth_of t) bs ≡ false
  rest_none None bs h = h
  rest_none (Some b) bs h = (or_parts (b.task == t) (list_any (is_birth_of t) bs) h).1

pub hit-unborn : (past : List Entry) (b : TaskBirth) → is_born past b.task ≡ false → hit_at past b ≡ cond (has_died past b.to) (Some b.to) None
hit-unborn [] b h = refl
hit-unborn (Step t act batch ∷ past) b h = hit-unborn past b (born-before (Step t act batch) past b.task h)
hit-unborn (Root lost masked thrown ∷ past) b h = hit-unborn past b h
hit-unborn (Death d ∷ past) b h = rw (h, hit-unborn past b h) (hit_by (has_died past b.to) b.to d.0)
hit-unborn (Join d ∷ past) b h = hit-unborn past b h

-- One step for each kind of entry, over the parts.

pub births-below : (born : ℕ → Bool) (n m : ℕ) (bs : List TaskBirth) → BirthsOk born n m bs → (t : ℕ) → list_any (is_birth_of t) bs ≡ true → t < n
births-below born n m [] h t k = cc
births-below born n m (b ∷ bs) h t k =
    elim (or_cases (b.task == t) (list_any (is_birth_of t) bs) k) [
      | inl e ↦ let same : b.task ≡ t = eqb-true b.task t e in let low : b.task < n = h.0 in omega arith
      | inr e ↦ let low : b.task < n = h.0 in let lower : t < b.task = births-below born b.task m bs h.3 t e in omega arith
    ]

-- a scope is opened

abbrev pub walks_too : ℕ → ℕ → Facts → Facts
walks_too s r F = record F { walk = λ g. cond (s == g) (g ∷ F.walk r) (F.walk g) }

module _ (F : Facts) (born died : ℕ → Bool) (bs : List TaskBirth) (next_task next_scope places : ℕ) (dead : List (Option ℕ)) (B : List Bone) (xs : List Task) (i : Ties F born died bs next_task next_scope places dead B xs) where
  opens_scope : (P : Bone) (r n : ℕ) → P.number ≡ next_scope → P.parent ≡ Some r → is_on r (nums B) ≡ true → (y : Bool) → (P.number == n) ≡ y → (y ≡ false → is_on n (nums B) ≡ true) → ScopeOk (walks_too P.number r F) (P ∷ B) n
  opens_scope P r n e up there true k on =
      let old : ScopeOk F B r = i.scopes r there in
      let same : P.number ≡ n = eqb-true P.number n k in
      record {
        walks = rw (k, up) (rw (old.walks) (ap (λ m. m ∷ F.walk r) same));
        free = rw (k, i.unreleased n (omega arith)) old.free;
        finish = rw (k, up) (or_right P.finish (has_finish (line B (Some r))) old.finish);
      }
  opens_scope P r n e up there false k on =
      let old : ScopeOk F B n = i.scopes n (on refl) in
      record { walks = rw k (old.walks); free = rw k (old.free); finish = rw k (old.finish) }

  -- a scope below those that stand walks as before
  other_walk : (P : Bone) (r g : ℕ) → P.number ≡ next_scope → g < next_scope → (walks_too P.number r F).walk g ≡ F.walk g
  other_walk P r g e low = let other : (P.number == g) ≡ false = ne_eqb P.number g (λ k. omega arith) in rw other

  opens_out : (P : Bone) (r : ℕ) → P.number ≡ next_scope → (b : TaskBirth) → b.under < next_scope → IsOut F B b → IsOut (walks_too P.number r F) (P ∷ B) b
  opens_out P r e b low (ended h k) = ended h k
  opens_out P r e b low (gone h k) =
      gone h
      (λ n n_in on.
      rw (other_walk P r b.under e low)
      (let walked : is_on n (F.walk b.under) ≡ true = rw (other_walk P r b.under e low) at on in
      elim (or_cases (P.number == n) (is_on n (nums B)) n_in) [
        | inl here ↦ absurd (let same : P.number ≡ n = eqb-true P.number n here in let most : n ≤ b.under = i.older b.under n walked in omega arith)
        | inr there ↦ k n there walked
      ]))

  pub ties-open : (P : Bone) (r : ℕ) → P.number ≡ next_scope → P.parent ≡ Some r → is_on r (nums B) ≡ true → Ties (walks_too P.number r F) born died bs next_task (suc next_scope) places dead (P ∷ B) xs
  ties-open P r e up there =
      record {
        falls = (omega arith, subst (λ n. Falls n B) (sym e) i.falls);
        scopes = λ n h. opens_scope P r n e up there (P.number == n) refl (λ no. elim (or_cases (P.number == n) (is_on n (nums B)) h) [
          | inl y ↦ absurd (true≢false (sym y ∙ no))
          | inr y ↦ y
        ]);
        older = λ g k h. cond_both (P.number == g) (g ∷ F.walk r) (F.walk g) (λ l. is_on k l ≡ true → k ≤ g) (λ same m.
            let this : P.number ≡ g = eqb-true P.number g same in
            let low : r < next_scope = has-below next_scope r B i.falls there in
            elim (or_cases (g == k) (is_on k (F.walk r)) m) [
              | inl y ↦ let also : g ≡ k = eqb-true g k y in omega arith
              | inr y ↦ let less : k ≤ r = i.older r k y in omega arith
            ]) (λ no m. i.older g k m) h;
        unreleased = λ g h. i.unreleased g (omega arith);
        births = births-ok_up born born next_task next_task next_scope (suc next_scope) (λ t h. h) (omega arith) (omega arith) bs i.births;
        later = λ t h. let u = i.later t h in record { unborn = u.unborn; going = u.going; unlanded = u.unlanded };
        tasks = aligned-kept F (walks_too P.number r F) B (P ∷ B) born next_scope (opens_out P r e)
            (λ b x low w. record { number = w.number; under = w.under; place = w.place; struck = w.struck; going = w.going; stands = or_right (P.number == b.under) (is_on b.under (nums B)) w.stands })
            next_task i.births i.tasks;
        dead_so = i.dead_so;
        few = i.few;
      }

  -- a task is born

  pub ties-born : (b : TaskBirth) (x : Task) → b.task ≡ next_task → is_on b.under (nums B) ≡ true → IsRow F B b x → Ties F (λ t. (b.task == t) || born t) died (b ∷ bs) (suc next_task) next_scope places dead B (x ∷ xs)
  ties-born b x e there r =
      record {
        falls = i.falls;
        scopes = i.scopes;
        older = i.older;
        unreleased = i.unreleased;
        births = (
          omega arith,
          has-below next_scope b.under B i.falls there,
          or_left (b.task == b.task) (born b.task) (eq-eqb b.task b.task refl),
          births-ok_up born (λ t. (b.task == t) || born t) next_task b.task next_scope next_scope (λ t h. or_right (b.task == t) (born t) h) (omega arith) (omega arith) bs i.births,
        );
        later = λ t h.
            let u = i.later t (omega arith) in
            record { unborn = or_from (b.task == t) (born t) (ne_eqb b.task t (λ k. omega arith)) u.unborn; going = u.going; unlanded = u.unlanded };
        tasks = row r i.tasks;
        dead_so = i.dead_so;
        few = i.few;
      }
