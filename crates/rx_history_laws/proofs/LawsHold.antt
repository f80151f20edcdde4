-- Histories whose entries are allowed have no early release, and their releases name exactly the losses.
use Rattle.std.proofs.Common.{◌≡◌, ℕ, suc, ◌≤◌, Bool, true, false, not, ◌&&◌, ◌||◌, ◌==◌, List, [], ◌∷◌, length, Option, Some, None, is_some, is_none, option_map, refl, ap, sym, subst, ◌∙◌, arith, inl, inr}
use Rattle.std.specs.List.{list_any, list_all}
use Rattle.std.proofs.Math.Bool.{and-false, and-true}
use Rattle.std.proofs.lemmas.Bool.{eqb-true, ne_eqb, or_parts, or_cases, or_left, or_right, or_from, and_from, cond_both, true≢false, not-true, not_from_false}
use Rattle.std.proofs.lemmas.List.{length-replicate}
use Rattle.std.proofs.lemmas.List.Elements.{filter_agree}
use Rattle.rx_rules.proofs.Common.{PlaceSet, ScopeId, members, places_of, Tree, is_under, quiet, the_root, Allowed, made, was_lost_at, lost_under, opening, wide_opening, AllAllowed, TaskBirth, is_on, until, born_so_far}
use Rattle.rx_rules.specs.declared.entries.Act.TheVariants.{Open, At as Calls, Spawn, Arrive, Wait, Release, End, Print, Census}
use Rattle.rx_rules.specs.declared.entries.Entry.{Entry}
use Rattle.rx_rules.specs.declared.entries.Entry.TheVariants.{Step, Root, Death, Join}
use Rattle.rx_rules.specs.Laws.{AtRelease, EachRelease, AllOver, NamesLostOf, NoEarlyRelease, LossExact, LossExactOf, is_named}
use Rattle.rx_rules.proofs.Widths.{limit-made}
use Rattle.rx_tree_laws.proofs.Reach.{no_dead}
use Rattle.rx_history_laws.proofs.Lines.{Bone, bones, nums, line, on_chain-line}
use Rattle.rx_history_laws.proofs.Aligned.{Facts, facts, blow_place, IsRow, IsOut, ended, gone, Aligned, none, out, row}
use Rattle.rx_history_laws.proofs.Ties.{Tied, ScopeOk}
use Rattle.rx_history_laws.proofs.Made.{tied-made, release_stands, root_stands}
use Rattle.rx_rules.specs.declared.tasks.Task.{Task}
use Rattle.rx_rules.specs.declared.tasks.Blow.{Blow}

abbrev over : Facts → ℕ → TaskBirth → Bool
over F s b = not (is_on s (F.walk b.under)) || (F.ended b.task || is_some (F.hit b))

abbrev named : Facts → ℕ → ℕ → TaskBirth → Bool
named F s p b =
    (is_on s (F.walk b.under) && not (list_any F.released (until s (F.walk b.under))))
    && elim (F.hit b) [ Some d ↦ d == p | None ↦ false ]

any-until : (r : ℕ → Bool) (s : ℕ) (l : List ℕ) → list_any r l ≡ false → list_any r (until s l) ≡ false
any-until r s [] h = refl
any-until r s (g ∷ l) h =
    let c = or_parts (r g) (list_any r l) h in
    cond_both (g == s) [] (g ∷ until s l) (λ m. list_any r m ≡ false) (λ e. refl) (λ e. or_from (r g) (list_any r (until s l)) c.0 (any-until r s l c.1))

module _ (F : Facts) (B : List Bone) (s : ℕ) (there : is_on s (nums B) ≡ true) (walks : (n : ℕ) → is_on n (nums B) ≡ true → ScopeOk F B n) where
  abbrev under_s : Task → Bool
  under_s x = is_on s (nums (line B (Some x.under.0)))

  -- whether the birth's chain has s is whether its row is under s
  chain_row : (b : TaskBirth) (x : Task) → IsRow F B b x → is_on s (F.walk b.under) ≡ under_s x
  chain_row b x r =
      ap (is_on s) (sym (walks b.under r.stands).walks) ∙ ap (λ n. is_on s (nums (line B (Some n)))) (sym r.under)

  hit_row : (o : Option Blow) (h : Option ℕ) → option_map blow_place o ≡ h → is_none o ≡ false → is_some h ≡ true
  hit_row None h e k = cc
  hit_row (Some v) h e k = rw (← e)

  row_over : (b : TaskBirth) (x : Task) (u : Task → Bool) (y z : Bool) → u x ≡ y → is_none x.struck ≡ z → u x ≡ under_s x → (y && z) ≡ false → IsRow F B b x → over F s b ≡ true
  row_over b x u true true ey ez same q r = absurd (true≢false q)
  row_over b x u true false ey ez same q r =
      or_right (not (is_on s (F.walk b.under))) (F.ended b.task || is_some (F.hit b)) (or_right (F.ended b.task) (is_some (F.hit b)) (hit_row x.struck (F.hit b) r.struck ez))
  row_over b x u false z ey ez same q r =
      or_left (not (is_on s (F.walk b.under))) (F.ended b.task || is_some (F.hit b)) (not_from_false (is_on s (F.walk b.under)) (chain_row b x r ∙ sym same ∙ ey))

  out_over : (b : TaskBirth) → IsOut F B b → over F s b ≡ true
  out_over b (ended e h) = or_right (not (is_on s (F.walk b.under))) (F.ended b.task || is_some (F.hit b)) (or_left (F.ended b.task) (is_some (F.hit b)) e)
  out_over b (gone e h) = or_right (not (is_on s (F.walk b.under))) (F.ended b.task || is_some (F.hit b)) (or_right (F.ended b.task) (is_some (F.hit b)) e)

  pub all-over : (u : Task → Bool) → ((x : Task) → u x ≡ under_s x) → {bs : List TaskBirth} {xs : List Task} → list_any (λ x. u x && is_none x.struck) xs ≡ false → Aligned F B bs xs → list_all (over F s) bs ≡ true
  all-over u same q none = refl
  all-over u same q (out {b = b} {bs = bs} o a) = and_from (over F s b) (list_all (over F s) bs) (out_over b o) (all-over u same q a)
  all-over u same q (row {b = b} {x = x} {bs = bs} {xs = xs} r a) =
      let parts = or_parts (u x && is_none x.struck) (list_any (λ x. u x && is_none x.struck) xs) q in
      and_from (over F s b) (list_all (over F s) bs) (row_over b x u (u x) (is_none x.struck) refl refl (same x) parts.0 r) (all-over u same parts.1 a)

  out_named : (p : ℕ) (b : TaskBirth) (y : Bool) → is_on s (F.walk b.under) ≡ y → IsOut F B b → named F s p b ≡ false
  out_named p b y e (ended k h) = rw h (and-false (is_on s (F.walk b.under) && not (list_any F.released (until s (F.walk b.under)))))
  out_named p b true e (gone k h) = rw (e, h s there e)
  out_named p b false e (gone k h) = rw e

  lost_row : (p : ℕ) (o : Option Blow) → (elim (option_map blow_place o) as (λ _. Bool) [ Some d ↦ d == p | None ↦ false ]) ≡ (elim o as (λ _. Bool) [ Some b ↦ b.place.0 == p | None ↦ false ])
  lost_row p None = refl
  lost_row p (Some v) = refl

  row_named : (p : ℕ) (b : TaskBirth) (x : Task) → IsRow F B b x → named F s p b ≡ (under_s x && was_lost_at p x)
  row_named p b x r =
      rw (any-until F.released s (F.walk b.under) (walks b.under r.stands).free, and-true (is_on s (F.walk b.under)), chain_row b x r, ← r.struck)
      (ap (λ y. under_s x && y) (lost_row p x.struck))

  pub all-named : (p : ℕ) (u : Task → Bool) → ((x : Task) → u x ≡ under_s x) → {bs : List TaskBirth} {xs : List Task} → Aligned F B bs xs → list_any (λ x. u x && was_lost_at p x) xs ≡ list_any (named F s p) bs
  all-named p u same none = refl
  all-named p u same (out {b = b} o a) = rw (out_named p b (is_on s (F.walk b.under)) refl o) (all-named p u same a)
  all-named p u same (row {b = b} {x = x} {bs = bs} {xs = xs} r a) =
      rw (row_named p b x r, same x, all-named p u same a)

-- at a release

at_over : (past : List Entry) (T : Tree) → Tied past T → (s : ScopeId) (lost : PlaceSet) → is_on s.0 (nums (bones T)) ≡ true → quiet T s ≡ true → AllOver past s.0 lost
at_over past T i s lost there still =
    all-over (facts past) (bones T) s.0 there i.scopes (is_under T s) (λ x. on_chain-line T s x.under)
    (not-true (list_any (λ x. is_under T s x && is_none x.struck) T.tasks) still) i.tasks

at_named : (past : List Entry) (T : Tree) → Tied past T → (s : ScopeId) (lost : PlaceSet) → is_on s.0 (nums (bones T)) ≡ true → members lost ≡ lost_under T s → NamesLostOf (length T.dead) past s.0 lost
at_named past T i s lost there e =
    e
    ∙ filter_agree (λ p. list_any (λ x. is_under T s x && was_lost_at p x) T.tasks) (λ p. list_any (is_named past s.0 p) (born_so_far past))
    (λ p. all-named (facts past) (bones T) s.0 there i.scopes p (is_under T s) (λ x. on_chain-line T s x.under) i.tasks) (places_of T)

at_entry : (n : ℕ) (past : List Entry) (T : Tree) → Tied past T → (e : Entry) → Allowed T e → AtRelease AllOver past e × AtRelease (NamesLostOf (length T.dead)) past e
at_entry n past T i (Step t (Release s lost masked thrown) batch) a =
    let there = release_stands n past T i t s a.asks.1 a.asks.2 in
    (at_over past T i s lost there a.asks.3.is_quiet, at_named past T i s lost there a.asks.3.places)
at_entry n past T i (Root lost masked thrown) a =
    let there = root_stands n past T i a.0 a.1 in
    (at_over past T i the_root lost there a.2.is_quiet, at_named past T i the_root lost there a.2.places)
at_entry n past T i (Step t (Open s r path) batch) a = (tt, tt)
at_entry n past T i (Step t (Calls from to s r c path) batch) a = (tt, tt)
at_entry n past T i (Step t (Spawn c s from to path) batch) a = (tt, tt)
at_entry n past T i (Step t (Arrive p) batch) a = (tt, tt)
at_entry n past T i (Step t (Wait s thrown) batch) a = (tt, tt)
at_entry n past T i (Step t (End thrown) batch) a = (tt, tt)
at_entry n past T i (Step t (Print value path) batch) a = (tt, tt)
at_entry n past T i (Step t (Census places path) batch) a = (tt, tt)
at_entry n past T i (Death d) a = (tt, tt)
at_entry n past T i (Join d) a = (tt, tt)

both_from : (n limit : ℕ) (past : List Entry) (T : Tree) → length T.dead ≡ limit → Tied past T → (es : List Entry) → AllAllowed n T es → EachRelease AllOver past es × EachRelease (NamesLostOf limit) past es
both_from n limit past T w i [] a = (tt, tt)
both_from n limit past T w i (e ∷ es) a =
    let here = at_entry n past T i e a.0 in
    let named : AtRelease (NamesLostOf limit) past e = subst (λ k. AtRelease (NamesLostOf k) past e) w here.1 in
    let rest = both_from (suc n) limit (e ∷ past) (made n T e) (limit-made n T e ∙ w) (tied-made n past T i e a.0) es a.1 in
    ((here.0, rest.0), (named, rest.1))

-- the opening tree stands for no entries
only_zero : (n : ℕ) → is_on n (0 ∷ []) ≡ true → n ≡ 0
only_zero n h =
    elim (or_cases (0 == n) false h) [
      | inl e ↦ sym (eqb-true 0 n e)
      | inr e ↦ absurd (true≢false (sym e))
    ]

pub wide-tied-opening : (limit places : ℕ) → places ≤ limit → Tied [] (wide_opening limit places)
wide-tied-opening limit places few =
    record {
      falls = (omega arith, tt);
      scopes = λ n h. subst (ScopeOk (facts []) (bones (wide_opening limit places))) (sym (only_zero n h)) (record { walks = refl; free = refl; finish = refl });
      older = λ g k h. elim (or_cases (g == k) false h) [
        | inl e ↦ let same : g ≡ k = eqb-true g k e in omega arith
        | inr e ↦ absurd (true≢false (sym e))
      ];
      unreleased = λ g h. refl;
      births = (omega arith, omega arith, refl, tt);
      later = λ t h. record { unborn = or_from (0 == t) false (ne_eqb 0 t (λ e. omega arith)) refl; going = refl; unlanded = refl };
      tasks = row (record { number = refl; under = refl; place = (refl, refl); struck = refl; going = refl; stands = refl }) none;
      dead_so = λ p h. ap is_some (no_dead limit p.0);
      few = subst (λ k. places ≤ k) (sym (length-replicate limit None)) few;
    }

pub tied-opening : (places : ℕ) → places ≤ 16 → Tied [] (opening places)
tied-opening = wide-tied-opening 16

both-hold : (limit places : ℕ) → places ≤ limit → (es : List Entry) → AllAllowed 0 (wide_opening limit places) es → EachRelease AllOver [] es × EachRelease (NamesLostOf limit) [] es
both-hold limit places few es a = both_from 0 limit [] (wide_opening limit places) (length-replicate limit None) (wide-tied-opening limit places few) es a

pub wide-no-early : (limit places : ℕ) → places ≤ limit → (es : List Entry) → AllAllowed 0 (wide_opening limit places) es → NoEarlyRelease es
wide-no-early limit places few es a = (both-hold limit places few es a).0

pub wide-loss-exact : (limit places : ℕ) → places ≤ limit → (es : List Entry) → AllAllowed 0 (wide_opening limit places) es → LossExactOf limit es
wide-loss-exact limit places few es a = (both-hold limit places few es a).1

-- scripts have 16
pub no-early : (places : ℕ) → places ≤ 16 → (es : List Entry) → AllAllowed 0 (opening places) es → NoEarlyRelease es
no-early = wide-no-early 16

pub loss-exact : (places : ℕ) → places ≤ 16 → (es : List Entry) → AllAllowed 0 (opening places) es → LossExact es
loss-exact = wide-loss-exact 16
