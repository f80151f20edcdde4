-- A death and the place that tells it.
use Rattle.std.proofs.Common.{◌≡◌, ℕ, ◌<◌, ◌≤◌, Bool, true, false, cond, ◌||◌, ◌&&◌, ◌==◌, List, Option, Some, None, is_none, is_some, option_map, slice_index_or, slice_set, length, All, refl, sym, ap, ◌∙◌, subst, arith, ltb, ⊎_elim}
use Rattle.std.proofs.lemmas.Bool.{eqb-true, eqb-false, true≢false, lt-ltb, le-ltb, cases_lt}
use Rattle.std.proofs.lemmas.List.{get_or-set_same, get_or-set_other, get_or_past}
use Rattle.rx_rules.proofs.Common.{PlaceId, hit, is_hit, IsOlder}
use Rattle.rx_base.proofs.SameIds.{place-is}
use Rattle.rx_rules.specs.declared.tasks.Where.{Where}
use Rattle.rx_rules.specs.declared.tasks.Where.TheVariants.{At, Travel}
use Rattle.rx_rules.specs.declared.tasks.Blow.{Blow}
use Rattle.rx_rules.specs.declared.tasks.Task.{Task}
use Rattle.rx_tree_laws.specs.Blows.{death_blow, earlier, blow_at}

-- what the death of d at n makes of the blow of a place
data PlaceCase (b : Blow) : Bool → Option Blow → Option Blow → Type 0 where
  now_dies : PlaceCase b true None (Some b)
  was_dead : (c : Blow) → c.entry < b.entry → PlaceCase b false (Some c) (Some c)
  still_lives : PlaceCase b false None None

older_at : (n : ℕ) (dead : List (Option ℕ)) (i m : ℕ) → All (IsOlder n) dead → slice_index_or dead i None ≡ Some m → m < n
older_at n dead i m h e =
    ⊎_elim
    (λ (lt : i < length dead). subst (IsOlder n) e (h i None lt))
    (λ (ge : length dead ≤ i). let past = get_or_past dead i None ge in cc)
    (cases_lt i (length dead))

place_case : (dead : List (Option ℕ)) (b : Blow) (p : PlaceId) → b.place.0 < length dead → slice_index_or dead b.place.0 None ≡ None → All (IsOlder b.entry) dead → PlaceCase b (p.0 == b.place.0) (death_blow dead p) (death_blow (slice_set dead b.place.0 (Some b.entry)) p)
place_case dead b p inside free old =
    (elim (p.0 == b.place.0) as (λ c. p.0 == b.place.0 ≡ c → PlaceCase b c (death_blow dead p) (death_blow (slice_set dead b.place.0 (Some b.entry)) p)) [
      | true ↦ λ e.
          subst (λ (v : PlaceId). PlaceCase b true (death_blow dead v) (death_blow (slice_set dead b.place.0 (Some b.entry)) v)) (sym (place-is p b.place (eqb-true p.0 b.place.0 e)))
          (rw (free, get_or-set_same dead b.place.0 (Some b.entry) None inside) now_dies)
      | false ↦ λ e.
          rw (get_or-set_other dead b.place.0 p.0 (Some b.entry) None (eqb-false p.0 b.place.0 e))
          ((elim (slice_index_or dead p.0 None) as (λ o. slice_index_or dead p.0 None ≡ o → PlaceCase b false (option_map (λ n. record { place = p; entry = n }) o) (option_map (λ n. record { place = p; entry = n }) o)) [
            | Some m ↦ λ q. was_dead (record { place = p; entry = m }) (older_at b.entry dead p.0 m old q)
            | None ↦ λ q. still_lives
          ]) refl)
    ]) refl

first_of_both : (b : Blow) (hf ht : Bool) (x y x2 y2 : Option Blow) → PlaceCase b hf x x2 → PlaceCase b ht y y2 → cond (is_none (earlier x y) && (hf || ht)) (Some b) (earlier x y) ≡ earlier x2 y2
first_of_both b hf ht x y x2 y2 now_dies now_dies = elim (ltb b.entry b.entry) as (λ c. Some b ≡ cond c (Some b) (Some b)) [ true ↦ refl | false ↦ refl ]
first_of_both b hf ht x y x2 y2 now_dies (was_dead c lt) = rw (le-ltb b.entry c.entry (omega arith))
first_of_both b hf ht x y x2 y2 now_dies still_lives = refl
first_of_both b hf ht x y x2 y2 (was_dead c lt) now_dies = rw (lt-ltb c.entry b.entry lt)
first_of_both b hf ht x y x2 y2 (was_dead c lt) (was_dead e lt2) = elim (ltb c.entry e.entry) as (λ v. cond (is_none (cond v (Some c) (Some e)) && false) (Some b) (cond v (Some c) (Some e)) ≡ cond v (Some c) (Some e)) [ true ↦ refl | false ↦ refl ]
first_of_both b hf ht x y x2 y2 (was_dead c lt) still_lives = refl
first_of_both b hf ht x y x2 y2 still_lives now_dies = refl
first_of_both b hf ht x y x2 y2 still_lives (was_dead c lt) = refl
first_of_both b hf ht x y x2 y2 still_lives still_lives = refl

at_one : (b : Blow) (h : Bool) (x x2 : Option Blow) → PlaceCase b h x x2 → cond (is_none x && h) (Some b) x ≡ x2
at_one b h x x2 now_dies = refl
at_one b h x x2 (was_dead c lt) = refl
at_one b h x x2 still_lives = refl

blow_after : (dead : List (Option ℕ)) (b : Blow) (w : Where) → b.place.0 < length dead → slice_index_or dead b.place.0 None ≡ None → All (IsOlder b.entry) dead → cond (is_none (blow_at dead w) && is_hit b.place w) (Some b) (blow_at dead w) ≡ blow_at (slice_set dead b.place.0 (Some b.entry)) w
blow_after dead b (At p) inside free old = at_one b (p.0 == b.place.0) _ _ (place_case dead b p inside free old)
blow_after dead b (Travel from to) inside free old = first_of_both b (from.0 == b.place.0) (to.0 == b.place.0) _ _ _ _ (place_case dead b from inside free old) (place_case dead b to inside free old)

pub hit_struck : (b : Blow) (x : Task) (c : Bool) → (cond c (record x { struck = Some b }) x).struck ≡ cond c (Some b) x.struck
hit_struck b x true = refl
hit_struck b x false = refl

-- a task that its place tells as struck or not is told so after a death
pub struck_after : (dead : List (Option ℕ)) (b : Blow) (x : Task) → b.place.0 < length dead → slice_index_or dead b.place.0 None ≡ None → All (IsOlder b.entry) dead → x.struck ≡ blow_at dead x.place → (hit b x).struck ≡ blow_at (slice_set dead b.place.0 (Some b.entry)) x.place
struck_after dead b x inside free old e =
    hit_struck b x (is_none x.struck && is_hit b.place x.place) ∙ ap (λ o. cond (is_none o && is_hit b.place x.place) (Some b) o) e ∙ blow_after dead b x.place inside free old

-- and one that was struck before keeps its blow
pub still_struck : (dead : List (Option ℕ)) (b : Blow) (x : Task) → b.place.0 < length dead → slice_index_or dead b.place.0 None ≡ None → All (IsOlder b.entry) dead → x.struck ≡ blow_at dead x.place → is_some x.struck ≡ true → x.struck ≡ blow_at (slice_set dead b.place.0 (Some b.entry)) x.place
still_struck dead b x inside free old e s =
    sym (hit_struck b x (is_none x.struck && is_hit b.place x.place) ∙ (elim x.struck as (λ o. is_some o ≡ true → cond (is_none o && is_hit b.place x.place) (Some b) o ≡ o) [ Some c ↦ λ k. refl | None ↦ λ k. absurd (true≢false (sym k)) ]) s) ∙ struck_after dead b x inside free old e

pub hit_number : (b : Blow) (x : Task) → (hit b x).number ≡ x.number
hit_number b x = elim (is_none x.struck && is_hit b.place x.place) as (λ c. (cond c (record x { struck = Some b }) x).number ≡ x.number) [ true ↦ refl | false ↦ refl ]

pub hit_under : (b : Blow) (x : Task) → (hit b x).under ≡ x.under
hit_under b x = elim (is_none x.struck && is_hit b.place x.place) as (λ c. (cond c (record x { struck = Some b }) x).under ≡ x.under) [ true ↦ refl | false ↦ refl ]

pub hit_place : (b : Blow) (x : Task) → (hit b x).place ≡ x.place
hit_place b x = elim (is_none x.struck && is_hit b.place x.place) as (λ c. (cond c (record x { struck = Some b }) x).place ≡ x.place) [ true ↦ refl | false ↦ refl ]
