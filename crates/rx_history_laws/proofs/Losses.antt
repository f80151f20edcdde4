-- Deaths and releases, on the rows beside the births.
use Rattle.std.proofs.Common.{◌≡◌, ℕ, Bool, true, false, cond, not, ◌&&◌, ◌||◌, ◌==◌, List, [], ◌∷◌, map, filter, Option, Some, None, is_some, is_none, option_map, refl, ◌⊎◌, ap, sym, subst, ◌∙◌, inl, inr}
use Rattle.std.specs.Option.{option_or}
use Rattle.std.specs.List.{list_any}
use Rattle.std.proofs.lemmas.Bool.{eqb-true, eq-eqb, ne_eqb, or_parts, or_cases, or_left, or_right, true≢false, not-true, not_from_false}
use Rattle.rx_rules.proofs.Common.{PlaceId, is_hit, hit as hit_row, TaskBirth, is_on, until}
use Rattle.rx_rules.specs.declared.tasks.Where.{Where}
use Rattle.rx_rules.specs.declared.tasks.Where.TheVariants.{At, Travel}
use Rattle.rx_rules.specs.declared.tasks.Task.{Task}
use Rattle.rx_rules.specs.declared.tasks.Blow.{Blow}
use Rattle.rx_history_laws.proofs.Lines.{Bone, nums, line, Falls, has-filter, before_on}
use Rattle.rx_history_laws.proofs.Aligned.{Facts, IsWhere, has_moved, blow_place, IsRow, IsOut, ended, gone, Aligned, none, out, row, BirthsOk}

-- A death of d.

abbrev pub exposed : (ℕ → Bool) → Facts → TaskBirth → ℕ → Bool
exposed born F b d =
    cond (born b.task) (not (F.ended b.task) && cond (has_moved F b) (b.to == d) ((b.from == d) || (b.to == d))) (b.to == d)

abbrev pub struck_too : (ℕ → Bool) → ℕ → Facts → Facts
struck_too born d F = record F { hit = λ b. option_or (F.hit b) (cond (exposed born F b d) (Some d) None) }

some_or : (o p : Option ℕ) → is_some o ≡ true → is_some (option_or o p) ≡ true
some_or None p h = cc
some_or (Some x) p h = refl

out-struck : (born : ℕ → Bool) (d : ℕ) (F : Facts) (B : List Bone) (b : TaskBirth) → born b.task ≡ true → IsOut F B b → IsOut (struck_too born d F) B b
out-struck born d F B b k (ended e h) = ended e (rw (h, k, e))
out-struck born d F B b k (gone e h) = gone (some_or (F.hit b) (cond (exposed born F b d) (Some d) None) e) h

hit-where : (d : PlaceId) (b : TaskBirth) (moved : Bool) (w : Where) → IsWhere moved b w → is_hit d w ≡ cond moved (b.to == d.0) ((b.from == d.0) || (b.to == d.0))
hit-where d b moved (At p) h = rw (h.0, h.1)
hit-where d b moved (Travel from to) h = rw (h.0, h.1, h.2)

-- the row after the death, by what it was struck by before
struck_step : (born : ℕ → Bool) (F : Facts) (w : Blow) (b : TaskBirth) (x : Task) (s : Option Blow) → x.struck ≡ s → F.ended b.task ≡ false → born b.task ≡ true → IsWhere (has_moved F b) b x.place → option_map blow_place s ≡ F.hit b → option_map blow_place (hit_row w x).struck ≡ option_or (F.hit b) (cond (exposed born F b w.place.0) (Some w.place.0) None)
struck_step born F w b x (Some v) e g k p h = rw (← h, e)
struck_step born F w b x None e g k p h =
    let free : is_none x.struck ≡ true = ap is_none e in
    rw (← h, free, hit-where w.place b (has_moved F b) x.place p, k, g)
    (hits (cond (has_moved F b) (b.to == w.place.0) ((b.from == w.place.0) || (b.to == w.place.0))) x w e)
  where
    hits : (y : Bool) (x : Task) (w : Blow) → x.struck ≡ None → option_map blow_place (cond y (record x { struck = Some w }) x).struck ≡ cond y (Some w.place.0) None
    hits true x w e = refl
    hits false x w e = ap (option_map blow_place) e

row-struck : (born : ℕ → Bool) (F : Facts) (B : List Bone) (w : Blow) (b : TaskBirth) (x : Task) → born b.task ≡ true → IsRow F B b x → IsRow (struck_too born w.place.0 F) B b (hit_row w x)
row-struck born F B w b x k r =
    record {
      number = same_number (is_none x.struck && is_hit w.place x.place) ∙ r.number;
      under = same_under (is_none x.struck && is_hit w.place x.place) ∙ r.under;
      place = subst (IsWhere (has_moved F b) b) (sym (same_place (is_none x.struck && is_hit w.place x.place))) r.place;
      struck = struck_step born F w b x x.struck refl r.going k r.place r.struck;
      going = r.going;
      stands = r.stands;
    }
  where
    same_number : (y : Bool) → (cond y (record x { struck = Some w }) x).number.0 ≡ x.number.0
    same_number true = refl
    same_number false = refl

    same_under : (y : Bool) → (cond y (record x { struck = Some w }) x).under.0 ≡ x.under.0
    same_under true = refl
    same_under false = refl

    same_place : (y : Bool) → (cond y (record x { struck = Some w }) x).place ≡ x.place
    same_place true = refl
    same_place false = refl

pub aligned-struck : (born : ℕ → Bool) (F : Facts) (B : List Bone) (w : Blow) (n m : ℕ) {bs : List TaskBirth} {xs : List Task} → BirthsOk born n m bs → Aligned F B bs xs → Aligned (struck_too born w.place.0 F) B bs (map (hit_row w) xs)
aligned-struck born F B w n m h none = none
aligned-struck born F B w n m h (out {b = b} o a) = out (out-struck born w.place.0 F B b h.2 o) (aligned-struck born F B w b.task m h.3 a)
aligned-struck born F B w n m h (row {b = b} {x = x} r a) =
    row (row-struck born F B w b x h.2 r) (aligned-struck born F B w b.task m h.3 a)

-- A release of s.

abbrev pub released_too : ℕ → Facts → Facts
released_too s F = record F { released = λ g. (s == g) || F.released g }

any-more : (s : ℕ) (r : ℕ → Bool) (l : List ℕ) → list_any r l ≡ true → list_any (λ g. (s == g) || r g) l ≡ true
any-more s r [] h = h
any-more s r (g ∷ l) h =
    elim (or_cases (r g) (list_any r l) h) [
      | inl e ↦ or_left ((s == g) || r g) (list_any (λ g. (s == g) || r g) l) (or_right (s == g) (r g) e)
      | inr e ↦ or_right ((s == g) || r g) (list_any (λ g. (s == g) || r g) l) (any-more s r l e)
    ]

any-has : (s : ℕ) (r : ℕ → Bool) (l : List ℕ) → is_on s l ≡ true → list_any (λ g. (s == g) || r g) l ≡ true
any-has s r [] h = cc
any-has s r (g ∷ l) h =
    elim (or_cases (g == s) (is_on s l) h) [
      | inl e ↦ or_left ((s == g) || r g) (list_any (λ g. (s == g) || r g) l) (or_left (s == g) (r g) (eq-eqb s g (sym (eqb-true g s e))))
      | inr e ↦ or_right ((s == g) || r g) (list_any (λ g. (s == g) || r g) l) (any-has s r l e)
    ]

-- a scope that no release of s takes
pub any-none : (s : ℕ) (r : ℕ → Bool) (l : List ℕ) → is_on s l ≡ false → list_any r l ≡ false → list_any (λ g. (s == g) || r g) l ≡ false
any-none s r [] h k = refl
any-none s r (g ∷ l) h k =
    let a = or_parts (g == s) (is_on s l) h in
    let c = or_parts (r g) (list_any r l) k in
    let other : (s == g) ≡ false = ne_eqb s g (λ e. true≢false (sym (eq-eqb g s (sym e)) ∙ a.0)) in
    rw (other, c.0) (any-none s r l a.1 c.1)

-- whether a number is off the line to s
abbrev pub is_off : List Bone → ℕ → ℕ → Bool
is_off B s n = not (is_on s (nums (line B (Some n))))

abbrev pub left_of : List Bone → ℕ → List Bone
left_of B s = filter (λ b. is_off B s b.number) B

pub has-left : (test : ℕ → Bool) (bs : List Bone) (k : ℕ) → is_on k (nums bs) ≡ true → test k ≡ true → is_on k (nums (filter (λ b. test b.number) bs)) ≡ true
has-left test [] k h t = h
has-left test (b ∷ bs) k h t = left_step test b bs k (test b.number) refl (or_cases (b.number == k) (is_on k (nums bs)) h) t (λ g. has-left test bs k g t) where
  left_step : (test : ℕ → Bool) (b : Bone) (bs : List Bone) (k : ℕ) (y : Bool) → test b.number ≡ y → ((b.number == k) ≡ true) ⊎ (is_on k (nums bs) ≡ true) → test k ≡ true → (is_on k (nums bs) ≡ true → is_on k (nums (filter (λ b. test b.number) bs)) ≡ true) → is_on k (nums (filter (λ b. test b.number) (b ∷ bs))) ≡ true
  left_step test b bs k true e (inl here) t on = rw (e, here)
  left_step test b bs k true e (inr there) t on = rw e (or_right (b.number == k) (is_on k (nums (filter (λ b. test b.number) bs))) (on there))
  left_step test b bs k false e (inl here) t on = absurd (true≢false (sym t ∙ ap test (sym (eqb-true b.number k here)) ∙ e))
  left_step test b bs k false e (inr there) t on = rw e (on there)

abbrev pub LinesWalk : Facts → List Bone → Type 0
LinesWalk F B = (n : ℕ) → is_on n (nums B) ≡ true → nums (line B (Some n)) ≡ F.walk n

module _ (F : Facts) (B : List Bone) (k s : ℕ) (falls : Falls k B) (walks : LinesWalk F B) where
  out-left : (b : TaskBirth) → IsOut F B b → IsOut (released_too s F) (left_of B s) b
  out-left b (ended e h) = ended e h
  out-left b (gone e h) =
      gone e (λ n n_in on. any-more s F.released (until n (F.walk b.under)) (h n (has-filter (is_off B s) B n n_in).0 on))

  -- a task under s that was lost
  row-goes : (b : TaskBirth) (x : Task) → is_on s (nums (line B (Some x.under.0))) ≡ true → is_none x.struck ≡ false → IsRow F B b x → IsOut (released_too s F) (left_of B s) b
  row-goes b x under_s lost r =
      let w : nums (line B (Some b.under)) ≡ F.walk b.under = walks b.under r.stands in
      let here : is_on s (nums (line B (Some b.under))) ≡ true = subst (λ u. is_on s (nums (line B (Some u))) ≡ true) r.under under_s in
      gone (subst (λ o. is_some o ≡ true) r.struck (is_lost x.struck lost))
      (λ n n_in on.
      let off = has-filter (is_off B s) B n n_in in
      let before : is_on s (until n (nums (line B (Some b.under)))) ≡ true = before_on k B falls (Some b.under) n s (ap (is_on n) w ∙ on) here (not-true (is_on s (nums (line B (Some n)))) off.1) in
      any-has s F.released (until n (F.walk b.under)) (ap (λ l. is_on s (until n l)) (sym w) ∙ before))
    where
      is_lost : (o : Option Blow) → is_none o ≡ false → is_some (option_map blow_place o) ≡ true
      is_lost None h = cc
      is_lost (Some v) h = refl

  row-left : (b : TaskBirth) (x : Task) → is_on s (nums (line B (Some x.under.0))) ≡ false → IsRow F B b x → IsRow (released_too s F) (left_of B s) b x
  row-left b x off r =
      record {
        number = r.number;
        under = r.under;
        place = r.place;
        struck = r.struck;
        going = r.going;
        stands = has-left (is_off B s) B b.under r.stands (not_from_false (is_on s (nums (line B (Some b.under)))) (subst (λ u. is_on s (nums (line B (Some u))) ≡ false) r.under off));
      }

  abbrev under_s : Task → Bool
  under_s x = is_on s (nums (line B (Some x.under.0)))

  release_step : (u : Task → Bool) (b : TaskBirth) (x : Task) (bs : List TaskBirth) (xs : List Task) (y z : Bool) → u x ≡ y → is_none x.struck ≡ z → is_some x.struck ≡ not z → u x ≡ under_s x → ((y && z) ≡ false) → IsRow F B b x → Aligned (released_too s F) (left_of B s) bs (filter (λ x. not (u x && is_some x.struck)) xs) → Aligned (released_too s F) (left_of B s) (b ∷ bs) (filter (λ x. not (u x && is_some x.struck)) (x ∷ xs))
  release_step u b x bs xs true true ey ez es same q r on = absurd (true≢false q)
  release_step u b x bs xs true false ey ez es same q r on = rw (ey, es) (out (row-goes b x (sym same ∙ ey) ez r) on)
  release_step u b x bs xs false z ey ez es same q r on = rw ey (row (row-left b x (sym same ∙ ey) r) on)

  pub aligned-release : (u : Task → Bool) → ((x : Task) → u x ≡ under_s x) → {bs : List TaskBirth} {xs : List Task} → list_any (λ x. u x && is_none x.struck) xs ≡ false → Aligned F B bs xs → Aligned (released_too s F) (left_of B s) bs (filter (λ x. not (u x && is_some x.struck)) xs)
  aligned-release u same q none = none
  aligned-release u same q (out {b = b} o a) = out (out-left b o) (aligned-release u same q a)
  aligned-release u same q (row {b = b} {x = x} {bs = bs} {xs = xs} r a) =
      let parts = or_parts (u x && is_none x.struck) (list_any (λ x. u x && is_none x.struck) xs) q in
      release_step u b x bs xs (u x) (is_none x.struck) refl refl (opposite x.struck) (same x) parts.0 r (aligned-release u same parts.1 a)
    where
      opposite : (o : Option Blow) → is_some o ≡ not (is_none o)
      opposite None = refl
      opposite (Some v) = refl
