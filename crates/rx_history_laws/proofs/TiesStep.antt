-- Arrivals, ends, deaths and releases keep what ties the tree to the entries.
use Rattle.std.proofs.Common.{◌≡◌, ℕ, ◌<◌, ◌≤◌, Bool, true, false, not, ◌&&◌, ◌||◌, ◌==◌, List, [], ◌∷◌, length, map, filter, Option, Some, None, is_some, is_none, refl, slice_index_or, slice_set, ap, sym, subst, ◌∙◌, arith, length-set}
use Rattle.std.specs.List.{list_any, list_all, find}
use Rattle.std.proofs.lemmas.Bool.{eqb-true, eq-eqb, ne_eqb, or_left, or_right, or_from, and_from, true≢false, not-true, not_from_false}
use Rattle.std.proofs.lemmas.List.{get_or-set_same, get_or-set_other}
use Rattle.rx_rules.proofs.Common.{PlaceId, TaskId, is_task, change_first, hit as hit_row, TaskBirth, is_on}
use Rattle.rx_rules.specs.declared.tasks.Task.{Task}
use Rattle.rx_rules.specs.declared.tasks.Blow.{Blow}
use Rattle.rx_history_laws.proofs.Lines.{Bone, nums, line, has_finish, has-below, has-filter, line_on, line-filter, falls-filter}
use Rattle.rx_history_laws.proofs.Aligned.{Facts, found, landed_too, arrived, TravelsTo, aligned-arrive, ended_too, is_other, Unstruck, aligned-end}
use Rattle.rx_history_laws.proofs.Losses.{is_off, left_of, released_too, any-none, aligned-release, struck_too, aligned-struck}
use Rattle.rx_history_laws.proofs.Ties.{Ties, births-below}

all_off : (test : ℕ → Bool) (l : List Bone) → ((k : ℕ) → is_on k (nums l) ≡ true → test k ≡ true) → list_all (λ b. test b.number) l ≡ true
all_off test [] h = refl
all_off test (b ∷ l) h =
    and_from (test b.number) (list_all (λ b. test b.number) l) (h b.number (or_left (b.number == b.number) (is_on b.number (nums l)) (eq-eqb b.number b.number refl)))
    (all_off test l (λ k m. h k (or_right (b.number == k) (is_on k (nums l)) m)))

module _ (F : Facts) (born died : ℕ → Bool) (bs : List TaskBirth) (next_task next_scope places : ℕ) (dead : List (Option ℕ)) (B : List Bone) (xs : List Task) (i : Ties F born died bs next_task next_scope places dead B xs) where
  -- a task that is found is not yet to be born
  pub found_older : (t : TaskId) (x : Task) → find (is_task t) xs ≡ Some x → x.number.0 ≡ t.0 → t.0 < next_task
  found_older t x h same =
      let f = found F B (is_task t) i.tasks x h in
      let low : f.birth.task < next_task = births-below born next_task next_scope bs i.births f.birth.task f.born in
      let it : x.number.0 ≡ f.birth.task = f.is_row.number in
      omega arith

  pub ties-arrive : (t : TaskId) (p : PlaceId) (x : Task) → find (is_task t) xs ≡ Some x → x.number.0 ≡ t.0 → TravelsTo t p xs → Ties (landed_too t.0 F) born died bs next_task next_scope places dead B (change_first (is_task t) (arrived p) xs)
  ties-arrive t p x h same travel =
      record {
        falls = i.falls;
        scopes = λ n k. let o = i.scopes n k in record { walks = o.walks; free = o.free; finish = o.finish };
        older = i.older;
        unreleased = i.unreleased;
        births = i.births;
        later = λ u k.
            let o = i.later u k in
            let low : t.0 < next_task = found_older t x h same in
            record { unborn = o.unborn; going = o.going; unlanded = or_from (t.0 == u) (F.landed u) (ne_eqb t.0 u (λ e. omega arith)) o.unlanded };
        tasks = aligned-arrive F B born t p next_task next_scope i.births i.tasks travel;
        dead_so = i.dead_so;
        few = i.few;
      }

  pub ties-end : (t : TaskId) (x : Task) → find (is_task t) xs ≡ Some x → x.number.0 ≡ t.0 → Unstruck t xs → Ties (ended_too t.0 F) born died bs next_task next_scope places dead B (filter (is_other t) xs)
  ties-end t x h same free =
      record {
        falls = i.falls;
        scopes = λ n k. let o = i.scopes n k in record { walks = o.walks; free = o.free; finish = o.finish };
        older = i.older;
        unreleased = i.unreleased;
        births = i.births;
        later = λ u k.
            let o = i.later u k in
            let low : t.0 < next_task = found_older t x h same in
            record { unborn = o.unborn; going = or_from (t.0 == u) (F.ended u) (ne_eqb t.0 u (λ e. omega arith)) o.going; unlanded = o.unlanded };
        tasks = aligned-end F B born t next_task next_scope i.births i.tasks free;
        dead_so = i.dead_so;
        few = i.few;
      }

  dead_step : (d p : PlaceId) (n : ℕ) (y : Bool) → (d.0 == p.0) ≡ y → d.0 < length dead → p.0 < length dead → is_some (slice_index_or (slice_set dead d.0 (Some n)) p.0 None) ≡ ((d.0 == p.0) || died p.0)
  dead_step d p n true e low small =
      let same : d.0 ≡ p.0 = eqb-true d.0 p.0 e in
      rw e (ap is_some (ap (λ k. slice_index_or (slice_set dead d.0 (Some n)) k None) (sym same) ∙ get_or-set_same dead d.0 (Some n) None low))
  dead_step d p n false e low small =
      rw e (ap is_some (get_or-set_other dead d.0 p.0 (Some n) None (λ k. true≢false (sym (eq-eqb d.0 p.0 (sym k)) ∙ e))) ∙ i.dead_so p small)

  pub ties-death : (w : Blow) (n : ℕ) → w.place.0 < length dead → Ties (struck_too born w.place.0 F) born (λ p. (w.place.0 == p) || died p) bs next_task next_scope places (slice_set dead w.place.0 (Some n)) B (map (hit_row w) xs)
  ties-death w n low =
      record {
        falls = i.falls;
        scopes = λ n k. let o = i.scopes n k in record { walks = o.walks; free = o.free; finish = o.finish };
        older = i.older;
        unreleased = i.unreleased;
        births = i.births;
        later = λ u k. let o = i.later u k in record { unborn = o.unborn; going = o.going; unlanded = o.unlanded };
        tasks = aligned-struck born F B w next_task next_scope i.births i.tasks;
        dead_so = λ p small. dead_step w.place p n (w.place.0 == p.0) refl low (subst (λ k. p.0 < k) (length-set dead w.place.0 (Some n)) small);
        few = subst (λ k. places ≤ k) (sym (length-set dead w.place.0 (Some n))) i.few;
      }

  pub ties-release : (s : ℕ) → is_on s (nums B) ≡ true → (u : Task → Bool) → ((x : Task) → u x ≡ is_on s (nums (line B (Some x.under.0)))) → list_any (λ x. u x && is_none x.struck) xs ≡ false → Ties (released_too s F) born died bs next_task next_scope places dead (left_of B s) (filter (λ x. not (u x && is_some x.struck)) xs)
  ties-release s there u same quiet =
      record {
        falls = falls-filter (λ b. is_off B s b.number) next_scope B i.falls;
        scopes = λ n k.
            let old = has-filter (is_off B s) B n k in
            let o = i.scopes n old.0 in
            let off : is_on s (nums (line B (Some n))) ≡ false = not-true (is_on s (nums (line B (Some n)))) old.1 in
            let stay : line (left_of B s) (Some n) ≡ line B (Some n) = line-filter (λ b. is_off B s b.number) B (Some n) (all_off (is_off B s) (line B (Some n)) (λ m on. not_from_false (is_on s (nums (line B (Some m)))) (line_on next_scope B i.falls (Some n) m s on off))) in
            record {
              walks = ap nums stay ∙ o.walks;
              free = any-none s F.released (F.walk n) (ap (is_on s) (sym o.walks) ∙ off) o.free;
              finish = ap has_finish stay ∙ o.finish;
            };
        older = i.older;
        unreleased = λ g k.
            let low : s < next_scope = has-below next_scope s B i.falls there in
            or_from (s == g) (F.released g) (ne_eqb s g (λ e. omega arith)) (i.unreleased g k);
        births = i.births;
        later = λ u k. let o = i.later u k in record { unborn = o.unborn; going = o.going; unlanded = o.unlanded };
        tasks = aligned-release F B next_scope s i.falls (λ n k. (i.scopes n k).walks) u same quiet i.tasks;
        dead_so = i.dead_so;
        few = i.few;
      }
