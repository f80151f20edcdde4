-- Each step on the word keeps the rule.
use Rattle.std.proofs.Common.{◌≡◌, ◌≢◌, ℕ, zero, suc, ◌+◌, ◌*◌, ◌/◌, ◌%◌, ◌^◌, ◌<◌, ◌≤◌, Bool, true, false, ◌||◌, Option, List, [], ◌∷◌, ◌++◌, length, take, drop, set, slice_index, refl, ap, sym, ◌∙◌, arith, subst, length-append, bit_or, ◌⊎◌, ⊎_elim, inl, inr, slice_set}
use Rattle.std.proofs.lemmas.List.{take-append-le, append-nil, length-drop, length-map}
use Rattle.std.proofs.Math.ListN.{drop_of_length-le}
use Rattle.std.proofs.Math.Seq.{drop-append_seam, take-append_seam}
use Rattle.std.proofs.lemmas.Bool.{or_right}
use mathlib.Core.Option.{none, some, some-injective, some-ne-none}
use mathlib.Core.List.{IsPrefix}
use lib.ListN.{get_elem?}
use Rattle.atomic_table.specs.Table.{State, Me, keeps, step, Allows, Splits, Joins, opening}
use Rattle.atomic_table.proofs.Lists.{at_set, set_else}
use Rattle.rx_book.specs.declared.views.Stamped.{Stamped}
use Rattle.rx_book.specs.declared.views.View.{View}
use Rattle.rx_book.specs.Numbers.{child}
use Rattle.rx_book.specs.History.{stamped, stamp_all, entries_by, deaths_of}
use Rattle.rx_book.specs.declared.views.Past.{Past}
use Rattle.rx_book.specs.Kept.{no_past, past_of, blank, opening_view, Born, SeenIsPrefix, OnlyTells, Fits, Kept, looked, Looks, grown, Grows, parent_left, born, noted, unmarked, mark_only, both}
use Rattle.rx_base.proofs.Prefixes.{prefix-trans, prefix-shorter, prefix-length, prefix-longer}
use Rattle.rx_book.proofs.Numbers.{nothing_ends, child_from, changed, changed-same, changed-other, changed-more}
use Rattle.rx_book.proofs.History.{entries_by-append, entries_by-same, entries_by-other, deaths_of-front, entries_by-between, entries_by-front_none, deaths_of-max}

-- ---- views by their seats
module _ {A : Type 0} (P : ℕ → A → Type 0) where
  pub each_set : (l : List A) (i : ℕ) (a : A) → ((j : ℕ) (u : A) → j ≢ i → get_elem? l j ≡ some u → P j u) → P i a → (j : ℕ) (u : A) → get_elem? (set l i a) j ≡ some u → P j u
  each_set l i a old new j u e = ⊎_elim (λ (t : (j ≡ i) × (a ≡ u)). subst (λ (z : ℕ × A). P z.0 z.1) (λ k. (sym t.0 k, t.1 k)) new) (λ (t : (j ≢ i) × (get_elem? l j ≡ some u)). old j u t.0 t.1) (at_set l i j a u e)

  pub each_snoc : (l : List A) (a : A) → ((j : ℕ) (u : A) → j < length l → get_elem? l j ≡ some u → P j u) → P (length l) a → (j : ℕ) (u : A) → get_elem? (l ++ a ∷ []) j ≡ some u → P j u
  each_snoc l a old new j u e = ⊎_elim (λ (t : (j < length l) × (get_elem? l j ≡ some u)). old j u t.0 t.1) (λ (t : (j ≡ length l) × (a ≡ u)). subst (λ (z : ℕ × A). P z.0 z.1) (λ k. (sym t.0 k, t.1 k)) new) (at_end l a u j e)
    where
      at_end : (l : List A) (a b : A) (j : ℕ) → get_elem? (l ++ a ∷ []) j ≡ some b → ((j < length l) × (get_elem? l j ≡ some b)) ⊎ ((j ≡ length l) × (a ≡ b))
      at_end [] a b zero e = inr (refl, some-injective a b e)
      at_end [] a b (suc j) e = absurd (some-ne-none b (sym e))
      at_end (x ∷ xs) a b zero e = inl (omega arith, e)
      at_end (x ∷ xs) a b (suc j) e = ⊎_elim (λ t. inl (let h = t.0 in omega arith, t.1)) (λ t. inr (ap suc t.0, t.1)) (at_end xs a b j e)

only_left : (a b : Bool) → (a || b) ≡ true → b ≡ false → a ≡ true
only_left true b e h = refl
only_left false true e h = absurd (cc h)
only_left false false e h = absurd (cc e)

module _ {I : Type 0} (place : I → Option ℕ) where
  abbrev St : Type 0
  St = State (Unit {0}) (View I)

  abbrev with_views : St → List (View I) → St
  with_views s vs = record { words = s.words; homes = s.homes; views = vs }

  stands_none : (log : List (Stamped I)) → SeenIsPrefix place log (no_past {I = I})
  stands_none log = record { prefix = (log, refl); low = omega arith; high = omega arith; deaths = refl }

  stands_longer : (log new : List (Stamped I)) (p : Past I) → SeenIsPrefix place log p → SeenIsPrefix place (log ++ new) p
  stands_longer log new p s = record {
    prefix = prefix-trans p.seen log (log ++ new) s.prefix (new, refl);
    low = s.low;
    high = (let h = s.high in omega (arith, length-append log new));
    deaths = s.deaths ∙ ap (deaths_of place) (sym (take-append-le p.reach log new s.high));
  }

  -- a note of any view fits where the view does
  noted_fits : (log : List (Stamped I)) (holder : ℕ) (owner births : List ℕ → ℕ) (id new : ℕ) (v : View I) → Fits place log holder owner births id v → Fits place log holder owner births new (noted v)
  noted_fits log holder owner births id new v f = record { now = record { prefix = f.now.prefix; low = f.now.low; high = f.now.high; deaths = f.now.deaths }; first = stands_none log; second = stands_none log; whole = λ e. absurd (cc e); mark = λ e. absurd (cc e); own = λ e. absurd (cc e); alone = λ e. absurd (cc e); counted = λ e. absurd (cc e); born = λ e. absurd (cc e) }

  pub notes : (id : ℕ) (v : View I) → Splits (Kept place) id v v (noted v)
  notes id v s r at = record {
    log = r.log;
    holder = r.holder;
    owner = r.owner;
    births = r.births;
    word = r.word;
    short = r.short;
    small = r.small;
    unborn = r.unborn;
    idle = r.idle;
    each = each_snoc (Fits place r.log r.holder r.owner r.births) (set s.views id v) (noted v)
        (λ j u _ e. each_set (Fits place r.log r.holder r.owner r.births) s.views id v (λ j u _ e. r.each j u e) (r.each id v at) j u e)
        (noted_fits r.log r.holder r.owner r.births id _ v (r.each id v at));
  }

  pub opens : Kept place (opening (0 ∷ []) [] opening_view)
  opens = record {
    log = [];
    holder = 0;
    owner = λ _. 0;
    births = λ _. 0;
    word = refl;
    short = omega arith;
    small = omega arith;
    unborn = λ c k rest _. refl;
    idle = λ c k rest _. refl;
    each = first_alone;
  }
    where
      first_alone : (id : ℕ) (v : View I) → get_elem? (opening_view ∷ []) id ≡ some v → Fits place [] 0 (λ _. 0) (λ _. 0) id v
      first_alone zero v e = subst (Fits place [] 0 (λ _. 0) (λ _. 0) 0) (some-injective opening_view v e)
          (record { now = record { prefix = ([], refl); low = omega arith; high = omega arith; deaths = refl }; first = stands_none []; second = stands_none []; whole = λ e. absurd (cc e); mark = λ _. (refl, refl); own = λ _. (refl, refl); alone = λ _. refl; counted = λ _. refl; born = λ _ c k rest e. absurd (nothing_ends c k rest e) })
      first_alone (suc id) v e = absurd (some-ne-none v (sym e))

  pub loads : (slots id : ℕ) (me : Me (Unit {0}) (View I)) → Allows (Kept place) slots id me 0 (λ n. n) (Looks (step slots 0 0 0 none) me)
  loads slots id me s r _ at _ =
      let n : ℕ = slice_index s.words 0 in
      let f = r.each id me.0 at in
      let is : n ≡ 65536 * length r.log + deaths_of place r.log = ap (λ (l : List ℕ). slice_index l 0) r.word in
      let sm : deaths_of place r.log < 65536 = r.small in
      let high : n / 65536 ≡ length r.log = omega arith in
      let low : n % 65536 ≡ deaths_of place r.log = omega arith in
      let front : take (length r.log) r.log ≡ r.log = ap (take (length r.log)) (sym (append-nil r.log)) ∙ take-append_seam r.log [] in
      let w : View I = looked me.0 n in
      let fits : Fits place r.log r.holder r.owner r.births id w = record {
        now = record { prefix = f.now.prefix; low = (let a = f.now.low in let b = f.now.high in omega arith); high = omega arith; deaths = low ∙ ap (deaths_of place) (sym front ∙ ap (λ (k : ℕ). take k r.log) (sym high)) };
        first = f.first;
        second = f.second;
        whole = f.whole;
        mark = f.mark;
        own = f.own;
        alone = f.alone;
        counted = f.counted;
        born = f.born;
      } in (
        w,
        keeps,
        tt,
        record {
          log = r.log;
          holder = r.holder;
          owner = r.owner;
          births = r.births;
          word = ap (λ (l : List ℕ). slice_set l 0 (slice_index l 0)) r.word;
          short = r.short;
          small = r.small;
          unborn = r.unborn;
          idle = r.idle;
          each = each_set (Fits place r.log r.holder r.owner r.births) s.views id w (λ j u _ e. r.each j u e) fits;
        },
        (refl, (let b = f.now.high in omega arith), (let b = r.short in omega arith), ap (λ (k : ℕ). bit_or me.0.dead k) low ∙ (ap (λ (k : ℕ). bit_or k (deaths_of place r.log)) f.now.deaths ∙ (deaths_of-front place me.0.reach r.log ∙ sym low))),
      )

  pub marks_off : (id : ℕ) (v : View I) → v.marked ≡ true → Splits (Kept place) id v (unmarked v) (mark_only v)
  marks_off id v has s r at =
      let f = r.each id v at in
      let n : ℕ = length (set s.views id (unmarked v)) in
      let P = Fits place r.log n r.owner r.births in
      record {
        log = r.log;
        holder = n;
        owner = r.owner;
        births = r.births;
        word = r.word;
        short = r.short;
        small = r.small;
        unborn = r.unborn;
        idle = r.idle;
        each = each_snoc P (set s.views id (unmarked v)) (mark_only v)
            (λ j u _ e. each_set P s.views id (unmarked v)
            (λ j u apart e. let o = r.each j u e in record { now = o.now; first = o.first; second = o.second; whole = o.whole; mark = λ m. absurd (apart ((o.mark m).0 ∙ sym (f.mark has).0)); own = o.own; alone = o.alone; counted = o.counted; born = o.born })
            (record { now = record { prefix = f.now.prefix; low = f.now.low; high = f.now.high; deaths = f.now.deaths }; first = stands_none r.log; second = stands_none r.log; whole = λ e. absurd (cc e); mark = λ m. absurd (cc m); own = f.own; alone = f.alone; counted = f.counted; born = f.born }) j u e)
            (record { now = record { prefix = f.now.prefix; low = f.now.low; high = f.now.high; deaths = f.now.deaths }; first = stands_none r.log; second = stands_none r.log; whole = λ e. absurd (cc e); mark = λ _. (refl, (f.mark has).1); own = λ e. absurd (cc e); alone = λ e. absurd (cc e); counted = λ e. absurd (cc e); born = λ e. absurd (cc e) });
      }

  pub bears : (id : ℕ) (v : View I) → v.numbered ≡ true → Splits (Kept place) id v (parent_left v) (born v)
  bears id v has s r at =
      let f = r.each id v at in
      let c : List ℕ = v.number in
      let k : ℕ = v.splits in
      let kid : List ℕ = child c k in
      let count : r.births c ≡ k = f.counted has in
      let n : ℕ = length (set s.views id (parent_left v)) in
      let births : List ℕ → ℕ = changed r.births c (r.births c + 1) in
      let owner : List ℕ → ℕ = changed r.owner kid n in
      let P = Fits place r.log r.holder owner births in
      let more : (d : List ℕ) → r.births d ≤ births d = changed-more r.births c in
      let grown_up : (d : List ℕ) → Born r.births d → Born births d = λ d b e j rest is. (let h = b e j rest is in let m = more e in omega arith) in
      -- no number in use is that of the child
      let unlike : (d : List ℕ) → Born r.births d → ¬ (d ≡ kid) = λ d b is. (let h = b c k [] is in omega (arith, count)) in
      -- no number of another seat is that of the parent
      let still : (d : List ℕ) (j : ℕ) → j ≢ id → r.owner d ≡ j → ¬ (d ≡ c) = λ d j apart own is. apart (sym own ∙ (ap r.owner is ∙ f.alone has)) in
      let kid_births : births kid ≡ 0 = changed-other r.births c kid (r.births c + 1) (λ is. unlike c (f.born has) (sym is)) ∙ r.idle c k [] (omega (arith, count)) in
      let kid_born : Born births kid = λ e j rest is. ⊎_elim
      (λ (t : (c ≡ e) × (k ≡ j)). let up : births c ≡ r.births c + 1 = changed-same r.births c (r.births c + 1) in let same : births c ≡ births e = ap births t.0 in let last = t.1 in omega (arith, count))
      (λ (t : (rest' : List ℕ) × (c ≡ e ++ j ∷ rest')). let h = f.born has e j t.0 t.1 in let m = more e in omega arith)
      (child_from c k e j rest is) in
      let none : entries_by kid r.log ≡ [] = r.unborn c k [] (omega (arith, count)) in
      record {
        log = r.log;
        holder = r.holder;
        owner = owner;
        births = births;
        word = r.word;
        short = r.short;
        small = r.small;
        unborn = λ d j rest h. r.unborn d j rest (let m = more d in omega arith);
        idle = λ d j rest h. (let m = more d in let low : r.births d ≤ j = omega arith in
            changed-other r.births c (d ++ j ∷ rest) (r.births c + 1) (λ is. let b = f.born has d j rest (sym is) in absurd (omega arith)) ∙ r.idle d j rest low);
        each = each_snoc P (set s.views id (parent_left v)) (born v)
            (λ j u _ e. each_set P s.views id (parent_left v)
            (λ j u apart e. let o = r.each j u e in record {
              now = o.now;
              first = o.first;
              second = o.second;
              whole = o.whole;
              mark = o.mark;
              own = o.own;
              alone = λ m. changed-other r.owner kid u.number n (unlike u.number (o.born m)) ∙ o.alone m;
              counted = λ m. changed-other r.births c u.number (r.births c + 1) (still u.number j apart (o.alone m)) ∙ o.counted m;
              born = λ m. grown_up u.number (o.born m);
            })
            (record {
              now = f.now;
              first = f.first;
              second = f.second;
              whole = f.whole;
              mark = f.mark;
              own = f.own;
              alone = λ m. changed-other r.owner kid c n (unlike c (f.born m)) ∙ f.alone m;
              counted = λ m. changed-same r.births c (r.births c + 1) ∙ ap (λ (x : ℕ). x + 1) count;
              born = λ m. grown_up c (f.born m);
            }) j u e)
            (record {
              now = record { prefix = f.now.prefix; low = f.now.low; high = f.now.high; deaths = f.now.deaths };
              first = stands_none r.log;
              second = stands_none r.log;
              whole = λ e. absurd (cc e);
              mark = λ m. absurd (cc m);
              own = λ _. (sym none, sym (entries_by-front_none kid v.seen r.log f.now.prefix none));
              alone = λ _. changed-same r.owner kid n;
              counted = λ _. kid_births;
              born = λ _. kid_born;
            });
      }

  blank_fits : (log : List (Stamped I)) (holder : ℕ) (owner births : List ℕ → ℕ) (id : ℕ) → Fits place log holder owner births id blank
  blank_fits log holder owner births id = record { now = stands_none log; first = stands_none log; second = stands_none log; whole = λ e. absurd (cc e); mark = λ e. absurd (cc e); own = λ e. absurd (cc e); alone = λ e. absurd (cc e); counted = λ e. absurd (cc e); born = λ e. absurd (cc e) }

  -- the joined view, but for the mark
  joined_fits : (log : List (Stamped I)) (holder holder' : ℕ) (owner births : List ℕ → ℕ) (id other : ℕ) (v w : View I) → Fits place log holder owner births id v → Fits place log holder owner births other w
      → ((both v w).marked ≡ true → (id ≡ holder') × ((both v w).seen ≡ log)) → Fits place log holder' owner births id (both v w)
  joined_fits log holder holder' owner births id other v w f g mark =
      let all : List (Stamped I) = v.seen ++ drop (length v.seen) w.seen in
      let whole : IsPrefix all log = prefix-longer v.seen w.seen log f.now.prefix g.now.prefix in
      let mine : IsPrefix v.seen all = (drop (length v.seen) w.seen, refl) in
      record {
        now = record {
          prefix = whole;
          low = (let a = f.now.low in let b = g.now.low in omega (arith, length-append v.seen (drop (length v.seen) w.seen), length-drop (length v.seen) w.seen));
          high = (let a = f.now.high in let b = g.now.high in omega arith);
          deaths = ap (λ (n : ℕ). bit_or n w.dead) f.now.deaths ∙ (ap (λ (n : ℕ). bit_or (deaths_of place (take v.reach log)) n) g.now.deaths ∙ deaths_of-max place v.reach w.reach log);
        };
        first = f.now;
        second = g.now;
        whole = λ m. (or_right v.marked w.marked m, (g.mark m).1);
        mark = mark;
        own = λ m. ((f.own m).0, (f.own m).0 ∙ sym (entries_by-between v.number v.seen all log mine whole (sym (f.own m).1 ∙ (f.own m).0)));
        alone = f.alone;
        counted = f.counted;
        born = f.born;
      }

  pub meets : (id : ℕ) (v : View I) (other : ℕ) (w : View I) → Joins (Kept place) id v other w (both v w) blank
  meets id v other w s r at apart there =
      let there' : get_elem? s.views other ≡ some w = sym (set_else s.views id other (both v w) apart) ∙ there in
      let f = r.each id v at in
      let g = r.each other w there' in
      go f g w.marked refl
    where
      go : Fits place r.log r.holder r.owner r.births id v → Fits place r.log r.holder r.owner r.births other w → (b : Bool) → w.marked ≡ b
          → Kept place (with_views s (set (set s.views id (both v w)) other blank))
      go f g true is =
          let P = Fits place r.log id r.owner r.births in
          record {
            log = r.log;
            holder = id;
            owner = r.owner;
            births = r.births;
            word = r.word;
            short = r.short;
            small = r.small;
            unborn = r.unborn;
            idle = r.idle;
            each = each_set P (set s.views id (both v w)) other blank
                (λ j u far e. each_set (λ j u. j ≢ other → P j u) s.views id (both v w)
                (λ j u near e far. let o = r.each j u e in record { now = o.now; first = o.first; second = o.second; whole = o.whole; mark = λ m. absurd (far ((o.mark m).0 ∙ sym (g.mark is).0)); own = o.own; alone = o.alone; counted = o.counted; born = o.born })
                (λ _. joined_fits r.log r.holder id r.owner r.births id other v w f g
                (λ _. (
                  refl,
                  (let p = prefix-shorter v.seen w.seen r.log f.now.prefix g.now.prefix (let h = prefix-length v.seen r.log f.now.prefix in omega (arith, ap length (g.mark is).1)) in
                      ap (λ (l : List (Stamped I)). v.seen ++ drop (length v.seen) l) (sym p.1) ∙ (ap (λ (l : List (Stamped I)). v.seen ++ l) (drop-append_seam v.seen p.0) ∙ (p.1 ∙ (g.mark is).1))),
                ))) j u e far)
                (blank_fits r.log id r.owner r.births other);
          }
      go f g false is =
          let P = Fits place r.log r.holder r.owner r.births in
          record {
            log = r.log;
            holder = r.holder;
            owner = r.owner;
            births = r.births;
            word = r.word;
            short = r.short;
            small = r.small;
            unborn = r.unborn;
            idle = r.idle;
            each = each_set P (set s.views id (both v w)) other blank
                (λ j u far e. each_set P s.views id (both v w) (λ j u near e. r.each j u e)
                (joined_fits r.log r.holder r.holder r.owner r.births id other v w f g
                (λ m. let m' : v.marked ≡ true = only_left v.marked w.marked m is in (
                  (f.mark m').0,
                  (let h = prefix-length w.seen r.log g.now.prefix in
                      ap (λ (l : List (Stamped I)). v.seen ++ l) (drop_of_length-le w.seen (omega (arith, ap length (f.mark m').1))) ∙ (append-nil v.seen ∙ (f.mark m').1)),
                ))) j u e)
                (blank_fits r.log r.holder r.owner r.births other);
          }

  pub grows : (slots id : ℕ) (me : Me (Unit {0}) (View I)) (xs : List I) (k : ℕ) → me.0.marked ≡ true → me.0.numbered ≡ true
      → length me.0.seen + length xs < 4294967296 → deaths_of place (me.0.seen ++ stamp_all me.0.number xs) < 65536
      → k + deaths_of place me.0.seen ≡ 65536 * length xs + deaths_of place (me.0.seen ++ stamp_all me.0.number xs)
      → Allows (Kept place) slots id me 0 (λ n. (n + k) % 2 ^ 64) (Grows place xs (step slots 0 k 0 none) me)
  grows slots id me xs k has own room little by s r _ at _ =
      let v : View I = me.0 in
      let f = r.each id v at in
      let c : List ℕ = v.number in
      let new : List (Stamped I) = stamp_all c xs in
      let seen : v.seen ≡ r.log = (f.mark has).1 in
      let log : List (Stamped I) = r.log ++ new in
      let grew : v.seen ++ new ≡ log = ap (λ (l : List (Stamped I)). l ++ new) seen in
      let w : View I = grown place v xs in
      let n : ℕ = slice_index s.words 0 in
      let is : n ≡ 65536 * length r.log + deaths_of place r.log = ap (λ (l : List ℕ). slice_index l 0) r.word in
      let count : length log ≡ length r.log + length xs = length-append r.log new ∙ ap (λ (m : ℕ). length r.log + m) (length-map xs (stamped c)) in
      let total : (n + k) % 2 ^ 64 ≡ 65536 * length log + deaths_of place log =
      (let a = r.short in let b = ap length seen in let d = ap (deaths_of place) seen in let e = ap (deaths_of place) grew in omega arith) in
      let P = Fits place log r.holder r.owner r.births in
      let all_front : take (length log) log ≡ log = ap (take (length log)) (sym (append-nil log)) ∙ take-append_seam log [] in (
        w,
        keeps,
        tt,
        record {
          log = log;
          holder = r.holder;
          owner = r.owner;
          births = r.births;
          word = ap (λ (l : List ℕ). slice_set l 0 ((slice_index l 0 + k) % 2 ^ 64)) r.word ∙ ap (λ (m : ℕ). m ∷ []) (ap (λ (l : List ℕ). (slice_index l 0 + k) % 2 ^ 64) (sym r.word) ∙ total);
          short = (let b = ap length seen in omega arith);
          small = (let e = ap (deaths_of place) grew in omega arith);
          unborn = λ d j rest h. entries_by-append (d ++ j ∷ rest) r.log new ∙ (ap (λ (l : List (Stamped I)). l ++ entries_by (d ++ j ∷ rest) new) (r.unborn d j rest h) ∙ entries_by-other c (d ++ j ∷ rest) (λ same. let b = f.born own d j rest same in absurd (omega arith)) xs);
          idle = r.idle;
          each = each_set P s.views id w
              (λ j u apart e. let o = r.each j u e in record {
                now = stands_longer r.log new (past_of u) o.now;
                first = stands_longer r.log new u.first o.first;
                second = stands_longer r.log new u.second o.second;
                whole = λ m. absurd (apart ((o.mark (o.whole m).0).0 ∙ sym (f.mark has).0));
                mark = λ m. absurd (apart ((o.mark m).0 ∙ sym (f.mark has).0));
                own = λ m. (
                  (o.own m).0 ∙ (sym (append-nil (entries_by u.number r.log)) ∙ (ap (λ (l : List (Stamped I)). entries_by u.number r.log ++ l) (sym (entries_by-other c u.number (λ same. apart (sym (o.alone m) ∙ (ap r.owner (sym same) ∙ f.alone own))) xs)) ∙ sym (entries_by-append u.number r.log new))),
                  (o.own m).1,
                );
                alone = o.alone;
                counted = o.counted;
                born = o.born;
              })
              (record {
                now = record {
                  prefix = ([], append-nil w.seen ∙ grew);
                  low = omega arith;
                  high = (let b = ap length grew in omega arith);
                  deaths = ap (deaths_of place) grew ∙ ap (deaths_of place) (sym all_front ∙ ap (λ (m : ℕ). take m log) (sym (ap length grew)));
                };
                first = stands_none log;
                second = stands_none log;
                whole = λ e. absurd (cc e);
                mark = λ _. ((f.mark has).0, grew);
                own = λ m. (
                  ap (λ (l : List (Stamped I)). l ++ new) (f.own own).0 ∙ (ap (λ (l : List (Stamped I)). entries_by c r.log ++ l) (sym (entries_by-same c xs)) ∙ sym (entries_by-append c r.log new)),
                  ap (λ (l : List (Stamped I)). l ++ new) (f.own own).1 ∙ (ap (λ (l : List (Stamped I)). entries_by c v.seen ++ l) (sym (entries_by-same c xs)) ∙ sym (entries_by-append c v.seen new)),
                );
                alone = f.alone;
                counted = f.counted;
                born = f.born;
              });
        },
        refl,
      )

  pub tells : (slots id : ℕ) (me : Me (Unit {0}) (View I)) → Allows (Kept place) slots id me 0 (λ n. n) (OnlyTells place (step slots 0 0 0 none) me)
  tells slots id me s r _ at _ =
      let f = r.each id me.0 at in (
        me.0,
        keeps,
        tt,
        record {
          log = r.log;
          holder = r.holder;
          owner = r.owner;
          births = r.births;
          word = ap (λ (l : List ℕ). slice_set l 0 (slice_index l 0)) r.word;
          short = r.short;
          small = r.small;
          unborn = r.unborn;
          idle = r.idle;
          each = each_set (Fits place r.log r.holder r.owner r.births) s.views id me.0 (λ j u _ e. r.each j u e) f;
        },
        (refl, (r.log, f.now, f.first, f.second, (λ m. (f.mark m).1), (λ m. (f.whole m).1), f.own)),
      )
