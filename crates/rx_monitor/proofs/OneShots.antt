-- Each step on a one-shot keeps its rule.
use Rattle.std.proofs.Common.{◌≡◌, ◌≢◌, ℕ, zero, suc, ◌<◌, eqb, Option, Some, None, List, [], ◌∷◌, set, slice_index, replicate, refl, sym, ◌∙◌, arith, subst, ⊎_elim, slice_set}
use mathlib.Core.Option.{none, some, some-injective, some-ne-none}
use prog.Atomic.{either}
use lib.ListN.{get_elem?}
use Rattle.rx_base.proofs.Elements.{one-word, set-one, set-one-again}
use Rattle.atomic_table.specs.Table.{State, Act, keeps, takes, gives, step, stepped, carried_after, Valid, Allows, Enters, opening}
use Rattle.atomic_table.proofs.Lists.{at_set, at_snoc, set_here, set_again, exchanged}
use Rattle.rx_monitor.specs.declared.one_shot.Hand.{Hand}
use Rattle.rx_monitor.specs.Inside.OneShots.{idle, fresh, reaching, HandKnows, OneShotKept, Took, Sat, Reached}

module _ {T K : Type 0} (holds : K → T → Type 0) where
  abbrev St : Type 0
  St = State (Option T) (Hand K)

  idle_knows : (k : K) (word id : ℕ) (s : St) → HandKnows k word id s (idle k)
  idle_knows k word id s = record { key = refl; fresh = λ e. absurd (cc e); reaching = λ e. absurd (cc e) }

  each_set : (P : ℕ → Hand K → Type 0) (views : List (Hand K)) (id : ℕ) (w : Hand K) → ((j : ℕ) (u : Hand K) → j ≢ id → get_elem? views j ≡ some u → P j u) → P id w
      → (j : ℕ) (u : Hand K) → get_elem? (set views id w) j ≡ some u → P j u
  each_set P views id w old new j u e = ⊎_elim (λ (t : (j ≡ id) × (w ≡ u)). subst (λ (z : ℕ × Hand K). P z.0 z.1) (λ k. (sym t.0 k, t.1 k)) new)
      (λ (t : (j ≢ id) × (get_elem? views j ≡ some u)). old j u t.0 t.1) (at_set views id j w u e)

  pub opens : (k : K) → OneShotKept holds k (opening (0 ∷ []) (replicate 1 None) (fresh k))
  opens k = record { word = 0; is = refl; full = λ e. absurd (cc e); each = alone }
    where
      alone : (id : ℕ) (h : Hand K) → get_elem? (fresh k ∷ []) id ≡ some h → HandKnows {T = T} k 0 id (opening (0 ∷ []) (replicate 1 None) (fresh k)) h
      alone zero h e = subst (HandKnows {T = T} k 0 0 (opening (0 ∷ []) (replicate 1 None) (fresh k))) (some-injective (fresh k) h e) (record { key = refl; fresh = λ _. (refl, refl, refl); reaching = λ e. absurd (cc e) })
      alone (suc id) h e = absurd (some-ne-none h (sym e))

  pub sits : (k : K) (slots : ℕ) → Enters (OneShotKept holds k) slots 0 (λ n w. Sat {T = T} (step slots 0 0 0 none) (fresh k, []) n (w, []))
  sits k slots s r _ _ = (
    idle k,
    record {
      word = r.word;
      is = r.is;
      full = r.full;
      each = λ id h e. ⊎_elim (λ (old : get_elem? s.views id ≡ some h). let o = r.each id h old in record { key = o.key; fresh = o.fresh; reaching = o.reaching })
          (λ (same : idle k ≡ h). subst (HandKnows k r.word id (record { words = s.words; homes = s.homes; views = _ })) same (idle_knows k r.word id _)) (at_snoc s.views (idle k) h id e);
    },
    refl,
  )

  -- the seat that may fill it takes its slot
  pub reaches : (k : K) (slots id : ℕ) → Allows (OneShotKept holds k) slots id (fresh k, []) 0 (λ n. n) (Reached (step slots 0 0 0 none) (fresh k, []))
  reaches k slots id s r count at _ =
      let own = (r.each id (fresh k) at).fresh refl in
      let s' : St = stepped s 0 (slice_index s.words 0) id [] (reaching k) (takes 0 None) in (
        reaching k,
        takes 0 None,
        own.2,
        record {
          word = r.word;
          is = set-one-again s.words r.word r.is ∙ r.is;
          full = λ e. absurd (cc (sym own.1 ∙ e));
          each = each_set (λ j u. HandKnows k r.word j s' u) s.views id (reaching k)
              (λ j u apart e. let o = r.each j u e in record { key = o.key; fresh = λ f. absurd (apart ((o.fresh f).0 ∙ sym own.0)); reaching = o.reaching })
              (record { key = refl; fresh = λ e. absurd (cc e); reaching = λ _. (own.0, own.1) });
        },
        refl,
      )

  pub fills : (k : K) (slots id : ℕ) (x : T) → 0 < slots → holds k x → Allows (OneShotKept holds k) slots id (reaching k, (0, Some x) ∷ []) 0 (λ _. 1) (λ _ _. Unit {0})
  fills k slots id x one fits s r count at _ =
      let own = (r.each id (reaching k) at).reaching refl in
      let s' : St = stepped s 0 1 id ((0, Some x) ∷ []) (idle k) gives in (
        idle k,
        gives,
        tt,
        record {
          word = 1;
          is = set-one s.words r.word 1 r.is;
          full = λ _. (x, fits, set_here s.homes 0 (some (Some x)) (omega (arith, count)));
          each = each_set (λ j u. HandKnows k 1 j s' u) s.views id (idle k)
              (λ j u apart e. let o = r.each j u e in record { key = o.key; fresh = λ f. absurd (apart ((o.fresh f).0 ∙ sym own.0)); reaching = λ f. absurd (apart ((o.reaching f).0 ∙ sym own.0)) })
              (idle_knows k 1 id s');
        },
        tt,
      )

  pub empties : (k : K) (slots id : ℕ) → Allows (OneShotKept holds k) slots id (idle k, []) 0 (λ n. either (eqb n 1) 2 n) (Took holds (step slots 0 1 2 none) (idle k, []))
  empties k slots id s r count at _ = exchanged (slice_index s.words 0) 1 2 Goal hit miss
    where
      Goal : ℕ → Type 0
      Goal m = (w : Hand K) × (a : Act (Option T)) × Valid s.homes [] a × OneShotKept holds k (stepped s 0 m id [] w a) × Took holds (step slots 0 1 2 none) (idle k, []) (slice_index s.words 0) (w, carried_after [] a)

      hit : slice_index s.words 0 ≡ 1 → Goal 2
      hit e =
          let one : r.word ≡ 1 = sym (one-word s.words r.word r.is) ∙ e in
          let f = r.full one in
          let s' : St = stepped s 0 2 id [] (idle k) (takes 0 (Some f.0)) in (
            idle k,
            takes 0 (Some f.0),
            f.2,
            record {
              word = 2;
              is = set-one s.words r.word 2 r.is;
              full = λ e. absurd (cc e);
              each = each_set (λ j u. HandKnows k 2 j s' u) s.views id (idle k)
                  (λ j u apart e. let o = r.each j u e in record { key = o.key; fresh = λ f. absurd (cc (sym one ∙ (o.fresh f).1)); reaching = λ f. absurd (cc (sym one ∙ (o.reaching f).1)) })
                  (idle_knows k 2 id s');
            },
            ((λ _. (f.0, f.1, refl)), λ ne. absurd (ne e)),
          )

      miss : slice_index s.words 0 ≢ 1 → Goal (slice_index s.words 0)
      miss ne =
          let same : slice_set s.words 0 (slice_index s.words 0) ≡ s.words = set-one-again s.words r.word r.is in
          let still : set s.views id (idle k) ≡ s.views = set_again s.views id (idle k) at in (
            idle k,
            keeps,
            tt,
            subst (OneShotKept holds k) (λ i. record { words = sym same i; homes = s.homes; views = sym still i }) r,
            ((λ e. absurd (ne e)), λ _. refl),
          )
