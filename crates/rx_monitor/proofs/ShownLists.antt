-- Each step on the list keeps its rule.
use Rattle.std.proofs.Common.{◌≡◌, ◌≢◌, ℕ, zero, suc, true, List, [], ◌∷◌, ◌++◌, length, drop, set, eqb, refl, ap, sym, ◌∙◌, arith, subst, ⊎_elim}
use mathlib.Core.Option.{none, some, some-injective, some-ne-none}
use mathlib.Core.List.{IsPrefix}
use prog.Atomic.{either}
use lib.ListN.{get_elem?}
use Rattle.atomic_table.specs.Table.{Me, keeps, step, Allows, Splits, Joins, opening}
use Rattle.atomic_table.proofs.Lists.{at_set, at_snoc, set_else}
use Rattle.rx_monitor.specs.declared.summary.Summary.{Summary}
use Rattle.rx_monitor.specs.declared.shown_list.View.{View}
use Rattle.rx_monitor.specs.Boards.{longer}
use Rattle.rx_monitor.specs.Inside.ShownLists.{opening_view, blank, noted, met, settled, grown, SeatFits, ListKept, Grows, Settles}
use Rattle.rx_base.proofs.Prefixes.{prefix-trans, prefix-length, prefix-longer, prefix-in-longer}
use Rattle.rx_monitor.proofs.Beginnings.{longer-first}

blank_fits : (log : List Summary) (holder id : ℕ) → SeatFits log holder id blank
blank_fits log holder id = record { prefix = (log, refl); also = (log, refl); mark = λ e. absurd (cc e) }

noted_fits : (log : List Summary) (holder id new : ℕ) (v : View) → SeatFits log holder id v → SeatFits log holder new (noted v)
noted_fits log holder id new v f = record { prefix = f.prefix; also = (log, refl); mark = λ e. absurd (cc e) }

-- the views after the seat id has the view w
each_set : (P : ℕ → View → Type 0) (views : List View) (id : ℕ) (w : View) → ((j : ℕ) (u : View) → j ≢ id → get_elem? views j ≡ some u → P j u) → P id w
    → (j : ℕ) (u : View) → get_elem? (set views id w) j ≡ some u → P j u
each_set P views id w old new j u e = ⊎_elim (λ (t : (j ≡ id) × (w ≡ u)). subst (λ (z : ℕ × View). P z.0 z.1) (λ k. (sym t.0 k, t.1 k)) new)
    (λ (t : (j ≢ id) × (get_elem? views j ≡ some u)). old j u t.0 t.1) (at_set views id j w u e)

pub opens : ListKept (opening (0 ∷ []) [] opening_view)
opens = record { log = []; holder = 0; each = alone }
  where
    alone : (id : ℕ) (v : View) → get_elem? (opening_view ∷ []) id ≡ some v → SeatFits [] 0 id v
    alone zero v e = subst (SeatFits [] 0 0) (some-injective opening_view v e) (record { prefix = ([], refl); also = ([], refl); mark = λ _. (refl, refl) })
    alone (suc id) v e = absurd (some-ne-none v (sym e))

pub notes : (id : ℕ) (v : View) → Splits ListKept id v v (noted v)
notes id v s r at =
    let P = SeatFits r.log r.holder in
    let f = r.each id v at in
    record {
      log = r.log;
      holder = r.holder;
      each = λ j u e. ⊎_elim (λ (h : get_elem? (set s.views id v) j ≡ some u). each_set P s.views id v (λ j u _ e. r.each j u e) f j u h)
          (λ (same : noted v ≡ u). subst (P j) same (noted_fits r.log r.holder id j v f)) (at_snoc (set s.views id v) (noted v) u j e);
    }

pub meets : (id : ℕ) (v : View) (other : ℕ) (w : View) → Joins ListKept id v other w (met v w) blank
meets id v other w s r at apart there =
    let P = SeatFits r.log r.holder in
    let f = r.each id v at in
    let g = r.each other w (sym (set_else s.views id other (met v w) apart) ∙ there) in
    record {
      log = r.log;
      holder = r.holder;
      each = each_set P (set s.views id (met v w)) other blank
          (λ j u _ e. each_set P s.views id (met v w) (λ j u _ e. r.each j u e) (record { prefix = f.prefix; also = g.prefix; mark = f.mark }) j u e)
          (blank_fits r.log r.holder other);
    }

pub settles : (slots id : ℕ) (me : Me Summary View) → Allows ListKept slots id me 0 (λ n. n) (Settles (step slots 0 0 0 none) me)
settles slots id me s r _ at _ =
    let P = SeatFits r.log r.holder in
    let v : View = me.0 in
    let f = r.each id v at in
    let whole : v.marked ≡ true → longer v.seen v.also ≡ v.seen = λ m. longer-first v.seen v.also (let h = prefix-length v.also r.log f.also in omega (arith, ap length (f.mark m).1)) in
    let fits : P id (settled v) = record { prefix = prefix-longer v.seen v.also r.log f.prefix f.also; also = (r.log, refl); mark = λ m. ((f.mark m).0, whole m ∙ (f.mark m).1) } in (
      settled v,
      keeps,
      tt,
      record { log = r.log; holder = r.holder; each = each_set P s.views id (settled v) (λ j u _ e. r.each j u e) fits },
      (refl, (drop (length v.seen) v.also, refl), prefix-in-longer v.seen v.also r.log f.prefix f.also, whole),
    )

pub grows : (slots id : ℕ) (me : Me Summary View) (x : Summary) → me.0.marked ≡ true → Allows ListKept slots id me 0 (λ n. either (eqb n 0) 0 n) (Grows (step slots 0 0 0 (some x)) me)
grows slots id me x has s r _ at _ =
    let v : View = me.0 in
    let f = r.each id v at in
    let is = f.mark has in
    let log : List Summary = r.log ++ x ∷ [] in
    let P = SeatFits log r.holder in
    let more : IsPrefix r.log log = (x ∷ [], refl) in
    let fits : P id (grown v x) = record { prefix = ([], (ap (λ l. (l ++ x ∷ []) ++ []) is.1 ∙ nil log)); also = prefix-trans v.also r.log log f.also more; mark = λ _. (is.0, ap (λ l. l ++ x ∷ []) is.1) } in (
      grown v x,
      keeps,
      tt,
      record {
        log = log;
        holder = r.holder;
        each = each_set P s.views id (grown v x)
            (λ j u apart e. let o = r.each j u e in record { prefix = prefix-trans u.seen r.log log o.prefix more; also = prefix-trans u.also r.log log o.also more; mark = λ m. absurd (apart ((o.mark m).0 ∙ sym is.0)) })
            fits;
      },
      (λ y e. ap (λ (z : Summary). (grown v z, me.1)) (some-injective x y e)),
    )
  where
    nil : (l : List Summary) → l ++ [] ≡ l
    nil [] = refl
    nil (y ∷ ys) = ap (λ l. y ∷ l) (nil ys)
