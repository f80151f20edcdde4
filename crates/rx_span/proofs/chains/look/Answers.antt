use Rattle.std.proofs.Common.{◌≡◌, ◌∙◌, ℕ, suc, ◌-◌, ◌<◌, ◌≤◌, max, Bool, true, false, cond, List, ◌∷◌, length, drop, get_or, ap, sym, arith, drop-cons}
use Rattle.std.proofs.lemmas.Bool.{cond-true, cond-false}
use Rattle.rx_order.specs.declared.marks.Role.{Role}
use Rattle.rx_order.specs.declared.marks.Role.TheVariants.{Starts}
use Rattle.rx_span.specs.declared.chains.Kept.{Kept}
use Rattle.rx_span.specs.Inside.Kept.{better_kept, kept_from, leads, follow, past}
use Rattle.rx_span.proofs.chains.look.Goals as goal
use Rattle.rx_span.proofs.chains.look.Goals.{then-leads, else-leads}

-- the rows from a number on, and from the next one on
further : {X : Type 0} (xs : List X) (m n : ℕ) (d : X) → n ≡ suc m → m < length xs → drop m xs ≡ get_or xs m d ∷ drop n xs
further xs m n d e l = drop-cons xs m d l ∙ ap (λ k. get_or xs m d ∷ drop k xs) (sym e)

module _ (ms : List Role) (rows : List Kept) (m n : ℕ) (e : n ≡ suc m) (l : m < length rows) (same : length rows ≡ length ms) where
  abbrev mark : Role
  mark = get_or ms m Starts

  abbrev row : Kept
  row = get_or rows m (record { length = 0; head = 0 })

  marks-further : drop m ms ≡ mark ∷ drop n ms
  marks-further = further ms m n Starts e (omega arith)

  follow-further : follow (drop m ms) (drop m rows) ≡ cond (leads (mark ∷ drop n ms)) (better_kept (follow (drop n ms) (drop n rows)) row) (follow (drop n ms) (drop n rows))
  follow-further = ap (λ u. follow u (drop m rows)) marks-further ∙ ap (follow (mark ∷ drop n ms)) (further rows m n (record { length = 0; head = 0 }) e l)

  follow-yes : (b : Bool) → b ≡ true → (kept : Bool) → ((us : List Role) → kept ≡ kept_from us → b ≡ leads (mark ∷ us)) → kept ≡ kept_from (drop n ms) → (k : Kept) → k ≡ follow (drop n ms) (drop n rows) → better_kept k row ≡ follow (drop m ms) (drop m rows)
  follow-yes b t kept f h k q =
      ap (λ u. better_kept u row) q ∙ sym (follow-further ∙ cond-true (leads (mark ∷ drop n ms)) (better_kept (follow (drop n ms) (drop n rows)) row) (follow (drop n ms) (drop n rows)) (sym (f (drop n ms) h) ∙ t))

  follow-no : (b : Bool) → b ≡ false → (kept : Bool) → ((us : List Role) → kept ≡ kept_from us → b ≡ leads (mark ∷ us)) → kept ≡ kept_from (drop n ms) → (k : Kept) → k ≡ follow (drop n ms) (drop n rows) → k ≡ follow (drop m ms) (drop m rows)
  follow-no b t kept f h k q =
      q ∙ sym (follow-further ∙ cond-false (leads (mark ∷ drop n ms)) (better_kept (follow (drop n ms) (drop n rows)) row) (follow (drop n ms) (drop n rows)) (sym (f (drop n ms) h) ∙ t))

past-further : (rows : List Kept) (m n from : ℕ) (inside k : Kept) → n ≡ suc m → m < length rows → from ≤ m → k ≡ past (drop (max n from) rows) inside → better_kept k (get_or rows m (record { length = 0; head = 0 })) ≡ past (drop (max m from) rows) inside
past-further rows m n from inside k e l h q =
    let a : max n from ≡ n = omega arith in
    let b : max m from ≡ m = omega arith in
    ap (λ u. better_kept u (get_or rows m (record { length = 0; head = 0 }))) (q ∙ ap (λ i. past (drop i rows) inside) a)
    ∙ sym (ap (λ i. past (drop i rows) inside) b ∙ ap (λ u. past u inside) (further rows m n (record { length = 0; head = 0 }) e l))

pub loop-at-preserved : goal.loop-at-preserved
loop-at-preserved g c =
    let n = c.loop-at.at in
    let i = c.loop-at.invariant in
    let e : n ≡ suc (n - 1) = omega (arith, c.loop-at-test.true) in
    let w : n ≤ length c.args.rows.now = i.within in
    let l : n - 1 < length c.args.rows.now = omega arith in
    let low : n - 1 < c.args.from = c.if-at-from.false in
    let ends : max n c.args.from ≡ max (n - 1) c.args.from = omega arith in
    record {
      within = omega arith;
      follows = elim c.if-leads.branch [
        | then-leads w ↦ w.follows-is ∙ w.better-follows.ensures ∙ follow-yes c.args.marks.now c.args.rows.now (n - 1) n e l c.requires c.leads.result w.if-leads.true c.loop-at.kept c.leads.ensures i.kept c.loop-at.follows i.follows
        | else-leads w ↦ w.follows-is ∙ follow-no c.args.marks.now c.args.rows.now (n - 1) n e l c.requires c.leads.result w.if-leads.false c.loop-at.kept c.leads.ensures i.kept c.loop-at.follows i.follows
      ];
      kept = c.keeps-kept.ensures (drop n c.args.marks.now) i.kept ∙ ap kept_from (sym (marks-further c.args.marks.now c.args.rows.now (n - 1) n e l c.requires));
      passed = i.passed ∙ ap (λ k. past (drop k c.args.rows.now) c.args.inside) ends;
      looks = (let t = c.tick.ensures in let s = i.looks in omega arith);
    }

pub loop-at-preserved-then-at-from : goal.loop-at-preserved-then-at-from
loop-at-preserved-then-at-from g c =
    let n = c.loop-at.at in
    let i = c.loop-at.invariant in
    let e : n ≡ suc (n - 1) = omega (arith, c.loop-at-test.true) in
    let w : n ≤ length c.args.rows.now = i.within in
    let l : n - 1 < length c.args.rows.now = omega arith in
    record {
      within = omega arith;
      follows = elim c.if-leads.branch [
        | then-leads w ↦ w.follows-is ∙ w.better-follows.ensures ∙ follow-yes c.args.marks.now c.args.rows.now (n - 1) n e l c.requires c.leads.result w.if-leads.true c.loop-at.kept c.leads.ensures i.kept c.loop-at.follows i.follows
        | else-leads w ↦ w.follows-is ∙ follow-no c.args.marks.now c.args.rows.now (n - 1) n e l c.requires c.leads.result w.if-leads.false c.loop-at.kept c.leads.ensures i.kept c.loop-at.follows i.follows
      ];
      kept = c.keeps-kept.ensures (drop n c.args.marks.now) i.kept ∙ ap kept_from (sym (marks-further c.args.marks.now c.args.rows.now (n - 1) n e l c.requires));
      passed = c.better-passed.ensures ∙ past-further c.args.rows.now (n - 1) n c.args.from c.args.inside c.loop-at.passed e l (omega (arith, c.if-at-from.true)) i.passed;
      looks = (let t = c.tick.ensures in let s = i.looks in omega arith);
    }
