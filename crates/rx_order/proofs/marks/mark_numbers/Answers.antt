use Rattle.std.proofs.Common.{◌≡◌, ◌∙◌, ℕ, ◌+◌, ◌≤◌, List, [], ◌∷◌, ◌++◌, sym, ap, subst, drop, append-nil, append_assoc, arith, refl, Option, Some, None, option_to_list}
use Rattle.std.proofs.lemmas.List.{drop_all}
use Rattle.rx_rules.proofs.Common.{Stmt as Tree, Block}
use Rattle.rx_syntax.specs.Shape.{Shape, Stands, StmtIs, BlockStands}
use Rattle.rx_order.specs.declared.marks.Role.{Role}
use Rattle.rx_order.specs.Marks.{mark_of, marks, marks_of}
use Rattle.rx_order.specs.Inside.Parts.{item_of, numbers_of, part_in, part_mark, marks_along, IsPart}
use Rattle.rx_order.proofs.Marking.{marks-at, marks-none, marks-some, marks-out, marks-on, Marked}
use Rattle.rx_order.proofs.marks.mark_numbers.Goals as goal
use Rattle.rx_order.proofs.marks.mark_numbers.Goals.{in-Some-part_mark+in_ok-push-2, in_default-part_mark}

pub stmt_at-requires : goal.stmt_at-requires
stmt_at-requires c = let v = c.loop-at.invariant c.whole.ensures.0 c.whole.ensures.1 in (v.0, v.1)

pub returns-in_default : goal.returns-in_default
returns-in_default c t h =
    let x = c.args.x.now in
    let P : Shape → Type 0 = λ s. Stands s t in
    let v = c.loop-at.invariant t (subst P (sym c.script-script.ensures) h) in
    let k : item_of v.0 c.number_at.result ≡ None = rw c.in_default.is at c.stmt_at.ensures v.0 v.1 in
    let none : marks_along v.0 (drop c.loop-at.at x) ≡ [] = marks-at v.0 x c.loop-at.at c.number_at.result c.number_at.ensures ∙ marks-none v.0 c.number_at.result (drop (c.loop-at.at + 1) x) k in
    sym (v.2 ∙ ap (λ l. c.loop-at.marks.items ++ l) none ∙ append-nil c.loop-at.marks.items)

-- after the mark of a position come those inside its statement
after-push : (done pushed : List Role) (m : Role) (more : List Role) → pushed ≡ done ++ m ∷ [] → done ++ m ∷ more ≡ pushed ++ more
after-push done pushed m more e = sym (append_assoc done (m ∷ []) more) ∙ ap (λ l. l ++ more) (sym e)

pub returns-in_default-part_of : goal.returns-in_default-part_of
returns-in_default-part_of c t h =
    let x = c.args.x.now in
    let P : Shape → Type 0 = λ s. Stands s t in
    let s : Shape = c.script-script.result.now in
    let v = c.loop-at.invariant t (subst P (sym c.script-script.ensures) h) in
    let k : (u : Tree) × StmtIs s c.in-Some.stmt u × (item_of v.0 c.number_at.result ≡ Some u) = rw c.in-Some.is at c.stmt_at.ensures v.0 v.1 in
    let out : IsPart s x (c.loop-at.at + 1 + numbers_of k.0) None (part_in k.0 (drop (c.loop-at.at + 1) x)) = rw c.in_default-part_of.is at c.part_of.ensures s k.0 k.1 in
    let none : marks k.0 (drop (c.loop-at.at + 1) x) ≡ [] = marks-out s x (c.loop-at.at + 1 + numbers_of k.0) k.0 (drop (c.loop-at.at + 1) x) out in
    let along : marks_along v.0 (drop c.loop-at.at x) ≡ mark_of k.0 ∷ [] = marks-at v.0 x c.loop-at.at c.number_at.result c.number_at.ensures ∙ marks-some v.0 c.number_at.result (drop (c.loop-at.at + 1) x) k.0 k.2 ∙ ap (λ l. mark_of k.0 ∷ l) none in
    let m : c.position_mark.result ≡ mark_of k.0 = c.position_mark.ensures s k.0 k.1 in
    c.in_ok-push.ensures.items ∙ ap (λ m. c.loop-at.marks.items ++ m ∷ []) m ∙ sym (v.2 ∙ ap (λ l. c.loop-at.marks.items ++ l) along)

pub loop-at-smaller : goal.loop-at-smaller
loop-at-smaller c =
    let x = c.args.x.now in
    let s : Shape = c.script-script.result.now in
    let v = c.loop-at.invariant c.whole.ensures.0 c.whole.ensures.1 in
    let k : (u : Tree) × StmtIs s c.in-Some.stmt u × (item_of v.0 c.number_at.result ≡ Some u) = rw c.in-Some.is at c.stmt_at.ensures v.0 v.1 in
    let on : IsPart s x (c.loop-at.at + 1 + numbers_of k.0) (Some c.in-Some-part_of.part) (part_in k.0 (drop (c.loop-at.at + 1) x)) = rw c.in-Some-part_of.is at c.part_of.ensures s k.0 k.1 in
    let e : c.in-Some-part_of.part.at ≡ c.loop-at.at + 1 + numbers_of k.0 = (marks-on s x (c.loop-at.at + 1 + numbers_of k.0) k.0 (drop (c.loop-at.at + 1) x) c.in-Some-part_of.part on).at in
    omega (arith, c.loop-at-test.true)

one : (done : List Role) (m n : Role) (items rest all : List Role) → items ≡ (done ++ m ∷ []) ++ n ∷ [] → all ≡ m ∷ (n ∷ rest) → done ++ all ≡ items ++ rest
one done m n items rest all e f =
    ap (λ l. done ++ l) f ∙ sym (append_assoc done (m ∷ []) (n ∷ rest)) ∙ sym (append_assoc (done ++ m ∷ []) (n ∷ []) rest) ∙ ap (λ l. l ++ rest) (sym e)

pub loop-at-preserved : goal.loop-at-preserved
loop-at-preserved c t h =
    let x = c.args.x.now in
    let s : Shape = c.script-script.result.now in
    let v = c.loop-at.invariant t h in
    let k : (u : Tree) × StmtIs s c.in-Some.stmt u × (item_of v.0 c.number_at.result ≡ Some u) = rw c.in-Some.is at c.stmt_at.ensures v.0 v.1 in
    let on : IsPart s x (c.loop-at.at + 1 + numbers_of k.0) (Some c.in-Some-part_of.part) (part_in k.0 (drop (c.loop-at.at + 1) x)) = rw c.in-Some-part_of.is at c.part_of.ensures s k.0 k.1 in
    let g : Marked s x (c.loop-at.at + 1 + numbers_of k.0) c.in-Some-part_of.part k.0 (drop (c.loop-at.at + 1) x) = marks-on s x (c.loop-at.at + 1 + numbers_of k.0) k.0 (drop (c.loop-at.at + 1) x) c.in-Some-part_of.part on in
    let rest : List Role = marks_along g.block (drop c.in-Some-part_of.part.at x) in
    let along : marks_along v.0 (drop c.loop-at.at x) ≡ mark_of k.0 ∷ (option_to_list (part_mark k.0 c.in-Some-part_of.part.number) ++ rest) = marks-at v.0 x c.loop-at.at c.number_at.result c.number_at.ensures ∙ marks-some v.0 c.number_at.result (drop (c.loop-at.at + 1) x) k.0 k.2 ∙ ap (λ l. mark_of k.0 ∷ l) g.same in
    let m : c.position_mark.result ≡ mark_of k.0 = c.position_mark.ensures s k.0 k.1 in
    let p : c.part_mark.result ≡ part_mark k.0 c.in-Some-part_of.part.number = c.part_mark.ensures s k.0 k.1 in
    let pushed : c.push.new.self.items ≡ c.loop-at.marks.items ++ mark_of k.0 ∷ [] = c.in_ok-push.ensures.items ∙ ap (λ m. c.loop-at.marks.items ++ m ∷ []) m in (
      g.block,
      g.stands,
      v.2 ∙ elim c.match-part_mark.branch [
        | in-Some-part_mark+in_ok-push-2 w ↦
            let q : part_mark k.0 c.in-Some-part_of.part.number ≡ Some w.in-Some-part_mark.mark = sym p ∙ w.in-Some-part_mark.is in
            let items : c.match-part_mark.marks.items ≡ (c.loop-at.marks.items ++ mark_of k.0 ∷ []) ++ w.in-Some-part_mark.mark ∷ [] = ap (λ u. u.items) w.marks-is ∙ w.in_ok-push-2.ensures.items ∙ ap (λ l. l ++ w.in-Some-part_mark.mark ∷ []) pushed in
            one c.loop-at.marks.items (mark_of k.0) w.in-Some-part_mark.mark c.match-part_mark.marks.items rest (marks_along v.0 (drop c.loop-at.at x)) items (along ∙ ap (λ o. mark_of k.0 ∷ (option_to_list o ++ rest)) q)
        | in_default-part_mark w ↦
            let q : part_mark k.0 c.in-Some-part_of.part.number ≡ None = sym p ∙ w.in_default-part_mark.is in
            let items : c.match-part_mark.marks.items ≡ c.loop-at.marks.items ++ mark_of k.0 ∷ [] = ap (λ u. u.items) w.marks-is ∙ pushed in
            ap (λ l. c.loop-at.marks.items ++ l) (along ∙ ap (λ o. mark_of k.0 ∷ (option_to_list o ++ rest)) q) ∙ after-push c.loop-at.marks.items c.match-part_mark.marks.items (mark_of k.0) rest items
      ],
    )

pub returns : goal.returns
returns c t h =
    let x = c.args.x.now in
    let P : Shape → Type 0 = λ s. Stands s t in
    let v = c.loop-at.invariant t (subst P (sym c.script-script.ensures) h) in
    sym (v.2 ∙ ap (λ z. c.loop-at.marks.items ++ marks_along v.0 z) (drop_all c.loop-at.at x (omega (arith, c.loop-at-test.false))) ∙ append-nil c.loop-at.marks.items)
