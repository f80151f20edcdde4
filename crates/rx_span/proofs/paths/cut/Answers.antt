use Rattle.std.proofs.Common.{◌≡◌, ◌∙◌, ◌+◌, ◌≤◌, [], ◌∷◌, ◌++◌, length, map, ap, sym, arith, append_assoc, append-nil, slice_index_or}
use Rattle.std.proofs.lemmas.List.{length-map, length-append, map-append}
use Rattle.rx_base.proofs.Elements.{empty-from}
use Rattle.rx_span.proofs.Copied.{next}
use Rattle.rx_span.proofs.paths.cut.Goals as goal

pub split_at-requires : goal.split_at-requires
split_at-requires c =
    let r = c.requires in
    let v = c.loop-i.invariant r.0 r.1 r.2 in
    let n = next r.0 (map (λ p. p.now) c.loop-i.paths.items) v.0 c.args.lengths.now c.loop-i.i c.loop-i.rest.now v.1 r.2 (length-map c.loop-i.paths.items (λ p. p.now) ∙ v.3) v.2 c.loop-i-test.true in
    n.within

pub loop-i-preserved : goal.loop-i-preserved
loop-i-preserved c = λ xs h l.
    let v = c.loop-i.invariant xs h l in
    let done = map (λ p. p.now) c.loop-i.paths.items in
    let n = next xs done v.0 c.args.lengths.now c.loop-i.i c.loop-i.rest.now v.1 l (length-map c.loop-i.paths.items (λ p. p.now) ∙ v.3) v.2 c.loop-i-test.true in
    let k = slice_index_or c.args.lengths.now c.loop-i.i 0 in
    let one : map (λ p. p.now) c.push.new.self.items ≡ done ++ n.path ∷ [] = ap (map (λ p. p.now)) c.in_ok-push.ensures.items ∙ map-append (λ p. p.now) c.loop-i.paths.items (c.split_at.result.0 ∷ []) ∙ ap (λ x. done ++ x ∷ []) (c.split_at.ensures.front ∙ n.first) in (
      n.more,
      n.whole ∙ sym (append_assoc done (n.path ∷ []) n.more) ∙ ap (λ y. y ++ n.more) (sym one),
      c.split_at.ensures.back ∙ n.later,
      ap length c.in_ok-push.ensures.items ∙ length-append c.loop-i.paths.items (c.split_at.result.0 ∷ []) ∙ ap (λ m. m + 1) v.3,
    )

pub returns : goal.returns
returns c = λ xs h l.
    let v = c.loop-i.invariant xs h l in
    let done = map (λ p. p.now) c.loop-i.paths.items in
    let all : length c.args.lengths.now ≡ length xs = ap length l ∙ length-map xs length in
    let whole : length xs ≡ length done + length v.0 = ap length v.1 ∙ length-append done v.0 in
    let long : length done ≡ length c.loop-i.paths.items = length-map c.loop-i.paths.items (λ p. p.now) in
    let over : length c.args.lengths.now ≤ c.loop-i.i = c.loop-i-test.false in
    let passed : length c.loop-i.paths.items ≡ c.loop-i.i = v.3 in
    let none : v.0 ≡ [] = empty-from v.0 (omega arith) in
    sym (v.1 ∙ ap (λ y. done ++ y) none ∙ append-nil done)
