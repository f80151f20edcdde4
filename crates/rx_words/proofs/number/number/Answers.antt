use Rattle.std.proofs.Common.{◌≡◌, ℕ, ◌<◌, ◌^◌, false, Some, length, ap, sym, ◌∙◌, refl, arith, ℤ, pos, FitsSigned}
use lib.IntN.{nat_abs}
use mir.Val.{to_z, of_z}
use Rattle.std.specs.Int.{w64}
use Rattle.std.specs.Int.Signed.{lt_z}
use Rattle.rx_text.specs.Numbers.{natural_text, number_text}
use Rattle.rx_words.proofs.Numbers.{spelled-number, no-number, natural-stands, whole-text, between, not-outside}
use Rattle.rx_kills.proofs.Marks.{kept, not-none, one-answer}
use Rattle.rx_words.proofs.number.number.Goals as goal
use Rattle.rx_words.proofs.number.number.Goals.{then-end-word-via-then-end-word, then-end-word-via-else-end-word+then-value-from, then-end-word-via-else-end-word+else-value-from+then-from-value}

pub returns-in_err-value-clause-number : goal.returns-in_err-value-clause-number
returns-in_err-value-clause-number c =
    c.from_residual.ensures ∙ no-number c.args.least c.args.most c.args.word.now (λ n is low high.
    let small : n < 2 ^ 63 = omega (arith, c.ranges.most.fits) in
    not-none c.scan_num.result (pos n, length c.args.word.now) c.in_err-value.was (c.scan_num.ensures.exact (pos n) (length c.args.word.now) (natural-stands c.args.word.now n is small)))

fits-small : (n : ℕ) → n < 2 ^ 32 → FitsSigned w64 (pos n)
fits-small n small = record { sfits = omega arith }

pub returns-then-end-word-clause-number : goal.returns-then-end-word-clause-number
returns-then-end-word-clause-number c =
    let z : ℤ = c.in_ok-value.value in
    no-number c.args.least c.args.most c.args.word.now (λ n is low high.
    let small : n < 2 ^ 63 = omega (arith, c.ranges.most.fits) in
    let one = one-answer c.scan_num.result (z, c.in_ok-value.end) (pos n, length c.args.word.now) c.in_ok-value.was (c.scan_num.ensures.exact (pos n) (length c.args.word.now) (natural-stands c.args.word.now n is small)) in
    let end : c.in_ok-value.end ≡ length c.args.word.now = ap (λ y. y.1) one in
    let value : z ≡ pos n = ap (λ y. y.0) one in
    let own : to_z w64 (of_z w64 z) ≡ pos n = kept z (pos n) (fits-small n (omega (arith, c.ranges.most.fits, high))) value in
    let out = not-outside c.args.least c.args.most n (to_z w64 (of_z w64 z)) own low high in
    elim c.then-end-word.branch [
      | then-end-word-via-then-end-word w ↦ (let h = w.if-end-word.true in omega (arith, h, end))
      | then-end-word-via-else-end-word+then-value-from w ↦ (let f : to_z w64 (of_z w64 w.from.result) ≡ pos c.args.least = kept w.from.result (pos c.args.least) (fits-small c.args.least c.ranges.least.fits) w.from.ensures in out.0 (sym (ap (λ y. lt_z (to_z w64 (of_z w64 z)) y) f) ∙ w.if-value-from.true))
      | then-end-word-via-else-end-word+else-value-from+then-from-value w ↦ (let f : to_z w64 (of_z w64 w.from-else-value-from.result) ≡ pos c.args.most = kept w.from-else-value-from.result (pos c.args.most) (fits-small c.args.most c.ranges.most.fits) w.from-else-value-from.ensures in out.1 (sym (ap (λ y. lt_z y (to_z w64 (of_z w64 z))) f) ∙ w.if-from-value.true))
    ])

pub returns-clause-number : goal.returns-clause-number
returns-clause-number c =
    let z : ℤ = c.in_ok-value.value in
    let s = c.in_ok-value.ensures.stands in
    let own : to_z w64 (of_z w64 z) ≡ z = kept z z s.fits refl in
    let f : to_z w64 (of_z w64 c.from.result) ≡ pos c.args.least = kept c.from.result (pos c.args.least) (fits-small c.args.least c.ranges.least.fits) c.from.ensures in
    let g : to_z w64 (of_z w64 c.from-else-value-from.result) ≡ pos c.args.most = kept c.from-else-value-from.result (pos c.args.most) (fits-small c.args.most c.ranges.most.fits) c.from-else-value-from.ensures in
    let low : lt_z z (pos c.args.least) ≡ false = sym (ap (λ y. lt_z y (pos c.args.least)) own) ∙ sym (ap (λ y. lt_z (to_z w64 (of_z w64 z)) y) f) ∙ c.if-value-from.false in
    let high : lt_z (pos c.args.most) z ≡ false = sym (ap (λ y. lt_z (pos c.args.most) y) own) ∙ sym (ap (λ y. lt_z y (to_z w64 (of_z w64 z))) g) ∙ c.if-from-value.false in
    let b = between c.args.least c.args.most z low high in
    let text : c.args.word.now ≡ natural_text b.0 = whole-text c.args.word.now z c.in_ok-value.end s c.if-end-word.false ∙ ap number_text b.1 in
    let value : nat_abs (to_z w64 (of_z w64 z)) ≡ b.0 = ap nat_abs (own ∙ b.1) in
    ap (λ n. Some n) value ∙ sym (spelled-number c.args.least c.args.most b.0 c.args.word.now text (omega (arith, c.ranges.most.fits, b.3)) b.2 b.3)
