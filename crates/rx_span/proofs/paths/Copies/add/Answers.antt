use Rattle.std.proofs.Common.{◌≡◌, ◌∙◌, [], ◌∷◌, ◌++◌, true, length, drop, ap, sym, subst, arith}
use Rattle.std.proofs.lemmas.Bool.{true≢false}
use Rattle.std.specs.Ordering.{is_lt}
use Rattle.rx_span.specs.declared.paths.Copies.{Copies}
use Rattle.rx_span.specs.Inside.Sorting.{comes}
use Rattle.rx_span.proofs.Copied.{copied-more, tail-all}
use Rattle.rx_span.proofs.paths.Copies.add.Goals as goal
use Rattle.rx_span.proofs.paths.Copies.add.Goals.{then-self, else-self}

pub returns : goal.returns
returns c = λ xs h.
    let old = c.args.self.now in
    let x = c.numbers-x.ensures in
    let new : Copies = record { numbers = c.extend_from_slice.new.self; lengths = c.push.new.self; last = c.len-self.result; ascending = c.if-self.self } in
    copied-more xs c.args.path.now old new h
    (c.in_ok-extend_from_slice.ensures.items ∙ ap (λ l. old.numbers.items ++ l) x)
    (c.in_ok-push.ensures.items ∙ ap (λ l. old.lengths.items ++ length l ∷ []) x)
    (omega (arith, c.len-self.ensures, old.numbers.ok.0))
    (λ e. elim c.if-self.branch [
      | then-self w ↦ (
        w.if-self.true,
        (let t : is_lt w.order.result ≡ true = sym w.is_lt-self.ensures ∙ sym w.self-is ∙ e in
            subst (λ y. comes (drop old.last old.numbers.items) y ≡ true) x (subst (λ y. comes (drop old.last y) c.numbers-x.result.now ≡ true) w.deref.ensures.value
            (subst (λ y. comes y c.numbers-x.result.now ≡ true) (tail-all old.last w.deref.result.now) (sym w.order.ensures ∙ t)))),
      )
      | else-self w ↦ absurd (true≢false (sym e ∙ w.self-is ∙ w.if-self.false))
    ])
