use Rattle.std.proofs.Common.{◌≡◌, true, false, [], length, refl, sym, ap, ◌∙◌, arith}
use Rattle.rx_rules.proofs.Common.{Nothing}
use Rattle.rx_script.specs.Inside.Machine.{free, mode}
use Rattle.rx_script.specs.Inside.Pieces.{mode_of}
use Rattle.rx_script.proofs.Arena.{small-none}
use Rattle.rx_script.proofs.HasRead.{reads-of, refused-of, ok-at, may-take, reads-more, stops-at, all-read, mode-outermost, shorter}
use Rattle.rx_script.proofs.reader.parse.Goals as goal

pub items-init : goal.items-init
items-init c = record {
  items = [];
  state = free [] Nothing;
  holds = ((c.new-5.ensures.items, rw c.new-4.ensures.items tt), tt);
  whole = refl;
  runs = record { items = tt; runs = refl };
  stmts = omega (arith, ap length c.new.ensures.items);
  exprs = omega (arith, ap length c.new-2.ensures.items);
  blocks = rw c.new-3.ensures.items (omega arith);
  pending = omega (arith, ap length c.new-4.ensures.items);
  small = rw c.new-3.ensures.items small-none;
}

pub take_item-requires-clause-may : goal.take_item-requires-clause-may
take_item-requires-clause-may c =
    let i = c.items.invariant in
    let e = c.in_ok-item.ensures in
    may-take c.items.reader c.next_item.new.exprs c.args.tokens.now c.items.rest.now c.in-Ok.after.now c.in-Ok.item i
    (reads-of c.items.reader c.next_item.new.exprs (mode_of c.next_mode-mode.result) (mode i.state) c.items.rest.now c.in-Ok.item c.in-Ok.after (λ s. s.now) _ e.grows (c.next_mode-mode.ensures i.state i.holds) c.in-Ok.is e.answer)

pub items-smaller : goal.items-smaller
items-smaller c =
    let i = c.items.invariant in
    let e = c.in_ok-item.ensures in
    let a = reads-of c.items.reader c.next_item.new.exprs (mode_of c.next_mode-mode.result) (mode i.state) c.items.rest.now c.in-Ok.item c.in-Ok.after (λ s. s.now) _ e.grows (c.next_mode-mode.ensures i.state i.holds) c.in-Ok.is e.answer in
    shorter (mode i.state) c.items.rest.now c.in-Ok.after.now a.item a.reads

pub items-preserved : goal.items-preserved
items-preserved c =
    let i = c.items.invariant in
    let e = c.in_ok-item.ensures in
    let a = reads-of c.items.reader c.next_item.new.exprs (mode_of c.next_mode-mode.result) (mode i.state) c.items.rest.now c.in-Ok.item c.in-Ok.after (λ s. s.now) _ e.grows (c.next_mode-mode.ensures i.state i.holds) c.in-Ok.is e.answer in
    let t = c.in_ok-take_item-in-Ok.ensures in
    reads-more c.items.reader c.next_item.new.exprs c.take_item.new.reader c.args.tokens.now c.items.rest.now c.in-Ok.after.now c.in-Ok.item i a (ok-at _ _ _ c.in-Ok.is e.few) t.takes t.counts c.requires

pub returns-in-Err : goal.returns-in-Err
returns-in-Err c =
    let i = c.items.invariant in (
      c.in-Err.bad.now,
      refl,
      stops-at c.items.reader c.args.tokens.now c.items.rest.now c.in-Err.bad.now i
          (refused-of c.next_item.new.exprs.items (mode_of c.next_mode-mode.result) (mode i.state) c.items.rest.now c.in-Err.bad (λ s. s.now) _ (c.next_mode-mode.ensures i.state i.holds) c.in-Err.is c.in_ok-item.ensures.answer)
          (λ e z. let no : false ≡ true = c.items-test.ensures.1 (mode-outermost c.next_mode.result (c.next_mode.ensures i.state i.holds ∙ e), z) in cc),
    )

pub returns : goal.returns
returns c =
    let d = c.items-test.ensures.0 refl in
    all-read c.items.reader c.args.tokens.now c.items.rest.now c.items.invariant (λ s h. sym (c.next_mode.ensures s h) ∙ ap mode_of d.0) d.1 c.requires
