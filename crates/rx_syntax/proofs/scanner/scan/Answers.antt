use Rattle.std.proofs.Common.{◌≡◌, ◌++◌, ◌∷◌, ◌+◌, ◌-◌, false, refl, [], length, ap, sym, ◌∙◌, subst, subst₂, append_assoc, arith}
use Rattle.rx_syntax.specs.declared.token.Token.TheVariants.{Bad}
use Rattle.rx_syntax.specs.Lexical.{skipped, token_at}
use Rattle.rx_syntax.specs.Tokens.{NamesInOrder}
use Rattle.rx_syntax.specs.Scans.{Scans}
use Rattle.rx_syntax.specs.Tables.{names_of}
use Rattle.rx_syntax.proofs.Scanning.{Goes, goes-end, goes-bad, goes-more, order-more, is-empty, not-empty, few-more}
use Rattle.rx_syntax.proofs.scanner.scan.Goals as goal

pub returns-then-is_empty-clause-scans : goal.returns-then-is_empty-clause-scans
returns-then-is_empty-clause-scans c =
    let none = is-empty c.skip-here.result.now c.if-is_empty.ensures in
    let at : length c.args.bytes.now - length c.skip-here.result.now ≡ length c.args.bytes.now = omega (arith, ap length none) in
    let starts : c.push.new.self.items ≡ c.tokens.starts.items ++ length c.args.bytes.now ∷ [] = c.in_ok-push.ensures.items ∙ ap (λ n. c.tokens.starts.items ++ n ∷ []) at in
    subst (λ ss. Scans (names_of c.tokens.table.names) (length c.args.bytes.now) c.args.bytes.now c.tokens.tokens.items ss) (sym starts) (goes-end _ _ c.args.bytes.now _ _ c.tokens.rest.now c.tokens.invariant.goes (sym c.skip-here.ensures.left ∙ none))

pub returns-in_default-clause-scans : goal.returns-in_default-clause-scans
returns-in_default-clause-scans c =
    let left = c.skip-here.ensures.left in
    let some = not-empty c.skip-here.result.now c.if-is_empty.ensures in
    let at : length c.args.bytes.now - length c.skip-here.result.now + length (skipped false c.tokens.rest.now) ≡ length c.args.bytes.now = omega (arith, ap length left, c.skip-here.ensures.shorter, c.tokens.invariant.short) in
    let tokens = c.in_ok-push-2.ensures.items in
    let starts : c.push-in_default-2.new.self.items ≡ c.tokens.starts.items ++ (length c.args.bytes.now - length c.skip-here.result.now) ∷ length c.args.bytes.now ∷ [] = c.in_ok-push-3.ensures.items ∙ ap (λ ss. ss ++ length c.args.bytes.now ∷ []) c.in_ok-push.ensures.items ∙ append_assoc c.tokens.starts.items _ _ in
    subst₂ (λ us ss. Scans (names_of c.tokens.table.names) (length c.args.bytes.now) c.args.bytes.now us ss) (sym tokens) (sym starts) (
    goes-bad _ _ c.args.bytes.now _ _ c.tokens.rest.now _ c.tokens.invariant.goes (λ e. some (left ∙ e)) (ap token_at (sym left) ∙ sym c.in_default.ensures.token) at)

pub returns-in_default-clause-names : goal.returns-in_default-clause-names
returns-in_default-clause-names c =
    let i = c.tokens.invariant in
    record {
      are_names = i.table.are_names;
      distinct = i.table.distinct;
      in_order = subst (λ us. NamesInOrder 0 us (length (names_of c.tokens.table.names))) (sym c.in_ok-push-2.ensures.items) (order-more 0 _ _ c.tokens.tokens.items Bad i.in_order refl);
    }

pub tokens-preserved : goal.tokens-preserved
tokens-preserved c =
    let i = c.tokens.invariant in
    let left = c.skip-here.ensures.left in
    let t = c.in_ok-next.ensures.token in
    let at : length c.args.bytes.now - length c.skip-here.result.now + length (skipped false c.tokens.rest.now) ≡ length c.args.bytes.now = omega (arith, ap length left, c.skip-here.ensures.shorter, i.short) in
    record {
      goes = subst₂ (λ us ss. Goes (names_of c.numbered.new.table.names) (length c.args.bytes.now) c.args.bytes.now us ss c.in-Some.after.now) (sym c.in_ok-push-4.ensures.items) (sym c.in_ok-push.ensures.items) (
          goes-more _ _ _ c.args.bytes.now _ _ c.tokens.rest.now c.in_ok-next.next _ c.in-Some.lexeme c.in-Some.after.now i.goes t (ap token_at (sym left) ∙ sym c.in-Some.ensures.token) at);
      table = c.in_ok-next.ensures.table;
      in_order = subst (λ us. NamesInOrder 0 us (length (names_of c.numbered.new.table.names))) (sym c.in_ok-push-4.ensures.items) (order-more 0 _ _ c.tokens.tokens.items c.in_ok-next.next i.in_order t.counts);
      short = omega (arith, i.short, c.skip-here.ensures.shorter, c.in-Some.ensures.shorter, c.in_ok-push-4.ensures.len);
      few = omega (arith, i.few, few-more _ _ _ t.counts, c.in_ok-push-4.ensures.len);
    }
