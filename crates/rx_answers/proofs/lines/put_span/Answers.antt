use Rattle.std.proofs.Common.{◌≡◌, ℕ, List, ◌++◌, length, ap, ◌∙◌, append_assoc, codes}
use Rattle.std.specs.List.{flat_map}
use Rattle.rx_base.proofs.Results.{on-ok-then}
use Rattle.rx_answers.specs.Lines.{numbered, path_line, span_text}
use Rattle.rx_answers.proofs.lines.put_span.Goals as goal

joined : (a b c x y z : List ℕ) → b ≡ a ++ x → c ≡ b ++ y → c ++ z ≡ a ++ (x ++ y ++ z)
joined a b c x y z e f =
    ap (λ t. t ++ z) (f ∙ ap (λ t. t ++ y) e ∙ append_assoc a x y) ∙ append_assoc a (x ++ y) z

pub returns : goal.returns
returns c =
    let paths : List ℕ = flat_map path_line c.args.chain.now in
    on-ok-then c.put_paths.result (c.put_paths.new.out.items ≡ c.put_numbered-2.new.out.items ++ paths) (c.put_paths.new.out.items ≡ c.args.out.now.items ++ span_text c.args.statements c.args.chain.now) c.put_paths.ensures
    (λ e. e ∙ joined c.args.out.now.items c.put_numbered.new.out.items c.put_numbered-2.new.out.items (numbered (codes "statements ") c.args.statements) (numbered (codes "chain ") (length c.args.chain.now)) paths c.in_ok-put_numbered.ensures
    (c.in_ok-put_numbered-2.ensures ∙ ap (λ k. c.put_numbered.new.out.items ++ numbered (codes "chain ") k) c.len.ensures))
