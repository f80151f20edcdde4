use Rattle.std.proofs.Common.{rules, ◌≡◌, ◌<◌, Option, Some, ℕ, List, length, map, ap, sym, ◌∙◌, subst, arith, get_or, Vec, Global, IfSome, slice_get, option_map}
use Rattle.std.proofs.lemmas.List.{length-map}
use Rattle.std.proofs.lemmas.Option.{slice_get-map, slice_get-get_or}
use Rattle.rx_syntax.specs.declared.nodes.StmtId.{StmtId}
use Rattle.rx_syntax.specs.Shape.{Shape}
use Rattle.rx_syntax.proofs.script.Script.block_len.Goals as goal

there : (bs : List (Vec StmtId Global)) (i : ℕ) (v : Vec StmtId Global) → i < length bs → v ≡ get_or bs i v → slice_get (map (λ b. b.items) bs) i ≡ Some v.items
there bs i v h e = slice_get-map (λ b. b.items) bs i ∙ ap (option_map (λ b. b.items)) (slice_get-get_or bs i v h ∙ ap (λ x. Some x) (sym e))

found : (c : goal.After-len) → slice_get (map (λ b. b.items) c.self.inside.blocks.items) c.args.block.0 ≡ Some c.index.result.now.items
found c =
    let P : Shape → Type 0 = λ s. c.args.block.0 < length s.blocks in
    let h = subst P (sym c.self.view_is) c.requires in
    there c.self.inside.blocks.items c.args.block.0 c.index.result.now (omega (arith, h, length-map c.self.inside.blocks.items (λ b. b.items))) c.index.ensures

pub overflow_cast-result : goal.overflow_cast-result
overflow_cast-result c = let h = c.self.invariant.small c.args.block.0 _ (found c) in search rules

pub returns : goal.returns
returns c =
    let P : List (List StmtId) → Type 0 = λ bs. IfSome (slice_get bs c.args.block.0) (λ ids. c.len.result ≡ length ids) in
    let Q : Option (List StmtId) → Type 0 = λ o. IfSome o (λ ids. c.len.result ≡ length ids) in
    subst P (ap (λ s. s.blocks) c.self.view_is) (subst Q (sym (found c)) (search rules))
