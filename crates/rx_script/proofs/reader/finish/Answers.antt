use Rattle.std.proofs.Common.{◌≡◌, List, [], ◌∷◌, ◌++◌, map, refl, sym, ap, ◌∙◌, subst, arith}
use Rattle.std.proofs.lemmas.List.{map-append, length-map}
use Rattle.rx_syntax.specs.Shape.{Shape, IsSmall, Stands}
use Rattle.rx_syntax.specs.Arenas.{shape_from}
use Rattle.rx_script.specs.Inside.Arena.{blocks_of, shape_of}
use Rattle.rx_syntax.specs.declared.nodes.StmtId.{StmtId}
use Rattle.rx_script.proofs.Arena.{small-push}
use Rattle.rx_script.proofs.HasRead.{stands-top}
use Rattle.rx_script.proofs.reader.finish.Goals as goal

pub new-requires : goal.new-requires
new-requires c =
    let r = c.args.reader in
    let s = c.requires.stands in
    let e : map (λ b. b.items) c.push.new.self.items ≡ blocks_of r ++ r.pending.items ∷ [] = ap (map (λ b. b.items)) c.in_ok-push.ensures.items ∙ map-append _ _ _ in
    record {
      small = subst (λ (bs : List (List StmtId)). IsSmall bs) (sym e) (small-push (blocks_of r) r.pending.items c.requires.small (omega (arith, c.requires.pending, r.pending.ok.0)));
      tree = s.0;
      stands = stands-top (shape_of r) (shape_from r.stmts r.exprs c.push.new.self c.args.names (record { 0 = c.len.result })) r.pending.items s.0 refl refl e (simp length-map (c.len.ensures ∙ r.blocks.ok.0)) s.1;
      fits = s.2;
      names = s.3;
      spelled = s.4;
    }

pub returns-clause-ok : goal.returns-clause-ok
returns-clause-ok c t h =
    let r = c.args.reader in
    let e : map (λ b. b.items) c.push.new.self.items ≡ blocks_of r ++ r.pending.items ∷ [] = ap (map (λ b. b.items)) c.in_ok-push.ensures.items ∙ map-append _ _ _ in
    let stands = stands-top (shape_of r) (shape_from r.stmts r.exprs c.push.new.self c.args.names (record { 0 = c.len.result })) r.pending.items t refl refl e (simp length-map (c.len.ensures ∙ r.blocks.ok.0)) h in
    subst (λ (s : Shape). Stands s t) (sym c.new.ensures) stands
