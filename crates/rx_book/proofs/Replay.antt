-- One call more.
use Rattle.std.proofs.Common.{List, [], ◌∷◌, ◌++◌, ap, subst}
use Rattle.rx_book.specs.declared.views.Stamped.{Stamped}
use Rattle.rx_book.specs.History.{items_of, stamp_all}
use Rattle.rx_book.specs.Replay.{Call, Follows}

module _ {I P R : Type 0} (step : List I → P → R → List I → Type 0) where
  pub follows_more : (before h : List (Stamped I)) (calls : List (Call I P R)) (c : Call I P R)
      → Follows step before calls h → step (items_of h) c.op c.reply c.added → Follows step before (calls ++ c ∷ []) (h ++ stamp_all c.by c.added)
  follows_more before h [] c made did = (subst (λ (l : List (Stamped I)). step (items_of l) c.op c.reply c.added) made did, ap (λ (l : List (Stamped I)). l ++ stamp_all c.by c.added) made)
  follows_more before h (d ∷ ds) c made did = (made.0, follows_more (before ++ stamp_all d.by d.added) h ds c made.1 did)
