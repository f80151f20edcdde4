-- The chains that the links stand for.
use Rattle.std.proofs.Common.{◌≡◌, ℕ, ◌<◌, List, [], ◌∷◌, ◌++◌, length, Some, slice_get, refl, ap, ◌∙◌, arith, inl, inr}
use Rattle.rx_base.proofs.Elements.{get-more, get-last}
use Rattle.rx_span.specs.declared.chains.Kept.{Kept}
use Rattle.rx_span.specs.Inside.Kept.{IsChainOf, IsKept, Linked}
use Rattle.rx_span.proofs.Picks.{Chain}
use Rattle.rx_span.proofs.Rows.{kept-more}

-- a statement, and what follows it in its chain
pub record Found (cs : List Chain) (xs : List (List ℕ)) (links : List Kept) (h : ℕ) (c : Chain) : Type 0 where
  pub path : List ℕ
  pub rest : Chain
  pub link : Kept
  pub whole : c ≡ path ∷ rest
  pub path_at : slice_get xs h ≡ Some path
  pub link_at : slice_get links h ≡ Some link
  pub kept : IsKept cs link rest

pub found : (cs : List Chain) (xs : List (List ℕ)) (links : List Kept) → Linked cs xs links → (h : ℕ) (c : Chain) → IsChainOf cs h c → Found cs xs links h c
found [] xs links k h c s = absurd s
found (d ∷ ds) xs links k h c (inl s) =
    record {
      path = k.0;
      rest = k.1;
      link = k.2;
      whole = s.1 ∙ k.3;
      path_at = ap (slice_get xs) s.0 ∙ k.4;
      link_at = ap (slice_get links) s.0 ∙ k.5;
      kept = kept-more d ds k.2 k.1 k.6;
    }
found (d ∷ ds) xs links k h c (inr s) =
    let r = found ds xs links k.7 h c s in
    record { path = r.path; rest = r.rest; link = r.link; whole = r.whole; path_at = r.path_at; link_at = r.link_at; kept = kept-more d ds r.link r.rest r.kept }

-- the first of a kept chain that is not empty
pub first-found : (cs : List Chain) (xs : List (List ℕ)) (links : List Kept) → Linked cs xs links → (k : Kept) (c : Chain) → 0 < k.length → IsKept cs k c → Found cs xs links k.head c
first-found cs xs links h k c l i = found cs xs links h k.head c (i.at (let e = i.len in omega arith))

pub linked-more : (cs : List Chain) (xs : List (List ℕ)) (links : List Kept) (l : Kept) → Linked cs xs links → Linked cs xs (links ++ l ∷ [])
linked-more [] xs links l h = tt
linked-more (c ∷ cs) xs links l h =
    (h.0, h.1, h.2, h.3, h.4, get-more links (l ∷ []) (length cs) h.2 h.5, h.6, linked-more cs xs links l h.7)

pub linked-next : (cs : List Chain) (xs : List (List ℕ)) (links : List Kept) (x : List ℕ) (rest : Chain) (l : Kept) → Linked cs xs links → length cs ≡ length links → slice_get xs (length cs) ≡ Some x → IsKept cs l rest → Linked ((x ∷ rest) ∷ cs) xs (links ++ l ∷ [])
linked-next cs xs links x rest l h e g k =
    (x, rest, l, refl, g, get-last links l (length cs) e, k, linked-more cs xs links l h)
