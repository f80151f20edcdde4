-- The pieces of bytes with one more at the end.
use Rattle.std.proofs.Common.{◌≢◌, ◌≡◌, ℕ, ◌==◌, Bool, true, false, cond, List, [], ◌∷◌, ◌++◌, refl, ap, sym, ◌∙◌, append_assoc}
use Rattle.std.proofs.lemmas.Bool.{eq-eqb, ne_eqb}
use Rattle.rx_fields.specs.Words.{grown, pieces}

-- one byte more at the end of the last piece
abbrev ended : ℕ → ℕ → List (List ℕ) → List (List ℕ)
ended c b [] = []
ended c b (w ∷ []) = cond (b == c) (w ∷ [] ∷ []) ((w ++ b ∷ []) ∷ [])
ended c b (w ∷ v ∷ ws) = w ∷ ended c b (v ∷ ws)

-- there is a piece
abbrev HasPiece : List (List ℕ) → Type 0
HasPiece ws = (w : List ℕ) × (vs : List (List ℕ)) × (ws ≡ w ∷ vs)

grown-piece : (b : ℕ) (ws : List (List ℕ)) → HasPiece ws → HasPiece (grown b ws)
grown-piece b ws h = (b ∷ h.0, h.1, ap (grown b) h.2)

cut-piece : (t : Bool) (b : ℕ) (ws : List (List ℕ)) → HasPiece ws → HasPiece (cond t ([] ∷ ws) (grown b ws))
cut-piece true b ws h = ([], ws, refl)
cut-piece false b ws h = grown-piece b ws h

has-piece : (c : ℕ) (bs : List ℕ) → HasPiece (pieces c bs)
has-piece c [] = ([], [], refl)
has-piece c (b ∷ bs) = cut-piece (b == c) b (pieces c bs) (has-piece c bs)

no-nil : (w : List ℕ) (vs : List (List ℕ)) → [] ≡ w ∷ vs → ⊥
no-nil w vs e = cc

ended-later : (c b : ℕ) (w : List ℕ) (ws : List (List ℕ)) → HasPiece ws → ended c b (w ∷ ws) ≡ w ∷ ended c b ws
ended-later c b w [] h = absurd (no-nil h.0 h.1 h.2)
ended-later c b w (v ∷ ws) h = refl

grown-last : (t : Bool) (a b : ℕ) (w : List ℕ) → grown a (cond t (w ∷ [] ∷ []) ((w ++ b ∷ []) ∷ [])) ≡ cond t ((a ∷ w) ∷ [] ∷ []) ((a ∷ (w ++ b ∷ [])) ∷ [])
grown-last true a b w = refl
grown-last false a b w = refl

ended-grown : (c b a : ℕ) (ws : List (List ℕ)) → grown a (ended c b ws) ≡ ended c b (grown a ws)
ended-grown c b a [] = refl
ended-grown c b a (w ∷ []) = grown-last (b == c) a b w
ended-grown c b a (w ∷ v ∷ ws) = refl

one-cut : (t : Bool) (b : ℕ) → cond t ([] ∷ [] ∷ []) (grown b ([] ∷ [])) ≡ cond t ([] ∷ [] ∷ []) ((b ∷ []) ∷ [])
one-cut true b = refl
one-cut false b = refl

ended-cut : (t : Bool) (c b a : ℕ) (new old : List (List ℕ)) → HasPiece old → new ≡ ended c b old → cond t ([] ∷ new) (grown a new) ≡ ended c b (cond t ([] ∷ old) (grown a old))
ended-cut true c b a new old h e = ap (λ ws. [] ∷ ws) e ∙ sym (ended-later c b [] old h)
ended-cut false c b a new old h e = ap (grown a) e ∙ ended-grown c b a old

pieces-ended : (c b : ℕ) (bs : List ℕ) → pieces c (bs ++ b ∷ []) ≡ ended c b (pieces c bs)
pieces-ended c b [] = one-cut (b == c) b
pieces-ended c b (a ∷ bs) = ended-cut (a == c) c b a (pieces c (bs ++ b ∷ [])) (pieces c bs) (has-piece c bs) (pieces-ended c b bs)

some-piece : (ws : List (List ℕ)) (last : List ℕ) → HasPiece (ws ++ last ∷ [])
some-piece [] last = (last, [], refl)
some-piece (w ∷ ws) last = (w, ws ++ last ∷ [], refl)

-- the last piece is ended, or has one byte more
ended-last : (c b : ℕ) (ls : List (List ℕ)) (last : List ℕ) → ended c b (ls ++ last ∷ []) ≡ ls ++ cond (b == c) (last ∷ [] ∷ []) ((last ++ b ∷ []) ∷ [])
ended-last c b [] last = refl
ended-last c b (l ∷ ls) last = ended-later c b l (ls ++ last ∷ []) (some-piece ls last) ∙ ap (λ ws. l ∷ ws) (ended-last c b ls last)

pub line-ends : (c b : ℕ) (bs : List ℕ) (ls : List (List ℕ)) (last : List ℕ) → b ≡ c → pieces c bs ≡ ls ++ last ∷ [] → pieces c (bs ++ b ∷ []) ≡ (ls ++ last ∷ []) ++ [] ∷ []
line-ends c b bs ls last same cut =
    pieces-ended c b bs ∙ ap (ended c b) cut ∙ ended-last c b ls last
    ∙ ap (λ (t : Bool). ls ++ cond t (last ∷ [] ∷ []) ((last ++ b ∷ []) ∷ [])) (eq-eqb b c same) ∙ sym (append_assoc ls (last ∷ []) ([] ∷ []))

pub line-grows : (c b : ℕ) (bs : List ℕ) (ls : List (List ℕ)) (last : List ℕ) → b ≢ c → pieces c bs ≡ ls ++ last ∷ [] → pieces c (bs ++ b ∷ []) ≡ ls ++ (last ++ b ∷ []) ∷ []
line-grows c b bs ls last apart cut =
    pieces-ended c b bs ∙ ap (ended c b) cut ∙ ended-last c b ls last
    ∙ ap (λ (t : Bool). ls ++ cond t (last ∷ [] ∷ []) ((last ++ b ∷ []) ∷ [])) (ne_eqb b c apart)
