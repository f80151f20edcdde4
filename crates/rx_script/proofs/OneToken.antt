-- One token more of an expression.
use Rattle.std.proofs.Common.{◌≡◌, ℤ, List, [], ◌∷◌, ◌++◌, length, refl, ap, sym, ◌∙◌, subst, Result}
use Rattle.std.proofs.lemmas.List.{same_from_push}
use Rattle.rx_base.proofs.Elements.{push-not-nil, get-last}
use Rattle.rx_rules.proofs.Common.{Expr, Num, Name, Here, Bin}
use Rattle.rx_syntax.specs.Shape.{ExprStands, op_of}
use Rattle.rx_script.specs.Inside.Exprs.{Pair, First, Second, whole}
use Rattle.rx_script.specs.Inside.Pieces.{Grows}
use Rattle.rx_script.specs.Inside.Turns.{PairStands, PairsStand, ExprReads}
use Rattle.rx_syntax.specs.declared.nodes.ExprId.{ExprId}
use Rattle.rx_syntax.specs.declared.nodes.NameId.{NameId}
use Rattle.rx_syntax.specs.declared.token.Op.{Op as Sign}
use Rattle.rx_syntax.specs.declared.nodes.Expr.{Expr as Part}
use Rattle.rx_syntax.specs.declared.nodes.Expr.TheVariants as parts
use Rattle.rx_syntax.specs.declared.token.Token.{Token}
use Rattle.rx_syntax.specs.declared.token.Token.TheVariants.{Key, Called, Number, Mark}
use Rattle.rx_syntax.specs.declared.token.Keyword.TheVariants.{Here as KHere}
use Rattle.rx_syntax.specs.declared.token.Sign.TheVariants.{CloseParen as RParen}
use Rattle.rx_script.specs.declared.exprs.OpenPair.{OpenPair}
use Rattle.rx_script.specs.declared.exprs.OpenPair.TheVariants as pairs
use Rattle.rx_script.specs.declared.exprs.Turn.TheVariants as turns
use Rattle.rx_syntax.proofs.Within.{stands-within}
use Rattle.rx_script.proofs.Growing.{expr-grows}

pair-grows : (es fs : List Part) → Grows es fs → (p : OpenPair) (q : Pair) → PairStands es p q → PairStands fs p q
pair-grows es fs g p First h = h
pair-grows es fs g p (Second a o) h = (h.0, h.1, h.2, h.3, expr-grows es fs g h.0 a h.4)

pairs-grow : (es fs : List Part) → Grows es fs → (ps : List OpenPair) (qs : List Pair) → PairsStand es ps qs → PairsStand fs ps qs
pairs-grow es fs g ps [] h = h
pairs-grow es fs g ps (q ∷ qs) h = (h.0, h.1, h.2, pair-grows es fs g h.1 q h.3, pairs-grow es fs g h.0 qs h.4)

-- the number of a part that is added
abbrev pub next_id : List Part → ExprId
next_id es = record { 0 = length es }

one-more : (es : List Part) (x : Part) → Grows es (es ++ x ∷ [])
one-more es x = (x ∷ [], refl)

-- an operand that is one token
pub reads-number : (es : List Part) (ps : List OpenPair) (z : ℤ) (ts : List Token) (o : Result (Expr × List Token) (List Token)) → ExprReads es ps turns.Operand (Number z ∷ ts) o → ExprReads (es ++ parts.Num z ∷ []) ps (turns.After (next_id es)) ts o
reads-number es ps z ts o h = (h.0, Num z, pairs-grow es _ (one-more es _) ps h.0 h.1, get-last es _ (length es) refl, h.2)

pub reads-name : (es : List Part) (ps : List OpenPair) (name : NameId) (ts : List Token) (o : Result (Expr × List Token) (List Token)) → ExprReads es ps turns.Operand (Called name.0 ∷ ts) o → ExprReads (es ++ parts.Name name ∷ []) ps (turns.After (next_id es)) ts o
reads-name es ps name ts o h = (h.0, Name name.0, pairs-grow es _ (one-more es _) ps h.0 h.1, (name, get-last es _ (length es) refl, refl), h.2)

pub reads-here : (es : List Part) (ps : List OpenPair) (ts : List Token) (o : Result (Expr × List Token) (List Token)) → ExprReads es ps turns.Operand (Key KHere ∷ ts) o → ExprReads (es ++ parts.Here ∷ []) ps (turns.After (next_id es)) ts o
reads-here es ps ts o h = (h.0, Here, pairs-grow es _ (one-more es _) ps h.0 h.1, get-last es _ (length es) refl, h.2)

second-first : (left : ExprId) (sign : Sign) → pairs.Second left sign ≡ pairs.First → ⊥
second-first left sign e = cc

second-left : (left other : ExprId) (sign also : Sign) → pairs.Second left sign ≡ pairs.Second other also → left ≡ other
second-left left other sign also e = cc

second-sign : (left other : ExprId) (sign also : Sign) → pairs.Second left sign ≡ pairs.Second other also → sign ≡ also
second-sign left other sign also e = cc

-- the pair that ends
closes-by : (es : List Part) (ps : List OpenPair) (left : ExprId) (sign : Sign) (id : ExprId) (ts : List Token) (o : Result (Expr × List Token) (List Token)) (qs : List Pair) (e : Expr) → PairsStand es (ps ++ pairs.Second left sign ∷ []) qs → ExprStands es id e → whole (Mark RParen ∷ ts) qs e ≡ o → ExprReads (es ++ parts.Bin sign left id ∷ []) ps (turns.After (next_id es)) ts o
closes-by es ps left sign id ts o [] e h x w = absurd (push-not-nil ps _ h)
closes-by es ps left sign id ts o (First ∷ qs) e h x w =
    let s = same_from_push ps h.0 _ h.1 h.2 in
    absurd (second-first left sign (s.1 ∙ h.3))
closes-by es ps left sign id ts o (Second a p ∷ qs) e h x w =
    let s = same_from_push ps h.0 _ h.1 h.2 in
    let pair : pairs.Second left sign ≡ pairs.Second h.3.0 h.3.1 = s.1 ∙ h.3.2 in
    let same_left : left ≡ h.3.0 = second-left left h.3.0 sign h.3.1 pair in
    let same_sign : sign ≡ h.3.1 = second-sign left h.3.0 sign h.3.1 pair in
    let op : p ≡ op_of sign = h.3.3 ∙ ap op_of (sym same_sign) in
    let a_stands : ExprStands es left a = subst (λ (i : ExprId). ExprStands es i a) (sym same_left) h.3.4 in (
      qs,
      Bin p a e,
      pairs-grow es _ (one-more es _) ps qs (subst (λ (us : List OpenPair). PairsStand es us qs) (sym s.0) h.4),
      (
        sign,
        left,
        id,
        get-last es _ (length es) refl,
        op,
        stands-within es left a a_stands,
        stands-within es id e x,
        expr-grows es _ (one-more es _) left a a_stands,
        expr-grows es _ (one-more es _) id e x,
      ),
      w,
    )

pub reads-close : (es : List Part) (ps : List OpenPair) (left : ExprId) (sign : Sign) (id : ExprId) (ts : List Token) (o : Result (Expr × List Token) (List Token)) → ExprReads es (ps ++ pairs.Second left sign ∷ []) (turns.After id) (Mark RParen ∷ ts) o → ExprReads (es ++ parts.Bin sign left id ∷ []) ps (turns.After (next_id es)) ts o
reads-close es ps left sign id ts o h = closes-by es ps left sign id ts o h.0 h.1 h.2 h.3 h.4
