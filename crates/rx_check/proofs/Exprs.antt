-- What a part of an expression stands for.
use Rattle.std.proofs.Common.{◌≡◌, ◌<◌, List, Some, refl, ap, sym, ◌∙◌, subst, slice_get}
use Rattle.std.proofs.lemmas.Option.{same_Some}
use Rattle.rx_rules.proofs.Common.{Expr, Num, Name, Here, Bin}
use Rattle.rx_syntax.specs.declared.nodes.ExprId.{ExprId}
use Rattle.rx_syntax.specs.declared.nodes.Expr.{Expr as Part}
use Rattle.rx_syntax.specs.declared.nodes.Expr.TheVariants.{Num as NumPart, Name as NamePart, Here as HerePart, Bin as BinPart}
use Rattle.rx_syntax.specs.Shape.{ExprStands, op_of}

-- what a part stands for, by the part
abbrev pub PartIs : List Part → ExprId → Part → Expr → Type 0
PartIs es i (NumPart z) e = e ≡ Num z
PartIs es i (NamePart name) e = e ≡ Name name.0
PartIs es i HerePart e = e ≡ Here
PartIs es i (BinPart sign left right) e =
    (l : Expr) × (r : Expr) × (e ≡ Bin (op_of sign) l r) × (left.0 < i.0) × (right.0 < i.0) × ExprStands es left l × ExprStands es right r

pub part-is : (es : List Part) (i : ExprId) (p : Part) (e : Expr) → slice_get es i.0 ≡ Some p → ExprStands es i e → PartIs es i p e
part-is es i p (Num z) g h =
    let q : NumPart z ≡ p = same_Some _ _ (sym h ∙ g) in let P : Part → Type 0 = λ p. PartIs es i p (Num z) in subst P q refl
part-is es i p (Name n) g h =
    let q : NamePart h.0 ≡ p = same_Some _ _ (sym h.1 ∙ g) in
    let P : Part → Type 0 = λ p. PartIs es i p (Name n) in subst P q (ap (λ k. Name k) h.2)
part-is es i p Here g h =
    let q : HerePart ≡ p = same_Some _ _ (sym h ∙ g) in let P : Part → Type 0 = λ p. PartIs es i p Here in subst P q refl
part-is es i p (Bin op l r) g h =
    let q : BinPart h.0 h.1 h.2 ≡ p = same_Some _ _ (sym h.3 ∙ g) in
    let P : Part → Type 0 = λ p. PartIs es i p (Bin op l r) in
    subst P q (l, r, ap (λ o. Bin o l r) h.4, h.5, h.6, h.7, h.8)
