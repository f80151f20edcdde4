-- What the reader of items reads are an item's tokens, and an item is read from its tokens.
use Rattle.std.proofs.Common.{◌≡◌, List, [], ◌∷◌, ◌++◌, ℕ, pos, Bool, true, false, refl, ap, sym, ◌∙◌, subst, append_assoc, Option, Some, None, Result, Ok, Err}
use Rattle.rx_syntax.specs.declared.token.Token.{Token}
use Rattle.rx_syntax.specs.declared.token.Token.TheVariants.{Key, Called, Number, Oper, Mark}
use Rattle.rx_syntax.specs.declared.token.Keyword.TheVariants.{Here as KHere, Set as KSet, New as KNew, Get as KGet, Put as KPut, Forget as KForget, Census as KCensus, Print as KPrint, Throw as KThrow, Async as KAsync, At as KAt, Finish as KFinish, If as KIf, Else as KElse, Repeat as KRepeat, Try as KTry, Catch as KCatch, Dead as KDead}
use Rattle.rx_syntax.specs.declared.token.Sign.TheVariants.{OpenParen as LParen, CloseParen as RParen, OpenBrace as LBrace, CloseBrace as RBrace, OpenSquare as LSquare, CloseSquare as RSquare, Equals, Semicolon}
use Rattle.rx_rules.proofs.Common.{Expr, Num, Name, Here, Bin, Stmt, SetTo, New, Get, Put, Forget, Census, Print, Throw, Add}
use Rattle.rx_syntax.specs.Grammar.{may_hold, may_turn, spell}
use Rattle.rx_rules.specs.Code.{Op, Sub, Mul, Less, Equal}
use Rattle.rx_syntax.specs.declared.token.Op.{Op as Operation}
use Rattle.rx_syntax.specs.declared.token.Op.TheVariants as signs
use Rattle.rx_syntax.specs.Shape.{op_of}
use Rattle.rx_syntax.specs.Grammar.{sign_of}
use Rattle.rx_script.specs.Inside.Readers.{Reader, after, then, done, picked, choose}
use Rattle.rx_script.specs.Inside.Exprs.{Pair, First, Second, operand, whole, expr}
use Rattle.rx_script.specs.Inside.Items.{Opener, ByAsync, ByAtAsync, ByAt, ByFinish, ByIf, ByRepeat, ByTry, Item, Whole, Open, Close, Else, Catch, IsItem, IsSimple, IsOpener, item_words, called, number_in_range, counted, brace, semicolon, equals_then, square, end_square, ends, opens, at_body, statement, statement_or_end, else_word, dead_word, catch_word, Mode, Outermost, Inside, AfterFirst, AfterBody, item_at, MayStand}

op-of-sign : (o : Op) → op_of (sign_of o) ≡ o
op-of-sign Add = refl
op-of-sign _ = refl

pub sign-of-op : (o : Operation) → sign_of (op_of o) ≡ o
sign-of-op signs.Add = refl
sign-of-op signs.Sub = refl
sign-of-op signs.Mul = refl
sign-of-op signs.Less = refl
sign-of-op signs.Equal = refl

-- an expression is read from its tokens, whatever follows and whatever is open
pub again-expr : (e : Expr) (rest : List Token) (pairs : List Pair) → operand (spell e ++ rest) pairs ≡ whole rest pairs e
again-expr (Bin o a b) rest pairs =
    ap (λ ts. operand ts (First ∷ pairs)) (append_assoc (spell a) _ rest)
    ∙ again-expr a (Oper (sign_of o) ∷ ((spell b ++ Mark RParen ∷ []) ++ rest)) (First ∷ pairs)
    ∙ ap (λ p. operand ((spell b ++ Mark RParen ∷ []) ++ rest) (Second a p ∷ pairs)) (op-of-sign o)
    ∙ ap (λ ts. operand ts (Second a o ∷ pairs)) (append_assoc (spell b) (Mark RParen ∷ []) rest)
    ∙ again-expr b (Mark RParen ∷ rest) (Second a o ∷ pairs)
again-expr _ rest pairs = refl

-- the tokens of the open pairs
abbrev before : List Pair → List Token
before [] = []
before (First ∷ pairs) = before pairs ++ Mark LParen ∷ []
before (Second a o ∷ pairs) = before pairs ++ Mark LParen ∷ (spell a ++ Oper (sign_of o) ∷ [])

abbrev IsRead : List Token → Result (Expr × List Token) (List Token) → Type 0
IsRead ts (Err bad) = Unit {0}
IsRead ts (Ok x) = ts ≡ spell x.0 ++ x.1

mutual
  takes-operand : (ts : List Token) (pairs : List Pair) → IsRead (before pairs ++ ts) (operand ts pairs)
  takes-operand [] pairs = tt
  takes-operand (Number n ∷ ts) pairs = takes-whole ts pairs (Num n)
  takes-operand (Called n ∷ ts) pairs = takes-whole ts pairs (Name n)
  takes-operand (Key KHere ∷ ts) pairs = takes-whole ts pairs Here
  takes-operand (Mark LParen ∷ ts) pairs = let P : List Token → Type 0 = λ us. IsRead us (operand ts (First ∷ pairs)) in subst P (append_assoc (before pairs) (Mark LParen ∷ []) ts) (takes-operand ts (First ∷ pairs))
  takes-operand (t ∷ ts) pairs = tt

  takes-whole : (ts : List Token) (pairs : List Pair) (e : Expr) → IsRead (before pairs ++ (spell e ++ ts)) (whole ts pairs e)
  takes-whole ts [] e = refl
  takes-whole [] (p ∷ pairs) e = tt
  takes-whole (Oper o ∷ ts) (First ∷ pairs) e =
      let P : List Token → Type 0 = λ us. IsRead us (operand ts (Second e (op_of o) ∷ pairs)) in
      let same : (before pairs ++ Mark LParen ∷ (spell e ++ Oper (sign_of (op_of o)) ∷ [])) ++ ts ≡ before pairs ++ Mark LParen ∷ (spell e ++ Oper (sign_of (op_of o)) ∷ ts) = simp append_assoc in
      let sign : before pairs ++ Mark LParen ∷ (spell e ++ Oper (sign_of (op_of o)) ∷ ts) ≡ before pairs ++ Mark LParen ∷ (spell e ++ Oper o ∷ ts) = ap (λ p. before pairs ++ Mark LParen ∷ (spell e ++ Oper p ∷ ts)) (sign-of-op o) in
      let all : before pairs ++ Mark LParen ∷ (spell e ++ Oper o ∷ ts) ≡ before (First ∷ pairs) ++ (spell e ++ Oper o ∷ ts) = sym (append_assoc (before pairs) (Mark LParen ∷ []) (spell e ++ Oper o ∷ ts)) in
      subst P (same ∙ sign ∙ all) (takes-operand ts (Second e (op_of o) ∷ pairs))
  takes-whole (Mark RParen ∷ ts) (Second a o ∷ pairs) e =
      let P : List Token → Type 0 = λ us. IsRead us (whole ts pairs (Bin o a e)) in
      subst P (simp append_assoc) (takes-whole ts pairs (Bin o a e))
  takes-whole (t ∷ ts) (p ∷ pairs) e = tt

-- these tokens are an item's and what is left, and the item is such
abbrev pub IsGiven : (Item → Type 0) → List Token → Result (Item × List Token) (List Token) → Type 0
IsGiven P all (Ok x) = P x.0 × (all ≡ item_words x.0 ++ x.1)
IsGiven P all (Err bad) = Unit {0}

-- after these tokens the reader reads an item
pub record Gives (P : Item → Type 0) (pre : List Token) (r : Reader Item) : Type 0 where
  pub given : (ts : List Token) → IsGiven P (pre ++ ts) (r ts)

abbrev GivesPick : (Item → Type 0) → List Token → Option (Reader Item) → Type 0
GivesPick P pre None = Unit {0}
GivesPick P pre (Some r) = Gives P pre r

gives-done : (P : Item → Type 0) (pre : List Token) (x : Item) → P x → pre ≡ item_words x → Gives P pre (done x)
gives-done P pre x p e = record { given = λ ts. (p, ap (λ us. us ++ ts) e) }

gives-picked : (P : Item → Type 0) (pre : List Token) (t : Token) (ts : List Token) (o : Option (Reader Item)) → GivesPick P (pre ++ t ∷ []) o → IsGiven P (pre ++ t ∷ ts) (picked o t ts)
gives-picked P pre t ts None g = tt
gives-picked P pre t ts (Some r) g = subst (λ (us : List Token). IsGiven P us (r ts)) (append_assoc pre (t ∷ []) ts) (g.given ts)

chosen : (P : Item → Type 0) (pre : List Token) (pick : Token → Option (Reader Item)) → ((t : Token) → GivesPick P (pre ++ t ∷ []) (pick t)) → (ts : List Token) → IsGiven P (pre ++ ts) (choose pick ts)
chosen P pre pick g [] = tt
chosen P pre pick g (t ∷ ts) = gives-picked P pre t ts (pick t) (g t)

gives-choose : (P : Item → Type 0) (pre : List Token) (pick : Token → Option (Reader Item)) → ((t : Token) → GivesPick P (pre ++ t ∷ []) (pick t)) → Gives P pre (choose pick)
gives-choose P pre pick g = record { given = chosen P pre pick g }

after-called : (P : Item → Type 0) (pre : List Token) (f : ℕ → Reader Item) → ((n : ℕ) → Gives P (pre ++ Called n ∷ []) (f n)) → (ts : List Token) → IsGiven P (pre ++ ts) (then (choose called) f ts)
after-called P pre f g [] = tt
after-called P pre f g (Called n ∷ ts) = subst (λ (us : List Token). IsGiven P us (f n ts)) (append_assoc pre (Called n ∷ []) ts) ((g n).given ts)
after-called P pre f g (t ∷ ts) = tt

gives-called : (P : Item → Type 0) (pre : List Token) (f : ℕ → Reader Item) → ((n : ℕ) → Gives P (pre ++ Called n ∷ []) (f n)) → Gives P pre (then (choose called) f)
gives-called P pre f g = record { given = after-called P pre f g }

gives-range : (P : Item → Type 0) (all : List Token) (f : ℕ → Reader Item) (n : ℕ) (ts : List Token) (b : Bool) → (b ≡ true → IsGiven P all (f n ts)) → IsGiven P all (after (picked (number_in_range b n) (Number (pos n)) ts) f)
gives-range P all f n ts true g = g refl
gives-range P all f n ts false g = tt

after-counted : (P : Item → Type 0) (pre : List Token) (ok : ℕ → Bool) (f : ℕ → Reader Item) → ((n : ℕ) → ok n ≡ true → Gives P (pre ++ Number (pos n) ∷ []) (f n)) → (ts : List Token) → IsGiven P (pre ++ ts) (then (choose (counted ok)) f ts)
after-counted P pre ok f g [] = tt
after-counted P pre ok f g (Number (pos n) ∷ ts) = gives-range P (pre ++ Number (pos n) ∷ ts) f n ts (ok n) (λ e. subst (λ (us : List Token). IsGiven P us (f n ts)) (append_assoc pre (Number (pos n) ∷ []) ts) ((g n e).given ts))
after-counted P pre ok f g (t ∷ ts) = tt

gives-counted : (P : Item → Type 0) (pre : List Token) (ok : ℕ → Bool) (f : ℕ → Reader Item) → ((n : ℕ) → ok n ≡ true → Gives P (pre ++ Number (pos n) ∷ []) (f n)) → Gives P pre (then (choose (counted ok)) f)
gives-counted P pre ok f g = record { given = after-counted P pre ok f g }

gives-after : (P : Item → Type 0) (pre : List Token) (f : Expr → Reader Item) → ((e : Expr) → Gives P (pre ++ spell e) (f e)) → (ts : List Token) (o : Result (Expr × List Token) (List Token)) → IsRead ts o → IsGiven P (pre ++ ts) (after o f)
gives-after P pre f g ts (Err bad) h = tt
gives-after P pre f g ts (Ok x) h = subst (λ (us : List Token). IsGiven P us (f x.0 x.1)) (append_assoc pre (spell x.0) x.1 ∙ ap (λ us. pre ++ us) (sym h)) ((g x.0).given x.1)

gives-expr : (P : Item → Type 0) (pre : List Token) (f : Expr → Reader Item) → ((e : Expr) → Gives P (pre ++ spell e) (f e)) → Gives P pre (then expr f)
gives-expr P pre f g = record { given = λ ts. gives-after P pre f g ts (expr ts) (takes-operand ts []) }

brace-gives : (P : Item → Type 0) (pre : List Token) (r : Reader Item) → Gives P (pre ++ Mark LBrace ∷ []) r → (t : Token) → GivesPick P (pre ++ t ∷ []) (brace r t)
brace-gives P pre r g (Mark LBrace) = g
brace-gives P pre r g _ = tt

gives-opens : (P : Item → Type 0) (pre : List Token) (x : Item) → P x → pre ++ Mark LBrace ∷ [] ≡ item_words x → Gives P pre (opens x)
gives-opens P pre x p e = gives-choose P pre _ (brace-gives P pre (done x) (gives-done P _ x p e))

semicolon-gives : (P : Item → Type 0) (pre : List Token) (r : Reader Item) → Gives P (pre ++ Mark Semicolon ∷ []) r → (t : Token) → GivesPick P (pre ++ t ∷ []) (semicolon r t)
semicolon-gives P pre r g (Mark Semicolon) = g
semicolon-gives P pre r g _ = tt

gives-ends : (P : Item → Type 0) (pre : List Token) (x : Item) → P x → pre ++ Mark Semicolon ∷ [] ≡ item_words x → Gives P pre (ends x)
gives-ends P pre x p e = gives-choose P pre _ (semicolon-gives P pre (done x) (gives-done P _ x p e))

equals-gives : (P : Item → Type 0) (pre : List Token) (r : Reader Item) → Gives P (pre ++ Mark Equals ∷ []) r → (t : Token) → GivesPick P (pre ++ t ∷ []) (equals_then r t)
equals-gives P pre r g (Mark Equals) = g
equals-gives P pre r g _ = tt

gives-equals : (P : Item → Type 0) (pre : List Token) (r : Reader Item) → Gives P (pre ++ Mark Equals ∷ []) r → Gives P pre (choose (equals_then r))
gives-equals P pre r g = gives-choose P pre _ (equals-gives P pre r g)

square-gives : (P : Item → Type 0) (pre : List Token) (r : Reader Item) → Gives P (pre ++ Mark LSquare ∷ []) r → (t : Token) → GivesPick P (pre ++ t ∷ []) (square r t)
square-gives P pre r g (Mark LSquare) = g
square-gives P pre r g _ = tt

gives-square : (P : Item → Type 0) (pre : List Token) (r : Reader Item) → Gives P (pre ++ Mark LSquare ∷ []) r → Gives P pre (choose (square r))
gives-square P pre r g = gives-choose P pre _ (square-gives P pre r g)

end_square-gives : (P : Item → Type 0) (pre : List Token) (r : Reader Item) → Gives P (pre ++ Mark RSquare ∷ []) r → (t : Token) → GivesPick P (pre ++ t ∷ []) (end_square r t)
end_square-gives P pre r g (Mark RSquare) = g
end_square-gives P pre r g _ = tt

gives-end_square : (P : Item → Type 0) (pre : List Token) (r : Reader Item) → Gives P (pre ++ Mark RSquare ∷ []) r → Gives P pre (choose (end_square r))
gives-end_square P pre r g = gives-choose P pre _ (end_square-gives P pre r g)

at-gives : (P : Item → Type 0) (o : (o : Opener) → IsOpener o → P (Open o)) (e : Expr) (t : Token) → GivesPick P ((Key KAt ∷ spell e) ++ t ∷ []) (at_body e t)
at-gives P o e (Key KAsync) = gives-opens P _ (Open (ByAtAsync e)) (o (ByAtAsync e) tt) (simp append_assoc)
at-gives P o e (Mark LBrace) = gives-done P _ (Open (ByAt e)) (o (ByAt e) tt) refl
at-gives P o e _ = tt

statement-gives : (P : Item → Type 0) (s : (s : Stmt) → IsSimple s → P (Whole s)) (o : (o : Opener) → IsOpener o → P (Open o)) (t : Token) → GivesPick P (t ∷ []) (statement t)
statement-gives P s o (Key KSet) = gives-called P _ _ (λ n. gives-equals P _ _ (gives-expr P _ _ (λ e. gives-ends P _ (Whole (SetTo n e)) (s (SetTo n e) tt) refl)))
statement-gives P s o (Key KNew) = gives-called P _ _ (λ n. gives-equals P _ _ (gives-counted P _ may_hold _ (λ k h. gives-ends P _ (Whole (New n k)) (s (New n k) h) refl)))
statement-gives P s o (Key KGet) = gives-called P _ _ (λ n. gives-equals P _ _ (gives-called P _ _ (λ t. gives-square P _ _ (gives-expr P _ _ (λ e. gives-end_square P _ _ (gives-ends P _ (Whole (Get n t e)) (s (Get n t e) tt) (simp append_assoc)))))))
statement-gives P s o (Key KPut) = gives-called P _ _ (λ t. gives-square P _ _ (gives-expr P _ _ (λ i. gives-end_square P _ _ (gives-equals P _ _ (gives-expr P _ _ (λ e. gives-ends P _ (Whole (Put t i e)) (s (Put t i e) tt) (simp append_assoc)))))))
statement-gives P s o (Key KForget) = gives-called P _ _ (λ t. gives-ends P _ (Whole (Forget t)) (s (Forget t) tt) refl)
statement-gives P s o (Key KCensus) = gives-called P _ _ (λ n. gives-ends P _ (Whole (Census n)) (s (Census n) tt) refl)
statement-gives P s o (Key KPrint) = gives-expr P _ _ (λ e. gives-ends P _ (Whole (Print e)) (s (Print e) tt) refl)
statement-gives P s o (Key KThrow) = gives-expr P _ _ (λ e. gives-ends P _ (Whole (Throw e)) (s (Throw e) tt) refl)
statement-gives P s o (Key KAsync) = gives-opens P _ (Open ByAsync) (o ByAsync tt) refl
statement-gives P s o (Key KAt) = gives-expr P _ _ (λ e. gives-choose P _ _ (at-gives P o e))
statement-gives P s o (Key KFinish) = gives-opens P _ (Open ByFinish) (o ByFinish tt) refl
statement-gives P s o (Key KIf) = gives-expr P _ _ (λ e. gives-opens P _ (Open (ByIf e)) (o (ByIf e) tt) refl)
statement-gives P s o (Key KRepeat) = gives-counted P _ may_turn _ (λ n h. gives-opens P _ (Open (ByRepeat n)) (o (ByRepeat n) h) refl)
statement-gives P s o (Key KTry) = gives-opens P _ (Open ByTry) (o ByTry tt) refl
statement-gives P s o _ = tt

end-gives : (P : Item → Type 0) (s : (s : Stmt) → IsSimple s → P (Whole s)) (o : (o : Opener) → IsOpener o → P (Open o)) (c : P Close) (t : Token) → GivesPick P (t ∷ []) (statement_or_end t)
end-gives P s o c (Mark RBrace) = gives-done P _ Close c refl
end-gives P s o c t = statement-gives P s o t

else-gives : (P : Item → Type 0) (p : P Else) (t : Token) → GivesPick P (t ∷ []) (else_word t)
else-gives P p (Key KElse) = gives-opens P _ Else p refl
else-gives P p _ = tt

dead-gives : (P : Item → Type 0) (p : (d : Bool) → P (Catch d)) (t : Token) → GivesPick P (Key KCatch ∷ t ∷ []) (dead_word t)
dead-gives P p (Mark LBrace) = gives-done P _ (Catch false) (p false) refl
dead-gives P p (Key KDead) = gives-opens P _ (Catch true) (p true) refl
dead-gives P p _ = tt

catch-gives : (P : Item → Type 0) (p : (d : Bool) → P (Catch d)) (t : Token) → GivesPick P (t ∷ []) (catch_word t)
catch-gives P p (Key KCatch) = gives-choose P _ _ (dead-gives P p)
catch-gives P p _ = tt

-- an item that may stand here
abbrev pub IsHere : Mode → Item → Type 0
IsHere m x = IsItem x × MayStand m x

item-gives : (m : Mode) → Gives (IsHere m) [] (item_at m)
item-gives Outermost = gives-choose _ [] _ (statement-gives _ (λ s i. (i, tt)) (λ o i. (i, tt)))
item-gives Inside = gives-choose _ [] _ (end-gives _ (λ s i. (i, tt)) (λ o i. (i, tt)) (tt, tt))
item-gives AfterFirst = gives-choose _ [] _ (else-gives _ (tt, tt))
item-gives AfterBody = gives-choose _ [] _ (catch-gives _ (λ d. (tt, tt)))

-- what was read is an item's tokens
pub takes : (m : Mode) (ts : List Token) (x : Item × List Token) → item_at m ts ≡ Ok x → IsHere m x.0 × (ts ≡ item_words x.0 ++ x.1)
takes m ts x e = subst (λ (o : Result (Item × List Token) (List Token)). IsGiven (IsHere m) ts o) e ((item-gives m).given ts)

-- an expression and what follows it
back : {A : Type 0} (f : Expr → Reader A) (e : Expr) (tail rest : List Token) (o : Result (A × List Token) (List Token)) → f e (tail ++ rest) ≡ o → then expr f ((spell e ++ tail) ++ rest) ≡ o
back f e tail rest o h = ap (λ us. after (operand us []) f) (append_assoc (spell e) tail rest) ∙ ap (λ p. after p f) (again-expr e (tail ++ rest) []) ∙ h

back-range : {A : Type 0} (ok : ℕ → Bool) (f : ℕ → Reader A) (n : ℕ) (ts : List Token) (o : Result (A × List Token) (List Token)) → ok n ≡ true → f n ts ≡ o → then (choose (counted ok)) f (Number (pos n) ∷ ts) ≡ o
back-range ok f n ts o e h = ap (λ b. after (picked (number_in_range b n) (Number (pos n)) ts) f) e ∙ h

abbrev Again : (Token → Option (Reader Item)) → Item → Type 0
Again pick x = (rest : List Token) → choose pick (item_words x ++ rest) ≡ Ok (x, rest)

again-simple : (s : Stmt) → IsSimple s → Again statement (Whole s)
again-simple (SetTo n e) i rest = back (λ e. ends (Whole (SetTo n e))) e _ rest _ refl
again-simple (New n k) i rest = back-range may_hold (λ k. ends (Whole (New n k))) k _ _ i refl
again-simple (Get n t e) i rest = back (λ e. choose (end_square (ends (Whole (Get n t e))))) e _ rest _ refl
again-simple (Put t p e) i rest = back (λ i. choose (end_square (choose (equals_then (then expr (λ e. ends (Whole (Put t i e)))))))) p _ rest _ (back (λ e. ends (Whole (Put t p e))) e _ rest _ refl)
again-simple (Forget t) i rest = refl
again-simple (Census n) i rest = refl
again-simple (Print e) i rest = back (λ e. ends (Whole (Print e))) e _ rest _ refl
again-simple (Throw e) i rest = back (λ e. ends (Whole (Throw e))) e _ rest _ refl
again-simple _ i rest = absurd i

again-opener : (o : Opener) → IsOpener o → Again statement (Open o)
again-opener (ByAtAsync e) i rest = back (λ e. choose (at_body e)) e _ rest _ refl
again-opener (ByAt e) i rest = back (λ e. choose (at_body e)) e _ rest _ refl
again-opener (ByIf e) i rest = back (λ e. opens (Open (ByIf e))) e _ rest _ refl
again-opener (ByRepeat n) i rest = back-range may_turn (λ n. opens (Open (ByRepeat n))) n _ _ i refl
again-opener _ i rest = refl

again-inside-simple : (s : Stmt) → IsSimple s → Again statement_or_end (Whole s)
again-inside-simple (SetTo n e) i rest = again-simple (SetTo n e) i rest
again-inside-simple (New n k) i rest = again-simple (New n k) i rest
again-inside-simple (Get n t e) i rest = again-simple (Get n t e) i rest
again-inside-simple (Put t p e) i rest = again-simple (Put t p e) i rest
again-inside-simple (Forget t) i rest = refl
again-inside-simple (Census n) i rest = refl
again-inside-simple (Print e) i rest = again-simple (Print e) i rest
again-inside-simple (Throw e) i rest = again-simple (Throw e) i rest
again-inside-simple _ i rest = absurd i

again-inside-opener : (o : Opener) → IsOpener o → Again statement_or_end (Open o)
again-inside-opener (ByAtAsync e) i rest = again-opener (ByAtAsync e) i rest
again-inside-opener (ByAt e) i rest = again-opener (ByAt e) i rest
again-inside-opener (ByIf e) i rest = again-opener (ByIf e) i rest
again-inside-opener (ByRepeat n) i rest = again-opener (ByRepeat n) i rest
again-inside-opener _ i rest = refl

-- an item is read from its tokens, whatever follows, where it may stand
pub again : (m : Mode) (x : Item) → IsHere m x → (rest : List Token) → item_at m (item_words x ++ rest) ≡ Ok (x, rest)
again Outermost (Whole s) h rest = again-simple s h.0 rest
again Outermost (Open o) h rest = again-opener o h.0 rest
again Inside (Whole s) h rest = again-inside-simple s h.0 rest
again Inside (Open o) h rest = again-inside-opener o h.0 rest
again Inside Close h rest = refl
again AfterFirst Else h rest = refl
again AfterBody (Catch true) h rest = refl
again AfterBody (Catch false) h rest = refl
again _ _ h rest = absurd h.1
