-- The names of a script's tokens are those that its tree mentions, and these are the numbers below their count.
use Rattle.std.proofs.Common.{◌≡◌, ℕ, ◌+◌, ◌<◌, ◌≤◌, ◌==◌, ◌≢◌, Bool, true, false, List, [], ◌∷◌, ◌++◌, length, refl, sym, subst, arith, inl, inr}
use Rattle.std.proofs.lemmas.Bool.{eqb-true, eqb-false}
use Rattle.rx_rules.proofs.Common.{Expr, Num, Name, Here, Bin, Stmt, SetTo, New, Get, Put, Forget, Census, Print, Throw, Async, AtAsync, At, Finish, If, Repeat, Try, Block, Nothing, Then}
use Rattle.rx_syntax.specs.declared.token.Token.{Token}
use Rattle.rx_syntax.specs.declared.token.Token.TheVariants.{Key, Called, Number, Oper, Mark, Bad}
use Rattle.rx_syntax.specs.declared.token.Keyword.TheVariants.{Async as KAsync, Else as KElse}
use Rattle.rx_syntax.specs.declared.token.Sign.TheVariants.{OpenBrace as LBrace, CloseBrace as RBrace, CloseParen as RParen, CloseSquare as RSquare, Equals, Semicolon}
use Rattle.rx_syntax.specs.Grammar.{spell, spelling, spellings, catch_words, sign_of}
use Rattle.rx_syntax.specs.Tokens.{NamesInOrder}
use Rattle.rx_syntax.specs.Named.{Uses, StmtMentions, Mentions, NamesAreNumbered}

-- each name of the tokens is so
abbrev EachName : (ℕ → Type 0) → List Token → Type 0
EachName P [] = Unit {0}
EachName P (Called n ∷ ts) = P n × EachName P ts
EachName P (Key k ∷ ts) = EachName P ts
EachName P (Number n ∷ ts) = EachName P ts
EachName P (Oper o ∷ ts) = EachName P ts
EachName P (Mark s ∷ ts) = EachName P ts
EachName P (Bad ∷ ts) = EachName P ts

each-left : (P : ℕ → Type 0) (ts us : List Token) → EachName P (ts ++ us) → EachName P ts
each-left P [] us h = tt
each-left P (Called n ∷ ts) us h = (h.0, each-left P ts us h.1)
each-left P (Key k ∷ ts) us h = each-left P ts us h
each-left P (Number n ∷ ts) us h = each-left P ts us h
each-left P (Oper o ∷ ts) us h = each-left P ts us h
each-left P (Mark s ∷ ts) us h = each-left P ts us h
each-left P (Bad ∷ ts) us h = each-left P ts us h

each-right : (P : ℕ → Type 0) (ts us : List Token) → EachName P (ts ++ us) → EachName P us
each-right P [] us h = h
each-right P (Called n ∷ ts) us h = each-right P ts us h.1
each-right P (Key k ∷ ts) us h = each-right P ts us h
each-right P (Number n ∷ ts) us h = each-right P ts us h
each-right P (Oper o ∷ ts) us h = each-right P ts us h
each-right P (Mark s ∷ ts) us h = each-right P ts us h
each-right P (Bad ∷ ts) us h = each-right P ts us h

each-join : (P : ℕ → Type 0) (ts us : List Token) → EachName P ts → EachName P us → EachName P (ts ++ us)
each-join P [] us h k = k
each-join P (Called n ∷ ts) us h k = (h.0, each-join P ts us h.1 k)
each-join P (Key c ∷ ts) us h k = each-join P ts us h k
each-join P (Number n ∷ ts) us h k = each-join P ts us h k
each-join P (Oper o ∷ ts) us h k = each-join P ts us h k
each-join P (Mark s ∷ ts) us h k = each-join P ts us h k
each-join P (Bad ∷ ts) us h k = each-join P ts us h k

-- What holds of each name of the tokens holds of each name of the tree.

pick-expr : (P : ℕ → Type 0) (e : Expr) (n : ℕ) → EachName P (spell e) → Uses n e → P n
pick-expr P (Num z) n h u = absurd u
pick-expr P (Name m) n h u = subst P (sym u) h.0
pick-expr P Here n h u = absurd u
pick-expr P (Bin op a b) n h (inl u) = pick-expr P a n (each-left P (spell a) (Oper (sign_of op) ∷ (spell b ++ Mark RParen ∷ [])) h) u
pick-expr P (Bin op a b) n h (inr u) =
    pick-expr P b n (each-left P (spell b) (Mark RParen ∷ []) (each-right P (spell a) (Oper (sign_of op) ∷ (spell b ++ Mark RParen ∷ [])) h)) u

catch-out : (P : ℕ → Type 0) (d : Bool) (ts : List Token) → EachName P (catch_words d ++ ts) → EachName P ts
catch-out P true ts h = h
catch-out P false ts h = h

catch-in : (P : ℕ → Type 0) (d : Bool) (ts : List Token) → EachName P ts → EachName P (catch_words d ++ ts)
catch-in P true ts h = h
catch-in P false ts h = h

mutual
  pick-stmt : (P : ℕ → Type 0) (t : Stmt) (n : ℕ) → EachName P (spelling t) → StmtMentions n t → P n
  pick-stmt P (SetTo m e) n h (inl u) = subst P (sym u) h.0
  pick-stmt P (SetTo m e) n h (inr u) = pick-expr P e n (each-left P (spell e) (Mark Semicolon ∷ []) h.1) u
  pick-stmt P (New m k) n h u = subst P (sym u) h.0
  pick-stmt P (Get m t e) n h (inl u) = subst P (sym u) h.0
  pick-stmt P (Get m t e) n h (inr (inl u)) = subst P (sym u) h.1.0
  pick-stmt P (Get m t e) n h (inr (inr u)) = pick-expr P e n (each-left P (spell e) (Mark RSquare ∷ Mark Semicolon ∷ []) h.1.1) u
  pick-stmt P (Put t i e) n h (inl u) = subst P (sym u) h.0
  pick-stmt P (Put t i e) n h (inr (inl u)) = pick-expr P i n (each-left P (spell i) (Mark RSquare ∷ Mark Equals ∷ (spell e ++ Mark Semicolon ∷ [])) h.1) u
  pick-stmt P (Put t i e) n h (inr (inr u)) =
      pick-expr P e n (each-left P (spell e) (Mark Semicolon ∷ []) (each-right P (spell i) (Mark RSquare ∷ Mark Equals ∷ (spell e ++ Mark Semicolon ∷ [])) h.1)) u
  pick-stmt P (Forget t) n h u = subst P (sym u) h.0
  pick-stmt P (Census m) n h u = subst P (sym u) h.0
  pick-stmt P (Print e) n h u = pick-expr P e n (each-left P (spell e) (Mark Semicolon ∷ []) h) u
  pick-stmt P (Throw e) n h u = pick-expr P e n (each-left P (spell e) (Mark Semicolon ∷ []) h) u
  pick-stmt P (Async b) n h u = pick-block P b n (each-left P (spellings b) (Mark RBrace ∷ []) h) u
  pick-stmt P (AtAsync e b) n h (inl u) =
      pick-expr P e n (each-left P (spell e) (Key KAsync ∷ Mark LBrace ∷ []) (each-left P (spell e ++ Key KAsync ∷ Mark LBrace ∷ []) (spellings b ++ Mark RBrace ∷ []) h)) u
  pick-stmt P (AtAsync e b) n h (inr u) =
      pick-block P b n (each-left P (spellings b) (Mark RBrace ∷ []) (each-right P (spell e ++ Key KAsync ∷ Mark LBrace ∷ []) (spellings b ++ Mark RBrace ∷ []) h)) u
  pick-stmt P (At e b) n h (inl u) =
      pick-expr P e n (each-left P (spell e) (Mark LBrace ∷ []) (each-left P (spell e ++ Mark LBrace ∷ []) (spellings b ++ Mark RBrace ∷ []) h)) u
  pick-stmt P (At e b) n h (inr u) =
      pick-block P b n (each-left P (spellings b) (Mark RBrace ∷ []) (each-right P (spell e ++ Mark LBrace ∷ []) (spellings b ++ Mark RBrace ∷ []) h)) u
  pick-stmt P (Finish b) n h u = pick-block P b n (each-left P (spellings b) (Mark RBrace ∷ []) h) u
  pick-stmt P (If e a b) n h (inl u) =
      pick-expr P e n (each-left P (spell e) (Mark LBrace ∷ []) (each-left P (spell e ++ Mark LBrace ∷ []) (spellings a ++ Mark RBrace ∷ Key KElse ∷ Mark LBrace ∷ (spellings b ++ Mark RBrace ∷ [])) h)) u
  pick-stmt P (If e a b) n h (inr (inl u)) =
      pick-block P a n (each-left P (spellings a) (Mark RBrace ∷ Key KElse ∷ Mark LBrace ∷ (spellings b ++ Mark RBrace ∷ [])) (each-right P (spell e ++ Mark LBrace ∷ []) (spellings a ++ Mark RBrace ∷ Key KElse ∷ Mark LBrace ∷ (spellings b ++ Mark RBrace ∷ [])) h)) u
  pick-stmt P (If e a b) n h (inr (inr u)) =
      pick-block P b n (each-left P (spellings b) (Mark RBrace ∷ []) (each-right P (spellings a) (Mark RBrace ∷ Key KElse ∷ Mark LBrace ∷ (spellings b ++ Mark RBrace ∷ [])) (each-right P (spell e ++ Mark LBrace ∷ []) (spellings a ++ Mark RBrace ∷ Key KElse ∷ Mark LBrace ∷ (spellings b ++ Mark RBrace ∷ [])) h))) u
  pick-stmt P (Repeat k b) n h u = pick-block P b n (each-left P (spellings b) (Mark RBrace ∷ []) h) u
  pick-stmt P (Try a d b) n h (inl u) = pick-block P a n (each-left P (spellings a) (Mark RBrace ∷ (catch_words d ++ (spellings b ++ Mark RBrace ∷ []))) h) u
  pick-stmt P (Try a d b) n h (inr u) =
      pick-block P b n (each-left P (spellings b) (Mark RBrace ∷ []) (catch-out P d (spellings b ++ Mark RBrace ∷ []) (each-right P (spellings a) (Mark RBrace ∷ (catch_words d ++ (spellings b ++ Mark RBrace ∷ []))) h))) u

  pick-block : (P : ℕ → Type 0) (b : Block) (n : ℕ) → EachName P (spellings b) → Mentions n b → P n
  pick-block P Nothing n h u = absurd u
  pick-block P (Then t ts) n h (inl u) = pick-stmt P t n (each-left P (spelling t) (spellings ts) h) u
  pick-block P (Then t ts) n h (inr u) = pick-block P ts n (each-right P (spelling t) (spellings ts) h) u

-- And what holds of each name of the tree holds of each name of the tokens.

fill-expr : (P : ℕ → Type 0) (e : Expr) → ((n : ℕ) → Uses n e → P n) → EachName P (spell e)
fill-expr P (Num z) h = tt
fill-expr P (Name m) h = (h m refl, tt)
fill-expr P Here h = tt
fill-expr P (Bin op a b) h =
    each-join P (spell a) (Oper (sign_of op) ∷ (spell b ++ Mark RParen ∷ [])) (fill-expr P a (λ n u. h n (inl u))) (each-join P (spell b) (Mark RParen ∷ []) (fill-expr P b (λ n u. h n (inr u))) tt)

mutual
  fill-stmt : (P : ℕ → Type 0) (t : Stmt) → ((n : ℕ) → StmtMentions n t → P n) → EachName P (spelling t)
  fill-stmt P (SetTo m e) h = (h m (inl refl), each-join P (spell e) (Mark Semicolon ∷ []) (fill-expr P e (λ n u. h n (inr u))) tt)
  fill-stmt P (New m k) h = (h m refl, tt)
  fill-stmt P (Get m t e) h =
      (h m (inl refl), (h t (inr (inl refl)), each-join P (spell e) (Mark RSquare ∷ Mark Semicolon ∷ []) (fill-expr P e (λ n u. h n (inr (inr u)))) tt))
  fill-stmt P (Put t i e) h =
      (h t (inl refl), each-join P (spell i) (Mark RSquare ∷ Mark Equals ∷ (spell e ++ Mark Semicolon ∷ [])) (fill-expr P i (λ n u. h n (inr (inl u)))) (each-join P (spell e) (Mark Semicolon ∷ []) (fill-expr P e (λ n u. h n (inr (inr u)))) tt))
  fill-stmt P (Forget t) h = (h t refl, tt)
  fill-stmt P (Census m) h = (h m refl, tt)
  fill-stmt P (Print e) h = each-join P (spell e) (Mark Semicolon ∷ []) (fill-expr P e h) tt
  fill-stmt P (Throw e) h = each-join P (spell e) (Mark Semicolon ∷ []) (fill-expr P e h) tt
  fill-stmt P (Async b) h = each-join P (spellings b) (Mark RBrace ∷ []) (fill-block P b h) tt
  fill-stmt P (AtAsync e b) h =
      each-join P (spell e ++ Key KAsync ∷ Mark LBrace ∷ []) (spellings b ++ Mark RBrace ∷ []) (each-join P (spell e) (Key KAsync ∷ Mark LBrace ∷ []) (fill-expr P e (λ n u. h n (inl u))) tt) (each-join P (spellings b) (Mark RBrace ∷ []) (fill-block P b (λ n u. h n (inr u))) tt)
  fill-stmt P (At e b) h =
      each-join P (spell e ++ Mark LBrace ∷ []) (spellings b ++ Mark RBrace ∷ []) (each-join P (spell e) (Mark LBrace ∷ []) (fill-expr P e (λ n u. h n (inl u))) tt) (each-join P (spellings b) (Mark RBrace ∷ []) (fill-block P b (λ n u. h n (inr u))) tt)
  fill-stmt P (Finish b) h = each-join P (spellings b) (Mark RBrace ∷ []) (fill-block P b h) tt
  fill-stmt P (If e a b) h =
      each-join P (spell e ++ Mark LBrace ∷ []) (spellings a ++ Mark RBrace ∷ Key KElse ∷ Mark LBrace ∷ (spellings b ++ Mark RBrace ∷ [])) (each-join P (spell e) (Mark LBrace ∷ []) (fill-expr P e (λ n u. h n (inl u))) tt)
      (each-join P (spellings a) (Mark RBrace ∷ Key KElse ∷ Mark LBrace ∷ (spellings b ++ Mark RBrace ∷ [])) (fill-block P a (λ n u. h n (inr (inl u)))) (each-join P (spellings b) (Mark RBrace ∷ []) (fill-block P b (λ n u. h n (inr (inr u)))) tt))
  fill-stmt P (Repeat k b) h = each-join P (spellings b) (Mark RBrace ∷ []) (fill-block P b h) tt
  fill-stmt P (Try a d b) h =
      each-join P (spellings a) (Mark RBrace ∷ (catch_words d ++ (spellings b ++ Mark RBrace ∷ []))) (fill-block P a (λ n u. h n (inl u))) (catch-in P d (spellings b ++ Mark RBrace ∷ []) (each-join P (spellings b) (Mark RBrace ∷ []) (fill-block P b (λ n u. h n (inr u))) tt))

  fill-block : (P : ℕ → Type 0) (b : Block) → ((n : ℕ) → Mentions n b → P n) → EachName P (spellings b)
  fill-block P Nothing h = tt
  fill-block P (Then t ts) h = each-join P (spelling t) (spellings ts) (fill-stmt P t (λ n u. h n (inl u))) (fill-block P ts (λ n u. h n (inr u)))

-- Numbers in the order of first appearance.

wider : (next last : ℕ) (ts : List Token) → NamesInOrder next ts last → next ≤ last
wider next last [] h = omega (arith, h)
wider next last (Called n ∷ ts) (inl h) = wider next last ts h.1
wider next last (Called n ∷ ts) (inr h) = let more : next + 1 ≤ last = wider (next + 1) last ts h.1 in omega arith
wider next last (Key k ∷ ts) h = wider next last ts h
wider next last (Number n ∷ ts) h = wider next last ts h
wider next last (Oper o ∷ ts) h = wider next last ts h
wider next last (Mark s ∷ ts) h = wider next last ts h
wider next last (Bad ∷ ts) h = wider next last ts h

below : (next last : ℕ) (ts : List Token) → NamesInOrder next ts last → EachName (λ n. n < last) ts
below next last [] h = tt
below next last (Called n ∷ ts) (inl h) =
    let less : n < next = h.0 in let le : next ≤ last = wider next last ts h.1 in ((let x : n < last = omega arith in x), below next last ts h.1)
below next last (Called n ∷ ts) (inr h) =
    let same : n ≡ next = h.0 in let le : next + 1 ≤ last = wider (next + 1) last ts h.1 in ((let x : n < last = omega arith in x), below (next + 1) last ts h.1)
below next last (Key k ∷ ts) h = below next last ts h
below next last (Number n ∷ ts) h = below next last ts h
below next last (Oper o ∷ ts) h = below next last ts h
below next last (Mark s ∷ ts) h = below next last ts h
below next last (Bad ∷ ts) h = below next last ts h

appears : (P : ℕ → Type 0) (next last : ℕ) (ts : List Token) (k : ℕ) → NamesInOrder next ts last → EachName P ts → next ≤ k → k < last → P k
appears P next last [] k h e low high = absurd (omega (arith, h, low, high))
appears P next last (Called n ∷ ts) k (inl h) e low high = appears P next last ts k h.1 e.1 low high
appears P next last (Called n ∷ ts) k (inr h) e low high =
    elim (n == k) as (λ b. n == k ≡ b → P k) [
      | true ↦ λ q. subst P (eqb-true n k q) e.0
      | false ↦ λ q. let same : n ≡ next = h.0 in let not_here : n ≢ k = eqb-false n k q in appears P (next + 1) last ts k h.1 e.1 (omega (arith, same, not_here, low)) high
    ] refl
appears P next last (Key c ∷ ts) k h e low high = appears P next last ts k h e low high
appears P next last (Number n ∷ ts) k h e low high = appears P next last ts k h e low high
appears P next last (Oper o ∷ ts) k h e low high = appears P next last ts k h e low high
appears P next last (Mark s ∷ ts) k h e low high = appears P next last ts k h e low high
appears P next last (Bad ∷ ts) k h e low high = appears P next last ts k h e low high

pub are-numbered : NamesAreNumbered
are-numbered names code h n = (
  (λ m. pick-block (λ k. k < length names) code n (below 0 (length names) (spellings code) h.in_order) m),
  λ less. appears (λ k. Mentions k code) 0 (length names) (spellings code) n h.in_order (fill-block (λ k. Mentions k code) code (λ k m. m)) (omega arith) less,
)
