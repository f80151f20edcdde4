-- What is scanned as the tokens of a tree is a script.
use Rattle.std.proofs.Common.{ℕ, List, [], ◌∷◌, ◌++◌, length, Bool, true, false}
use Rattle.rx_rules.proofs.Common.{Expr, Bin, Stmt, SetTo, Get, Put, Print, Throw, Async, AtAsync, At, Finish, If, Repeat, Try, Block, Nothing, Then}
use Rattle.rx_syntax.specs.declared.token.Sign.TheVariants.{CloseBrace}
use Rattle.rx_syntax.specs.declared.token.Token.{Token}
use Rattle.rx_syntax.specs.declared.token.Token.TheVariants.{Mark}
use Rattle.rx_syntax.specs.Tokens.{AreNames}
use Rattle.rx_syntax.specs.Scans.{Scans}
use Rattle.rx_syntax.specs.Grammar.{spell, catch_words, spelling, spellings, AllInRange, IsScriptOf}
use Rattle.rx_syntax.proofs.Scanning.{NoBad, no-bad-more, scans-begins}

-- no bad token is among the tokens of a tree
no-bad-expr : (e : Expr) → NoBad (spell e)
no-bad-expr (Bin o a b) = no-bad-more (spell a) _ (no-bad-expr a) (no-bad-more (spell b) _ (no-bad-expr b) tt)
no-bad-expr _ = tt

no-bad-catch : (d : Bool) (ts : List Token) → NoBad ts → NoBad (catch_words d ++ ts)
no-bad-catch true ts b = b
no-bad-catch false ts b = b

no-bad-block : (ts us : List Token) → NoBad ts → NoBad us → NoBad (ts ++ Mark CloseBrace ∷ us)
no-bad-block ts us b c = no-bad-more ts (Mark CloseBrace ∷ us) b c

no-bad-front : (e : Expr) (ts us : List Token) → NoBad ts → NoBad us → NoBad ((spell e ++ ts) ++ us)
no-bad-front e ts us b c = no-bad-more (spell e ++ ts) us (no-bad-more (spell e) ts (no-bad-expr e) b) c

mutual
  no-bad-stmt : (t : Stmt) → NoBad (spelling t)
  no-bad-stmt (SetTo n e) = no-bad-more (spell e) _ (no-bad-expr e) tt
  no-bad-stmt (Get n t e) = no-bad-more (spell e) _ (no-bad-expr e) tt
  no-bad-stmt (Put t i e) = no-bad-more (spell i) _ (no-bad-expr i) (no-bad-more (spell e) _ (no-bad-expr e) tt)
  no-bad-stmt (Print e) = no-bad-more (spell e) _ (no-bad-expr e) tt
  no-bad-stmt (Throw e) = no-bad-more (spell e) _ (no-bad-expr e) tt
  no-bad-stmt (Async b) = no-bad-block (spellings b) [] (no-bad b) tt
  no-bad-stmt (AtAsync e b) = no-bad-front e _ _ tt (no-bad-block (spellings b) [] (no-bad b) tt)
  no-bad-stmt (At e b) = no-bad-front e _ _ tt (no-bad-block (spellings b) [] (no-bad b) tt)
  no-bad-stmt (Finish b) = no-bad-block (spellings b) [] (no-bad b) tt
  no-bad-stmt (If e a b) = no-bad-front e _ _ tt (no-bad-block (spellings a) _ (no-bad a) (no-bad-block (spellings b) [] (no-bad b) tt))
  no-bad-stmt (Repeat n b) = no-bad-block (spellings b) [] (no-bad b) tt
  no-bad-stmt (Try a d b) = no-bad-block (spellings a) _ (no-bad a) (no-bad-catch d _ (no-bad-block (spellings b) [] (no-bad b) tt))
  no-bad-stmt _ = tt

  no-bad : (b : Block) → NoBad (spellings b)
  no-bad Nothing = tt
  no-bad (Then t ts) = no-bad-more (spelling t) (spellings ts) (no-bad-stmt t) (no-bad ts)

-- scanned tokens that spell a tree are a script
pub scanned-script : (names : List (List ℕ)) (bytes : List ℕ) (t : Block) (starts : List ℕ) → Scans names (length bytes) bytes (spellings t) starts → AreNames names (spellings t) → AllInRange t → IsScriptOf names bytes t
scanned-script names bytes t starts s a f = record {
  lexes = record { begins = scans-begins names (length bytes) bytes (spellings t) starts (no-bad t) s; are_names = a };
  fits = f;
}
