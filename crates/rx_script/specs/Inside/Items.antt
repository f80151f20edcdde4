-- The items that the tokens of a script fall into, and how the one in front is read.
use Rattle.std.specs.Prelude.{◌≡◌, List, [], ◌∷◌, ◌++◌, Option, Some, None, ℕ, pos, Bool, true, false}
use Rattle.rx_syntax.specs.declared.token.Token.{Token}
use Rattle.rx_syntax.specs.declared.token.Token.TheVariants.{Key, Called, Number, Mark}
use Rattle.rx_rules.specs.Code.{Expr, Stmt, SetTo, New, Get, Put, Forget, Census, Print, Throw, Async, AtAsync, At, Finish, If, Repeat, Try}
use Rattle.rx_syntax.specs.Grammar.{catch_words, spelling, may_hold, may_turn, spell}
use Rattle.rx_syntax.specs.declared.token.Keyword.TheVariants.{Set as KSet, New as KNew, Get as KGet, Put as KPut, Forget as KForget}
use Rattle.rx_syntax.specs.declared.token.Keyword.TheVariants.{Census as KCensus, Print as KPrint, Throw as KThrow, Async as KAsync}
use Rattle.rx_syntax.specs.declared.token.Keyword.TheVariants.{At as KAt, Finish as KFinish, If as KIf, Else as KElse, Repeat as KRepeat}
use Rattle.rx_syntax.specs.declared.token.Keyword.TheVariants.{Try as KTry, Catch as KCatch, Dead as KDead}
use Rattle.rx_syntax.specs.declared.token.Sign.TheVariants.{OpenBrace as LBrace, CloseBrace as RBrace, OpenSquare as LSquare}
use Rattle.rx_syntax.specs.declared.token.Sign.TheVariants.{CloseSquare as RSquare, Equals, Semicolon}
use Rattle.rx_script.specs.Inside.Readers.{Reader, then, done, choose}
use Rattle.rx_script.specs.Inside.Exprs.{expr}

-- the front of a statement that has a block
pub data Opener : Type 0 where
  ByAsync : Opener
  ByAtAsync : Expr → Opener
  ByAt : Expr → Opener
  ByFinish : Opener
  ByIf : Expr → Opener
  ByRepeat : ℕ → Opener
  ByTry : Opener

-- a statement without blocks, the front of one with a block, the end of a block, or what begins a second block
pub data Item : Type 0 where
  Whole : Stmt → Item
  Open : Opener → Item
  Close : Item
  Else : Item
  Catch : Bool → Item

abbrev pub opener_words : Opener → List Token
opener_words ByAsync = Key KAsync ∷ Mark LBrace ∷ []
opener_words (ByAtAsync e) = Key KAt ∷ (spell e ++ Key KAsync ∷ Mark LBrace ∷ [])
opener_words (ByAt e) = Key KAt ∷ (spell e ++ Mark LBrace ∷ [])
opener_words ByFinish = Key KFinish ∷ Mark LBrace ∷ []
opener_words (ByIf e) = Key KIf ∷ (spell e ++ Mark LBrace ∷ [])
opener_words (ByRepeat n) = Key KRepeat ∷ Number (pos n) ∷ Mark LBrace ∷ []
opener_words ByTry = Key KTry ∷ Mark LBrace ∷ []

abbrev pub item_words : Item → List Token
item_words (Whole s) = spelling s
item_words (Open o) = opener_words o
item_words Close = Mark RBrace ∷ []
item_words Else = Key KElse ∷ Mark LBrace ∷ []
item_words (Catch d) = catch_words d

-- an item that a script can have
abbrev pub IsSimple : Stmt → Type 0
IsSimple (New n k) = may_hold k ≡ true
IsSimple (Async b) = ⊥
IsSimple (AtAsync e b) = ⊥
IsSimple (At e b) = ⊥
IsSimple (Finish b) = ⊥
IsSimple (If e a b) = ⊥
IsSimple (Repeat n b) = ⊥
IsSimple (Try a d b) = ⊥
IsSimple _ = Unit {0}

abbrev pub IsOpener : Opener → Type 0
IsOpener (ByRepeat n) = may_turn n ≡ true
IsOpener _ = Unit {0}

abbrev pub IsItem : Item → Type 0
IsItem (Whole s) = IsSimple s
IsItem (Open o) = IsOpener o
IsItem _ = Unit {0}

-- one token
abbrev pub called : Token → Option (Reader ℕ)
called (Called n) = Some (done n)
called _ = None

abbrev pub number_in_range : Bool → ℕ → Option (Reader ℕ)
number_in_range true n = Some (done n)
number_in_range false n = None

abbrev pub counted : (ℕ → Bool) → Token → Option (Reader ℕ)
counted ok (Number (pos n)) = number_in_range (ok n) n
counted ok _ = None

abbrev pub brace : {A : Type 0} → Reader A → Token → Option (Reader A)
brace r (Mark LBrace) = Some r
brace r _ = None

abbrev pub semicolon : {A : Type 0} → Reader A → Token → Option (Reader A)
semicolon r (Mark Semicolon) = Some r
semicolon r _ = None

abbrev pub equals_then : {A : Type 0} → Reader A → Token → Option (Reader A)
equals_then r (Mark Equals) = Some r
equals_then r _ = None

abbrev pub square : {A : Type 0} → Reader A → Token → Option (Reader A)
square r (Mark LSquare) = Some r
square r _ = None

abbrev pub end_square : {A : Type 0} → Reader A → Token → Option (Reader A)
end_square r (Mark RSquare) = Some r
end_square r _ = None

-- the ends of items
abbrev pub ends : Item → Reader Item
ends x = choose (semicolon (done x))

abbrev pub opens : Item → Reader Item
opens x = choose (brace (done x))

-- after a keyword
abbrev pub set_at : Reader Item
set_at = then (choose called) (λ n. choose (equals_then (then expr (λ e. ends (Whole (SetTo n e))))))

abbrev pub new_at : Reader Item
new_at = then (choose called) (λ n. choose (equals_then (then (choose (counted may_hold)) (λ k. ends (Whole (New n k))))))

abbrev pub get_at : Reader Item
get_at =
    then (choose called) (λ n. choose (equals_then (then (choose called) (λ t.
    choose (square (then expr (λ e. choose (end_square (ends (Whole (Get n t e)))))))))))

abbrev pub put_at : Reader Item
put_at =
    then (choose called) (λ t. choose (square (then expr (λ i.
    choose (end_square (choose (equals_then (then expr (λ e. ends (Whole (Put t i e)))))))))))

abbrev pub forget_at : Reader Item
forget_at = then (choose called) (λ t. ends (Whole (Forget t)))

abbrev pub census_at : Reader Item
census_at = then (choose called) (λ n. ends (Whole (Census n)))

abbrev pub print_at : Reader Item
print_at = then expr (λ e. ends (Whole (Print e)))

abbrev pub throw_at : Reader Item
throw_at = then expr (λ e. ends (Whole (Throw e)))

abbrev pub at_body : Expr → Token → Option (Reader Item)
at_body e (Key KAsync) = Some (opens (Open (ByAtAsync e)))
at_body e (Mark LBrace) = Some (done (Open (ByAt e)))
at_body e _ = None

abbrev pub at_at : Reader Item
at_at = then expr (λ e. choose (at_body e))

abbrev pub if_at : Reader Item
if_at = then expr (λ e. opens (Open (ByIf e)))

abbrev pub repeat_at : Reader Item
repeat_at = then (choose (counted may_turn)) (λ n. opens (Open (ByRepeat n)))

-- what may begin a statement
abbrev pub statement : Token → Option (Reader Item)
statement (Key KSet) = Some set_at
statement (Key KNew) = Some new_at
statement (Key KGet) = Some get_at
statement (Key KPut) = Some put_at
statement (Key KForget) = Some forget_at
statement (Key KCensus) = Some census_at
statement (Key KPrint) = Some print_at
statement (Key KThrow) = Some throw_at
statement (Key KAsync) = Some (opens (Open ByAsync))
statement (Key KAt) = Some at_at
statement (Key KFinish) = Some (opens (Open ByFinish))
statement (Key KIf) = Some if_at
statement (Key KRepeat) = Some repeat_at
statement (Key KTry) = Some (opens (Open ByTry))
statement _ = None

abbrev pub statement_or_end : Token → Option (Reader Item)
statement_or_end (Mark RBrace) = Some (done Close)
statement_or_end t = statement t

abbrev pub else_word : Token → Option (Reader Item)
else_word (Key KElse) = Some (opens Else)
else_word _ = None

abbrev pub dead_word : Token → Option (Reader Item)
dead_word (Mark LBrace) = Some (done (Catch false))
dead_word (Key KDead) = Some (opens (Catch true))
dead_word _ = None

abbrev pub catch_word : Token → Option (Reader Item)
catch_word (Key KCatch) = Some (choose dead_word)
catch_word _ = None

-- where the next item stands
pub data Mode : Type 0 where
  Outermost : Mode
  Inside : Mode
  AfterFirst : Mode
  AfterBody : Mode

abbrev pub may_begin : Mode → Token → Option (Reader Item)
may_begin Outermost = statement
may_begin Inside = statement_or_end
may_begin AfterFirst = else_word
may_begin AfterBody = catch_word

-- the item in front, and what is left after it
abbrev pub item_at : Mode → Reader Item
item_at m = choose (may_begin m)

-- an item may stand here
abbrev pub MayStand : Mode → Item → Type 0
MayStand Outermost (Whole s) = Unit {0}
MayStand Outermost (Open o) = Unit {0}
MayStand Inside (Whole s) = Unit {0}
MayStand Inside (Open o) = Unit {0}
MayStand Inside Close = Unit {0}
MayStand AfterFirst Else = Unit {0}
MayStand AfterBody (Catch d) = Unit {0}
MayStand _ _ = ⊥
