-- The readers of items are local.
use Rattle.std.proofs.Common.{◌≡◌, ℕ, pos, Bool, true, false, refl, ap}
use Rattle.rx_syntax.specs.declared.token.Token.{Token}
use Rattle.rx_syntax.specs.declared.token.Token.TheVariants.{Key, Called, Number, Mark}
use Rattle.rx_rules.proofs.Common.{Expr, SetTo, New, Get, Put, Forget, Census, Print, Throw}
use Rattle.rx_syntax.specs.Grammar.{may_hold, may_turn}
use Rattle.rx_syntax.specs.declared.token.Keyword.TheVariants.{Set as KSet, New as KNew, Get as KGet, Put as KPut, Forget as KForget, Census as KCensus, Print as KPrint, Throw as KThrow, Async as KAsync, At as KAt, Finish as KFinish, If as KIf, Else as KElse, Repeat as KRepeat, Try as KTry, Catch as KCatch, Dead as KDead}
use Rattle.rx_syntax.specs.declared.token.Sign.TheVariants.{OpenBrace as LBrace, CloseBrace as RBrace, OpenSquare as LSquare, CloseSquare as RSquare, Equals, Semicolon}
use Rattle.rx_script.specs.Inside.Readers.{Reader, done, choose}
use Rattle.rx_script.specs.Inside.Exprs.{expr}
use Rattle.rx_script.specs.Inside.Items.{ByAsync, ByAtAsync, ByAt, ByFinish, ByIf, ByRepeat, ByTry, Item, Whole, Open, Close, Else, Catch, called, number_in_range, counted, brace, semicolon, equals_then, square, end_square, ends, opens, set_at, new_at, get_at, put_at, forget_at, census_at, print_at, throw_at, at_body, at_at, if_at, repeat_at, statement, statement_or_end, else_word, dead_word, catch_word, Mode, Outermost, Inside, AfterFirst, AfterBody, item_at}
use Rattle.rx_script.proofs.Local.{IsLocal, IsLocalPick, local-done, local-choose, local-then}
use Rattle.rx_script.proofs.LocalExprs.{local-expr}

called-picks : (t : Token) → IsLocalPick (called t)
called-picks (Called n) = local-done n
called-picks _ = tt

local-called : IsLocal (choose called)
local-called = local-choose called (Called 0) (done 0) refl (local-done 0) called-picks

range-picks : (b : Bool) (n : ℕ) → IsLocalPick (number_in_range b n)
range-picks true n = local-done n
range-picks false n = tt

counted-picks : (ok : ℕ → Bool) (t : Token) → IsLocalPick (counted ok t)
counted-picks ok (Number (pos n)) = range-picks (ok n) n
counted-picks ok _ = tt

local-counted : (ok : ℕ → Bool) → ok 1 ≡ true → IsLocal (choose (counted ok))
local-counted ok one = local-choose (counted ok) (Number (pos 1)) (done 1) (ap (λ b. number_in_range b 1) one) (local-done 1) (counted-picks ok)

brace-picks : {A : Type 0} (r : Reader A) → IsLocal r → (t : Token) → IsLocalPick (brace r t)
brace-picks r l (Mark LBrace) = l
brace-picks r l _ = tt

local-brace : {A : Type 0} (r : Reader A) → IsLocal r → IsLocal (choose (brace r))
local-brace r l = local-choose (brace r) (Mark LBrace) r refl l (brace-picks r l)

semicolon-picks : {A : Type 0} (r : Reader A) → IsLocal r → (t : Token) → IsLocalPick (semicolon r t)
semicolon-picks r l (Mark Semicolon) = l
semicolon-picks r l _ = tt

local-semicolon : {A : Type 0} (r : Reader A) → IsLocal r → IsLocal (choose (semicolon r))
local-semicolon r l = local-choose (semicolon r) (Mark Semicolon) r refl l (semicolon-picks r l)

equals-picks : {A : Type 0} (r : Reader A) → IsLocal r → (t : Token) → IsLocalPick (equals_then r t)
equals-picks r l (Mark Equals) = l
equals-picks r l _ = tt

local-equals : {A : Type 0} (r : Reader A) → IsLocal r → IsLocal (choose (equals_then r))
local-equals r l = local-choose (equals_then r) (Mark Equals) r refl l (equals-picks r l)

square-picks : {A : Type 0} (r : Reader A) → IsLocal r → (t : Token) → IsLocalPick (square r t)
square-picks r l (Mark LSquare) = l
square-picks r l _ = tt

local-square : {A : Type 0} (r : Reader A) → IsLocal r → IsLocal (choose (square r))
local-square r l = local-choose (square r) (Mark LSquare) r refl l (square-picks r l)

end_square-picks : {A : Type 0} (r : Reader A) → IsLocal r → (t : Token) → IsLocalPick (end_square r t)
end_square-picks r l (Mark RSquare) = l
end_square-picks r l _ = tt

local-end_square : {A : Type 0} (r : Reader A) → IsLocal r → IsLocal (choose (end_square r))
local-end_square r l = local-choose (end_square r) (Mark RSquare) r refl l (end_square-picks r l)

local-ends : (x : Item) → IsLocal (ends x)
local-ends x = local-semicolon (done x) (local-done x)

local-opens : (x : Item) → IsLocal (opens x)
local-opens x = local-brace (done x) (local-done x)

local-set : IsLocal set_at
local-set = local-then (choose called) _ local-called (λ n. local-equals _ (local-then expr _ local-expr (λ e. local-ends (Whole (SetTo n e)))))

local-new : IsLocal new_at
local-new = local-then (choose called) _ local-called (λ n. local-equals _ (local-then (choose (counted may_hold)) _ (local-counted may_hold refl) (λ k. local-ends (Whole (New n k)))))

local-get : IsLocal get_at
local-get = local-then (choose called) _ local-called (λ n. local-equals _ (local-then (choose called) _ local-called (λ t. local-square _ (local-then expr _ local-expr (λ e. local-end_square _ (local-ends (Whole (Get n t e))))))))

local-put : IsLocal put_at
local-put = local-then (choose called) _ local-called (λ t. local-square _ (local-then expr _ local-expr (λ i. local-end_square _ (local-equals _ (local-then expr _ local-expr (λ e. local-ends (Whole (Put t i e))))))))

local-forget : IsLocal forget_at
local-forget = local-then (choose called) _ local-called (λ t. local-ends (Whole (Forget t)))

local-census : IsLocal census_at
local-census = local-then (choose called) _ local-called (λ n. local-ends (Whole (Census n)))

local-print : IsLocal print_at
local-print = local-then expr _ local-expr (λ e. local-ends (Whole (Print e)))

local-throw : IsLocal throw_at
local-throw = local-then expr _ local-expr (λ e. local-ends (Whole (Throw e)))

at-picks : (e : Expr) (t : Token) → IsLocalPick (at_body e t)
at-picks e (Key KAsync) = local-opens (Open (ByAtAsync e))
at-picks e (Mark LBrace) = local-done (Open (ByAt e))
at-picks e _ = tt

local-at : IsLocal at_at
local-at = local-then expr _ local-expr (λ e. local-choose (at_body e) (Mark LBrace) (done (Open (ByAt e))) refl (local-done (Open (ByAt e))) (at-picks e))

local-if : IsLocal if_at
local-if = local-then expr _ local-expr (λ e. local-opens (Open (ByIf e)))

local-repeat : IsLocal repeat_at
local-repeat = local-then (choose (counted may_turn)) _ (local-counted may_turn refl) (λ n. local-opens (Open (ByRepeat n)))

statement-picks : (t : Token) → IsLocalPick (statement t)
statement-picks (Key KSet) = local-set
statement-picks (Key KNew) = local-new
statement-picks (Key KGet) = local-get
statement-picks (Key KPut) = local-put
statement-picks (Key KForget) = local-forget
statement-picks (Key KCensus) = local-census
statement-picks (Key KPrint) = local-print
statement-picks (Key KThrow) = local-throw
statement-picks (Key KAsync) = local-opens (Open ByAsync)
statement-picks (Key KAt) = local-at
statement-picks (Key KFinish) = local-opens (Open ByFinish)
statement-picks (Key KIf) = local-if
statement-picks (Key KRepeat) = local-repeat
statement-picks (Key KTry) = local-opens (Open ByTry)
statement-picks _ = tt

statement_or_end-picks : (t : Token) → IsLocalPick (statement_or_end t)
statement_or_end-picks (Mark RBrace) = local-done Close
statement_or_end-picks t = statement-picks t

else-picks : (t : Token) → IsLocalPick (else_word t)
else-picks (Key KElse) = local-opens Else
else-picks _ = tt

dead-picks : (t : Token) → IsLocalPick (dead_word t)
dead-picks (Mark LBrace) = local-done (Catch false)
dead-picks (Key KDead) = local-opens (Catch true)
dead-picks _ = tt

local-dead : IsLocal (choose dead_word)
local-dead = local-choose dead_word (Mark LBrace) (done (Catch false)) refl (local-done (Catch false)) dead-picks

catch-picks : (t : Token) → IsLocalPick (catch_word t)
catch-picks (Key KCatch) = local-dead
catch-picks _ = tt

pub local-item : (m : Mode) → IsLocal (item_at m)
local-item Outermost = local-choose statement (Key KAsync) (opens (Open ByAsync)) refl (local-opens (Open ByAsync)) statement-picks
local-item Inside = local-choose statement_or_end (Mark RBrace) (done Close) refl (local-done Close) statement_or_end-picks
local-item AfterFirst = local-choose else_word (Key KElse) (opens Else) refl (local-opens Else) else-picks
local-item AfterBody = local-choose catch_word (Key KCatch) (choose dead_word) refl local-dead catch-picks
