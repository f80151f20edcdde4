-- From bytes to tokens, the longest first.
use Rattle.std.specs.Prelude.{ℕ, ◌-◌, Bool, true, false, ◌&&◌, ◌||◌, not, ◌==◌, nat_le, nat_lt, List, [], ◌∷◌, ◌++◌, length, take}
use Rattle.std.specs.Prelude.{drop, replicate, slice_index, Option, Some, None, if◌then◌else◌, codes, ℤ, pos, option_map, zero, suc}
use Rattle.std.specs.List.{prefix_len}
use Rattle.std.specs.Str.Parse.{digits_value}
use Rattle.std.specs.Int.{is_in_range}
use Rattle.std.specs.Str.{bytes_eq, all_ascii_digits}
use Rattle.rx_syntax.specs.declared.token.Op.TheVariants.{Add, Sub, Mul, Less, Equal}
use Rattle.rx_syntax.specs.declared.token.Keyword.{Keyword}
use Rattle.rx_syntax.specs.declared.token.Keyword.TheVariants as keywords
use Rattle.rx_syntax.specs.declared.token.Sign.TheVariants.{OpenBrace, CloseBrace, OpenParen, CloseParen, OpenSquare, CloseSquare}
use Rattle.rx_syntax.specs.declared.token.Sign.TheVariants.{Equals, Semicolon, Comma}
use Rattle.rx_syntax.specs.declared.token.Lexeme.{Lexeme}
use Rattle.rx_syntax.specs.declared.token.Lexeme.TheVariants.{Word, Name, Number, Oper, Mark}

-- space, tab, newline and carriage return
abbrev pub is_blank : ℕ → Bool
is_blank b = b == 32 || b == 9 || b == 10 || b == 13

-- What is left after the blanks and comments in front; the test says that a comment has begun.
abbrev pub skipped : Bool → List ℕ → List ℕ
skipped in_comment [] = []
skipped true (b ∷ bs) = if b == 10 then skipped false bs else skipped true bs
skipped false (b ∷ bs) = if b == 35 then skipped true bs else (if is_blank b then skipped false bs else b ∷ bs)

-- the bytes of words and numbers
abbrev pub is_word_byte : ℕ → Bool
is_word_byte b = is_in_range 97 122 b || is_in_range 48 57 b || b == 95

-- the first byte of a word
abbrev pub is_word_start : ℕ → Bool
is_word_start b = is_in_range 97 122 b

-- the greatest number
abbrev pub most : ℕ
most = 9223372036854775807

-- digits without a leading zero, or 0 alone, up to the greatest number
abbrev pub is_number : List ℕ → Bool
is_number run =
    not (length run == 0) && not (slice_index run 0 == 48 && nat_lt 1 (length run)) && all_ascii_digits run
    && nat_le (digits_value 10 run) most

-- the number that a run of such bytes is
abbrev pub number_of_run : List ℕ → Option ℤ
number_of_run run = if is_number run then Some (pos (digits_value 10 run)) else None

-- a name filled up with zeros
abbrev pub padded : List ℕ → List ℕ
padded word = word ++ replicate (16 - length word) 0

-- the keyword that a word is
abbrev pub keyword_of : List ℕ → Option Keyword
keyword_of word =
    if bytes_eq word (codes "set") then Some keywords.Set else (
    if bytes_eq word (codes "new") then Some keywords.New else (
    if bytes_eq word (codes "get") then Some keywords.Get else (
    if bytes_eq word (codes "put") then Some keywords.Put else (
    if bytes_eq word (codes "forget") then Some keywords.Forget else (
    if bytes_eq word (codes "print") then Some keywords.Print else (
    if bytes_eq word (codes "throw") then Some keywords.Throw else (
    if bytes_eq word (codes "async") then Some keywords.Async else (
    if bytes_eq word (codes "at") then Some keywords.At else (
    if bytes_eq word (codes "finish") then Some keywords.Finish else (
    if bytes_eq word (codes "if") then Some keywords.If else (
    if bytes_eq word (codes "else") then Some keywords.Else else (
    if bytes_eq word (codes "repeat") then Some keywords.Repeat else (
    if bytes_eq word (codes "try") then Some keywords.Try else (
    if bytes_eq word (codes "catch") then Some keywords.Catch else (
    if bytes_eq word (codes "dead") then Some keywords.Dead else (
    if bytes_eq word (codes "here") then Some keywords.Here else (
    if bytes_eq word (codes "census") then Some keywords.Census else None)))))))))))))))))

-- a word that is no keyword is a name
abbrev pub word_or_name : Option Keyword → List ℕ → Lexeme
word_or_name None word = Name (padded word)
word_or_name (Some key) word = Word key

-- the token that a run of word bytes is: up to 16 of them that begin with a letter, or a number
abbrev pub run_token : List ℕ → Option Lexeme
run_token run =
    if is_word_start (slice_index run 0)
    then (if nat_le (length run) 16 then Some (word_or_name (keyword_of run) run) else None)
    else option_map (λ n. Number n) (number_of_run run)

-- the longest sign after a `=`
abbrev pub equals_sign : List ℕ → Lexeme × List ℕ
equals_sign [] = (Mark Equals, [])
equals_sign (b ∷ bs) = if b == 61 then (Oper Equal, bs) else (Mark Equals, b ∷ bs)

-- the sign of one byte
abbrev pub sign_of_byte : ℕ → Option Lexeme
sign_of_byte b =
    if b == 123 then Some (Mark OpenBrace) else (
    if b == 125 then Some (Mark CloseBrace) else (
    if b == 40 then Some (Mark OpenParen) else (
    if b == 41 then Some (Mark CloseParen) else (
    if b == 91 then Some (Mark OpenSquare) else (
    if b == 93 then Some (Mark CloseSquare) else (
    if b == 59 then Some (Mark Semicolon) else (
    if b == 44 then Some (Mark Comma) else (
    if b == 43 then Some (Oper Add) else (
    if b == 45 then Some (Oper Sub) else (
    if b == 42 then Some (Oper Mul) else (
    if b == 60 then Some (Oper Less) else None)))))))))))

-- the longest sign in front, and what is left after it
abbrev pub sign_at : List ℕ → Option (Lexeme × List ℕ)
sign_at [] = None
sign_at (b ∷ bs) = if b == 61 then Some (equals_sign bs) else option_map (λ x. (x, bs)) (sign_of_byte b)

-- the token in front where n bytes of words and numbers stand there, and what is left after it
abbrev pub token_of : ℕ → List ℕ → Option (Lexeme × List ℕ)
token_of zero bytes = sign_at bytes
token_of (suc n) bytes = option_map (λ t. (t, drop (suc n) bytes)) (run_token (take (suc n) bytes))

-- the longest token in front, and what is left after it
abbrev pub token_at : List ℕ → Option (Lexeme × List ℕ)
token_at bytes = token_of (prefix_len is_word_byte bytes) bytes
