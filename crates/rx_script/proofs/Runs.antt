-- What a run over items says of the trees that the items spell, and of the tokens.
use Rattle.std.proofs.Common.{◌≡◌, List, [], ◌∷◌, ◌++◌, refl, ap, sym, ◌∙◌, append_assoc, append-nil, Option, Some, None, option_and_then}
use Rattle.rx_syntax.specs.declared.token.Token.{Token}
use Rattle.rx_syntax.specs.declared.token.Token.TheVariants.{Mark}
use Rattle.rx_syntax.specs.declared.token.Sign.TheVariants.{CloseBrace as RBrace}
use Rattle.rx_rules.proofs.Common.{Stmt, Block, Nothing, Then, SetTo, New, Get, Put, Forget, Census, Print, Throw, Async, AtAsync, At, Finish, If, Repeat, Try}
use Rattle.rx_syntax.specs.Grammar.{spelling, spellings}
use Rattle.rx_script.specs.Inside.Items.{Opener, ByAsync, ByAtAsync, ByAt, ByFinish, ByIf, ByRepeat, ByTry, Item, Whole, Open, Close, Else, Catch, item_words, opener_words}
use Rattle.rx_script.specs.Inside.Machine.{added, Frame, Fore, Other, Handler, BlocksRead, free, step, items_run}

-- the items of a statement with one block
abbrev pub block_items : Opener → List Item → List Item
block_items o b = Open o ∷ (b ++ Close ∷ [])

-- the items of a statement, and of a list of them
abbrev mutual
  pub items_of : Stmt → List Item
  items_of (SetTo n e) = Whole (SetTo n e) ∷ []
  items_of (New n k) = Whole (New n k) ∷ []
  items_of (Get n t e) = Whole (Get n t e) ∷ []
  items_of (Put t i e) = Whole (Put t i e) ∷ []
  items_of (Forget t) = Whole (Forget t) ∷ []
  items_of (Census n) = Whole (Census n) ∷ []
  items_of (Print e) = Whole (Print e) ∷ []
  items_of (Throw e) = Whole (Throw e) ∷ []
  items_of (Async b) = block_items ByAsync (all_items b)
  items_of (AtAsync e b) = block_items (ByAtAsync e) (all_items b)
  items_of (At e b) = block_items (ByAt e) (all_items b)
  items_of (Finish b) = block_items ByFinish (all_items b)
  items_of (If e a b) = Open (ByIf e) ∷ (all_items a ++ Close ∷ Else ∷ (all_items b ++ Close ∷ []))
  items_of (Repeat n b) = block_items (ByRepeat n) (all_items b)
  items_of (Try a d b) = Open ByTry ∷ (all_items a ++ Close ∷ Catch d ∷ (all_items b ++ Close ∷ []))

  pub all_items : Block → List Item
  all_items Nothing = []
  all_items (Then t ts) = items_of t ++ all_items ts

abbrev pub words : List Item → List Token
words [] = []
words (x ∷ xs) = item_words x ++ words xs

pub words-append : (xs ys : List Item) → words (xs ++ ys) ≡ words xs ++ words ys
words-append [] ys = refl
words-append (x ∷ xs) ys = ap (λ ts. item_words x ++ ts) (words-append xs ys) ∙ sym (append_assoc (item_words x) (words xs) (words ys))

words-block : (o : Opener) (xs : List Item) (ts : List Token) → words xs ≡ ts → words (block_items o xs) ≡ opener_words o ++ (ts ++ Mark RBrace ∷ [])
words-block o xs ts e = ap (λ us. opener_words o ++ us) (words-append xs (Close ∷ []) ∙ ap (λ us. us ++ Mark RBrace ∷ []) e)

words-two : (xs ys : List Item) (m : Item) (ts us : List Token) → words xs ≡ ts → words ys ≡ us → words (xs ++ Close ∷ m ∷ (ys ++ Close ∷ [])) ≡ ts ++ Mark RBrace ∷ (item_words m ++ (us ++ Mark RBrace ∷ []))
words-two xs ys m ts us e f =
    words-append xs (Close ∷ m ∷ (ys ++ Close ∷ []))
    ∙ ap (λ vs. vs ++ Mark RBrace ∷ (item_words m ++ words (ys ++ Close ∷ []))) e
    ∙ ap (λ vs. ts ++ Mark RBrace ∷ (item_words m ++ vs)) (words-append ys (Close ∷ []) ∙ ap (λ vs. vs ++ Mark RBrace ∷ []) f)

-- a statement's tokens are its items' tokens
mutual
  words-stmt : (t : Stmt) → words (items_of t) ≡ spelling t
  words-stmt (SetTo n e) = append-nil (spelling (SetTo n e))
  words-stmt (Get n t e) = append-nil (spelling (Get n t e))
  words-stmt (Put t i e) = append-nil (spelling (Put t i e))
  words-stmt (Print e) = append-nil (spelling (Print e))
  words-stmt (Throw e) = append-nil (spelling (Throw e))
  words-stmt (Async b) = words-block ByAsync (all_items b) (spellings b) (words-all b)
  words-stmt (AtAsync e b) = words-block (ByAtAsync e) (all_items b) (spellings b) (words-all b)
  words-stmt (At e b) = words-block (ByAt e) (all_items b) (spellings b) (words-all b)
  words-stmt (Finish b) = words-block ByFinish (all_items b) (spellings b) (words-all b)
  words-stmt (If e a b) = ap (λ us. opener_words (ByIf e) ++ us) (words-two (all_items a) (all_items b) Else (spellings a) (spellings b) (words-all a) (words-all b))
  words-stmt (Repeat n b) = words-block (ByRepeat n) (all_items b) (spellings b) (words-all b)
  words-stmt (Try a d b) = ap (λ us. opener_words ByTry ++ us) (words-two (all_items a) (all_items b) (Catch d) (spellings a) (spellings b) (words-all a) (words-all b))
  words-stmt _ = refl

  pub words-all : (ts : Block) → words (all_items ts) ≡ spellings ts
  words-all Nothing = refl
  words-all (Then t ts) = words-append (items_of t) (all_items ts) ∙ ap (λ us. us ++ words (all_items ts)) (words-stmt t) ∙ ap (λ us. spelling t ++ us) (words-all ts)

pub some-and : {A B : Type 0} (o : Option A) (f : A → Option B) (y : B) → option_and_then f o ≡ Some y → (x : A) × (o ≡ Some x) × (f x ≡ Some y)
some-and None f y e = cc
some-and (Some x) f y e = (x, refl, e)

-- lists of statements, one after the other
abbrev joined : Block → Block → Block
joined Nothing ts = ts
joined (Then u us) ts = Then u (joined us ts)

joined-nothing : (ts : Block) → joined ts Nothing ≡ ts
joined-nothing Nothing = refl
joined-nothing (Then t ts) = ap (Then t) (joined-nothing ts)

joined-added : (ds : Block) (t : Stmt) (ts : Block) → joined (added ds t) ts ≡ joined ds (Then t ts)
joined-added Nothing t ts = refl
joined-added (Then d ds) t ts = ap (Then d) (joined-added ds t ts)

run-body : (b : Block) (outer : List (Block × Frame)) (more rest : List Item) → items_run (free outer Nothing) (all_items b ++ Close ∷ (more ++ rest)) ≡ items_run (free outer b) (Close ∷ (more ++ rest)) → items_run (free outer Nothing) ((all_items b ++ Close ∷ more) ++ rest) ≡ items_run (free outer b) (Close ∷ (more ++ rest))
run-body b outer more rest e = ap (items_run (free outer Nothing)) (append_assoc (all_items b) (Close ∷ more) rest) ∙ e

-- each script is run to its own statements
mutual
  run-stmt : (t : Stmt) (outer : List (Block × Frame)) (ds : Block) (rest : List Item) → items_run (free outer ds) (items_of t ++ rest) ≡ items_run (free outer (added ds t)) rest
  run-stmt (Async b) outer ds rest = run-body b ((ds, Fore ByAsync) ∷ outer) [] rest (run-all b ((ds, Fore ByAsync) ∷ outer) Nothing (Close ∷ ([] ++ rest)))
  run-stmt (AtAsync e b) outer ds rest = run-body b ((ds, Fore (ByAtAsync e)) ∷ outer) [] rest (run-all b ((ds, Fore (ByAtAsync e)) ∷ outer) Nothing (Close ∷ ([] ++ rest)))
  run-stmt (At e b) outer ds rest = run-body b ((ds, Fore (ByAt e)) ∷ outer) [] rest (run-all b ((ds, Fore (ByAt e)) ∷ outer) Nothing (Close ∷ ([] ++ rest)))
  run-stmt (Finish b) outer ds rest = run-body b ((ds, Fore ByFinish) ∷ outer) [] rest (run-all b ((ds, Fore ByFinish) ∷ outer) Nothing (Close ∷ ([] ++ rest)))
  run-stmt (If e a b) outer ds rest = run-body a ((ds, Fore (ByIf e)) ∷ outer) (Else ∷ (all_items b ++ Close ∷ [])) rest (run-all a ((ds, Fore (ByIf e)) ∷ outer) Nothing (Close ∷ ((Else ∷ (all_items b ++ Close ∷ [])) ++ rest))) ∙ run-body b ((ds, Other e a) ∷ outer) [] rest (run-all b ((ds, Other e a) ∷ outer) Nothing (Close ∷ ([] ++ rest)))
  run-stmt (Repeat n b) outer ds rest = run-body b ((ds, Fore (ByRepeat n)) ∷ outer) [] rest (run-all b ((ds, Fore (ByRepeat n)) ∷ outer) Nothing (Close ∷ ([] ++ rest)))
  run-stmt (Try a d b) outer ds rest = run-body a ((ds, Fore ByTry) ∷ outer) (Catch d ∷ (all_items b ++ Close ∷ [])) rest (run-all a ((ds, Fore ByTry) ∷ outer) Nothing (Close ∷ ((Catch d ∷ (all_items b ++ Close ∷ [])) ++ rest))) ∙ run-body b ((ds, Handler a d) ∷ outer) [] rest (run-all b ((ds, Handler a d) ∷ outer) Nothing (Close ∷ ([] ++ rest)))
  run-stmt _ outer ds rest = refl

  run-all : (ts : Block) (outer : List (Block × Frame)) (ds : Block) (rest : List Item) → items_run (free outer ds) (all_items ts ++ rest) ≡ items_run (free outer (joined ds ts)) rest
  run-all Nothing outer ds rest = ap (λ d. items_run (free outer d) rest) (sym (joined-nothing ds))
  run-all (Then t ts) outer ds rest =
      ap (items_run (free outer ds)) (append_assoc (items_of t) (all_items ts) rest)
      ∙ run-stmt t outer ds (all_items ts ++ rest)
      ∙ run-all ts outer (added ds t) rest
      ∙ ap (λ d. items_run (free outer d) rest) (joined-added ds t ts)

-- a state that has read nothing, and one that has read a whole script
abbrev pub start : BlocksRead
start = free [] Nothing

pub run-whole : (ts : Block) → items_run start (all_items ts) ≡ Some (free [] ts)
run-whole ts = ap (items_run start) (sym (append-nil (all_items ts))) ∙ run-all ts [] Nothing []

pub run-append : (s : BlocksRead) (xs ys : List Item) → items_run s (xs ++ ys) ≡ option_and_then (λ t. items_run t ys) (items_run s xs)
run-append s [] ys = refl
run-append s (x ∷ xs) ys = append-step (step s x) xs ys (λ t. run-append t xs ys)
  where
    append-step : (o : Option BlocksRead) (xs ys : List Item) → ((t : BlocksRead) → items_run t (xs ++ ys) ≡ option_and_then (λ u. items_run u ys) (items_run t xs)) → option_and_then (λ t. items_run t (xs ++ ys)) o ≡ option_and_then (λ u. items_run u ys) (option_and_then (λ t. items_run t xs) o)
    append-step None xs ys h = refl
    append-step (Some t) xs ys h = h t

-- one run after another
pub run-on : (s t : BlocksRead) (xs ys : List Item) (o : Option BlocksRead) → items_run s xs ≡ Some t → items_run t ys ≡ o → items_run s (xs ++ ys) ≡ o
run-on s t xs ys o e f = run-append s xs ys ∙ ap (option_and_then (λ u. items_run u ys)) e ∙ f
