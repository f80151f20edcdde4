-- The first token that can't go on: the tokens before it begin a script, and no script begins with them and it.
use Rattle.std.proofs.Common.{◌≡◌, List, [], ◌∷◌, ◌++◌, false, refl, ap, sym, ◌∙◌, subst, append_assoc, append-nil, ◌⊎◌, inl, inr, Some, Result, Ok, Err, option_and_then}
use Rattle.std.proofs.lemmas.Option.{same_Some}
use Rattle.rx_syntax.specs.declared.token.Token.{Token}
use Rattle.rx_rules.proofs.Common.{Block, Nothing, Async, AtAsync, At, Finish, If, Repeat, Try}
use Rattle.rx_syntax.specs.Grammar.{spellings, AllInRange}
use Rattle.rx_script.specs.Inside.Items.{ByAsync, ByAtAsync, ByAt, ByFinish, ByIf, ByRepeat, ByTry, Item, Whole, Open, Close, Else, Catch, IsItem, item_words, Outermost, MayStand, item_at}
use Rattle.rx_script.specs.Places.{BeginsScript, IsPlace}
use Rattle.rx_script.specs.Inside.Machine.{added, Frame, Fore, Other, Handler, Waits, Free, ForElse, ForCatch, BlocksRead, free, item_stepped, step, items_run, mode_in, mode}
use Rattle.rx_script.proofs.Local.{Completes, Refuses, Judged}
use Rattle.rx_script.proofs.LocalItems.{local-item}
use Rattle.rx_script.proofs.Spelt.{again, takes}
use Rattle.rx_script.proofs.Runs.{words, words-append, words-all, all_items, some-and, start, run-whole, run-on}
use Rattle.rx_script.proofs.Sound.{AllItems, sound, all-append, fit-items, items-fit}

-- an item that the machine takes may stand here
stands-in : (outer : List (Block × Frame)) (ts : Block) (w : Waits) (x : Item) (t : BlocksRead) → item_stepped outer ts w x ≡ Some t → MayStand (mode_in w outer) x
stands-in [] ts Free (Whole s) t e = tt
stands-in [] ts Free (Open o) t e = tt
stands-in (f ∷ outer) ts Free (Whole s) t e = tt
stands-in (f ∷ outer) ts Free (Open o) t e = tt
stands-in (f ∷ outer) ts Free Close t e = tt
stands-in outer ts (ForElse c a) Else t e = tt
stands-in outer ts (ForCatch a) (Catch d) t e = tt
stands-in _ ts _ _ t e = cc

-- and the machine takes each that may
ready-in : (outer : List (Block × Frame)) (ts : Block) (w : Waits) (x : Item) → MayStand (mode_in w outer) x → (t : BlocksRead) × (item_stepped outer ts w x ≡ Some t)
ready-in [] ts Free (Whole s) h = (_, refl)
ready-in [] ts Free (Open o) h = (_, refl)
ready-in (f ∷ outer) ts Free (Whole s) h = (_, refl)
ready-in (f ∷ outer) ts Free (Open o) h = (_, refl)
ready-in (f ∷ outer) ts Free Close h = (_, refl)
ready-in outer ts (ForElse c a) Else h = (_, refl)
ready-in outer ts (ForCatch a) (Catch d) h = (_, refl)
ready-in _ ts _ _ h = absurd h

-- items that end an open block, and every open block
abbrev closing : Frame → List Item → List Item
closing (Fore (ByIf e)) more = Close ∷ Else ∷ Close ∷ more
closing (Fore ByTry) more = Close ∷ Catch false ∷ Close ∷ more
closing _ more = Close ∷ more

abbrev closes : List (Block × Frame) → List Item
closes [] = []
closes (f ∷ outer) = closing f.1 (closes outer)

abbrev closes_all : Waits → List (Block × Frame) → List Item
closes_all Free outer = closes outer
closes_all (ForElse e a) outer = Else ∷ Close ∷ closes outer
closes_all (ForCatch a) outer = Catch false ∷ Close ∷ closes outer

abbrev IsDone : BlocksRead → List Item → Type 0
IsDone s xs = (us : Block) × (items_run s xs ≡ Some (free [] us))

closing-run : (outer : List (Block × Frame)) (xs : List Item) → ((ts : Block) → IsDone (free outer ts) xs) → (d b : Block) (f : Frame) → IsDone (free ((d, f) ∷ outer) b) (closing f xs)
closing-run outer xs h d b (Fore ByAsync) = h (added d (Async b))
closing-run outer xs h d b (Fore (ByAtAsync e)) = h (added d (AtAsync e b))
closing-run outer xs h d b (Fore (ByAt e)) = h (added d (At e b))
closing-run outer xs h d b (Fore ByFinish) = h (added d (Finish b))
closing-run outer xs h d b (Fore (ByIf e)) = h (added d (If e b Nothing))
closing-run outer xs h d b (Fore (ByRepeat n)) = h (added d (Repeat n b))
closing-run outer xs h d b (Fore ByTry) = h (added d (Try b false Nothing))
closing-run outer xs h d b (Other e a) = h (added d (If e a b))
closing-run outer xs h d b (Handler a k) = h (added d (Try a k b))

closes-run : (outer : List (Block × Frame)) (ts : Block) → IsDone (free outer ts) (closes outer)
closes-run [] ts = (ts, refl)
closes-run (f ∷ outer) ts = closing-run outer (closes outer) (closes-run outer) f.0 ts f.1

-- each state can be run to a whole script
pub ends-run : (outer : List (Block × Frame)) (ts : Block) (w : Waits) → IsDone (record { outer = outer; so_far = ts; waits = w }) (closes_all w outer)
ends-run outer ts Free = closes-run outer ts
ends-run outer ts (ForElse e a) = closes-run outer (added ts (If e a Nothing))
ends-run outer ts (ForCatch a) = closes-run outer (added ts (Try a false Nothing))

closing-items : (f : Frame) (xs : List Item) → AllItems xs → AllItems (closing f xs)
closing-items (Fore ByAsync) xs i = (tt, i)
closing-items (Fore (ByAtAsync e)) xs i = (tt, i)
closing-items (Fore (ByAt e)) xs i = (tt, i)
closing-items (Fore ByFinish) xs i = (tt, i)
closing-items (Fore (ByIf e)) xs i = (tt, (tt, (tt, i)))
closing-items (Fore (ByRepeat n)) xs i = (tt, i)
closing-items (Fore ByTry) xs i = (tt, (tt, (tt, i)))
closing-items (Other e a) xs i = (tt, i)
closing-items (Handler a k) xs i = (tt, i)

closes-items : (outer : List (Block × Frame)) → AllItems (closes outer)
closes-items [] = tt
closes-items (f ∷ outer) = closing-items f.1 (closes outer) (closes-items outer)

ends-items : (w : Waits) (outer : List (Block × Frame)) → AllItems (closes_all w outer)
ends-items Free outer = closes-items outer
ends-items (ForElse e a) outer = (tt, (tt, closes-items outer))
ends-items (ForCatch a) outer = (tt, (tt, closes-items outer))

-- an item that the machine takes is read from its tokens
pub again-step : (s t : BlocksRead) (x : Item) (rest : List Token) → IsItem x → step s x ≡ Some t → item_at (mode s) (item_words x ++ rest) ≡ Ok (x, rest)
again-step s t x rest i e = again (mode s) x (i, stands-in s.outer s.so_far s.waits x t e) rest

pub ok-err : {A B : Type 0} (a : A) (b : B) (r : Result A B) → r ≡ Ok a → r ≡ Err b → ⊥
ok-err a b r e f = cc

ok-is : {A B : Type 0} (a b : A) (r : Result A B) → r ≡ Ok a → r ≡ Ok b → a ≡ b
ok-is a b r e f = cc

-- what follows items is what is left of the items
pub record Rest (t u : BlocksRead) (xs ys : List Item) (rest : List Token) : Type 0 where
  pub left : List Item
  pub whole : ys ≡ xs ++ left
  pub tokens : rest ≡ words left
  pub runs : items_run t left ≡ Some u
  pub items : AllItems left

pub prefix : (s t u : BlocksRead) (xs ys : List Item) (rest : List Token) → AllItems xs → AllItems ys → items_run s xs ≡ Some t → items_run s ys ≡ Some u → words xs ++ rest ≡ words ys → Rest t u xs ys rest
prefix s t u [] ys rest i j e f w = record { left = ys; whole = refl; tokens = w; runs = subst (λ (v : BlocksRead). items_run v ys ≡ Some u) (same_Some s t e) f; items = j }
prefix s t u (x ∷ xs) [] rest i j e f w =
    let m = some-and (step s x) (λ v. items_run v xs) t e in
    let a = again-step s m.0 x (words xs ++ rest) i.0 m.1 in
    let n : item_at (mode s) [] ≡ Ok (x, words xs ++ rest) = subst (λ (ts : List Token). item_at (mode s) ts ≡ Ok (x, words xs ++ rest)) (sym (append_assoc (item_words x) (words xs) rest) ∙ w) a in
    absurd (ok-err (x, words xs ++ rest) [] (item_at (mode s) []) n refl)
prefix s t u (x ∷ xs) (y ∷ ys) rest i j e f w =
    let m = some-and (step s x) (λ v. items_run v xs) t e in
    let n = some-and (step s y) (λ v. items_run v ys) u f in
    let both : item_words x ++ (words xs ++ rest) ≡ item_words y ++ words ys = sym (append_assoc (item_words x) (words xs) rest) ∙ w in
    let pair = ok-is (x, words xs ++ rest) (y, words ys) (item_at (mode s) (item_words x ++ (words xs ++ rest))) (again-step s m.0 x (words xs ++ rest) i.0 m.1) (ap (item_at (mode s)) both ∙ again-step s n.0 y (words ys) j.0 n.1) in
    let same : x ≡ y = ap (λ (p : Item × List Token). p.0) pair in
    let state : n.0 ≡ m.0 = same_Some n.0 m.0 (sym n.1 ∙ ap (step s) (sym same) ∙ m.1) in
    let more = prefix m.0 t u xs ys rest i.1 j.1 m.2 (subst (λ (v : BlocksRead). items_run v ys ≡ Some u) state n.2) (ap (λ (p : Item × List Token). p.1) pair) in
    record { left = more.left; whole = ap (λ z. z ∷ ys) (sym same) ∙ ap (λ zs. x ∷ zs) more.whole; tokens = more.tokens; runs = more.runs; items = more.items }

-- items and the state that they lead to
pub record HasRun (xs : List Item) (s : BlocksRead) : Type 0 where
  pub items : AllItems xs
  pub runs : items_run start xs ≡ Some s

-- a script that begins with the tokens of items goes on with items
pub goes-on : (xs : List Item) (s : BlocksRead) (rest : List Token) (ts : Block) → HasRun xs s → AllInRange ts → words xs ++ rest ≡ spellings ts → Rest s (free [] ts) xs (all_items ts) rest
goes-on xs s rest ts h f e = prefix start s (free [] ts) xs (all_items ts) rest h.items (fit-items ts f) h.runs (run-whole ts) (e ∙ sym (words-all ts))

-- tokens at which the reader of items fails go on no script
no-items : (s u : BlocksRead) (left : List Item) (rest bad : List Token) → (rest ≡ [] → s ≡ u → ⊥) → item_at (mode s) rest ≡ Err bad → rest ≡ words left → items_run s left ≡ Some u → AllItems left → ⊥
no-items s u [] rest bad n e w r i = n w (same_Some s u r)
no-items s u (x ∷ xs) rest bad n e w r i =
    let m = some-and (step s x) (λ v. items_run v xs) u r in
    ok-err (x, words xs) bad (item_at (mode s) rest) (ap (item_at (mode s)) w ∙ again-step s m.0 x (words xs) i.0 m.1) e

not-nil : (front more : List Token) (b : Token) → front ++ b ∷ more ≡ [] → ⊥
not-nil [] more b e = cc
not-nil (t ∷ ts) more b e = cc

-- items run and one more completes to a script
begins-script : (xs : List Item) (s t : BlocksRead) (x : Item) (front rest : List Token) → HasRun xs s → IsItem x → step s x ≡ Some t → front ++ rest ≡ item_words x → BeginsScript (words xs ++ front)
begins-script xs s t x front rest h i e w =
    let tail = closes_all t.waits t.outer in
    let d = ends-run t.outer t.so_far t.waits in
    let all : AllItems (xs ++ x ∷ tail) = all-append xs (x ∷ tail) h.items (i, ends-items t.waits t.outer) in
    let r : items_run start (xs ++ x ∷ tail) ≡ Some (free [] d.0) = run-on start s xs (x ∷ tail) (Some (free [] d.0)) h.runs (ap (option_and_then (λ v. items_run v tail)) e ∙ d.1) in
    let same : xs ++ x ∷ tail ≡ all_items d.0 = sound (xs ++ x ∷ tail) d.0 all r in
    record {
      rest = rest ++ words tail;
      script = d.0;
      fits = items-fit d.0 (subst AllItems same all);
      whole = append_assoc (words xs) front (rest ++ words tail)
          ∙ ap (λ us. words xs ++ us) (sym (append_assoc front rest (words tail)) ∙ ap (λ us. us ++ words tail) w)
          ∙ sym (words-append xs (x ∷ tail))
          ∙ ap words same
          ∙ words-all d.0;
    }

refused-front : (xs : List Item) (s : BlocksRead) (front : List Token) → HasRun xs s → Completes (item_at (mode s)) front → BeginsScript (words xs ++ front)
refused-front xs s front h c =
    let k = takes (mode s) (front ++ (c.rest ++ [])) (c.value, []) (c.reads []) in
    let t = ready-in s.outer s.so_far s.waits c.value k.0.1 in
    begins-script xs s t.0 c.value front (c.rest ++ []) h k.0.0 t.1 (k.1 ∙ append-nil (item_words c.value))

-- where the reader of items fails is the place
pub place : (xs : List Item) (s : BlocksRead) (rest bad : List Token) → HasRun xs s → ((us : Block) → rest ≡ [] → s ≡ free [] us → ⊥) → item_at (mode s) rest ≡ Err bad → IsPlace (words xs ++ rest) bad
place xs s rest bad h n e =
    let r : Refuses (item_at (mode s)) rest bad = subst (λ (o : Result (Item × List Token) (List Token)). Judged (item_at (mode s)) rest o) e ((local-item (mode s)).judged rest) in
    record {
      front = words xs ++ r.front;
      whole = ap (λ us. words xs ++ us) r.whole ∙ sym (append_assoc (words xs) r.front bad);
      begins = refused-front xs s r.front h r.completes;
      stops = λ b after more i ts f w.
          let g = goes-on xs s (r.front ++ b ∷ more) ts h f (sym (append_assoc (words xs) r.front (b ∷ more)) ∙ w) in
          no-items s (free [] ts) g.left (r.front ++ b ∷ more) (b ∷ more) (λ z q. not-nil r.front more b z) (r.again b after more i) g.tokens g.runs g.items;
      at_end = λ i ts f w.
          let g = goes-on xs s rest ts h f w in
          no-items s (free [] ts) g.left rest bad (n ts) e g.tokens g.runs g.items;
    }

-- of two ways to part a list, one parts it later
record Later (f a g b : List Token) : Type 0 where
  between : List Token
  front : g ≡ f ++ between
  rest : a ≡ between ++ b

later-more : (x y : Token) (f a g b : List Token) → x ≡ y → Later f a g b → Later (x ∷ f) a (y ∷ g) b
later-more x y f a g b e l = record { between = l.between; front = ap (λ z. z ∷ g) (sym e) ∙ ap (λ us. x ∷ us) l.front; rest = l.rest }

more-either : (x y : Token) (f a g b : List Token) → x ≡ y → Later f a g b ⊎ Later g b f a → Later (x ∷ f) a (y ∷ g) b ⊎ Later (y ∷ g) b (x ∷ f) a
more-either x y f a g b e (inl l) = inl (later-more x y f a g b e l)
more-either x y f a g b e (inr l) = inr (later-more y x g b f a (sym e) l)

head-is : (x y : Token) (xs ys : List Token) → x ∷ xs ≡ y ∷ ys → x ≡ y
head-is x y xs ys e = cc

rest-is : (x y : Token) (xs ys : List Token) → x ∷ xs ≡ y ∷ ys → xs ≡ ys
rest-is x y xs ys e = cc

parts : (f a g b : List Token) → f ++ a ≡ g ++ b → Later f a g b ⊎ Later g b f a
parts [] a g b e = inl (record { between = g; front = refl; rest = e })
parts (x ∷ f) a [] b e = inr (record { between = x ∷ f; front = refl; rest = sym e })
parts (x ∷ f) a (y ∷ g) b e = more-either x y f a g b (head-is x y (f ++ a) (g ++ b) e) (parts f a g b (rest-is x y (f ++ a) (g ++ b) e))

not-later : (tokens a b : List Token) (p : IsPlace tokens a) (q : IsPlace tokens b) → Later p.front a q.front b → a ≡ b
not-later tokens a b p q l = by l.between l.front l.rest
  where
    by : (c : List Token) → q.front ≡ p.front ++ c → a ≡ c ++ b → a ≡ b
    by [] e f = f
    by (t ∷ c) e f = absurd (p.stops t (c ++ b) (c ++ q.begins.rest) f q.begins.script q.begins.fits (sym (append_assoc p.front (t ∷ c) q.begins.rest) ∙ ap (λ us. us ++ q.begins.rest) (sym e) ∙ q.begins.whole))

either-later : (tokens a b : List Token) (p : IsPlace tokens a) (q : IsPlace tokens b) → Later p.front a q.front b ⊎ Later q.front b p.front a → a ≡ b
either-later tokens a b p q (inl l) = not-later tokens a b p q l
either-later tokens a b p q (inr l) = sym (not-later tokens b a q p l)

-- there is one place
pub one-place : (tokens a b : List Token) → IsPlace tokens a → IsPlace tokens b → a ≡ b
one-place tokens a b p q = either-later tokens a b p q (parts p.front a q.front b (sym p.whole ∙ q.whole))

-- a script has none
no-place-in : (ts : Block) (bad : List Token) → AllInRange ts → IsPlace (spellings ts) bad → (c : List Token) → bad ≡ c → ⊥
no-place-in ts bad f p [] e = p.at_end e ts f refl
no-place-in ts bad f p (b ∷ rest) e = p.stops b rest rest e ts f (ap (λ us. p.front ++ us) (sym e) ∙ sym p.whole)

pub no-place : (ts : Block) (bad : List Token) → AllInRange ts → IsPlace (spellings ts) bad → ⊥
no-place ts bad f p = no-place-in ts bad f p bad refl

-- tokens spell one tree
one-tree-by : (ts us : Block) (left : List Item) → [] ≡ words left → items_run (free [] ts) left ≡ Some (free [] us) → AllItems left → ts ≡ us
one-tree-by ts us [] w r i = ap (λ (s : BlocksRead). s.so_far) (same_Some (free [] ts) (free [] us) r)
one-tree-by ts us (x ∷ xs) w r i =
    let m = some-and (step (free [] ts) x) (λ v. items_run v xs) (free [] us) r in
    absurd (ok-err (x, words xs) [] (item_at Outermost []) (ap (item_at Outermost) w ∙ again-step (free [] ts) m.0 x (words xs) i.0 m.1) refl)

pub one-tree : (ts us : Block) → AllInRange ts → AllInRange us → spellings ts ≡ spellings us → ts ≡ us
one-tree ts us f g e =
    let r = goes-on (all_items ts) (free [] ts) [] us (record { items = fit-items ts f; runs = run-whole ts }) g (append-nil (words (all_items ts)) ∙ words-all ts ∙ e) in
    one-tree-by ts us r.left r.tokens r.runs r.items

-- a state that has read all is a script's
pub script-read : (xs : List Item) (ts : Block) → HasRun xs (free [] ts) → AllInRange ts × (words xs ≡ spellings ts)
script-read xs ts h =
    let e = sound xs ts h.items h.runs in
    (items-fit ts (subst AllItems e h.items), ap words e ∙ words-all ts)

-- one item more
pub run-more : (xs : List Item) (s : BlocksRead) (rest : List Token) (x : Item) (after : List Token) → HasRun xs s → item_at (mode s) rest ≡ Ok (x, after) → (t : BlocksRead) × HasRun (xs ++ x ∷ []) t × (words xs ++ rest ≡ words (xs ++ x ∷ []) ++ after)
run-more xs s rest x after h e =
    let k = takes (mode s) rest (x, after) e in
    let t = ready-in s.outer s.so_far s.waits x k.0.1 in (
      t.0,
      record { items = all-append xs (x ∷ []) h.items (k.0.0, tt); runs = run-on start s xs (x ∷ []) (Some t.0) h.runs (ap (option_and_then (λ v. Some v)) t.1) },
      ap (λ us. words xs ++ us) k.1
          ∙ sym (append_assoc (words xs) (item_words x) after)
          ∙ ap (λ us. us ++ after) (ap (λ us. words xs ++ us) (sym (append-nil (item_words x))) ∙ sym (words-append xs (x ∷ []))),
    )
