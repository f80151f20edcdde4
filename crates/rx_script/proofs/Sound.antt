-- Items that run to a list of statements are its items.
use Rattle.std.proofs.Common.{◌≡◌, List, [], ◌∷◌, ◌++◌, refl, ap, sym, ◌∙◌, subst, append_assoc, append-nil, Some}
use Rattle.std.proofs.lemmas.Option.{same_Some}
use Rattle.rx_rules.proofs.Common.{Stmt, Block, Nothing, Then, New, Async, AtAsync, At, Finish, If, Repeat, Try}
use Rattle.rx_syntax.specs.Grammar.{InRange, AllInRange}
use Rattle.rx_script.specs.Inside.Items.{ByAsync, ByAtAsync, ByAt, ByFinish, ByIf, ByRepeat, ByTry, Item, Whole, Open, Close, Else, Catch, IsItem, IsSimple}
use Rattle.rx_script.specs.Inside.Machine.{added, Frame, Fore, Other, Handler, Waits, Free, ForElse, ForCatch, BlocksRead, free, ended, closed, item_stepped, step, items_run}
use Rattle.rx_script.proofs.Runs.{items_of, all_items, some-and, start}

-- each of them is an item that a script can have
abbrev pub AllItems : List Item → Type 0
AllItems [] = Unit {0}
AllItems (x ∷ xs) = IsItem x × AllItems xs

-- the items of a state
abbrev frame_items : Frame → List Item
frame_items (Fore o) = Open o ∷ []
frame_items (Other e a) = Open (ByIf e) ∷ (all_items a ++ Close ∷ Else ∷ [])
frame_items (Handler a d) = Open ByTry ∷ (all_items a ++ Close ∷ Catch d ∷ [])

abbrev waits_items : Waits → List Item
waits_items Free = []
waits_items (ForElse e a) = Open (ByIf e) ∷ (all_items a ++ Close ∷ [])
waits_items (ForCatch a) = Open ByTry ∷ (all_items a ++ Close ∷ [])

abbrev before : List (Block × Frame) → List Item
before [] = []
before (f ∷ outer) = (before outer ++ all_items f.0) ++ frame_items f.1

abbrev read_by : BlocksRead → List Item
read_by s = (before s.outer ++ all_items s.so_far) ++ waits_items s.waits

items-added : (ts : Block) (t : Stmt) → all_items (added ts t) ≡ all_items ts ++ items_of t
items-added Nothing t = append-nil (items_of t)
items-added (Then u us) t = ap (λ xs. items_of u ++ xs) (items-added us t) ∙ sym (append_assoc (items_of u) (all_items us) (items_of t))

items-simple : (s : Stmt) → IsSimple s → items_of s ≡ Whole s ∷ []
items-simple (Async b) i = absurd i
items-simple (AtAsync e b) i = absurd i
items-simple (At e b) i = absurd i
items-simple (Finish b) i = absurd i
items-simple (If e a b) i = absurd i
items-simple (Repeat n b) i = absurd i
items-simple (Try a d b) i = absurd i
items-simple _ i = refl

ends-block : (p q all front b : List Item) (x : Item) → all ≡ q ++ (front ++ (b ++ x ∷ [])) → (p ++ all) ++ [] ≡ ((((p ++ q) ++ front) ++ b) ++ []) ++ x ∷ []
ends-block p q all front b x e = ap (λ us. (p ++ us) ++ []) e ∙ (simp (append_assoc, append-nil))

read-end : (outer : List (Block × Frame)) (ts : Block) (t : Stmt) (front : List Item) (b : Block) → items_of t ≡ front ++ (all_items b ++ Close ∷ []) → (before outer ++ all_items (added ts t)) ++ [] ≡ ((((before outer ++ all_items ts) ++ front) ++ all_items b) ++ []) ++ Close ∷ []
read-end outer ts t front b e = ends-block (before outer) (all_items ts) (all_items (added ts t)) front (all_items b) Close (items-added ts t ∙ ap (λ us. all_items ts ++ us) e)

waits-end : (p b : List Item) (o : Item) → p ++ o ∷ (b ++ Close ∷ []) ≡ (((p ++ o ∷ []) ++ b) ++ []) ++ Close ∷ []
waits-end p b o = simp (append_assoc, append-nil)

waits-on : (p b : List Item) (o x : Item) → ((p ++ o ∷ (b ++ Close ∷ x ∷ [])) ++ []) ++ [] ≡ (p ++ o ∷ (b ++ Close ∷ [])) ++ x ∷ []
waits-on p b o x = simp (append_assoc, append-nil)

read-ended : (outer : List (Block × Frame)) (ts : Block) (f : Frame) (b : Block) → read_by (ended outer ts f b) ≡ ((((before outer ++ all_items ts) ++ frame_items f) ++ all_items b) ++ []) ++ Close ∷ []
read-ended outer ts (Fore ByAsync) b = read-end outer ts (Async b) (Open ByAsync ∷ []) b refl
read-ended outer ts (Fore (ByAtAsync e)) b = read-end outer ts (AtAsync e b) (Open (ByAtAsync e) ∷ []) b refl
read-ended outer ts (Fore (ByAt e)) b = read-end outer ts (At e b) (Open (ByAt e) ∷ []) b refl
read-ended outer ts (Fore ByFinish) b = read-end outer ts (Finish b) (Open ByFinish ∷ []) b refl
read-ended outer ts (Fore (ByIf e)) b = waits-end (before outer ++ all_items ts) (all_items b) (Open (ByIf e))
read-ended outer ts (Fore (ByRepeat n)) b = read-end outer ts (Repeat n b) (Open (ByRepeat n) ∷ []) b refl
read-ended outer ts (Fore ByTry) b = waits-end (before outer ++ all_items ts) (all_items b) (Open ByTry)
read-ended outer ts (Other e a) b = read-end outer ts (If e a b) (frame_items (Other e a)) b (ap (λ us. Open (ByIf e) ∷ us) (sym (append_assoc (all_items a) (Close ∷ Else ∷ []) (all_items b ++ Close ∷ []))))
read-ended outer ts (Handler a d) b = read-end outer ts (Try a d b) (frame_items (Handler a d)) b (ap (λ us. Open ByTry ∷ us) (sym (append_assoc (all_items a) (Close ∷ Catch d ∷ []) (all_items b ++ Close ∷ []))))

read-closed : (outer : List (Block × Frame)) (b : Block) (t : BlocksRead) → closed outer b ≡ Some t → read_by t ≡ ((before outer ++ all_items b) ++ []) ++ Close ∷ []
read-closed [] b t e = cc
read-closed (f ∷ outer) b t e = subst (λ (u : BlocksRead). read_by u ≡ ((before (f ∷ outer) ++ all_items b) ++ []) ++ Close ∷ []) (same_Some _ t e) (read-ended outer f.0 f.1 b)

adds-whole : (p q all : List Item) (x : Item) → all ≡ q ++ x ∷ [] → (p ++ all) ++ [] ≡ ((p ++ q) ++ []) ++ x ∷ []
adds-whole p q all x e = ap (λ us. (p ++ us) ++ []) e ∙ (simp (append_assoc, append-nil))

adds-open : (p : List Item) (x : Item) → ((p ++ x ∷ []) ++ []) ++ [] ≡ (p ++ []) ++ x ∷ []
adds-open p x = simp (append_assoc, append-nil)

read-stepped : (outer : List (Block × Frame)) (ts : Block) (w : Waits) (x : Item) (t : BlocksRead) → IsItem x → item_stepped outer ts w x ≡ Some t → read_by t ≡ ((before outer ++ all_items ts) ++ waits_items w) ++ x ∷ []
read-stepped outer ts Free (Whole s) t i e =
    subst (λ (u : BlocksRead). read_by u ≡ ((before outer ++ all_items ts) ++ []) ++ Whole s ∷ []) (same_Some _ t e)
    (adds-whole (before outer) (all_items ts) (all_items (added ts s)) (Whole s) (items-added ts s ∙ ap (λ us. all_items ts ++ us) (items-simple s i)))
read-stepped outer ts Free (Open o) t i e =
    subst (λ (u : BlocksRead). read_by u ≡ ((before outer ++ all_items ts) ++ []) ++ Open o ∷ []) (same_Some _ t e)
    (adds-open (before outer ++ all_items ts) (Open o))
read-stepped outer ts Free Close t i e = read-closed outer ts t e
read-stepped outer ts (ForElse c a) Else t i e =
    subst (λ (u : BlocksRead). read_by u ≡ ((before outer ++ all_items ts) ++ waits_items (ForElse c a)) ++ Else ∷ []) (same_Some _ t e)
    (waits-on (before outer ++ all_items ts) (all_items a) (Open (ByIf c)) Else)
read-stepped outer ts (ForCatch a) (Catch d) t i e =
    subst (λ (u : BlocksRead). read_by u ≡ ((before outer ++ all_items ts) ++ waits_items (ForCatch a)) ++ Catch d ∷ []) (same_Some _ t e)
    (waits-on (before outer ++ all_items ts) (all_items a) (Open ByTry) (Catch d))
read-stepped outer ts _ _ t i e = cc

read-run : (s : BlocksRead) (xs : List Item) (t : BlocksRead) → AllItems xs → items_run s xs ≡ Some t → read_by t ≡ read_by s ++ xs
read-run s [] t i e = subst (λ (u : BlocksRead). read_by u ≡ read_by s ++ []) (same_Some _ t e) (sym (append-nil (read_by s)))
read-run s (x ∷ xs) t i e =
    let m = some-and (step s x) (λ u. items_run u xs) t e in
    read-run m.0 xs t i.1 m.2 ∙ ap (λ ys. ys ++ xs) (read-stepped s.outer s.so_far s.waits x m.0 i.0 m.1) ∙ append_assoc (read_by s) (x ∷ []) xs

-- items that run to a list of statements are its items
pub sound : (xs : List Item) (ts : Block) → AllItems xs → items_run start xs ≡ Some (free [] ts) → xs ≡ all_items ts
sound xs ts i e = sym (read-run start xs (free [] ts) i e) ∙ append-nil (all_items ts)

pub all-append : (xs ys : List Item) → AllItems xs → AllItems ys → AllItems (xs ++ ys)
all-append [] ys i j = j
all-append (x ∷ xs) ys i j = (i.0, all-append xs ys i.1 j)

pub all-front : (xs ys : List Item) → AllItems (xs ++ ys) → AllItems xs
all-front [] ys i = tt
all-front (x ∷ xs) ys i = (i.0, all-front xs ys i.1)

pub all-rest : (xs ys : List Item) → AllItems (xs ++ ys) → AllItems ys
all-rest [] ys i = i
all-rest (x ∷ xs) ys i = all-rest xs ys i.1

-- the numbers are in their ranges where the items are such
mutual
  stmt-items : (t : Stmt) → InRange t → AllItems (items_of t)
  stmt-items (New n k) f = (f, tt)
  stmt-items (Async b) f = (tt, all-append (all_items b) (Close ∷ []) (fit-items b f) (tt, tt))
  stmt-items (AtAsync e b) f = (tt, all-append (all_items b) (Close ∷ []) (fit-items b f) (tt, tt))
  stmt-items (At e b) f = (tt, all-append (all_items b) (Close ∷ []) (fit-items b f) (tt, tt))
  stmt-items (Finish b) f = (tt, all-append (all_items b) (Close ∷ []) (fit-items b f) (tt, tt))
  stmt-items (If e a b) f = (tt, all-append (all_items a) (Close ∷ Else ∷ (all_items b ++ Close ∷ [])) (fit-items a f.0) (tt, (tt, all-append (all_items b) (Close ∷ []) (fit-items b f.1) (tt, tt))))
  stmt-items (Repeat n b) f = (f.0, all-append (all_items b) (Close ∷ []) (fit-items b f.1) (tt, tt))
  stmt-items (Try a d b) f = (tt, all-append (all_items a) (Close ∷ Catch d ∷ (all_items b ++ Close ∷ [])) (fit-items a f.0) (tt, (tt, all-append (all_items b) (Close ∷ []) (fit-items b f.1) (tt, tt))))
  stmt-items _ f = (tt, tt)

  pub fit-items : (ts : Block) → AllInRange ts → AllItems (all_items ts)
  fit-items Nothing f = tt
  fit-items (Then t ts) f = all-append (items_of t) (all_items ts) (stmt-items t f.0) (fit-items ts f.1)

mutual
  items-stmt : (t : Stmt) → AllItems (items_of t) → InRange t
  items-stmt (New n k) i = i.0
  items-stmt (Async b) i = items-fit b (all-front (all_items b) (Close ∷ []) i.1)
  items-stmt (AtAsync e b) i = items-fit b (all-front (all_items b) (Close ∷ []) i.1)
  items-stmt (At e b) i = items-fit b (all-front (all_items b) (Close ∷ []) i.1)
  items-stmt (Finish b) i = items-fit b (all-front (all_items b) (Close ∷ []) i.1)
  items-stmt (If e a b) i = (
    items-fit a (all-front (all_items a) (Close ∷ Else ∷ (all_items b ++ Close ∷ [])) i.1),
    items-fit b (all-front (all_items b) (Close ∷ []) (all-rest (all_items a) (Close ∷ Else ∷ (all_items b ++ Close ∷ [])) i.1).1.1),
  )
  items-stmt (Repeat n b) i = (i.0, items-fit b (all-front (all_items b) (Close ∷ []) i.1))
  items-stmt (Try a d b) i = (
    items-fit a (all-front (all_items a) (Close ∷ Catch d ∷ (all_items b ++ Close ∷ [])) i.1),
    items-fit b (all-front (all_items b) (Close ∷ []) (all-rest (all_items a) (Close ∷ Catch d ∷ (all_items b ++ Close ∷ [])) i.1).1.1),
  )
  items-stmt _ i = tt

  pub items-fit : (ts : Block) → AllItems (all_items ts) → AllInRange ts
  items-fit Nothing i = tt
  items-fit (Then t ts) i = (items-stmt t (all-front (items_of t) (all_items ts) i), items-fit ts (all-rest (items_of t) (all_items ts) i))
