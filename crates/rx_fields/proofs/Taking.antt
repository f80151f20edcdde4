-- The next word, taken where it is an item.
use Rattle.std.proofs.Common.{◌≡◌, ℕ, ◌+◌, ◌*◌, ◌/◌, ◌<◌, ◌≤◌, ◌^◌, Bool, true, false, cond, ◌||◌, ◌==◌, List, [], ◌∷◌, ◌++◌, length, refl, ap, sym, ◌∙◌, subst, arith, append_assoc, append-nil, Option, Some, None, option_map, filter}
use Rattle.std.specs.List.{AllByRecursion}
use Rattle.std.specs.Str.{bytes_eq}
use Rattle.rx_base.specs.declared.ids.PlaceId.{PlaceId}
use Rattle.rx_base.specs.declared.place_set.PlaceSet.{PlaceSet}
use Rattle.rx_base.specs.Sets.{all_places, has_bit, members}
use Rattle.rx_base.proofs.Members.{same-sets}
use Rattle.std.proofs.Math.Nat.{lt-div-mul-add}
use Rattle.std.proofs.lemmas.Nat.{pow_pos}
use Rattle.std.proofs.lemmas.Bool.{lt-ltb}
use Rattle.std.proofs.lemmas.Option.{same_Some, none-some}
use Rattle.rx_fields.specs.Inside.FieldWords.{number_below, place_of}
use Rattle.rx_fields.specs.Inside.Readers.{Reader, either, gathered, many, one_or_more, part}
use Rattle.rx_fields.specs.Words.{first_word}
use Rattle.rx_fields.specs.Inside.PartWords.{set_of, place_joined, places_at, key_of, left_of, item_of}
use Rattle.rx_fields.proofs.Bits.{joined-low, joined-bit}
use Rattle.rx_fields.proofs.Figures.{below-takes}

-- the first word is an item
pub item-first : {A : Type 0} (of : List ℕ → Option A) (ws new : List (List ℕ)) (w : List ℕ) (a : A) → Some (w, new) ≡ first_word ws → of w ≡ Some a → (Some a, new) ≡ item_of of ws
item-first of [] new w a first is = absurd (none-some (w, new) (sym first))
item-first of (v ∷ ws) new w a first is =
    let same : w ≡ v = ap (λ x. x.0) (same_Some (w, new) (v, ws) first) in
    let left : new ≡ ws = ap (λ x. x.1) (same_Some (w, new) (v, ws) first) in
    ap (λ n. (Some a, n)) left ∙ sym (ap (λ o. left_of o v ws) (ap of (sym same) ∙ is))

-- the first word is none
pub no-item-first : {A : Type 0} (of : List ℕ → Option A) (ws new : List (List ℕ)) (w : List ℕ) (r : Option A) → Some (w, new) ≡ first_word ws → of w ≡ None → r ≡ None → (r, ws) ≡ item_of of ws
no-item-first of [] new w r first is none = absurd (none-some (w, new) (sym first))
no-item-first of (v ∷ ws) new w r first is none =
    let same : w ≡ v = ap (λ x. x.0) (same_Some (w, new) (v, ws) first) in
    ap (λ o. (o, v ∷ ws)) none ∙ sym (ap (λ o. left_of o v ws) (ap of (sym same) ∙ is))

abbrev paired : {A B : Type 0} → A → B → A × B
paired a b = (a, b)

pair-first : {A B : Type 0} (a c : A) (b d : B) → paired a b ≡ paired c d → a ≡ c
pair-first {A = A} {B = B} a c b d e = ap (λ (x : A × B). x.0) e

pair-second : {A B : Type 0} (a c : A) (b d : B) → paired a b ≡ paired c d → b ≡ d
pair-second {A = A} {B = B} a c b d e = ap (λ (x : A × B). x.1) e

-- an item was taken
pub record Took {A : Type 0} (of : List ℕ → Option A) (ws : List (List ℕ)) (a : A) (new : List (List ℕ)) : Type 0 where
  pub text : List ℕ
  pub whole : ws ≡ text ∷ new
  pub reads : of text ≡ Some a

pub took : {A : Type 0} (of : List ℕ → Option A) (ws new : List (List ℕ)) (a : A) → (Some a, new) ≡ item_of of ws → Took of ws a new
took of [] new a e = absurd (none-some a (sym (pair-first (Some a) None new [] e)))
took {A} of (w ∷ ws) new a e = by (of w) refl e
  where
    by : (o : Option A) → of w ≡ o → (Some a, new) ≡ left_of o w ws → Took of (w ∷ ws) a new
    by None is f = absurd (none-some a (sym (pair-first (Some a) None new (w ∷ ws) f)))
    by (Some b) is f = record { text = w; whole = ap (λ vs. w ∷ vs) (sym (pair-second (Some a) (Some b) new ws f)); reads = is ∙ sym (pair-first (Some a) (Some b) new ws f) }

pub took-shorter : {A : Type 0} (of : List ℕ → Option A) (ws new : List (List ℕ)) (a : A) → (Some a, new) ≡ item_of of ws → length new < length ws
took-shorter of ws new a e = let t = took of ws new a e in omega (arith, ap length t.whole)

pub took-many : {A : Type 0} (of : List ℕ → Option A) (ws new : List (List ℕ)) (a : A) → (Some a, new) ≡ item_of of ws → many of ws ≡ (a ∷ (many of new).0, (many of new).1)
took-many of ws new a e = let t = took of ws new a e in ap (many of) t.whole ∙ ap (λ o. gathered o t.text new (many of new)) t.reads

none-many : {A : Type 0} (of : List ℕ → Option A) (ws new : List (List ℕ)) → (None, new) ≡ item_of of ws → many of ws ≡ ([], new)
none-many {A} of [] new e = ap (λ vs. ([], vs)) (sym (pair-second {A = Option A} {B = List (List ℕ)} None None new [] e))
none-many {A} of (w ∷ ws) new e = by (of w) refl e
  where
    by : (o : Option A) → of w ≡ o → (None, new) ≡ left_of o w ws → gathered o w ws (many of ws) ≡ ([], new)
    by None is f = ap (λ vs. ([], vs)) (sym (pair-second {A = Option A} {B = List (List ℕ)} None None new (w ∷ ws) f))
    by (Some b) is f = absurd (none-some b (pair-first None (Some b) new ws f))

-- the items so far and those that are left are all
abbrev pub AreAll : {A : Type 0} → (List ℕ → Option A) → List A → List (List ℕ) → List (List ℕ) → Type 0
AreAll of xs ws all = (xs ++ (many of ws).0 ≡ (many of all).0) × ((many of ws).1 ≡ (many of all).1)

pub took-more : {A : Type 0} (of : List ℕ → Option A) (xs more : List A) (ws new all : List (List ℕ)) (a : A) → AreAll of xs ws all → (Some a, new) ≡ item_of of ws → more ≡ xs ++ a ∷ [] → AreAll of more new all
took-more of xs more ws new all a h e is =
    let m = took-many of ws new a e in (
      ap (λ ys. ys ++ (many of new).0) is ∙ append_assoc xs (a ∷ []) (many of new).0 ∙ ap (λ p. xs ++ p.0) (sym m) ∙ h.0,
      ap (λ p. p.1) (sym m) ∙ h.1,
    )

key-taken : (key : List ℕ) (ws mid : List (List ℕ)) → (true, mid) ≡ key_of key ws → (w : List ℕ) × (ws ≡ w ∷ mid) × (bytes_eq w key ≡ true)
key-taken key [] mid e = absurd (let t : true ≡ false = pair-first true false mid [] e in not-true t)
  where
    not-true : true ≡ false → ⊥
    not-true t = cc
key-taken key (w ∷ ws) mid e = by (bytes_eq w key) refl e
  where
    not-true : true ≡ false → ⊥
    not-true t = cc

    by : (b : Bool) → bytes_eq w key ≡ b → paired true mid ≡ cond b (paired true ws) (paired false (w ∷ ws)) → (v : List ℕ) × (w ∷ ws ≡ v ∷ mid) × (bytes_eq v key ≡ true)
    by true h f = (w, ap (λ vs. w ∷ vs) (sym (pair-second true true mid ws f)), h)
    by false h f = absurd (not-true (pair-first true false mid (w ∷ ws) f))

part-is : {A : Type 0} (key : List ℕ) (of : List ℕ → Option A) (xs : List A) (ws mid last new : List (List ℕ)) → (true, mid) ≡ key_of key ws → AreAll of xs last mid → (None, new) ≡ item_of of last → part key of ws ≡ one_or_more (xs, new)
part-is {A} key of xs ws mid last new k all e =
    let t = key-taken key ws mid k in
    let n = none-many of last new e in
    let items : (many of mid).0 ≡ xs = sym (ap (λ p. xs ++ p.0) (sym n) ∙ all.0) ∙ append-nil xs in
    let left : (many of mid).1 ≡ new = sym all.1 ∙ ap (λ p. p.1) n in
    ap (part key of) t.1 ∙ ap (λ b. cond b (one_or_more (many of mid)) (Some ([], t.0 ∷ mid))) t.2
    ∙ ap (λ ys. one_or_more (ys, (many of mid).1)) items ∙ ap (λ vs. one_or_more (xs, vs)) left

pub part-none : {A : Type 0} (key : List ℕ) (of : List ℕ → Option A) (xs : List A) (ws mid last new : List (List ℕ)) → (true, mid) ≡ key_of key ws → AreAll of xs last mid → (None, new) ≡ item_of of last → length xs ≡ 0 → None ≡ part key of ws
part-none key of [] ws mid last new k all e none = sym (part-is key of [] ws mid last new k all e)
part-none key of (x ∷ xs) ws mid last new k all e none = absurd (omega arith)

pub part-some : {A : Type 0} (key : List ℕ) (of : List ℕ → Option A) (xs : List A) (ws mid last new : List (List ℕ)) → (true, mid) ≡ key_of key ws → AreAll of xs last mid → (None, new) ≡ item_of of last → (length xs ≡ 0 → ⊥) → Some (xs, new) ≡ part key of ws
part-some key of [] ws mid last new k all e some = absurd (some refl)
part-some key of (x ∷ xs) ws mid last new k all e some = sym (part-is key of (x ∷ xs) ws mid last new k all e)

same-filter : (f g : ℕ → Bool) (xs : List ℕ) → AllByRecursion (λ i. i < 16) xs → ((i : ℕ) → i < 16 → f i ≡ g i) → filter f xs ≡ filter g xs
same-filter f g [] all h = refl
same-filter f g (x ∷ xs) all h = ap (λ b. cond b (x ∷ filter f xs) (filter f xs)) (h x all.0) ∙ ap (λ ys. cond (g x) (x ∷ ys) ys) (same-filter f g xs all.1 h)

places-low : AllByRecursion (λ i. i < 16) all_places
places-low = (omega arith, (omega arith, (omega arith, (omega arith, (omega arith, (omega arith, (omega arith, (omega arith, (omega arith, (omega arith, (omega arith, (omega arith, (omega arith, (omega arith, (omega arith, (omega arith, tt))))))))))))))))

-- a place joins the set
set-joined : (set result : PlaceSet) (p : ℕ) → set.0 < 2 ^ p → p < 16 → result.0 < 2 ^ 16 → ((q : ℕ) → q < 16 → has_bit result.0 q ≡ (has_bit set.0 q || (p == q))) → result.0 ≡ set.0 + 2 ^ p
set-joined set result p low few small bits =
    let sum : PlaceSet = set_of (set.0 + 2 ^ p) in
    let same : members result ≡ members sum = same-filter (has_bit result.0) (has_bit (set.0 + 2 ^ p)) all_places places-low (λ q below. bits q below ∙ sym (joined-bit set.0 p q low)) in
    ap (λ (s : PlaceSet). s.0) (same-sets result sum small (joined-low set.0 p 16 low few) same)

-- a place that a word spells is there
place-inside : (places : ℕ) (w : List ℕ) (p : PlaceId) → place_of places w ≡ Some p → p.0 < places
place-inside places w p e = by (number_below places w) refl e
  where
    place : ℕ → PlaceId
    place n = record { 0 = n }

    by : (o : Option ℕ) → number_below places w ≡ o → option_map place o ≡ Some p → p.0 < places
    by None is f = absurd (none-some p f)
    by (Some n) is f = subst (λ (q : PlaceId). q.0 < places) (same_Some (place n) p f) (below-takes places w n is).1

pub joined-more : (places : ℕ) (set result : PlaceSet) (p : PlaceId) (ws new all : List (List ℕ)) → places ≤ 16 → places_at places set.0 ws ≡ places_at places 0 all → (Some p, new) ≡ item_of (place_of places) ws → set.0 < 2 ^ p.0 → result.0 < 2 ^ 16 → ((q : ℕ) → q < 16 → has_bit result.0 q ≡ (has_bit set.0 q || (p.0 == q))) → places_at places result.0 new ≡ places_at places 0 all
joined-more places set result p ws new all few left e low small bits =
    let t = took (place_of places) ws new p e in
    let inside : p.0 < places = place-inside places t.text p t.reads in
    ap (λ n. places_at places n new) (set-joined set result p.0 low (omega arith) small bits)
    ∙ sym (ap (places_at places set.0) t.whole ∙ ap (λ o. place_joined o set.0 t.text new (λ n. places_at places n new)) t.reads ∙ ap (λ b. cond b (places_at places (set.0 + 2 ^ p.0) new) None) (lt-ltb set.0 (2 ^ p.0) low))
    ∙ left

-- what the answer of a call is
pub took-as : {A : Type 0} (of : List ℕ → Option A) (ws new : List (List ℕ)) (r : Option A) (a : A) → (r, new) ≡ item_of of ws → r ≡ Some a → (Some a, new) ≡ item_of of ws
took-as of ws new r a e is = ap (λ o. (o, new)) (sym is) ∙ e

pub none-as : {A : Type 0} (of : List ℕ → Option A) (ws new : List (List ℕ)) (r : Option A) → (r, new) ≡ item_of of ws → r ≡ None → (None, new) ≡ item_of of ws
none-as of ws new r e is = ap (λ o. (o, new)) (sym is) ∙ e

pub key-as : (key : List ℕ) (ws new : List (List ℕ)) (b : Bool) → (b, new) ≡ key_of key ws → b ≡ true → (true, new) ≡ key_of key ws
key-as key ws new b e is = ap (λ t. (t, new)) (sym is) ∙ e

pub below-power : (n p : ℕ) → n / 2 ^ p ≡ 0 → n < 2 ^ p
below-power n p e =
    let h : n < n / 2 ^ p * 2 ^ p + 2 ^ p = lt-div-mul-add (pow_pos p) in
    let k : n < 0 * 2 ^ p + 2 ^ p = subst (λ q. n < q * 2 ^ p + 2 ^ p) e h in
    omega arith

-- the first word is another
pub other-word : {A : Type 0} (key : List ℕ) (r other : Reader A) (words new : List (List ℕ)) (b : Bool) → (b, new) ≡ key_of key words → b ≡ false → other [] ≡ None → other new ≡ either key r other words
other-word key r other [] new b e is none = ap other (pair-second b false new [] e) ∙ none
other-word {A} key r other (w ∷ ws) new b e is none = by (bytes_eq w key) refl e
  where
    clash : true ≡ false → ⊥
    clash t = cc

    by : (t : Bool) → bytes_eq w key ≡ t → paired b new ≡ cond t (paired true ws) (paired false (w ∷ ws)) → other new ≡ cond t (r ws) (other (w ∷ ws))
    by true h f = absurd (clash (sym (pair-first b true new ws f) ∙ is))
    by false h f = ap other (pair-second b false new (w ∷ ws) f)
