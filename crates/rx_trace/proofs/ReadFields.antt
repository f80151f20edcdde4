-- The fields of a line, each of one word.
use Rattle.std.proofs.Common.{◌≡◌, ℕ, ◌<◌, ◌≤◌, ◌^◌, Bool, true, false, cond, nat_le, List, [], ◌∷◌, ◌++◌, length, refl, ap, sym, ◌∙◌, subst, arith, append_assoc, ◌≢◌, ◌+◌, ◌==◌, IfSome, Option, Some, None, option_map, codes, ℤ, FitsSigned}
use Rattle.std.specs.Int.{w64}
use Rattle.std.specs.List.{AllByRecursion, flat_map}
use Rattle.std.proofs.lemmas.Bool.{eqb-false, eq-eqb, ne_eqb, le-leb}
use Rattle.std.proofs.lemmas.Bool.Decides.{nat_tests}
use Rattle.std.proofs.lemmas.Option.{same_Some, none-some}
use Rattle.rx_rules.proofs.Common.{PlaceId, TaskId, ScopeId, Kill}
use Rattle.rx_text.specs.Numbers.{natural_text, number_text}
use Rattle.rx_text.specs.Paths.{path_text, dotted}
use Rattle.rx_trace.specs.Fields.{natural_field, number_field, path_field, place_field, task_field, scope_field, kill_field}
use Rattle.rx_trace.specs.Limits.{IsShort, FitsPath}
use Rattle.rx_fields.specs.Words.{Lacks, pieces, stripped}
use Rattle.rx_fields.specs.Inside.Readers.{word}
use Rattle.rx_kills.specs.Words.{IsKillWord}
use Rattle.rx_kills.proofs.Spelling.{spelling}
use Rattle.rx_fields.specs.Inside.FieldWords.{next, number_below, number_of, natural_of, place_of, task_spelt, scope_spelt, naturals_of, path_of, kill_of, above_zero, count_of, masked_of}
use Rattle.rx_fields.proofs.Cuts.{IsPlain, Plain, Together, marked, all-append, all-map, pieces-marked, pieces-together, stripped-is, stripped-again}
use Rattle.rx_fields.proofs.Figures.{IsFigure, below-takes, below-again, number-takes, number-again, number-plain, natural-plain, natural-figures}
use Rattle.rx_trace.proofs.Spelt.{Takes, takes-word, Again, Any, again-word, again-as, Item}

-- an answer of two steps
pub record Next {A B : Type 0} (o : Option A) (f : A → Option B) (b : B) : Type 0 where
  pub first : A
  pub was : o ≡ Some first
  pub then_was : f first ≡ Some b

pub next-is : {A B : Type 0} (o : Option A) (f : A → Option B) (b : B) → next o f ≡ Some b → Next o f b
next-is None f b e = absurd (none-some b e)
next-is (Some a) f b e = record { first = a; was = refl; then_was = e }

pub record Mapped {A B : Type 0} (f : A → B) (o : Option A) (b : B) : Type 0 where
  pub value : A
  pub was : o ≡ Some value
  pub is : f value ≡ b

pub map-is : {A B : Type 0} (f : A → B) (o : Option A) (b : B) → option_map f o ≡ Some b → Mapped f o b
map-is f None b e = absurd (none-some b e)
map-is f (Some a) b e = record { value = a; was = refl; is = same_Some (f a) b e }

-- a number
pub natural-item : (n : ℕ) → IsShort n → Item natural_of natural_field n
natural-item n short = record { text = natural_text n; spelled = refl; plain = natural-plain n (omega arith); reads = below-again (2 ^ 32) n short (omega arith) }

pub natural-takes : (w : List ℕ) (n : ℕ) → natural_of w ≡ Some n → (32 ∷ w ≡ natural_field n) × IsShort n
natural-takes w n e = let is = below-takes (2 ^ 32) w n e in (ap (λ t. 32 ∷ t) is.0, is.1)

pub value-item : (z : ℤ) → FitsSigned w64 z → Item number_of number_field z
value-item z fits = record { text = number_text z; spelled = refl; plain = number-plain z fits; reads = number-again z fits }

pub value-takes : (w : List ℕ) (z : ℤ) → number_of w ≡ Some z → (32 ∷ w ≡ number_field z) × FitsSigned w64 z
value-takes w z e = let is = number-takes w z e in (ap (λ t. 32 ∷ t) is.0, is.1)

-- a place
abbrev place_numbered : ℕ → PlaceId
place_numbered n = record { 0 = n }

pub place-again : (places : ℕ) (p : PlaceId) → places ≤ 16 → p.0 < places → place_of places (natural_text p.0) ≡ Some p
place-again places p few low = ap (option_map place_numbered) (below-again places p.0 low (omega arith))

pub place-item : (places : ℕ) (p : PlaceId) → places ≤ 16 → p.0 < places → Item (place_of places) place_field p
place-item places p few low = record { text = natural_text p.0; spelled = refl; plain = natural-plain p.0 (omega arith); reads = place-again places p few low }

pub place-takes : (places : ℕ) (w : List ℕ) (p : PlaceId) → place_of places w ≡ Some p → (32 ∷ w ≡ place_field p) × (p.0 < places)
place-takes places w p e =
    let m = map-is place_numbered (number_below places w) p e in
    let is = below-takes places w m.value m.was in
    subst (λ (q : PlaceId). (32 ∷ w ≡ place_field q) × (q.0 < places)) m.is (ap (λ t. 32 ∷ t) is.0, is.1)

-- a letter and a number
lettered : (key w : List ℕ) (n : ℕ) → next (stripped key w) natural_of ≡ Some n → (w ≡ key ++ natural_text n) × IsShort n
lettered key w n e =
    let two = next-is (stripped key w) natural_of n e in
    let is = below-takes (2 ^ 32) two.first n two.then_was in
    (stripped-is key w two.first two.was ∙ ap (λ t. key ++ t) is.0, is.1)

letter-again : (key : List ℕ) (n : ℕ) → IsShort n → next (stripped key (key ++ natural_text n)) natural_of ≡ Some n
letter-again key n short = ap (λ o. next o natural_of) (stripped-again key (natural_text n)) ∙ below-again (2 ^ 32) n short (omega arith)

abbrev task_numbered : ℕ → TaskId
task_numbered n = record { 0 = n }

pub task-item : (t : TaskId) → IsShort t.0 → Item task_spelt task_field t
task-item t short = record {
  text = codes "t" ++ natural_text t.0;
  spelled = refl;
  plain = ((eqb-false 116 32 refl, eqb-false 116 10 refl), natural-plain t.0 (omega arith));
  reads = ap (option_map task_numbered) (letter-again (codes "t") t.0 short);
}

pub task-takes : (w : List ℕ) (t : TaskId) → task_spelt w ≡ Some t → (32 ∷ w ≡ task_field t) × IsShort t.0
task-takes w t e =
    let m = map-is task_numbered (next (stripped (codes "t") w) natural_of) t e in
    let is = lettered (codes "t") w m.value m.was in
    subst (λ (u : TaskId). (32 ∷ w ≡ task_field u) × IsShort u.0) m.is (ap (λ v. 32 ∷ v) is.0, is.1)

abbrev scope_numbered : ℕ → ScopeId
scope_numbered n = record { 0 = n }

pub scope-item : (s : ScopeId) → IsShort s.0 → Item scope_spelt scope_field s
scope-item s short = record {
  text = codes "s" ++ natural_text s.0;
  spelled = refl;
  plain = ((eqb-false 115 32 refl, eqb-false 115 10 refl), natural-plain s.0 (omega arith));
  reads = ap (option_map scope_numbered) (letter-again (codes "s") s.0 short);
}

pub scope-takes : (w : List ℕ) (s : ScopeId) → scope_spelt w ≡ Some s → (32 ∷ w ≡ scope_field s) × IsShort s.0
scope-takes w s e =
    let m = map-is scope_numbered (next (stripped (codes "s") w) natural_of) s e in
    let is = lettered (codes "s") w m.value m.was in
    subst (λ (u : ScopeId). (32 ∷ w ≡ scope_field u) × IsShort u.0) m.is (ap (λ v. 32 ∷ v) is.0, is.1)

-- numbers joined by dots
abbrev consed : ℕ → List ℕ → List ℕ
consed n ns = n ∷ ns

naturals-take : (ws : List (List ℕ)) (ns : List ℕ) → naturals_of ws ≡ Some ns → (marked 46 ws ≡ flat_map dotted ns) × AllByRecursion IsShort ns
naturals-take [] ns e = subst (λ (ms : List ℕ). ([] ≡ flat_map dotted ms) × AllByRecursion IsShort ms) (same_Some [] ns e) (refl, tt)
naturals-take (w ∷ ws) ns e =
    let two = next-is (natural_of w) (λ n. option_map (consed n) (naturals_of ws)) ns e in
    let m = map-is (consed two.first) (naturals_of ws) ns two.then_was in
    let one = below-takes (2 ^ 32) w two.first two.was in
    let more = naturals-take ws m.value m.was in
    subst (λ (ms : List ℕ). (marked 46 (w ∷ ws) ≡ flat_map dotted ms) × AllByRecursion IsShort ms) m.is
    (ap (λ t. (46 ∷ t) ++ marked 46 ws) one.0 ∙ ap (λ r. (46 ∷ natural_text two.first) ++ r) more.0, (one.1, more.1))

first-take : (w : List ℕ) (ws : List (List ℕ)) (bytes ns : List ℕ) → bytes ≡ w ++ marked 46 ws → naturals_of (w ∷ ws) ≡ Some ns → (bytes ≡ path_text ns) × (1 ≤ length ns) × AllByRecursion IsShort ns
first-take w ws bytes ns whole e =
    let two = next-is (natural_of w) (λ n. option_map (consed n) (naturals_of ws)) ns e in
    let m = map-is (consed two.first) (naturals_of ws) ns two.then_was in
    let one = below-takes (2 ^ 32) w two.first two.was in
    let more = naturals-take ws m.value m.was in
    let some : 1 ≤ length (two.first ∷ m.value) = omega arith in
    subst (λ (ms : List ℕ). (bytes ≡ path_text ms) × (1 ≤ length ms) × AllByRecursion IsShort ms) m.is
    (whole ∙ ap (λ t. t ++ marked 46 ws) one.0 ∙ ap (λ r. natural_text two.first ++ r) more.0, some, (one.1, more.1))

path-parts : (ws : List (List ℕ)) (bytes ns : List ℕ) → Together 46 bytes ws → naturals_of ws ≡ Some ns → (bytes ≡ path_text ns) × (1 ≤ length ns) × AllByRecursion IsShort ns
path-parts [] bytes ns t e = absurd t
path-parts (w ∷ ws) bytes ns t e = first-take w ws bytes ns t e

abbrev short_path : List ℕ → Option (List ℕ)
short_path ns = cond (nat_le (length ns) 65) (Some ns) None

pub path-takes : (w : List ℕ) (p : List ℕ) → path_of w ≡ Some p → (32 ∷ w ≡ path_field p) × FitsPath p
path-takes w p e =
    let two = next-is (naturals_of (pieces 46 w)) short_path p e in
    let is = path-parts (pieces 46 w) w two.first (pieces-together 46 w) two.was in
    by two.first is (nat_le (length two.first) 65) refl two.then_was
  where
    by : (ns : List ℕ) → (w ≡ path_text ns) × (1 ≤ length ns) × AllByRecursion IsShort ns → (b : Bool) → nat_le (length ns) 65 ≡ b → cond b (Some ns) None ≡ Some p → (32 ∷ w ≡ path_field p) × FitsPath p
    by ns is true low f =
        let few : length ns ≤ 65 = grind (arith, nat_tests) in
        subst (λ (ms : List ℕ). (32 ∷ w ≡ path_field ms) × FitsPath ms) (same_Some ns p f) (ap (λ t. 32 ∷ t) is.0, (is.1, few, is.2))
    by ns is false low f = absurd (none-some p f)

abbrev texts : List ℕ → List (List ℕ)
texts [] = []
texts (n ∷ ns) = natural_text n ∷ texts ns

texts-dotted : (ns : List ℕ) → marked 46 (texts ns) ≡ flat_map dotted ns
texts-dotted [] = refl
texts-dotted (n ∷ ns) = ap (λ r. (46 ∷ natural_text n) ++ r) (texts-dotted ns)

texts-lack : (ns : List ℕ) → AllByRecursion IsShort ns → AllByRecursion (Lacks 46) (texts ns)
texts-lack [] all = tt
texts-lack (n ∷ ns) all = let low : n < 2 ^ 32 = all.0 in (all-map IsFigure (λ b. b ≢ 46) (λ b f. f.2) (natural_text n) (natural-figures n (omega arith)), texts-lack ns all.1)

texts-read : (ns : List ℕ) → AllByRecursion IsShort ns → naturals_of (texts ns) ≡ Some ns
texts-read [] all = refl
texts-read (n ∷ ns) all =
    ap (λ o. next o (λ k. option_map (consed k) (naturals_of (texts ns)))) (below-again (2 ^ 32) n all.0 (omega arith))
    ∙ ap (option_map (consed n)) (texts-read ns all.1)

tail-plain : (ns : List ℕ) → AllByRecursion IsShort ns → Plain (flat_map dotted ns)
tail-plain [] all = tt
tail-plain (n ∷ ns) all = let low : n < 2 ^ 32 = all.0 in ((eqb-false 46 32 refl, eqb-false 46 10 refl), all-append IsPlain (natural_text n) (flat_map dotted ns) (natural-plain n (omega arith)) (tail-plain ns all.1))

pub path-item : (p : List ℕ) → FitsPath p → Item path_of path_field p
path-item [] fits = absurd (let h : 1 ≤ 0 = fits.0 in omega arith)
path-item (n ∷ ns) fits =
    let low : n < 2 ^ 32 = fits.2.0 in
    let all : AllByRecursion IsShort (n ∷ ns) = fits.2 in
    let lacks = texts-lack (n ∷ ns) all in
    let cut : pieces 46 (path_text (n ∷ ns)) ≡ texts (n ∷ ns) = ap (λ r. pieces 46 (natural_text n ++ r)) (sym (texts-dotted ns)) ∙ pieces-marked 46 (natural_text n) (texts ns) lacks.0 lacks.1 in
    record {
      text = path_text (n ∷ ns);
      spelled = refl;
      plain = all-append IsPlain (natural_text n) (flat_map dotted ns) (natural-plain n (omega arith)) (tail-plain ns all.1);
      reads = ap (λ ws. next (naturals_of ws) short_path) cut ∙ ap (λ o. next o short_path) (texts-read (n ∷ ns) all) ∙ ap (λ b. cond b (Some (n ∷ ns)) None) (le-leb (length (n ∷ ns)) 65 fits.1);
    }

sign-text : (front back : List ℕ) → front ++ 64 ∷ back ≡ front ++ codes "@" ++ back
sign-text front back = sym (append_assoc front (codes "@") back)

kill-text : (kill : Kill) → 32 ∷ (natural_text kill.place.0 ++ 64 ∷ natural_text kill.moment) ≡ kill_field kill
kill-text kill = sign-text (natural_field kill.place.0) (natural_text kill.moment)

abbrev pub IsKill : Kill → Type 0
IsKill kill = (kill.place.0 < 16) × (kill.moment ≤ 1000000)

pub kill-takes : (w : List ℕ) (kill : Kill) → kill_of w ≡ Some kill → (32 ∷ w ≡ kill_field kill) × IsKill kill
kill-takes w kill e = by (spelling w).kill (spelling w).spelled e
  where
    by : (o : Option Kill) → IfSome o (IsKillWord w) → o ≡ Some kill → (32 ∷ w ≡ kill_field kill) × IsKill kill
    by None s f = absurd (none-some kill f)
    by (Some k) s f =
        subst (λ (j : Kill). (32 ∷ w ≡ kill_field j) × IsKill j) (same_Some k kill f)
        (ap (λ v. 32 ∷ v) s.spelled ∙ kill-text k, (s.place, s.moment))

pub kill-item : (kill : Kill) → IsKill kill → Item kill_of kill_field kill
kill-item kill fits =
    let place : kill.place.0 < 16 = fits.0 in
    let moment : kill.moment ≤ 1000000 = fits.1 in
    let text = natural_text kill.place.0 ++ 64 ∷ natural_text kill.moment in
    let is : IsKillWord text kill = record { place = place; moment = moment; spelled = refl } in
    record {
      text = text;
      spelled = kill-text kill;
      plain = all-append IsPlain (natural_text kill.place.0) (64 ∷ natural_text kill.moment) (natural-plain kill.place.0 (omega arith)) ((eqb-false 64 32 refl, eqb-false 64 10 refl), natural-plain kill.moment (omega arith));
      reads = (spelling text).exact kill is;
    }

-- numbers that are not 0
above-zero : (k n : ℕ) → above_zero k ≡ Some n → (k ≡ n) × (1 ≤ n)
above-zero k n e = by (k == 0) refl e
  where
    by : (b : Bool) → (k == 0) ≡ b → cond b None (Some k) ≡ Some n → (k ≡ n) × (1 ≤ n)
    by true h f = absurd (none-some n f)
    by false h f =
        let apart : k ≢ 0 = λ z. (let t : (k == 0) ≡ true = eq-eqb k 0 z in cc) in
        let some : 1 ≤ k = omega (arith, apart) in
        (same_Some k n f, subst (λ m. 1 ≤ m) (same_Some k n f) some)

zero-above : (n : ℕ) → 1 ≤ n → above_zero n ≡ Some n
zero-above n some = let apart : n ≢ 0 = λ z. omega arith in ap (λ b. cond b None (Some n)) (ne_eqb n 0 apart)

-- a number from 1 to a limit
abbrev pub IsCount : ℕ → ℕ → Type 0
IsCount most n = (1 ≤ n) × (n ≤ most)

pub count-takes : (most : ℕ) (w : List ℕ) (n : ℕ) → count_of most w ≡ Some n → (32 ∷ w ≡ natural_field n) × IsCount most n
count-takes most w n e =
    let two = next-is (number_below (most + 1) w) above_zero n e in
    let is = below-takes (most + 1) w two.first two.was in
    let low : two.first < most + 1 = is.1 in
    let above = above-zero two.first n two.then_was in
    let same : two.first ≡ n = above.0 in
    (ap (λ t. 32 ∷ t) is.0 ∙ ap natural_field same, (above.1, omega arith))

pub count-item : (most n : ℕ) → most ≤ 4096 → IsCount most n → Item (count_of most) natural_field n
count-item most n few fits =
    let some : 1 ≤ n = fits.0 in
    let low : n ≤ most = fits.1 in
    record {
      text = natural_text n;
      spelled = refl;
      plain = natural-plain n (omega arith);
      reads = ap (λ o. next o above_zero) (below-again (most + 1) n (omega arith) (omega arith)) ∙ zero-above n some;
    }

-- a number of masked faults
pub masked-takes : (w : List ℕ) (n : ℕ) → masked_of w ≡ Some n → (32 ∷ w ≡ natural_field n) × IsShort n × (1 ≤ n)
masked-takes w n e =
    let two = next-is (natural_of w) above_zero n e in
    let is = natural-takes w two.first two.was in
    let above = above-zero two.first n two.then_was in
    (is.0 ∙ ap natural_field above.0, subst IsShort above.0 is.1, above.1)

pub masked-item : (n : ℕ) → IsShort n → 1 ≤ n → Item masked_of natural_field n
masked-item n short some =
    let one = natural-item n short in
    record { text = one.text; spelled = one.spelled; plain = one.plain; reads = ap (λ o. next o above_zero) one.reads ∙ zero-above n some }

-- the readers of one word
pub one-word : {A : Type 0} (of : List ℕ → Option A) (spell : A → List ℕ) (P : A → Type 0) → ((w : List ℕ) (a : A) → of w ≡ Some a → (32 ∷ w ≡ spell a) × P a) → Takes (word of) (λ a t. (t ≡ spell a) × P a)
one-word of spell P h = takes-word of (λ a t. (t ≡ spell a) × P a) h

pub word-again : {A : Type 0} (of : List ℕ → Option A) (spell : A → List ℕ) (a : A) → Item of spell a → Again (word of) a (spell a) Any
word-again of spell a i = again-as (word of) a (32 ∷ i.text) (spell a) Any Any i.spelled (λ rest n. n) (again-word of i.text a i.reads i.plain)
