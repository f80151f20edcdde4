-- The lines of a trace: where one ends, and what the line of the root's release tells.
use Rattle.std.proofs.Common.{◌≡◌, ℕ, ℤ, pos, negsuc, suc, ◌+◌, Bool, true, false, ◌&&◌, ◌==◌, List, [], ◌∷◌, ◌++◌, refl, ap, sym, ◌∙◌, arith, not, codes, cond}
use Rattle.std.specs.List.{list_all, flat_map}
use Rattle.std.specs.Str.{all_ascii_digits}
use Rattle.std.specs.Char.{is_ascii_digit}
use Rattle.std.proofs.lemmas.List.Folds.{list_all-append}
use Rattle.std.proofs.lemmas.Bool.Decides.{nat_tests}
use Rattle.std.proofs.lemmas.Bool.{and_parts, eqb-true, true≢false}
use Rattle.rx_rules.proofs.Common.{PlaceId, ScopeId, PlaceSet, Fault, Dead, Thrown, members}
use Rattle.rx_rules.specs.declared.entries.Act.{Act}
use Rattle.rx_rules.specs.declared.entries.Act.TheVariants.{Open, At, Spawn, Arrive, Wait, Release, End, Print, Census}
use Rattle.rx_rules.specs.declared.entries.Entry.{Entry}
use Rattle.rx_rules.specs.declared.entries.Entry.TheVariants.{Step, Root, Death, Join}
use Rattle.rx_text.specs.Numbers.{number_text, natural_text}
use Rattle.rx_text.specs.Paths.{path_text, dotted}
use Rattle.rx_text.proofs.Digits.{digits-all}
use Rattle.rx_trace.specs.Fields.{natural_field, number_field, path_field, place_field, task_field, scope_field, fault_field}
use Rattle.rx_trace.specs.Parts.{part_text, lost_part, masked_part, thrown_part, release_parts, batch_part}
use Rattle.rx_trace.specs.EntryLines.{scope_in, way, act_word, act_fields, entry_text}

-- a byte that does not stand in a text
abbrev pub without : ℕ → List ℕ → Bool
without c bytes = list_all (λ b. not (b == c)) bytes

pub without-both : (c : ℕ) (a b : List ℕ) → without c (a ++ b) ≡ (without c a && without c b)
without-both c a b = list_all-append (λ x. not (x == c)) a b

digit-without : (c d : ℕ) → is_ascii_digit c ≡ false → is_ascii_digit d ≡ true → not (d == c) ≡ true
digit-without c d other digit = by (d == c) refl
  where
    by : (b : Bool) → (d == c) ≡ b → not b ≡ true
    by true e = absurd (true≢false (sym digit ∙ ap is_ascii_digit (eqb-true d c e) ∙ other))
    by false e = refl

digits-without : (c : ℕ) (ds : List ℕ) → is_ascii_digit c ≡ false → all_ascii_digits ds ≡ true → without c ds ≡ true
digits-without c [] other h = refl
digits-without c (d ∷ ds) other h =
    let t = and_parts (is_ascii_digit d) (all_ascii_digits ds) h in
    ap (λ b. b && without c ds) (digit-without c d other t.0) ∙ digits-without c ds other t.1

-- it is no digit, and so stands in no number
pub natural-without : (c n : ℕ) → is_ascii_digit c ≡ false → without c (natural_text n) ≡ true
natural-without c n other = digits-without c (natural_text n) other (digits-all n)

-- no byte is a newline
abbrev pub is_line : List ℕ → Bool
is_line bytes = without 10 bytes

both : (a b : List ℕ) → is_line a ≡ true → is_line b ≡ true → is_line (a ++ b) ≡ true
both a b h k = without-both 10 a b ∙ ap (λ t. t && is_line b) h ∙ k

natural : (n : ℕ) → is_line (natural_text n) ≡ true
natural n = natural-without 10 n refl

number : (z : ℤ) → is_line (number_text z) ≡ true
number (pos n) = natural n
number (negsuc n) = natural (suc n)

dots : (ns : List ℕ) → is_line (flat_map dotted ns) ≡ true
dots [] = refl
dots (n ∷ ns) = both (dotted n) (flat_map dotted ns) (natural n) (dots ns)

path : (ns : List ℕ) → is_line (path_text ns) ≡ true
path [] = refl
path (n ∷ ns) = both (natural_text n) (flat_map dotted ns) (natural n) (dots ns)

fault : (f : Fault) → is_line (fault_field f) ≡ true
fault (Dead p) = both (codes " dead:") (natural_text p.0) refl (natural p.0)
fault (Thrown value) = both (codes " code:") (number_text value) refl (number value)
fault _ = refl

fields : {A : Type 0} (field : A → List ℕ) (xs : List A) → ((x : A) → is_line (field x) ≡ true) → is_line (flat_map field xs) ≡ true
fields field [] h = refl
fields field (x ∷ xs) h = both (field x) (flat_map field xs) (h x) (fields field xs h)

part : {A : Type 0} (word : List ℕ) (field : A → List ℕ) (xs : List A) → is_line word ≡ true → ((x : A) → is_line (field x) ≡ true) → is_line (part_text word field xs) ≡ true
part word field [] w h = refl
part word field (x ∷ xs) w h = both word (flat_map field (x ∷ xs)) w (fields field (x ∷ xs) h)

-- the part of the masked faults has the bytes of its word and digits alone
pub masked-without : (c n : ℕ) → is_ascii_digit c ≡ false → without c (codes " masked ") ≡ true → without c (masked_part n) ≡ true
unfolding masked_part
masked-without c n other word = by (n == 0)
  where
    by : (b : Bool) → without c (cond b [] (codes " masked" ++ natural_field n)) ≡ true
    by true = refl
    by false = without-both c (codes " masked ") (natural_text n) ∙ ap (λ t. t && without c (natural_text n)) word ∙ natural-without c n other

losses : (lost : PlaceSet) → is_line (lost_part lost) ≡ true
unfolding lost_part
losses lost = part (codes " lost") natural_field (members lost) refl natural

faults : (thrown : List Fault) → is_line (thrown_part thrown) ≡ true
faults thrown = part (codes " thrown") fault_field thrown refl fault

release : (lost : PlaceSet) (masked : ℕ) (thrown : List Fault) → is_line (release_parts lost masked thrown) ≡ true
release lost masked thrown =
    both (lost_part lost ++ masked_part masked) (thrown_part thrown)
    (both (lost_part lost) (masked_part masked) (losses lost) (masked-without 10 masked refl refl)) (faults thrown)

scopes : (s r : ScopeId) → is_line (scope_in s r) ≡ true
scopes s r = both (scope_field s ++ codes " in") (scope_field r) (both (scope_field s) (codes " in") (natural s.0) refl) (natural r.0)

ways : (p q : PlaceId) → is_line (way p q) ≡ true
ways p q = both (place_field p) (place_field q) (natural p.0) (natural q.0)

acts : (act : Act) → (is_line (act_word act) ≡ true) × (is_line (act_fields act) ≡ true)
acts (Open s r x) = (refl, both (scope_in s r) (path_field x) (scopes s r) (path x))
acts (At p q s r c x) =
    let front = both (scope_in s r) (task_field c) (scopes s r) (natural c.0) in
    let whole = both (scope_in s r ++ task_field c) (way p q) front (ways p q) in
    (refl, both (scope_in s r ++ task_field c ++ way p q) (path_field x) whole (path x))
acts (Spawn c s p q x) =
    let front = both (task_field c) (codes " in") (natural c.0) refl in
    let under = both (task_field c ++ codes " in") (scope_field s) front (natural s.0) in
    let whole = both (task_field c ++ codes " in" ++ scope_field s) (way p q) under (ways p q) in
    (refl, both (task_field c ++ codes " in" ++ scope_field s ++ way p q) (path_field x) whole (path x))
acts (Arrive p) = (refl, natural p.0)
acts (Wait s thrown) = (refl, both (scope_field s) (thrown_part thrown) (natural s.0) (faults thrown))
acts (Release s lost masked thrown) = (refl, both (scope_field s) (release_parts lost masked thrown) (natural s.0) (release lost masked thrown))
acts (End thrown) = (refl, faults thrown)
acts (Print value x) = (refl, both (number_field value) (path_field x) (number value) (path x))
acts (Census places x) = (refl, both (natural_field places) (path_field x) (natural places) (path x))

text-plain : (e : Entry) → is_line (entry_text e) ≡ true
text-plain (Step t act batch) =
    let a = acts act in
    let front = both (act_word act) (task_field t) a.0 (natural t.0) in
    let whole = both (act_word act ++ task_field t) (act_fields act) front a.1 in
    both (act_word act ++ task_field t ++ act_fields act) (batch_part batch) whole (part (codes " |") path_field batch refl path)
text-plain (Root lost masked thrown) = both (codes " release host s0") (release_parts lost masked thrown) refl (release lost masked thrown)
text-plain (Death d) = both (codes " death") (place_field d) refl (natural d.0)
text-plain (Join p) = both (codes " join") (place_field p) refl (natural p.0)

pub line-plain : (n : ℕ) (e : Entry) → is_line (natural_text n ++ entry_text e) ≡ true
line-plain n e = both (natural_text n) (entry_text e) (natural n) (text-plain e)

no-newline : (c : ℕ) → c ≡ 10 → not (c == 10) ≡ true → ⊥
no-newline c e h = grind (arith, nat_tests)

-- texts that begin with lines and are one begin with one line
pub one-line : (a b x y : List ℕ) → is_line a ≡ true → is_line b ≡ true → a ++ 10 ∷ x ≡ b ++ 10 ∷ y → (a ≡ b) × (x ≡ y)
one-line [] [] x y h k e = (refl, cc)
one-line [] (c ∷ cs) x y h k e =
    let same : 10 ≡ c = cc in
    let plain : not (c == 10) ≡ true = (and_parts (not (c == 10)) (is_line cs) k).0 in
    absurd (no-newline c (sym same) plain)
one-line (c ∷ cs) [] x y h k e =
    let same : c ≡ 10 = cc in
    let plain : not (c == 10) ≡ true = (and_parts (not (c == 10)) (is_line cs) h).0 in
    absurd (no-newline c same plain)
one-line (c ∷ cs) (d ∷ ds) x y h k e =
    let head : c ≡ d = cc in
    let more : cs ++ 10 ∷ x ≡ ds ++ 10 ∷ y = cc in
    let rest = one-line cs ds x y (and_parts (not (c == 10)) (is_line cs) h).1 (and_parts (not (d == 10)) (is_line ds) k).1 more in
    (ap (λ z. z ∷ cs) head ∙ ap (λ zs. d ∷ zs) rest.0, rest.1)
