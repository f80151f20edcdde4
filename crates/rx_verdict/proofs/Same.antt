-- Events of one call with one answer are the same.
use Rattle.std.proofs.Common.{◌≡◌, ◌↔◌, ℤ, Bool, true, false, cond, not, ◌&&◌, ◌==◌, IsTrue, refl, ap, sym, ◌∙◌}
use Rattle.std.specs.Ordering.{int_eq}
use Rattle.std.proofs.lemmas.Bool.{and_parts, eqb-true, eq-eqb, true≢false}
use Rattle.std.proofs.lemmas.Bool.Decides.{Decides-int_eq}
use Rattle.rx_rules.specs.declared.events.Cell.{Cell}
use Rattle.rx_rules.specs.declared.events.Cell.TheVariants.{Make, MakeFull, Get, Put, Forget, GetRefused, PutRefused, ForgetStale}
use Rattle.rx_store.specs.Asks.{ask_of}
use Rattle.rx_verdict.specs.Inside.Same.{same_answer}

same_bool : (a b : Bool) → cond a b (not b) ≡ true → a ≡ b
same_bool true true h = refl
same_bool true false h = sym h
same_bool false true h = h
same_bool false false h = refl

bool_same : (a : Bool) → cond a a (not a) ≡ true
bool_same true = refl
bool_same false = refl

pub both_true : (a b : Bool) → a ≡ true → b ≡ true → (a && b) ≡ true
both_true a b e f = ap (λ (x : Bool). x && b) e ∙ f

int_true : (i j : ℤ) → int_eq i j ≡ true → i ≡ j
int_true i j h = (Decides-int_eq i j).0 h

int_same : (i j : ℤ) → i ≡ j → int_eq i j ≡ true
int_same i j e = (Decides-int_eq i j).1 e

is_same : (a b : Cell) → ask_of a ≡ ask_of b → same_answer a b ≡ true → a ≡ b
is_same (Make n s g) (Make m t f) e h =
    let p = and_parts (s == t) (g == f) h in
    let start : s ≡ t = eqb-true s t p.0 in
    let generation : g ≡ f = eqb-true g f p.1 in
    cc
is_same (MakeFull n) (MakeFull m) e h = cc e
is_same (Get r i v) (Get q j u) e h = let value : v ≡ u = int_true v u h in cc
is_same (GetRefused r i s) (GetRefused q j t) e h = let stale : s ≡ t = same_bool s t h in cc
is_same (Put r i v) (Put q j u) e h = cc e
is_same (PutRefused r i v s) (PutRefused q j u t) e h = let stale : s ≡ t = same_bool s t h in cc
is_same (Forget r) (Forget q) e h = cc e
is_same (ForgetStale r) (ForgetStale q) e h = cc e
is_same a b e h = absurd (true≢false (sym h))

itself : (a : Cell) → same_answer a a ≡ true
itself (Make n s g) = both_true (s == s) (g == g) (eq-eqb s s refl) (eq-eqb g g refl)
itself (Get r i v) = int_same v v refl
itself (GetRefused r i s) = bool_same s
itself (PutRefused r i v s) = bool_same s
itself _ = refl

pub answers-same : (a b : Cell) → ask_of a ≡ ask_of b → IsTrue (same_answer a b) ↔ (a ≡ b)
answers-same a b e = (λ h. is_same a b e h, λ h. ap (same_answer a) (sym h) ∙ itself a)
