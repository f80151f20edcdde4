-- The event tells the call an answer.
use Rattle.std.proofs.Common.{◌≡◌, ℕ, ℤ, true, false, cond, ◌&&◌, ◌==◌, refl, ap, sym, subst}
use Rattle.std.specs.Ordering.{int_eq}
use Rattle.std.proofs.lemmas.Bool.{and_parts, eqb-true, eq-eqb, true≢false}
use Rattle.std.proofs.lemmas.Bool.Decides.{Decides-int_eq}
use Rattle.rx_rules.proofs.Common.{PlaceId, GlobalRef, Number, Ref, Stale, Index, HeapFull, Makes as Creates, Gets as Reading, Puts as Writing, Forgets as Freeing, Answer, Gives, Fine, Fails, Tells}
use Rattle.rx_rules.specs.declared.events.Cell.{Cell}
use Rattle.rx_rules.specs.declared.events.Cell.TheVariants.{Make, MakeFull, Get, Put, Forget, GetRefused, PutRefused, ForgetStale}
use Rattle.rx_history.specs.declared.step.CellOp.{CellOp}
use Rattle.rx_history.specs.declared.step.CellOp.TheVariants.{Make as Makes, Get as Gets, Put as Puts, Forget as Forgets}
use Rattle.rx_verify.specs.Answers.{same_ref, answers, AnswersTells}
use Rattle.rx_verdict.proofs.Same.{both_true}

ref_true : (r q : GlobalRef) → same_ref r q ≡ true → r ≡ q
ref_true r q h =
    let p = and_parts ((r.home.0 == q.home.0) && (r.start == q.start)) (r.generation == q.generation) h in
    let k = and_parts (r.home.0 == q.home.0) (r.start == q.start) p.0 in
    let home : r.home.0 ≡ q.home.0 = eqb-true r.home.0 q.home.0 k.0 in
    let start : r.start ≡ q.start = eqb-true r.start q.start k.1 in
    let generation : r.generation ≡ q.generation = eqb-true r.generation q.generation p.1 in
    λ i. record { home = record { 0 = home i }; start = start i; generation = generation i }

ref_same : (r q : GlobalRef) → r ≡ q → same_ref r q ≡ true
ref_same r q e =
    both_true ((r.home.0 == q.home.0) && (r.start == q.start)) (r.generation == q.generation)
    (both_true (r.home.0 == q.home.0) (r.start == q.start) (eq-eqb r.home.0 q.home.0 (ap (λ (x : GlobalRef). x.home.0) e)) (eq-eqb r.start q.start (ap (λ (x : GlobalRef). x.start) e)))
    (eq-eqb r.generation q.generation (ap (λ (x : GlobalRef). x.generation) e))

int_true : (i j : ℤ) → int_eq i j ≡ true → i ≡ j
int_true i j h = (Decides-int_eq i j).0 h

int_same : (i j : ℤ) → i ≡ j → int_eq i j ≡ true
int_same i j e = (Decides-int_eq i j).1 e

abbrev Says : (Cell → Answer → Type 0) → CellOp → Cell → Type 0
Says T op cell = (answers op cell ≡ true → (a : Answer) × T cell a) × ((a : Answer) → T cell a → answers op cell ≡ true)

never : (T : Answer → Type 0) → ((a : Answer) → T a → ⊥) → (false ≡ true → (a : Answer) × T a) × ((a : Answer) → T a → false ≡ true)
never T f = (λ h. absurd (true≢false (sym h)), λ a k. absurd (f a k))

makes_says : (name words : ℕ) (here : PlaceId) (cell : Cell) → Says (λ c a. Tells (Creates name words) here c a) (Makes words) cell
makes_says name words here (Make n s g) = (λ h. (Gives name (Ref (record { home = here; start = s; generation = g })), (eqb-true n words h, refl)), λ a k. eq-eqb n words k.0)
makes_says name words here (MakeFull n) = (λ h. (Fails HeapFull, (eqb-true n words h, refl)), λ a k. eq-eqb n words k.0)
makes_says name words here _ = never (λ a. ⊥) (λ a k. k)

gets_says : (name : ℕ) (target : GlobalRef) (index : ℤ) (here : PlaceId) (cell : Cell) → Says (λ c a. Tells (Reading name target index) here c a) (Gets target index) cell
gets_says name target index here (Get r i v) =
    (λ h. let p = and_parts (same_ref r target) (int_eq i index) h in (Gives name (Number v), (ref_true r target p.0, int_true i index p.1, refl)), λ a k. both_true (same_ref r target) (int_eq i index) (ref_same r target k.0) (int_same i index k.1))
gets_says name target index here (GetRefused r i s) =
    (λ h. let p = and_parts (same_ref r target) (int_eq i index) h in (Fails (cond s Stale Index), (ref_true r target p.0, int_true i index p.1, refl)), λ a k. both_true (same_ref r target) (int_eq i index) (ref_same r target k.0) (int_same i index k.1))
gets_says name target index here _ = never (λ a. ⊥) (λ a k. k)

puts_says : (target : GlobalRef) (index value : ℤ) (here : PlaceId) (cell : Cell) → Says (λ c a. Tells (Writing target index value) here c a) (Puts target index value) cell
puts_says target index value here (Put r i v) = (
  λ h. let p = and_parts (same_ref r target && int_eq i index) (int_eq v value) h in let q = and_parts (same_ref r target) (int_eq i index) p.0 in (Fine, (ref_true r target q.0, int_true i index q.1, int_true v value p.1, refl)),
  λ a k. both_true (same_ref r target && int_eq i index) (int_eq v value) (both_true (same_ref r target) (int_eq i index) (ref_same r target k.0) (int_same i index k.1)) (int_same v value k.2),
)
puts_says target index value here (PutRefused r i v s) = (
  λ h. let p = and_parts (same_ref r target && int_eq i index) (int_eq v value) h in let q = and_parts (same_ref r target) (int_eq i index) p.0 in (Fails (cond s Stale Index), (ref_true r target q.0, int_true i index q.1, int_true v value p.1, refl)),
  λ a k. both_true (same_ref r target && int_eq i index) (int_eq v value) (both_true (same_ref r target) (int_eq i index) (ref_same r target k.0) (int_same i index k.1)) (int_same v value k.2),
)
puts_says target index value here _ = never (λ a. ⊥) (λ a k. k)

forgets_says : (target : GlobalRef) (here : PlaceId) (cell : Cell) → Says (λ c a. Tells (Freeing target) here c a) (Forgets target) cell
forgets_says target here (Forget r) = (λ h. (Fine, (ref_true r target h, refl)), λ a k. ref_same r target k.0)
forgets_says target here (ForgetStale r) = (λ h. (Fails Stale, (ref_true r target h, refl)), λ a k. ref_same r target k.0)
forgets_says target here _ = never (λ a. ⊥) (λ a k. k)

pub answers_tells : AnswersTells
answers_tells (Creates name words) here op cell e = let same : Makes words ≡ op = cc in subst (λ (o : CellOp). Says (λ c a. Tells (Creates name words) here c a) o cell) same (makes_says name words here cell)
answers_tells (Reading name target index) here op cell e = let same : Gets target index ≡ op = cc in subst (λ (o : CellOp). Says (λ c a. Tells (Reading name target index) here c a) o cell) same (gets_says name target index here cell)
answers_tells (Writing target index value) here op cell e = let same : Puts target index value ≡ op = cc in subst (λ (o : CellOp). Says (λ c a. Tells (Writing target index value) here c a) o cell) same (puts_says target index value here cell)
answers_tells (Freeing target) here op cell e = let same : Forgets target ≡ op = cc in subst (λ (o : CellOp). Says (λ c a. Tells (Freeing target) here c a) o cell) same (forgets_says target here cell)
answers_tells _ here op cell e = absurd (let f : ⊥ = cc in f)
