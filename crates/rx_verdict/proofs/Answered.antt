-- The law of stores allows one answer.
use Rattle.std.proofs.Common.{◌≡◌, ℕ, ℤ, Bool, true, false, Some, ap, sym, subst, ◌∙◌}
use Rattle.std.proofs.lemmas.Bool.{true≢false}
use Rattle.rx_rules.proofs.Common.{GlobalRef, State, Live, MayCell, IsLeastFree, Refuses, fits, block_of, word_at}
use Rattle.rx_rules.specs.declared.events.Cell.TheVariants.{Make, MakeFull, Get, Put, Forget, GetRefused, PutRefused, ForgetStale}
use Rattle.rx_runs.proofs.Telling.{least_once, not_refused, one_refusal}
use Rattle.rx_store.specs.Asks.{makes}
use Rattle.rx_verdict.specs.Asks.{OneAnswer}

one_block : (S : State) (r : GlobalRef) (b c : Live) → block_of S r ≡ Some b → block_of S r ≡ Some c → b ≡ c
one_block S r b c h k = cc (h, k)

moved : (S : State) (r q : GlobalRef) (i j : ℤ) (s : Bool) → r ≡ q → i ≡ j → Refuses S q j s → Refuses S r i s
moved S r q i j s er ei h = subst (λ (z : GlobalRef × ℤ). Refuses S z.0 z.1 s) {x = (q, j)} {y = (r, i)} (λ x. (sym er x, sym ei x)) h

words_of : (m n : ℕ) → makes m ≡ makes n → m ≡ n
words_of m n e = cc e

pub one_answer : OneAnswer
one_answer w S (Make n a g) (Make m b f) e h k =
    let same : n ≡ m = words_of n m e in
    let start : a ≡ b = least_once w S n a b h.0 (subst (λ q. IsLeastFree w S q b) (sym same) k.0) in
    let gen : g ≡ f = h.1 ∙ sym k.1 in
    λ i. Make (same i) (start i) (gen i)
one_answer w S (Make n a g) (MakeFull m) e h k = absurd (true≢false (sym h.0.here ∙ subst (λ q. fits w S q a ≡ false) (sym (words_of n m e)) (k a)))
one_answer w S (MakeFull n) (Make m b f) e h k = absurd (true≢false (sym k.0.here ∙ subst (λ q. fits w S q b ≡ false) (words_of n m e) (h b)))
one_answer w S (MakeFull n) (MakeFull m) e h k = ap MakeFull (words_of n m e)
one_answer w S (Get r i v) (Get q j u) e h k = get_get r i v q j u (cc e) (cc e) h k
  where
    get_get : (r : GlobalRef) (i v : ℤ) (q : GlobalRef) (j u : ℤ) → r ≡ q → i ≡ j → MayCell w S (Get r i v) → MayCell w S (Get q j u) → Get r i v ≡ Get q j u
    get_get r i v q j u er ei h k =
        let k' = subst (λ (z : GlobalRef × ℤ). MayCell w S (Get z.0 z.1 u)) (λ t. (sym er t, sym ei t)) k in
        let same : h.0 ≡ k'.0 = one_block S r h.0 k'.0 h.1.block k'.1.block in
        let val : v ≡ u = h.2 ∙ (ap (λ (b : Live). word_at b.words i) same ∙ sym k'.2) in
        λ t. Get (er t) (ei t) (val t)
one_answer w S (Get r i v) (GetRefused q j s) e h k = absurd (not_refused S r i h.0 s h.1 (moved S r q i j s (cc e) (cc e) k))
one_answer w S (GetRefused r i s) (Get q j u) e h k = absurd (not_refused S q j k.0 s k.1 (moved S q r j i s (cc e) (cc e) h))
one_answer w S (GetRefused r i s) (GetRefused q j t) e h k = both r i s q j t (cc e) (cc e) h k
  where
    both : (r : GlobalRef) (i : ℤ) (s : Bool) (q : GlobalRef) (j : ℤ) (t : Bool) → r ≡ q → i ≡ j → Refuses S r i s → Refuses S q j t → GetRefused r i s ≡ GetRefused q j t
    both r i s q j t er ei h k = let st : s ≡ t = one_refusal S r i s t h (subst (λ (z : GlobalRef × ℤ). Refuses S z.0 z.1 t) (λ x. (sym er x, sym ei x)) k) in λ x. GetRefused (er x) (ei x) (st x)
one_answer w S (Put r i v) (Put q j u) e h k = cc e
one_answer w S (Put r i v) (PutRefused q j u s) e h k = absurd (not_refused S r i h.0 s h.1 (moved S r q i j s (cc e) (cc e) k))
one_answer w S (PutRefused r i v s) (Put q j u) e h k = absurd (not_refused S q j k.0 s k.1 (moved S q r j i s (cc e) (cc e) h))
one_answer w S (PutRefused r i v s) (PutRefused q j u t) e h k = both r i v s q j u t (cc e) (cc e) (cc e) h k
  where
    both : (r : GlobalRef) (i v : ℤ) (s : Bool) (q : GlobalRef) (j u : ℤ) (t : Bool) → r ≡ q → i ≡ j → v ≡ u → Refuses S r i s → Refuses S q j t → PutRefused r i v s ≡ PutRefused q j u t
    both r i v s q j u t er ei ev h k = let st : s ≡ t = one_refusal S r i s t h (subst (λ (z : GlobalRef × ℤ). Refuses S z.0 z.1 t) (λ x. (sym er x, sym ei x)) k) in λ x. PutRefused (er x) (ei x) (ev x) (st x)
one_answer w S (Forget r) (Forget q) e h k = cc e
one_answer w S (Forget r) (ForgetStale q) e h k = absurd (cc (h.1, k, e))
one_answer w S (ForgetStale r) (Forget q) e h k = absurd (cc (h, k.1, e))
one_answer w S (ForgetStale r) (ForgetStale q) e h k = cc e
one_answer w S c d e h k = absurd (cc e)
