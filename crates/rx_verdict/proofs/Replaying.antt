-- A journal replayed, event by event.
use Rattle.std.proofs.Common.{◌≡◌, ℕ, zero, suc, ◌+◌, ◌<◌, ◌≤◌, Bool, true, false, List, [], ◌∷◌, ◌++◌, length, take, Some, slice_get, IsTrue, ap, sym, subst, ◌∙◌, arith}
use Rattle.rx_rules.specs.declared.events.PlaceEvent.{PlaceEvent}
use Rattle.rx_rules.proofs.Common.{State, opening_state, stamp_of}
use Rattle.rx_store.specs.Kept.{state_of, last_stamp}
use Rattle.rx_store.specs.Table.{Table, TableStands}
use Rattle.rx_store.proofs.Running.{made_from}
use Rattle.rx_kills.proofs.Dying.{take-next}
use Rattle.rx_verdict.specs.Lawful.{AreLawful, IsLawfulCount}
use Rattle.rx_verdict.specs.Inside.Next.{MayFollow, Follows, is_close}
use Rattle.rx_verdict.specs.Inside.Replayed.{Replayed}
use Rattle.rx_verdict.proofs.Counts.{lawful-more, lawful-last, closed-none, state-next, stamp-next, closed-next}

length-first : (n : ℕ) (es : List PlaceEvent) → length (take n es) ≤ n
length-first zero es = omega arith
length-first (suc n) [] = omega arith
length-first (suc n) (e ∷ es) = let rest = length-first n es in omega arith

-- one event more of a journal
module _ (w : ℕ) (blocks : Table) (last : ℕ) (closed : Bool) (j : List PlaceEvent) (i : ℕ) (e : PlaceEvent) (at : slice_get j i ≡ Some e) (low : i < length j) (h : Replayed w blocks last closed (take i j)) where
  next : take (suc i) j ≡ take i j ++ e ∷ []
  next = take-next j i e at

  -- what may follow in the state of the events so far
  may : MayFollow w (state_of (take i j)) last e → MayFollow w (state_of (take i j)) (last_stamp (take i j)) e
  may m = subst (λ n. MayFollow w (state_of (take i j)) n e) h.last_is m

  pub replays-on : (new : Table) (last' : ℕ) (closed' b : Bool) → closed ≡ false → Follows blocks new last e b → IsTrue b → last' ≡ stamp_of e → closed' ≡ is_close e → Replayed w new last' closed' (take (i + 1) j)
  replays-on new last' closed' b o f y l c =
      let shape : take i j ++ e ∷ [] ≡ take (i + 1) j = sym next ∙ ap (λ n. take n j) (let s : suc i ≡ i + 1 = omega arith in s) in
      let told = f w (state_of (take i j)) h.stands in
      subst (λ done. Replayed w new last' closed' done) shape (record {
        lawful = lawful-more w (take i j) e (sym h.closed_is ∙ o) h.lawful (may (told.0.0 y));
        stands = subst (λ (S : State). TableStands w new S) (sym (state-next (take i j) e)) (told.1 y);
        last_is = l ∙ sym (stamp-next (take i j) e);
        closed_is = c ∙ sym (closed-next (take i j) e);
      })

  -- no more blocks were made than there are events
  pub few-made : blocks.made ≤ i
  few-made =
      let made = h.stands.made_is in
      let most = made_from opening_state (take i j) in
      let many : length (take i j) ≤ i = length-first i j in
      omega arith

  -- a closed journal goes on no more
  pub closed-count : closed ≡ true → IsLawfulCount w j i
  closed-count c = record {
    within = omega arith;
    lawful = h.lawful;
    no_more = λ l more. closed-none w opening_state (take i j) e (sym h.closed_is ∙ c) (subst (AreLawful w) next more).law;
  }

  -- nor does one whose next event may not follow
  pub stopped-count : (new : Table) (b : Bool) → closed ≡ false → Follows blocks new last e b → (IsTrue b → ⊥) → IsLawfulCount w j i
  stopped-count new b o f never = record {
    within = omega arith;
    lawful = h.lawful;
    no_more = λ l more.
        let m = lawful-last w (take i j) e (sym h.closed_is ∙ o) (subst (AreLawful w) next more) in
        never ((f w (state_of (take i j)) h.stands).0.1 (subst (λ n. MayFollow w (state_of (take i j)) n e) (sym h.last_is) m));
  }
