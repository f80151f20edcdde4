-- The stores are closed where their places have died, the first place first.
use Rattle.std.proofs.Common.{◌≡◌, ℕ, suc, ◌+◌, ◌<◌, List, [], ◌∷◌, ◌++◌, reverse, length, ap, sym, ◌∙◌, subst, arith, append_assoc}
use Rattle.std.proofs.lemmas.List.{map-append, reverse-append, length-append, length_push}
use Rattle.rx_rules.specs.declared.entries.Entry.{Entry}
use Rattle.rx_rules.specs.declared.events.PlaceEvent.{PlaceEvent}
use Rattle.rx_rules.proofs.Common.{death_number, IsStoreRun, opening_state}
use Rattle.rx_history.specs.Events.{Events, AllEvents, events_of}
use Rattle.rx_store.specs.Kept.{StoreView}
use Rattle.rx_objects.specs.Ending.{IsShut, EachShut}
use Rattle.rx_live.specs.Inside.Ending.{HaveWords, MayBeShut}

-- the stores in front of this place are closed, and give these journals; the others are left, the last first
pub record ShutTo (es : List Entry) (stores rest : List StoreView) (place : ℕ) (js : List (List PlaceEvent)) : Type 0 where
  pub done : List StoreView
  pub split : stores ≡ done ++ reverse rest
  pub many : length done ≡ place
  pub left : MayBeShut es place (reverse rest)
  pub shut : (heap : ℕ) → HaveWords heap stores → EachShut es heap 0 done js

each_more : (es : List Entry) (heap p q : ℕ) (ss : List StoreView) (js : List (List PlaceEvent)) (s : StoreView) (j : List PlaceEvent) → q ≡ p + length ss → EachShut es heap p ss js
    → IsShut (death_number 0 (record { 0 = q }) es) s.events j → IsStoreRun heap opening_state j → EachShut es heap p (ss ++ s ∷ []) (js ++ j ∷ [])
each_more es heap p q [] [] s j is e shut run =
    let it : q ≡ p = omega (arith, is) in (subst (λ (n : ℕ). IsShut (death_number 0 (record { 0 = n }) es) s.events j) it shut, run, tt)
each_more es heap p q (t ∷ ss) (k ∷ js) s j is e shut run = (e.0, e.1, each_more es heap (suc p) q ss js s j (omega (arith, is)) e.2 shut run)
each_more es heap p q [] (k ∷ js) s j is e shut run = absurd e
each_more es heap p q (t ∷ ss) [] s j is e shut run = absurd e

have_at : (n : ℕ) (xs ys : List StoreView) (s : StoreView) → HaveWords n (xs ++ s ∷ ys) → s.words ≡ n
have_at n [] ys s h = h.0
have_at n (x ∷ xs) ys s h = have_at n xs ys s h.1

module _ (es : List Entry) (stores rest : List StoreView) (place : ℕ) (js : List (List PlaceEvent)) (to : ShutTo es stores rest place js) (less : List StoreView) (s : StoreView) (is : rest ≡ less ++ s ∷ []) where
  turned : reverse rest ≡ s ∷ reverse less
  turned = ap reverse is ∙ reverse-append less (s ∷ [])

  split : stores ≡ to.done ++ s ∷ reverse less
  split = to.split ∙ ap (λ (l : List StoreView). to.done ++ l) turned

  left : MayBeShut es place (s ∷ reverse less)
  left = subst (MayBeShut es place) turned to.left

  pub is_inside : place < length stores
  is_inside =
      let a = ap length split ∙ length-append to.done (s ∷ reverse less) in
      let m = to.many in omega (arith, a, m)

  pub one_shut : (j : List PlaceEvent) (next : ℕ) (js' : List (List PlaceEvent)) → next ≡ place + 1 → js' ≡ js ++ j ∷ [] → IsShut (death_number 0 (record { 0 = place }) es) s.events j
      → IsStoreRun s.words opening_state j → ShutTo es stores less next js'
  one_shut j next js' up more shut run =
      record {
        done = to.done ++ s ∷ [];
        split = split ∙ sym (append_assoc to.done (s ∷ []) (reverse less));
        many = (let a = length_push to.done s in
            let m = to.many in omega (arith, a, m, up));
        left = (let n : suc place ≡ next = omega (arith, up) in subst (λ (k : ℕ). MayBeShut es k (reverse less)) n left.1);
        shut = λ heap words.
            subst (λ (l : List (List PlaceEvent)). EachShut es heap 0 (to.done ++ s ∷ []) l) (sym more)
            (each_more es heap 0 place to.done js s j (let m = to.many in omega (arith, m)) (to.shut heap words) shut
            (subst (λ (n : ℕ). IsStoreRun n opening_state j) (have_at heap to.done (reverse less) s (subst (HaveWords heap) split words)) run));
      }

-- one journal more
pub events_more : (a b : AllEvents) (j : Events) (spare : ℕ) → b ≡ record { journals = a.journals ++ j ∷ []; spare = spare } → events_of b ≡ events_of a ++ j.events ∷ []
events_more a b j spare is = ap events_of is ∙ map-append (λ (x : Events). x.events) a.journals (j ∷ [])
