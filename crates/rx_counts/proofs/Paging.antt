-- The slots of pages, number by number.
use Rattle.std.proofs.Common.{◌≡◌, ℕ, zero, suc, ◌+◌, ◌<◌, ◌≤◌, ◌/◌, ◌%◌, List, [], ◌∷◌, ◌++◌, length, map, Option, None, IsSome, refl, slice_index_or, slice_set, sym, ap, subst, ◌∙◌, inl, inr, arith}
use Rattle.std.specs.List.{range_with_len}
use Rattle.std.proofs.lemmas.Bool.{cases_eq, cases_lt, true≢false}
use Rattle.std.proofs.lemmas.Nat.{div-add-mod', mod_below}
use Rattle.std.proofs.lemmas.Grind.{get_or-set_at}
use Rattle.std.proofs.lemmas.List.{get_or-set_same, get_or-set_other, get_or_past, get_or_append_left, get_or_push, length-set, length_push}
use Rattle.std.proofs.lemmas.List.FromFn.{fill_by_all, length-map-range_with_len, get_or-map-range_with_len, map-range_with_len_more}
use Rattle.rx_counts.specs.Inside.Paging.{slot_at, slots_of, Filled}

-- a list made of a function that changes at one number
pub made_set : {X : Type 0} (f g : ℕ → X) (c n : ℕ) (w : X) → g n ≡ w → ((m : ℕ) → (m ≡ n → ⊥) → g m ≡ f m) → map g (range_with_len 0 c) ≡ slice_set (map f (range_with_len 0 c)) n w
made_set {X} f g c n w here others =
    let fs : List X = map f (range_with_len 0 c) in
    let len : length fs ≡ c = length-map-range_with_len f 0 c in
    let each : (k : ℕ) → k < c → slice_index_or (slice_set fs n w) k w ≡ g k = λ k low.
    elim (cases_eq k n) as (λ _. slice_index_or (slice_set fs n w) k w ≡ g k) [
      | inl e ↦ get_or-set_at fs n k w w e (omega arith) ∙ sym (ap g e ∙ here)
      | inr d ↦ get_or-set_other fs n k w w d ∙ (get_or-map-range_with_len f 0 c k k w low (omega arith) ∙ sym (others k d))
    ] in
    sym (fill_by_all g (slice_set fs n w) c w (length-set fs n w ∙ len) each)

-- and of one that is the same
pub made_same : {X : Type 0} (f g : ℕ → X) (c : ℕ) (d : X) → ((m : ℕ) → g m ≡ f m) → map g (range_with_len 0 c) ≡ map f (range_with_len 0 c)
made_same {X} f g c d same =
    let fs : List X = map f (range_with_len 0 c) in
    sym (fill_by_all g fs c d (length-map-range_with_len f 0 c) (λ k low. get_or-map-range_with_len f 0 c k k d low (omega arith) ∙ sym (same k)))

-- two numbers of one page have two slots
pub apart : (m n : ℕ) → m / 1024 ≡ n / 1024 → m % 1024 ≡ n % 1024 → m ≡ n
apart m n e r =
    let a = div-add-mod' m 1024 in
    let b = div-add-mod' n 1024 in
    omega arith

-- the default at the end tells no more
pub default_more : {Y : Type 0} (xs : List Y) (d : Y) (k : ℕ) → slice_index_or (xs ++ d ∷ []) k d ≡ slice_index_or xs k d
default_more [] d zero = refl
default_more [] d (suc k) = refl
default_more (x ∷ xs) d zero = refl
default_more (x ∷ xs) d (suc k) = default_more xs d k

module _ {X : Type 0} where
  -- a page is written anew
  pub slot_here : (xs : List (List (Option X))) (n : ℕ) (ys : List (Option X)) (w : Option X) → n / 1024 < length xs → slice_index_or ys (n % 1024) None ≡ w → slot_at (slice_set xs (n / 1024) ys) n ≡ w
  slot_here xs n ys w low h = ap (λ zs. slice_index_or zs (n % 1024) None) (get_or-set_same xs (n / 1024) ys [] low) ∙ h

  pub slot_same : (xs : List (List (Option X))) (n m : ℕ) (ys : List (Option X)) → n / 1024 < length xs → ((k : ℕ) → (k ≡ n % 1024 → ⊥) → slice_index_or ys k None ≡ slice_index_or (slice_index_or xs (n / 1024) []) k None) → (m ≡ n → ⊥) → slot_at (slice_set xs (n / 1024) ys) m ≡ slot_at xs m
  slot_same xs n m ys low same d =
      elim (cases_eq (m / 1024) (n / 1024)) as (λ _. slot_at (slice_set xs (n / 1024) ys) m ≡ slot_at xs m) [
        | inl e ↦ ap (λ zs. slice_index_or zs (m % 1024) None) (get_or-set_at xs (n / 1024) (m / 1024) ys [] e low)
            ∙ (same (m % 1024) (λ r. d (apart m n e r)) ∙ ap (λ p. slice_index_or (slice_index_or xs p []) (m % 1024) None) (sym e))
        | inr a ↦ ap (λ zs. slice_index_or zs (m % 1024) None) (get_or-set_other xs (n / 1024) (m / 1024) ys [] a)
      ]

  -- so one slot changes
  pub slots_set : (xs : List (List (Option X))) (c n : ℕ) (ys : List (Option X)) (w : Option X) → n / 1024 < length xs → slice_index_or ys (n % 1024) None ≡ w → ((k : ℕ) → (k ≡ n % 1024 → ⊥) → slice_index_or ys k None ≡ slice_index_or (slice_index_or xs (n / 1024) []) k None) → slots_of (slice_set xs (n / 1024) ys) c ≡ slice_set (slots_of xs c) n w
  slots_set xs c n ys w low here same = made_set (slot_at xs) (slot_at (slice_set xs (n / 1024) ys)) c n w (slot_here xs n ys w low here) (λ m d. slot_same xs n m ys low same d)

  -- a page with no slots is added
  pub slots_more : (xs : List (List (Option X))) (c : ℕ) → slots_of (xs ++ [] ∷ []) c ≡ slots_of xs c
  slots_more xs c = made_same (slot_at xs) (slot_at (xs ++ [] ∷ [])) c None (λ m. ap (λ zs. slice_index_or zs (m % 1024) None) (default_more xs [] (m / 1024)))

  -- past the count each slot is empty
  pub slot_past : (xs : List (List (Option X))) (c n : ℕ) → Filled xs c → c ≤ n → slot_at xs n ≡ None
  slot_past xs c n f le =
      let a = div-add-mod' n 1024 in
      let b = div-add-mod' c 1024 in
      let r = mod_below n 1024 (omega arith) in
      let q = mod_below c 1024 (omega arith) in
      elim (cases_lt (n / 1024) (length xs)) as (λ _. slot_at xs n ≡ None) [
        | inl low ↦ (let few = f.few in let e : n / 1024 ≡ c / 1024 = omega arith in
            let begins : length (slice_index_or xs (n / 1024) []) ≡ c % 1024 = ap (λ p. length (slice_index_or xs p [])) e ∙ f.begins in
            get_or_past (slice_index_or xs (n / 1024) []) (n % 1024) None (omega arith))
        | inr high ↦ ap (λ zs. slice_index_or zs (n % 1024) None) (get_or_past xs (n / 1024) [] high)
      ]

  -- the list reads as the pages do
  pub slot_read : (xs : List (List (Option X))) (c n : ℕ) → Filled xs c → slice_index_or (slots_of xs c) n None ≡ slot_at xs n
  slot_read xs c n f =
      elim (cases_lt n c) as (λ _. slice_index_or (slots_of xs c) n None ≡ slot_at xs n) [
        | inl low ↦ get_or-map-range_with_len (slot_at xs) 0 c n n None low (omega arith)
        | inr high ↦ get_or_past (slots_of xs c) n None (let len = length-map-range_with_len (slot_at xs) 0 c in omega arith) ∙ sym (slot_past xs c n f high)
      ]

  -- a number with a record has a page and a slot there
  pub slot_page : (xs : List (List (Option X))) (n : ℕ) → IsSome (slot_at xs n) → n / 1024 < length xs
  slot_page xs n some =
      elim (cases_lt (n / 1024) (length xs)) as (λ _. n / 1024 < length xs) [
        | inl low ↦ low
        | inr high ↦ absurd (true≢false (sym (subst (λ (o : Option X). IsSome o) (ap (λ zs. slice_index_or zs (n % 1024) None) (get_or_past xs (n / 1024) [] high)) some)))
      ]

  pub slot_within : (xs : List (List (Option X))) (n : ℕ) → IsSome (slot_at xs n) → n % 1024 < length (slice_index_or xs (n / 1024) [])
  slot_within xs n some =
      let ps = slice_index_or xs (n / 1024) [] in
      elim (cases_lt (n % 1024) (length ps)) as (λ _. n % 1024 < length ps) [
        | inl low ↦ low
        | inr high ↦ absurd (true≢false (sym (subst (λ (o : Option X). IsSome o) (get_or_past ps (n % 1024) None high) some)))
      ]

  -- a page is written anew that is no longer or is not the last
  pub filled_set : (xs : List (List (Option X))) (c p : ℕ) (ys : List (Option X)) → p < length xs → (p ≡ c / 1024 → length ys ≡ length (slice_index_or xs p [])) → Filled xs c → Filled (slice_set xs p ys) c
  filled_set xs c p ys low len f =
      record {
        begun = (let e = length-set xs p ys in let b = f.begun in omega arith);
        few = (let e = length-set xs p ys in let b = f.few in omega arith);
        begins = elim (cases_eq (c / 1024) p) as (λ _. length (slice_index_or (slice_set xs p ys) (c / 1024) []) ≡ c % 1024) [
          | inl e ↦ ap length (get_or-set_at xs p (c / 1024) ys [] e low) ∙ (len (sym e) ∙ (ap (λ q. length (slice_index_or xs q [])) (sym e) ∙ f.begins))
          | inr d ↦ ap length (get_or-set_other xs p (c / 1024) ys [] d) ∙ f.begins
        ];
      }

  pub filled_more : (xs : List (List (Option X))) (c : ℕ) → length xs ≤ c / 1024 → Filled xs c → Filled (xs ++ [] ∷ []) c
  filled_more xs c low f =
      record {
        begun = (let e = length_push xs [] in let b = f.begun in omega arith);
        few = (let e = length_push xs [] in omega arith);
        begins = ap length (default_more xs [] (c / 1024)) ∙ f.begins;
      }

  -- one more slot in the page of the next number
  pub filled_push : (xs : List (List (Option X))) (c : ℕ) (w : Option X) → c / 1024 < length xs → Filled xs c → Filled (slice_set xs (c / 1024) (slice_index_or xs (c / 1024) [] ++ w ∷ [])) (c + 1)
  filled_push xs c w low f =
      let p = c / 1024 in
      let ps = slice_index_or xs p [] in
      let ys : List (Option X) = ps ++ w ∷ [] in
      let a = div-add-mod' c 1024 in
      let b = div-add-mod' (c + 1) 1024 in
      let r = mod_below c 1024 (omega arith) in
      let q = mod_below (c + 1) 1024 (omega arith) in
      let few = f.few in
      let len = length-set xs p ys in
      let long = length_push ps w in
      let begins = f.begins in
      record {
        begun = omega arith;
        few = omega arith;
        begins = elim (cases_eq ((c + 1) / 1024) p) as (λ _. length (slice_index_or (slice_set xs p ys) ((c + 1) / 1024) []) ≡ (c + 1) % 1024) [
          | inl e ↦ (let more : length ys ≡ (c + 1) % 1024 = omega arith in ap length (get_or-set_at xs p ((c + 1) / 1024) ys [] e low) ∙ more)
          | inr d ↦ (let none : 0 ≡ (c + 1) % 1024 = omega arith in let past : length (slice_set xs p ys) ≤ (c + 1) / 1024 = omega arith in
              ap length (get_or_past (slice_set xs p ys) ((c + 1) / 1024) [] past) ∙ none)
        ];
      }

  pub slots_push : (xs : List (List (Option X))) (c : ℕ) (w : Option X) → c / 1024 < length xs → Filled xs c → slots_of (slice_set xs (c / 1024) (slice_index_or xs (c / 1024) [] ++ w ∷ [])) (c + 1) ≡ slots_of xs c ++ w ∷ []
  slots_push xs c w low f =
      let p = c / 1024 in
      let ps = slice_index_or xs p [] in
      let ys : List (Option X) = ps ++ w ∷ [] in
      let begins = f.begins in
      let here : slot_at (slice_set xs p ys) c ≡ w = slot_here xs c ys w low (get_or_push ps w None (c % 1024) begins) in
      let same : (m : ℕ) → m < c → slot_at (slice_set xs p ys) m ≡ slot_at xs m = λ m less.
      elim (cases_eq (m / 1024) p) as (λ _. slot_at (slice_set xs p ys) m ≡ slot_at xs m) [
        | inl e ↦ (let a = div-add-mod' m 1024 in let b = div-add-mod' c 1024 in
            let within : m % 1024 < length ps = omega arith in
            ap (λ zs. slice_index_or zs (m % 1024) None) (get_or-set_at xs p (m / 1024) ys [] e low)
            ∙ (get_or_append_left ps (w ∷ []) None (m % 1024) within ∙ ap (λ q. slice_index_or (slice_index_or xs q []) (m % 1024) None) (sym e)))
        | inr a ↦ ap (λ zs. slice_index_or zs (m % 1024) None) (get_or-set_other xs p (m / 1024) ys [] a)
      ] in
      let fs : List (Option X) = slots_of xs c in
      let len : length fs ≡ c = length-map-range_with_len (slot_at xs) 0 c in
      map-range_with_len_more (slot_at (slice_set xs p ys)) 0 c c (omega arith)
      ∙ (ap (λ zs. zs ++ slot_at (slice_set xs p ys) c ∷ []) (sym (fill_by_all (slot_at (slice_set xs p ys)) fs c None len (λ k low_. get_or-map-range_with_len (slot_at xs) 0 c k k None low_ (omega arith) ∙ sym (same k low_))))
      ∙ ap (λ v. fs ++ v ∷ []) here)
