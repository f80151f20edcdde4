-- The same of the pages as they are kept.
use Rattle.std.proofs.Common.{◌≡◌, ℕ, ◌+◌, ◌<◌, ◌≤◌, ◌/◌, ◌%◌, List, [], ◌∷◌, ◌++◌, Bool, true, false, cond, length, Option, Some, None, IsSome, Result, Ok, Err, OnErr, option_map, box_value, refl, slice_index_or, slice_set, sym, ap, subst, ◌∙◌, arith}
use Rattle.std.specs.Global.{Vec, Box}
use Rattle.std.proofs.lemmas.List.{get_or_past, get_or-map, map-set, length-map, length_push, set-get_or}
use Rattle.rx_counts.specs.declared.record.Record.{Record}
use Rattle.rx_counts.specs.Stands.{record_at}
use Rattle.rx_counts.specs.Inside.Paging.{lists, slot_at, slots_of, Filled}
use Rattle.rx_counts.proofs.Paging.{made_set, slot_read, slot_page, slots_set, slots_more, filled_set, filled_more, filled_push, slots_push}

-- a slot that is mapped to something has something
pub some_mapped : {X Y : Type 0} (f : X → Y) (o : Option X) → IsSome (option_map f o) → IsSome o
some_mapped f None some = some
some_mapped f (Some x) some = refl

module _ {X : Type 0} where
  pub lists_length : (pages : List (Vec X)) → length (lists pages) ≡ length pages
  lists_length pages = length-map pages (λ p. p.items)

  pub page_read : (pages : List (Vec X)) (p : ℕ) (v : Vec X) → p < length pages → v ≡ slice_index_or pages p v → slice_index_or (lists pages) p [] ≡ v.items
  page_read pages p v low e = get_or-map (λ u. u.items) pages p v [] low ∙ ap (λ (u : Vec X). u.items) (sym e)

  pub page_missing : (pages : List (Vec X)) (p : ℕ) → length pages ≤ p → slice_index_or (lists pages) p [] ≡ []
  page_missing pages p high = get_or_past (lists pages) p [] (let e = lists_length pages in omega arith)

  -- a page is written anew
  pub lists_set : (pages : List (Vec X)) (p : ℕ) (v : Vec X) → lists (slice_set pages p v) ≡ slice_set (lists pages) p v.items
  lists_set pages p v = map-set (λ (u : Vec X). u.items) pages p v

  pub lists_kept : (pages : List (Vec X)) (p : ℕ) (v : Vec X) → v.items ≡ slice_index_or (lists pages) p [] → lists (slice_set pages p v) ≡ lists pages
  lists_kept pages p v e = lists_set pages p v ∙ (ap (slice_set (lists pages) p) e ∙ set-get_or (lists pages) p [])

module _ {X : Type 0} where
  pub page_low : (pages : List (Vec (Option X))) (n : ℕ) → IsSome (slot_at (lists pages) n) → n / 1024 < length pages
  page_low pages n some = (let e = lists_length pages in let low = slot_page (lists pages) n some in omega arith)

  pub slots_lent : (pages : List (Vec (Option X))) (c n : ℕ) (v : Vec (Option X)) (w : Option X) → n / 1024 < length pages → slice_index_or v.items (n % 1024) None ≡ w → ((k : ℕ) → (k ≡ n % 1024 → ⊥) → slice_index_or v.items k None ≡ slice_index_or (slice_index_or (lists pages) (n / 1024) []) k None) → slots_of (lists (slice_set pages (n / 1024) v)) c ≡ slice_set (slots_of (lists pages) c) n w
  slots_lent pages c n v w low here same =
      let long : n / 1024 < length (lists pages) = (let e = lists_length pages in omega arith) in
      ap (λ xs. slots_of xs c) (lists_set pages (n / 1024) v) ∙ slots_set (lists pages) c n v.items w long here same

  pub filled_lent : (pages : List (Vec (Option X))) (c p : ℕ) (v : Vec (Option X)) → p < length pages → (p ≡ c / 1024 → length v.items ≡ length (slice_index_or (lists pages) p [])) → Filled (lists pages) c → Filled (lists (slice_set pages p v)) c
  filled_lent pages c p v low len f =
      let long : p < length (lists pages) = (let e = lists_length pages in omega arith) in
      subst (λ xs. Filled xs c) (sym (lists_set pages p v)) (filled_set (lists pages) c p v.items long len f)

  -- an empty slot is emptied
  pub slots_empty : (pages : List (Vec (Option X))) (c n : ℕ) → length pages ≤ n / 1024 → slots_of (lists pages) c ≡ slice_set (slots_of (lists pages) c) n None
  slots_empty pages c n high =
      let xs = lists pages in
      made_set (slot_at xs) (slot_at xs) c n None (ap (λ zs. slice_index_or zs (n % 1024) None) (page_missing pages (n / 1024) high)) (λ m d. refl)

  -- a page is begun or not
  pub begun_slots : (old new : List (Vec (Option X))) (b : Bool) (c : ℕ) → lists new ≡ cond b (lists old) (lists old ++ [] ∷ []) → slots_of (lists new) c ≡ slots_of (lists old) c
  begun_slots old new true c e = ap (λ xs. slots_of xs c) e
  begun_slots old new false c e = ap (λ xs. slots_of xs c) e ∙ slots_more (lists old) c

  pub begun_filled : (old new : List (Vec (Option X))) (b : Bool) (c : ℕ) → lists new ≡ cond b (lists old) (lists old ++ [] ∷ []) → Filled (lists old) c → (length old ≤ c / 1024 + 1 → length new ≤ c / 1024 + 1) → Filled (lists new) c
  begun_filled old new true c e f few = subst (λ xs. Filled xs c) (sym e) f
  begun_filled old new false c e f few =
      let low : length (lists old) ≤ c / 1024 = (let a = lists_length old in let b = lists_length new in let g = f.few in let h = few (omega arith) in let len : length (lists new) ≡ length (lists old) + 1 = ap length e ∙ length_push (lists old) [] in omega arith) in
      subst (λ xs. Filled xs c) (sym e) (filled_more (lists old) c low f)

  -- a slot is added to the page of the next number
  pub pushed_filled : (pages : List (Vec (Option X))) (c : ℕ) (v u : Vec (Option X)) (w : Option X) → c / 1024 < length pages → v ≡ slice_index_or pages (c / 1024) v → u.items ≡ v.items ++ w ∷ [] → Filled (lists pages) c → Filled (lists (slice_set pages (c / 1024) u)) (c + 1)
  pushed_filled pages c v u w low at more f =
      let long : c / 1024 < length (lists pages) = (let e = lists_length pages in omega arith) in
      subst (λ xs. Filled xs (c + 1))
      (sym (lists_set pages (c / 1024) u ∙ ap (slice_set (lists pages) (c / 1024)) (more ∙ ap (λ zs. zs ++ w ∷ []) (sym (page_read pages (c / 1024) v low at)))))
      (filled_push (lists pages) c w long f)

  pub pushed_slots : (pages : List (Vec (Option X))) (c : ℕ) (v u : Vec (Option X)) (w : Option X) → c / 1024 < length pages → v ≡ slice_index_or pages (c / 1024) v → u.items ≡ v.items ++ w ∷ [] → Filled (lists pages) c → slots_of (lists (slice_set pages (c / 1024) u)) (c + 1) ≡ slots_of (lists pages) c ++ w ∷ []
  pushed_slots pages c v u w low at more f =
      let long : c / 1024 < length (lists pages) = (let e = lists_length pages in omega arith) in
      ap (λ xs. slots_of xs (c + 1))
      (lists_set pages (c / 1024) u ∙ ap (slice_set (lists pages) (c / 1024)) (more ∙ ap (λ zs. zs ++ w ∷ []) (sym (page_read pages (c / 1024) v low at))))
      ∙ slots_push (lists pages) c w long f

-- the record of a number is that of its page's slot
pub record_read : (pages : List (Vec (Option (Box Record)))) (c n : ℕ) (ps rs : List (Option (Box Record))) → slice_index_or (lists pages) (n / 1024) [] ≡ ps → slots_of (lists pages) c ≡ rs → Filled (lists pages) c → record_at ps (n % 1024) ≡ record_at rs n
record_read pages c n ps rs e view f =
    sym (ap (λ zs. record_at zs (n % 1024)) e)
    ∙ (sym (ap (option_map box_value) (slot_read (lists pages) c n f)) ∙ ap (λ zs. record_at zs n) view)

pub some_slot : (pages : List (Vec (Option (Box Record)))) (c n : ℕ) (rs : List (Option (Box Record))) → slots_of (lists pages) c ≡ rs → Filled (lists pages) c → IsSome (record_at rs n) → IsSome (slot_at (lists pages) n)
some_slot pages c n rs view f some =
    some_mapped box_value (slot_at (lists pages) n)
    (subst (λ (o : Option Record). IsSome o) (sym (record_read pages c n (slice_index_or (lists pages) (n / 1024) []) rs refl view f)) some)

pub on_err : {A E : Type 0} (r : Result A E) (P : Type 0) → P → OnErr r P
on_err (Ok a) P p = tt
on_err (Err e) P p = p
