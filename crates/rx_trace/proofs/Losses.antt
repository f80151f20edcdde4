-- The places that lost tasks, in ascending order.
use Rattle.std.proofs.Common.{◌≡◌, ℕ, ◌+◌, ◌<◌, ◌≤◌, ◌^◌, Bool, true, false, cond, ◌==◌, nat_lt, List, [], ◌∷◌, ◌++◌, zero, suc, refl, ap, sym, ◌∙◌, subst, arith, append-nil, append_assoc, ◌≢◌, Option, Some, None, codes, filter}
use Rattle.std.specs.List.{AllByRecursion, flat_map}
use Rattle.std.specs.Str.{bytes_eq}
use Rattle.std.proofs.lemmas.Bool.{eqb-true, eq-eqb, ltb-true, ltb-false, lt-ltb}
use Rattle.std.proofs.lemmas.Nat.{pow_pos}
use Rattle.std.proofs.lemmas.Option.{same_Some, none-some}
use Rattle.rx_rules.proofs.Common.{PlaceId, PlaceSet, has_bit, members}
use Rattle.rx_base.proofs.Members.{same-sets, some-member}
use Rattle.rx_text.specs.Numbers.{natural_text}
use Rattle.rx_trace.specs.Fields.{natural_field}
use Rattle.rx_trace.specs.Parts.{lost_part}
use Rattle.rx_trace.proofs.Lines.{part-some}
use Rattle.rx_fields.specs.Words.{fields}
use Rattle.rx_fields.specs.Inside.FieldWords.{place_of}
use Rattle.rx_fields.specs.Inside.Readers.{done}
use Rattle.rx_fields.specs.Inside.PartWords.{set_of, place_joined, places_at, some_place, lost_read}
use Rattle.rx_fields.proofs.Bits.{pow-le, bit-same, bit-below, bit-above, bit-high, joined-low}
use Rattle.rx_fields.proofs.Cuts.{Plain, bytes-same}
use Rattle.rx_trace.proofs.Faults.{plain-word-is}
use Rattle.rx_trace.proofs.ReadFields.{place-takes, place-again}
use Rattle.rx_fields.proofs.Figures.{natural-plain}
use Rattle.rx_trace.proofs.Spelt.{Read, Takes, takes-done, behind, Again, AfterPart, NoItem}

-- the numbers a, a + 1, .., of which there are k
abbrev span : ℕ → ℕ → List ℕ
span a zero = []
span a (suc k) = a ∷ span (suc a) k

none-pass : (f : ℕ → Bool) (a k : ℕ) → ((i : ℕ) → a ≤ i → f i ≡ false) → filter f (span a k) ≡ []
none-pass f a zero h = refl
none-pass f a (suc k) h = ap (λ b. cond b (a ∷ filter f (span (suc a) k)) (filter f (span (suc a) k))) (h a (omega arith)) ∙ none-pass f (suc a) k (λ i above. h i (omega arith))

-- one number passes more, after all others
one-more : (f g : ℕ → Bool) (p a k : ℕ) → a ≤ p → p < a + k → g p ≡ true → ((i : ℕ) → i < p → g i ≡ f i) → ((i : ℕ) → p < i → g i ≡ false) → ((i : ℕ) → p ≤ i → f i ≡ false) → filter g (span a k) ≡ filter f (span a k) ++ p ∷ []
one-more f g p a zero from to here below above free = absurd (omega arith)
one-more f g p a (suc k) from to here below above free = by (a == p) refl (λ low. one-more f g p (suc a) k (omega arith) (omega arith) here below above free)
  where
    first-apart : (b : Bool) (xs ys : List ℕ) → xs ≡ ys ++ p ∷ [] → cond b (a ∷ xs) xs ≡ cond b (a ∷ ys) ys ++ p ∷ []
    first-apart true xs ys e = ap (λ zs. a ∷ zs) e
    first-apart false xs ys e = e

    by : (b : Bool) → (a == p) ≡ b → (a < p → filter g (span (suc a) k) ≡ filter f (span (suc a) k) ++ p ∷ []) → filter g (span a (suc k)) ≡ filter f (span a (suc k)) ++ p ∷ []
    by true e more =
        let same : a ≡ p = eqb-true a p e in
        let yes : g a ≡ true = ap g same ∙ here in
        let not_f : f a ≡ false = free a (omega arith) in
        ap (λ b. cond b (a ∷ filter g (span (suc a) k)) (filter g (span (suc a) k))) yes
        ∙ ap (λ xs. a ∷ xs) (none-pass g (suc a) k (λ i high. above i (omega arith)))
        ∙ ap (λ x. x ∷ []) same
        ∙ sym (ap (λ xs. xs ++ p ∷ []) (ap (λ b. cond b (a ∷ filter f (span (suc a) k)) (filter f (span (suc a) k))) not_f ∙ none-pass f (suc a) k (λ i high. free i (omega arith))))
    by false e more =
        let apart : a ≢ p = λ h. (let t : (a == p) ≡ true = eq-eqb a p h in cc) in
        let low : a < p = omega (arith, apart) in
        ap (λ b. cond b (a ∷ filter g (span (suc a) k)) (filter g (span (suc a) k))) (below a low)
        ∙ first-apart (f a) (filter g (span (suc a) k)) (filter f (span (suc a) k)) (more low)

-- a place above all others joins a set
pub members-joined : (m p : ℕ) → m < 2 ^ p → p < 16 → members (set_of (m + 2 ^ p)) ≡ members (set_of m) ++ p ∷ []
members-joined m p low few =
    one-more (has_bit m) (has_bit (m + 2 ^ p)) p 0 16 (omega arith) (omega arith) (bit-same m p low)
    (λ i below. bit-below m p i below) (λ i above. bit-above m p i low above) (λ i above. bit-high m p i low above)

flat-push : (xs : List ℕ) (x : ℕ) → flat_map natural_field (xs ++ x ∷ []) ≡ flat_map natural_field xs ++ natural_field x
flat-push [] x = append-nil (natural_field x)
flat-push (y ∷ ys) x = ap (λ r. natural_field y ++ r) (flat-push ys x) ∙ sym (append_assoc (natural_field y) (flat_map natural_field ys) (natural_field x))

abbrev told : ℕ → List ℕ
told set = flat_map natural_field (members (set_of set))

record Gone (places set : ℕ) (ws : List (List ℕ)) (s : PlaceSet) (rest : List (List ℕ)) : Type 0 where
  pub whole : told set ++ fields ws ≡ told s.0 ++ fields rest
  pub low : s.0 < 2 ^ places

place-joined : (places : ℕ) (w : List ℕ) (ws : List (List ℕ)) (set : ℕ) (s : PlaceSet) (rest : List (List ℕ)) (o : Option PlaceId) → place_of places w ≡ o → places ≤ 16 → set < 2 ^ places → ((n : ℕ) → n < 2 ^ places → places_at places n ws ≡ Some (s, rest) → Gone places n ws s rest) → place_joined o set w ws (λ n. places_at places n ws) ≡ Some (s, rest) → Gone places set (w ∷ ws) s rest
place-joined places w ws set s rest None is few low more e =
    let same = same_Some (set_of set, w ∷ ws) (s, rest) e in
    let value : set_of set ≡ s = ap (λ x. x.0) same in
    let left : w ∷ ws ≡ rest = ap (λ x. x.1) same in
    record { whole = ap (λ x. told x.0 ++ fields (w ∷ ws)) value ∙ ap (λ vs. told s.0 ++ fields vs) left; low = subst (λ (x : PlaceSet). x.0 < 2 ^ places) value low }
place-joined places w ws set s rest (Some p) is few low more e = by (nat_lt set (2 ^ p.0)) refl e
  where
    by : (b : Bool) → nat_lt set (2 ^ p.0) ≡ b → cond b (places_at places (set + 2 ^ p.0) ws) None ≡ Some (s, rest) → Gone places set (w ∷ ws) s rest
    by false h f = absurd (none-some (s, rest) f)
    by true h f =
        let below : set < 2 ^ p.0 = ltb-true set (2 ^ p.0) h in
        let place = place-takes places w p is in
        let inside : p.0 < places = place.1 in
        let next = more (set + 2 ^ p.0) (joined-low set p.0 places below inside) f in
        record {
          whole = ap (λ v. told set ++ (v ++ fields ws)) place.0
              ∙ sym (append_assoc (told set) (natural_field p.0) (fields ws))
              ∙ ap (λ t. t ++ fields ws) (sym (ap (flat_map natural_field) (members-joined set p.0 below (omega arith)) ∙ flat-push (members (set_of set)) p.0))
              ∙ next.whole;
          low = next.low;
        }

places-take : (places : ℕ) (ws : List (List ℕ)) (set : ℕ) (s : PlaceSet) (rest : List (List ℕ)) → places ≤ 16 → set < 2 ^ places → places_at places set ws ≡ Some (s, rest) → Gone places set ws s rest
places-take places [] set s rest few low e =
    let same = same_Some (set_of set, []) (s, rest) e in
    let value : set_of set ≡ s = ap (λ x. x.0) same in
    let left : [] ≡ rest = ap (λ x. x.1) same in
    record { whole = ap (λ x. told x.0 ++ []) value ∙ ap (λ vs. told s.0 ++ fields vs) left; low = subst (λ (x : PlaceSet). x.0 < 2 ^ places) value low }
places-take places (w ∷ ws) set s rest few low e =
    place-joined places w ws set s rest (place_of places w) refl few low (λ n small f. places-take places ws n s rest few small f) e

pub lost-takes : (places : ℕ) → places ≤ 16 → Takes (lost_read places) (λ s t. (t ≡ lost_part s) × (s.0 < 2 ^ places))
unfolding lost_part
lost-takes places few = record { takes = t }
  where
    S : PlaceSet → List ℕ → Type 0
    S s t = (t ≡ lost_part s) × (s.0 < 2 ^ places)

    power : 0 < 2 ^ places
    power = pow_pos places

    nothing : (ws : List (List ℕ)) (s : PlaceSet) (rest : List (List ℕ)) → done (set_of 0) ws ≡ Some (s, rest) → Read S ws s rest
    nothing ws s rest e = (takes-done (set_of 0) S (refl, power)).takes ws s rest e

    some : (ws : List (List ℕ)) (s : PlaceSet) (rest : List (List ℕ)) (o : Option (PlaceSet × List (List ℕ))) → places_at places 0 ws ≡ o → some_place o ≡ Some (s, rest) → Read (λ x t. S x ((32 ∷ codes "lost") ++ t)) ws s rest
    some ws s rest None is e = absurd (none-some (s, rest) e)
    some ws s rest (Some x) is e = filled (x.0.0 == 0) refl e
      where
        filled : (b : Bool) → (x.0.0 == 0) ≡ b → cond b None (Some x) ≡ Some (s, rest) → Read (λ x t. S x ((32 ∷ codes "lost") ++ t)) ws s rest
        filled true h f = absurd (none-some (s, rest) f)
        filled false h f =
            let same = same_Some x (s, rest) f in
            let value : x.0 ≡ s = ap (λ y. y.0) same in
            let left : x.1 ≡ rest = ap (λ y. y.1) same in
            let gone = places-take places ws 0 x.0 x.1 few power is in
            let small : x.0.0 < 2 ^ 16 = let h : 2 ^ places ≤ 2 ^ 16 = pow-le places 16 few in let l : x.0.0 < 2 ^ places = gone.low in omega arith in
            let not_zero : x.0.0 ≡ 0 → ⊥ = λ z. (let t : (x.0.0 == 0) ≡ true = eq-eqb x.0.0 0 z in cc) in
            record {
              text = told x.0.0;
              whole = gone.whole ∙ ap (λ r. told x.0.0 ++ fields r) left;
              known = subst (λ (y : PlaceSet). S y ((32 ∷ codes "lost") ++ told x.0.0)) value
                  (sym (part-some (codes " lost") natural_field (members x.0) (some-member x.0 small not_zero)), gone.low);
            }

    by : (w : List ℕ) (ws : List (List ℕ)) (s : PlaceSet) (rest : List (List ℕ)) (b : Bool) → bytes_eq w (codes "lost") ≡ b → cond b (some_place (places_at places 0 ws)) (Some (set_of 0, w ∷ ws)) ≡ Some (s, rest) → Read S (w ∷ ws) s rest
    by w ws s rest true is e = behind S (codes "lost") w ws s rest (bytes-same w (codes "lost") is) (some ws s rest (places_at places 0 ws) refl e)
    by w ws s rest false is e = nothing (w ∷ ws) s rest e

    t : (ws : List (List ℕ)) (s : PlaceSet) (rest : List (List ℕ)) → lost_read places ws ≡ Some (s, rest) → Read S ws s rest
    t [] s rest e = nothing [] s rest e
    t (w ∷ ws) s rest e = by w ws s rest (bytes_eq w (codes "lost")) refl e

-- places that join one after the other
abbrev set_after : ℕ → List ℕ → ℕ
set_after set [] = set
set_after set (p ∷ ps) = set_after (set + 2 ^ p) ps

abbrev Rising : ℕ → ℕ → List ℕ → Type 0
Rising places set [] = Unit {0}
Rising places set (p ∷ ps) = (set < 2 ^ p) × (p < places) × Rising places (set + 2 ^ p) ps

rising-span : (places : ℕ) (f : ℕ → Bool) (a k set : ℕ) → set < 2 ^ a → ((i : ℕ) → f i ≡ true → i < places) → Rising places set (filter f (span a k))
rising-span places f a zero set low h = tt
rising-span places f a (suc k) set low h = by (f a) refl (rising-span places f (suc a) k (set + 2 ^ a) (omega arith) h) (rising-span places f (suc a) k set (omega arith) h)
  where
    by : (b : Bool) → f a ≡ b → Rising places (set + 2 ^ a) (filter f (span (suc a) k)) → Rising places set (filter f (span (suc a) k)) → Rising places set (cond b (a ∷ filter f (span (suc a) k)) (filter f (span (suc a) k)))
    by true e with_it without = (low, h a e, with_it)
    by false e with_it without = without

bit-inside : (places s : ℕ) → s < 2 ^ places → (i : ℕ) → has_bit s i ≡ true → i < places
bit-inside places s low i set = by (nat_lt i places) refl
  where
    by : (b : Bool) → nat_lt i places ≡ b → i < places
    by true e = ltb-true i places e
    by false e =
        let above : places ≤ i = ltb-false i places e in
        let clash : true ≡ false = sym set ∙ bit-high s places i low above in cc

rising-members : (places : ℕ) (s : PlaceSet) → s.0 < 2 ^ places → Rising places 0 (members s)
rising-members places s low = rising-span places (has_bit s.0) 0 16 0 (omega arith) (bit-inside places s.0 low)

after-members : (places : ℕ) (ps : List ℕ) (set : ℕ) → places ≤ 16 → set < 2 ^ places → Rising places set ps → (members (set_of (set_after set ps)) ≡ members (set_of set) ++ ps) × (set_after set ps < 2 ^ places)
after-members places [] set few low r = (sym (append-nil (members (set_of set))), low)
after-members places (p ∷ ps) set few low r =
    let inside : p < places = r.1 in
    let more = after-members places ps (set + 2 ^ p) few (joined-low set p places r.0 r.1) r.2 in
    (more.0 ∙ ap (λ xs. xs ++ ps) (members-joined set p r.0 (omega arith)) ∙ append_assoc (members (set_of set)) (p ∷ []) ps, more.1)

after-all : (places : ℕ) (s : PlaceSet) → places ≤ 16 → s.0 < 2 ^ places → set_of (set_after 0 (members s)) ≡ s
after-all places s few low =
    let all = after-members places (members s) 0 few (omega arith) (rising-members places s low) in
    let most : 2 ^ places ≤ 2 ^ 16 = pow-le places 16 few in
    let n = set_after 0 (members s) in
    let small : n < 2 ^ places = all.1 in
    same-sets (set_of n) s (omega arith) (omega arith) all.0

abbrev place_texts : List ℕ → List (List ℕ)
place_texts [] = []
place_texts (p ∷ ps) = natural_text p ∷ place_texts ps

texts-fields : (ps : List ℕ) → fields (place_texts ps) ≡ flat_map natural_field ps
texts-fields [] = refl
texts-fields (p ∷ ps) = ap (λ r. natural_field p ++ r) (texts-fields ps)

texts-plain : (places : ℕ) (ps : List ℕ) (set : ℕ) → places ≤ 16 → Rising places set ps → AllByRecursion Plain (place_texts ps)
texts-plain places [] set few r = tt
texts-plain places (p ∷ ps) set few r = let inside : p < places = r.1 in (natural-plain p (omega arith), texts-plain places ps (set + 2 ^ p) few r.2)

places-end : (places set : ℕ) (rest : List (List ℕ)) → NoItem (place_of places) rest → places_at places set rest ≡ Some (set_of set, rest)
places-end places set [] n = refl
places-end places set (w ∷ ws) n = ap (λ o. place_joined o set w ws (λ m. places_at places m ws)) n

places-again : (places : ℕ) (ps : List ℕ) (set : ℕ) (rest : List (List ℕ)) → places ≤ 16 → Rising places set ps → NoItem (place_of places) rest → places_at places set (place_texts ps ++ rest) ≡ Some (set_of (set_after set ps), rest)
places-again places [] set rest few r n = places-end places set rest n
places-again places (p ∷ ps) set rest few r n =
    ap (λ o. place_joined o set (natural_text p) (place_texts ps ++ rest) (λ m. places_at places m (place_texts ps ++ rest))) (place-again places (record { 0 = p }) few r.1)
    ∙ ap (λ b. cond b (places_at places (set + 2 ^ p) (place_texts ps ++ rest)) None) (lt-ltb set (2 ^ p) r.0)
    ∙ places-again places ps (set + 2 ^ p) rest few r.2 n

lost-none : (places : ℕ) (rest : List (List ℕ)) → AfterPart (codes "lost") (place_of places) rest → lost_read places rest ≡ Some (set_of 0, rest)
lost-none places [] n = refl
lost-none places (w ∷ ws) n = ap (λ b. cond b (some_place (places_at places 0 ws)) (Some (set_of 0, w ∷ ws))) n.0

no-place : (places : ℕ) (rest : List (List ℕ)) → AfterPart (codes "lost") (place_of places) rest → NoItem (place_of places) rest
no-place places [] n = tt
no-place places (w ∷ ws) n = n.1

pub lost-again : (places : ℕ) (s : PlaceSet) → places ≤ 16 → s.0 < 2 ^ places → Again (lost_read places) s (lost_part s) (AfterPart (codes "lost") (place_of places))
unfolding lost_part
lost-again places s few low = by (s.0 == 0) refl
  where
    N : List (List ℕ) → Type 0
    N = AfterPart (codes "lost") (place_of places)

    ps : List ℕ
    ps = members s

    by : (b : Bool) → (s.0 == 0) ≡ b → Again (lost_read places) s (lost_part s) N
    by true e =
        let zero_is : set_of 0 ≡ s = ap set_of (sym (eqb-true s.0 0 e)) in
        subst (λ (x : PlaceSet). Again (lost_read places) x (lost_part x) N) zero_is (record { front = []; spelled = refl; plain = tt; reads = lost-none places })
    by false e =
        let most : 2 ^ places ≤ 2 ^ 16 = pow-le places 16 few in
        let not_zero : s.0 ≡ 0 → ⊥ = λ z. (let t : (s.0 == 0) ≡ true = eq-eqb s.0 0 z in cc) in
        let rising = rising-members places s low in
        record {
          front = codes "lost" ∷ place_texts ps;
          spelled = ap (λ t. codes " lost" ++ t) (texts-fields ps) ∙ sym (part-some (codes " lost") natural_field ps (some-member s (omega arith) not_zero));
          plain = (plain-word-is (codes "lost") refl, texts-plain places ps 0 few rising);
          reads = λ rest n. ap some_place (places-again places ps 0 rest few rising (no-place places rest n) ∙ ap (λ x. Some (x, rest)) (after-all places s few low))
              ∙ ap (λ b. cond b None (Some (s, rest))) e;
        }
