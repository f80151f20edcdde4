-- Words ask for proper setups.
use Rattle.std.proofs.Common.{◌≡◌, ◌∙◌, ℕ, suc, ◌≤◌, ◌^◌, ◌-◌, List, [], ◌∷◌, Option, Some, None, refl, arith, map, length, IfSome, Bool, true, false, bytes_eq, codes, if◌then◌else◌}
use Rattle.std.proofs.lemmas.List.Sorted.{length_permutation}
use Rattle.std.proofs.lemmas.List.{length-map}
use Rattle.rx_rules.proofs.Common.{Proper}
use Rattle.rx_words.specs.Words.{number_of, kill_of, pick_list_of, Wants, nothing_yet, Taken, NotAnOption, BadValue, Takes, good, taken, choice, or_else, joined, bad_join, bad_kill, first_of, first_bad, setup_of, source, Asked, Step, Gen, Check, Verify, Span, Live, BadWord, unless_bad, generated, settled, cut_off, options, alone, asked}
use Rattle.rx_words.specs.declared.said.Verb.{Verb}
use Rattle.rx_words.specs.declared.said.Verb.TheVariants as verbs
use Rattle.rx_words.specs.declared.kind.Kind.{Kind}
use Rattle.rx_words.specs.declared.kind.Kind.TheVariants as kinds
use Rattle.rx_words.specs.Proper.{HasProper, SetupsAreProper}
use Rattle.rx_words.proofs.Numbers.{number-spelled}
use Rattle.rx_words.specs.Commands.{moment_in}
use Rattle.rx_words.specs.Inside.Rising.{rising}
use Rattle.rx_words.proofs.KillPlans.{planned-kills}
use Rattle.rx_words.proofs.Joins.{room-for}

-- the places and the words of a heap that options have said are in their ranges
pub record IsRanged (w : Wants) : Type 0 where
  pub places : IfSome w.places (λ n. (1 ≤ n) × (n ≤ 16))
  pub heap : IfSome w.heap (λ n. (1 ≤ n) × (n ≤ 4096))

-- the same of what an option makes of its value
abbrev AfterTaking : Taken → Type 0
AfterTaking NotAnOption = Unit {0}
AfterTaking BadValue = Unit {0}
AfterTaking (Takes w) = IsRanged w

good-ranged : {A : Type 0} (o : Option A) (takes : A → Wants) → ((a : A) → o ≡ Some a → IsRanged (takes a)) → AfterTaking (good o takes)
good-ranged (Some a) takes h = h a refl
good-ranged None takes h = tt

taken-ranged : (c : Kind) (w : Wants) (k : ℕ) (value : List ℕ) → IsRanged w → AfterTaking (taken c w k value)
taken-ranged kinds.NoOption w k value r = tt
taken-ranged kinds.Size w k value r = good-ranged (number_of 1 10000 value) _ (λ n e. record { places = r.places; heap = r.heap })
taken-ranged kinds.Places w k value r = good-ranged (number_of 1 16 value) _ (λ n e. record { places = let t = number-spelled 1 16 n value e in (t.1, t.2); heap = r.heap })
taken-ranged kinds.Heap w k value r = good-ranged (number_of 1 4096 value) _ (λ n e. record { places = r.places; heap = let t = number-spelled 1 4096 n value e in (t.1, t.2) })
taken-ranged kinds.Kill w k value r = good-ranged (kill_of value) _ (λ kill e. record { places = r.places; heap = r.heap })
taken-ranged kinds.Join w k value r = good-ranged (number_of 0 1000000 value) _ (λ n e. record { places = r.places; heap = r.heap })
taken-ranged kinds.Pick w k value r = good-ranged (pick_list_of value) _ (λ list e. record { places = r.places; heap = r.heap })
taken-ranged kinds.Seed w k value r = good-ranged (number_of 0 (2 ^ 64 - 1) value) _ (λ n e. record { places = r.places; heap = r.heap })
taken-ranged kinds.Workers w k value r = good-ranged (number_of 1 8 value) _ (λ n e. record { places = r.places; heap = r.heap })
taken-ranged kinds.Watch w k value r = good-ranged (number_of 1 1000 value) _ (λ n e. record { places = r.places; heap = r.heap })

-- what options say, or what stands for it, is in range
within : (least most usual : ℕ) (o : Option ℕ) → (least ≤ usual) × (usual ≤ most) → IfSome o (λ n. (least ≤ n) × (n ≤ most)) → (least ≤ or_else o usual) × (or_else o usual ≤ most)
within least most usual (Some n) u h = h
within least most usual None u h = u

none-of : (a b : Option ℕ) → first_of a b ≡ None → (a ≡ None) × (b ≡ None)
none-of (Some a) (Some b) e = cc
none-of (Some a) None e = cc
none-of None b e = (refl, e)

-- joins stand in order as many as they were named
joined-length : (js : List (ℕ × ℕ)) → length (joined js) ≡ length js
joined-length js = length_permutation (map moment_in js) (joined js) (rising (map moment_in js)).same ∙ length-map js moment_in

pub setup-proper : (w : Wants) → IsRanged w → first_bad w ≡ None → Proper (setup_of w)
setup-proper w r e =
    let places = within 1 16 2 w.places (omega arith, omega arith) r.places in
    let heap = within 1 4096 256 w.heap (omega arith, omega arith) r.heap in
    let none = none-of (bad_join (or_else w.places 2) w.joins) (bad_kill (or_else w.places 2) (joined w.joins) [] w.kills) e in
    let room = room-for (or_else w.places 2) w.joins places.1 none.0 in
    let all = joined-length w.joins in
    record {
      some = places.0;
      few = omega arith;
      words = heap.0;
      small = heap.1;
      kills = planned-kills (setup_of w) w.kills none.1;
      joins = (rising (map moment_in w.joins)).never_falls;
    }

settled-proper : (verb : Verb) (w : Wants) (k : ℕ) → IsRanged w → HasProper (settled verb w k)
settled-proper verbs.Step w k r = by (first_bad w) refl
  where
    by : (o : Option ℕ) → first_bad w ≡ o → HasProper (unless_bad o (Step (setup_of w) (source w.picks w.seed)))
    by (Some n) e = tt
    by None e = setup-proper w r e
settled-proper verbs.Gen w k r = sized w.size
  where
    by : (n : ℕ) (o : Option ℕ) → first_bad w ≡ o → HasProper (unless_bad o (Gen n (setup_of w) w.seed))
    by n (Some m) e = tt
    by n None e = setup-proper w r e

    sized : (o : Option ℕ) → HasProper (generated o w k)
    sized (Some n) = by n (first_bad w) refl
    sized None = tt
settled-proper verbs.Live w k r = by (first_bad w) refl
  where
    by : (o : Option ℕ) → first_bad w ≡ o → HasProper (unless_bad o (Live (setup_of w) (or_else w.workers 2) w.watch))
    by (Some n) e = tt
    by None e = setup-proper w r e

cut-proper : (c : Kind) (k : ℕ) → HasProper (cut_off c k)
cut-proper kinds.NoOption k = tt
cut-proper kinds.Size k = tt
cut-proper kinds.Places k = tt
cut-proper kinds.Heap k = tt
cut-proper kinds.Kill k = tt
cut-proper kinds.Join k = tt
cut-proper kinds.Pick k = tt
cut-proper kinds.Seed k = tt
cut-proper kinds.Workers k = tt
cut-proper kinds.Watch k = tt

pub options-proper : (verb : Verb) (w : Wants) (k : ℕ) (words : List (List ℕ)) → IsRanged w → HasProper (options verb w k words)
options-proper verb w k [] r = settled-proper verb w k r
options-proper verb w k (name ∷ []) r = cut-proper (choice verb w name) k
options-proper verb w k (name ∷ value ∷ words) r = by (taken (choice verb w name) w (suc k) value) (taken-ranged (choice verb w name) w (suc k) value r) (λ v. options-proper verb v (suc (suc k)) words)
  where
    by : (t : Taken) → AfterTaking t → ((v : Wants) → IsRanged v → HasProper (options verb v (suc (suc k)) words)) → HasProper (elim t [ NotAnOption ↦ BadWord k | BadValue ↦ BadWord (suc k) | Takes v ↦ options verb v (suc (suc k)) words ])
    by NotAnOption h rest = tt
    by BadValue h rest = tt
    by (Takes v) h rest = rest v h

pub none-ranged : IsRanged nothing_yet
none-ranged = record { places = tt; heap = tt }

alone-proper : (a : Asked) (words : List (List ℕ)) → HasProper a → HasProper (alone a words)
alone-proper a [] h = h
alone-proper a (word ∷ words) h = tt

asked-proper : (word : List ℕ) (words : List (List ℕ)) → HasProper (asked (word ∷ words))
asked-proper word words = by (bytes_eq word (codes "step")) (bytes_eq word (codes "gen")) (bytes_eq word (codes "check")) (bytes_eq word (codes "verify")) (bytes_eq word (codes "span"))
  where
    by : (a b c d e : Bool) → HasProper (if a then options verbs.Step nothing_yet 1 words else (if b then options verbs.Gen nothing_yet 1 words else (if c then alone Check words else (if d then alone Verify words else (if e then alone Span words else BadWord 0)))))
    by true b c d e = options-proper verbs.Step nothing_yet 1 words none-ranged
    by false true c d e = options-proper verbs.Gen nothing_yet 1 words none-ranged
    by false false true d e = alone-proper Check words tt
    by false false false true e = alone-proper Verify words tt
    by false false false false true = alone-proper Span words tt
    by false false false false false = tt

pub setups-are-proper : SetupsAreProper
setups-are-proper [] = tt
setups-are-proper (word ∷ words) = by (bytes_eq word (codes "live"))
  where
    by : (b : Bool) → HasProper (if b then options verbs.Live nothing_yet 1 words else asked (word ∷ words))
    by true = options-proper verbs.Live nothing_yet 1 words none-ranged
    by false = asked-proper word words
