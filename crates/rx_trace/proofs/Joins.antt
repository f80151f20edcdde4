-- The line of the joins.
use Rattle.std.proofs.Common.{◌≡◌, ℕ, ◌+◌, ◌-◌, ◌<◌, ◌≤◌, Bool, true, false, cond, ◌&&◌, ◌||◌, nat_le, nat_lt, List, [], ◌∷◌, ◌++◌, length, zero, suc, refl, ap, sym, ◌∙◌, subst, arith, Option, Some, None, option_map, slice_get, codes}
use Rattle.std.specs.List.{AllByRecursion, flat_map}
use Rattle.std.specs.Str.{bytes_eq}
use Rattle.std.proofs.lemmas.Bool.{and_parts, and_from, ltb-true, ltb-false, le-leb}
use Rattle.std.proofs.lemmas.Bool.Decides.{nat_tests}
use Rattle.std.proofs.lemmas.Option.{same_Some, none-some, slice_get_within}
use Rattle.rx_rules.proofs.Common.{Kill, Given, in_all, AreKills, AreJoins}
use Rattle.rx_base.proofs.Elements.{get-within, rest-is}
use Rattle.rx_text.specs.Numbers.{natural_text}
use Rattle.rx_trace.specs.Fields.{natural_field}
use Rattle.rx_fields.specs.Words.{Lacks, pieces, fields}
use Rattle.rx_fields.specs.Inside.FieldWords.{next, number_below}
use Rattle.rx_trace.specs.Inside.Machine.{joins_of, has_joined, is_there, all_there, joins_line_of}
use Rattle.rx_fields.proofs.Cuts.{Plain, bytes-same}
use Rattle.rx_trace.proofs.Faults.{plain-word-is}
use Rattle.rx_trace.proofs.ReadFields.{next-is, map-is}
use Rattle.rx_fields.proofs.Figures.{below-takes, below-again, natural-plain}
use Rattle.rx_trace.proofs.Plans.{InTurn}
use Rattle.rx_trace.proofs.Wholes.{cut-line, fields-lack, LineAgain, words-of-line}

-- the place of a kill is one of those in all, and there at the kill's moment
abbrev pub There : ℕ → List ℕ → Kill → Type 0
There places joins k =
    (k.place.0 < places + length joins) × ((i e : ℕ) → slice_get joins i ≡ Some e → k.place.0 ≡ places + i → e ≤ k.moment)

le-true : (a b : ℕ) → nat_le a b ≡ true → a ≤ b
le-true a b h = grind (arith, nat_tests)

had-joined : (joins : List ℕ) (i moment : ℕ) (o : Option ℕ) → slice_get joins i ≡ o → has_joined o moment ≡ true → (i < length joins) × ((e : ℕ) → slice_get joins i ≡ Some e → e ≤ moment)
had-joined joins i moment None is h = cc
had-joined joins i moment (Some e) is h =
    let low : e ≤ moment = le-true e moment h in
    (slice_get_within joins i e is, (λ f get. subst (λ n. n ≤ moment) (same_Some e f (sym is ∙ get)) low))

there-is : (places : ℕ) (joins : List ℕ) (k : Kill) → is_there places joins k ≡ true → There places joins k
there-is places joins k h = by (nat_lt k.place.0 places) refl h
  where
    by : (b : Bool) → nat_lt k.place.0 places ≡ b → (b || has_joined (slice_get joins (k.place.0 - places)) k.moment) ≡ true → There places joins k
    by true e f = let low : k.place.0 < places = ltb-true k.place.0 places e in (omega arith, (λ i e get at. absurd (omega arith)))
    by false e f =
        let high : places ≤ k.place.0 = ltb-false k.place.0 places e in
        let had = had-joined joins (k.place.0 - places) k.moment (slice_get joins (k.place.0 - places)) refl f in
        let within : k.place.0 - places < length joins = had.0 in
        (omega arith, (λ i m get at. (let same : i ≡ k.place.0 - places = omega arith in had.1 m (ap (slice_get joins) (sym same) ∙ get))))

is-there : (places : ℕ) (joins : List ℕ) (k : Kill) → There places joins k → is_there places joins k ≡ true
is-there places joins k t = by (nat_lt k.place.0 places) refl
  where
    or-true : (b : Bool) → b ≡ true → (false || b) ≡ true
    or-true b h = h

    by : (b : Bool) → nat_lt k.place.0 places ≡ b → (b || has_joined (slice_get joins (k.place.0 - places)) k.moment) ≡ true
    by true e = refl
    by false e =
        let high : places ≤ k.place.0 = ltb-false k.place.0 places e in
        let below : k.place.0 < places + length joins = t.0 in
        let got = get-within joins (k.place.0 - places) (omega arith) in
        let low : got.0 ≤ k.moment = t.1 (k.place.0 - places) got.0 got.1 (omega arith) in
        ap (λ o. has_joined o k.moment) got.1 ∙ le-leb got.0 k.moment low

pub all-there-is : (places : ℕ) (joins : List ℕ) (ks : List Kill) → all_there places joins ks ≡ true → AllByRecursion (There places joins) ks
all-there-is places joins [] h = tt
all-there-is places joins (k ∷ ks) h =
    let both = and_parts (is_there places joins k) (all_there places joins ks) h in
    (there-is places joins k both.0, all-there-is places joins ks both.1)

is-all-there : (places : ℕ) (joins : List ℕ) (ks : List Kill) → AllByRecursion (There places joins) ks → all_there places joins ks ≡ true
is-all-there places joins [] t = refl
is-all-there places joins (k ∷ ks) t =
    and_from (is_there places joins k) (all_there places joins ks) (is-there places joins k t.0) (is-all-there places joins ks t.1)

-- kills in turn whose places are there
pub are-kills : (U : Given) (ks : List Kill) → InTurn ks → AllByRecursion (There U.places U.joins) ks → AreKills U ks
are-kills U [] turn there = tt
are-kills U (k ∷ ks) turn there = (there.0.0, turn.1, there.0.1, turn.2, turn.3, are-kills U ks turn.4 there.1)

pub in-turn : (U : Given) (ks : List Kill) → in_all U ≤ 16 → AreKills U ks → InTurn ks
in-turn U [] few all = tt
in-turn U (k ∷ ks) few all = let low : k.place.0 < in_all U = all.0 in (omega arith, all.1, all.3, all.4, in-turn U ks few all.5)

pub are-there : (U : Given) (ks : List Kill) → AreKills U ks → AllByRecursion (There U.places U.joins) ks
are-there U [] all = tt
are-there U (k ∷ ks) all = ((all.0, all.2), are-there U ks all.5)

-- moments that do not fall
abbrev pub Early : List ℕ → Type 0
Early joins = AllByRecursion (λ e. e ≤ 1000000) joins

abbrev consed : ℕ → List ℕ → List ℕ
consed e es = e ∷ es

record JoinsRead (low : ℕ) (front : List ℕ) (joins : List ℕ) : Type 0 where
  pub text : front ≡ flat_map natural_field joins
  pub rising : AreJoins low joins
  pub early : Early joins

joins-read : (low : ℕ) (ws : List (List ℕ)) (joins : List ℕ) → joins_of low ws ≡ Some joins → JoinsRead low (fields ws) joins
joins-read low [] joins e = subst (λ (es : List ℕ). JoinsRead low [] es) (same_Some [] joins e) (record { text = refl; rising = tt; early = tt })
joins-read low (w ∷ ws) joins e =
    let two = next-is (number_below 1000001 w) (λ m. cond (nat_le low m) (option_map (consed m) (joins_of m ws)) None) joins e in
    by two.first two.was (nat_le low two.first) refl two.then_was (λ es f. joins-read two.first ws es f)
  where
    by : (m : ℕ) → number_below 1000001 w ≡ Some m → (b : Bool) → nat_le low m ≡ b → cond b (option_map (consed m) (joins_of m ws)) None ≡ Some joins → ((es : List ℕ) → joins_of m ws ≡ Some es → JoinsRead m (fields ws) es) → JoinsRead low (fields (w ∷ ws)) joins
    by m is false h f more = absurd (none-some joins f)
    by m is true h f more =
        let got = map-is (consed m) (joins_of m ws) joins f in
        let rest = more got.value got.was in
        let one = below-takes 1000001 w m is in
        let below : m < 1000001 = one.1 in
        let early : m ≤ 1000000 = omega arith in
        subst (λ (es : List ℕ). JoinsRead low (fields (w ∷ ws)) es) got.is
        (record {
          text = ap (λ t. (32 ∷ t) ++ fields ws) one.0 ∙ ap (λ t. natural_field m ++ t) rest.text;
          rising = (le-true low m h, rest.rising);
          early = (early, rest.early);
        })

pub record JoinsLine (places : ℕ) (kills : List Kill) (line : List ℕ) (joins : List ℕ) : Type 0 where
  pub text : line ≡ codes "joins" ++ flat_map natural_field joins
  pub rising : AreJoins 0 joins
  pub early : Early joins
  pub few : places + length joins ≤ 16
  pub there : AllByRecursion (There places joins) kills

-- what is asked of moments that were read
abbrev kept : ℕ → List Kill → List ℕ → Option (List ℕ)
kept places kills es = cond (nat_le (places + length es) 16 && all_there places es kills) (Some es) None

-- the line of the joins
pub joins-take : (places : ℕ) (kills : List Kill) (line : List ℕ) (joins : List ℕ) → joins_line_of places kills (pieces 32 line) ≡ Some joins → JoinsLine places kills line joins
joins-take places kills line joins e = by (pieces 32 line) (words-of-line line) e
  where
    asked : (w : List ℕ) (ws : List (List ℕ)) (es : List ℕ) → fields (w ∷ ws) ≡ 32 ∷ line → w ≡ codes "joins" → JoinsRead 0 (fields ws) es → (b : Bool) → (nat_le (places + length es) 16 && all_there places es kills) ≡ b → cond b (Some es) None ≡ Some joins → JoinsLine places kills line joins
    asked w ws es is key read false h f = absurd (none-some joins f)
    asked w ws es is key read true h f =
        let both = and_parts (nat_le (places + length es) 16) (all_there places es kills) h in
        subst (λ (xs : List ℕ). JoinsLine places kills line xs) (same_Some es joins f)
        (record {
          text = rest-is 32 line _ (sym is ∙ ap (λ v. (32 ∷ v) ++ fields ws) key ∙ ap (λ v. codes " joins" ++ v) read.text);
          rising = read.rising;
          early = read.early;
          few = le-true (places + length es) 16 both.0;
          there = all-there-is places es kills both.1;
        })

    keyed-joins : (w : List ℕ) (ws : List (List ℕ)) → fields (w ∷ ws) ≡ 32 ∷ line → (b : Bool) → bytes_eq w (codes "joins") ≡ b → cond b (next (joins_of 0 ws) (kept places kills)) None ≡ Some joins → JoinsLine places kills line joins
    keyed-joins w ws is false h f = absurd (none-some joins f)
    keyed-joins w ws is true h f =
        let two = next-is (joins_of 0 ws) (kept places kills) joins f in
        asked w ws two.first is (bytes-same w (codes "joins") h) (joins-read 0 ws two.first two.was) (nat_le (places + length two.first) 16 && all_there places two.first kills) refl two.then_was

    by : (ws : List (List ℕ)) → fields ws ≡ 32 ∷ line → joins_line_of places kills ws ≡ Some joins → JoinsLine places kills line joins
    by [] is f = absurd (none-some joins f)
    by (w ∷ ws) is f = keyed-joins w ws is (bytes_eq w (codes "joins")) refl f

record JoinsAgain (low : ℕ) (joins : List ℕ) : Type 0 where
  pub front : List (List ℕ)
  pub spelled : fields front ≡ flat_map natural_field joins
  pub plain : AllByRecursion Plain front
  pub reads : joins_of low front ≡ Some joins

joins-again : (low : ℕ) (joins : List ℕ) → AreJoins low joins → Early joins → JoinsAgain low joins
joins-again low [] rising early = record { front = []; spelled = refl; plain = tt; reads = refl }
joins-again low (e ∷ es) rising early =
    let soon : e ≤ 1000000 = early.0 in
    let more = joins-again e es rising.1 early.1 in
    record {
      front = natural_text e ∷ more.front;
      spelled = ap (λ v. natural_field e ++ v) more.spelled;
      plain = (natural-plain e (omega arith), more.plain);
      reads = ap (λ o. next o (λ m. cond (nat_le low m) (option_map (consed m) (joins_of m more.front)) None)) (below-again 1000001 e (omega arith) (omega arith))
          ∙ ap (λ b. cond b (option_map (consed e) (joins_of e more.front)) None) (le-leb low e rising.0)
          ∙ ap (option_map (consed e)) more.reads;
    }

pub joins-line-again : (places : ℕ) (kills : List Kill) (joins : List ℕ) → AreJoins 0 joins → Early joins → places + length joins ≤ 16 → AllByRecursion (There places joins) kills → LineAgain (joins_line_of places kills (pieces 32 (codes "joins" ++ flat_map natural_field joins))) joins (codes "joins" ++ flat_map natural_field joins)
joins-line-again places kills joins rising early few there =
    let h = joins-again 0 joins rising early in
    let line = codes "joins" ++ flat_map natural_field joins in
    let front : List (List ℕ) = codes "joins" ∷ h.front in
    let spelled : fields front ≡ 32 ∷ line = ap (λ v. codes " joins" ++ v) h.spelled in
    let plain : AllByRecursion Plain front = (plain-word-is (codes "joins") refl, h.plain) in
    let lacks : Lacks 10 (32 ∷ line) = subst (Lacks 10) spelled (fields-lack front plain) in
    let holds = and_from (nat_le (places + length joins) 16) (all_there places joins kills) (le-leb (places + length joins) 16 few) (is-all-there places joins kills there) in
    record {
      reads = ap (joins_line_of places kills) (cut-line front line spelled plain) ∙ ap (λ o. next o (kept places kills)) h.reads ∙ ap (λ b. cond b (Some joins) None) holds;
      lacks = lacks.1;
    }

-- places that join at once, as many as there can be
abbrev pub at_once : ℕ → List ℕ
at_once zero = []
at_once (suc n) = 0 ∷ at_once n

pub once-many : (n : ℕ) → length (at_once n) ≡ n
once-many zero = refl
once-many (suc n) = ap suc (once-many n)

pub once-rising : (n : ℕ) → AreJoins 0 (at_once n)
once-rising zero = tt
once-rising (suc n) = (omega arith, once-rising n)

pub once-early : (n : ℕ) → Early (at_once n)
once-early zero = tt
once-early (suc n) = (omega arith, once-early n)

once-none : (n i e : ℕ) → slice_get (at_once n) i ≡ Some e → e ≡ 0
once-none zero i e get = cc
once-none (suc n) zero e get = sym (same_Some 0 e get)
once-none (suc n) (suc i) e get = once-none n i e get

pub once-there : (places : ℕ) (ks : List Kill) → places ≤ 16 → InTurn ks → AllByRecursion (There places (at_once (16 - places))) ks
once-there places [] few turn = tt
once-there places (k ∷ ks) few turn =
    let low : k.place.0 < 16 = turn.0 in
    let many : length (at_once (16 - places)) ≡ 16 - places = once-many (16 - places) in
    let below : k.place.0 < places + length (at_once (16 - places)) = omega arith in
    ((below, (λ i e get at. (let none : e ≡ 0 = once-none (16 - places) i e get in omega arith))), once-there places ks few turn.4)
