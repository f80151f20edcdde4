-- Where loops end.
use Rattle.std.proofs.Common.{◌≡◌, ℕ, ◌+◌, ◌≤◌, Bool, true, false, cond, nat_le, ◌&&◌, not, ◌==◌, List, [], ◌∷◌, ◌++◌, length, drop, suc, refl, ap, sym, ◌∙◌, subst, arith, length-append, Option, Some, None, option_map, slice_get, ℤ, FitsSigned}
use Rattle.std.specs.Int.{w64}
use Rattle.std.proofs.lemmas.Bool.{eqb-true, and_parts, le-leb}
use Rattle.std.proofs.lemmas.Option.{same_Some, none-some}
use Rattle.rx_rules.proofs.Common.{Kill, Given}
use Rattle.rx_text.proofs.Lists.{left-more}
use Rattle.rx_history.specs.Events.{AllEvents}
use Rattle.rx_history.specs.KillOrder.{ComesLast}
use Rattle.rx_history.specs.JoinOrder.{IsAtLeastLast}
use Rattle.rx_history.specs.Logs.{Log}
use Rattle.rx_trace.specs.Text.{trace_text}
use Rattle.rx_rules.specs.declared.entries.Entry.{Entry}
use Rattle.rx_rules.specs.declared.events.PlaceEvent.{PlaceEvent}
use Rattle.rx_trace.specs.Limits.{IsWithin}
use Rattle.rx_fields.specs.Inside.FieldWords.{next, number_below, number_of, number_at}
use Rattle.rx_history.specs.KillOrder.{is_before}
use Rattle.rx_trace.specs.Inside.Machine.{ReadingState, Over, may_follow, joins_of, is_there, all_there, read_line}
use Rattle.rx_trace.specs.Reading.{IsBadLine}
use Rattle.rx_trace.specs.Inside.Stages.{state_of}
use Rattle.rx_fields.specs.Words.{Lacks, first_word}
use Rattle.rx_trace.specs.declared.stage.Stage.{Stage}
use Rattle.rx_trace.specs.declared.stage.Stage.TheVariants as stages
use Rattle.rx_fields.proofs.Figures.{number-takes}
use Rattle.rx_fields.proofs.Joining.{push-through}
use Rattle.rx_trace.proofs.ReadPlaces.{HasRead, IsOpen, ended-more, read-more, read-all, bad-here, bad-end}
use Rattle.rx_trace.proofs.Plans.{after-is}
use Rattle.rx_trace.proofs.States.{ended}

abbrev with : List (List ℕ) → ℤ → ℤ × List (List ℕ)
with ws z = (z, ws)

-- a number that was read is one of 64 bits
pub number-fits : (words new : List (List ℕ)) (z : ℤ) → number_at words ≡ Some (z, new) → FitsSigned w64 z
number-fits [] new z e = absurd (none-some (z, new) e)
number-fits (w ∷ ws) new z e = by (number_of w) refl e
  where
    by : (o : Option ℤ) → number_of w ≡ o → option_map (with ws) o ≡ Some (z, new) → FitsSigned w64 z
    by None is f = absurd (none-some (z, new) f)
    by (Some y) is f = (number-takes w z (is ∙ ap (λ p. Some p.0) (same_Some (y, ws) (z, new) f))).1

abbrev comes : Kill → Kill → Bool
comes k kill = is_before k kill && not (k.place.0 == kill.place.0)

follow-here : (ks : List Kill) (i : ℕ) (k kill : Kill) → slice_get ks i ≡ Some k → may_follow (drop i ks) kill ≡ (comes k kill && may_follow (drop (i + 1) ks) kill)
follow-here ks i k kill here = left-more (λ xs. may_follow xs kill) ks i k here

-- one kill of the list more was passed
pub follow-more : (ks : List Kill) (i : ℕ) (k kill : Kill) → slice_get ks i ≡ Some k → comes k kill ≡ true → may_follow (drop i ks) kill ≡ may_follow ks kill → may_follow (drop (i + 1) ks) kill ≡ may_follow ks kill
follow-more ks i k kill here holds left = sym (follow-here ks i k kill here ∙ ap (λ b. b && may_follow (drop (i + 1) ks) kill) holds) ∙ left

pub follow-none : (ks : List Kill) (i : ℕ) (k kill : Kill) → slice_get ks i ≡ Some k → comes k kill ≡ false → may_follow (drop i ks) kill ≡ may_follow ks kill → false ≡ may_follow ks kill
follow-none ks i k kill here no_one left = sym (follow-here ks i k kill here ∙ ap (λ b. b && may_follow (drop (i + 1) ks) kill) no_one) ∙ left

-- a kill that follows those of a list comes after the last
pub comes-last : (ks : List Kill) (kill : Kill) → may_follow ks kill ≡ true → ComesLast ks kill
comes-last [] kill e = tt
comes-last (k ∷ []) kill e = after-is k kill (and_parts (is_before k kill) (not (k.place.0 == kill.place.0)) (and_parts (comes k kill) true e).0).0
comes-last (k ∷ j ∷ ks) kill e = comes-last (j ∷ ks) kill (and_parts (comes k kill) (may_follow (j ∷ ks) kill) e).1

-- one kill more has its place there
pub there-more : (places : ℕ) (joins : List ℕ) (ks : List Kill) (i : ℕ) (k : Kill) → slice_get ks i ≡ Some k → is_there places joins k ≡ true → all_there places joins (drop i ks) ≡ all_there places joins ks → all_there places joins (drop (i + 1) ks) ≡ all_there places joins ks
there-more places joins ks i k here holds left = sym (left-more (all_there places joins) ks i k here ∙ ap (λ b. b && all_there places joins (drop (i + 1) ks)) holds) ∙ left

pub there-none : (places : ℕ) (joins : List ℕ) (ks : List Kill) (i : ℕ) (k : Kill) → slice_get ks i ≡ Some k → is_there places joins k ≡ false → all_there places joins (drop i ks) ≡ all_there places joins ks → false ≡ all_there places joins ks
there-none places joins ks i k here fails left = sym (left-more (all_there places joins) ks i k here ∙ ap (λ b. b && all_there places joins (drop (i + 1) ks)) fails) ∙ left

abbrev worded : List ℕ → List (List ℕ) → List ℕ × List (List ℕ)
worded w ws = (w, ws)

abbrev consed : ℕ → List ℕ → List ℕ
consed n ns = n ∷ ns

-- the moments so far and those of what is left are all, and a moment from `low` on is at least the last so far
abbrev pub JoinsLeft : ℕ → List ℕ → List (List ℕ) → List (List ℕ) → Type 0
JoinsLeft low joins words all =
    (option_map (λ es. joins ++ es) (joins_of low words) ≡ joins_of 0 all) × ((e : ℕ) → low ≤ e → IsAtLeastLast joins e)

last-pushed : (es : List ℕ) (m e : ℕ) → m ≤ e → IsAtLeastLast (es ++ m ∷ []) e
last-pushed [] m e h = h
last-pushed (x ∷ []) m e h = h
last-pushed (x ∷ y ∷ es) m e h = last-pushed (y ∷ es) m e h

-- one moment more was read
pub joins-more : (low : ℕ) (joins more : List ℕ) (words rest all : List (List ℕ)) (w : List ℕ) (m : ℕ) → JoinsLeft low joins words all → Some (worded w rest) ≡ first_word words → number_below 1000001 w ≡ Some m → low ≤ m → more ≡ joins ++ m ∷ [] → JoinsLeft m more rest all
joins-more low joins more [] rest all w m left first is above grown = absurd (none-some (worded w rest) (sym first))
joins-more low joins more (v ∷ ws) rest all w m left first is above grown =
    let e = same_Some (worded w rest) (worded v ws) first in
    let word : w ≡ v = ap (λ x. x.0) e in
    let tail : rest ≡ ws = ap (λ x. x.1) e in
    let read : joins_of low (v ∷ ws) ≡ option_map (consed m) (joins_of m rest) =
    ap (λ o. next o (λ k. cond (nat_le low k) (option_map (consed k) (joins_of k ws)) None)) (ap (number_below 1000001) (sym word) ∙ is)
    ∙ ap (λ b. cond b (option_map (consed m) (joins_of m ws)) None) (le-leb low m above)
    ∙ ap (λ us. option_map (consed m) (joins_of m us)) (sym tail) in (
      ap (λ xs. option_map (λ es. xs ++ es) (joins_of m rest)) grown ∙ push-through joins m (joins_of m rest) ∙ ap (option_map (λ es. joins ++ es)) (sym read) ∙ left.0,
      λ n h. subst (λ (xs : List ℕ). IsAtLeastLast xs n) (sym grown) (last-pushed joins m n h),
    )

-- the lines before the line of this number have been read
abbrev pub At : List ℕ → ℕ → ReadingState → List ℕ → Type 0
At bytes number s rest = (n : ℕ) × (number ≡ suc n) × HasRead bytes n s rest × (n + length rest ≤ length bytes)

moved : (bytes : List ℕ) (n : ℕ) (s : ReadingState) (rest line tail : List ℕ) → rest ≡ line ++ 10 ∷ tail → HasRead bytes n s rest → HasRead bytes n s (ended line ++ tail)
moved bytes n s rest line tail is h = subst (HasRead bytes n s) (is ∙ sym (ended-more line tail)) h

pub at-more : (bytes : List ℕ) (number : ℕ) (s next : ReadingState) (rest line tail : List ℕ) → At bytes number s rest → rest ≡ line ++ 10 ∷ tail → Lacks 10 line → read_line s line ≡ Some next → At bytes (number + 1) next tail
at-more bytes number s next rest line tail at is lacks e = (
  suc at.0,
  (let same : number ≡ suc at.0 = at.1 in omega arith),
  read-more bytes at.0 s next line tail (moved bytes at.0 s rest line tail is at.2) lacks e,
  (let low : at.0 + length rest ≤ length bytes = at.3 in omega (arith, ap length is, length-append line (10 ∷ tail))),
)

pub at-bad : (bytes : List ℕ) (number : ℕ) (s : ReadingState) (rest line tail : List ℕ) → At bytes number s rest → rest ≡ line ++ 10 ∷ tail → Lacks 10 line → read_line s line ≡ None → IsBadLine bytes number
at-bad bytes number s rest line tail at is lacks e =
    subst (IsBadLine bytes) (sym at.1) (bad-here bytes at.0 s line tail (moved bytes at.0 s rest line tail is at.2) lacks e)

pub at-end : (bytes : List ℕ) (number : ℕ) (s : ReadingState) (rest : List ℕ) → At bytes number s rest → Lacks 10 rest → IsOpen s rest → IsBadLine bytes number
at-end bytes number s rest at lacks is_open = subst (IsBadLine bytes) (sym at.1) (bad-end bytes at.0 s rest at.2 lacks is_open)

pub nothing : (xs : List ℕ) → true ≡ (length xs == 0) → xs ≡ []
nothing [] e = refl
nothing (x ∷ xs) e = let none : length (x ∷ xs) ≡ 0 = eqb-true (length (x ∷ xs)) 0 (sym e) in absurd (omega arith)

something : (xs : List ℕ) → false ≡ (length xs == 0) → xs ≡ [] → ⊥
something [] e h = cc
something (x ∷ xs) e h = cc

-- the whole text
pub at-all : (bytes : List ℕ) (number : ℕ) (s : ReadingState) (rest : List ℕ) (U : Given) (es : List Entry) (js : List (List PlaceEvent)) → At bytes number s rest → rest ≡ [] → s ≡ Over U es js
    → (bytes ≡ trace_text U es js) × IsWithin U es js
at-all bytes number s rest U es js at none is =
    read-all bytes at.0 U es js (subst (λ x. HasRead bytes at.0 x []) is (subst (HasRead bytes at.0 s) none at.2))

pub open_some : (s : ReadingState) (rest : List ℕ) → false ≡ (length rest == 0) → IsOpen s rest
open_some s rest some U es js is none = something rest some none

pub open_unless : (s : Stage) (rest : List ℕ) → ((h : Log) (j : AllEvents) → s ≡ stages.Over h j → ⊥) → IsOpen (state_of s) rest
open_unless stages.Untitled rest never U es js is none = cc
open_unless stages.Titled rest never U es js is none = cc
open_unless (stages.Sized places heap) rest never U es js is none = cc
open_unless (stages.Listed places heap kills) rest never U es js is none = cc
open_unless (stages.Planned setup) rest never U es js is none = cc
open_unless (stages.Entering history) rest never U es js is none = cc
open_unless (stages.Logging history journals journal) rest never U es js is none = cc
open_unless (stages.Over h j) rest never U es js is none = never h j refl
