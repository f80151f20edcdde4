-- What has been read so far, its text, and one line more.
use Rattle.std.proofs.Common.{◌≡◌, ℕ, ◌+◌, ◌<◌, ◌≤◌, ◌^◌, Bool, true, false, cond, ◌&&◌, ◌==◌, nat_lt, List, [], ◌∷◌, ◌++◌, length, refl, ap, sym, ◌∙◌, subst, arith, append-nil, append_assoc, length-append, Option, Some, None, option_map, codes}
use Rattle.std.specs.List.{AllByRecursion, flat_map}
use Rattle.std.specs.Str.{bytes_eq}
use Rattle.std.proofs.lemmas.Bool.{eqb-true, and_parts, ltb-true}
use Rattle.std.proofs.lemmas.Option.{same_Some, none-some}
use Rattle.rx_rules.proofs.Common.{Kill, Given, in_all}
use Rattle.rx_rules.specs.declared.entries.Entry.{Entry}
use Rattle.rx_rules.specs.declared.events.PlaceEvent.{PlaceEvent}
use Rattle.rx_text.specs.Numbers.{natural_text}
use Rattle.rx_trace.specs.EntryLines.{entry_text, entry_line, entry_lines}
use Rattle.rx_trace.specs.EventLines.{event_text, event_line, event_lines, journal_lines, journals_lines}
use Rattle.rx_trace.specs.Fields.{natural_field}
use Rattle.rx_trace.specs.Text.{sizes_line, kills_line, joins_line, setup_lines, trace_text}
use Rattle.rx_trace.specs.Limits.{FitsEntry, FitsEvent, FitJournals, FitsSetup, IsWithin}
use Rattle.rx_fields.specs.Inside.Readers.{all_read}
use Rattle.rx_fields.specs.Words.{pieces}
use Rattle.rx_trace.specs.Inside.Machine.{ReadingState, Untitled, Titled, Sized, Listed, Planned, Entering, Logging, Over, sizes_at, kills_line_of, joins_line_of, entry_of, event_line_of, begins_journal, state_with_sizes, read_line}
use Rattle.rx_fields.proofs.Cuts.{bytes-same, all-append}
use Rattle.rx_trace.proofs.ReadFields.{IsCount, map-is}
use Rattle.rx_trace.proofs.Plans.{sizes-take, Moments, InTurn, kills-take}
use Rattle.rx_trace.proofs.Joins.{JoinsLine, joins-take, are-kills}
use Rattle.rx_trace.proofs.Wholes.{entry-line-takes, event-line-takes}

abbrev title : List ℕ
title = codes "rx10 trace 2\n"

abbrev entries_text : Given → List Entry → List ℕ
entries_text U es = title ++ setup_lines U ++ codes "history\n" ++ entry_lines 0 es

-- the text of what has been read
abbrev pub state_text : ReadingState → List ℕ
state_text Untitled = []
state_text Titled = title
state_text (Sized places heap) = title ++ sizes_line places heap
state_text (Listed places heap kills) = title ++ sizes_line places heap ++ kills_line kills
state_text (Planned U) = title ++ setup_lines U
state_text (Entering U es) = entries_text U es
state_text (Logging U es js j) = entries_text U es ++ journals_lines 0 (js ++ j ∷ [])
state_text (Over U es js) = entries_text U es ++ journals_lines 0 js ++ codes "done\n"

abbrev pub FitEntries : Given → List Entry → Type 0
FitEntries U es = FitsSetup U × (length es ≤ 2 ^ 32) × AllByRecursion (FitsEntry (in_all U)) es

-- what has been read keeps the limits
abbrev pub SoFar : ReadingState → Type 0
SoFar Untitled = Unit {0}
SoFar Titled = Unit {0}
SoFar (Sized places heap) = IsCount 16 places × IsCount 4096 heap
SoFar (Listed places heap kills) = IsCount 16 places × IsCount 4096 heap × InTurn kills × Moments kills
SoFar (Planned U) = FitsSetup U
SoFar (Entering U es) = FitEntries U es
SoFar (Logging U es js j) = FitEntries U es × (length js < in_all U) × FitJournals 0 js × AllByRecursion (FitsEvent (length js)) j
SoFar (Over U es js) = IsWithin U es js

abbrev pub ended : List ℕ → List ℕ
ended line = line ++ 10 ∷ []

-- one line more
pub record Stepped (s : ReadingState) (line : List ℕ) (next : ReadingState) : Type 0 where
  pub text : state_text next ≡ state_text s ++ ended line
  pub so_far : SoFar next

same-line : (line key : List ℕ) (s next after : ReadingState) (other : Option ReadingState) → (other ≡ Some after → Stepped s line after) → (line ≡ key → Stepped s line next) → cond (bytes_eq line key) (Some next) other ≡ Some after → Stepped s line after
same-line line key s next after other more here e = by (bytes_eq line key) refl e
  where
    by : (b : Bool) → bytes_eq line key ≡ b → cond b (Some next) other ≡ Some after → Stepped s line after
    by true h f = subst (λ x. Stepped s line x) (same_Some next after f) (here (bytes-same line key h))
    by false h f = more f

refused : (s : ReadingState) (line : List ℕ) (after : ReadingState) → None ≡ Some after → Stepped s line after
refused s line after e = absurd (none-some after e)

sized : (line : List ℕ) (after : ReadingState) (o : Option (ℕ × ℕ)) → all_read (sizes_at (pieces 32 line)) ≡ o → state_with_sizes o ≡ Some after → Stepped Titled line after
sized line after None is e = refused Titled line after e
sized line after (Some x) is e =
    let known = sizes-take line x is in
    subst (λ s. Stepped Titled line s) (same_Some (Sized x.0 x.1) after e)
    (record { text = ap (λ t. title ++ (t ++ codes "\n")) (sym known.0); so_far = (known.1, known.2) })

abbrev given_of : ℕ → ℕ → List Kill → List ℕ → Given
given_of places heap kills joins = record { places = places; heap = heap; kills = kills; joins = joins }

listed : (places heap : ℕ) (line : List ℕ) (after : ReadingState) → SoFar (Sized places heap) → read_line (Sized places heap) line ≡ Some after → Stepped (Sized places heap) line after
listed places heap line after so e =
    let m = map-is (λ kills. Listed places heap kills) (kills_line_of (pieces 32 line)) after e in
    let known = kills-take line m.value m.was in
    subst (λ s. Stepped (Sized places heap) line s) m.is
    (record { text = ap (λ l. state_text (Sized places heap) ++ ended l) (sym known.text); so_far = (so.0, so.1, known.all, known.moments) })

planned-text : (places heap : ℕ) (kills : List Kill) (joins : List ℕ) (line : List ℕ) → line ≡ codes "joins" ++ flat_map natural_field joins → state_text (Planned (given_of places heap kills joins)) ≡ state_text (Listed places heap kills) ++ ended line
unfolding setup_lines
planned-text places heap kills joins line is =
    sym (append_assoc title (sizes_line places heap ++ kills_line kills) (joins_line joins))
    ∙ ap (λ t. t ++ joins_line joins) (sym (append_assoc title (sizes_line places heap) (kills_line kills)))
    ∙ ap (λ l. state_text (Listed places heap kills) ++ ended l) (sym is)

planned-fits : (places heap : ℕ) (kills : List Kill) (joins line : List ℕ) → SoFar (Listed places heap kills) → JoinsLine places kills line joins → FitsSetup (given_of places heap kills joins)
planned-fits places heap kills joins line so j = (
  record {
    some = so.0.0;
    few = j.few;
    words = so.1.0;
    small = so.1.1;
    kills = are-kills (given_of places heap kills joins) kills so.2 j.there;
    joins = j.rising;
  },
  so.3,
  j.early,
)

planned : (places heap : ℕ) (kills : List Kill) (line : List ℕ) (after : ReadingState) → SoFar (Listed places heap kills) → read_line (Listed places heap kills) line ≡ Some after → Stepped (Listed places heap kills) line after
planned places heap kills line after so e =
    let m = map-is (λ joins. Planned (given_of places heap kills joins)) (joins_line_of places kills (pieces 32 line)) after e in
    let known = joins-take places kills line m.value m.was in
    subst (λ s. Stepped (Listed places heap kills) line s) m.is
    (record { text = planned-text places heap kills m.value line known.text; so_far = planned-fits places heap kills m.value line so known })

-- an item more at the end
entries-push : (n : ℕ) (es : List Entry) (e : Entry) → entry_lines n (es ++ e ∷ []) ≡ entry_lines n es ++ entry_line (n + length es) e
entries-push n [] e = append-nil (entry_line n e) ∙ ap (λ k. entry_line k e) (omega arith)
entries-push n (x ∷ es) e =
    ap (λ r. entry_line n x ++ r) (entries-push (n + 1) es e)
    ∙ sym (append_assoc (entry_line n x) (entry_lines (n + 1) es) (entry_line (n + 1 + length es) e))
    ∙ ap (λ k. entry_line n x ++ entry_lines (n + 1) es ++ entry_line k e) (omega arith)

events-push : (n : ℕ) (es : List PlaceEvent) (e : PlaceEvent) → event_lines n (es ++ e ∷ []) ≡ event_lines n es ++ event_line (n + length es) e
events-push n [] e = append-nil (event_line n e) ∙ ap (λ k. event_line k e) (omega arith)
events-push n (x ∷ es) e =
    ap (λ r. event_line n x ++ r) (events-push (n + 1) es e)
    ∙ sym (append_assoc (event_line n x) (event_lines (n + 1) es) (event_line (n + 1 + length es) e))
    ∙ ap (λ k. event_line n x ++ event_lines (n + 1) es ++ event_line k e) (omega arith)

pub journals-push : (p : ℕ) (js : List (List PlaceEvent)) (j : List PlaceEvent) → journals_lines p (js ++ j ∷ []) ≡ journals_lines p js ++ journal_lines (p + length js) j
journals-push p [] j = append-nil (journal_lines p j) ∙ ap (λ k. journal_lines k j) (omega arith)
journals-push p (x ∷ js) j =
    ap (λ r. journal_lines p x ++ r) (journals-push (p + 1) js j)
    ∙ sym (append_assoc (journal_lines p x) (journals_lines (p + 1) js) (journal_lines (p + 1 + length js) j))
    ∙ ap (λ k. journal_lines p x ++ journals_lines (p + 1) js ++ journal_lines k j) (omega arith)

all-push : {A : Type 0} (P : A → Type 0) (xs : List A) (x : A) → AllByRecursion P xs → P x → AllByRecursion P (xs ++ x ∷ [])
all-push P xs x all p = all-append P xs (x ∷ []) all (p, tt)

pub journals-fit : (p : ℕ) (js : List (List PlaceEvent)) (j : List PlaceEvent) → FitJournals p js → AllByRecursion (FitsEvent (p + length js)) j → FitJournals p (js ++ j ∷ [])
journals-fit p [] j all fits = let e : p + 0 ≡ p = omega arith in (subst (λ k. AllByRecursion (FitsEvent k) j) e fits, tt)
journals-fit p (x ∷ js) j all fits = let e : p + length (x ∷ js) ≡ p + 1 + length js = omega arith in (all.0, journals-fit (p + 1) js j all.1 (subst (λ k. AllByRecursion (FitsEvent k) j) e fits))

from-zero : (n : ℕ) → 0 + n ≡ n
from-zero n = omega arith

entries-end : (es : List Entry) (e : Entry) → entry_lines 0 (es ++ e ∷ []) ≡ entry_lines 0 es ++ entry_line (length es) e
entries-end es e = entries-push 0 es e ∙ ap (λ k. entry_lines 0 es ++ entry_line k e) (from-zero (length es))

events-end : (es : List PlaceEvent) (e : PlaceEvent) → event_lines 0 (es ++ e ∷ []) ≡ event_lines 0 es ++ event_line (length es) e
events-end es e = events-push 0 es e ∙ ap (λ k. event_lines 0 es ++ event_line k e) (from-zero (length es))

pub journals-end : (js : List (List PlaceEvent)) (j : List PlaceEvent) → journals_lines 0 (js ++ j ∷ []) ≡ journals_lines 0 js ++ journal_lines (length js) j
journals-end js j = journals-push 0 js j ∙ ap (λ k. journals_lines 0 js ++ journal_lines k j) (from-zero (length js))

pub journals-fit-end : (js : List (List PlaceEvent)) (j : List PlaceEvent) → FitJournals 0 js → AllByRecursion (FitsEvent (length js)) j → FitJournals 0 (js ++ j ∷ [])
journals-fit-end js j all fits = journals-fit 0 js j all (subst (λ k. AllByRecursion (FitsEvent k) j) (sym (from-zero (length js))) fits)

entry-text : (U : Given) (es : List Entry) (line : List ℕ) (e : Entry) → line ≡ natural_text (length es) ++ entry_text e → state_text (Entering U (es ++ e ∷ [])) ≡ state_text (Entering U es) ++ ended line
entry-text U es line e is =
    let front = title ++ setup_lines U ++ codes "history\n" in
    ap (λ r. front ++ r) (entries-end es e)
    ∙ sym (append_assoc front (entry_lines 0 es) (entry_line (length es) e))
    ∙ ap (λ l. entries_text U es ++ ended l) (sym is)

entered : (U : Given) (es : List Entry) (line : List ℕ) (after : ReadingState) → SoFar (Entering U es) → option_map (λ e. Entering U (es ++ e ∷ [])) (entry_of (in_all U) (length es) line) ≡ Some after → Stepped (Entering U es) line after
entered U es line after so e =
    let m = map-is (λ x. Entering U (es ++ x ∷ [])) (entry_of (in_all U) (length es) line) after e in
    let known = entry-line-takes (in_all U) (length es) line m.value so.0.0.few m.was in
    let low : length es < 2 ^ 32 = known.low in
    let long : length (es ++ m.value ∷ []) ≤ 2 ^ 32 = omega (arith, length-append es (m.value ∷ [])) in
    subst (λ s. Stepped (Entering U es) line s) m.is
    (record { text = entry-text U es line m.value known.text; so_far = (so.0, long, all-push (FitsEntry (in_all U)) es m.value so.2 known.fits) })

begun-text : (U : Given) (es : List Entry) (line : List ℕ) → line ≡ codes "journal " ++ natural_text 0 → state_text (Logging U es [] []) ≡ state_text (Entering U es) ++ ended line
begun-text U es line is = ap (λ r. entries_text U es ++ r) (append-nil (journal_lines 0 []) ∙ append-nil (ended (codes "journal " ++ natural_text 0))) ∙ ap (λ l. entries_text U es ++ ended l) (sym is)

event-text : (U : Given) (es : List Entry) (js : List (List PlaceEvent)) (j : List PlaceEvent) (line : List ℕ) (e : PlaceEvent) → line ≡ natural_text (length j) ++ event_text e → state_text (Logging U es js (j ++ e ∷ [])) ≡ state_text (Logging U es js j) ++ ended line
event-text U es js j line e is =
    let front = entries_text U es in
    let p = length js in
    let head = codes "journal" ++ (32 ∷ natural_text p) ++ codes "\n" in
    let one : journal_lines p (j ++ e ∷ []) ≡ journal_lines p j ++ event_line (length j) e =
    ap (λ r. head ++ r) (events-end j e) ∙ sym (append_assoc head (event_lines 0 j) (event_line (length j) e)) in
    ap (λ r. front ++ r) (
    journals-end js (j ++ e ∷ []) ∙ ap (λ r. journals_lines 0 js ++ r) one
    ∙ sym (append_assoc (journals_lines 0 js) (journal_lines p j) (event_line (length j) e))
    ∙ ap (λ r. r ++ event_line (length j) e) (sym (journals-end js j)))
    ∙ sym (append_assoc front (journals_lines 0 (js ++ j ∷ [])) (event_line (length j) e))
    ∙ ap (λ l. state_text (Logging U es js j) ++ ended l) (sym is)

next-text : (U : Given) (es : List Entry) (js : List (List PlaceEvent)) (j : List PlaceEvent) (line : List ℕ) → line ≡ codes "journal " ++ natural_text (length js + 1) → state_text (Logging U es (js ++ j ∷ []) []) ≡ state_text (Logging U es js j) ++ ended line
next-text U es js j line is =
    let front = entries_text U es in
    let ks = js ++ j ∷ [] in
    let long : length ks ≡ length js + 1 = omega (arith, length-append js (j ∷ [])) in
    ap (λ r. front ++ r) (journals-end ks [] ∙ ap (λ r. journals_lines 0 ks ++ r) (append-nil (ended (codes "journal " ++ natural_text (length ks)))))
    ∙ sym (append_assoc front (journals_lines 0 ks) (ended (codes "journal " ++ natural_text (length ks))))
    ∙ ap (λ k. state_text (Logging U es js j) ++ ended (codes "journal " ++ natural_text k)) long
    ∙ ap (λ l. state_text (Logging U es js j) ++ ended l) (sym is)

over-text : (U : Given) (es : List Entry) (js : List (List PlaceEvent)) (j : List PlaceEvent) (line : List ℕ) → line ≡ codes "done" → state_text (Over U es (js ++ j ∷ [])) ≡ state_text (Logging U es js j) ++ ended line
over-text U es js j line is = ap (λ l. state_text (Logging U es js j) ++ ended l) (sym is)

abbrev event_answer : Given → List Entry → List (List PlaceEvent) → List PlaceEvent → List ℕ → Option ReadingState
event_answer U es js j line = option_map (λ e. Logging U es js (j ++ e ∷ [])) (event_line_of (length js) (length j) line)

logged : (U : Given) (es : List Entry) (js : List (List PlaceEvent)) (j : List PlaceEvent) (line : List ℕ) (after : ReadingState) → SoFar (Logging U es js j) → event_answer U es js j line ≡ Some after → Stepped (Logging U es js j) line after
logged U es js j line after so e =
    let m = map-is (λ x. Logging U es js (j ++ x ∷ [])) (event_line_of (length js) (length j) line) after e in
    let known = event-line-takes (length js) (length j) line m.value m.was in
    subst (λ s. Stepped (Logging U es js j) line s) m.is
    (record { text = event-text U es js j line m.value known.text; so_far = (so.0, so.1, so.2, all-push (FitsEvent (length js)) j m.value so.3 known.fits) })

over-within : (U : Given) (es : List Entry) (js : List (List PlaceEvent)) (j : List PlaceEvent) → SoFar (Logging U es js j) → length js + 1 ≡ in_all U → IsWithin U es (js ++ j ∷ [])
over-within U es js j so all = record {
  setup_fits = so.0.0;
  numbered = so.0.1;
  entries_fit = so.0.2;
  one_each = length-append js (j ∷ []) ∙ all;
  journals_fit = journals-fit-end js j so.2 so.3;
}

logging : (U : Given) (es : List Entry) (js : List (List PlaceEvent)) (j : List PlaceEvent) (line : List ℕ) (after : ReadingState) → SoFar (Logging U es js j) → read_line (Logging U es js j) line ≡ Some after → Stepped (Logging U es js j) line after
logging U es js j line after so e = by (begins_journal (length js + 1) line && nat_lt (length js + 1) (in_all U)) refl e
  where
    s : ReadingState
    s = Logging U es js j

    last : (b : Bool) → (bytes_eq line (codes "done") && length js + 1 == in_all U) ≡ b → cond b (Some (Over U es (js ++ j ∷ []))) (event_answer U es js j line) ≡ Some after → Stepped s line after
    last false h f = logged U es js j line after so f
    last true h f =
        let both = and_parts (bytes_eq line (codes "done")) (length js + 1 == in_all U) h in
        subst (λ x. Stepped s line x) (same_Some (Over U es (js ++ j ∷ [])) after f)
        (record { text = over-text U es js j line (bytes-same line (codes "done") both.0); so_far = over-within U es js j so (eqb-true (length js + 1) (in_all U) both.1) })

    by : (b : Bool) → (begins_journal (length js + 1) line && nat_lt (length js + 1) (in_all U)) ≡ b → cond b (Some (Logging U es (js ++ j ∷ []) [])) (cond (bytes_eq line (codes "done") && length js + 1 == in_all U) (Some (Over U es (js ++ j ∷ []))) (event_answer U es js j line)) ≡ Some after → Stepped s line after
    by false h f = last (bytes_eq line (codes "done") && length js + 1 == in_all U) refl f
    by true h f =
        let both = and_parts (begins_journal (length js + 1) line) (nat_lt (length js + 1) (in_all U)) h in
        let below : length js + 1 < in_all U = ltb-true (length js + 1) (in_all U) both.1 in
        let long : length (js ++ j ∷ []) < in_all U = omega (arith, length-append js (j ∷ [])) in
        subst (λ x. Stepped s line x) (same_Some (Logging U es (js ++ j ∷ []) []) after f)
        (record { text = next-text U es js j line (bytes-same line _ both.0); so_far = (so.0, long, journals-fit-end js j so.2 so.3, tt) })

-- what is read of a line is its text
pub stepped : (s : ReadingState) (line : List ℕ) (after : ReadingState) → SoFar s → read_line s line ≡ Some after → Stepped s line after
stepped Untitled line after so e = same-line line (codes "rx10 trace 2") Untitled Titled after None (refused Untitled line after) (λ is. record { text = ap ended (sym is); so_far = tt }) e
stepped Titled line after so e = sized line after (all_read (sizes_at (pieces 32 line))) refl e
stepped (Sized places heap) line after so e = listed places heap line after so e
stepped (Listed places heap kills) line after so e = planned places heap kills line after so e
stepped (Planned U) line after so e =
    same-line line (codes "history") (Planned U) (Entering U []) after None (refused (Planned U) line after)
    (λ is. record { text = append-nil (title ++ setup_lines U ++ codes "history\n") ∙ ap (λ l. title ++ setup_lines U ++ ended l) (sym is); so_far = (so, omega arith, tt) }) e
stepped (Entering U es) line after so e =
    same-line line (codes "journal " ++ natural_text 0) (Entering U es) (Logging U es [] []) after _ (entered U es line after so)
    (λ is. record { text = begun-text U es line is; so_far = (so, (let some : 1 ≤ U.places = so.0.0.some in let all : 0 < in_all U = omega arith in all), tt, tt) }) e
stepped (Logging U es js j) line after so e = logging U es js j line after so e
stepped (Over U es js) line after so e = refused (Over U es js) line after e

-- what has been read to its end is a text
pub over-is-text : (U : Given) (es : List Entry) (js : List (List PlaceEvent)) → trace_text U es js ≡ state_text (Over U es js)
unfolding trace_text
over-is-text U es js = refl
