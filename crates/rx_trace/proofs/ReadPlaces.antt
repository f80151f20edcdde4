-- Which texts begin with lines, and that lines are read in one way.
use Rattle.std.proofs.Common.{◌≡◌, ℕ, ◌+◌, ◌-◌, ◌<◌, ◌≤◌, ◌^◌, Bool, true, false, cond, ◌&&◌, ◌==◌, nat_lt, slice_index, List, [], ◌∷◌, ◌++◌, length, zero, suc, refl, ap, sym, ◌∙◌, subst, arith, append-nil, append_assoc, length-append, ◌≢◌, Option, Some, None, option_map, codes}
use Rattle.std.specs.Char.{is_ascii_digit}
use Rattle.std.specs.List.{AllByRecursion, flat_map}
use Rattle.std.specs.Str.{bytes_eq}
use Rattle.std.proofs.lemmas.Bool.{eq-eqb, lt-ltb}
use Rattle.std.proofs.lemmas.Option.{same_Some, none-some}
use Rattle.rx_rules.proofs.Common.{Kill, Given, in_all}
use Rattle.rx_base.proofs.Elements.{tails-are, same-bytes}
use Rattle.rx_rules.specs.declared.entries.Entry.{Entry}
use Rattle.rx_rules.specs.declared.events.PlaceEvent.{PlaceEvent}
use Rattle.rx_text.specs.Numbers.{natural_text}
use Rattle.rx_text.proofs.Digits.{digit-first, digits-all, some-decimal}
use Rattle.rx_trace.specs.EntryLines.{entry_text}
use Rattle.rx_trace.specs.EventLines.{event_text}
use Rattle.rx_trace.specs.Fields.{natural_field, kill_field}
use Rattle.rx_trace.specs.Text.{trace_text}
use Rattle.rx_trace.specs.Limits.{FitsEntry, FitsEvent, FitJournals, FitsSetup, IsWithin}
use Rattle.rx_trace.specs.Inside.Machine.{ReadingState, Untitled, Titled, Sized, Listed, Planned, Entering, Logging, Over, begins_journal, entry_of, event_line_of, state_with_sizes, read_line}
use Rattle.rx_trace.specs.Reading.{IsText, BeginsText, IsLine, AreLines, IsBadLine, TextsTellThePair}
use Rattle.rx_fields.specs.Words.{Lacks}
use Rattle.rx_fields.proofs.Cuts.{IsPlain, bytes-same, all-append, all-map}
use Rattle.rx_trace.proofs.Plans.{sizes_text, sizes-again, kills-line-again}
use Rattle.rx_trace.proofs.Joins.{joins-line-again, are-kills, in-turn, are-there, at_once, once-many, once-rising, once-early, once-there}
use Rattle.rx_trace.proofs.States.{state_text, SoFar, FitEntries, ended, stepped, over-is-text, journals-fit-end}
use Rattle.rx_trace.proofs.Wholes.{LineAgain, entry-line-again, event-line-again, number-plain-all}

-- lines that can be read one after the other
abbrev all_ended : List (List ℕ) → List ℕ
all_ended lines = flat_map ended lines

abbrev then_read : Option ReadingState → List (List ℕ) → Option ReadingState
then_read o [] = o
then_read None (l ∷ ls) = None
then_read (Some s) (l ∷ ls) = then_read (read_line s l) ls

-- these lines were read
record Reached (s : ReadingState) : Type 0 where
  pub lines : List (List ℕ)
  pub spelled : all_ended lines ≡ state_text s
  pub lacks : AllByRecursion (Lacks 10) lines
  pub runs : then_read (Some Untitled) lines ≡ Some s

none-read : (ls : List (List ℕ)) → then_read None ls ≡ None
none-read [] = refl
none-read (l ∷ ls) = refl

read-append : (o : Option ReadingState) (ls ms : List (List ℕ)) → then_read o (ls ++ ms) ≡ then_read (then_read o ls) ms
read-append o [] ms = refl
read-append None (l ∷ ls) ms = sym (none-read ms)
read-append (Some s) (l ∷ ls) ms = read-append (read_line s l) ls ms

ended-append : (ls ms : List (List ℕ)) → all_ended (ls ++ ms) ≡ all_ended ls ++ all_ended ms
ended-append [] ms = refl
ended-append (l ∷ ls) ms = ap (λ r. ended l ++ r) (ended-append ls ms) ∙ sym (append_assoc (ended l) (all_ended ls) (all_ended ms))

-- one line more
reached-more : (s : ReadingState) (line : List ℕ) (next : ReadingState) → SoFar s → Reached s → LineAgain (read_line s line) next line → Reached next
reached-more s line next so r again =
    let step = stepped s line next so again.reads in
    record {
      lines = r.lines ++ line ∷ [];
      spelled = ended-append r.lines (line ∷ []) ∙ ap (λ t. t ++ (ended line ++ [])) r.spelled ∙ ap (λ t. state_text s ++ t) (append-nil (ended line)) ∙ sym step.text;
      lacks = all-append (Lacks 10) r.lines (line ∷ []) r.lacks (again.lacks, tt);
      runs = read-append (Some Untitled) r.lines (line ∷ []) ∙ ap (λ o. then_read o (line ∷ [])) r.runs ∙ again.reads;
    }

-- a line of fixed words
fixed : (key : List ℕ) (next : ReadingState) (other : Option ReadingState) → Lacks 10 key → LineAgain (cond (bytes_eq key key) (Some next) other) next key
fixed key next other lacks = record { reads = ap (λ b. cond b (Some next) other) (same-bytes key); lacks = lacks }

abbrev lacks_line : List ℕ → Bool
lacks_line [] = true
lacks_line (b ∷ bs) = cond (b == 10) false (lacks_line bs)

lacks-more : (b : ℕ) (bs : List ℕ) (t : Bool) → (b == 10) ≡ t → cond t false (lacks_line bs) ≡ true → (lacks_line bs ≡ true → Lacks 10 bs) → Lacks 10 (b ∷ bs)
lacks-more b bs true et e more = cc
lacks-more b bs false et e more = ((λ h. (let t : (b == 10) ≡ true = eq-eqb b 10 h in cc)), more e)

lacks-is : (bs : List ℕ) → lacks_line bs ≡ true → Lacks 10 bs
lacks-is [] e = tt
lacks-is (b ∷ bs) e = lacks-more b bs (b == 10) refl e (lacks-is bs)

journal-lacks : (p : ℕ) → Lacks 10 (codes "journal " ++ natural_text p)
journal-lacks p = all-append (λ b. b ≢ 10) (codes "journal ") (natural_text p) (lacks-is (codes "journal ") refl) (all-map IsPlain (λ b. b ≢ 10) (λ b h. h.1) (natural_text p) (number-plain-all p))

r-untitled : Reached Untitled
r-untitled = record { lines = []; spelled = refl; lacks = tt; runs = refl }

r-titled : Reached Titled
r-titled = reached-more Untitled (codes "rx10 trace 2") Titled tt r-untitled (fixed (codes "rx10 trace 2") Titled None (lacks-is (codes "rx10 trace 2") refl))

sized-again : (places heap : ℕ) → SoFar (Sized places heap) → LineAgain (read_line Titled (sizes_text places heap)) (Sized places heap) (sizes_text places heap)
sized-again places heap so = let h = sizes-again places heap so.0 so.1 in record { reads = ap state_with_sizes h.reads; lacks = h.lacks }

r-sized : (places heap : ℕ) → SoFar (Sized places heap) → Reached (Sized places heap)
r-sized places heap so = reached-more Titled (sizes_text places heap) (Sized places heap) tt r-titled (sized-again places heap so)

abbrev given_of : ℕ → ℕ → List Kill → List ℕ → Given
given_of places heap kills joins = record { places = places; heap = heap; kills = kills; joins = joins }

abbrev kills_text : List Kill → List ℕ
kills_text kills = codes "kills" ++ flat_map kill_field kills

abbrev joins_text : List ℕ → List ℕ
joins_text joins = codes "joins" ++ flat_map natural_field joins

listed-again : (places heap : ℕ) (kills : List Kill) → SoFar (Listed places heap kills) → LineAgain (read_line (Sized places heap) (kills_text kills)) (Listed places heap kills) (kills_text kills)
listed-again places heap kills so =
    let h = kills-line-again kills so.2 so.3 in
    record { reads = ap (option_map (λ ks. Listed places heap ks)) h.reads; lacks = h.lacks }

r-listed : (places heap : ℕ) (kills : List Kill) → SoFar (Listed places heap kills) → Reached (Listed places heap kills)
r-listed places heap kills so =
    reached-more (Sized places heap) (kills_text kills) (Listed places heap kills) (so.0, so.1) (r-sized places heap (so.0, so.1)) (listed-again places heap kills so)

planned-again : (U : Given) → FitsSetup U → LineAgain (read_line (Listed U.places U.heap U.kills) (joins_text U.joins)) (Planned U) (joins_text U.joins)
planned-again U so =
    let h = joins-line-again U.places U.kills U.joins so.0.joins so.2 so.0.few (are-there U U.kills so.0.kills) in
    record { reads = ap (option_map (λ joins. Planned (given_of U.places U.heap U.kills joins))) h.reads; lacks = h.lacks }

kills-of : (U : Given) → FitsSetup U → SoFar (Listed U.places U.heap U.kills)
kills-of U so =
    let all : in_all U ≤ 16 = so.0.few in
    let few : U.places ≤ 16 = omega arith in
    ((so.0.some, few), (so.0.words, so.0.small), in-turn U U.kills all so.0.kills, so.1)

r-planned : (U : Given) → FitsSetup U → Reached (Planned U)
r-planned U so = reached-more (Listed U.places U.heap U.kills) (joins_text U.joins) (Planned U) (kills-of U so) (r-listed U.places U.heap U.kills (kills-of U so)) (planned-again U so)

r-begun : (U : Given) → FitsSetup U → Reached (Entering U [])
r-begun U so = reached-more (Planned U) (codes "history") (Entering U []) so (r-planned U so) (fixed (codes "history") (Entering U []) None (lacks-is (codes "history") refl))

-- a line that begins with a digit is no other
digit-apart : (line key : List ℕ) → is_ascii_digit (slice_index line 0) ≡ true → is_ascii_digit (slice_index key 0) ≡ false → bytes_eq line key ≡ false
digit-apart line key digit none = by (bytes_eq line key) refl
  where
    by : (b : Bool) → bytes_eq line key ≡ b → bytes_eq line key ≡ false
    by false e = e
    by true e = let clash : true ≡ false = sym digit ∙ ap (λ l. is_ascii_digit (slice_index l 0)) (bytes-same line key e) ∙ none in cc

numbered : (n : ℕ) (rest : List ℕ) → is_ascii_digit (slice_index (natural_text n ++ rest) 0) ≡ true
numbered n rest = digit-first (natural_text n) rest (some-decimal n) (digits-all n)

no-journal : (p n : ℕ) (rest : List ℕ) → begins_journal p (natural_text n ++ rest) ≡ false
no-journal p n rest = digit-apart (natural_text n ++ rest) (codes "journal " ++ natural_text p) (numbered n rest) refl

not-done : (n : ℕ) (rest : List ℕ) → bytes_eq (natural_text n ++ rest) (codes "done") ≡ false
not-done n rest = digit-apart (natural_text n ++ rest) (codes "done") (numbered n rest) refl

-- the lines of entries
entered-again : (U : Given) (es : List Entry) (e : Entry) → FitsSetup U → length es < 2 ^ 32 → FitsEntry (in_all U) e → LineAgain (read_line (Entering U es) (natural_text (length es) ++ entry_text e)) (Entering U (es ++ e ∷ [])) (natural_text (length es) ++ entry_text e)
entered-again U es e so low fits =
    let line = natural_text (length es) ++ entry_text e in
    let h = entry-line-again (in_all U) (length es) e so.0.few low fits in
    record {
      reads = ap (λ b. cond b (Some (Logging U es [] [])) (option_map (λ x. Entering U (es ++ x ∷ [])) (entry_of (in_all U) (length es) line))) (no-journal 0 (length es) (entry_text e))
          ∙ ap (option_map (λ x. Entering U (es ++ x ∷ []))) h.reads;
      lacks = h.lacks;
    }

r-entering : (U : Given) (pre es : List Entry) → FitsSetup U → length (pre ++ es) ≤ 2 ^ 32 → AllByRecursion (FitsEntry (in_all U)) pre → AllByRecursion (FitsEntry (in_all U)) es → Reached (Entering U pre) → Reached (Entering U (pre ++ es))
r-entering U pre [] so long fit fits r = subst (λ xs. Reached (Entering U xs)) (sym (append-nil pre)) r
r-entering U pre (e ∷ es) so long fit fits r =
    let more : length pre + length (e ∷ es) ≤ 2 ^ 32 = subst (λ n. n ≤ 2 ^ 32) (length-append pre (e ∷ es)) long in
    let low : length pre < 2 ^ 32 = omega arith in
    let next = reached-more (Entering U pre) (natural_text (length pre) ++ entry_text e) (Entering U (pre ++ e ∷ [])) (so, (let some : length pre ≤ 2 ^ 32 = omega arith in some), fit) r (entered-again U pre e so low fits.0) in
    let same = append_assoc pre (e ∷ []) es in
    subst (λ xs. Reached (Entering U xs)) same
    (r-entering U (pre ++ e ∷ []) es so (subst (λ xs. length xs ≤ 2 ^ 32) (sym same) long) (all-append (FitsEntry (in_all U)) pre (e ∷ []) fit (fits.0, tt)) fits.1 next)

r-entries : (U : Given) (es : List Entry) → FitEntries U es → Reached (Entering U es)
r-entries U es so = r-entering U [] es so.0 so.1 tt so.2 (r-begun U so.0)

r-logs : (U : Given) (es : List Entry) → FitEntries U es → Reached (Logging U es [] [])
r-logs U es so =
    reached-more (Entering U es) (codes "journal " ++ natural_text 0) (Logging U es [] []) so (r-entries U es so)
    (fixed (codes "journal " ++ natural_text 0) (Logging U es [] []) _ (journal-lacks 0))

abbrev event_answer : Given → List Entry → List (List PlaceEvent) → List PlaceEvent → List ℕ → Option ReadingState
event_answer U es js j line = option_map (λ e. Logging U es js (j ++ e ∷ [])) (event_line_of (length js) (length j) line)

abbrev last_answer : Given → List Entry → List (List PlaceEvent) → List PlaceEvent → List ℕ → Option ReadingState
last_answer U es js j line = cond (bytes_eq line (codes "done") && length js + 1 == in_all U) (Some (Over U es (js ++ j ∷ []))) (event_answer U es js j line)

-- the lines of events
logged-again : (U : Given) (es : List Entry) (js : List (List PlaceEvent)) (j : List PlaceEvent) (e : PlaceEvent) → FitsEvent (length js) e → LineAgain (read_line (Logging U es js j) (natural_text (length j) ++ event_text e)) (Logging U es js (j ++ e ∷ [])) (natural_text (length j) ++ event_text e)
logged-again U es js j e fits =
    let line = natural_text (length j) ++ event_text e in
    let h = event-line-again (length js) (length j) e fits in
    record {
      reads = ap (λ b. cond (b && nat_lt (length js + 1) (in_all U)) (Some (Logging U es (js ++ j ∷ []) [])) (last_answer U es js j line)) (no-journal (length js + 1) (length j) (event_text e))
          ∙ ap (λ b. cond (b && length js + 1 == in_all U) (Some (Over U es (js ++ j ∷ []))) (event_answer U es js j line)) (not-done (length j) (event_text e))
          ∙ ap (option_map (λ x. Logging U es js (j ++ x ∷ []))) h.reads;
      lacks = h.lacks;
    }

r-logging : (U : Given) (es : List Entry) (js : List (List PlaceEvent)) (pre j : List PlaceEvent) → SoFar (Logging U es js pre) → AllByRecursion (FitsEvent (length js)) j → Reached (Logging U es js pre) → Reached (Logging U es js (pre ++ j))
r-logging U es js pre [] so fits r = subst (λ xs. Reached (Logging U es js xs)) (sym (append-nil pre)) r
r-logging U es js pre (e ∷ j) so fits r =
    let step = logged-again U es js pre e fits.0 in
    let next = reached-more (Logging U es js pre) (natural_text (length pre) ++ event_text e) (Logging U es js (pre ++ e ∷ [])) so r step in
    let after = stepped (Logging U es js pre) (natural_text (length pre) ++ event_text e) (Logging U es js (pre ++ e ∷ [])) so step.reads in
    subst (λ xs. Reached (Logging U es js xs)) (append_assoc pre (e ∷ []) j) (r-logging U es js (pre ++ e ∷ []) j after.so_far fits.1 next)

-- the line of the next journal, and the last line
next-again : (U : Given) (es : List Entry) (js : List (List PlaceEvent)) (j : List PlaceEvent) → length js + 1 < in_all U → LineAgain (read_line (Logging U es js j) (codes "journal " ++ natural_text (length js + 1))) (Logging U es (js ++ j ∷ []) []) (codes "journal " ++ natural_text (length js + 1))
next-again U es js j below =
    let line = codes "journal " ++ natural_text (length js + 1) in
    record {
      reads = ap (λ b. cond (b && nat_lt (length js + 1) (in_all U)) (Some (Logging U es (js ++ j ∷ []) [])) (last_answer U es js j line)) (same-bytes line)
          ∙ ap (λ b. cond b (Some (Logging U es (js ++ j ∷ []) [])) (last_answer U es js j line)) (lt-ltb (length js + 1) (in_all U) below);
      lacks = journal-lacks (length js + 1);
    }

over-again : (U : Given) (es : List Entry) (js : List (List PlaceEvent)) (j : List PlaceEvent) → length js + 1 ≡ in_all U → LineAgain (read_line (Logging U es js j) (codes "done")) (Over U es (js ++ j ∷ [])) (codes "done")
over-again U es js j all = record {
  reads = ap (λ b. cond b (Some (Over U es (js ++ j ∷ []))) (event_answer U es js j (codes "done"))) (eq-eqb (length js + 1) (in_all U) all);
  lacks = lacks-is (codes "done") refl;
}

r-journals : (U : Given) (es : List Entry) (before rest : List (List PlaceEvent)) (p : ℕ) → p ≡ length before → FitEntries U es → length (before ++ rest) < in_all U → FitJournals 0 before → FitJournals p rest → Reached (Logging U es before []) → Reached (Logging U es (before ++ rest) [])
r-journals U es before [] p is so low fit fits r = subst (λ xs. Reached (Logging U es xs [])) (sym (append-nil before)) r
r-journals U es before (j ∷ rest) p is so low fit fits r =
    let long : length before + length (j ∷ rest) < in_all U = subst (λ n. n < in_all U) (length-append before (j ∷ rest)) low in
    let here : length before < in_all U = omega arith in
    let below : length before + 1 < in_all U = omega arith in
    let own : AllByRecursion (FitsEvent (length before)) j = subst (λ k. AllByRecursion (FitsEvent k) j) is fits.0 in
    let logs = r-logging U es before [] j (so, here, fit, tt) own r in
    let next = reached-more (Logging U es before j) (codes "journal " ++ natural_text (length before + 1)) (Logging U es (before ++ j ∷ []) []) (so, here, fit, own) logs (next-again U es before j below) in
    let same = append_assoc before (j ∷ []) rest in
    let grown : p + 1 ≡ length (before ++ j ∷ []) = omega (arith, length-append before (j ∷ []), is) in
    subst (λ xs. Reached (Logging U es xs [])) same
    (r-journals U es (before ++ j ∷ []) rest (p + 1) grown so (subst (λ xs. length xs < in_all U) (sym same) low) (journals-fit-end before j fit own) fits.1 next)

r-logged : (U : Given) (es : List Entry) (js : List (List PlaceEvent)) (j : List PlaceEvent) → SoFar (Logging U es js j) → Reached (Logging U es js j)
r-logged U es js j so =
    r-logging U es js [] j (so.0, so.1, so.2, tt) so.3 (r-journals U es [] js 0 refl so.0 so.1 tt so.2 (r-logs U es so.0))

-- the last journal
record Last (p : ℕ) (js : List (List PlaceEvent)) : Type 0 where
  pub front : List (List PlaceEvent)
  pub last : List PlaceEvent
  pub whole : js ≡ front ++ last ∷ []
  pub fit : FitJournals p front
  pub own : AllByRecursion (FitsEvent (p + length front)) last

last-of : (p : ℕ) (j : List PlaceEvent) (js : List (List PlaceEvent)) → FitJournals p (j ∷ js) → Last p (j ∷ js)
last-of p j [] fits = record { front = []; last = j; whole = refl; fit = tt; own = (let e : p ≡ p + 0 = omega arith in subst (λ k. AllByRecursion (FitsEvent k) j) e fits.0) }
last-of p j (k ∷ js) fits =
    let more = last-of (p + 1) k js fits.1 in
    let e : p + 1 + length more.front ≡ p + length (j ∷ more.front) = omega arith in
    record { front = j ∷ more.front; last = more.last; whole = ap (λ xs. j ∷ xs) more.whole; fit = (fits.0, more.fit); own = subst (λ n. AllByRecursion (FitsEvent n) more.last) e more.own }

r-over : (U : Given) (es : List Entry) (js : List (List PlaceEvent)) → IsWithin U es js → Reached (Over U es js)
r-over U es [] so = let none : 0 ≡ in_all U = so.one_each in let some : 1 ≤ U.places = so.setup_fits.0.some in absurd (omega arith)
r-over U es (j ∷ js) so =
    let l = last-of 0 j js so.journals_fit in
    let from : 0 + length l.front ≡ length l.front = omega arith in
    let own : AllByRecursion (FitsEvent (length l.front)) l.last = subst (λ n. AllByRecursion (FitsEvent n) l.last) from l.own in
    let count : length l.front + 1 ≡ in_all U = sym (length-append l.front (l.last ∷ [])) ∙ sym (ap length l.whole) ∙ so.one_each in
    let low : length l.front < in_all U = omega arith in
    let here : SoFar (Logging U es l.front l.last) = ((so.setup_fits, so.numbered, so.entries_fit), low, l.fit, own) in
    subst (λ xs. Reached (Over U es xs)) (sym l.whole)
    (reached-more (Logging U es l.front l.last) (codes "done") (Over U es (l.front ++ l.last ∷ [])) here (r-logged U es l.front l.last here) (over-again U es l.front l.last count))

-- what keeps the limits can be read
reached : (s : ReadingState) → SoFar s → Reached s
reached Untitled so = r-untitled
reached Titled so = r-titled
reached (Sized places heap) so = r-sized places heap so
reached (Listed places heap kills) so = r-listed places heap kills so
reached (Planned U) so = r-planned U so
reached (Entering U es) so = r-entries U es so
reached (Logging U es js j) so = r-logged U es js j so
reached (Over U es js) so = r-over U es js so

-- lines of a text that begins with a line
more-begins : (front line : List ℕ) → BeginsText (front ++ line) → BeginsText front
more-begins front line b = (line ++ b.0, subst IsText (append_assoc front line b.0) b.1)

begins-from : (s : ReadingState) (line : List ℕ) (next : ReadingState) → SoFar s → read_line s line ≡ Some next → (SoFar next → BeginsText (state_text next)) → BeginsText (state_text s)
begins-from s line next so e b =
    let step = stepped s line next so e in
    more-begins (state_text s) (ended line) (subst BeginsText step.text (b step.so_far))

over-begins : (U : Given) (es : List Entry) (js : List (List PlaceEvent)) → IsWithin U es js → BeginsText (state_text (Over U es js))
over-begins U es js so = ([], (U, es, js, so, append-nil (state_text (Over U es js)) ∙ sym (over-is-text U es js)))

log-begins : (n : ℕ) (U : Given) (es : List Entry) (js : List (List PlaceEvent)) (j : List PlaceEvent) → length js + 1 + n ≡ in_all U → SoFar (Logging U es js j) → BeginsText (state_text (Logging U es js j))
log-begins zero U es js j left so =
    let all : length js + 1 ≡ in_all U = omega arith in
    begins-from (Logging U es js j) (codes "done") (Over U es (js ++ j ∷ [])) so (over-again U es js j all).reads (λ k. over-begins U es (js ++ j ∷ []) k)
log-begins (suc n) U es js j left so =
    let below : length js + 1 < in_all U = omega arith in
    let long : length (js ++ j ∷ []) + 1 + n ≡ in_all U = omega (arith, length-append js (j ∷ [])) in
    begins-from (Logging U es js j) (codes "journal " ++ natural_text (length js + 1)) (Logging U es (js ++ j ∷ []) []) so (next-again U es js j below).reads (λ k. log-begins n U es (js ++ j ∷ []) [] long k)

logging-begins : (U : Given) (es : List Entry) (js : List (List PlaceEvent)) (j : List PlaceEvent) → SoFar (Logging U es js j) → BeginsText (state_text (Logging U es js j))
logging-begins U es js j so =
    let low : length js < in_all U = so.1 in
    let left : length js + 1 + (in_all U - length js - 1) ≡ in_all U = omega arith in
    log-begins (in_all U - length js - 1) U es js j left so

entering-begins : (U : Given) (es : List Entry) → SoFar (Entering U es) → BeginsText (state_text (Entering U es))
entering-begins U es so =
    begins-from (Entering U es) (codes "journal " ++ natural_text 0) (Logging U es [] []) so (fixed (codes "journal " ++ natural_text 0) (Logging U es [] []) _ (journal-lacks 0)).reads (λ k. logging-begins U es [] [] k)

planned-begins : (U : Given) → FitsSetup U → BeginsText (state_text (Planned U))
planned-begins U so = begins-from (Planned U) (codes "history") (Entering U []) so refl (λ k. entering-begins U [] k)

-- the places of the kills may all join at once
widest : (places heap : ℕ) (kills : List Kill) → SoFar (Listed places heap kills) → FitsSetup (given_of places heap kills (at_once (16 - places)))
widest places heap kills so =
    let n = 16 - places in
    let few : places ≤ 16 = so.0.1 in
    let many : length (at_once n) ≡ n = once-many n in
    let U = given_of places heap kills (at_once n) in
    let all : in_all U ≤ 16 = omega arith in (
      record {
        some = so.0.0;
        few = all;
        words = so.1.0;
        small = so.1.1;
        kills = are-kills U kills so.2 (once-there places kills few so.2);
        joins = once-rising n;
      },
      so.3,
      once-early n,
    )

listed-begins : (places heap : ℕ) (kills : List Kill) → SoFar (Listed places heap kills) → BeginsText (state_text (Listed places heap kills))
listed-begins places heap kills so =
    let U = given_of places heap kills (at_once (16 - places)) in
    begins-from (Listed places heap kills) (joins_text U.joins) (Planned U) so (planned-again U (widest places heap kills so)).reads (λ k. planned-begins U k)

sized-begins : (places heap : ℕ) → SoFar (Sized places heap) → BeginsText (state_text (Sized places heap))
sized-begins places heap so = begins-from (Sized places heap) (codes "kills") (Listed places heap []) so refl (λ k. listed-begins places heap [] k)

titled-begins : BeginsText (state_text Titled)
titled-begins =
    let one : 1 ≤ 1 = omega arith in
    let few : 1 ≤ 16 = omega arith in
    let small : 1 ≤ 4096 = omega arith in
    begins-from Titled (sizes_text 1 1) (Sized 1 1) tt (sized-again 1 1 ((one, few), (one, small))).reads (λ k. sized-begins 1 1 k)

-- what has been read begins a text
pub begins : (s : ReadingState) → SoFar s → BeginsText (state_text s)
begins Untitled so = begins-from Untitled (codes "rx10 trace 2") Titled tt refl (λ k. titled-begins)
begins Titled so = titled-begins
begins (Sized places heap) so = sized-begins places heap so
begins (Listed places heap kills) so = listed-begins places heap kills so
begins (Planned U) so = planned-begins U so
begins (Entering U es) so = entering-begins U es so
begins (Logging U es js j) so = logging-begins U es js j so
begins (Over U es js) so = over-begins U es js so

-- lines are cut in one way
head-is : (a b : ℕ) (x y : List ℕ) → a ∷ x ≡ b ∷ y → a ≡ b
head-is a b x y e = cc

seam : (l m x y : List ℕ) → Lacks 10 l → Lacks 10 m → l ++ 10 ∷ x ≡ m ++ 10 ∷ y → (l ≡ m) × (x ≡ y)
seam [] [] x y a b e = (refl, tails-are 10 10 x y e)
seam [] (c ∷ m) x y a b e = absurd (b.0 (sym (head-is 10 c x (m ++ 10 ∷ y) e)))
seam (c ∷ l) [] x y a b e = absurd (a.0 (head-is c 10 (l ++ 10 ∷ x) y e))
seam (c ∷ l) (d ∷ m) x y a b e =
    let first = head-is c d (l ++ 10 ∷ x) (m ++ 10 ∷ y) e in
    let rest = seam l m x y a.1 b.1 (tails-are c d (l ++ 10 ∷ x) (m ++ 10 ∷ y) e) in
    (ap (λ h. h ∷ l) first ∙ ap (λ t. d ∷ t) rest.0, rest.1)

pub ended-more : (l x : List ℕ) → ended l ++ x ≡ l ++ 10 ∷ x
ended-more l x = append_assoc l (10 ∷ []) x

not-empty : (l x : List ℕ) → [] ≡ l ++ 10 ∷ x → ⊥
not-empty [] x e = cc
not-empty (b ∷ l) x e = cc

-- lines that follow others
record Cut (L M : List (List ℕ)) (line : List ℕ) : Type 0 where
  pub left : List (List ℕ)
  pub whole : L ≡ M ++ line ∷ left

cut-lines : (L M : List (List ℕ)) (line rest : List ℕ) → AllByRecursion (Lacks 10) L → AllByRecursion (Lacks 10) M → Lacks 10 line → all_ended L ≡ all_ended M ++ (ended line ++ rest) → Cut L M line
cut-lines [] [] line rest a b c e = absurd (not-empty line rest (e ∙ ended-more line rest))
cut-lines (l ∷ L) [] line rest a b c e =
    let same = seam l line (all_ended L) rest a.0 c (sym (ended-more l (all_ended L)) ∙ e ∙ ended-more line rest) in
    record { left = L; whole = ap (λ x. x ∷ L) same.0 }
cut-lines [] (m ∷ M) line rest a b c e = absurd (not-empty m (all_ended M ++ (ended line ++ rest)) (e ∙ append_assoc (ended m) (all_ended M) (ended line ++ rest) ∙ ended-more m (all_ended M ++ (ended line ++ rest))))
cut-lines (l ∷ L) (m ∷ M) line rest a b c e =
    let same = seam l m (all_ended L) (all_ended M ++ (ended line ++ rest)) a.0 b.0 (sym (ended-more l (all_ended L)) ∙ e ∙ append_assoc (ended m) (all_ended M) (ended line ++ rest) ∙ ended-more m (all_ended M ++ (ended line ++ rest))) in
    let more = cut-lines L M line rest a.1 b.1 c same.1 in
    record { left = more.left; whole = ap (λ x. x ∷ L) same.0 ∙ ap (λ xs. m ∷ xs) more.whole }

lacks-end : (l x : List ℕ) → Lacks 10 (l ++ 10 ∷ x) → ⊥
lacks-end [] x a = a.0 refl
lacks-end (b ∷ l) x a = lacks-end l x a.1

-- lines, and then no line more
cut-end : (L M : List (List ℕ)) (rest : List ℕ) → AllByRecursion (Lacks 10) L → AllByRecursion (Lacks 10) M → Lacks 10 rest → all_ended L ≡ all_ended M ++ rest → (L ≡ M) × (rest ≡ [])
cut-end [] [] rest a b c e = (refl, sym e)
cut-end (l ∷ L) [] rest a b c e = absurd (lacks-end l (all_ended L) (subst (Lacks 10) (sym e ∙ ended-more l (all_ended L)) c))
cut-end [] (m ∷ M) rest a b c e = absurd (not-empty m (all_ended M ++ rest) (e ∙ append_assoc (ended m) (all_ended M) rest ∙ ended-more m (all_ended M ++ rest)))
cut-end (l ∷ L) (m ∷ M) rest a b c e =
    let same = seam l m (all_ended L) (all_ended M ++ rest) a.0 b.0 (sym (ended-more l (all_ended L)) ∙ e ∙ append_assoc (ended m) (all_ended M) rest ∙ ended-more m (all_ended M ++ rest)) in
    let more = cut-end L M rest a.1 b.1 c same.1 in
    (ap (λ x. x ∷ L) same.0 ∙ ap (λ xs. m ∷ xs) more.0, more.1)

-- a line that is refused after others begins no text with them
pub stops : (s : ReadingState) (line : List ℕ) → SoFar s → Lacks 10 line → read_line s line ≡ None → BeginsText (state_text s ++ ended line) → ⊥
stops s line so lacks none (rest, (U, es, js, within, is)) =
    let r = reached s so in
    let t = reached (Over U es js) within in
    let same : all_ended t.lines ≡ all_ended r.lines ++ (ended line ++ rest) = t.spelled ∙ sym (over-is-text U es js) ∙ sym is ∙ append_assoc (state_text s) (ended line) rest ∙ ap (λ x. x ++ (ended line ++ rest)) (sym r.spelled) in
    let cut = cut-lines t.lines r.lines line rest t.lacks r.lacks lacks same in
    let run : then_read (Some Untitled) t.lines ≡ None =
    ap (then_read (Some Untitled)) cut.whole ∙ read-append (Some Untitled) r.lines (line ∷ cut.left) ∙ ap (λ o. then_read o (line ∷ cut.left)) r.runs
    ∙ ap (λ o. then_read o cut.left) none ∙ none-read cut.left in
    none-some (Over U es js) (sym run ∙ t.runs)

-- where lines were read and no other line follows, and this is a text, everything has been read
pub ends : (s : ReadingState) (rest : List ℕ) → SoFar s → Lacks 10 rest → (t : IsText (state_text s ++ rest)) → (s ≡ Over t.0 t.1 t.2) × (rest ≡ [])
ends s rest so lacks (U, es, js, within, is) =
    let r = reached s so in
    let t = reached (Over U es js) within in
    let same = cut-end t.lines r.lines rest t.lacks r.lacks lacks (t.spelled ∙ sym (over-is-text U es js) ∙ sym is ∙ ap (λ x. x ++ rest) (sym r.spelled)) in
    (same_Some s (Over U es js) (sym r.runs ∙ sym (ap (then_read (Some Untitled)) same.0) ∙ t.runs), same.1)

over-same : (U V : Given) (es fs : List Entry) (js ks : List (List PlaceEvent)) → Over U es js ≡ Over V fs ks → (U ≡ V) × (es ≡ fs) × (js ≡ ks)
over-same U V es fs js ks e = (cc, cc, cc)

-- two pairs with one text are one
pub one-pair : TextsTellThePair
one-pair U V es fs js ks a b e =
    let same = ends (Over U es js) [] a tt (V, fs, ks, b, append-nil (state_text (Over U es js)) ∙ sym (over-is-text U es js) ∙ e) in
    over-same U V es fs js ks same.0

-- one line more of lines
lines-more : (n : ℕ) (front line : List ℕ) → AreLines n front → IsLine line → AreLines (suc n) (front ++ line)
lines-more zero front line are is = (line, [], is, ap (λ f. f ++ line) are ∙ sym (append-nil line), refl)
lines-more (suc n) front line (first, rest, one, whole, more) is =
    (first, rest ++ line, one, ap (λ f. f ++ line) whole ∙ append_assoc first rest line, lines-more n rest line more is)

-- where the lines so far have been read, and what is left of the bytes
pub record HasRead (bytes : List ℕ) (n : ℕ) (s : ReadingState) (rest : List ℕ) : Type 0 where
  pub so_far : SoFar s
  pub whole : bytes ≡ state_text s ++ rest
  pub lines : AreLines n (state_text s)

line-is : (line : List ℕ) → Lacks 10 line → IsLine (ended line)
line-is line lacks = (line, lacks, refl)

-- one line more was read
pub read-more : (bytes : List ℕ) (n : ℕ) (s next : ReadingState) (line rest : List ℕ) → HasRead bytes n s (ended line ++ rest) → Lacks 10 line → read_line s line ≡ Some next → HasRead bytes (suc n) next rest
read-more bytes n s next line rest h lacks e =
    let step = stepped s line next h.so_far e in
    record {
      so_far = step.so_far;
      whole = h.whole ∙ sym (append_assoc (state_text s) (ended line) rest) ∙ ap (λ t. t ++ rest) (sym step.text);
      lines = subst (AreLines (suc n)) (sym step.text) (lines-more n (state_text s) (ended line) h.lines (line-is line lacks));
    }

-- the next line is the first bad one
pub bad-here : (bytes : List ℕ) (n : ℕ) (s : ReadingState) (line rest : List ℕ) → HasRead bytes n s (ended line ++ rest) → Lacks 10 line → read_line s line ≡ None → IsBadLine bytes (suc n)
bad-here bytes n s line rest h lacks e = record {
  earlier = n;
  counted = refl;
  front = state_text s;
  rest = ended line ++ rest;
  lines = h.lines;
  whole = h.whole;
  begins = begins s h.so_far;
  stops = λ other more is split b. (
      let same = seam line is.0 rest more lacks is.1 (sym (ended-more line rest) ∙ split ∙ ap (λ t. t ++ more) is.2 ∙ ended-more is.0 more) in
      stops s is.0 h.so_far is.1 (ap (read_line s) (sym same.0) ∙ e) (subst (λ t. BeginsText (state_text s ++ t)) is.2 b)
      );
  no_text = λ t. stops s line h.so_far lacks e (rest, subst IsText (h.whole ∙ sym (append_assoc (state_text s) (ended line) rest)) t);
}

-- not everything has been read where nothing is left
abbrev pub IsOpen : ReadingState → List ℕ → Type 0
IsOpen s rest = (U : Given) (es : List Entry) (js : List (List PlaceEvent)) → s ≡ Over U es js → rest ≡ [] → ⊥

-- the end comes too early, or after a part of a line
pub bad-end : (bytes : List ℕ) (n : ℕ) (s : ReadingState) (rest : List ℕ) → HasRead bytes n s rest → Lacks 10 rest → IsOpen s rest → IsBadLine bytes (suc n)
bad-end bytes n s rest h lacks is_open = record {
  earlier = n;
  counted = refl;
  front = state_text s;
  rest = rest;
  lines = h.lines;
  whole = h.whole;
  begins = begins s h.so_far;
  stops = λ line more is split b. lacks-end is.0 more (subst (Lacks 10) (split ∙ ap (λ t. t ++ more) is.2 ∙ ended-more is.0 more) lacks);
  no_text = λ t. (let u : IsText (state_text s ++ rest) = subst IsText h.whole t in let end = ends s rest h.so_far lacks u in is_open u.0 u.1 u.2 end.0 end.1);
}

-- everything has been read
pub read-all : (bytes : List ℕ) (n : ℕ) (U : Given) (es : List Entry) (js : List (List PlaceEvent)) → HasRead bytes n (Over U es js) [] → (bytes ≡ trace_text U es js) × IsWithin U es js
read-all bytes n U es js h = (h.whole ∙ append-nil (state_text (Over U es js)) ∙ sym (over-is-text U es js), h.so_far)
