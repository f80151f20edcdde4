-- The text of a trace tells the status, and words with known bytes have one outcome.
use Rattle.std.proofs.lemmas.Bool.{eq-eqb, true≢false}
use Rattle.std.proofs.Common.{get_or, ◌≡◌, ℕ, ◌+◌, ◌<◌, Bool, true, false, ◌&&◌, ◌==◌, List, [], ◌∷◌, ◌++◌, Option, Some, None, refl, ap, sym, ◌∙◌, subst, arith, append_assoc, append-nil, map, not, codes, length, cond, fold}
use Rattle.std.specs.List.{count_by}
use Rattle.std.proofs.lemmas.List.{length-map, append_cancel_left}
use Rattle.std.proofs.lemmas.Bool.Decides.{nat_tests}
use Rattle.rx_rules.proofs.Common.{PlaceId, TaskId, ScopeId, PlaceSet, Fault, members, Block, Given, Proper, EndsWithRoot}
use Rattle.rx_rules.specs.declared.entries.Act.{Act}
use Rattle.rx_rules.specs.declared.entries.Act.TheVariants.{Open, At, Spawn, Arrive, Wait, Release, End, Print, Census}
use Rattle.rx_rules.specs.declared.entries.Entry.{Entry}
use Rattle.rx_rules.specs.declared.entries.Entry.TheVariants.{Step as StepEntry, Root, Death, Join}
use Rattle.rx_rules.specs.declared.events.PlaceEvent.{PlaceEvent}
use Rattle.rx_runs.specs.PickedRuns.{OnePickedRun, plain_set, plain_act, plain}
use Rattle.rx_runs.proofs.Plain.{members_plain}
use Rattle.rx_text.specs.Numbers.{natural_text}
use Rattle.rx_trace.specs.Fields.{natural_field, fault_field, task_field, scope_field}
use Rattle.rx_trace.specs.Parts.{lost_part, masked_part, thrown_part, release_parts, part_text, batch_part}
use Rattle.rx_trace.specs.EntryLines.{entry_text, entry_line, entry_lines}
use Rattle.rx_trace.specs.EventLines.{journals_lines}
use Rattle.rx_trace.specs.Text.{trace_text, setup_lines}
use Rattle.rx_monitor.specs.Text.{watch_text}
use Rattle.rx_gen.specs.Numbers.{has_some, starts_by, starts, prints_by, prints, dies, loses_by, loses, numbers, counts_text}
use Rattle.rx_gen.specs.Lines.{lines}
use Rattle.rx_script.specs.Faults.{OneScript}
use Rattle.rx_syntax.specs.Grammar.{IsScriptOf}
use Rattle.rx_words.specs.Words.{Asked, Step, Gen, Check, Verify, Span, Live, BadWord, Source, source, asked_any}
use Rattle.rx_words.specs.Proper.{HasProper, SetupsAreProper}
use Rattle.rx_program.specs.declared.status.Status.{Status}
use Rattle.rx_program.specs.Top.{is_clean, status_by, status_of, picks_of, work_line, HasRun, IsTrace, IsCount, IsAnswered, IsOutcome, WasScript}
use Rattle.rx_answers.specs.declared.answers.Question.{Question}
use Rattle.rx_answers.specs.declared.answers.Question.TheVariants as questions
use Rattle.rx_answers.specs.Answers.{IsAnswer}
use Rattle.rx_answers.specs.Laws.{AnswerIsOne, TextTellsAnswer}
use Rattle.rx_program.specs.Outcomes.{IsKnown, TextTellsStatus, OneOutcome}
use Rattle.rx_program.proofs.Known.{all-read}
use Rattle.rx_program.proofs.Lines.{without, without-both, masked-without, line-plain, one-line}

-- The root's release.

not-zero : (n : ℕ) → 0 < n → (n == 0) ≡ false
not-zero n h = grind (arith, nat_tests)

-- the byte of a text at a position; 0 past its end
byte : ℕ → List ℕ → ℕ
byte i bytes = get_or bytes i 0

-- What a release names is clean where it does not begin with the lost places, whose second byte is an l (108), and has no w (119), which
-- stands in the word before the faults and nowhere in front of it.
abbrev names_none : List ℕ → Bool
names_none parts = not (byte 1 parts == 108) && without 119 parts

and-false : (b : Bool) → (b && false) ≡ false
and-false true = refl
and-false false = refl

-- what a release names
abbrev parts_of : List ℕ → ℕ → List Fault → List ℕ
parts_of ms n ts = part_text (codes " lost") natural_field ms ++ masked_part n ++ part_text (codes " thrown") fault_field ts

thrown-told : (n : ℕ) (t : Fault) (ts : List Fault) → names_none (parts_of [] n (t ∷ ts)) ≡ false
thrown-told n t ts =
    let some : List ℕ = part_text (codes " thrown") fault_field (t ∷ ts) in
    let second : Bool = not (byte 1 (masked_part n ++ some) == 108) in
    ap (λ b. second && b) (without-both 119 (masked_part n) some ∙ and-false (without 119 (masked_part n))) ∙ and-false second

masked-told : (n : ℕ) → names_none (masked_part n) ≡ true
unfolding masked_part byte
masked-told n = by (n == 0) (masked-without 119 n refl refl)
  where
    by : (b : Bool) → without 119 (cond b [] (codes " masked" ++ natural_field n)) ≡ true → names_none (cond b [] (codes " masked" ++ natural_field n)) ≡ true
    by true h = refl
    by false h = h

clean-told : (lost : PlaceSet) (masked : ℕ) (thrown : List Fault) → is_clean lost thrown ≡ names_none (release_parts lost masked thrown)
unfolding lost_part masked_part byte
clean-told lost masked thrown = by (members lost) masked thrown
  where
    by : (ms : List ℕ) (n : ℕ) (ts : List Fault) → ((length ms == 0) && (length ts == 0)) ≡ names_none (parts_of ms n ts)
    by [] n [] = sym (ap names_none (append-nil (masked_part n)) ∙ masked-told n)
    by [] n (t ∷ ts) = not-zero (length (t ∷ ts)) (omega arith) ∙ sym (thrown-told n t ts)
    by (m ∷ ms) n ts = ap (λ b. b && (length ts == 0)) (not-zero (length (m ∷ ms)) (omega arith))

root-told : (lost other : PlaceSet) (masked hidden : ℕ) (thrown raised : List Fault) → entry_text (Root lost masked thrown) ≡ entry_text (Root other hidden raised) → is_clean lost thrown ≡ is_clean other raised
root-told lost other masked hidden thrown raised e =
    let parts : release_parts lost masked thrown ≡ release_parts other hidden raised = append_cancel_left (codes " release host s0") (release_parts lost masked thrown) (release_parts other hidden raised) e in
    clean-told lost masked thrown ∙ ap names_none parts ∙ sym (clean-told other hidden raised)

-- no other line is that of the root's release: it differs in its second byte, or in its tenth
apart : (i : ℕ) (a b : List ℕ) → (byte i a == byte i b) ≡ false → a ≡ b → ⊥
apart i a b d e = let same : byte i a ≡ byte i b = ap (byte i) e in let test : (byte i a == byte i b) ≡ true = eq-eqb (byte i a) (byte i b) same in true≢false (sym test ∙ d)

not-root : (lost : PlaceSet) (masked : ℕ) (thrown : List Fault) (t : TaskId) (act : Act) (batch : List (List ℕ)) → entry_text (Root lost masked thrown) ≡ entry_text (StepEntry t act batch) → ⊥
unfolding byte
not-root lost masked thrown t (Open s r x) batch e = apart 1 _ _ refl e
not-root lost masked thrown t (At p q s r c x) batch e = apart 1 _ _ refl e
not-root lost masked thrown t (Spawn c s p q x) batch e = apart 1 _ _ refl e
not-root lost masked thrown t (Arrive p) batch e = apart 1 _ _ refl e
not-root lost masked thrown t (Wait s raised) batch e = apart 1 _ _ refl e
not-root lost masked thrown t (Release s l hidden raised) batch e = apart 9 _ _ refl e
not-root lost masked thrown t (End raised) batch e = apart 1 _ _ refl e
not-root lost masked thrown t (Print value x) batch e = apart 1 _ _ refl e
not-root lost masked thrown t (Census places x) batch e = apart 1 _ _ refl e

not-death : (lost : PlaceSet) (masked : ℕ) (thrown : List Fault) (d : PlaceId) → entry_text (Root lost masked thrown) ≡ entry_text (Death d) → ⊥
unfolding byte
not-death lost masked thrown d e = apart 1 _ _ refl e

not-join : (lost : PlaceSet) (masked : ℕ) (thrown : List Fault) (p : PlaceId) → entry_text (Root lost masked thrown) ≡ entry_text (Join p) → ⊥
unfolding byte
not-join lost masked thrown p e = apart 1 _ _ refl e

regroup : (a r j : List ℕ) → ((a ++ 10 ∷ []) ++ r) ++ j ≡ a ++ 10 ∷ (r ++ j)
regroup a r j = append_assoc (a ++ 10 ∷ []) r j ∙ append_assoc a (10 ∷ []) (r ++ j)

-- histories whose lines are one have one status
lines-tell : (n : ℕ) (es fs : List Entry) (x y : List ℕ) → EndsWithRoot es → EndsWithRoot fs → entry_lines n es ++ x ≡ entry_lines n fs ++ y → status_of es ≡ status_of fs
lines-tell n [] fs x y h k e = absurd h
lines-tell n (a ∷ es) [] x y h k e = absurd k
lines-tell n (a ∷ es) (b ∷ fs) x y h k e =
    let cut = one-line (natural_text n ++ entry_text a) (natural_text n ++ entry_text b) (entry_lines (n + 1) es ++ x) (entry_lines (n + 1) fs ++ y) (line-plain n a) (line-plain n b)
    (sym (regroup (natural_text n ++ entry_text a) (entry_lines (n + 1) es) x) ∙ e ∙ regroup (natural_text n ++ entry_text b) (entry_lines (n + 1) fs) y) in
    let texts : entry_text a ≡ entry_text b = append_cancel_left (natural_text n) (entry_text a) (entry_text b) cut.0 in
    heads a b h k texts (λ ha kb. lines-tell (n + 1) es fs x y ha kb cut.1)
  where
    heads : (a b : Entry) → EndsWithRoot (a ∷ es) → EndsWithRoot (b ∷ fs) → entry_text a ≡ entry_text b → (EndsWithRoot es → EndsWithRoot fs → status_of es ≡ status_of fs) → status_of (a ∷ es) ≡ status_of (b ∷ fs)
    heads (Root lost masked thrown) (Root other hidden raised) h k e rest = ap status_by (root-told lost other masked hidden thrown raised e)
    heads (Root lost masked thrown) (StepEntry t act batch) h k e rest = absurd (not-root lost masked thrown t act batch e)
    heads (Root lost masked thrown) (Death d) h k e rest = absurd (not-death lost masked thrown d e)
    heads (Root lost masked thrown) (Join p) h k e rest = absurd (not-join lost masked thrown p e)
    heads (StepEntry t act batch) (Root lost masked thrown) h k e rest = absurd (not-root lost masked thrown t act batch (sym e))
    heads (StepEntry t act batch) (StepEntry u bct bbtch) h k e rest = rest h k
    heads (StepEntry t act batch) (Death d) h k e rest = rest h k
    heads (StepEntry t act batch) (Join p) h k e rest = rest h k
    heads (Death d) (Root lost masked thrown) h k e rest = absurd (not-death lost masked thrown d (sym e))
    heads (Death d) (StepEntry t act batch) h k e rest = rest h k
    heads (Death d) (Death g) h k e rest = rest h k
    heads (Death d) (Join p) h k e rest = rest h k
    heads (Join p) (Root lost masked thrown) h k e rest = absurd (not-join lost masked thrown p (sym e))
    heads (Join p) (StepEntry t act batch) h k e rest = rest h k
    heads (Join p) (Death d) h k e rest = rest h k
    heads (Join p) (Join q) h k e rest = rest h k

stack : (p e j d : List ℕ) → ((p ++ e) ++ j) ++ d ≡ p ++ (e ++ (j ++ d))
stack p e j d = append_assoc (p ++ e) j d ∙ append_assoc p e (j ++ d)

stack-behind : (p e j d a : List ℕ) → (((p ++ e) ++ j) ++ d) ++ a ≡ p ++ (e ++ (j ++ (d ++ a)))
stack-behind p e j d a = append_assoc ((p ++ e) ++ j) d a ∙ stack p e j (d ++ a)

-- what stands before the entries
abbrev head_of : Given → List ℕ
head_of U = codes "rx10 trace 2\n" ++ setup_lines U ++ codes "history\n"

-- traces with anything behind them tell the status: their lines are read from the front
pub texts-tell : (U : Given) (es fs : List Entry) (js ks : List (List PlaceEvent)) (a b : List ℕ) → EndsWithRoot es → EndsWithRoot fs → trace_text U es js ++ a ≡ trace_text U fs ks ++ b → status_of es ≡ status_of fs
unfolding trace_text
texts-tell U es fs js ks a b h k e =
    let p : List ℕ = head_of U in
    let x : List ℕ = journals_lines 0 js in
    let y : List ℕ = journals_lines 0 ks in
    let d : List ℕ = codes "done\n" in
    let c = append_cancel_left p (entry_lines 0 es ++ (x ++ (d ++ a))) (entry_lines 0 fs ++ (y ++ (d ++ b)))
    (sym (stack-behind p (entry_lines 0 es) x d a) ∙ e ∙ stack-behind p (entry_lines 0 fs) y d b) in
    lines-tell 0 es fs (x ++ (d ++ a)) (y ++ (d ++ b)) h k c

-- whole traces do
pub traces-tell : (U : Given) (es fs : List Entry) (js ks : List (List PlaceEvent)) → EndsWithRoot es → EndsWithRoot fs → trace_text U es js ≡ trace_text U fs ks → status_of es ≡ status_of fs
traces-tell U es fs js ks h k e = texts-tell U es fs js ks [] [] h k (ap (λ t. t ++ []) e)

-- Sets of places are told by their members.

entry-plain : (e : Entry) → entry_text (plain e) ≡ entry_text e
unfolding lost_part
entry-plain (StepEntry t (Open s r x) batch) = refl
entry-plain (StepEntry t (At p q s r c x) batch) = refl
entry-plain (StepEntry t (Spawn c s p q x) batch) = refl
entry-plain (StepEntry t (Arrive p) batch) = refl
entry-plain (StepEntry t (Wait s thrown) batch) = refl
entry-plain (StepEntry t (Release s lost masked thrown) batch) =
    ap (λ ms. codes " release" ++ task_field t ++ (scope_field s ++ (part_text (codes " lost") natural_field ms ++ masked_part masked ++ thrown_part thrown)) ++ batch_part batch) (members_plain lost)
entry-plain (StepEntry t (End thrown) batch) = refl
entry-plain (StepEntry t (Print value x) batch) = refl
entry-plain (StepEntry t (Census places x) batch) = refl
entry-plain (Root lost masked thrown) = ap (λ ms. codes " release host s0" ++ (part_text (codes " lost") natural_field ms ++ masked_part masked ++ thrown_part thrown)) (members_plain lost)
entry-plain (Death d) = refl
entry-plain (Join p) = refl

lines-plain : (n : ℕ) (es : List Entry) → entry_lines n (map plain es) ≡ entry_lines n es
lines-plain n [] = refl
lines-plain n (e ∷ es) =
    ap (λ t. natural_text n ++ t ++ codes "\n" ++ entry_lines (n + 1) (map plain es)) (entry-plain e)
    ∙ ap (λ ls. entry_line n e ++ ls) (lines-plain (n + 1) es)

trace-plain : (U : Given) (es : List Entry) (js : List (List PlaceEvent)) → trace_text U (map plain es) js ≡ trace_text U es js
unfolding trace_text
trace-plain U es js = ap (λ ls. codes "rx10 trace 2\n" ++ setup_lines U ++ codes "history\n" ++ ls ++ journals_lines 0 js ++ codes "done\n") (lines-plain 0 es)

status-plain : (es : List Entry) → status_of (map plain es) ≡ status_of es
status-plain [] = refl
status-plain (StepEntry t act batch ∷ es) = status-plain es
status-plain (Root lost masked thrown ∷ es) = ap (λ ms. status_by ((length ms == 0) && (length thrown == 0))) (members_plain lost)
status-plain (Death d ∷ es) = status-plain es
status-plain (Join p ∷ es) = status-plain es

act-plain : (p : Act → Bool) (act : Act) → ((s : ScopeId) (lost : PlaceSet) (masked : ℕ) (thrown : List Fault) → p (Release s (plain_set lost) masked thrown) ≡ p (Release s lost masked thrown)) → p (plain_act act) ≡ p act
act-plain p (Release s lost masked thrown) h = h s lost masked thrown
act-plain p _ h = refl

starts-plain : (e : Entry) → starts (plain e) ≡ starts e
starts-plain (StepEntry t act batch) = act-plain starts_by act (λ s lost masked thrown. refl)
starts-plain _ = refl

prints-plain : (e : Entry) → prints (plain e) ≡ prints e
prints-plain (StepEntry t act batch) = act-plain prints_by act (λ s lost masked thrown. refl)
prints-plain _ = refl

dies-plain : (e : Entry) → dies (plain e) ≡ dies e
dies-plain (StepEntry t act batch) = refl
dies-plain _ = refl

loses-plain : (e : Entry) → loses (plain e) ≡ loses e
loses-plain (StepEntry t act batch) = act-plain loses_by act (λ s lost masked thrown. ap has_some (members_plain lost))
loses-plain (Root lost masked thrown) = ap has_some (members_plain lost)
loses-plain (Death d) = refl
loses-plain (Join p) = refl

count-from : (p : Entry → Bool) → ((e : Entry) → p (plain e) ≡ p e) → (k : ℕ) (es : List Entry) → fold (λ a x. a + cond (p x) 1 0) k (map plain es) ≡ fold (λ a x. a + cond (p x) 1 0) k es
count-from p h k [] = refl
count-from p h k (e ∷ es) = ap (λ b. fold (λ a x. a + cond (p x) 1 0) (k + cond b 1 0) (map plain es)) (h e) ∙ count-from p h (k + cond (p e) 1 0) es

count-plain : (p : Entry → Bool) → ((e : Entry) → p (plain e) ≡ p e) → (es : List Entry) → count_by p (map plain es) ≡ count_by p es
count-plain p h es = count-from p h 0 es

numbers-plain : (es : List Entry) → numbers (map plain es) ≡ numbers es
numbers-plain es = rw (length-map es plain, count-plain starts starts-plain es, count-plain prints prints-plain es, count-plain dies dies-plain es, count-plain loses loses-plain es) refl

-- One run, one outcome.

module _ (single : OnePickedRun) (proper : SetupsAreProper) (answer_tells : TextTellsAnswer) where
  runs-agree : (code : Block) (U : Given) (s : Source) (es fs : List Entry) (js ks : List (List PlaceEvent)) (a b : Status) → Proper U → HasRun code U s es js a → HasRun code U s fs ks b → (map plain es ≡ map plain fs) × (js ≡ ks) × (a ≡ b)
  runs-agree code U s es fs js ks a b ok p q =
      let one = single code U (picks_of s) es fs js ks ok p.picked q.picked in
      (one.0, one.1, p.tells ∙ sym (status-plain es) ∙ ap status_of one.0 ∙ status-plain fs ∙ sym q.tells)

  counts-agree : (size : ℕ) (U : Given) (s : Source) (text written : List ℕ) (a b : Status) → Proper U → IsCount size U s text a → IsCount size U s written b → (text ≡ written) × (a ≡ b)
  counts-agree size U s text written a b ok (es, js, p, e) (fs, ks, q, f) =
      let one = runs-agree (lines U.places size) U s es fs js ks a b ok p q in
      (e ∙ ap counts_text (sym (numbers-plain es) ∙ ap numbers one.0 ∙ numbers-plain fs) ∙ sym f, one.2)

  traces-agree : (code : Block) (U : Given) (s : Source) (text written : List ℕ) (a b : Status) → Proper U → IsTrace code U s text a → IsTrace code U s written b → (text ≡ written) × (a ≡ b)
  traces-agree code U s text written a b ok (es, js, p, e) (fs, ks, q, f) =
      let one = runs-agree code U s es fs js ks a b ok p q in (
        e ∙ sym (trace-plain U es js) ∙ ap (λ v. trace_text U v js) one.0 ∙ ap (trace_text U (map plain fs)) one.1 ∙ trace-plain U fs ks ∙ sym f,
        one.2,
      )

  status-told : (a : Asked) (old new older newer : Option (List ℕ)) (text : List ℕ) (s t : Status) → HasProper a → IsOutcome a old new text s → IsOutcome a older newer text t → s ≡ t
  status-told (Step U src) old new older newer text s t ok (code, was, (es, js, p, e)) (other, were, (fs, ks, q, f)) =
      p.tells ∙ traces-tell U es fs js ks p.run.ends q.run.ends (sym e ∙ f) ∙ sym q.tells
  status-told (Gen size U seed) old new older newer text s t ok h k = (counts-agree size U (source None seed) text text s t ok h.1 k.1).1
  status-told Check old new older newer text s t ok (code, was, e, done) (other, were, f, over) = done ∙ sym over
  status-told Verify old new older newer text s t ok (bytes, a, was, p, e) (others, b, were, q, f) =
      e ∙ ap status_by (answer_tells questions.Verify bytes others text a b p q) ∙ sym f
  status-told Span old new older newer text s t ok (bytes, a, was, p, e) (others, b, were, q, f) =
      e ∙ ap status_by (answer_tells questions.Span bytes others text a b p q) ∙ sym f
  status-told (Live U n None) old new older newer text s t ok (code, was, (es, js, p, told, e)) (other, were, (fs, ks, q, tells, f)) =
      told ∙ traces-tell U es fs js ks p.run.ends q.run.ends (sym e ∙ f) ∙ sym tells
  status-told (Live U n (Some w)) old new older newer text s t ok (code, was, (es, js, seen, p, told, rows, e)) (other, were, (fs, ks, saw, q, tells, lines, f)) =
      told ∙ texts-tell U es fs js ks (watch_text seen) (watch_text saw) p.run.ends q.run.ends (sym e ∙ f) ∙ sym tells
  status-told (BadWord k) old new older newer text s t ok h i = absurd h

  pub text-tells-status : TextTellsStatus
  text-tells-status words old new older newer text s t h k = status-told (asked_any words) old new older newer text s t (proper words) h k

  module _ (script : OneScript) (single_answer : AnswerIsOne) where
    same-answer : (question : Question) (old new newer : Option (List ℕ)) (bytes text written : List ℕ) (s t : Status) → old ≡ Some bytes → IsAnswered question old new text s → IsAnswered question old newer written t → (text ≡ written) × (s ≡ t)
    same-answer question old new newer bytes text written s t is (mine, a, was, p, e) (theirs, b, were, q, f) =
        let one : mine ≡ theirs = all-read old new mine bytes is was.took was.end ∙ sym (all-read old newer theirs bytes is were.took were.end) in
        let same = single_answer question theirs text written a b (subst (λ (x : List ℕ). IsAnswer question x text a) one p) q in
        (same.0, e ∙ ap status_by same.1 ∙ sym f)

    same-code : (old new newer : Option (List ℕ)) (bytes : List ℕ) (code other : Block) → old ≡ Some bytes → WasScript old new code → WasScript old newer other → code ≡ other
    same-code old new newer bytes code other is w v =
        let a : w.bytes ≡ bytes = all-read old new w.bytes bytes is w.read.took w.read.end in
        let b : v.bytes ≡ bytes = all-read old newer v.bytes bytes is v.read.took v.read.end in
        (script bytes w.script.0 v.script.0 code other (subst (λ x. IsScriptOf w.script.0 x code) a w.script.1) (subst (λ x. IsScriptOf v.script.0 x other) b v.script.1)).1

    outcome-once : (a : Asked) (old new newer : Option (List ℕ)) (text written : List ℕ) (s t : Status) → HasProper a → IsKnown a old → IsOutcome a old new text s → IsOutcome a old newer written t → (text ≡ written) × (s ≡ t)
    outcome-once (Step U src) old new newer text written s t ok (bytes, is) (code, was, trace) (other, were, told) =
        let same : other ≡ code = same-code old newer new bytes other code is were was in
        traces-agree code U src text written s t ok trace (subst (λ c. IsTrace c U src written t) same told)
    outcome-once (Gen size U seed) old new newer text written s t ok known h k = counts-agree size U (source None seed) text written s t ok h.1 k.1
    outcome-once Check old new newer text written s t ok (bytes, is) (code, was, e, done) (other, were, f, over) =
        (e ∙ ap work_line (same-code old new newer bytes code other is was were) ∙ sym f, done ∙ sym over)
    outcome-once Verify old new newer text written s t ok (bytes, is) h k = same-answer questions.Verify old new newer bytes text written s t is h k
    outcome-once Span old new newer text written s t ok (bytes, is) h k = same-answer questions.Span old new newer bytes text written s t is h k
    outcome-once (Live U n watch) old new newer text written s t ok known h i = absurd known
    outcome-once (BadWord k) old new newer text written s t ok known h i = absurd h

    pub one-outcome : OneOutcome
    one-outcome words old new newer text written s t known h k = outcome-once (asked_any words) old new newer text written s t (proper words) known h k
