-- What is known of a pair is known of it alone.
use Rattle.std.proofs.Common.{◌≡◌, ℕ, Bool, true, false, List, refl, ap, sym, ◌∙◌, subst, slice_index, ◌==◌, ◌||◌}
use Rattle.rx_rules.proofs.Common.{Block, told, Given}
use Rattle.rx_rules.specs.declared.entries.Entry.{Entry}
use Rattle.rx_rules.specs.declared.events.PlaceEvent.{PlaceEvent}
use Rattle.rx_syntax.specs.Grammar.{IsScript}
use Rattle.rx_script.specs.Faults.{OneScript}
use Rattle.rx_trace.specs.Reading.{IsText, TextsTellThePair, TextsHaveNoBadLine}
use Rattle.rx_answers.specs.Pair.{PartsAreOne}
use Rattle.rx_verdict.specs.declared.verdict.Verdict.{Verdict}
use Rattle.rx_verdict.specs.declared.verdict.Verdict.TheVariants.{Run, Entry as AtEntry, End, Event, Open}
use Rattle.rx_verdict.specs.Verdicts.{IsVerdict, OneVerdict}
use Rattle.rx_span.specs.Chains.{OneSpan}
use Rattle.rx_answers.specs.declared.answers.Question.{Question}
use Rattle.rx_answers.specs.declared.answers.Question.TheVariants.{Verify, Span}
use Rattle.rx_script.specs.declared.program.ProgramFault.TheVariants as programs
use Rattle.rx_answers.specs.declared.case.CaseFault.TheVariants as cases
use Rattle.rx_answers.specs.Cases.{IsCase}
use Rattle.rx_script.specs.Programs.{ProgramsHaveNoFault}
use Rattle.rx_script.proofs.Programs.{one-code}
use Rattle.rx_answers.specs.Faults.{CasesHaveNoFault}
use Rattle.rx_answers.specs.Lines.{span_text}
use Rattle.rx_answers.specs.Answers.{is_run, IsTextOf}
use Rattle.rx_answers.specs.Laws.{AnswerIsOne, TextTellsAnswer}

-- the text of some entries and journals
is-text : (bytes : List ℕ) (code : Block) (U : Given) (es : List Entry) (js : List (List PlaceEvent)) → (c : IsCase bytes code U es js) → IsText c.trace
is-text bytes code U es js c = (U, es, js, c.within, c.tells)

-- what gives something to judge has no fault
pub no-case-fault : PartsAreOne → ProgramsHaveNoFault → TextsHaveNoBadLine → CasesHaveNoFault
no-case-fault parts none lines bytes code U es js cases.Pair c f = f c.script c.trace c.pair
no-case-fault parts none lines bytes code U es js (cases.Syntax at) c (script, trace, pair, f) =
    let same = (parts bytes c.script c.trace script trace c.pair pair).0 in
    none script code (programs.Syntax at) (subst (λ s. IsScript s code) same c.reads) c.meets f
no-case-fault parts none lines bytes code U es js (cases.Bad rule node) c (script, trace, pair, f) =
    let same = (parts bytes c.script c.trace script trace c.pair pair).0 in
    none script code (programs.Bad rule node) (subst (λ s. IsScript s code) same c.reads) c.meets f
no-case-fault parts none lines bytes code U es js (cases.BadTrace number) c (script, trace, pair, met, bad) =
    let same = (parts bytes c.script c.trace script trace c.pair pair).1 in
    lines trace number (subst IsText same (is-text bytes code U es js c)) bad
no-case-fault parts none lines bytes code U es js cases.NoMemory c f = tt

-- the script, the setup, the entries and the journals that bytes give
record Same (code other : Block) (U V : Given) (es fs : List Entry) (js ks : List (List PlaceEvent)) : Type 0 where
  codes_are : code ≡ other
  setups : U ≡ V
  entries : es ≡ fs
  journals : js ≡ ks

one-case : PartsAreOne → OneScript → TextsTellThePair → (bytes : List ℕ) (code other : Block) (U V : Given) (es fs : List Entry) (js ks : List (List PlaceEvent)) → IsCase bytes code U es js → IsCase bytes other V fs ks → Same code other U V es fs js ks
one-case parts script texts bytes code other U V es fs js ks c d =
    let p = parts bytes c.script c.trace d.script d.trace c.pair d.pair in
    let t = texts U V es fs js ks c.within d.within (sym c.tells ∙ p.1 ∙ d.tells) in
    record {
      codes_are = one-code script d.script code other (subst (λ s. IsScript s code) p.0 c.reads) d.reads;
      setups = t.0;
      entries = t.1;
      journals = t.2;
    }

-- no other verdict than `run` tells of none
pub run-alone : (v : Verdict) → is_run v ≡ true → v ≡ Run
run-alone Run e = refl
run-alone _ e = let bad : false ≡ true = e in cc

-- one verdict has one text
one-text : OneSpan → (question : Question) (v : Verdict) (code : Block) (paths : List (List ℕ)) (text other : List ℕ) → IsTextOf question v code paths text → IsTextOf question v code paths other → text ≡ other
one-text span Verify v code paths text other a b = a ∙ sym b
one-text span Span Run code paths text other (m, c, is, a) (n, d, js, b) =
    let same = span code paths m n c d is js in
    a ∙ ap (λ k. span_text k c) same.0 ∙ ap (span_text n) same.1 ∙ sym b
one-text span Span (AtEntry number) code paths text other a b = a ∙ sym b
one-text span Span End code paths text other a b = a ∙ sym b
one-text span Span (Event place number) code paths text other a b = a ∙ sym b
one-text span Span (Open place) code paths text other a b = a ∙ sym b

pub one-answer : PartsAreOne → OneScript → TextsTellThePair → OneVerdict → OneSpan → AnswerIsOne
one-answer parts script texts verdicts span question bytes text other a b p q =
    let same = one-case parts script texts bytes p.code q.code p.setup q.setup p.entries q.entries p.journals q.journals p.given q.given in
    let moved : IsVerdict q.code q.setup q.entries q.journals p.verdict =
    subst (λ (js : List (List PlaceEvent)). IsVerdict q.code q.setup q.entries js p.verdict) same.journals
    (subst (λ (es : List Entry). IsVerdict q.code q.setup es p.journals p.verdict) same.entries
    (subst (λ (U : Given). IsVerdict q.code U p.entries p.journals p.verdict) same.setups
    (subst (λ (code : Block). IsVerdict code p.setup p.entries p.journals p.verdict) same.codes_are p.judged))) in
    let one : p.verdict ≡ q.verdict = verdicts q.code q.setup q.entries q.journals p.verdict q.verdict moved q.judged in
    let here : IsTextOf question q.verdict q.code (told q.entries) text =
    subst (λ (es : List Entry). IsTextOf question q.verdict q.code (told es) text) same.entries
    (subst (λ (v : Verdict). IsTextOf question v q.code (told p.entries) text) one
    (subst (λ (code : Block). IsTextOf question p.verdict code (told p.entries) text) same.codes_are p.tells)) in
    (one-text span question q.verdict q.code (told q.entries) text other here q.tells, p.comes_out ∙ ap is_run one ∙ sym q.comes_out)

-- whether a text that begins with this byte is a yes
abbrev yes_byte : ℕ → Bool
yes_byte b = (b == 114) || (b == 115)

begins : (question : Question) (v : Verdict) (code : Block) (paths : List (List ℕ)) (text : List ℕ) → IsTextOf question v code paths text → yes_byte (slice_index text 0) ≡ is_run v
begins Verify Run code paths text e = ap (λ t. yes_byte (slice_index t 0)) e
begins Verify (AtEntry number) code paths text e = ap (λ t. yes_byte (slice_index t 0)) e
begins Verify End code paths text e = ap (λ t. yes_byte (slice_index t 0)) e
begins Verify (Event place number) code paths text e = ap (λ t. yes_byte (slice_index t 0)) e
begins Verify (Open place) code paths text e = ap (λ t. yes_byte (slice_index t 0)) e
begins Span Run code paths text (count, chain, is, e) = ap (λ t. yes_byte (slice_index t 0)) e
begins Span (AtEntry number) code paths text e = ap (λ t. yes_byte (slice_index t 0)) e
begins Span End code paths text e = ap (λ t. yes_byte (slice_index t 0)) e
begins Span (Event place number) code paths text e = ap (λ t. yes_byte (slice_index t 0)) e
begins Span (Open place) code paths text e = ap (λ t. yes_byte (slice_index t 0)) e

pub text-tells : TextTellsAnswer
text-tells question bytes others text a b p q =
    p.comes_out ∙ sym (begins question p.verdict p.code (told p.entries) text p.tells)
    ∙ begins question q.verdict q.code (told q.entries) text q.tells ∙ sym q.comes_out
