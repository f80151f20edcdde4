-- Whole lines, and the words of which they are made.
use Rattle.std.proofs.Common.{◌≡◌, ℕ, ◌<◌, ◌≤◌, ◌^◌, Bool, true, false, cond, nat_lt, List, [], ◌∷◌, ◌++◌, refl, ap, sym, ◌∙◌, subst, append-nil, ◌≢◌, Option, Some, None}
use Rattle.std.specs.List.{AllByRecursion}
use Rattle.std.proofs.lemmas.Bool.{eqb-false, ltb-true, lt-ltb}
use Rattle.std.proofs.lemmas.Option.{none-some}
use Rattle.rx_base.proofs.Elements.{rest-is}
use Rattle.rx_rules.specs.declared.entries.Entry.{Entry}
use Rattle.rx_rules.specs.declared.events.PlaceEvent.{PlaceEvent}
use Rattle.rx_text.specs.Numbers.{natural_text}
use Rattle.rx_trace.specs.EntryLines.{entry_text}
use Rattle.rx_trace.specs.EventLines.{event_text}
use Rattle.rx_trace.specs.Limits.{FitsEntry, FitsEvent}
use Rattle.rx_fields.specs.Words.{Lacks, pieces, fields}
use Rattle.rx_fields.specs.Inside.Readers.{Reader, keyed, all_read}
use Rattle.rx_trace.specs.Inside.EntryWords.{entry_at}
use Rattle.rx_trace.specs.Inside.EventWords.{event_at}
use Rattle.rx_trace.specs.Inside.Machine.{entry_of, event_line_of}
use Rattle.rx_text.proofs.Digits.{digits-all}
use Rattle.rx_fields.proofs.Cuts.{IsPlain, Plain, all-append, all-map, marked-together, pieces-marked, pieces-together}
use Rattle.rx_trace.proofs.Entries.{IsEnd, entry-takes, entry-again}
use Rattle.rx_trace.proofs.Events.{event-takes, event-again}
use Rattle.rx_fields.proofs.Figures.{digits-plain, IsFigure}
use Rattle.rx_trace.proofs.Spelt.{Takes, takes-keyed, whole-read, Again, Any, again-keyed}

-- a line is its words, each after a blank, but for the first blank
pub words-of-line : (line : List ℕ) → fields (pieces 32 line) ≡ 32 ∷ line
words-of-line line = sym (marked-together 32 line (pieces 32 line) (pieces-together 32 line))

-- what is read of a line is its text
pub line-takes : {A : Type 0} (r : Reader A) (S : A → List ℕ → Type 0) (line : List ℕ) (a : A) → Takes r S → all_read (r (pieces 32 line)) ≡ Some a → S a (32 ∷ line)
line-takes r S line a h e = subst (λ t. S a t) (words-of-line line) (whole-read r S (pieces 32 line) a h e)

pub fields-lack : (ws : List (List ℕ)) → AllByRecursion Plain ws → Lacks 10 (fields ws)
fields-lack [] all = tt
fields-lack (w ∷ ws) all = (eqb-false 32 10 refl, all-append (λ b. b ≢ 10) w (fields ws) (all-map IsPlain (λ b. b ≢ 10) (λ b p. p.1) w all.0) (fields-lack ws all.1))

words-lack : (ws : List (List ℕ)) → AllByRecursion Plain ws → AllByRecursion (Lacks 32) ws
words-lack [] all = tt
words-lack (w ∷ ws) all = (all-map IsPlain (λ b. b ≢ 32) (λ b p. p.0) w all.0, words-lack ws all.1)

pub cut-line : (front : List (List ℕ)) (line : List ℕ) → fields front ≡ 32 ∷ line → AllByRecursion Plain front → pieces 32 line ≡ front
cut-line [] line e all = cc
cut-line (w ∷ ws) line e all =
    let lacks = words-lack (w ∷ ws) all in
    ap (pieces 32) (sym (rest-is 32 (w ++ fields ws) line e)) ∙ pieces-marked 32 w ws lacks.0 lacks.1

pub record LineAgain {A : Type 0} (o : Option A) (a : A) (line : List ℕ) : Type 0 where
  pub reads : o ≡ Some a
  pub lacks : Lacks 10 line

-- the text of a line is read again
pub line-again : {A : Type 0} (r : Reader A) (a : A) (line : List ℕ) (N : List (List ℕ) → Type 0) → N [] → Again r a (32 ∷ line) N → LineAgain (all_read (r (pieces 32 line))) a line
line-again r a line N end h =
    let cut = cut-line h.front line h.spelled h.plain in
    let all : Lacks 10 (32 ∷ line) = subst (Lacks 10) h.spelled (fields-lack h.front h.plain) in
    record {
      reads = ap (λ ws. all_read (r ws)) (cut ∙ sym (append-nil h.front)) ∙ ap all_read (h.reads [] end);
      lacks = all.1;
    }

-- each number's text has no blank and no newline
pub number-plain-all : (n : ℕ) → Plain (natural_text n)
number-plain-all n = all-map IsFigure IsPlain (λ b f. (f.0, f.1)) (natural_text n) (digits-plain (natural_text n) (digits-all n))

abbrev IsEntryLine : ℕ → ℕ → Entry → List ℕ → Type 0
IsEntryLine places n e t = (t ≡ 32 ∷ (natural_text n ++ entry_text e)) × FitsEntry places e

pub record EntryRead (places n : ℕ) (line : List ℕ) (e : Entry) : Type 0 where
  pub text : line ≡ natural_text n ++ entry_text e
  pub fits : FitsEntry places e
  pub low : n < 2 ^ 32

-- the line of an entry
pub entry-line-takes : (places n : ℕ) (line : List ℕ) (e : Entry) → places ≤ 16 → entry_of places n line ≡ Some e → EntryRead places n line e
entry-line-takes places n line e few is = by (nat_lt n (2 ^ 32)) refl is
  where
    by : (b : Bool) → nat_lt n (2 ^ 32) ≡ b → cond b (all_read (keyed (natural_text n) (entry_at places) (pieces 32 line))) None ≡ Some e → EntryRead places n line e
    by false h f = absurd (none-some e f)
    by true h f =
        let entry = entry-takes places few in
        let shifted : Takes (entry_at places) (λ x t. IsEntryLine places n x ((32 ∷ natural_text n) ++ t)) = record {
          takes = λ ws x rest k. (
              let r = entry.takes ws x rest k in
              record { text = r.text; whole = r.whole; known = (ap (λ t. (32 ∷ natural_text n) ++ t) r.known.0, r.known.1) }
              );
        } in
        let got = line-takes (keyed (natural_text n) (entry_at places)) (IsEntryLine places n) line e (takes-keyed (natural_text n) (entry_at places) (IsEntryLine places n) shifted) f in
        record { text = rest-is 32 line (natural_text n ++ entry_text e) got.0; fits = got.1; low = ltb-true n (2 ^ 32) h }

pub entry-line-again : (places n : ℕ) (e : Entry) → places ≤ 16 → n < 2 ^ 32 → FitsEntry places e → LineAgain (entry_of places n (natural_text n ++ entry_text e)) e (natural_text n ++ entry_text e)
entry-line-again places n e few low fits =
    let h = line-again (keyed (natural_text n) (entry_at places)) e (natural_text n ++ entry_text e) IsEnd refl
    (again-keyed (natural_text n) (entry_at places) e (entry_text e) IsEnd (number-plain-all n) (entry-again places e few fits)) in
    record { reads = ap (λ b. cond b (all_read (keyed (natural_text n) (entry_at places) (pieces 32 (natural_text n ++ entry_text e)))) None) (lt-ltb n (2 ^ 32) low) ∙ h.reads; lacks = h.lacks }

abbrev IsEventLine : ℕ → ℕ → PlaceEvent → List ℕ → Type 0
IsEventLine home n e t = (t ≡ 32 ∷ (natural_text n ++ event_text e)) × FitsEvent home e

pub record EventRead (home n : ℕ) (line : List ℕ) (e : PlaceEvent) : Type 0 where
  pub text : line ≡ natural_text n ++ event_text e
  pub fits : FitsEvent home e

-- the line of an event
pub event-line-takes : (home n : ℕ) (line : List ℕ) (e : PlaceEvent) → event_line_of home n line ≡ Some e → EventRead home n line e
event-line-takes home n line e f =
    let event = event-takes home in
    let shifted : Takes (event_at home) (λ x t. IsEventLine home n x ((32 ∷ natural_text n) ++ t)) = record {
      takes = λ ws x rest k. (
          let r = event.takes ws x rest k in
          record { text = r.text; whole = r.whole; known = (ap (λ t. (32 ∷ natural_text n) ++ t) r.known.0, r.known.1) }
          );
    } in
    let got = line-takes (keyed (natural_text n) (event_at home)) (IsEventLine home n) line e (takes-keyed (natural_text n) (event_at home) (IsEventLine home n) shifted) f in
    record { text = rest-is 32 line (natural_text n ++ event_text e) got.0; fits = got.1 }

pub event-line-again : (home n : ℕ) (e : PlaceEvent) → FitsEvent home e → LineAgain (event_line_of home n (natural_text n ++ event_text e)) e (natural_text n ++ event_text e)
event-line-again home n e fits =
    line-again (keyed (natural_text n) (event_at home)) e (natural_text n ++ event_text e) Any tt
    (again-keyed (natural_text n) (event_at home) e (event_text e) Any (number-plain-all n) (event-again home e fits))
