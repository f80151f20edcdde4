-- The text of what is left of a list, one item on.
use Rattle.std.proofs.Common.{◌≡◌, ℕ, ◌+◌, List, [], ◌∷◌, ◌++◌, drop, Some, refl, ap, sym, ◌∙◌, append_assoc, slice_get, map}
use Rattle.std.specs.List.{flat_map}
use Rattle.rx_rules.specs.declared.entries.Entry.{Entry}
use Rattle.rx_rules.specs.declared.events.PlaceEvent.{PlaceEvent}
use Rattle.rx_text.proofs.Lists.{left-more}
use Rattle.rx_history.specs.Events.{Events}
use Rattle.rx_trace.specs.EntryLines.{entry_line, entry_lines}
use Rattle.rx_trace.specs.EventLines.{event_line, event_lines, journal_lines, journals_lines}
use Rattle.rx_trace.specs.Parts.{part_text}

-- what is written and what is left are one text, where one item has been written more
step : {A : Type 0} (before after : List A → List ℕ) (item : A → List ℕ) → ((x : A) (xs : List A) → before (x ∷ xs) ≡ item x ++ after xs)
    → (old out next : List ℕ) (xs : List A) (i : ℕ) (x : A) → slice_get xs i ≡ Some x → out ++ before (drop i xs) ≡ old → next ≡ out ++ item x → next ++ after (drop (i + 1) xs) ≡ old
step before after item splits old out next xs i x here whole is =
    ap (λ o. o ++ after (drop (i + 1) xs)) is
    ∙ append_assoc out (item x) (after (drop (i + 1) xs))
    ∙ ap (λ r. out ++ r) (sym (left-more before xs i x here ∙ splits x (drop (i + 1) xs))) ∙ whole

-- fields of a list
pub fields-more : {A : Type 0} (field : A → List ℕ) (old out next : List ℕ) (xs : List A) (i : ℕ) (x : A) → slice_get xs i ≡ Some x → out ++ flat_map field (drop i xs) ≡ old → next ≡ out ++ field x → next ++ flat_map field (drop (i + 1) xs) ≡ old
fields-more field = step (flat_map field) (flat_map field) field (λ x xs. refl)

-- lines of entries
pub entries-more : (old out next : List ℕ) (es : List Entry) (i : ℕ) (e : Entry) → slice_get es i ≡ Some e → out ++ entry_lines i (drop i es) ≡ old → next ≡ out ++ entry_line i e → next ++ entry_lines (i + 1) (drop (i + 1) es) ≡ old
entries-more old out next es i e = step (entry_lines i) (entry_lines (i + 1)) (entry_line i) (λ x xs. refl) old out next es i e

-- lines of events
pub events-more : (old out next : List ℕ) (es : List PlaceEvent) (i : ℕ) (e : PlaceEvent) → slice_get es i ≡ Some e → out ++ event_lines i (drop i es) ≡ old → next ≡ out ++ event_line i e → next ++ event_lines (i + 1) (drop (i + 1) es) ≡ old
events-more old out next es i e = step (event_lines i) (event_lines (i + 1)) (event_line i) (λ x xs. refl) old out next es i e

-- lines of journals
pub journals-more : (old out next : List ℕ) (js : List Events) (p : ℕ) (j : Events) → slice_get js p ≡ Some j → out ++ journals_lines p (map (λ k. k.events) (drop p js)) ≡ old → next ≡ out ++ journal_lines p j.events → next ++ journals_lines (p + 1) (map (λ k. k.events) (drop (p + 1) js)) ≡ old
journals-more old out next js p j =
    step (λ (ks : List Events). journals_lines p (map (λ k. k.events) ks)) (λ (ks : List Events). journals_lines (p + 1) (map (λ k. k.events) ks)) (λ k. journal_lines p k.events) (λ k ks. refl) old out next js p j

-- a part of a list that is not empty
pub part-some : {A : Type 0} (word : List ℕ) (field : A → List ℕ) (xs : List A) → (xs ≡ [] → ⊥) → part_text word field xs ≡ word ++ flat_map field xs
part-some word field [] some = absurd (some refl)
part-some word field (x ∷ xs) some = refl

-- six texts that were appended one after the other
pub six-texts : (old a b c d e f o1 o2 o3 o4 o5 o6 : List ℕ) → o1 ≡ old ++ a → o2 ≡ o1 ++ b → o3 ≡ o2 ++ c → o4 ≡ o3 ++ d → o5 ≡ o4 ++ e → o6 ≡ o5 ++ f → o6 ≡ old ++ (a ++ b ++ c ++ d ++ e ++ f)
six-texts old a b c d e f o1 o2 o3 o4 o5 o6 is1 is2 is3 is4 is5 is6 =
    is6 ∙ ap (λ o. o ++ f) (is5 ∙ ap (λ o. o ++ e) (is4 ∙ ap (λ o. o ++ d) (is3 ∙ ap (λ o. o ++ c) (is2 ∙ ap (λ o. o ++ b) is1))))
    ∙ simp append_assoc
