-- What is added where no word is left.
use Rattle.std.proofs.Common.{◌≡◌, ℕ, ◌<◌, ◌^◌, ◌==◌, Bool, true, false, cond, List, [], ◌∷◌, ◌++◌, length, refl, ap, sym, ◌∙◌, arith, Option, Some, None, option_map, codes}
use Rattle.std.specs.Str.{bytes_eq}
use Rattle.std.proofs.lemmas.Bool.{eqb-true, lt-ltb}
use Rattle.rx_rules.proofs.Common.{PlaceSet, Fault, Given, in_all}
use Rattle.rx_rules.specs.declared.entries.Entry.{Entry}
use Rattle.rx_rules.specs.declared.entries.Entry.TheVariants.{Root}
use Rattle.rx_text.specs.Numbers.{natural_text}
use Rattle.rx_fields.specs.Words.{pieces}
use Rattle.rx_fields.specs.Inside.FieldWords.{next}
use Rattle.rx_fields.specs.Inside.PartWords.{key_of, outcome_at}
use Rattle.rx_fields.specs.Inside.Readers.{Reader, after, all_read, behind, done, followed, keyed}
use Rattle.rx_trace.specs.Inside.EntryWords.{entry_at, root_at, entered, if_good}
use Rattle.rx_trace.specs.Inside.Machine.{ReadingState, Entering, Logging, begins_journal, entry_of, read_line}
use Rattle.rx_trace.proofs.Numbered.{keyed_behind}

-- what was read is all where no word is left
pub whole_read : {A : Type 0} (a : A) (ws : List (List ℕ)) → (length ws == 0) ≡ true → all_read (Some (a, ws)) ≡ Some a
whole_read a [] e = refl
whole_read a (w ∷ ws) e = absurd (let none : length (w ∷ ws) ≡ 0 = eqb-true (length (w ∷ ws)) 0 e in omega arith)

-- and else not
pub part_read : {A : Type 0} (a : A) (ws : List (List ℕ)) → (length ws == 0) ≡ false → all_read (Some (a, ws)) ≡ None
part_read a [] e = absurd (cc e)
part_read a (w ∷ ws) e = refl

-- words of which some are left are no entry
pub not_entered : (entries : List Entry) (read : Option (Entry × List (List ℕ))) (a : Entry) (left : List (List ℕ)) (end : Bool) → read ≡ Some (a, left) → end ≡ (length left == 0) → end ≡ false → None ≡ entered entries read
not_entered entries read a left end is all other = sym (ap (entered entries) is ∙ ap (option_map (λ e. entries ++ e ∷ [])) (part_read a left (sym all ∙ other)))

-- words of which none is left are one
pub one_entered : (entries mid new : List Entry) (read : Option (Entry × List (List ℕ))) (a : Entry) (left : List (List ℕ)) (end : Bool) → read ≡ Some (a, left) → end ≡ (length left == 0) → end ≡ true
    → mid ≡ entries → new ≡ mid ++ a ∷ [] → Some new ≡ entered entries read
one_entered entries mid new read a left end is all same was more =
    ap Some (more ∙ ap (λ es. es ++ a ∷ []) was) ∙ sym (ap (entered entries) is ∙ ap (option_map (λ e. entries ++ e ∷ [])) (whole_read a left (sym all ∙ same)))

-- a reader behind a word that was taken
keyed_taken : {A : Type 0} (key : List ℕ) (r : Reader A) (ws new : List (List ℕ)) (b : Bool) → (b, new) ≡ key_of key ws → b ≡ true → keyed key r ws ≡ r new
keyed_taken key r [] new b is good = absurd (cc (sym good ∙ ap (λ x. x.0) is))
keyed_taken {A} key r (w ∷ ws) new b is good = by (bytes_eq w key) is
  where
    by : (h : Bool) → ◌≡◌ {A = Bool × List (List ℕ)} (b, new) (cond h (true, ws) (false, w ∷ ws)) → cond h (r ws) None ≡ r new
    by true e = ap r (sym (ap (λ x. x.1) e))
    by false e = absurd (cc (sym good ∙ ap (λ x. x.0) e))

-- a release of the root is read
pub root_read : (places : ℕ) (ws mid left : List (List ℕ)) (b : Bool) (lost : PlaceSet) (masked : ℕ) (thrown : List Fault) → (b, mid) ≡ key_of (codes "s0") ws → b ≡ true
    → Some ((lost, masked, thrown), left) ≡ outcome_at places mid → root_at places ws ≡ Some (Root lost masked thrown, left)
root_read places ws mid left b lost masked thrown is good outcome =
    keyed_taken (codes "s0") (followed (outcome_at places) told) ws mid b is good ∙ ap (λ o. after o told) (sym outcome)
  where
    told : PlaceSet × ℕ × List Fault → Reader Entry
    told o = done (Root o.0 o.1 o.2)

-- a line that has to be an entry adds what the words behind its number are
line_entered : (setup : Given) (entries new : List Entry) (line : List ℕ) (left : List (List ℕ)) (places n : ℕ) (good : Bool) → begins_journal 0 line ≡ false → places ≡ in_all setup → n ≡ length entries → n < 2 ^ 32
    → Some left ≡ behind (natural_text n) (pieces 32 line) → if_good good new ≡ entered entries (entry_at places left)
    → read_line (Entering setup entries) line ≡ option_map (λ es. Entering setup es) (if_good good new)
line_entered setup entries new line left places n good other all count low first read =
    ap (λ b. cond b (Some (Logging setup entries [] [])) (option_map with_entry (entry_of (in_all setup) (length entries) line))) other
    ∙ ap (option_map with_entry) (ap (λ p. entry_of p (length entries) line) (sym all) ∙ ap (λ m. entry_of places m line) (sym count) ∙ is)
    ∙ mapped (all_read (entry_at places left))
    ∙ ap (option_map (λ es. Entering setup es)) (sym read)
  where
    with_entry : Entry → ReadingState
    with_entry e = Entering setup (entries ++ e ∷ [])

    is : entry_of places n line ≡ all_read (entry_at places left)
    is =
        ap (λ b. cond b (all_read (keyed (natural_text n) (entry_at places) (pieces 32 line))) None) (lt-ltb n (2 ^ 32) low)
        ∙ ap all_read (keyed_behind (natural_text n) (entry_at places) (pieces 32 line) ∙ ap (λ o. next o (entry_at places)) (sym first))

    mapped : (o : Option Entry) → option_map with_entry o ≡ option_map (λ es. Entering setup es) (option_map (λ e. entries ++ e ∷ []) o)
    mapped None = refl
    mapped (Some e) = refl

-- where the answer is yes, the entry has been added
pub good_line : (setup now : Given) (entries new : List Entry) (line : List ℕ) (left : List (List ℕ)) (places n : ℕ) (good : Bool) → begins_journal 0 line ≡ false → places ≡ in_all setup → n ≡ length entries → n < 2 ^ 32
    → Some left ≡ behind (natural_text n) (pieces 32 line) → now ≡ setup → if_good good new ≡ entered entries (entry_at places left)
    → good ≡ true → read_line (Entering setup entries) line ≡ Some (Entering now new)
good_line setup now entries new line left places n good other all count low first same read is =
    line_entered setup entries new line left places n good other all count low first read ∙ ap (λ b. option_map (λ es. Entering setup es) (if_good b new)) is ∙ ap (λ s. Some (Entering s new)) (sym same)

-- where it is no, the line may not come next
pub bad_line : (setup : Given) (entries new : List Entry) (line : List ℕ) (left : List (List ℕ)) (places n : ℕ) (good : Bool) → begins_journal 0 line ≡ false → places ≡ in_all setup → n ≡ length entries → n < 2 ^ 32
    → Some left ≡ behind (natural_text n) (pieces 32 line) → if_good good new ≡ entered entries (entry_at places left)
    → good ≡ false → read_line (Entering setup entries) line ≡ None
bad_line setup entries new line left places n good other all count low first read is =
    line_entered setup entries new line left places n good other all count low first read ∙ ap (λ b. option_map (λ es. Entering setup es) (if_good b new)) is
