-- The host's pass of the ledger's book meets notes behind the root's release.
use Rattle.std.proofs.Common.{◌≡◌, List, [], ◌∷◌, ◌++◌, Option, Some, None, All, ap, sym, ◌∙◌, subst, append_assoc}
use Rattle.std.proofs.lemmas.List.{append-nil}
use Rattle.std.proofs.lemmas.List.Elements.{All-nil, All-cons, All-weaker}
use mathlib.Core.List.{IsPrefix}
use Rattle.rx_rules.proofs.Common.{Block}
use Rattle.rx_syntax.specs.Shape.{Stands}
use Rattle.rx_book.specs.declared.passes.Pass.{Pass}
use Rattle.rx_book.specs.declared.passes.Note.{Note}
use Rattle.rx_book.specs.Passes.{view_of, word_of, note_view, note_word, IsAsSeen}
use Rattle.rx_book.specs.Named.{BookName}
use Rattle.rx_book.specs.Calls.{Met}
use Rattle.rx_book.specs.declared.views.Stamped.{Stamped}
use Rattle.rx_parts.specs.declared.items.EntryItem.{EntryItem}
use Rattle.rx_objects.specs.declared.ledger.LedgerFixed.{LedgerFixed}
use Rattle.rx_objects.specs.Ledger.{LedgerIsLegal}
use Rattle.rx_objects.specs.Place.{shown}
use Rattle.rx_objects.specs.Ending.{IsHeard, MeetingHears, SeesEnd}
use Rattle.rx_activities.specs.Knowing.{IsOfRun}
use Rattle.rx_live.specs.Inside.Ending.{StaysAt, HasSeen}
use Rattle.rx_live.proofs.Finishing.{sees_more}

pub record HeardSo (L : BookName LedgerFixed) (old new : Pass EntryItem) (n : Note EntryItem) : Type 0 where
  pub sees : SeesEnd L new
  pub stays : StaysAt old new
  pub heard : IsHeard (view_of old).seen (view_of new).reach (note_view n)

pub heard_so : (law : MeetingHears) (code : Block) (L : BookName LedgerFixed) (old new : Pass EntryItem) (n : Note EntryItem) → Stands L.fixed.program.script code → SeesEnd L old → LedgerIsLegal L.fixed (note_view n).seen
    → word_of new ≡ word_of old → Met shown (view_of old) (note_view n) (view_of new) → HeardSo L old new n
heard_so law code L old new n stands sees lawful word met =
    let one = law code L.fixed (view_of old) (note_view n) (view_of new) stands sees.ends sees.lawful lawful met in
    record { sees = sees_more L old new sees word one.0; stays = record { seen = one.0; reach = one.1 }; heard = one.2 }

-- a pass of the run gives a note of the run
pub note_of_run : (L : BookName LedgerFixed) (p : Pass EntryItem) (n : Note EntryItem) → IsOfRun L p → note_word n ≡ word_of p → IsAsSeen (view_of p) (note_view n)
    → (note_word n ≡ L.word) × LedgerIsLegal L.fixed (note_view n).seen
note_of_run L p n of word seen = (word ∙ of.word, subst (λ (h : List (Stamped EntryItem)). LedgerIsLegal L.fixed h) (sym seen.seen) of.lawful)

-- and it goes on to have seen it
pub seen_still : (old new : Pass EntryItem) (kept : List (Option (Pass EntryItem))) → StaysAt old new → All (HasSeen old) kept → All (HasSeen new) kept
seen_still old new kept stays all = All-weaker (HasSeen old) (HasSeen new) still kept all
  where
    still : (o : Option (Pass EntryItem)) → HasSeen old o → HasSeen new o
    still None h = tt
    still (Some p) h = subst (λ (g : List (Stamped EntryItem)). IsPrefix (view_of p).seen g) (sym stays.seen) h

-- of all that was given back this is left, and the rest is seen
pub record AreSeen (all left : List (Option (Pass EntryItem))) (host : Pass EntryItem) : Type 0 where
  pub done : List (Option (Pass EntryItem))
  pub whole : all ≡ left ++ done
  pub seen : All (HasSeen host) done

pub none_seen : (all : List (Option (Pass EntryItem))) (host : Pass EntryItem) → AreSeen all all host
none_seen all host = record { done = []; whole = sym (append-nil all); seen = All-nil (HasSeen host) }

pub one_more_seen : (all left rest : List (Option (Pass EntryItem))) (old new : Pass EntryItem) (o : Option (Pass EntryItem)) → AreSeen all left old → left ≡ rest ++ o ∷ [] → StaysAt old new → HasSeen new o → AreSeen all rest new
one_more_seen all left rest old new o are is stays seen =
    record {
      done = o ∷ are.done;
      whole = are.whole ∙ (ap (λ (l : List (Option (Pass EntryItem))). l ++ are.done) is ∙ append_assoc rest (o ∷ []) are.done);
      seen = All-cons (HasSeen new) o are.done seen (seen_still old new are.done stays are.seen);
    }

pub all_seen : (all left : List (Option (Pass EntryItem))) (host : Pass EntryItem) → AreSeen all left host → left ≡ [] → All (HasSeen host) all
all_seen all left host are none = subst (λ (l : List (Option (Pass EntryItem))). All (HasSeen host) l) (sym (are.whole ∙ ap (λ (l : List (Option (Pass EntryItem))). l ++ are.done) none)) are.seen
