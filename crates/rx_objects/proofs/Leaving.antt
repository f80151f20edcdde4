-- What a call of the ledger's object leaves.
use Rattle.std.proofs.Common.{◌≡◌, ℕ, suc, ◌&&◌, Bool, true, false, MatchBool, List, [], ◌∷◌, ◌++◌, map, drop, length, Option, refl, ap, sym, ◌∙◌, subst}
use Rattle.std.proofs.lemmas.List.{append-nil, map-append}
use Rattle.std.proofs.lemmas.List.Elements.{All-nil}
use Rattle.std.proofs.Math.Seq.{drop-append_seam}
use Rattle.rx_rules.specs.declared.entries.Entry.{Entry}
use Rattle.rx_rules.proofs.Common.{Folds, NoRoot}
use Rattle.rx_history.specs.declared.setup.Setup.{Setup}
use Rattle.rx_history.specs.Setups.{given}
use Rattle.rx_check.specs.Checked.{Checked}
use Rattle.atomic_table.specs.Seated.{TableId}
use Rattle.rx_ledger.specs.declared.asks.Reply.{Reply}
use Rattle.rx_ledger.specs.declared.asks.Reply.TheVariants.{NoMemory}
use Rattle.rx_ledger.specs.Kept.{KeeperView, is_refusal, Applied}
use Rattle.rx_parts.specs.Ledger.{RootIsLast}
use Rattle.rx_parts.specs.declared.items.EntryItem.{EntryItem}
use Rattle.rx_parts.specs.Histories.{event_named}
use Rattle.rx_objects.specs.declared.mentions.Mentions.{Mentions}
use Rattle.rx_objects.specs.declared.ledger.LedgerOp.{LedgerOp}
use Rattle.rx_objects.specs.declared.ledger.LedgerReply.{LedgerReply}
use Rattle.rx_objects.specs.Mentioned.{events_new, item_for, entries_in}
use Rattle.rx_objects.specs.Noted.{Notes, AllNoted, IsOfPlace, AreOfPlaces, asked_place, with_note, NoteSuits}
use Rattle.rx_objects.specs.Ledger.{LedgerKeeps, LedgerDoes, is_root_done, has_some, frees, HandsOut}
use Rattle.rx_objects.specs.Inside.Stepping.{Stepped}
use Rattle.rx_objects.proofs.Stepping.{freed, no_root_front}
use Rattle.rx_objects.proofs.Noting.{noted_after, places_after}

some_mapped : {X Y : Type 0} (f : X → Y) (xs : List X) → has_some (map f xs) ≡ has_some xs
some_mapped f [] = refl
some_mapped f (x ∷ xs) = refl

pub entries_mapped : (m : Mentions) (es : List Entry) → entries_in (map (item_for m) es) ≡ es
entries_mapped m [] = refl
entries_mapped m (e ∷ es) = ap (λ (l : List Entry). e ∷ l) (entries_mapped m es)

entries_length : (xs : List EntryItem) → length (entries_in xs) ≡ length xs
entries_length [] = refl
entries_length (x ∷ xs) = ap suc (entries_length xs)

module _ (program : Checked) (places : List TableId) (board : Option TableId) (k : KeeperView) (notes : Notes) (items : List EntryItem) (op : LedgerOp) (r : Reply) (b : Bool) (k' : KeeperView)
    (s : Stepped k op.request r b k') (kept : LedgerKeeps places k.entries notes items) (suits : NoteSuits places items op.request.ticket (map event_named (events_new op.mentions)) op.note) where
  abbrev noted : Notes
  noted = with_note notes (asked_place op.request.ticket) op.note

  abbrev added : List EntryItem
  added = map (item_for op.mentions) s.new

  -- what the trail tells is what is new
  pub new_is : drop (length items) k'.entries ≡ s.new
  new_is =
      ap (drop (length items)) s.entries
      ∙ (ap (λ (n : ℕ). drop n (k.entries ++ s.new)) (sym (entries_length items) ∙ ap length kept.same) ∙ drop-append_seam k.entries s.new)

  lines : entries_in (items ++ added) ≡ k'.entries
  lines = map-append (λ (x : EntryItem). x.entry) items added ∙ ((λ i. kept.same i ++ entries_mapped op.mentions s.new i) ∙ sym s.entries)

  all : NoRoot k.entries → AllNoted noted (items ++ added)
  all none = noted_after places notes items op.mentions op.note k op.request r k' s.new s.applied s.entries suits (kept.noted none)

  are : AreOfPlaces places noted
  are = places_after places notes items op.request.ticket (map event_named (events_new op.mentions)) op.note suits kept.places_are

  pub keeps : (c : Bool) → b ≡ c → (out left : Notes) → MatchBool c ((out ≡ noted) × (left ≡ [])) ((out ≡ []) × (left ≡ noted)) → LedgerKeeps places k'.entries left (items ++ added)
  keeps true e out left h =
      record {
        same = lines;
        places_are = subst (AreOfPlaces places) (sym h.1) (All-nil (IsOfPlace places));
        noted = λ none. absurd ((freed k op.request r b k' s e).after none);
      }
  keeps false e out left h =
      record {
        same = lines;
        places_are = subst (AreOfPlaces places) (sym h.1) are;
        noted = λ none. subst (λ (l : Notes). AllNoted l (items ++ added)) (sym h.1) (all (no_root_front k.entries s.new (subst NoRoot s.entries none)));
      }

  hands : (c : Bool) → b ≡ c → (out left : Notes) → MatchBool c ((out ≡ noted) × (left ≡ [])) ((out ≡ []) × (left ≡ noted)) → HandsOut c places (items ++ added) out
  hands true e out left h = (
    subst (λ (l : Notes). AllNoted l (items ++ added)) (sym h.0) (all (freed k op.request r b k' s e).before),
    subst (AreOfPlaces places) (sym h.0) are,
  )
  hands false e out left h = h.0

  frees_is : b ≡ frees r added
  frees_is = s.freed_is ∙ ap (λ (c : Bool). is_root_done r && c) (sym (some_mapped (item_for op.mentions) s.new))

  pub does : (reply : LedgerReply) → reply.reply ≡ r → (left : Notes) → MatchBool b ((reply.notes.items ≡ noted) × (left ≡ [])) ((reply.notes.items ≡ []) × (left ≡ noted))
      → LedgerDoes (record { program = program; setup = k.setup; places = places; board = board }) items op reply added
  does reply is left h =
      record {
        behind = k.behind;
        behind' = k'.behind;
        new = s.new;
        items = refl;
        applied = subst (λ (z : Reply). Applied (record { setup = k.setup; entries = entries_in items; behind = k.behind }) op.request z (record { setup = k.setup; entries = entries_in items ++ s.new; behind = k'.behind })) (sym is)
            (subst (λ (es : List Entry). Applied (record { setup = k.setup; entries = es; behind = k.behind }) op.request r (record { setup = k.setup; entries = es ++ s.new; behind = k'.behind })) (sym kept.same)
            (subst (λ (es : List Entry). Applied k op.request r (record { setup = k.setup; entries = es; behind = k'.behind })) s.entries
            (subst (λ (U : Setup). Applied k op.request r (record { setup = U; entries = k'.entries; behind = k'.behind })) s.setup s.applied)));
        folds = λ w. subst (Folds (given k.setup)) whole (s.folds (sym (ap is_refusal is) ∙ w));
        last = λ w. subst RootIsLast whole (s.last (sym (ap is_refusal is) ∙ w));
        notes = subst (λ (c : Bool). HandsOut c places (items ++ added) reply.notes.items) (frees_is ∙ ap (λ (z : Reply). frees z added) (sym is)) (hands b refl reply.notes.items left h);
      }
    where
      whole : k'.entries ≡ entries_in items ++ s.new
      whole = s.entries ∙ ap (λ (es : List Entry). es ++ s.new) (sym kept.same)

-- where there is no room for the note
pub refused : (program : Checked) (places : List TableId) (board : Option TableId) (k : KeeperView) (notes : Notes) (items : List EntryItem) (op : LedgerOp) (reply : LedgerReply) → LedgerKeeps places k.entries notes items
    → reply.reply ≡ NoMemory op.request → reply.notes.items ≡ [] → LedgerDoes (record { program = program; setup = k.setup; places = places; board = board }) items op reply []
refused program places board k notes items op reply kept is none =
    record {
      behind = k.behind;
      behind' = k.behind;
      new = [];
      items = refl;
      applied = subst (λ (z : Reply). Applied (record { setup = k.setup; entries = entries_in items; behind = k.behind }) op.request z (record { setup = k.setup; entries = entries_in items ++ []; behind = k.behind })) (sym is)
          (record { back = refl; entries = append-nil (entries_in items); setup = refl });
      folds = λ w. absurd (let e : true ≡ false = sym (ap is_refusal is) ∙ w in let f : ⊥ = cc e in f);
      last = λ w. absurd (let e : true ≡ false = sym (ap is_refusal is) ∙ w in let f : ⊥ = cc e in f);
      notes = subst (λ (z : Reply). HandsOut (frees {X = EntryItem} z []) places (items ++ []) reply.notes.items) (sym is) none;
    }
