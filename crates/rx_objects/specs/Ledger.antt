-- The ledger's object: which of its histories are legal, which operations fit one, and what a call does.
use Rattle.std.specs.Prelude.{◌≡◌, ℕ, ◌+◌, ◌<◌, ◌^◌, Bool, true, false, ◌&&◌, List, [], ◌∷◌, ◌++◌, map, length, Option}
use Rattle.rx_rules.specs.declared.entries.Entry.{Entry}
use Rattle.rx_rules.specs.declared.entries.Entry.TheVariants.{Root}
use Rattle.rx_rules.specs.Code.{Block}
use Rattle.rx_rules.specs.Fold.{tree_of}
use Rattle.rx_rules.specs.Run.{Folds, NoRoot}
use Rattle.rx_syntax.specs.Shape.{Stands}
use Rattle.rx_check.specs.Checked.{Checked}
use Rattle.rx_history.specs.declared.setup.Setup.{Setup}
use Rattle.rx_history.specs.Setups.{given}
use Rattle.atomic_table.specs.Seated.{TableId}
use Rattle.rx_book.specs.declared.views.Stamped.{Stamped}
use Rattle.rx_book.specs.History.{items_of}
use Rattle.rx_ledger.specs.declared.asks.Request.{Request}
use Rattle.rx_ledger.specs.declared.asks.Reply.{Reply}
use Rattle.rx_ledger.specs.declared.asks.Reply.TheVariants.{RootDone}
use Rattle.rx_ledger.specs.Asking.{MayApply}
use Rattle.rx_ledger.specs.Kept.{is_refusal, Applied}
use Rattle.rx_parts.specs.Ledger.{RootIsLast, LegalLedger}
use Rattle.rx_parts.specs.declared.items.EntryItem.{EntryItem}
use Rattle.rx_parts.specs.Histories.{event_named, ledger_items}
use Rattle.rx_objects.specs.declared.ledger.LedgerOp.{LedgerOp}
use Rattle.rx_objects.specs.declared.ledger.LedgerReply.{LedgerReply}
use Rattle.rx_objects.specs.declared.ledger.LedgerFixed.{LedgerFixed}
use Rattle.rx_objects.specs.Mentioned.{events_new, item_for, entries_in}
use Rattle.rx_objects.specs.Asking.{RequestIsMade, host_number, HostAsks}
use Rattle.rx_objects.specs.Noted.{Notes, AllNoted, AreOfPlaces, NoteSuits}

-- what contracts see of the ledger's object
pub record LedgerView : Type 0 where
  pub entries : List EntryItem
  pub setup : Setup
  pub program : Checked
  pub places : List TableId
  pub board : Option TableId

-- the entry is by the host, if it is the root's release
abbrev pub IsHosts : List ℕ → Entry → Type 0
IsHosts by (Root lost masked thrown) = by ≡ host_number
IsHosts by e = Unit {0}

-- the root's release is by the host
abbrev pub HostReleases : List (Stamped EntryItem) → Type 0
HostReleases [] = Unit {0}
HostReleases (x ∷ log) = IsHosts x.by x.item.entry × HostReleases log

-- a history is legal, whatever statements the script stands for, and the root's release is by the host
pub record LedgerIsLegal (f : LedgerFixed) (log : List (Stamped EntryItem)) : Type 0 where
  pub made : (code : Block) → Stands f.program.script code → LegalLedger code (given f.setup) (ledger_items log)
  pub host : HostReleases log

-- the keeper may be asked so after these entries, as long as they leave numbers for more tasks and scopes; else there is no memory
abbrev pub MayBeAsked : ℕ → List Entry → Request → Type 0
MayBeAsked places es q = length es + 1 < 2 ^ 31 → MayApply (tree_of places es) q

-- The keeper may be asked so after the history; the caller's task asks for what its term does, by the events that the operation
-- mentions; the note has seen these; and the host alone asks for the root's release.
pub record LedgerFits (f : LedgerFixed) (log : List (Stamped EntryItem)) (caller : List ℕ) (op : LedgerOp) : Type 0 where
  pub may : MayBeAsked f.setup.places (entries_in (items_of log)) op.request
  pub asks : (code : Block) → Stands f.program.script code → (legal : LegalLedger code (given f.setup) (ledger_items log))
      → RequestIsMade legal.actors (length log) caller (map event_named (events_new op.mentions)) op.request
  pub note : NoteSuits f.places (items_of log) op.request.ticket (map event_named (events_new op.mentions)) op.note
  pub host : HostAsks caller op.request.ask

-- the root's release is answered
abbrev pub is_root_done : Reply → Bool
is_root_done RootDone = true
is_root_done _ = false

-- there is something
abbrev pub has_some : {X : Type 0} → List X → Bool
has_some [] = false
has_some (x ∷ xs) = true

-- the call with this answer appended the root's release
abbrev pub frees : {X : Type 0} → Reply → List X → Bool
frees r added = is_root_done r && has_some added

-- the notes that a reply hands out: they have all events that entries name
abbrev pub HandsOut : Bool → List TableId → List EntryItem → Notes → Type 0
HandsOut true places items notes = AllNoted notes items × AreOfPlaces places notes
HandsOut false places items notes = notes ≡ []

-- the keeper answers, whatever it has made and not shown; each entry that it appends is an item of the operation
pub record LedgerDoes (f : LedgerFixed) (before : List EntryItem) (op : LedgerOp) (r : LedgerReply) (added : List EntryItem)
    : Type 0 where
  pub behind : List Entry
  pub behind' : List Entry
  pub new : List Entry
  pub items : added ≡ map (item_for op.mentions) new
  pub applied : Applied (record { setup = f.setup; entries = entries_in before; behind = behind }) op.request r.reply
      (record { setup = f.setup; entries = entries_in before ++ new; behind = behind' })
  pub folds : is_refusal r.reply ≡ false → Folds (given f.setup) (entries_in before ++ new)
  pub last : is_refusal r.reply ≡ false → RootIsLast (entries_in before ++ new)
  -- all notes, where the root's release was appended, and else none
  pub notes : HandsOut (frees r.reply added) f.places (before ++ added) r.notes.items

-- what the ledger's object keeps: its items are the keeper's entries, and until the root's release its notes have all events that
-- entries name
pub record LedgerKeeps (places : List TableId) (entries : List Entry) (notes : Notes) (items : List EntryItem) : Type 0 where
  pub same : entries_in items ≡ entries
  pub places_are : AreOfPlaces places notes
  pub noted : NoRoot entries → AllNoted notes items
