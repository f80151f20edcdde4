-- A call of the ledger's book that appended what was due and then one entry.
use Rattle.std.proofs.Common.{◌≡◌, ℕ, suc, ◌+◌, ◌<◌, ◌≤◌, ◌^◌, List, [], ◌∷◌, ◌++◌, map, length, Some, slice_get, ap, sym, ◌∙◌, subst, append_assoc, arith, length-append}
use Rattle.std.proofs.lemmas.List.{map-append}
use Rattle.rx_rules.proofs.Common.{Block, tree_of, Folds}
use Rattle.rx_rules.specs.declared.entries.Entry.{Entry}
use Rattle.rx_tree_laws.specs.Sound.{Each}
use Rattle.rx_ticket.specs.declared.tickets.AnyTicket.{AnyTicket}
use Rattle.rx_history.specs.Setups.{given}
use Rattle.rx_kills.specs.declared.schedule.Due.{Due}
use Rattle.rx_kills.specs.declared.schedule.Due.TheVariants.{Join as Joins, Death as Dies}
use Rattle.rx_book.specs.declared.views.Stamped.{Stamped}
use Rattle.rx_book.specs.declared.views.View.{View}
use Rattle.rx_book.specs.History.{stamped, stamp_all, entries_by}
use Rattle.rx_book.specs.Calls.{Called}
use Rattle.rx_ledger.specs.Told.{due_entries}
use Rattle.rx_ledger.specs.Asking.{MayApply}
use Rattle.rx_ledger.specs.Kept.{KeeperView, Answered}
use Rattle.rx_ledger.specs.Staying.{NotOf}
use Rattle.rx_ledger.proofs.Called.{front_folds}
use Rattle.rx_ledger.proofs.Keepers.{asks_after}
use Rattle.rx_ledger.proofs.OwnTold.{numbers_are_left}
use Rattle.rx_ledger.proofs.StaysGood.{places_more, tickets_stay_good}
use Rattle.rx_parts.specs.Ledger.{LedgerItem, Actor, LegalLedger}
use Rattle.rx_parts.specs.Calling.{AllHostItems}
use Rattle.rx_parts.specs.Telling.{IsCall, number_of}
use Rattle.rx_parts.proofs.Growing.{one-account}
use Rattle.rx_parts.proofs.Prefixes.{prefix-legal}
use Rattle.rx_parts.specs.declared.items.EntryItem.{EntryItem}
use Rattle.rx_parts.specs.Histories.{ledger_item, ledger_items}
use Rattle.rx_parts.proofs.Called.{others-between, call-is-one}
use Rattle.rx_objects.specs.declared.ledger.LedgerOp.{LedgerOp}
use Rattle.rx_objects.specs.declared.ledger.LedgerReply.{LedgerReply}
use Rattle.rx_objects.specs.declared.ledger.LedgerFixed.{LedgerFixed}
use Rattle.rx_objects.specs.declared.mentions.Mentions.{Mentions}
use Rattle.rx_objects.specs.Mentioned.{item_for, entries_in}
use Rattle.rx_objects.specs.Ending.{entries_at}
use Rattle.rx_objects.specs.Laws.{HoldsTicket}
use Rattle.rx_objects.specs.Ledger.{LedgerDoes, LedgerIsLegal}
use Rattle.rx_objects.specs.Place.{shown}
use Rattle.rx_objects.proofs.Fitting.{others_spare}
use Rattle.rx_objects.proofs.Host.{items_stamped}
use Rattle.rx_objects.proofs.Staying.{cancel, entries_same, items_length}
use Rattle.rx_objects.proofs.Leaving.{entries_mapped}
use Rattle.rx_activities.proofs.Later.{entries_more}

hosts_due : (c : List ℕ) (m : Mentions) (ds : List Due) → AllHostItems (ledger_items (stamp_all c (map (item_for m) (due_entries ds))))
hosts_due c m [] = tt
hosts_due c m (Joins p ∷ ds) = (tt, hosts_due c m ds)
hosts_due c m (Dies p ∷ ds) = (tt, hosts_due c m ds)

module _ (f : LedgerFixed) (v z : View EntryItem) (op : LedgerOp) (r : LedgerReply) (c : Called shown (LedgerDoes f) (LedgerIsLegal f) v op r z) (own : v.mine ≡ entries_by v.number v.seen) where
  abbrev pub before : List (Stamped EntryItem)
  before = v.seen ++ c.between

  -- the entries before the call
  abbrev pub lines : List Entry
  lines = entries_at before

  -- the keeper before the call, and after it
  abbrev pub was : KeeperView
  was = record { setup = f.setup; entries = lines; behind = c.replied.behind }

  abbrev pub now : KeeperView
  now = record { setup = f.setup; entries = lines ++ c.replied.new; behind = c.replied.behind' }

  pub alone : entries_by v.number c.between ≡ []
  alone =
      others-between v.number v.seen c.between c.added
      (ap (λ (l : List (Stamped EntryItem)). l ++ stamp_all v.number c.added) (sym own) ∙ (sym c.more ∙ (c.own ∙ ap (entries_by v.number) c.whole)))

  new_lines : entries_at (stamp_all v.number c.added) ≡ c.replied.new
  new_lines = ap entries_in (items_stamped v.number c.added ∙ c.replied.items) ∙ entries_mapped op.mentions c.replied.new

  pub seen_lines : entries_at z.seen ≡ lines ++ c.replied.new
  seen_lines = ap entries_at c.whole ∙ (entries_more before (stamp_all v.number c.added) ∙ ap (λ (l : List Entry). lines ++ l) new_lines)

  -- what the pass had seen begins what it has seen
  abbrev pub more : List (Stamped EntryItem)
  more = c.between ++ stamp_all v.number c.added

  pub grew : v.seen ++ more ≡ z.seen
  grew = sym (append_assoc v.seen c.between (stamp_all v.number c.added)) ∙ sym c.whole

  pub longer : length v.seen ≤ length z.seen
  longer = (let e = ap length grew in let n = length-append v.seen more in omega (arith, e, n))

  pub fewer : length (entries_at v.seen) ≤ length (entries_at z.seen)
  fewer =
      (let e = ap length (sym (entries_more v.seen more) ∙ ap entries_at grew) in
      let n = length-append (entries_at v.seen) (entries_at more) in
      omega (arith, e, n))

  pub more_places : (tree_of f.setup.places (entries_at v.seen)).places ≤ (tree_of f.setup.places (entries_at z.seen)).places
  more_places =
      subst (λ (es : List Entry). (tree_of f.setup.places (entries_at v.seen)).places ≤ (tree_of f.setup.places es).places)
      (sym (entries_more v.seen more) ∙ ap entries_at grew) (places_more f.setup.places (entries_at v.seen) (entries_at more))

  module _ (a : Answered was op.request r.reply now) (e : Entry) (added : lines ++ c.replied.new ≡ (lines ++ due_entries a.due) ++ e ∷ []) where
    -- the history with what was due
    abbrev pub there : List Entry
    there = lines ++ due_entries a.due

    abbrev pub due : List EntryItem
    due = map (item_for op.mentions) (due_entries a.due)

    abbrev pub last : EntryItem
    last = item_for op.mentions e

    new_is : c.replied.new ≡ due_entries a.due ++ e ∷ []
    new_is =
        cancel lines c.replied.new (due_entries a.due ++ e ∷ []) (added ∙ append_assoc lines (due_entries a.due) (e ∷ []))

    added_is : c.added ≡ due ++ last ∷ []
    added_is = c.replied.items ∙ (ap (map (item_for op.mentions)) new_is ∙ map-append (item_for op.mentions) (due_entries a.due) (e ∷ []))

    whole : z.seen ≡ before ++ stamp_all v.number (due ++ last ∷ [])
    whole = c.whole ∙ ap (λ (l : List EntryItem). before ++ stamp_all v.number l) added_is

    abbrev pub g : List LedgerItem
    g = ledger_items v.seen

    abbrev pub between : List LedgerItem
    between = ledger_items c.between

    abbrev pub hosts : List LedgerItem
    hosts = ledger_items (stamp_all v.number due)

    abbrev pub item : LedgerItem
    item = ledger_item (stamped v.number last)

    -- the entries after it
    pub ends : entries_at z.seen ≡ there ++ e ∷ []
    ends = seen_lines ∙ added

    parts : ledger_items z.seen ≡ g ++ (between ++ (hosts ++ item ∷ []))
    parts =
        ap ledger_items whole
        ∙ (map-append ledger_item before (stamp_all v.number (due ++ last ∷ []))
        ∙ ((λ i. map-append ledger_item v.seen c.between i ++ (ap ledger_items (map-append (stamped v.number) due (last ∷ [])) ∙ map-append ledger_item (stamp_all v.number due) (stamp_all v.number (last ∷ []))) i)
        ∙ append_assoc g between (hosts ++ item ∷ [])))

    module _ (code : Block) (short : LegalLedger code (given f.setup) (ledger_items v.seen)) (long : LegalLedger code (given f.setup) (ledger_items z.seen)) where
      pub call : IsCall code (given f.setup) g between hosts item
      call =
          call-is-one code (given f.setup) v.number v.seen c.between due last alone short
          (subst (λ (l : List (Stamped EntryItem)). LegalLedger code (given f.setup) (ledger_items l)) whole long) (hosts_due v.number op.mentions a.due)

      -- it says the same before, and after
      pub asked : call.short.actors ≡ short.actors
      asked = one-account code (given f.setup) g call.short short

      pub told : (t : ℕ) (b : Actor) → slice_get call.long.actors t ≡ Some b → slice_get long.actors t ≡ Some b
      told t b got =
          subst (λ (h : List LedgerItem). (l : LegalLedger code (given f.setup) h) → slice_get l.actors t ≡ Some b) (sym parts)
          (λ l. ap (λ (all : List Actor). slice_get all t) (one-account code (given f.setup) (g ++ (between ++ (hosts ++ item ∷ []))) l call.long) ∙ got) long

      -- the number of the entry
      pub number : suc (number_of g between hosts) ≡ length z.seen
      number =
          (let n = ap length parts in
          let m = items_length z.seen in
          let x = length-append g (between ++ (hosts ++ item ∷ [])) in
          let y = length-append between (hosts ++ item ∷ []) in
          let w = length-append hosts (item ∷ []) in
          let p = length-append g (between ++ hosts) in
          let q = length-append between hosts in
          omega (arith, n, m, x, y, w, p, q))

      -- no fewer entries than the pass knew of came before
      pub low : v.reach ≤ length (g ++ between)
      low =
          (let n = c.long in
          let x = length-append v.seen c.between in
          let y = length-append g between in
          let p = items_length v.seen in
          let q = items_length c.between in
          omega (arith, n, x, y, p, q))

      pub folds : Folds (given f.setup) (entries_at z.seen)
      folds = subst (Folds (given f.setup)) (entries_same z.seen) long.folds

      pub folds_there : Folds (given f.setup) there
      folds_there = front_folds (given f.setup) there (e ∷ []) (subst (Folds (given f.setup)) ends folds)

      -- what others appended is of other tasks than the caller's
      pub front : LegalLedger code (given f.setup) (g ++ between)
      front =
          prefix-legal code (given f.setup) (g ++ between) (hosts ++ item ∷ [])
          (subst (LegalLedger code (given f.setup)) (sym (append_assoc g between (hosts ++ item ∷ []))) call.long)

      pub spared : (ticket : AnyTicket) → HoldsTicket short.actors v.number ticket → Each (NotOf ticket) (entries_at c.between)
      spared ticket holds =
          subst (Each (NotOf ticket)) (entries_same c.between) (others_spare code (given f.setup) g between v.number ticket short front holds call.alone)

      -- so what may be asked by what was seen may be asked where the call is made
      pub may_there : HoldsTicket short.actors v.number op.request.ticket → length (entries_at z.seen) + 1 < 2 ^ 31 → MayApply (tree_of f.setup.places (entries_at v.seen)) op.request → MayApply (tree_of f.setup.places there) op.request
      may_there holds few may =
          let parts_of : lines ≡ entries_at v.seen ++ entries_at c.between = entries_more v.seen c.between in
          let n = ap length ends in
          let x = length-append there (e ∷ []) in
          let y = length-append lines (due_entries a.due) in
          let low : length lines + 1 < 2 ^ 31 = omega (arith, few, n, x, y) in
          let folds_lines : Folds (given f.setup) lines = front_folds (given f.setup) lines (due_entries a.due) folds_there in
          let there_before = tickets_stay_good (given f.setup) (entries_at v.seen) (entries_at c.between) op.request (subst (Folds (given f.setup)) parts_of folds_lines) (spared op.request.ticket holds)
          (numbers_are_left f.setup.places (entries_at v.seen ++ entries_at c.between) (let m = ap length parts_of in omega (arith, low, m))) may in
          asks_after f.setup.places lines a.due op.request (subst (λ (es : List Entry). MayApply (tree_of f.setup.places es) op.request) (sym parts_of) there_before)
