-- What an activity's request made of the ledger's history, whatever was answered.
use Rattle.std.proofs.Common.{◌≡◌, ◌≤◌, ℕ, suc, List, [], ◌∷◌, ◌++◌, length, map, drop, Option, refl, ap, sym, ◌∙◌, subst, arith, append_assoc, length-append}
use Rattle.std.proofs.lemmas.List.{map-append}
use Rattle.rx_rules.specs.declared.entries.Act.{Act}
use Rattle.rx_rules.specs.declared.entries.Entry.{Entry}
use Rattle.rx_rules.specs.declared.entries.Entry.TheVariants.{Step}
use Rattle.rx_rules.proofs.Common.{Block, Folds}
use Rattle.rx_syntax.specs.Shape.{Shape, Stands}
use Rattle.rx_history.specs.Setups.{given}
use Rattle.rx_finish.specs.declared.ledger.Caller.{Caller}
use Rattle.rx_kills.specs.declared.schedule.Due.{Due}
use Rattle.rx_book.specs.declared.views.Stamped.{Stamped}
use Rattle.rx_book.specs.declared.views.View.{View}
use Rattle.rx_book.specs.declared.passes.Pass.{Pass}
use Rattle.rx_book.specs.History.{items_of, stamp_all, entries_by}
use Rattle.rx_book.specs.Passes.{view_of}
use Rattle.rx_book.specs.Named.{BookName}
use Rattle.rx_book.specs.Calls.{Called}
use Rattle.rx_ledger.specs.declared.asks.Reply.{Reply}
use Rattle.rx_ledger.specs.Told.{due_entries}
use Rattle.rx_ledger.specs.Kept.{KeeperView, Applied}
use Rattle.rx_parts.specs.Ledger.{LedgerItem}
use Rattle.rx_parts.specs.Growing.{NoneBy}
use Rattle.rx_parts.specs.Calling.{AllHostItems}
use Rattle.rx_parts.specs.Telling.{number_of}
use Rattle.rx_parts.specs.declared.items.EntryItem.{EntryItem}
use Rattle.rx_parts.specs.declared.items.EventItem.{EventItem}
use Rattle.rx_parts.specs.Histories.{event_named, ledger_item, ledger_items}
use Rattle.rx_parts.proofs.Called.{others-between}
use Rattle.rx_parts.proofs.Fitting.{none_by}
use Rattle.rx_objects.specs.declared.ledger.LedgerFixed.{LedgerFixed}
use Rattle.rx_objects.specs.Ledger.{LedgerDoes, LedgerIsLegal}
use Rattle.rx_objects.specs.Mentioned.{as_named, events_new, entries_in}
use Rattle.rx_objects.specs.Place.{shown}
use Rattle.rx_objects.specs.Ending.{entries_at}
use Rattle.rx_objects.proofs.Leaving.{entries_mapped}
use Rattle.rx_objects.proofs.Staying.{item_by, items_stamped, all_hosts, items_length, entries_same, cancel}
use Rattle.rx_activities.specs.declared.replies.Child.{Child}
use Rattle.rx_activities.specs.declared.hand.Hand.{Hand}
use Rattle.rx_activities.specs.Knowing.{IsOfRun, since, entries_seen}
use Rattle.rx_activities.specs.Inside.Sending.{WasSent}
use Rattle.rx_activities.proofs.Later.{entries_more}

entries_stamped : (c : List ℕ) (items : List EntryItem) → entries_at (stamp_all c items) ≡ entries_in items
entries_stamped c [] = refl
entries_stamped c (x ∷ items) = ap (λ (l : List Entry). x.entry ∷ l) (entries_stamped c items)

module _ (shape : Shape) (L : BookName LedgerFixed) (rest : Hand) (reply : Reply) (child : Option Child) (w : WasSent shape L rest reply child) where
  abbrev c : List ℕ
  c = (view_of w.hand.pass).number

  abbrev g : List (Stamped EntryItem)
  g = (view_of w.hand.pass).seen

  -- the call, by a pass that has seen what the activity's has
  pub called : Called shown (LedgerDoes L.fixed) (LedgerIsLegal L.fixed) (record (view_of w.hand.pass) { splits = w.pass.splits }) w.op w.replied.answer (view_of rest.pass)
  called = subst (λ (x : View EntryItem). Called shown (LedgerDoes L.fixed) (LedgerIsLegal L.fixed) x w.op w.replied.answer (view_of rest.pass)) w.pass.view w.replied.called

  abbrev pub between : List (Stamped EntryItem)
  between = called.between

  abbrev pub lines : List Entry
  lines = entries_in (items_of (g ++ called.between))

  abbrev pub before : KeeperView
  before = record { setup = L.fixed.setup; entries = entries_in (items_of (g ++ called.between)); behind = called.replied.behind }

  abbrev pub behind : KeeperView
  behind = record { setup = L.fixed.setup; entries = entries_in (items_of (g ++ called.between)) ++ called.replied.new; behind = called.replied.behind' }

  pub applied : Applied before w.op.request reply behind
  applied = subst (λ (r : Reply). Applied before w.op.request r behind) w.replied.is called.replied.applied

  pub of_run : IsOfRun L rest.pass
  of_run = record { word = w.word ∙ (w.pass.word ∙ w.knows.pass.word); lawful = called.lawful }

  own_between : entries_by c called.between ≡ []
  own_between =
      others-between c g called.between called.added
      (ap (λ (l : List (Stamped EntryItem)). l ++ stamp_all c called.added) (sym w.hand.pass.own) ∙ (sym called.more ∙ (called.own ∙ ap (entries_by c) called.whole)))

  pub alone : NoneBy c (ledger_items called.between)
  alone = none_by c called.between own_between

  -- what was seen before begins what is seen now
  abbrev pub more : List (Stamped EntryItem)
  more = called.between ++ stamp_all c called.added

  pub longer : g ++ more ≡ (view_of rest.pass).seen
  longer = sym (append_assoc g called.between (stamp_all c called.added)) ∙ sym called.whole

  pub entries_now : entries_at (view_of rest.pass).seen ≡ lines ++ called.replied.new
  entries_now =
      ap entries_at called.whole
      ∙ (entries_more (g ++ called.between) (stamp_all c called.added)
      ∙ ap (λ (l : List Entry). lines ++ l) (entries_stamped c called.added ∙ (ap entries_in called.replied.items ∙ entries_mapped w.op.mentions called.replied.new)))

  pub lines_are : lines ≡ entries_seen w.hand.pass ++ entries_at called.between
  lines_are = entries_more g called.between

  pub items_now : ledger_items (view_of rest.pass).seen ≡ ledger_items g ++ (ledger_items called.between ++ map (item_by c w.op.mentions) called.replied.new)
  items_now =
      ap ledger_items called.whole
      ∙ (map-append ledger_item (g ++ called.between) (stamp_all c called.added)
      ∙ (ap (λ (l : List LedgerItem). l ++ ledger_items (stamp_all c called.added)) (map-append ledger_item g called.between)
      ∙ (append_assoc (ledger_items g) (ledger_items called.between) (ledger_items (stamp_all c called.added))
      ∙ ap (λ (l : List LedgerItem). ledger_items g ++ (ledger_items called.between ++ l)) (ap (λ (l : List EntryItem). ledger_items (stamp_all c l)) called.replied.items ∙ items_stamped c w.op.mentions called.replied.new))))

  pub late : (view_of w.hand.pass).reach ≤ length (ledger_items g ++ ledger_items called.between)
  late =
      let l = called.long in
      let e = items_length (g ++ called.between) in
      let f = ap length (map-append ledger_item g called.between) in
      omega (arith, l, e, f)

  pub reach_up : (view_of w.hand.pass).reach ≤ (view_of rest.pass).reach
  reach_up =
      let l = called.long in
      let e = called.reached in
      let f = ap length called.whole in
      let n = length-append (g ++ called.between) (stamp_all c called.added) in
      omega (arith, l, e, f, n)

  pub folds_so : (code : Block) → Stands L.fixed.program.script code → Folds (given L.fixed.setup) (lines ++ called.replied.new)
  folds_so code stands = subst (Folds (given L.fixed.setup)) (entries_same (view_of rest.pass).seen ∙ entries_now) (called.lawful.made code stands).folds

  -- the events that the operation mentions
  pub events_are : map event_named (events_new w.op.mentions) ≡ since w.hand
  events_are =
      ap (λ (p : Pass EventItem). map event_named (map as_named (drop (length (view_of p).mine) (view_of w.op.mentions.now.value).mine))) w.mentions.before
      ∙ ap (λ (l : List (Stamped EventItem)). map event_named (map as_named (drop (length (view_of w.hand.told.value).mine) l)))
      (ap (λ (p : Pass EventItem). (view_of p).mine) w.mentions.now ∙ ap (λ (x : View EventItem). x.mine) w.seat.view)

  -- what was due, and then the entry of an act
  module _ (due : List Due) (who : Caller) (act : Act) (added : lines ++ called.replied.new ≡ (lines ++ due_entries due) ++ Step who.task act w.op.request.batch ∷ []) where
    abbrev pub due_items : List LedgerItem
    due_items = map (item_by c w.op.mentions) (due_entries due)

    abbrev pub item : LedgerItem
    item = item_by c w.op.mentions (Step who.task act w.op.request.batch)

    pub hosts : AllHostItems due_items
    hosts = all_hosts c w.op.mentions due

    new_is : called.replied.new ≡ due_entries due ++ Step who.task act w.op.request.batch ∷ []
    new_is = cancel lines called.replied.new (due_entries due ++ Step who.task act w.op.request.batch ∷ []) (added ∙ append_assoc lines (due_entries due) (Step who.task act w.op.request.batch ∷ []))

    pub whole : ledger_items (view_of rest.pass).seen ≡ ledger_items g ++ (ledger_items called.between ++ (due_items ++ item ∷ []))
    whole =
        items_now
        ∙ ap (λ (l : List LedgerItem). ledger_items g ++ (ledger_items called.between ++ l)) (ap (map (item_by c w.op.mentions)) new_is ∙ map-append (item_by c w.op.mentions) (due_entries due) (Step who.task act w.op.request.batch ∷ []))

    pub reach_now : suc (number_of (ledger_items g) (ledger_items called.between) due_items) ≤ (view_of rest.pass).reach
    reach_now =
        let r = called.reached in
        let e = items_length (view_of rest.pass).seen in
        let f = ap length whole in
        let one = length-append (ledger_items g) (ledger_items called.between ++ (due_items ++ item ∷ [])) in
        let two = length-append (ledger_items called.between) (due_items ++ item ∷ []) in
        let three = length-append due_items (item ∷ []) in
        let four = length-append (ledger_items g) (ledger_items called.between ++ due_items) in
        let five = length-append (ledger_items called.between) due_items in
        omega (arith, r, e, f, one, two, three, four, five)
