-- From the books of a run that has begun to the whole run.
use Rattle.std.proofs.Common.{◌≡◌, ℕ, ◌+◌, ◌≤◌, false, List, [], ◌∷◌, ◌++◌, length, Option, All, ap, sym, ◌∙◌, subst, arith}
use Rattle.std.proofs.lemmas.List.{length-map}
use Rattle.rx_rules.specs.declared.entries.Entry.{Entry}
use Rattle.rx_rules.specs.declared.events.PlaceEvent.{PlaceEvent}
use Rattle.rx_rules.proofs.Common.{Block, tree_of, Tree, Proper, NoRoot, IsRun, in_all, Empty, items, no_vars}
use Rattle.rx_syntax.specs.Shape.{Stands}
use Rattle.rx_control.specs.declared.control.Control.{Control}
use Rattle.rx_control.specs.Stands.{StandsFor}
use Rattle.rx_check.specs.Checked.{Checked}
use Rattle.rx_finish.specs.declared.ledger.Caller.{Caller}
use Rattle.rx_ledger.specs.Answering.{main_caller}
use Rattle.atomic_table.specs.Seated.{TableId}
use Rattle.rx_monitor.specs.Boards.{Listing}
use Rattle.rx_objects.specs.Shown.{board_of, BoardShows}
use Rattle.rx_history.specs.declared.setup.Setup.{Setup}
use Rattle.rx_history.specs.Setups.{given, to_join}
use Rattle.rx_store.specs.Kept.{StoreView}
use Rattle.rx_book.specs.declared.views.View.{View}
use Rattle.rx_book.specs.declared.passes.Pass.{Pass}
use Rattle.rx_book.specs.Calls.{IsFresh}
use Rattle.rx_book.specs.History.{items_of, entries_by}
use Rattle.rx_book.specs.Kept.{born, parent_left}
use Rattle.rx_book.specs.Named.{BookName}
use Rattle.rx_book.specs.Passes.{view_of, word_of}
use Rattle.rx_parts.specs.declared.items.EntryItem.{EntryItem}
use Rattle.rx_parts.specs.declared.items.EventItem.{EventItem}
use Rattle.rx_objects.specs.declared.ledger.LedgerFixed.{LedgerFixed}
use Rattle.rx_objects.specs.Noted.{Notes, AllNoted}
use Rattle.rx_objects.specs.Ending.{entries_at, IsMet, EachEnds, EachShut, RootIsTold, StampsBeforeDeath, BooksMakeRun, SeesEnd}
use Rattle.rx_objects.proofs.Ending.{all_later, unseen_legal}
use Rattle.rx_live.specs.Inside.Ending.{IsMain, MayRelease, MayBeShut, HaveWords, PlacesEnded, RunEnds, StaysAt, views_of}
use Rattle.rx_live.proofs.Finishing.{as_many, may_shut}

-- The beginning.

-- the host that is split from the first pass may ask for the root's release
pub host_born : (L : BookName LedgerFixed) (first host : Pass EntryItem) → Proper (given L.fixed.setup) → word_of first ≡ L.word → IsFresh (view_of first) → word_of host ≡ word_of first → view_of host ≡ born (view_of first)
    → MayRelease L host × ((view_of host).seen ≡ []) × ((view_of host).dead ≡ 0)
host_born L first host proper own fresh word is = (
  record {
    word = word ∙ own;
    lawful = unseen_legal L.fixed (view_of host).seen proper unseen;
    host = record {
      number = number;
      own = mine ∙ sym (ap (λ (h : List _). entries_by (view_of host).number h) unseen);
      unreleased = subst (λ (h : List _). NoRoot (entries_at h)) (sym mine) tt;
    };
  },
  unseen,
  ap (λ (v : View EntryItem). v.dead) is ∙ fresh.dead,
)
  where
    unseen : (view_of host).seen ≡ []
    unseen = ap (λ (v : View EntryItem). v.seen) is ∙ fresh.seen

    mine : (view_of host).mine ≡ []
    mine = ap (λ (v : View EntryItem). v.mine) is

    number : (view_of host).number ≡ 0 ∷ []
    number =
        ap (λ (v : View EntryItem). v.number) is
        ∙ (ap (λ (c : List ℕ). c ++ (view_of first).splits ∷ []) fresh.number ∙ ap (λ (k : ℕ). k ∷ []) fresh.splits)

-- the book's setup is that of the run, so it is proper
pub proper_so : (L : BookName LedgerFixed) (S : Setup) → L.fixed.setup ≡ S → Proper (given S) → Proper (given L.fixed.setup)
proper_so L S setup proper = subst (λ (s : Setup). Proper (given s)) (sym setup) proper

-- the main activity begins over what was prepared
pub is_main : (L : BookName LedgerFixed) (S : Setup) (P : Checked) (control : Control) (ticket : Caller) (first pass : Pass EntryItem) (words : List TableId) → L.fixed.setup ≡ S → L.fixed.program ≡ P → L.fixed.places ≡ words
    → ticket ≡ main_caller → word_of first ≡ L.word → IsFresh (view_of first) → (word_of pass ≡ word_of first) × (view_of pass ≡ parent_left (view_of first)) → length words ≡ S.places + length S.joins
    → ((code : Block) → Stands P.script code → StandsFor P.script control (items code [] Empty) × (control.vars ≡ no_vars S.places)) → IsMain L control ticket pass words
is_main L S P control ticket first pass words setup program places main own fresh same many stands =
    record {
      main = main;
      word = same.0 ∙ own;
      number = ap (λ (v : View EntryItem). v.number) same.1 ∙ fresh.number;
      unseen = ap (λ (v : View EntryItem). v.seen) same.1 ∙ fresh.seen;
      words_are = sym places;
      all = many ∙ sym (ap (λ (s : Setup). in_all (given s)) setup);
      stands = subst (λ (s : Setup). (code : Block) → Stands L.fixed.program.script code → StandsFor L.fixed.program.script control (items code [] Empty) × (control.vars ≡ no_vars s.places)) (sym setup)
          (subst (λ (q : Checked). (code : Block) → Stands q.script code → StandsFor q.script control (items code [] Empty) × (control.vars ≡ no_vars S.places)) (sym program) stands);
    }

-- The end.

-- places that have ended stay so where the host's pass knows of more entries
pub ended_later : (L : BookName LedgerFixed) (v w : View EntryItem) (views : List (View EventItem)) (stores : List StoreView) → w.seen ≡ v.seen → v.reach ≤ w.reach → PlacesEnded L v views stores → PlacesEnded L w views stores
ended_later L v w views stores same le ended =
    record {
      histories = ended.histories;
      each = subst (λ (h : List _). EachEnds L h w.reach views 0 stores ended.histories) (sym same)
          (all_later L v.seen v.reach w.reach views le 0 stores ended.histories ended.each);
      one_each = ended.one_each;
      words = ended.words;
    }

-- what is left of a run: the root's release was told to the pass `told`, the places ended with the pass `closed`, and `final` has met all
pub run_ends : (L : BookName LedgerFixed) (told closed final : Pass EntryItem) (notes : Notes) (seats : List (Pass EventItem)) (stores : List StoreView) → RootIsTold L.fixed notes (view_of told).seen → All (IsMet (views_of seats)) notes
    → PlacesEnded L (view_of closed) (views_of seats) stores → SeesEnd L final → StaysAt told final → StaysAt closed final → length seats ≡ in_all (given L.fixed.setup) → RunEnds L final stores
run_ends L told closed final notes seats stores root met ended sees since later many =
    record {
      sees = sees;
      notes = notes;
      noted = subst (λ (h : List _). AllNoted notes (items_of h)) (sym since.seen) root.noted;
      views = views_of seats;
      met = met;
      ended = ended_later L (view_of closed) (view_of final) (views_of seats) stores later.seen later.reach ended;
      all = length-map seats view_of ∙ many;
    }

-- there are as many stores as places
pub stores_are : (L : BookName LedgerFixed) (final : Pass EntryItem) (stores : List StoreView) → RunEnds L final stores → length stores ≡ in_all (given L.fixed.setup)
stores_are L final stores ends =
    as_many L (view_of final).seen (view_of final).reach ends.views 0 stores ends.ended.histories ends.ended.each ∙ (ends.ended.one_each ∙ ends.all)

pub few_stores : (L : BookName LedgerFixed) (final : Pass EntryItem) (stores : List StoreView) → Proper (given L.fixed.setup) → RunEnds L final stores → length stores ≤ 16
few_stores L final stores proper ends =
    let a = stores_are L final stores ends in
    let b = proper.few in omega (arith, a, b)

-- they may be shut
pub run_may_shut : (law : StampsBeforeDeath) (code : Block) (L : BookName LedgerFixed) (final : Pass EntryItem) (stores : List StoreView) → Stands L.fixed.program.script code → Proper (given L.fixed.setup)
    → (view_of final).reach ≤ length (view_of final).seen → RunEnds L final stores → MayBeShut (entries_at (view_of final).seen) 0 stores
run_may_shut law code L final stores stands proper long ends =
    may_shut law code L (view_of final).seen (view_of final).reach ends.views stands long 0 stores ends.ended.histories few ends.ended.each
  where
    few : 0 + length ends.ended.histories ≤ 16
    few =
        let a = ends.ended.one_each ∙ ends.all in
        let b = proper.few in omega (arith, a, b)

-- and the whole is a run
pub run_whole : (law : BooksMakeRun) (code : Block) (L : BookName LedgerFixed) (final : Pass EntryItem) (stores : List StoreView) (js : List (List PlaceEvent)) → Stands L.fixed.program.script code → Proper (given L.fixed.setup)
    → (view_of final).reach ≤ length (view_of final).seen → RunEnds L final stores → EachShut (entries_at (view_of final).seen) L.fixed.setup.heap 0 stores js
    → IsRun code (given L.fixed.setup) (entries_at (view_of final).seen) js
run_whole law code L final stores js stands proper long ends shut =
    law code L (view_of final).seen js stands
    (record {
      proper = proper;
      lawful = ends.sees.lawful;
      ends = ends.sees.ends;
      notes = ends.notes;
      noted = ends.noted;
      views = ends.views;
      met = ends.met;
      reach = (view_of final).reach;
      long = long;
      stores = stores;
      histories = ends.ended.histories;
      places_end = ends.ended.each;
      one_each = ends.ended.one_each ∙ ends.all;
      passes = sym ends.ended.one_each;
      shut = shut;
    })

-- The same with the setup, the program and the entries as they are handed in and out.

pub run_so : (law : BooksMakeRun) (code : Block) (L : BookName LedgerFixed) (S : Setup) (P : Checked) (final : Pass EntryItem) (stores : List StoreView) (es : List Entry) (js : List (List PlaceEvent)) → L.fixed.setup ≡ S
    → L.fixed.program ≡ P → Proper (given S) → (view_of final).reach ≤ length (view_of final).seen → RunEnds L final stores → es ≡ entries_at (view_of final).seen
    → ((heap : ℕ) → HaveWords heap stores → EachShut es heap 0 stores js) → Stands P.script code → IsRun code (given S) es js
run_so law code L S P final stores es js setup program proper long ends entries shut script =
    subst (λ (s : Setup). IsRun code (given s) es js) setup
    (subst (λ (l : List Entry). IsRun code (given L.fixed.setup) l js) (sym entries)
    (run_whole law code L final stores js (subst (λ (q : Checked). Stands q.script code) (sym program) script) (proper_so L S setup proper) long ends
    (subst (λ (l : List Entry). EachShut l L.fixed.setup.heap 0 stores js) entries (shut L.fixed.setup.heap ends.ended.words))))

pub shut_so : (law : StampsBeforeDeath) (code : Block) (L : BookName LedgerFixed) (S : Setup) (P : Checked) (final : Pass EntryItem) (stores : List StoreView) (es : List Entry) → L.fixed.setup ≡ S → L.fixed.program ≡ P → Proper (given S)
    → (view_of final).reach ≤ length (view_of final).seen → RunEnds L final stores → es ≡ entries_at (view_of final).seen → Stands P.script code → MayBeShut es 0 stores
shut_so law code L S P final stores es setup program proper long ends entries script =
    subst (λ (l : List Entry). MayBeShut l 0 stores) (sym entries)
    (run_may_shut law code L final stores (subst (λ (q : Checked). Stands q.script code) (sym program) script) (proper_so L S setup proper) long ends)

-- the ledger that is handed out
pub stands_so : {X : Type 0} (stands : X → ℕ → Tree → Type 0) (l : X) (s t : Setup) (es : List Entry) → s ≡ t → stands l (to_join (given s) (tree_of s.places es)) (tree_of s.places es)
    → stands l (to_join (given t) (tree_of t.places es)) (tree_of t.places es)
stands_so stands l s t es same h = subst (λ (q : Setup). stands l (to_join (given q) (tree_of q.places es)) (tree_of q.places es)) same h

-- the board that was given shows the history
pub shows_so : (r b : Option Listing) (o : Option TableId) (s t : Setup) (es : List Entry) → s ≡ t → o ≡ board_of b → (board_of r ≡ o) × BoardShows s.places es false r
    → (board_of r ≡ board_of b) × BoardShows t.places es false r
shows_so r b o s t es same is h = (h.0 ∙ is, subst (λ (q : Setup). BoardShows q.places es false r) same h.1)
