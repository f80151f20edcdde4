-- The ledger's book is closed.
use Rattle.std.proofs.Common.{◌≡◌, ℕ, Bool, true, false, Option, List, [], ◌∷◌, ◌++◌, ap, sym, ◌∙◌, subst}
use Rattle.std.proofs.lemmas.List.{append-nil, map-append}
use mathlib.Core.List.{IsPrefix}
use Rattle.rx_rules.specs.declared.entries.Entry.{Entry}
use Rattle.rx_rules.specs.declared.entries.Entry.TheVariants.{Step, Root, Death, Join}
use Rattle.rx_rules.proofs.Common.{Block, tree_of, EndsWithRoot, NoRoot, Tree}
use Rattle.rx_syntax.specs.Shape.{Stands}
use Rattle.rx_history.specs.declared.setup.Setup.{Setup}
use Rattle.rx_history.specs.Setups.{given, to_join}
use Rattle.rx_book.specs.declared.views.Stamped.{Stamped}
use Rattle.rx_book.specs.declared.passes.Pass.{Pass}
use Rattle.rx_book.specs.History.{items_of}
use Rattle.rx_book.specs.Passes.{view_of}
use Rattle.rx_book.specs.Named.{BookName}
use Rattle.rx_chronicle.specs.Told.{left_to_join, RootLast}
use Rattle.rx_ledger.specs.Kept.{KeeperView, IsHistory}
use Rattle.rx_monitor.specs.Boards.{Listing}
use Rattle.rx_parts.specs.Ledger.{LegalLedger}
use Rattle.rx_parts.specs.declared.items.EntryItem.{EntryItem}
use Rattle.rx_parts.specs.Histories.{ledger_item, ledger_items}
use Rattle.rx_parts.proofs.Reading.{root-ends}
use Rattle.rx_objects.specs.declared.ledger.LedgerFixed.{LedgerFixed}
use Rattle.rx_objects.specs.Mentioned.{entries_in}
use Rattle.rx_objects.specs.Ledger.{LedgerIsLegal}
use Rattle.rx_objects.specs.Ending.{entries_at, SeesEnd}
use Rattle.rx_objects.specs.Shown.{BoardShows}
use Rattle.rx_objects.proofs.Ending.{no_items}
use Rattle.rx_objects.proofs.Staying.{entries_same}

-- nothing stands behind the root's release
pub whole_is : (code : Block) (f : LedgerFixed) (s h : List (Stamped EntryItem)) → Stands f.program.script code → EndsWithRoot (entries_at s) → LedgerIsLegal f h → IsPrefix s h → h ≡ s
whole_is code f s h stands ends lawful (rest, is) = sym is ∙ (ap (λ (l : List (Stamped EntryItem)). s ++ l) nothing ∙ append-nil s)
  where
    parts : ledger_items h ≡ ledger_items s ++ ledger_items rest
    parts = ap ledger_items (sym is) ∙ map-append ledger_item s rest

    nothing : rest ≡ []
    nothing =
        no_items rest (root-ends code (given f.setup) (ledger_items s) (ledger_items rest)
        (subst (LegalLedger code (given f.setup)) parts (lawful.made code stands))
        (subst EndsWithRoot (sym (entries_same s)) ends))

-- no entry is both the last and followed by others
none_behind : (es more : List Entry) → EndsWithRoot es → EndsWithRoot (es ++ more) → more ≡ []
none_behind [] more ends both = absurd ends
none_behind (Root lost masked thrown ∷ es) more ends both =
    let a : es ≡ [] = ends in
    let b : es ++ more ≡ [] = both in
    sym (ap (λ (l : List Entry). l ++ more) a) ∙ b
none_behind (Step t act batch ∷ es) more ends both = none_behind es more ends both
none_behind (Death d ∷ es) more ends both = none_behind es more ends both
none_behind (Join d ∷ es) more ends both = none_behind es more ends both

root_stands : (es more : List Entry) → EndsWithRoot es → NoRoot (es ++ more) → ⊥
root_stands [] more ends none = ends
root_stands (Root lost masked thrown ∷ es) more ends none = none
root_stands (Step t act batch ∷ es) more ends none = root_stands es more ends none
root_stands (Death d ∷ es) more ends none = root_stands es more ends none
root_stands (Join d ∷ es) more ends none = root_stands es more ends none

-- behind the root's release nothing was made
whole_history : (k : KeeperView) (es : List Entry) → IsHistory k → k.entries ≡ es → EndsWithRoot es → k.entries ++ k.behind ≡ es
whole_history k es history is ends = go history.root_last
  where
    there : EndsWithRoot k.entries
    there = subst EndsWithRoot (sym is) ends

    nothing : k.behind ≡ [] → k.entries ++ k.behind ≡ es
    nothing none = ap (λ (l : List Entry). k.entries ++ l) none ∙ (append-nil k.entries ∙ is)

    go : RootLast (k.entries ++ k.behind) → k.entries ++ k.behind ≡ es
    go (true, h) = nothing (none_behind k.entries k.behind there h)
    go (false, h) = absurd (root_stands k.entries k.behind there h)

-- the ledger stands for the tree to which the history folds
pub stands_there : {X : Type 0} (stands : X → ℕ → Tree → Type 0) (l : X) (s t : Setup) (es fs : List Entry) → s ≡ t → fs ≡ es → stands l (left_to_join (given s) es) (tree_of s.places es)
    → stands l (to_join (given t) (tree_of t.places fs)) (tree_of t.places fs)
stands_there stands l s t es fs same is h =
    subst (λ (gs : List Entry). stands l (to_join (given t) (tree_of t.places gs)) (tree_of t.places gs)) (sym is)
    (subst (λ (q : Setup). stands l (to_join (given q) (tree_of q.places es)) (tree_of q.places es)) same h)

-- the board shows the history
pub shown_there : (board : Option Listing) (s t : Setup) (es fs : List Entry) (late : Bool) → late ≡ false → s ≡ t → fs ≡ es → BoardShows s.places es late board → BoardShows t.places fs false board
shown_there board s t es fs late none same is h =
    subst (λ (gs : List Entry). BoardShows t.places gs false board) (sym is)
    (subst (λ (q : Setup). BoardShows q.places es false board) same (subst (λ (b : Bool). BoardShows s.places es b board) none h))

module _ (code : Block) (L : BookName LedgerFixed) (host : Pass EntryItem) (h : List (Stamped EntryItem)) (items : List EntryItem) (k : KeeperView) (stands : Stands L.fixed.program.script code) (sees : SeesEnd L host)
    (lawful : LedgerIsLegal L.fixed h) (begins : IsPrefix (view_of host).seen h) (whole : items ≡ items_of h) (told : entries_in items ≡ k.entries) where
  -- the keeper's entries were all seen
  pub all_seen : k.entries ≡ entries_at (view_of host).seen
  all_seen = sym told ∙ (ap entries_in whole ∙ ap entries_at (whole_is code L.fixed (view_of host).seen h stands sees.ends lawful begins))

  -- and it has made no other
  pub all_made : IsHistory k → k.entries ++ k.behind ≡ entries_at (view_of host).seen
  all_made history = whole_history k (entries_at (view_of host).seen) history all_seen sees.ends
