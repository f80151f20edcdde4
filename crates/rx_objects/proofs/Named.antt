-- What the notes have, the places' histories have.
use Rattle.std.proofs.Common.{◌≡◌, ◌⊎◌, ℕ, ◌+◌, cond, List, [], ◌∷◌, ◌++◌, map, length, Some, slice_get, refl, ap, sym, ◌∙◌, subst, arith, inl, inr}
use Rattle.std.specs.List.{filter_map}
use Rattle.std.proofs.lemmas.List.{map-append}
use Rattle.std.proofs.lemmas.List.Elements.{All-contains, filter_map-append}
use mathlib.Core.List.{IsPrefix}
use Rattle.rx_rules.proofs.Common.{PlaceId, Block, Cells, Birth, cell_of, journal_at, Given}
use Rattle.rx_base.proofs.Prefixes.{prefix-trans}
use Rattle.rx_rules.specs.declared.entries.Entry.{Entry}
use Rattle.rx_rules.specs.declared.entries.Entry.TheVariants.{Step}
use Rattle.rx_runs.proofs.Pairs.{journal_got}
use Rattle.rx_book.specs.declared.views.Stamped.{Stamped}
use Rattle.rx_book.specs.declared.passes.Note.{Note}
use Rattle.rx_book.specs.History.{items_of}
use Rattle.rx_book.specs.Passes.{note_view}
use Rattle.rx_parts.specs.Ledger.{Actor, LegalLedger}
use Rattle.rx_parts.specs.Places.{MadeEvent, LegalPlace, event_of, journal_of, seen_by}
use Rattle.rx_parts.specs.Parts.{EachPlace, journals_of}
use Rattle.rx_parts.specs.Reading.{is_of, named_by}
use Rattle.rx_parts.proofs.Lists.{one_item, got_map}
use Rattle.rx_parts.proofs.Tasks.{Later, later}
use Rattle.rx_parts.proofs.Reading.{actors-say}
use Rattle.rx_parts.proofs.Whole.{legal_later, LastEvent, LastOrNone, last_from, AtPlace, at_place}
use Rattle.rx_parts.specs.declared.items.EntryItem.{EntryItem}
use Rattle.rx_parts.specs.declared.items.EventItem.{EventItem}
use Rattle.rx_parts.specs.Histories.{event_named, ledger_items, made_events}
use Rattle.rx_objects.specs.Noted.{Notes, cells_at, cells_named, IsNoted}
use Rattle.rx_objects.specs.Laws.{HasBeginning, NotesBegin, NotedAreNamed}

at_entry : (n : ℕ) (e : Entry) (cells : Cells) → cond (is_of n e) cells [] ≡ cells_at n e cells
at_entry n (Step u act batch) cells = refl
at_entry n _ cells = refl

-- what the plain list names for a task, the items name
pub named_same : (n : ℕ) (h : List (Stamped EntryItem)) → named_by (ledger_items h) n ≡ cells_named n (items_of h)
named_same n [] = refl
named_same n (x ∷ h) = λ i. at_entry n x.item.entry (map event_named x.item.events) i ++ named_same n h i

empty_front : (xs ys : Cells) → xs ++ ys ≡ [] → xs ≡ []
empty_front [] ys h = refl
empty_front (x ∷ xs) ys h = absurd (let f : ⊥ = cc h in f)

cells_on : (n : ℕ) (xs ys whole : List MadeEvent) → xs ++ ys ≡ whole → filter_map (cell_of n) (journal_of whole) ≡ filter_map (cell_of n) (journal_of xs) ++ filter_map (cell_of n) (journal_of ys)
cells_on n xs ys whole e = ap (λ (v : List MadeEvent). filter_map (cell_of n) (journal_of v)) (sym e) ∙ (ap (filter_map (cell_of n)) (map-append event_of xs ys) ∙ filter_map-append (cell_of n) (journal_of xs) (journal_of ys))

module _ (code : Block) (U : Given) (h : List (Stamped EntryItem)) (ks : List (List MadeEvent)) (legal : LegalLedger code U (ledger_items h)) (each : EachPlace code U (ledger_items h) 0 ks) (n : ℕ) (a : Actor) (got : slice_get legal.actors n ≡ Some a) where
  abbrev made_at : ℕ → Cells
  made_at p = filter_map (cell_of n) (journal_at (journals_of ks) p)

  named : a.named ≡ cells_named n (items_of h)
  named = ((actors-say code U (ledger_items h) legal).1 n a got).named ∙ named_same n h

  -- a task is at the place where it made an event
  at_home : (p : ℕ) (k : List MadeEvent) → IsPrefix (seen_by k) (ledger_items h) → LastEvent code U p n (journal_of k) (seen_by k) → a.birth.to.0 ≡ p
  at_home p k within l =
      let longer : IsPrefix l.event.carried (ledger_items h) = prefix-trans l.event.carried (seen_by k) (ledger_items h) l.within within in
      let on = legal_later code U l.event.carried (ledger_items h) l.may.legal legal longer in
      let stands : slice_get l.may.legal.actors n ≡ Some l.may.actor = subst (λ (v : ℕ). slice_get l.may.legal.actors v ≡ Some l.may.actor) l.is_of l.may.stands in
      let w = later (length l.event.carried) l.may.legal.actors longer.0 legal.actors on n l.may.actor stands in
      let now : Later l.may.actor a = subst (λ (v : Actor). Later l.may.actor v) (one_item (slice_get legal.actors n) w.0 a w.1 got) w.2 in
      ap (λ (b : Birth). b.to.0) now.birth ∙ l.may.place

  home : (p : ℕ) → (made_at p ≡ []) ⊎ (a.birth.to.0 ≡ p)
  home p = of (at_place code U (ledger_items h) 0 p ks each)
    where
      last : (k : List MadeEvent) → journal_at (journals_of ks) p ≡ journal_of k → IsPrefix (seen_by k) (ledger_items h) → LastOrNone code U p n [] [] k → (made_at p ≡ []) ⊎ (a.birth.to.0 ≡ p)
      last k is within (inl none) = inl (ap (filter_map (cell_of n)) is ∙ none)
      last k is within (inr l) = inr (at_home p k within l)

      of : AtPlace code U (ledger_items h) 0 p ks → (made_at p ≡ []) ⊎ (a.birth.to.0 ≡ p)
      of (inl none) = inl (ap (filter_map (cell_of n)) none)
      of (inr w) =
          let zero_more : 0 + p ≡ p = omega arith in
          last w.0 w.1 w.3 (last_from code U p n [] 0 [] w.0 tt (subst (λ (v : ℕ). LegalPlace code U v w.0) zero_more w.2))

  is_named : (notes : Notes) → NotesBegin ks notes → IsNoted notes (items_of h) n → IsPrefix a.named (made_at a.birth.to.0)
  is_named notes begins noted = of noted
    where
      nothing : cells_named n (items_of h) ≡ [] → IsPrefix a.named (made_at a.birth.to.0)
      nothing none = (made_at a.birth.to.0, ap (λ (v : Cells). v ++ made_at a.birth.to.0) (named ∙ none))

      at : (p : ℕ) (rest : Cells) → cells_named n (items_of h) ++ rest ≡ made_at p → (made_at p ≡ []) ⊎ (a.birth.to.0 ≡ p) → IsPrefix a.named (made_at a.birth.to.0)
      at p rest front (inl none) = nothing (empty_front (cells_named n (items_of h)) rest (front ∙ none))
      at p rest front (inr it) = (rest, ap (λ (v : Cells). v ++ rest) named ∙ (front ∙ ap made_at (sym it)))

      of : IsNoted notes (items_of h) n → IsPrefix a.named (made_at a.birth.to.0)
      of (inl none) = nothing none
      of (inr w) =
          let m : PlaceId × Note EventItem = w.0 in
          let b : HasBeginning ks m = All-contains (HasBeginning ks) notes m begins w.1 in
          let seen : List MadeEvent = made_events (note_view m.1).seen in
          let there : made_at m.0.0 ≡ filter_map (cell_of n) (journal_of b.0) = ap (filter_map (cell_of n)) (journal_got (journals_of ks) m.0.0 (journal_of b.0) (got_map journal_of ks m.0.0 b.0 b.1)) in
          let rest : Cells = filter_map (cell_of n) (journal_of b.2.0) in
          at m.0.0 rest (ap (λ (v : Cells). v ++ rest) (sym w.2) ∙ (sym (cells_on n seen b.2.0 b.0 b.2.1) ∙ sym there)) (home m.0.0)

pub noted_are_named : NotedAreNamed
noted_are_named code U h ks notes legal each noted begins n a got = is_named code U h ks legal each n a got notes begins (noted n)
