-- What a pass may ask by what it has seen, it may ask where its call is made.
use Rattle.std.proofs.Common.{◌≡◌, ◌≢◌, ℕ, Bool, true, false, List, [], ◌∷◌, ◌++◌, slice_get, Some, if◌then◌else◌, refl, ap, sym, ◌∙◌, subst}
use Rattle.std.proofs.lemmas.List.{append-nil, map-append}
use Rattle.rx_book.specs.declared.views.Stamped.{Stamped}
use Rattle.rx_book.specs.Numbers.{is_same}
use Rattle.rx_book.specs.History.{entries_by}
use Rattle.rx_book.proofs.Numbers.{is_same-refl}
use Rattle.rx_book.proofs.History.{entries_by-append}
use Rattle.rx_parts.specs.Growing.{NoneBy}
use Rattle.rx_parts.specs.Calling.{EachSeated}
use Rattle.rx_parts.specs.Places.{event_of, journal_of}
use Rattle.rx_rules.proofs.Common.{cell_of}
use Rattle.std.specs.List.{filter_map}
use Rattle.std.proofs.lemmas.Bool.{ne_eqb}
use Rattle.std.proofs.lemmas.List.Elements.{filter_map-append}
use Rattle.rx_parts.proofs.Growing.{task-stays, seat-makes, call-keeps}
use Rattle.rx_parts.specs.declared.items.EntryItem.{EntryItem}
use Rattle.rx_parts.specs.declared.items.EventItem.{EventItem}
use Rattle.rx_parts.specs.Histories.{ledger_item, ledger_items, made_event, made_events, cells_in}
use Rattle.rx_parts.specs.Passes.{CellsStay, CallFits}

-- nothing was added
none_added : {X : Type 0} (xs ys : List X) → xs ++ ys ≡ xs → ys ≡ []
none_added [] ys h = h
none_added (x ∷ xs) ys h = let e : xs ++ ys ≡ xs = cc in none_added xs ys e

pub none_by : (c : List ℕ) (more : List (Stamped EntryItem)) → entries_by c more ≡ [] → NoneBy c (ledger_items more)
none_by c [] h = tt
none_by c (x ∷ more) h = step (λ k. none_by c more k) (is_same x.by c) refl h where
  step : (entries_by c more ≡ [] → NoneBy c (ledger_items more)) → (b : Bool) → is_same x.by c ≡ b → (if b then x ∷ entries_by c more else entries_by c more) ≡ [] → (x.by ≢ c) × NoneBy c (ledger_items more)
  step rest true e k = absurd (let f : ⊥ = cc in f)
  step rest false e k = (λ w. let t : is_same x.by c ≡ true = subst (λ v. is_same x.by v ≡ true) w (is_same-refl x.by) in let f : ⊥ = cc in f, rest k)

-- where a longer history has no more entries of a caller, none of what is new is by it
pub caller-is-alone : (c : List ℕ) (seen more : List (Stamped EntryItem)) → entries_by c (seen ++ more) ≡ entries_by c seen → NoneBy c (ledger_items more)
caller-is-alone c seen more h = none_by c more (none_added (entries_by c seen) (entries_by c more) (sym (entries_by-append c seen more) ∙ h))

-- none of the events is of the task
none_of : (c : List ℕ) (t : ℕ) (more : List (Stamped EventItem)) → entries_by c more ≡ [] → EachSeated t c (made_events more) → cells_in t more ≡ []
none_of c t [] h e = refl
none_of c t (x ∷ more) h e = step (λ k. none_of c t more k e.1) (is_same x.by c) refl h where
  step : (entries_by c more ≡ [] → cells_in t more ≡ []) → (b : Bool) → is_same x.by c ≡ b → (if b then x ∷ entries_by c more else entries_by c more) ≡ [] → cells_in t (x ∷ more) ≡ []
  step rest true i k = absurd (let f : ⊥ = cc in f)
  step rest false i k =
      let other : x.item.task.0 ≢ t = λ w. let s : is_same x.by c ≡ true = subst (λ v. is_same x.by v ≡ true) (e.0 w) (is_same-refl x.by) in let f : ⊥ = cc in f in
      rw (ne_eqb x.item.task.0 t other) (rest k)

seated_behind : (t : ℕ) (c : List ℕ) (xs ys : List (Stamped EventItem)) → EachSeated t c (made_events (xs ++ ys)) → EachSeated t c (made_events ys)
seated_behind t c [] ys h = h
seated_behind t c (x ∷ xs) ys h = seated_behind t c xs ys h.1

pub cells-stay : CellsStay
cells-stay place v k t own begins seated =
    let whole : v.seen ++ begins.prefix.0 ≡ k = begins.prefix.1 in
    let none : entries_by v.number begins.prefix.0 ≡ [] = none_added (entries_by v.number v.seen) (entries_by v.number begins.prefix.0) (sym (entries_by-append v.number v.seen begins.prefix.0) ∙ ap (entries_by v.number) whole ∙ sym begins.own ∙ own) in
    let behind : EachSeated t v.number (made_events begins.prefix.0) = seated_behind t v.number v.seen begins.prefix.0 (subst (λ (l : List (Stamped EventItem)). EachSeated t v.number (made_events l)) (sym whole) seated) in
    let parts : cells_in t (v.seen ++ begins.prefix.0) ≡ cells_in t v.seen ++ cells_in t begins.prefix.0 =
    ap (λ l. filter_map (cell_of t) (journal_of l)) (map-append made_event v.seen begins.prefix.0)
    ∙ ap (filter_map (cell_of t)) (map-append event_of (made_events v.seen) (made_events begins.prefix.0))
    ∙ filter_map-append (cell_of t) (journal_of (made_events v.seen)) (journal_of (made_events begins.prefix.0)) in
    ap (cells_in t) (sym whole) ∙ parts ∙ ap (λ l. cells_in t v.seen ++ l) (none_of v.number t begins.prefix.0 none behind) ∙ append-nil (cells_in t v.seen)

pub call-fits : CallFits
call-fits code U p place v k g more t mark path d own begins legal call long carried alone =
    let stands : slice_get long.actors t.0 ≡ Some call.actor = task-stays code U g more t.0 call.actor call.legal long call.stands alone in
    let seats : EachSeated t.0 call.actor.seat (made_events k) = seat-makes code U p (g ++ more) (made_events k) t.0 call.actor long legal carried stands in
    let own_seats : EachSeated t.0 v.number (made_events k) = subst (λ (c : List ℕ). EachSeated t.0 c (made_events k)) (sym call.seated) seats in
    call-keeps code U p (journal_of (made_events v.seen)) (journal_of (made_events k)) g more v.number t mark path d call long alone (cells-stay place v k t.0 own begins own_seats)
