-- The note and the events of a request, from what was done for it.
use Rattle.std.proofs.Common.{◌≡◌, ◌≢◌, Bool, true, false, List, [], drop, length, map, Option, Some, None, IfSome, MatchBool, refl, ap, ◌∙◌, subst}
use Rattle.rx_book.specs.declared.views.Stamped.{Stamped}
use Rattle.rx_book.specs.declared.views.View.{View}
use Rattle.rx_book.specs.declared.passes.Note.{Note}
use Rattle.rx_book.specs.declared.passes.Pass.{Pass}
use Rattle.rx_book.specs.Passes.{view_of, word_of}
use Rattle.rx_parts.specs.declared.items.EventItem.{EventItem}
use Rattle.rx_parts.specs.Histories.{event_named}
use Rattle.rx_objects.specs.declared.mentions.Mentions.{Mentions}
use Rattle.rx_objects.specs.Mentioned.{as_named, events_new}
use Rattle.rx_activities.specs.declared.hand.Hand.{Hand}
use Rattle.rx_activities.specs.declared.replies.Child.{Child}
use Rattle.rx_activities.specs.Knowing.{since}
use Rattle.rx_activities.specs.Inside.Sending.{SeatIsLeft, NoteIs, MentionsAre}
use Rattle.rx_activities.proofs.Asked.{OfSeat}

-- without a note no event was made
pub note_none : (a : Hand) (o : Option (Note EventItem)) (seat : Pass EventItem) (made : Bool) → (made ≡ false → since a ≡ []) → MatchBool made (IfSome o (NoteIs seat) × (o ≢ None)) (o ≡ None) → o ≡ None → since a ≡ []
note_none a o seat true unmade h e = absurd (h.1 e)
note_none a o seat false unmade h e = unmade refl

is_noted : (o : Option (Note EventItem)) (seat : Pass EventItem) (made : Bool) (n : Note EventItem) → MatchBool made (IfSome o (NoteIs seat) × (o ≢ None)) (o ≡ None) → o ≡ Some n → NoteIs seat n
is_noted o seat true n h e = subst (λ (x : Option (Note EventItem)). IfSome x (NoteIs seat)) e h.0
is_noted o seat false n h e = absurd (let g : ⊥ = cc (h, e) in g)

-- a note is of the activity's seat
pub note_some : (a : Hand) (o : Option (Note EventItem)) (seat : Pass EventItem) → SeatIsLeft a.seat seat → MatchBool a.made (IfSome o (NoteIs seat) × (o ≢ None)) (o ≡ None) → (n : Note EventItem) → o ≡ Some n → OfSeat a n
note_some a o seat left h n e =
    let is = is_noted o seat a.made n h e in
    record { word = is.word ∙ left.word; seen = is.seen.seen ∙ ap (λ (v : View EventItem). v.seen) left.view }

-- a note leaves the seat
pub seat_noted : (a b c : Pass EventItem) → SeatIsLeft a b → (word_of c ≡ word_of b) × (view_of c ≡ view_of b) → SeatIsLeft a c
seat_noted a b c left same = record { word = same.0 ∙ left.word; splits = left.splits; view = same.1 ∙ left.view }

-- the events that are mentioned are those made since
pub events_mentioned : (a : Hand) (seat : Pass EventItem) (child : Option Child) (m : Mentions) → MentionsAre a.told.value seat child m → SeatIsLeft a.seat seat → map event_named (events_new m) ≡ since a
events_mentioned a seat child m is left =
    ap (λ (p : Pass EventItem). map event_named (map as_named (drop (length (view_of p).mine) (view_of m.now.value).mine))) is.before
    ∙ ap (λ (l : List (Stamped EventItem)). map event_named (map as_named (drop (length (view_of a.told.value).mine) l)))
    (ap (λ (p : Pass EventItem). (view_of p).mine) is.now ∙ ap (λ (v : View EventItem). v.mine) left.view)
