-- The host's passes of the places' books meet the notes that came with the root's release.
use Rattle.std.proofs.Common.{◌≡◌, ℕ, zero, suc, ◌+◌, List, [], ◌∷◌, ◌++◌, length, Some, All, slice_get, slice_set, ap, sym, ◌∙◌, subst, arith, append_assoc, Contains}
use Rattle.std.proofs.lemmas.List.{append-nil, map-set, length-set}
use Rattle.std.proofs.lemmas.List.Elements.{All-nil, All-weaker, All-cons, All-contains, Contains-append_left, Contains-push}
use Rattle.std.proofs.lemmas.Option.{slice_get_within}
use Rattle.atomic_table.specs.Seated.{TableId}
use Rattle.rx_rules.proofs.Common.{PlaceId}
use Rattle.rx_book.specs.declared.views.View.{View}
use Rattle.rx_book.specs.declared.passes.Pass.{Pass}
use Rattle.rx_book.specs.declared.passes.Note.{Note}
use Rattle.rx_book.specs.Passes.{view_of, word_of, note_view, note_word}
use Rattle.rx_book.specs.Named.{BookName}
use Rattle.rx_parts.specs.declared.items.EventItem.{EventItem}
use Rattle.rx_parts.proofs.Lists.{one_item}
use Rattle.rx_objects.specs.declared.ledger.LedgerFixed.{LedgerFixed}
use Rattle.rx_objects.specs.declared.place.PlaceFixed.{PlaceFixed}
use Rattle.rx_objects.specs.Noted.{Notes, IsOfPlace, AreOfPlaces}
use Rattle.rx_objects.specs.Ending.{IsMet, MeetingShows}
use Rattle.rx_objects.specs.Opened.{PlaceIs}
use Rattle.rx_stations.specs.Stations.{PostName, AreFrom}
use Rattle.rx_live.specs.Inside.Ending.{SeatsFrom, MeetsAt, none_dies, views_of}
use Rattle.rx_stations.proofs.Stationing.{post_at}
use Rattle.rx_live.proofs.Seats.{seat_at, seats_set}

pub viewed : (ss : List (Pass EventItem)) (i : ℕ) (s : Pass EventItem) → slice_get ss i ≡ Some s → slice_get (views_of ss) i ≡ Some (view_of s)
viewed [] i s h = absurd (let w = slice_get_within {A = Pass EventItem} [] i s h in omega (arith, w))
viewed (x ∷ ss) zero s h = let e : x ≡ s = cc in ap (λ (z : Pass EventItem). Some (view_of z)) e
viewed (x ∷ ss) (suc i) s h = viewed ss i s h

-- the note of the last that is left
pub note_at : (places : List TableId) (notes rest done : Notes) (x : PlaceId × Note EventItem) → AreOfPlaces places notes → notes ≡ (rest ++ x ∷ []) ++ done → IsOfPlace places x
note_at places notes rest done x are is =
    All-contains (IsOfPlace places) notes x are
    (subst (λ (l : Notes). Contains l x) (sym is) (Contains-append_left (rest ++ x ∷ []) done x (Contains-push rest x)))

pub seats_stay : (L : BookName LedgerFixed) (ss ss' : List (Pass EventItem)) (at : ℕ) (n : View EventItem) → SeatsFrom L 0 ss → MeetsAt ss at n ss' → SeatsFrom L 0 ss' × (length ss' ≡ length ss)
seats_stay L ss ss' at n are met = (
  subst (SeatsFrom L 0) (sym met.stands) (seats_set L 0 at ss met.before met.after are met.stood met.word),
  ap length met.stands ∙ length-set ss at met.after,
)

-- a note more is met, and those before stay so
note_met : (law : MeetingShows) (ss ss' : List (Pass EventItem)) (p : PlaceId) (n : Note EventItem) (done : Notes) → MeetsAt ss p.0 (note_view n) ss' → All (IsMet (views_of ss)) done → All (IsMet (views_of ss')) ((p, n) ∷ done)
note_met law ss ss' p n done met all =
    let one = law none_dies (views_of ss) p (view_of met.before) (view_of met.after) n (viewed ss p.0 met.before met.stood) met.met in
    let same : views_of ss' ≡ slice_set (views_of ss) p.0 (view_of met.after) = ap views_of met.stands ∙ map-set view_of ss p.0 met.after in
    All-cons (IsMet (views_of ss')) (p, n) done (subst (λ (vs : List (View EventItem)). IsMet vs (p, n)) (sym same) one.0)
    (All-weaker (IsMet (views_of ss)) (IsMet (views_of ss')) (λ m h. subst (λ (vs : List (View EventItem)). IsMet vs m) (sym same) (one.1 m h)) done all)

-- the book of the station at a number
book_at : (L : BookName LedgerFixed) (posts : List PostName) (at : ℕ) (post : PostName) (b : BookName PlaceFixed) → AreFrom 0 posts → slice_get posts at ≡ Some post → PlaceIs L post.place b
    → slice_get L.fixed.places at ≡ Some b.word
book_at L posts at post b are got is =
    let p : post.place.0 ≡ at = (let e = post_at 0 at posts post are got in omega (arith, e)) in subst (λ (n : ℕ). slice_get L.fixed.places n ≡ Some b.word) p is.at

-- the pass at a number is of the book of the station at it
pub one_book : (L : BookName LedgerFixed) (posts : List PostName) (ss : List (Pass EventItem)) (at : ℕ) (post : PostName) (s : Pass EventItem) (b : BookName PlaceFixed) → AreFrom 0 posts → SeatsFrom L 0 ss
    → slice_get posts at ≡ Some post → slice_get ss at ≡ Some s → PlaceIs L post.place b → word_of s ≡ b.word
one_book L posts ss at post s b are seats got sat is =
    let z : 0 + at ≡ at = omega arith in
    let seat : slice_get L.fixed.places at ≡ Some (word_of s) = subst (λ (n : ℕ). slice_get L.fixed.places n ≡ Some (word_of s)) z (seat_at L 0 at ss s seats sat) in
    one_item (slice_get L.fixed.places at) (word_of s) b.word seat (book_at L posts at post b are got is)

-- so is a note that has the word at the number
pub note_book : (L : BookName LedgerFixed) (posts : List PostName) (at : ℕ) (post : PostName) (n : Note EventItem) (b : BookName PlaceFixed) → AreFrom 0 posts → slice_get posts at ≡ Some post
    → slice_get L.fixed.places at ≡ Some (note_word n) → PlaceIs L post.place b → note_word n ≡ b.word
note_book L posts at post n b are got word is = one_item (slice_get L.fixed.places at) (note_word n) b.word word (book_at L posts at post b are got is)

-- of all notes these are left, and the others are met
pub record AreMet (all left : Notes) (views : List (View EventItem)) : Type 0 where
  pub done : Notes
  pub whole : all ≡ left ++ done
  pub met : All (IsMet views) done

pub none_met : (all : Notes) (views : List (View EventItem)) → AreMet all all views
none_met all views = record { done = []; whole = sym (append-nil all); met = All-nil (IsMet views) }

pub one_more_met : (law : MeetingShows) (all left rest : Notes) (ss ss' : List (Pass EventItem)) (p : PlaceId) (n : Note EventItem) → AreMet all left (views_of ss) → left ≡ rest ++ (p, n) ∷ [] → MeetsAt ss p.0 (note_view n) ss'
    → AreMet all rest (views_of ss')
one_more_met law all left rest ss ss' p n are is met =
    record {
      done = (p, n) ∷ are.done;
      whole = are.whole ∙ (ap (λ (l : Notes). l ++ are.done) is ∙ append_assoc rest ((p, n) ∷ []) are.done);
      met = note_met law ss ss' p n are.done met are.met;
    }

pub all_met : (all left : Notes) (views : List (View EventItem)) → AreMet all left views → left ≡ [] → All (IsMet views) all
all_met all left views are none = subst (λ (l : Notes). All (IsMet views) l) (sym (are.whole ∙ ap (λ (l : Notes). l ++ are.done) none)) are.met
