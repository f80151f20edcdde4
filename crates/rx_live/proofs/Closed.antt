-- The books of the places are closed, the last place first.
use Rattle.std.proofs.Common.{◌≡◌, ℕ, suc, ◌+◌, List, [], ◌∷◌, ◌++◌, length, Some, slice_get, refl, ap, sym, ◌∙◌, subst, arith, append_assoc}
use Rattle.std.proofs.lemmas.List.{append-nil, length_push}
use Rattle.rx_store.specs.Kept.{StoreView}
use Rattle.rx_book.specs.declared.views.Stamped.{Stamped}
use Rattle.rx_book.specs.declared.passes.Pass.{Pass}
use Rattle.rx_book.specs.declared.passes.Note.{Note}
use Rattle.rx_book.specs.Passes.{view_of, word_of, note_view}
use Rattle.rx_book.specs.Named.{BookName}
use Rattle.rx_parts.specs.declared.items.EntryItem.{EntryItem}
use Rattle.rx_parts.specs.declared.items.EventItem.{EventItem}
use Rattle.rx_objects.specs.declared.ledger.LedgerFixed.{LedgerFixed}
use Rattle.rx_objects.specs.Ending.{IsHeard, SeesEnd}
use Rattle.rx_stations.specs.Stations.{PostName, AreFrom}
use Rattle.rx_stations.specs.Closed.{IsClosed}
use Rattle.rx_live.specs.Inside.Ending.{SeatsFrom, StaysAt, views_of}
use Rattle.rx_stations.proofs.Stationing.{post_at}
use Rattle.rx_live.proofs.Seats.{seat_at}
use Rattle.rx_live.proofs.Noted.{viewed}
use Rattle.rx_live.proofs.Finishing.{EndedFrom, none_ended, one_ended, stays_refl, stays_trans}

-- behind these stations and passes the others have been closed, with these stores
pub record ClosesFrom (L : BookName LedgerFixed) (stations : List PostName) (seats : List (Pass EventItem)) (host : Pass EntryItem)
    (stations' : List PostName) (seats' : List (Pass EventItem)) (host' : Pass EntryItem) (stores : List StoreView) : Type 0 where
  pub sees : SeesEnd L host'
  pub stays : StaysAt host host'
  pub posts : List PostName
  pub posts_are : stations ≡ stations' ++ posts
  pub passes : List (Pass EventItem)
  pub passes_are : seats ≡ seats' ++ passes
  pub many : length seats' ≡ length stations'
  pub ended : EndedFrom L (view_of host).seen (view_of host').reach (views_of seats) (length stations') (length seats) stores

pub none_closed : (L : BookName LedgerFixed) (stations : List PostName) (seats : List (Pass EventItem)) (host : Pass EntryItem) → SeesEnd L host → length seats ≡ length stations
    → ClosesFrom L stations seats host stations seats host []
none_closed L stations seats host sees many =
    record {
      sees = sees;
      stays = stays_refl host;
      posts = [];
      posts_are = sym (append-nil stations);
      passes = [];
      passes_are = sym (append-nil seats);
      many = many;
      ended = subst (λ (n : ℕ). EndedFrom L (view_of host).seen (view_of host).reach (views_of seats) n (length seats) []) many
          (none_ended L (view_of host).seen (view_of host).reach (views_of seats) (length seats));
    }

-- the last of some is at their number
pub got_last : {X : Type 0} (all xs ys : List X) (x : X) → all ≡ (xs ++ x ∷ []) ++ ys → slice_get all (length xs) ≡ Some x
got_last all xs ys x is = ap (λ l. slice_get l (length xs)) is ∙ there xs
  where
    there : (xs : List _) → slice_get ((xs ++ x ∷ []) ++ ys) (length xs) ≡ Some x
    there [] = refl
    there (z ∷ zs) = there zs

-- a list that ends with one more
pub one_less : {X : Type 0} (all xs ys rest : List X) (x : X) → all ≡ xs ++ rest → xs ≡ ys ++ x ∷ [] → all ≡ (ys ++ x ∷ []) ++ rest
one_less all xs ys rest x is more = is ∙ ap (λ l. l ++ rest) more

module _ (L : BookName LedgerFixed) (stations : List PostName) (seats : List (Pass EventItem)) (host : Pass EntryItem) (stations1 : List PostName) (seats1 : List (Pass EventItem)) (host1 : Pass EntryItem) (stores : List StoreView)
    (from : ClosesFrom L stations seats host stations1 seats1 host1 stores) (stations2 : List PostName) (post : PostName) (posts_are : stations1 ≡ stations2 ++ post ∷ []) (seats2 : List (Pass EventItem)) (seat : Pass EventItem)
    (seats_are : seats1 ≡ seats2 ++ seat ∷ []) where
  pub as_many : length seats2 ≡ length stations2
  as_many =
      let a = ap length posts_are ∙ length_push stations2 post in
      let b = ap length seats_are ∙ length_push seats2 seat in
      let m = from.many in omega (arith, a, b, m)

  pub got_post : slice_get stations (length stations2) ≡ Some post
  got_post = got_last stations stations2 from.posts post (one_less stations stations1 stations2 from.posts post from.posts_are posts_are)

  pub got_seat : slice_get seats (length stations2) ≡ Some seat
  got_seat =
      subst (λ (n : ℕ). slice_get seats n ≡ Some seat) as_many
      (got_last seats seats2 from.passes seat (one_less seats seats1 seats2 from.passes seat from.passes_are seats_are))

  module _ (places : AreFrom 0 stations) (of : SeatsFrom L 0 seats) where
    pub is_last : post.place.0 ≡ length stations2
    is_last = let e = post_at 0 (length stations2) stations post places got_post in omega (arith, e)

    -- the pass is of the book of the station
    pub seat_is : slice_get L.fixed.places post.place.0 ≡ Some (word_of seat)
    seat_is = let z : 0 + length stations2 ≡ post.place.0 = (let e = is_last in omega (arith, e)) in subst (λ (n : ℕ). slice_get L.fixed.places n ≡ Some (word_of seat)) z (seat_at L 0 (length stations2) seats seat of got_seat)

    -- one place more has ended
    pub one_closed : (host2 : Pass EntryItem) (store : StoreView) (note : Note EntryItem) → IsClosed L post.place.0 (view_of seat).seen store (Some note) → SeesEnd L host2 → StaysAt host1 host2
        → IsHeard (view_of host1).seen (view_of host2).reach (note_view note) → ClosesFrom L stations seats host stations2 seats2 host2 (store ∷ stores)
    one_closed host2 store note closed sees stays heard =
        record {
          sees = sees;
          stays = stays_trans host host1 host2 from.stays stays;
          posts = post ∷ from.posts;
          posts_are = one_less stations stations1 stations2 from.posts post from.posts_are posts_are ∙ append_assoc stations2 (post ∷ []) from.posts;
          passes = seat ∷ from.passes;
          passes_are = one_less seats seats1 seats2 from.passes seat from.passes_are seats_are ∙ append_assoc seats2 (seat ∷ []) from.passes;
          many = as_many;
          ended = one_ended L (view_of host).seen (view_of host1).reach (view_of host2).reach (views_of seats) (length stations2) (length seats) (view_of seat) store note stores behind stays.reach there
              (viewed seats (length stations2) seat got_seat) (subst (λ (h : List (Stamped EntryItem)). IsHeard h (view_of host2).reach (note_view note)) from.stays.seen heard);
        }
      where
        there : IsClosed L (length stations2) (view_of seat).seen store (Some note)
        there = subst (λ (n : ℕ). IsClosed L n (view_of seat).seen store (Some note)) is_last closed

        behind : EndedFrom L (view_of host).seen (view_of host1).reach (views_of seats) (suc (length stations2)) (length seats) stores
        behind =
            let more : length stations1 ≡ suc (length stations2) = (let a = ap length posts_are ∙ length_push stations2 post in omega (arith, a)) in
            subst (λ (n : ℕ). EndedFrom L (view_of host).seen (view_of host1).reach (views_of seats) n (length seats) stores) more from.ended
