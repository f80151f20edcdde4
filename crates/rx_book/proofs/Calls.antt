-- What a call of a book has when it holds the lock.
use Rattle.std.proofs.Common.{◌≡◌, ℕ, ◌≤◌, ◌/◌, ◌%◌, bit_or, true, Option, List, [], ◌∷◌, ◌++◌, length, take, drop, refl, ap, sym, ◌∙◌, arith, subst, length-append}
use Rattle.std.proofs.lemmas.List.{append-nil, take-append-le, length-drop}
use Rattle.std.proofs.Math.Seq.{drop-append_seam, take-append_seam}
use Rattle.std.proofs.lemmas.Bool.{or_right}
use mathlib.Core.List.{IsPrefix}
use Rattle.rx_book.specs.declared.views.Stamped.{Stamped}
use Rattle.rx_book.specs.declared.views.View.{View}
use Rattle.rx_book.specs.History.{items_of, stamp_all, entries_by, deaths_of}
use Rattle.rx_book.specs.Kept.{Told, looked, grown, unmarked, both}
use Rattle.rx_book.specs.Calls.{BeginsWithSeen, Called, Looked, Met}
use Rattle.rx_book.specs.Replay.{Replays}
use Rattle.rx_book.proofs.Replay.{follows_more}
use Rattle.rx_book.proofs.History.{entries_by-append, entries_by-same}
use Rattle.rx_base.proofs.Prefixes.{prefix-in-longer}
use Rattle.rx_book.proofs.Or.{has_bit_more}

-- what a load found comes after what was seen before
pub looks : {I : Type 0} (v : View I) (n : ℕ) → v.reach ≤ n / 65536 → bit_or v.dead (n % 65536) ≡ n % 65536 → Looked v (looked v n)
looks v n later more = record { later = later; dead = λ p has. has_bit_more v.dead (n % 65536) p more has; same = (refl, refl, refl, refl) }

module _ {I : Type 0} (place : I → Option ℕ) where
  -- the pass v with the mark of m: its history is that of m, and v had seen a beginning of it
  pub record AtPoint (v m : View I) : Type 0 where
    pub seen : (both v m).seen ≡ m.seen
    pub marked : (both v m).marked ≡ true
    pub begins : BeginsWithSeen place v m.seen
    pub reach : (both v m).reach ≡ length (both v m).seen
    pub dead : (both v m).dead ≡ deaths_of place (both v m).seen
    pub mine : v.mine ≡ entries_by v.number (both v m).seen

  pub at_point : (v m : View I) → v.numbered ≡ true → m.marked ≡ true → Told place (both v m) → AtPoint v m
  at_point v m own has (log, now, first, second, all, whole, mine) =
      let top : (both v m).marked ≡ true = or_right v.marked m.marked has in
      let here : (both v m).seen ≡ log = all top in
      let there : m.seen ≡ log = whole has in
      let full : take (length log) log ≡ log = ap (take (length log)) (sym (append-nil log)) ∙ take-append_seam log [] in
      let tight : (both v m).reach ≡ length log = (let a = now.low in let b = now.high in omega (arith, ap length here)) in
      record {
        seen = here ∙ sym there;
        marked = top;
        begins = subst (BeginsWithSeen place v) (sym there) (record { prefix = first.prefix; long = first.high; deaths = first.deaths; own = (mine own).0 });
        reach = tight ∙ ap length (sym here);
        dead = now.deaths ∙ ap (deaths_of place) (ap (λ (n : ℕ). take n log) tight ∙ (full ∙ sym here));
        mine = (mine own).0 ∙ ap (entries_by v.number) (sym here);
      }

  module _ {P R : Type 0} (step : List I → P → R → List I → Type 0) (legal : List (Stamped I) → Type 0) where
    pub called : (v m : View I) → AtPoint v m → (op : P) (reply : R) (before after : List I) → before ≡ items_of m.seen → (new : List I) × (after ≡ before ++ new) × step before op reply new
        → legal ((both v m).seen ++ stamp_all v.number (drop (length before) after))
        → Replays step ((both v m).seen ++ stamp_all v.number (drop (length before) after))
        → Called place step legal v op reply (unmarked (grown place (both v m) (drop (length before) after)))
    called v m p op reply before after was (new, grew, did) lawful replayed =
        let b : View I = both v m in
        let between = p.begins.prefix.0 in
        let whole : v.seen ++ between ≡ m.seen = p.begins.prefix.1 in
        let rest : drop (length before) after ≡ new = ap (drop (length before)) grew ∙ drop-append_seam before new in record {
          between = between;
          added = drop (length before) after;
          long = (let h = p.begins.long in omega (arith, ap length whole));
          deaths = p.begins.deaths ∙ ap (λ (l : List (Stamped I)). deaths_of place (take v.reach l)) (sym whole);
          replied = subst (λ (z : List I × List I). step z.0 op reply z.1) (λ i. ((was ∙ ap items_of (sym whole)) i, sym rest i)) did;
          whole = ap (λ (l : List (Stamped I)). l ++ stamp_all v.number (drop (length before) after)) (p.seen ∙ sym whole);
          more = refl;
          own = ap (λ (l : List (Stamped I)). l ++ stamp_all v.number (drop (length before) after)) p.mine ∙ (ap (λ (l : List (Stamped I)). entries_by v.number b.seen ++ l) (sym (entries_by-same v.number (drop (length before) after))) ∙ sym (entries_by-append v.number b.seen (stamp_all v.number (drop (length before) after))));
          lawful = lawful;
          replayed = replayed;
          reached = refl;
          died = refl;
          same = (refl, refl);
        }

    pub lawful : (fits : List (Stamped I) → List ℕ → P → Type 0)
        → ((log : List (Stamped I)) (c : List ℕ) (op : P) (reply : R) (new : List I) → legal log → fits log c op → step (items_of log) op reply new → legal (log ++ stamp_all c new))
        → (v m : View I) → AtPoint v m → (op : P) (reply : R) (before after : List I) → before ≡ items_of m.seen → (new : List I) × (after ≡ before ++ new) × step before op reply new
        → legal m.seen → fits m.seen v.number op → legal ((both v m).seen ++ stamp_all v.number (drop (length before) after))
    lawful fits stays v m p op reply before after was (new, grew, did) law fit =
        let rest : drop (length before) after ≡ new = ap (drop (length before)) grew ∙ drop-append_seam before new in
        subst legal (λ i. sym p.seen i ++ stamp_all v.number (sym rest i)) (stays m.seen v.number op reply new law fit (subst (λ (l : List I). step l op reply new) was did))

    pub replayed : (v m : View I) → AtPoint v m → (op : P) (reply : R) (before after : List I) → before ≡ items_of m.seen → (new : List I) × (after ≡ before ++ new) × step before op reply new
        → Replays step m.seen → Replays step ((both v m).seen ++ stamp_all v.number (drop (length before) after))
    replayed v m p op reply before after was (new, grew, did) (calls, made) =
        let rest : drop (length before) after ≡ new = ap (drop (length before)) grew ∙ drop-append_seam before new in
        let more = follows_more step [] m.seen calls (record { by = v.number; op = op; reply = reply; added = new }) made (subst (λ (l : List I). step l op reply new) was did) in
        subst (Replays step) (λ i. sym p.seen i ++ stamp_all v.number (sym rest i)) (calls ++ record { by = v.number; op = op; reply = reply; added = new } ∷ [], more)

  front_deaths : (log seen : List (Stamped I)) (r d : ℕ) → IsPrefix seen log → d ≡ deaths_of place (take r log) → r ≤ length seen → d ≡ deaths_of place (take r seen)
  front_deaths log seen r d (rest, whole) is low = is ∙ ap (deaths_of place) (ap (take r) (sym whole) ∙ take-append-le r seen rest low)

  pub met : (v n : View I) → v.numbered ≡ true → Told place (both v n) → Met place v n (both v n)
  met v n own (log, now, first, second, all, whole, mine) =
      let seen : List (Stamped I) = (both v n).seen in record {
        ours = (drop (length v.seen) n.seen, refl);
        theirs = prefix-in-longer v.seen n.seen log first.prefix second.prefix;
        longer = omega (arith, length-append v.seen (drop (length v.seen) n.seen), length-drop (length v.seen) n.seen);
        greater = refl;
        our_deaths = λ low. front_deaths log seen v.reach v.dead now.prefix first.deaths low;
        their_deaths = λ low. front_deaths log seen n.reach n.dead now.prefix second.deaths low;
        dead = refl;
        newer = (
          (λ same. now.deaths ∙ (ap (λ (r : ℕ). deaths_of place (take r log)) same ∙ sym first.deaths)),
          (λ same. now.deaths ∙ (ap (λ (r : ℕ). deaths_of place (take r log)) same ∙ sym second.deaths)),
        );
        mine = refl;
        own = (mine own).1;
        same = (refl, refl);
      }
