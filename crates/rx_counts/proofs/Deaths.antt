-- The death of a place.
use Rattle.std.proofs.Common.{◌≡◌, ℕ, ◌<◌, ◌^◌, Bool, true, false, ◌&&◌, ◌==◌, not, List, [], ◌∷◌, Option, Some, None, is_none, slice_index_or, slice_set, length, map, IfSome, refl, sym, ap, ◌∙◌, subst, arith, length-set}
use Rattle.std.specs.List.{list_any}
use Rattle.std.specs.Global.{Box}
use Rattle.std.proofs.lemmas.Bool.{eqb-true, eqb-false, lt-ltb, le-ltb}
use Rattle.std.proofs.lemmas.List.{get_or-set_same, get_or-set_other}
use Rattle.std.proofs.Math.Bool.{and-false, and-true}
use Rattle.rx_tree_laws.proofs.Parents.{based}
use Rattle.rx_rules.proofs.Common.{PlaceId, Tree, is_scope, the_root, hit, strike, Reached, dies as place_dies, has_number}
use Rattle.rx_rules.specs.declared.tasks.Blow.{Blow}
use Rattle.rx_rules.specs.declared.tasks.Scope.{Scope}
use Rattle.rx_tree_laws.specs.Sound.{Each, Sound}
use Rattle.rx_tree_laws.proofs.Changes.{each_found}
use Rattle.rx_tree_laws.proofs.Releasing.{each_below}
use Rattle.rx_tree_laws.proofs.Reached.{sound}
use Rattle.rx_finish.specs.Callers.{MayStrike}
use Rattle.rx_counts.specs.declared.record.Record.{Record}
use Rattle.rx_counts.specs.declared.ledger.CountLedger.{CountLedger}
use Rattle.rx_counts.specs.Keeping.{stands_home}
use Rattle.rx_counts.specs.Stands.{RecordsFit, StandsFor, Pairs, record_at}
use Rattle.rx_counts.specs.Inside.Dying.{StrikesRecord, MayHit, Passing, given_until}
use Rattle.rx_counts.proofs.Striking.{all_strike, may_hit}
use Rattle.rx_counts.proofs.Handing.{all_keeps}
use Rattle.rx_counts.proofs.Lasting.{root_keeps}
use Rattle.rx_counts.specs.Inside.Totalling.{dies, CanDie, toll_below}
use Rattle.rx_counts.proofs.Totalling.{AreOf, are, totals_are, scopes_length}
use Rattle.rx_counts.proofs.Tolls.{toll_is, one_dies}
use Rattle.rx_counts.proofs.Asking.{tasks_length, fit_shaped, room_kept, as_wide, wide}
use Rattle.rx_counts.proofs.Masking.{masked_keeps, masked_pairs}

-- The deaths of places, after one more.

home_after : (dead : List (Option ℕ)) (d : PlaceId) (n : ℕ) (g : Scope) → d.0 < length dead → stands_home (slice_set dead d.0 (Some n)) g ≡ (stands_home dead g && not (g.home.0 == d.0))
home_after dead d n g inside =
    (elim (g.home.0 == d.0) as (λ b. g.home.0 == d.0 ≡ b → stands_home (slice_set dead d.0 (Some n)) g ≡ (stands_home dead g && not b)) [
      | true ↦ λ e. ap is_none (ap (λ i. slice_index_or (slice_set dead d.0 (Some n)) i None) (eqb-true g.home.0 d.0 e) ∙ get_or-set_same dead d.0 (Some n) None inside) ∙ sym (and-false (stands_home dead g))
      | false ↦ λ e. ap is_none (get_or-set_other dead d.0 g.home.0 (Some n) None (eqb-false g.home.0 d.0 e)) ∙ sym (and-true (stands_home dead g))
    ]) refl

pub strike_ok : {room : ℕ} (l : CountLedger) (T : Tree) (d : PlaceId) (n : ℕ) → StandsFor l room T → MayStrike T d n → (d.0 < 16) × ((m : ℕ) → IfSome (record_at l.scopes m) (MayHit d))
strike_ok l T d n st may =
    let a = may.dies.0 in
    let b = wide l T st in
    let c = st.has_room.few in
    (omega arith, may_hit _ d (stands_home T.dead) T.scopes T.tasks l.scopes st.fit.scopes)

until_zero : (keeps : Scope → Bool) (d : PlaceId) (gs : List Scope) → Each (λ k. keeps k ≡ given_until keeps d 0 k) gs
until_zero keeps d [] = tt
until_zero keeps d (k ∷ ks) = (sym (ap (λ b. keeps k && not ((k.home.0 == d.0) && b)) (le-ltb k.number.0 0 (omega arith)) ∙ ap (λ b. keeps k && not b) (and-false (k.home.0 == d.0)) ∙ and-true (keeps k)), until_zero keeps d ks)

-- where the hand-over begins
pub begins : {room : ℕ} (l : CountLedger) (T : Tree) (d : PlaceId) (n : ℕ) (qs : List (Option (Box Record))) → StandsFor l room T → MayStrike T d n → l.next_task < 2 ^ 32 → l.next_scope < 2 ^ 32 → ((m : ℕ) → Pairs (StrikesRecord d) (record_at l.scopes m) (record_at qs m)) → Passing l.width (strike (record { place = d; entry = n }) T) (stands_home T.dead) (slice_set l.dead d.0 (Some n)) d 0 qs
begins l T d n qs st may few_t few_s struck =
    let b : Blow = record { place = d; entry = n } in
    let h : Sound T = sound st.reached in
    let U : Tree = strike b T in
    let after : Reached U = place_dies b st.reached may.dies may.later in
    let k : Sound U = sound after in
    let inside : d.0 < length T.dead = (let a = may.dies.0 in let c = h.few in omega arith) in
    let fit : RecordsFit l.width (stands_home T.dead) T.scopes (map (hit b) T.tasks) qs = all_strike _ b (stands_home T.dead) T.scopes T.tasks l.scopes qs struck st.fit.scopes in
    record {
      shaped = fit_shaped _ U (stands_home T.dead) qs k fit;
      after = λ g. ap (λ ds. stands_home (slice_set ds d.0 (Some n)) g) st.fit.dead ∙ home_after T.dead d n g inside;
      lived = λ g e. ap is_none (ap (λ i. slice_index_or T.dead i None) (eqb-true g.home.0 d.0 e) ∙ may.dies.2);
      root = subst (λ ds. list_any (λ g. is_scope the_root g && not (stands_home ds g)) T.scopes ≡ false) (sym (ap (λ ds. slice_set ds d.0 (Some n)) st.fit.dead)) (root_keeps U.dead U.scopes k.zero_lives k.root_home);
      based = based st.reached;
      few_tasks = (let a = tasks_length U.next_task U.tasks k.tasks_fall in let c = st.fit.next_task in omega arith);
      few_scopes = (let a = scopes_length T h in let c = st.fit.next_scope in omega arith);
      fit = all_keeps _ (stands_home T.dead) (given_until (stands_home T.dead) d 0) T.scopes (map (hit b) T.tasks) qs (until_zero (stands_home T.dead) d T.scopes) (λ m g found. each_found (λ g. stands_home T.dead g ≡ given_until (stands_home T.dead) d 0 g) (has_number m) T.scopes g (until_zero (stands_home T.dead) d T.scopes) found) fit;
      masked =
          masked_keeps (stands_home T.dead) (given_until (stands_home T.dead) d 0) T.scopes qs (until_zero (stands_home T.dead) d T.scopes)
          (masked_pairs (stands_home T.dead) T.scopes (StrikesRecord d) l.scopes qs (λ r q a. a.1.masked) struck st.fit.masked);
    }

until_last : (dead now : List (Option ℕ)) (d : PlaceId) (i : ℕ) (gs : List Scope) → ((g : Scope) → stands_home now g ≡ (stands_home dead g && not (g.home.0 == d.0))) → Each (λ g. g.number.0 < i) gs → Each (λ k. given_until (stands_home dead) d i k ≡ stands_home now k) gs
until_last dead now d i [] after low = tt
until_last dead now d i (k ∷ ks) after low = (
  ap (λ b. stands_home dead k && not ((k.home.0 == d.0) && b)) (lt-ltb k.number.0 i low.0) ∙ ap (λ b. stands_home dead k && not b) (and-true (k.home.0 == d.0)) ∙ sym (after k),
  until_last dead now d i ks after low.1,
)

-- the totals after the strike
pub strikes : {room : ℕ} (l : CountLedger) (T : Tree) (b : Blow) → StandsFor l room T → CanDie (toll_below b.place l.scopes (length l.scopes)) l.totals × AreOf (dies (toll_below b.place l.scopes (length l.scopes)) l.totals) (length T.scopes) (map (hit b) T.tasks)
strikes l T b st =
    one_dies l.totals (length T.scopes) b T.tasks (toll_below b.place l.scopes (length l.scopes))
    (toll_is _ T b.place l.scopes (sound st.reached) st.fit.scopes) (are l.totals T st.fit.totals)

-- and where it ends
pub died : {room : ℕ} (l m : CountLedger) (T : Tree) (d : PlaceId) (n i : ℕ) → StandsFor l room T → MayStrike T d n → i ≡ length l.scopes → m.places ≡ l.places → m.width ≡ l.width → m.dead ≡ slice_set l.dead d.0 (Some n) → m.next_task ≡ l.next_task → m.next_scope ≡ l.next_scope → m.totals ≡ dies (toll_below d l.scopes (length l.scopes)) l.totals → length m.scopes ≡ length l.scopes → Passing l.width (strike (record { place = d; entry = n }) T) (stands_home T.dead) (slice_set l.dead d.0 (Some n)) d i m.scopes → StandsFor m room (strike (record { place = d; entry = n }) T)
died l m T d n i st may is places width dead next_task next_scope totals len p =
    let b : Blow = record { place = d; entry = n } in
    let h : Sound T = sound st.reached in
    let U : Tree = strike b T in
    let same_dead : slice_set l.dead d.0 (Some n) ≡ U.dead = ap (λ ds. slice_set ds d.0 (Some n)) st.fit.dead in
    let low : Each (λ g. g.number.0 < i) T.scopes = subst (λ (j : ℕ). Each (λ g. g.number.0 < j) T.scopes) (sym (is ∙ st.fit.numbers)) (each_below T.next_scope T.scopes h.falls) in
    let same : Each (λ k. given_until (stands_home T.dead) d i k ≡ stands_home U.dead k) T.scopes = until_last T.dead U.dead d i T.scopes (λ g. ap (λ ds. stands_home ds g) (sym same_dead) ∙ p.after g) low in
    record {
      reached = place_dies b st.reached may.dies may.later;
      fit =
          record {
            places = places ∙ st.fit.places;
            dead = dead ∙ same_dead;
            next_task = next_task ∙ st.fit.next_task;
            next_scope = next_scope ∙ st.fit.next_scope;
            totals = totals ∙ totals_are (dies (toll_below d l.scopes (length l.scopes)) l.totals) U (strikes l T b st).1;
            numbers = len ∙ st.fit.numbers;
            scopes = as_wide l.width m.width (stands_home U.dead) T.scopes U.tasks m.scopes width (all_keeps _ (given_until (stands_home T.dead) d i) (stands_home U.dead) T.scopes U.tasks m.scopes same (λ j g found. each_found (λ k. given_until (stands_home T.dead) d i k ≡ stands_home U.dead k) (has_number j) T.scopes g same found) p.fit);
            masked = masked_keeps (given_until (stands_home T.dead) d i) (stands_home U.dead) T.scopes m.scopes same p.masked;
          };
      has_room = room_kept l m T U (length-set T.dead d.0 (Some n)) width refl st.has_room;
    }
