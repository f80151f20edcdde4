-- How many tasks a death strikes: the sum over the records, since each task counts in one of them.
use Rattle.std.proofs.Common.{◌≡◌, ℕ, zero, suc, ◌<◌, ◌≤◌, ◌+◌, ◌^◌, Bool, true, false, cond, ◌||◌, ◌&&◌, ◌==◌, not, List, [], ◌∷◌, Option, Some, None, is_none, is_some, length, map, count_by, refl, sym, ap, ◌∙◌, subst, arith, ⊎_elim}
use Rattle.std.specs.List.{find}
use Rattle.std.specs.Global.{Box}
use Rattle.std.proofs.lemmas.Bool.{eqb-true, eq-eqb, ne_eqb, true≢false, cases_eq, cases_lt}
use Rattle.std.proofs.Math.Bool.{and-false, and-true}
use Rattle.rx_rules.proofs.Common.{PlaceId, Tree, hit, is_hit, has_number}
use Rattle.rx_base.proofs.Options.{some-of}
use Rattle.rx_rules.specs.declared.tasks.Where.{Where}
use Rattle.rx_rules.specs.declared.tasks.Where.TheVariants.{At, Travel}
use Rattle.rx_rules.specs.declared.tasks.Blow.{Blow}
use Rattle.rx_rules.specs.declared.tasks.Task.{Task}
use Rattle.rx_rules.specs.declared.tasks.Scope.{Scope}
use Rattle.rx_tree_laws.specs.Sound.{Sound, TaskFits, Each}
use Rattle.rx_tree_laws.proofs.Reached.{sound}
use Rattle.rx_tree_laws.proofs.Releasing.{each_all}
use Rattle.rx_tree_laws.proofs.Changes.{each_more}
use Rattle.rx_tree_laws.proofs.Blows.{hit_place, hit_struck}
use Rattle.rx_finish.specs.declared.totals.Totals.{Totals}
use Rattle.rx_finish.specs.Callers.{does_travel}
use Rattle.rx_finish.specs.Totals.{is_live, is_travelling}
use Rattle.rx_counts.specs.declared.dying.Toll.{Toll}
use Rattle.rx_counts.specs.declared.record.Record.{Record}
use Rattle.rx_counts.specs.declared.ledger.CountLedger.{CountLedger}
use Rattle.rx_counts.specs.Keeping.{stands_home, keeper, is_number, kept_at, same_where, count_of}
use Rattle.rx_counts.specs.Stands.{RecordOf, Both, RecordsFit, StandsFor, record_at}
use Rattle.rx_counts.specs.Inside.Totalling.{dies, CanDie, toll_in, toll_below, sum_below, IsSmall}
use Rattle.rx_counts.proofs.Counting.{one, count_cons, count_none, count_split, count_map}
use Rattle.rx_counts.proofs.Joining.{number_is}
use Rattle.rx_counts.proofs.Walks.{keeper_stands}
use Rattle.rx_counts.proofs.Asking.{kept_at_keeper, keeper_known}
use Rattle.rx_counts.proofs.Totalling.{AreOf, few_tasks}
use Rattle.rx_counts.proofs.Striking.{struck_count, hits_are}

-- Sums of the numbers below n.

below_same : (f g : ℕ → ℕ) (n : ℕ) → ((i : ℕ) → f i ≡ g i) → sum_below f n ≡ sum_below g n
below_same f g zero e = refl
below_same f g (suc n) e = let a = below_same f g n e in let b = e n in omega arith

below_split : (f g h : ℕ → ℕ) (n : ℕ) → ((i : ℕ) → f i ≡ g i + h i) → sum_below f n ≡ sum_below g n + sum_below h n
below_split f g h zero e = refl
below_split f g h (suc n) e = let a = below_split f g h n e in let b = e n in omega arith

below_none : (n : ℕ) → sum_below (λ i. 0) n ≡ 0
below_none zero = refl
below_none (suc n) = let a = below_none n in omega arith

-- a sum is no less than a sum of fewer
pub below_more : (f : ℕ → ℕ) (k n : ℕ) → k < n → sum_below f k + f k ≤ sum_below f n
below_more f k zero low = absurd (omega arith)
below_more f k (suc n) low =
    ⊎_elim
    (λ (e : k ≡ n). subst (λ (m : ℕ). sum_below f m + f m ≤ sum_below f n + f n) (sym e) (omega arith))
    (λ (apart : k ≡ n → ⊥). let a = below_more f k n (lower k n apart low) in omega arith)
    (cases_eq k n)
  where
    lower : (k n : ℕ) → (k ≡ n → ⊥) → k < suc n → k < n
    lower k n apart low = ⊎_elim (λ (a : k < n). a) (λ (b : n ≤ k). absurd (apart (omega arith))) (cases_lt k n)

-- a number is one of those below n, or none of them
off_one : (b : Bool) (m n : ℕ) → (m ≡ n → ⊥) → one (b && (m == n)) ≡ 0
off_one b m n apart = ap (λ c. one (b && c)) (ne_eqb m n apart) ∙ ap one (and-false b)

on_one : (b : Bool) (m n : ℕ) → m ≡ n → one (b && (m == n)) ≡ one b
on_one b m n e = ap (λ c. one (b && c)) (eq-eqb m n e) ∙ ap one (and-true b)

below_off : (b : Bool) (m n : ℕ) → n ≤ m → sum_below (λ i. one (b && (m == i))) n ≡ 0
below_off b m zero le = refl
below_off b m (suc n) le = let a = below_off b m n (omega arith) in let c = off_one b m n (λ e. absurd (omega arith)) in omega arith

below_one : (b : Bool) (m n : ℕ) → m < n → sum_below (λ i. one (b && (m == i))) n ≡ one b
below_one b m zero low = absurd (omega arith)
below_one b m (suc n) low =
    ⊎_elim
    (λ (e : m ≡ n). let a = below_off b m n (omega arith) in let c = on_one b m n e in omega arith)
    (λ (apart : m ≡ n → ⊥). let a = below_one b m n (lower m n apart low) in let c = off_one b m n apart in omega arith)
    (cases_eq m n)
  where
    lower : (k n : ℕ) → (k ≡ n → ⊥) → k < suc n → k < n
    lower k n apart low = ⊎_elim (λ (a : k < n). a) (λ (b : n ≤ k). absurd (apart (omega arith))) (cases_lt k n)

-- each element has one key below n: counted key by key, they are all counted
below_keys : (p : Task → Bool) (key : Task → Option ℕ) (n : ℕ) (ts : List Task) → Each (λ x. (m : ℕ) × (key x ≡ Some m) × (m < n)) ts → sum_below (λ i. count_by (λ x. p x && is_number i (key x)) ts) n ≡ count_by p ts
below_keys p key n [] h = below_none n
below_keys p key n (x ∷ xs) h =
    let a = below_split (λ i. count_by (λ y. p y && is_number i (key y)) (x ∷ xs)) (λ i. one (p x && is_number i (key x))) (λ i. count_by (λ y. p y && is_number i (key y)) xs) n (λ i. count_cons (λ y. p y && is_number i (key y)) x xs) in
    let b = below_same (λ i. one (p x && is_number i (key x))) (λ i. one (p x && (h.0.0 == i))) n (λ i. ap (λ o. one (p x && is_number i o)) h.0.1) in
    let c = below_one (p x) h.0.0 n h.0.2 in
    let d = below_keys p key n xs h.1 in
    let e = count_cons p x xs in
    omega arith

-- The records.

-- each task counts in the record of a number
keys : (size : ℕ) (T : Tree) (rs : List (Option (Box Record))) → Sound T → RecordsFit size (stands_home T.dead) T.scopes T.tasks rs → Each (λ x. (m : ℕ) × (keeper (stands_home T.dead) T.scopes (Some x.under) ≡ Some m) × (m < length rs)) T.tasks
keys size T rs h fit =
    each_more (TaskFits T.dead T.places T.scopes) (λ x. (m : ℕ) × (keeper (stands_home T.dead) T.scopes (Some x.under) ≡ Some m) × (m < length rs))
    (λ (x : Task) f.
    let k = some-of (keeper (stands_home T.dead) T.scopes (Some x.under)) (keeper_known T x.under h f.rooted) in
    (k.0, k.1, (kept_at_keeper T rs (Some x.under) k.0 fit k.1).low)) T.tasks h.tasks

-- no task counts where no scope stands
none_there : (keeps : Scope → Bool) (gs : List Scope) (n : ℕ) (x : Task) → find (has_number n) gs ≡ None → kept_at keeps gs n x ≡ false
none_there keeps gs n x none =
    (elim (keeper keeps gs (Some x.under)) as (λ o. keeper keeps gs (Some x.under) ≡ o → is_number n o ≡ false) [
      | Some m ↦ λ e.
          (elim (m == n) as (λ b. m == n ≡ b → b ≡ false) [
            | true ↦ λ k. let a = keeper_stands keeps n gs (Some x.under) (e ∙ ap (λ i. Some i) (eqb-true m n k)) in absurd (true≢false (sym a ∙ ap is_some none))
            | false ↦ λ k. refl
          ]) refl
      | None ↦ λ e. refl
    ]) refl

record_toll : (size : ℕ) (d : PlaceId) (keeps : Scope → Bool) (gs : List Scope) (ts : List Task) (rs : List (Option (Box Record))) (n : ℕ) → RecordsFit size keeps gs ts rs → ((toll_in d (record_at rs n)).all ≡ struck_count d keeps gs ts n) × ((toll_in d (record_at rs n)).there ≡ count_of keeps gs ts n (At d))
record_toll size d keeps gs ts rs n fit = toll_is (record_at rs n) (find (has_number n) gs) refl (fit n)
  where
    toll_is : (o : Option Record) (g : Option Scope) → find (has_number n) gs ≡ g → Both (RecordOf size keeps gs ts) o g → ((toll_in d o).all ≡ struck_count d keeps gs ts n) × ((toll_in d o).there ≡ count_of keeps gs ts n (At d))
    toll_is (Some r) (Some g) e a =
        let num : g.number.0 ≡ n = number_is n gs g e in (
          hits_are d keeps gs ts r.sums g.number.0 a.sums ∙ ap (struck_count d keeps gs ts) num,
          a.sums.counts (At d) ∙ ap (λ m. count_of keeps gs ts m (At d)) num,
        )
    toll_is (Some r) None e a = absurd a
    toll_is None (Some g) e a = absurd a
    toll_is None None e a = (
      sym (count_none (λ x. (is_none x.struck && is_hit d x.place) && kept_at keeps gs n x) ts (each_all _ (λ (x : Task). ap (λ b. (is_none x.struck && is_hit d x.place) && b) (none_there keeps gs n x e) ∙ and-false (is_none x.struck && is_hit d x.place)) ts)),
      sym (count_none (λ x. (is_none x.struck && same_where (At d) x.place) && kept_at keeps gs n x) ts (each_all _ (λ (x : Task). ap (λ b. (is_none x.struck && same_where (At d) x.place) && b) (none_there keeps gs n x e) ∙ and-false (is_none x.struck && same_where (At d) x.place)) ts)),
    )

-- the toll is the number of tasks that are struck, and of those that are at the place
pub record IsToll (d : PlaceId) (ts : List Task) (toll : Toll) : Type 0 where
  pub all : toll.all ≡ count_by (λ x. is_none x.struck && is_hit d x.place) ts
  pub there : toll.there ≡ count_by (λ x. is_none x.struck && same_where (At d) x.place) ts

pub toll_is : (size : ℕ) (T : Tree) (d : PlaceId) (rs : List (Option (Box Record))) → Sound T → RecordsFit size (stands_home T.dead) T.scopes T.tasks rs → IsToll d T.tasks (toll_below d rs (length rs))
toll_is size T d rs h fit =
    let keeps : Scope → Bool = stands_home T.dead in
    let k = keys size T rs h fit in
    record {
      all =
          below_same (λ i. (toll_in d (record_at rs i)).all) (struck_count d keeps T.scopes T.tasks) (length rs) (λ i. (record_toll _ d keeps T.scopes T.tasks rs i fit).0)
          ∙ below_keys (λ x. is_none x.struck && is_hit d x.place) (λ x. keeper keeps T.scopes (Some x.under)) (length rs) T.tasks k;
      there =
          below_same (λ i. (toll_in d (record_at rs i)).there) (λ i. count_of keeps T.scopes T.tasks i (At d)) (length rs) (λ i. (record_toll _ d keeps T.scopes T.tasks rs i fit).1)
          ∙ below_keys (λ x. is_none x.struck && same_where (At d) x.place) (λ x. keeper keeps T.scopes (Some x.under)) (length rs) T.tasks k;
    }

-- it is a number of 32 bits
pub toll_small : {room : ℕ} (l : CountLedger) (T : Tree) (d : PlaceId) → StandsFor l room T → l.next_task < 2 ^ 32 → IsSmall (toll_below d l.scopes (length l.scopes))
toll_small l T d st few =
    let h : Sound T = sound st.reached in
    let t = toll_is _ T d l.scopes h st.fit.scopes in
    let a = t.all in
    let b = t.there in
    let c = few_tasks T (λ x. is_none x.struck && is_hit d x.place) h in
    let e = few_tasks T (λ x. is_none x.struck && same_where (At d) x.place) h in
    let n = st.fit.next_task in
    (omega arith, omega arith)

-- One record more.

pub toll_fits : (d : PlaceId) (rs : List (Option (Box Record))) (i : ℕ) (a b : Toll) (o : Option Record) → i < length rs → a ≡ toll_below d rs i → b ≡ toll_in d o → o ≡ record_at rs i → IsSmall (toll_below d rs (length rs)) → (a.all + b.all < 2 ^ 32) × (a.there + b.there < 2 ^ 32)
toll_fits d rs i a b o low ea eb eo small =
    let x = below_more (λ j. (toll_in d (record_at rs j)).all) i (length rs) low in
    let y = below_more (λ j. (toll_in d (record_at rs j)).there) i (length rs) low in
    let e : b ≡ toll_in d (record_at rs i) = eb ∙ ap (toll_in d) eo in
    let aa = ap (λ (t : Toll). t.all) ea in
    let at = ap (λ (t : Toll). t.there) ea in
    let ba = ap (λ (t : Toll). t.all) e in
    let bt = ap (λ (t : Toll). t.there) e in
    let p = small.0 in
    let q = small.1 in
    (omega arith, omega arith)

pub toll_next : (d : PlaceId) (rs : List (Option (Box Record))) (i : ℕ) (a b c : Toll) (o : Option Record) → a ≡ toll_below d rs i → b ≡ toll_in d o → o ≡ record_at rs i → c ≡ record { all = a.all + b.all; there = a.there + b.there } → c ≡ toll_below d rs (i + 1)
toll_next d rs i a b c o ea eb eo ec =
    (let next : toll_below d rs (suc i) ≡ toll_below d rs (i + 1) = ap (toll_below d rs) (let e : suc i ≡ i + 1 = omega arith in e) in
    (let now : c ≡ toll_below d rs (suc i) =
    ec
    ∙ ap (λ (t : Toll). record { all = t.all + b.all; there = t.there + b.there }) ea
    ∙ ap (λ (t : Toll). record { all = (toll_below d rs i).all + t.all; there = (toll_below d rs i).there + t.there }) (eb ∙ ap (toll_in d) eo)
    in now ∙ next))

-- One task, before the death and after it.

-- of those on their way
abbrev goes_there : PlaceId → Where → Bool
goes_there d w = is_hit d w && does_travel w

all_cell : (d : PlaceId) (o : Option Blow) (w : Where) → one (is_none o && is_hit d w) ≡ one (is_none o && same_where (At d) w) + one (is_none o && goes_there d w)
all_cell d (Some c) w = refl
all_cell d None (At q) = elim (q.0 == d.0) as (λ h. one h ≡ one h + one (h && false)) [ true ↦ refl | false ↦ refl ]
all_cell d None (Travel f t) = elim ((f.0 == d.0) || (t.0 == d.0)) as (λ h. one h ≡ 0 + one (h && true)) [ true ↦ refl | false ↦ refl ]

live_cell : (b : Blow) (o : Option Blow) (w : Where) → one (is_none o && not (does_travel w)) ≡ one (is_none (cond (is_none o && is_hit b.place w) (Some b) o) && not (does_travel w)) + one (is_none o && same_where (At b.place) w)
live_cell b (Some c) w = refl
live_cell b None (At q) = elim (q.0 == b.place.0) as (λ h. 1 ≡ one (is_none (cond h (Some b) None) && true) + one h) [ true ↦ refl | false ↦ refl ]
live_cell b None (Travel f t) = elim (is_hit b.place (Travel f t)) as (λ h. 0 ≡ one (is_none (cond h (Some b) None) && false) + 0) [ true ↦ refl | false ↦ refl ]

travel_cell : (b : Blow) (o : Option Blow) (w : Where) → one (is_none o && does_travel w) ≡ one (is_none (cond (is_none o && is_hit b.place w) (Some b) o) && does_travel w) + one (is_none o && goes_there b.place w)
travel_cell b (Some c) w = refl
travel_cell b None (At q) = elim (q.0 == b.place.0) as (λ h. 0 ≡ one (is_none (cond h (Some b) None) && false) + one (h && false)) [ true ↦ refl | false ↦ refl ]
travel_cell b None (Travel f t) = elim (is_hit b.place (Travel f t)) as (λ h. 1 ≡ one (is_none (cond h (Some b) None) && true) + one (h && true)) [ true ↦ refl | false ↦ refl ]

-- where it is and whether it is struck, afterwards
after_live : (b : Blow) (x : Task) → is_live (hit b x) ≡ is_none (cond (is_none x.struck && is_hit b.place x.place) (Some b) x.struck) && not (does_travel x.place)
after_live b x = ap (λ o. is_none o && not (does_travel (hit b x).place)) (hit_struck b x (is_none x.struck && is_hit b.place x.place)) ∙ ap (λ w. is_none (cond (is_none x.struck && is_hit b.place x.place) (Some b) x.struck) && not (does_travel w)) (hit_place b x)

after_travel : (b : Blow) (x : Task) → is_travelling (hit b x) ≡ is_none (cond (is_none x.struck && is_hit b.place x.place) (Some b) x.struck) && does_travel x.place
after_travel b x = ap (λ o. is_none o && does_travel (hit b x).place) (hit_struck b x (is_none x.struck && is_hit b.place x.place)) ∙ ap (λ w. is_none (cond (is_none x.struck && is_hit b.place x.place) (Some b) x.struck) && does_travel w) (hit_place b x)

pub one_dies : (t : Totals) (n : ℕ) (b : Blow) (ts : List Task) (toll : Toll) → IsToll b.place ts toll → AreOf t n ts → CanDie toll t × AreOf (dies toll t) n (map (hit b) ts)
one_dies t n b ts toll is h =
    let there = is.there in
    let all = is.all in
    let live = h.live in
    let travel = h.travel in
    let a = count_split (λ x. is_none x.struck && is_hit b.place x.place) (λ x. is_none x.struck && same_where (At b.place) x.place) (λ x. is_none x.struck && goes_there b.place x.place) ts (each_all _ (λ (x : Task). all_cell b.place x.struck x.place) ts) in
    let c = count_split is_live (λ x. is_live (hit b x)) (λ x. is_none x.struck && same_where (At b.place) x.place) ts (each_all _ (λ (x : Task). live_cell b x.struck x.place ∙ ap (λ (v : ℕ). v + one (is_none x.struck && same_where (At b.place) x.place)) (ap one (sym (after_live b x)))) ts) in
    let d = count_split is_travelling (λ x. is_travelling (hit b x)) (λ x. is_none x.struck && goes_there b.place x.place) ts (each_all _ (λ (x : Task). travel_cell b x.struck x.place ∙ ap (λ (v : ℕ). v + one (is_none x.struck && goes_there b.place x.place)) (ap one (sym (after_travel b x)))) ts) in
    let e = count_map is_live (hit b) ts in
    let f = count_map is_travelling (hit b) ts in (
      record { part = omega arith; live = omega arith; travel = omega arith },
      record { scopes = h.scopes; live = omega arith; travel = omega arith },
    )
