-- A legal history of the ledger is bounded: its terms make its entries, whatever the store answered.
use Rattle.std.proofs.Common.{◌≡◌, ℕ, suc, ◌+◌, ◌*◌, ◌≤◌, List, [], ◌∷◌, length, Some, slice_get, refl, arith, ap, sym, ◌∙◌, subst}
use Rattle.std.proofs.lemmas.List.{length-map}
use Rattle.rx_rules.specs.declared.entries.Entry.{Entry}
use Rattle.rx_rules.proofs.Common.{Block, work, Starts, Moves, Birth, birth_of, travels, moves_from, Given}
use Rattle.rx_runs.specs.AnyAnswers.{BeginsWork, EachWorks, sum_of, MadeIn}
use Rattle.rx_runs.proofs.Making.{begins_work}
use Rattle.rx_runs.proofs.Entering.{made_bounded}
use Rattle.rx_parts.specs.Ledger.{LedgerItem, Actor, main_actor, LegalLedger, entries_of}
use Rattle.rx_parts.proofs.Lists.{got_map}
use Rattle.rx_parts.proofs.Tasks.{later, begins_of}
use Rattle.rx_parts.proofs.Along.{sized_along}
use Rattle.rx_parts.proofs.Whole.{start_of, starts_of, agrees, legal_ok, legal_moves, legal_birth}
use Rattle.rx_parts_bounds.specs.Bounds.{LedgerBounded}

-- the entries of task k are made in some number of steps
abbrev WorksHere : Starts → List Entry → ℕ → Actor → Type 0
WorksHere starts es k a = (n : ℕ) × BeginsWork starts (birth_of es k).to (travels (birth_of es k)) n a.start.1 a.start.0 (moves_from 0 es k)

each_works : (starts : Starts) (es : List Entry) (n : ℕ) (actors : List Actor) → ((k : ℕ) (a : Actor) → slice_get actors k ≡ Some a → WorksHere starts es (n + k) a) → (ns : List ℕ) × EachWorks starts es n (starts_of actors) ns
each_works starts es n [] f = ([], tt)
each_works starts es n (a ∷ actors) f =
    let z : n + 0 ≡ n = omega arith in
    let one : WorksHere starts es n a = subst (λ (v : ℕ). WorksHere starts es v a) z (f 0 a refl) in
    let rest = each_works starts es (suc n) actors (λ k b got. let e : n + suc k ≡ suc n + k = omega arith in subst (λ (v : ℕ). WorksHere starts es v b) e (f (suc k) b got)) in
    (one.0 ∷ rest.0, (one.1, rest.1))

works_here : (code : Block) (U : Given) (h : List LedgerItem) (legal : LegalLedger code U h) (k : ℕ) (a : Actor) → slice_get legal.actors k ≡ Some a → WorksHere (starts_of legal.actors) (entries_of h) k a
works_here code U h legal k a got =
    let made = begins_of (legal_ok (starts_of legal.actors) code U h legal (agrees legal.actors) k a got) in
    let w = begins_work (starts_of legal.actors) a.birth.to (travels a.birth) a.birth.low a.start.1 a.start.0 a.named a.moves made in (
      w.0,
      subst (λ (v : Birth). BeginsWork (starts_of legal.actors) v.to (travels v) w.0 a.start.1 a.start.0 (moves_from 0 (entries_of h) k)) (sym (legal_birth code U h legal k a got))
          (subst (λ (v : Moves). BeginsWork (starts_of legal.actors) a.birth.to (travels a.birth) w.0 a.start.1 a.start.0 v) (legal_moves code U h legal k a got) w.1),
    )

-- the terms make the entries in so many steps
pub legal_made : (code : Block) (U : Given) (h : List LedgerItem) → LegalLedger code U h → (n : ℕ) × MadeIn code U.places (entries_of h) n
legal_made code U h legal =
    let first = later 0 (main_actor code U.places ∷ []) h legal.actors legal.made 0 (main_actor code U.places) refl in
    let w = each_works (starts_of legal.actors) (entries_of h) 0 legal.actors (λ k a got. let z : 0 + k ≡ k = omega arith in subst (λ (v : ℕ). WorksHere (starts_of legal.actors) (entries_of h) v a) (sym z) (works_here code U h legal k a got)) in (
      sum_of w.0,
      record {
        starts = starts_of legal.actors;
        main = got_map start_of legal.actors 0 first.0 first.1 ∙ ap Some first.2.start;
        all = length-map legal.actors start_of ∙ sized_along 0 (main_actor code U.places ∷ []) h legal.actors legal.made;
        counts = w.0;
        each = w.1;
        total = refl;
      },
    )

pub ledger_bounded : LedgerBounded
ledger_bounded code U h proper legal =
    let m = legal_made code U h legal in
    let size : length (entries_of h) ≡ length h = length-map h (λ (i : LedgerItem). i.entry) in
    subst (λ (v : ℕ). v ≤ 4 * work code + U.places + 2 * length U.joins + 1) size (made_bounded code U (entries_of h) m.0 proper legal.folds m.1)
