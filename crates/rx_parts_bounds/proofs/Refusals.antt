-- What is not legal.
use Rattle.std.proofs.Common.{◌≡◌, ℕ, suc, ◌<◌, ◌≤◌, pos, List, [], ◌∷◌, ◌++◌, Some, slice_get, get_or, take, drop, refl, lit≤, arith, sym, subst}
use mathlib.Core.List.{IsPrefix}
use Rattle.rx_rules.proofs.Common.{PlaceId, TaskId, Block, Nothing, does, begins, Cells, Tells, Given, t, joining_script, joining_setup}
use Rattle.rx_rules.specs.declared.entries.Act.{Act}
use Rattle.rx_rules.specs.declared.entries.Act.TheVariants.{Print}
use Rattle.rx_rules.specs.declared.entries.Entry.{Entry}
use Rattle.rx_rules.specs.declared.entries.Entry.TheVariants.{Step}
use Rattle.rx_rules.specs.declared.events.Cell.TheVariants.{Make}
use Rattle.rx_rules.specs.declared.events.PlaceEvent.{PlaceEvent}
use Rattle.rx_rules.specs.Plays.{Fits}
use Rattle.rx_runs.specs.Segments.{Stand}
use Rattle.rx_runs.specs.AnyAnswers.{AsksStore}
use Rattle.rx_parts.specs.Ledger.{Actor, Present, Walks, stays, local, stores, main_actor, ItemMakes, hosts, arrives, asks, ends, LegalLedger}
use Rattle.rx_parts.specs.Places.{MadeEvent, LegalPlace, MayMake}
use Rattle.rx_parts.specs.Parts.{AreParts}
use Rattle.rx_parts.proofs.Lists.{one_item}
use Rattle.rx_parts.proofs.Growing.{one-account}
use Rattle.rx_parts.proofs.Prefixes.{prefix-legal}
use Rattle.rx_parts.proofs.Whole.{legal_later}
use Rattle.rx_parts_bounds.specs.Examples.{maker_script, maker_setup, maker_arrives, maker_prints, maker_at_work, own_block, maker_lost, maker_events, makers_script, makers_setup, makers_start, makers_print, joining_history}
use Rattle.rx_parts_bounds.specs.Refused.{names_nothing, by_another, names_later, late_death_setup, after_the_root, made_early, made_on_the_way, made_first, made_second, made_larger, made_twice, after_first, made_by_another, made_after_the_end, after_both, stamps_fall, forgets_an_entry}
use Rattle.rx_parts_bounds.proofs.Telling.{Below, walk_below}
use Rattle.rx_parts_bounds.proofs.MakerRows.{maker_legal, arrived_legal, at_work_legal}
use Rattle.rx_parts_bounds.proofs.MakersRows.{start_legal, printed_legal}

-- Entries.

-- the task at place 1 that has arrived
abbrev arrived : Actor
arrived = get_or arrived_legal.actors 1 (main_actor maker_script 2)

-- what its print asks, by this caller and with these events
pub record PrintAsks (by : List ℕ) (cells : Cells) : Type 0 where
  pub holds : by ≡ arrived.holder
  pub act : Act
  pub stand : Stand
  pub walks : Walks arrived.birth.to arrived.stand cells stand
  pub low : stand.low ≤ 4
  pub fits : Fits arrived.birth.to stand.term (does stand.vars arrived.birth.to.0 stand.term) act

print_asks : {by : List ℕ} {cells : Cells} {next : List Actor} → ItemMakes 4 arrived_legal.actors (maker_prints by cells) next → PrintAsks by cells
print_asks (hosts h) = absurd h
print_asks (arrives u q a is got by away none) = absurd (let f : ⊥ = cc in f)
print_asks {by = who} {cells = cells} (asks u act a z is got by there walks low fits) =
    let task : u ≡ t 1 = (let e : ◌≡◌ {A = Entry} (Step (t 1) (Print (pos 5) (0 ∷ 0 ∷ 1 ∷ [])) ((0 ∷ 0 ∷ 0 ∷ []) ∷ [])) (Step u act z.batch) = is in cc) in
    let it : a ≡ arrived = sym (one_item (slice_get arrived_legal.actors 1) arrived a refl (subst (λ (v : TaskId). slice_get arrived_legal.actors v.0 ≡ Some a) task got)) in
    record {
      holds = subst (λ (v : Actor). who ≡ v.holder) it by;
      act = act;
      stand = z;
      walks = subst (λ (v : Actor). Walks v.birth.to v.stand cells z) it walks;
      low = low;
      fits = subst (λ (v : Actor). Fits v.birth.to z.term (does z.vars v.birth.to.0 z.term) act) it fits;
    }
print_asks (ends u faults a z is got by there walks low done) = absurd (let f : ⊥ = cc in f)

printed : (by : List ℕ) (cells : Cells) → LegalLedger maker_script maker_setup (maker_arrives ++ maker_prints by cells ∷ []) → PrintAsks by cells
printed by cells legal =
    print_asks (legal_later maker_script maker_setup maker_arrives (maker_arrives ++ maker_prints by cells ∷ []) arrived_legal legal (maker_prints by cells ∷ [], refl)).1

-- a walk without events stays where the term asks the store
no_walk : {here : PlaceId} {a z : Stand} {cells : Cells} → Walks here a cells z → cells ≡ [] → AsksStore (does a.vars here.0 a.term) → z ≡ a
no_walk stays e h = refl
no_walk (local f w) e h = absurd (subst AsksStore f h)
no_walk (stores answer le tells b w) e h = absurd (let f : ⊥ = cc in f)

pub unnamed_refused : LegalLedger maker_script maker_setup names_nothing → ⊥
unnamed_refused legal =
    let ask = printed (0 ∷ []) [] legal in
    subst (λ (v : Stand). Fits arrived.birth.to v.term (does v.vars arrived.birth.to.0 v.term) ask.act) (no_walk ask.walks refl tt) ask.fits

pub unheld_refused : LegalLedger maker_script maker_setup by_another → ⊥
unheld_refused legal =
    let ask = printed [] own_block legal in let holder : ◌≡◌ {A = List ℕ} [] (0 ∷ []) = ask.holds in let f : ⊥ = cc in f

pub later_refused : LegalLedger maker_script maker_setup names_later → ⊥
later_refused legal =
    let ask = printed (0 ∷ []) ((5, Make 4 0 1, 0 ∷ 0 ∷ 0 ∷ []) ∷ []) legal in
    let below : Below (suc ask.stand.low) ((5, Make 4 0 1, 0 ∷ 0 ∷ 0 ∷ []) ∷ []) = walk_below ask.walks in
    let stamp : 5 < suc ask.stand.low = below.0 in
    let low : ask.stand.low ≤ 4 = ask.low in
    omega (arith, stamp, low)

pub root_refused : LegalLedger Nothing late_death_setup after_the_root → ⊥
root_refused legal = let nothing = legal.last in let f : ⊥ = cc in f

-- Events.

-- an event's task is as the carried history says
is_actor : (code : Block) (U : Given) (p : ℕ) (before : List PlaceEvent) (m : MadeEvent) (h : MayMake code U p before m) (k : LegalLedger code U m.carried) (a : Actor) → slice_get k.actors m.task.0 ≡ Some a → h.actor ≡ a
is_actor code U p before m h k a got =
    one_item (slice_get k.actors m.task.0) h.actor a (subst (λ (v : List Actor). slice_get v m.task.0 ≡ Some h.actor) (one-account code U m.carried h.legal k) h.stands) got

-- where no event came since, its term stands where it did
stands_there : (code : Block) (U : Given) (p : ℕ) (before : List PlaceEvent) (m : MadeEvent) (h : MayMake code U p before m) (a : Actor) → h.actor ≡ a → h.since ≡ [] → AsksStore (does a.stand.vars a.birth.to.0 a.stand.term) → h.stand ≡ a.stand
stands_there code U p before m h a it none store = no_walk (subst (λ (v : Actor). Walks v.birth.to v.stand h.since h.stand) it h.walks) none store

-- the task at place 1 before it arrives, and after it has printed
abbrev on_its_way : LegalLedger maker_script maker_setup (take 3 maker_arrives)
on_its_way =
    record {
      folds = (prefix-legal maker_script maker_setup (take 3 maker_arrives) (drop 3 (maker_at_work ++ maker_lost)) maker_legal).folds;
      last = tt;
      actors = _;
      made = (
        _,
        asks (t 0) _ _ _ refl refl refl refl stays (lit≤ tt) refl,
        (
          _,
          asks (t 0) _ _ _ refl refl refl refl stays (lit≤ tt) (refl, refl, refl),
          (_, asks (t 0) _ _ _ refl refl refl refl stays (lit≤ tt) refl, refl),
        ),
      );
    }

abbrev travelling : Actor
travelling = get_or on_its_way.actors 1 (main_actor maker_script 2)

abbrev at_work : Actor
at_work = get_or at_work_legal.actors 1 (main_actor maker_script 2)

pub early_refused : MayMake maker_script maker_setup 1 [] made_early → ⊥
early_refused h =
    let it : h.actor ≡ arrived = is_actor maker_script maker_setup 1 [] made_early h arrived_legal arrived refl in
    let low : 4 ≤ 3 = subst (λ (v : Actor). v.stand.low ≤ 3) it h.above in
    omega arith

pub on_the_way_refused : MayMake maker_script maker_setup 1 [] made_on_the_way → ⊥
on_the_way_refused h =
    let it : h.actor ≡ travelling = is_actor maker_script maker_setup 1 [] made_on_the_way h on_its_way travelling refl in
    let there : travelling.phase ≡ Present = subst (λ (v : Actor). v.phase ≡ Present) it h.here in
    let f : ⊥ = cc in f

pub elsewhere_refused : MayMake maker_script maker_setup 0 [] made_first → ⊥
elsewhere_refused h =
    let it : h.actor ≡ arrived = is_actor maker_script maker_setup 0 [] made_first h arrived_legal arrived refl in
    let place : ◌≡◌ {A = ℕ} 1 0 = subst (λ (v : Actor). ◌≡◌ {A = ℕ} v.birth.to.0 0) it h.place in
    omega arith

-- the second block needs the first
pub without_refused : MayMake maker_script maker_setup 1 [] made_second → ⊥
without_refused h =
    let it : h.actor ≡ at_work = is_actor maker_script maker_setup 1 [] made_second h at_work_legal at_work refl in
    let none : ◌≡◌ {A = Cells} [] (at_work.named ++ h.since) = subst (λ (v : Actor). ◌≡◌ {A = Cells} [] (v.named ++ h.since)) it h.earlier in
    let f : ⊥ = cc in f

-- and behind the first its term asks for the second
pub larger_refused : MayMake maker_script maker_setup 1 after_first made_larger → ⊥
larger_refused h =
    let it : h.actor ≡ at_work = is_actor maker_script maker_setup 1 after_first made_larger h at_work_legal at_work refl in
    let first : ◌≡◌ {A = Cells} own_block (at_work.named ++ h.since) = subst (λ (v : Actor). ◌≡◌ {A = Cells} own_block (v.named ++ h.since)) it h.earlier in
    let none : ◌≡◌ {A = Cells} h.since [] = cc in
    let there : h.stand ≡ at_work.stand = stands_there maker_script maker_setup 1 after_first made_larger h at_work it none tt in
    let tells : Tells (does h.stand.vars at_work.birth.to.0 h.stand.term) at_work.birth.to (Make 5 4 2) h.answer = subst (λ (v : Actor). Tells (does h.stand.vars v.birth.to.0 h.stand.term) v.birth.to (Make 5 4 2) h.answer) it h.tells in
    let words : Tells (does at_work.stand.vars at_work.birth.to.0 at_work.stand.term) at_work.birth.to (Make 5 4 2) h.answer = subst (λ (v : Stand). Tells (does v.vars at_work.birth.to.0 v.term) at_work.birth.to (Make 5 4 2) h.answer) there tells in
    let five : ◌≡◌ {A = ℕ} 5 4 = words.0 in
    omega arith

pub twice_refused : MayMake maker_script maker_setup 1 after_first made_twice → ⊥
twice_refused h =
    let it : h.actor ≡ at_work = is_actor maker_script maker_setup 1 after_first made_twice h at_work_legal at_work refl in
    let first : ◌≡◌ {A = Cells} own_block (at_work.named ++ h.since) = subst (λ (v : Actor). ◌≡◌ {A = Cells} own_block (v.named ++ h.since)) it h.earlier in
    let none : ◌≡◌ {A = Cells} h.since [] = cc in
    let there : h.stand ≡ at_work.stand = stands_there maker_script maker_setup 1 after_first made_twice h at_work it none tt in
    let path : ◌≡◌ {A = List ℕ} (0 ∷ 0 ∷ 2 ∷ []) (0 ∷ 0 ∷ 0 ∷ []) = (let e = subst (λ (v : Stand). begins v.term ≡ Some (0 ∷ 0 ∷ 0 ∷ [])) there h.begins in cc) in
    let f : ⊥ = cc in f

-- two tasks at one place: task 0 before its block, and task 1 after its end
abbrev starter : Actor
starter = get_or start_legal.actors 0 (main_actor makers_script 1)

abbrev ended : Actor
ended = get_or printed_legal.actors 1 (main_actor makers_script 1)

pub another_refused : MayMake makers_script makers_setup 0 [] made_by_another → ⊥
another_refused h =
    let it : h.actor ≡ starter = is_actor makers_script makers_setup 0 [] made_by_another h start_legal starter refl in
    let by : ◌≡◌ {A = List ℕ} (4 ∷ []) starter.seat = subst (λ (v : Actor). ◌≡◌ {A = List ℕ} (4 ∷ []) v.seat) it h.by in
    let f : ⊥ = cc in f

pub ended_refused : MayMake makers_script makers_setup 0 after_both made_after_the_end → ⊥
ended_refused h =
    let it : h.actor ≡ ended = is_actor makers_script makers_setup 0 after_both made_after_the_end h printed_legal ended refl in
    let there : ended.phase ≡ Present = subst (λ (v : Actor). v.phase ≡ Present) it h.here in
    let f : ⊥ = cc in f

pub falling_refused : LegalPlace makers_script makers_setup 0 stamps_fall → ⊥
falling_refused h = let low : 3 ≤ 2 = h.3.1 in omega arith

pub forgetful_refused : LegalPlace makers_script makers_setup 0 forgets_an_entry → ⊥
forgetful_refused h = let shorter : IsPrefix (makers_start ++ take 1 makers_print) makers_start = h.3.2 in let e = shorter.1 in let f : ⊥ = cc in f

-- Parts.

-- the task that is lost
abbrev lost : Actor
lost = get_or maker_legal.actors 1 (main_actor maker_script 2)

-- the place's history lacks the block that an entry names
pub missing_refused : AreParts maker_script maker_setup (maker_at_work ++ maker_lost) ([] ∷ [] ∷ []) → ⊥
missing_refused h =
    let alike : h.legal.actors ≡ maker_legal.actors = one-account maker_script maker_setup (maker_at_work ++ maker_lost) h.legal maker_legal in
    let got : slice_get h.legal.actors 1 ≡ Some lost = subst (λ (v : List Actor). slice_get v 1 ≡ Some lost) (sym alike) refl in
    let named : IsPrefix own_block [] = h.named 1 lost got in
    let e = named.1 in let f : ⊥ = cc in f

-- the place that joins has no history
pub left_out_refused : AreParts joining_script joining_setup joining_history ([] ∷ []) → ⊥
left_out_refused h = let one : ◌≡◌ {A = ℕ} 1 2 = h.one_each in omega arith

-- the ledger's history does not have an entry that the place had seen
pub ahead_refused : AreParts maker_script maker_setup maker_arrives ([] ∷ maker_events ∷ []) → ⊥
ahead_refused h = let shorter : IsPrefix maker_at_work maker_arrives = h.places.2.1 in let e = shorter.1 in let f : ⊥ = cc in f
