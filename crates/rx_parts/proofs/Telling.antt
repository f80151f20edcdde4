-- What a call tells its caller.
use Rattle.std.proofs.Common.{◌≡◌, ℕ, suc, ◌+◌, ◌<◌, ◌≤◌, List, [], ◌∷◌, ◌++◌, length, slice_get, slice_set, Some, refl, arith, ap, sym, ◌∙◌, subst, append_assoc, length-append, length-set}
use Rattle.std.specs.List.{filter_map}
use Rattle.std.proofs.lemmas.List.{map-append}
use Rattle.rx_rules.proofs.Common.{PlaceId, TaskId, Block, Does, Tree, Allowed, made, AllAllowed, opening, fold_from, Cells, Tells, cell_of, UpTo, Given}
use Rattle.rx_base.proofs.Elements.{get-last}
use Rattle.rx_rules.specs.declared.entries.Act.{Act}
use Rattle.rx_rules.specs.declared.entries.Entry.{Entry}
use Rattle.rx_rules.specs.declared.entries.Entry.TheVariants.{Step}
use Rattle.rx_rules.specs.Plays.{Fits}
use Rattle.rx_runs.specs.Segments.{Stand}
use Rattle.rx_parts.specs.Ledger.{LedgerItem, Actor, Walks, stays, local, stores, main_actor, actor_granted, actor_arrived, actors_born, ItemMakes, arrives, asks, AllMake, entries_of}
use Rattle.rx_parts.specs.Places.{MadeEvent, event_of, journal_of}
use Rattle.rx_parts.specs.Closing.{StampedTo}
use Rattle.rx_parts.specs.Growing.{NoneBy, MayRequest}
use Rattle.rx_parts.specs.Telling.{IsCall, number_of, RequestTells, BirthTells, ArrivalTells, EventTells}
use Rattle.rx_parts.proofs.Lists.{inside, got_set}
use Rattle.rx_parts.proofs.Along.{Numbered, numbered, size_next}
use Rattle.rx_parts.proofs.Determined.{makes_once, leads_once, leads_split}
use Rattle.rx_parts.proofs.Whole.{NoneAbove, cells_up, up_second, walk_low, own_cell}
use Rattle.rx_parts.proofs.Growing.{stays_along, hosts_lead}
use Rattle.rx_runs.proofs.Fitting.{get_left}

-- one after another
pub walked : {here : PlaceId} {a b z : Stand} {cells more : Cells} → Walks here a cells b → Walks here b more z → Walks here a (cells ++ more) z
walked stays w = w
walked (local e v) w = local e (walked v w)
walked (stores answer le tells b v) w = stores answer le tells b (walked v w)

-- An event.

none_above : (n : ℕ) (k : List MadeEvent) → StampedTo n k → NoneAbove n (journal_of k)
none_above n [] h = tt
none_above n (m ∷ k) h = (h.0, none_above n k h.1)

at_least : (a b c : ℕ) → a ≤ b → b ≤ c → a ≤ c
at_least a b c h k = omega arith

pub event-tells : EventTells
event-tells code U p k g by t mark path d m answer call own at le stamped tells =
    let earlier : filter_map (cell_of t.0) (journal_of k) ≡ call.actor.named ++ call.since = call.earlier in
    let up : UpTo m.stamp (call.actor.named ++ call.since) = subst (UpTo m.stamp) call.earlier (cells_up m.stamp t.0 (journal_of k) (none_above m.stamp k stamped)) in
    let low : call.stand.low ≤ m.stamp = walk_low call.walks m.stamp (at_least call.actor.stand.low mark m.stamp call.above le) (up_second m.stamp call.actor.named call.since up) in
    let one : filter_map (cell_of t.0) (journal_of k ++ event_of m ∷ []) ≡ filter_map (cell_of t.0) (journal_of k) ++ (m.stamp, m.cell, m.path) ∷ [] = own_cell t.0 (journal_of k) m (ap (λ (v : TaskId). v.0) own) in (
      ap (filter_map (cell_of t.0)) (map-append event_of k (m ∷ [])) ∙ one ∙ ap (λ v. v ++ (m.stamp, m.cell, m.path) ∷ []) call.earlier ∙ append_assoc call.actor.named call.since ((m.stamp, m.cell, m.path) ∷ []),
      walked call.walks
          (stores answer low (subst (λ (v : Does). Tells v call.actor.birth.to m.cell answer) (sym call.asks) tells) (call.begins ∙ ap Some (sym at)) stays),
    )

-- The tasks before item i, and after it.
pub record AtItem (g between due : List LedgerItem) (i : LedgerItem) (first short last : List Actor) : Type 0 where
  pub actors : List Actor
  pub front : AllMake 0 first (g ++ (between ++ due)) actors
  pub item : ItemMakes (number_of g between due) actors i last
  pub kept : (t : ℕ) (a : Actor) → slice_get short t ≡ Some a → i.by ≡ a.holder → slice_get actors t ≡ Some a

joins_up : (g between due : List LedgerItem) (i : LedgerItem) → g ++ (between ++ (due ++ i ∷ [])) ≡ (g ++ (between ++ due)) ++ i ∷ []
joins_up g between due i = ap (λ v. g ++ v) (sym (append_assoc between due (i ∷ []))) ∙ sym (append_assoc g (between ++ due) (i ∷ []))

pub at_item : (code : Block) (U : Given) (g between due : List LedgerItem) (i : LedgerItem) (call : IsCall code U g between due i) → AtItem g between due i (main_actor code U.places ∷ []) call.short.actors call.long.actors
at_item code U g between due i call =
    let start : List Actor = main_actor code U.places ∷ [] in
    let whole : AllMake 0 (main_actor code U.places ∷ []) ((g ++ (between ++ due)) ++ i ∷ []) call.long.actors = subst (λ (v : List LedgerItem). AllMake 0 (main_actor code U.places ∷ []) v call.long.actors) (joins_up g between due i) call.long.made in
    let cut = leads_split 0 (main_actor code U.places ∷ []) (g ++ (between ++ due)) (i ∷ []) call.long.actors whole in
    let first = leads_split 0 (main_actor code U.places ∷ []) g (between ++ due) cut.0 cut.1 in
    let same : first.0 ≡ call.short.actors = leads_once 0 (main_actor code U.places ∷ []) g first.0 call.short.actors first.1 call.short.made in
    let second = leads_split (0 + length g) first.0 between due cut.0 first.2 in
    let still : second.0 ≡ cut.0 = leads_once (0 + length g + length between) second.0 due second.0 cut.0 (hosts_lead (0 + length g + length between) second.0 due call.hosts) second.2 in
    let z : 0 + length (g ++ (between ++ due)) ≡ number_of g between due = omega arith in
    record {
      actors = cut.0;
      front = cut.1;
      item = subst (λ (v : List Actor). ItemMakes (number_of g between due) cut.0 i v) cut.2.2 (subst (λ (v : ℕ). ItemMakes v cut.0 i cut.2.0) z cut.2.1);
      kept = λ t a got by.
          subst (λ (v : List Actor). slice_get v t ≡ Some a) still
          (stays_along (0 + length g) first.0 between second.0 t a second.1 (subst (λ (v : List Actor). slice_get v t ≡ Some a) (sym same) got) (subst (λ (c : List ℕ). NoneBy c between) by call.alone));
    }

later_enough : (g between due : List LedgerItem) (n : ℕ) → n ≤ length (g ++ between) → n ≤ number_of g between due
later_enough g between due n le =
    let a : length (g ++ between) ≡ length g + length between = length-append g between in
    let b : length (g ++ (between ++ due)) ≡ length g + length (between ++ due) = length-append g (between ++ due) in
    let c : length (between ++ due) ≡ length between + length due = length-append between due in
    omega (arith, a, b, c)

at_most : (a b c : ℕ) → a ≤ b → b ≤ c → a ≤ c
at_most a b c h k = omega arith

-- what the granted request makes of all tasks
pub after_request : (code : Block) (U : Given) (g between due : List LedgerItem) (i : LedgerItem) (n : ℕ) (t : TaskId) (act : Act) (batch : List (List ℕ)) (d : Does) (call : IsCall code U g between due i) → i.entry ≡ Step t act batch → n ≤ length (g ++ between) → (ask : MayRequest call.short.actors n i.by t i.events batch d) → Fits ask.actor.birth.to ask.stand.term d act → (at : AtItem g between due i (main_actor code U.places ∷ []) call.short.actors call.long.actors) → call.long.actors ≡ slice_set at.actors t.0 (actor_granted (number_of g between due) i act ask.stand ask.actor) ++ actors_born (number_of g between due) i act ask.stand
after_request code U g between due i n t act batch d call is le ask fits at =
    let old : slice_get at.actors t.0 ≡ Some ask.actor = at.kept t.0 ask.actor ask.stands ask.held in
    let low : ask.stand.low ≤ number_of g between due = at_most ask.stand.low n (number_of g between due) ask.in_time (later_enough g between due n le) in
    makes_once at.item (asks t act ask.actor ask.stand (is ∙ ap (Step t act) ask.begun) old ask.held ask.here ask.walks low (subst (λ (v : Does). Fits ask.actor.birth.to ask.stand.term v act) (sym ask.asks) fits))

pub request-tells : RequestTells
request-tells code U g between due i n t act batch d call is le ask fits =
    let at = at_item code U g between due i call in
    let a : Actor = actor_granted (number_of g between due) i act ask.stand ask.actor in
    let set : List Actor = slice_set at.actors t.0 (actor_granted (number_of g between due) i act ask.stand ask.actor) in
    let old : slice_get at.actors t.0 ≡ Some ask.actor = at.kept t.0 ask.actor ask.stands ask.held in
    let size : length (slice_set at.actors t.0 (actor_granted (number_of g between due) i act ask.stand ask.actor)) ≡ length at.actors = length-set at.actors t.0 (actor_granted (number_of g between due) i act ask.stand ask.actor) in
    let low : t.0 < length at.actors = inside at.actors t.0 ask.actor old in
    ap (λ v. slice_get v t.0) (after_request code U g between due i n t act batch d call is le ask fits at)
    ∙ get_left (slice_set at.actors t.0 (actor_granted (number_of g between due) i act ask.stand ask.actor)) (actors_born (number_of g between due) i act ask.stand) t.0 (omega (arith, size, low))
    ∙ got_set at.actors t.0 ask.actor (actor_granted (number_of g between due) i act ask.stand ask.actor) old

pub arrival-tells : ArrivalTells
arrival-tells code U g between due i t p a call is got held gone none =
    let at = at_item code U g between due i call in
    let old : slice_get at.actors t.0 ≡ Some a = at.kept t.0 a got held in
    ap (λ v. slice_get v t.0) (makes_once at.item (arrives t p a is old held gone none))
    ∙ got_set at.actors t.0 a (actor_arrived (number_of g between due) i p a) old

-- The number of a new task.

size_along : (n : ℕ) (T : Tree) (before : List Actor) (h : List LedgerItem) (last : List Actor) → AllMake n before h last → T.next_task ≡ length before → (fold_from n T (entries_of h)).next_task ≡ length last
size_along n T before [] last l s = s ∙ ap length l
size_along n T before (i ∷ h) last l s = size_along (suc n) (made n T i.entry) l.0 h last l.2 (size_next n T before i l.0 l.1 s)

allowed_at : (n : ℕ) (T : Tree) (es fs : List Entry) (e : Entry) → AllAllowed n T (es ++ e ∷ fs) → Allowed (fold_from n T es) e
allowed_at n T [] fs e h = h.0
allowed_at n T (x ∷ es) fs e h = allowed_at (suc n) (made n T x) es fs e h.1

new_number : (code : Block) (U : Given) (g between due : List LedgerItem) (i : LedgerItem) (call : IsCall code U g between due i) → (actors : List Actor) → AllMake 0 (main_actor code U.places ∷ []) (g ++ (between ++ due)) actors → Numbered (length actors) i.entry
new_number code U g between due i call actors l =
    let front : List LedgerItem = g ++ (between ++ due) in
    let es : entries_of (g ++ (between ++ (due ++ i ∷ []))) ≡ entries_of (g ++ (between ++ due)) ++ i.entry ∷ [] = ap entries_of (joins_up g between due i) ∙ map-append (λ (x : LedgerItem). x.entry) (g ++ (between ++ due)) (i ∷ []) in
    let all : AllAllowed 0 (opening U.places) (entries_of (g ++ (between ++ due)) ++ i.entry ∷ []) = subst (AllAllowed 0 (opening U.places)) es call.long.folds.allowed in
    numbered (fold_from 0 (opening U.places) (entries_of (g ++ (between ++ due)))) (length actors) i.entry (allowed_at 0 (opening U.places) (entries_of (g ++ (between ++ due))) [] i.entry all)
    (size_along 0 (opening U.places) (main_actor code U.places ∷ []) (g ++ (between ++ due)) actors l refl)

pub birth-tells : BirthTells
birth-tells code U g between due i n t act batch d c born call is le ask fits starts bears =
    let at = at_item code U g between due i call in
    let set : List Actor = slice_set at.actors t.0 (actor_granted (number_of g between due) i act ask.stand ask.actor) in
    let size : length (slice_set at.actors t.0 (actor_granted (number_of g between due) i act ask.stand ask.actor)) ≡ length at.actors = length-set at.actors t.0 (actor_granted (number_of g between due) i act ask.stand ask.actor) in
    let number : c.0 ≡ length at.actors = new_number code U g between due i call at.actors at.front t act batch is c starts in
    let spot : c.0 ≡ length (slice_set at.actors t.0 (actor_granted (number_of g between due) i act ask.stand ask.actor)) = number ∙ sym size in
    ap (λ v. slice_get v c.0) (after_request code U g between due i n t act batch d call is le ask fits at)
    ∙ ap (λ v. slice_get (slice_set at.actors t.0 (actor_granted (number_of g between due) i act ask.stand ask.actor) ++ v) c.0) bears
    ∙ get-last (slice_set at.actors t.0 (actor_granted (number_of g between due) i act ask.stand ask.actor)) born c.0 spot
