-- How legal histories grow.
use Rattle.std.proofs.Common.{◌≡◌, ◌≢◌, false, ℕ, suc, ◌+◌, ◌<◌, ◌≤◌, List, [], ◌∷◌, ◌++◌, length, slice_get, Some, refl, arith, ap, sym, ◌∙◌, subst, append_assoc, inl, inr}
use Rattle.std.proofs.lemmas.Bool.{ne_eqb}
use Rattle.std.proofs.lemmas.List.{append-nil}
use Rattle.rx_rules.proofs.Common.{TaskId, Block, Does, Cells, Tells, move_of, Given, Folds}
use Rattle.rx_base.proofs.Elements.{get-within}
use Rattle.rx_base.proofs.Prefixes.{prefix-trans}
use Rattle.rx_rules.specs.declared.entries.Act.{Act}
use Rattle.rx_rules.specs.declared.entries.Act.TheVariants.{End}
use Rattle.rx_rules.specs.declared.entries.Entry.{Entry}
use Rattle.rx_rules.specs.declared.entries.Entry.TheVariants.{Step}
use Rattle.rx_rules.specs.declared.events.PlaceEvent.{PlaceEvent}
use Rattle.rx_rules.specs.Plays.{Fits}
use Rattle.rx_parts.specs.Ledger.{LedgerItem, Actor, main_actor, ItemMakes, hosts, arrives, asks, ends, AllMake, RootIsLast, LegalLedger, entries_of}
use mathlib.Core.List.{IsPrefix}
use Rattle.rx_parts.specs.Places.{MadeEvent, event_of, journal_of, MayMake, LegalFrom, last_carried}
use Rattle.rx_parts.specs.Growing.{LedgerOpens, OneAccount, NoneBy, TaskStays, OthersAct, NoneOf, EachBy, HolderActs, MayRequest, RequestMakes, EndMakes, ArrivalMakes}
use Rattle.rx_parts.specs.Reading.{is_of}
use Rattle.rx_parts.specs.Closing.{StampedTo}
use Rattle.rx_parts.specs.Calling.{AllHostItems, Grants, CallStep, HostStep, ArrivalStep, top_stamp, TopStamp, PlaceGrows, EachSeated, SeatMakes, CallKeeps, CallMakes}
use Rattle.rx_parts.proofs.Lists.{one_item, not_none}
use Rattle.rx_parts.proofs.Changes.{Change, same, lands, goes_on, leaves, changed, own_moves}
use Rattle.rx_parts.proofs.Tasks.{later, not_away}
use Rattle.rx_parts.proofs.Along.{acts_old}
use Rattle.rx_parts.proofs.Determined.{leads_once, leads_join}
use Rattle.rx_parts.proofs.Whole.{legal_later, seen_from}

pub ledger-opens : LedgerOpens
ledger-opens code U some few = record { folds = record { some = some; few = few; allowed = tt; plan = tt }; last = tt; actors = main_actor code U.places ∷ []; made = refl }

pub one-account : OneAccount
one-account code U h a b = leads_once 0 (main_actor code U.places ∷ []) h a.actors b.actors a.made b.made

-- a task that its holder leaves alone
kept : (n k : ℕ) (i : LedgerItem) (before after : List Actor) (a b : Actor) → Change n k i before after a b → i.by ≢ a.holder → b ≡ a
kept n k i before after a b (same h) o = refl
kept n k i before after a b (lands t p it e by away none) o = absurd (o by)
kept n k i before after a b (goes_on t act z it e by here walks low fits new) o = absurd (o by)
kept n k i before after a b (leaves t faults z it e by here walks low done) o = absurd (o by)

pub stays_along : (n : ℕ) (before : List Actor) (h : List LedgerItem) (last : List Actor) (t : ℕ) (a : Actor) → AllMake n before h last → slice_get before t ≡ Some a → NoneBy a.holder h → slice_get last t ≡ Some a
stays_along n before [] last t a l got o = ap (λ v. slice_get v t) (sym l) ∙ got
stays_along n before (i ∷ h) last t a l got o =
    let c = changed l.1 t a got in
    let it : c.0 ≡ a = kept n t i before l.0 a c.0 c.2 o.0 in
    stays_along (suc n) l.0 h last t a l.2 (c.1 ∙ ap Some it) o.1

pub task-stays : TaskStays
task-stays code U g more t a short long got o =
    let on = legal_later code U g (g ++ more) short long (more, refl) in
    stays_along (length g) short.actors more long.actors t a on got o

-- entries by holders
by_holder : (n k : ℕ) (i : LedgerItem) (before after : List Actor) (a b : Actor) → Change n k i before after a b → (u : TaskId) (act : Act) (batch : List (List ℕ)) → i.entry ≡ Step u act batch → u.0 ≡ k → i.by ≡ a.holder
by_holder n k i before after a b (same h) u act batch e it = absurd (not_none (move_of n k i.entry) (n, act, batch) (own_moves n k i.entry u act batch e it) h)
by_holder n k i before after a b (lands t p it e by away none) u act batch f is = by
by_holder n k i before after a b (goes_on t act z it e by here walks low fits new) u bct batch f is = by
by_holder n k i before after a b (leaves t faults z it e by here walks low done) u act batch f is = by

each_by : (n : ℕ) (before : List Actor) (h : List LedgerItem) (last : List Actor) (t : ℕ) (a : Actor) → AllMake n before h last → slice_get last t ≡ Some a → EachBy t a.holder h
each_by n before [] last t a l got = tt
each_by n before (i ∷ h) last t a l got = (own, each_by (suc n) l.0 h last t a l.2 got) where
  own : (u : TaskId) (act : Act) (batch : List (List ℕ)) → i.entry ≡ Step u act batch → u.0 ≡ t → i.by ≡ a.holder
  own u act batch e it =
      let old : u.0 < length before = acts_old l.1 u act batch e in
      let b = get-within before t (omega (arith, old, it)) in
      let c = changed l.1 t b.0 b.1 in
      let w = later n before (i ∷ h) last l t b.0 b.1 in
      let is : w.0 ≡ a = one_item (slice_get last t) w.0 a w.1 got in
      by_holder n t i before l.0 b.0 c.0 c.2 u act batch e it ∙ sym w.2.holder ∙ ap (λ (v : Actor). v.holder) is

pub holder-acts : HolderActs
holder-acts code U h t a legal got = each_by 0 (main_actor code U.places ∷ []) h legal.actors t a legal.made got

-- No entry is of a task whose holder has appended nothing.

by_later : (t : ℕ) (c : List ℕ) (g more : List LedgerItem) → EachBy t c (g ++ more) → EachBy t c more
by_later t c [] more h = h
by_later t c (i ∷ g) more h = by_later t c g more h.1

none_own : (t : ℕ) (c by : List ℕ) (e : Entry) → ((u : TaskId) (act : Act) (batch : List (List ℕ)) → e ≡ Step u act batch → u.0 ≡ t → by ≡ c) → by ≢ c → is_of t e ≡ false
none_own t c by (Step u act batch) h o = ne_eqb u.0 t (λ it. o (h u act batch refl it))
none_own t c by _ h o = refl

none_of : (t : ℕ) (c : List ℕ) (more : List LedgerItem) → EachBy t c more → NoneBy c more → NoneOf t more
none_of t c [] h o = tt
none_of t c (i ∷ more) h o = (none_own t c i.by i.entry h.0 o.0, none_of t c more h.1 o.1)

pub others-act : OthersAct
others-act code U g more t a short long got o =
    none_of t a.holder more (by_later t a.holder g more (holder-acts code U (g ++ more) t a long (task-stays code U g more t a short long got o))) o

at_most : (a b c : ℕ) → a ≤ b → b ≤ c → a ≤ c
at_most a b c h k = omega arith

pub request-makes : RequestMakes
request-makes n actors t act batch d i is ask fits =
    (_, asks t act ask.actor ask.stand (is ∙ ap (Step t act) ask.begun) ask.stands ask.held ask.here ask.walks ask.in_time (subst (λ (v : Does). Fits ask.actor.birth.to ask.stand.term v act) (sym ask.asks) fits))

pub end-makes : EndMakes
end-makes n actors t batch faults i is ask = (_, ends t faults ask.actor ask.stand (is ∙ ap (Step t (End faults)) ask.begun) ask.stands ask.held ask.here ask.walks ask.in_time ask.asks)

pub arrival-makes : ArrivalMakes
arrival-makes n actors t p a i is got held away none = (_, arrives t p a is got held away none)

-- entries of the host leave the tasks
pub hosts_lead : (n : ℕ) (actors : List Actor) (h : List LedgerItem) → AllHostItems h → AllMake n actors h actors
hosts_lead n actors [] a = refl
hosts_lead n actors (i ∷ h) a = (actors, hosts a.0, hosts_lead (suc n) actors h a.1)

legal_by : (code : Block) (U : Given) (h more : List LedgerItem) (last : List Actor) → (legal : LegalLedger code U h) → Folds U (entries_of (h ++ more)) → RootIsLast (entries_of (h ++ more)) → AllMake (length h) legal.actors more last → LegalLedger code U (h ++ more)
legal_by code U h more last legal folds root made =
    let z : 0 + length h ≡ length h = omega arith in
    record { folds = folds; last = root; actors = last; made = leads_join 0 (main_actor code U.places ∷ []) h more legal.actors last legal.made (subst (λ (v : ℕ). AllMake v legal.actors more last) (sym z) made) }

behind : (n : ℕ) (actors next : List Actor) (due : List LedgerItem) (i : LedgerItem) → AllHostItems due → ItemMakes (n + length due) actors i next → AllMake n actors (due ++ i ∷ []) next
behind n actors next due i a m = leads_join n actors due (i ∷ []) actors next (hosts_lead n actors due a) (next, m, refl)

abbrev ask_later : (actors : List Actor) (n m : ℕ) (by : List ℕ) (t : TaskId) (events : Cells) (batch : List (List ℕ)) (d : Does) → n ≤ m → MayRequest actors n by t events batch d → MayRequest actors m by t events batch d
ask_later actors n m by t events batch d le ask =
    record { actor = ask.actor; stands = ask.stands; held = ask.held; here = ask.here; stand = ask.stand; walks = ask.walks; in_time = at_most ask.stand.low n m ask.in_time le; begun = ask.begun; asks = ask.asks }

granted_makes : (n : ℕ) (actors : List Actor) (t : TaskId) (act : Act) (batch : List (List ℕ)) (d : Does) (i : LedgerItem) → i.entry ≡ Step t act batch → (ask : MayRequest actors n i.by t i.events batch d) → Grants ask.actor.birth.to ask.stand.term d act → (next : List Actor) × ItemMakes n actors i next
granted_makes n actors t act batch d i is ask (inl fits) = request-makes n actors t act batch d i is ask fits
granted_makes n actors t act batch d i is ask (inr g) =
    end-makes n actors t batch g.0 i (is ∙ ap (λ (v : Act). Step t v batch) g.2) (subst (λ (v : Does). MayRequest actors n i.by t i.events batch v) g.1 ask)

pub call-step : CallStep
call-step code U h due i t act batch d legal a folds root is ask grants =
    let m = granted_makes (length h + length due) legal.actors t act batch d i is (ask_later legal.actors (length h) (length h + length due) i.by t i.events batch d (omega arith) ask) grants in
    legal_by code U h (due ++ i ∷ []) m.0 legal folds root (behind (length h) legal.actors m.0 due i a m.1)

pub host-step : HostStep
host-step code U h more legal a folds root = legal_by code U h more legal.actors legal folds root (hosts_lead (length h) legal.actors more a)

pub arrival-step : ArrivalStep
arrival-step code U h due i t p a legal all folds root is got held away none =
    let m = arrival-makes (length h + length due) legal.actors t p a i is got held away none in
    legal_by code U h (due ++ i ∷ []) m.0 legal folds root (behind (length h) legal.actors m.0 due i all m.1)

-- A place.

top_from : (code : Block) (U : Given) (p : ℕ) (before : List PlaceEvent) (low : ℕ) (seen : List LedgerItem) (k : List MadeEvent) (n : ℕ) → LegalFrom code U p before low seen k → top_stamp low k ≤ n → (low ≤ n) × StampedTo n k
top_from code U p before low seen [] n h le = (le, tt)
top_from code U p before low seen (m ∷ k) n h le =
    let r = top_from code U p (before ++ event_of m ∷ []) m.stamp m.carried k n h.3 le in
    let at : m.stamp ≤ n = r.0 in let up : low ≤ m.stamp = h.1 in
    (omega (arith, at, up), r)

pub top-stamp : TopStamp
top-stamp code U p n k h le = (top_from code U p [] 0 [] k n h le).1

place_push : (code : Block) (U : Given) (p : ℕ) (before : List PlaceEvent) (low : ℕ) (seen : List LedgerItem) (k : List MadeEvent) (m : MadeEvent) → LegalFrom code U p before low seen k → MayMake code U p (before ++ journal_of k) m → low ≤ m.stamp → StampedTo m.stamp k → IsPrefix (last_carried seen k) m.carried → LegalFrom code U p before low seen (k ++ m ∷ [])
place_push code U p before low seen [] m h may le to e = (subst (λ (v : List PlaceEvent). MayMake code U p v m) (append-nil before) may, le, e, tt)
place_push code U p before low seen (x ∷ k) m h may le to e =
    (h.0, h.1, h.2, place_push code U p (before ++ event_of x ∷ []) x.stamp x.carried k m h.3 (subst (λ (v : List PlaceEvent). MayMake code U p v m) (sym (append_assoc before (event_of x ∷ []) (journal_of k))) may) to.0 to.1 e)

pub place-grows : PlaceGrows
place-grows code U p k m h may to e = place_push code U p [] 0 [] k m h may (omega arith) to e

seated_from : (code : Block) (U : Given) (p : ℕ) (h : List LedgerItem) (legal : LegalLedger code U h) (t : ℕ) (a : Actor) → slice_get legal.actors t ≡ Some a → (before : List PlaceEvent) (low : ℕ) (seen : List LedgerItem) (k : List MadeEvent) → LegalFrom code U p before low seen k → IsPrefix (last_carried seen k) h → EachSeated t a.seat k
seated_from code U p h legal t a got before low seen [] l e = tt
seated_from code U p h legal t a got before low seen (m ∷ k) l e = (own, seated_from code U p h legal t a got (before ++ event_of m ∷ []) m.stamp m.carried k l.3 e) where
  own : m.task.0 ≡ t → m.by ≡ a.seat
  own it =
      let within : IsPrefix m.carried h = prefix-trans m.carried (last_carried m.carried k) h (seen_from code U p (before ++ event_of m ∷ []) m.stamp m.carried k l.3) e in
      let on = legal_later code U m.carried h l.0.legal legal within in
      let w = later (length m.carried) l.0.legal.actors within.0 legal.actors on t l.0.actor (subst (λ (v : ℕ). slice_get l.0.legal.actors v ≡ Some l.0.actor) it l.0.stands) in
      let is : w.0 ≡ a = one_item (slice_get legal.actors t) w.0 a w.1 got in
      l.0.by ∙ sym (w.2.seat (not_away l.0.actor.phase l.0.here)) ∙ ap (λ (v : Actor). v.seat) is

pub seat-makes : SeatMakes
seat-makes code U p h k t a legal l e got = seated_from code U p h legal t a got [] 0 [] k l e

pub call-keeps : CallKeeps
call-keeps code U p before after g more by t mark path d call long o alike =
    record {
      legal = long;
      actor = call.actor;
      stands = task-stays code U g more t.0 call.actor call.legal long call.stands o;
      here = call.here;
      place = call.place;
      seated = call.seated;
      since = call.since;
      earlier = alike ∙ call.earlier;
      stand = call.stand;
      walks = call.walks;
      asks = call.asks;
      begins = call.begins;
      above = call.above;
    }

pub call-makes : CallMakes
call-makes code U p before g by t mark stamp path d cell answer le call tells =
    let low : call.actor.stand.low ≤ mark = call.above in
    record {
      legal = call.legal;
      actor = call.actor;
      stands = call.stands;
      here = call.here;
      place = call.place;
      by = call.seated;
      since = call.since;
      earlier = call.earlier;
      stand = call.stand;
      walks = call.walks;
      answer = answer;
      tells = subst (λ (v : Does). Tells v call.actor.birth.to cell answer) (sym call.asks) tells;
      begins = call.begins;
      above = omega (arith, low, le);
    }
