-- What an activity knows after a granted request.
use Rattle.std.proofs.Common.{◌≡◌, ◌+◌, ◌<◌, ◌≤◌, ◌^◌, ℕ, suc, List, [], ◌∷◌, ◌++◌, length, map, drop, Some, slice_get, ap, sym, ◌∙◌, subst, append-nil}
use Rattle.std.proofs.Math.Seq.{drop-length}
use Rattle.rx_rules.proofs.Common.{PlaceId, TaskId, Block, Term, Vars, does, granted, tree_of, Cells, brought, vars_told, Given}
use Rattle.rx_rules.specs.declared.entries.Act.{Act}
use Rattle.rx_rules.specs.declared.entries.Entry.TheVariants.{Step}
use Rattle.rx_rules.specs.Plays.{Fits}
use Rattle.rx_history.specs.Setups.{given}
use Rattle.rx_control.specs.declared.control.Control.{Control}
use Rattle.rx_control.specs.Stands.{StandsFor}
use Rattle.rx_ticket.specs.declared.tickets.AnyTicket.{AnyTicket}
use Rattle.rx_book.specs.declared.views.View.{View}
use Rattle.rx_book.specs.declared.passes.Pass.{Pass}
use Rattle.rx_book.specs.Passes.{view_of}
use Rattle.rx_book.specs.Named.{BookName}
use Rattle.rx_tree_laws.specs.Held.{is_held, HeldInFront}
use Rattle.rx_tree_laws.specs.Spine.{Spine}
use Rattle.rx_parts.specs.Ledger.{LedgerItem, Actor, Walks, stays, LegalLedger, actor_granted}
use Rattle.rx_parts.specs.Growing.{NoneBy, MayRequest}
use Rattle.rx_parts.specs.Calling.{AllHostItems}
use Rattle.rx_parts.specs.Telling.{IsCall, number_of}
use Rattle.rx_parts.proofs.Telling.{request-tells}
use Rattle.rx_parts.specs.declared.items.EntryItem.{EntryItem}
use Rattle.rx_parts.specs.declared.items.EventItem.{EventItem}
use Rattle.rx_parts.specs.Histories.{event_named, ledger_items, cells_in}
use Rattle.rx_objects.specs.declared.ledger.LedgerFixed.{LedgerFixed}
use Rattle.rx_objects.specs.Mentioned.{as_named}
use Rattle.rx_objects.specs.Ending.{entries_at}
use Rattle.rx_activities.specs.declared.hand.Hand.{Hand}
use Rattle.rx_activities.specs.Knowing.{StandsSo, TicketServes, since, kinds_told}
use Rattle.rx_activities.specs.Inside.Births.{IsWith}
use Rattle.rx_runs.proofs.SomeWords.{some-granted}

-- the events made since an entry that was made just now
pub none_since : (h : Hand) (seat : Pass EventItem) → h.told.value ≡ seat → h.seat ≡ seat → since h ≡ []
none_since h seat told same =
    ap (λ (p : Pass EventItem). map event_named (map as_named (drop (length (view_of p).mine) (view_of h.seat).mine))) (told ∙ sym same)
    ∙ ap (λ l. map event_named (map as_named l)) (drop-length (view_of h.seat).mine)

-- The call appended what was due and then the entry of this act, which the term asked for, after what others had appended. The pass has
-- then seen this whole.
pub record OneAct (code : Block) (L : BookName LedgerFixed) (a : Hand) (t : TaskId) (s : StandsSo code L a t) (act : Act) (v : View EntryItem) : Type 0 where
  pub between : List LedgerItem
  pub due : List LedgerItem
  pub item : LedgerItem
  pub alone : NoneBy (view_of a.pass).number between
  pub hosts : AllHostItems due
  pub by : item.by ≡ (view_of a.pass).number
  pub entry : item.entry ≡ Step t act a.batch
  pub events : item.events ≡ since a
  pub fits : Fits a.place s.stand.term (does s.stand.vars a.place.0 s.stand.term) act
  pub late : (view_of a.pass).reach ≤ length (ledger_items (view_of a.pass).seen ++ between)
  pub whole : ledger_items v.seen ≡ ledger_items (view_of a.pass).seen ++ (between ++ (due ++ item ∷ []))
  pub number : v.number ≡ (view_of a.pass).number
  pub reach : suc (number_of (ledger_items (view_of a.pass).seen) between due) ≤ v.reach

-- the activity's term after the act, as its ticket and its entries tell it
pub record GoneOn (code : Block) (L : BookName LedgerFixed) (a : Hand) (t : TaskId) (s : StandsSo code L a t) (act : Act) (v : View EntryItem) (ticket : AnyTicket) : Type 0 where
  pub held : HeldInFront (granted (brought act) s.stand.term)
  pub spine : Spine (granted (brought act) s.stand.term) (kinds_told (entries_at v.seen) t)
  pub known : (vars_told (does s.stand.vars a.place.0 s.stand.term) act s.stand.vars).places ≤ (tree_of L.fixed.setup.places (entries_at v.seen)).places
  pub serves : length (entries_at v.seen) + 1 < 2 ^ 31 → TicketServes (tree_of L.fixed.setup.places (entries_at v.seen)) (is_held (granted (brought act) s.stand.term)) ticket

module _ (code : Block) (L : BookName LedgerFixed) (a : Hand) (t : TaskId) (s : StandsSo code L a t) (act : Act) (v : View EntryItem) (o : OneAct code L a t s act v) where
  abbrev U : Given
  U = given L.fixed.setup

  abbrev g : List LedgerItem
  g = ledger_items (view_of a.pass).seen

  -- the call and what was asked, as the laws of parts have them
  abbrev pub call_of : LegalLedger code U (g ++ (o.between ++ (o.due ++ o.item ∷ []))) → IsCall code U g o.between o.due o.item
  call_of long = record { short = s.legal; alone = subst (λ (d : List ℕ). NoneBy d o.between) (sym o.by) o.alone; hosts = o.hosts; long = long }

  abbrev pub asked_of : MayRequest s.legal.actors (view_of a.pass).reach o.item.by t o.item.events a.batch (does s.stand.vars a.place.0 s.stand.term)
  asked_of =
      record {
        actor = s.actor;
        stands = s.stands;
        held = o.by ∙ sym s.holder;
        here = s.here;
        stand = s.stand;
        walks = subst (λ (l : Cells). Walks s.actor.birth.to s.actor.stand l s.stand) (sym o.events) s.walks;
        in_time = s.in_time;
        begun = s.batch;
        asks = ap (λ (p : PlaceId). does s.stand.vars p.0 s.stand.term) s.place;
      }

  pub fits_there : Fits s.actor.birth.to s.stand.term (does s.stand.vars a.place.0 s.stand.term) act
  fits_there = subst (λ (p : PlaceId). Fits p s.stand.term (does s.stand.vars a.place.0 s.stand.term) act) (sym s.place) o.fits

  abbrev pub after : Actor
  after = actor_granted (number_of g o.between o.due) o.item act s.stand s.actor

  after_there : (long : LegalLedger code U (g ++ (o.between ++ (o.due ++ o.item ∷ [])))) → slice_get long.actors t.0 ≡ Some after
  after_there long =
      request-tells code U g o.between o.due o.item (view_of a.pass).reach t act a.batch (does s.stand.vars a.place.0 s.stand.term) (call_of long) o.entry o.late asked_of fits_there

  pub after_so : (legal : LegalLedger code U (ledger_items v.seen)) → slice_get legal.actors t.0 ≡ Some after
  after_so legal = subst (λ (l : List LedgerItem). (m : LegalLedger code U l) → slice_get m.actors t.0 ≡ Some after) (sym o.whole) after_there legal

-- with the control that has gone on, and the pass and the seat, the activity stands so
module _ (code : Block) (L : BookName LedgerFixed) (a : Hand) (t : TaskId) (s : StandsSo code L a t) (act : Act) (c : Control) (place : PlaceId) (pass : Pass EntryItem) (seat : Pass EventItem) (ticket : AnyTicket) (h : Hand)
    (o : OneAct code L a t s act (view_of pass)) (n : GoneOn code L a t s act (view_of pass) ticket) (is : IsWith c place pass seat ticket [] h) where
  abbrev V : Given
  V = given L.fixed.setup

  abbrev left : Term
  left = granted (brought act) s.stand.term

  abbrev now : Actor
  now = after code L a t s act (view_of pass) o

  -- what is said of what the pass has seen is said of the hand's pass
  seen_so : (P : View EntryItem → Type 0) → P (view_of pass) → P (view_of h.pass)
  seen_so P x = subst P (sym is.view) x

  none_new : since h ≡ []
  none_new = none_since h seat is.told is.seat_is

  pub stands_granted : place ≡ a.place → (view_of seat).number ≡ (view_of a.seat).number → (view_of seat).seen ≡ (view_of a.seat).seen → StandsFor L.fixed.program.script c left → c.vars ≡ vars_told (does s.stand.vars a.place.0 s.stand.term) act s.stand.vars
      → LegalLedger code V (ledger_items (view_of pass).seen) → StandsSo code L h t
  stands_granted at number seen term vars legal =
      let both : (m : LegalLedger code V (ledger_items (view_of h.pass).seen)) × (slice_get m.actors t.0 ≡ Some now) =
      seen_so (λ (x : View EntryItem). (m : LegalLedger code V (ledger_items x.seen)) × (slice_get m.actors t.0 ≡ Some now)) (legal, after_so code L a t s act (view_of pass) o legal) in
      let told : vars_told (does s.stand.vars s.actor.birth.to.0 s.stand.term) act s.stand.vars ≡ vars_told (does s.stand.vars a.place.0 s.stand.term) act s.stand.vars =
      ap (λ (p : PlaceId). vars_told (does s.stand.vars p.0 s.stand.term) act s.stand.vars) s.place in
      record {
        legal = both.0;
        actor = now;
        stands = both.1;
        holder = s.holder ∙ sym (ap (λ (x : View EntryItem). x.number) is.view ∙ o.number);
        seated = s.seated ∙ sym (ap (λ (p : Pass EventItem). (view_of p).number) is.seat_is ∙ number);
        here = s.here;
        place = s.place ∙ sym (is.place_is ∙ at);
        events = ap (λ (p : Pass EventItem). cells_in t.0 (view_of p).seen) is.seat_is
            ∙ (ap (cells_in t.0) seen
            ∙ (s.events
            ∙ (ap (λ (l : Cells). s.actor.named ++ l) (sym o.events)
            ∙ (sym (append-nil (s.actor.named ++ o.item.events))
            ∙ ap (λ (l : Cells). (s.actor.named ++ o.item.events) ++ l) (sym none_new)))));
        stand = now.stand;
        walks = subst (λ (l : Cells). Walks now.birth.to now.stand l now.stand) (sym none_new) stays;
        in_time = seen_so (λ (x : View EntryItem). now.stand.low ≤ x.reach) o.reach;
        term = subst (λ (x : Control). StandsFor L.fixed.program.script x left) (sym is.control) term;
        vars = ap (λ (x : Control). x.vars) is.control ∙ (vars ∙ sym told);
        batch = is.batch_is;
        some = some-granted (brought act) s.stand.term s.some;
        known = seen_so (λ (x : View EntryItem). now.stand.vars.places ≤ (tree_of L.fixed.setup.places (entries_at x.seen)).places)
            (subst (λ (w : Vars). w.places ≤ (tree_of L.fixed.setup.places (entries_at (view_of pass).seen)).places) (sym told) n.known);
        held = n.held;
        calm = λ waits. none_new;
        spine = seen_so (λ (x : View EntryItem). Spine left (kinds_told (entries_at x.seen) t)) n.spine;
        serves = subst (λ (y : AnyTicket). length (entries_at (view_of h.pass).seen) + 1 < 2 ^ 31 → TicketServes (tree_of L.fixed.setup.places (entries_at (view_of h.pass).seen)) (is_held left) y) (sym is.ticket_is)
            (seen_so (λ (x : View EntryItem). length (entries_at x.seen) + 1 < 2 ^ 31 → TicketServes (tree_of L.fixed.setup.places (entries_at x.seen)) (is_held left) ticket) n.serves);
      }
