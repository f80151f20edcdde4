-- A granted request: the activity knows what it has to, once its control has gone on.
use Rattle.std.proofs.Common.{◌≡◌, ◌≤◌, List, [], reverse, Option, Some, refl, ap, sym, ◌∙◌, subst, arith}
use Rattle.std.proofs.lemmas.Option.{same_Some}
use Rattle.rx_rules.proofs.Common.{Fault, Block, Term, Empty, Vars, does, granted, replaced, tree_of, brought, vars_told}
use Rattle.rx_rules.specs.declared.entries.Act.{Act}
use Rattle.rx_syntax.specs.Shape.{Shape, Stands}
use Rattle.rx_control.specs.declared.control.Control.{Control}
use Rattle.rx_history.specs.declared.step.Next.{Next}
use Rattle.rx_history.specs.declared.step.Next.TheVariants.{Book as BookStep, Done as EndStep}
use Rattle.rx_history.specs.declared.step.Want.TheVariants.{Wait as WantWait}
use Rattle.rx_control.specs.Stands.{StandsFor}
use Rattle.rx_finish.specs.declared.ledger.Caller.{Caller}
use Rattle.rx_ticket.specs.declared.tickets.AnyTicket.{AnyTicket}
use Rattle.rx_book.specs.declared.views.View.{View}
use Rattle.rx_book.specs.Passes.{view_of}
use Rattle.rx_book.specs.Named.{BookName}
use Rattle.rx_ledger.specs.declared.asks.Reply.{Reply}
use Rattle.rx_ledger.specs.Answering.{asker}
use Rattle.rx_ledger.specs.Owned.{Owned, own_told}
use Rattle.rx_parts.specs.declared.items.EventItem.{EventItem}
use Rattle.rx_objects.specs.declared.ledger.LedgerFixed.{LedgerFixed}
use Rattle.rx_objects.specs.Ending.{entries_at}
use Rattle.rx_activities.specs.declared.replies.Child.{Child}
use Rattle.rx_activities.specs.declared.hand.Hand.{Hand}
use Rattle.rx_activities.specs.Knowing.{StandsSo, kinds_told}
use Rattle.rx_activities.specs.Inside.Births.{IsStarted}
use Rattle.rx_activities.specs.Inside.Sending.{WasSent, WasGranted}
use Rattle.rx_activities.proofs.Asked.{kinds_of}
use Rattle.rx_activities.proofs.Granted.{OneAct, GoneOn, stands_granted}
use Rattle.rx_activities.proofs.Sent.{of_run}
use Rattle.rx_activities.proofs.SentSo.{rise, term_so, knows_with}

-- who asked is the activity's task
pub who_is : (shape : Shape) (L : BookName LedgerFixed) (rest : Hand) (reply : Reply) (child : Option Child) (w : WasSent shape L rest reply child) (who : Caller) → asker w.op.request.ticket ≡ Some who → who ≡ w.knows.who
who_is shape L rest reply child w who e = same_Some who w.knows.who (sym e ∙ (ap asker w.ticket ∙ w.knows.asks))

-- what is granted, for given statements: the act, what the activity's term and ticket are after it, and for what its control stands
pub record GrantedSo (shape : Shape) (L : BookName LedgerFixed) (rest : Hand) (reply : Reply) (child : Option Child) (w : WasSent shape L rest reply child) (code : Block) (s : StandsSo code L w.hand w.knows.who.task) (ticket : AnyTicket) (act : Act) : Type 0 where
  pub act_is : OneAct code L w.hand w.knows.who.task s act (view_of rest.pass)
  pub goes : GoneOn code L w.hand w.knows.who.task s act (view_of rest.pass) ticket
  pub ready : (u : Term) × StandsFor shape rest.control.value u × ((fs : List Fault) → granted fs u ≡ granted fs s.stand.term)
  pub told : vars_told (does s.stand.vars w.hand.place.0 s.stand.term) act s.stand.vars ≡ s.stand.vars

module _ (shape : Shape) (L : BookName LedgerFixed) (rest : Hand) (reply : Reply) (child : Option Child) (w : WasSent shape L rest reply child) (program : L.fixed.program.script ≡ shape) where
  module _ (code : Block) (stands : Stands L.fixed.program.script code) (s : StandsSo code L w.hand w.knows.who.task) where
    abbrev pub Ready : Type 0
    Ready = (u : Term) × StandsFor shape rest.control.value u × ((fs : List Fault) → granted fs u ≡ granted fs s.stand.term)

    stood : StandsFor shape w.hand.control.value s.stand.term
    stood = term_so shape L rest reply child w program code stands s

    pub ready_same : (n : Next) → w.next ≡ n → (n ≡ BookStep WantWait → ⊥) → (n ≡ EndStep → ⊥) → Ready
    ready_same n is other on =
        let e : rest.control.value ≡ w.hand.control.value = w.control.same (λ h. other (sym is ∙ h)) (λ h. on (sym is ∙ h)) in
        (s.stand.term, subst (λ (c : Control). StandsFor shape c s.stand.term) (sym e) stood, λ fs. refl)

    pub ready_wait : w.next ≡ BookStep WantWait → Ready
    ready_wait is =
        let r = w.control.waits is s.stand.term w.hand.place stood (w.does_next s.stand.term stood) in
        (replaced s.stand.term Empty, r.0, r.1)

    -- what the task knows of places, where the act tells it nothing
    pub known_same : (act : Act) → vars_told (does s.stand.vars w.hand.place.0 s.stand.term) act s.stand.vars ≡ s.stand.vars
        → (vars_told (does s.stand.vars w.hand.place.0 s.stand.term) act s.stand.vars).places ≤ (tree_of L.fixed.setup.places (entries_at (view_of rest.pass).seen)).places
    known_same act told =
        subst (λ (v : Vars). v.places ≤ (tree_of L.fixed.setup.places (entries_at (view_of rest.pass).seen)).places) (sym told)
        (let k = s.known in let r = rise shape L rest reply child w in omega (arith, k, r))

    -- the kinds of its scopes
    pub kinds_now : (own : Owned) → own_told (entries_at (view_of rest.pass).seen) w.knows.who.task ≡ own → kinds_told (entries_at (view_of rest.pass).seen) w.knows.who.task ≡ reverse (kinds_of own)
    kinds_now own is = ap (λ (o : Owned). reverse (kinds_of o)) is

  pub was_granted : (code : Block) → Stands L.fixed.program.script code → (ticket : AnyTicket) (faults : List Fault) (started : Option AnyTicket) (given : Option Child) (who : Caller) → asker ticket ≡ Some who → who.task ≡ w.knows.who.task → who.place ≡ w.knows.who.place
      → (act : Act) → brought act ≡ faults → ((other : Block) → Stands L.fixed.program.script other → (s : StandsSo other L w.hand w.knows.who.task) → GrantedSo shape L rest reply child w other s ticket act)
      → IsStarted L rest.place rest.pass started given → WasGranted shape L rest ticket faults started given
  was_granted code stands ticket faults started given who asks task place act brings so begins =
      let first = so code stands (w.knows.stands code stands) in
      let run = of_run shape L rest reply child w in
      record {
        term = first.ready.0;
        stands = first.ready.1;
        word = run.word;
        lawful = run.lawful;
        goes = λ c h term vars is.
            knows_with shape L rest reply child w c ticket [] h is who asks task place
            (λ other at s.
            let x = so other at s in
            stands_granted other L w.hand w.knows.who.task s act c rest.place rest.pass rest.seat ticket h x.act_is x.goes is w.place (ap (λ (v : View EventItem). v.number) w.seat.view) (ap (λ (v : View EventItem). v.seen) w.seat.view)
            (subst (λ (f : Shape). StandsFor f c (granted (brought act) s.stand.term)) (sym program)
            (subst (λ (fs : List Fault). StandsFor shape c (granted fs s.stand.term)) (sym brings)
            (subst (λ (u : Term). StandsFor shape c u) (x.ready.2 faults) (term x.ready.0 x.ready.1))))
            (vars ∙ (w.control.vars ∙ (s.vars ∙ sym x.told))) (run.lawful.made other at));
        begins = begins;
      }
