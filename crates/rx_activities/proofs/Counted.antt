-- A census that was granted.
use Rattle.std.proofs.Common.{◌≡◌, ◌≤◌, ℕ, List, [], ◌∷◌, ◌++◌, reverse, Option, Some, refl, ap, sym, ◌∙◌, subst, arith, append_assoc}
use Rattle.rx_rules.specs.declared.entries.Act.{Act}
use Rattle.rx_rules.specs.declared.entries.Act.TheVariants.{Census}
use Rattle.rx_rules.specs.declared.entries.Entry.{Entry}
use Rattle.rx_rules.specs.declared.entries.Entry.TheVariants.{Step}
use Rattle.rx_rules.proofs.Common.{Block, Vars, Does, Counts, does, granted, tree_of, vars_told, Folds}
use Rattle.rx_syntax.specs.Shape.{Shape, Stands}
use Rattle.rx_control.specs.declared.control.Control.{Control}
use Rattle.rx_history.specs.declared.step.Next.TheVariants.{Book as BookStep}
use Rattle.rx_history.specs.declared.step.Want.TheVariants.{Census as WantCensus}
use Rattle.rx_history.specs.Next.{next_of}
use Rattle.rx_control.specs.Stands.{StandsFor}
use Rattle.rx_history.specs.Setups.{given}
use Rattle.rx_history.specs.declared.asks.Ask.TheVariants.{Census as AskCensus}
use Rattle.rx_finish.specs.declared.ledger.Caller.{Caller}
use Rattle.rx_ticket.specs.declared.tickets.AnyTicket.TheVariants.{Running}
use Rattle.rx_book.specs.declared.views.View.{View}
use Rattle.rx_book.specs.Passes.{view_of}
use Rattle.rx_book.specs.Named.{BookName}
use Rattle.rx_ledger.specs.declared.asks.Request.{Request}
use Rattle.rx_ledger.specs.declared.asks.Reply.TheVariants.{Census as Counted}
use Rattle.rx_ledger.specs.Told.{due_entries}
use Rattle.rx_ledger.specs.Answering.{asker}
use Rattle.rx_ledger.specs.Kept.{Answered}
use Rattle.rx_ledger.specs.Owned.{Owned, own_told}
use Rattle.rx_ledger.proofs.Called.{front_folds}
use Rattle.rx_ledger.proofs.StaysGood.{places_more}
use Rattle.rx_tree_laws.proofs.Granting.{AfterGrant}
use Rattle.rx_tree_laws.proofs.SpineGrants.{GrantsSpine}
use Rattle.rx_parts.specs.declared.items.EventItem.{EventItem}
use Rattle.rx_objects.specs.declared.ledger.LedgerFixed.{LedgerFixed}
use Rattle.rx_objects.specs.Ending.{entries_at}
use Rattle.rx_activities.specs.declared.replies.Child.{Child}
use Rattle.rx_activities.specs.declared.hand.Hand.{Hand}
use Rattle.rx_activities.specs.Knowing.{StandsSo, entries_seen, tree_seen}
use Rattle.rx_activities.specs.Inside.Sending.{WasSent, WasCounted}
use Rattle.rx_activities.proofs.Asked.{kinds_of}
use Rattle.rx_activities.proofs.BelowFew.{few_there, some_there}
use Rattle.rx_activities.proofs.Granted.{OneAct, GoneOn, stands_granted}
use Rattle.rx_activities.proofs.GrantedSo.{who_is}
use Rattle.rx_activities.proofs.GrantedReplies.{does_so, begins_so, next_is, grants, spines, fits_so, spine_is, now_own}
use Rattle.rx_activities.proofs.Sent.{between, lines, before, behind, applied, of_run, entries_now, lines_are, folds_so}
use Rattle.rx_activities.proofs.SentSo.{term_so, goes_on, one_act, knows_with}

module _ (shape : Shape) (L : BookName LedgerFixed) (rest : Hand) (child : Option Child) (program : L.fixed.program.script ≡ shape) (ticket : Caller) (places : ℕ) (w : WasSent shape L rest (Counted ticket places) child) where
  answer : Answered (before shape L rest (Counted ticket places) child w) w.op.request (Counted ticket places) (behind shape L rest (Counted ticket places) child w)
  answer = applied shape L rest (Counted ticket places) child w

  who : answer.answers.who ≡ w.knows.who
  who = who_is shape L rest (Counted ticket places) child w answer.answers.who (ap (λ (z : Request). asker z.ticket) answer.answers.asked)

  abbrev act : Act
  act = Census places answer.answers.path

  abbrev ls : List Entry
  ls = lines shape L rest (Counted ticket places) child w

  abbrev all : List Entry
  all = ls ++ due_entries answer.due

  -- what is told is how many there are
  count : places ≡ (tree_of L.fixed.setup.places all).places
  count = answer.answers.entry.allowed.asks.1

  was_fewer : (tree_seen L.fixed w.hand.pass).places ≤ places
  was_fewer =
      let mid = entries_at (between shape L rest (Counted ticket places) child w) in
      let is : all ≡ entries_seen w.hand.pass ++ (mid ++ due_entries answer.due) =
      ap (λ (l : List Entry). l ++ due_entries answer.due) (lines_are shape L rest (Counted ticket places) child w) ∙ append_assoc (entries_seen w.hand.pass) mid (due_entries answer.due) in
      let same = ap (λ (l : List Entry). (tree_of L.fixed.setup.places l).places) is in
      let more = places_more L.fixed.setup.places (entries_seen w.hand.pass) (mid ++ due_entries answer.due) in
      let n = count in
      omega (arith, same, more, n)

  is_there : places ≤ (tree_of L.fixed.setup.places (entries_at (view_of rest.pass).seen)).places
  is_there =
      let is = entries_now shape L rest (Counted ticket places) child w ∙ answer.answers.entry.added in
      let same = ap (λ (l : List Entry). (tree_of L.fixed.setup.places l).places) is in
      let more = places_more L.fixed.setup.places all (Step answer.answers.who.task act w.op.request.batch ∷ []) in
      let n = count in
      omega (arith, same, more, n)

  module _ (code : Block) (stands : Stands L.fixed.program.script code) (s : StandsSo code L w.hand w.knows.who.task) where
    folds : Folds (given L.fixed.setup) all
    folds =
        front_folds (given L.fixed.setup) all (Step answer.answers.who.task act w.op.request.batch ∷ [])
        (subst (Folds (given L.fixed.setup)) answer.answers.entry.added (folds_so shape L rest (Counted ticket places) child w code stands))

    asks_it : (name : ℕ) × (does s.stand.vars w.hand.place.0 s.stand.term ≡ Counts name)
    asks_it = does_so shape L rest (Counted ticket places) child w program code stands s AskCensus (ap (λ (z : Request). z.ask) answer.answers.asked)

    next_census : w.next ≡ BookStep WantCensus
    next_census = next_is shape L rest (Counted ticket places) child w program code stands s (Counts asks_it.0) asks_it.1

    stood : StandsFor shape rest.control.value s.stand.term
    stood =
        let e : rest.control.value ≡ w.hand.control.value = w.control.same (λ h. let f = sym next_census ∙ h in let g : ⊥ = cc f in g) (λ h. let f = sym next_census ∙ h in let g : ⊥ = cc f in g) in
        subst (λ (c : Control). StandsFor shape c s.stand.term) (sym e) (term_so shape L rest (Counted ticket places) child w program code stands s)

    next_there : next_of (does rest.control.value.vars w.hand.place.0 s.stand.term) ≡ BookStep WantCensus
    next_there =
        ap (λ (v : Vars). next_of (does v w.hand.place.0 s.stand.term)) w.control.vars
        ∙ (sym (w.does_next s.stand.term (term_so shape L rest (Counted ticket places) child w program code stands s)) ∙ next_census)

    act_so : OneAct code L w.hand w.knows.who.task s act (view_of rest.pass)
    act_so =
        one_act shape L rest (Counted ticket places) child w program code stands s answer.due answer.answers.who act answer.answers.entry.added who
        (fits_so shape L rest (Counted ticket places) child w program code stands s (Counts asks_it.0) act asks_it.1
        (begins_so shape L rest (Counted ticket places) child w program code stands s (Some answer.answers.path) (ap (λ (z : Request). z.path) answer.answers.asked)))

    goes_so : GoneOn code L w.hand w.knows.who.task s act (view_of rest.pass) (Running ticket)
    goes_so =
        let own : Owned = own_told (entries_seen w.hand.pass) w.knows.who.task in
        let grant : AfterGrant (Counts asks_it.0) (granted [] s.stand.term) = grants shape L rest (Counted ticket places) child w program code stands s (Counts asks_it.0) [] asks_it.1 in
        let spine : GrantsSpine (reverse (kinds_of own)) (Counts asks_it.0) (granted [] s.stand.term) = spines shape L rest (Counted ticket places) child w program code stands s (Counts asks_it.0) [] asks_it.1 in
        let told : (vars_told (does s.stand.vars w.hand.place.0 s.stand.term) act s.stand.vars).places ≡ places = ap (λ (z : Does). (vars_told z act s.stand.vars).places) asks_it.1 in
        record {
          held = grant.0;
          spine = spine_is shape L rest (Counted ticket places) child w program code stands s (granted [] s.stand.term) own (reverse (kinds_of own)) (now_own shape L rest (Counted ticket places) child w program code stands s) refl spine;
          known = subst (λ (n : ℕ). n ≤ (tree_of L.fixed.setup.places (entries_at (view_of rest.pass).seen)).places) (sym told) is_there;
          serves = λ few. (grant.1, goes_on shape L rest (Counted ticket places) child w program code stands s answer (Step answer.answers.who.task act w.op.request.batch ∷ []) answer.answers.entry.added few);
        }

    knew : rest.control.value.vars.places ≤ places
    knew =
        let e = ap (λ (v : Vars). v.places) (w.control.vars ∙ s.vars) in
        let k = s.known in
        let f = was_fewer in
        omega (arith, e, k, f)

  pub counted_granted : (code : Block) → Stands L.fixed.program.script code → WasCounted shape L rest (Running ticket) places
  counted_granted code stands =
      let s = w.knows.stands code stands in
      let run = of_run shape L rest (Counted ticket places) child w in
      record {
        term = s.stand.term;
        here = w.hand.place;
        stands = stood code stands s;
        asks = next_there code stands s;
        some = (let some = some_there (given L.fixed.setup) all (folds code stands s) in let n = count in omega (arith, some, n));
        few = (let few = few_there (given L.fixed.setup) all (folds code stands s) in let n = count in omega (arith, few, n));
        known = knew code stands s;
        word = run.word;
        lawful = run.lawful;
        goes = λ c h term vars is.
            knows_with shape L rest (Counted ticket places) child w c (Running ticket) [] h is ticket refl (ap (λ (v : Caller). v.task) answer.answers.ticket_is ∙ ap (λ (v : Caller). v.task) who)
            (ap (λ (v : Caller). v.place) answer.answers.ticket_is ∙ ap (λ (v : Caller). v.place) who)
            (λ other at z.
            stands_granted other L w.hand w.knows.who.task z act c rest.place rest.pass rest.seat (Running ticket) h (act_so other at z) (goes_so other at z) is w.place (ap (λ (v : View EventItem). v.number) w.seat.view) (ap (λ (v : View EventItem). v.seen) w.seat.view)
            (subst (λ (f : Shape). StandsFor f c (granted [] z.stand.term)) (sym program) (term z.stand.term w.hand.place (stood other at z) (next_there other at z)))
            (vars z.stand.term w.hand.place answer.answers.path (stood other at z) (next_there other at z) ∙ ap (λ (v : Vars). vars_told (does v w.hand.place.0 z.stand.term) act v) (w.control.vars ∙ z.vars)) (run.lawful.made other at));
      }
