use Rattle.std.proofs.Common.{◌≡◌, ◌≤◌, ℕ, List, [], sym, ◌∙◌, subst}
use Rattle.rx_rules.proofs.Common.{PlaceId, Term, does, granted, vars_told}
use Rattle.rx_rules.specs.declared.entries.Act.TheVariants.{Census as CensusAct}
use Rattle.rx_control.specs.declared.control.Control.{Control}
use Rattle.rx_history.specs.declared.step.Next.TheVariants.{Book as BookStep}
use Rattle.rx_history.specs.declared.step.Want.TheVariants.{Census as WantCensus}
use Rattle.rx_history.specs.Next.{next_of}
use Rattle.rx_control.specs.Stands.{StandsFor}
use Rattle.rx_ledger.proofs.Keepers.{ok_holds}
use Rattle.rx_activities.proofs.hand.Hand.count.Goals as goal

pub census_done-requires-clause-asks : goal.census_done-requires-clause-asks
census_done-requires-clause-asks g c =
    let w = c.requires.counted in
    let same = sym c.as_mut.ensures.value in (
      w.term,
      w.here,
      subst (λ (x : Control). StandsFor c.args.p.now.script x w.term) same w.stands,
      subst (λ (x : Control). next_of (does x.vars w.here.0 w.term) ≡ BookStep WantCensus) same w.asks,
    )

pub census_done-requires-clause-known : goal.census_done-requires-clause-known
census_done-requires-clause-known g c = subst (λ (x : Control). x.vars.places ≤ c.args.places) (sym c.as_mut.ensures.value) c.requires.counted.known

pub returns : goal.returns
returns g c =
    let fine = sym c.if-is_err.ensures.value in
    let w = c.keep.ensures in
    c.requires.counted.goes c.census_done.new.self c.keep.new.self (subst (λ (x : Control). (t : Term) (here : PlaceId) → StandsFor c.args.p.now.script x t → next_of (does x.vars here.0 t) ≡ BookStep WantCensus → StandsFor c.args.p.now.script c.census_done.new.self (granted [] t)) c.as_mut.ensures.value
    (ok_holds c.census_done.result _ fine c.census_done.ensures.stands))
    (subst (λ (x : Control). (t : Term) (here : PlaceId) (path : List ℕ) → StandsFor c.args.p.now.script x t → next_of (does x.vars here.0 t) ≡ BookStep WantCensus → c.census_done.new.self.vars ≡ vars_told (does x.vars here.0 t) (CensusAct c.args.places path) x.vars) c.as_mut.ensures.value
    (ok_holds c.census_done.result _ fine c.census_done.ensures.vars))
    (record {
      control = w.control;
      place_is = w.place_is;
      word = w.word;
      view = w.view;
      seat_is = w.seat_is;
      ticket_is = w.ticket_is;
      batch_is = w.batch_is ∙ c.open.ensures;
      told = w.told;
      unmade = w.unmade;
    })
