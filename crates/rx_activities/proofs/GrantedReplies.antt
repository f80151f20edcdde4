-- Each request that may be granted, by its reply.
use Rattle.std.proofs.Common.{◌≡◌, ℕ, drop, List, [], ◌∷◌, ◌++◌, reverse, Option, Some, None, refl, ap, sym, ◌∙◌, subst}
use Rattle.std.proofs.lemmas.List.{reverse-append, reverse-reverse}
use Rattle.rx_rules.proofs.Common.{ScopeId, Fault, Block, place_number, Term, Does, Opens, Calls, Spawns, Waits, Releases, Prints, does, begins, granted, raised_by, vars_told}
use Rattle.rx_rules.specs.declared.entries.Act.{Act}
use Rattle.rx_rules.specs.declared.entries.Act.TheVariants.{Open, At as ActCall, Spawn, Wait, Release, Print}
use Rattle.rx_rules.specs.declared.entries.Entry.TheVariants.{Step}
use Rattle.rx_rules.specs.declared.tasks.Kind.{Kind}
use Rattle.rx_rules.specs.declared.tasks.Kind.TheVariants.{Finish as OfFinish, Call as OfCall}
use Rattle.rx_rules.specs.Plays.{Fits}
use Rattle.rx_syntax.specs.Shape.{Shape, Stands}
use Rattle.rx_history.specs.Next.{next_of}
use Rattle.rx_finish.specs.declared.ledger.Caller.{Caller}
use Rattle.rx_finish.specs.declared.ledger.Outcome.{Outcome}
use Rattle.rx_history.specs.declared.asks.Ask.{Ask}
use Rattle.rx_history.specs.declared.asks.Ask.TheVariants.{Open as AskOpen, At as AskCall, Spawn as AskSpawn, Wait as AskWait, Release as AskRelease, Print as AskPrint}
use Rattle.rx_ticket.specs.declared.tickets.AnyTicket.{AnyTicket}
use Rattle.rx_ticket.specs.declared.tickets.AnyTicket.TheVariants.{Running, Held}
use Rattle.rx_book.specs.Passes.{view_of}
use Rattle.rx_book.specs.Named.{BookName}
use Rattle.rx_ledger.specs.declared.asks.Request.{Request}
use Rattle.rx_ledger.specs.declared.asks.Reply.{Reply}
use Rattle.rx_ledger.specs.declared.asks.Reply.TheVariants.{Opened, Called, Spawned, Waits as Waited, Released, Printed}
use Rattle.rx_ledger.specs.Answering.{asker}
use Rattle.rx_ledger.specs.Calling.{owned_by}
use Rattle.rx_ledger.specs.Kept.{Answered}
use Rattle.rx_ledger.specs.Owned.{Owned, own_told}
use Rattle.rx_tree_laws.specs.Spine.{Spine}
use Rattle.rx_tree_laws.proofs.Granting.{AfterGrant, after-grant}
use Rattle.rx_tree_laws.proofs.SpineGrants.{GrantsSpine, spine-grant}
use Rattle.rx_objects.specs.declared.ledger.LedgerFixed.{LedgerFixed}
use Rattle.rx_objects.specs.Ending.{entries_at}
use Rattle.rx_activities.specs.declared.replies.Child.{Child}
use Rattle.rx_activities.specs.declared.hand.Hand.{Hand}
use Rattle.rx_activities.specs.Knowing.{StandsSo, entries_seen, kinds_told}
use Rattle.rx_activities.specs.Inside.Births.{IsStarted}
use Rattle.rx_activities.specs.Inside.Sending.{SuitsStep, WasSent, WasGranted}
use Rattle.rx_activities.proofs.Asked.{kinds_of}
use Rattle.rx_activities.proofs.GrantedSo.{who_is, GrantedSo, ready_same, ready_wait, known_same, kinds_now, was_granted}
use Rattle.rx_activities.proofs.Sent.{before, behind, applied}
use Rattle.rx_activities.proofs.SentSo.{suits_so, path_so, next_so, own_now, goes_on, one_act}
use Rattle.rx_ledger.proofs.TermAsks.{newest}

-- the scopes without the newest
taken : (own rest : Owned) (x : ScopeId × Kind) → own ≡ x ∷ rest → drop 1 own ≡ rest
taken own rest x h = ap (λ (o : Owned). drop 1 o) h

-- What the step is, and what the term, its scopes and its waiting are after it, for given statements.
module _ (shape : Shape) (L : BookName LedgerFixed) (rest : Hand) (reply : Reply) (child : Option Child) (w : WasSent shape L rest reply child) (program : L.fixed.program.script ≡ shape)
    (code : Block) (stands : Stands L.fixed.program.script code) (s : StandsSo code L w.hand w.knows.who.task) where
  abbrev d : Does
  d = does s.stand.vars w.hand.place.0 s.stand.term

  abbrev own : Owned
  own = own_told (entries_seen w.hand.pass) w.knows.who.task

  pub does_so : (ask : Ask) → w.op.request.ask ≡ ask → SuitsStep d ask
  does_so ask is = subst (λ (z : Ask). SuitsStep d z) is (suits_so shape L rest reply child w program code stands s)

  pub begins_so : (o : Option (List ℕ)) → w.op.request.path ≡ o → begins s.stand.term ≡ o
  begins_so o is = sym (path_so shape L rest reply child w program code stands s) ∙ is

  pub next_is : (e : Does) → d ≡ e → w.next ≡ next_of e
  next_is e is = next_so shape L rest reply child w program code stands s ∙ ap next_of is

  pub grants : (e : Does) (faults : List Fault) → d ≡ e → AfterGrant e (granted faults s.stand.term)
  grants e faults is = subst (λ (z : Does). AfterGrant z (granted faults s.stand.term)) is (after-grant s.stand.vars w.hand.place.0 faults s.stand.term s.held)

  pub spines : (e : Does) (faults : List Fault) → d ≡ e → GrantsSpine (reverse (kinds_of own)) e (granted faults s.stand.term)
  spines e faults is = subst (λ (z : Does). GrantsSpine (reverse (kinds_of own)) z (granted faults s.stand.term)) is (spine-grant (reverse (kinds_of own)) s.stand.vars w.hand.place.0 faults s.stand.term s.spine)

  pub fits_so : (e : Does) (act : Act) → d ≡ e → Fits w.hand.place s.stand.term e act → Fits w.hand.place s.stand.term d act
  fits_so e act is f = subst (λ (z : Does). Fits w.hand.place s.stand.term z act) (sym is) f

  pub spine_is : (t : Term) (left : Owned) (ks : List Kind) → own_told (entries_at (view_of rest.pass).seen) w.knows.who.task ≡ left → reverse (kinds_of left) ≡ ks → Spine t ks → Spine t (kinds_told (entries_at (view_of rest.pass).seen) w.knows.who.task)
  spine_is t left ks is same h = subst (Spine t) (sym (kinds_now shape L rest reply child w program code stands s left is ∙ same)) h

  pub told_so : (e : Does) (act : Act) → d ≡ e → vars_told e act s.stand.vars ≡ s.stand.vars → vars_told d act s.stand.vars ≡ s.stand.vars
  told_so e act is same = ap (λ (z : Does). vars_told z act s.stand.vars) is ∙ same

  pub now_own : own_told (entries_at (view_of rest.pass).seen) w.knows.who.task ≡ owned_by reply own
  now_own = own_now shape L rest reply child w program code stands s

-- A finish was opened.
module _ (shape : Shape) (L : BookName LedgerFixed) (rest : Hand) (child : Option Child) (program : L.fixed.program.script ≡ shape) (ticket : Caller) (scope : ScopeId) (w : WasSent shape L rest (Opened ticket scope) child) where
  opened_answer : Answered (before shape L rest (Opened ticket scope) child w) w.op.request (Opened ticket scope) (behind shape L rest (Opened ticket scope) child w)
  opened_answer = applied shape L rest (Opened ticket scope) child w

  opened_who : opened_answer.answers.who ≡ w.knows.who
  opened_who = who_is shape L rest (Opened ticket scope) child w opened_answer.answers.who (ap (λ (z : Request). asker z.ticket) opened_answer.answers.asked)

  abbrev opened_act : Act
  opened_act = Open scope opened_answer.answers.who.inner opened_answer.answers.path

  opened_so : (code : Block) (stands : Stands L.fixed.program.script code) (s : StandsSo code L w.hand w.knows.who.task) → GrantedSo shape L rest (Opened ticket scope) child w code s (Running ticket) opened_act
  opened_so code stands s =
      let o = opened_answer.answers in
      let own : Owned = own_told (entries_seen w.hand.pass) w.knows.who.task in
      let is : does s.stand.vars w.hand.place.0 s.stand.term ≡ Opens = does_so shape L rest (Opened ticket scope) child w program code stands s AskOpen (ap (λ (z : Request). z.ask) o.asked) in
      let path = begins_so shape L rest (Opened ticket scope) child w program code stands s (Some o.path) (ap (λ (z : Request). z.path) o.asked) in
      let grant : AfterGrant Opens (granted [] s.stand.term) = grants shape L rest (Opened ticket scope) child w program code stands s Opens [] is in
      let spine : GrantsSpine (reverse (kinds_of own)) Opens (granted [] s.stand.term) = spines shape L rest (Opened ticket scope) child w program code stands s Opens [] is in
      let told = told_so shape L rest (Opened ticket scope) child w program code stands s Opens opened_act is refl in
      record {
        act_is = one_act shape L rest (Opened ticket scope) child w program code stands s opened_answer.due o.who opened_act o.entry.added opened_who (fits_so shape L rest (Opened ticket scope) child w program code stands s Opens opened_act is path);
        goes = record {
          held = grant.0;
          spine = spine_is shape L rest (Opened ticket scope) child w program code stands s (granted [] s.stand.term) ((scope, OfFinish) ∷ own) (reverse (kinds_of own) ++ OfFinish ∷ []) (now_own shape L rest (Opened ticket scope) child w program code stands s) (reverse-append (OfFinish ∷ []) (kinds_of own)) spine;
          known = known_same shape L rest (Opened ticket scope) child w program code stands s opened_act told;
          serves = λ few. (grant.1, goes_on shape L rest (Opened ticket scope) child w program code stands s opened_answer (Step o.who.task opened_act w.op.request.batch ∷ []) o.entry.added few);
        };
        ready = ready_same shape L rest (Opened ticket scope) child w program code stands s (next_of Opens) (next_is shape L rest (Opened ticket scope) child w program code stands s Opens is) (λ h. let g : ⊥ = cc h in g) (λ h. let g : ⊥ = cc h in g);
        told = told;
      }

  pub opened_granted : (code : Block) → Stands L.fixed.program.script code → WasGranted shape L rest (Running ticket) [] None None
  opened_granted code stands =
      was_granted shape L rest (Opened ticket scope) child w program code stands (Running ticket) [] None None ticket refl (ap (λ (v : Caller). v.task) opened_answer.answers.ticket_is ∙ ap (λ (v : Caller). v.task) opened_who)
      (ap (λ (v : Caller). v.place) opened_answer.answers.ticket_is ∙ ap (λ (v : Caller). v.place) opened_who) opened_act refl opened_so tt

-- A call was opened.
module _ (shape : Shape) (L : BookName LedgerFixed) (rest : Hand) (child : Option Child) (program : L.fixed.program.script ≡ shape) (ticket : Caller) (callee : Option AnyTicket) (w : WasSent shape L rest (Called ticket callee) child) where
  called_answer : Answered (before shape L rest (Called ticket callee) child w) w.op.request (Called ticket callee) (behind shape L rest (Called ticket callee) child w)
  called_answer = applied shape L rest (Called ticket callee) child w

  called_who : called_answer.answers.who ≡ w.knows.who
  called_who = who_is shape L rest (Called ticket callee) child w called_answer.answers.who (ap (λ (z : Request). asker z.ticket) called_answer.answers.asked)

  abbrev called_act : Act
  called_act = ActCall (place_number called_answer.answers.who.place) called_answer.answers.to called_answer.answers.scope called_answer.answers.who.inner called_answer.answers.child called_answer.answers.path

  called_so : (code : Block) (stands : Stands L.fixed.program.script code) (s : StandsSo code L w.hand w.knows.who.task) → GrantedSo shape L rest (Called ticket callee) child w code s (Held ticket) called_act
  called_so code stands s =
      let o = called_answer.answers in
      let own : Owned = own_told (entries_seen w.hand.pass) w.knows.who.task in
      let is : does s.stand.vars w.hand.place.0 s.stand.term ≡ (Calls o.to.0) = does_so shape L rest (Called ticket callee) child w program code stands s (AskCall o.to) (ap (λ (z : Request). z.ask) o.asked) in
      let path = begins_so shape L rest (Called ticket callee) child w program code stands s (Some o.path) (ap (λ (z : Request). z.path) o.asked) in
      let grant : AfterGrant (Calls o.to.0) (granted [] s.stand.term) = grants shape L rest (Called ticket callee) child w program code stands s (Calls o.to.0) [] is in
      let spine : GrantsSpine (reverse (kinds_of own)) (Calls o.to.0) (granted [] s.stand.term) = spines shape L rest (Called ticket callee) child w program code stands s (Calls o.to.0) [] is in
      let told = told_so shape L rest (Called ticket callee) child w program code stands s (Calls o.to.0) called_act is refl in
      record {
        act_is = one_act shape L rest (Called ticket callee) child w program code stands s called_answer.due o.who called_act o.entry.added called_who (fits_so shape L rest (Called ticket callee) child w program code stands s (Calls o.to.0) called_act is (refl, (ap (λ (v : Caller). place_number v.place) called_who ∙ ap place_number w.knows.is_at), path));
        goes = record {
          held = grant.0;
          spine = spine_is shape L rest (Called ticket callee) child w program code stands s (granted [] s.stand.term) ((ticket.inner, OfCall) ∷ own) (reverse (kinds_of own) ++ OfCall ∷ []) (now_own shape L rest (Called ticket callee) child w program code stands s) (reverse-append (OfCall ∷ []) (kinds_of own)) spine;
          known = known_same shape L rest (Called ticket callee) child w program code stands s called_act told;
          serves = λ few. (grant.1, goes_on shape L rest (Called ticket callee) child w program code stands s called_answer (Step o.who.task called_act w.op.request.batch ∷ []) o.entry.added few);
        };
        ready = ready_same shape L rest (Called ticket callee) child w program code stands s (next_of (Calls o.to.0)) (next_is shape L rest (Called ticket callee) child w program code stands s (Calls o.to.0) is) (λ h. let g : ⊥ = cc h in g) (λ h. let g : ⊥ = cc h in g);
        told = told;
      }

  pub called_granted : (code : Block) → Stands L.fixed.program.script code → IsStarted L rest.place rest.pass callee child → WasGranted shape L rest (Held ticket) [] callee child
  called_granted code stands begins =
      was_granted shape L rest (Called ticket callee) child w program code stands (Held ticket) [] callee child ticket refl (ap (λ (v : Caller). v.task) called_answer.answers.ticket_is ∙ ap (λ (v : Caller). v.task) called_who)
      (ap (λ (v : Caller). v.place) called_answer.answers.ticket_is ∙ ap (λ (v : Caller). v.place) called_who) called_act refl called_so begins

-- A task was started.
module _ (shape : Shape) (L : BookName LedgerFixed) (rest : Hand) (child : Option Child) (program : L.fixed.program.script ≡ shape) (ticket : Caller) (started : Option AnyTicket) (w : WasSent shape L rest (Spawned ticket started) child) where
  spawned_answer : Answered (before shape L rest (Spawned ticket started) child w) w.op.request (Spawned ticket started) (behind shape L rest (Spawned ticket started) child w)
  spawned_answer = applied shape L rest (Spawned ticket started) child w

  spawned_who : spawned_answer.answers.who ≡ w.knows.who
  spawned_who = who_is shape L rest (Spawned ticket started) child w spawned_answer.answers.who (ap (λ (z : Request). asker z.ticket) spawned_answer.answers.asked)

  abbrev spawned_act : Act
  spawned_act = Spawn spawned_answer.answers.child spawned_answer.answers.scope (place_number spawned_answer.answers.who.place) spawned_answer.answers.to spawned_answer.answers.path

  spawned_so : (code : Block) (stands : Stands L.fixed.program.script code) (s : StandsSo code L w.hand w.knows.who.task) → GrantedSo shape L rest (Spawned ticket started) child w code s (Running ticket) spawned_act
  spawned_so code stands s =
      let o = spawned_answer.answers in
      let own : Owned = own_told (entries_seen w.hand.pass) w.knows.who.task in
      let is : does s.stand.vars w.hand.place.0 s.stand.term ≡ (Spawns o.to.0) = does_so shape L rest (Spawned ticket started) child w program code stands s (AskSpawn o.to) (ap (λ (z : Request). z.ask) o.asked) in
      let path = begins_so shape L rest (Spawned ticket started) child w program code stands s (Some o.path) (ap (λ (z : Request). z.path) o.asked) in
      let grant : AfterGrant (Spawns o.to.0) (granted [] s.stand.term) = grants shape L rest (Spawned ticket started) child w program code stands s (Spawns o.to.0) [] is in
      let spine : GrantsSpine (reverse (kinds_of own)) (Spawns o.to.0) (granted [] s.stand.term) = spines shape L rest (Spawned ticket started) child w program code stands s (Spawns o.to.0) [] is in
      let told = told_so shape L rest (Spawned ticket started) child w program code stands s (Spawns o.to.0) spawned_act is refl in
      record {
        act_is = one_act shape L rest (Spawned ticket started) child w program code stands s spawned_answer.due o.who spawned_act o.entry.added spawned_who (fits_so shape L rest (Spawned ticket started) child w program code stands s (Spawns o.to.0) spawned_act is (refl, (ap (λ (v : Caller). place_number v.place) spawned_who ∙ ap place_number w.knows.is_at), path));
        goes = record {
          held = grant.0;
          spine = spine_is shape L rest (Spawned ticket started) child w program code stands s (granted [] s.stand.term) (own) (reverse (kinds_of own)) (now_own shape L rest (Spawned ticket started) child w program code stands s) refl spine;
          known = known_same shape L rest (Spawned ticket started) child w program code stands s spawned_act told;
          serves = λ few. (grant.1, goes_on shape L rest (Spawned ticket started) child w program code stands s spawned_answer (Step o.who.task spawned_act w.op.request.batch ∷ []) o.entry.added few);
        };
        ready = ready_same shape L rest (Spawned ticket started) child w program code stands s (next_of (Spawns o.to.0)) (next_is shape L rest (Spawned ticket started) child w program code stands s (Spawns o.to.0) is) (λ h. let g : ⊥ = cc h in g) (λ h. let g : ⊥ = cc h in g);
        told = told;
      }

  pub spawned_granted : (code : Block) → Stands L.fixed.program.script code → IsStarted L rest.place rest.pass started child → WasGranted shape L rest (Running ticket) [] started child
  spawned_granted code stands begins =
      was_granted shape L rest (Spawned ticket started) child w program code stands (Running ticket) [] started child ticket refl (ap (λ (v : Caller). v.task) spawned_answer.answers.ticket_is ∙ ap (λ (v : Caller). v.task) spawned_who)
      (ap (λ (v : Caller). v.place) spawned_answer.answers.ticket_is ∙ ap (λ (v : Caller). v.place) spawned_who) spawned_act refl spawned_so begins

-- The task waits at its finish.
module _ (shape : Shape) (L : BookName LedgerFixed) (rest : Hand) (child : Option Child) (program : L.fixed.program.script ≡ shape) (ticket : Caller) (w : WasSent shape L rest (Waited ticket) child) where
  waited_answer : Answered (before shape L rest (Waited ticket) child w) w.op.request (Waited ticket) (behind shape L rest (Waited ticket) child w)
  waited_answer = applied shape L rest (Waited ticket) child w

  waited_who : waited_answer.answers.who ≡ w.knows.who
  waited_who = who_is shape L rest (Waited ticket) child w waited_answer.answers.who (ap (λ (z : Request). asker z.ticket) waited_answer.answers.asked)

  abbrev waited_act : Act
  waited_act = Wait waited_answer.answers.who.inner waited_answer.answers.thrown

  waited_so : (code : Block) (stands : Stands L.fixed.program.script code) (s : StandsSo code L w.hand w.knows.who.task) → GrantedSo shape L rest (Waited ticket) child w code s (Held ticket) waited_act
  waited_so code stands s =
      let o = waited_answer.answers in
      let own : Owned = own_told (entries_seen w.hand.pass) w.knows.who.task in
      let is : does s.stand.vars w.hand.place.0 s.stand.term ≡ (Waits o.thrown) = does_so shape L rest (Waited ticket) child w program code stands s (AskWait o.thrown) (ap (λ (z : Request). z.ask) o.asked) in
      let grant : AfterGrant (Waits o.thrown) (granted [] s.stand.term) = grants shape L rest (Waited ticket) child w program code stands s (Waits o.thrown) [] is in
      let spine : GrantsSpine (reverse (kinds_of own)) (Waits o.thrown) (granted [] s.stand.term) = spines shape L rest (Waited ticket) child w program code stands s (Waits o.thrown) [] is in
      let told = told_so shape L rest (Waited ticket) child w program code stands s (Waits o.thrown) waited_act is refl in
      record {
        act_is = one_act shape L rest (Waited ticket) child w program code stands s waited_answer.due o.who waited_act o.entry.added waited_who (fits_so shape L rest (Waited ticket) child w program code stands s (Waits o.thrown) waited_act is refl);
        goes = record {
          held = grant.0;
          spine = spine_is shape L rest (Waited ticket) child w program code stands s (granted [] s.stand.term) (own) (reverse (kinds_of own)) (now_own shape L rest (Waited ticket) child w program code stands s) refl spine.0;
          known = known_same shape L rest (Waited ticket) child w program code stands s waited_act told;
          serves = λ few. (grant.1, goes_on shape L rest (Waited ticket) child w program code stands s waited_answer (Step o.who.task waited_act w.op.request.batch ∷ []) o.entry.added few);
        };
        ready = ready_wait shape L rest (Waited ticket) child w program code stands s (next_is shape L rest (Waited ticket) child w program code stands s (Waits o.thrown) is);
        told = told;
      }

  pub waited_granted : (code : Block) → Stands L.fixed.program.script code → WasGranted shape L rest (Held ticket) [] None None
  waited_granted code stands =
      was_granted shape L rest (Waited ticket) child w program code stands (Held ticket) [] None None ticket refl (ap (λ (v : Caller). v.task) waited_answer.answers.ticket_is ∙ ap (λ (v : Caller). v.task) waited_who)
      (ap (λ (v : Caller). v.place) waited_answer.answers.ticket_is ∙ ap (λ (v : Caller). v.place) waited_who) waited_act refl waited_so tt

-- A scope was released.
module _ (shape : Shape) (L : BookName LedgerFixed) (rest : Hand) (child : Option Child) (program : L.fixed.program.script ≡ shape) (ticket : Caller) (outcome : Outcome) (w : WasSent shape L rest (Released ticket outcome) child) where
  released_answer : Answered (before shape L rest (Released ticket outcome) child w) w.op.request (Released ticket outcome) (behind shape L rest (Released ticket outcome) child w)
  released_answer = applied shape L rest (Released ticket outcome) child w

  released_who : released_answer.answers.who ≡ w.knows.who
  released_who = who_is shape L rest (Released ticket outcome) child w released_answer.answers.who (ap (λ (z : Request). asker z.ticket) released_answer.answers.asked)

  abbrev released_act : Act
  released_act = Release released_answer.answers.who.inner outcome.lost outcome.masked outcome.thrown

  released_so : (code : Block) (stands : Stands L.fixed.program.script code) (s : StandsSo code L w.hand w.knows.who.task) → GrantedSo shape L rest (Released ticket outcome) child w code s (Running ticket) released_act
  released_so code stands s =
      let o = released_answer.answers in
      let own : Owned = own_told (entries_seen w.hand.pass) w.knows.who.task in
      let is : does s.stand.vars w.hand.place.0 s.stand.term ≡ Releases = does_so shape L rest (Released ticket outcome) child w program code stands s AskRelease (ap (λ (z : Request). z.ask) o.asked) in
      let grant : AfterGrant Releases (granted (raised_by outcome.lost outcome.thrown) s.stand.term) = grants shape L rest (Released ticket outcome) child w program code stands s Releases (raised_by outcome.lost outcome.thrown) is in
      let spine : GrantsSpine (reverse (kinds_of own)) Releases (granted (raised_by outcome.lost outcome.thrown) s.stand.term) = spines shape L rest (Released ticket outcome) child w program code stands s Releases (raised_by outcome.lost outcome.thrown) is in
      let new = newest own spine.0 spine.1 spine.2 in
      let told = told_so shape L rest (Released ticket outcome) child w program code stands s Releases released_act is refl in
      record {
        act_is = one_act shape L rest (Released ticket outcome) child w program code stands s released_answer.due o.who released_act o.entry.added released_who (fits_so shape L rest (Released ticket outcome) child w program code stands s Releases released_act is tt);
        goes = record {
          held = grant.0;
          spine = spine_is shape L rest (Released ticket outcome) child w program code stands s (granted (raised_by outcome.lost outcome.thrown) s.stand.term) (new.1) spine.0 (now_own shape L rest (Released ticket outcome) child w program code stands s ∙ taken own new.1 (new.0, spine.1) new.2) (ap (λ (ks : List Kind). reverse ks) new.3 ∙ reverse-reverse spine.0) spine.3;
          known = known_same shape L rest (Released ticket outcome) child w program code stands s released_act told;
          serves = λ few. (grant.1, goes_on shape L rest (Released ticket outcome) child w program code stands s released_answer (Step o.who.task released_act w.op.request.batch ∷ []) o.entry.added few);
        };
        ready = ready_same shape L rest (Released ticket outcome) child w program code stands s (next_of Releases) (next_is shape L rest (Released ticket outcome) child w program code stands s Releases is) (λ h. let g : ⊥ = cc h in g) (λ h. let g : ⊥ = cc h in g);
        told = told;
      }

  pub released_granted : (code : Block) → Stands L.fixed.program.script code → WasGranted shape L rest (Running ticket) (raised_by outcome.lost outcome.thrown) None None
  released_granted code stands =
      was_granted shape L rest (Released ticket outcome) child w program code stands (Running ticket) (raised_by outcome.lost outcome.thrown) None None ticket refl (ap (λ (v : Caller). v.task) released_answer.answers.ticket_is ∙ ap (λ (v : Caller). v.task) released_who)
      (ap (λ (v : Caller). v.place) released_answer.answers.ticket_is ∙ ap (λ (v : Caller). v.place) released_who) released_act refl released_so tt

-- A value was printed.
module _ (shape : Shape) (L : BookName LedgerFixed) (rest : Hand) (child : Option Child) (program : L.fixed.program.script ≡ shape) (ticket : Caller) (w : WasSent shape L rest (Printed ticket) child) where
  printed_answer : Answered (before shape L rest (Printed ticket) child w) w.op.request (Printed ticket) (behind shape L rest (Printed ticket) child w)
  printed_answer = applied shape L rest (Printed ticket) child w

  printed_who : printed_answer.answers.who ≡ w.knows.who
  printed_who = who_is shape L rest (Printed ticket) child w printed_answer.answers.who (ap (λ (z : Request). asker z.ticket) printed_answer.answers.asked)

  abbrev printed_act : Act
  printed_act = Print printed_answer.answers.value printed_answer.answers.path

  printed_so : (code : Block) (stands : Stands L.fixed.program.script code) (s : StandsSo code L w.hand w.knows.who.task) → GrantedSo shape L rest (Printed ticket) child w code s (Running ticket) printed_act
  printed_so code stands s =
      let o = printed_answer.answers in
      let own : Owned = own_told (entries_seen w.hand.pass) w.knows.who.task in
      let is : does s.stand.vars w.hand.place.0 s.stand.term ≡ (Prints o.value) = does_so shape L rest (Printed ticket) child w program code stands s (AskPrint o.value) (ap (λ (z : Request). z.ask) o.asked) in
      let path = begins_so shape L rest (Printed ticket) child w program code stands s (Some o.path) (ap (λ (z : Request). z.path) o.asked) in
      let grant : AfterGrant (Prints o.value) (granted [] s.stand.term) = grants shape L rest (Printed ticket) child w program code stands s (Prints o.value) [] is in
      let spine : GrantsSpine (reverse (kinds_of own)) (Prints o.value) (granted [] s.stand.term) = spines shape L rest (Printed ticket) child w program code stands s (Prints o.value) [] is in
      let told = told_so shape L rest (Printed ticket) child w program code stands s (Prints o.value) printed_act is refl in
      record {
        act_is = one_act shape L rest (Printed ticket) child w program code stands s printed_answer.due o.who printed_act o.entry.added printed_who (fits_so shape L rest (Printed ticket) child w program code stands s (Prints o.value) printed_act is (refl, path));
        goes = record {
          held = grant.0;
          spine = spine_is shape L rest (Printed ticket) child w program code stands s (granted [] s.stand.term) (own) (reverse (kinds_of own)) (now_own shape L rest (Printed ticket) child w program code stands s) refl spine;
          known = known_same shape L rest (Printed ticket) child w program code stands s printed_act told;
          serves = λ few. (grant.1, goes_on shape L rest (Printed ticket) child w program code stands s printed_answer (Step o.who.task printed_act w.op.request.batch ∷ []) o.entry.added few);
        };
        ready = ready_same shape L rest (Printed ticket) child w program code stands s (next_of (Prints o.value)) (next_is shape L rest (Printed ticket) child w program code stands s (Prints o.value) is) (λ h. let g : ⊥ = cc h in g) (λ h. let g : ⊥ = cc h in g);
        told = told;
      }

  pub printed_granted : (code : Block) → Stands L.fixed.program.script code → WasGranted shape L rest (Running ticket) [] None None
  printed_granted code stands =
      was_granted shape L rest (Printed ticket) child w program code stands (Running ticket) [] None None ticket refl (ap (λ (v : Caller). v.task) printed_answer.answers.ticket_is ∙ ap (λ (v : Caller). v.task) printed_who)
      (ap (λ (v : Caller). v.place) printed_answer.answers.ticket_is ∙ ap (λ (v : Caller). v.place) printed_who) printed_act refl printed_so tt
