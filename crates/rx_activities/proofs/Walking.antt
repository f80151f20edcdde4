-- What an activity knows after a local step, and after a look at the ledger's word.
use Rattle.std.proofs.Common.{◌≡◌, ◌≤◌, ℕ, Bool, true, false, List, [], refl, ap, sym, ◌∙◌, subst}
use Rattle.rx_rules.proofs.Common.{PlaceId, TaskId, Block, opening_state, Term, Vars, Does, Local, Releases, does, Cells, begun, Player, RunsWithoutEntry, local as goes_by, stays as goes_none}
use Rattle.rx_runs.specs.Segments.{Stand}
use Rattle.rx_runs.proofs.SomeWords.{goes_some}
use Rattle.rx_runs.proofs.Knowing.{local_knows}
use Rattle.rx_syntax.specs.Shape.{Stands}
use Rattle.std.specs.Global.{Box}
use Rattle.rx_control.specs.declared.control.Control.{Control}
use Rattle.rx_control.specs.Stands.{StandsFor, AfterLocalStep}
use Rattle.rx_history.specs.declared.step.Next.TheVariants.{Local as LocalStep}
use Rattle.rx_history.specs.Next.{next_of}
use Rattle.rx_plan.proofs.Told.{told_local}
use Rattle.rx_check.specs.Checked.{Checked}
use Rattle.rx_book.specs.Named.{BookName}
use Rattle.rx_tree_laws.specs.Held.{is_held}
use Rattle.rx_tree_laws.proofs.Holding.{AfterLocal, after-local}
use Rattle.rx_tree_laws.proofs.Spines.{LeavesSpine, spine-local}
use Rattle.rx_tree_laws.proofs.Granting.{not_held}
use Rattle.rx_parts.specs.Ledger.{Walks, stays, local, stores}
use Rattle.rx_objects.specs.declared.ledger.LedgerFixed.{LedgerFixed}
use Rattle.rx_activities.specs.declared.hand.Hand.{Hand}
use Rattle.rx_activities.specs.Knowing.{StandsSo, ActivityInvariant, kinds_told, entries_seen, tree_seen, TicketServes}
use Rattle.rx_activities.specs.Turning.{BelongsToRun, StaysKnown}
use Rattle.rx_activities.specs.Inside.Stepping.{OnlySteps}

-- the activity with another control and batch
abbrev pub stepped : Hand → Box Control → List (List ℕ) → Hand
stepped a c batch = record a { control = c; batch = batch }

-- where nothing else is changed it is this
pub is_stepped : (a b : Hand) → OnlySteps a b → b ≡ stepped a b.control b.batch
is_stepped a b o = λ i. record {
  control = b.control;
  batch = b.batch;
  ticket = o.ticket i;
  place = o.place i;
  made = o.made i;
  pass = o.pass i;
  seat = o.seat i;
  told = o.told i;
}

-- where only these are other, nothing else is changed
pub steps_only : (a : Hand) (c : Box Control) (batch : List (List ℕ)) → OnlySteps a (stepped a c batch)
steps_only a c batch = record { ticket = refl; place = refl; made = refl; pass = refl; seat = refl; told = refl }

-- a walk with one local step more
pub walk_local : {here : PlaceId} {a z : Stand} {cells : Cells} {after : Term} {left : Vars} → Walks here a cells z → does z.vars here.0 z.term ≡ Local after left → Walks here a cells (record { low = z.low; vars = left; term = after; batch = begun z.term z.batch })
walk_local stays e = local e stays
walk_local (local h w) e = local h (walk_local w e)
walk_local (stores a low told b w) e = stores a low told b (walk_local w e)

-- what stands so goes on so
pub stands_local : (code : Block) (L : BookName LedgerFixed) (a : Hand) (t : TaskId) (s : StandsSo code L a t) (c : Box Control) (batch : List (List ℕ)) (after : Term) (left : Vars) → does s.stand.vars a.place.0 s.stand.term ≡ Local after left → StandsFor L.fixed.program.script c.value after
    → c.value.vars ≡ left → batch ≡ begun s.stand.term a.batch → StandsSo code L (stepped a c batch) t
stands_local code L a t s c batch after left e term vars made =
    let here = s.actor.birth.to.0 in
    let e' : does s.stand.vars here s.stand.term ≡ Local after left = ap (λ (p : PlaceId). does s.stand.vars p.0 s.stand.term) s.place ∙ e in
    let ks = kinds_told (entries_seen a.pass) t in
    let waits : AfterLocal (Local after left) = subst (λ (d : Does). AfterLocal d) e (after-local s.stand.vars a.place.0 s.stand.term s.held) in
    let spine : LeavesSpine ks (Local after left) = subst (λ (d : Does). LeavesSpine ks d) e (spine-local ks s.stand.vars a.place.0 s.stand.term s.spine) in
    let free : is_held s.stand.term ≡ false = not_held s.stand.vars a.place.0 s.stand.term (λ f. (let k : Local after left ≡ Releases = sym e ∙ f in cc)) in
    let p : Player = record { term = s.stand.term; vars = s.stand.vars; batch = [] } in
    let q : Player = record { term = after; vars = left; batch = begun s.stand.term [] } in
    let one : RunsWithoutEntry 0 0 t a.place p opening_state [] q opening_state [] = goes_by e goes_none in
    record {
      legal = s.legal;
      actor = s.actor;
      stands = s.stands;
      holder = s.holder;
      seated = s.seated;
      here = s.here;
      place = s.place;
      events = s.events;
      stand = record { low = s.stand.low; vars = left; term = after; batch = begun s.stand.term s.stand.batch };
      walks = walk_local s.walks e';
      in_time = s.in_time;
      term = term;
      vars = vars;
      batch = made ∙ ap (begun s.stand.term) s.batch;
      some = (goes_some 0 0 t a.place p q opening_state opening_state [] [] one s.some).0;
      known = subst (λ (n : ℕ). n ≤ (tree_seen L.fixed a.pass).places) (sym (local_knows s.stand.vars left a.place.0 s.stand.term after e)) s.known;
      held = waits.0;
      calm = λ yes. absurd (let no : true ≡ false = sym yes ∙ waits.1 in cc);
      spine = spine;
      serves = λ short. subst (λ (b : Bool). TicketServes (tree_seen L.fixed a.pass) b a.ticket) (free ∙ sym waits.1) (s.serves short);
    }

-- each hand that knows keeps knowing
pub knows_local : (L : BookName LedgerFixed) (a b : Hand) → ActivityInvariant L a → OnlySteps a b → ((code : Block) → Stands L.fixed.program.script code → (t : TaskId) → StandsSo code L a t → StandsSo code L (stepped a b.control b.batch) t) → ActivityInvariant L b
knows_local L a b k o go =
    subst (ActivityInvariant L) (sym (is_stepped a b o)) (record {
      who = k.who;
      asks = k.asks;
      is_at = k.is_at;
      pass = k.pass;
      seat = k.seat;
      inside = k.inside;
      older = k.older;
      unmade = k.unmade;
      stands = λ code stands. go code stands k.who.task (k.stands code stands);
    })

-- a local step was made
pub made_local : (L : BookName LedgerFixed) (a b : Hand) → ActivityInvariant L a → OnlySteps a b
    → ((t : Term) → StandsFor L.fixed.program.script a.control.value t → LocalStep ≡ next_of (does a.control.value.vars a.place.0 t))
    → ((t : Term) → StandsFor L.fixed.program.script a.control.value t → AfterLocalStep L.fixed.program.script b.control.value (does a.control.value.vars a.place.0 t) × (b.batch ≡ begun t a.batch)) → ActivityInvariant L b
made_local L a b k o next made =
    knows_local L a b k o (λ code stands t s.
    let n : next_of (does s.stand.vars a.place.0 s.stand.term) ≡ LocalStep = ap (λ (v : Vars). next_of (does v a.place.0 s.stand.term)) (sym s.vars) ∙ sym (next s.stand.term s.term) in
    let l = told_local (does s.stand.vars a.place.0 s.stand.term) n in
    let did = made s.stand.term s.term in
    let leaves : AfterLocalStep L.fixed.program.script b.control.value (does s.stand.vars a.place.0 s.stand.term) = subst (λ (v : Vars). AfterLocalStep L.fixed.program.script b.control.value (does v a.place.0 s.stand.term)) s.vars did.0 in
    let left : StandsFor L.fixed.program.script b.control.value l.0 × (b.control.value.vars ≡ l.1) = subst (λ (d : Does). AfterLocalStep L.fixed.program.script b.control.value d) l.2 leaves in
    stands_local code L a t s b.control b.batch l.0 l.1 l.2 left.0 left.1 did.1)

-- in each run of the program
pub stays_known : (p : Checked) (a b : Hand) → OnlySteps a b
    → ((t : Term) → StandsFor p.script a.control.value t → LocalStep ≡ next_of (does a.control.value.vars a.place.0 t))
    → ((t : Term) → StandsFor p.script a.control.value t → AfterLocalStep p.script b.control.value (does a.control.value.vars a.place.0 t) × (b.batch ≡ begun t a.batch)) → StaysKnown p a b
stays_known p a b o next made L program k =
    made_local L a b k o (λ t s. next t (subst (λ (q : Checked). StandsFor q.script a.control.value t) program s))
    (λ t s. let d = made t (subst (λ (q : Checked). StandsFor q.script a.control.value t) program s) in (subst (λ (q : Checked). AfterLocalStep q.script b.control.value (does a.control.value.vars a.place.0 t)) (sym program) d.0, d.1))

-- the control of an activity stands for a term
pub has_term : (p : Checked) (a : Hand) (code : Block) → Stands p.script code → BelongsToRun p a → (t : Term) × StandsFor p.script a.control.value t
has_term p a code stands k =
    let s = k.2.stands code (subst (λ (q : Checked). Stands q.script code) (sym k.1) stands) in
    (s.stand.term, subst (λ (q : Checked). StandsFor q.script a.control.value s.stand.term) k.1 s.term)

-- what was known of an activity is known of it when it has gone on
pub known_on : (p : Checked) (a b : Hand) → StaysKnown p a b → BelongsToRun p a → BelongsToRun p b
known_on p a b on k = (k.0, k.1, on k.0 k.1 k.2)
