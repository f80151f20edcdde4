-- The turn of a census.
use Rattle.std.proofs.Common.{◌≡◌, ℕ, false, reverse, List, [], Some, slice_set, refl, true, ap, ◌∙◌, sym, subst}
use Rattle.rx_rules.proofs.Common.{PlaceId, TaskId, Block, Vars, does, begins, granted, Counts, Does, Tree, inner, AllowedAct, vars_told, Given, Game, Player, Turn, tree_in}
use Rattle.rx_rules.specs.declared.tasks.Task.{Task}
use Rattle.rx_rules.specs.declared.entries.Act.{Act}
use Rattle.rx_rules.specs.declared.entries.Act.TheVariants.{Census}
use Rattle.rx_rules.specs.Plays.{Fits}
use Rattle.rx_chronicle.specs.Requests.{Granted}
use Rattle.rx_syntax.specs.Shape.{Shape}
use Rattle.rx_control.specs.Stands.{StandsFor}
use Rattle.rx_machine.specs.declared.machine.Machine.{Machine}
use Rattle.rx_machine.specs.declared.seat.Mover.{Mover}
use Rattle.rx_machine.specs.Slots.{row_of, own_kinds, seat_of}
use Rattle.rx_tree_laws.specs.Held.{is_held}
use Rattle.rx_machine.specs.Holds.{Seated, Acting, LeadsTo}
use Rattle.rx_machine.specs.Refusals.{HasMade}
use Rattle.rx_machine.proofs.Acted.{went, of-game, told-so, acted}
use Rattle.rx_machine.proofs.Asking.{asks-free}
use Rattle.rx_tree_laws.proofs.Beginning.{begins-so}
use Rattle.rx_tree_laws.specs.TermSteps.{BeginsStatement}
use Rattle.rx_tree_laws.proofs.Granting.{AfterGrant, after-grant}
use Rattle.rx_tree_laws.proofs.SpineGrants.{GrantsSpine, spine-grant}

-- the statement that counts
pub census-begins : (q : Player) (here : ℕ) (name : ℕ) → does q.vars here q.term ≡ Counts name → (x : List ℕ) × (begins q.term ≡ Some x)
census-begins q here name asks = subst (λ (d : Does). BeginsStatement d (begins q.term)) asks (begins-so q.vars here q.term)

module _ {L : Type 0} {shape : Shape} {code : Block} {U : Given} {m : Machine L} {k i : ℕ} {here : PlaceId} {q : Player} {mover : Mover} {G : Game} (a : Acting shape code U m k i here q mover G) (name : ℕ) (asks : does q.vars here.0 q.term ≡ Counts name) (n : ℕ) (x : List ℕ) (path : begins q.term ≡ Some x) where
  fits-census : Fits here q.term (does q.vars here.0 q.term) (Census n x)
  fits-census = subst (λ (d : Does). Fits here q.term d (Census n x)) (sym asks) path

  -- the entry stands, whatever the control does then
  pub census-told : (m' : Machine L) → m' ≡ record m { chronicle = m'.chronicle; seats = m'.seats; idle = m'.idle } → Granted m.chronicle mover.who (Census n x) mover.batch m'.chronicle → HasMade U k G m'
  census-told m' on did =
      told-so a (Census n x) fits-census (of-game (λ (V : Tree). AllowedAct V mover.who.task (Census n x)) a.but.shares did.allowed) m' (went m m' on did)

  pub censused : (m' : Machine L) (mover' : Mover) → m' ≡ record m { chronicle = m'.chronicle; seats = m'.seats; idle = m'.idle } → Granted m.chronicle mover.who (Census n x) mover.batch m'.chronicle → StandsFor shape mover'.control.value (granted [] q.term) → mover'.control.value.vars ≡ vars_told (does mover.control.value.vars here.0 q.term) (Census n x) mover.control.value.vars → row_of (seat_of mover') ≡ row_of (seat_of mover) → mover'.who.inner ≡ mover.who.inner → m'.seats.items ≡ slice_set m.seats.items i (Some (seat_of mover')) → LeadsTo (Turn U k G true) (Seated shape code U m')
  censused m' mover' on did term vars row inside back =
      let T : Tree = tree_in U G in
      let s = a.gone.seat_is in
      let t : TaskId = mover.who.task in
      let act : Act = Census n x in
      let may : AllowedAct T t act = of-game (λ (V : Tree). AllowedAct V t act) a.but.shares did.allowed in
      let grant : AfterGrant (Counts name) (granted [] q.term) = subst (λ (d : Does). AfterGrant d (granted [] q.term)) asks (after-grant q.vars here.0 [] q.term s.held) in
      let spine : GrantsSpine (reverse (own_kinds T i)) (Counts name) (granted [] q.term) = subst (λ (d : Does). GrantsSpine (reverse (own_kinds T i)) d (granted [] q.term)) asks (spine-grant (reverse (own_kinds T i)) q.vars here.0 [] q.term s.spine) in
      let free : is_held q.term ≡ false = asks-free q here.0 (Counts name) asks (λ f. let g : ⊥ = cc f in g) in
      acted a act fits-census may m' (seat_of mover') refl (λ v apart. refl) (λ v apart y h. (refl, refl)) refl
      (record {
        row = s.row ∙ ap (λ (y : Task). Some y) (sym row);
        inner = ap (λ (y : Task). inner T y) row ∙ (s.inner ∙ sym inside);
        work = (term, vars ∙ ap (λ (v : Vars). vars_told (does v here.0 q.term) act v) s.work.1);
        waits = ap (λ (y : Task). y.waits) row ∙ (s.waits ∙ (free ∙ sym grant.1));
        held = grant.0;
        spine = spine;
      })
      (went m m' on did) back
