-- The turn of a print.
use Rattle.std.proofs.Common.{◌≡◌, ℕ, ℤ, false, reverse, List, [], Some, slice_set, refl, true, ap, ◌∙◌, sym, subst}
use Rattle.rx_rules.proofs.Common.{PlaceId, TaskId, Block, does, begins, granted, Prints, Does, Tree, inner, AllowedAct, Given, Game, Player, Turn, tree_in}
use Rattle.rx_rules.specs.declared.tasks.Task.{Task}
use Rattle.rx_rules.specs.declared.entries.Act.{Act}
use Rattle.rx_rules.specs.declared.entries.Act.TheVariants.{Print}
use Rattle.rx_rules.specs.Plays.{Fits}
use Rattle.rx_chronicle.specs.Requests.{Granted}
use Rattle.rx_syntax.specs.Shape.{Shape}
use Rattle.rx_control.specs.Stands.{StandsFor}
use Rattle.rx_machine.specs.declared.machine.Machine.{Machine}
use Rattle.rx_machine.specs.declared.seat.Mover.{Mover}
use Rattle.rx_machine.specs.Slots.{row_of, own_kinds, seat_of}
use Rattle.rx_tree_laws.specs.Held.{is_held}
use Rattle.rx_machine.specs.Holds.{Seated, Acting, LeadsTo}
use Rattle.rx_machine.proofs.Acted.{told-nothing, went, of-game, acted}
use Rattle.rx_machine.proofs.Asking.{asks-free}
use Rattle.rx_tree_laws.proofs.Beginning.{begins-so}
use Rattle.rx_tree_laws.specs.TermSteps.{BeginsStatement}
use Rattle.rx_tree_laws.proofs.Granting.{AfterGrant, after-grant}
use Rattle.rx_tree_laws.proofs.SpineGrants.{GrantsSpine, spine-grant}

-- the statement that prints
pub print-begins : (q : Player) (here : ℕ) (z : ℤ) → does q.vars here q.term ≡ Prints z → (x : List ℕ) × (begins q.term ≡ Some x)
print-begins q here z asks = subst (λ (d : Does). BeginsStatement d (begins q.term)) asks (begins-so q.vars here q.term)

module _ {L : Type 0} {shape : Shape} {code : Block} {U : Given} {m : Machine L} {k i : ℕ} {here : PlaceId} {q : Player} {mover : Mover} {G : Game} (a : Acting shape code U m k i here q mover G) (z : ℤ) (asks : does q.vars here.0 q.term ≡ Prints z) where
  pub printed : (m' : Machine L) (mover' : Mover) (x : List ℕ) → begins q.term ≡ Some x → m' ≡ record m { chronicle = m'.chronicle; seats = m'.seats; idle = m'.idle } → Granted m.chronicle mover.who (Print z x) mover.batch m'.chronicle → StandsFor shape mover'.control.value (granted [] q.term) → mover'.control.value.vars ≡ mover.control.value.vars → row_of (seat_of mover') ≡ row_of (seat_of mover) → mover'.who.inner ≡ mover.who.inner → m'.seats.items ≡ slice_set m.seats.items i (Some (seat_of mover')) → LeadsTo (Turn U k G true) (Seated shape code U m')
  printed m' mover' x path on did term vars row inside back =
      let T : Tree = tree_in U G in
      let s = a.gone.seat_is in
      let t : TaskId = mover.who.task in
      let act : Act = Print z x in
      let may : AllowedAct T t act = of-game (λ (V : Tree). AllowedAct V t act) a.but.shares did.allowed in
      let grant : AfterGrant (Prints z) (granted [] q.term) = subst (λ (d : Does). AfterGrant d (granted [] q.term)) asks (after-grant q.vars here.0 [] q.term s.held) in
      let spine : GrantsSpine (reverse (own_kinds T i)) (Prints z) (granted [] q.term) = subst (λ (d : Does). GrantsSpine (reverse (own_kinds T i)) d (granted [] q.term)) asks (spine-grant (reverse (own_kinds T i)) q.vars here.0 [] q.term s.spine) in
      let free : is_held q.term ≡ false = asks-free q here.0 (Prints z) asks (λ f. let g : ⊥ = cc f in g) in
      acted a act (subst (λ (d : Does). Fits here q.term d act) (sym asks) (refl, path)) may m' (seat_of mover') refl (λ n apart. refl) (λ n apart y h. (refl, refl)) refl
      (record {
        row = s.row ∙ ap (λ (x : Task). Some x) (sym row);
        inner = ap (λ (x : Task). inner T x) row ∙ (s.inner ∙ sym inside);
        work = (term, vars ∙ (s.work.1 ∙ sym (told-nothing (does q.vars here.0 q.term) act q.vars refl)));
        waits = ap (λ (x : Task). x.waits) row ∙ (s.waits ∙ (free ∙ sym grant.1));
        held = grant.0;
        spine = spine;
      })
      (went m m' on did) back
