-- The turn that begins a finish.
use Rattle.std.proofs.Common.{◌≡◌, ℕ, false, List, [], ◌∷◌, ◌++◌, reverse, Some, slice_set, refl, true, ap, ◌∙◌, sym, subst}
use Rattle.std.proofs.lemmas.List.{reverse-append}
use Rattle.rx_rules.proofs.Common.{PlaceId, TaskId, ScopeId, Block, does, begins, granted, Opens, Does, Tree, AllowedAct, opened, Given, Game, Player, Turn, tree_in}
use Rattle.rx_rules.specs.declared.tasks.Task.{Task}
use Rattle.rx_rules.specs.declared.tasks.Kind.{Kind}
use Rattle.rx_rules.specs.declared.tasks.Kind.TheVariants.{Finish}
use Rattle.rx_rules.specs.declared.entries.Act.{Act}
use Rattle.rx_rules.specs.declared.entries.Act.TheVariants.{Open}
use Rattle.rx_rules.specs.Plays.{Fits}
use Rattle.rx_chronicle.specs.Requests.{Granted}
use Rattle.rx_syntax.specs.Shape.{Shape}
use Rattle.rx_control.specs.Stands.{StandsFor}
use Rattle.rx_machine.specs.declared.machine.Machine.{Machine}
use Rattle.rx_machine.specs.declared.seat.Mover.{Mover}
use Rattle.rx_machine.specs.Slots.{row_of, own_kinds, seat_of}
use Rattle.rx_tree_laws.specs.Held.{is_held}
use Rattle.rx_tree_laws.specs.Spine.{Spine}
use Rattle.rx_machine.specs.Holds.{Seated, Acting, LeadsTo}
use Rattle.rx_machine.proofs.Acted.{told-nothing, went, of-game, acted}
use Rattle.rx_machine.proofs.Asking.{asks-free}
use Rattle.rx_tree_laws.proofs.Beginning.{begins-so}
use Rattle.rx_tree_laws.specs.TermSteps.{BeginsStatement}
use Rattle.rx_tree_laws.proofs.Granting.{AfterGrant, after-grant}
use Rattle.rx_tree_laws.proofs.SpineGrants.{GrantsSpine, spine-grant}
use Rattle.rx_machine.proofs.Own.{own_scopes, opened-same, opened-other, inner-opened}

-- the statement that begins the finish
pub open-begins : (q : Player) (here : ℕ) → does q.vars here q.term ≡ Opens → (x : List ℕ) × (begins q.term ≡ Some x)
open-begins q here asks = subst (λ (d : Does). BeginsStatement d (begins q.term)) asks (begins-so q.vars here q.term)

module _ {L : Type 0} {shape : Shape} {code : Block} {U : Given} {m : Machine L} {k i : ℕ} {here : PlaceId} {q : Player} {mover : Mover} {G : Game} (a : Acting shape code U m k i here q mover G) (asks : does q.vars here.0 q.term ≡ Opens) where
  pub finish-opened : (m' : Machine L) (mover' : Mover) (s : ScopeId) (x : List ℕ) → begins q.term ≡ Some x → m' ≡ record m { chronicle = m'.chronicle; seats = m'.seats; idle = m'.idle } → Granted m.chronicle mover.who (Open s mover.who.inner x) mover.batch m'.chronicle → StandsFor shape mover'.control.value (granted [] q.term) → mover'.control.value.vars ≡ mover.control.value.vars → row_of (seat_of mover') ≡ row_of (seat_of mover) → mover'.who.inner ≡ s → m'.seats.items ≡ slice_set m.seats.items i (Some (seat_of mover')) → LeadsTo (Turn U k G true) (Seated shape code U m')
  finish-opened m' mover' s x path on did term vars row inside back =
      let T : Tree = tree_in U G in
      let h = a.gone.seat_is in
      let t : TaskId = mover.who.task in
      let r : ScopeId = mover.who.inner in
      let act : Act = Open s r x in
      let number : t.0 ≡ i = a.pick.number in
      let may : AllowedAct T t act = of-game (λ (V : Tree). AllowedAct V t act) a.but.shares did.allowed in
      let grant : AfterGrant Opens (granted [] q.term) = subst (λ (d : Does). AfterGrant d (granted [] q.term)) asks (after-grant q.vars here.0 [] q.term h.held) in
      let spine : GrantsSpine (reverse (own_kinds T i)) Opens (granted [] q.term) = subst (λ (d : Does). GrantsSpine (reverse (own_kinds T i)) d (granted [] q.term)) asks (spine-grant (reverse (own_kinds T i)) q.vars here.0 [] q.term h.spine) in
      let free : is_held q.term ≡ false = asks-free q here.0 Opens asks (λ f. let g : ⊥ = cc f in g) in
      let own = opened-same T t Finish s r in
      let own_now : own_scopes (opened T t Finish s r) i ≡ s ∷ own_scopes T i = subst (λ (n : ℕ). own_scopes (opened T t Finish s r) n ≡ s ∷ own_scopes T n) number own.0 in
      let kinds_now : own_kinds (opened T t Finish s r) i ≡ Finish ∷ own_kinds T i = subst (λ (n : ℕ). own_kinds (opened T t Finish s r) n ≡ Finish ∷ own_kinds T n) number own.1 in
      acted a act (subst (λ (d : Does). Fits here q.term d act) (sym asks) path) may m' (seat_of mover') refl (λ n apart. refl) (λ n apart y live. opened-other T t Finish s r n (λ e. apart (sym e ∙ number))) refl
      (record {
        row = h.row ∙ ap (λ (x : Task). Some x) (sym row);
        inner = inner-opened (opened T t Finish s r) i (row_of (seat_of mover')) s (own_scopes T i) (ap (λ (x : Task). x.number.0) row ∙ number) own_now ∙ sym inside;
        work = (term, vars ∙ (h.work.1 ∙ sym (told-nothing (does q.vars here.0 q.term) act q.vars refl)));
        waits = ap (λ (x : Task). x.waits) row ∙ (h.waits ∙ (free ∙ sym grant.1));
        held = grant.0;
        spine = subst (λ (ks : List Kind). Spine (granted [] q.term) ks) (sym (ap (λ (ks : List Kind). reverse ks) kinds_now ∙ reverse-cons Finish (own_kinds T i))) spine;
      })
      (went m m' on did) back
    where
      reverse-cons : {X : Type 0} (y : X) (ys : List X) → reverse (y ∷ ys) ≡ reverse ys ++ y ∷ []
      reverse-cons y ys = reverse-append (y ∷ []) ys
