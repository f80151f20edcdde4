-- The turn that ends a task.
use Rattle.std.proofs.Common.{◌≡◌, ℕ, Bool, true, false, cond, map, filter, reverse, List, [], ◌∷◌, ◌++◌, length, Option, Some, None, slice_get, slice_set, refl, ap, ◌∙◌, sym, subst, inl, inr}
use Rattle.std.specs.List.{find}
use Rattle.std.proofs.lemmas.List.{reverse-reverse}
use Rattle.rx_rules.proofs.Common.{PlaceId, TaskId, Fault, Block, does, Done, Does, Tree, task_of, own_scope, opened_by, AllowedAct, made_act, after_end, Given, Game, Player, Turn, turns, tree_in}
use Rattle.rx_rules.specs.declared.entries.Act.TheVariants.{End}
use Rattle.rx_rules.specs.declared.entries.Entry.{Entry}
use Rattle.rx_rules.specs.declared.entries.Entry.TheVariants.{Step}
use Rattle.rx_rules.specs.declared.tasks.Task.{Task}
use Rattle.rx_rules.specs.declared.tasks.Scope.{Scope}
use Rattle.rx_rules.specs.declared.tasks.Kind.{Kind}
use Rattle.rx_rules.specs.Picked.{ends}
use Rattle.rx_rules.proofs.Append.{tree-push}
use Rattle.rx_finish.specs.Callers.{IsBare, MayAskEnd}
use Rattle.rx_history.specs.Logs.{Log}
use Rattle.rx_history.specs.Setups.{given}
use Rattle.rx_chronicle.specs.Requests.{tree_told, Granted}
use Rattle.rx_store.specs.Kept.{StoreView}
use Rattle.rx_syntax.specs.Shape.{Shape}
use Rattle.rx_machine.specs.declared.machine.Machine.{Machine}
use Rattle.rx_machine.specs.declared.seat.Seat.{Seat}
use Rattle.rx_machine.specs.declared.seat.Mover.{Mover}
use Rattle.rx_machine.specs.Slots.{row_of, seat_at, SlotIs, live_task, own_kinds, seat_of}
use Rattle.rx_store.specs.Kepts.{StoresAre}
use Rattle.rx_machine.specs.Holds.{Seated, Acting, LeadsTo}
use Rattle.rx_machine.proofs.Finding.{same_or_not}
use Rattle.rx_machine.proofs.Live.{less-same, less-other, without_task}
use Rattle.rx_machine.proofs.Own.{end-tasks, end-own, slot-on}
use Rattle.rx_machine.proofs.Acted.{went, of-told, of-game}
use Rattle.rx_machine.proofs.Asking.{seat-id, seat-found, seat_asks, moving, asks-free}
use Rattle.rx_tree_laws.proofs.SpineGrants.{EmptyWhereDone, spine-done}

-- where no scope passes, none is found
none-found : (p : Scope → Bool) (gs : List Scope) → map (λ g. g.kind) (filter p gs) ≡ [] → find p gs ≡ None
none-found p [] h = refl
none-found p (g ∷ gs) h =
    elim (p g) as (λ b. map (λ g. g.kind) (cond b (g ∷ filter p gs) (filter p gs)) ≡ [] → cond b (Some g) (find p gs) ≡ None) [
      | true ↦ λ e. absurd (let f : ⊥ = cc in f)
      | false ↦ λ e. none-found p gs e
    ] h

-- an end numbers no task
end-next : (T : Tree) (t : TaskId) (thrown : List Fault) (x : Task) → task_of T t ≡ Some x → (after_end T t thrown).next_task ≡ T.next_task
end-next T t thrown x h = rw (h, after_end) refl

module _ {L : Type 0} {shape : Shape} {code : Block} {U : Given} {m : Machine L} {k i : ℕ} {here : PlaceId} {q : Player} {mover : Mover} {G : Game} (a : Acting shape code U m k i here q mover G) (fs : List Fault) (asks : does q.vars here.0 q.term ≡ Done fs) where
  -- the chronicle may be asked
  pub end-may : MayAskEnd (tree_told m.chronicle) mover.who
  end-may =
      let T : Tree = tree_in U G in
      let s = a.gone.seat_is in
      let empty : reverse (own_kinds T i) ≡ [] = subst (λ (d : Does). EmptyWhereDone (reverse (own_kinds T i)) d) asks (spine-done (reverse (own_kinds T i)) q.vars here.0 q.term s.spine) in
      let none : own_kinds T i ≡ [] = sym (reverse-reverse (own_kinds T i)) ∙ ap (λ (ks : List Kind). reverse ks) empty in
      of-told (λ (V : Tree). MayAskEnd V mover.who) a.but.shares
      (seat_asks s (IsBare T mover.who) a.numbers
      (record {
        moving = moving s here a.gone.is_at (asks-free q here.0 (Done fs) asks (λ f. let g : ⊥ = cc f in g));
        none_open = subst (λ (t : TaskId). own_scope T t ≡ None) (sym (seat-id s)) (none-found (opened_by (record { 0 = i })) T.scopes none);
      }))

  pub ended : (m' : Machine L) → m' ≡ record m { chronicle = m'.chronicle; seats = m'.seats; idle = m'.idle } → Granted m.chronicle mover.who (End fs) mover.batch m'.chronicle → m'.seats.items ≡ m.seats.items → LeadsTo (Turn U k G true) (Seated shape code U m')
  ended m' on did back =
      let T : Tree = tree_in U G in
      let t : TaskId = mover.who.task in
      let x : Task = row_of (seat_of mover) in
      let T' : Tree = made_act T t (End fs) in
      let pick = a.pick in
      let h = a.but.shares in
      let e = went m m' on did in
      let may : AllowedAct T t (End fs) = of-game (λ (V : Tree). AllowedAct V t (End fs)) h did.allowed in
      let G' : Game = record G { entries = G.entries ++ Step t (End fs) q.batch ∷ []; journals = slice_set G.journals here.0 a.events; stores = slice_set G.stores here.0 a.left } in
      let same : T' ≡ tree_in U G' = sym (tree-push U.places G.entries (Step t (End fs) q.batch)) in
      let found : task_of T t ≡ Some x = seat-found a.gone.seat_is in
      let gone : live_task T' i ≡ None = end-tasks T t fs x i found ∙ subst (λ (n : ℕ). live_task (without_task t T) n ≡ None) pick.number (less-same T t) in
      let turn : Turn U k G true G' =
      ends x here a.began q a.store a.left a.events fs (pick.none_due, pick.picked) a.gone.is_at
      (subst (λ (n : ℕ). slice_get G.players n ≡ Some a.began) (sym pick.number) a.gone.player) a.gone.store a.gone.goes asks may in (
        G',
        turn,
        record {
          shares = record {
            on = h.on;
            comes = turns h.comes pick.stands turn;
            setup = ap (λ (c : Log). given c.setup) e.told ∙ h.setup;
            entries = ap (λ (c : Log). c.entries) e.told
                ∙ (ap (λ (es : List Entry). es ++ Step t (End fs) mover.batch ∷ []) h.entries ∙ ap (λ (b : List (List ℕ)). G.entries ++ Step t (End fs) b ∷ []) a.gone.batch);
            slots = ap (λ xs. length xs) back ∙ (h.slots ∙ (sym (end-next T t fs x found) ∙ ap (λ (V : Tree). V.next_task) same));
            failed = e.failed ∙ h.failed;
          };
          stores = subst (λ (ss : List StoreView). StoresAre U.heap 0 ss (slice_set G.journals here.0 a.events)) (ap (λ v. v.items) (sym e.stores)) a.stores;
          seats = λ n.
              subst (λ (V : Tree). SlotIs shape G'.entries V G.players n (seat_at m'.seats.items n)) same
              (subst (λ (xs : List (Option Seat)). SlotIs shape G'.entries T' G.players n (seat_at xs n)) (sym back)
              (elim (same_or_not n i) [
                | inl w ↦ subst (λ (v : ℕ). SlotIs shape G'.entries T' G.players v (seat_at m.seats.items v)) (sym w)
                    (subst (λ (o : Option Seat). SlotIs shape G'.entries T' G.players i o) (sym a.but.empty) gone)
                | inr apart ↦
                    slot-on shape G.entries (Step t (End fs) q.batch) T T' G.players G.players n (seat_at m.seats.items n)
                    (end-tasks T t fs x n found ∙ less-other T t n (λ w. apart (sym w ∙ pick.number)))
                    (λ y z. end-own T t fs x n found) refl (a.but.others n apart)
              ]));
        },
      )
