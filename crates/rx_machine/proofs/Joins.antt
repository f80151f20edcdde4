-- The turn of a join.
use Rattle.std.proofs.Common.{◌≡◌, ℕ, false, List, [], ◌∷◌, ◌++◌, refl, ap, ◌∙◌, sym, subst}
use Rattle.rx_rules.proofs.Common.{PlaceId, Block, Tree, widened, Given, rest_of, Game, Turn, planned as due_turn, turns, tree_in}
use Rattle.rx_rules.specs.declared.entries.Entry.{Entry}
use Rattle.rx_rules.specs.declared.entries.Entry.TheVariants.{Join}
use Rattle.rx_rules.proofs.Append.{no_root-push, tree-push}
use Rattle.rx_history.specs.Logs.{Log}
use Rattle.rx_history.specs.Setups.{given}
use Rattle.rx_chronicle.specs.Requests.{with_entry}
use Rattle.rx_syntax.specs.Shape.{Shape}
use Rattle.rx_machine.specs.declared.machine.Machine.{Machine}
use Rattle.rx_machine.specs.Slots.{seat_at, SlotIs}
use Rattle.rx_machine.specs.Picking.{AreEnabled}
use Rattle.rx_machine.specs.Runs.{Falling, WentOn}
use Rattle.rx_machine.proofs.Own.{slot-on}

-- a machine to whose chronicle the join was appended, and which else is as it was
pub joined : {L : Type 0} {shape : Shape} {code : Block} {U : Given} {m : Machine L} {G : Game} (p : PlaceId) (t : Falling shape code U m (Join p) G) (c : Log) (k : ℕ) → c ≡ with_entry m.chronicle (Join p) → AreEnabled (tree_in U G) m.ready.members → WentOn shape code U (record m { chronicle = c }) k false G
joined {shape = shape} {code = code} {U = U} {m = m} {G = G} p t c k told ready =
    let h = t.can.holds in
    let G' : Game = record G { entries = G.entries ++ Join p ∷ []; plan = rest_of G.plan } in
    let turn : Turn U k G false G' = due_turn (Join p) t.due in
    let same : widened (tree_in U G) ≡ tree_in U G' = sym (tree-push U.places G.entries (Join p)) in (
      G',
      turn,
      record {
        seated = record {
          shares = record {
            on = h.shares.on;
            comes = turns h.shares.comes t.can.unreleased turn;
            setup = ap (λ (d : Log). given d.setup) told ∙ h.shares.setup;
            entries = ap (λ (d : Log). d.entries) told ∙ ap (λ (es : List Entry). es ++ Join p ∷ []) h.shares.entries;
            slots = h.shares.slots ∙ ap (λ (T : Tree). T.next_task) same;
            failed = h.shares.failed;
          };
          stores = h.stores;
          seats = λ n.
              subst (λ (T : Tree). SlotIs shape G'.entries T G.players n (seat_at m.seats.items n)) same
              (slot-on shape G.entries (Join p) (tree_in U G) (widened (tree_in U G)) G.players G.players n (seat_at m.seats.items n) refl (λ x live. (refl, refl)) refl (h.seats n));
        };
        unreleased = no_root-push G.entries (Join p) t.can.unreleased tt;
        ready = subst (λ (T : Tree). AreEnabled T m.ready.members) same ready;
      },
    )
