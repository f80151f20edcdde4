-- A place joins.
use Rattle.std.proofs.Common.{◌≡◌, ℕ, suc, ◌+◌, length, refl, ap, arith}
use Rattle.rx_rules.proofs.Common.{PlaceId, Tree, widened, joins}
use Rattle.rx_finish.specs.Callers.{MayJoin}
use Rattle.rx_counts.specs.declared.ledger.CountLedger.{CountLedger}
use Rattle.rx_counts.specs.Stands.{StandsFor, record_at}
use Rattle.rx_counts.proofs.Asking.{same_fit}

-- one place more, in tables that have a column for it
pub joined : {room : ℕ} (l m : CountLedger) (T : Tree) (p : PlaceId) → StandsFor l (suc room) T → MayJoin T p → m.places ≡ l.places + 1 → m.width ≡ l.width → m.dead ≡ l.dead → m.next_task ≡ l.next_task → m.next_scope ≡ l.next_scope → m.totals ≡ l.totals → m.scopes ≡ l.scopes → StandsFor m room (widened T)
joined l m T p st may places width dead next_task next_scope totals same =
    let f = same_fit l (record m { places = l.places }) T st.fit refl width dead next_task next_scope totals (ap length same) (λ n. ap (λ v. record_at v n) same) in
    record {
      reached = joins p st.reached may;
      fit =
          record {
            places = (let a = st.fit.places in omega arith);
            dead = f.dead;
            next_task = f.next_task;
            next_scope = f.next_scope;
            totals = f.totals;
            numbers = f.numbers;
            scopes = f.scopes;
            masked = f.masked;
          };
      has_room = record { width = (let a = st.has_room.width in omega arith); few = (let a = st.has_room.few in omega arith); cells = st.has_room.cells };
    }
