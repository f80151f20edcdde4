-- The ledger before the first entry.
use Rattle.std.proofs.Common.{◌≡◌, ℕ, ◌≤◌, ◌+◌, Bool, false, List, [], ◌∷◌, Option, Some, None, Result, Ok, Err, IfOk, replicate, refl, sym, ap, ◌∙◌, subst, arith}
use Rattle.rx_rules.proofs.Common.{NoMemory, PlaceId, ScopeId, Tree, opening, opens, has_number}
use Rattle.std.specs.List.{find}
use Rattle.std.specs.Global.{Box}
use Rattle.rx_rules.specs.declared.tasks.Kind.TheVariants.{Finish}
use Rattle.rx_rules.specs.declared.tasks.Where.TheVariants.{At}
use Rattle.rx_rules.specs.declared.tasks.Task.{Task}
use Rattle.rx_rules.specs.declared.tasks.Scope.{Scope}
use Rattle.rx_counts.specs.declared.record.Sums.{Sums}
use Rattle.rx_counts.specs.declared.record.Record.{Record}
use Rattle.rx_counts.specs.declared.ledger.CountLedger.{CountLedger}
use Rattle.rx_counts.specs.Keeping.{stands_home}
use Rattle.rx_counts.specs.Stands.{SumsOf, RecordOf, Both, StandsFor, record_at, more, Pushed}
use Rattle.rx_counts.proofs.Joining.{join_here}
use Rattle.rx_counts.proofs.Asking.{as_wide}
use Rattle.rx_counts.proofs.Masking.{masked_opened}
use Rattle.rx_counts.proofs.NewRecord.{all_opened, sums_fresh}
use Rattle.rx_counts.proofs.Calling.{zero_cell}
use Rattle.rx_counts.specs.Inside.Opening.{IsZero}
use Rattle.rx_counts.proofs.Born.{IsNew, record_new}

abbrev root_id : ScopeId
root_id = record { 0 = 0 }

abbrev zero_place : PlaceId
zero_place = record { 0 = 0 }

abbrev root : Scope
root = record { number = root_id; kind = Finish; opener = None; home = zero_place; parent = None; body = []; ends = [] }

abbrev first : Task
first = record { number = record { 0 = 0 }; under = root_id; place = At zero_place; waits = false; struck = None }

nothing_fits : (size : ℕ) (keeps : Scope → Bool) (n : ℕ) → Both (RecordOf size keeps [] []) (record_at [] n) (find (has_number n) [])
nothing_fits size keeps n = tt

pub opened_first : (room : ℕ) (m : CountLedger) (places size : ℕ) (r : Record) (zero_ : Sums) (rs : List (Option (Box Record))) → rs ≡ [] → 1 ≤ places → places ≤ size → size ≤ 16 → room + places ≤ size → m.places ≡ places → m.width ≡ size → m.dead ≡ replicate 16 None → m.next_task ≡ 1 → m.next_scope ≡ 1 → m.totals ≡ record { scopes = 1; live = 1; travel = 0 } → r.kind ≡ Finish → r.home ≡ zero_place → r.parent ≡ None → r.finish ≡ root_id → IsZero size zero_ → r.sums ≡ more (At zero_place) zero_ → r.body ≡ [] → r.ends ≡ [] → Pushed r rs m.scopes → StandsFor m room (opening places)
opened_first room m places size r zero_ rs empty lo hi most fits same_places width dead next_task next_scope totals kind home parent finish z sums body ends pushed =
    let p : Pushed r [] m.scopes = subst (λ (xs : List (Option (Box Record))). Pushed r xs m.scopes) empty pushed in
    let T : Tree = opening places in
    let keeps : Scope → Bool = stands_home T.dead in
    let new : IsNew r root [] = record { kind = kind; home = home; parent = parent; finish = ap (λ (v : ScopeId). Some v.0) (sym finish); body = body; ends = ends } in
    let none : SumsOf keeps (root ∷ []) [] zero_ 0 = sums_fresh keeps root [] [] zero_ tt tt refl size z in
    let one_ : SumsOf keeps (root ∷ []) (first ∷ []) (more (At zero_place) zero_) 0 = join_here keeps (root ∷ []) [] first zero_ 0 refl refl (zero_cell size zero_ (At zero_place) z (omega arith)) none in
    record {
      reached = opens {limit = 16} places lo (omega arith);
      fit =
          record {
            places = same_places;
            dead = dead;
            next_task = next_task;
            next_scope = next_scope;
            totals = totals;
            numbers = p.len;
            scopes =
                as_wide size m.width keeps (root ∷ []) (first ∷ []) m.scopes width
                (all_opened keeps root [] [] (first ∷ []) [] m.scopes r refl tt (λ q n low old. absurd (omega arith)) p
                (record_new keeps root [] (first ∷ []) r new (ap (λ (v : Sums). v.places) sums ∙ z.places) (subst (λ (v : Sums). SumsOf keeps (root ∷ []) (first ∷ []) v 0) (sym sums) one_)) (nothing_fits size keeps));
            masked = masked_opened keeps root [] [] m.scopes r refl tt refl (ap (λ (v : Sums). v.masked) sums ∙ z.masked) p (λ n. tt);
          };
      has_room = record { width = (let a = width in omega arith); few = (let a = width in omega arith); cells = refl };
    }

-- a ledger that is as wide as its places and the joins has room for the joins
pub room_for : (places joins : ℕ) (r : Result CountLedger NoMemory) → IfOk r (λ l. (room : ℕ) → room + places ≤ places + joins → StandsFor l room (opening places)) → IfOk r (λ l. StandsFor l joins (opening places))
room_for places joins (Ok l) h = h joins (omega arith)
room_for places joins (Err e) h = tt
