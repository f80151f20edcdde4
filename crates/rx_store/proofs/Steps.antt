-- What a store keeps after an event, and what the event tells.
use Rattle.std.proofs.Common.{◌≡◌, ℕ, ◌-◌, ◌<◌, ◌^◌, false, [], ◌∷◌, ◌++◌, length, arith, sym, subst, ap, ◌∙◌, max, Option, Some, None}
use Rattle.rx_rules.proofs.Common.{PlaceId, State, opening_state}
use Rattle.rx_rules.specs.declared.events.Cell.{Cell}
use Rattle.rx_rules.specs.declared.events.PlaceEvent.{PlaceEvent}
use Rattle.rx_rules.specs.declared.events.PlaceEvent.TheVariants.{Done, Close}
use Rattle.rx_history.specs.Events.{Events}
use Rattle.rx_store.specs.declared.calls.Mark.{Mark}
use Rattle.rx_store.specs.Kept.{StoreView, state_of, ends_closed}
use Rattle.rx_store.specs.Answers.{StoreTells}
use Rattle.rx_store.specs.Table.{Table, TableStands, EventFits, KeepsBlocks, IsSteady, room_of}
use Rattle.rx_store.proofs.Running.{run_done, state_done, closed_done, stamp_done, run_close, closed_close, stamp_close, made_from}

-- what contracts see of the fields
abbrev pub seen : PlaceId → ℕ → Option Table → Events → StoreView
seen place w blocks J = record { place = place; words = w; events = J.events; spare = room_of blocks J.spare }

kept : (w : ℕ) (blocks : Option Table) (T : Table) (J : Events) (last : ℕ) → IsSteady w blocks J.events J.spare last → blocks ≡ Some T → KeepsBlocks w (Some T) J.events J.spare
kept w blocks T J last steady is = subst (λ (z : Option Table). KeepsBlocks w z J.events J.spare) is steady.blocks_are

-- fewer blocks were made than there are events
pub few_made : (w : ℕ) (blocks : Option Table) (T : Table) (J : Events) (last : ℕ) → IsSteady w blocks J.events J.spare last → blocks ≡ Some T → length J.events < 2 ^ 31 → T.made < 2 ^ 31
few_made w blocks T J last steady is few =
    let made = (kept w blocks T J last steady is).1.made_is in
    let most = made_from opening_state J.events in
    omega arith

-- a store has asked its blocks, and told the call
module _ (place : PlaceId) (w : ℕ) (blocks : Option Table) (T U : Table) (J K : Events) (last late : ℕ) (m : Mark) (cell : Cell) (old : StoreView)
    (steady : IsSteady w blocks J.events J.spare last) (is : blocks ≡ Some T) (view : seen place w blocks J ≡ old) (room : 0 < old.spare) (tells : EventFits T U cell) (late_is : late ≡ max m.stamp last)
    (journal : K ≡ record { events = J.events ++ Done m.task (max m.stamp last) cell m.path ∷ []; spare = J.spare - 1 }) where
  pub told_steady : IsSteady w (Some U) K.events K.spare late
  told_steady =
      let stamp = max m.stamp last in
      let K' : Events = record { events = J.events ++ Done m.task stamp cell m.path ∷ []; spare = J.spare - 1 } in
      let was = kept w blocks T J last steady is in
      let told = tells w (state_of J.events) was.1 in
      let left : 0 < J.spare - 1 = subst (λ (z : Option Table). 0 < room_of z J.spare) is (subst (λ (z : StoreView). 0 < z.spare) (sym view) room) in
      let made : IsSteady w (Some U) K'.events K'.spare late = record {
        run = run_done w opening_state false J.events m.task stamp cell m.path steady.run was.0 told.0;
        last_is = late_is ∙ sym (stamp_done 0 J.events m.task stamp cell m.path);
        blocks_are = (closed_done false J.events m.task stamp cell m.path, subst (λ (S : State). TableStands w U S) (sym (state_done opening_state J.events m.task stamp cell m.path)) told.1, left);
      } in
      subst (λ (z : Events). IsSteady w (Some U) z.events z.spare late) (sym journal) made

  pub told_tells : StoreTells old (seen place w (Some U) K) m cell
  told_tells =
      let K' : Events = record { events = J.events ++ Done m.task (max m.stamp last) cell m.path ∷ []; spare = J.spare - 1 } in
      let was = kept w blocks T J last steady is in
      let made : StoreTells (seen place w (Some T) J) (seen place w (Some U) K') m cell = record {
        open' = was.0;
        law = (tells w (state_of J.events) was.1).0;
        now = ap (λ z. seen place w (Some U) (record { events = J.events ++ Done m.task (max m.stamp z) cell m.path ∷ []; spare = J.spare - 1 })) steady.last_is;
      } in
      let now : StoreTells (seen place w (Some T) J) (seen place w (Some U) K) m cell = subst (λ (z : Events). StoreTells (seen place w (Some T) J) (seen place w (Some U) z) m cell) (sym journal) made in
      subst (λ (z : StoreView). StoreTells z (seen place w (Some U) K) m cell) (ap (λ (z : Option Table). seen place w z J) (sym is) ∙ view) now

-- a closed store has no blocks
pub closed_steady : (w : ℕ) (blocks : Option Table) (J K : Events) (last at : ℕ) → IsSteady w blocks J.events J.spare last → ends_closed J.events ≡ false → K ≡ record { events = J.events ++ Close at ∷ []; spare = J.spare - 1 } → IsSteady w None K.events K.spare at
closed_steady w blocks J K last at s is_open is =
    let made : IsSteady w None (J.events ++ Close at ∷ []) (J.spare - 1) at = record {
      run = run_close w opening_state false J.events at s.run is_open;
      last_is = sym (stamp_close 0 J.events at);
      blocks_are = closed_close false J.events at;
    } in
    subst (λ (z : Events). IsSteady w None z.events z.spare at) (sym is) made
