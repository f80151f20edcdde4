-- What each call of a store answers, and the event that tells it.
use Rattle.std.specs.Prelude.{◌≡◌, ℕ, ◌-◌, ℤ, max, true, false, List, [], ◌∷◌, ◌++◌, Result, Ok, Err}
use Rattle.rx_base.specs.declared.ids.GlobalRef.{GlobalRef}
use Rattle.rx_rules.specs.declared.events.Cell.{Cell}
use Rattle.rx_rules.specs.declared.events.Cell.TheVariants.{Make, MakeFull, Get, Put, Forget, GetRefused, PutRefused, ForgetStale}
use Rattle.rx_rules.specs.declared.events.PlaceEvent.{PlaceEvent}
use Rattle.rx_rules.specs.declared.events.PlaceEvent.TheVariants.{Done}
use Rattle.rx_rules.specs.Store.{MayCell}
use Rattle.rx_store.specs.declared.calls.Mark.{Mark}
use Rattle.rx_store.specs.declared.calls.StoreFault.{StoreFault}
use Rattle.rx_store.specs.declared.calls.StoreFault.TheVariants.{Closed, Stale, Index, Full}
use Rattle.rx_store.specs.Kept.{StoreView, state_of, ends_closed, last_stamp}

-- the event of a call; its stamp is the greater of the mark's and the journal's last
abbrev pub event_told : List PlaceEvent → Mark → Cell → PlaceEvent
event_told es m cell = Done m.task (max m.stamp (last_stamp es)) cell m.path

-- the store is open, the law allows the event next, and the journal has it; nothing else is changed but the room for it
pub record StoreTells (old new : StoreView) (m : Mark) (cell : Cell) : Type 0 where
  pub open' : ends_closed old.events ≡ false
  pub law : MayCell old.words (state_of old.events) cell
  pub now : new ≡ record old { events = old.events ++ event_told old.events m cell ∷ []; spare = old.spare - 1 }

-- the store is closed, and nothing is changed
pub record StaysClosed (old new : StoreView) : Type 0 where
  pub closed : ends_closed old.events ≡ true
  pub now : new ≡ old

-- what `make` answers
abbrev pub MakeAnswers : StoreView → StoreView → Mark → ℕ → Result GlobalRef StoreFault → Type 0
MakeAnswers old new m n (Ok r) = (r.home ≡ old.place) × StoreTells old new m (Make n r.start r.generation)
MakeAnswers old new m n (Err Closed) = StaysClosed old new
MakeAnswers old new m n (Err Full) = StoreTells old new m (MakeFull n)
MakeAnswers old new m n (Err Stale) = ⊥
MakeAnswers old new m n (Err Index) = ⊥

-- what `get` answers
abbrev pub GetAnswers : StoreView → StoreView → Mark → GlobalRef → ℤ → Result ℤ StoreFault → Type 0
GetAnswers old new m r i (Ok v) = StoreTells old new m (Get r i v)
GetAnswers old new m r i (Err Closed) = StaysClosed old new
GetAnswers old new m r i (Err Stale) = StoreTells old new m (GetRefused r i true)
GetAnswers old new m r i (Err Index) = StoreTells old new m (GetRefused r i false)
GetAnswers old new m r i (Err Full) = ⊥

-- what `put` answers
abbrev pub PutAnswers : {T : Type 0} → StoreView → StoreView → Mark → GlobalRef → ℤ → ℤ → Result T StoreFault → Type 0
PutAnswers old new m r i v (Ok done) = StoreTells old new m (Put r i v)
PutAnswers old new m r i v (Err Closed) = StaysClosed old new
PutAnswers old new m r i v (Err Stale) = StoreTells old new m (PutRefused r i v true)
PutAnswers old new m r i v (Err Index) = StoreTells old new m (PutRefused r i v false)
PutAnswers old new m r i v (Err Full) = ⊥

-- what `forget` answers
abbrev pub ForgetAnswers : {T : Type 0} → StoreView → StoreView → Mark → GlobalRef → Result T StoreFault → Type 0
ForgetAnswers old new m r (Ok done) = StoreTells old new m (Forget r)
ForgetAnswers old new m r (Err Closed) = StaysClosed old new
ForgetAnswers old new m r (Err Stale) = StoreTells old new m (ForgetStale r)
ForgetAnswers old new m r (Err Index) = ⊥
ForgetAnswers old new m r (Err Full) = ⊥
