-- A term has one next step: what it asks the store, what it asks the ledger, a local step and an end exclude each other.
use Rattle.std.proofs.Common.{◌≡◌, List, sym, subst, ◌∙◌}
use Rattle.rx_rules.proofs.Common.{PlaceId, Fault, Term, Vars, Answer, Does, Local, Makes as Creates, Gets, Puts, Forgets, Done, Tells}
use Rattle.rx_rules.specs.declared.entries.Act.{Act}
use Rattle.rx_rules.specs.declared.events.Cell.{Cell}
use Rattle.rx_rules.specs.declared.events.Cell.TheVariants.{Make, MakeFull, Get, Put, Forget, GetRefused, PutRefused, ForgetStale}
use Rattle.rx_rules.specs.Plays.{Fits}

-- one call is told one answer by one event
pub told_once : (d : Does) (here : PlaceId) (c : Cell) (a b : Answer) → Tells d here c a → Tells d here c b → a ≡ b
told_once (Creates name words) here (Make n s g) a b h k = h.1 ∙ sym k.1
told_once (Creates name words) here (MakeFull n) a b h k = h.1 ∙ sym k.1
told_once (Creates name words) here (Get r i v) a b h k = absurd h
told_once (Creates name words) here (Put r i v) a b h k = absurd h
told_once (Creates name words) here (Forget r) a b h k = absurd h
told_once (Creates name words) here (GetRefused r i s) a b h k = absurd h
told_once (Creates name words) here (PutRefused r i v s) a b h k = absurd h
told_once (Creates name words) here (ForgetStale r) a b h k = absurd h
told_once (Gets name target index) here (Make n s g) a b h k = absurd h
told_once (Gets name target index) here (MakeFull n) a b h k = absurd h
told_once (Gets name target index) here (Get r i v) a b h k = h.2 ∙ sym k.2
told_once (Gets name target index) here (Put r i v) a b h k = absurd h
told_once (Gets name target index) here (Forget r) a b h k = absurd h
told_once (Gets name target index) here (GetRefused r i s) a b h k = h.2 ∙ sym k.2
told_once (Gets name target index) here (PutRefused r i v s) a b h k = absurd h
told_once (Gets name target index) here (ForgetStale r) a b h k = absurd h
told_once (Puts target index value) here (Make n s g) a b h k = absurd h
told_once (Puts target index value) here (MakeFull n) a b h k = absurd h
told_once (Puts target index value) here (Get r i v) a b h k = absurd h
told_once (Puts target index value) here (Put r i v) a b h k = h.3 ∙ sym k.3
told_once (Puts target index value) here (Forget r) a b h k = absurd h
told_once (Puts target index value) here (GetRefused r i s) a b h k = absurd h
told_once (Puts target index value) here (PutRefused r i v s) a b h k = h.3 ∙ sym k.3
told_once (Puts target index value) here (ForgetStale r) a b h k = absurd h
told_once (Forgets target) here (Make n s g) a b h k = absurd h
told_once (Forgets target) here (MakeFull n) a b h k = absurd h
told_once (Forgets target) here (Get r i v) a b h k = absurd h
told_once (Forgets target) here (Put r i v) a b h k = absurd h
told_once (Forgets target) here (Forget r) a b h k = h.1 ∙ sym k.1
told_once (Forgets target) here (GetRefused r i s) a b h k = absurd h
told_once (Forgets target) here (PutRefused r i v s) a b h k = absurd h
told_once (Forgets target) here (ForgetStale r) a b h k = h.1 ∙ sym k.1
told_once _ here c a b h k = absurd h

-- what asks the store is no request
pub not_told_and_fits : (d : Does) (here : PlaceId) (t : Term) (c : Cell) (a : Answer) (act : Act) → Tells d here c a → Fits here t d act → ⊥
not_told_and_fits (Creates name words) here t c a act h k = k
not_told_and_fits (Gets name target index) here t c a act h k = k
not_told_and_fits (Puts target index value) here t c a act h k = k
not_told_and_fits (Forgets target) here t c a act h k = k
not_told_and_fits (Local left vars) here t c a act h k = k
not_told_and_fits _ here t c a act h k = h

pub not_local_told : (d : Does) (here : PlaceId) (c : Cell) (a : Answer) (left : Vars) (after : Term) → d ≡ Local after left → Tells d here c a → ⊥
not_local_told d here c a left after e h = subst (λ (z : Does). Tells z here c a) e h

pub not_local_fits : (d : Does) (here : PlaceId) (t : Term) (act : Act) (left : Vars) (after : Term) → d ≡ Local after left → Fits here t d act → ⊥
not_local_fits d here t act left after e h = subst (λ (z : Does). Fits here t z act) e h

pub not_done_told : (d : Does) (here : PlaceId) (c : Cell) (a : Answer) (faults : List Fault) → d ≡ Done faults → Tells d here c a → ⊥
not_done_told d here c a faults e h = subst (λ (z : Does). Tells z here c a) e h

pub not_done_fits : (d : Does) (here : PlaceId) (t : Term) (act : Act) (faults : List Fault) → d ≡ Done faults → Fits here t d act → ⊥
not_done_fits d here t act faults e h = subst (λ (z : Does). Fits here t z act) e h

pub not_local_done : (d : Does) (left : Vars) (after : Term) (faults : List Fault) → d ≡ Local after left → d ≡ Done faults → ⊥
not_local_done d left after faults e f = cc (e, f)
