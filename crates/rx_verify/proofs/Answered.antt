-- What an answered call tells.
use Rattle.std.proofs.Common.{◌≡◌, ℤ, Bool, cond, ap, sym, subst}
use Rattle.rx_rules.proofs.Common.{PlaceId, GlobalRef, Fault, Stale, Index, Does, Gets as Reading, Puts as Writing, Answer, Fails, Tells}
use Rattle.rx_rules.specs.declared.events.Cell.{Cell}
use Rattle.rx_rules.specs.declared.events.Cell.TheVariants.{GetRefused, PutRefused}

-- a refused get or put tells its fault, whatever name waits
tells_get_refused : (d : Does) (here : PlaceId) (r : GlobalRef) (i : ℤ) (stale : Bool) (f : Fault) (a : Answer) → f ≡ cond stale Stale Index → Tells d here (GetRefused r i stale) a → Tells d here (GetRefused r i stale) (Fails f)
tells_get_refused (Reading name target index) here r i stale f a e h = (h.0, h.1, ap Fails e)
tells_get_refused _ here r i stale f a e h = absurd h

tells_put_refused : (d : Does) (here : PlaceId) (r : GlobalRef) (i v : ℤ) (stale : Bool) (f : Fault) (a : Answer) → f ≡ cond stale Stale Index → Tells d here (PutRefused r i v stale) a → Tells d here (PutRefused r i v stale) (Fails f)
tells_put_refused (Writing target index value) here r i v stale f a e h = (h.0, h.1, h.2, ap Fails e)
tells_put_refused _ here r i v stale f a e h = absurd h

pub get_refused : (d : Does) (here : PlaceId) (cell : Cell) (r : GlobalRef) (i : ℤ) (stale : Bool) (f : Fault) (a : Answer) → cell ≡ GetRefused r i stale → f ≡ cond stale Stale Index → Tells d here cell a → Tells d here cell (Fails f)
get_refused d here cell r i stale f a e g h =
    subst (λ (c : Cell). Tells d here c (Fails f)) (sym e) (tells_get_refused d here r i stale f a g (subst (λ (c : Cell). Tells d here c a) e h))

pub put_refused : (d : Does) (here : PlaceId) (cell : Cell) (r : GlobalRef) (i v : ℤ) (stale : Bool) (f : Fault) (a : Answer) → cell ≡ PutRefused r i v stale → f ≡ cond stale Stale Index → Tells d here cell a → Tells d here cell (Fails f)
put_refused d here cell r i v stale f a e g h =
    subst (λ (c : Cell). Tells d here c (Fails f)) (sym e) (tells_put_refused d here r i v stale f a g (subst (λ (c : Cell). Tells d here c a) e h))
