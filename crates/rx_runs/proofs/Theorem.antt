-- A picked run is a run.
use Rattle.std.proofs.Common.{◌≡◌, ℕ, Bool, List, [], ◌∷◌, ◌++◌, refl, subst, sym}
use Rattle.rx_rules.specs.declared.entries.Entry.{Entry}
use Rattle.rx_rules.specs.declared.entries.Entry.TheVariants.{Step, Root, Death, Join}
use Rattle.rx_rules.specs.declared.events.PlaceEvent.{PlaceEvent}
use Rattle.rx_rules.proofs.Common.{Block, Given, NoRoot, EndsWithRoot, IsRun, Game, Turn, none, more, planned, arrives, moves, root}
use Rattle.rx_rules.specs.Picked.{Turns, ends}
use Rattle.rx_runs.specs.Games.{GameOk}
use Rattle.rx_runs.specs.PickedRuns.{PickedIsRun}
use Rattle.rx_runs.proofs.Rooted.{root_is_run}
use Rattle.rx_runs.proofs.Opening.{starts_ok}
use Rattle.rx_runs.proofs.Keeping.{turn_keeps}

-- a turn appends one entry
pub turn_grows : (U : Given) (k : ℕ) (used : Bool) (G G' : Game) → Turn U k G used G' → (e : Entry) × (G'.entries ≡ G.entries ++ e ∷ [])
turn_grows U k used G G' (planned e now) = (_, refl)
turn_grows U k used G G' (arrives x p takes may) = (_, refl)
turn_grows U k used G G' (moves x here p q S Z j act takes at player store goes fits may) = (_, refl)
turn_grows U k used G G' (ends x here p q S Z j faults takes at player store goes done may) = (_, refl)
turn_grows U k used G G' (root lost masked thrown none_due empty may) = (_, refl)

pub not_both : (es : List Entry) → NoRoot es → EndsWithRoot es → ⊥
not_both [] h e = e
not_both (Step t act batch ∷ es) h e = not_both es h e
not_both (Root lost masked thrown ∷ es) h e = h
not_both (Death d ∷ es) h e = not_both es h e
not_both (Join p ∷ es) h e = not_both es h e

pub run_of : (code : Block) (U : Given) (picks : ℕ → ℕ) (n j : ℕ) (G G' : Game) → GameOk code U G → Turns U picks n j G G' → EndsWithRoot G'.entries → IsRun code U G'.entries G'.journals
run_of code U picks n j G G' ok none e = absurd (not_both G.entries ok.no_root e)
run_of code U picks n j G G' ok (more free t none) e = root_is_run code U _ _ G G' ok t e
run_of code U picks n j G G'' ok (more {G' = G'} free t (more now u ts)) e = run_of code U picks _ _ G' G'' (turn_keeps code U _ _ G G' ok t now) (more now u ts) e

pub picked_is_run : PickedIsRun
picked_is_run code U picks es js proper p =
    subst (λ (ks : List (List PlaceEvent)). IsRun code U es ks) (sym p.journals)
    (subst (λ (fs : List Entry). IsRun code U fs p.game.journals) (sym p.entries) (run_of code U picks p.turns 0 _ p.game (starts_ok code U proper) p.made p.ended))
