-- What a step asks for, what a started task's statement is, and what the control is after the request was made.
use Rattle.std.proofs.Common.{◌≡◌, ℕ, List, Option, Some, ap, sym, ◌∙◌}
use Rattle.rx_rules.proofs.Common.{PlaceId, Fault, Term, Empty, Vars, Does, Calls, Spawns, Waits, does, begins, granted, replaced}
use Rattle.rx_syntax.specs.Shape.{Shape}
use Rattle.rx_control.specs.declared.control.Control.{Control}
use Rattle.rx_history.specs.declared.step.Next.{Next}
use Rattle.rx_history.specs.declared.step.Next.TheVariants.{Book as BookStep}
use Rattle.rx_history.specs.declared.step.Want.TheVariants.{Wait as WantWait}
use Rattle.rx_history.specs.Next.{next_of, carried}
use Rattle.rx_control.specs.Stands.{StandsFor}
use Rattle.rx_tree_laws.proofs.Beginning.{begins-so}
use Rattle.rx_tree_laws.specs.TermSteps.{BeginsStatement}
use Rattle.rx_plan.proofs.Requests.{asks_wait}
use Rattle.rx_activities.specs.Inside.Sending.{target, IsReady}

path_of : (d : Does) (o : Option (List ℕ)) (to : PlaceId) → BeginsStatement d o → target (next_of d) ≡ Some to → (x : List ℕ) × (o ≡ Some x)
path_of (Calls place) o to b h = b
path_of (Spawns place) o to b h = b
path_of _ o to b h = absurd (let g : ⊥ = cc h in g)

-- a step that starts a task begins a statement
pub started_path : (next : Next) (to : PlaceId) (vars : Vars) (here : ℕ) (t : Term) → next ≡ next_of (does vars here t) → target next ≡ Some to → (x : List ℕ) × (begins t ≡ Some x)
started_path next to vars here t is h = path_of (does vars here t) (begins t) to (begins-so vars here t) (ap target (sym is) ∙ h)

-- the control after a wait was asked for
pub ready_waits : (s : Shape) (n : Next) (old new : Control) → n ≡ BookStep WantWait → new.vars ≡ old.vars
    → ((t : Term) (here : PlaceId) (faults : List Fault) → StandsFor s old t → carried (does old.vars here.0 t) ≡ Some faults → StandsFor s new (replaced t Empty))
    → ((t : Term) (here : PlaceId) (faults list : List Fault) → does old.vars here.0 t ≡ Waits faults → granted list (replaced t Empty) ≡ granted list t) → IsReady s n old new
ready_waits s n old new waits vars after wait =
    record {
      vars = vars;
      waits = λ e t here stands is.
          let d = asks_wait (does old.vars here.0 t) (sym is ∙ e) in
          (after t here d.0 stands (ap carried d.1), λ list. wait t here d.0 list d.1);
      same = λ a b. absurd (a waits);
    }
