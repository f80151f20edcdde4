-- A reply for the tree that is kept is one for each tree for which the ledger stands.
use Rattle.std.proofs.Common.{◌≡◌, ℕ, List, Some, Result, Ok, Err, sym, subst, ap, ◌∙◌, length-set}
use Rattle.rx_rules.proofs.Common.{PlaceId, Tree, the_root, Allowed, AllowedAct, made_act, change_task, resumed, strike, widened, acts, dies, joins}
use Rattle.rx_rules.specs.declared.tasks.Task.{Task}
use Rattle.rx_rules.specs.declared.tasks.Scope.{Scope}
use Rattle.rx_rules.specs.declared.entries.Act.{Act}
use Rattle.rx_rules.specs.declared.entries.Act.TheVariants.{Release}
use Rattle.rx_rules.specs.declared.entries.Entry.TheVariants.{Root}
use Rattle.rx_rules.specs.Reached.{ends}
use Rattle.rx_finish.specs.declared.ledger.Caller.{Caller}
use Rattle.rx_finish.specs.declared.ledger.Outcome.{Outcome}
use Rattle.rx_finish.specs.declared.ledger.LedgerFault.{LedgerFault}
use Rattle.rx_finish.specs.declared.ledger.LedgerFault.TheVariants.{NotYet, Lost, NoMemory}
use Rattle.rx_finish.specs.Callers.{MayAskRelease, HasRoot, MayStrike, MayJoin}
use Rattle.rx_finish.specs.Calls.{Did, IsUnstruck, RootReply}
use Rattle.rx_rules.proofs.Widths.{limit-act}
use Rattle.rx_tree.specs.Kept.{Narrow}
use Rattle.rx_tree.specs.Inside.Removal.{LeaveReply}
use Rattle.rx_finish.proofs.Allowed.{release_allowed}

pub at_kept : (K : Tree) (M P : Tree → Type 0) → (Narrow K → M K → P K) → (room : ℕ) (T : Tree) → (K ≡ T) × Narrow T → M T → P T
at_kept K M P f room T s may = subst P s.0 (f (subst Narrow (sym s.0) s.1) (subst M (sym s.0) may))

-- the act of an allowed entry was done where the tree that is kept is what the entry makes
pub did : (K N : Tree) (who : Caller) (act : Act) → Narrow K → AllowedAct K who.task act → N ≡ made_act K who.task act → Did K who act (λ T. (N ≡ T) × Narrow T)
did K N who act r a e = record { allowed = a; made = (e, (acts who.task act r.0 a, limit-act K who.task act ∙ r.1)) }

-- a release that the plain ledger made for an unstruck caller
pub released : (K L N : Tree) (who : Caller) (o : Outcome) → Narrow K → MayAskRelease K who → IsUnstruck K who → LeaveReply K who.inner (Ok o) L → N ≡ change_task resumed who.task L → Did K who (Release who.inner o.lost o.masked o.thrown) (λ T. (N ≡ T) × Narrow T)
released K L N who o r may u left e =
    did K N who (Release who.inner o.lost o.masked o.thrown) r (release_allowed K who o.lost o.masked o.thrown r.0 may u left.0) (e ∙ ap (change_task resumed who.task) left.1)

-- the host's release of the root
pub root_released : (K N : Tree) (res : Result Outcome LedgerFault) → Narrow K → HasRoot K → LeaveReply K the_root res N → RootReply K res (λ T. (N ≡ T) × Narrow T)
root_released K N (Ok o) r has left =
    let may : Allowed K (Root o.lost o.masked o.thrown) = (has.root, has.stands, left.0) in
    (may, (left.1, (ends o.lost o.masked o.thrown r.0 may, r.1)))
root_released K N (Err NoMemory) r has left = (left.0, (left.1, r))
root_released K N (Err (Lost place at)) r has left = left
root_released K N (Err (NotYet place)) r has left = (left.0, (left.1, r))

-- a death
pub died : (K N : Tree) (d : PlaceId) (at : ℕ) → Narrow K → MayStrike K d at → N ≡ strike (record { place = d; entry = at }) K → (N ≡ strike (record { place = d; entry = at }) K) × Narrow (strike (record { place = d; entry = at }) K)
died K N d at r may e = (e, (dies (record { place = d; entry = at }) r.0 may.dies may.later, length-set K.dead d.0 (Some at) ∙ r.1))

-- a join
pub joined : (K N : Tree) (p : PlaceId) → Narrow K → MayJoin K p → N ≡ widened K → (N ≡ widened K) × Narrow (widened K)
joined K N p r may e = (e, (joins p r.0 may, r.1))

-- Trees by their rows.
pub by_tasks : (T : Tree) (xs ys : List Task) → xs ≡ ys → record T { tasks = xs } ≡ record T { tasks = ys }
by_tasks T xs ys e = ap (λ (v : List Task). record T { tasks = v }) e

pub by_places : (T : Tree) (n m : ℕ) → n ≡ m → record T { places = n } ≡ record T { places = m }
by_places T n m e = ap (λ (v : ℕ). record T { places = v }) e

pub by_rows : (T : Tree) (xs ys : List Task) (gs hs : List Scope) → xs ≡ ys → gs ≡ hs → record T { tasks = xs; scopes = gs } ≡ record T { tasks = ys; scopes = hs }
by_rows T xs ys gs hs e f = ap (λ (v : List Task). record T { tasks = v; scopes = gs }) e ∙ ap (λ (v : List Scope). record T { tasks = ys; scopes = v }) f

pub by_births : (T : Tree) (xs ys : List Task) (gs hs : List Scope) (n m k l : ℕ) → xs ≡ ys → gs ≡ hs → n ≡ m → k ≡ l → record T { tasks = xs; scopes = gs; next_task = n; next_scope = k } ≡ record T { tasks = ys; scopes = hs; next_task = m; next_scope = l }
by_births T xs ys gs hs n m k l e f a b =
    ap (λ (v : List Task). record T { tasks = v; scopes = gs; next_task = n; next_scope = k }) e
    ∙ (ap (λ (v : List Scope). record T { tasks = ys; scopes = v; next_task = n; next_scope = k }) f
    ∙ (ap (λ (v : ℕ). record T { tasks = ys; scopes = hs; next_task = v; next_scope = k }) a
    ∙ ap (λ (v : ℕ). record T { tasks = ys; scopes = hs; next_task = m; next_scope = v }) b))
