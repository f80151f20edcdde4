-- What may be asked of a tree may be asked of it after entries of other tasks.
use Rattle.std.proofs.Common.{◌≡◌, ℕ, suc, ◌+◌, ◌≤◌, length, Bool, true, false, cond, List, [], ◌∷◌, ◌++◌, map, filter, Option, Some, None, option_map, All, refl, ap, ◌∙◌, sym, arith, ◌⊎◌, inl, inr}
use Rattle.std.specs.List.{find}
use Rattle.rx_rules.proofs.Common.{PlaceId, TaskId, ScopeId, Tree, task_of, opened_by, own_scope, inner, Allowed, made, AllAllowed, fold_from, opening, tree_of, Reached, IsOlder, opens}
use Rattle.rx_base.proofs.SameIds.{task-is}
use Rattle.rx_rules.specs.declared.entries.Entry.{Entry}
use Rattle.rx_rules.specs.declared.entries.Entry.TheVariants.{Step, Root, Death, Join}
use Rattle.rx_rules.specs.declared.tasks.Task.{Task}
use Rattle.rx_rules.specs.declared.tasks.Scope.{Scope}
use Rattle.rx_rules.proofs.Lookups.{number-of}
use Rattle.rx_rules.proofs.Append.{act-places, fold-places}
use Rattle.rx_tree_laws.specs.Sound.{Each}
use Rattle.rx_tree_laws.proofs.Histories.{reached_now, dead-now, none_yet}
use Rattle.rx_finish.specs.declared.ledger.Caller.{Caller}
use Rattle.rx_finish.specs.Callers.{CallerStands, HasLeft, HasNumbers, MayAskTo, IsMoving, Travels, HasFinish, WaitsInside, IsBare, does_travel}
use Rattle.rx_ticket.specs.declared.tickets.AnyTicket.{AnyTicket}
use Rattle.rx_ticket.specs.declared.tickets.AnyTicket.TheVariants.{Moving, Running, Held, Host}
use Rattle.rx_history.specs.declared.asks.Ask.{Ask}
use Rattle.rx_history.specs.declared.asks.Ask.TheVariants.{Open, At as Calls, Spawn, Arrive, Wait, Release, End, Print, Root, Census}
use Rattle.rx_ledger.specs.Asking.{MayAskFor, IsTravelling as Moves, IsRunning, IsHeld}
use Rattle.rx_ledger.specs.Staying.{NotBy, NotOf, EntryKeepsTicket, TicketsStayGood}
use Rattle.rx_ledger.proofs.Keepers.{fold-append}
use Rattle.rx_chronicle.proofs.Linking.{Link, link, links, top, inner_top}
use Rattle.rx_ledger.proofs.Others.{Stays, entry_lasts, left_lasts}
use Rattle.rx_ledger.proofs.Striking.{running-on, moves-on, held-on}

-- The newest own scope, as its link.

abbrev pub first : List Link → Option Link
first [] = None
first (l ∷ ls) = Some l

pub first_link : (p : Scope → Bool) (gs : List Scope) → option_map link (find p gs) ≡ first (map link (filter p gs))
first_link p [] = refl
first_link p (g ∷ gs) =
    elim (p g) as (λ b. option_map link (cond b (Some g) (find p gs)) ≡ first (map link (cond b (g ∷ filter p gs) (filter p gs)))) [
      | true ↦ refl
      | false ↦ first_link p gs
    ]

-- a scope with this number and kind is found
pub record Alike (o : Option Scope) (g : Scope) : Type 0 where
  pub scope : Scope
  pub found : o ≡ Some scope
  pub number : scope.number ≡ g.number
  pub kind : scope.kind ≡ g.kind

pub alike : (o : Option Scope) (g : Scope) → option_map link o ≡ Some (link g) → Alike o g
alike None g e = absurd (let v : ⊥ = cc in v)
alike (Some h) g e =
    let same : link h ≡ link g = cc in
    record { scope = h; found = refl; number = ap (λ (l : Link). l.0) same; kind = ap (λ (l : Link). l.2) same }

none_linked : (o : Option Scope) → option_map link o ≡ None → o ≡ None
none_linked None e = refl
none_linked (Some h) e = absurd (let v : ⊥ = cc in v)

own_links : (T V : Tree) (t : TaskId) → links V t ≡ links T t → option_map link (own_scope V t) ≡ option_map link (own_scope T t)
own_links T V t e = first_link (opened_by t) V.scopes ∙ (ap first e ∙ sym (first_link (opened_by t) T.scopes))

-- One entry.

module _ (n : ℕ) (T : Tree) (e : Entry) (who : Caller) (r : Reached T) (may : Allowed T e) (other : NotBy who.task e) where
  V : Tree
  V = made n T e

  inner_stays : (x : Task) (s : Stays T (made n T e) who.task x) → task_of T who.task ≡ Some x → inner (made n T e) s.kept.task ≡ inner T x
  inner_stays x s found =
      let y = s.kept.task in
      let mine : y.number ≡ who.task = task-is y.number who.task (number-of (made n T e) who.task y s.kept.stands) in
      let his : x.number ≡ who.task = task-is x.number who.task (number-of T who.task x found) in
      inner_top (made n T e) y
      ∙ (ap (λ (t : TaskId). top (links (made n T e) t) y.under) mine
      ∙ (ap (λ (u : ScopeId). top (links (made n T e) who.task) u) s.kept.under
      ∙ (ap (λ (ls : List Link). top ls x.under) s.owns
      ∙ (ap (λ (t : TaskId). top (links T t) x.under) (sym his) ∙ sym (inner_top T x)))))

  pub caller_stays : (P Q : Task → Type 0) → ((x : Task) (s : Stays T (made n T e) who.task x) → P x → Q s.kept.task) → CallerStands T who P ⊎ HasLeft T who → CallerStands (made n T e) who Q ⊎ HasLeft (made n T e) who
  caller_stays P Q f (inl h) =
      elim (entry_lasts n T e who.task h.task r may other h.stands) [
        | inl s ↦ inl (record {
          task = s.kept.task;
          stands = s.kept.stands;
          says = record { under = s.kept.under ∙ h.says.under; place = s.kept.place ∙ h.says.place };
          inner_is = inner_stays h.task s h.stands ∙ h.inner_is;
          allowed = f h.task s h.allowed;
        })
        | inr l ↦ inr (record { task = h.task; none = l.none; gone = l.gone; says = h.says })
      ]
  caller_stays P Q f (inr h) =
      let l = left_lasts n T e who.task h.task r may (record { none = h.none; gone = h.gone }) in
      inr (record { task = h.task; none = l.none; gone = l.gone; says = h.says })

  pub moving_stays : (x : Task) (s : Stays T (made n T e) who.task x) → IsMoving x → IsMoving s.kept.task
  moving_stays x s h = record { place = h.place; is_at = s.kept.place ∙ h.is_at; moves = s.kept.waits ∙ h.moves }

  pub travels_stays : (x : Task) (s : Stays T (made n T e) who.task x) → Travels x → Travels s.kept.task
  travels_stays x s h = record { travels = ap does_travel s.kept.place ∙ h.travels }

  finish_stays : (x : Task) (s : Stays T (made n T e) who.task x) → HasFinish T who x → HasFinish (made n T e) who s.kept.task
  finish_stays x s h =
      let a = alike (own_scope (made n T e) who.task) h.scope (own_links T (made n T e) who.task s.owns ∙ ap (option_map link) h.own) in
      record { moving = moving_stays x s h.moving; scope = a.scope; own = a.found; finish = a.kind ∙ h.finish }

  pub waits_stays : (x : Task) (s : Stays T (made n T e) who.task x) → WaitsInside T who x → WaitsInside (made n T e) who s.kept.task
  waits_stays x s h =
      let a = alike (own_scope (made n T e) who.task) h.scope (own_links T (made n T e) who.task s.owns ∙ ap (option_map link) h.own) in
      record { waits = s.kept.waits ∙ h.waits; scope = a.scope; own = a.found }

  bare_stays : (x : Task) (s : Stays T (made n T e) who.task x) → IsBare T who x → IsBare (made n T e) who s.kept.task
  bare_stays x s h =
      record {
        moving = moving_stays x s h.moving;
        none_open = none_linked (own_scope (made n T e) who.task) (own_links T (made n T e) who.task s.owns ∙ ap (option_map link) h.none_open);
      }

-- The conditions without numbers, as requests have them.

-- the caller stands as it says, or has left
abbrev pub Caught : Tree → Caller → (Task → Type 0) → Type 0
Caught T who P = CallerStands T who P ⊎ HasLeft T who

-- the same of each request, and that its place exists
abbrev pub Serves : Tree → AnyTicket → Ask → Type 0
Serves T ticket Open = IsRunning ticket (λ who. Caught T who IsMoving)
Serves T ticket (Calls to) = IsRunning ticket (λ who. Caught T who IsMoving)
Serves T ticket (Spawn to) = IsRunning ticket (λ who. Caught T who IsMoving)
Serves T ticket Arrive = Moves ticket (λ who. Caught T who Travels)
Serves T ticket (Wait thrown) = IsRunning ticket (λ who. Caught T who (HasFinish T who))
Serves T ticket Release = IsHeld ticket (λ who. Caught T who (WaitsInside T who))
Serves T ticket (End thrown) = IsRunning ticket (λ who. Caught T who (IsBare T who))
Serves T ticket (Print value) = IsRunning ticket (λ who. Caught T who IsMoving)
Serves T ticket Census = IsRunning ticket (λ who. Caught T who IsMoving)
Serves T ticket Root = Unit {0}

running_on : (t : AnyTicket) (e : Entry) (P Q : Caller → Type 0) → ((who : Caller) → NotBy who.task e → P who → Q who) → NotOf t e → IsRunning t P → IsRunning t Q
running_on (Running who) e P Q f o h = f who o h
running_on (Moving who) e P Q f o h = h
running_on (Held who) e P Q f o h = h
running_on Host e P Q f o h = h

moves_on : (t : AnyTicket) (e : Entry) (P Q : Caller → Type 0) → ((who : Caller) → NotBy who.task e → P who → Q who) → NotOf t e → Moves t P → Moves t Q
moves_on (Running who) e P Q f o h = h
moves_on (Moving who) e P Q f o h = f who o h
moves_on (Held who) e P Q f o h = h
moves_on Host e P Q f o h = h

held_on : (t : AnyTicket) (e : Entry) (P Q : Caller → Type 0) → ((who : Caller) → NotBy who.task e → P who → Q who) → NotOf t e → IsHeld t P → IsHeld t Q
held_on (Running who) e P Q f o h = h
held_on (Moving who) e P Q f o h = h
held_on (Held who) e P Q f o h = f who o h
held_on Host e P Q f o h = h

serves_on : (n : ℕ) (T : Tree) (e : Entry) (t : AnyTicket) (a : Ask) → Reached T → Allowed T e → NotOf t e → Serves T t a → Serves (made n T e) t a
serves_on n T e t Open r may o h = running_on t e _ _ (λ who b. caller_stays n T e who r may b IsMoving IsMoving (moving_stays n T e who r may b)) o h
serves_on n T e t (Calls to) r may o h = running_on t e _ _ (λ who b. caller_stays n T e who r may b IsMoving IsMoving (moving_stays n T e who r may b)) o h
serves_on n T e t (Spawn to) r may o h = running_on t e _ _ (λ who b. caller_stays n T e who r may b IsMoving IsMoving (moving_stays n T e who r may b)) o h
serves_on n T e t Arrive r may o h = moves_on t e _ _ (λ who b. caller_stays n T e who r may b Travels Travels (travels_stays n T e who r may b)) o h
serves_on n T e t (Wait thrown) r may o h =
    running_on t e _ _ (λ who b. caller_stays n T e who r may b (HasFinish T who) (HasFinish (made n T e) who) (finish_stays n T e who r may b)) o h
serves_on n T e t Release r may o h =
    held_on t e _ _ (λ who b. caller_stays n T e who r may b (WaitsInside T who) (WaitsInside (made n T e) who) (waits_stays n T e who r may b)) o h
serves_on n T e t (End thrown) r may o h =
    running_on t e _ _ (λ who b. caller_stays n T e who r may b (IsBare T who) (IsBare (made n T e) who) (bare_stays n T e who r may b)) o h
serves_on n T e t (Print value) r may o h = running_on t e _ _ (λ who b. caller_stays n T e who r may b IsMoving IsMoving (moving_stays n T e who r may b)) o h
serves_on n T e t Census r may o h = running_on t e _ _ (λ who b. caller_stays n T e who r may b IsMoving IsMoving (moving_stays n T e who r may b)) o h
serves_on n T e t Root r may o h = tt

-- what a request asks of its caller but for numbers and places
serves : (T : Tree) (t : AnyTicket) (path : Option (List ℕ)) (a : Ask) → MayAskFor T t path a → Serves T t a
serves T t path Open h = running-on t _ _ (λ who m. m.caller) h.0
serves T t path (Calls to) h = running-on t _ _ (λ who m. m.asks.caller) h.0
serves T t path (Spawn to) h = running-on t _ _ (λ who m. m.asks.caller) h.0
serves T t path Arrive h = moves-on t _ _ (λ who m. m.caller) h.0
serves T t path (Wait thrown) h = running-on t _ _ (λ who m. m.caller) h.0
serves T t path Release h = held-on t _ _ (λ who m. m.caller) h.0
serves T t path (End thrown) h = running-on t _ _ (λ who m. m.caller) h.0
serves T t path (Print value) h = running-on t _ _ (λ who m. m.caller) h.0
serves T t path Census h = running-on t _ _ (λ who m. m.caller) h.0
serves T t path Root h = tt

running_to : (T V : Tree) (t : AnyTicket) (to : PlaceId) → T.places ≤ V.places → HasNumbers V → IsRunning t (λ who. MayAskTo T who to) → IsRunning t (λ who. Caught V who IsMoving) → IsRunning t (λ who. MayAskTo V who to)
running_to T V (Running who) to same few h now =
    record { asks = record { caller = now; numbers = few }; target = (let a = h.target in omega (arith, a, same)) }
running_to T V (Moving who) to same few h now = h
running_to T V (Held who) to same few h now = h
running_to T V Host to same few h now = h

-- and with them
asks_again : (T V : Tree) (t : AnyTicket) (path : Option (List ℕ)) (a : Ask) → T.places ≤ V.places → HasNumbers V → MayAskFor T t path a → Serves V t a → MayAskFor V t path a
asks_again T V t path Open same few h now = (running-on t _ _ (λ who c. record { caller = c; numbers = few }) now, h.1)
asks_again T V t path (Calls to) same few h now = (running_to T V t to same few h.0 now, h.1)
asks_again T V t path (Spawn to) same few h now = (running_to T V t to same few h.0 now, h.1)
asks_again T V t path Arrive same few h now = (moves-on t _ _ (λ who c. record { caller = c; numbers = few }) now, h.1)
asks_again T V t path (Wait thrown) same few h now = (running-on t _ _ (λ who c. record { caller = c; numbers = few }) now, h.1)
asks_again T V t path Release same few h now = (held-on t _ _ (λ who c. record { caller = c; numbers = few }) now, h.1)
asks_again T V t path (End thrown) same few h now = (running-on t _ _ (λ who c. record { caller = c; numbers = few }) now, h.1)
asks_again T V t path (Print value) same few h now = (running-on t _ _ (λ who c. record { caller = c; numbers = few }) now, h.1)
asks_again T V t path Census same few h now = (running-on t _ _ (λ who c. record { caller = c; numbers = few }) now, h.1)
asks_again T V t path Root same few h now = h

-- no entry makes places fewer
places_rise : (n : ℕ) (T : Tree) (e : Entry) → T.places ≤ (made n T e).places
places_rise n T (Step t act batch) = let a = act-places T t act in omega (arith, a)
places_rise n T (Root lost masked thrown) = omega arith
places_rise n T (Death d) = omega arith
places_rise n T (Join p) = omega arith

pub places_more : (q : ℕ) (es more : List Entry) → (tree_of q es).places ≤ (tree_of q (es ++ more)).places
places_more q es more =
    let a = ap (λ (T : Tree). T.places) (fold-append 0 (opening q) es more) in
    let b = fold-places (0 + length es) (tree_of q es) more in
    omega (arith, a, b)

pub entry_keeps_ticket : EntryKeepsTicket
entry_keeps_ticket n T e q r may other few h =
    asks_again T (made n T e) q.ticket q.path q.ask (places_rise n T e) few h
    (serves_on n T e q.ticket q.ask r may other (serves T q.ticket q.path q.ask h))

-- Longer histories.

serves_from : (n : ℕ) (T : Tree) (es : List Entry) (t : AnyTicket) (a : Ask) → Reached T → All (IsOlder n) T.dead → AllAllowed n T es → Each (NotOf t) es → Serves T t a → Serves (fold_from n T es) t a
serves_from n T [] t a r o may others h = h
serves_from n T (e ∷ es) t a r o may others h =
    serves_from (suc n) (made n T e) es t a (reached_now n T e r o may.0) (dead-now n T e o) may.1 others.1 (serves_on n T e t a r may.0 others.0 h)

-- what holds of the longer history's first part, and of what follows it
from_parts : (n : ℕ) (T : Tree) (es more : List Entry) (t : AnyTicket) (a : Ask) → Reached T → All (IsOlder n) T.dead → AllAllowed n T (es ++ more) → Each (NotOf t) more → Serves (fold_from n T es) t a → Serves (fold_from n T (es ++ more)) t a
from_parts n T [] more t a r o may others h = serves_from n T more t a r o may others h
from_parts n T (e ∷ es) more t a r o may others h =
    from_parts (suc n) (made n T e) es more t a (reached_now n T e r o may.0) (dead-now n T e o) may.1 others h

pub tickets_stay_good : TicketsStayGood
tickets_stay_good U es more q folds others few h =
    let T = tree_of U.places es in
    let V = tree_of U.places (es ++ more) in
    asks_again T V q.ticket q.path q.ask (places_more U.places es more) few h
    (from_parts 0 (opening U.places) es more q.ticket q.ask (opens U.places folds.some folds.few) none_yet folds.allowed others
    (serves T q.ticket q.path q.ask h))
