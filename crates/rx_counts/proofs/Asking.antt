-- What a caller's place and the records tell of it.
use Rattle.std.proofs.Common.{◌≡◌, ℕ, ◌<◌, ◌≤◌, ◌^◌, ◌+◌, Bool, true, false, ◌&&◌, List, [], ◌∷◌, Option, Some, None, IfSome, is_none, is_some, length, option_map, box_value, Err, refl, sym, ap, ◌∙◌, subst, arith, ⊎_elim}
use Rattle.std.specs.List.{find}
use Rattle.std.specs.Global.{Box}
use Rattle.std.proofs.lemmas.Bool.{true≢false, cases_lt}
use Rattle.std.proofs.lemmas.List.{get_or_past}
use Rattle.std.proofs.lemmas.List.Sums.{count_by-le-length}
use Rattle.rx_tree_laws.proofs.Parents.{met_found}
use Rattle.rx_finish.proofs.Gone.{blow_known}
use Rattle.rx_rules.proofs.Common.{PlaceId, ScopeId, Tree, the_root, has_number}
use Rattle.rx_rules.specs.declared.tasks.Where.{Where}
use Rattle.rx_rules.specs.declared.tasks.Where.TheVariants.{At, Travel}
use Rattle.rx_rules.specs.declared.tasks.Blow.{Blow}
use Rattle.rx_rules.specs.declared.tasks.Task.{Task}
use Rattle.rx_rules.specs.declared.tasks.Scope.{Scope}
use Rattle.rx_tree_laws.specs.Blows.{blow_at}
use Rattle.rx_tree_laws.specs.Chains.{meets}
use Rattle.rx_tree_laws.specs.Sound.{Sound, TasksFall, Inside}
use Rattle.rx_tree_laws.proofs.Reach.{fits_of}
use Rattle.rx_tree_laws.proofs.Reached.{sound}
use Rattle.rx_finish.specs.declared.ledger.Caller.{Caller}
use Rattle.rx_finish.specs.Callers.{MayAsk}
use Rattle.rx_finish.specs.declared.ledger.LedgerFault.{LedgerFault}
use Rattle.rx_finish.specs.declared.ledger.LedgerFault.TheVariants.{NoMemory}
use Rattle.rx_finish.specs.Calls.{IsUnstruck, WasLost, OpenReply, CallReply, blow_of}
use Rattle.rx_finish.proofs.Allowed.{Free, free}
use Rattle.rx_counts.specs.declared.record.Sums.{Sums}
use Rattle.rx_counts.specs.declared.record.Record.{Record}
use Rattle.rx_counts.specs.declared.ledger.CountLedger.{CountLedger}
use Rattle.rx_counts.specs.Keeping.{stands_home, keeper, kept_at, same_where, masked_of}
use Rattle.rx_counts.specs.Stands.{ShapeOf, SumsOf, RecordOf, Both, RecordsFit, Fit, HasRoom, StandsFor, IsShaped, record_at, count_in}
use Rattle.rx_counts.proofs.Lasting.{root_keeps}
use Rattle.rx_counts.proofs.Walks.{keeper_exists, keeper_stands}
use Rattle.rx_counts.proofs.Shapes.{both_found}
use Rattle.rx_counts.proofs.Joining.{both_more, number_is}

pub blow_is : {room : ℕ} (l : CountLedger) (T : Tree) (who : Caller) (P : Task → Type 0) → StandsFor l room T → MayAsk T who P → blow_of T who.task ≡ blow_at l.dead who.place
blow_is l T who P s may = blow_known T who P (sound s.reached) may.caller ∙ ap (λ d. blow_at d who.place) (sym s.fit.dead)

-- a struck caller, and one that is not
pub was_lost : {room : ℕ} (l : CountLedger) (T : Tree) (who : Caller) (P : Task → Type 0) (b : Blow) → StandsFor l room T → MayAsk T who P → blow_at l.dead who.place ≡ Some b → WasLost T who b.place b.entry
was_lost l T who P b s may e = blow_is l T who P s may ∙ e

pub unstruck : {room : ℕ} (l : CountLedger) (T : Tree) (who : Caller) (P : Task → Type 0) → StandsFor l room T → MayAsk T who P → blow_at l.dead who.place ≡ None → IsUnstruck T who
unstruck l T who P s may e = blow_is l T who P s may ∙ e

pub caller : {room : ℕ} (l : CountLedger) (T : Tree) (who : Caller) (P : Task → Type 0) → StandsFor l room T → MayAsk T who P → blow_at l.dead who.place ≡ None → Free T who P
caller l T who P s may e = free T who P s.reached may (unstruck l T who P s may e)

pub unstruck_of : (T : Tree) (who : Caller) (P : Task → Type 0) → Free T who P → IsUnstruck T who
unstruck_of T who P f = rw (f.at.stands, blow_of) f.unstruck

-- The records.

pub fit_shaped : (size : ℕ) (T : Tree) (keeps : Scope → Bool) (rs : List (Option (Box Record))) → Sound T → RecordsFit size keeps T.scopes T.tasks rs → IsShaped T rs
fit_shaped size T keeps rs h fit =
    record {
      falls = h.falls;
      opened = h.opened;
      shapes = λ n. both_more (RecordOf size keeps T.scopes T.tasks) (ShapeOf T.scopes) (record_at rs n) (find (has_number n) T.scopes) (λ r g e a. a.shape) (fit n);
    }

pub shaped : {room : ℕ} (l : CountLedger) (T : Tree) → StandsFor l room T → IsShaped T l.scopes
shaped l T s = fit_shaped _ T (stands_home T.dead) l.scopes (sound s.reached) s.fit.scopes

-- the walk by records is the walk in the tree
pub keeper_found : {room : ℕ} (l : CountLedger) (T : Tree) (s : ScopeId) (o : Option ScopeId) (rs : List (Option (Box Record))) → StandsFor l room T → rs ≡ l.scopes → ((U : Tree) → IsShaped U rs → option_map (λ k. k.0) o ≡ keeper (stands_home l.dead) U.scopes (Some s)) → option_map (λ k. k.0) o ≡ keeper (stands_home T.dead) T.scopes (Some s)
keeper_found l T s o rs h e walk = walk T (subst (IsShaped T) (sym e) (shaped l T h)) ∙ ap (λ d. keeper (stands_home d) T.scopes (Some s)) h.fit.dead

pub keeper_some : {room : ℕ} (l : CountLedger) (T : Tree) (s k : ScopeId) (rs : List (Option (Box Record))) → StandsFor l room T → rs ≡ l.scopes → ((U : Tree) → IsShaped U rs → Some k.0 ≡ keeper (stands_home l.dead) U.scopes (Some s)) → keeper (stands_home T.dead) T.scopes (Some s) ≡ Some k.0
keeper_some l T s k rs h e walk = sym (walk T (subst (IsShaped T) (sym e) (shaped l T h)) ∙ ap (λ d. keeper (stands_home d) T.scopes (Some s)) h.fit.dead)

pub below_length : (rs : List (Option (Box Record))) (k : ℕ) (r : Record) → record_at rs k ≡ Some r → k < length rs
below_length rs k r e = ⊎_elim (λ (lt : k < length rs). lt) (λ (ge : length rs ≤ k). let p = ap (option_map box_value) (get_or_past rs k None ge) in cc) (cases_lt k (length rs))

-- the record of a scope that stands
pub record Kept (size : ℕ) (T : Tree) (rs : List (Option (Box Record))) (k : ℕ) : Type 0 where
  pub kept : Record
  pub found : record_at rs k ≡ Some kept
  pub scope : Scope
  pub stands : find (has_number k) T.scopes ≡ Some scope
  pub number : scope.number.0 ≡ k
  pub fits : RecordOf size (stands_home T.dead) T.scopes T.tasks kept scope
  pub low : k < length rs

pub kept_found : {size : ℕ} (T : Tree) (rs : List (Option (Box Record))) (k : ℕ) (g : Scope) → RecordsFit size (stands_home T.dead) T.scopes T.tasks rs → find (has_number k) T.scopes ≡ Some g → Kept size T rs k
kept_found {size = size} T rs k g h e =
    let r = both_found (RecordOf size (stands_home T.dead) T.scopes T.tasks) (record_at rs k) (find (has_number k) T.scopes) g (h k) e in
    record { kept = r.0; found = r.1; scope = g; stands = e; number = number_is k T.scopes g e; fits = r.2; low = below_length rs k r.0 r.1 }

pub kept_some : {size : ℕ} (T : Tree) (rs : List (Option (Box Record))) (k : ℕ) → RecordsFit size (stands_home T.dead) T.scopes T.tasks rs → (o : Option Scope) → find (has_number k) T.scopes ≡ o → is_some o ≡ true → Kept size T rs k
kept_some T rs k h (Some g) e q = kept_found T rs k g h e
kept_some T rs k h None e q = absurd (true≢false (sym q))

pub kept_at_keeper : {size : ℕ} (T : Tree) (rs : List (Option (Box Record))) (want : Option ScopeId) (k : ℕ) → RecordsFit size (stands_home T.dead) T.scopes T.tasks rs → keeper (stands_home T.dead) T.scopes want ≡ Some k → Kept size T rs k
kept_at_keeper T rs want k h e = kept_some T rs k h (find (has_number k) T.scopes) refl (keeper_stands (stands_home T.dead) k T.scopes want e)

-- a keeper is always found
pub keeper_known : (T : Tree) (u : ScopeId) → Sound T → meets the_root T.scopes (Some u) ≡ true → is_some (keeper (stands_home T.dead) T.scopes (Some u)) ≡ true
keeper_known T u h m = keeper_exists (stands_home T.dead) T.scopes (Some u) (root_keeps T.dead T.scopes h.zero_lives h.root_home) m

-- a walk that answers None has no keeper
pub none_kept : (o : Option ScopeId) (k : Option ℕ) → o ≡ None → option_map (λ (s : ScopeId). s.0) o ≡ k → is_some k ≡ false
none_kept (Some s) k e f = cc
none_kept None k e f = ap is_some (sym f)

-- the tasks are no more than have been numbered
pub tasks_length : (n : ℕ) (ts : List Task) → TasksFall n ts → length ts ≤ n
tasks_length n [] f = omega arith
tasks_length n (x ∷ xs) f = let a : x.number.0 < n = f.0 in let b : length xs ≤ x.number.0 = tasks_length x.number.0 xs f.1 in omega arith

-- so no count is above their number
pub small : (keeps : Scope → Bool) (gs : List Scope) (ts : List Task) (q : Sums) (n m : ℕ) (w : Where) → SumsOf keeps gs ts q m → length ts ≤ n → n < 2 ^ 31 → (count_in q w + 1 < 2 ^ 32) × (q.total + 1 < 2 ^ 32)
small keeps gs ts q n m w fits f low =
    let a = fits.counts w in
    let b = count_by-le-length (λ x. (is_none x.struck && same_where w x.place) && kept_at keeps gs m x) ts in
    let c = fits.total in
    let d = count_by-le-length (λ x. is_none x.struck && kept_at keeps gs m x) ts in
    (omega arith, omega arith)

-- a table that has columns for more places has them for these
inside_more : (n m : ℕ) (w : Where) → n ≤ m → Inside n w → Inside m w
inside_more n m (At p) le h = let a : p.0 < n = h in omega arith
inside_more n m (Travel from to) le h = (let a : from.0 < n = h.0 in let b : from.0 < m = omega arith in b, let a : to.0 < n = h.1 in let b : to.0 < m = omega arith in b)

-- where the caller is
pub place_in : {size : ℕ} (T : Tree) (who : Caller) (P : Task → Type 0) → Sound T → T.places ≤ size → (f : Free T who P) → Inside size who.place
place_in {size = size} T who P h le f = inside_more T.places size who.place le (subst (Inside T.places) f.at.says.place (fits_of T who.task f.at.task h f.at.stands).inside)

-- the tables have columns for the places of the tree
pub wide : {room : ℕ} (l : CountLedger) (T : Tree) → StandsFor l room T → T.places ≤ l.width
wide l T s = let a = s.has_room.width in omega arith

-- and for as many more as before, where the places are as many as before
pub room_kept : {room : ℕ} (l m : CountLedger) (T U : Tree) → length U.dead ≡ length T.dead → m.width ≡ l.width → U.places ≡ T.places → HasRoom l room T → HasRoom m room U
room_kept l m T U cells width places h = record { width = (let a = h.width in omega arith); few = (let a = h.few in omega arith); cells = cells ∙ h.cells }

-- records for tables that are as large
pub as_wide : (n m : ℕ) (keeps : Scope → Bool) (gs : List Scope) (ts : List Task) (rs : List (Option (Box Record))) → m ≡ n → RecordsFit n keeps gs ts rs → RecordsFit m keeps gs ts rs
as_wide n m keeps gs ts rs e h = subst (λ (i : ℕ). RecordsFit i keeps gs ts rs) (sym e) h

-- the scope that it hangs under leads to the root
pub scope_rooted : (T : Tree) (who : Caller) (P : Task → Type 0) → Sound T → (f : Free T who P) → meets the_root T.scopes (Some who.scope) ≡ true
scope_rooted T who P h f = subst (λ (u : ScopeId). meets the_root T.scopes (Some u) ≡ true) f.at.says.under (fits_of T who.task f.at.task h f.at.stands).rooted

-- the record of the scope that it hangs under
pub scope_kept : {room : ℕ} (l : CountLedger) (T : Tree) (who : Caller) (P : Task → Type 0) → StandsFor l room T → (f : Free T who P) → Kept l.width T l.scopes who.scope.0
scope_kept l T who P s f = kept_some T l.scopes who.scope.0 s.fit.scopes (find (has_number who.scope.0) T.scopes) refl (met_found the_root T.scopes who.scope (scope_rooted T who P (sound s.reached) f))

-- a ledger with the same records stands for the same trees
pub same_fit : (l m : CountLedger) (T : Tree) → Fit l T → m.places ≡ l.places → m.width ≡ l.width → m.dead ≡ l.dead → m.next_task ≡ l.next_task → m.next_scope ≡ l.next_scope → m.totals ≡ l.totals → length m.scopes ≡ length l.scopes → ((n : ℕ) → record_at m.scopes n ≡ record_at l.scopes n) → Fit m T
same_fit l m T h places width dead next_task next_scope totals len same =
    record {
      places = places ∙ h.places;
      dead = dead ∙ h.dead;
      next_task = next_task ∙ h.next_task;
      next_scope = next_scope ∙ h.next_scope;
      totals = totals ∙ h.totals;
      numbers = len ∙ h.numbers;
      scopes = as_wide l.width m.width (stands_home T.dead) T.scopes T.tasks m.scopes width (λ n. subst (λ o. Both (RecordOf l.width (stands_home T.dead) T.scopes T.tasks) o (find (has_number n) T.scopes)) (sym (same n)) (h.scopes n));
      masked = λ n. subst (λ o. IfSome o (λ r. r.sums.masked ≡ masked_of (stands_home T.dead) T.scopes n)) (sym (same n)) (h.masked n);
    }

pub same_records : {room : ℕ} (l m : CountLedger) (T : Tree) → StandsFor l room T → m.places ≡ l.places → m.width ≡ l.width → m.dead ≡ l.dead → m.next_task ≡ l.next_task → m.next_scope ≡ l.next_scope → m.totals ≡ l.totals → m.scopes ≡ l.scopes → StandsFor m room T
same_records l m T h places width dead next_task next_scope totals items = record { reached = h.reached; fit = same_fit l m T h.fit places width dead next_task next_scope totals (ap length items) (λ n. ap (λ xs. record_at xs n) items); has_room = room_kept l m T T refl width refl h.has_room }

pub open_refused : (T : Tree) (who : Caller) (f : LedgerFault) (S : Tree → Type 0) → f ≡ NoMemory → IsUnstruck T who → S T → OpenReply T who (Err f) S
open_refused T who f S is none s = subst (λ (v : LedgerFault). OpenReply T who (Err v) S) (sym is) (none, s)

pub call_refused : (T : Tree) (who : Caller) (to : PlaceId) (f : LedgerFault) (S : Tree → Type 0) → f ≡ NoMemory → IsUnstruck T who → S T → CallReply T who to (Err f) S
call_refused T who to f S is none s = subst (λ (v : LedgerFault). CallReply T who to (Err v) S) (sym is) (none, s)
