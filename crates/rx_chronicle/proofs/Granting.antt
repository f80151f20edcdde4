-- A chronicle whose ledger has granted a request, or refused it.
use Rattle.std.proofs.Common.{◌≡◌, ℕ, Bool, true, false, List, [], ◌∷◌, ◌++◌, map, length, Some, None, Err, refl, ap, ◌∙◌, sym, subst, append-nil}
use Rattle.rx_rules.proofs.Common.{PlaceId, TaskId, ScopeId, PlaceSet, Fault, Tree, quiet, the_root, AllowedAct, Allowed, made_act, without, Event, NoneDue}
use Rattle.rx_rules.specs.declared.entries.Act.{Act}
use Rattle.rx_rules.specs.declared.entries.Entry.{Entry}
use Rattle.rx_rules.specs.declared.entries.Entry.TheVariants.{Step, Root}
use Rattle.rx_tree_laws.specs.Sound.{Each}
use Rattle.rx_tree_laws.specs.Histories.{RootStands}
use Rattle.rx_history.specs.Logs.{Log}
use Rattle.rx_history.specs.Setups.{given}
use Rattle.rx_finish.specs.declared.ledger.Caller.{Caller}
use Rattle.rx_finish.specs.declared.ledger.LedgerFault.{LedgerFault}
use Rattle.rx_finish.specs.declared.ledger.LedgerFault.TheVariants.{NotYet, Lost, NoMemory}
use Rattle.rx_finish.specs.Callers.{HasRoot}
use Rattle.rx_finish.specs.Calls.{IsUnstruck, WasLost, IsHindered, RootReply}
use Rattle.rx_chronicle.specs.declared.notes.Note.{Note}
use Rattle.rx_chronicle.specs.Told.{parents_by, openers_by, Ending, left_to_join}
use Rattle.rx_chronicle.specs.Keeping.{KeepsSo, Keeps, Bounds}
use Rattle.rx_chronicle.specs.Requests.{tree_told, Calm, with_entry, IsRefused, IsRootRefused}
use Rattle.rx_chronicle.proofs.Stepped.{Grown, stepped, rooted}

-- Notes.

pub map_snoc : {A B : Type 0} (f : A → B) (xs : List A) (x : A) → map f (xs ++ x ∷ []) ≡ map f xs ++ f x ∷ []
map_snoc f [] x = refl
map_snoc f (y ∷ ys) x = ap (λ zs. f y ∷ zs) (map_snoc f ys x)

-- an act that opens no scope leaves the notes, which bound what it leaves
pub grown_none : (t : TaskId) (act : Act) (T' : Tree) (ns : List Note) → parents_by act ≡ [] → openers_by t act ≡ [] → Each (Bounds (map (λ n. n.faults) ns)) T'.scopes → Grown t act T' ns ns
grown_none t act T' ns none free bounds =
    record {
      parents = sym (ap (λ xs. map (λ (n : Note). n.parent) ns ++ xs) none ∙ append-nil (map (λ n. n.parent) ns));
      openers = sym (ap (λ xs. map (λ (n : Note). n.opener) ns ++ xs) free ∙ append-nil (map (λ n. n.opener) ns));
      bounds = bounds;
    }

-- one that opens a scope has its note at the end
pub grown_one : (t : TaskId) (act : Act) (T' : Tree) (ns ns' : List Note) (note : Note) → ns' ≡ ns ++ note ∷ [] → parents_by act ≡ note.parent ∷ [] → openers_by t act ≡ note.opener ∷ [] → Each (Bounds (map (λ n. n.faults) ns ++ note.faults ∷ [])) T'.scopes → Grown t act T' ns ns'
grown_one t act T' ns ns' note is parents openers bounds =
    record {
      parents = ap (λ (xs : List Note). map (λ n. n.parent) xs) is ∙ (map_snoc (λ (n : Note). n.parent) ns note ∙ ap (λ xs. map (λ (n : Note). n.parent) ns ++ xs) (sym parents));
      openers = ap (λ (xs : List Note). map (λ n. n.opener) xs) is ∙ (map_snoc (λ (n : Note). n.opener) ns note ∙ ap (λ xs. map (λ (n : Note). n.opener) ns ++ xs) (sym openers));
      bounds = subst (λ (xs : List ℕ). Each (Bounds xs) T'.scopes) (sym (ap (λ (xs : List Note). map (λ n. n.faults) xs) is ∙ map_snoc (λ (n : Note). n.faults) ns note)) bounds;
    }

-- What is kept, of the history that contracts see.

-- for how many places the ledger has room
abbrev pub room : Log → ℕ
room c = left_to_join (given c.setup) c.entries

module _ {L : Type 0} {stands : L → ℕ → Tree → Type 0} {l : L} {ks : List Event} {dead : PlaceSet} {ended : Bool} {ns : List Note} where
  pub seen : {c h : Log} → h ≡ c → KeepsSo stands (given h.setup) l h.entries ks dead ended ns → KeepsSo stands (given c.setup) l c.entries ks dead ended ns
  seen view k = subst (λ (x : Log). KeepsSo stands (given x.setup) l x.entries ks dead ended ns) view k

  -- with one entry more
  pub kept : {c h h' : Log} (e : Entry) → h ≡ c → h' ≡ with_entry h e → KeepsSo stands (given c.setup) l (c.entries ++ e ∷ []) ks dead ended ns → Keeps stands h' l ks dead ended ns
  kept e view told k = subst (λ (x : Log). Keeps stands x l ks dead ended ns) (sym (told ∙ ap (λ (x : Log). with_entry x e) view)) k

module _ {L : Type 0} {stands : L → ℕ → Tree → Type 0} (c : Log) {l : L} {ks : List Event} {dead : PlaceSet} {ended : Bool} {ns : List Note} (k : KeepsSo stands (given c.setup) l c.entries ks dead ended ns) where
  -- nothing is due of the plan
  free : Calm c → ended ≡ false → NoneDue (length c.entries) ks
  free calm on = subst (λ (xs : List Event). NoneDue (length c.entries) xs) (sym k.left) (calm (subst (λ (e : Bool). Ending e c.entries) on k.ending))

  -- a granted request
  pub granted : {h h' : Log} (l' : L) (ns' : List Note) (t : TaskId) (act : Act) (batch : List (List ℕ)) → h ≡ c → h' ≡ with_entry h (Step t act batch) → Calm c → AllowedAct (tree_told c) t act → stands l' (room c) (made_act (tree_told c) t act) → Grown t act (made_act (tree_told c) t act) ns ns' → Keeps stands h' l' ks dead ended ns'
  granted l' ns' t act batch view told calm may stood grown = kept (Step t act batch) view told (stepped k (free calm) t act batch may l' ns' stood grown)

  -- a refused one
  pub still : {h : Log} (l' : L) (ns' : List Note) → h ≡ c → stands l' (room c) (tree_told c) → ns' ≡ ns → Keeps stands h l' ks dead ended ns'
  still l' ns' view stood same =
      subst (λ (x : Log). Keeps stands x l' ks dead ended ns') (sym view)
      (subst (λ (xs : List Note). Keeps stands c l' ks dead ended xs) (sym same)
      (record { proper = k.proper; folds = k.folds; tree = stood; left = k.left; come = k.come; ending = k.ending; died = k.died; noted = k.noted }))

  -- the root's release
  pub has_root : RootStands → ended ≡ false → HasRoot (tree_told c)
  has_root law on =
      let root = law c.setup.places c.entries k.folds.some k.folds.few k.folds.allowed (subst (λ (e : Bool). Ending e c.entries) on k.ending) in
      record { root = root.0; stands = root.1 }

  pub freed : {h h' : Log} (l' : L) (lost : PlaceSet) (masked : ℕ) (thrown : List Fault) → h ≡ c → h' ≡ with_entry h (Root lost masked thrown) → Calm c → ended ≡ false → Allowed (tree_told c) (Root lost masked thrown) → stands l' (room c) (without (tree_told c) the_root) → Keeps stands h' l' ks dead true ns
  freed l' lost masked thrown view told calm on may stood = kept (Root lost masked thrown) view told (rooted k on (free calm on) lost masked thrown may l' stood)

-- Refusals.

-- why a request was refused, and what else the ledger tells then
pub refused : (T : Tree) (who : Caller) (Waits : PlaceId → Type 0) (X : Type 0) (R : LedgerFault → Type 0) → (R NoMemory → X) → ((place : PlaceId) (at : ℕ) → R (Lost place at) → WasLost T who place at × X) → ((place : PlaceId) → R (NotYet place) → (IsUnstruck T who × Waits place) × X) → (f : LedgerFault) → R f → IsRefused T who Waits f × X
refused T who Waits X R out lost late NoMemory h = (tt, out h)
refused T who Waits X R out lost late (Lost place at) h = lost place at h
refused T who Waits X R out lost late (NotYet place) h = late place h

-- a task that no death has struck and that need not wait is refused for want of memory alone
pub memory_alone : (T : Tree) (who : Caller) (Waits : PlaceId → Type 0) (f : LedgerFault) → IsUnstruck T who → ((place : PlaceId) → Waits place → ⊥) → IsRefused T who Waits f → f ≡ NoMemory
memory_alone T who Waits NoMemory free none h = refl
memory_alone T who Waits (Lost place at) free none h = absurd (let e : None ≡ Some (record { place = place; entry = at }) = sym free ∙ h in let v : ⊥ = cc in v)
memory_alone T who Waits (NotYet place) free none h = absurd (none place h.1)

-- a quiet scope hinders no release
pub unhindered : (T : Tree) (s : ScopeId) (place : PlaceId) → quiet T s ≡ true → IsHindered T s place → ⊥
unhindered T s place q h = let e : true ≡ false = sym q ∙ h.busy in let v : ⊥ = cc in v

-- why the host was refused
pub root_refused : (T : Tree) (S : Tree → Type 0) (f : LedgerFault) → RootReply T (Err f) S → IsRootRefused T f × S T
root_refused T S NoMemory h = (tt, h.1)
root_refused T S (Lost place at) h = absurd h
root_refused T S (NotYet place) h = h
