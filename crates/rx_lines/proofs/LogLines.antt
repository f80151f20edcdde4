-- The lines of the log are those of the entries.
use Rattle.std.proofs.Common.{codes, ◌==◌, ◌||◌, Bool, true, false, cond, ◌≡◌, ℕ, ◌+◌, List, [], ◌∷◌, ◌++◌, length, ap, sym, ◌∙◌, append_assoc, append-nil, arith}
use Rattle.rx_rules.proofs.Common.{PlaceId, ScopeId, TaskId, Fault, place_number}
use Rattle.rx_rules.specs.declared.entries.Act.TheVariants.{Open, At, Spawn, Arrive, Wait, Release, End}
use Rattle.rx_rules.specs.declared.entries.Entry.{Entry}
use Rattle.rx_rules.specs.declared.entries.Entry.TheVariants.{Step, Root, Death, Join}
use Rattle.rx_text.specs.Numbers.{natural_text}
use Rattle.rx_text.proofs.Short.{one_digit}
use Rattle.rx_trace.specs.EntryLines.{entry_line}
use Rattle.rx_trace.specs.Fields.{path_field, place_field, task_field, scope_field}
use Rattle.rx_trace.specs.Parts.{lost_part, masked_part, thrown_part}
use Rattle.rx_finish.specs.declared.ledger.Born.{Born}
use Rattle.rx_finish.specs.declared.ledger.Outcome.{Outcome}
use Rattle.rx_coordinator.specs.declared.requests.Answer.TheVariants.{Sent}
use Rattle.rx_lines.specs.declared.note.Note.{Note}
use Rattle.rx_lines.specs.Stated.{stated, log_lines}
use Rattle.rx_lines.specs.Inside.Noting.{landings, entries_of}
use Rattle.rx_lines.specs.Inside.LogLines.{open_line, call_line, spawn_line, arrive_line, wait_line, release_line, end_line, root_line, place_line}

-- the statement that stands for all
zero-path : codes " 0" ≡ path_field (0 ∷ [])
zero-path = sym (ap (λ z. codes " " ++ (z ++ [])) (one_digit 0 (omega arith)))

flat-open : (n w t s i r p l : List ℕ) → (((n ++ w) ++ t) ++ (s ++ (i ++ r))) ++ (p ++ l) ≡ ((n ++ (((w ++ t) ++ (((s ++ i) ++ r) ++ p)) ++ [])) ++ l) ++ []
flat-open n w t s i r p l = simp (append_assoc, append-nil)

flat-call : (n w t s i r u f g p l : List ℕ) → ((((n ++ w) ++ t) ++ (s ++ (i ++ r))) ++ u) ++ ((f ++ g) ++ (p ++ l)) ≡ ((n ++ (((w ++ t) ++ (((((s ++ i) ++ r) ++ u) ++ (f ++ g)) ++ p)) ++ [])) ++ l) ++ []
flat-call n w t s i r u f g p l = simp (append_assoc, append-nil)

flat-spawn : (n w t c i s f g p l : List ℕ) → ((((n ++ w) ++ t) ++ c) ++ (i ++ s)) ++ ((f ++ g) ++ (p ++ l)) ≡ ((n ++ (((w ++ t) ++ ((((c ++ i) ++ s) ++ (f ++ g)) ++ p)) ++ [])) ++ l) ++ []
flat-spawn n w t c i s f g p l = simp (append_assoc, append-nil)

flat-one : (n w t a l : List ℕ) → (((n ++ w) ++ t) ++ a) ++ l ≡ ((n ++ (((w ++ t) ++ a) ++ [])) ++ l) ++ []
flat-one n w t a l = simp (append_assoc, append-nil)

flat-two : (n w t s a l : List ℕ) → ((((n ++ w) ++ t) ++ s) ++ a) ++ l ≡ ((n ++ (((w ++ t) ++ (s ++ a)) ++ [])) ++ l) ++ []
flat-two n w t s a l = simp (append_assoc, append-nil)

flat-release : (n w t s a b h l : List ℕ) → (((n ++ w) ++ t) ++ s) ++ (((a ++ b) ++ h) ++ l) ≡ ((n ++ (((w ++ t) ++ (s ++ ((a ++ b) ++ h))) ++ [])) ++ l) ++ []
flat-release n w t s a b h l = simp (append_assoc, append-nil)

pub open-is : (n : ℕ) (t : TaskId) (s r : ScopeId) → open_line n t s r ≡ log_lines n (Step t (Open s r []) [] ∷ [])
open-is n t s r =
    ap (λ (p : List ℕ). (((natural_text n ++ codes " open") ++ task_field t) ++ (scope_field s ++ (codes " in" ++ scope_field r))) ++ (p ++ codes "\n")) zero-path
    ∙ flat-open (natural_text n) (codes " open") (task_field t) (scope_field s) (codes " in") (scope_field r) (path_field (0 ∷ [])) (codes "\n")

pub call-is : (n : ℕ) (t : TaskId) (s r : ScopeId) (callee : TaskId) (from to : PlaceId) → call_line n t s r callee from to ≡ log_lines n (Step t (At from to s r callee []) [] ∷ [])
call-is n t s r callee from to =
    ap (λ (p : List ℕ). ((((natural_text n ++ codes " at") ++ task_field t) ++ (scope_field s ++ (codes " in" ++ scope_field r))) ++ task_field callee) ++ ((place_field from ++ place_field to) ++ (p ++ codes "\n"))) zero-path
    ∙ flat-call (natural_text n) (codes " at") (task_field t) (scope_field s) (codes " in") (scope_field r) (task_field callee) (place_field from) (place_field to) (path_field (0 ∷ [])) (codes "\n")

pub spawn-is : (n : ℕ) (t child : TaskId) (s : ScopeId) (from to : PlaceId) → spawn_line n t child s from to ≡ log_lines n (Step t (Spawn child s from to []) [] ∷ [])
spawn-is n t child s from to =
    ap (λ (p : List ℕ). ((((natural_text n ++ codes " spawn") ++ task_field t) ++ task_field child) ++ (codes " in" ++ scope_field s)) ++ ((place_field from ++ place_field to) ++ (p ++ codes "\n"))) zero-path
    ∙ flat-spawn (natural_text n) (codes " spawn") (task_field t) (task_field child) (codes " in") (scope_field s) (place_field from) (place_field to) (path_field (0 ∷ [])) (codes "\n")

pub arrive-is : (n : ℕ) (t : TaskId) (p : PlaceId) → arrive_line n t p ≡ log_lines n (Step t (Arrive p) [] ∷ [])
arrive-is n t p = flat-one (natural_text n) (codes " arrive") (task_field t) (place_field p) (codes "\n")

pub wait-is : (n : ℕ) (t : TaskId) (s : ScopeId) (thrown : List Fault) → wait_line n t s thrown ≡ log_lines n (Step t (Wait s thrown) [] ∷ [])
wait-is n t s thrown = flat-two (natural_text n) (codes " wait") (task_field t) (scope_field s) (thrown_part thrown) (codes "\n")

pub release-is : (n : ℕ) (t : TaskId) (s : ScopeId) (o : Outcome) → release_line n t s o ≡ log_lines n (Step t (Release s o.lost o.masked o.thrown) [] ∷ [])
release-is n t s o = flat-release (natural_text n) (codes " release") (task_field t) (scope_field s) (lost_part o.lost) (masked_part o.masked) (thrown_part o.thrown) (codes "\n")

pub end-is : (n : ℕ) (t : TaskId) (thrown : List Fault) → end_line n t thrown ≡ log_lines n (Step t (End thrown) [] ∷ [])
end-is n t thrown = flat-one (natural_text n) (codes " end") (task_field t) (thrown_part thrown) (codes "\n")

pub root-is : (n : ℕ) (o : Outcome) → root_line n o ≡ log_lines n (Root o.lost o.masked o.thrown ∷ [])
root-is n o = simp (append_assoc, append-nil)

pub death-is : (n : ℕ) (p : PlaceId) → place_line n (codes " death") p ≡ log_lines n (Death p ∷ [])
death-is n p = simp (append_assoc, append-nil)

pub join-is : (n : ℕ) (p : PlaceId) → place_line n (codes " join") p ≡ log_lines n (Join p ∷ [])
join-is n p = simp (append_assoc, append-nil)

-- an entry and more
pub one-more : (n : ℕ) (e : Entry) (es : List Entry) → log_lines n (e ∷ []) ++ log_lines (n + 1) es ≡ log_lines n (e ∷ es)
one-more n e es = ap (λ z. z ++ log_lines (n + 1) es) (append-nil (entry_line n (stated e)))

-- entries behind others
pub lines-on : (n : ℕ) (es fs : List Entry) → log_lines n es ++ log_lines (n + length es) fs ≡ log_lines n (es ++ fs)
lines-on n [] fs = (let e : n + 0 ≡ n = omega arith in ap (λ (m : ℕ). log_lines m fs) e)
lines-on n (e ∷ es) fs =
    let same : n + length (e ∷ es) ≡ (n + 1) + length es = omega arith in
    append_assoc (entry_line n (stated e)) (log_lines (n + 1) es) (log_lines (n + length (e ∷ es)) fs)
    ∙ ap (λ z. entry_line n (stated e) ++ z) (ap (λ (m : ℕ). log_lines (n + 1) es ++ log_lines m fs) same ∙ lines-on (n + 1) es fs)

-- A task that is sent.

module _ (k : Note) (b : Born) where
  pub lost-stays : b.lost ≡ true → landings k b ≡ []
  lost-stays e = ap (λ (c : Bool). cond (c || ((place_number k.place).0 == k.to.0)) [] (Step b.child (Arrive k.to) [] ∷ [])) e

  at-either : (c d : Bool) → b.lost ≡ c → ((place_number k.place).0 == k.to.0) ≡ d → landings k b ≡ cond (c || d) [] (Step b.child (Arrive k.to) [] ∷ [])
  at-either c d e f =
      ap (λ (x : Bool). cond (x || ((place_number k.place).0 == k.to.0)) [] (Step b.child (Arrive k.to) [] ∷ [])) e
      ∙ ap (λ (x : Bool). cond (c || x) [] (Step b.child (Arrive k.to) [] ∷ [])) f

  pub here-stays : b.lost ≡ false → ((place_number k.place).0 == k.to.0) ≡ true → landings k b ≡ []
  here-stays e f = at-either false true e f

  pub far-lands : b.lost ≡ false → ((place_number k.place).0 == k.to.0) ≡ false → landings k b ≡ Step b.child (Arrive k.to) [] ∷ []
  far-lands e f = at-either false false e f

  module _ (n : ℕ) (q : PlaceId) (at : q ≡ place_number k.place) where
    first : spawn_line n k.task b.child b.scope q k.to ≡ log_lines n (Step k.task (Spawn b.child b.scope (place_number k.place) k.to []) [] ∷ [])
    first = ap (λ (v : PlaceId). spawn_line n k.task b.child b.scope v k.to) at ∙ spawn-is n k.task b.child b.scope (place_number k.place) k.to

    with-more : (es : List Entry) → landings k b ≡ es → log_lines n (Step k.task (Spawn b.child b.scope (place_number k.place) k.to []) [] ∷ es) ≡ log_lines n (entries_of k (Sent b))
    with-more es e = ap (λ (fs : List Entry). log_lines n (Step k.task (Spawn b.child b.scope (place_number k.place) k.to []) [] ∷ fs)) (sym e)

    pub sent-stays : landings k b ≡ [] → spawn_line n k.task b.child b.scope q k.to ≡ log_lines n (entries_of k (Sent b))
    sent-stays e = first ∙ with-more [] e

    pub sent-lands : landings k b ≡ Step b.child (Arrive k.to) [] ∷ [] → spawn_line n k.task b.child b.scope q k.to ++ arrive_line (n + 1) b.child k.to ≡ log_lines n (entries_of k (Sent b))
    sent-lands e =
        ap (λ z. z ++ arrive_line (n + 1) b.child k.to) first
        ∙ (ap (λ z. log_lines n (Step k.task (Spawn b.child b.scope (place_number k.place) k.to []) [] ∷ []) ++ z) (arrive-is (n + 1) b.child k.to)
        ∙ (one-more n (Step k.task (Spawn b.child b.scope (place_number k.place) k.to []) []) (Step b.child (Arrive k.to) [] ∷ [])
        ∙ with-more (Step b.child (Arrive k.to) [] ∷ []) e))
