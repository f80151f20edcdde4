-- Each waiter that holds an item of a living task is open: this gives `Covered`, and an entry keeps it where what was open stays so.
use Rattle.std.proofs.Common.{◌≡◌, ◌⊎◌, ℕ, ◌<◌, Bool, true, false, List, [], ◌∷◌, Some, refl, sym, subst, inl, inr}
use Rattle.std.proofs.lemmas.Bool.{true≢false}
use Rattle.rx_rules.proofs.Common.{TaskId, ScopeId, PlaceSet, Fault, Block, Stmt, Tree, Term, Vars, started_by, own_path}
use Rattle.rx_rules.specs.declared.entries.Act.{Act}
use Rattle.rx_rules.specs.declared.entries.Act.TheVariants.{Open, At as Calling, Release}
use Rattle.rx_rules.specs.declared.entries.Entry.{Entry}
use Rattle.rx_rules.specs.declared.entries.Entry.TheVariants.{Step}
use Rattle.rx_history_laws.proofs.Straight.{code_at, is_waiter}
use Rattle.rx_history_laws.proofs.TermCode.{Coded}
use Rattle.rx_history_laws.proofs.Stacks.{open_paths, stack_after, Stacked, Pushes}
use Rattle.rx_history_laws.proofs.Lies.{LiesIn}
use Rattle.rx_history_laws.proofs.Says.{Says}
use Rattle.rx_history_laws.proofs.Story.{Shape, set_at, set_case, open_own, open_case}
use Rattle.rx_history_laws.proofs.ToldPairs.{is_alive}
use Rattle.rx_history_laws.proofs.Front.{IsOpen, Covered}
use Rattle.rx_history_laws.proofs.HeadsCovered.{covered-heads}

abbrev pub AllOpen : Block → List Entry → Tree → (ℕ → Term) → Type 0
AllOpen code past T f =
    (c : ℕ) → c < T.next_task → is_alive T c ≡ true → (x : List ℕ) (u : Stmt) → code_at code x ≡ Some u → is_waiter u ≡ true → LiesIn (f c) x u → IsOpen past x

pub all_open-covers : (code : Block) (past : List Entry) (T : Tree) (f : ℕ → Term) → ((c : ℕ) → c < T.next_task → Coded code (f c)) → AllOpen code past T f → Covered code past T f
all_open-covers code past T f coded o =
    covered-heads code past T f coded
    (λ c low alive h k x j r u way e w kept. o c low alive x u e w (record { head = h; is_head = k; next = j; rest = r; way = way; kept = kept }))

abbrev pub is_release : Act → Bool
is_release (Release s lost masked thrown) = true
is_release _ = false

pub release-of : (act : Act) → is_release act ≡ true → (s : ScopeId) × (lost : PlaceSet) × (masked : ℕ) × (thrown : List Fault) × (act ≡ Release s lost masked thrown)
release-of (Release s lost masked thrown) h = (s, lost, masked, thrown, refl)
release-of act h = cc

stack-keeps : (act : Act) (ps : List (List ℕ)) (x : List ℕ) → is_release act ≡ false → Stacked x ps → Stacked x (stack_after act ps)
stack-keeps (Open s r y) ps x n h = inr h
stack-keeps (Calling from to s r c y) ps x n h = inr h
stack-keeps (Release s lost masked thrown) ps x n h = absurd (true≢false n)
stack-keeps _ ps x n h = h

pub open-stays : (past : List Entry) (t : TaskId) (act : Act) (batch : List (List ℕ)) (x : List ℕ) → is_release act ≡ false → IsOpen past x → IsOpen (Step t act batch ∷ past) x
open-stays past t act batch x n o =
    record {
      opener = o.opener;
      is_open = open_case past t act batch o.opener (Stacked x) (λ e. stack-keeps act (open_paths past o.opener) x n o.is_open) (λ e. o.is_open);
    }

pub pushed-open : (past : List Entry) (t : TaskId) (act : Act) (batch : List (List ℕ)) (x : List ℕ) → Pushes act x → IsOpen (Step t act batch ∷ past) x
pushed-open past t act batch x p =
    record { opener = t.0; is_open = subst (Stacked x) (sym (open_own past t act batch)) (p (open_paths past t.0)) }

module _ (code : Block) (starts : List (Term × Vars)) (past : List Entry) (T after : Tree) (t : TaskId) (act : Act) (batch told : List (List ℕ)) (f : ℕ → Term) (s : Shape code past T.next_task f) (sd : Says starts (f t.0) act told) (low : t.0 < T.next_task) (lives : is_alive T t.0 ≡ true) (o : AllOpen code past T f) where
  abbrev pub left : ℕ → Term
  left = set_at t.0 sd.after f

  -- what was open stays open, where an item of a living task lies in it
  abbrev pub OpenStays : Type 0
  OpenStays = (c : ℕ) → c < T.next_task → is_alive T c ≡ true → (x : List ℕ) (u : Stmt) → code_at code x ≡ Some u → is_waiter u ≡ true → LiesIn (left c) x u → IsOpen past x → IsOpen (Step t act batch ∷ past) x

  -- of a task that was there
  still-open : OpenStays → (c : ℕ) → c < T.next_task → is_alive T c ≡ true → (x : List ℕ) (u : Stmt) → code_at code x ≡ Some u → is_waiter u ≡ true → LiesIn (left c) x u → IsOpen (Step t act batch ∷ past) x
  still-open stays c hc alive x u e w l =
      elim (set_case (λ v. LiesIn v x u → Pushes act x ⊎ IsOpen past x) t.0 c sd.after f
      (λ i k. elim (sd.lies code (s.coded t.0 low) x u e w k) [
        | inl own ↦ inl (sd.pushes code (s.coded t.0 low) x u e w own)
        | inr was ↦ inr (o t.0 low lives x u e w was)
      ])
      (λ i k. inr (o c hc alive x u e w k)) l) [
        | inl p ↦ pushed-open past t act batch x p
        | inr was ↦ stays c hc alive x u e w l was
      ]

  pub all_open-step : OpenStays → ((c : ℕ) → c < after.next_task → is_alive after c ≡ true → (c < T.next_task) × (is_alive T c ≡ true)) → AllOpen code (Step t act batch ∷ past) after left
  all_open-step stays back c hc alive = let b = back c hc alive in still-open stays c b.0 b.1

  pub all_open-birth : is_release act ≡ false → (d : TaskId) (e : started_by act ≡ Some d) → ((c : ℕ) → c < after.next_task → is_alive after c ≡ true → (T.next_task ≡ c → ⊥) → (c < T.next_task) × (is_alive T c ≡ true)) → AllOpen code (Step t act batch ∷ past) after (set_at T.next_task (sd.child d e).term left)
  all_open-birth keeps d e back c hc alive x u at w =
      set_case (λ v. LiesIn v x u → IsOpen (Step t act batch ∷ past) x) T.next_task c (sd.child d e).term left
      (λ i l. elim ((sd.child d e).lies code (s.coded t.0 low) x u at w l) [
        | inl own ↦ pushed-open past t act batch x (sd.pushes code (s.coded t.0 low) x u at w (subst (λ v. own_path act ≡ v ∷ []) (sym own) (sd.child_path d e)))
        | inr was ↦ open-stays past t act batch x keeps (o t.0 low lives x u at w was)
      ])
      (λ i l. let b = back c hc alive i in still-open (λ c hc alive x u e w l. open-stays past t act batch x keeps) c b.0 b.1 x u at w l)
