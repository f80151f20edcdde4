-- Each waiter that an item of a living task lies in is open: then each pending statement is covered.
use Rattle.std.proofs.Common.{◌≡◌, ℕ, ◌<◌, true, List, ◌∷◌, ◌++◌, Some, sym, subst, ◌∙◌, inl, inr}
use Rattle.rx_rules.proofs.Common.{Block, Stmt, Tree, Term, is_kept}
use Rattle.rx_rules.specs.declared.entries.Entry.{Entry}
use Rattle.rx_history_laws.proofs.Straight.{code_at, stmt_at, is_waiter}
use Rattle.rx_history_laws.proofs.Paths.{Starts, left_over, starts-cut}
use Rattle.rx_history_laws.proofs.TermCode.{Coded, code-on}
use Rattle.rx_history_laws.proofs.KeptPaths.{kept-begins}
use Rattle.rx_history_laws.proofs.ToldPairs.{is_alive}
use Rattle.rx_history_laws.proofs.Front.{IsOpen, Covered}
use Rattle.rx_history_laws.proofs.Heads.{Head, todo-head}

-- each waiter that an item of a living task lies in, kept from there to the item, is open
abbrev pub HeadsCovered : Block → List Entry → Tree → (ℕ → Term) → Type 0
HeadsCovered code past T f =
    (c : ℕ) → c < T.next_task → is_alive T c ≡ true → (h : List ℕ) → Head (f c) h → (x : List ℕ) (j : ℕ) (r : List ℕ) (u : Stmt) → h ≡ x ++ j ∷ r → code_at code x ≡ Some u → is_waiter u ≡ true → is_kept u (j ∷ r) ≡ true → IsOpen past x

pub covered-heads : (code : Block) (past : List Entry) (T : Tree) (f : ℕ → Term) → ((c : ℕ) → c < T.next_task → Coded code (f c)) → HeadsCovered code past T f → Covered code past T f
covered-heads code past T f coded hs c low alive x i y u todo e w kept =
    elim (todo-head code x i y u e w (f c) (coded c low) todo) [
      | inl t ↦ inl t
      | inr h ↦
          let begins : Starts (x ++ h.next ∷ h.rest) (x ++ i ∷ y) = subst (λ v. Starts v (x ++ i ∷ y)) h.way h.begins in
          let q = left_over (h.next ∷ h.rest) (i ∷ y) (starts-cut x (h.next ∷ h.rest) (i ∷ y) begins) in
          let there : stmt_at u (h.next ∷ h.rest) ≡ Some h.stmt = sym (code-on code x u e (h.next ∷ h.rest)) ∙ subst (λ v. code_at code v ≡ Some h.stmt) h.way h.at in
          inr (hs c low alive h.head h.is_head x h.next h.rest u h.way e w
          (kept-begins u (h.next ∷ h.rest) q.0 h.stmt there (subst (λ l. is_kept u l ≡ true) q.1 kept)))
    ]
