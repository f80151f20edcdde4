-- No statement told is before one that another living task has still to begin, as soon as each waiter of a pending statement
-- is still to be begun or stands open; and so the order of a history.
use Rattle.std.proofs.Common.{◌≡◌, ◌⊎◌, ℕ, ◌<◌, true, List, [], ◌∷◌, ◌++◌, Some, sym, subst, ◌∙◌, inl, inr}
use Rattle.std.proofs.lemmas.Bool.{true≢false, false_from_ne_true, cases_eq}
use Rattle.rx_rules.proofs.Common.{Block, Stmt, Tree, opening, Term, Empty, items, Given, IsRun, InOrder, told, is_kept, comes_before}
use Rattle.rx_rules.specs.declared.entries.Entry.{Entry}
use Rattle.rx_rules.specs.declared.events.PlaceEvent.{PlaceEvent}
use Rattle.rx_history_laws.proofs.Straight.{code_at, comes_ahead, is_waiter}
use Rattle.rx_history_laws.proofs.Paths.{Starts, starts-not_below}
use Rattle.rx_history_laws.proofs.TermOrder.{Todo}
use Rattle.rx_history_laws.proofs.TermCode.{Coded}
use Rattle.rx_history_laws.proofs.Stacks.{open_paths, Stacked, stacked-starts}
use Rattle.rx_history_laws.proofs.ToldPairs.{Keeps, is_alive}
use Rattle.rx_history_laws.proofs.Barriers.{Barrier, comes_before-cases, comes_ahead-below}
use Rattle.rx_history_laws.proofs.ToldOnce.{FrontFirst, history-in_order}

-- some task has opened a scope at x and not released it
pub record IsOpen (past : List Entry) (x : List ℕ) : Type 0 where
  pub opener : ℕ
  pub is_open : Stacked x (open_paths past opener)

-- a `finish` or `at` that waits for what a living task has to begin is still to be begun by that task, or it is open
abbrev pub Covered : Block → List Entry → Tree → (ℕ → Term) → Type 0
Covered code past T f =
    (c : ℕ) → c < T.next_task → is_alive T c ≡ true → (x : List ℕ) (i : ℕ) (y : List ℕ) (u : Stmt) → Todo (f c) (x ++ i ∷ y) → code_at code x ≡ Some u → is_waiter u ≡ true → is_kept u (i ∷ y) ≡ true → Todo (f c) x ⊎ IsOpen past x

pub front-first : (code : Block) (K : List Entry → Tree → (ℕ → Term) → Type 0) → ((past : List Entry) (T : Tree) (f : ℕ → Term) → ((c : ℕ) → c < T.next_task → Coded code (f c)) → K past T f → Covered code past T f) → FrontFirst code K
front-first code K covers past T f i s k t ht z hz deep c hc o alive w hw =
    false_from_ne_true (comes_before code w z) (λ e. by_case (comes_before-cases code w z e))
  where
    inside : (x : List ℕ) → Stacked x (open_paths past t) → Starts x z
    inside x h = stacked-starts (open_paths past t) x z h deep

    by_case : (comes_ahead code w z ≡ true) ⊎ Barrier (λ p. comes_ahead code p z) (code_at code) w → ⊥
    by_case (inl e) = true≢false (sym e ∙ s.ahead c t w z hc ht (λ j. o (sym j)) hw hz)
    by_case (inr b) =
        elim (covers past T f s.coded k c hc alive b.path b.next b.rest b.waiter (subst (Todo (f c)) b.way hw) b.at b.waits b.kept) [
          | inl h ↦ true≢false (sym b.passes ∙ s.ahead c t b.path z hc ht (λ j. o (sym j)) h hz)
          | inr h ↦ elim (cases_eq h.opener t) [
            | inl e ↦ starts-not_below b.path z (inside b.path (subst (λ v. Stacked b.path (open_paths past v)) e h.is_open)) (comes_ahead-below code b.path z b.passes)
            | inr e ↦ true≢false (sym b.passes ∙ s.scope_ahead h.opener t b.path z h.is_open ht e hz)
          ]
        ]

-- the order of the history of a run, from a kept fact that covers each pending statement
pub history-covered : (code : Block) (U : Given) (es : List Entry) (js : List (List PlaceEvent)) → (r : IsRun code U es js) → (K : List Entry → Tree → (ℕ → Term) → Type 0) → Keeps code r.played.starts K → K [] (opening U.places) (λ c. items code [] Empty) → ((past : List Entry) (T : Tree) (f : ℕ → Term) → ((c : ℕ) → c < T.next_task → Coded code (f c)) → K past T f → Covered code past T f) → InOrder code (told es)
history-covered code U es js r K keeps start covers =
    history-in_order code U es js r K keeps start (front-first code K covers)
