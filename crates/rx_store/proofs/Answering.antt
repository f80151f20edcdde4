-- The answer of a call, from the event that tells it.
use Rattle.std.proofs.Common.{◌≡◌, ℕ, ℤ, Bool, true, false, cond, sym, subst, ap, ◌∙◌, Err}
use Rattle.rx_rules.proofs.Common.{GlobalRef}
use Rattle.rx_rules.specs.declared.events.Cell.{Cell}
use Rattle.rx_rules.specs.declared.events.Cell.TheVariants.{Make, MakeFull, Get, Put, Forget, GetRefused, PutRefused, ForgetStale}
use Rattle.rx_store.specs.declared.calls.Mark.{Mark}
use Rattle.rx_store.specs.declared.calls.StoreFault.TheVariants.{Stale, Index}
use Rattle.rx_store.specs.Kept.{StoreView}
use Rattle.rx_store.specs.Asks.{ask_of, makes, gets, puts, forgets}
use Rattle.rx_store.specs.Answers.{StoreTells, GetAnswers, PutAnswers}

module _ (old new : StoreView) (m : Mark) (cell : Cell) (t : StoreTells old new m cell) where
  moved : (other : Cell) → cell ≡ other → StoreTells old new m other
  moved other e = subst (λ (z : Cell). StoreTells old new m z) e t

  pub made : (n k s g : ℕ) → ask_of cell ≡ makes n → cell ≡ Make k s g → StoreTells old new m (Make n s g)
  made n k s g asked is = let e : makes k ≡ makes n = sym (ap ask_of is) ∙ asked in let same : k ≡ n = cc e in moved (Make n s g) (is ∙ ap (λ z. Make z s g) same)

  pub full : (n k : ℕ) → ask_of cell ≡ makes n → cell ≡ MakeFull k → StoreTells old new m (MakeFull n)
  full n k asked is = let e : makes k ≡ makes n = sym (ap ask_of is) ∙ asked in let same : k ≡ n = cc e in moved (MakeFull n) (is ∙ ap MakeFull same)

  pub got : (r q : GlobalRef) (i j v : ℤ) → ask_of cell ≡ gets r i → cell ≡ Get q j v → StoreTells old new m (Get r i v)
  got r q i j v asked is = let e : gets q j ≡ gets r i = sym (ap ask_of is) ∙ asked in let same : Get q j v ≡ Get r i v = cc e in moved (Get r i v) (is ∙ same)

  pub get_refused : (r q : GlobalRef) (i j : ℤ) (stale : Bool) → ask_of cell ≡ gets r i → cell ≡ GetRefused q j stale → GetAnswers old new m r i (Err (cond stale Stale Index))
  get_refused r q i j true asked is = let e : gets q j ≡ gets r i = sym (ap ask_of is) ∙ asked in let same : GetRefused q j true ≡ GetRefused r i true = cc e in moved (GetRefused r i true) (is ∙ same)
  get_refused r q i j false asked is = let e : gets q j ≡ gets r i = sym (ap ask_of is) ∙ asked in let same : GetRefused q j false ≡ GetRefused r i false = cc e in moved (GetRefused r i false) (is ∙ same)

  pub was_put : (r q : GlobalRef) (i j v u : ℤ) → ask_of cell ≡ puts r i v → cell ≡ Put q j u → StoreTells old new m (Put r i v)
  was_put r q i j v u asked is = let e : puts q j u ≡ puts r i v = sym (ap ask_of is) ∙ asked in let same : Put q j u ≡ Put r i v = cc e in moved (Put r i v) (is ∙ same)

  pub put_refused : (T : Type 0) (r q : GlobalRef) (i j v u : ℤ) (stale : Bool) → ask_of cell ≡ puts r i v → cell ≡ PutRefused q j u stale → PutAnswers {T = T} old new m r i v (Err (cond stale Stale Index))
  put_refused T r q i j v u true asked is = let e : puts q j u ≡ puts r i v = sym (ap ask_of is) ∙ asked in let same : PutRefused q j u true ≡ PutRefused r i v true = cc e in moved (PutRefused r i v true) (is ∙ same)
  put_refused T r q i j v u false asked is = let e : puts q j u ≡ puts r i v = sym (ap ask_of is) ∙ asked in let same : PutRefused q j u false ≡ PutRefused r i v false = cc e in moved (PutRefused r i v false) (is ∙ same)

  pub forgot : (r q : GlobalRef) → ask_of cell ≡ forgets r → cell ≡ Forget q → StoreTells old new m (Forget r)
  forgot r q asked is = let e : forgets q ≡ forgets r = sym (ap ask_of is) ∙ asked in let same : q ≡ r = cc e in moved (Forget r) (is ∙ ap Forget same)

  pub forgot_stale : (r q : GlobalRef) → ask_of cell ≡ forgets r → cell ≡ ForgetStale q → StoreTells old new m (ForgetStale r)
  forgot_stale r q asked is = let e : forgets q ≡ forgets r = sym (ap ask_of is) ∙ asked in let same : q ≡ r = cc e in moved (ForgetStale r) (is ∙ ap ForgetStale same)
