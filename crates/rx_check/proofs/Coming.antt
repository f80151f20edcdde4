-- Whatever a task of a script that meets the rules comes to keeps the rules, and so is defined.
use Rattle.std.proofs.Common.{◌≡◌, ℕ, ℤ, ◌≤◌, true, cond, List, [], ◌∷◌, Option, None, length, sym, subst}
use Rattle.std.proofs.lemmas.List.{length-replicate}
use Rattle.rx_rules.proofs.Common.{GlobalRef, PlaceId, Fault, HeapFull, Stale, Index, Value, Number, Ref, Block, Vars, no_vars, bound, Term, Empty, Raise, Answer, answered, vars_after, Gives, Fine, Fails, Does, Makes, Gets, Puts, Forgets, Opens, Calls, Spawns, Waits, Releases, Prints, Counts, does, granted, replaced, after_it, Tells, brought, vars_told, has}
use Rattle.rx_rules.specs.declared.entries.Act.{Act}
use Rattle.rx_rules.specs.declared.entries.Act.TheVariants as acts
use Rattle.rx_rules.specs.declared.events.Cell.{Cell}
use Rattle.rx_rules.specs.declared.events.Cell.TheVariants as cells
use Rattle.rx_rules.specs.Plays.{Fits}
use Rattle.rx_syntax.specs.Named.{NamesAreNumbered}
use Rattle.rx_check.specs.Rules.{Kind, kind_of, nodes}
use Rattle.rx_check.specs.Defined.{TermComes, main, local, stores, asks, starts, AlwaysDefined, FewNames}
use Rattle.rx_check.proofs.Lawful.{Lawful, meets-lawful}
use Rattle.rx_check.proofs.Safe.{better-same, Good, later-items, safe-defined}
use Rattle.rx_check.proofs.Stepping.{Next, KeepsTerm, keeps, good-child}

module _ (kinds : ℕ → Option Kind) (q : ℕ) (vars : Vars) (t : Term) where
  given : (name : ℕ) (v : Value) (a : Answer) → a ≡ Gives name v → Next kinds q vars (bound name v vars) (replaced t (after_it t)) → Next kinds q vars (vars_after a vars) (answered a t)
  given name v a e h = subst (λ (b : Answer). Next kinds q vars (vars_after b vars) (answered b t)) (sym e) h

  went : (a : Answer) → a ≡ Fine → Good kinds q vars (replaced t (after_it t)) → Next kinds q vars (vars_after a vars) (answered a t)
  went a e h = subst (λ (b : Answer). Next kinds q vars (vars_after b vars) (answered b t)) (sym e) (better-same kinds vars, h)

  failed : (fault : Fault) (a : Answer) → a ≡ Fails fault → ((f : Fault) → Good kinds q vars (replaced t (Raise (f ∷ [])))) → Next kinds q vars (vars_after a vars) (answered a t)
  failed fault a e h = subst (λ (b : Answer). Next kinds q vars (vars_after b vars) (answered b t)) (sym e) (better-same kinds vars, h fault)

  makes : (name words : ℕ) (here : PlaceId) (cell : Cell) (a : Answer) → Tells (Makes name words) here cell a → KeepsTerm kinds q vars t (Makes name words) → Next kinds q vars (vars_after a vars) (answered a t)
  makes name words here (cells.Make n start generation) a h k =
      given name (Ref (record { home = here; start = start; generation = generation })) a h.1 (k.0 (record { home = here; start = start; generation = generation }))
  makes name words here (cells.MakeFull n) a h k = failed HeapFull a h.1 k.1
  makes name words here (cells.Get r i value) a h k = absurd h
  makes name words here (cells.Put r i value) a h k = absurd h
  makes name words here (cells.Forget r) a h k = absurd h
  makes name words here (cells.GetRefused r i stale) a h k = absurd h
  makes name words here (cells.PutRefused r i value stale) a h k = absurd h
  makes name words here (cells.ForgetStale r) a h k = absurd h

  gets : (here : PlaceId) (name : ℕ) (target : GlobalRef) (index : ℤ) (cell : Cell) (a : Answer) → Tells (Gets name target index) here cell a → KeepsTerm kinds q vars t (Gets name target index) → Next kinds q vars (vars_after a vars) (answered a t)
  gets here name target index (cells.Make n start generation) a h k = absurd h
  gets here name target index (cells.MakeFull n) a h k = absurd h
  gets here name target index (cells.Get r i value) a h k = given name (Number value) a h.2 (k.0 value)
  gets here name target index (cells.Put r i value) a h k = absurd h
  gets here name target index (cells.Forget r) a h k = absurd h
  gets here name target index (cells.GetRefused r i stale) a h k = failed (cond stale Stale Index) a h.2 k.1
  gets here name target index (cells.PutRefused r i value stale) a h k = absurd h
  gets here name target index (cells.ForgetStale r) a h k = absurd h

  puts : (here : PlaceId) (target : GlobalRef) (index value : ℤ) (cell : Cell) (a : Answer) → Tells (Puts target index value) here cell a → KeepsTerm kinds q vars t (Puts target index value) → Next kinds q vars (vars_after a vars) (answered a t)
  puts here target index value (cells.Make n start generation) a h k = absurd h
  puts here target index value (cells.MakeFull n) a h k = absurd h
  puts here target index value (cells.Get r i v) a h k = absurd h
  puts here target index value (cells.Put r i v) a h k = went a h.3 k.0
  puts here target index value (cells.Forget r) a h k = absurd h
  puts here target index value (cells.GetRefused r i stale) a h k = absurd h
  puts here target index value (cells.PutRefused r i v stale) a h k = failed (cond stale Stale Index) a h.3 k.1
  puts here target index value (cells.ForgetStale r) a h k = absurd h

  forgets : (here : PlaceId) (target : GlobalRef) (cell : Cell) (a : Answer) → Tells (Forgets target) here cell a → KeepsTerm kinds q vars t (Forgets target) → Next kinds q vars (vars_after a vars) (answered a t)
  forgets here target (cells.Make n start generation) a h k = absurd h
  forgets here target (cells.MakeFull n) a h k = absurd h
  forgets here target (cells.Get r i v) a h k = absurd h
  forgets here target (cells.Put r i v) a h k = absurd h
  forgets here target (cells.Forget r) a h k = went a h.1 k.0
  forgets here target (cells.GetRefused r i stale) a h k = absurd h
  forgets here target (cells.PutRefused r i v stale) a h k = absurd h
  forgets here target (cells.ForgetStale r) a h k = failed Stale a h.1 k.1

  tells : (d : Does) (here : PlaceId) (cell : Cell) (a : Answer) → Tells d here cell a → KeepsTerm kinds q vars t d → Next kinds q vars (vars_after a vars) (answered a t)
  tells (Makes name words) here cell a h k = makes name words here cell a h k
  tells (Gets name target index) here cell a h k = gets here name target index cell a h k
  tells (Puts target index value) here cell a h k = puts here target index value cell a h k
  tells (Forgets target) here cell a h k = forgets here target cell a h k
  tells _ here cell a h k = absurd h

  -- after a granted request
  same : (faults : List Fault) → ((fs : List Fault) → Good kinds q vars (granted fs t)) → Next kinds q vars vars (granted faults t)
  same faults k = (better-same kinds vars, k faults)

  counts : (name : ℕ) (here : PlaceId) (act : Act) → Fits here t (Counts name) act → KeepsTerm kinds q vars t (Counts name) → Next kinds q vars (vars_told (Counts name) act vars) (granted (brought act) t)
  counts name here (acts.Census n x) h k = k [] n
  counts name here _ h k = absurd h

  grants : (d : Does) (here : PlaceId) (act : Act) → Fits here t d act → KeepsTerm kinds q vars t d → Next kinds q vars (vars_told d act vars) (granted (brought act) t)
  grants Opens here act h k = same (brought act) k
  grants (Calls place) here act h k = same (brought act) k
  grants (Spawns place) here act h k = same (brought act) k
  grants (Waits faults) here act h k = same (brought act) k
  grants Releases here act h k = same (brought act) k
  grants (Prints value) here act h k = same (brought act) k
  grants (Counts name) here act h k = counts name here act h k
  grants _ here act h k = absurd h

-- there are variables for so many names, and the term keeps the rules
abbrev Sound : (ℕ → Option Kind) → ℕ → Vars → Term → Type 0
Sound kinds q vars t = (q ≤ length vars.values) × Good kinds q vars t

sound-next : (kinds : ℕ → Option Kind) (q : ℕ) (vars after : Vars) (t : Term) → q ≤ length vars.values → Next kinds q vars after t → Sound kinds q after t
sound-next kinds q vars after t wide h = (subst (λ (n : ℕ). q ≤ n) (sym h.0.cells) wide, h.1)

comes-sound : (code : Block) (kinds : ℕ → Option Kind) (q : ℕ) {vars : Vars} {t : Term} → q ≤ 32 → Lawful kinds q [] code → TermComes code vars t → Sound kinds q vars t
comes-sound code kinds q few l (main places) =
    let all : length (no_vars places).values ≡ 32 = length-replicate {A = Option Value} 32 None in
    let begun = later-items kinds q (no_vars places) [] code [] 0 Empty l ([], (λ n k. k), tt) in
    (subst (λ (n : ℕ). q ≤ n) (sym all) few, (begun.0, (λ n k. let bad : has n [] ≡ true = begun.1 n k in cc), begun.2))
comes-sound code kinds q few l (local {vars = vars} {left = left} {t = t} {after = after} here c e) =
    let s = comes-sound code kinds q few l c in
    sound-next kinds q vars left after s.0 (subst (λ (d : Does). KeepsTerm kinds q vars t d) e (keeps kinds q vars here s.1.0 t s.0 s.1.1 s.1.2))
comes-sound code kinds q few l (stores {vars = vars} {t = t} here cell a c h) =
    let s = comes-sound code kinds q few l c in
    sound-next kinds q vars (vars_after a vars) (answered a t) s.0 (tells kinds q vars t (does vars here.0 t) here cell a h (keeps kinds q vars here.0 s.1.0 t s.0 s.1.1 s.1.2))
comes-sound code kinds q few l (asks {vars = vars} {t = t} here act c h) =
    let s = comes-sound code kinds q few l c in
    sound-next kinds q vars (vars_told (does vars here.0 t) act vars) (granted (brought act) t) s.0 (grants kinds q vars t (does vars here.0 t) here act h (keeps kinds q vars here.0 s.1.0 t s.0 s.1.1 s.1.2))
comes-sound code kinds q few l (starts {vars = vars} {t = t} c) =
    let s = comes-sound code kinds q few l c in (s.0, good-child kinds q vars s.1.0 t s.1.1 s.1.2)

pub always-defined : NamesAreNumbered → FewNames → AlwaysDefined
always-defined numbered few code names meets are vars t stmt c e =
    let l : Lawful (kind_of (nodes code)) (length names) [] code = meets-lawful code (length names) meets (λ n u. (numbered names code are n).0 u) in
    let s = comes-sound code (kind_of (nodes code)) (length names) (few code names meets are) l c in
    safe-defined (kind_of (nodes code)) (length names) vars s.1.0 t stmt s.0 s.1.1 s.1.2 e
