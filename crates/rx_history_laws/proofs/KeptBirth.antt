-- A task that is born hangs under each scope of another task in whose statement it has an item.
use Rattle.std.proofs.Common.{◌≡◌, ℕ, ◌<◌, ◌≤◌, true, ◌==◌, List, [], ◌∷◌, ◌++◌, Some, None, refl, ap, sym, subst, ◌∙◌, arith, inl, inr, append_assoc, append-nil}
use Rattle.std.proofs.lemmas.Bool.{eq-eqb, or_left, or_right, cases_eq, true≢false}
use Rattle.rx_rules.proofs.Common.{TaskId, ScopeId, Block, Stmt, Async, AtAsync, At, Finish, Term, Vars, started_by, Tree, AllowedAct, own_path, is_kept, is_on, walk, links, born_so_far}
use Rattle.rx_base.proofs.Elements.{tails-are}
use Rattle.rx_rules.specs.declared.entries.Act.{Act}
use Rattle.rx_rules.specs.declared.entries.Act.TheVariants.{Open, At as Calling, Spawn, Arrive, Wait, Release, End, Print as Printed, Census as Counted}
use Rattle.rx_rules.specs.declared.entries.Entry.{Entry}
use Rattle.rx_rules.specs.declared.entries.Entry.TheVariants.{Step}
use Rattle.rx_history_laws.proofs.Straight.{code_at, stmt_at, is_waiter}
use Rattle.rx_history_laws.proofs.Paths.{starts-same}
use Rattle.rx_history_laws.proofs.Lines.{bones, nums, line}
use Rattle.rx_history_laws.proofs.Ties.{Tied}
use Rattle.rx_history_laws.proofs.Made.{inner_stands, governs_stands}
use Rattle.rx_history_laws.proofs.TermCode.{code-on}
use Rattle.rx_history_laws.proofs.Barriers.{is_shut}
use Rattle.rx_history_laws.proofs.KeptPaths.{is_async, finish-on}
use Rattle.rx_history_laws.proofs.Heads.{head-begins}
use Rattle.rx_history_laws.proofs.Lies.{LiesIn, part-of}
use Rattle.rx_history_laws.proofs.Stacks.{Stacked, Pushes}
use Rattle.rx_history_laws.proofs.Says.{Says, ChildOf}
use Rattle.rx_history_laws.proofs.Story.{Shape}
use Rattle.rx_history_laws.proofs.ToldPairs.{is_alive}
use Rattle.rx_history_laws.proofs.Governed.{first_num, governs-first, outer}
use Rattle.rx_history_laws.proofs.Numbered.{On, opened, nums_of, same-paths, stacked-on, on-nums, scope_in, on-after}
use Rattle.rx_history_laws.proofs.Owners.{cores, own_nums}
use Rattle.rx_history_laws.proofs.Rows.{under_in, linked-own, linked-under}
use Rattle.rx_history_laws.proofs.Kept.{finish-bones, inner_num, Kept, walk-new, inner-of}
use Rattle.rx_history_laws.proofs.KeptStep.{none_some, same_number, fresh-path}

-- where a task that an act starts hangs: under the new scope of an `at`, or under the finish that governs its starter
pub data Hangs (past : List Entry) (T : Tree) (t : TaskId) (act : Act) (batch : List (List ℕ)) : Type 0 where
  calls : (r : ℕ) → scope_in act ≡ Some r → under_in (born_so_far (Step t act batch ∷ past)) T.next_task ≡ r → walk (links (Step t act batch ∷ past)) r ≡ r ∷ walk (links past) (inner_num past t.0) → Hangs past T t act batch
  spawns : scope_in act ≡ None → (g : ℕ) → under_in (born_so_far (Step t act batch ∷ past)) T.next_task ≡ g → walk (links (Step t act batch ∷ past)) g ≡ walk (links past) g → g ≡ first_num (line (bones T) (Some (inner_num past t.0))) → is_on g (nums (bones T)) ≡ true → ((x : List ℕ) → Pushes act x → ⊥) → Hangs past T t act batch

pub hangs : (past : List Entry) (T : Tree) → Tied past T → (t : TaskId) (act : Act) (batch : List (List ℕ)) → AllowedAct T t act → own_nums t.0 (cores T) ≡ nums_of (opened past t.0) → (d : TaskId) → started_by act ≡ Some d → Hangs past T t act batch
hangs past T i t (Calling from to s r c x) batch a own d e =
    calls s.0 refl (rw (eq-eqb c.0 T.next_task a.asks.3))
    (walk-new past T t (Calling from to s r c x) batch a (inner_num past t.0) (inner-of past T i t own) s.0 refl)
hangs past T i t (Spawn c g from to x) batch a own d e =
    spawns refl g.0 (rw (eq-eqb c.0 T.next_task a.asks.1)) refl
    (ap (λ (v : ScopeId). v.0) a.asks.2 ∙ governs-first T a.task ∙ ap (λ m. first_num (line (bones T) (Some m))) (inner-of past T i t own a.task a.stands))
    (subst (λ (v : ScopeId). is_on v.0 (nums (bones T)) ≡ true) (sym a.asks.2) (governs_stands past T i t a.task a.stands))
    (λ y p. p [])
hangs past T i t (Open s r x) batch a own d e = cc
hangs past T i t (Arrive p) batch a own d e = cc
hangs past T i t (Wait s thrown) batch a own d e = cc
hangs past T i t (Release s lost masked thrown) batch a own d e = cc
hangs past T i t (End thrown) batch a own d e = cc
hangs past T i t (Printed value x) batch a own d e = cc
hangs past T i t (Counted places x) batch a own d e = cc

async-of : (v : Stmt) → is_shut v ≡ true → (is_waiter v ≡ true → ⊥) → is_async v ≡ true
async-of (Async body) h w = refl
async-of (AtAsync place body) h w = refl
async-of (At place body) h w = absurd (w refl)
async-of (Finish body) h w = absurd (w refl)
async-of _ h w = absurd (true≢false (sym h))

cancel : (x a b : List ℕ) → x ++ a ≡ x ++ b → a ≡ b
cancel [] a b e = e
cancel (i ∷ x) a b e = cancel x a b (tails-are i i (x ++ a) (x ++ b) e)

module _ (code : Block) (starts : List (Term × Vars)) (past : List Entry) (T : Tree) (t : TaskId) (act : Act) (batch told : List (List ℕ)) (f : ℕ → Term) (i : Tied past T) (s : Shape code past T.next_task f) (sd : Says starts (f t.0) act told) (a : AllowedAct T t act) (low : t.0 < T.next_task) (lives : is_alive T t.0 ≡ true) (k : Kept code past T f) (d : TaskId) (e : started_by act ≡ Some d) where
  abbrev ch : ChildOf starts d (f t.0) sd.after (told ++ own_path act)
  ch = sd.child d e

  abbrev m : ℕ
  m = inner_num past t.0

  -- an open scope in whose statement the starter has an item is on the chain of its innermost scope
  in_inner : (x : List ℕ) (u : Stmt) → code_at code x ≡ Some u → is_waiter u ≡ true → LiesIn (f t.0) x u → (o r : ℕ) → On r x (opened past o) → is_on r (walk (links past) m) ≡ true
  in_inner x u at w l o r on =
      elim (cases_eq o t.0) [
        | inl same ↦ linked-own (walk (links past)) (under_in (born_so_far past) t.0) (nums_of (opened past t.0)) (k.linked t.0 lives) r (on-nums r x (opened past t.0) (subst (λ c. On r x (opened past c)) same on))
        | inr other ↦ linked-under (walk (links past)) (under_in (born_so_far past) t.0) (nums_of (opened past t.0)) (k.linked t.0 lives) r (k.under t.0 lives x u at w l o r on other)
      ]

  inner_there : is_on m (nums (bones T)) ≡ true
  inner_there =
      subst (λ v. is_on v (nums (bones T)) ≡ true) (inner-of past T i t (k.own t.0 (inr lives)) a.task a.stands) (inner_stands past T i t a.task a.stands)

  inner_line : nums (line (bones T) (Some m)) ≡ walk (links past) m
  inner_line = (i.scopes m inner_there).walks

  -- what stands no further in than a finish of that chain is on the chain of the governing finish
  governed : (g : ℕ) → g ≡ first_num (line (bones T) (Some m)) → is_on g (nums (bones T)) ≡ true → (c v r : ℕ) (y : List ℕ) (body : Block) → On v y (opened past c) → code_at code y ≡ Some (Finish body) → r ≤ v → is_on v (walk (links past) m) ≡ true → is_on r (walk (links past) m) ≡ true → is_on r (walk (links past) g) ≡ true
  governed g is there c v r y body on at le hv hr =
      let far : is_on r (nums (line (bones T) (Some (first_num (line (bones T) (Some m)))))) ≡ true = outer T.next_scope (bones T) i.falls (Some m) v r (finish-bones v T.scopes (k.kind c v y body on at)) le (ap (is_on v) inner_line ∙ hv) (ap (is_on r) inner_line ∙ hr) in
      subst (λ l. is_on r l ≡ true) (i.scopes g there).walks (subst (λ v. is_on r (nums (line (bones T) (Some v))) ≡ true) (sym is) far)

  module _ (none : (x : List ℕ) → Pushes act x → ⊥) (g : ℕ) (is : g ≡ first_num (line (bones T) (Some m))) (there : is_on g (nums (bones T)) ≡ true) where
    not_path : (y : List ℕ) (v : Stmt) → code_at code y ≡ Some v → is_waiter v ≡ true → y ≡ ch.path → ⊥
    not_path y v at w same =
        none y (sd.pushes code (s.coded t.0 low) y v at w (subst (λ z. own_path act ≡ z ∷ []) (sym same) (sd.child_path d e)))

    was_in : (y : List ℕ) (v : Stmt) → code_at code y ≡ Some v → is_waiter v ≡ true → LiesIn ch.term y v → LiesIn (f t.0) y v
    was_in y v at w l =
        elim (ch.lies code (s.coded t.0 low) y v at w l) [
          | inl same ↦ absurd (not_path y v at w same)
          | inr old ↦ old
        ]

    module _ (x : List ℕ) (u : Stmt) (at : code_at code x ≡ Some u) (w : is_waiter u ≡ true) (l : LiesIn ch.term x u) (o r : ℕ) (on : On r x (opened past o)) where
      r_inner : is_on r (walk (links past) m) ≡ true
      r_inner = in_inner x u at w (was_in x u at w l) o r on

      -- the finish is the statement of the scope itself, or stands in it
      by_finish : (j : ℕ) (y : List ℕ) (c : ℕ) → ch.path ≡ x ++ j ∷ y → l.head ≡ ch.path ++ c ∷ [] → (z : List ℕ) (i2 : ℕ) (rest : List ℕ) (body : Block) → j ∷ y ≡ z ++ i2 ∷ rest → stmt_at u z ≡ Some (Finish body) → is_on r (walk (links past) g) ≡ true
      by_finish j y c way head [] i2 rest body on_way f_at =
          let at_x : code_at code x ≡ Some (Finish body) = subst (λ v. code_at code v ≡ Some (Finish body)) (append-nil x) (code-on code x u at [] ∙ f_at) in
          governed g is there o r r x body on at_x (omega arith) r_inner r_inner
      by_finish j y c way head (b ∷ z) i2 rest body on_way f_at =
          let at_q : code_at code (x ++ b ∷ z) ≡ Some (Finish body) = code-on code x u at (b ∷ z) ∙ f_at in
          let far : l.head ≡ (x ++ b ∷ z) ++ i2 ∷ (rest ++ c ∷ []) =
          head ∙ ap (λ v. v ++ c ∷ []) (way ∙ ap (λ v. x ++ v) on_way ∙ sym (append_assoc x (b ∷ z) (i2 ∷ rest))) ∙ append_assoc (x ++ b ∷ z) (i2 ∷ rest) (c ∷ [])
          in
          let in_q : LiesIn ch.term (x ++ b ∷ z) (Finish body) = record { head = l.head; is_head = l.is_head; next = i2; rest = rest ++ c ∷ []; way = far; kept = refl } in
          let was = was_in (x ++ b ∷ z) (Finish body) at_q refl in_q in
          let opened_q = k.all_open t.0 low lives (x ++ b ∷ z) (Finish body) at_q refl was in
          let number = stacked-on (x ++ b ∷ z) (opened past opened_q.opener) (subst (Stacked (x ++ b ∷ z)) (sym (same-paths past opened_q.opener)) opened_q.is_open) in
          let less : r < number.0 = k.grow o opened_q.opener r number.0 x (x ++ b ∷ z) on number.1 (b, z, refl) in
          governed g is there opened_q.opener number.0 r (x ++ b ∷ z) body number.1 at_q (omega arith) (in_inner (x ++ b ∷ z) (Finish body) at_q refl was opened_q.opener number.0 number.1) r_inner

      -- on the way from the scope's statement to the `async` a finish stands
      spawn_under : is_on r (walk (links past) g) ≡ true
      spawn_under =
          let hd = ch.heads l.head l.is_head in
          elim (part-of ch.path x hd.0 l.next l.rest (sym hd.1 ∙ l.way)) [
            | inl same ↦ absurd (not_path x u at w same)
            | inr p ↦
                let todo = head-begins ch.term l.head l.is_head in
                let sh = ch.shut code (s.coded t.0 low) todo.0 todo.1 in
                let async : is_async sh.0 ≡ true = async-of sh.0 sh.2 (λ h. not_path ch.path sh.0 sh.1 h refl) in
                let rest_same : l.next ∷ l.rest ≡ (p.0 ∷ p.1) ++ hd.0 ∷ [] =
                cancel x (l.next ∷ l.rest) ((p.0 ∷ p.1) ++ hd.0 ∷ []) (sym l.way ∙ hd.1 ∙ ap (λ v. v ++ hd.0 ∷ []) p.2 ∙ append_assoc x (p.0 ∷ p.1) (hd.0 ∷ []))
                in
                let kept : is_kept u ((p.0 ∷ p.1) ++ hd.0 ∷ []) ≡ true = subst (λ v. is_kept u v ≡ true) rest_same l.kept in
                let found : stmt_at u (p.0 ∷ p.1) ≡ Some sh.0 = sym (code-on code x u at (p.0 ∷ p.1)) ∙ subst (λ v. code_at code v ≡ Some sh.0) p.2 sh.1 in
                let fo = finish-on u (p.0 ∷ p.1) (hd.0 ∷ []) sh.0 found async kept in
                by_finish p.0 p.1 hd.0 p.2 hd.1 fo.path fo.next fo.rest fo.body fo.way fo.at
          ]

  pub child-under : Hangs past T t act batch → (x : List ℕ) (u : Stmt) → code_at code x ≡ Some u → is_waiter u ≡ true → LiesIn ch.term x u → (o r : ℕ) → On r x (opened (Step t act batch ∷ past) o) → is_on r (walk (links (Step t act batch ∷ past)) (under_in (born_so_far (Step t act batch ∷ past)) T.next_task)) ≡ true
  child-under (calls c one hung chain) x u at w l o r on =
      ap (is_on r) (ap (walk (links (Step t act batch ∷ past))) hung ∙ chain)
      ∙ elim (on-after past t act batch o r x on) [
        | inl new ↦ or_left (c == r) (is_on r (walk (links past) m)) (eq-eqb c r (same_number c r (sym one ∙ new.number)))
        | inr old ↦ elim (ch.lies code (s.coded t.0 low) x u at w l) [
          | inl same ↦ absurd (fresh-path code starts past T t act batch told f i s sd a low lives k x x (subst (λ z. own_path act ≡ z ∷ []) (sym same) (sd.child_path d e)) o r old (starts-same x))
          | inr was ↦ or_right (c == r) (is_on r (walk (links past) m)) (in_inner x u at w was o r old)
        ]
      ]
  child-under (spawns none g hung chain is there pushes) x u at w l o r on =
      ap (is_on r) (ap (walk (links (Step t act batch ∷ past))) hung ∙ chain)
      ∙ elim (on-after past t act batch o r x on) [
        | inl new ↦ absurd (none_some r (sym none ∙ new.number))
        | inr old ↦ spawn_under pushes g is there x u at w l o r old
      ]
