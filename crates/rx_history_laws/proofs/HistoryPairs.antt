-- A relation that holds of each two statements that a history tells, the earlier first, if it follows from the order of words
-- and holds of each one that is told and each one that another living task has still to begin then.
use Rattle.std.proofs.Common.{◌≡◌, ℕ, suc, ◌<◌, ◌≤◌, Bool, true, List, [], ◌∷◌, ◌++◌, Some, slice_get, refl, sym, subst, ◌∙◌, arith}
use Rattle.rx_rules.proofs.Common.{PlaceId, TaskId, Block, Term, Vars, Tree, Allowed, made, AllAllowed, moves_from, started_by, told, own_path}
use Rattle.rx_rules.specs.declared.events.Cell.{Cell}
use Rattle.rx_rules.specs.declared.entries.Act.{Act}
use Rattle.rx_rules.specs.declared.entries.Entry.{Entry}
use Rattle.rx_rules.specs.declared.entries.Entry.TheVariants.{Step, Root, Death, Join}
use Rattle.rx_history_laws.proofs.Paths.{Comes}
use Rattle.rx_history_laws.proofs.TermOrder.{Todo}
use Rattle.rx_history_laws.proofs.Says.{Goes, Passes, Said, said}
use Rattle.rx_history_laws.proofs.Story.{Shape, set_at, set_case, moves_own, moves_other, shape-host, shape-step, shape-birth}
use Rattle.rx_history_laws.proofs.Ties.{Tied}
use Rattle.rx_history_laws.proofs.Made.{tied-made}
use Rattle.rx_history_laws.proofs.ToldPairs.{Keeps, Others, Pending, Among, AllSo, EachPair, is_alive, all_so-append, all_so-map, pairs-append, in_turn-pairs, in_turn-todo, related-so, back-plain, cross-plain, back-birth, cross-birth, back-host, acting, Starting, starts_none, starts_one, starting}

-- nothing is asked of the events
abbrev pub Any : Bool → PlaceId → List (ℕ × Cell × List ℕ) → Type 0
Any y here cells = Unit {0}

passes_any : (n : ℕ) (act : Act) → Passes Any Any n act
passes_any n act =
    record {
      drops = λ here stamp cell x cells h q. tt;
      stays = λ here cells g h q. tt;
      ends = λ here q. tt;
      lands = λ here p cells e q. tt;
    }

-- the entries from entry n on are still to come, each task's by its term
pub record Tale (starts : List (Term × Vars)) (n : ℕ) (es : List Entry) (k : ℕ) (f : ℕ → Term) : Type 0 where
  pub goes : (c : ℕ) → c < k → Goes Any starts (f c) [] (moves_from n es c)
  pub unborn : (c : ℕ) (t : Term) (vars : Vars) → k ≤ c → slice_get starts c ≡ Some (t, vars) → Goes Any starts t [] (moves_from n es c)

tale-host : (starts : List (Term × Vars)) (n : ℕ) (e : Entry) (es : List Entry) (k : ℕ) (f : ℕ → Term) → ((c : ℕ) → moves_from n (e ∷ es) c ≡ moves_from (suc n) es c) → Tale starts n (e ∷ es) k f → Tale starts (suc n) es k f
tale-host starts n e es k f same s =
    record {
      goes = λ c h. subst (Goes Any starts (f c) []) (same c) (s.goes c h);
      unborn = λ c t vars h g. subst (Goes Any starts t []) (same c) (s.unborn c t vars h g);
    }

module _ (code : Block) (starts : List (Term × Vars)) (n : ℕ) (past : List Entry) (t : TaskId) (act : Act) (batch : List (List ℕ)) (es : List Entry) (k : ℕ) (f : ℕ → Term) (low : t.0 < k) (s : Shape code past k f) (e : Tale starts n (Step t act batch ∷ es) k f) where
  abbrev now : Said Any starts (f t.0) act [] batch (moves_from (suc n) es t.0)
  now =
      said Any Any starts (f t.0) n act [] batch (moves_from (suc n) es t.0) (passes_any n act) (s.sorted t.0 low)
      (subst (Goes Any starts (f t.0) []) (moves_own n t act batch es) (e.goes t.0 low))

  tale-step : Tale starts (suc n) es k (set_at t.0 now.says.after f)
  tale-step =
      record {
        goes = λ c h. set_case (λ u. Goes Any starts u [] (moves_from (suc n) es c)) t.0 c now.says.after f
            (λ i. subst (λ d. Goes Any starts now.says.after [] (moves_from (suc n) es d)) i now.goes)
            (λ o. subst (Goes Any starts (f c) []) (moves_other n t act batch es c o) (e.goes c h));
        unborn = λ c u vars h g. subst (Goes Any starts u []) (moves_other n t act batch es c (λ i. omega arith)) (e.unborn c u vars h g);
      }

  tale-birth : (c : TaskId) → c.0 ≡ k → (b : started_by act ≡ Some c) → Tale starts (suc n) es (suc k) (set_at k (now.says.child c b).term (set_at t.0 now.says.after f))
  tale-birth c new b =
      record {
        goes = λ d h. set_case (λ u. Goes Any starts u [] (moves_from (suc n) es d)) k d (now.says.child c b).term (set_at t.0 now.says.after f)
            (λ i. subst (λ m. Goes Any starts (now.says.child c b).term [] (moves_from (suc n) es m)) (new ∙ i) (tale-step.unborn c.0 (now.says.child c b).term (now.says.child c b).vars (omega arith) (now.says.child c b).at))
            (λ o. tale-step.goes d (omega arith));
        unborn = λ d u vars h g. tale-step.unborn d u vars (omega arith) g;
      }

module _ (code : Block) (starts : List (Term × Vars)) (K : List Entry → Tree → (ℕ → Term) → Type 0) (keeps : Keeps code starts K) (R : List ℕ → List ℕ → Type 0) (own : (z w : List ℕ) → Comes z w → R z w) (others : Others code K R) where
  abbrev Result : Tree → (ℕ → Term) → List Entry → Type 0
  Result T f es = AllSo (Pending T f) (told es) × EachPair R (told es)

  abbrev Next : ℕ → List Entry → Tree → List Entry → Type 0
  Next n past T es = (g : ℕ → Term) → Shape code past T.next_task g → Tale starts n es T.next_task g → K past T g → Result T g es

  module _ (n : ℕ) (past : List Entry) (T : Tree) (t : TaskId) (act : Act) (batch : List (List ℕ)) (es : List Entry) (f : ℕ → Term) (i : Tied past T) (s : Shape code past T.next_task f) (tale : Tale starts n (Step t act batch ∷ es) T.next_task f) (kept : K past T f) (a : Allowed T (Step t act batch)) (low : t.0 < T.next_task) (lives : is_alive T t.0 ≡ true) where
    abbrev at : Said Any starts (f t.0) act [] batch (moves_from (suc n) es t.0)
    at = now code starts n past t act batch es T.next_task f low s tale

    -- what an entry tells and what is pending after it
    joins : (g : ℕ → Term) → ((z : List ℕ) → Among z (at.fresh ++ own_path act) → (w : List ℕ) → Pending (made n T (Step t act batch)) g w → R z w) → ((w : List ℕ) → Pending (made n T (Step t act batch)) g w → Pending T f w) → Result (made n T (Step t act batch)) g es → Result T f (Step t act batch ∷ es)
    joins g cross back r =
        subst (λ zs. AllSo (Pending T f) ((zs ++ own_path act) ++ told es) × EachPair R ((zs ++ own_path act) ++ told es)) (sym at.tells) (
          all_so-append (Pending T f) (at.fresh ++ own_path act) (told es)
              (all_so-map (Todo (f t.0)) (Pending T f) (λ z h. record { task = t.0; born = low; alive = lives; todo = h }) (at.fresh ++ own_path act) (in_turn-todo (f t.0) at.says.after (at.fresh ++ own_path act) at.says.order))
              (all_so-map (Pending (made n T (Step t act batch)) g) (Pending T f) back (told es) r.0),
          pairs-append R (at.fresh ++ own_path act) (told es) (in_turn-pairs R own (f t.0) at.says.after (at.fresh ++ own_path act) at.says.order) r.1 (λ z m. related-so R (Pending (made n T (Step t act batch)) g) z (told es) (cross z m) r.0),
        )

    by_start : Starting n T t act batch → Next (suc n) (Step t act batch ∷ past) (made n T (Step t act batch)) es → Result T f (Step t act batch ∷ es)
    by_start (starts_none none same) ih =
        joins (set_at t.0 at.says.after f)
        (cross-plain code starts n past T t act batch at.fresh f s at.says a low lives i K kept R own others none same)
        (back-plain code starts n past T t act batch at.fresh f s at.says a low lives none same)
        (ih (set_at t.0 at.says.after f)
        (subst (λ k. Shape code (Step t act batch ∷ past) k (set_at t.0 at.says.after f)) (sym same) (shape-step code past starts t act batch at.fresh T.next_task f low s at.says))
        (subst (λ k. Tale starts (suc n) es k (set_at t.0 at.says.after f)) (sym same) (tale-step code starts n past t act batch es T.next_task f low s tale))
        (keeps.step n past T t act batch at.fresh f i s at.says a low lives none kept))
    by_start (starts_one c e new more) ih =
        let g = set_at T.next_task (at.says.child c e).term (set_at t.0 at.says.after f) in
        joins g
        (cross-birth code starts n past T t act batch at.fresh f s at.says a low lives c e new more i K kept R own others)
        (back-birth code starts n past T t act batch at.fresh f s at.says a low lives c e new more)
        (ih g
        (subst (λ k. Shape code (Step t act batch ∷ past) k g) (sym more) (shape-birth code past starts t act batch at.fresh T.next_task f low s at.says c new (at.says.child c e) (at.says.child_path c e)))
        (subst (λ k. Tale starts (suc n) es k g) (sym more) (tale-birth code starts n past t act batch es T.next_task f low s tale c new e))
        (keeps.birth n past T t act batch at.fresh f i s at.says a low lives c e new kept))

  pub told-from : (n : ℕ) (past : List Entry) (T : Tree) (es : List Entry) (f : ℕ → Term) → Tied past T → Shape code past T.next_task f → Tale starts n es T.next_task f → K past T f → AllAllowed n T es → Result T f es
  told-from n past T [] f i s tale k a = (tt, tt)
  told-from n past T (Root lost masked thrown ∷ es) f i s tale k a =
      let r = told-from (suc n) (Root lost masked thrown ∷ past) (made n T (Root lost masked thrown)) es f (tied-made n past T i (Root lost masked thrown) a.0) (shape-host code past (Root lost masked thrown) T.next_task f (λ c. refl) s) (tale-host starts n (Root lost masked thrown) es T.next_task f (λ c. refl) tale) (keeps.host n past T (Root lost masked thrown) f i s a.0 refl k) a.1 in
      (all_so-map (Pending (made n T (Root lost masked thrown)) f) (Pending T f) (back-host n T (Root lost masked thrown) f refl refl a.0) (told es) r.0, r.1)
  told-from n past T (Death d ∷ es) f i s tale k a =
      let r = told-from (suc n) (Death d ∷ past) (made n T (Death d)) es f (tied-made n past T i (Death d) a.0) (shape-host code past (Death d) T.next_task f (λ c. refl) s) (tale-host starts n (Death d) es T.next_task f (λ c. refl) tale) (keeps.host n past T (Death d) f i s a.0 refl k) a.1 in
      (all_so-map (Pending (made n T (Death d)) f) (Pending T f) (back-host n T (Death d) f refl refl a.0) (told es) r.0, r.1)
  told-from n past T (Join d ∷ es) f i s tale k a =
      let r = told-from (suc n) (Join d ∷ past) (made n T (Join d)) es f (tied-made n past T i (Join d) a.0) (shape-host code past (Join d) T.next_task f (λ c. refl) s) (tale-host starts n (Join d) es T.next_task f (λ c. refl) tale) (keeps.host n past T (Join d) f i s a.0 refl k) a.1 in
      (all_so-map (Pending (made n T (Join d)) f) (Pending T f) (back-host n T (Join d) f refl refl a.0) (told es) r.0, r.1)
  told-from n past T (Step t act batch ∷ es) f i s tale k a =
      let act_by = acting past T i t act a.0 in
      by_start n past T t act batch es f i s tale k a.0 act_by.low act_by.lives (starting n T t act batch a.0)
      (λ g st tl kg. told-from (suc n) (Step t act batch ∷ past) (made n T (Step t act batch)) es g (tied-made n past T i (Step t act batch) a.0) st tl kg a.1)
