-- The history of a whole run keeps the order of statements.
use Rattle.std.proofs.Common.{◌≡◌, ◌⊎◌, ℕ, ◌+◌, ◌<◌, true, false, List, [], ◌∷◌, filter, Some, None, refl, ap, sym, subst, ◌∙◌, arith, inl, inr}
use Rattle.std.proofs.lemmas.Bool.{false_from_ne_true, true≢false}
use Rattle.rx_rules.proofs.Common.{TaskId, PlaceId, Fault, PlaceSet, Block, Stmt, Term, Vars, started_by, Tree, the_root, Allowed, AllowedAct, made, births_of, Given, IsRun, InOrder, told, is_on, walk, links, born_so_far}
use Rattle.rx_rules.specs.declared.entries.Act.{Act}
use Rattle.rx_rules.specs.declared.entries.Act.TheVariants.{Release}
use Rattle.rx_rules.specs.declared.entries.Entry.{Entry}
use Rattle.rx_rules.specs.declared.entries.Entry.TheVariants.{Step, Root, Death, Join}
use Rattle.rx_rules.specs.declared.events.PlaceEvent.{PlaceEvent}
use Rattle.rx_rules.proofs.Numbers.{next-made}
use Rattle.rx_history_laws.proofs.Lines.{bones}
use Rattle.rx_history_laws.proofs.Losses.{is_off}
use Rattle.rx_history_laws.proofs.Ties.{Tied}
use Rattle.rx_history_laws.proofs.Story.{Shape, set_at, set_case}
use Rattle.rx_history_laws.proofs.Says.{Says}
use Rattle.rx_history_laws.proofs.Straight.{code_at, is_waiter}
use Rattle.rx_history_laws.proofs.TermCode.{Coded}
use Rattle.rx_history_laws.proofs.StillOpen.{is_release, all_open-covers, all_open-step, all_open-birth}
use Rattle.rx_history_laws.proofs.ToldPairs.{Keeps, is_alive, alive-back, by_host}
use Rattle.rx_history_laws.proofs.Front.{Covered, history-covered}
use Rattle.rx_history_laws.proofs.Numbered.{opened, opened_case, nums_of, nums-on}
use Rattle.rx_history_laws.proofs.Lies.{LiesIn, Moves}
use Rattle.rx_history_laws.proofs.Owners.{cores, own_nums, own-filter, cores-without}
use Rattle.rx_history_laws.proofs.Rows.{under_in, Linked, living-born}
use Rattle.rx_history_laws.proofs.Kept.{AllFinish, finish-filter, Known, Kept, kept-start}
use Rattle.rx_history_laws.proofs.KeptStep.{none-open, below-kept, single-kept, grow-kept, kind-kept, under-kept, own-kept, linked-kept, stays-open, stays-own}
use Rattle.rx_history_laws.proofs.KeptBirth.{hangs, child-under}
use Rattle.rx_tree_laws.proofs.Births.{started-next}

starter_no_release : (act : Act) (d : TaskId) → started_by act ≡ Some d → is_release act ≡ false
starter_no_release (Release s lost masked thrown) d e = cc
starter_no_release _ d e = refl

module _ (code : Block) (starts : List (Term × Vars)) (n : ℕ) (past : List Entry) (T : Tree) (t : TaskId) (act : Act) (batch told : List (List ℕ)) (f : ℕ → Term) (i : Tied past T) (s : Shape code past T.next_task f) (sd : Says starts (f t.0) act told) (a : AllowedAct T t act) (low : t.0 < T.next_task) (lives : is_alive T t.0 ≡ true) (k : Kept code past T f) where
  abbrev after : Tree
  after = made n T (Step t act batch)

  -- a task that is alive after the entry was alive before it, or the entry starts it
  lived : (c : ℕ) → is_alive after c ≡ true → (is_alive T c ≡ true) ⊎ (T.next_task ≡ c)
  lived c h =
      elim (alive-back n T (Step t act batch) c a h) [
        | inl b ↦ inl b
        | inr b ↦ inr (sym (started-next T t act a b.0 b.1) ∙ b.2)
      ]

  known-before : (c : ℕ) → Known after c → Known T c
  known-before c (inl h) = inl (let e : after.next_task ≡ T.next_task + births_of (Step t act batch) = next-made n T (Step t act batch) in omega arith)
  known-before c (inr h) =
      elim (lived c h) [
        | inl b ↦ inr b
        | inr b ↦ inl (omega arith)
      ]

  kept-step : started_by act ≡ None → Kept code (Step t act batch ∷ past) after (set_at t.0 sd.after f)
  kept-step none =
      record {
        all_open = all_open-step code starts past T after t act batch told f s sd low lives k.all_open
            (stays-open code starts past T t act batch told f i s sd a low lives k) (λ c hc h. (living-born past T i c (was c h), was c h));
        own = λ c h. own-kept code starts past T t act batch told f i s sd a low lives k c (known-before c h);
        linked = λ c h. linked-kept code starts past T t act batch told f i s sd a low lives k c (was c h);
        below = below-kept code starts past T t act batch told f i s sd a low lives k;
        single = single-kept code starts past T t act batch told f i s sd a low lives k;
        grow = grow-kept code starts past T t act batch told f i s sd a low lives k;
        kind = kind-kept code starts past T t act batch told f i s sd a low lives k;
        under = λ c h. under-kept code starts past T t act batch told f i s sd a low lives k c (was c h);
      }
    where
      was : (c : ℕ) → is_alive after c ≡ true → is_alive T c ≡ true
      was c h =
          elim (alive-back n T (Step t act batch) c a h) [
            | inl b ↦ b
            | inr b ↦ let bad : None ≡ Some b.0 = sym none ∙ b.1 in absurd (let f : ⊥ = cc in f)
          ]

  kept-birth : (d : TaskId) (e : started_by act ≡ Some d) → Kept code (Step t act batch ∷ past) after (set_at T.next_task (sd.child d e).term (set_at t.0 sd.after f))
  kept-birth d e =
      record {
        all_open = all_open-birth code starts past T after t act batch told f s sd low lives k.all_open (starter_no_release act d e) d e (λ c hc h o. (living-born past T i c (was c h o), was c h o));
        own = λ c h. own-kept code starts past T t act batch told f i s sd a low lives k c (known-before c h);
        linked = λ c h. elim (lived c h) [
          | inl b ↦ linked-kept code starts past T t act batch told f i s sd a low lives k c b
          | inr b ↦ subst (λ ms. Linked (walk (links (Step t act batch ∷ past))) (under_in (born_so_far (Step t act batch ∷ past)) c) (nums_of ms)) (sym (new_none c b)) tt
        ];
        below = below-kept code starts past T t act batch told f i s sd a low lives k;
        single = single-kept code starts past T t act batch told f i s sd a low lives k;
        grow = grow-kept code starts past T t act batch told f i s sd a low lives k;
        kind = kind-kept code starts past T t act batch told f i s sd a low lives k;
        under = λ c h x u at w l o r on other. set_case (λ v. LiesIn v x u → is_on r (walk (links (Step t act batch ∷ past)) (under_in (born_so_far (Step t act batch ∷ past)) c)) ≡ true) T.next_task c (sd.child d e).term (set_at t.0 sd.after f)
            (λ b j. subst (λ v. is_on r (walk (links (Step t act batch ∷ past)) (under_in (born_so_far (Step t act batch ∷ past)) v)) ≡ true) b
            (child-under code starts past T t act batch told f i s sd a low lives k d e (hangs past T i t act batch a (k.own t.0 (inr lives)) d e) x u at w j o r on))
            (λ b j. under-kept code starts past T t act batch told f i s sd a low lives k c (was c h b) x u at w j o r on other) l;
      }
    where
      was : (c : ℕ) → is_alive after c ≡ true → (T.next_task ≡ c → ⊥) → is_alive T c ≡ true
      was c h o =
          elim (lived c h) [
            | inl b ↦ b
            | inr b ↦ absurd (o b)
          ]

      new_none : (c : ℕ) → T.next_task ≡ c → opened (Step t act batch ∷ past) c ≡ []
      new_none c b =
          opened_case past t act batch c (λ ms. ms ≡ []) (λ h. absurd (omega arith)) (λ h. none-open past c (s.none_open c (omega arith)))

-- the release of the root, and a death
module _ (code : Block) (n : ℕ) (past : List Entry) (T : Tree) (f : ℕ → Term) (i : Tied past T) (s : Shape code past T.next_task f) (k : Kept code past T f) where
  kept-root : (lost : PlaceSet) (masked : ℕ) (thrown : List Fault) → Allowed T (Root lost masked thrown) → Kept code (Root lost masked thrown ∷ past) (made n T (Root lost masked thrown)) f
  kept-root lost masked thrown a =
      record {
        all_open = λ c hc h x u at w l. let o = k.all_open c hc (was c h) x u at w l in record { opener = o.opener; is_open = o.is_open };
        own = λ c h.
            ap (own_nums c) (cores-without T the_root) ∙ own-filter (is_off (bones T) 0) c (cores T) ∙ ap (filter (is_off (bones T) 0)) (k.own c (known c h))
            ∙ stays-own code past T f i k s.none_open the_root a.2.is_quiet c (known c h) (false_from_ne_true (is_on 0 (nums_of (opened past c))) (λ g. let o = nums-on 0 (opened past c) g in let b : 0 < 0 = (k.below c 0 o.0 o.1).0 in omega arith));
        linked = λ c h. k.linked c (was c h);
        below = k.below;
        single = k.single;
        grow = k.grow;
        kind = λ c r x body on at. subst (AllFinish r) (sym (cores-without T the_root)) (finish-filter (is_off (bones T) 0) r (cores T) (k.kind c r x body on at));
        under = λ c h. k.under c (was c h);
      }
    where
      was : (c : ℕ) → is_alive (made n T (Root lost masked thrown)) c ≡ true → is_alive T c ≡ true
      was c h =
          elim (alive-back n T (Root lost masked thrown) c a h) [
            | inl b ↦ b
            | inr b ↦ absurd b
          ]

      known : (c : ℕ) → Known (made n T (Root lost masked thrown)) c → Known T c
      known c (inl h) = inl h
      known c (inr h) = inr (was c h)

  kept-death : (d : PlaceId) → Allowed T (Death d) → Kept code (Death d ∷ past) (made n T (Death d)) f
  kept-death d a =
      record {
        all_open = λ c hc h x u at w l. let o = k.all_open c hc (was c h) x u at w l in record { opener = o.opener; is_open = o.is_open };
        own = λ c h. k.own c (known c h);
        linked = λ c h. k.linked c (was c h);
        below = k.below;
        single = k.single;
        grow = k.grow;
        kind = k.kind;
        under = λ c h. k.under c (was c h);
      }
    where
      was : (c : ℕ) → is_alive (made n T (Death d)) c ≡ true → is_alive T c ≡ true
      was c h =
          elim (alive-back n T (Death d) c a h) [
            | inl b ↦ b
            | inr b ↦ absurd b
          ]

      known : (c : ℕ) → Known (made n T (Death d)) c → Known T c
      known c (inl h) = inl h
      known c (inr h) = inr (was c h)

  kept-join : (d : PlaceId) → Kept code (Join d ∷ past) (made n T (Join d)) f
  kept-join d =
      record {
        all_open = λ c hc h x u at w l. let o = k.all_open c hc h x u at w l in record { opener = o.opener; is_open = o.is_open };
        own = k.own;
        linked = k.linked;
        below = k.below;
        single = k.single;
        grow = k.grow;
        kind = k.kind;
        under = k.under;
      }

by_the_host : (code : Block) (n : ℕ) (past : List Entry) (T : Tree) (e : Entry) (f : ℕ → Term) → Tied past T → Shape code past T.next_task f → Allowed T e → by_host e ≡ true → Kept code past T f → Kept code (e ∷ past) (made n T e) f
by_the_host code n past T (Step t act batch) f i s a h k = absurd (true≢false (sym h))
by_the_host code n past T (Root lost masked thrown) f i s a h k = kept-root code n past T f i s k lost masked thrown a
by_the_host code n past T (Death d) f i s a h k = kept-death code n past T f i s k d a
by_the_host code n past T (Join d) f i s a h k = kept-join code n past T f i s k d

-- a step between entries brings no item into a waiter
kept-inner : (code : Block) (past : List Entry) (T : Tree) (c : ℕ) (after : Term) (f : ℕ → Term) → c < T.next_task → Moves code (f c) after → Kept code past T f → Kept code past T (set_at c after f)
kept-inner code past T c after f low moves k =
    record {
      all_open = λ d hd alive x u at w l. k.all_open d hd alive x u at w (less d x u at w l);
      own = k.own;
      linked = k.linked;
      below = k.below;
      single = k.single;
      grow = k.grow;
      kind = k.kind;
      under = λ d alive x u at w l. k.under d alive x u at w (less d x u at w l);
    }
  where
    less : (d : ℕ) (x : List ℕ) (u : Stmt) → code_at code x ≡ Some u → is_waiter u ≡ true → LiesIn (set_at c after f d) x u → LiesIn (f d) x u
    less d x u at w =
        set_case (λ v. LiesIn v x u → LiesIn (f d) x u) c d after f (λ e l. subst (λ v. LiesIn (f v) x u) e (moves x u at w l)) (λ o l. l)

-- every entry keeps it, and each step between entries
pub keeps-open : (code : Block) (starts : List (Term × Vars)) → Keeps code starts (Kept code)
keeps-open code starts =
    record {
      host = λ n past T e f i s a h k. by_the_host code n past T e f i s a h k;
      step = λ n past T t act batch told f i s sd a low lives none k. kept-step code starts n past T t act batch told f i s sd a low lives k none;
      birth = λ n past T t act batch told f i s sd a low lives c e new k. kept-birth code starts n past T t act batch told f i s sd a low lives k c e;
      inner = λ past T c after f s low m k. kept-inner code past T c after f low m k;
    }

pub kept-covers : (code : Block) (past : List Entry) (T : Tree) (f : ℕ → Term) → ((c : ℕ) → c < T.next_task → Coded code (f c)) → Kept code past T f → Covered code past T f
kept-covers code past T f coded k = all_open-covers code past T f coded k.all_open

pub history-order : (code : Block) (U : Given) (es : List Entry) (js : List (List PlaceEvent)) → IsRun code U es js → InOrder code (told es)
history-order code U es js r =
    history-covered code U es js r (Kept code) (keeps-open code r.played.starts) (kept-start code U.places)
    (kept-covers code)
