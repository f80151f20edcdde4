-- A task ends.
use Rattle.std.proofs.Common.{◌≡◌, ℕ, ◌≤◌, Bool, true, cond, ◌==◌, List, ◌∷◌, ◌++◌, length, Option, Some, None, option_map, Ok, IfSome, refl, sym, ap, ◌∙◌, subst, ⊎_elim}
use Rattle.std.specs.List.{find}
use Rattle.std.specs.Global.{Box}
use Rattle.std.proofs.lemmas.Bool.{eq-eqb, cases_eq}
use Rattle.rx_rules.proofs.Widths.{limit-act}
use Rattle.rx_rules.proofs.Common.{Fault, ScopeId, Tree, is_scope, change_first, made_act, acts, has_number}
use Rattle.rx_rules.specs.declared.tasks.Where.{Where}
use Rattle.rx_rules.specs.declared.tasks.Scope.{Scope}
use Rattle.rx_rules.specs.declared.tasks.Task.{Task}
use Rattle.rx_rules.specs.declared.entries.Act.TheVariants.{End}
use Rattle.rx_tree_laws.specs.Sound.{Sound}
use Rattle.rx_tree_laws.proofs.Reached.{sound}
use Rattle.rx_tree_laws.proofs.Stay.{faulted}
use Rattle.rx_finish.specs.declared.ledger.Caller.{Caller}
use Rattle.rx_finish.specs.Callers.{MayAskEnd, IsBare, does_travel}
use Rattle.rx_finish.specs.Calls.{EndReply}
use Rattle.rx_finish.proofs.Allowed.{Free, end_allowed}
use Rattle.rx_finish.proofs.Unstruck.{ended_is}
use Rattle.rx_counts.specs.declared.record.Sums.{Sums}
use Rattle.rx_counts.specs.declared.record.Record.{Record}
use Rattle.rx_counts.specs.declared.ledger.CountLedger.{CountLedger}
use Rattle.rx_counts.specs.Keeping.{stands_home, keeper}
use Rattle.rx_counts.specs.Stands.{MayLeave, in_sums, less, masking, RecordsFit, Fit, StandsFor, record_at, Changed, ends_if}
use Rattle.rx_counts.proofs.Asking.{unstruck_of, same_fit, scope_kept, room_kept, as_wide}
use Rattle.rx_counts.specs.Inside.Totalling.{ends}
use Rattle.rx_counts.proofs.Totalling.{AreOf, are, totals_are, same_tasks, one_ends, length_change}
use Rattle.rx_counts.proofs.Joining.{all_masking, count_out, others}
use Rattle.rx_counts.proofs.Masking.{masked_changed, masked_ended}
use Rattle.rx_counts.proofs.Walks.{keeper_faulted, keeper_step}
use Rattle.rx_counts.proofs.Arriving.{left_in}
use Rattle.rx_counts.proofs.Faulting.{all_faulted}

map_sums : (P : Sums → Type 0) (f : Record → Record) (o : Option Record) → ((r : Record) → (f r).sums ≡ r.sums) → IfSome o (λ r. P r.sums) → IfSome (option_map f o) (λ r. P r.sums)
map_sums P f (Some r) same h = subst P (sym (same r)) h
map_sums P f None same h = tt

-- a change of other fields leaves the sums
pub changed_sums : (P : Sums → Type 0) (f : Record → Record) (s k : ℕ) (rs qs : List (Option (Box Record))) → ((r : Record) → (f r).sums ≡ r.sums) → Changed f s rs qs → IfSome (record_at rs k) (λ r. P r.sums) → IfSome (record_at qs k) (λ r. P r.sums)
changed_sums P f s k rs qs same c h =
    ⊎_elim
    (λ (e : k ≡ s). subst (λ (m : ℕ). IfSome (record_at qs m) (λ r. P r.sums)) (sym e) (subst (λ o. IfSome o (λ r. P r.sums)) (sym c.here) (map_sums P f (record_at rs s) same (subst (λ (m : ℕ). IfSome (record_at rs m) (λ r. P r.sums)) e h))))
    (λ (e : k ≡ s → ⊥). subst (λ o. IfSome o (λ r. P r.sums)) (sym (c.others k e)) h)
    (cases_eq k s)

-- what is masked leaves the counts
pub may_leave : (w : Where) (many k : ℕ) (rs qs : List (Option (Box Record))) → Changed (in_sums (masking many)) k rs qs → IfSome (record_at rs k) (λ r. MayLeave w r.sums) → IfSome (record_at qs k) (λ r. MayLeave w r.sums)
may_leave w many k rs qs c h = subst (λ o. IfSome o (λ r. MayLeave w r.sums)) (sym c.here) (may_in (record_at rs k) h)
  where
    may_in : (o : Option Record) → IfSome o (λ r. MayLeave w r.sums) → IfSome (option_map (in_sums (masking many)) o) (λ r. MayLeave w r.sums)
    may_in (Some r) m = record { cell = m.cell; count = m.count; total = m.total }
    may_in None m = tt

-- where the scope keeps counts it is its own keeper
own_keeper : (T : Tree) (s : ScopeId) (g : Scope) (k : ℕ) → Sound T → find (has_number s.0) T.scopes ≡ Some g → stands_home T.dead g ≡ true → keeper (stands_home T.dead) T.scopes (Some s) ≡ Some k → k == s.0 ≡ true
own_keeper T s g k h found live at =
    let step = keeper_step T.tasks (stands_home T.dead) T.next_scope T.scopes s g h.falls h.opened found in
    let own : keeper (stands_home T.dead) T.scopes (Some s) ≡ Some s.0 = step ∙ ap (λ b. cond b (Some s.0) (keeper (stands_home T.dead) T.scopes g.parent)) live in
    let same : k ≡ s.0 = cc in
    eq-eqb k s.0 same

-- the totals where the task has ended
pub one_ended : {room : ℕ} (l : CountLedger) (T : Tree) (who : Caller) → (f : Free T who (IsBare T who)) → StandsFor l room T → (1 ≤ l.totals.live) × AreOf (ends l.totals) (length T.scopes) (others who.task T.tasks)
one_ended l T who f st =
    let h : Sound T = sound st.reached in
    let x : Task = f.at.task in
    one_ends l.totals (length T.scopes) (others who.task T.tasks) x f.unstruck (ap does_travel f.at.allowed.moving.is_at)
    (same_tasks l.totals (length T.scopes) T.tasks (x ∷ others who.task T.tasks) (count_out who.task T.next_task T.tasks x h.tasks_fall f.at.stands) (are l.totals T st.fit.totals))

pub ended : {room : ℕ} (l m : CountLedger) (T : Tree) (who : Caller) (thrown : List Fault) (k : ScopeId) (qs ps : List (Option (Box Record))) → StandsFor l room T → MayAskEnd T who → (f : Free T who (IsBare T who)) → keeper (stands_home T.dead) T.scopes (Some who.scope) ≡ Some k.0 → m.places ≡ l.places → m.width ≡ l.width → m.dead ≡ l.dead → m.next_task ≡ l.next_task → m.next_scope ≡ l.next_scope → m.totals ≡ ends l.totals → Changed (ends_if (k.0 == who.scope.0) thrown) who.scope.0 l.scopes qs → Changed (in_sums (masking (cond (k.0 == who.scope.0) 0 (length thrown)))) k.0 qs ps → Changed (in_sums (less who.place)) k.0 ps m.scopes → EndReply T who thrown (Ok tt) (StandsFor m room)
ended l m T who thrown k qs ps st may f at places width dead next_task next_scope totals c x d =
    let h : Sound T = sound st.reached in
    let keeps : Scope → Bool = stands_home T.dead in
    let a = end_allowed T who thrown st.reached may (unstruck_of T who (IsBare T who) f) in
    let is = ended_is T who (IsBare T who) thrown st.reached may (unstruck_of T who (IsBare T who) f) in
    let noted : RecordsFit l.width keeps (change_first (is_scope who.scope) (faulted (λ g. g.body) (λ g. g.ends ++ thrown)) T.scopes) T.tasks qs =
    all_faulted (λ g. g.body) (λ g. g.ends ++ thrown) who.scope keeps (λ g. refl) _ T.scopes T.tasks (ends_if (k.0 == who.scope.0) thrown) l.scopes qs (λ r. (refl, refl, refl, refl, refl))
    (λ r g found live was. (was.0, ap (λ b. cond b (r.ends ++ thrown) r.ends) (own_keeper T who.scope g k.0 h found live at) ∙ ap (λ xs. xs ++ thrown) was.1)) c st.fit.scopes
    in
    let first : RecordsFit l.width keeps (change_first (is_scope who.scope) (faulted (λ g. g.body) (λ g. g.ends ++ thrown)) T.scopes) T.tasks ps =
    all_masking _ keeps (change_first (is_scope who.scope) (faulted (λ g. g.body) (λ g. g.ends ++ thrown)) T.scopes) T.tasks (cond (k.0 == who.scope.0) 0 (length thrown)) k.0 qs ps x noted in
    let own = scope_kept l T who (IsBare T who) st f in
    let at2 = keeper_faulted (λ g. g.body) (λ g. g.ends ++ thrown) (is_scope who.scope) keeps (λ g. refl) T.scopes (Some who.scope) ∙ at in
    record {
      allowed = a;
      made =
          record {
            reached = acts who.task (End thrown) st.reached a;
            fit =
                subst (Fit m) (sym is)
                (record {
                  places = places ∙ st.fit.places;
                  dead = dead ∙ st.fit.dead;
                  next_task = next_task ∙ st.fit.next_task;
                  next_scope = next_scope ∙ st.fit.next_scope;
                  totals =
                      (let left = (one_ended l T who f st).1 in
                      totals
                      ∙ totals_are (ends l.totals) (record T { tasks = others who.task T.tasks; scopes = change_first (is_scope who.scope) (faulted (λ g. g.body) (λ g. g.ends ++ thrown)) T.scopes })
                      (record { scopes = left.scopes ∙ sym (length_change (is_scope who.scope) (faulted (λ g. g.body) (λ g. g.ends ++ thrown)) T.scopes); live = left.live; travel = left.travel }));
                  numbers = d.len ∙ x.len ∙ c.len ∙ st.fit.numbers;
                  scopes =
                      as_wide l.width m.width keeps (change_first (is_scope who.scope) (faulted (λ g. g.body) (λ g. g.ends ++ thrown)) T.scopes) (others who.task T.tasks) m.scopes width
                      (left_in _ T who (IsBare T who) keeps (change_first (is_scope who.scope) (faulted (λ g. g.body) (λ g. g.ends ++ thrown)) T.scopes) ps m.scopes k.0 h f at2 d first);
                  masked =
                      masked_changed keeps (change_first (is_scope who.scope) (faulted (λ g. g.body) (λ g. g.ends ++ thrown)) T.scopes) (in_sums (less who.place)) k.0 ps m.scopes (λ r. refl) d
                      (masked_ended T.tasks keeps T.next_scope T.scopes who.scope own.scope thrown k.0 l.scopes qs ps (ends_if (k.0 == who.scope.0) thrown) h.falls h.opened (λ v. refl) own.stands at (λ r. refl) c x st.fit.masked);
                });
            has_room = room_kept l m T (made_act T who.task (End thrown)) (limit-act T who.task (End thrown)) width (ap (λ (v : Tree). v.places) is) st.has_room;
          };
    }

same_pointwise : (s : ℕ) (rs qs : List (Option (Box Record))) → Changed (λ r. r) s rs qs → (n : ℕ) → record_at qs n ≡ record_at rs n
same_pointwise s rs qs c n =
    ⊎_elim
    (λ (e : n ≡ s). ap (record_at qs) e ∙ c.here ∙ map_id (record_at rs s) ∙ ap (record_at rs) (sym e))
    (λ (e : n ≡ s → ⊥). c.others n e)
    (cases_eq n s)
  where
    map_id : (o : Option Record) → option_map (λ r. r) o ≡ o
    map_id (Some r) = refl
    map_id None = refl

pub end_unchanged : {room : ℕ} (l m : CountLedger) (T : Tree) (who : Caller) → StandsFor l room T → m.places ≡ l.places → m.width ≡ l.width → m.dead ≡ l.dead → m.next_task ≡ l.next_task → m.next_scope ≡ l.next_scope → m.totals ≡ l.totals → Changed (λ r. r) who.scope.0 l.scopes m.scopes → StandsFor m room T
end_unchanged l m T who st places width dead next_task next_scope totals c = record { reached = st.reached; fit = same_fit l m T st.fit places width dead next_task next_scope totals c.len (same_pointwise who.scope.0 l.scopes m.scopes c); has_room = room_kept l m T T refl width refl st.has_room }
