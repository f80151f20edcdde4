-- A task leaves a cell, and joins another.
use Rattle.std.proofs.Common.{◌≡◌, ℕ, ◌<◌, ◌≤◌, ◌^◌, ◌+◌, Bool, true, false, not, List, ◌∷◌, Option, Some, None, length, IfSome, Ok, refl, sym, ap, ◌∙◌, subst, arith}
use Rattle.std.specs.List.{find}
use Rattle.std.specs.Global.{Box}
use Rattle.std.proofs.lemmas.Bool.{eq-eqb}
use Rattle.rx_rules.proofs.Widths.{limit-act}
use Rattle.rx_rules.proofs.Common.{ScopeId, Tree, is_task, change_first, made_act, acts, has_number}
use Rattle.rx_rules.specs.declared.tasks.Where.{Where}
use Rattle.rx_rules.specs.declared.tasks.Where.TheVariants.{At, Travel}
use Rattle.rx_rules.specs.declared.tasks.Task.{Task}
use Rattle.rx_rules.specs.declared.tasks.Scope.{Scope}
use Rattle.rx_rules.specs.declared.entries.Act.TheVariants.{Arrive}
use Rattle.rx_tree_laws.specs.Sound.{Sound, Inside}
use Rattle.rx_tree_laws.proofs.Reached.{sound}
use Rattle.rx_tree_laws.proofs.Stay.{fall_filter}
use Rattle.rx_finish.specs.declared.ledger.Caller.{Caller}
use Rattle.rx_finish.specs.Callers.{MayAskArrive, Travels, does_travel}
use Rattle.rx_finish.specs.Calls.{ArriveReply, landing}
use Rattle.rx_finish.proofs.Allowed.{Free, arrive_allowed}
use Rattle.rx_counts.specs.declared.record.Record.{Record}
use Rattle.rx_counts.specs.declared.ledger.CountLedger.{CountLedger}
use Rattle.rx_counts.specs.Keeping.{stands_home, keeper, is_number, kept_at}
use Rattle.rx_counts.specs.Stands.{slot, HasCell, MayJoin, MayLeave, RecordOf, Both, RecordsFit, StandsFor, record_at, count_in, more, less, in_sums, Changed}
use Rattle.rx_counts.proofs.Asking.{Kept, kept_at_keeper, place_in, wide, room_kept, as_wide, small, tasks_length, unstruck_of}
use Rattle.rx_counts.proofs.Joining.{all_same, all_leave, all_join, counted, sums_same, count_out, count_back, others}
use Rattle.rx_counts.proofs.Masking.{masked_changed}
use Rattle.rx_counts.specs.Inside.Totalling.{lands}
use Rattle.rx_counts.proofs.Totalling.{AreOf, are, totals_are, same_tasks, one_lands}
use Rattle.rx_counts.proofs.Slots.{inside_cells, slot_below}
use Rattle.rx_counts.proofs.HandOver.{keeper_keeps}
use Rattle.rx_tree_laws.specs.Chains.{Falls}

-- Each condition of a change of a cell.

pub take_ok : (size : ℕ) (T : Tree) (who : Caller) (P : Task → Type 0) (rs : List (Option (Box Record))) (k : ℕ) → Sound T → (f : Free T who P) → keeper (stands_home T.dead) T.scopes (Some who.scope) ≡ Some k → RecordsFit size (stands_home T.dead) T.scopes T.tasks rs → (k < length rs) × IfSome (record_at rs k) (λ r. MayLeave who.place r.sums)
take_ok size T who P rs k h f at fit =
    let x : Task = f.at.task in
    let keeps : Scope → Bool = stands_home T.dead in
    let q : Kept size T rs k = kept_at_keeper T rs (Some who.scope) k fit at in
    let mine : kept_at keeps T.scopes q.scope.number.0 x ≡ true = ap (λ (u : ScopeId). is_number q.scope.number.0 (keeper keeps T.scopes (Some u))) f.at.says.under ∙ ap (is_number q.scope.number.0) at ∙ eq-eqb k q.scope.number.0 (sym q.number) in
    let c = counted keeps T.scopes (others who.task T.tasks) x q.kept.sums q.scope.number.0 mine f.unstruck (sums_same keeps T.scopes T.tasks (x ∷ others who.task T.tasks) q.kept.sums q.scope.number.0 (count_out who.task T.next_task T.tasks x h.tasks_fall f.at.stands) q.fits.sums) in (
      q.low,
      subst (λ o. IfSome o (λ r. MayLeave who.place r.sums)) (sym q.found) (subst (λ (w : Where). MayLeave w q.kept.sums) f.at.says.place c),
    )

-- the records after the task left are those of the other tasks
pub left_in : (size : ℕ) (T : Tree) (who : Caller) (P : Task → Type 0) (keeps : Scope → Bool) (gs : List Scope) (rs qs : List (Option (Box Record))) (k : ℕ) → Sound T → (f : Free T who P) → keeper keeps gs (Some who.scope) ≡ Some k → Changed (in_sums (less who.place)) k rs qs → RecordsFit size keeps gs T.tasks rs → RecordsFit size keeps gs (others who.task T.tasks) qs
left_in size T who P keeps gs rs qs k h f at c fit =
    let x : Task = f.at.task in
    all_leave _ keeps gs (others who.task T.tasks) x k rs qs (ap (λ (u : ScopeId). keeper keeps gs (Some u)) f.at.says.under ∙ at) f.unstruck
    (subst (λ (w : Where). Changed (in_sums (less w)) k rs qs) (sym f.at.says.place) c)
    (all_same _ keeps gs T.tasks (x ∷ others who.task T.tasks) rs (count_out who.task T.next_task T.tasks x h.tasks_fall f.at.stands) fit)

pub left_over : (size : ℕ) (T : Tree) (who : Caller) (P : Task → Type 0) (rs qs : List (Option (Box Record))) (k : ℕ) → Sound T → (f : Free T who P) → keeper (stands_home T.dead) T.scopes (Some who.scope) ≡ Some k → Changed (in_sums (less who.place)) k rs qs → RecordsFit size (stands_home T.dead) T.scopes T.tasks rs → RecordsFit size (stands_home T.dead) T.scopes (others who.task T.tasks) qs
left_over size T who P rs qs k h f at c fit = left_in _ T who P (stands_home T.dead) T.scopes rs qs k h f at c fit

landing_inside : (n : ℕ) (w : Where) → Inside n w → Inside n (At (landing w))
landing_inside n (At p) h = h
landing_inside n (Travel from to) h = h.1

-- a record that keeps counts has a cell for each place of the run
pub has_cell : (size : ℕ) (keeps : Scope → Bool) (n : ℕ) (gs : List Scope) (ts : List Task) (rs : List (Option (Box Record))) (k : ℕ) (want : Option ScopeId) (w : Where) → Falls n gs → keeper keeps gs want ≡ Some k → Inside size w → RecordsFit size keeps gs ts rs → IfSome (record_at rs k) (λ r. HasCell w r.sums)
has_cell size keeps n gs ts rs k want w f at within fit = cell_in (record_at rs k) (find (has_number k) gs) refl (fit k)
  where
    cell_in : (a : Option Record) (b : Option Scope) → find (has_number k) gs ≡ b → Both (RecordOf size keeps gs ts) a b → IfSome a (λ r. HasCell w r.sums)
    cell_in (Some r) (Some g) e h =
        let same : r.sums.places ≡ size = h.places (keeper_keeps keeps n k gs want g f at e) in
        let within_r : Inside r.sums.places w = subst (λ (m : ℕ). Inside m w) (sym same) within in
        subst (λ (m : ℕ). slot r.sums.places w < m) (sym h.sums.cells) (slot_below r.sums.places w (inside_cells r.sums.places w within_r))
    cell_in (Some r) None e h = absurd h
    cell_in None b e h = tt

both_if : {P Q R : Record → Type 0} (o : Option Record) → ((r : Record) → P r → Q r → R r) → IfSome o P → IfSome o Q → IfSome o R
both_if (Some r) f p q = f r p q
both_if None f p q = tt

-- a cell of the record of any scope has room for one more
pub small_counts : (size : ℕ) (T : Tree) (ts : List Task) (rs : List (Option (Box Record))) (k : ℕ) (w : Where) → length ts ≤ T.next_task → T.next_task < 2 ^ 31 → RecordsFit size (stands_home T.dead) T.scopes ts rs → IfSome (record_at rs k) (λ r. (count_in r.sums w + 1 < 2 ^ 32) × (r.sums.total + 1 < 2 ^ 32))
small_counts size T ts rs k w few low fit = small_in (record_at rs k) (find (has_number k) T.scopes) (fit k)
  where
    small_in : (a : Option Record) (b : Option Scope) → Both (RecordOf size (stands_home T.dead) T.scopes ts) a b → IfSome a (λ r. (count_in r.sums w + 1 < 2 ^ 32) × (r.sums.total + 1 < 2 ^ 32))
    small_in (Some r) (Some g) h = small (stands_home T.dead) T.scopes ts r.sums T.next_task g.number.0 w h.sums few low
    small_in (Some r) None h = absurd h
    small_in None b h = tt

-- so one more task may join it
pub may_join : (size : ℕ) (T : Tree) (ts : List Task) (rs : List (Option (Box Record))) (k : ℕ) (want : Option ScopeId) (w : Where) → Sound T → length ts ≤ T.next_task → T.next_task < 2 ^ 31 → keeper (stands_home T.dead) T.scopes want ≡ Some k → Inside size w → RecordsFit size (stands_home T.dead) T.scopes ts rs → IfSome (record_at rs k) (λ r. MayJoin w r.sums)
may_join size T ts rs k want w h few low at within fit =
    both_if (record_at rs k) (λ r c q. record { cell = c; count = q.0; total = q.1 }) (has_cell _ (stands_home T.dead) T.next_scope T.scopes ts rs k want w h.falls at within fit) (small_counts _ T ts rs k w few low fit)

pub add_ok : {size : ℕ} (T : Tree) (who : Caller) (rs qs : List (Option (Box Record))) (k : ℕ) → Sound T → T.places ≤ size → T.next_task < 2 ^ 31 → (f : Free T who Travels) → keeper (stands_home T.dead) T.scopes (Some who.scope) ≡ Some k → Changed (in_sums (less who.place)) k rs qs → RecordsFit size (stands_home T.dead) T.scopes T.tasks rs → (k < length qs) × IfSome (record_at qs k) (λ r. MayJoin (At (landing who.place)) r.sums)
add_ok {size = size} T who rs qs k h le low f at c fit =
    let q : Kept size T rs k = kept_at_keeper T rs (Some who.scope) k fit at in
    let to_in : Inside size (At (landing who.place)) = landing_inside size who.place (place_in T who Travels h le f) in
    let len : length qs ≡ length rs = c.len in
    let in_list : k < length rs = q.low in (
      (let l : k < length qs = omega arith in l),
      may_join _ T (others who.task T.tasks) qs k (Some who.scope) (At (landing who.place)) h (tasks_length T.next_task (others who.task T.tasks) (fall_filter (λ y. not (is_task who.task y)) T.next_task T.tasks h.tasks_fall)) low at to_in (left_over _ T who Travels rs qs k h f at c fit),
    )

-- the totals where the task has arrived
pub one_landed : {room : ℕ} (l : CountLedger) (T : Tree) (who : Caller) (g : Task → Task) → (f : Free T who Travels) → StandsFor l room T → (g f.at.task).struck ≡ None → does_travel (g f.at.task).place ≡ false → (1 ≤ l.totals.travel) × AreOf (lands l.totals) (length T.scopes) (g f.at.task ∷ others who.task T.tasks)
one_landed l T who g f s none at_place =
    let h : Sound T = sound s.reached in
    let x : Task = f.at.task in
    one_lands l.totals (length T.scopes) (others who.task T.tasks) x (g x) f.unstruck none f.at.allowed.travels at_place
    (same_tasks l.totals (length T.scopes) T.tasks (x ∷ others who.task T.tasks) (count_out who.task T.next_task T.tasks x h.tasks_fall f.at.stands) (are l.totals T s.fit.totals))

-- the ledger that has the new records stands for the new tree
pub arrived : {room : ℕ} (l m : CountLedger) (T : Tree) (who : Caller) (qs : List (Option (Box Record))) (k : ℕ) → StandsFor l room T → MayAskArrive T who → (f : Free T who Travels) → keeper (stands_home T.dead) T.scopes (Some who.scope) ≡ Some k → m.places ≡ l.places → m.width ≡ l.width → m.dead ≡ l.dead → m.next_task ≡ l.next_task → m.next_scope ≡ l.next_scope → m.totals ≡ lands l.totals → Changed (in_sums (less who.place)) k l.scopes qs → Changed (in_sums (more (At (landing who.place)))) k qs m.scopes → ArriveReply T who (Ok tt) (StandsFor m room)
arrived l m T who qs k s may f at places width dead next_task next_scope totals c d =
    let h : Sound T = sound s.reached in
    let x : Task = f.at.task in
    let g : Task → Task = λ y. record y { place = At (landing who.place) } in
    let a = arrive_allowed T who s.reached may (unstruck_of T who Travels f) in
    record {
      allowed = a;
      made =
          record {
            reached = acts who.task (Arrive (landing who.place)) s.reached a;
            fit =
                record {
                  places = places ∙ s.fit.places;
                  dead = dead ∙ s.fit.dead;
                  next_task = next_task ∙ s.fit.next_task;
                  next_scope = next_scope ∙ s.fit.next_scope;
                  totals =
                      totals
                      ∙ totals_are (lands l.totals) (made_act T who.task (Arrive (landing who.place)))
                      (same_tasks (lands l.totals) (length T.scopes) (g x ∷ others who.task T.tasks) (change_first (is_task who.task) g T.tasks) (count_back who.task T.next_task T.tasks x g h.tasks_fall f.at.stands)
                      (one_landed l T who g f s f.unstruck refl).1);
                  numbers = d.len ∙ c.len ∙ s.fit.numbers;
                  scopes =
                      as_wide l.width m.width (stands_home T.dead) T.scopes (change_first (is_task who.task) g T.tasks) m.scopes width
                      (all_same _ (stands_home T.dead) T.scopes (g x ∷ others who.task T.tasks) (change_first (is_task who.task) g T.tasks) m.scopes (count_back who.task T.next_task T.tasks x g h.tasks_fall f.at.stands)
                      (all_join _ (stands_home T.dead) T.scopes (others who.task T.tasks) (g x) k qs m.scopes (ap (λ (u : ScopeId). keeper (stands_home T.dead) T.scopes (Some u)) f.at.says.under ∙ at) f.unstruck
                      (has_cell _ (stands_home T.dead) T.next_scope T.scopes (others who.task T.tasks) qs k (Some who.scope) (At (landing who.place)) h.falls at (landing_inside l.width who.place (place_in T who Travels h (wide l T s) f)) (left_over _ T who Travels l.scopes qs k h f at c s.fit.scopes))
                      d (left_over _ T who Travels l.scopes qs k h f at c s.fit.scopes)));
                  masked =
                      masked_changed (stands_home T.dead) T.scopes (in_sums (more (At (landing who.place)))) k qs m.scopes (λ r. refl) d
                      (masked_changed (stands_home T.dead) T.scopes (in_sums (less who.place)) k l.scopes qs (λ r. refl) c s.fit.masked);
                };
            has_room = room_kept l m T (made_act T who.task (Arrive (landing who.place))) (limit-act T who.task (Arrive (landing who.place))) width refl s.has_room;
          };
    }
