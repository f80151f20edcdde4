-- Scopes that are opened, and tasks that are born.
use Rattle.std.proofs.Common.{◌≡◌, ℕ, ◌<◌, ◌+◌, Bool, true, false, List, [], ◌∷◌, Option, Some, None, is_none, option_map, slice_index_or, IfSome, Ok, length, refl, sym, ap, ◌∙◌, subst, arith}
use Rattle.std.specs.List.{find}
use Rattle.std.proofs.lemmas.Bool.{eq-eqb}
use Rattle.rx_tree_laws.proofs.Parents.{met_found}
use Rattle.rx_rules.proofs.Widths.{limit-act}
use Rattle.rx_rules.proofs.Common.{PlaceId, ScopeId, Tree, the_root, governing_in, chain_in, place_number, home_for, made_act, acts, has_number}
use Rattle.rx_rules.specs.declared.tasks.Kind.TheVariants.{Finish}
use Rattle.rx_rules.specs.declared.tasks.Where.{Where}
use Rattle.rx_rules.specs.declared.tasks.Where.TheVariants.{At}
use Rattle.rx_rules.specs.declared.tasks.Task.{Task}
use Rattle.rx_rules.specs.declared.tasks.Scope.{Scope}
use Rattle.rx_rules.specs.declared.entries.Act.TheVariants.{Open}
use Rattle.rx_base.proofs.SameIds.{scope-is}
use Rattle.rx_tree_laws.specs.Blows.{death_blow, blow_at}
use Rattle.rx_tree_laws.specs.Chains.{meets, Falls}
use Rattle.rx_tree_laws.specs.Sound.{Sound, TaskFits, Each}
use Rattle.rx_tree_laws.proofs.Changes.{each_more}
use Rattle.rx_tree_laws.proofs.Chains.{met_start}
use Rattle.rx_tree_laws.proofs.Opening.{inner_fits}
use Rattle.rx_tree_laws.proofs.Reached.{sound}
use Rattle.rx_finish.specs.declared.ledger.Caller.{Caller}
use Rattle.rx_finish.specs.Callers.{MayAskMoving, IsMoving}
use Rattle.rx_finish.specs.Calls.{OpenReply}
use Rattle.rx_finish.proofs.Allowed.{Free, open_allowed}
use Rattle.rx_counts.specs.declared.record.Record.{Record}
use Rattle.rx_counts.specs.declared.ledger.CountLedger.{CountLedger}
use Rattle.rx_counts.specs.Keeping.{stands_home, keeper, finishes}
use Rattle.rx_counts.specs.Stands.{SumsOf, RecordOf, StandsFor, record_at, Pushed}
use Rattle.rx_counts.proofs.Telling.{none_blow}
use Rattle.rx_counts.proofs.Asking.{Kept, kept_some, unstruck_of, room_kept, as_wide}
use Rattle.rx_counts.proofs.Masking.{masked_opened}
use Rattle.rx_counts.proofs.Walks.{keeper_is}
use Rattle.rx_counts.proofs.NewRecord.{all_opened, sums_fresh, sums_further}
use Rattle.rx_counts.specs.Inside.Opening.{IsZero}
use Rattle.rx_counts.specs.Inside.Totalling.{more_scopes}
use Rattle.rx_counts.proofs.Totalling.{are, totals_are, one_scope}

-- the record of the inner scope
pub inner_kept : {room : ℕ} (l : CountLedger) (T : Tree) (who : Caller) (P : Task → Type 0) → StandsFor l room T → (f : Free T who P) → Kept l.width T l.scopes who.inner.0
inner_kept l T who P s f =
    let h : Sound T = sound s.reached in
    let m : meets the_root T.scopes (Some who.inner) ≡ true = subst (λ (u : ScopeId). meets the_root T.scopes (Some u) ≡ true) f.at.inner_is (inner_fits T who.task f.at.task h f.at.stands).rooted in
    kept_some T l.scopes who.inner.0 s.fit.scopes (find (has_number who.inner.0) T.scopes) refl (met_found the_root T.scopes who.inner m)

pub inner_rooted : (T : Tree) (who : Caller) (P : Task → Type 0) → Sound T → (f : Free T who P) → meets the_root T.scopes (Some who.inner) ≡ true
inner_rooted T who P h f = subst (λ (u : ScopeId). meets the_root T.scopes (Some u) ≡ true) f.at.inner_is (inner_fits T who.task f.at.task h f.at.stands).rooted

pub governing_is : (gs : List Scope) (want : Option ScopeId) (n : ScopeId) → keeper finishes gs want ≡ Some n.0 → governing_in gs want ≡ n
governing_is gs want n e =
    (elim (find finishes (chain_in gs want)) as (λ o. option_map (λ g. g.number.0) o ≡ Some n.0 → (elim o as (λ _. ScopeId) [ Some g ↦ g.number | None ↦ the_root ]) ≡ n) [
      | Some g ↦ λ k. let num : g.number.0 ≡ n.0 = cc in scope-is g.number n num
      | None ↦ λ k. cc
    ]) (keeper_is finishes gs want ∙ e)

-- the finish that the record of the inner scope names is the governing one
pub finish_known : {room : ℕ} (l : CountLedger) (T : Tree) (who : Caller) (P : Task → Type 0) (n : ScopeId) → StandsFor l room T → Free T who P → IfSome (record_at l.scopes who.inner.0) (λ r. n ≡ r.finish) → keeper finishes T.scopes (Some who.inner) ≡ Some n.0
finish_known l T who P n s f e =
    let k : Kept l.width T l.scopes who.inner.0 = inner_kept l T who P s f in
    let same : n ≡ k.kept.finish = subst (λ o. IfSome o (λ r. n ≡ r.finish)) k.found e in
    subst (λ (v : ScopeId). keeper finishes T.scopes (Some v) ≡ Some n.0) (scope-is k.scope.number who.inner k.number) (k.fits.shape.finish ∙ ap (λ (v : ScopeId). Some v.0) (sym same))

-- the home of an unstruck caller
pub home_known : (T : Tree) (who : Caller) (P : Task → Type 0) → Free T who P → home_for T who.task ≡ place_number who.place
home_known T who P f = (let e : home_for T who.task ≡ place_number f.at.task.place = rw (f.at.stands, home_for) in e) ∙ ap place_number f.at.says.place

pub place_lives : {room : ℕ} (l : CountLedger) (T : Tree) (who : Caller) → StandsFor l room T → (f : Free T who IsMoving) → blow_at l.dead who.place ≡ None → is_none (slice_index_or T.dead (place_number who.place).0 None) ≡ true
place_lives l T who s f e =
    let m = f.at.allowed in
    let at : who.place ≡ At m.place = sym f.at.says.place ∙ m.is_at in
    let d : death_blow l.dead m.place ≡ None = sym (ap (blow_at l.dead) at) ∙ e in
    subst (λ (w : Where). is_none (slice_index_or T.dead (place_number w).0 None) ≡ true) (sym at) (none_blow T.dead m.place (sym (ap (λ v. death_blow v m.place) s.fit.dead) ∙ d))

-- the tasks hang under older scopes
pub unders_low : (T : Tree) (n : ℕ) → Sound T → n ≡ T.next_scope → Each (λ x. x.under.0 < n) T.tasks
unders_low T n h e = each_more (TaskFits T.dead T.places T.scopes) (λ x. x.under.0 < n) (λ (x : Task) f. let low : x.under.0 < T.next_scope = met_start the_root T.next_scope T.scopes x.under h.falls f.rooted in omega arith) T.tasks h.tasks

-- what a new record says of its scope
pub record IsNew (r : Record) (g : Scope) (gs : List Scope) : Type 0 where
  pub kind : r.kind ≡ g.kind
  pub home : r.home ≡ g.home
  pub parent : r.parent ≡ g.parent
  pub finish : keeper finishes (g ∷ gs) (Some g.number) ≡ Some r.finish.0
  pub body : r.body ≡ g.body
  pub ends : r.ends ≡ g.ends

pub record_new : {size : ℕ} (keeps : Scope → Bool) (g : Scope) (gs : List Scope) (ts : List Task) (r : Record) → IsNew r g gs → r.sums.places ≡ size → SumsOf keeps (g ∷ gs) ts r.sums g.number.0 → RecordOf size keeps (g ∷ gs) ts r g
record_new {size = size} keeps g gs ts r n p s = record { shape = record { kind = n.kind; home = n.home; parent = n.parent; finish = n.finish }; sums = s; faults = λ e. (n.body, n.ends); places = λ e. p }

finish_self : (g : Scope) (gs : List Scope) → finishes g ≡ true → keeper finishes (g ∷ gs) (Some g.number) ≡ Some g.number.0
finish_self g gs e = rw (eq-eqb g.number.0 g.number.0 refl, e)

pub finish_up : (g : Scope) (gs : List Scope) → finishes g ≡ false → keeper finishes (g ∷ gs) (Some g.number) ≡ keeper finishes gs g.parent
finish_up g gs e = rw (eq-eqb g.number.0 g.number.0 refl, e)

pub opened_stands : {room : ℕ} (l m : CountLedger) (T : Tree) (who : Caller) (s : ScopeId) (r : Record) → StandsFor l room T → MayAskMoving T who → blow_at l.dead who.place ≡ None → (f : Free T who IsMoving) → s.0 ≡ l.next_scope → r.kind ≡ Finish → r.home ≡ place_number who.place → r.parent ≡ Some who.inner → r.finish ≡ s → IsZero l.width r.sums → r.body ≡ [] → r.ends ≡ [] → m.places ≡ l.places → m.width ≡ l.width → m.dead ≡ l.dead → m.next_task ≡ l.next_task → m.next_scope ≡ l.next_scope + 1 → m.totals ≡ more_scopes l.totals → Pushed r l.scopes m.scopes → OpenReply T who (Ok s) (StandsFor m room)
opened_stands l m T who s r st may blow f next kind home parent finish zero body ends places width dead next_task next_scope totals p =
    let h : Sound T = sound st.reached in
    let number : s.0 ≡ T.next_scope = next ∙ st.fit.next_scope in
    let g : Scope = record { number = s; kind = Finish; opener = Some who.task; home = home_for T who.task; parent = Some who.inner; body = []; ends = [] } in
    let a = open_allowed T who s st.reached may (unstruck_of T who IsMoving f) number in
    let home2 : home_for T who.task ≡ place_number who.place = home_known T who IsMoving f in
    let lives : stands_home T.dead g ≡ true = subst (λ (q : PlaceId). is_none (slice_index_or T.dead q.0 None) ≡ true) (sym home2) (place_lives l T who st f blow) in
    let falls : Falls s.0 T.scopes = subst (λ n. Falls n T.scopes) (sym number) h.falls in
    let low : Each (λ x. x.under.0 < s.0) T.tasks = unders_low T s.0 h number in
    let new : IsNew r g T.scopes = record { kind = kind; home = home ∙ sym home2; parent = parent; finish = finish_self g T.scopes refl ∙ ap (λ (v : ScopeId). Some v.0) (sym finish); body = body; ends = ends } in
    record {
      allowed = a;
      made =
          record {
            reached = acts who.task (Open s who.inner []) st.reached a;
            fit =
                record {
                  places = places ∙ st.fit.places;
                  dead = dead ∙ st.fit.dead;
                  next_task = next_task ∙ st.fit.next_task;
                  next_scope = (let q = st.fit.next_scope in omega arith);
                  totals = totals ∙ totals_are (more_scopes l.totals) (made_act T who.task (Open s who.inner [])) (one_scope l.totals (length T.scopes) T.tasks (are l.totals T st.fit.totals));
                  numbers = (let q = st.fit.numbers in let v = p.len in omega arith);
                  scopes =
                      as_wide l.width m.width (stands_home T.dead) (g ∷ T.scopes) T.tasks m.scopes width
                      (all_opened (stands_home T.dead) g T.scopes T.tasks T.tasks l.scopes m.scopes r (st.fit.numbers ∙ sym number) falls
                      (λ q n below old. sums_further (stands_home T.dead) g T.scopes T.tasks q n falls low lives old) p
                      (record_new (stands_home T.dead) g T.scopes T.tasks r new zero.places (sums_fresh (stands_home T.dead) g T.scopes T.tasks r.sums falls low lives l.width zero)) st.fit.scopes);
                  masked = masked_opened (stands_home T.dead) g T.scopes l.scopes m.scopes r (st.fit.numbers ∙ sym number) falls lives zero.masked p st.fit.masked;
                };
            has_room = room_kept l m T (made_act T who.task (Open s who.inner [])) (limit-act T who.task (Open s who.inner [])) width refl st.has_room;
          };
    }
