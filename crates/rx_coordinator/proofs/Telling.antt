-- What entries do to the rows of tasks.
use Rattle.std.proofs.Common.{◌≡◌, ◌≢◌, ℕ, ◌<◌, ◌==◌, Bool, true, false, cond, not, ◌&&◌, filter, map, List, ◌∷◌, ◌++◌, Option, Some, None, is_some, is_none, option_map, refl, ap, ◌∙◌, sym, subst, arith}
use Rattle.std.specs.List.{find}
use Rattle.std.proofs.lemmas.Bool.{eq-eqb, ne_eqb}
use Rattle.rx_rules.proofs.Common.{TaskId, ScopeId, PlaceId, PlaceSet, Fault, Tree, is_task, task_of, is_scope, opened_by, is_under, inner, own_scope, waiting, resumed, born, hit, is_hit, strike, without, widened, change_scope, AllowedAct, made_act, Reached}
use Rattle.rx_base.proofs.SameIds.{task-is}
use Rattle.rx_rules.specs.declared.tasks.Where.TheVariants.{At}
use Rattle.rx_rules.specs.declared.tasks.Blow.{Blow}
use Rattle.rx_rules.specs.declared.tasks.Task.{Task}
use Rattle.rx_rules.specs.declared.entries.Act.{Act}
use Rattle.rx_rules.specs.declared.entries.Act.TheVariants.{Open, At as Calls, Spawn, Arrive, Wait, Release, End, Print, Census}
use Rattle.rx_rules.proofs.Lookups.{number-of}
use Rattle.rx_tree_laws.proofs.Reached.{sound}
use Rattle.rx_tree_laws.proofs.Reach.{task_below}
use Rattle.rx_tree_laws.proofs.Stay.{find_filter}
use Rattle.rx_tree_laws.proofs.Staying.{find_unfiltered, find_unchanged}
use Rattle.rx_tree_laws.proofs.Owning.{release_keeps}
use Rattle.rx_chronicle.proofs.Linking.{find-hit, Link, link, links, top, inner_top, links_faulted}
use Rattle.rx_ledger.proofs.Others.{ended, none_filtered}
use Rattle.rx_coordinator.specs.declared.seats.Seat.{Seat}
use Rattle.rx_coordinator.specs.Seats.{unhit}
use Rattle.rx_coordinator.specs.Telling.{seat_of, seat_in, seat_told}
use Rattle.rx_coordinator.proofs.Finding.{other_left, none_left}
use Rattle.rx_ledger.proofs.GoesOn.{found_changed, free_stays}

-- the task that an act starts is not this one
abbrev pub Starts : Act → TaskId → Type 0
Starts (Calls from to s r callee path) t = callee.0 ≢ t.0
Starts (Spawn child s from to path) t = child.0 ≢ t.0
Starts _ t = Unit {0}

-- one that was found where it was, with the scopes that it had
inner_as : (T V : Tree) (t : TaskId) (x : Task) → task_of T t ≡ Some x → links V t ≡ links T t → inner V x ≡ inner T x
inner_as T V t x found own =
    let number : x.number ≡ t = task-is x.number t (number-of T t x found) in
    inner_top V x
    ∙ (ap (λ (v : TaskId). top (links V v) x.under) number
    ∙ (ap (λ (ls : List Link). top ls x.under) own
    ∙ (ap (λ (v : TaskId). top (links T v) x.under) (sym number) ∙ sym (inner_top T x))))

seat_as : (T V : Tree) (x : Task) → inner V x ≡ inner T x → seat_of V x ≡ seat_of T x
seat_as T V x e = ap (λ (s : ScopeId). (let w : Seat = record { who = record { task = x.number; scope = x.under; inner = s; place = x.place }; waits = x.waits } in w)) e

pub same_seat : (T V : Tree) (t : TaskId) → task_of V t ≡ task_of T t → links V t ≡ links T t → seat_told V t ≡ seat_told T t
same_seat T V t found own =
    ap (seat_in V) found ∙ (elim (task_of T t) as (λ o. task_of T t ≡ o → seat_in V o ≡ seat_in T o) [
      | None ↦ λ w. refl
      | Some x ↦ λ w. ap (λ (y : Seat). cond (is_none x.struck) (Some y) None) (seat_as T V x (inner_as T V t x w own))
    ]) refl

-- Another task.

found_born : (T : Tree) (child t : TaskId) (s : ScopeId) (from to : PlaceId) → child.0 ≢ t.0 → find (is_task t) (born T child s from to ∷ T.tasks) ≡ task_of T t
found_born T child t s from to apart =
    let off : (child.0 == t.0) ≡ false = ne_eqb child.0 t.0 apart in
    ap (λ (b : Bool). cond b (Some (born T child s from to)) (task_of T t)) off

module _ (T : Tree) (r : Reached T) (u t : TaskId) (apart : t.0 ≢ u.0) where
  skip : (u.0 == t.0) ≡ false
  skip = ne_eqb u.0 t.0 (λ e. apart (sym e))

  released : (s : ScopeId) (lost : PlaceSet) (masked : ℕ) (thrown : List Fault) → AllowedAct T u (Release s lost masked thrown) → seat_told (made_act T u (Release s lost masked thrown)) t ≡ seat_told T t
  released s lost masked thrown may =
      ap (seat_in V) there ∙ (elim (task_of T t) as (λ o. task_of T t ≡ o → seat_in V (find (is_task t) (filter keeps T.tasks)) ≡ seat_in T o) [
        | None ↦ λ w. ap (seat_in V) (none_filtered (is_task t) keeps T.tasks w)
        | Some x ↦ λ w. stands x w x.struck refl
      ]) refl
    where
      V : Tree
      V = made_act T u (Release s lost masked thrown)

      keeps : Task → Bool
      keeps z = not (is_under T s z && is_some z.struck)

      there : task_of (made_act T u (Release s lost masked thrown)) t ≡ find (is_task t) (filter (λ z. not (is_under T s z && is_some z.struck)) T.tasks)
      there = find_unchanged u t resumed (λ z. refl) apart (without T s).tasks

      stands : (x : Task) → task_of T t ≡ Some x → (o : Option Blow) → x.struck ≡ o → seat_in (made_act T u (Release s lost masked thrown)) (find (is_task t) (filter (λ z. not (is_under T s z && is_some z.struck)) T.tasks)) ≡ cond (is_none x.struck) (Some (seat_of T x)) None
      stands x w None e =
          let keep : not (is_under T s x && is_some x.struck) ≡ true = free_stays (is_under T s x) x.struck e in
          let number : x.number ≡ t = task-is x.number t (number-of T t x w) in
          let here : task_of T x.number ≡ Some x = subst (λ (v : TaskId). task_of T v ≡ Some x) (sym number) w in
          let other : x.number.0 ≢ u.0 = λ k. apart (sym (ap (λ (v : TaskId). v.0) number) ∙ k) in
          let same = release_keeps T u s lost masked thrown x r may here e other in
          let own : links (made_act T u (Release s lost masked thrown)) t ≡ links T t = subst (λ (v : TaskId). links (made_act T u (Release s lost masked thrown)) v ≡ links T v) number (ap (map link) same) in
          ap (seat_in (made_act T u (Release s lost masked thrown))) (find_filter (is_task t) (λ z. not (is_under T s z && is_some z.struck)) T.tasks x w keep)
          ∙ ap (λ (y : Seat). cond (is_none x.struck) (Some y) None) (seat_as T (made_act T u (Release s lost masked thrown)) x (inner_as T (made_act T u (Release s lost masked thrown)) t x w own))
      stands x w (Some b) e =
          (elim (find (is_task t) (filter (λ z. not (is_under T s z && is_some z.struck)) T.tasks)) as (λ o. find (is_task t) (filter (λ z. not (is_under T s z && is_some z.struck)) T.tasks) ≡ o → seat_in (made_act T u (Release s lost masked thrown)) o ≡ None) [
            | None ↦ λ k. refl
            | Some y ↦ λ k.
                let before : task_of T t ≡ Some y = find_unfiltered (λ z. not (is_under T s z && is_some z.struck)) t T.next_task T.tasks y (sound r).tasks_fall k in
                let both : Some x ≡ Some y = sym w ∙ before in
                let same : x ≡ y = cc in
                let gone : is_none y.struck ≡ false = ap (λ (z : Task). is_none z.struck) (sym same) ∙ ap (λ (o : Option Blow). is_none o) e in
                ap (λ (c : Bool). cond c (Some (seat_of (made_act T u (Release s lost masked thrown)) y)) None) gone
          ]) refl ∙ sym (ap (λ (o : Option Blow). cond (is_none o) (Some (seat_of T x)) None) e)

  pub others_told : (act : Act) → AllowedAct T u act → Starts act t → seat_told (made_act T u act) t ≡ seat_told T t
  others_told (Open s p path) may new = same_seat T (made_act T u (Open s p path)) t refl (rw skip refl)
  others_told (Calls from to s p child path) may new =
      same_seat T (made_act T u (Calls from to s p child path)) t (find_unchanged u t waiting (λ z. refl) apart (born T child s from to ∷ T.tasks) ∙ found_born T child t s from to new) (rw skip refl)
  others_told (Spawn child s from to path) may new =
      same_seat T (made_act T u (Spawn child s from to path)) t (found_born T child t s from to new) refl
  others_told (Arrive p) may new =
      same_seat T (made_act T u (Arrive p)) t (find_unchanged u t (λ z. record z { place = At p }) (λ z. refl) apart T.tasks) refl
  others_told (Wait s thrown) may new =
      same_seat T (made_act T u (Wait s thrown)) t (find_unchanged u t waiting (λ z. refl) apart T.tasks)
      (links_faulted (opened_by t) (is_scope s) (λ g. record g { body = thrown }) T.scopes (λ g. refl) (λ g. refl))
  others_told (Release s lost masked thrown) may new = released s lost masked thrown may
  others_told (End thrown) may new =
      let z = may.task in
      let V : Tree = change_scope (λ g. record g { ends = g.ends ++ thrown }) z.under (record T { tasks = filter (λ y. not (is_task u y)) T.tasks }) in
      subst (λ (W : Tree). seat_told W t ≡ seat_told T t) (sym (ended T u thrown z may.stands))
      (same_seat T V t (other_left u t apart T.tasks)
      (links_faulted (opened_by t) (is_scope z.under) (λ g. record g { ends = g.ends ++ thrown }) T.scopes (λ g. refl) (λ g. refl)))
  others_told (Print value path) may new = refl
  others_told (Census places path) may new = refl

-- The task itself.

pub told_some : (V : Tree) (t : TaskId) (y : Task) (w : Seat) → task_of V t ≡ Some y → y.struck ≡ None → seat_of V y ≡ w → seat_told V t ≡ Some w
told_some V t y w found free is =
    ap (seat_in V) found ∙ (ap (λ (o : Option Blow). cond (is_none o) (Some (seat_of V y)) None) free ∙ ap (λ (x : Seat). Some x) is)

-- the row of a task that acts is that of the task
pub is_seat : (T : Tree) (t : TaskId) (x : Task) (w : Seat) → task_of T t ≡ Some x → x.struck ≡ None → seat_told T t ≡ Some w → w ≡ seat_of T x
is_seat T t x w found free told =
    let both : Some w ≡ Some (seat_of T x) = sym told ∙ told_some T t x (seat_of T x) found free refl in
    cc

module _ (T : Tree) (r : Reached T) (t : TaskId) (w : Seat) (told : seat_told T t ≡ Some w) where
  low : (x : Task) → task_of T t ≡ Some x → t.0 < T.next_task
  low x found = task_below T.next_task T.tasks t x (sound r).tasks_fall found

  as_told : (V : Tree) (f : Seat → Seat) (x : Task) → task_of T t ≡ Some x → x.struck ≡ None → seat_told V t ≡ Some (f (seat_of T x)) → seat_told V t ≡ Some (f w)
  as_told V f x found free e = e ∙ ap (λ (y : Seat). Some (f y)) (sym (is_seat T t x w found free told))

  pub own_open : (s p : ScopeId) (path : List ℕ) → AllowedAct T t (Open s p path) → seat_told (made_act T t (Open s p path)) t ≡ Some (record w { who = record w.who { inner = s } })
  own_open s p path may =
      let x = may.task in
      let V : Tree = made_act T t (Open s p path) in
      let own : (t.0 == x.number.0) ≡ true = eq-eqb t.0 x.number.0 (sym (number-of T t x may.stands)) in
      let inside : inner V x ≡ s = rw (own, inner, own_scope) refl in
      as_told V (λ (y : Seat). record y { who = record y.who { inner = s } }) x may.stands may.unstruck
      (told_some V t x _ may.stands may.unstruck (ap (λ (v : ScopeId). (let y : Seat = record { who = record { task = x.number; scope = x.under; inner = v; place = x.place }; waits = x.waits } in y)) inside))

  pub own_call : (from to : PlaceId) (s p : ScopeId) (callee : TaskId) (path : List ℕ) → AllowedAct T t (Calls from to s p callee path) → seat_told (made_act T t (Calls from to s p callee path)) t ≡ Some (record w { who = record w.who { inner = s }; waits = true })
  own_call from to s p callee path may =
      let x = may.task in
      let V : Tree = made_act T t (Calls from to s p callee path) in
      let below = low x may.stands in
      let next = may.asks.3 in
      let other : callee.0 ≢ t.0 = λ e. absurd (omega (arith, below, next, e)) in
      let own : (t.0 == x.number.0) ≡ true = eq-eqb t.0 x.number.0 (sym (number-of T t x may.stands)) in
      let inside : inner V (waiting x) ≡ s = rw (own, inner, own_scope) refl in
      let there = found_changed waiting t (born T callee s from to ∷ T.tasks) x (λ y. refl) (found_born T callee t s from to other ∙ may.stands) in
      as_told V (λ (y : Seat). record y { who = record y.who { inner = s }; waits = true }) x may.stands may.unstruck
      (told_some V t (waiting x) _ there may.unstruck (ap (λ (v : ScopeId). (let y : Seat = record { who = record { task = x.number; scope = x.under; inner = v; place = x.place }; waits = true } in y)) inside))

  pub own_spawn : (child : TaskId) (s : ScopeId) (from to : PlaceId) (path : List ℕ) → AllowedAct T t (Spawn child s from to path) → seat_told (made_act T t (Spawn child s from to path)) t ≡ Some w
  own_spawn child s from to path may =
      let x = may.task in
      let below = low x may.stands in
      let next = may.asks.1 in
      let other : child.0 ≢ t.0 = λ e. absurd (omega (arith, below, next, e)) in
      let V : Tree = made_act T t (Spawn child s from to path) in
      as_told V (λ (y : Seat). y) x may.stands may.unstruck (told_some V t x _ (found_born T child t s from to other ∙ may.stands) may.unstruck refl)

  pub own_arrive : (p : PlaceId) → AllowedAct T t (Arrive p) → seat_told (made_act T t (Arrive p)) t ≡ Some (record w { who = record w.who { place = At p } })
  own_arrive p may =
      let x = may.task in
      let V : Tree = made_act T t (Arrive p) in
      as_told V (λ (y : Seat). record y { who = record y.who { place = At p } }) x may.stands may.unstruck
      (told_some V t (record x { place = At p }) _ (found_changed (λ y. record y { place = At p }) t T.tasks x (λ y. refl) may.stands) may.unstruck refl)

  pub own_wait : (s : ScopeId) (thrown : List Fault) → AllowedAct T t (Wait s thrown) → seat_told (made_act T t (Wait s thrown)) t ≡ Some (record w { waits = true })
  own_wait s thrown may =
      let x = may.task in
      let V : Tree = made_act T t (Wait s thrown) in
      let own = links_faulted (opened_by t) (is_scope s) (λ g. record g { body = thrown }) T.scopes (λ g. refl) (λ g. refl) in
      let inside : inner V x ≡ inner T x = inner_as T V t x may.stands own in
      as_told V (λ (y : Seat). record y { waits = true }) x may.stands may.unstruck
      (told_some V t (waiting x) _ (found_changed waiting t T.tasks x (λ y. refl) may.stands) may.unstruck
      (ap (λ (v : ScopeId). (let y : Seat = record { who = record { task = x.number; scope = x.under; inner = v; place = x.place }; waits = true } in y)) inside))

  pub own_end : (thrown : List Fault) → AllowedAct T t (End thrown) → seat_told (made_act T t (End thrown)) t ≡ None
  own_end thrown may =
      let V : Tree = change_scope (λ g. record g { ends = g.ends ++ thrown }) may.task.under (record T { tasks = filter (λ y. not (is_task t y)) T.tasks }) in
      subst (λ (W : Tree). seat_told W t ≡ None) (sym (ended T t thrown may.task may.stands)) (ap (seat_in V) (none_left t T.tasks))

-- Deaths and joins.

module _ (T : Tree) (b : Blow) where
  free : (x : Task) → x.struck ≡ None → (h : Bool) → is_hit b.place x.place ≡ h → seat_in (strike b T) (Some (hit b x)) ≡ unhit b.place (seat_in T (Some x))
  free x e true h =
      let is : hit b x ≡ record x { struck = Some b } = ap (λ (o : Option Blow). cond (is_none o && is_hit b.place x.place) (record x { struck = Some b }) x) e ∙ ap (λ (c : Bool). cond c (record x { struck = Some b }) x) h in
      ap (λ (y : Task). seat_in (strike b T) (Some y)) is
      ∙ sym (ap (λ (o : Option Blow). unhit b.place (cond (is_none o) (Some (seat_of T x)) None)) e ∙ ap (λ (c : Bool). cond c None (Some (seat_of T x))) h)
  free x e false h =
      let is : hit b x ≡ x = ap (λ (o : Option Blow). cond (is_none o && is_hit b.place x.place) (record x { struck = Some b }) x) e ∙ ap (λ (c : Bool). cond c (record x { struck = Some b }) x) h in
      ap (λ (y : Task). seat_in (strike b T) (Some y)) is
      ∙ (ap (λ (o : Option Blow). cond (is_none o) (Some (seat_of T x)) None) e
      ∙ sym (ap (λ (o : Option Blow). unhit b.place (cond (is_none o) (Some (seat_of T x)) None)) e ∙ ap (λ (c : Bool). cond c None (Some (seat_of T x))) h))

  struck : (x : Task) (c : Blow) → x.struck ≡ Some c → seat_in (strike b T) (Some (hit b x)) ≡ unhit b.place (seat_in T (Some x))
  struck x c e =
      let is : hit b x ≡ x = ap (λ (o : Option Blow). cond (is_none o && is_hit b.place x.place) (record x { struck = Some b }) x) e in
      ap (λ (y : Task). seat_in (strike b T) (Some y)) is
      ∙ (ap (λ (o : Option Blow). cond (is_none o) (Some (seat_of T x)) None) e
      ∙ sym (ap (λ (o : Option Blow). unhit b.place (cond (is_none o) (Some (seat_of T x)) None)) e))

pub dies_told : (T : Tree) (b : Blow) (t : TaskId) → seat_told (strike b T) t ≡ unhit b.place (seat_told T t)
dies_told T b t =
    ap (seat_in (strike b T)) (find-hit b t T.tasks) ∙ of_found (task_of T t)
  where
    of_found : (o : Option Task) → seat_in (strike b T) (option_map (hit b) o) ≡ unhit b.place (seat_in T o)
    of_found None = refl
    of_found (Some x) =
        (elim x.struck as (λ k. x.struck ≡ k → seat_in (strike b T) (Some (hit b x)) ≡ unhit b.place (seat_in T (Some x))) [
          | None ↦ λ e. free T b x e (is_hit b.place x.place) refl
          | Some c ↦ λ e. struck T b x c e
        ]) refl

pub joins_told : (T : Tree) (t : TaskId) → seat_told (widened T) t ≡ seat_told T t
joins_told T t = refl
