-- The rows of a tree beside the births of a history.
use Rattle.std.proofs.Common.{◌≡◌, ℕ, ◌<◌, ◌≤◌, Bool, true, false, not, ◌||◌, ◌==◌, List, [], ◌∷◌, filter, Option, Some, None, is_some, option_map, refl, ap, sym, subst, ◌∙◌, arith}
use Rattle.std.specs.List.{list_any, find}
use Rattle.std.proofs.lemmas.Bool.{eqb-true, eq-eqb, ne_eqb, or_left, or_right, cond_both, true≢false}
use Rattle.rx_rules.proofs.Common.{PlaceId, TaskId, is_task, change_first, TaskBirth, is_on, until, has_ended, has_landed, hit_at, walk, links, is_birth_of}
use Rattle.rx_rules.specs.declared.tasks.Where.{Where}
use Rattle.rx_rules.specs.declared.tasks.Where.TheVariants.{At, Travel}
use Rattle.rx_rules.specs.declared.entries.Entry.{Entry}
use Rattle.rx_rules.specs.Laws.{was_released}
use Rattle.rx_history_laws.proofs.Lines.{Bone, nums}
use Rattle.rx_rules.specs.declared.tasks.Task.{Task}
use Rattle.rx_rules.specs.declared.tasks.Blow.{Blow}

-- what is read from the entries so far. Where an entry changes none of it, the facts before and after are one and the same
-- by computing.
pub record Facts : Type 0 where
  pub ended : ℕ → Bool
  pub landed : ℕ → Bool
  pub hit : TaskBirth → Option ℕ
  pub walk : ℕ → List ℕ
  pub released : ℕ → Bool

abbrev pub facts : List Entry → Facts
facts past =
    record { ended = has_ended past; landed = has_landed past; hit = hit_at past; walk = walk (links past); released = was_released past }

-- where a task is: at the end of its travel, or still on its way
abbrev pub IsWhere : Bool → TaskBirth → Where → Type 0
IsWhere moved b (At p) = (moved ≡ true) × (p.0 ≡ b.to)
IsWhere moved b (Travel from to) = (moved ≡ false) × (from.0 ≡ b.from) × (to.0 ≡ b.to)

abbrev pub has_moved : Facts → TaskBirth → Bool
has_moved F b = (b.from == b.to) || F.landed b.task

abbrev pub blow_place : Blow → ℕ
blow_place w = w.place.0

-- the task that was born so has this row
pub record IsRow (F : Facts) (B : List Bone) (b : TaskBirth) (x : Task) : Type 0 where
  pub number : x.number.0 ≡ b.task
  pub under : x.under.0 ≡ b.under
  pub place : IsWhere (has_moved F b) b x.place
  pub struck : option_map blow_place x.struck ≡ F.hit b
  pub going : F.ended b.task ≡ false
  pub stands : is_on b.under (nums B) ≡ true

-- the task that was born so has no row any more: it has ended and no death touched it, or it was lost and a release took it
-- away. In the second case a scope was released that comes before each standing scope of its chain.
pub data IsOut (F : Facts) (B : List Bone) (b : TaskBirth) : Type 0 where
  ended : F.ended b.task ≡ true → F.hit b ≡ None → IsOut F B b
  gone : is_some (F.hit b) ≡ true → ((n : ℕ) → is_on n (nums B) ≡ true → is_on n (F.walk b.under) ≡ true → list_any F.released (until n (F.walk b.under)) ≡ true) → IsOut F B b

-- births and rows, both the newest first
pub data Aligned (F : Facts) (B : List Bone) : List TaskBirth → List Task → Type 0 where
  none : Aligned F B [] []
  out : {b : TaskBirth} {bs : List TaskBirth} {xs : List Task} → IsOut F B b → Aligned F B bs xs → Aligned F B (b ∷ bs) xs
  row : {b : TaskBirth} {x : Task} {bs : List TaskBirth} {xs : List Task} → IsRow F B b x → Aligned F B bs xs → Aligned F B (b ∷ bs) (x ∷ xs)

-- numbers of tasks fall from below n, the scopes that they hang under are below m
abbrev pub BirthsOk : (ℕ → Bool) → ℕ → ℕ → List TaskBirth → Type 0
BirthsOk born n m [] = Unit {0}
BirthsOk born n m (b ∷ bs) = (b.task < n) × (b.under < m) × (born b.task ≡ true) × BirthsOk born b.task m bs

pub births-ok_up : (born after : ℕ → Bool) (n k m l : ℕ) → ((t : ℕ) → born t ≡ true → after t ≡ true) → n ≤ k → m ≤ l → (bs : List TaskBirth) → BirthsOk born n m bs → BirthsOk after k l bs
births-ok_up born after n k m l more nk ml [] h = tt
births-ok_up born after n k m l more nk ml (b ∷ bs) h =
    (let low : b.task < n = h.0 in omega arith, let low : b.under < m = h.1 in omega arith, more b.task h.2, births-ok_up born after b.task b.task m l more (omega arith) ml bs h.3)

-- A change that touches no row.
pub aligned-kept : (F G : Facts) (B C : List Bone) (born : ℕ → Bool) (m : ℕ) → ((b : TaskBirth) → b.under < m → IsOut F B b → IsOut G C b) → ((b : TaskBirth) (x : Task) → b.under < m → IsRow F B b x → IsRow G C b x) → (n : ℕ) {bs : List TaskBirth} {xs : List Task} → BirthsOk born n m bs → Aligned F B bs xs → Aligned G C bs xs
aligned-kept F G B C born m outs rows n h none = none
aligned-kept F G B C born m outs rows n h (out {b = b} o a) = out (outs b h.1 o) (aligned-kept F G B C born m outs rows b.task h.3 a)
aligned-kept F G B C born m outs rows n h (row {b = b} {x = x} r a) = row (rows b x h.1 r) (aligned-kept F G B C born m outs rows b.task h.3 a)

-- A change of a row in what no birth tells, as whether the task waits.
pub aligned-change : (F : Facts) (B : List Bone) (p : Task → Bool) (f : Task → Task) → ((b : TaskBirth) (x : Task) → IsRow F B b x → IsRow F B b (f x)) → {bs : List TaskBirth} {xs : List Task} → Aligned F B bs xs → Aligned F B bs (change_first p f xs)
aligned-change F B p f same none = none
aligned-change F B p f same (out o a) = out o (aligned-change F B p f same a)
aligned-change F B p f same (row {b = b} {x = x} {bs = bs} {xs = xs} r a) =
    cond_both (p x) (f x ∷ xs) (x ∷ change_first p f xs) (Aligned F B (b ∷ bs)) (λ e. row (same b x r) a)
    (λ e. row r (aligned-change F B p f same a))

-- The row that a search finds is that of a birth.
pub record Found (F : Facts) (B : List Bone) (bs : List TaskBirth) (x : Task) : Type 0 where
  pub birth : TaskBirth
  pub is_row : IsRow F B birth x
  pub born : list_any (is_birth_of birth.task) bs ≡ true

found_step : (F : Facts) (B : List Bone) (p : Task → Bool) (b : TaskBirth) (y : Task) (bs : List TaskBirth) (xs : List Task) (x : Task) (t : Bool) → p y ≡ t → IsRow F B b y → (find p xs ≡ Some x → Found F B bs x) → find p (y ∷ xs) ≡ Some x → Found F B (b ∷ bs) x
found_step F B p b y bs xs x true e r on h =
    let same : y ≡ x = let k : Some y ≡ Some x = rw e at h in cc in
    record { birth = b; is_row = subst (λ v. IsRow F B b v) same r; born = or_left (b.task == b.task) (list_any (is_birth_of b.task) bs) (eq-eqb b.task b.task refl) }
found_step F B p b y bs xs x false e r on h =
    let f = on (rw e at h) in
    record { birth = f.birth; is_row = f.is_row; born = or_right (b.task == f.birth.task) (list_any (is_birth_of f.birth.task) bs) f.born }

pub found : (F : Facts) (B : List Bone) (p : Task → Bool) {bs : List TaskBirth} {xs : List Task} → Aligned F B bs xs → (x : Task) → find p xs ≡ Some x → Found F B bs x
found F B p none x h = cc
found F B p (out {b = b} {bs = bs} o a) x h =
    let f = found F B p a x h in
    record { birth = f.birth; is_row = f.is_row; born = or_right (b.task == f.birth.task) (list_any (is_birth_of f.birth.task) bs) f.born }
found F B p (row {b = b} {x = y} {bs = bs} {xs = xs} r a) x h = found_step F B p b y bs xs x (p y) refl r (found F B p a x) h

-- An arrival.

abbrev pub landed_too : ℕ → Facts → Facts
landed_too t F = record F { landed = λ u. (t == u) || F.landed u }

out-landed : (F : Facts) (B : List Bone) (t : ℕ) (b : TaskBirth) → IsOut F B b → IsOut (landed_too t F) B b
out-landed F B t b (ended e h) = ended e h
out-landed F B t b (gone e h) = gone e h

row-landed : (F : Facts) (B : List Bone) (t : ℕ) (b : TaskBirth) (x : Task) → (t == b.task) ≡ false → IsRow F B b x → IsRow (landed_too t F) B b x
row-landed F B t b x other r =
    record { number = r.number; under = r.under; place = rw other (r.place); struck = r.struck; going = r.going; stands = r.stands }

-- the rows of other tasks stay
arrive-other : (F : Facts) (B : List Bone) (born : ℕ → Bool) (t n m : ℕ) → n ≤ t → {bs : List TaskBirth} {xs : List Task} → BirthsOk born n m bs → Aligned F B bs xs → Aligned (landed_too t F) B bs xs
arrive-other F B born t n m le h none = none
arrive-other F B born t n m le h (out {b = b} o a) =
    out (out-landed F B t b o) (arrive-other F B born t b.task m (let low : b.task < n = h.0 in omega arith) h.3 a)
arrive-other F B born t n m le h (row {b = b} {x = x} r a) =
    let other : (t == b.task) ≡ false = ne_eqb t b.task (λ e. let low : b.task < n = h.0 in omega arith) in
    row (row-landed F B t b x other r) (arrive-other F B born t b.task m (let low : b.task < n = h.0 in omega arith) h.3 a)

abbrev pub arrived : PlaceId → Task → Task
arrived p x = record x { place = At p }

-- the first row of task t, if there is one, travels to p
abbrev pub TravelsTo : TaskId → PlaceId → List Task → Type 0
TravelsTo t p xs = (x : Task) → find (is_task t) xs ≡ Some x → (from : PlaceId) × (x.place ≡ Travel from p)

row-arrives : (F : Facts) (B : List Bone) (t : ℕ) (p from : PlaceId) (b : TaskBirth) (x : Task) → t ≡ b.task → x.place ≡ Travel from p → IsRow F B b x → IsRow (landed_too t F) B b (arrived p x)
row-arrives F B t p from b x same e r =
    let w : IsWhere (has_moved F b) b (Travel from p) = rw e at (r.place) in
    record {
      number = r.number;
      under = r.under;
      place = (or_right (b.from == b.to) ((t == b.task) || F.landed b.task) (or_left (t == b.task) (F.landed b.task) (eq-eqb t b.task same)), w.2);
      struck = r.struck;
      going = r.going;
      stands = r.stands;
    }

arrive_step : (F : Facts) (B : List Bone) (born : ℕ → Bool) (t : TaskId) (p : PlaceId) (m : ℕ) (b : TaskBirth) (x : Task) (bs : List TaskBirth) (xs : List Task) (y : Bool) → is_task t x ≡ y → IsRow F B b x → BirthsOk born b.task m bs → Aligned F B bs xs → TravelsTo t p (x ∷ xs) → (TravelsTo t p xs → Aligned (landed_too t.0 F) B bs (change_first (is_task t) (arrived p) xs)) → Aligned (landed_too t.0 F) B (b ∷ bs) (change_first (is_task t) (arrived p) (x ∷ xs))
arrive_step F B born t p m b x bs xs true e r h a travel on =
    let same : t.0 ≡ b.task = sym (eqb-true x.number.0 t.0 e) ∙ r.number in
    let g = travel x (rw e) in
    rw e (row (row-arrives F B t.0 p g.0 b x same g.1 r) (arrive-other F B born t.0 b.task m (omega arith) h a))
arrive_step F B born t p m b x bs xs false e r h a travel on =
    let other : (t.0 == b.task) ≡ false = ne_eqb t.0 b.task (λ s. true≢false (sym (eq-eqb x.number.0 t.0 (r.number ∙ sym s)) ∙ e)) in
    rw e (row (row-landed F B t.0 b x other r) (on (λ y k. travel y (rw e k))))

pub aligned-arrive : (F : Facts) (B : List Bone) (born : ℕ → Bool) (t : TaskId) (p : PlaceId) (n m : ℕ) {bs : List TaskBirth} {xs : List Task} → BirthsOk born n m bs → Aligned F B bs xs → TravelsTo t p xs → Aligned (landed_too t.0 F) B bs (change_first (is_task t) (arrived p) xs)
aligned-arrive F B born t p n m h none travel = none
aligned-arrive F B born t p n m h (out {b = b} o a) travel = out (out-landed F B t.0 b o) (aligned-arrive F B born t p b.task m h.3 a travel)
aligned-arrive F B born t p n m h (row {b = b} {x = x} {bs = bs} {xs = xs} r a) travel =
    arrive_step F B born t p m b x bs xs (is_task t x) refl r h.3 a travel (aligned-arrive F B born t p b.task m h.3 a)

-- An end.

abbrev pub ended_too : ℕ → Facts → Facts
ended_too t F = record F { ended = λ u. (t == u) || F.ended u }

out-ended : (F : Facts) (B : List Bone) (t : ℕ) (b : TaskBirth) → IsOut F B b → IsOut (ended_too t F) B b
out-ended F B t b (ended e h) = ended (or_right (t == b.task) (F.ended b.task) e) h
out-ended F B t b (gone e h) = gone e h

row-ended : (F : Facts) (B : List Bone) (t : ℕ) (b : TaskBirth) (x : Task) → (t == b.task) ≡ false → IsRow F B b x → IsRow (ended_too t F) B b x
row-ended F B t b x other r =
    record { number = r.number; under = r.under; place = r.place; struck = r.struck; going = rw other (r.going); stands = r.stands }

abbrev pub is_other : TaskId → Task → Bool
is_other t y = not (is_task t y)

end-other : (F : Facts) (B : List Bone) (born : ℕ → Bool) (t : TaskId) (n m : ℕ) → n ≤ t.0 → {bs : List TaskBirth} {xs : List Task} → BirthsOk born n m bs → Aligned F B bs xs → Aligned (ended_too t.0 F) B bs (filter (is_other t) xs)
end-other F B born t n m le h none = none
end-other F B born t n m le h (out {b = b} o a) =
    out (out-ended F B t.0 b o) (end-other F B born t b.task m (let low : b.task < n = h.0 in omega arith) h.3 a)
end-other F B born t n m le h (row {b = b} {x = x} r a) =
    let low : b.task < n = h.0 in
    let other : (t.0 == b.task) ≡ false = ne_eqb t.0 b.task (λ e. omega arith) in
    let stays : is_task t x ≡ false = ne_eqb x.number.0 t.0 (λ e. let k : x.number.0 ≡ b.task = r.number in omega arith) in
    rw stays (row (row-ended F B t.0 b x other r) (end-other F B born t b.task m (omega arith) h.3 a))

abbrev pub Unstruck : TaskId → List Task → Type 0
Unstruck t xs = (x : Task) → find (is_task t) xs ≡ Some x → x.struck ≡ None

end_step : (F : Facts) (B : List Bone) (born : ℕ → Bool) (t : TaskId) (m : ℕ) (b : TaskBirth) (x : Task) (bs : List TaskBirth) (xs : List Task) (y : Bool) → is_task t x ≡ y → IsRow F B b x → BirthsOk born b.task m bs → Aligned F B bs xs → Unstruck t (x ∷ xs) → (Unstruck t xs → Aligned (ended_too t.0 F) B bs (filter (is_other t) xs)) → Aligned (ended_too t.0 F) B (b ∷ bs) (filter (is_other t) (x ∷ xs))
end_step F B born t m b x bs xs true e r h a free on =
    let same : t.0 ≡ b.task = sym (eqb-true x.number.0 t.0 e) ∙ r.number in
    let u : x.struck ≡ None = free x (rw e) in
    let k : F.hit b ≡ None = sym (r.struck) ∙ ap (option_map blow_place) u in
    rw e (out (ended (or_left (t.0 == b.task) (F.ended b.task) (eq-eqb t.0 b.task same)) k) (end-other F B born t b.task m (omega arith) h a))
end_step F B born t m b x bs xs false e r h a free on =
    let other : (t.0 == b.task) ≡ false = ne_eqb t.0 b.task (λ s. true≢false (sym (eq-eqb x.number.0 t.0 (r.number ∙ sym s)) ∙ e)) in
    rw e (row (row-ended F B t.0 b x other r) (on (λ y k. free y (rw e k))))

pub aligned-end : (F : Facts) (B : List Bone) (born : ℕ → Bool) (t : TaskId) (n m : ℕ) {bs : List TaskBirth} {xs : List Task} → BirthsOk born n m bs → Aligned F B bs xs → Unstruck t xs → Aligned (ended_too t.0 F) B bs (filter (is_other t) xs)
aligned-end F B born t n m h none free = none
aligned-end F B born t n m h (out {b = b} o a) free = out (out-ended F B t.0 b o) (aligned-end F B born t b.task m h.3 a free)
aligned-end F B born t n m h (row {b = b} {x = x} {bs = bs} {xs = xs} r a) free =
    end_step F B born t m b x bs xs (is_task t x) refl r h.3 a free (aligned-end F B born t b.task m h.3 a)
