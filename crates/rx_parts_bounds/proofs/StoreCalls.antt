-- Store calls of a term: those that its task makes itself, and those of the tasks that it starts.
use Rattle.std.proofs.Common.{◌≡◌, ℕ, suc, ◌+◌, ◌-◌, ◌*◌, ◌≤◌, List, refl, arith, max}
use Rattle.std.proofs.Math.Nat.{suc-mul}
use Rattle.rx_rules.proofs.Common.{PlaceId, Block, Nothing, Then, Stmt, New, Get, Put, Forget, Async, AtAsync, At, Finish, If, Repeat, Try, Term, Empty, Raise, Run, Turns, Trying, Body, Held, Local, Answer, answered, granted, child, Vars, does, items, brought, started_by}
use Rattle.rx_rules.specs.declared.entries.Act.{Act}
use Rattle.rx_rules.specs.Plays.{Fits}
use Rattle.rx_runs.specs.AnyAnswers.{AsksStore}
use Rattle.rx_runs.proofs.Weighing.{Weights, Sums, Pays, share, size_items, local_falls, answer_falls, entry_falls}

-- those that a task makes itself
abbrev mutual
  pub own_of : Stmt → ℕ
  own_of (New name words) = 1
  own_of (Get name target index) = 1
  own_of (Put target index value) = 1
  own_of (Forget target) = 1
  own_of (Finish body) = own body
  own_of (If test first other) = max (own first) (own other)
  own_of (Repeat times body) = times * own body
  own_of (Try body dead_only handler) = own body + own handler
  own_of _ = 0

  pub own : Block → ℕ
  own Nothing = 0
  own (Then first rest) = own_of first + own rest

-- and those of the tasks that it starts
abbrev mutual
  pub kids_of : Stmt → ℕ
  kids_of (Async body) = own body + kids body
  kids_of (AtAsync place body) = own body + kids body
  kids_of (At place body) = own body + kids body
  kids_of (Finish body) = kids body
  kids_of (If test first other) = max (kids first) (kids other)
  kids_of (Repeat times body) = times * kids body
  kids_of (Try body dead_only handler) = kids body + kids handler
  kids_of _ = 0

  pub kids : Block → ℕ
  kids Nothing = 0
  kids (Then first rest) = kids_of first + kids rest

-- A term.

abbrev load : (Stmt → ℕ) → (Block → ℕ) → Term → ℕ
load f g Empty = 0
load f g (Raise faults) = 0
load f g (Run stmt x rest) = f stmt + load f g rest
load f g (Turns body x k times rest) = (times - k) * g body + load f g rest
load f g (Trying inside dead_only handler x rest) = load f g inside + g handler + load f g rest
load f g (Body inside rest) = load f g inside + load f g rest
load f g (Held rest) = load f g rest

abbrev by_calls : (Stmt → ℕ) → (Block → ℕ) → ℕ → Weights
by_calls f g call = record { statement = f; block = g; handler = g; turns = λ n b. n * g b; body = 0; held = 0; step = 0; call = call; entry = 0 }

load_sums : (f : Stmt → ℕ) (g : Block → ℕ) (call : ℕ) → g Nothing ≡ 0 → ((s : Stmt) (b : Block) → g (Then s b) ≡ f s + g b) → Sums (by_calls f g call) (load f g)
load_sums f g call none then = record {
  empty = refl;
  raised = λ faults. refl;
  run = λ s x rest. refl;
  repeating = λ b x k times rest. refl;
  trying = λ inside dead_only b x rest. refl;
  finishing = λ inside rest. (let it : load f g inside + load f g rest ≡ load f g inside + 0 + load f g rest = omega arith in it);
  holding = λ rest. (let it : load f g rest ≡ 0 + load f g rest = omega arith in it);
  nothing = none;
  then = then;
}

free : (n : ℕ) → 0 ≤ n
free n = omega arith

kept : (n : ℕ) → n + 0 ≤ n
kept n = omega arith

chosen : (a b : ℕ) → (a + 0 ≤ max a b) × (b + 0 ≤ max a b)
chosen a b = (omega arith, omega arith)

turned : (n w : ℕ) → w + n * w + 0 ≤ suc n * w
turned n w = let p : suc n * w ≡ n * w + w = suc-mul n w in omega (arith, p)

-- What a task makes itself.

abbrev pub owns : Term → ℕ
owns t = load own_of own t

abbrev no_calls : Term → ℕ
no_calls t = 0

by_own : Sums (by_calls own_of own 1) owns
by_own = load_sums own_of own 1 refl (λ s b. refl)

one : 1 ≤ 1
one = omega arith

own_pays : Pays (by_calls own_of own 1) no_calls
own_pays = record {
  raises = λ s. free (own_of s);
  makes = λ name words. one;
  gets = λ name target index. one;
  puts = λ target index value. one;
  forgets = λ target. one;
  counts = λ name. free 0;
  prints = λ value. free 0;
  spawns = λ b x. kept 0;
  spawns_at = λ place b x. kept 0;
  calls = λ place b x. (let it : 0 + (0 + 0) ≤ 0 = omega arith in it);
  opens = λ b. (let it : own b + 0 + 0 ≤ own b = omega arith in it);
  waits = kept 0;
  releases = free 0;
  first = λ test a b. (chosen (own a) (own b)).0;
  other = λ test a b. (chosen (own a) (own b)).1;
  repeats = λ times b. kept (times * own b);
  turns = λ times b. turned times (own b);
  over = λ times b. free (times * own b);
  tries = λ b dead_only h. kept (own b + own h);
  handles = λ b. kept (own b);
}

pub own_items : (b : Block) (x : List ℕ) → owns (items b x Empty) ≡ own b + 0
own_items b x = size_items (by_calls own_of own 1) owns by_own b x 0 Empty

pub local_owns : (vars : Vars) (here : ℕ) (t after : Term) (left : Vars) → does vars here t ≡ Local after left → owns after + 0 ≤ owns t
local_owns vars here t after left is = local_falls (by_calls own_of own 1) owns no_calls by_own own_pays vars here t after left is

pub answer_owns : (vars : Vars) (here : ℕ) (t : Term) (a : Answer) → AsksStore (does vars here t) → owns (answered a t) + 1 ≤ owns t
answer_owns vars here t a h = answer_falls (by_calls own_of own 1) owns no_calls by_own own_pays vars here t a h

pub entry_owns : (vars : Vars) (here : PlaceId) (t : Term) (act : Act) → Fits here t (does vars here.0 t) act → owns (granted (brought act) t) + share no_calls (child t) (started_by act) + 0 ≤ owns t
entry_owns vars here t act h = entry_falls (by_calls own_of own 1) owns no_calls by_own own_pays vars here t act h

-- What it gives away to the tasks that it starts.

abbrev pub gives : Term → ℕ
gives t = load kids_of kids t

abbrev pub handed : Term → ℕ
handed t = owns t + gives t

by_kids : Sums (by_calls kids_of kids 0) gives
by_kids = load_sums kids_of kids 0 refl (λ s b. refl)

pub kids_items : (b : Block) (x : List ℕ) → gives (items b x Empty) ≡ kids b + 0
kids_items b x = size_items (by_calls kids_of kids 0) gives by_kids b x 0 Empty

spawned : (b : Block) (x : List ℕ) → (owns (items b x Empty) + gives (items b x Empty)) + 0 ≤ own b + kids b
spawned b x = omega (arith, own_items b x, kids_items b x)

called : (b : Block) (x : List ℕ) → 0 + ((owns (items b x Empty) + gives (items b x Empty)) + 0) ≤ own b + kids b
called b x = omega (arith, own_items b x, kids_items b x)

kids_pay : Pays (by_calls kids_of kids 0) handed
kids_pay = record {
  raises = λ s. free (kids_of s);
  makes = λ name words. free 0;
  gets = λ name target index. free 0;
  puts = λ target index value. free 0;
  forgets = λ target. free 0;
  counts = λ name. free 0;
  prints = λ value. free 0;
  spawns = λ b x. spawned b x;
  spawns_at = λ place b x. spawned b x;
  calls = λ place b x. called b x;
  opens = λ b. (let it : kids b + 0 + 0 ≤ kids b = omega arith in it);
  waits = kept 0;
  releases = free 0;
  first = λ test a b. (chosen (kids a) (kids b)).0;
  other = λ test a b. (chosen (kids a) (kids b)).1;
  repeats = λ times b. kept (times * kids b);
  turns = λ times b. turned times (kids b);
  over = λ times b. free (times * kids b);
  tries = λ b dead_only h. kept (kids b + kids h);
  handles = λ b. kept (kids b);
}

pub local_gives : (vars : Vars) (here : ℕ) (t after : Term) (left : Vars) → does vars here t ≡ Local after left → gives after + 0 ≤ gives t
local_gives vars here t after left is = local_falls (by_calls kids_of kids 0) gives handed by_kids kids_pay vars here t after left is

pub answer_gives : (vars : Vars) (here : ℕ) (t : Term) (a : Answer) → AsksStore (does vars here t) → gives (answered a t) + 0 ≤ gives t
answer_gives vars here t a h = answer_falls (by_calls kids_of kids 0) gives handed by_kids kids_pay vars here t a h

pub entry_gives : (vars : Vars) (here : PlaceId) (t : Term) (act : Act) → Fits here t (does vars here.0 t) act → gives (granted (brought act) t) + share handed (child t) (started_by act) + 0 ≤ gives t
entry_gives vars here t act h = entry_falls (by_calls kids_of kids 0) gives handed by_kids kids_pay vars here t act h
