-- Worked histories of statements and stores: scripts, histories and journals whose every entry and event is told.
use Rattle.std.specs.Prelude.{ℕ, pos, negsuc, true, false, List, [], ◌∷◌, ◌++◌}
use Rattle.rx_base.specs.declared.ids.Kill.{Kill}
use Rattle.rx_base.specs.declared.values.Fault.TheVariants.{Dead, Thrown, Overflow, NoPlace, WrongPlace, Index}
use Rattle.rx_rules.specs.declared.entries.Act.TheVariants.{Open, At as Calls, Spawn, Arrive, Wait, Release, End, Print}
use Rattle.rx_rules.specs.declared.entries.Entry.{Entry}
use Rattle.rx_rules.specs.declared.entries.Entry.TheVariants.{Step, Root, Death}
use Rattle.rx_rules.specs.declared.events.Cell.TheVariants.{Make, MakeFull, Get as Gets, Put as Puts, Forget as Forgets, GetRefused}
use Rattle.rx_rules.specs.declared.events.PlaceEvent.{PlaceEvent}
use Rattle.rx_rules.specs.declared.events.PlaceEvent.TheVariants.{Done}
use Rattle.rx_rules.specs.Code.{Add, Sub, Mul, Less, Equal, Num, Name, Here, Bin, Block, Nothing, Then, SetTo, New, Get, Put}
use Rattle.rx_rules.specs.Code.{Print as Prints, Throw, Async, AtAsync, At, Finish, If, Repeat, Try}
use Rattle.rx_rules.specs.Run.{Given, IsRun}
use Rattle.rx_rules.specs.Examples.{t, s, p, m}

-- no whole run over heaps of so many words has a journal of place 0 that begins with these events
abbrev pub StoresNoRun : ℕ → List PlaceEvent → Type 0
StoresNoRun heap front =
    (code : Block) (places : ℕ) (kills : List Kill) (joins : List ℕ) (es : List Entry) (more : List PlaceEvent)
    (js : List (List PlaceEvent))
    → IsRun code (record { places = places; heap = heap; kills = kills; joins = joins }) es ((front ++ more) ∷ js) → ⊥

-- the history is in no whole run of the script under this setup
abbrev pub IsNoRun : Block → Given → List Entry → Type 0
IsNoRun code U es =
    (js : List (List PlaceEvent)) → IsRun code U es js → ⊥

-- set x = 1; repeat 2 { if x { print x; } else { print 7; } set x = 0; }
abbrev pub turns_script : Block
turns_script = Then (SetTo 0 (Num (pos 1))) (Then (Repeat 2 (Then (If (Name 0) (Then (Prints (Name 0)) Nothing)
    (Then (Prints (Num (pos 7))) Nothing)) (Then (SetTo 0 (Num (pos 0))) Nothing))) Nothing)

-- set x = 3; finish { async { print x; } set x = 4; }
abbrev pub copied_script : Block
copied_script = Then (SetTo 0 (Num (pos 3))) (Then (Finish (Then (Async (Then (Prints (Name 0)) Nothing))
    (Then (SetTo 0 (Num (pos 4))) Nothing))) Nothing)

-- try { throw 1; } catch dead { print 2; }
abbrev pub dead_script : Block
dead_script = Then (Try (Then (Throw (Num (pos 1))) Nothing) true (Then (Prints (Num (pos 2))) Nothing)) Nothing

-- try { throw 1; } catch { print 2; }
abbrev pub any_script : Block
any_script = Then (Try (Then (Throw (Num (pos 1))) Nothing) false (Then (Prints (Num (pos 2))) Nothing)) Nothing

-- try { finish { async { throw 1; } async { throw 2; } throw 3; } } catch { print 4; }
abbrev pub in_order_script : Block
in_order_script = Then (Try (Then (Finish (Then (Async (Then (Throw (Num (pos 1))) Nothing))
    (Then (Async (Then (Throw (Num (pos 2))) Nothing)) (Then (Throw (Num (pos 3))) Nothing)))) Nothing) false
    (Then (Prints (Num (pos 4))) Nothing)) Nothing

-- print (9223372036854775807 + 1);
abbrev pub too_large_script : Block
too_large_script = Then (Prints (Bin Add (Num (pos 9223372036854775807)) (Num (pos 1)))) Nothing

-- new r = 1; try { at 1 { get x = r[0]; } } catch { print 5; }
abbrev pub used_away_script : Block
used_away_script = Then (New 0 1) (Then (Try (Then (At (Num (pos 1))
    (Then (Get 1 0 (Num (pos 0))) Nothing)) Nothing) false (Then (Prints (Num (pos 5))) Nothing)) Nothing)

-- print here; print (2 - 5); print (2 * 3); print (1 < 2); print (2 < 2); print (3 == 3); print (3 == 4); print (4 == 3);
abbrev pub values_block : Block
values_block = Then (Prints Here) (Then (Prints (Bin Sub (Num (pos 2)) (Num (pos 5))))
    (Then (Prints (Bin Mul (Num (pos 2)) (Num (pos 3)))) (Then (Prints (Bin Less (Num (pos 1)) (Num (pos 2))))
    (Then (Prints (Bin Less (Num (pos 2)) (Num (pos 2)))) (Then (Prints (Bin Equal (Num (pos 3)) (Num (pos 3))))
    (Then (Prints (Bin Equal (Num (pos 3)) (Num (pos 4)))) (Then (Prints (Bin Equal (Num (pos 4)) (Num (pos 3)))) Nothing)))))))

-- at 1 { .. } with these statements
abbrev pub values_script : Block
values_script = Then (At (Num (pos 1)) values_block) Nothing

-- new r = 2; put r[1] = 5; get x = r[1]; print x; get y = r[0]; print y; get z = r[2];
abbrev pub kept_script : Block
kept_script = Then (New 0 2) (Then (Put 0 (Num (pos 1)) (Num (pos 5)))
    (Then (Get 1 0 (Num (pos 1))) (Then (Prints (Name 1)) (Then (Get 2 0 (Num (pos 0)))
    (Then (Prints (Name 2)) (Then (Get 3 0 (Num (pos 2))) Nothing))))))

-- at 5 async { }
abbrev pub nowhere_script : Block
nowhere_script = Then (AtAsync (Num (pos 5)) Nothing) Nothing

-- try { finish { at 1 async { print 7; } throw 3; } } catch dead { print 9; }
abbrev pub mixed_script : Block
mixed_script = Then (Try (Then (Finish (Then (AtAsync (Num (pos 1)) (Then (Prints (Num (pos 7))) Nothing))
    (Then (Throw (Num (pos 3))) Nothing))) Nothing) true (Then (Prints (Num (pos 9))) Nothing)) Nothing

-- print 7;
abbrev pub value_script : Block
value_script = Then (Prints (Num (pos 7))) Nothing

-- the journals of two places whose stores were never asked
abbrev pub no_events : List (List PlaceEvent)
no_events =
    [] ∷ [] ∷ []

-- turn 0 prints the variable, and turn 1 prints 7, since turn 0 has set the variable to 0
abbrev pub turns : List Entry
turns =
    Step (t 0) (Print (pos 1) (1 ∷ 0 ∷ 0 ∷ 0 ∷ 0 ∷ [])) ((0 ∷ []) ∷ (1 ∷ []) ∷ (1 ∷ 0 ∷ 0 ∷ []) ∷ [])
    ∷ Step (t 0) (Print (pos 7) (1 ∷ 1 ∷ 0 ∷ 1 ∷ 0 ∷ [])) ((1 ∷ 0 ∷ 1 ∷ []) ∷ (1 ∷ 1 ∷ 0 ∷ []) ∷ [])
    ∷ Step (t 0) (End []) ((1 ∷ 1 ∷ 1 ∷ []) ∷ [])
    ∷ Root (m 0) 0 []
    ∷ []

-- the task prints 3, though its starter has set its own variable to 4 before
abbrev pub copied : List Entry
copied =
    Step (t 0) (Open (s 1) (s 0) (1 ∷ [])) ((0 ∷ []) ∷ [])
    ∷ Step (t 0) (Spawn (t 1) (s 1) (p 0) (p 0) (1 ∷ 0 ∷ [])) []
    ∷ Step (t 0) (Wait (s 1) []) ((1 ∷ 1 ∷ []) ∷ [])
    ∷ Step (t 1) (Print (pos 3) (1 ∷ 0 ∷ 0 ∷ [])) []
    ∷ Step (t 1) (End []) []
    ∷ Step (t 0) (Release (s 1) (m 0) 0 []) []
    ∷ Step (t 0) (End []) []
    ∷ Root (m 0) 0 []
    ∷ []

-- the number passes, and nothing is printed
abbrev pub not_caught : List Entry
not_caught =
    Step (t 0) (End (Thrown (pos 1) ∷ [])) ((0 ∷ []) ∷ (0 ∷ 0 ∷ 0 ∷ []) ∷ [])
    ∷ Root (m 0) 0 (Thrown (pos 1) ∷ [])
    ∷ []

-- the number is caught
abbrev pub caught : List Entry
caught =
    Step (t 0) (Print (pos 2) (0 ∷ 1 ∷ 0 ∷ [])) ((0 ∷ []) ∷ (0 ∷ 0 ∷ 0 ∷ []) ∷ [])
    ∷ Step (t 0) (End []) []
    ∷ Root (m 0) 0 []
    ∷ []

-- the fault of the body, that of the task that ended first, and then the other's
abbrev pub in_order : List Entry
in_order =
    Step (t 0) (Open (s 1) (s 0) (0 ∷ 0 ∷ 0 ∷ [])) ((0 ∷ []) ∷ [])
    ∷ Step (t 0) (Spawn (t 1) (s 1) (p 0) (p 0) (0 ∷ 0 ∷ 0 ∷ 0 ∷ [])) []
    ∷ Step (t 0) (Spawn (t 2) (s 1) (p 0) (p 0) (0 ∷ 0 ∷ 0 ∷ 1 ∷ [])) []
    ∷ Step (t 0) (Wait (s 1) (Thrown (pos 3) ∷ [])) ((0 ∷ 0 ∷ 0 ∷ 2 ∷ []) ∷ [])
    ∷ Step (t 1) (End (Thrown (pos 1) ∷ [])) ((0 ∷ 0 ∷ 0 ∷ 0 ∷ 0 ∷ []) ∷ [])
    ∷ Step (t 2) (End (Thrown (pos 2) ∷ [])) ((0 ∷ 0 ∷ 0 ∷ 1 ∷ 0 ∷ []) ∷ [])
    ∷ Step (t 0) (Release (s 1) (m 0) 0 (Thrown (pos 3) ∷ Thrown (pos 1) ∷ Thrown (pos 2) ∷ [])) []
    ∷ Step (t 0) (Print (pos 4) (0 ∷ 1 ∷ 0 ∷ [])) []
    ∷ Step (t 0) (End []) []
    ∷ Root (m 0) 0 []
    ∷ []

-- the sum is raised, and nothing is printed
abbrev pub too_large : List Entry
too_large =
    Step (t 0) (End (Overflow ∷ [])) ((0 ∷ []) ∷ [])
    ∷ Root (m 0) 0 (Overflow ∷ [])
    ∷ []

-- the callee at place 1 uses a reference to a block of place 0
abbrev pub used_away : List Entry
used_away =
    Step (t 0) (Calls (p 0) (p 1) (s 1) (s 0) (t 1) (1 ∷ 0 ∷ 0 ∷ [])) ((0 ∷ []) ∷ (1 ∷ []) ∷ [])
    ∷ Step (t 1) (Arrive (p 1)) []
    ∷ Step (t 1) (End (WrongPlace ∷ [])) ((1 ∷ 0 ∷ 0 ∷ 0 ∷ []) ∷ [])
    ∷ Step (t 0) (Release (s 1) (m 0) 0 (WrongPlace ∷ [])) []
    ∷ Step (t 0) (Print (pos 5) (1 ∷ 1 ∷ 0 ∷ [])) []
    ∷ Step (t 0) (End []) []
    ∷ Root (m 0) 0 []
    ∷ []

-- its journals
abbrev pub used_away_journals : List (List PlaceEvent)
used_away_journals =
    (Done (t 0) 0 (Make 1 0 1) (0 ∷ []) ∷ []) ∷ [] ∷ []

-- the values of the expressions, at place 1
abbrev pub values : List Entry
values =
    Step (t 0) (Calls (p 0) (p 1) (s 1) (s 0) (t 1) (0 ∷ [])) []
    ∷ Step (t 1) (Arrive (p 1)) []
    ∷ Step (t 1) (Print (pos 1) (0 ∷ 0 ∷ [])) []
    ∷ Step (t 1) (Print (negsuc 2) (0 ∷ 1 ∷ [])) []
    ∷ Step (t 1) (Print (pos 6) (0 ∷ 2 ∷ [])) []
    ∷ Step (t 1) (Print (pos 1) (0 ∷ 3 ∷ [])) []
    ∷ Step (t 1) (Print (pos 0) (0 ∷ 4 ∷ [])) []
    ∷ Step (t 1) (Print (pos 1) (0 ∷ 5 ∷ [])) []
    ∷ Step (t 1) (Print (pos 0) (0 ∷ 6 ∷ [])) []
    ∷ Step (t 1) (Print (pos 0) (0 ∷ 7 ∷ [])) []
    ∷ Step (t 1) (End []) []
    ∷ Step (t 0) (Release (s 1) (m 0) 0 []) []
    ∷ Step (t 0) (End []) []
    ∷ Root (m 0) 0 []
    ∷ []

-- the word that was written, the word that was not, and an index that is not in the block
abbrev pub kept : List Entry
kept =
    Step (t 0) (Print (pos 5) (3 ∷ [])) ((0 ∷ []) ∷ (1 ∷ []) ∷ (2 ∷ []) ∷ [])
    ∷ Step (t 0) (Print (pos 0) (5 ∷ [])) ((4 ∷ []) ∷ [])
    ∷ Step (t 0) (End (Index ∷ [])) ((6 ∷ []) ∷ [])
    ∷ Root (m 0) 0 (Index ∷ [])
    ∷ []

-- its journals
abbrev pub kept_journals : List (List PlaceEvent)
kept_journals =
    (Done (t 0) 0 (Make 2 0 1) (0 ∷ [])
    ∷ Done (t 0) 0 (Puts (record { home = p 0; start = 0; generation = 1 }) (pos 1) (pos 5)) (1 ∷ [])
    ∷ Done (t 0) 0 (Gets (record { home = p 0; start = 0; generation = 1 }) (pos 1) (pos 5)) (2 ∷ [])
    ∷ Done (t 0) 1 (Gets (record { home = p 0; start = 0; generation = 1 }) (pos 0) (pos 0)) (4 ∷ [])
    ∷ Done (t 0) 2 (GetRefused (record { home = p 0; start = 0; generation = 1 }) (pos 2) false) (6 ∷ [])
    ∷ [])
    ∷ [] ∷ []

-- there is no place 5
abbrev pub nowhere : List Entry
nowhere =
    Step (t 0) (End (NoPlace ∷ [])) ((0 ∷ []) ∷ [])
    ∷ Root (m 0) 0 (NoPlace ∷ [])
    ∷ []

-- place 1 dies while the task travels to it, and its starter raises the dead place before the number, which no `catch dead` takes
abbrev pub mixed : List Entry
mixed =
    Step (t 0) (Open (s 1) (s 0) (0 ∷ 0 ∷ 0 ∷ [])) ((0 ∷ []) ∷ [])
    ∷ Step (t 0) (Spawn (t 1) (s 1) (p 0) (p 1) (0 ∷ 0 ∷ 0 ∷ 0 ∷ [])) []
    ∷ Step (t 0) (Wait (s 1) (Thrown (pos 3) ∷ [])) ((0 ∷ 0 ∷ 0 ∷ 1 ∷ []) ∷ [])
    ∷ Death (p 1)
    ∷ Step (t 0) (Release (s 1) (m 2) 0 (Thrown (pos 3) ∷ [])) []
    ∷ Step (t 0) (End (Dead (p 1) ∷ Thrown (pos 3) ∷ [])) []
    ∷ Root (m 0) 0 (Dead (p 1) ∷ Thrown (pos 3) ∷ [])
    ∷ []

-- a release throws nothing, though a task has ended with a fault
abbrev pub swallows_fault : List Entry
swallows_fault =
    Step (t 0) (Open (s 1) (s 0) (0 ∷ [])) []
    ∷ Step (t 0) (Spawn (t 1) (s 1) (p 0) (p 0) (0 ∷ 0 ∷ [])) []
    ∷ Step (t 0) (Wait (s 1) []) []
    ∷ Step (t 1) (End (Thrown (pos 1) ∷ [])) ((0 ∷ 0 ∷ 0 ∷ []) ∷ [])
    ∷ Step (t 0) (Release (s 1) (m 0) 0 []) []
    ∷ []

-- 8 is printed where 7 is to be
abbrev pub other_value : List Entry
other_value =
    Step (t 0) (Print (pos 8) (0 ∷ [])) []
    ∷ Step (t 0) (End []) []
    ∷ Root (m 0) 0 []
    ∷ []

-- the task ends, and has not printed
abbrev pub ends_early : List Entry
ends_early =
    Step (t 0) (End []) []
    ∷ Root (m 0) 0 []
    ∷ []

-- words 4 to 7 are free again, and four words are refused
abbrev pub full_beside_hole : List PlaceEvent
full_beside_hole =
    Done (t 0) 0 (Make 4 0 1) (0 ∷ [])
    ∷ Done (t 0) 0 (Make 4 4 2) (1 ∷ [])
    ∷ Done (t 0) 0 (Forgets (record { home = p 0; start = 4; generation = 2 })) (2 ∷ [])
    ∷ Done (t 0) 0 (MakeFull 4) (3 ∷ [])
    ∷ []

-- words 0 to 3 are free again, and two words are made at 2
abbrev pub not_at_least : List PlaceEvent
not_at_least =
    Done (t 0) 0 (Make 4 0 1) (0 ∷ [])
    ∷ Done (t 0) 0 (Make 4 4 2) (1 ∷ [])
    ∷ Done (t 0) 0 (Forgets (record { home = p 0; start = 0; generation = 1 })) (2 ∷ [])
    ∷ Done (t 0) 0 (Make 2 2 3) (3 ∷ [])
    ∷ []

-- 5 is written, and 4 is read
abbrev pub another_word : List PlaceEvent
another_word =
    Done (t 0) 0 (Make 2 0 1) (0 ∷ [])
    ∷ Done (t 0) 0 (Puts (record { home = p 0; start = 0; generation = 1 }) (pos 1) (pos 5)) (1 ∷ [])
    ∷ Done (t 0) 0 (Gets (record { home = p 0; start = 0; generation = 1 }) (pos 1) (pos 4)) (2 ∷ [])
    ∷ []
