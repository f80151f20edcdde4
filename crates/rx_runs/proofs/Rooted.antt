-- The release of the root ends a run.
use Rattle.rx_rules.proofs.Common.{Vars, PlaceSet, Fault, Term, Block, births, births_of, opening, Birth, BeginsWithArrival, Plays, EachPlays, birth_of, travels, cell_of, journal_at, moves_from, State, Given, in_all, Event, plan_of, IsRun, AllJournals, EndsWithRoot, ClosesAt, death_number, NoneDue, Player, Game, Turn, tree_in, NoRoot}
use Rattle.rx_rules.specs.declared.entries.Act.{Act}
use Rattle.rx_rules.specs.declared.events.Cell.{Cell}
use Rattle.rx_rules.specs.declared.entries.Entry.{Entry}
use Rattle.rx_rules.specs.declared.entries.Entry.TheVariants.{Step, Root, Death, Join}
use Rattle.rx_rules.specs.declared.events.PlaceEvent.{PlaceEvent}
use Rattle.std.proofs.Common.{◌≡◌, ℕ, suc, ◌+◌, Bool, true, List, [], ◌∷◌, ◌++◌, length, Option, refl, ◌∙◌, sym, subst, arith, inl, inr}
use Rattle.std.specs.List.{filter_map}
use Rattle.std.proofs.lemmas.List.{append-nil}
use Rattle.std.proofs.lemmas.List.Sums.{sum_by-append}
use Rattle.rx_rules.specs.declared.entries.Act.{Act}
use Rattle.rx_rules.specs.declared.events.Cell.{Cell}
use Rattle.rx_rules.specs.declared.entries.Entry.{Entry}
use Rattle.rx_rules.specs.declared.entries.Entry.TheVariants.{Step, Root, Death, Join}
use Rattle.rx_rules.specs.declared.events.PlaceEvent.{PlaceEvent}
use Rattle.rx_rules.specs.Picked as picked
use Rattle.rx_runs.proofs.Journals.{homes_on}
use Rattle.rx_runs.proofs.Append.{allowed-push}
use Rattle.rx_runs.specs.Segments.{plan_left, InTime}
use Rattle.rx_rules.proofs.Append.{root-push}
use Rattle.rx_runs.specs.Games.{TaskSo, away, going, over, Pairs, PlayerSo, JournalSo, Landed, GameOk}
use Rattle.rx_runs.proofs.Segments.{stopped}
use Rattle.rx_runs.proofs.Planned.{planned_no_root, due_planned}
use Rattle.rx_rules.proofs.Deaths.{death-push}
use Rattle.rx_runs.proofs.Pushes.{plan-push, moves-push, birth-push}
use Rattle.rx_tree_laws.proofs.Histories.{first_none}

-- what a task has played, whether it goes on or not
pub landed : {starts : List (Term × Vars)} (b : Birth) (start : Term × Vars) (cells : List (ℕ × Cell × List ℕ)) (moves rest : List (ℕ × Act × List (List ℕ))) (low : ℕ) → Landed b moves low rest → Plays starts b.to low start.1 start.0 [] cells rest → BeginsWithArrival starts b.to (travels b) b.low start.1 start.0 cells moves
landed {starts = starts} b start cells moves rest low (inl h) p =
    let at_low : Plays starts b.to b.low start.1 start.0 [] cells rest = subst (λ (l : ℕ). Plays starts b.to l start.1 start.0 [] cells rest) h.2 p in
    let made : Plays starts b.to b.low start.1 start.0 [] cells moves = subst (λ (ms : List (ℕ × Act × List (List ℕ))). Plays starts b.to b.low start.1 start.0 [] cells ms) (sym h.1) at_low in
    subst (λ (t : Bool). BeginsWithArrival starts b.to t b.low start.1 start.0 cells moves) (sym h.0) made
landed {starts = starts} b start cells moves rest low (inr h) p =
    let at_low : Plays starts b.to (suc h.0) start.1 start.0 [] cells rest = subst (λ (l : ℕ). Plays starts b.to l start.1 start.0 [] cells rest) h.3 p in
    subst (λ (t : Bool). BeginsWithArrival starts b.to t b.low start.1 start.0 cells moves) (sym h.1)
    (subst (λ (ms : List (ℕ × Act × List (List ℕ))). BeginsWithArrival starts b.to true b.low start.1 start.0 cells ms) (sym h.2) (refl, at_low))

pub begun : {starts : List (Term × Vars)} {size : ℕ} {b : Birth} {start : Term × Vars} {cells : List (ℕ × Cell × List ℕ)} {moves : List (ℕ × Act × List (List ℕ))} {p : Player} → TaskSo starts size b start cells moves p → BeginsWithArrival starts b.to (travels b) b.low start.1 start.0 cells moves
begun {starts = starts} {b = b} {start = start} {cells = cells} {moves = moves} (away t m c e le) =
    subst (λ (v : Bool). BeginsWithArrival starts b.to v b.low start.1 start.0 cells moves) (sym t)
    (subst (λ (ms : List (ℕ × Act × List (List ℕ))). BeginsWithArrival starts b.to true b.low start.1 start.0 cells ms) (sym m) c)
begun {b = b} {start = start} {cells = cells} {moves = moves} (going low now rest l g le) = landed b start cells moves rest low l (stopped g)
begun (over e h) = h

-- an entry of the host concerns no task
each_root : (starts : List (Term × Vars)) (es : List Entry) (js : List (List PlaceEvent)) (lost : PlaceSet) (masked : ℕ) (thrown : List Fault) (n : ℕ) (ss : List (Term × Vars)) (ps : List Player) → Pairs (PlayerSo starts es js) n ss ps → EachPlays starts (es ++ Root lost masked thrown ∷ []) js n ss
each_root starts es js lost masked thrown n [] ps h = tt
each_root starts es js lost masked thrown n (s ∷ ss) [] h = absurd h
each_root starts es js lost masked thrown n (s ∷ ss) (p ∷ ps) h =
    let same : birth_of (es ++ Root lost masked thrown ∷ []) n ≡ birth_of es n = birth-push 0 es (Root lost masked thrown) n refl in
    let made : moves_from 0 (es ++ Root lost masked thrown ∷ []) n ≡ moves_from 0 es n = moves-push 0 es (Root lost masked thrown) n ∙ append-nil (moves_from 0 es n) in (
      subst (λ (b : Birth). BeginsWithArrival starts b.to (travels b) b.low s.1 s.0 (filter_map (cell_of n) (journal_at js b.to.0)) (moves_from 0 (es ++ Root lost masked thrown ∷ []) n)) (sym same)
          (subst (λ (ms : List (ℕ × Act × List (List ℕ))). BeginsWithArrival starts (birth_of es n).to (travels (birth_of es n)) (birth_of es n).low s.1 s.0 (filter_map (cell_of n) (journal_at js (birth_of es n).to.0)) ms) (sym made) (begun h.0)),
      each_root starts es js lost masked thrown (suc n) ss ps h.1,
    )

journals_root : (U : Given) (es : List Entry) (lost : PlaceSet) (masked : ℕ) (thrown : List Fault) (p : ℕ) (js : List (List PlaceEvent)) (Ss : List State) → Pairs (JournalSo U es) p js Ss → AllJournals U (es ++ Root lost masked thrown ∷ []) p js
journals_root U es lost masked thrown p [] Ss h = tt
journals_root U es lost masked thrown p (j ∷ js) [] h = absurd h
journals_root U es lost masked thrown p (j ∷ js) (S ∷ Ss) h =
    let same : death_number 0 (record { 0 = p }) (es ++ Root lost masked thrown ∷ []) ≡ death_number 0 (record { 0 = p }) es = death-push 0 (record { 0 = p }) es (Root lost masked thrown) ∙ first_none (death_number 0 (record { 0 = p }) es) in
    (record { law = h.0.law; homes = homes_on es (Root lost masked thrown) p j (λ m low. birth-push 0 es (Root lost masked thrown) m refl) h.0.homes; rising = h.0.rising; closed = subst (λ (o : Option ℕ). ClosesAt o j) (sym same) h.0.closed }, journals_root U es lost masked thrown (suc p) js Ss h.1)

no_end : (es : List Entry) (e : Entry) → NoRoot es → NoRoot (e ∷ []) → EndsWithRoot (es ++ e ∷ []) → ⊥
no_end [] (Step t act batch) h k e = e
no_end [] (Root lost masked thrown) h k e = k
no_end [] (Death d) h k e = e
no_end [] (Join p) h k e = e
no_end (Step t act batch ∷ es) x h k e = no_end es x h k e
no_end (Root lost masked thrown ∷ es) x h k e = h
no_end (Death d ∷ es) x h k e = no_end es x h k e
no_end (Join p ∷ es) x h k e = no_end es x h k e

pub root_is_run : (code : Block) (U : Given) (k : ℕ) (used : Bool) (G G' : Game) → GameOk code U G → Turn U k G used G' → EndsWithRoot G'.entries → IsRun code U G'.entries G'.journals
root_is_run code U k used G G' ok (picked.due d now) e =
    absurd (no_end G.entries d ok.no_root (planned_no_root d (due_planned (length G.entries) (in_all U) (tree_in U G).places G.entries G.plan d now ok.plan)) e)
root_is_run code U k used G G' ok (picked.arrives x p takes may) e = absurd (no_end G.entries _ ok.no_root tt e)
root_is_run code U k used G G' ok (picked.moves x here p q S Z j act takes at player store goes fits may) e = absurd (no_end G.entries _ ok.no_root tt e)
root_is_run code U k used G G' ok (picked.ends x here p q S Z j faults takes at player store goes done may) e = absurd (no_end G.entries _ ok.no_root tt e)
root_is_run code U k used G G' ok (picked.root lost masked thrown none_due empty may) e =
    let size : length G.entries ≡ 0 + length G.entries = omega arith in
    let now : InTime (0 + length G.entries) (plan_left (plan_of U) G.entries) (Root lost masked thrown) = subst (λ (n : ℕ). NoneDue n (plan_left (plan_of U) G.entries)) size (subst (λ (xs : List Event). NoneDue (length G.entries) xs) ok.left none_due) in
    let born : births (G.entries ++ Root lost masked thrown ∷ []) ≡ births G.entries + 0 = sum_by-append births_of G.entries (Root lost masked thrown ∷ []) in
    let all : length ok.starts ≡ 1 + births (G.entries ++ Root lost masked thrown ∷ []) = (let a : length ok.starts ≡ 1 + births G.entries = ok.all in omega arith) in
    record {
      folds = record { some = ok.folds.some; few = ok.folds.few; allowed = allowed-push 0 (opening U.places) G.entries (Root lost masked thrown) ok.folds.allowed may; plan = plan-push 0 (plan_of U) G.entries (Root lost masked thrown) ok.folds.plan now };
      ends = root-push G.entries lost masked thrown ok.no_root;
      played = record { starts = ok.starts; main = ok.main; all = all; each = each_root ok.starts G.entries G.journals lost masked thrown 0 ok.starts G.players ok.each };
      one_each = ok.one_each;
      journals = journals_root U G.entries lost masked thrown 0 G.journals G.stores ok.journals;
    }
