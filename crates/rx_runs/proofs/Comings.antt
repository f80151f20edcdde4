-- Games that turns have made, whatever the picks.
use Rattle.std.proofs.Common.{◌≡◌, ℕ, suc, ◌+◌, ◌*◌, ◌≤◌, List, [], ◌∷◌, length, refl, ◌∙◌, sym, arith}
use Rattle.std.proofs.lemmas.List.Sums.{sum_by-cons}
use Rattle.rx_rules.proofs.Common.{Block, work, Empty, items, Tree, made, births, births_of, fold_from, opening, Given, Proper, plan_of, NoRoot, Game, MadeByTurns, turns, start_game, tree_in}
use Rattle.rx_rules.specs.declared.entries.Act.TheVariants.{Open, At as Calls, Spawn, Arrive, Wait, Release, End, Print, Census}
use Rattle.rx_rules.specs.declared.entries.Entry.{Entry}
use Rattle.rx_rules.specs.declared.entries.Entry.TheVariants.{Step, Root, Death, Join}
use Rattle.rx_rules.specs.Picked.{opens}
use Rattle.rx_rules.proofs.Numbers.{scope-after_end, next-tree}
use Rattle.rx_runs.specs.Costs.{cost}
use Rattle.rx_runs.specs.Games.{GameOk, PlayerSo}
use Rattle.rx_runs.specs.Coming.{GamesCome, GamesGoOn}
use Rattle.rx_runs.specs.Framing.{TermsFit}
use Rattle.rx_runs.proofs.Fitting.{fits_keeps, starts_fit}
use Rattle.rx_runs.proofs.Going.{next_of}
use Rattle.rx_runs.proofs.Pairs.{pairs-length}
use Rattle.rx_runs.proofs.Bounding.{total, turn_pays}
use Rattle.rx_runs.proofs.Costs.{cost_items}
use Rattle.rx_runs.proofs.Keeping.{turn_keeps}
use Rattle.rx_runs.proofs.Opening.{starts_ok}
use Rattle.rx_runs.proofs.Knowing.{comes_knowing}
use Rattle.rx_runs.proofs.Plans.{plan_few}

scope-made : (n : ℕ) (T : Tree) (e : Entry) → (made n T e).next_scope ≤ T.next_scope + 1
scope-made n T (Step t (Open s r path) batch) = omega arith
scope-made n T (Step t (Calls from to s r callee path) batch) = omega arith
scope-made n T (Step t (Spawn child s from to path) batch) = omega arith
scope-made n T (Step t (Arrive p) batch) = omega arith
scope-made n T (Step t (Wait s thrown) batch) = omega arith
scope-made n T (Step t (Release s lost masked thrown) batch) = omega arith
scope-made n T (Step t (End thrown) batch) = let e = scope-after_end T t thrown in omega (arith, e)
scope-made n T (Step t (Print value path) batch) = omega arith
scope-made n T (Step t (Census value path) batch) = omega arith
scope-made n T (Root lost masked thrown) = omega arith
scope-made n T (Death d) = omega arith
scope-made n T (Join p) = omega arith

scope-fold : (n : ℕ) (T : Tree) (es : List Entry) → (fold_from n T es).next_scope ≤ T.next_scope + length es
scope-fold n T [] = omega arith
scope-fold n T (e ∷ es) =
    let one : (made n T e).next_scope ≤ T.next_scope + 1 = scope-made n T e in
    let rest : (fold_from (suc n) (made n T e) es).next_scope ≤ (made n T e).next_scope + length es = scope-fold (suc n) (made n T e) es in
    omega (arith, one, rest)

birth-one : (e : Entry) → births_of e ≤ 1
birth-one (Step t (Open s r path) batch) = omega arith
birth-one (Step t (Calls from to s r callee path) batch) = omega arith
birth-one (Step t (Spawn child s from to path) batch) = omega arith
birth-one (Step t (Arrive p) batch) = omega arith
birth-one (Step t (Wait s thrown) batch) = omega arith
birth-one (Step t (Release s lost masked thrown) batch) = omega arith
birth-one (Step t (End thrown) batch) = omega arith
birth-one (Step t (Print value path) batch) = omega arith
birth-one (Step t (Census value path) batch) = omega arith
birth-one (Root lost masked thrown) = omega arith
birth-one (Death d) = omega arith
birth-one (Join p) = omega arith

pub births-few : (es : List Entry) → births es ≤ length es
births-few [] = omega arith
births-few (e ∷ es) =
    let here : births (e ∷ es) ≡ births_of e + births es = sum_by-cons births_of e es in
    let one : births_of e ≤ 1 = birth-one e in
    let rest : births es ≤ length es = births-few es in omega (arith, here, one, rest)

came : (code : Block) (U : Given) (G : Game) → Proper U → MadeByTurns code U G → NoRoot G.entries → GameOk code U G × TermsFit (tree_in U G) G.players × (total G ≤ total (start_game code U))
came code U G proper opens h = (starts_ok code U proper, starts_fit code U, omega arith)
came code U G' proper (turns {G = G} c free t) h =
    let before = came code U G proper c free in
    let ok : GameOk code U G' = turn_keeps code U _ _ G G' before.0 t h in
    let less : total G' ≤ total G = turn_pays code U _ _ G G' before.0 t h in
    let most : total G ≤ total (start_game code U) = before.2 in (ok, fits_keeps code U _ _ G G' before.0 before.1 t h, omega (arith, less, most))

pub goes_on : GamesGoOn
goes_on code U G proper c h k =
    let was = came code U G proper c h in
    let t = next_of code U G was.0 was.1 (comes_knowing code U G c) k in
    (t.0, t.1, t.2)

pub games_come : GamesCome
games_come code U G proper c h =
    let both = came code U G proper c h in
    let ok = both.0 in
    let all : total G ≤ total (start_game code U) = both.2 in
    let first : cost (items code [] Empty) ≡ 4 * work code + 0 = cost_items code [] 0 Empty in
    let start : total (start_game code U) ≡ 0 + ((1 + cost (items code [] Empty) + 0) + 0) + length (plan_of U) = refl in
    let few : length (plan_of U) + 1 ≤ U.places + 2 * length U.joins = plan_few U proper in
    let scopes : (tree_in U G).next_scope ≤ 1 + length G.entries = scope-fold 0 (opening U.places) G.entries in
    let tasks : (tree_in U G).next_task ≡ 1 + births G.entries = next-tree U.places G.entries in
    let born : births G.entries ≤ length G.entries = births-few G.entries in
    let size : length ok.starts ≡ length G.players = pairs-length (PlayerSo ok.starts G.entries G.journals) 0 ok.starts G.players ok.each in
    let starts : length ok.starts ≡ 1 + births G.entries = ok.all in
    record {
      ok = ok;
      fits = both.1;
      entries = omega (arith, all, first, start, few);
      tasks = omega (arith, tasks, born);
      scopes = scopes;
      players = sym size ∙ (starts ∙ sym tasks);
    }
