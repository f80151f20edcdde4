-- One script, setup and list of picks give one picked run.
use Rattle.std.proofs.Common.{◌≡◌, ℕ, suc, ◌+◌, ◌%◌, ◌<◌, ◌≤◌, Bool, true, false, List, [], ◌∷◌, ◌++◌, length, map, slice_get, slice_set, Some, refl, ap, ◌∙◌, sym, subst, arith}
use Rattle.rx_rules.proofs.Common.{PlaceId, TaskId, PlaceSet, Fault, Block, Done, does, Tree, the_root, AllowedAct, State, Given, NoRoot, EndsWithRoot, Event, IsDue, rest_of, Player, Game, Turn, IsPicked, none, more, used_after, with_entry, closed_by, acted, child_of, enabled, tree_in, start_game}
use Rattle.rx_base.proofs.Elements.{not-empty}
use Rattle.rx_rules.specs.declared.tasks.Where.TheVariants.{At, Travel}
use Rattle.rx_rules.specs.declared.tasks.Task.{Task}
use Rattle.rx_rules.specs.declared.entries.Act.{Act}
use Rattle.rx_rules.specs.declared.entries.Act.TheVariants.{Arrive, End}
use Rattle.rx_rules.specs.declared.entries.Entry.{Entry}
use Rattle.rx_rules.specs.declared.entries.Entry.TheVariants.{Step, Root, Death, Join}
use Rattle.rx_rules.specs.declared.events.PlaceEvent.{PlaceEvent}
use Rattle.rx_rules.specs.Plays.{Fits}
use Rattle.rx_rules.specs.Picked as picked
use Rattle.rx_rules.specs.Picked.{Turns}
use Rattle.rx_rules.proofs.Kills.{due-not}
use Rattle.rx_runs.specs.Games.{GameOk}
use Rattle.rx_runs.specs.PickedRuns.{ActFits, SetsFit, plain, OnePickedRun, FewPicks}
use Rattle.rx_runs.proofs.Asking.{one_task, names_once, fit_once}
use Rattle.rx_runs.proofs.Picks.{Pick, picked_task, reached_in}
use Rattle.rx_runs.proofs.Walks.{IsLast, fits_last, SameWalk, same_walk}
use Rattle.rx_runs.proofs.Keeping.{turn_keeps}
use Rattle.rx_runs.proofs.Opening.{starts_ok}
use Rattle.rx_runs.proofs.Theorem.{turn_grows, not_both}
use Rattle.rx_runs.proofs.Plain.{picked_plain, plain_fits}

-- What is planned.

pub due_once : (n : ℕ) (d e : Entry) (xs : List Event) → IsDue n d xs → IsDue n e xs → d ≡ e
due_once n d e [] h k = absurd h
due_once n d e (x ∷ xs) h k = sym h.0 ∙ k.0

-- The games that turns make.

abbrev planned : Game → Entry → Game
planned G e = record (with_entry G e) { journals = closed_by G e; plan = rest_of G.plan }

abbrev landed : Game → TaskId → PlaceId → Game
landed G t p = record G { entries = G.entries ++ Step t (Arrive p) [] ∷ [] }

abbrev moved : Game → TaskId → PlaceId → Player → Act → State → List PlaceEvent → Game
moved G t here q act Z j = record G { players = slice_set G.players t.0 (acted here q act) ++ child_of q act; entries = G.entries ++ Step t act q.batch ∷ []; journals = slice_set G.journals here.0 j; stores = slice_set G.stores here.0 Z }

abbrev ended : Game → TaskId → PlaceId → Player → List Fault → State → List PlaceEvent → Game
ended G t here q faults Z j = record G { entries = G.entries ++ Step t (End faults) q.batch ∷ []; journals = slice_set G.journals here.0 j; stores = slice_set G.stores here.0 Z }

abbrev rooted : Game → PlaceSet → ℕ → List Fault → Game
rooted G lost masked thrown = record G { entries = G.entries ++ Root lost masked thrown ∷ [] }

last_fits : (es : List Entry) (e : Entry) → SetsFit (es ++ e ∷ []) → SetsFit (e ∷ [])
last_fits [] e h = h
last_fits (Step t act batch ∷ es) e h = last_fits es e h.1
last_fits (Root lost masked thrown ∷ es) e h = last_fits es e h.1
last_fits (Death d ∷ es) e h = last_fits es e h
last_fits (Join p ∷ es) e h = last_fits es e h

-- Pairs of turns.

arrive_once : (T : Tree) (t : TaskId) (p q : PlaceId) → AllowedAct T t (Arrive p) → AllowedAct T t (Arrive q) → p ≡ q
arrive_once T t p q h k =
    let task : h.task ≡ k.task = one_task T t h.task k.task h.stands k.stands in
    let e : Travel h.asks.0 p ≡ Travel k.asks.0 q = sym h.asks.1 ∙ ap (λ (v : Task). v.place) task ∙ k.asks.1 in
    cc

-- who arrives is at no place
not_here : (T : Tree) (x y : Task) (p here : PlaceId) → x ≡ y → Pick T x → AllowedAct T x.number (Arrive p) → y.place ≡ At here → ⊥
not_here T x y p here same pick may at =
    let task : may.task ≡ x = one_task T x.number may.task x may.stands pick.stands in
    let e : Travel may.asks.0 p ≡ At here = sym may.asks.1 ∙ ap (λ (v : Task). v.place) (task ∙ same) ∙ at in
    cc

module _ (code : Block) (U : Given) (G : Game) (ok : GameOk code U G) (i : ℕ) where
  task_picked : (x : Task) → slice_get (enabled (tree_in U G)) i ≡ Some x → Pick (tree_in U G) x
  task_picked x h = picked_task (tree_in U G) i x (reached_in code U G ok) h

  same_picked : (x y : Task) → slice_get (enabled (tree_in U G)) i ≡ Some x → slice_get (enabled (tree_in U G)) i ≡ Some y → x ≡ y
  same_picked x y h k = let e : Some x ≡ Some y = sym h ∙ k in cc

  moves_once : (x y : Task) (here there : PlaceId) (q r : Player) (act bct : Act) (Z W : State) (j k : List PlaceEvent) → SameWalk x y here there q r Z W j k → Fits here q.term (does q.vars here.0 q.term) act → Fits there r.term (does r.vars there.0 r.term) bct → AllowedAct (tree_in U G) x.number act → AllowedAct (tree_in U G) y.number bct → ActFits act → ActFits bct → moved G x.number here q act Z j ≡ moved G y.number there r bct W k
  moves_once x y here there q r act bct Z W j k w fits fits2 may may2 sets sets2 =
      let fit : Fits here q.term (does q.vars here.0 q.term) bct = subst (λ (v : Player). Fits here v.term (does v.vars here.0 v.term) bct) (sym w.player) (subst (λ (v : PlaceId). Fits v r.term (does r.vars v.0 r.term) bct) (sym w.place) fits2) in
      let allow : AllowedAct (tree_in U G) x.number bct = subst (λ (v : Task). AllowedAct (tree_in U G) v.number bct) (sym w.task) may2 in
      let acts : act ≡ bct = fit_once (tree_in U G) x.number here q.term (does q.vars here.0 q.term) act bct fits fit may allow sets sets2 in
      ap (λ (v : Task). moved G v.number here q act Z j) w.task
      ∙ ap (λ (v : PlaceId). moved G y.number v q act Z j) w.place
      ∙ ap (λ (v : Player). moved G y.number there v act Z j) w.player
      ∙ ap (λ (v : Act). moved G y.number there r v Z j) acts
      ∙ ap (λ (v : State). moved G y.number there r bct v j) w.store
      ∙ ap (λ (v : List PlaceEvent). moved G y.number there r bct W v) w.journal

  ends_once : (x y : Task) (here there : PlaceId) (q r : Player) (f g : List Fault) (Z W : State) (j k : List PlaceEvent) → SameWalk x y here there q r Z W j k → does q.vars here.0 q.term ≡ Done f → does r.vars there.0 r.term ≡ Done g → ended G x.number here q f Z j ≡ ended G y.number there r g W k
  ends_once x y here there q r f g Z W j k w done done2 =
      let faults : f ≡ g = (let e : Done f ≡ Done g = sym done ∙ ap (λ (v : Player). does v.vars here.0 v.term) w.player ∙ ap (λ (v : PlaceId). does r.vars v.0 r.term) w.place ∙ done2 in cc) in
      ap (λ (v : Task). ended G v.number here q f Z j) w.task
      ∙ ap (λ (v : PlaceId). ended G y.number v q f Z j) w.place
      ∙ ap (λ (v : Player). ended G y.number there v f Z j) w.player
      ∙ ap (λ (v : List Fault). ended G y.number there r v Z j) faults
      ∙ ap (λ (v : State). ended G y.number there r g v j) w.store
      ∙ ap (λ (v : List PlaceEvent). ended G y.number there r g W v) w.journal

  -- who asks does not end
  not_done : (x y : Task) (here there : PlaceId) (q r : Player) (act : Act) (f : List Fault) (Z W : State) (j k : List PlaceEvent) → SameWalk x y here there q r Z W j k → Fits here q.term (does q.vars here.0 q.term) act → does r.vars there.0 r.term ≡ Done f → ⊥
  not_done x y here there q r act f Z W j k w fits done =
      let e : does q.vars here.0 q.term ≡ Done f = ap (λ (v : Player). does v.vars here.0 v.term) w.player ∙ ap (λ (v : PlaceId). does r.vars v.0 r.term) w.place ∙ done in
      subst (λ d. Fits here q.term d act) e fits

done_last : (U : Given) (here : PlaceId) (q : Player) (f : List Fault) → does q.vars here.0 q.term ≡ Done f → IsLast (does q.vars here.0 q.term)
done_last U here q f e = subst IsLast (sym e) tt

pub turn_once : (code : Block) (U : Given) (n : ℕ) (G G1 G2 : Game) (u v : Bool) → GameOk code U G → Turn U n G u G1 → Turn U n G v G2 → SetsFit G1.entries → SetsFit G2.entries → (u ≡ v) × (G1 ≡ G2)
turn_once code U n G G1 G2 u v ok (picked.due d due) (picked.due e due2) a b = (refl, ap (planned G) (due_once (length G.entries) d e G.plan due due2))
turn_once code U n G G1 G2 u v ok (picked.due d due) (picked.arrives x p takes may) a b = absurd (due-not (length G.entries) d G.plan due takes.0)
turn_once code U n G G1 G2 u v ok (picked.due d due) (picked.moves x here p q S Z j act takes at player store goes fits may) a b = absurd (due-not (length G.entries) d G.plan due takes.0)
turn_once code U n G G1 G2 u v ok (picked.due d due) (picked.ends x here p q S Z j f takes at player store goes done may) a b = absurd (due-not (length G.entries) d G.plan due takes.0)
turn_once code U n G G1 G2 u v ok (picked.due d due) (picked.root lost masked thrown free empty may) a b = absurd (due-not (length G.entries) d G.plan due free)
turn_once code U n G G1 G2 u v ok (picked.arrives x p takes may) (picked.due d due) a b = absurd (due-not (length G.entries) d G.plan due takes.0)
turn_once code U n G G1 G2 u v ok (picked.arrives x p takes may) (picked.arrives y p2 takes2 may2) a b =
    let same : x ≡ y = same_picked code U G ok (n % length (enabled (tree_in U G))) x y takes.1 takes2.1 in
    let to : p ≡ p2 = arrive_once (tree_in U G) x.number p p2 may (subst (λ (w : Task). AllowedAct (tree_in U G) w.number (Arrive p2)) (sym same) may2) in
    (refl, ap (λ (w : Task). landed G w.number p) same ∙ ap (landed G y.number) to)
turn_once code U n G G1 G2 u v ok (picked.arrives x p takes may) (picked.moves y here p2 q S Z j act takes2 at player store goes fits may2) a b =
    absurd (not_here (tree_in U G) x y p here (same_picked code U G ok (n % length (enabled (tree_in U G))) x y takes.1 takes2.1) (task_picked code U G ok (n % length (enabled (tree_in U G))) x takes.1) may at)
turn_once code U n G G1 G2 u v ok (picked.arrives x p takes may) (picked.ends y here p2 q S Z j f takes2 at player store goes done may2) a b =
    absurd (not_here (tree_in U G) x y p here (same_picked code U G ok (n % length (enabled (tree_in U G))) x y takes.1 takes2.1) (task_picked code U G ok (n % length (enabled (tree_in U G))) x takes.1) may at)
turn_once code U n G G1 G2 u v ok (picked.arrives x p takes may) (picked.root lost masked thrown free2 empty may2) a b = absurd (not-empty (enabled (tree_in U G)) (n % length (enabled (tree_in U G))) x empty takes.1)
turn_once code U n G G1 G2 u v ok (picked.moves x here p q S Z j act takes at player store goes fits may) (picked.due d due) a b = absurd (due-not (length G.entries) d G.plan due takes.0)
turn_once code U n G G1 G2 u v ok (picked.moves x here p q S Z j act takes at player store goes fits may) (picked.arrives y p2 takes2 may2) a b =
    absurd (not_here (tree_in U G) y x p2 here (same_picked code U G ok (n % length (enabled (tree_in U G))) y x takes2.1 takes.1) (task_picked code U G ok (n % length (enabled (tree_in U G))) y takes2.1) may2 at)
turn_once code U n G G1 G2 u v ok (picked.moves x here p q S Z j act takes at player store goes fits may) (picked.moves y there p2 r S2 W k bct takes2 at2 player2 store2 goes2 fits2 may2) a b =
    let w = same_walk U G (n % length (enabled (tree_in U G))) x y here there p p2 q r S S2 Z W j k takes.1 takes2.1 at at2 player player2 store store2 goes goes2 (fits_last here q.term _ act fits) (fits_last there r.term _ bct fits2) in
    (refl, moves_once code U G ok (n % length (enabled (tree_in U G))) x y here there q r act bct Z W j k w fits fits2 may may2 (last_fits G.entries (Step x.number act q.batch) a).0 (last_fits G.entries (Step y.number bct r.batch) b).0)
turn_once code U n G G1 G2 u v ok (picked.moves x here p q S Z j act takes at player store goes fits may) (picked.ends y there p2 r S2 W k f takes2 at2 player2 store2 goes2 done may2) a b =
    let w = same_walk U G (n % length (enabled (tree_in U G))) x y here there p p2 q r S S2 Z W j k takes.1 takes2.1 at at2 player player2 store store2 goes goes2 (fits_last here q.term _ act fits) (done_last U there r f done) in
    absurd (not_done code U G ok (n % length (enabled (tree_in U G))) x y here there q r act f Z W j k w fits done)
turn_once code U n G G1 G2 u v ok (picked.moves x here p q S Z j act takes at player store goes fits may) (picked.root lost masked thrown free2 empty may2) a b = absurd (not-empty (enabled (tree_in U G)) (n % length (enabled (tree_in U G))) x empty takes.1)
turn_once code U n G G1 G2 u v ok (picked.ends x here p q S Z j f takes at player store goes done may) (picked.due d due) a b = absurd (due-not (length G.entries) d G.plan due takes.0)
turn_once code U n G G1 G2 u v ok (picked.ends x here p q S Z j f takes at player store goes done may) (picked.arrives y p2 takes2 may2) a b =
    absurd (not_here (tree_in U G) y x p2 here (same_picked code U G ok (n % length (enabled (tree_in U G))) y x takes2.1 takes.1) (task_picked code U G ok (n % length (enabled (tree_in U G))) y takes2.1) may2 at)
turn_once code U n G G1 G2 u v ok (picked.ends x here p q S Z j f takes at player store goes done may) (picked.moves y there p2 r S2 W k bct takes2 at2 player2 store2 goes2 fits2 may2) a b =
    let w = same_walk U G (n % length (enabled (tree_in U G))) y x there here p2 p r q S2 S W Z k j takes2.1 takes.1 at2 at player2 player store2 store goes2 goes (fits_last there r.term _ bct fits2) (done_last U here q f done) in
    absurd (not_done code U G ok (n % length (enabled (tree_in U G))) y x there here r q bct f W Z k j w fits2 done)
turn_once code U n G G1 G2 u v ok (picked.ends x here p q S Z j f takes at player store goes done may) (picked.ends y there p2 r S2 W k g takes2 at2 player2 store2 goes2 done2 may2) a b =
    let w = same_walk U G (n % length (enabled (tree_in U G))) x y here there p p2 q r S S2 Z W j k takes.1 takes2.1 at at2 player player2 store store2 goes goes2 (done_last U here q f done) (done_last U there r g done2) in
    (refl, ends_once code U G ok (n % length (enabled (tree_in U G))) x y here there q r f g Z W j k w done done2)
turn_once code U n G G1 G2 u v ok (picked.ends x here p q S Z j f takes at player store goes done may) (picked.root lost masked thrown free2 empty may2) a b = absurd (not-empty (enabled (tree_in U G)) (n % length (enabled (tree_in U G))) x empty takes.1)
turn_once code U n G G1 G2 u v ok (picked.root lost masked thrown free empty may) (picked.due d due) a b = absurd (due-not (length G.entries) d G.plan due free)
turn_once code U n G G1 G2 u v ok (picked.root lost masked thrown free empty may) (picked.arrives y p2 takes2 may2) a b = absurd (not-empty (enabled (tree_in U G)) (n % length (enabled (tree_in U G))) y empty takes2.1)
turn_once code U n G G1 G2 u v ok (picked.root lost masked thrown free empty may) (picked.moves y there p2 r S2 W k bct takes2 at2 player2 store2 goes2 fits2 may2) a b = absurd (not-empty (enabled (tree_in U G)) (n % length (enabled (tree_in U G))) y empty takes2.1)
turn_once code U n G G1 G2 u v ok (picked.root lost masked thrown free empty may) (picked.ends y there p2 r S2 W k g takes2 at2 player2 store2 goes2 done2 may2) a b = absurd (not-empty (enabled (tree_in U G)) (n % length (enabled (tree_in U G))) y empty takes2.1)
turn_once code U n G G1 G2 u v ok (picked.root lost masked thrown free empty may) (picked.root lost2 masked2 thrown2 free2 empty2 may2) a b =
    let s = names_once (tree_in U G) the_root lost lost2 masked masked2 thrown thrown2 may.2 may2.2 (last_fits G.entries (Root lost masked thrown) a).0 (last_fits G.entries (Root lost2 masked2 thrown2) b).0 in
    (refl, ap (λ (w : PlaceSet). rooted G w masked thrown) s.0 ∙ ap (λ (w : ℕ). rooted G lost2 w thrown) s.1 ∙ ap (rooted G lost2 masked2) s.2)

-- Runs of turns.

before_fits : (es : List Entry) (e : Entry) → SetsFit (es ++ e ∷ []) → SetsFit es
before_fits [] e h = tt
before_fits (Step t act batch ∷ es) e h = (h.0, before_fits es e h.1)
before_fits (Root lost masked thrown ∷ es) e h = (h.0, before_fits es e h.1)
before_fits (Death d ∷ es) e h = before_fits es e h
before_fits (Join p ∷ es) e h = before_fits es e h

first_fits : (U : Given) (picks : ℕ → ℕ) (n j : ℕ) (G G' : Game) → Turns U picks n j G G' → SetsFit G'.entries → SetsFit G.entries
first_fits U picks n j G G' none h = h
first_fits U picks n j G G'' (more {G' = G'} free t ts) h =
    let grown = turn_grows U _ _ G G' t in
    before_fits G.entries grown.0 (subst SetsFit grown.1 (first_fits U picks _ _ G' G'' ts h))

turns_once : (code : Block) (U : Given) (picks : ℕ → ℕ) (n m j : ℕ) (G G1 G2 : Game) → (NoRoot G.entries → GameOk code U G) → Turns U picks n j G G1 → Turns U picks m j G G2 → EndsWithRoot G1.entries → EndsWithRoot G2.entries → SetsFit G1.entries → SetsFit G2.entries → G1 ≡ G2
turns_once code U picks n m j G G1 G2 ok none none a b c d = refl
turns_once code U picks n m j G G1 G2 ok none (more free t ts) a b c d = absurd (not_both G.entries free a)
turns_once code U picks n m j G G1 G2 ok (more free t ts) none a b c d = absurd (not_both G.entries free b)
turns_once code U picks n m j G G1 G2 ok (more {n = i} {G' = A} {used = u} free t ts) (more {n = k} {G' = B} {used = v} free2 t2 ts2) a b c d =
    let one = turn_once code U (picks j) G A B u v (ok free) t t2 (first_fits U picks _ _ A G1 ts c) (first_fits U picks _ _ B G2 ts2 d) in
    let us : Turns U picks k (used_after u j) A G2 = subst (λ (w : Bool). Turns U picks k (used_after w j) A G2) (sym one.0) (subst (λ (w : Game). Turns U picks k (used_after v j) w G2) (sym one.1) ts2) in
    turns_once code U picks i k (used_after u j) A G1 G2 (λ now. turn_keeps code U (picks j) u G A (ok free) t now) ts us a b c d

pub one_picked_run : OnePickedRun
one_picked_run code U picks es fs js ks proper p q =
    let first : IsPicked code U picks (map plain es) js = picked_plain code U picks es js p in
    let other : IsPicked code U picks (map plain fs) ks = picked_plain code U picks fs ks q in
    let fit : SetsFit first.game.entries = subst SetsFit first.entries (plain_fits es) in
    let fit2 : SetsFit other.game.entries = subst SetsFit other.entries (plain_fits fs) in
    let same : first.game ≡ other.game =
    turns_once code U picks first.turns other.turns 0 (start_game code U) first.game other.game (λ free. starts_ok code U proper) first.made other.made first.ended other.ended fit fit2 in (
      first.entries ∙ ap (λ (G : Game). G.entries) same ∙ sym other.entries,
      first.journals ∙ ap (λ (G : Game). G.journals) same ∙ sym other.journals,
    )

-- Picks that are not used.

used_most : (u : Bool) (j : ℕ) → used_after u j ≤ suc j
used_most true j = omega arith
used_most false j = omega arith

few_from : (U : Given) (picks others : ℕ → ℕ) (m n j : ℕ) (G G' : Game) → ((i : ℕ) → i < m → picks i ≡ others i) → j + n ≤ m → Turns U picks n j G G' → Turns U others n j G G'
few_from U picks others m n j G G' same le none = none
few_from U picks others m n j G G'' same le (more {n = k} {G' = G'} {used = u} free t ts) =
    let used : used_after u j ≤ suc j = used_most u j in
    more free (subst (λ (v : ℕ). Turn U v G u G') (same j (omega arith)) t) (few_from U picks others m k (used_after u j) G' G'' same (omega arith) ts)

pub few_picks : FewPicks
few_picks U picks others n G G' same ts = few_from U picks others n n 0 G G' same (omega arith) ts
