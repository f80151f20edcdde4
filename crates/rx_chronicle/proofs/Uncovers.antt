-- What a release uncovers: the parent of the released scope, as the entries tell it.
use Rattle.std.proofs.Common.{◌≡◌, ◌≢◌, ℕ, ◌<◌, not, List, ◌∷◌, map, filter, slice_index_or, Some, is_some, ◌&&◌, refl, ap, ◌∙◌, sym, subst, arith}
use Rattle.rx_rules.proofs.Common.{TaskId, ScopeId, Tree, is_under, opened_by, the_root, resumed, made_act, without, opening, tree_of, opens}
use Rattle.rx_rules.specs.declared.entries.Act.TheVariants.{Release}
use Rattle.rx_rules.specs.declared.tasks.Task.{Task}
use Rattle.rx_rules.specs.declared.tasks.Scope.{Scope}
use Rattle.rx_rules.proofs.Lookups.{number-of}
use Rattle.rx_tree_laws.specs.Sound.{Each}
use Rattle.rx_tree_laws.proofs.Changes.{each_filter}
use Rattle.rx_tree_laws.proofs.Reached.{sound}
use Rattle.rx_tree_laws.proofs.Opening.{own_chain}
use Rattle.rx_tree_laws.proofs.Staying.{find_unfiltered}
use Rattle.rx_tree_laws.proofs.Owning.{release_pops}
use Rattle.rx_tree_laws.proofs.Histories.{fold_reached, none_yet}
use Rattle.rx_chronicle.specs.Told.{parents_told, openers_told}
use Rattle.rx_chronicle.proofs.Noted.{Told, all_told}
use Rattle.rx_chronicle.specs.Uncovering.{UncoversParent}
use Rattle.rx_chronicle.proofs.Linking.{link, links, top, Linked, AllLinked, inner_top, before_change, linked_from}

pub uncovers : UncoversParent
uncovers U es t s lost masked thrown x folds may found =
    let T : Tree = tree_of U.places es in
    let T' : Tree = made_act (tree_of U.places es) t (Release s lost masked thrown) in
    let r = fold_reached U.places es folds.some folds.few folds.allowed in
    let h = sound r in
    let m = may in
    let linked : AllLinked T = linked_from 0 (opening U.places) es (opens U.places folds.some folds.few) none_yet folds.allowed (λ v y e free. tt) in
    let told = all_told U es folds in
    let pops = release_pops T t s lost masked thrown r may in
    let g = pops.0 in
    let all = linked t m.task m.stands m.unstruck in
    let split : Linked (link g ∷ links T' t) m.task.under = subst (λ (gs : List Scope). Linked (map link gs) m.task.under) pops.2 all in
    let TheTold = Told (parents_told es) (openers_told es) in
    let each : Each TheTold (g ∷ filter (opened_by t) T'.scopes) = subst (λ (gs : List Scope). Each TheTold gs) pops.2 (each_filter TheTold (opened_by t) T.scopes told.each) in
    let own = own_chain T.tasks T.next_scope T.scopes t m.task m.asks.1 h.falls h.opened m.stands m.asks.2.0 in
    let older : m.task.under.0 < m.asks.1.number.0 = own.older in
    let sn : m.asks.1.number.0 ≡ s.0 = ap (λ (v : ScopeId). v.0) m.asks.2.1 in
    let gn : g.number.0 ≡ s.0 = ap (λ (v : ScopeId). v.0) pops.1 in
    let other : g.number.0 ≢ 0 = λ e. absurd (omega (arith, older, sn, gn, e)) in
    let told_g : g.parent ≡ Some (slice_index_or (parents_told es) g.number.0 the_root) = each.0.parent other in
    let top_g : g.parent ≡ Some (top (links T' t) m.task.under) = split.0 in
    let b = before_change resumed t t (without T s).tasks x (λ z. (refl, refl, refl)) found in
    let there = find_unfiltered (λ z. not (is_under T s z && is_some z.struck)) t T.next_task T.tasks b.task h.tasks_fall b.found in
    let same : Some m.task ≡ Some b.task = sym m.stands ∙ there in
    let it : m.task ≡ b.task = cc in
    let under : m.task.under ≡ x.under = ap (λ (z : Task). z.under) it ∙ b.under in
    let number : x.number ≡ t = ap (λ (k : ℕ). (let v : TaskId = record { 0 = k } in v)) (number-of T' t x found) in
    let tops : Some (top (links T' t) m.task.under) ≡ Some (slice_index_or (parents_told es) g.number.0 the_root) = sym top_g ∙ told_g in
    let is : top (links T' t) m.task.under ≡ slice_index_or (parents_told es) g.number.0 the_root = cc in
    inner_top T' x ∙ (ap (λ (v : TaskId). top (links T' v) x.under) number ∙ (ap (λ (u : ScopeId). top (links T' t) u) (sym under) ∙ (is ∙ ap (λ (i : ℕ). slice_index_or (parents_told es) i the_root) gn)))
