use Rattle.std.proofs.Common.{◌+◌, drop, ap, sym, ◌∙◌, subst, arith}
use Rattle.std.proofs.lemmas.List.{drop_all}
use Rattle.rx_base.proofs.Elements.{drop-next}
use Rattle.rx_rules.proofs.Common.{events}
use Rattle.rx_history.specs.JoinOrder.{NeverFalls}
use Rattle.rx_kills.specs.Inside.Front.{starts_with_join}
use Rattle.rx_kills.proofs.Left.{falls-left, join-inside, join-first, death-first, none-first, starts-so}
use Rattle.rx_kills.proofs.schedule.Kills.first.Goals as goal

pub item-requires : goal.item-requires
item-requires c =
    let own = c.self.inside in
    join-inside own.place own.joined own.joins (drop own.died own.kills) (ap starts_with_join c.self.view_is ∙ sym c.joins_first.ensures ∙ c.if-joins_first.true)

pub returns-then-joins_first-clause-some : goal.returns-then-joins_first-clause-some
returns-then-joins_first-clause-some c =
    let own = c.self.inside in
    let js = drop-next own.joins own.joined c.item.result c.item.ensures in
    let falls = subst NeverFalls js (falls-left own.joined own.joins c.joins_never_fall.ensures) in
    let same = sym (ap (λ js. events own.place js (drop own.died own.kills)) js) ∙ c.self.view_is in
    let first = ap starts_with_join same ∙ sym c.joins_first.ensures ∙ c.if-joins_first.true in
    starts-so (sym same ∙ join-first own.place c.item.result (drop (own.joined + 1) own.joins) (drop own.died own.kills) falls first)

pub returns-then-self-len-clause-some : goal.returns-then-self-len-clause-some
returns-then-self-len-clause-some c =
    let own = c.self.inside in
    let ks = drop-next own.kills own.died c.item-kill.result c.item-kill.ensures in
    let falls = falls-left own.joined own.joins c.joins_never_fall.ensures in
    let same = sym (ap (events own.place (drop own.joined own.joins)) ks) ∙ c.self.view_is in
    let none = ap starts_with_join same ∙ sym c.joins_first.ensures ∙ c.if-joins_first.false in
    starts-so (sym same ∙ death-first own.place (drop own.joined own.joins) c.item-kill.result (drop (own.died + 1) own.kills) falls none)

pub returns-else-self-len-clause-none : goal.returns-else-self-len-clause-none
returns-else-self-len-clause-none c =
    let own = c.self.inside in
    let ks = drop_all own.died own.kills (omega (arith, c.if-self-len.false)) in
    let falls = falls-left own.joined own.joins c.joins_never_fall.ensures in
    let same = sym (ap (events own.place (drop own.joined own.joins)) ks) ∙ c.self.view_is in
    let none = ap starts_with_join same ∙ sym c.joins_first.ensures ∙ c.if-joins_first.false in
    sym same ∙ none-first own.place (drop own.joined own.joins) falls none
