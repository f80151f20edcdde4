use Rattle.std.proofs.Common.{◌+◌, ◌∷◌, drop, ap, sym, ◌∙◌, subst, arith, ◌<◌, length, slice_index_or}
use Rattle.std.proofs.lemmas.List.{drop_all}
use Rattle.std.proofs.lemmas.Option.{slice_get-get_or}
use Rattle.rx_base.proofs.Elements.{drop-next}
use Rattle.rx_rules.proofs.Common.{events}
use Rattle.rx_history.specs.JoinOrder.{NeverFalls}
use Rattle.rx_kills.specs.Inside.Front.{starts_with_join}
use Rattle.rx_kills.proofs.Left.{falls-left, no-join, join-alone, join-or-death}
use Rattle.rx_kills.proofs.schedule.Kills.joins_first.Goals as goal

pub returns-then-self-len : goal.returns-then-self-len
returns-then-self-len c =
    let own = c.self.inside in
    let none = drop_all own.joined own.joins (omega (arith, c.if-self-len.true)) in
    sym
    (ap starts_with_join (sym c.self.view_is)
    ∙ ap (λ js. starts_with_join (events own.place js (drop own.died own.kills))) none
    ∙ no-join own.place (drop own.died own.kills))

pub returns-then-self-len-2 : goal.returns-then-self-len-2
returns-then-self-len-2 c =
    let own = c.self.inside in
    let none = drop_all own.died own.kills (omega (arith, c.if-self-len-2.true)) in
    let some : own.joined < length own.joins = omega (arith, c.if-self-len.false, c.self.invariant.1) in
    let e = slice_index_or own.joins own.joined 0 in
    let js = drop-next own.joins own.joined e (slice_get-get_or own.joins own.joined 0 some) in
    let falls = subst NeverFalls js (falls-left own.joined own.joins c.joins_never_fall.ensures) in
    sym
    (ap starts_with_join (sym c.self.view_is)
    ∙ ap (λ js. starts_with_join (events own.place js (drop own.died own.kills))) js
    ∙ ap (λ ks. starts_with_join (events own.place (e ∷ drop (own.joined + 1) own.joins) ks)) none
    ∙ join-alone own.place e (drop (own.joined + 1) own.joins) falls)

pub returns : goal.returns
returns c =
    let own = c.self.inside in
    let js = drop-next own.joins own.joined c.item.result c.item.ensures in
    let ks = drop-next own.kills own.died c.item-2.result c.item-2.ensures in
    let falls = subst NeverFalls js (falls-left own.joined own.joins c.joins_never_fall.ensures) in
    sym
    (ap starts_with_join (sym c.self.view_is)
    ∙ ap (λ js. starts_with_join (events own.place js (drop own.died own.kills))) js
    ∙ ap (λ ks. starts_with_join (events own.place (c.item.result ∷ drop (own.joined + 1) own.joins) ks)) ks
    ∙ join-or-death own.place c.item.result (drop (own.joined + 1) own.joins) c.item-2.result (drop (own.died + 1) own.kills) falls)
