use Rattle.std.proofs.Common.{◌≡◌, ℕ, suc, ◌+◌, ◌<◌, drop, length, slice_index_or, ap, sym, ◌∙◌, subst, arith}
use Rattle.std.proofs.lemmas.Option.{slice_get-get_or}
use Rattle.rx_base.proofs.Elements.{drop-next}
use Rattle.rx_rules.proofs.Common.{events, rest_of}
use Rattle.rx_history.specs.JoinOrder.{NeverFalls}
use Rattle.rx_kills.specs.Inside.Front.{starts_with_join}
use Rattle.rx_kills.proofs.Left.{falls-left, join-inside, death-inside, join-first, death-first}
use Rattle.rx_kills.proofs.schedule.Kills.done.Goals as goal

pub prove-unreachable-requires : goal.prove-unreachable-requires
prove-unreachable-requires c =
    let own = c.self.inside in
    let some = join-inside own.place own.joined own.joins (drop own.died own.kills) (ap starts_with_join c.self.view_is ∙ sym c.joins_first.ensures ∙ c.if-joins_first.true) in
    omega (arith, some, c.len.ensures, c.if-prove.true)

pub prove-unreachable-requires-else-joins_first : goal.prove-unreachable-requires-else-joins_first
prove-unreachable-requires-else-joins_first c =
    let own = c.self.inside in
    let some =
    death-inside own.place own.died (drop own.joined own.joins) own.kills (falls-left own.joined own.joins c.joins_never_fall.ensures)
    (ap starts_with_join c.self.view_is ∙ sym c.joins_first.ensures ∙ c.if-joins_first.false)
    (subst (λ (n : ℕ). 0 < n) (sym (ap length c.self.view_is)) c.requires) in
    omega (arith, some, c.len-else-joins_first.ensures, c.if-prove-2.true)

pub returns-then-joins_first : goal.returns-then-joins_first
returns-then-joins_first c =
    let own = c.self.inside in
    let e = slice_index_or own.joins own.joined 0 in
    let js = drop-next own.joins own.joined e (slice_get-get_or own.joins own.joined 0 (omega (arith, c.len.ensures, c.if-prove.false))) in
    let falls = subst NeverFalls js (falls-left own.joined own.joins c.joins_never_fall.ensures) in
    let same = sym (ap (λ js. events own.place js (drop own.died own.kills)) js) ∙ c.self.view_is in
    let first = ap starts_with_join same ∙ sym c.joins_first.ensures ∙ c.if-joins_first.true in
    let next : suc own.place ≡ own.place + 1 = omega arith in
    sym
    (ap rest_of (sym same ∙ join-first own.place e (drop (own.joined + 1) own.joins) (drop own.died own.kills) falls first)
    ∙ ap (λ p. events p (drop (own.joined + 1) own.joins) (drop own.died own.kills)) next)

pub returns-else-joins_first : goal.returns-else-joins_first
returns-else-joins_first c =
    let own = c.self.inside in
    let k = slice_index_or own.kills own.died (record { place = record { 0 = 0 }; moment = 0 }) in
    let ks = drop-next own.kills own.died k (slice_get-get_or own.kills own.died (record { place = record { 0 = 0 }; moment = 0 }) (omega (arith, c.len-else-joins_first.ensures, c.if-prove-2.false))) in
    let falls = falls-left own.joined own.joins c.joins_never_fall.ensures in
    let same = sym (ap (events own.place (drop own.joined own.joins)) ks) ∙ c.self.view_is in
    let none = ap starts_with_join same ∙ sym c.joins_first.ensures ∙ c.if-joins_first.false in
    sym (ap rest_of (sym same ∙ death-first own.place (drop own.joined own.joins) k (drop (own.died + 1) own.kills) falls none))
