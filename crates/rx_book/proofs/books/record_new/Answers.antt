use Rattle.std.proofs.Common.{rules, ◌≡◌, ◌<◌, ◌-◌, ap, arith}
use Rattle.rx_book.specs.History.{deaths_in}
use Rattle.rx_book.proofs.History.{gains}
use Rattle.rx_book.proofs.Masks.{deaths_in-mask}
use Rattle.rx_book.proofs.books.record_new.Goals as goal

pub overflow_sub-deaths : goal.overflow_sub-deaths
overflow_sub-deaths g c =
    let place = g.O.Item.Dies.place in
    let h = gains place c.args.seat.now.me.0.number c.args.seat.now.me.0.seen _ _ c.requires.whole c.requires.grew in
    let le = h.1 in
    let then : c.args.old.1.0 ≡ deaths_in place (g.O.Object.entries c.args.before.now.value) = deaths_in-mask place g.O.Item.Dies.small c.args.old.1.0 _ (search rules) c.requires.deaths in
    let now : c.deaths.result.0 ≡ deaths_in place (g.O.Object.entries c.args.object.now) = deaths_in-mask place g.O.Item.Dies.small c.deaths.result.0 _ (search rules) c.deaths.ensures in
    omega (arith, ap (deaths_in place) c.requires.whole)

pub grow-requires-clause-small : goal.grow-requires-clause-small
grow-requires-clause-small g c =
    let place = g.O.Item.Dies.place in
    let h = gains place c.args.seat.now.me.0.number c.args.seat.now.me.0.seen _ _ c.requires.whole c.requires.grew in
    let now : c.deaths.result.0 ≡ deaths_in place (g.O.Object.entries c.args.object.now) = deaths_in-mask place g.O.Item.Dies.small c.deaths.result.0 _ (search rules) c.deaths.ensures in
    let top : c.deaths.result.0 < 65536 = search rules in
    omega (arith, ap (deaths_in place) h.0)

pub grow-requires-clause-by : goal.grow-requires-clause-by
grow-requires-clause-by g c =
    let place = g.O.Item.Dies.place in
    let h = gains place c.args.seat.now.me.0.number c.args.seat.now.me.0.seen _ _ c.requires.whole c.requires.grew in
    let le = h.1 in
    let then : c.args.old.1.0 ≡ deaths_in place (g.O.Object.entries c.args.before.now.value) = deaths_in-mask place g.O.Item.Dies.small c.args.old.1.0 _ (search rules) c.requires.deaths in
    let now : c.deaths.result.0 ≡ deaths_in place (g.O.Object.entries c.args.object.now) = deaths_in-mask place g.O.Item.Dies.small c.deaths.result.0 _ (search rules) c.deaths.ensures in
    let count : c.from.result ≡ c.len-len.result - c.args.old.0 = search rules in
    let extra : c.from-then-len-old.result ≡ c.deaths.result.0 - c.args.old.1.0 = search rules in
    omega (arith, ap (deaths_in place) c.requires.whole, ap (deaths_in place) h.0, c.requires.len, h.2, c.len-len.ensures)
