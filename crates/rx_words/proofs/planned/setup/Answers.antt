use Rattle.std.proofs.Common.{rules, ◌≡◌, None, sym, subst}
use Rattle.rx_rules.proofs.Common.{Given, Proper}
use Rattle.rx_words.specs.Words.{setup_of, first_bad}
use Rattle.rx_words.specs.Commands.{wants_of}
use Rattle.rx_words.proofs.Proper.{setup-proper}
use Rattle.rx_words.proofs.planned.setup.Goals as goal

pub returns-clause-ok : goal.returns-clause-ok
returns-clause-ok c =
    let U : Given = record { places = c.unwrap_or-places.result; heap = c.unwrap_or-heap.result; kills = c.in_ok-kills.kills; joins = c.in_ok-joins.joins } in
    let is : U ≡ setup_of (wants_of c.args.said.now) = search rules in
    let none : first_bad (wants_of c.args.said.now) ≡ None = search rules in
    (is, subst Proper (sym is) (setup-proper (wants_of c.args.said.now) (record { places = c.requires.1; heap = c.requires.2 }) none))
