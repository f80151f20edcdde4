use Rattle.std.proofs.Common.{◌<◌, ◌^◌, refl, sym, ap, subst, ◌∙◌, rules}
use Rattle.rx_rules.proofs.Common.{Tree, strike}
use Rattle.rx_counts.specs.Keeping.{stands_home}
use Rattle.rx_counts.specs.declared.dying.Toll.{Toll}
use Rattle.rx_counts.specs.Inside.Totalling.{dies, CanDie}
use Rattle.rx_counts.proofs.Tolls.{toll_small}
use Rattle.rx_counts.proofs.Deaths.{strike_ok, strikes, begins, died}
use Rattle.rx_counts.proofs.ledger.CountLedgerFinishLedger.death.Goals as goal

pub strike_all-toll-requires-clause-hit : goal.strike_all-toll-requires-clause-hit
strike_all-toll-requires-clause-hit c = strike_ok c.args.self.now c.requires.1 c.args.place c.args.at c.requires.2 c.requires.3

pub hand_over_all-requires : goal.hand_over_all-requires
hand_over_all-requires c =
    let T : Tree = c.requires.1 in
    let few_t : c.args.self.now.next_task < 2 ^ 32 = search rules in
    let few_s : c.args.self.now.next_scope < 2 ^ 32 = search rules in
    (c.args.self.now.width, strike (record { place = c.args.place; entry = c.args.at }) T, stands_home T.dead, begins c.args.self.now T c.args.place c.args.at c.strike_all-toll.new.scopes c.requires.2 c.requires.3 few_t few_s c.strike_all-toll.ensures.struck)

pub returns : goal.returns
returns c = λ room T s may.
    let few_t : c.args.self.now.next_task < 2 ^ 32 = search rules in
    let few_s : c.args.self.now.next_scope < 2 ^ 32 = search rules in
    died c.args.self.now _ T c.args.place c.args.at _ s may c.strike_all-toll.ensures.len refl refl refl refl refl (c.died-self.ensures ∙ ap (λ (t : Toll). dies t c.args.self.now.totals) c.strike_all-toll.ensures.toll) (c.hand_over_all.ensures.len ∙ c.strike_all-toll.ensures.len)
    (c.hand_over_all.ensures.passes c.args.self.now.width (strike (record { place = c.args.place; entry = c.args.at }) T) (stands_home T.dead) (begins c.args.self.now T c.args.place c.args.at c.strike_all-toll.new.scopes s may few_t few_s c.strike_all-toll.ensures.struck))

pub bounds-self-place : goal.bounds-self-place
bounds-self-place c = (strike_ok c.args.self.now c.requires.1 c.args.place c.args.at c.requires.2 c.requires.3).0

pub strike_all-toll-requires-clause-few : goal.strike_all-toll-requires-clause-few
strike_all-toll-requires-clause-few c =
    let few : c.args.self.now.next_task < 2 ^ 32 = search rules in
    toll_small c.args.self.now c.requires.1 c.args.place c.requires.2 few

pub died-self-requires : goal.died-self-requires
died-self-requires c =
    subst (λ (t : Toll). CanDie t c.args.self.now.totals) (sym c.strike_all-toll.ensures.toll)
    (strikes c.args.self.now c.requires.1 (record { place = c.args.place; entry = c.args.at }) c.requires.2).0
