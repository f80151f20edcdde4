use Rattle.std.proofs.Common.{refl, ap, sym, subst, ◌∙◌, arith}
use Rattle.rx_rules.specs.declared.tasks.Where.{Where}
use Rattle.rx_ledger.specs.Answering.{fresh_caller}
use Rattle.rx_verify.specs.declared.seat.Seat.{Seat}
use Rattle.rx_verify.specs.Inside.Requests.{IsChild}
use Rattle.rx_verify.proofs.admitting.child_of.Goals as goal

pub returns : goal.returns
returns c = λ js z left x s b.
    let on = c.in_ok-child.ensures.stands z.term s.term x b in
    let less = c.child.ensures.steps z.term x b in
    subst (λ (v : Seat). IsChild c.args.p.now.script c.args.table.now c.args.number z c.args.task c.args.scope c.args.from c.args.to v) (sym c.in_ok-new.ensures.ok)
    (record {
      who = ap (λ (w : Where). fresh_caller c.args.task c.args.scope w) c.travel.ensures;
      home = refl;
      low = omega arith;
      term = on.0;
      fewer = omega (arith, less);
      vars = on.1 ∙ s.vars;
      first = c.first.ensures;
    })
