use Rattle.std.proofs.Common.{◌<◌, ◌^◌, length, arith, sym, subst, ap, Some}
use Rattle.rx_store.specs.Kept.{StoreView}
use Rattle.rx_store.specs.Answers.{MakeAnswers}
use Rattle.rx_store.proofs.Answering.{made, full}
use Rattle.rx_store.proofs.Steps.{few_made, seen, told_steady, told_tells}
use Rattle.rx_store.proofs.store.Store.make.Goals as goal
use Rattle.rx_store.proofs.store.Store.make.Goals.{in-Make, in-MakeFull}

pub make-cell-requires-clause-few : goal.make-cell-requires-clause-few
make-cell-requires-clause-few c =
    let few : length c.self.inside.journal.events < 2 ^ 31 = subst (λ (z : StoreView). length z.events < 2 ^ 31) (sym c.self.view_is) c.requires.events in
    let made = few_made c.self.inside.words c.self.inside.blocks c.in-Some.blocks c.self.inside.journal c.self.inside.last c.self.invariant c.in-Some.is few in
    omega arith

pub invariant_of-self-2 : goal.invariant_of-self-2
invariant_of-self-2 c =
    told_steady c.self.inside.place c.self.inside.words c.self.inside.blocks c.in-Some.blocks c.make-cell.new.self c.self.inside.journal c.tell.new.journal c.self.inside.last c.tell.new.last c.args.m c.make-cell.result c.args.self.now c.self.invariant c.in-Some.is c.self.view_is c.requires.room c.make-cell.ensures.told c.tell.ensures.last c.tell.ensures.journal

pub returns-clause-answer : goal.returns-clause-answer
returns-clause-answer c =
    let tells = told_tells c.self.inside.place c.self.inside.words c.self.inside.blocks c.in-Some.blocks c.make-cell.new.self c.self.inside.journal c.tell.new.journal c.self.inside.last c.tell.new.last c.args.m c.make-cell.result c.args.self.now c.self.invariant c.in-Some.is c.self.view_is c.requires.room c.make-cell.ensures.told c.tell.ensures.last c.tell.ensures.journal in
    elim c.match-cell.branch [
      | in-Make w ↦ subst (λ z. MakeAnswers c.args.self.now (seen c.self.inside.place c.self.inside.words (Some c.make-cell.new.self) c.tell.new.journal) c.args.m c.args.n z) (sym w.result-is) (ap (λ (z : StoreView). z.place) c.self.view_is, made c.args.self.now (seen c.self.inside.place c.self.inside.words (Some c.make-cell.new.self) c.tell.new.journal) c.args.m c.make-cell.result tells c.args.n w.in-Make.words w.in-Make.start w.in-Make.generation c.make-cell.ensures.asked w.in-Make.is)
      | in-MakeFull w ↦ subst (λ z. MakeAnswers c.args.self.now (seen c.self.inside.place c.self.inside.words (Some c.make-cell.new.self) c.tell.new.journal) c.args.m c.args.n z) (sym w.result-is) (full c.args.self.now (seen c.self.inside.place c.self.inside.words (Some c.make-cell.new.self) c.tell.new.journal) c.args.m c.make-cell.result tells c.args.n w.in-MakeFull.words c.make-cell.ensures.asked w.in-MakeFull.is)
    ]

pub returns-clause-run : goal.returns-clause-run
returns-clause-run c =
    (told_steady c.self.inside.place c.self.inside.words c.self.inside.blocks c.in-Some.blocks c.make-cell.new.self c.self.inside.journal c.tell.new.journal c.self.inside.last c.tell.new.last c.args.m c.make-cell.result c.args.self.now c.self.invariant c.in-Some.is c.self.view_is c.requires.room c.make-cell.ensures.told c.tell.ensures.last c.tell.ensures.journal).run
