use Rattle.std.proofs.Common.{sym, subst, Some}
use Rattle.rx_store.specs.Answers.{ForgetAnswers}
use Rattle.rx_store.proofs.Answering.{forgot, forgot_stale}
use Rattle.rx_store.proofs.Steps.{seen, told_steady, told_tells}
use Rattle.rx_store.proofs.store.Store.forget.Goals as goal
use Rattle.rx_store.proofs.store.Store.forget.Goals.{in-Forget, in-ForgetStale}

pub invariant_of-self-2 : goal.invariant_of-self-2
invariant_of-self-2 c =
    told_steady c.self.inside.place c.self.inside.words c.self.inside.blocks c.in-Some.blocks c.forget-cell.new.self c.self.inside.journal c.tell.new.journal c.self.inside.last c.tell.new.last c.args.m c.forget-cell.result c.args.self.now c.self.invariant c.in-Some.is c.self.view_is c.requires.room c.forget-cell.ensures.told c.tell.ensures.last c.tell.ensures.journal

pub returns-clause-answer : goal.returns-clause-answer
returns-clause-answer c =
    let tells = told_tells c.self.inside.place c.self.inside.words c.self.inside.blocks c.in-Some.blocks c.forget-cell.new.self c.self.inside.journal c.tell.new.journal c.self.inside.last c.tell.new.last c.args.m c.forget-cell.result c.args.self.now c.self.invariant c.in-Some.is c.self.view_is c.requires.room c.forget-cell.ensures.told c.tell.ensures.last c.tell.ensures.journal in
    elim c.match-cell.branch [
      | in-Forget w ↦ subst (λ z. ForgetAnswers c.args.self.now (seen c.self.inside.place c.self.inside.words (Some c.forget-cell.new.self) c.tell.new.journal) c.args.m c.args.r z) (sym w.result-is) (forgot c.args.self.now (seen c.self.inside.place c.self.inside.words (Some c.forget-cell.new.self) c.tell.new.journal) c.args.m c.forget-cell.result tells c.args.r w.in-Forget.target c.forget-cell.ensures.asked w.in-Forget.is)
      | in-ForgetStale w ↦ subst (λ z. ForgetAnswers c.args.self.now (seen c.self.inside.place c.self.inside.words (Some c.forget-cell.new.self) c.tell.new.journal) c.args.m c.args.r z) (sym w.result-is) (forgot_stale c.args.self.now (seen c.self.inside.place c.self.inside.words (Some c.forget-cell.new.self) c.tell.new.journal) c.args.m c.forget-cell.result tells c.args.r w.in-ForgetStale.target c.forget-cell.ensures.asked w.in-ForgetStale.is)
    ]

pub returns-clause-run : goal.returns-clause-run
returns-clause-run c =
    (told_steady c.self.inside.place c.self.inside.words c.self.inside.blocks c.in-Some.blocks c.forget-cell.new.self c.self.inside.journal c.tell.new.journal c.self.inside.last c.tell.new.last c.args.m c.forget-cell.result c.args.self.now c.self.invariant c.in-Some.is c.self.view_is c.requires.room c.forget-cell.ensures.told c.tell.ensures.last c.tell.ensures.journal).run
