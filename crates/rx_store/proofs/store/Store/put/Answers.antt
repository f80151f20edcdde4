use Rattle.std.proofs.Common.{◌≡◌, sym, subst, Some, Err}
use Rattle.std.proofs.lemmas.Int.{to_z-of_z}
use mir.Val.{of_z, to_z}
use mir.Syntax.{w64}
use Rattle.rx_store.specs.Asks.{ask_of, puts}
use Rattle.rx_store.specs.Answers.{PutAnswers}
use Rattle.rx_store.proofs.Answering.{was_put, put_refused}
use Rattle.rx_store.proofs.Steps.{seen, told_steady, told_tells}
use Rattle.rx_store.proofs.store.Store.put.Goals as goal
use Rattle.rx_store.proofs.store.Store.put.Goals.{in-Put, in-PutRefused}

pub invariant_of-self-2 : goal.invariant_of-self-2
invariant_of-self-2 c =
    told_steady c.self.inside.place c.self.inside.words c.self.inside.blocks c.in-Some.blocks c.put-cell.new.self c.self.inside.journal c.tell.new.journal c.self.inside.last c.tell.new.last c.args.m c.put-cell.result c.args.self.now c.self.invariant c.in-Some.is c.self.view_is c.requires.room c.put-cell.ensures.told c.tell.ensures.last c.tell.ensures.journal

pub returns-clause-answer : goal.returns-clause-answer
returns-clause-answer c =
    let tells = told_tells c.self.inside.place c.self.inside.words c.self.inside.blocks c.in-Some.blocks c.put-cell.new.self c.self.inside.journal c.tell.new.journal c.self.inside.last c.tell.new.last c.args.m c.put-cell.result c.args.self.now c.self.invariant c.in-Some.is c.self.view_is c.requires.room c.put-cell.ensures.told c.tell.ensures.last c.tell.ensures.journal in
    let half : ask_of c.put-cell.result ≡ puts c.args.r c.args.i (to_z w64 (of_z w64 c.args.v)) = subst (λ z. ask_of c.put-cell.result ≡ puts c.args.r z (to_z w64 (of_z w64 c.args.v))) (to_z-of_z w64 c.args.i c.ranges.i) c.put-cell.ensures.asked in
    let asked : ask_of c.put-cell.result ≡ puts c.args.r c.args.i c.args.v = subst (λ z. ask_of c.put-cell.result ≡ puts c.args.r c.args.i z) (to_z-of_z w64 c.args.v c.ranges.v) half in
    elim c.match-cell.branch [
      | in-Put w ↦ subst (λ z. PutAnswers c.args.self.now (seen c.self.inside.place c.self.inside.words (Some c.put-cell.new.self) c.tell.new.journal) c.args.m c.args.r c.args.i c.args.v z) (sym w.result-is) (was_put c.args.self.now (seen c.self.inside.place c.self.inside.words (Some c.put-cell.new.self) c.tell.new.journal) c.args.m c.put-cell.result tells c.args.r w.in-Put.target c.args.i w.in-Put.index c.args.v w.in-Put.value asked w.in-Put.is)
      | in-PutRefused w ↦ subst (λ z. PutAnswers c.args.self.now (seen c.self.inside.place c.self.inside.words (Some c.put-cell.new.self) c.tell.new.journal) c.args.m c.args.r c.args.i c.args.v z) (sym w.result-is) (subst (λ z. PutAnswers {T = Unit {0}} c.args.self.now (seen c.self.inside.place c.self.inside.words (Some c.put-cell.new.self) c.tell.new.journal) c.args.m c.args.r c.args.i c.args.v (Err z)) (sym w.unlocated.ensures) (put_refused c.args.self.now (seen c.self.inside.place c.self.inside.words (Some c.put-cell.new.self) c.tell.new.journal) c.args.m c.put-cell.result tells (Unit {0}) c.args.r w.in-PutRefused.target c.args.i w.in-PutRefused.index c.args.v w.in-PutRefused.value w.in-PutRefused.stale asked w.in-PutRefused.is))
    ]

pub returns-clause-run : goal.returns-clause-run
returns-clause-run c =
    (told_steady c.self.inside.place c.self.inside.words c.self.inside.blocks c.in-Some.blocks c.put-cell.new.self c.self.inside.journal c.tell.new.journal c.self.inside.last c.tell.new.last c.args.m c.put-cell.result c.args.self.now c.self.invariant c.in-Some.is c.self.view_is c.requires.room c.put-cell.ensures.told c.tell.ensures.last c.tell.ensures.journal).run
