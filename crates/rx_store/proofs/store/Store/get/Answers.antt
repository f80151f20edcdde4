use Rattle.std.proofs.Common.{◌≡◌, rules, sym, subst, Some, Err}
use Rattle.std.proofs.lemmas.Int.{to_z-of_z}
use mir.Val.{SFits}
use mir.Syntax.{w64}
use Rattle.rx_rules.specs.declared.events.Cell.TheVariants.{Get}
use Rattle.rx_store.specs.Asks.{ask_of, gets}
use Rattle.rx_store.specs.Answers.{StoreTells, GetAnswers}
use Rattle.rx_store.proofs.Answering.{got, get_refused}
use Rattle.rx_store.proofs.Steps.{seen, told_steady, told_tells}
use Rattle.rx_store.proofs.store.Store.get.Goals as goal
use Rattle.rx_store.proofs.store.Store.get.Goals.{in-Get, in-GetRefused}

pub invariant_of-self-2 : goal.invariant_of-self-2
invariant_of-self-2 c =
    told_steady c.self.inside.place c.self.inside.words c.self.inside.blocks c.in-Some.blocks c.in-Some.blocks c.self.inside.journal c.tell.new.journal c.self.inside.last c.tell.new.last c.args.m c.get-cell.result c.args.self.now c.self.invariant c.in-Some.is c.self.view_is c.requires.room c.get-cell.ensures.told c.tell.ensures.last c.tell.ensures.journal

pub returns-clause-answer : goal.returns-clause-answer
returns-clause-answer c =
    let tells = told_tells c.self.inside.place c.self.inside.words c.self.inside.blocks c.in-Some.blocks c.in-Some.blocks c.self.inside.journal c.tell.new.journal c.self.inside.last c.tell.new.last c.args.m c.get-cell.result c.args.self.now c.self.invariant c.in-Some.is c.self.view_is c.requires.room c.get-cell.ensures.told c.tell.ensures.last c.tell.ensures.journal in
    let asked : ask_of c.get-cell.result ≡ gets c.args.r c.args.i = subst (λ z. ask_of c.get-cell.result ≡ gets c.args.r z) (to_z-of_z w64 c.args.i c.ranges.i) c.get-cell.ensures.asked in
    elim c.match-cell.branch [
      | in-Get w ↦ (let fits : SFits w64 w.in-Get.value = search rules in
          subst (λ z. GetAnswers c.args.self.now (seen c.self.inside.place c.self.inside.words (Some c.in-Some.blocks) c.tell.new.journal) c.args.m c.args.r c.args.i z) (sym w.result-is) (subst (λ z. StoreTells c.args.self.now (seen c.self.inside.place c.self.inside.words (Some c.in-Some.blocks) c.tell.new.journal) c.args.m (Get c.args.r c.args.i z)) (sym (to_z-of_z w64 w.in-Get.value fits)) (got c.args.self.now (seen c.self.inside.place c.self.inside.words (Some c.in-Some.blocks) c.tell.new.journal) c.args.m c.get-cell.result tells c.args.r w.in-Get.target c.args.i w.in-Get.index w.in-Get.value asked w.in-Get.is)))
      | in-GetRefused w ↦ subst (λ z. GetAnswers c.args.self.now (seen c.self.inside.place c.self.inside.words (Some c.in-Some.blocks) c.tell.new.journal) c.args.m c.args.r c.args.i z) (sym w.result-is) (subst (λ z. GetAnswers c.args.self.now (seen c.self.inside.place c.self.inside.words (Some c.in-Some.blocks) c.tell.new.journal) c.args.m c.args.r c.args.i (Err z)) (sym w.unlocated.ensures) (get_refused c.args.self.now (seen c.self.inside.place c.self.inside.words (Some c.in-Some.blocks) c.tell.new.journal) c.args.m c.get-cell.result tells c.args.r w.in-GetRefused.target c.args.i w.in-GetRefused.index w.in-GetRefused.stale asked w.in-GetRefused.is))
    ]

pub returns-clause-run : goal.returns-clause-run
returns-clause-run c =
    (told_steady c.self.inside.place c.self.inside.words c.self.inside.blocks c.in-Some.blocks c.in-Some.blocks c.self.inside.journal c.tell.new.journal c.self.inside.last c.tell.new.last c.args.m c.get-cell.result c.args.self.now c.self.invariant c.in-Some.is c.self.view_is c.requires.room c.get-cell.ensures.told c.tell.ensures.last c.tell.ensures.journal).run
