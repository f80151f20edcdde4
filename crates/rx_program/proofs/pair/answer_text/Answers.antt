use Rattle.std.proofs.Common.{◌≡◌, ℕ, List, ◌∙◌, subst}
use Rattle.rx_answers.specs.declared.case.CaseFault.{CaseFault}
use Rattle.rx_answers.specs.declared.case.CaseFault.TheVariants as cases
use Rattle.rx_answers.specs.Faults.{IsCaseFault}
use Rattle.rx_program.proofs.Known.{all-read}
use Rattle.rx_program.proofs.pair.answer_text.Goals as goal

pub returns-in-Err-Syntax-clause-complete : goal.returns-in-Err-Syntax-clause-complete
returns-in-Err-Syntax-clause-complete g c bytes left good calm =
    let same : c.in-Ok.bytes.items ≡ bytes = all-read _ _ c.in-Ok.bytes.items bytes left c.in-Ok.ensures.ok.took c.in-Ok.ensures.ok.end in
    let own : IsCaseFault (cases.Syntax c.in-Err-Syntax.at) c.deref.result.now =
    subst (λ (f : CaseFault). IsCaseFault f c.deref.result.now) c.in-Err-Syntax.field-0-is c.in-Err-Syntax.ensures.fault in
    absurd (c.cases_have_no_fault.ensures bytes good.code good.setup good.entries good.journals (cases.Syntax c.in-Err-Syntax.at) good.given
    (subst (λ (bs : List ℕ). IsCaseFault (cases.Syntax c.in-Err-Syntax.at) bs) (c.deref.ensures.value ∙ same) own))

pub returns-in-Err-Bad-clause-complete : goal.returns-in-Err-Bad-clause-complete
returns-in-Err-Bad-clause-complete g c bytes left good calm =
    let same : c.in-Ok.bytes.items ≡ bytes = all-read _ _ c.in-Ok.bytes.items bytes left c.in-Ok.ensures.ok.took c.in-Ok.ensures.ok.end in
    let own : IsCaseFault (cases.Bad c.in-Err-Bad.rule c.in-Err-Bad.node) c.deref.result.now =
    subst (λ (f : CaseFault). IsCaseFault f c.deref.result.now) c.in-Err-Bad.field-0-is c.in-Err-Bad.ensures.fault in
    absurd (c.cases_have_no_fault.ensures bytes good.code good.setup good.entries good.journals (cases.Bad c.in-Err-Bad.rule c.in-Err-Bad.node) good.given
    (subst (λ (bs : List ℕ). IsCaseFault (cases.Bad c.in-Err-Bad.rule c.in-Err-Bad.node) bs) (c.deref.ensures.value ∙ same) own))

pub returns-in-Err-BadTrace-clause-complete : goal.returns-in-Err-BadTrace-clause-complete
returns-in-Err-BadTrace-clause-complete g c bytes left good calm =
    let same : c.in-Ok.bytes.items ≡ bytes = all-read _ _ c.in-Ok.bytes.items bytes left c.in-Ok.ensures.ok.took c.in-Ok.ensures.ok.end in
    let own : IsCaseFault (cases.BadTrace c.in-Err-BadTrace.number) c.deref.result.now =
    subst (λ (f : CaseFault). IsCaseFault f c.deref.result.now) c.in-Err-BadTrace.field-0-is c.in-Err-BadTrace.ensures.fault in
    absurd (c.cases_have_no_fault.ensures bytes good.code good.setup good.entries good.journals (cases.BadTrace c.in-Err-BadTrace.number) good.given
    (subst (λ (bs : List ℕ). IsCaseFault (cases.BadTrace c.in-Err-BadTrace.number) bs) (c.deref.ensures.value ∙ same) own))
