use Rattle.std.proofs.Common.{◌≡◌, ℕ, List, sym, ◌∙◌, subst}
use Rattle.rx_script.specs.Faults.{IsFaultAt}
use Rattle.rx_script.specs.declared.program.ProgramFault.{ProgramFault}
use Rattle.rx_script.specs.declared.program.ProgramFault.TheVariants as programs
use Rattle.rx_script.specs.Programs.{IsProgramFault}
use Rattle.rx_program.proofs.Known.{all-read}
use Rattle.rx_program.proofs.Told.{one-at}
use Rattle.rx_program.proofs.source.read_program.Goals as goal

pub returns-in-Err-Syntax-clause-syntax : goal.returns-in-Err-Syntax-clause-syntax
returns-in-Err-Syntax-clause-syntax g c at e =
    let own : IsProgramFault (programs.Syntax c.in-Err-Syntax.at) c.deref.result.now =
    subst (λ (f : ProgramFault). IsProgramFault f c.deref.result.now) c.in-Err-Syntax.field-0-is c.in-Err-Syntax.ensures.fault in
    let there : IsProgramFault (programs.Syntax c.in-Err-Syntax.at) c.in-Ok.bytes.items =
    subst (λ (bs : List ℕ). IsProgramFault (programs.Syntax c.in-Err-Syntax.at) bs) c.deref.ensures.value own in
    (c.in-Ok.bytes.items, c.in-Ok.ensures.ok, subst (IsFaultAt c.in-Ok.bytes.items) (sym c.in-Err-Syntax.at-is ∙ one-at _ at e) there.0, there.1)

pub returns-in-Err-Syntax-clause-complete : goal.returns-in-Err-Syntax-clause-complete
returns-in-Err-Syntax-clause-complete g c bytes left good calm =
    let same : c.in-Ok.bytes.items ≡ bytes = all-read _ _ c.in-Ok.bytes.items bytes left c.in-Ok.ensures.ok.took c.in-Ok.ensures.ok.end in
    let own : IsProgramFault (programs.Syntax c.in-Err-Syntax.at) c.deref.result.now =
    subst (λ (f : ProgramFault). IsProgramFault f c.deref.result.now) c.in-Err-Syntax.field-0-is c.in-Err-Syntax.ensures.fault in
    absurd (c.programs_have_no_fault.ensures bytes good.code (programs.Syntax c.in-Err-Syntax.at) good.script good.meets
    (subst (λ (bs : List ℕ). IsProgramFault (programs.Syntax c.in-Err-Syntax.at) bs) (c.deref.ensures.value ∙ same) own))

pub returns-in-Err-Bad-clause-complete : goal.returns-in-Err-Bad-clause-complete
returns-in-Err-Bad-clause-complete g c bytes left good calm =
    let same : c.in-Ok.bytes.items ≡ bytes = all-read _ _ c.in-Ok.bytes.items bytes left c.in-Ok.ensures.ok.took c.in-Ok.ensures.ok.end in
    let own : IsProgramFault (programs.Bad c.in-Err-Bad.rule c.in-Err-Bad.node) c.deref.result.now =
    subst (λ (f : ProgramFault). IsProgramFault f c.deref.result.now) c.in-Err-Bad.field-0-is c.in-Err-Bad.ensures.fault in
    absurd (c.programs_have_no_fault.ensures bytes good.code (programs.Bad c.in-Err-Bad.rule c.in-Err-Bad.node) good.script good.meets
    (subst (λ (bs : List ℕ). IsProgramFault (programs.Bad c.in-Err-Bad.rule c.in-Err-Bad.node) bs) (c.deref.ensures.value ∙ same) own))
