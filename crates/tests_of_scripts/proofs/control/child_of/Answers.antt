use Rattle.std.proofs.Common.{◌∙◌, sym}
use Rattle.tests_of_scripts.proofs.control.child_of.Goals as goal

pub returns : goal.returns
returns g c =
    (_, (c.in_ok-child.ensures.stands c.requires.0 c.requires.1 c.in-Some.field-0 (sym (c.in_ok-path.ensures c.requires.0 c.requires.1) ∙ c.in-Some.is)).0)
