use Rattle.tests_of_scripts.proofs.control.counts.Goals as goal

pub returns : goal.returns
returns g c = (_, c.in_ok-census_done.ensures.stands c.requires.0 c.args.here c.requires.1 c.requires.2)
