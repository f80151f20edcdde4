use Rattle.tests_of_scripts.proofs.control.ledger_grants.Goals as goal

pub returns-in-Ok : goal.returns-in-Ok
returns-in-Ok c = (_, c.in-Ok.ensures.ok c.requires.0 c.requires.1)
