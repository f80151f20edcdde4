use Rattle.tests_of_runs.proofs.span.two_statements_are_a_chain.Given as goal

abbrev pub ghosts-counted : goal.ghosts-counted
ghosts-counted g a = record { name = a.blank.name; parts = a.blank.parts }
