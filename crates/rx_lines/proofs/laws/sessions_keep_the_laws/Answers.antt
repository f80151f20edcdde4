use Rattle.rx_lines.proofs.Lawful.{lawful}
use Rattle.rx_lines.proofs.laws.sessions_keep_the_laws.Goals as goal

pub returns-clause-early : goal.returns-clause-early
returns-clause-early c = λ p bytes text some few s. c.nothing_is_early.ensures p s.after.entries few (lawful p bytes text s)

pub returns-clause-exact : goal.returns-clause-exact
returns-clause-exact c = λ p bytes text some few s. c.losses_are_exact.ensures p s.after.entries few (lawful p bytes text s)

pub returns-clause-masked : goal.returns-clause-masked
returns-clause-masked c = λ p bytes text some few s. c.masked_is_lost.ensures p s.after.entries some few (lawful p bytes text s)
