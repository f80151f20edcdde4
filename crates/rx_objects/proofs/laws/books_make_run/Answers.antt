use Rattle.rx_objects.proofs.Ending.{books_make_run}
use Rattle.rx_objects.proofs.laws.books_make_run.Goals as goal

pub returns : goal.returns
returns c = books_make_run
