use Rattle.rx_live.proofs.Watched.{opens}
use Rattle.rx_live.proofs.watching.run_watched.Goals as goal

pub run_with-requires-clause-board : goal.run_with-requires-clause-board
run_with-requires-clause-board g c κs within =
    let places = c.args.setup.now.places in opens places c.in_ok-writer.writer c.opening_summary.result (c.opening_summary.ensures places) c.in_ok-writer.ensures.list.0
