use Rattle.rx_live.proofs.live.run_with.Given as goal

abbrev pub ghosts-run_named : goal.ghosts-run_named
ghosts-run_named g a = record { ledger = a.ledger.now }
