use Rattle.rx_span.proofs.longest.span.Given as goal

abbrev pub ghosts-span_from : goal.ghosts-span_from
ghosts-span_from a = record { name = a.blank.name; parts = a.blank.parts }
