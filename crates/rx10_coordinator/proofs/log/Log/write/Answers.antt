use Rattle.std.proofs.Common.{◌∙◌, sym}
use Rattle.rx_lines.proofs.Telling.{without}
use Rattle.rx10_coordinator.proofs.Logging.{all-written, all-cut}
use Rattle.rx10_coordinator.proofs.log.Log.write.Goals as goal

pub returns-then-has_failed-clause-written : goal.returns-then-has_failed-clause-written
returns-then-has_failed-clause-written g c = λ w f text now.
    all-cut w f _ _ c.write.new.self text (sym c.has_failed.ensures ∙ c.if-has_failed.true) (without w f _ _ c.write.new.self text (c.write.ensures.puts w f text now))

pub returns-clause-written : goal.returns-clause-written
returns-clause-written g c = λ w f text now.
    all-written w f _ _ (record c.args.self.now { pending = c.write.new.self }) text (sym c.has_failed.ensures ∙ c.if-has_failed.false) c.write.ensures.none (without w f _ _ c.write.new.self text (c.write.ensures.puts w f text now))
