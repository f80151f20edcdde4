use Rattle.rx_control.proofs.Carried.{turns-begin, tried-begin, inside-begin, waiting-begin}
use Rattle.rx_control.proofs.statement.statement_of.Goals as goal

pub returns-in-Turns : goal.returns-in-Turns
returns-in-Turns c s d t below e h r = turns-begin s d t below _ _ _ (rw c.in-Turns.is at e) h r

pub returns-in-Try : goal.returns-in-Try
returns-in-Try c s d t below e h r = tried-begin s d t below _ _ (rw c.in-Try.is at e) h r

pub returns-in-Body : goal.returns-in-Body
returns-in-Body c s d t below e h r = inside-begin s d t below (rw c.in-Body.is at e) h r

pub returns-in-Held : goal.returns-in-Held
returns-in-Held c s d t below e h r = waiting-begin s d t below (rw c.in-Held.is at e) h r
