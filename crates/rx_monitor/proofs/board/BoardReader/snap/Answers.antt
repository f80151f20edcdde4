use Rattle.std.proofs.Common.{Some, ◌≡◌, ap, subst}
use Rattle.left_right.specs.Sides.{view}
use Rattle.rx_monitor.specs.Inside.Holding.{IsLook}
use Rattle.rx_monitor.specs.Inside.Ties.{IsOf}
use Rattle.rx_monitor.proofs.Holds.{reads_again}
use Rattle.rx_monitor.proofs.board.BoardReader.snap.Goals as goal

pub invariant_of-self : goal.invariant_of-self
invariant_of-self c =
    let was : c.self.inside.reader ≡ Some c.in-Some.reader = cc (c.in-Some.is, c.take.ensures.value) in
    (reads_again _ _ c.self.inside.seat c.self.inside.reader c.in-Some.reader c.look-reader.result.0 c.self.invariant.0 was c.look-reader.ensures.own, c.self.invariant.1, c.self.invariant.2)

pub invariant_of-self-in_default-found : goal.invariant_of-self-in_default-found
invariant_of-self-in_default-found c =
    let was : c.self.inside.reader ≡ Some c.in-Some.reader = cc (c.in-Some.is, c.take.ensures.value) in
    (reads_again _ _ c.self.inside.seat c.self.inside.reader c.in-Some.reader c.look-reader.result.0 c.self.invariant.0 was c.look-reader.ensures.own, c.self.invariant.1, c.self.invariant.2)

pub take_in-requires-clause-own : goal.take_in-requires-clause-own
take_in-requires-clause-own c =
    let was : c.self.inside.reader ≡ Some c.in-Some.reader = cc (c.in-Some.is, c.take.ensures.value) in
    let one : c.self.invariant.0.2.0 ≡ c.in-Some.reader = cc (c.self.invariant.0.2.1, was) in
    let found = subst (IsLook (view c.in-Some.reader.place)) c.in-Some-found.is c.look-reader.ensures.note in
    (found.0 _ (subst (IsOf _) (ap (λ r. view r.place) one) c.self.invariant.0.2.2), found.1)
