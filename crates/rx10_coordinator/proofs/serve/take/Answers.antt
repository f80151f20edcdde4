use Rattle.std.proofs.Common.{[], ◌∷◌, ◌++◌}
use Rattle.rx_lines.specs.Session.{greeting}
use Rattle.rx_lines.proofs.Telling.{joined}
use Rattle.rx10_coordinator.proofs.Cutting.{line-ends, line-grows}
use Rattle.rx10_coordinator.proofs.Going.{answers-more}
use Rattle.rx10_coordinator.proofs.Serving.{broke_off}
use Rattle.rx10_coordinator.proofs.serve.take.Goals as goal

pub answer-requires : goal.answer-requires
answer-requires g c = (let r = c.requires in (r.0, r.6.after, r.6.holds))

pub returns-in-Ok : goal.returns-in-Ok
returns-in-Ok g c = λ p w f x h given s.
    let r = c.in-Ok.ensures p s.after s.last x h s.holds s.reads s.logged in
    record {
      lines = s.lines ++ s.last ∷ [];
      last = [];
      before = s.before;
      after = r.0;
      replies = s.replies ++ r.1;
      cut = line-ends 10 c.args.byte given s.lines s.last c.if-byte-eq10.true s.cut;
      opens = s.opens;
      answered = answers-more p s.before s.lines s.replies s.after s.last r.1 r.0 s.answered r.2;
      holds = r.3;
      reads = c.clear.ensures;
      tells = joined w f _ _ _ (greeting p) s.replies r.1 (r.5 w f (greeting p ++ s.replies) s.tells);
      logged = r.4;
    }

pub returns-in-Err : goal.returns-in-Err
returns-in-Err g c = λ p w f x h given s.
    broke_off g.K.Sink.written g.K.Sink.faults _ _ p w f x h _ _ _ _ _ _ _ given c.args.byte c.if-byte-eq10.true s (c.in-Err.ensures p s.after s.last x h s.holds s.reads s.logged)

pub returns-else-byte-eq10 : goal.returns-else-byte-eq10
returns-else-byte-eq10 g c = λ p w f x h given s.
    record {
      lines = s.lines;
      last = s.last ++ c.args.byte ∷ [];
      before = s.before;
      after = s.after;
      replies = s.replies;
      cut = line-grows 10 c.args.byte given s.lines s.last c.if-byte-eq10.false s.cut;
      opens = s.opens;
      answered = s.answered;
      holds = s.holds;
      reads = c.push.ensures s.last s.reads;
      tells = s.tells;
      logged = s.logged;
    }
