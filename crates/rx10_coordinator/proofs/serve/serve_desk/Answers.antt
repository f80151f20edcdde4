use Rattle.std.proofs.Common.{◌+◌, ◌++◌, [], take, arith, inl, inr}
use Rattle.std.proofs.KnownBytes.{Consumes-nil, Consumes-trans, Consumes-kept}
use Rattle.rx10_coordinator.proofs.Serving.{wrote, served, unwritten, broken, read-none, read-more, not-done, read-fails, read-cut, done-fails, done-cut}
use Rattle.rx10_coordinator.proofs.serve.serve_desk.Goals as goal

pub chunks-init : goal.chunks-init
chunks-init g c =
    record {
      later = omega arith;
      served = λ p w f x h s. ([], Consumes-nil _, omega arith, s);
    }

pub returns-then-not-write-clause-served : goal.returns-then-not-write-clause-served
returns-then-not-write-clause-served g c = λ p w f x h s.
    let so = c.chunks.invariant.served p w f x h s in
    let e = c.if-not-write.ensures in
    unwritten p w f _ _ x h _ _ _ _ so.0 _ _ e.whole so.1 (wrote p w f _ _ _ _ x h _ _ _ _ _ so.0 e.same e.log (e.told w f) so.3)

pub returns-then-count-eq0-clause-served : goal.returns-then-count-eq0-clause-served
returns-then-count-eq0-clause-served g c = λ p w f x h s.
    let so = c.chunks.invariant.served p w f x h s in
    let e = c.if-not-write.ensures in
    served p w f _ _ x h _ _ _ _ so.0 _ _ _ done-fails done-cut e.whole e.none (read-none _ _ _ so.0 c.read.new.buf c.in-Ok.count (omega arith) so.1 c.in-Ok.ensures.bytes.0)
    (λ _. inl (c.in-Ok.ensures.bytes.1 (omega arith) (omega arith)))
    (wrote p w f _ _ _ _ x h _ _ _ _ _ so.0 e.same e.log (e.told w f) so.3)

pub take_all-requires : goal.take_all-requires
take_all-requires g c =
    let r = c.requires in
    let so = c.chunks.invariant.served r.0 r.1 r.2 r.3 r.4 r.5 in
    let e = c.if-not-write.ensures in
    (r.0, r.1, r.2, r.3, r.4, so.0, wrote r.0 r.1 r.2 _ _ _ _ r.3 r.4 _ _ _ _ _ so.0 e.same e.log (e.told r.1 r.2) so.3)

pub returns-in-Err-clause-served : goal.returns-in-Err-clause-served
returns-in-Err-clause-served g c = λ p w f x h s.
    let so = c.chunks.invariant.served p w f x h s in
    let e = c.if-not-write.ensures in
    served p w f _ _ x h _ _ _ _ so.0 _ _ _ read-fails read-cut e.whole e.none (Consumes-kept _ _ _ so.0 so.1 c.in-Err.ensures.bytes) (λ k. absurd (not-done k))
    (wrote p w f _ _ _ _ x h _ _ _ _ _ so.0 e.same e.log (e.told w f) so.3)

pub returns-in-Err-take_all-clause-served : goal.returns-in-Err-take_all-clause-served
returns-in-Err-take_all-clause-served g c = λ p w f x h s.
    let so = c.chunks.invariant.served p w f x h s in
    let e = c.if-not-write.ensures in
    let given = wrote p w f _ _ _ _ x h _ _ _ _ _ so.0 e.same e.log (e.told w f) so.3 in
    let o = c.write-in-Err-take_all.ensures in
    broken p w f _ _ _ _ x h _ _ _ c.write-in-Err-take_all.new.self (so.0 ++ take c.in-Ok.count c.read.new.buf) _ _ o.none (o.told w f) (Consumes-trans _ _ _ so.0 _ so.1 c.in-Ok.ensures.bytes.0) (c.in-Err-take_all.ensures p w f x h so.0 given)

pub chunks-preserved : goal.chunks-preserved
chunks-preserved g c =
    record {
      later = omega (arith, c.in-Ok.ensures.cause.later, c.chunks.invariant.later);
      served = λ p w f x h s.
          let so = c.chunks.invariant.served p w f x h s in
          let e = c.if-not-write.ensures in
          let given = wrote p w f _ _ _ _ x h _ _ _ _ _ so.0 e.same e.log (e.told w f) so.3 in
          (so.0 ++ take c.in-Ok.count c.read.new.buf, Consumes-trans _ _ _ so.0 _ so.1 c.in-Ok.ensures.bytes.0, read-more so.0 c.read.new.buf c.in-Ok.count c.chunks.counter so.2 c.in-Ok.ensures.bound.0 (omega arith), c.in-Ok-take_all.ensures p w f x h so.0 given);
    }

pub returns-then-not-write-2-clause-served : goal.returns-then-not-write-2-clause-served
returns-then-not-write-2-clause-served g c = λ p w f x h s.
    let so = c.chunks.invariant.served p w f x h s in
    let e = c.if-not-write-2.ensures in
    unwritten p w f _ _ x h _ _ _ _ so.0 _ _ e.whole so.1 (wrote p w f _ _ _ _ x h _ _ _ _ _ so.0 e.same e.log (e.told w f) so.3)

pub returns-clause-served : goal.returns-clause-served
returns-clause-served g c = λ p w f x h s.
    let so = c.chunks.invariant.served p w f x h s in
    let e = c.if-not-write-2.ensures in
    served p w f _ _ x h _ _ _ _ so.0 _ _ _ done-fails done-cut e.whole e.none so.1 (λ _. inr (let l = so.2 in omega arith))
    (wrote p w f _ _ _ _ x h _ _ _ _ _ so.0 e.same e.log (e.told w f) so.3)
