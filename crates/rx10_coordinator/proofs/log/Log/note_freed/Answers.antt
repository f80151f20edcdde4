use Rattle.std.proofs.Common.{[], ◌∷◌, ◌∙◌}
use Rattle.rx_lines.specs.Inside.Noting.{freed_entry}
use Rattle.rx10_coordinator.proofs.Logging.{or-map, unkept, now-logged, now-torn}
use Rattle.rx10_coordinator.proofs.Serving.{tells-none}
use Rattle.rx10_coordinator.proofs.log.Log.note_freed.Goals as goal

pub returns-then-not-self-clause-logged : goal.returns-then-not-self-clause-logged
returns-then-not-self-clause-logged g c = λ x h es long now. unkept x h _ _ _ es _ c.if-not-self.true now

pub returns-clause-logged : goal.returns-clause-logged
returns-clause-logged g c = λ x h es long now.
    let y = g.L.Sink.written c.args.log.now in
    let i = g.L.Sink.faults c.args.log.now in
    let fs = (freed_entry c.args.scope c.args.waiter c.args.outcome.now ∷ []) in
    let told = c.put_freed_entry.ensures y i [] (tells-none y i c.args.self.now.pending now.none now.whole) in
    or-map c.write.result _ _ _ _ (c.write.ensures.written y i _ told)
    (λ k. now-logged x h y i _ _ c.args.self.now _ c.from.result es fs (c.from.ensures ∙ long) now c.write.ensures.same k)
    (λ k. now-torn x h y i _ _ c.args.self.now c.args.self.now c.from.result es fs (c.from.ensures ∙ long) now k)
