use Rattle.std.proofs.Common.{[], None, refl, ◌∙◌}
use Rattle.rx10_coordinator.proofs.Serving.{tells-none, opened, unlogged, no-fault}
use Rattle.rx10_coordinator.proofs.Logging.{log-opens}
use Rattle.rx10_coordinator.proofs.serve.serve.Goals as goal

pub serve_desk-requires : goal.serve_desk-requires
serve_desk-requires g c =
    let w = g.K.Sink.written c.args.out.now in
    let f = g.K.Sink.faults c.args.out.now in
    let o = c.in-Ok.ensures.open in
    let told = c.greet.ensures.told w f [] (tells-none w f c.in-Ok.desk.pending c.in-Ok.ensures.text c.in-Ok.ensures.whole) in
    let log = log-opens None 0 c.none.result c.none.ensures.text c.none.ensures.whole (λ _. refl) in
    (c.args.places, w, f, None, 0, opened c.args.places w f _ _ None 0 o.0 c.in-Ok.desk.parking c.none.result c.greet.new.self c.none-received.result o.1 o.2 c.greet.ensures.same (c.greet.ensures.log ∙ c.in-Ok.ensures.log) log c.none-received.ensures told)

pub returns-in-Ok-clause-served : goal.returns-in-Ok-clause-served
returns-in-Ok-clause-served g c = λ other.
    let w = g.K.Sink.written c.args.out.now in
    let f = g.K.Sink.faults c.args.out.now in
    let o = c.in-Ok.ensures.open in
    let told = c.greet.ensures.told w f [] (tells-none w f c.in-Ok.desk.pending c.in-Ok.ensures.text c.in-Ok.ensures.whole) in
    let log = log-opens None 0 c.none.result c.none.ensures.text c.none.ensures.whole (λ _. refl) in
    unlogged c.args.places _ _ w _ _ f _ _
    (c.serve_desk.ensures.served c.args.places w f None 0
    (opened c.args.places w f _ _ None 0 o.0 c.in-Ok.desk.parking c.none.result c.greet.new.self c.none-received.result o.1 o.2 c.greet.ensures.same (c.greet.ensures.log ∙ c.in-Ok.ensures.log) log c.none-received.ensures told))

pub returns-in-Ok-clause-no_log : goal.returns-in-Ok-clause-no_log
returns-in-Ok-clause-no_log g c =
    let w = g.K.Sink.written c.args.out.now in
    let f = g.K.Sink.faults c.args.out.now in
    let o = c.in-Ok.ensures.open in
    let told = c.greet.ensures.told w f [] (tells-none w f c.in-Ok.desk.pending c.in-Ok.ensures.text c.in-Ok.ensures.whole) in
    let log = log-opens None 0 c.none.result c.none.ensures.text c.none.ensures.whole (λ _. refl) in
    no-fault c.args.places _ _ w _ _ f _ _
    (c.serve_desk.ensures.served c.args.places w f None 0
    (opened c.args.places w f _ _ None 0 o.0 c.in-Ok.desk.parking c.none.result c.greet.new.self c.none-received.result o.1 o.2 c.greet.ensures.same (c.greet.ensures.log ∙ c.in-Ok.ensures.log) log c.none-received.ensures told))
