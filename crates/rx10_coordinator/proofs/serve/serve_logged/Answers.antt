use Rattle.std.proofs.Common.{[], ◌∙◌}
use Rattle.rx10_coordinator.proofs.Serving.{tells-none, opened}
use Rattle.rx10_coordinator.proofs.Logging.{log-opens, is-kept}
use Rattle.rx10_coordinator.proofs.serve.serve_logged.Goals as goal

pub serve_desk-requires : goal.serve_desk-requires
serve_desk-requires g c =
    let w = g.K.Sink.written c.args.out.now in
    let f = g.K.Sink.faults c.args.out.now in
    let x = g.L.Sink.written c.args.log.now in
    let h = g.L.Sink.faults c.args.log.now in
    let o = c.in-Ok.ensures.open in
    let told = c.greet.ensures.told w f [] (tells-none w f c.in-Ok.desk.pending c.in-Ok.ensures.text c.in-Ok.ensures.whole) in
    let log = log-opens x h c.kept.result c.kept.ensures.text c.kept.ensures.whole (is-kept c.kept.result.is_kept x c.kept.ensures.kept) in
    (c.args.places, w, f, x, h, opened c.args.places w f _ _ x h o.0 c.in-Ok.desk.parking c.kept.result c.greet.new.self c.none-received.result o.1 o.2 c.greet.ensures.same (c.greet.ensures.log ∙ c.in-Ok.ensures.log) log c.none-received.ensures told)

pub returns-in-Ok-clause-served : goal.returns-in-Ok-clause-served
returns-in-Ok-clause-served g c = λ other.
    let w = g.K.Sink.written c.args.out.now in
    let f = g.K.Sink.faults c.args.out.now in
    let x = g.L.Sink.written c.args.log.now in
    let h = g.L.Sink.faults c.args.log.now in
    let o = c.in-Ok.ensures.open in
    let told = c.greet.ensures.told w f [] (tells-none w f c.in-Ok.desk.pending c.in-Ok.ensures.text c.in-Ok.ensures.whole) in
    let log = log-opens x h c.kept.result c.kept.ensures.text c.kept.ensures.whole (is-kept c.kept.result.is_kept x c.kept.ensures.kept) in
    c.serve_desk.ensures.served c.args.places w f x h
    (opened c.args.places w f _ _ x h o.0 c.in-Ok.desk.parking c.kept.result c.greet.new.self c.none-received.result o.1 o.2 c.greet.ensures.same (c.greet.ensures.log ∙ c.in-Ok.ensures.log) log c.none-received.ensures told)
