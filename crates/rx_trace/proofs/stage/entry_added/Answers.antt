use Rattle.std.proofs.Common.{◌≡◌, ◌<◌, ◌^◌, true, false, ap, ◌∙◌, arith, Some, None}
use Rattle.std.proofs.lemmas.Result.{IfOk-weaker}
use Rattle.rx_rules.proofs.Common.{in_all}
use Rattle.rx_history.specs.Logs.{Log}
use Rattle.rx_history.specs.Setups.{given}
use Rattle.rx_trace.specs.Inside.EntryWords.{entry_at, entered, if_good}
use Rattle.rx_trace.specs.Inside.Machine.{Entering, read_line}
use Rattle.rx_trace.proofs.Adding.{good_line, bad_line}
use Rattle.rx_trace.proofs.stage.entry_added.Goals as goal

pub returns-in-Some-clause-good : goal.returns-in-Some-clause-good
returns-in-Some-clause-good c =
    let low : c.len-n.result < 2 ^ 32 = omega (arith, c.if-n-ge4294967296.false) in
    IfOk-weaker c.entry.result (λ good. if_good good c.entry.new.history.entries ≡ entered c.args.history.now.entries (entry_at c.places_in_all-places.result c.in-Some.words))
    (λ good. good ≡ true → read_line (Entering (given c.args.history.now.setup) c.args.history.now.entries) c.args.line.now ≡ Some (Entering (given c.entry.new.history.setup) c.entry.new.history.entries))
    (λ good read. good_line (given c.args.history.now.setup) (given c.entry.new.history.setup) c.args.history.now.entries c.entry.new.history.entries c.args.line.now c.in-Some.words c.places_in_all-places.result c.len-n.result good
    c.requires.other (c.places_in_all-places.ensures ∙ ap (λ (h : Log). in_all (given h.setup)) c.history.view_is) c.len-n.ensures low c.in-Some.ensures (ap given c.entry.ensures.same) read)
    c.entry.ensures.read

pub returns-in-Some-clause-bad : goal.returns-in-Some-clause-bad
returns-in-Some-clause-bad c =
    let low : c.len-n.result < 2 ^ 32 = omega (arith, c.if-n-ge4294967296.false) in
    IfOk-weaker c.entry.result (λ good. if_good good c.entry.new.history.entries ≡ entered c.args.history.now.entries (entry_at c.places_in_all-places.result c.in-Some.words))
    (λ good. good ≡ false → read_line (Entering (given c.args.history.now.setup) c.args.history.now.entries) c.args.line.now ≡ None)
    (λ good read. bad_line (given c.args.history.now.setup) c.args.history.now.entries c.entry.new.history.entries c.args.line.now c.in-Some.words c.places_in_all-places.result c.len-n.result good
    c.requires.other (c.places_in_all-places.ensures ∙ ap (λ (h : Log). in_all (given h.setup)) c.history.view_is) c.len-n.ensures low c.in-Some.ensures read)
    c.entry.ensures.read
