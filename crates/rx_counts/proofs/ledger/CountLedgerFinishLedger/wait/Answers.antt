use Rattle.std.proofs.Common.{Err, ◌∙◌, sym, subst, refl}
use Rattle.rx_rules.proofs.Common.{Tree}
use Rattle.rx_finish.specs.declared.ledger.LedgerFault.{LedgerFault}
use Rattle.rx_finish.specs.Callers.{HasFinish}
use Rattle.rx_finish.specs.Calls.{WaitReply}
use Rattle.rx_finish.proofs.Allowed.{Free}
use Rattle.rx_counts.specs.Stands.{StandsFor}
use Rattle.rx_counts.proofs.Asking.{was_lost, caller}
use Rattle.rx_counts.proofs.Born.{inner_kept}
use Rattle.rx_counts.proofs.Waiting.{waits_stands}
use Rattle.rx_counts.proofs.ledger.CountLedgerFinishLedger.wait.Goals as goal

pub returns-in-Some : goal.returns-in-Some
returns-in-Some c = λ room T s may. subst (λ (v : LedgerFault). WaitReply T c.args.who c.args.thrown (Err (v, c.args.thrown)) (StandsFor c.args.self.now room)) (sym c.lost.ensures) (was_lost c.args.self.now T c.args.who (HasFinish T c.args.who) c.in-Some.blow s may (sym c.blow_there.ensures ∙ c.in-Some.is), refl, s)

pub note_body-requires : goal.note_body-requires
note_body-requires c =
    let T : Tree = c.requires.1 in
    let f : Free T c.args.who (HasFinish T c.args.who) = caller c.args.self.now T c.args.who (HasFinish T c.args.who) c.requires.2 c.requires.3 (sym c.blow_there.ensures ∙ c.in_default.is) in
    (inner_kept c.args.self.now T c.args.who (HasFinish T c.args.who) c.requires.2 f).low

pub returns : goal.returns
returns c = λ room T s may.
    let f : Free T c.args.who (HasFinish T c.args.who) = caller c.args.self.now T c.args.who (HasFinish T c.args.who) s may (sym c.blow_there.ensures ∙ c.in_default.is) in
    waits_stands c.args.self.now _ T c.args.who c.args.thrown s may f refl refl refl refl refl refl c.note_body.ensures
