use Rattle.std.proofs.Common.{◌≡◌, refl, subst, codes, IfOk}
use Rattle.rx_trace.specs.Inside.EntryWords.{release_at, step_at, root_at, entered, if_good}
use Rattle.rx_fields.proofs.Taking.{other-word}
use Rattle.rx_trace.proofs.entry_reader.release.Goals as goal

pub returns-else-keyword-clause-read : goal.returns-else-keyword-clause-read
returns-else-keyword-clause-read c =
    subst (λ o. IfOk c.step.result (λ good. if_good good c.step.new.history.entries ≡ entered c.args.history.now.entries o))
    (other-word (codes "host") (root_at c.args.places) (step_at (release_at c.args.places)) c.args.words.now c.keyword.new.words c.keyword.result c.keyword.ensures c.if-keyword.false refl)
    c.step.ensures.read
