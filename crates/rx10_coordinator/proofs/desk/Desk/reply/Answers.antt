use Rattle.std.proofs.Common.{◌++◌, ◌∙◌, ap, sym}
use Rattle.rx_lines.specs.declared.note.Note.{Note}
use Rattle.rx_lines.specs.Inside.Noting.{entries_of}
use Rattle.rx10_coordinator.proofs.Going.{asks}
use Rattle.rx_lines.proofs.Noting.{beside-made}
use Rattle.rx10_coordinator.proofs.Logging.{or-map, inr-map}
use Rattle.rx10_coordinator.proofs.desk.Desk.reply.Goals as goal

pub ask-answer-requires : goal.ask-answer-requires
ask-answer-requires g c = (let r = c.requires in (r.0, r.1.entries, r.2.parks))

pub tell-requires : goal.tell-requires
tell-requires g c =
    let r = c.requires in
    let a = asks r.0 r.1 c.args.request c.ask-answer.result _ _ r.2 (c.ask-answer.ensures r.0 r.1.entries r.2.parks) in
    (r.0, a.0, a.2)

pub returns : goal.returns
returns g c = λ p b x h on note now.
    let answer = c.ask-answer.result in
    let a = asks p b c.args.request answer _ _ on (c.ask-answer.ensures p b.entries on.parks) in
    let made = beside-made p b.entries c.args.request b.waiters a.0.waiters answer a.0.entries on.parks.stands.tree.reached a.1.asked in
    or-map c.tell.result _ _ _ _
    (c.tell.ensures p b.entries a.0 x h a.2 (c.entries-n.ensures p b.entries on.parks) (λ e. ap (λ (n : Note). b.entries ++ entries_of n answer) (note e) ∙ sym made) now)
    (λ k. (answer, a.0, k.0, k.1, a.1, k.2, k.3, k.4, k.5))
    (λ k. inr-map k (λ r. (answer, a.0, r.0, r.1, a.1, r.2, r.3, r.4)))
