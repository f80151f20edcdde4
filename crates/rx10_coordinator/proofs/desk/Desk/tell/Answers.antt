use Rattle.std.proofs.Common.{◌++◌, ◌∙◌, sym, inl, inr}
use Rattle.rx_lines.specs.Replies.{answer_line}
use Rattle.rx_lines.specs.Session.{freed_lines}
use Rattle.rx_lines.specs.Inside.Noting.{entries_of}
use Rattle.rx_lines.proofs.Telling.{with_none, joined}
use Rattle.rx10_coordinator.proofs.Logging.{or-map, logged-as}
use Rattle.rx10_coordinator.proofs.desk.Desk.tell.Goals as goal

pub returns-in-Ok : goal.returns-in-Ok
returns-in-Ok g c = λ p es m x h on long made now.
    let a = c.args.answer.now in
    let lines = c.in-Ok.ensures.logged x h es long now in
    let logged = logged-as x h _ _ _ (es ++ entries_of c.args.note.now a) m.entries (λ e. made (sym c.in-Ok.ensures.same ∙ e)) lines in
    let e = c.free.ensures p m x h on logged in
    or-map c.free.result _ _ _ _ e.3
    (λ k. (e.0, e.1, e.2, k.0, k.1, λ w f text t. joined w f _ _ _ text (answer_line a) (freed_lines e.0) (e.4 w f (text ++ answer_line a) (c.put_answer.ensures w f text t))))
    (λ k. inr (e.0, e.1, e.2, k, λ w f text t. joined w f _ _ _ text (answer_line a) (freed_lines e.0) (e.4 w f (text ++ answer_line a) (c.put_answer.ensures w f text t))))

pub returns-in-Err : goal.returns-in-Err
returns-in-Err g c = λ p es m x h on long made now. inl (c.in-Err.ensures.logged x h es long now, λ w f text t. with_none w f _ _ _ text t)
