use Rattle.std.proofs.Common.{◌+◌, ◌++◌, take, drop, ap, sym, ◌∙◌, append_assoc, append-nil, take-append-drop, arith}
use Rattle.std.proofs.lemmas.List.{take_all, take_more}
use Rattle.rx10_coordinator.proofs.Serving.{given-as, unheard}
use Rattle.rx10_coordinator.proofs.serve.take_all.Goals as goal

pub bytes-init : goal.bytes-init
bytes-init g c = λ p w f x h given s. given-as p w f _ _ x h _ _ _ _ given _ (sym (append-nil given)) s

pub take-requires : goal.take-requires
take-requires g c =
    let r = c.requires in
    (r.0, r.1, r.2, r.3, r.4, r.5 ++ take c.bytes.i c.args.bytes.now, c.bytes.invariant r.0 r.1 r.2 r.3 r.4 r.5 r.6)

pub returns-in-Err : goal.returns-in-Err
returns-in-Err g c = λ p w f x h given s.
    let xs = c.args.bytes.now in
    let i = c.bytes.i in
    let at = append_assoc given (take i xs) _ ∙ ap (λ z. given ++ z) (sym (take_more xs i 0 (omega arith))) in
    unheard p w f _ _ x h _ _ _ _ (drop (i + 1) xs) _
    (ap (λ z. given ++ z) (sym (take-append-drop (i + 1) xs)) ∙ (sym (append_assoc given (take (i + 1) xs) (drop (i + 1) xs)) ∙ ap (λ z. z ++ drop (i + 1) xs) (sym at)))
    (c.in-Err.ensures p w f x h (given ++ take i xs) (c.bytes.invariant p w f x h given s))

pub bytes-preserved : goal.bytes-preserved
bytes-preserved g c = λ p w f x h given s.
    let xs = c.args.bytes.now in
    let i = c.bytes.i in
    given-as p w f _ _ x h _ _ _ _ _ _
    (append_assoc given (take i xs) _ ∙ ap (λ z. given ++ z) (sym (take_more xs i 0 (omega arith))))
    (c.in-Ok.ensures p w f x h (given ++ take i xs) (c.bytes.invariant p w f x h given s))

pub returns : goal.returns
returns g c = λ p w f x h given s.
    given-as p w f _ _ x h _ _ _ _ _ _ (ap (λ z. given ++ z) (take_all c.bytes.i c.args.bytes.now (omega arith))) (c.bytes.invariant p w f x h given s)
