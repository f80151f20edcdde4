use Rattle.std.proofs.Common.{[], ◌∷◌, ◌++◌, refl, ap, sym}
use Rattle.rx_lines.specs.Replies.{freed_line}
use Rattle.rx_lines.specs.Session.{freed_lines}
use Rattle.rx_lines.proofs.Telling.{with_none, told-as, joined}
use Rattle.rx10_coordinator.proofs.Going.{frees, frees-more, lines-more, rests, wants, stops, rested-same}
use Rattle.rx_lines.proofs.Noting.{freed-made}
use Rattle.rx10_coordinator.proofs.Logging.{logged-on, torn-on}
use Rattle.rx10_coordinator.proofs.desk.Desk.free.Goals as goal

pub freed-init : goal.freed-init
freed-init g c = λ p b on. ([], b, refl, on, λ x h now. now, λ w f text t. with_none w f _ _ _ text t)

pub free-requires : goal.free-requires
free-requires g c =
    let r = c.requires in
    let so = c.freed.invariant r.0 r.1 r.2 in
    (r.0, so.1.entries, so.3.parks)

pub returns-in-NoOne : goal.returns-in-NoOne
returns-in-NoOne g c = λ p b x h on now.
    let so = c.freed.invariant p b on in
    let e = rests p so.1 _ _ so.3 (c.in-NoOne.ensures p so.1.entries so.3.parks) in
    (so.0, e.0, (so.1, so.2, e.1), (e.2, logged-on x h _ _ _ _ _ (rested-same p so.1 e.0 e.1) (so.4 x h now)), so.5)

pub returns-in-Short : goal.returns-in-Short
returns-in-Short g c = λ p b x h on now.
    let so = c.freed.invariant p b on in
    let e = wants p so.1 _ _ so.3 (c.in-Short.ensures p so.1.entries so.3.parks) in
    (so.0, e.0, (so.1, so.2, e.1), (e.2, logged-on x h _ _ _ _ _ (rested-same p so.1 e.0 e.1) (so.4 x h now)), so.5)

pub returns : goal.returns
returns g c = λ p b x h on now.
    let so = c.freed.invariant p b on in
    let e = stops p so.1 _ so.3 in
    (so.0, e.0, (so.1, so.2, e.1), (e.2, logged-on x h _ _ _ _ _ (rested-same p so.1 e.0 e.1) (so.4 x h now)), so.5)

pub returns-in-Err : goal.returns-in-Err
returns-in-Err g c = λ p b x h on now.
    let so = c.freed.invariant p b on in
    let e = stops p so.1 _ so.3 in
    let torn = c.in-Err.ensures.logged x h so.1.entries (c.entries-n.ensures p so.1.entries so.3.parks) (so.4 x h now) in
    (so.0, e.0, (so.1, so.2, e.1), torn-on x h _ _ _ _ (rested-same p so.1 e.0 e.1) torn, so.5)

pub freed-preserved : goal.freed-preserved
freed-preserved g c = λ p b on.
    let so = c.freed.invariant p b on in
    let s = c.in-One.scope in
    let who = c.in-One.waiter in
    let o = c.in-One.outcome in
    let k = c.in-One.ensures p so.1.entries so.3.parks in
    let e = frees p so.1 s who o _ _ so.3 k in
    let made = freed-made p so.1.entries s who o e.0.entries (so.3.parks.all.there s.0 who k.0) e.1.freed.2 in (
      so.0 ++ (who, o) ∷ [],
      e.0,
      frees-more p b so.0 so.1 e.0 who o so.2 e.1,
      e.2,
      λ x h now. logged-on x h _ _ _ _ _ (sym made) (c.in-Ok.ensures.logged x h so.1.entries (c.entries-n.ensures p so.1.entries so.3.parks) (so.4 x h now)),
      λ w f text t.
          told-as w f _ _ _ _ _ (ap (λ z. text ++ z) (lines-more so.0 who o))
          (joined w f _ _ _ text (freed_lines so.0) (freed_line who o) (c.put_freed.ensures w f (text ++ freed_lines so.0) (so.5 w f text t))),
    )
