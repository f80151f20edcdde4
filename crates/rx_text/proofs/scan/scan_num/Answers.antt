use Rattle.std.proofs.Common.{◌≡◌, ◌+◌, ◌-◌, ◌∙◌, sym, arith}
use Rattle.std.proofs.lemmas.List.{take_rest}
use Rattle.std.proofs.lemmas.Option.{none-some}
use Rattle.rx_text.proofs.Scanning.{pair-found, stored}
use Rattle.rx_text.proofs.Standing.{ends-later, stands-front}
use Rattle.rx_text.proofs.scan.scan_num.Goals as goal

pub returns-in_err-n-clause-exact : goal.returns-in_err-n-clause-exact
returns-in_err-n-clause-exact c = λ n end stands.
    let front = stands-front c.args.bytes.now _ c.args.from n end c.requires (take_rest c.args.bytes.now c.args.from) stands in
    absurd (none-some (n, end - c.args.from) (sym c.in_err-n.was ∙ c.scan_front.ensures.exact n (end - c.args.from) front))

pub returns-clause-exact : goal.returns-clause-exact
returns-clause-exact c = λ n end stands.
    let front = stands-front c.args.bytes.now _ c.args.from n end c.requires (take_rest c.args.bytes.now c.args.from) stands in
    let same = pair-found c.in_ok-n.n n c.in_ok-n.len (end - c.args.from) (sym c.in_ok-n.was ∙ c.scan_front.ensures.exact n (end - c.args.from) front) in
    let later = ends-later c.args.bytes.now c.args.from n end c.requires stands in
    let long : c.args.from + c.in_ok-n.len ≡ end = omega (arith, same.1) in
    stored c.in_ok-n.n n (c.args.from + c.in_ok-n.len) end stands.fits same.0 long

pub returns-clause-further : goal.returns-clause-further
returns-clause-further c = omega (arith, ends-later _ 0 c.in_ok-n.n c.in_ok-n.len (omega arith) c.in_ok-n.ensures.stands)
