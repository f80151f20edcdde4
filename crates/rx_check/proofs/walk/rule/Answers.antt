use Rattle.std.proofs.Common.{◌≡◌, ap, sym, ◌∙◌, subst}
use Rattle.rx_check.specs.Inside.Walk.{join, rule_from, uses_all}
use Rattle.rx_check.specs.declared.parts.Parts.{Parts}
use Rattle.rx_check.specs.declared.uses.Uses.{Uses}
use Rattle.rx_check.proofs.Statements.{PartsStand, parts-stand, rule-same}
use Rattle.rx_check.proofs.walk.rule.Goals as goal

pub option_use-requires : goal.option_use-requires
option_use-requires c =
    let P : Parts → Type 0 = λ p. PartsStand c.args.script.now p c.requires.0 in
    let y = subst P (sym c.split-parts.ensures) (parts-stand c.args.script.now c.args.stmt c.requires.0 c.requires.1) in
    (y.firsts, y.first)

pub option_use-requires-2 : goal.option_use-requires-2
option_use-requires-2 c =
    let P : Parts → Type 0 = λ p. PartsStand c.args.script.now p c.requires.0 in
    let y = subst P (sym c.split-parts.ensures) (parts-stand c.args.script.now c.args.stmt c.requires.0 c.requires.1) in
    (y.seconds, y.second)

pub returns-clause-rule : goal.returns-clause-rule
returns-clause-rule c t known k h =
    let w = c.args.walk.now in
    let p : Parts = c.split-parts.result in
    let P : Parts → Type 0 = λ p. PartsStand c.args.script.now p t in
    let y : PartsStand c.args.script.now p t = subst P (sym c.split-parts.ensures) (parts-stand c.args.script.now c.args.stmt t h) in
    let f = c.in_ok-first.ensures.uses y.firsts y.first in
    let s = c.in_ok-second.ensures.uses y.seconds y.second in
    let u : c.join.result ≡ join (uses_all w y.firsts) (uses_all w y.seconds) = c.join.ensures ∙ (ap (λ v. join v c.in_ok-second.second) f ∙ ap (join (uses_all w y.firsts)) s) in
    c.least_rule.ensures ∙ (ap (λ (v : Uses). rule_from w v p.target p.assigned c.args.depth) u ∙ rule-same w c.args.script.now p t c.args.depth known y k)
