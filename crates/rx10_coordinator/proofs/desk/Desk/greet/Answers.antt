use Rattle.std.proofs.Common.{ℕ, ◌++◌, ap, codes}
use Rattle.rx_text.specs.Numbers.{natural_text}
use Rattle.rx_lines.proofs.Telling.{joined, told-as}
use Rattle.rx10_coordinator.proofs.desk.Desk.greet.Goals as goal

pub returns-clause-told : goal.returns-clause-told
returns-clause-told g c = λ w f text now.
    let a = codes "coordinator 1 places " in
    let b = natural_text c.from.result in
    let d = codes " most 16 line 4096 main t0\n" in
    told-as w f _ _ _ (text ++ (a ++ (b ++ d))) _ (ap (λ (n : ℕ). text ++ (a ++ (natural_text n ++ d))) c.from.ensures)
    (joined w f _ _ _ text a (b ++ d) (joined w f _ _ _ (text ++ a) b d
    (c.put-2.ensures w f ((text ++ a) ++ b) (c.put_natural.ensures w f (text ++ a) (c.put.ensures w f text now)))))
