use Rattle.std.proofs.Common.{◌≡◌, [], ◌∷◌, ◌++◌, length, ap, sym, ◌∙◌, subst}
use Rattle.rx_kills.specs.Deaths.{AreDeaths}
use Rattle.rx_kills.specs.Inside.Noted.{with_death}
use Rattle.rx_kills.proofs.Dying.{deaths-next}
use Rattle.rx_kills.proofs.deaths.note_death.Goals as goal

pub returns : goal.returns
returns c = λ es long noted.
    let e = c.args.entry.now in
    let now : with_death c.args.deaths.now (length es) e ≡ c.note.new.deaths = ap (λ n. with_death c.args.deaths.now n e) long ∙ sym c.note.ensures in
    subst (AreDeaths (es ++ e ∷ [])) now (deaths-next es c.args.deaths.now e noted)
