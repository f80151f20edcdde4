use Rattle.std.proofs.Common.{◌∙◌, sym, refl}
use Rattle.std.proofs.lemmas.Bool.{true≢false}
use Rattle.rx_counts.proofs.Asking.{keeper_some, keeper_found, none_kept}
use Rattle.rx_counts.proofs.Adopting.{adopter_told, scope_adopted}
use Rattle.rx_counts.proofs.ledger.CountLedger.adopter_of.Goals as goal

pub returns-in-Some : goal.returns-in-Some
returns-in-Some c = λ room T s h. adopter_told T c.args.s c.in-Some.keeper (keeper_some c.args.self.now T c.args.s c.in-Some.keeper _ s refl c.in-Some.ensures)

pub returns-in-None : goal.returns-in-None
returns-in-None c = λ room T s h. absurd (true≢false (sym (scope_adopted c.args.self.now T c.args.s s h) ∙ none_kept c.keeper_of.result _ c.in-None.is (keeper_found c.args.self.now T c.args.s c.keeper_of.result _ s refl c.keeper_of.ensures)))
