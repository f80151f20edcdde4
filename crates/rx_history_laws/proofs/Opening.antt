-- A `finish` that a term begins is opened by no other act.
use Rattle.std.proofs.Common.{◌≡◌, ℕ, Bool, true, false, List, Some, refl, ap, sym, subst, ◌∙◌}
use Rattle.rx_rules.proofs.Common.{PlaceId, Block, Finish, Term, Empty, Run, Raise, Trying, Body, Vars, Does, Opens, begins, does, stmt_does, trying_does, body_does, within}
use Rattle.rx_rules.specs.declared.entries.Act.{Act}
use Rattle.rx_rules.specs.declared.entries.Act.TheVariants.{Open}
use Rattle.rx_rules.specs.Plays.{Fits}
use Rattle.rx_history_laws.proofs.Straight.{code_at}
use Rattle.rx_history_laws.proofs.TermCode.{Coded}

abbrev pub is_opening : Act → Bool
is_opening (Open s r x) = true
is_opening _ = false

trying-opens : (vars : Vars) (inside : Term) (d : Does) (dead_only : Bool) (handler : Block) (z : List ℕ) (rest : Term) (x : List ℕ) → begins inside ≡ Some x → d ≡ Opens → trying_does vars inside d dead_only handler z rest ≡ Opens
trying-opens vars Empty d dead_only handler z rest x b e = cc
trying-opens vars (Raise faults) d dead_only handler z rest x b e = cc
trying-opens vars _ d dead_only handler z rest x b e = ap (within (λ t. Trying t dead_only handler z rest)) e

body-opens : (inside : Term) (d : Does) (rest : Term) (x : List ℕ) → begins inside ≡ Some x → d ≡ Opens → body_does inside d rest ≡ Opens
body-opens Empty d rest x b e = cc
body-opens (Raise faults) d rest x b e = cc
body-opens _ d rest x b e = ap (within (λ t. Body t rest)) e

pub finish-opens : (code : Block) (vars : Vars) (here : ℕ) (t : Term) (x : List ℕ) (body : Block) → begins t ≡ Some x → Coded code t → code_at code x ≡ Some (Finish body) → does vars here t ≡ Opens
finish-opens code vars here (Run stmt z rest) x body b c e =
    let same : z ≡ x = cc in
    let one : Some stmt ≡ Some (Finish body) = sym c.0 ∙ ap (code_at code) same ∙ e in
    let it : stmt ≡ Finish body = cc in
    subst (λ s. stmt_does vars here s z rest ≡ Opens) (sym it) refl
finish-opens code vars here (Trying inside dead_only handler z rest) x body b c e =
    trying-opens vars inside (does vars here inside) dead_only handler z rest x b (finish-opens code vars here inside x body b c.0 e)
finish-opens code vars here (Body inside rest) x body b c e =
    body-opens inside (does vars here inside) rest x b (finish-opens code vars here inside x body b c.0 e)
finish-opens code vars here _ x body b c e = cc

opens-fits : (here : PlaceId) (t : Term) (act : Act) → Fits here t Opens act → is_opening act ≡ true
opens-fits here t (Open s r x) f = refl
opens-fits here t act f = absurd f

pub fits-opening : (here : PlaceId) (t : Term) (d : Does) (act : Act) → d ≡ Opens → Fits here t d act → is_opening act ≡ true
fits-opening here t d act e f = opens-fits here t act (subst (λ v. Fits here t v act) e f)
