-- The local steps and store calls of a turn, as a segment and as a piece of a journal.
use Rattle.rx_rules.proofs.Common.{Vars, PlaceId, TaskId, Term, births, birth_of, cell_of, State, Player, AtHome, NotFalling, close_in}
use Rattle.std.proofs.Common.{◌≡◌, ◌≢◌, ℕ, ◌+◌, ◌<◌, ◌≤◌, ◌==◌, Bool, true, false, List, [], ◌∷◌, ◌++◌, refl, ◌∙◌, sym, arith, append_assoc}
use Rattle.std.specs.List.{filter_map}
use Rattle.std.proofs.lemmas.List.{append-nil}
use Rattle.std.proofs.lemmas.Bool.{eq-eqb, eqb-true}
use Rattle.rx_rules.specs.declared.entries.Entry.{Entry}
use Rattle.rx_rules.specs.declared.events.PlaceEvent.{PlaceEvent}
use Rattle.rx_rules.specs.declared.events.PlaceEvent.TheVariants.{Done as Did}
use Rattle.rx_rules.specs.Picked as picked
use Rattle.rx_runs.specs.Segments.{StandGoes, stays, local, stores}
use Rattle.rx_runs.specs.Games.{stand, Leads, rests, steps, NotAbove}

-- what a turn adds to a journal, and what it means
pub record Piece (starts : List (Term × Vars)) (heap n : ℕ) (t : TaskId) (here : PlaceId) (low : ℕ) (p : Player) (S : State) (j : List PlaceEvent) (q : Player) (Z : State) (k : List PlaceEvent) : Type 0 where
  pub new : List PlaceEvent
  pub now : ℕ
  pub added : k ≡ j ++ new
  pub leads : Leads heap S new Z
  pub low_now : now ≤ n
  pub goes : StandGoes starts here (stand low p) (filter_map (cell_of t.0) new) [] (stand now q)
  pub home : (es : List Entry) (r : ℕ) → t.0 < 1 + births es → (birth_of es t.0).to.0 ≡ r → AtHome es r new
  pub rising : NotFalling n new
  pub top : NotAbove n new
  pub unclosed : filter_map close_in new ≡ []
  pub mine : (u : ℕ) → t.0 ≢ u → filter_map (cell_of u) new ≡ []

other : (t u : ℕ) (b : Bool) → (t == u) ≡ b → t ≢ u → b ≡ false
other t u true e h = absurd (h (eqb-true t u e))
other t u false e h = refl

pub piece : {heap n : ℕ} {t : TaskId} {here : PlaceId} {p q : Player} {S Z : State} {j k : List PlaceEvent} (starts : List (Term × Vars)) (low : ℕ) → low ≤ n → picked.RunsWithoutEntry heap n t here p S j q Z k → Piece starts heap n t here low p S j q Z k
piece starts low le picked.stays = record { new = []; now = low; added = sym (append-nil _); leads = rests; low_now = le; goes = stays; home = λ es r b h. tt; rising = tt; top = tt; unclosed = refl; mine = λ u h. refl }
piece starts low le (picked.local e g) =
    let more = piece starts low le g in
    record { new = more.new; now = more.now; added = more.added; leads = more.leads; low_now = more.low_now; goes = local e more.goes; home = more.home; rising = more.rising; top = more.top; unclosed = more.unclosed; mine = more.mine }
piece {n = n} {t = t} starts low le (picked.stores cell x a tells at may g) =
    let same : n ≤ n = omega arith in
    let more = piece starts n same g in
    record {
      new = Did t n cell x ∷ more.new;
      now = more.now;
      added = more.added ∙ append_assoc _ (Did t n cell x ∷ []) more.new;
      leads = steps t n cell x may more.leads;
      low_now = more.low_now;
      goes = rw (eq-eqb t.0 t.0 refl) (stores a le tells at more.goes);
      home = λ es r b h. (b, h, more.home es r b h);
      rising = (omega arith, more.rising);
      top = (omega arith, more.top);
      unclosed = more.unclosed;
      mine = λ u h. rw (other t.0 u (t.0 == u) refl h) (more.mine u h);
    }
