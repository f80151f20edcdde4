-- All journals, one after the other.
use Rattle.std.proofs.Common.{◌≡◌, ℕ, ◌<◌, Bool, List, length, Option, sym, subst}
use Rattle.rx_rules.specs.declared.entries.Entry.{Entry}
use Rattle.rx_rules.specs.declared.events.PlaceEvent.{PlaceEvent}
use Rattle.rx_rules.proofs.Common.{journal_at, death_number}
use Rattle.rx_verdict.specs.Marked.{row_at}
use Rattle.rx_verdict.specs.Flaws.{IsSound, IsSoundIn}

-- what one journal's judgement says of all journals
pub sound-here : (v w : ℕ) (es : List Entry) (js : List (List PlaceEvent)) (ms : List (List Bool)) (p : ℕ) (death : Option ℕ) (j : List PlaceEvent) → v ≡ w → death ≡ death_number 0 (record { 0 = p }) es
    → journal_at js p ≡ j → ((e : ℕ) → e < length j → IsSoundIn v death j (row_at ms p) e) → (e : ℕ) → e < length (journal_at js p) → IsSound w es js ms p e
sound-here v w es js ms p death j heap died is sound e l =
    let a : IsSoundIn v death j (row_at ms p) e = sound e (subst (λ (x : List PlaceEvent). e < length x) is l) in
    let b : IsSoundIn v death (journal_at js p) (row_at ms p) e = subst (λ (x : List PlaceEvent). IsSoundIn v death x (row_at ms p) e) (sym is) a in
    let d : IsSoundIn v (death_number 0 (record { 0 = p }) es) (journal_at js p) (row_at ms p) e = subst (λ (x : Option ℕ). IsSoundIn v x (journal_at js p) (row_at ms p) e) died b in
    subst (λ n. IsSoundIn n (death_number 0 (record { 0 = p }) es) (journal_at js p) (row_at ms p) e) heap d
