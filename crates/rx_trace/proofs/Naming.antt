-- The kind of act that the first word of an entry names.
use Rattle.std.proofs.Common.{◌≡◌, ◌≢◌, ℕ, Bool, true, false, List, [], ◌∷◌, refl, ap, sym, ◌∙◌, Option, Some, None, codes}
use Rattle.std.proofs.lemmas.Bool.{true≢false}
use Rattle.std.specs.Str.{bytes_eq}
use Rattle.std.proofs.lemmas.Option.{same_Some, none-some}
use Rattle.rx_rules.specs.declared.entries.Entry.{Entry}
use Rattle.rx_trace.specs.declared.acts.Kind.{Kind}
use Rattle.rx_trace.specs.declared.acts.Kind.TheVariants.{Open, At, Spawn, Arrive, Wait, Release, End, Print, Census}
use Rattle.rx_fields.specs.Words.{first_word}
use Rattle.rx_trace.specs.Inside.EntryWords.{act_at, step_at, acted_at, changed_at, word_of, entry_at}
use Rattle.rx_base.proofs.Elements.{same-bytes}
use Rattle.rx_fields.proofs.Cuts.{bytes-same}

-- a word that is compared as the word of a kind
pub is_word : (w : List ℕ) (kind : Kind) → true ≡ bytes_eq w (word_of kind) → w ≡ word_of kind
is_word w kind same = bytes-same w (word_of kind) (sym same)

not_word : (w v : List ℕ) → false ≡ bytes_eq w v → w ≢ v
not_word w v other same = absurd (true≢false (sym (same-bytes v) ∙ ap (λ u. bytes_eq u v) (sym same) ∙ sym other))

-- one that is none of these words
pub no_kind : (w : List ℕ) → false ≡ bytes_eq w (codes "spawn") → false ≡ bytes_eq w (codes "arrive") → false ≡ bytes_eq w (codes "end") → false ≡ bytes_eq w (codes "open") → false ≡ bytes_eq w (codes "at")
    → false ≡ bytes_eq w (codes "wait") → false ≡ bytes_eq w (codes "release") → false ≡ bytes_eq w (codes "print") → false ≡ bytes_eq w (codes "census") → (kind : Kind) → w ≢ word_of kind
no_kind w a b c d e f g h i Spawn = not_word w (codes "spawn") a
no_kind w a b c d e f g h i Arrive = not_word w (codes "arrive") b
no_kind w a b c d e f g h i End = not_word w (codes "end") c
no_kind w a b c d e f g h i Open = not_word w (codes "open") d
no_kind w a b c d e f g h i At = not_word w (codes "at") e
no_kind w a b c d e f g h i Wait = not_word w (codes "wait") f
no_kind w a b c d e f g h i Release = not_word w (codes "release") g
no_kind w a b c d e f g h i Print = not_word w (codes "print") h
no_kind w a b c d e f g h i Census = not_word w (codes "census") i

-- an entry whose first word is that of a kind
by_word : (places : ℕ) (kind : Kind) (ws : List (List ℕ)) → entry_at places (word_of kind ∷ ws) ≡ acted_at places kind ws
by_word places Open ws = refl
by_word places _ ws = refl

pub named_entry : (places : ℕ) (words rest : List (List ℕ)) (w : List ℕ) (kind : Kind) → Some (w, rest) ≡ first_word words → w ≡ word_of kind → acted_at places kind rest ≡ entry_at places words
named_entry places [] rest w kind first is = absurd (none-some (w, rest) (sym first))
named_entry places (v ∷ ws) rest w kind first is =
    let e = same_Some (w, rest) (v, ws) first in
    let same : w ≡ v = ap (λ x. x.0) e in
    let left : rest ≡ ws = ap (λ x. x.1) e in
    ap (acted_at places kind) left ∙ sym (ap (λ u. entry_at places (u ∷ ws)) (sym same ∙ is) ∙ by_word places kind ws)

other_word : (w : List ℕ) (kind : Kind) → w ≢ word_of kind → bytes_eq w (word_of kind) ≡ false
other_word w kind apart = by (bytes_eq w (word_of kind)) refl where
  by : (b : Bool) → bytes_eq w (word_of kind) ≡ b → b ≡ false
  by true same = absurd (apart (bytes-same w (word_of kind) same))
  by false same = refl

-- an entry whose first word is that of no kind
pub unnamed_entry : (places : ℕ) (words rest : List (List ℕ)) (w : List ℕ) → Some (w, rest) ≡ first_word words → ((kind : Kind) → w ≢ word_of kind) → changed_at places (w ∷ rest) ≡ entry_at places words
unnamed_entry places [] rest w first apart = absurd (none-some (w, rest) (sym first))
unnamed_entry places (v ∷ ws) rest w first apart =
    let e = same_Some (w, rest) (v, ws) first in
    let same : w ≡ v = ap (λ x. x.0) e in
    let left : rest ≡ ws = ap (λ x. x.1) e in
    ap (λ u. changed_at places (w ∷ u)) left ∙ sym (ap (λ u. entry_at places (u ∷ ws)) (sym same) ∙ none)
  where
    none : entry_at places (w ∷ ws) ≡ changed_at places (w ∷ ws)
    none = rw (other_word w Open (apart Open)) (rw (other_word w At (apart At)) (rw (other_word w Spawn (apart Spawn)) (rw (other_word w Arrive (apart Arrive)) (rw (other_word w Wait (apart Wait))
        (rw (other_word w Release (apart Release)) (rw (other_word w End (apart End)) (rw (other_word w Print (apart Print)) (rw (other_word w Census (apart Census)) refl))))))))

-- an act that is no release is a step of a task
pub other_kinds : (places : ℕ) (kind : Kind) (ws : List (List ℕ)) → (kind ≡ Release → ⊥) → acted_at places kind ws ≡ step_at (act_at places kind) ws
other_kinds places Release ws other = absurd (other refl)
other_kinds places _ ws other = refl
