-- What each call finds is what the law tells, and what it leaves are the blocks after that.
use Rattle.std.proofs.Common.{◌≡◌, ℕ, zero, suc, ◌+◌, ◌<◌, Bool, false, ℤ, pos, List, ◌∷◌, ◌++◌, map, filter, cond, length, length-set, set, take, drop, replicate, get_or, arith, refl, sym, subst, ap, ◌∙◌, add-one, Option, Some, None, slice_get, slice_index, not}
use Rattle.std.proofs.lemmas.List.{length-replicate}
use Rattle.std.proofs.lemmas.Option.{none-some}
use Rattle.rx_rules.proofs.Common.{GlobalRef, Live, opening_state, MayCell, after_cell, is_block, set_word}
use Rattle.rx_heap.specs.Region.{Region, Extent, IsLaid, IsFree, IsLeastFree}
use Rattle.rx_rules.specs.declared.events.Cell.{Cell}
use Rattle.rx_rules.specs.declared.events.Cell.TheVariants.{Make, MakeFull, Get, Put, Forget, GetRefused, PutRefused, ForgetStale}
use Rattle.rx_rules.specs.Store as law
use Rattle.rx_store.specs.declared.table.Held.{Held}
use Rattle.rx_store.specs.Table.{slot_at, Table, TableHolds, TableStands, IsTable, EventFits, IsLocated, IsUnlocated}
use Rattle.rx_store.proofs.Holding.{none_fits, least_fits}
use Rattle.rx_store.proofs.Changing.{make_holds, forget_holds, put_holds, length-made}
use Rattle.rx_store.proofs.Lookups.{at_table, is_found, located_found, law_stale, law_refused, law_reads, law_get}

-- each element of a list of one value is that value, and so is what stands for one outside
get_or_same : {X : Type 0} (n k : ℕ) (x : X) → get_or (replicate n x) k x ≡ x
get_or_same zero k x = refl
get_or_same (suc n) zero x = refl
get_or_same (suc n) (suc k) x = get_or_same n k x

abbrev pub table : Region → List (Option Held) → ℕ → Table
table R slots made = record { region = R; slots = slots; made = made }

-- no blocks in a heap without any
pub stands_open : (R : Region) (slots : List (Option Held)) (w : ℕ) → R.words ≡ replicate w (pos 0) → R.lengths ≡ replicate w 0 → IsLaid R → slots ≡ replicate w None → TableStands w (table R slots 0) opening_state
stands_open R slots w words lengths laid none =
    let many : length R.words ≡ w = ap (λ (z : List ℤ). length z) words ∙ length-replicate w (pos 0) in
    record {
      words = many;
      made_is = refl;
      holds = record {
        size = ap (λ (z : List (Option Held)). length z) none ∙ length-replicate w None ∙ sym many;
        laid = laid;
        backed = tt;
        listed = λ k h e. absurd (none-some h (sym (empty k) ∙ e));
        known = λ k some. absurd (let zero = ap (λ (z : List ℕ). slice_index z k) lengths ∙ get_or-replicated k in omega arith);
      };
    }
  where
    empty : (k : ℕ) → slot_at slots k ≡ None
    empty k = ap (λ z. slot_at z k) none ∙ get_or_same w k None

    get_or-replicated : (k : ℕ) → slice_index (replicate w 0) k ≡ 0
    get_or-replicated k = get_or_same w k 0

-- what stood for a state stands for one after the event
pub still_stands : (old new : Table) (cell : Cell) → IsTable old → EventFits old new cell → IsTable new
still_stands old new cell (w, S, stands) tells = (w, after_cell S cell, (tells w S stands).1)

-- n words were taken at b
pub make_told : (R R' : Region) (slots slots' : List (Option Held)) (made n start : ℕ) (b : Extent) → start ≡ b.start → 0 < n → IsLeastFree R n b.start → b.len ≡ n → IsLaid R' → R'.lengths ≡ set R.lengths b.start n
    → R'.words ≡ take b.start R.words ++ (replicate n (pos 0) ++ drop (b.start + n) R.words) → slots' ≡ set slots b.start (Some (record { generation = made + 1; block = b })) → EventFits (table R slots made) (table R' slots' (made + 1)) (Make n start (made + 1))
make_told R R' slots slots' made n start b begins some least len laid lengths words kept w S stands = (
  (may, generation),
  record {
    words = same ∙ stands.words;
    made_is = generation;
    holds = subst H (sym begins) (subst K (sym kept) (subst L (sym len) holds));
  },
)
  where
    same : length R'.words ≡ length R.words
    same = length-made R.words R'.words b.start n least.here.inside words

    generation : made + 1 ≡ suc S.made
    generation = add-one made ∙ ap suc stands.made_is

    may : law.IsLeastFree w S n start
    may =
        subst (λ z. law.IsLeastFree w S n z) (sym begins) (subst (λ z. law.IsLeastFree z S n b.start) stands.words (least_fits R slots S n b.start stands.holds some least))

    this : ℕ → Live
    this s = record { start = s; generation = made + 1; words = replicate n (pos 0) }

    H : ℕ → Type 0
    H s = TableHolds R' slots' (this s ∷ S.blocks)

    K : List (Option Held) → Type 0
    K slots = TableHolds R' slots (this b.start ∷ S.blocks)

    L : ℕ → Type 0
    L l = TableHolds R' (set slots b.start (Some (record { generation = made + 1; block = record { start = b.start; len = l } }))) (this b.start ∷ S.blocks)

    holds : L n
    holds = make_holds R R' slots S.blocks b.start n (made + 1) stands.holds laid some least.here lengths words same

-- no words were free
pub full_told : (R R' : Region) (slots : List (Option Held)) (made n : ℕ) → R' ≡ R → ((a : ℕ) → IsFree R n a → ⊥) → EventFits (table R slots made) (table R' slots made) (MakeFull n)
full_told R R' slots made n same none w S stands = (
  subst (λ z. (a : ℕ) → law.fits z S n a ≡ false) stands.words (none_fits R slots S n stands.holds none),
  subst (λ z. TableStands w (table z slots made) S) (sym same) stands,
)

-- a word was read
pub get_told : (R : Region) (slots now : List (Option Held)) (made : ℕ) (r : GlobalRef) (i v : ℤ) (h : Held) (at : ℕ) → now ≡ slots → IsLocated now r i h at → slice_get R.words (h.block.start + at) ≡ Some v → EventFits (table R slots made) (table R slots made) (Get r i v)
get_told R slots now made r i v h at e l read w S stands =
    let f = located_found R slots now S r i h at stands.holds e l in
    (subst (λ z. MayCell z S (Get r i v)) stands.words (law_get R slots S r h i v at f l.index l.within read), stands)

-- what could not be located is refused
pub get_refused : (R : Region) (slots now : List (Option Held)) (made : ℕ) (r : GlobalRef) (i : ℤ) (stale : Bool) → now ≡ slots → IsUnlocated now r i stale → EventFits (table R slots made) (table R slots made) (GetRefused r i stale)
get_refused R slots now made r i stale e none w S stands = (law_refused R slots now S r i stale stands.holds e none, stands)

pub put_refused : (R : Region) (slots now : List (Option Held)) (made : ℕ) (r : GlobalRef) (i v : ℤ) (stale : Bool) → now ≡ slots → IsUnlocated now r i stale → EventFits (table R slots made) (table R slots made) (PutRefused r i v stale)
put_refused R slots now made r i v stale e none w S stands = (law_refused R slots now S r i stale stands.holds e none, stands)

-- a word was written
pub put_told : (R R' : Region) (slots now : List (Option Held)) (made : ℕ) (r : GlobalRef) (i v : ℤ) (h : Held) (at : ℕ) → now ≡ slots → IsLocated now r i h at → R' ≡ record R { words = set R.words (h.block.start + at) v } → IsLaid R'
    → EventFits (table R slots made) (table R' slots made) (Put r i v)
put_told R R' slots now made r i v h at e l wrote laid w S stands =
    let f = located_found R slots now S r i h at stands.holds e l in
    let slot = at_table slots now r.start h e l.slot in
    let H : ℤ → Type 0 = λ z. TableHolds R' slots (map (λ b. cond (is_block r b) (set_word z v b) b) S.blocks) in
    let holds = put_holds R R' slots S.blocks r h at v stands.holds laid (ap (λ (z : Region). z.lengths) wrote) (ap (λ (z : Region). z.words) wrote) slot l.generation l.within in (
      (f.block, law_reads R slots S r h i at f l.index l.within),
      record {
        words = ap (λ (z : Region). length z.words) wrote ∙ length-set R.words (h.block.start + at) v ∙ stands.words;
        made_is = stands.made_is;
        holds = subst H (sym l.index) holds;
      },
    )

-- a block was given back
pub forget_told : (R R' : Region) (slots slots' : List (Option Held)) (made : ℕ) (r : GlobalRef) (h : Held) → slot_at slots r.start ≡ Some h → h.generation ≡ r.generation → slots' ≡ set slots r.start None → IsLaid R' → R'.words ≡ R.words
    → R'.lengths ≡ set R.lengths h.block.start 0 → EventFits (table R slots made) (table R' slots' made) (Forget r)
forget_told R R' slots slots' made r h slot generation gone laid words lengths w S stands =
    let f = is_found R slots S r h stands.holds slot generation in
    let H : List (Option Held) → Type 0 = λ z. TableHolds R' z (filter (λ b. not (is_block r b)) S.blocks) in (
      (f.block, f.is),
      record {
        words = ap (λ (z : List ℤ). length z) words ∙ stands.words;
        made_is = stands.made_is;
        holds = subst H (sym gone) (forget_holds R R' slots S.blocks r h stands.holds laid words slot generation lengths);
      },
    )

pub forget_stale : (R : Region) (slots slots' : List (Option Held)) (made : ℕ) (r : GlobalRef) → slots' ≡ slots → ((h : Held) → slot_at slots r.start ≡ Some h → h.generation ≡ r.generation → ⊥) → EventFits (table R slots made) (table R slots' made) (ForgetStale r)
forget_stale R slots slots' made r same none w S stands =
    (law_stale R slots slots S r stands.holds refl none, subst (λ z. TableStands w (table R z made) S) (sym same) stands)
