-- The board of the ledger's object.
use Rattle.std.proofs.Common.{◌≡◌, ℕ, zero, suc, ◌<◌, ◌≤◌, ◌==◌, Bool, true, false, ◌||◌, not, List, [], ◌∷◌, ◌++◌, map, take, length, Option, Some, MatchBool, refl, sym, subst, ap, ◌∙◌, arith, length-append}
use Rattle.std.proofs.Math.Bool.{or-true}
use Rattle.std.proofs.Math.Seq.{take-length, take-append_seam}
use Rattle.std.proofs.lemmas.List.{append-nil, length-take-le, take-take}
use Rattle.rx_rules.proofs.Common.{has_bit, all_places, MembersMakeTheSet, PlaceSet, tree_of}
use Rattle.rx_base.proofs.Elements.{last-is}
use Rattle.rx_rules.specs.declared.entries.Entry.{Entry}
use Rattle.rx_rules.specs.declared.entries.Entry.TheVariants.{Step, Root, Death, Join}
use Rattle.rx_tree_laws.proofs.Changes.{each_more}
use Rattle.rx_history.specs.declared.setup.Setup.{Setup}
use Rattle.rx_finish.specs.declared.totals.Totals.{Totals}
use Rattle.rx_finish.specs.Totals.{totals_of}
use Rattle.rx_counts.proofs.Hindering.{filter_same, places_low}
use Rattle.rx_ledger.specs.declared.asks.Request.{Request}
use Rattle.rx_ledger.specs.declared.asks.Reply.{Reply}
use Rattle.rx_ledger.specs.Kept.{KeeperView, is_refusal, Applied, AppliedIf}
use Rattle.rx_chronicle.specs.Told.{dies_in, HasDead}
use Rattle.rx_chronicle.proofs.Granting.{map_snoc}
use Rattle.rx_monitor.specs.declared.summary.Summary.{Summary}
use Rattle.rx_monitor.specs.Boards.{Listing, EndsWith, MayFollow}
use Rattle.rx_monitor.specs.Sums.{Rises}
use Rattle.rx_objects.specs.Shown.{dead_bits, summary_at, summary_of, whole_of, ShowsUpTo, BoardShows}
use Rattle.rx_objects.proofs.Dying.{dead_as_told, dead_few}

-- The summary of all entries.

same_set : MembersMakeTheSet → (a b : PlaceSet) → a.0 < 65536 → b.0 < 65536 → ((p : ℕ) → p < 16 → has_bit a.0 p ≡ has_bit b.0 p) → a ≡ b
same_set law a b la lb same =
    law a b la lb (filter_same (has_bit a.0) (has_bit b.0) all_places (each_more (λ (p : ℕ). p < 16) (λ p. has_bit a.0 p ≡ has_bit b.0 p) same all_places places_low))

abbrev pub told : ℕ → Totals → PlaceSet → Summary
told n t d = record { len = n; scopes = t.scopes; live = t.live; travel = t.travel; dead = d }

pub summary_is : MembersMakeTheSet → (k : KeeperView) (n : ℕ) (t : Totals) (d : PlaceSet) → n ≡ length k.entries → t ≡ totals_of (tree_of k.setup.places (k.entries ++ k.behind)) → k.behind ≡ [] → HasDead d k.entries → d.0 < 65536
    → told n t d ≡ whole_of k
summary_is law k n t d len all none dead few =
    let es = k.entries in
    let places = k.setup.places in
    let totals : t ≡ totals_of (tree_of places es) = all ∙ ap (λ (l : List Entry). totals_of (tree_of places l)) (ap (λ (l : List Entry). es ++ l) none ∙ append-nil es) in
    let dead_is : d ≡ record { 0 = dead_bits (tree_of places es).dead } =
    same_set law d (record { 0 = dead_bits (tree_of places es).dead }) few (dead_few places es) (λ p low. dead p low ∙ sym (dead_as_told places es p low)) in
    subst (λ (l : List Entry). told n t d ≡ summary_at (length es) (tree_of places l)) (sym (take-length es)) (λ i. told (len i) (totals i) (dead_is i))

-- What is shown stays.

last_low : (low : ℕ) (ms : List ℕ) (last : ℕ) → Rises low (ms ++ last ∷ []) → low ≤ last
last_low low [] last r = r.0
last_low low (m ∷ ms) last r = let l = last_low m ms last r.1 in let k = r.0 in omega (arith, l, k)

map_same : (f g : ℕ → Summary) (low : ℕ) (ms : List ℕ) (last : ℕ) → Rises low (ms ++ last ∷ []) → ((m : ℕ) → m ≤ last → f m ≡ g m)
    → map f (ms ++ last ∷ []) ≡ map g (ms ++ last ∷ [])
map_same f g low [] last r h = ap (λ (s : Summary). s ∷ []) (h last (omega arith))
map_same f g low (m ∷ ms) last r h = λ i. h m (last_low m ms last r.1) i ∷ map_same f g m ms last r.1 h i

stays : (places : ℕ) (es : List Entry) (before last : ℕ) (shown : List Summary) → before ≤ length es → ShowsUpTo places (take before es) last shown → ShowsUpTo places es last shown
stays places es before last shown le s =
    let low : last ≤ before = (let w = s.within in let l = length-take-le before es le in omega (arith, w, l)) in
    record {
      earlier = s.earlier;
      rises = s.rises;
      within = omega (arith, low, le);
      shown_are = s.shown_are ∙ map_same (summary_of places (take before es)) (summary_of places es) 0 s.earlier last s.rises
          (λ m m_le. let same : take m (take before es) ≡ take m es = take-take m before es (omega (arith, m_le, low)) in
          ap (λ (l : List Entry). summary_at m (tree_of places l)) same);
    }

-- One more.

rises_more : (low : ℕ) (ms : List ℕ) (n m : ℕ) → n ≤ m → Rises low (ms ++ n ∷ []) → Rises low ((ms ++ n ∷ []) ++ m ∷ [])
rises_more low [] n m l r = (r.0, (l, tt))
rises_more low (k ∷ ms) n m l r = (r.0, rises_more k ms n m l r.1)

one_more : (places : ℕ) (es : List Entry) (last : ℕ) (old new : List Summary) → ShowsUpTo places es last old → new ≡ old ++ summary_of places es (length es) ∷ [] → ShowsUpTo places es (length es) new
one_more places es last old new s is =
    record {
      earlier = s.earlier ++ last ∷ [];
      rises = rises_more 0 s.earlier last (length es) s.within s.rises;
      within = omega arith;
      shown_are = is ∙ (ap (λ (l : List Summary). l ++ summary_of places es (length es) ∷ []) s.shown_are ∙ sym (map_snoc (summary_of places es) (s.earlier ++ last ∷ []) (length es)));
    }

dies_later : (p n : ℕ) (es : List Entry) → dies_in p (take n es) ≡ true → dies_in p es ≡ true
dies_later p zero es e = absurd (let f : ⊥ = cc e in f)
dies_later p (suc n) [] e = e
dies_later p (suc n) (Step t act batch ∷ es) e = dies_later p n es e
dies_later p (suc n) (Root lost masked thrown ∷ es) e = dies_later p n es e
dies_later p (suc n) (Join q ∷ es) e = dies_later p n es e
dies_later p (suc n) (Death d ∷ es) e = go (d.0 == p) (dies_in p (take n es)) e (dies_later p n es)
  where
    go : (a b : Bool) → (a || b) ≡ true → (b ≡ true → dies_in p es ≡ true) → (a || dies_in p es) ≡ true
    go true b h k = refl
    go false b h k = k h

may_show : (k : KeeperView) (last : ℕ) (shown : List Summary) → ShowsUpTo k.setup.places k.entries last shown → (x : Summary) → EndsWith shown x → MayFollow x (whole_of k)
may_show k last shown s x ends =
    let es = k.entries in
    let places = k.setup.places in
    let is : summary_of places es last ≡ x =
    last-is (map (summary_of places es) s.earlier) ends.0 (summary_of places es last) x (sym (map_snoc (summary_of places es) s.earlier last) ∙ (sym s.shown_are ∙ ends.1)) in
    subst (λ (y : Summary). MayFollow y (whole_of k)) is (
      s.within,
      λ p low set. dead_as_told places (take (length es) es) p low ∙ (ap (dies_in p) (take-length es) ∙ dies_later p last es (sym (dead_as_told places (take last es) p low) ∙ set)),
    )

-- A call.

pub may_follow : (k : KeeperView) (before : ℕ) (late : Bool) (l : Listing) → before ≤ length k.entries → BoardShows k.setup.places (take before k.entries) late (Some l)
    → (x : Summary) → EndsWith l.list x → MayFollow x (whole_of k)
may_follow k before late l le h = may_show k h.0 l.list (stays k.setup.places k.entries before h.0 l.list le h.1)

pub shows_more : (k : KeeperView) (before : ℕ) (late : Bool) (old new : Listing) (b : Bool) → before ≤ length k.entries → BoardShows k.setup.places (take before k.entries) late (Some old)
    → MatchBool b (new.list ≡ old.list ++ whole_of k ∷ []) (new.list ≡ old.list) → BoardShows k.setup.places k.entries (late || not b) (Some new)
shows_more k before late old new true le h is =
    (length k.entries, one_more k.setup.places k.entries h.0 old.list new.list (stays k.setup.places k.entries before h.0 old.list le h.1) is, λ e. refl)
shows_more k before late old new false le h is =
    (h.0, subst (ShowsUpTo k.setup.places k.entries h.0) (sym is) (stays k.setup.places k.entries before h.0 old.list le h.1), λ e. absurd (let t : true ≡ false = sym (or-true late) ∙ e in let f : ⊥ = cc t in f))

-- what was shown of the entries before a step is shown of those first entries after it
pub begins : (k k' : KeeperView) (new : List Entry) (before : ℕ) (late : Bool) (board : Option Listing) → before ≡ length k.entries → k'.entries ≡ k.entries ++ new → k'.setup ≡ k.setup
    → BoardShows k.setup.places k.entries late board → (before ≤ length k'.entries) × BoardShows k'.setup.places (take before k'.entries) late board
begins k k' new before late board is entries setup h = (
  let l = ap length entries ∙ length-append k.entries new in omega (arith, l, is),
  let firsts : take before k'.entries ≡ k.entries = (λ i. take (is i) (entries i)) ∙ take-append_seam k.entries new in
      subst (λ (places : ℕ). BoardShows places (take before k'.entries) late board) (ap (λ (s : Setup). s.places) (sym setup))
      (subst (λ (es : List Entry). BoardShows k.setup.places es late board) (sym firsts) h),
)

-- a call that appends entries leaves none that was made and is not seen
pub whole_after : (k k' : KeeperView) (q : Request) (r : Reply) → Applied k q r k' → length k.entries < length k'.entries → k'.behind ≡ []
whole_after k k' q r applied more = go (is_refusal r) applied
  where
    go : (b : Bool) → AppliedIf b k q r k' → k'.behind ≡ []
    go true refused = absurd (let same = ap length refused.entries in omega (arith, same, more))
    go false answered = answered.whole
