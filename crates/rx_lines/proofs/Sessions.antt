-- Two sessions with one input, for whose lines the same ran out, tell the same.
use Rattle.std.proofs.Common.{◌⊎◌, cond, All, codes, ◌≡◌, ℕ, ◌+◌, ◌≤◌, Bool, true, false, List, [], ◌∷◌, ◌++◌, length, Some, None, refl, ap, sym, ◌∙◌, subst, arith, inl, inr, append-nil}
use Rattle.std.proofs.lemmas.Bool.{true≢false, or_parts}
use Rattle.rx_rules.proofs.Common.{Tree, tree_of, Reached, IsOlder, opens}
use Rattle.rx_rules.specs.declared.entries.Entry.{Entry}
use Rattle.rx_tree_laws.proofs.Histories.{none_yet}
use Rattle.rx_finish.specs.declared.ledger.Outcome.{Outcome}
use Rattle.rx_coordinator.specs.declared.requests.Request.{Request}
use Rattle.rx_coordinator.specs.declared.requests.Answer.{Answer}
use Rattle.rx_coordinator.specs.declared.requests.Answer.TheVariants.{NoMemory}
use Rattle.rx_coordinator.specs.declared.waiters.Waiter.{Waiter}
use Rattle.rx_coordinator.specs.Waiters.{waiter_at}
use Rattle.rx_coordinator.specs.Inside.Walks.{IsSame}
use Rattle.rx_lines.specs.Replies.{outcome_text, answer_text, answer_line, freed_line, waiter_text}
use Rattle.rx_lines.specs.Session.{Between, IsOpen, RequestIsAnswered, Frees, FreesEach, Rests, FreesAll, freed_lines, request_in, ran_out, LineAnswered, AllAnswered, greeting}
use Rattle.rx_lines.specs.Session.LineAnswered.{malformed, unread, replied}
use Rattle.rx_lines.specs.Determined.{refusal, is_all, shortage, shortages, IsAlike, AreAlike, OneText, OneTextWithEnough}
use Rattle.rx_lines.proofs.OneEntry.{item_one}
use Rattle.rx_lines.proofs.Viewing.{Keeps, IsTree, View, view, agree, stays, out_stays}
use Rattle.rx_lines.proofs.Keeping.{Fine, FreedAt, Passed, Stayed, fine_view, back_view, rows_keep, rows_turned, freed_at, fine_freed, passes_not, fine_stayed, stayed_keep}
use Rattle.rx_lines.proofs.Keeping.{freed_both}
use Rattle.rx_base.proofs.Elements.{tails-are}

-- Lists.

head-one : {X : Type 0} (x y : X) (xs ys : List X) → x ∷ xs ≡ y ∷ ys → x ≡ y
head-one x y xs ys e = cc

no-more : {X : Type 0} (xs : List X) (x : X) → [] ≡ xs ++ x ∷ [] → ⊥
no-more [] x e = cc
no-more (y ∷ ys) x e = cc

-- what stands before the last item
fronts-one : {X : Type 0} (xs ys : List X) (x y : X) → xs ++ x ∷ [] ≡ ys ++ y ∷ [] → xs ≡ ys
fronts-one [] [] x y e = refl
fronts-one [] (b ∷ bs) x y e = absurd (no-more bs y (tails-are x b [] (bs ++ y ∷ []) e))
fronts-one (a ∷ ds) [] x y e = absurd (no-more ds x (sym (tails-are a y (ds ++ x ∷ []) [] e)))
fronts-one {X = X} (a ∷ ds) (b ∷ bs) x y e =
    ap (λ (z : X). z ∷ ds) (head-one a b (ds ++ x ∷ []) (bs ++ y ∷ []) e) ∙ ap (λ (zs : List X). b ∷ zs) (fronts-one ds bs x y (tails-are a b (ds ++ x ∷ []) (bs ++ y ∷ []) e))

-- What ran out.

refusal-is : (a b : Answer) → refusal a ≡ Some b → a ≡ b
refusal-is a b =
    elim (ran_out a) as (λ c. cond c (Some a) None ≡ Some b → a ≡ b) [
      | true ↦ λ e. item_one (Some a) a b refl e
      | false ↦ λ e. absurd (let v : ⊥ = cc in v)
    ]

-- as many are told, or all that were possible are told in both
abbrev Ends : (p : ℕ) (b b2 c c2 : Between) → ℕ → ℕ → Rests p b b2 → Rests p c c2 → Type 0
Ends p b b2 c c2 n m r s = (n ≡ m) ⊎ ((is_all p b b2 r ≡ true) × (is_all p c c2 s ≡ true))

module _ (p : ℕ) (b b2 c c2 : Between) where
  all-passed : (r : Rests p b b2) → is_all p b b2 r ≡ true → Passed (tree_of p b.entries) b.waiters b2.waiters
  all-passed (inl h) e = h.0.1
  all-passed (inr h) e = absurd (true≢false (sym e))

  -- where releases go on in the other, none is possible in the one
  none-here : (n m : ℕ) → n + 1 ≤ m → (r : Rests p b b2) → (s : Rests p c c2) → Ends p b b2 c c2 n m r s
      → Passed (tree_of p b.entries) b.waiters b2.waiters
  none-here n m low r s (inl same) = absurd (omega (arith, low, same))
  none-here n m low r s (inr e) = all-passed r e.0

  fewer : (n m i j : ℕ) → n ≡ i + 1 → m ≡ j + 1 → (r : Rests p b b2) → (s : Rests p c c2) → Ends p b b2 c c2 n m r s
      → Ends p b b2 c c2 i j r s
  fewer n m i j f g r s (inl same) = inl (omega (arith, f, g, same))
  fewer n m i j f g r s (inr e) = inr e

  ends-turned : (n m : ℕ) (r : Rests p b b2) (s : Rests p c c2) → Ends p b b2 c c2 n m r s → Ends p c c2 b b2 m n s r
  ends-turned n m r s (inl same) = inl (sym same)
  ends-turned n m r s (inr e) = inr (e.1, e.0)

module _ (p : ℕ) where
  abbrev tree : Between → Tree
  tree b = tree_of p b.entries

  abbrev count : Between → ℕ
  count b = length b.entries

  -- two sessions stand alike
  pub record Alike (b c : Between) : Type 0 where
    pub same : IsTree (tree b) (count b) (tree c) (count c)
    pub one : Fine (tree b) (count b) b.waiters
    pub two : Fine (tree b) (count b) c.waiters
    pub on : Keeps (tree b) b.waiters c.waiters
    pub back : Keeps (tree b) c.waiters b.waiters

  -- what holds of the second tree holds of the first
  as-first : (b c : Between) → IsTree (tree b) (count b) (tree c) (count c) → (P : Tree → ℕ → Type 0) → P (tree c) (count c)
      → P (tree b) (count b)
  as-first b c is P k = subst (P (tree b)) is.1 (subst (λ (T : Tree). P T (count c)) is.0 k)

  -- a request has one answer
  asks-one : (b c d e : Between) (q : Request) (a z : Answer) → Alike b c → RequestIsAnswered p b q a d → RequestIsAnswered p c q z e → refusal a ≡ refusal z
      → (answer_text a ≡ answer_text z) × Alike d e
  asks-one b c d e q a z h x y out =
      let here : View (tree b) (count b) b.waiters q a (tree d) (count d) d.waiters = view p b.entries d.entries b.waiters d.waiters q a x.asked in
      let there : View (tree b) (count b) c.waiters q z (tree e) (count e) e.waiters = as-first b c h.same (λ T n. View T n c.waiters q z (tree e) (count e) e.waiters) (view p c.entries e.entries c.waiters e.waiters q z y.asked) in
      let r = agree (tree b) (count b) b.waiters c.waiters h.on h.back q a z out (tree d) (tree e) (count d) (count e) d.waiters e.waiters here there in
      let one : Fine (tree d) (count d) d.waiters = fine_view (tree b) (tree d) (count b) (count d) b.waiters d.waiters h.one q a here x.there in
      let other : Fine (tree e) (count e) e.waiters = fine_view (tree b) (tree e) (count b) (count e) c.waiters e.waiters h.two q z there y.there in
      let two : Fine (tree d) (count d) e.waiters = as-first d e r.1 (λ T n. Fine T n e.waiters) other in
      let way = back_view (tree b) (tree d) (count b) (count d) b.waiters d.waiters h.one q a here in (
        r.0,
        record {
          same = r.1;
          one = one;
          two = two;
          on = rows_keep (tree b) (tree d) q b.waiters c.waiters d.waiters e.waiters way h.one.there one.there two.there h.on r.2;
          back = rows_keep (tree b) (tree d) q c.waiters b.waiters e.waiters d.waiters way h.two.there two.there one.there h.back (rows_turned (tree b) (tree d) q b.waiters c.waiters d.waiters e.waiters r.2);
        },
      )

  -- of a release that has waited, too
  freed-here : (b c d : Between) → IsTree (tree b) (count b) (tree c) (count c) → (who : Waiter) (o : Outcome) → Frees p c who o d
      → FreedAt (tree b) (count b) c.waiters who o (tree d) (count d) d.waiters
  freed-here b c d is who o x = as-first b c is (λ T n. FreedAt T n c.waiters who o (tree d) (count d) d.waiters) (freed_at p c.entries d.entries c.waiters d.waiters x.scope who o x.freed)

  frees-one : (b c d e : Between) (who z : Waiter) (o w : Outcome) → Alike b c → Frees p b who o d → Frees p c z w e
      → (freed_line who o ≡ freed_line z w) × Alike d e
  frees-one b c d e who z o w h x y =
      let here = freed-here b b d (refl, refl) who o x in
      let there = freed-here b c e h.same z w y in
      let r = freed_both (tree b) (count b) b.waiters c.waiters h.one h.two h.on h.back who z o w (tree d) (tree e) (count d) (count e)
      d.waiters e.waiters here there in
      let k = freed_both (tree b) (count b) c.waiters b.waiters h.two h.one h.back h.on z who w o (tree e) (tree d) (count e) (count d)
      e.waiters d.waiters there here in (
        ap (λ (v : Waiter). waiter_text v ++ outcome_text o ++ 10 ∷ []) r.0
            ∙ ap (λ (t : List ℕ). waiter_text z ++ t ++ 10 ∷ []) r.1,
        record {
          same = r.2;
          one = fine_freed (tree b) (count b) b.waiters h.one who o (tree d) (count d) d.waiters here;
          two = as-first d e r.2 (λ T n. Fine T n e.waiters) (fine_freed (tree b) (count b) c.waiters h.two z w (tree e) (count e) e.waiters there);
          on = r.3;
          back = subst (λ (T : Tree). Keeps T e.waiters d.waiters) r.2.0 k.3;
        },
      )

  -- where none is released, or memory or numbers ran out, the rows stay or go
  rest-stays : (b d : Between) → Rests p b d → (b.entries ≡ d.entries) × Stayed (tree b) b.waiters d.waiters
  rest-stays b d (inl h) = (h.0.0, λ k. inr (h.0.1 k))
  rest-stays b d (inr h) = (h.0.0, h.0.1)

  -- where no entry is made, and rows stay or go
  stays-one : (b c d e : Between) → Alike b c → b.entries ≡ d.entries → Stayed (tree b) b.waiters d.waiters → c.entries ≡ e.entries
      → Stayed (tree c) c.waiters e.waiters → Alike d e
  stays-one b c d e h i x j y =
      let here : IsTree (tree b) (count b) (tree d) (count d) = stays p b.entries d.entries i in
      let there : IsTree (tree b) (count b) (tree e) (count e) =
      as-first b c h.same (λ T n. IsTree T n (tree e) (count e)) (stays p c.entries e.entries j) in
      let rows : Stayed (tree b) c.waiters e.waiters = as-first b c h.same (λ T n. Stayed T c.waiters e.waiters) y in
      let same : IsTree (tree d) (count d) (tree e) (count e) = (there.0 ∙ sym here.0, there.1 ∙ sym here.1) in
      let other = fine_stayed (tree b) (tree e) (count b) (count e) c.waiters e.waiters there rows h.two in
      record {
        same = same;
        one = fine_stayed (tree b) (tree d) (count b) (count d) b.waiters d.waiters here x h.one;
        two = as-first d e same (λ T n. Fine T n e.waiters) other;
        on = stayed_keep (tree b) (tree d) b.waiters c.waiters d.waiters e.waiters here.0 x rows h.on;
        back = stayed_keep (tree b) (tree d) c.waiters b.waiters e.waiters d.waiters here.0 rows x h.back;
      }

  rests-one : (b c d e : Between) → Alike b c → Rests p b d → Rests p c e → Alike d e
  rests-one b c d e h x y =
      let i = rest-stays b d x in
      let j = rest-stays c e y in
      stays-one b c d e h i.0 i.1 j.0 j.1

  -- none is possible in the one, and so none is released in the other
  none-more : (b c d e : Between) (who : Waiter) (o : Outcome) → Alike b c → Passed (tree b) b.waiters d.waiters → Frees p c who o e
      → ⊥
  none-more b c d e who o h all y =
      let there = freed-here b c e h.same who o y in
      passes_not (tree b) (count b) c.waiters h.two who o (tree e) (count e) e.waiters there b.waiters d.waiters h.back (all there.row)

  turned : (b c : Between) → Alike b c → Alike c b
  turned b c h =
      let is : IsTree (tree c) (count c) (tree b) (count b) = (sym h.same.0, sym h.same.1) in
      record {
        same = is;
        one = as-first c b is (λ T n. Fine T n c.waiters) h.two;
        two = as-first c b is (λ T n. Fine T n b.waiters) h.one;
        on = as-first c b is (λ T n. Keeps T c.waiters b.waiters) h.back;
        back = as-first c b is (λ T n. Keeps T b.waiters c.waiters) h.on;
      }

  -- the same are released
  freed-one : (xs ys : List (Waiter × Outcome)) (b c b1 c1 b2 c2 : Between) → Alike b c → FreesEach p b xs b1 → FreesEach p c ys c1
      → (r : Rests p b1 b2) → (s : Rests p c1 c2)
      → Ends p b1 b2 c1 c2 (length xs) (length ys) r s → (freed_lines xs ≡ freed_lines ys) × Alike b2 c2
  freed-one [] [] b c b1 c1 b2 c2 h x y r s e =
      (refl, rests-one b c b2 c2 h (subst (λ (z : Between). Rests p z b2) x r) (subst (λ (z : Between). Rests p z c2) y s))
  freed-one [] (y ∷ ys) b c b1 c1 b2 c2 h x k r s e =
      let none = none-here p b1 b2 c1 c2 0 (length (y ∷ ys)) (omega arith) r s e in
      absurd (none-more b c b2 k.0 y.0 y.1 h (subst (λ (z : Between). Passed (tree z) z.waiters b2.waiters) x none) k.1)
  freed-one (x ∷ xs) [] b c b1 c1 b2 c2 h k y r s e =
      let none = none-here p c1 c2 b1 b2 0 (length (x ∷ xs)) (omega arith) s r (ends-turned p b1 b2 c1 c2 (length (x ∷ xs)) 0 r s e) in
      absurd (none-more c b c2 k.0 x.0 x.1 (turned b c h) (subst (λ (z : Between). Passed (tree z) z.waiters c2.waiters) y none) k.1)
  freed-one (x ∷ xs) (y ∷ ys) b c b1 c1 b2 c2 h i k r s e =
      let here = frees-one b c i.0 k.0 x.0 y.0 x.1 y.1 h i.1 k.1 in
      let rest = freed-one xs ys i.0 k.0 b1 c1 b2 c2 here.1 i.2 k.2 r s (fewer p b1 b2 c1 c2 (length (x ∷ xs)) (length (y ∷ ys)) (length xs) (length ys) (omega arith) (omega arith) r s e) in
      (ap (λ (z : List ℕ). z ++ freed_lines xs) here.0 ∙ ap (λ (z : List ℕ). freed_line y.0 y.1 ++ z) rest.0, rest.1)

  -- where memory ran out for a line, as many are told in both
  as-many : (n m : ℕ) (x y : Bool) → x ≡ false → (n ≡ m) ⊎ ((x ≡ true) × (y ≡ true)) → m ≡ n
  as-many n m x y out (inl same) = sym same
  as-many n m x y out (inr e) = absurd (true≢false (sym e.0 ∙ out))

  many-as : (n m : ℕ) (x y : Bool) → y ≡ false → (n ≡ m) ⊎ ((x ≡ true) × (y ≡ true)) → n ≡ m
  many-as n m x y out (inl same) = same
  many-as n m x y out (inr e) = absurd (true≢false (sym e.1 ∙ out))

  -- whether memory has run out is no part of it
  marked : (b c : Between) (s t : Bool) → Alike b c → Alike (record b { is_short = s }) (record c { is_short = t })
  marked b c s t h = record { same = h.same; one = h.one; two = h.two; on = h.on; back = h.back }

  -- no release is told
  none-told : (ys : List (Waiter × Outcome)) (b c d : Between) → FreesEach p b ys c → Rests p c d → length ys ≡ 0
      → (freed_lines ys ≡ []) × Rests p b d
  none-told [] b c d h r e = (refl, subst (λ (z : Between). Rests p z d) h r)
  none-told (y ∷ ys) b c d h r e = absurd (omega (arith, e))

  -- a request for which memory ran out, and behind which no release is told, is a line for which memory ran out
  refused-one : (b c k e : Between) (q : Request) (a : Answer) (ys : List (Waiter × Outcome)) → Alike b c → RequestIsAnswered p c q a k
      → (frees : FreesAll p k ys e) → refusal a ≡ Some NoMemory → length ys ≡ 0
      → (answer_line a ++ freed_lines ys ≡ codes "no memory\n") × Alike b e
  refused-one b c k e q a ys h asks frees out stop =
      let is : a ≡ NoMemory = refusal-is a NoMemory out in
      let none = none-told ys k frees.0 e frees.1 frees.2 stop in
      let rest = rest-stays k e none.1 in
      let shown = view p c.entries k.entries c.waiters k.waiters q a asks.asked in
      let still = out_stays (tree c) (count c) c.waiters q a (tree k) (count k) k.waiters (ap ran_out is) shown in
      let text : answer_line a ++ freed_lines ys ≡ answer_line NoMemory ++ [] =
      ap (λ (z : Answer). answer_line z ++ freed_lines ys) is ∙ ap (λ (z : List ℕ). answer_line NoMemory ++ z) none.0 in
      (text ∙ append-nil (answer_line NoMemory), stays-one b k b e (on-to still) refl (λ n. inl refl) rest.0 rest.1)
    where
      on-to : IsSame c.waiters k.waiters × IsTree (tree c) (count c) (tree k) (count k) → Alike b k
      on-to s =
          let same : IsTree (tree b) (count b) (tree k) (count k) = (s.1.0 ∙ h.same.0, s.1.1 ∙ h.same.1) in
          record {
            same = same;
            one = h.one;
            two = fine_stayed (tree b) (tree b) (count b) (count b) c.waiters k.waiters (refl, refl) (λ n. inl (s.0 n)) h.two;
            on = λ n who may i. s.0 n ∙ h.on n who may i;
            back = λ n who may i. h.back n who may (sym (s.0 n) ∙ i);
          }

  -- a line has one reply
  answer-one : (b c d e : Between) (line x y : List ℕ) → Alike b c → (h : LineAnswered p b line x d) → (k : LineAnswered p c line y e)
      → IsAlike (shortage p b line x d h) (shortage p c line y e k) → (x ≡ y) × Alike d e
  answer-one b c d e line x y on (malformed none told same) (malformed nobody said equal) s =
      (told ∙ sym said, subst (λ (z : Between). Alike z e) (sym same) (subst (λ (z : Between). Alike b z) (sym equal) on))
  answer-one b c d e line x y on (malformed none told same) (unread said equal) s =
      absurd (let k : None ≡ Some NoMemory = s.0 in let v : ⊥ = cc in v)
  answer-one b c d e line x y on (malformed none told same) (replied q a m ys is asks frees said) s =
      absurd (let k : None ≡ Some q = sym none ∙ is in let v : ⊥ = cc in v)
  answer-one b c d e line x y on (unread told same) (malformed nobody said equal) s =
      absurd (let k : None ≡ Some NoMemory = sym s.0 in let v : ⊥ = cc in v)
  answer-one b c d e line x y on (unread told same) (unread said equal) s = (
    told ∙ sym said,
    subst (λ (z : Between). Alike z e) (sym same)
        (subst (λ (z : Between). Alike (record b { is_short = true }) z) (sym equal) (marked b c true true on)),
  )
  answer-one b c d e line x y on (unread told same) (replied q a m ys is asks frees said) s =
      let r = refused-one b c m e q a ys on asks frees (sym s.0) (as-many 0 (length ys) false (is_all p frees.0 e frees.2) refl s.1) in
      (told ∙ (sym r.0 ∙ sym said), subst (λ (z : Between). Alike z e) (sym same) (marked b e true e.is_short r.1))
  answer-one b c d e line x y on (replied q a m xs is asks frees told) (malformed nobody said equal) s =
      absurd (let k : None ≡ Some q = sym nobody ∙ is in let v : ⊥ = cc in v)
  answer-one b c d e line x y on (replied q a m xs is asks frees told) (unread said equal) s =
      let r = refused-one c b m d q a xs (turned b c on) asks frees s.0 (many-as (length xs) 0 (is_all p frees.0 d frees.2) false refl s.1) in
      (told ∙ (r.0 ∙ sym said), subst (λ (z : Between). Alike d z) (sym equal) (marked d c d.is_short true (turned c d r.1)))
  answer-one b c d e line x y on (replied q a m xs is asks frees told) (replied r z k ys also asked freed said) s =
      let same : r ≡ q = item_one (request_in line) r q also is in
      let again = subst (λ (v : Request). RequestIsAnswered p c v z k) same asked in
      let reply = asks-one b c m k q a z on asks again s.0 in
      let rest = freed-one xs ys m k frees.0 freed.0 d e reply.1 frees.1 freed.1 frees.2 freed.2 s.1 in (
        told
            ∙ (ap (λ (t : List ℕ). (t ++ 10 ∷ []) ++ freed_lines xs) reply.0
            ∙ (ap (λ (t : List ℕ). (answer_text z ++ 10 ∷ []) ++ t) rest.0 ∙ sym said)),
        rest.1,
      )

  -- all lines have one text
  answers-one : (lines : List (List ℕ)) (b c d e : Between) (x y : List ℕ) → Alike b c → (h : AllAnswered p b lines x d)
      → (k : AllAnswered p c lines y e) → AreAlike (shortages p b lines x d h) (shortages p c lines y e k) → x ≡ y
  answers-one [] b c d e x y on h k s = h.0 ∙ sym k.0
  answers-one (line ∷ lines) b c d e x y on h k s =
      let here = answer-one b c h.0 k.0 line h.1 k.1 on h.3 k.3 s.0 in
      let rest = answers-one lines h.0 k.0 d e h.2 k.2 here.1 h.4 k.4 s.1 in
      h.5 ∙ (ap (λ (t : List ℕ). t ++ h.2) here.0 ∙ (ap (λ (t : List ℕ). k.1 ++ t) rest ∙ sym k.5))

  -- before the first line
  open-one : (b c : Between) → 1 ≤ p → p ≤ 16 → IsOpen b → IsOpen c → Alike b c
  open-one b c some few h k =
      let is : IsTree (tree b) (count b) (tree c) (count c) = (ap (tree_of p) (k.entries ∙ sym h.entries), ap length (k.entries ∙ sym h.entries)) in
      record { same = is; one = begins b h; two = as-first b c is (λ T n. Fine T n c.waiters) (begins c k); on = λ n who may i. nobody b h n who i; back = λ n who may i. nobody c k n who i }
    where
      nobody : {X : Type 0} (d : Between) → IsOpen d → (n : ℕ) (who : Waiter) → waiter_at d.waiters n ≡ Some who → X
      nobody d o n who i = absurd (let none : None ≡ Some who = sym (o.waiters n) ∙ i in let v : ⊥ = cc in v)

      begins : (d : Between) → IsOpen d → Fine (tree d) (count d) d.waiters
      begins d o =
          record {
            reached = subst (λ (es : List Entry). Reached (tree_of p es)) (sym o.entries) (opens p some few);
            older = subst (λ (es : List Entry). All (IsOlder (length es)) (tree_of p es).dead) (sym o.entries) none_yet;
            there = λ n who i. nobody d o n who i;
          }

-- one text with these lines
abbrev TextWith : (p : ℕ) (b c d e : Between) (x y : List ℕ) (lines : List (List ℕ)) → AllAnswered p b lines x d → List (List ℕ)
    → Type 0
TextWith p b c d e x y lines h ls =
    (k : AllAnswered p c ls y e) → AreAlike (shortages p b lines x d h) (shortages p c ls y e k) → x ≡ y

pub one_text : OneText
one_text p bytes text other some few s t alike =
    let lines : s.lines ≡ t.lines = fronts-one s.lines t.lines s.last t.last (sym s.cut ∙ t.cut) in
    let begins = open-one p s.before t.before some few s.opens t.opens in
    let here : TextWith p s.before t.before s.after t.after s.replies t.replies s.lines s.answered s.lines =
    answers-one p s.lines s.before t.before s.after t.after s.replies t.replies begins s.answered in
    let there : TextWith p s.before t.before s.after t.after s.replies t.replies s.lines s.answered t.lines =
    subst (TextWith p s.before t.before s.after t.after s.replies t.replies s.lines s.answered) lines here in
    s.told ∙ (ap (λ (z : List ℕ). greeting p ++ z) (there t.answered alike) ∙ sym t.told)

-- Where nothing ran out.

true-false : (b : Bool) → b ≡ true → b ≡ false → ⊥
true-false b e f = true≢false (sym e ∙ f)

module _ (p : ℕ) where
  rests-plenty : (b c : Between) (r : Rests p b c) → c.is_short ≡ false → (b.is_short ≡ false) × (is_all p b c r ≡ true)
  rests-plenty b c (inl h) e = (sym h.1 ∙ e, refl)
  rests-plenty b c (inr h) e = absurd (true-false c.is_short h.1 e)

  each-plenty : (xs : List (Waiter × Outcome)) (b c : Between) → FreesEach p b xs c → c.is_short ≡ false → b.is_short ≡ false
  each-plenty [] b c h e = ap (λ (z : Between). z.is_short) (sym h) ∙ e
  each-plenty (x ∷ xs) b c h e = sym h.1.short ∙ each-plenty xs h.0 c h.2 e

  line-plenty : (b c : Between) (line text : List ℕ) (h : LineAnswered p b line text c) → c.is_short ≡ false
      → (b.is_short ≡ false) × ((shortage p b line text c h).reply ≡ None) × ((shortage p b line text c h).all ≡ true)
  line-plenty b c line text (malformed none told same) e = (ap (λ (z : Between). z.is_short) (sym same) ∙ e, refl, refl)
  line-plenty b c line text (unread told same) e = absurd (true-false c.is_short (ap (λ (z : Between). z.is_short) same) e)
  line-plenty b c line text (replied q a m xs is asks frees told) e =
      let r = rests-plenty frees.0 c frees.2 e in
      let both = or_parts b.is_short (ran_out a) (sym asks.short ∙ each-plenty xs m frees.0 frees.1 r.0) in
      (both.0, ap (λ (o : Bool). cond o (Some a) None) both.1, r.1)

  lines-plenty : (lines : List (List ℕ)) (b c d e : Between) (x y : List ℕ) (h : AllAnswered p b lines x d) → d.is_short ≡ false
      → (k : AllAnswered p c lines y e) → e.is_short ≡ false
      → (b.is_short ≡ false) × (c.is_short ≡ false) × AreAlike (shortages p b lines x d h) (shortages p c lines y e k)
  lines-plenty [] b c d e x y h f k g =
      (ap (λ (z : Between). z.is_short) (sym h.1) ∙ f, ap (λ (z : Between). z.is_short) (sym k.1) ∙ g, tt)
  lines-plenty (line ∷ lines) b c d e x y h f k g =
      let rest = lines-plenty lines h.0 k.0 d e h.2 k.2 h.4 f k.4 g in
      let here = line-plenty b h.0 line h.1 h.3 rest.0 in
      let there = line-plenty c k.0 line k.1 k.3 rest.1 in
      (here.0, there.0, ((here.1 ∙ sym there.1, inr (here.2, there.2)), rest.2))

-- so it is with these lines
abbrev AlikeWith : (p : ℕ) (b c d e : Between) (x y : List ℕ) (lines : List (List ℕ)) → AllAnswered p b lines x d → List (List ℕ)
    → Type 0
AlikeWith p b c d e x y lines h ls =
    (k : AllAnswered p c ls y e) → e.is_short ≡ false → AreAlike (shortages p b lines x d h) (shortages p c ls y e k)

pub one_text_with_enough : OneTextWithEnough
one_text_with_enough p bytes text other some few s t enough as_well =
    let lines : s.lines ≡ t.lines = fronts-one s.lines t.lines s.last t.last (sym s.cut ∙ t.cut) in
    let here : AlikeWith p s.before t.before s.after t.after s.replies t.replies s.lines s.answered s.lines =
    λ k g. (lines-plenty p s.lines s.before t.before s.after t.after s.replies t.replies s.answered enough k g).2 in
    let there : AlikeWith p s.before t.before s.after t.after s.replies t.replies s.lines s.answered t.lines =
    subst (AlikeWith p s.before t.before s.after t.after s.replies t.replies s.lines s.answered) lines here in
    one_text p bytes text other some few s t (there t.answered as_well)
