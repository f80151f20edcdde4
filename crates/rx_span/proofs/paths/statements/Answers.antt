use Rattle.std.proofs.Common.{◌≡◌, ◌∙◌, ℕ, ◌+◌, ◌≤◌, length, List, [], ◌∷◌, ◌++◌, drop, map, sym, ap, append_assoc, append-nil, arith, refl, Some, slice_get, option_to_list}
use Rattle.std.proofs.lemmas.List.{drop_all}
use Rattle.rx_base.proofs.Elements.{drop-next}
use Rattle.rx_rules.specs.declared.entries.Act.{Act}
use Rattle.rx_rules.specs.declared.entries.Entry.{Entry}
use Rattle.rx_rules.specs.declared.entries.Entry.TheVariants.{Step}
use Rattle.rx_rules.proofs.Common.{TaskId, told, told_in, own_path}
use Rattle.rx_span.proofs.paths.statements.Goals as goal
use Rattle.rx_span.proofs.paths.statements.Goals.{in-Step+else-loop-k-test+in-Some+in_ok-add-2, in-Step+else-loop-k-test+in_default-path_of, in_default}

-- one more of a batch
next-told : (done more : List (List ℕ)) (x : List ℕ) (batch all : List (List ℕ)) (k : ℕ) → more ≡ done ++ x ∷ [] → slice_get batch k ≡ Some x → done ++ drop k batch ≡ all → more ++ drop (k + 1) batch ≡ all
next-told done more x batch all k e h i =
    ap (λ l. l ++ drop (k + 1) batch) e ∙ append_assoc done (x ∷ []) (drop (k + 1) batch) ∙ ap (λ l. done ++ l) (sym (drop-next batch k x h)) ∙ i

pub add-requires : goal.add-requires
add-requires c =
    let h = c.loop-i.invariant in
    let k = c.loop-k.invariant h.0 h.1 in
    (k.0, k.1)

pub loop-k-preserved : goal.loop-k-preserved
loop-k-preserved c = λ done h.
    let k = c.loop-k.invariant done h in
    let x = c.item-in-loop-k.result.now in (
      k.0 ++ x ∷ [],
      c.in_ok-add.ensures k.0 k.1,
      next-told k.0 (k.0 ++ x ∷ []) x c.in-Step.batch (done ++ c.in-Step.batch) c.loop-k.k refl c.item-in-loop-k.ensures k.2,
    )

-- one more entry
entry-told : (done more : List (List ℕ)) (e : Entry) (es : List Entry) (i : ℕ) → slice_get es i ≡ Some e → more ≡ done ++ told_in e → done ++ told (drop i es) ≡ told es → more ++ told (drop (i + 1) es) ≡ told es
entry-told done more e es i h m k =
    ap (λ l. l ++ told (drop (i + 1) es)) m ∙ append_assoc done (told_in e) (told (drop (i + 1) es)) ∙ ap (λ l. done ++ told l) (sym (drop-next es i e h)) ∙ k

told-other : (e : Entry) → ((t : TaskId) (act : Act) (batch : List (List ℕ)) → e ≡ Step t act batch → ⊥) → told_in e ≡ []
told-other (Step t act batch) n = absurd (n t act batch refl)
told-other _ n = refl

-- the whole of a batch, and then the entry's own
whole-told : (done all batch own : List (List ℕ)) (k : ℕ) → length batch ≤ k → all ++ drop k batch ≡ done ++ batch → all ++ own ≡ done ++ (batch ++ own)
whole-told done all batch own k l e =
    ap (λ x. x ++ own) (sym (append-nil all) ∙ ap (λ x. all ++ x) (sym (drop_all k batch l)) ∙ e) ∙ append_assoc done batch own

pub loop-i-preserved : goal.loop-i-preserved
loop-i-preserved c =
    let h = c.loop-i.invariant in
    elim c.match-item.branch [
      | in-Step+else-loop-k-test+in-Some+in_ok-add-2 w ↦
          let k = w.loop-k.invariant h.0 h.1 in
          let own : own_path w.in-Step.act ≡ w.in-Some.path.now ∷ [] = w.path_of.ensures ∙ ap (λ o. map (λ p. p.now) (option_to_list o)) w.in-Some.is in
          let xs = k.0 ++ w.in-Some.path.now ∷ [] in
          let all : xs ≡ h.0 ++ told_in c.item.result.now = ap (λ l. k.0 ++ l) (sym own) ∙ whole-told h.0 k.0 w.in-Step.batch (own_path w.in-Step.act) w.loop-k.k (omega (arith, w.loop-k-test.false, w.len-k-end.ensures)) k.2 ∙ ap (λ e. h.0 ++ told_in e) (sym w.in-Step.is) in
          (xs, rw w.copies-is (w.in_ok-add-2.ensures k.0 k.1), entry-told h.0 xs c.item.result.now c.args.history.now.entries c.loop-i.i c.item.ensures all h.2)
      | in-Step+else-loop-k-test+in_default-path_of w ↦
          let k = w.loop-k.invariant h.0 h.1 in
          let own : own_path w.in-Step.act ≡ [] = w.path_of.ensures ∙ ap (λ o. map (λ p. p.now) (option_to_list o)) w.in_default-path_of.is in
          let all : k.0 ≡ h.0 ++ told_in c.item.result.now = sym (append-nil k.0) ∙ ap (λ l. k.0 ++ l) (sym own) ∙ whole-told h.0 k.0 w.in-Step.batch (own_path w.in-Step.act) w.loop-k.k (omega (arith, w.loop-k-test.false, w.len-k-end.ensures)) k.2 ∙ ap (λ e. h.0 ++ told_in e) (sym w.in-Step.is) in
          (k.0, rw w.copies-is k.1, entry-told h.0 k.0 c.item.result.now c.args.history.now.entries c.loop-i.i c.item.ensures all h.2)
      | in_default w ↦
          let all : h.0 ≡ h.0 ++ told_in c.item.result.now = sym (append-nil h.0) ∙ ap (λ l. h.0 ++ l) (sym (told-other c.item.result.now w.in_default.not-Step)) in
          (h.0, rw w.copies-is h.1, entry-told h.0 h.0 c.item.result.now c.args.history.now.entries c.loop-i.i c.item.ensures all h.2)
    ]
