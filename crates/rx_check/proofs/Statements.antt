-- The parts of a statement, and the least rule that they fail.
use Rattle.std.proofs.Common.{◌≡◌, ℕ, nat_lt, Bool, true, false, not, ◌&&◌, ◌||◌, List, [], ◌∷◌, ◌++◌, Option, Some, None, option_map, refl, ap, sym, ◌∙◌, if◌then◌else◌}
use Rattle.std.specs.List.{list_all}
use Rattle.std.proofs.lemmas.List.Folds.{list_all-append}
use Rattle.std.proofs.Math.Bool.{and-true}
use Rattle.rx_rules.proofs.Common.{Expr, Num, Name, Here, Bin, Stmt, SetTo, New, Get, Put, Forget, Census, Print, Throw, Async, AtAsync, At, Finish, If, Repeat, Try, has}
use Rattle.rx_syntax.specs.Shape.{Shape, StmtIs}
use Rattle.rx_syntax.specs.declared.nodes.NameId.{NameId}
use Rattle.rx_syntax.specs.declared.nodes.Stmt.{Stmt as Node}
use Rattle.rx_syntax.specs.declared.nodes.Stmt.TheVariants.{Set as SetNode, New as NewNode, Get as GetNode, Put as PutNode, Forget as ForgetNode, Census as CensusNode, Print as PrintNode, Throw as ThrowNode, Async as AsyncNode, AtAsync as AtAsyncNode, At as AtNode, Finish as FinishNode, If as IfNode, Repeat as RepeatNode, Try as TryNode}
use Rattle.rx_check.specs.Rules.{Kind, ANumber, AReference, names_in, pairs_in, names_of_all, exprs_of, targets_of, assigned, Sight, is_kind, fails_known, fails_depth}
use Rattle.rx_check.specs.Inside.Walk.{kind_in, gets_other_kind, is_one_more, mistakes_kind, rule_with, seen_as, seen_all, KnowsNames, parts_of, any_name, join, is_unknown, is_of_kind, uses_in, OptionStands, uses_all, any_target, rule_from}
use Rattle.rx_check.specs.declared.parts.Parts.{Parts}
use Rattle.rx_check.specs.declared.walk.Walk.{Walk}
use Rattle.rx_check.proofs.Waiting.{join-assoc}

-- the target of a statement as a list
abbrev pub target_list : Option NameId → List ℕ
target_list None = []
target_list (Some n) = n.0 ∷ []

pub record PartsStand (s : Shape) (p : Parts) (t : Stmt) : Type 0 where
  pub firsts : List Expr
  pub seconds : List Expr
  pub first : OptionStands s.exprs p.first firsts
  pub second : OptionStands s.exprs p.second seconds
  pub exprs : exprs_of t ≡ firsts ++ seconds
  pub targets : targets_of t ≡ target_list p.target
  pub assigns : assigned t ≡ option_map seen_as p.assigned

pub parts-stand : (s : Shape) (node : Node) (t : Stmt) → StmtIs s node t → PartsStand s (parts_of node) t
parts-stand s (SetNode name value) (SetTo n e) h = record { firsts = e ∷ []; seconds = []; first = h.1; second = tt; exprs = refl; targets = refl; assigns = ap (λ m. Some (m, ANumber)) h.0 }
parts-stand s (NewNode name words) (New n w) h = record { firsts = []; seconds = []; first = tt; second = tt; exprs = refl; targets = refl; assigns = ap (λ m. Some (m, AReference)) h.0 }
parts-stand s (GetNode name target index) (Get n t e) h = record { firsts = e ∷ []; seconds = []; first = h.2; second = tt; exprs = refl; targets = ap (λ m. m ∷ []) h.1; assigns = ap (λ m. Some (m, ANumber)) h.0 }
parts-stand s (PutNode target index value) (Put t e f) h = record { firsts = e ∷ []; seconds = f ∷ []; first = h.1; second = h.2; exprs = refl; targets = ap (λ m. m ∷ []) h.0; assigns = refl }
parts-stand s (ForgetNode target) (Forget t) h = record { firsts = []; seconds = []; first = tt; second = tt; exprs = refl; targets = ap (λ m. m ∷ []) h; assigns = refl }
parts-stand s (CensusNode name) (Census n) h = record { firsts = []; seconds = []; first = tt; second = tt; exprs = refl; targets = refl; assigns = ap (λ m. Some (m, ANumber)) h }
parts-stand s (PrintNode value) (Print e) h = record { firsts = e ∷ []; seconds = []; first = h; second = tt; exprs = refl; targets = refl; assigns = refl }
parts-stand s (ThrowNode value) (Throw e) h = record { firsts = e ∷ []; seconds = []; first = h; second = tt; exprs = refl; targets = refl; assigns = refl }
parts-stand s (AsyncNode body) (Async b) h = record { firsts = []; seconds = []; first = tt; second = tt; exprs = refl; targets = refl; assigns = refl }
parts-stand s (AtAsyncNode place body) (AtAsync e b) h = record { firsts = e ∷ []; seconds = []; first = h.3; second = tt; exprs = refl; targets = refl; assigns = refl }
parts-stand s (AtNode place body) (At e b) h = record { firsts = e ∷ []; seconds = []; first = h.3; second = tt; exprs = refl; targets = refl; assigns = refl }
parts-stand s (FinishNode body) (Finish b) h = record { firsts = []; seconds = []; first = tt; second = tt; exprs = refl; targets = refl; assigns = refl }
parts-stand s (IfNode test first other) (If e a b) h = record { firsts = e ∷ []; seconds = []; first = h.4; second = tt; exprs = refl; targets = refl; assigns = refl }
parts-stand s (RepeatNode times body) (Repeat n b) h = record { firsts = []; seconds = []; first = tt; second = tt; exprs = refl; targets = refl; assigns = refl }
parts-stand s (TryNode body dead_only handler) (Try a d b) h = record { firsts = []; seconds = []; first = tt; second = tt; exprs = refl; targets = refl; assigns = refl }
parts-stand s _ _ h = absurd h

not-and : (a b : Bool) → not (a && b) ≡ (not a || not b)
not-and true b = refl
not-and false b = refl

not-not : (a : Bool) → not (not a) ≡ a
not-not true = refl
not-not false = refl

not-append : (g : ℕ → Bool) (xs ys : List ℕ) → not (list_all g (xs ++ ys)) ≡ (not (list_all g xs) || not (list_all g ys))
not-append g xs ys = ap not (list_all-append g xs ys) ∙ not-and (list_all g xs) (list_all g ys)

or-both : (a b c d : Bool) → a ≡ b → c ≡ d → (a || c) ≡ (b || d)
or-both a b c d e f = ap (λ x. x || c) e ∙ ap (λ x. b || x) f

-- the names of an expression
any-names : (test g : ℕ → Bool) → ((n : ℕ) → test n ≡ not (g n)) → (e : Expr) → any_name test e ≡ not (list_all g (names_in e))
any-names test g h (Num z) = refl
any-names test g h (Name n) = h n ∙ ap not (sym (and-true (g n)))
any-names test g h Here = refl
any-names test g h (Bin op l r) = or-both _ _ _ _ (any-names test g h l) (any-names test g h r) ∙ sym (not-append g (names_in l) (names_in r))

unknown-all : (w : Walk) (g : ℕ → Bool) → ((n : ℕ) → is_unknown w n ≡ not (g n)) → (es : List Expr) → (uses_all w es).unknown ≡ not (list_all g (names_of_all es))
unknown-all w g h [] = refl
unknown-all w g h (e ∷ es) = or-both _ _ _ _ (any-names (is_unknown w) g h e) (unknown-all w g h es) ∙ sym (not-append g (names_in e) (names_of_all es))

reference-all : (w : Walk) (g : ℕ → Bool) → ((n : ℕ) → is_of_kind AReference w n ≡ not (g n)) → (es : List Expr) → (uses_all w es).reference ≡ not (list_all g (names_of_all es))
reference-all w g h [] = refl
reference-all w g h (e ∷ es) = or-both _ _ _ _ (any-names (is_of_kind AReference w) g h e) (reference-all w g h es) ∙ sym (not-append g (names_in e) (names_of_all es))

deep-all : (w : Walk) (es : List Expr) → (uses_all w es).deep ≡ not (list_all (λ e. not (nat_lt 32 (pairs_in e))) es)
deep-all w [] = refl
deep-all w (e ∷ es) = or-both _ _ _ _ (sym (not-not (nat_lt 32 (pairs_in e)))) (deep-all w es) ∙ sym (not-and (not (nat_lt 32 (pairs_in e))) (list_all (λ e. not (nat_lt 32 (pairs_in e))) es))

uses-append : (w : Walk) (xs ys : List Expr) → uses_all w (xs ++ ys) ≡ join (uses_all w xs) (uses_all w ys)
uses-append w [] ys = refl
uses-append w (x ∷ xs) ys = ap (join (uses_in w 32 x)) (uses-append w xs ys) ∙ sym (join-assoc (uses_in w 32 x) (uses_all w xs) (uses_all w ys))

targets-all : (test g : ℕ → Bool) → ((n : ℕ) → test n ≡ not (g n)) → (o : Option NameId) → any_target test o ≡ not (list_all g (target_list o))
targets-all test g h None = refl
targets-all test g h (Some n) = h n.0 ∙ ap not (sym (and-true (g n.0)))

-- the least of four rules
abbrev pub least : Bool → Bool → Bool → Bool → Option ℕ
least a b c d = if a then Some 1 else (if b then Some 2 else (if c then Some 3 else (if d then Some 4 else None)))

least-same : (a b c d e f g h : Bool) → a ≡ e → b ≡ f → c ≡ g → d ≡ h → least a b c d ≡ least e f g h
least-same a b c d e f g h p q r s = ap (λ x. least x b c d) p ∙ (ap (λ x. least e x c d) q ∙ (ap (λ x. least e f x d) r ∙ ap (λ x. least e f g x) s))

-- the parts of a statement fail the same rule as it does
pub rule-same : (w : Walk) (s : Shape) (p : Parts) (t : Stmt) (depth : ℕ) (known : List ℕ) (y : PartsStand s p t) → KnowsNames w.known.items known → rule_from w (join (uses_all w y.firsts) (uses_all w y.seconds)) p.target p.assigned depth ≡ rule_with (seen_all w.seen.items) (record { stmt = t; depth = depth; known = known })
rule-same w s p t depth known y k =
    let u : join (uses_all w y.firsts) (uses_all w y.seconds) ≡ uses_all w (exprs_of t) = sym (ap (uses_all w) y.exprs ∙ uses-append w y.firsts y.seconds) in
    let x : Sight = record { stmt = t; depth = depth; known = known } in
    let seen : List (ℕ × Kind) = seen_all w.seen.items in
    let g : ℕ → Bool = λ n. has n known in
    let gr : ℕ → Bool = λ n. not (is_kind AReference (kind_in seen n)) in
    let gn : ℕ → Bool = λ n. not (is_kind ANumber (kind_in seen n)) in
    let hg : (n : ℕ) → is_unknown w n ≡ not (g n) = λ n. ap not (k n) in
    let hr : (n : ℕ) → is_of_kind AReference w n ≡ not (gr n) = λ n. sym (not-not (is_of_kind AReference w n)) in
    let hn : (n : ℕ) → is_of_kind ANumber w n ≡ not (gn n) = λ n. sym (not-not (is_of_kind ANumber w n)) in
    let one : ((uses_all w (exprs_of t)).unknown || any_target (is_unknown w) p.target) ≡ fails_known x = or-both _ _ _ _ (unknown-all w g hg (exprs_of t)) (targets-all (is_unknown w) g hg p.target ∙ ap (λ l. not (list_all g l)) (sym y.targets)) ∙ sym (not-append g (names_of_all (exprs_of t)) (targets_of t)) in
    let r : (uses_all w (exprs_of t)).reference ≡ not (list_all gr (names_of_all (exprs_of t))) = reference-all w gr hr (exprs_of t) in
    let n : any_target (is_of_kind ANumber w) p.target ≡ not (list_all gn (targets_of t)) = targets-all (is_of_kind ANumber w) gn hn p.target ∙ ap (λ l. not (list_all gn l)) (sym y.targets) in
    let o : gets_other_kind seen (option_map seen_as p.assigned) ≡ gets_other_kind seen (assigned t) = ap (gets_other_kind seen) (sym y.assigns) in
    let two : ((uses_all w (exprs_of t)).reference || any_target (is_of_kind ANumber w) p.target || gets_other_kind seen (option_map seen_as p.assigned)) ≡ mistakes_kind seen x = ap (λ a. a || any_target (is_of_kind ANumber w) p.target || gets_other_kind seen (option_map seen_as p.assigned)) r ∙ (ap (λ a. not (list_all gr (names_of_all (exprs_of t))) || a || gets_other_kind seen (option_map seen_as p.assigned)) n ∙ ap (λ a. not (list_all gr (names_of_all (exprs_of t))) || not (list_all gn (targets_of t)) || a) o) in
    let three : (nat_lt 32 depth || (uses_all w (exprs_of t)).deep) ≡ fails_depth x = ap (λ a. nat_lt 32 depth || a) (deep-all w (exprs_of t)) in
    let four : is_one_more seen (option_map seen_as p.assigned) ≡ is_one_more seen (assigned t) = ap (is_one_more seen) (sym y.assigns) in
    ap (λ v. rule_from w v p.target p.assigned depth) u ∙ least-same _ _ _ _ _ _ _ _ one two three four
