use Rattle.std.proofs.Common.{◌≡◌, ℕ, ◌+◌, ◌<◌, List, ◌∷◌, ◌++◌, Option, Some, slice_index, ap, sym, ◌∙◌, length, subst, arith, ℤ, FitsSigned}
use Rattle.std.specs.Int.{w64}
use Rattle.rx_text.specs.Numbers.{number_text, StandsAt}
use Rattle.rx_kills.proofs.Marks.{kept, first-stands, sign-stands, sign-inside, second-stands, one-answer, not-none}
use Rattle.rx_kills.proofs.word.numbers_of.Goals as goal
use Rattle.rx_kills.proofs.word.numbers_of.Goals.{then-at-word-via-then-at-word, then-at-word-via-else-at-word+then-word-at-ne64}

-- the scanner finds the first number
first-found : (word : List ℕ) (r : Option (ℤ × ℕ)) (x : ℤ × ℕ) (m n : ℤ) → ((k : ℤ) (end : ℕ) → StandsAt word 0 k end → r ≡ Some (k, end)) → r ≡ Some x → FitsSigned w64 m → word ≡ number_text m ++ 64 ∷ number_text n → (x.0 ≡ m) × (x.1 ≡ length (number_text m))
first-found word r x m n exact was fits is =
    let one = one-answer r x (m, length (number_text m)) was (exact m (length (number_text m)) (first-stands word m n fits is)) in
    (ap (λ y. y.0) one, ap (λ y. y.1) one)

-- after it the second, as the end of the word
second-found : (word : List ℕ) (at : ℕ) (r : Option (ℤ × ℕ)) (m n : ℤ) → ((k : ℤ) (end : ℕ) → StandsAt word (at + 1) k end → r ≡ Some (k, end)) → at ≡ length (number_text m) → FitsSigned w64 n → word ≡ number_text m ++ 64 ∷ number_text n → r ≡ Some (n, length word)
second-found word at r m n exact there fits is =
    exact n (length word) (subst (λ (i : ℕ). StandsAt word (i + 1) n (length word)) (sym there) (second-stands word m n fits is))

pub returns-in_err-first-clause-exact : goal.returns-in_err-first-clause-exact
returns-in_err-first-clause-exact c = λ m n fits_m fits_n is.
    absurd (not-none c.scan_num.result (m, length (number_text m)) c.in_err-first.was (c.scan_num.ensures.exact m (length (number_text m)) (first-stands c.args.word.now m n fits_m is)))

pub returns-then-at-word-clause-exact : goal.returns-then-at-word-clause-exact
returns-then-at-word-clause-exact c = λ m n fits_m fits_n is.
    let there : c.in_ok-first.at ≡ length (number_text m) = (first-found c.args.word.now c.scan_num.result (c.in_ok-first.first, c.in_ok-first.at) m n c.scan_num.ensures.exact c.in_ok-first.was fits_m is).1 in
    let inside : length (number_text m) < length c.args.word.now = sign-inside c.args.word.now m n is in
    let sign : slice_index c.args.word.now c.in_ok-first.at ≡ 64 = ap (slice_index c.args.word.now) there ∙ sign-stands c.args.word.now m n is in
    absurd (elim c.then-at-word.branch [ then-at-word-via-then-at-word w ↦ (let e = w.if-at-word.true in omega arith) | then-at-word-via-else-at-word+then-word-at-ne64 w ↦ w.if-word-at-ne64.true sign ])

pub returns-in_err-second-clause-exact : goal.returns-in_err-second-clause-exact
returns-in_err-second-clause-exact c = λ m n fits_m fits_n is.
    let there : c.in_ok-first.at ≡ length (number_text m) = (first-found c.args.word.now c.scan_num.result (c.in_ok-first.first, c.in_ok-first.at) m n c.scan_num.ensures.exact c.in_ok-first.was fits_m is).1 in
    absurd (not-none c.scan_num-2.result (n, length c.args.word.now) c.in_err-second.was (second-found c.args.word.now c.in_ok-first.at c.scan_num-2.result m n c.scan_num-2.ensures.exact there fits_n is))

both : ℤ → ℤ → Option (ℤ × ℤ)
both a b = Some (a, b)

pair : (a b m n : ℤ) → a ≡ m → b ≡ n → both a b ≡ both m n
pair a b m n first second = cc

pub returns-then-end-word-clause-exact : goal.returns-then-end-word-clause-exact
unfolding both
returns-then-end-word-clause-exact c = λ m n fits_m fits_n is.
    let one = first-found c.args.word.now c.scan_num.result (c.in_ok-first.first, c.in_ok-first.at) m n c.scan_num.ensures.exact c.in_ok-first.was fits_m is in
    let two = one-answer c.scan_num-2.result (c.in_ok-second.second, c.in_ok-second.end) (n, length c.args.word.now) c.in_ok-second.was
    (second-found c.args.word.now c.in_ok-first.at c.scan_num-2.result m n c.scan_num-2.ensures.exact one.1 fits_n is) in
    pair _ _ m n (kept c.in_ok-first.first m fits_m one.0) (kept c.in_ok-second.second n fits_n (ap (λ y. y.0) two))

pub returns-else-end-word-clause-exact : goal.returns-else-end-word-clause-exact
returns-else-end-word-clause-exact c = λ m n fits_m fits_n is.
    let one = first-found c.args.word.now c.scan_num.result (c.in_ok-first.first, c.in_ok-first.at) m n c.scan_num.ensures.exact c.in_ok-first.was fits_m is in
    let two = one-answer c.scan_num-2.result (c.in_ok-second.second, c.in_ok-second.end) (n, length c.args.word.now) c.in_ok-second.was
    (second-found c.args.word.now c.in_ok-first.at c.scan_num-2.result m n c.scan_num-2.ensures.exact one.1 fits_n is) in
    absurd (c.if-end-word.false (ap (λ y. y.1) two))
