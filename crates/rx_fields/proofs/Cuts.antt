-- Pieces of bytes, and what they are put together to.
use Rattle.std.proofs.Common.{◌≡◌, ℕ, Bool, true, false, cond, ◌&&◌, ◌==◌, List, [], ◌∷◌, ◌++◌, refl, ap, ◌∙◌, append-nil, ◌≢◌, Some, None}
use Rattle.std.specs.List.{AllByRecursion, flat_map}
use Rattle.std.specs.Str.{bytes_eq}
use Rattle.std.proofs.lemmas.Bool.{eqb-true, ne_eqb}
use Rattle.std.proofs.lemmas.Option.{same_Some}
use Rattle.rx_base.proofs.Numbers.{eq-refl}
use Rattle.rx_fields.specs.Words.{Lacks, grown, pieces, stripped}

-- a byte of a word
abbrev pub IsPlain : ℕ → Type 0
IsPlain b = (b ≢ 32) × (b ≢ 10)

abbrev pub Plain : List ℕ → Type 0
Plain w = AllByRecursion IsPlain w

pub all-append : {A : Type 0} (P : A → Type 0) (xs ys : List A) → AllByRecursion P xs → AllByRecursion P ys → AllByRecursion P (xs ++ ys)
all-append P [] ys a b = b
all-append P (x ∷ xs) ys a b = (a.0, all-append P xs ys a.1 b)

pub all-map : {A : Type 0} (P Q : A → Type 0) → ((a : A) → P a → Q a) → (xs : List A) → AllByRecursion P xs → AllByRecursion Q xs
all-map P Q f [] a = tt
all-map P Q f (x ∷ xs) a = (f x a.0, all-map P Q f xs a.1)

byte-same : (x y : ℕ) (xs ys : List ℕ) (t : Bool) → (x == y) ≡ t → (t && bytes_eq xs ys) ≡ true → (bytes_eq xs ys ≡ true → xs ≡ ys) → x ∷ xs ≡ y ∷ ys
byte-same x y xs ys true h e more = ap (λ b. b ∷ xs) (eqb-true x y h) ∙ ap (λ bs. y ∷ bs) (more e)
byte-same x y xs ys false h e more = cc

pub bytes-same : (xs ys : List ℕ) → bytes_eq xs ys ≡ true → xs ≡ ys
bytes-same [] [] e = refl
bytes-same [] (y ∷ ys) e = cc
bytes-same (x ∷ xs) [] e = cc
bytes-same (x ∷ xs) (y ∷ ys) e = byte-same x y xs ys (x == y) refl e (bytes-same xs ys)

-- a piece, and the pieces after the byte
pub pieces-cut : (c : ℕ) (w rest : List ℕ) → Lacks c w → pieces c (w ++ c ∷ rest) ≡ w ∷ pieces c rest
pieces-cut c [] rest l = rw (eq-refl c) refl
pieces-cut c (b ∷ w) rest l = rw (ne_eqb b c l.0) (ap (grown b) (pieces-cut c w rest l.1))

pub pieces-one : (c : ℕ) (w : List ℕ) → Lacks c w → pieces c w ≡ w ∷ []
pieces-one c [] l = refl
pieces-one c (b ∷ w) l = rw (ne_eqb b c l.0) (ap (grown b) (pieces-one c w l.1))

-- pieces, each after the byte
abbrev pub marked : ℕ → List (List ℕ) → List ℕ
marked c ws = flat_map (λ w. c ∷ w) ws

-- pieces that were put together are cut apart again
pub pieces-marked : (c : ℕ) (w : List ℕ) (ws : List (List ℕ)) → Lacks c w → AllByRecursion (Lacks c) ws → pieces c (w ++ marked c ws) ≡ w ∷ ws
pieces-marked c w [] l ls = ap (pieces c) (append-nil w) ∙ pieces-one c w l
pieces-marked c w (v ∷ ws) l ls = pieces-cut c w (v ++ marked c ws) l ∙ ap (λ vs. w ∷ vs) (pieces-marked c v ws ls.0 ls.1)

-- what was cut is put together again, and there is a piece
abbrev pub Together : ℕ → List ℕ → List (List ℕ) → Type 0
Together c bytes [] = ⊥
Together c bytes (w ∷ ws) = bytes ≡ w ++ marked c ws

grown-together : (c b : ℕ) (bytes : List ℕ) (ws : List (List ℕ)) → Together c bytes ws → Together c (b ∷ bytes) (grown b ws)
grown-together c b bytes [] t = t
grown-together c b bytes (w ∷ ws) t = ap (λ bs. b ∷ bs) t

pub marked-together : (c : ℕ) (bytes : List ℕ) (ws : List (List ℕ)) → Together c bytes ws → c ∷ bytes ≡ marked c ws
marked-together c bytes [] t = absurd t
marked-together c bytes (w ∷ ws) t = ap (λ bs. c ∷ bs) t

piece-together : (c b : ℕ) (bs : List ℕ) (t : Bool) → (b == c) ≡ t → Together c bs (pieces c bs) → Together c (b ∷ bs) (cond t ([] ∷ pieces c bs) (grown b (pieces c bs)))
piece-together c b bs true e more = ap (λ a. a ∷ bs) (eqb-true b c e) ∙ marked-together c bs (pieces c bs) more
piece-together c b bs false e more = grown-together c b bs (pieces c bs) more

pub pieces-together : (c : ℕ) (bytes : List ℕ) → Together c bytes (pieces c bytes)
pieces-together c [] = refl
pieces-together c (b ∷ bs) = piece-together c b bs (b == c) refl (pieces-together c bs)

-- what stands after these bytes
byte-stripped : (p b : ℕ) (ps bs rest : List ℕ) (t : Bool) → (b == p) ≡ t → cond t (stripped ps bs) None ≡ Some rest → (stripped ps bs ≡ Some rest → bs ≡ ps ++ rest) → b ∷ bs ≡ p ∷ (ps ++ rest)
byte-stripped p b ps bs rest true h e more = ap (λ a. a ∷ bs) (eqb-true b p h) ∙ ap (λ r. p ∷ r) (more e)
byte-stripped p b ps bs rest false h e more = cc

pub stripped-is : (ps bytes rest : List ℕ) → stripped ps bytes ≡ Some rest → bytes ≡ ps ++ rest
stripped-is [] bytes rest e = same_Some bytes rest e
stripped-is (p ∷ ps) [] rest e = cc
stripped-is (p ∷ ps) (b ∷ bs) rest e = byte-stripped p b ps bs rest (b == p) refl e (stripped-is ps bs rest)

pub stripped-again : (ps rest : List ℕ) → stripped ps (ps ++ rest) ≡ Some rest
stripped-again [] rest = refl
stripped-again (p ∷ ps) rest = rw (eq-refl p) (stripped-again ps rest)
