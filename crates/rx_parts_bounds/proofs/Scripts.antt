-- The store calls of a script are within its work: those of the main task, and for each level of tasks inside tasks as many more.
use Rattle.std.proofs.Common.{◌≡◌, ℕ, zero, suc, ◌+◌, ◌*◌, ◌≤◌, arith, ap, sym, ◌∙◌, max}
use Rattle.std.proofs.Math.Nat.{mul_assoc, mul_comm, mul-suc, suc-mul, mul-le-mul_left, mul-le-mul_right}
use Rattle.rx_rules.proofs.Common.{Block, Nothing, Then, Stmt, Async, AtAsync, At, Finish, If, Repeat, Try, work, work_of}
use Rattle.rx_parts_bounds.specs.Nesting.{nest, nest_of}
use Rattle.rx_parts_bounds.proofs.StoreCalls.{own, own_of, kids, kids_of}

times_more : (n a b : ℕ) → a ≤ b → n * a ≤ 1 + n * (1 + b)
times_more n a b h =
    let one : n * a ≤ n * b = mul-le-mul_left n h in
    let s : 1 + b ≡ suc b = omega arith in
    let two : n * (1 + b) ≡ n * b + n = ap (λ v. n * v) s ∙ mul-suc n b in
    omega (arith, one, two)

mutual
  own_of-work : (s : Stmt) → own_of s ≤ work_of s
  own_of-work (Finish body) = let h : own body ≤ work body = own-work body in omega arith
  own_of-work (If test first other) = let h : own first ≤ work first = own-work first in let k : own other ≤ work other = own-work other in omega (arith, h, k)
  own_of-work (Repeat times body) = times_more times (own body) (work body) (own-work body)
  own_of-work (Try body dead_only handler) = let h : own body ≤ work body = own-work body in let k : own handler ≤ work handler = own-work handler in omega (arith, h, k)
  own_of-work _ = omega arith

  pub own-work : (b : Block) → own b ≤ work b
  own-work Nothing = omega arith
  own-work (Then first rest) = let h : own_of first ≤ work_of first = own_of-work first in let k : own rest ≤ work rest = own-work rest in omega (arith, h, k)

-- products grow in both
grows : (a b c d : ℕ) → a ≤ b → c ≤ d → a * c ≤ b * d
grows a b c d h k =
    let one : a * c ≤ a * d = mul-le-mul_left a k in
    let two : a * d ≤ b * d = mul-le-mul_right d h in omega (arith, one, two)

started : (o k n w : ℕ) → o ≤ w → k ≤ n * w → o + k ≤ (1 + n) * (1 + w)
started o k n w h l =
    let s : 1 + n ≡ suc n = omega arith in
    let one : (1 + n) * (1 + w) ≡ n * (1 + w) + (1 + w) = ap (λ v. v * (1 + w)) s ∙ suc-mul n (1 + w) in
    let two : n * w ≤ n * (1 + w) = mul-le-mul_left n (let z : w ≤ 1 + w = omega arith in z) in
    omega (arith, h, l, one, two)

spread : (x v w : ℕ) → x * (v + w) ≡ x * v + x * w
spread zero v w = omega arith
spread (suc x) v w =
    let r : x * (v + w) ≡ x * v + x * w = spread x v w in
    let one : suc x * (v + w) ≡ x * (v + w) + (v + w) = suc-mul x (v + w) in
    let two : suc x * v ≡ x * v + v = suc-mul x v in
    let three : suc x * w ≡ x * w + w = suc-mul x w in
    omega (arith, r, one, two, three)

both_parts : (a b n m v w : ℕ) → a ≤ n * v → b ≤ m * w → a + b ≤ max n m * (v + w)
both_parts a b n m v w h k =
    let one : n * v ≤ max n m * v = mul-le-mul_right v (let z : n ≤ max n m = omega arith in z) in
    let two : m * w ≤ max n m * w = mul-le-mul_right w (let z : m ≤ max n m = omega arith in z) in
    let three : max n m * (v + w) ≡ max n m * v + max n m * w = spread (max n m) v w in
    omega (arith, h, k, one, two, three)

either_part : (a b n m v w : ℕ) → a ≤ n * v → b ≤ m * w → max a b ≤ max n m * (1 + max v w)
either_part a b n m v w h k =
    let one : n * v ≤ max n m * (1 + max v w) = grows n (max n m) v (1 + max v w) (omega arith) (omega arith) in
    let two : m * w ≤ max n m * (1 + max v w) = grows m (max n m) w (1 + max v w) (omega arith) (omega arith) in
    omega (arith, h, k, one, two)

turned : (t a n w : ℕ) → a ≤ n * w → t * a ≤ n * (1 + t * (1 + w))
turned t a n w h =
    let one : t * a ≤ t * (n * w) = mul-le-mul_left t h in
    let two : t * (n * w) ≡ n * (t * w) = swapped t n w in
    let s : w ≤ 1 + w = omega arith in
    let less : t * w ≤ t * (1 + w) = mul-le-mul_left t s in
    let three : n * (t * w) ≤ n * (1 + t * (1 + w)) = mul-le-mul_left n (omega (arith, less)) in
    omega (arith, one, two, three)
  where
    swapped : (t n w : ℕ) → t * (n * w) ≡ n * (t * w)
    swapped t n w = sym (mul_assoc t n w) ∙ ap (λ v. v * w) (mul_comm t n) ∙ mul_assoc n t w

inner_part : (a n w : ℕ) → a ≤ n * w → a ≤ n * (1 + w)
inner_part a n w h = let two : n * w ≤ n * (1 + w) = mul-le-mul_left n (let z : w ≤ 1 + w = omega arith in z) in omega (arith, h, two)

tried : (a b n m v w : ℕ) → a ≤ n * v → b ≤ m * w → a + b ≤ max n m * (1 + v + w)
tried a b n m v w h k =
    let one : a + b ≤ max n m * (v + w) = both_parts a b n m v w h k in
    let two : max n m * (v + w) ≤ max n m * (1 + v + w) = mul-le-mul_left (max n m) (let z : v + w ≤ 1 + v + w = omega arith in z) in
    omega (arith, one, two)

mutual
  kids_of-work : (s : Stmt) → kids_of s ≤ nest_of s * work_of s
  kids_of-work (Async body) = started (own body) (kids body) (nest body) (work body) (own-work body) (kids-work body)
  kids_of-work (AtAsync place body) = started (own body) (kids body) (nest body) (work body) (own-work body) (kids-work body)
  kids_of-work (At place body) = started (own body) (kids body) (nest body) (work body) (own-work body) (kids-work body)
  kids_of-work (Finish body) = inner_part (kids body) (nest body) (work body) (kids-work body)
  kids_of-work (If test first other) = either_part (kids first) (kids other) (nest first) (nest other) (work first) (work other) (kids-work first) (kids-work other)
  kids_of-work (Repeat times body) = turned times (kids body) (nest body) (work body) (kids-work body)
  kids_of-work (Try body dead_only handler) = tried (kids body) (kids handler) (nest body) (nest handler) (work body) (work handler) (kids-work body) (kids-work handler)
  kids_of-work _ = omega arith

  pub kids-work : (b : Block) → kids b ≤ nest b * work b
  kids-work Nothing = omega arith
  kids-work (Then first rest) = both_parts (kids_of first) (kids rest) (nest_of first) (nest rest) (work_of first) (work rest) (kids_of-work first) (kids-work rest)
