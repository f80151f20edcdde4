-- Pieces of a text that are told one after another.
use Rattle.std.proofs.Common.{◌≡◌, ℕ, ◌≤◌, ◌<◌, ◌+◌, ◌-◌, Bool, true, false, List, [], ◌++◌, length, take, drop, Option, ap, sym, ◌∙◌, subst, append_assoc, append-nil, take-append-drop, length-drop, length-append, arith}
use Rattle.std.specs.Io.KnownBytes.{Appends}
use Rattle.std.proofs.KnownBytes.{Appends-trans}
use Rattle.rx_rules.proofs.Common.{Rose}
use Rattle.rx_lines.specs.declared.output.Pending.{Pending}
use Rattle.rx_lines.specs.Inside.Telling.{IsLeft, TextIsTold, Puts}

pub puts_then : {K : Type 0} (written : K → Option (List ℕ)) (faults : K → ℕ) (a b c : K) (s t u : Pending) (x y : List ℕ) → Puts written faults a s b t x → Puts written faults b t c u y → Puts written faults a s c u (x ++ y)
puts_then written faults a b c s t u x y h k = λ w f text now.
    subst (λ (z : List ℕ). TextIsTold w f (written c) (faults c) u z) (append_assoc text x y) (k w f (text ++ x) (h w f text now))

pub with_none : (w : Option (List ℕ)) (f : ℕ) (v : Option (List ℕ)) (g : ℕ) (t : Pending) (text : List ℕ) → TextIsTold w f v g t text → TextIsTold w f v g t (text ++ [])
with_none w f v g t text h = subst (λ (z : List ℕ). TextIsTold w f v g t z) (sym (append-nil text)) h

pub joined : (w : Option (List ℕ)) (f : ℕ) (v : Option (List ℕ)) (g : ℕ) (t : Pending) (text x y : List ℕ) → TextIsTold w f v g t ((text ++ x) ++ y) → TextIsTold w f v g t (text ++ (x ++ y))
joined w f v g t text x y h = subst (λ (z : List ℕ). TextIsTold w f v g t z) (append_assoc text x y) h

pub told-as : (w : Option (List ℕ)) (f : ℕ) (v : Option (List ℕ)) (g : ℕ) (t : Pending) (text other : List ℕ) → text ≡ other → TextIsTold w f v g t text → TextIsTold w f v g t other
told-as w f v g t text other e h = subst (λ (z : List ℕ). TextIsTold w f v g t z) e h

pub told-to : (w : Option (List ℕ)) (f : ℕ) (v : Option (List ℕ)) (g : ℕ) (t : Pending) (text other : List ℕ) → TextIsTold w f v g t text → text ≡ other → TextIsTold w f v g t other
told-to w f v g t text other h e = subst (λ (z : List ℕ). TextIsTold w f v g t z) e h

-- nothing is left
pub whole : (w : Option (List ℕ)) (f : ℕ) (v : Option (List ℕ)) (g : ℕ) (t : Pending) (text done rest all : List ℕ) → rest ≡ [] → done ++ rest ≡ all → TextIsTold w f v g t (text ++ done) → TextIsTold w f v g t (text ++ all)
whole w f v g t text done rest all none is h =
    subst (λ (z : List ℕ). TextIsTold w f v g t (text ++ z)) (sym (append-nil done) ∙ (ap (λ z. done ++ z) (sym none) ∙ is)) h

-- no more was told
pub without : (w : Option (List ℕ)) (f : ℕ) (v : Option (List ℕ)) (g : ℕ) (t : Pending) (text : List ℕ) → TextIsTold w f v g t (text ++ []) → TextIsTold w f v g t text
without w f v g t text h = subst (λ (z : List ℕ). TextIsTold w f v g t z) (append-nil text) h

pub rose-on : (f g h : ℕ) → f ≤ g → Rose g h → Rose f h
rose-on f g h low r = grind arith

-- what a failure leaves, and more text
left-failed : (f g : ℕ) (rest piece : List ℕ) → Rose f g × (0 < length rest) → Rose f g × (0 < length (rest ++ piece))
left-failed f g rest piece h = (h.0, let e = length-append rest piece in let l = h.1 in rw e (omega arith))

-- a piece is put to what is pending
put-kept : (b d : Bool) (f g : ℕ) (rest piece old new : List ℕ) → d ≡ b → new ≡ old ++ piece → IsLeft b f g rest old → IsLeft d f g (rest ++ piece) new
put-kept true true f g rest piece old new same is h = left-failed f g rest piece h
put-kept false false f g rest piece old new same is h = ap (λ z. z ++ piece) h ∙ sym is
put-kept true false f g rest piece old new same is h = cc
put-kept false true f g rest piece old new same is h = cc

pub kept : (w : Option (List ℕ)) (f : ℕ) (v : Option (List ℕ)) (g : ℕ) (t u : Pending) (text piece : List ℕ) → u.is_failed ≡ t.is_failed → u.text.items ≡ t.text.items ++ piece → TextIsTold w f v g t text → TextIsTold w f v g u (text ++ piece)
kept w f v g t u text piece same is h =
    record {
      sent = h.sent;
      rest = h.rest ++ piece;
      later = h.later;
      wrote = h.wrote;
      all = ap (λ z. z ++ piece) h.all ∙ append_assoc h.sent h.rest piece;
      left = put-kept t.is_failed u.is_failed f g h.rest piece t.text.items u.text.items same is h.left;
    }

-- what is left is what was pending
rest-is : (b : Bool) (f g : ℕ) (rest old : List ℕ) → b ≡ false → IsLeft b f g rest old → rest ≡ old
rest-is false f g rest old was h = h
rest-is true f g rest old was h = cc

left-none : (d : Bool) (f g : ℕ) (new : List ℕ) → d ≡ false → new ≡ [] → IsLeft d f g [] new
left-none false f g new is none = sym none
left-none true f g new is none = cc

left-some : (d : Bool) (f g : ℕ) (rest new : List ℕ) → d ≡ true → Rose f g → 0 < length rest → IsLeft d f g rest new
left-some true f g rest new is r some = (r, some)
left-some false f g rest new is r some = cc

-- all that was pending is written, with the piece behind it
pub written : (w : Option (List ℕ)) (f : ℕ) (v x : Option (List ℕ)) (g h : ℕ) (t u : Pending) (text piece bytes : List ℕ) → t.is_failed ≡ false → u.is_failed ≡ false → u.text.items ≡ [] → bytes ≡ t.text.items ++ piece → g ≤ h → Appends v x bytes → TextIsTold w f v g t text → TextIsTold w f x h u (text ++ piece)
written w f v x g h t u text piece bytes was is none whole low wrote now =
    let rest = rest-is t.is_failed f g now.rest t.text.items was now.left in
    let all : now.rest ++ piece ≡ bytes = ap (λ z. z ++ piece) rest ∙ sym whole in
    record {
      sent = now.sent ++ bytes;
      rest = [];
      later = (let l = now.later in omega arith);
      wrote = Appends-trans w v x now.sent bytes now.wrote wrote;
      all = ap (λ z. z ++ piece) now.all ∙ append_assoc now.sent now.rest piece ∙ ap (λ z. now.sent ++ z) all ∙ sym (append-nil (now.sent ++ bytes));
      left = left-none u.is_failed f h u.text.items is none;
    }

-- a write of these fails
pub fails : (w : Option (List ℕ)) (f : ℕ) (v x : Option (List ℕ)) (g h : ℕ) (t u : Pending) (text piece bytes : List ℕ) (n : ℕ) → t.is_failed ≡ false → u.is_failed ≡ true → bytes ≡ t.text.items ++ piece → Rose g h → g ≤ h → n < length bytes → Appends v x (take n bytes) → TextIsTold w f v g t text → TextIsTold w f x h u (text ++ piece)
fails w f v x g h t u text piece bytes n was is whole rose low few wrote now =
    let rest = rest-is t.is_failed f g now.rest t.text.items was now.left in
    let all : now.rest ++ piece ≡ bytes = ap (λ z. z ++ piece) rest ∙ sym whole in
    let some : 0 < length (drop n bytes) = (let e = length-drop n bytes in rw e (omega arith)) in
    record {
      sent = now.sent ++ take n bytes;
      rest = drop n bytes;
      later = (let l = now.later in omega arith);
      wrote = Appends-trans w v x now.sent (take n bytes) now.wrote wrote;
      all = ap (λ z. z ++ piece) now.all ∙ append_assoc now.sent now.rest piece
          ∙ ap (λ z. now.sent ++ z) (all ∙ sym (take-append-drop n bytes)) ∙ sym (append_assoc now.sent (take n bytes) (drop n bytes));
      left = left-some u.is_failed f h (drop n bytes) u.text.items is (rose-on f g h now.later rose) some;
    }
