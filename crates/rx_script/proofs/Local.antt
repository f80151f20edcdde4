-- Readers that look at no token past those that they take or refuse, and whose refused fronts can all be completed.
use Rattle.std.proofs.Common.{◌≡◌, List, [], ◌∷◌, ◌++◌, refl, ap, sym, ◌∙◌, subst, append_assoc, Result, Ok, Err, Option, Some, None}
use Rattle.rx_syntax.specs.declared.token.Token.{Token}
use Rattle.rx_script.specs.Inside.Readers.{Reader, after, then, done, picked, choose}

-- what is taken is taken whatever follows
pub record Takes {A : Type 0} (r : Reader A) (ts : List Token) (x : A × List Token) : Type 0 where
  pub front : List Token
  pub whole : ts ≡ front ++ x.1
  pub again : (more : List Token) → r (front ++ more) ≡ Ok (x.0, more)

-- tokens that complete the front, whatever follows
pub record Completes {A : Type 0} (r : Reader A) (front : List Token) : Type 0 where
  pub rest : List Token
  pub value : A
  pub reads : (more : List Token) → r (front ++ (rest ++ more)) ≡ Ok (value, more)

-- what is refused is refused at the same token whatever follows it, and the tokens before it can be completed
pub record Refuses {A : Type 0} (r : Reader A) (ts bad : List Token) : Type 0 where
  pub front : List Token
  pub whole : ts ≡ front ++ bad
  pub again : (b : Token) (rest more : List Token) → bad ≡ b ∷ rest → r (front ++ b ∷ more) ≡ Err (b ∷ more)
  pub completes : Completes r front

abbrev pub Judged : {A : Type 0} → Reader A → List Token → Result (A × List Token) (List Token) → Type 0
Judged r ts (Ok x) = Takes r ts x
Judged r ts (Err bad) = Refuses r ts bad

pub record IsLocal {A : Type 0} (r : Reader A) : Type 0 where
  pub judged : (ts : List Token) → Judged r ts (r ts)
  pub begins : Completes r []

pub local-done : {A : Type 0} (a : A) → IsLocal (done a)
local-done a = record {
  judged = λ ts. record { front = []; whole = refl; again = λ more. refl };
  begins = record { rest = []; value = a; reads = λ more. refl };
}

-- one token more in front
completes-more : {A : Type 0} (r q : Reader A) (t : Token) → ((ts : List Token) → q (t ∷ ts) ≡ r ts) → (front : List Token) → Completes r front → Completes q (t ∷ front)
completes-more r q t same front c = record { rest = c.rest; value = c.value; reads = λ more. same (front ++ (c.rest ++ more)) ∙ c.reads more }

pub judged-more : {A : Type 0} (r q : Reader A) (t : Token) → ((ts : List Token) → q (t ∷ ts) ≡ r ts) → (ts : List Token) (o : Result (A × List Token) (List Token)) → Judged r ts o → Judged q (t ∷ ts) o
judged-more r q t same ts (Ok x) j = record {
  front = t ∷ j.front;
  whole = ap (λ us. t ∷ us) j.whole;
  again = λ more. same (j.front ++ more) ∙ j.again more;
}
judged-more r q t same ts (Err bad) j = record {
  front = t ∷ j.front;
  whole = ap (λ us. t ∷ us) j.whole;
  again = λ b rest more e. same (j.front ++ b ∷ more) ∙ j.again b rest more e;
  completes = completes-more r q t same j.front j.completes;
}

-- the first token is refused
pub refused-here : {A : Type 0} (r : Reader A) (t : Token) (ts : List Token) → ((more : List Token) → r (t ∷ more) ≡ Err (t ∷ more)) → Completes r [] → Refuses r (t ∷ ts) (t ∷ ts)
refused-here r t ts here c = record {
  front = [];
  whole = refl;
  again = λ b rest more e. subst (λ (u : Token). r (u ∷ more) ≡ Err (u ∷ more)) (head-is t b ts rest e) (here more);
  completes = c;
}
  where
    head-is : (t b : Token) (ts rest : List Token) → t ∷ ts ≡ b ∷ rest → t ≡ b
    head-is t b ts rest e = cc

-- nothing is left
pub refused-end : {A : Type 0} (r : Reader A) → Completes r [] → Refuses r [] []
refused-end r c = record { front = []; whole = refl; again = λ b rest more e. absurd (none b rest e); completes = c }
  where
    none : (b : Token) (rest : List Token) → [] ≡ b ∷ rest → ⊥
    none b rest e = cc

-- a choice by the first token
abbrev pub IsLocalPick : {A : Type 0} → Option (Reader A) → Type 0
IsLocalPick None = Unit {0}
IsLocalPick (Some r) = IsLocal r

picked-judged : {A : Type 0} (pick : Token → Option (Reader A)) (t : Token) (ts : List Token) (o : Option (Reader A)) → pick t ≡ o → IsLocalPick o → Completes (choose pick) [] → Judged (choose pick) (t ∷ ts) (picked o t ts)
picked-judged pick t ts None e l c = refused-here (choose pick) t ts (λ more. ap (λ o. picked o t more) e) c
picked-judged pick t ts (Some r) e l c = judged-more r (choose pick) t (λ us. ap (λ o. picked o t us) e) ts (r ts) (l.judged ts)

choose-judged : {A : Type 0} (pick : Token → Option (Reader A)) → ((t : Token) → IsLocalPick (pick t)) → Completes (choose pick) [] → (ts : List Token) → Judged (choose pick) ts (choose pick ts)
choose-judged pick l c [] = refused-end (choose pick) c
choose-judged pick l c (t ∷ ts) = picked-judged pick t ts (pick t) refl (l t) c

-- a token that may stand first is named
pub local-choose : {A : Type 0} (pick : Token → Option (Reader A)) (t : Token) (r : Reader A) → pick t ≡ Some r → IsLocal r → ((t : Token) → IsLocalPick (pick t)) → IsLocal (choose pick)
local-choose pick t r e lr l =
    let c : Completes (choose pick) [] = record { rest = t ∷ lr.begins.rest; value = lr.begins.value; reads = λ more. ap (λ o. picked o t (lr.begins.rest ++ more)) e ∙ lr.begins.reads more } in
    record { judged = choose-judged pick l c; begins = c }

-- one reader after another
then-completes : {A B : Type 0} (r : Reader A) (f : A → Reader B) → ((a : A) → IsLocal (f a)) → (front : List Token) → Completes r front → Completes (then r f) front
then-completes r f lf front c =
    let g = (lf c.value).begins in
    record {
      rest = c.rest ++ g.rest;
      value = g.value;
      reads = λ more. ap (λ us. after (r (front ++ us)) f) (append_assoc c.rest g.rest more) ∙ ap (λ o. after o f) (c.reads (g.rest ++ more)) ∙ g.reads more;
    }

then-taken : {A B : Type 0} (r : Reader A) (f : A → Reader B) (ts : List Token) (a : A × List Token) → Takes r ts a → (o : Result (B × List Token) (List Token)) → Judged (f a.0) a.1 o → Judged (then r f) ts o
then-taken r f ts a t (Ok x) u = record {
  front = t.front ++ u.front;
  whole = t.whole ∙ ap (λ us. t.front ++ us) u.whole ∙ sym (append_assoc t.front u.front x.1);
  again = λ more. ap (λ us. after (r us) f) (append_assoc t.front u.front more) ∙ ap (λ o. after o f) (t.again (u.front ++ more)) ∙ u.again more;
}
then-taken r f ts a t (Err bad) u = record {
  front = t.front ++ u.front;
  whole = t.whole ∙ ap (λ us. t.front ++ us) u.whole ∙ sym (append_assoc t.front u.front bad);
  again = λ b rest more e. ap (λ us. after (r us) f) (append_assoc t.front u.front (b ∷ more)) ∙ ap (λ o. after o f) (t.again (u.front ++ b ∷ more)) ∙ u.again b rest more e;
  completes = record {
    rest = u.completes.rest;
    value = u.completes.value;
    reads = λ more. ap (λ us. after (r us) f) (append_assoc t.front u.front (u.completes.rest ++ more)) ∙ ap (λ o. after o f) (t.again (u.front ++ (u.completes.rest ++ more))) ∙ u.completes.reads more;
  };
}

then-judged : {A B : Type 0} (r : Reader A) (f : A → Reader B) → ((a : A) → IsLocal (f a)) → (ts : List Token) (o : Result (A × List Token) (List Token)) → Judged r ts o → Judged (then r f) ts (after o f)
then-judged r f lf ts (Ok a) t = then-taken r f ts a t (f a.0 a.1) ((lf a.0).judged a.1)
then-judged r f lf ts (Err bad) t = record {
  front = t.front;
  whole = t.whole;
  again = λ b rest more e. ap (λ o. after o f) (t.again b rest more e);
  completes = then-completes r f lf t.front t.completes;
}

pub local-then : {A B : Type 0} (r : Reader A) (f : A → Reader B) → IsLocal r → ((a : A) → IsLocal (f a)) → IsLocal (then r f)
local-then r f lr lf = record {
  judged = λ ts. then-judged r f lf ts (r ts) (lr.judged ts);
  begins = then-completes r f lf [] lr.begins;
}
