-- What is read is what was written, and what was written is read.
use Rattle.std.proofs.Common.{◌≡◌, ℕ, Bool, true, false, cond, List, [], ◌∷◌, ◌++◌, refl, ap, sym, ◌∙◌, subst, append_assoc, append-nil, Option, Some, None, option_map}
use Rattle.std.specs.List.{AllByRecursion, flat_map}
use Rattle.std.specs.Str.{bytes_eq}
use Rattle.std.proofs.lemmas.Option.{same_Some, none-some}
use Rattle.rx_base.proofs.Elements.{same-bytes}
use Rattle.rx_trace.specs.Parts.{part_text}
use Rattle.rx_fields.specs.Words.{fields}
use Rattle.rx_fields.specs.Inside.Readers.{Reader, after, followed, done, word, keyed, either, gathered, many, one_or_more, part, all_read}
use Rattle.rx_fields.proofs.Cuts.{Plain, all-append, bytes-same}

pub fields-append : (vs ws : List (List ℕ)) → fields (vs ++ ws) ≡ fields vs ++ fields ws
fields-append [] ws = refl
fields-append (v ∷ vs) ws = ap (λ r. 32 ∷ (v ++ r)) (fields-append vs ws) ∙ ap (λ r. 32 ∷ r) (sym (append_assoc v (fields vs) (fields ws)))

-- the text of what was read, and what is known of it
pub record Read {A : Type 0} (S : A → List ℕ → Type 0) (ws : List (List ℕ)) (a : A) (rest : List (List ℕ)) : Type 0 where
  pub text : List ℕ
  pub whole : fields ws ≡ text ++ fields rest
  pub known : S a text

-- what a reader reads is a text
pub record Takes {A : Type 0} (r : Reader A) (S : A → List ℕ → Type 0) : Type 0 where
  pub takes : (ws : List (List ℕ)) (a : A) (rest : List (List ℕ)) → r ws ≡ Some (a, rest) → Read S ws a rest

pub takes-done : {A : Type 0} (a : A) (S : A → List ℕ → Type 0) → S a [] → Takes (done a) S
takes-done a S known = record {
  takes = λ ws b rest e.
      let same = same_Some (a, ws) (b, rest) e in
      let value : a ≡ b = ap (λ x. x.0) same in
      let left : ws ≡ rest = ap (λ x. x.1) same in
      record { text = []; whole = ap fields left; known = subst (λ x. S x []) value known };
}

abbrev pair : {A : Type 0} → A → List (List ℕ) → A × List (List ℕ)
pair a ws = (a, ws)

word-read : {A : Type 0} (of : List ℕ → Option A) (S : A → List ℕ → Type 0) → ((w : List ℕ) (a : A) → of w ≡ Some a → S a (32 ∷ w)) → (w : List ℕ) (ws : List (List ℕ)) (a : A) (rest : List (List ℕ)) (o : Option A) → of w ≡ o → option_map (λ b. pair b ws) o ≡ Some (a, rest) → Read S (w ∷ ws) a rest
word-read of S h w ws a rest None is e = absurd (none-some (a, rest) e)
word-read of S h w ws a rest (Some b) is e =
    let same = same_Some (b, ws) (a, rest) e in
    let value : b ≡ a = ap (λ x. x.0) same in
    let left : ws ≡ rest = ap (λ x. x.1) same in
    record { text = 32 ∷ w; whole = ap (λ r. (32 ∷ w) ++ fields r) left; known = subst (λ x. S x (32 ∷ w)) value (h w b is) }

pub takes-word : {A : Type 0} (of : List ℕ → Option A) (S : A → List ℕ → Type 0) → ((w : List ℕ) (a : A) → of w ≡ Some a → S a (32 ∷ w)) → Takes (word of) S
takes-word of S h = record { takes = t }
  where
    t : (ws : List (List ℕ)) (a : _) (rest : List (List ℕ)) → word of ws ≡ Some (a, rest) → Read S ws a rest
    t [] a rest e = absurd (none-some (a, rest) e)
    t (w ∷ ws) a rest e = word-read of S h w ws a rest (of w) refl e

-- a word in front of what was read
pub behind : {A : Type 0} (S : A → List ℕ → Type 0) (key w : List ℕ) (ws : List (List ℕ)) (a : A) (rest : List (List ℕ)) → w ≡ key → Read (λ b t. S b ((32 ∷ key) ++ t)) ws a rest → Read S (w ∷ ws) a rest
behind S key w ws a rest is h = record {
  text = (32 ∷ key) ++ h.text;
  whole = ap (λ v. (32 ∷ v) ++ fields ws) is ∙ ap (λ r. (32 ∷ key) ++ r) h.whole ∙ sym (append_assoc (32 ∷ key) h.text (fields rest));
  known = h.known;
}

pub takes-either : {A : Type 0} (key : List ℕ) (r other : Reader A) (S : A → List ℕ → Type 0) → Takes r (λ b t. S b ((32 ∷ key) ++ t)) → Takes other S → Takes (either key r other) S
takes-either {A} key r other S h k = record { takes = t }
  where
    by : (w : List ℕ) (ws : List (List ℕ)) (a : A) (rest : List (List ℕ)) (b : Bool) → bytes_eq w key ≡ b → cond b (r ws) (other (w ∷ ws)) ≡ Some (a, rest) → Read S (w ∷ ws) a rest
    by w ws a rest true is e = behind S key w ws a rest (bytes-same w key is) (h.takes ws a rest e)
    by w ws a rest false is e = k.takes (w ∷ ws) a rest e

    t : (ws : List (List ℕ)) (a : A) (rest : List (List ℕ)) → either key r other ws ≡ Some (a, rest) → Read S ws a rest
    t [] a rest e = absurd (none-some (a, rest) e)
    t (w ∷ ws) a rest e = by w ws a rest (bytes_eq w key) refl e

pub takes-keyed : {A : Type 0} (key : List ℕ) (r : Reader A) (S : A → List ℕ → Type 0) → Takes r (λ b t. S b ((32 ∷ key) ++ t)) → Takes (keyed key r) S
takes-keyed {A} key r S h = record { takes = t }
  where
    by : (w : List ℕ) (ws : List (List ℕ)) (a : A) (rest : List (List ℕ)) (b : Bool) → bytes_eq w key ≡ b → cond b (r ws) None ≡ Some (a, rest) → Read S (w ∷ ws) a rest
    by w ws a rest true is e = behind S key w ws a rest (bytes-same w key is) (h.takes ws a rest e)
    by w ws a rest false is e = absurd (none-some (a, rest) e)

    t : (ws : List (List ℕ)) (a : A) (rest : List (List ℕ)) → keyed key r ws ≡ Some (a, rest) → Read S ws a rest
    t [] a rest e = absurd (none-some (a, rest) e)
    t (w ∷ ws) a rest e = by w ws a rest (bytes_eq w key) refl e

-- one reader after another, where the first one's values have one text each
pub takes-followed : {A B : Type 0} (r : Reader A) (f : A → Reader B) (spell : A → List ℕ) (P : A → Type 0) (S : B → List ℕ → Type 0) → Takes r (λ a t. (t ≡ spell a) × P a) → ((a : A) → P a → Takes (f a) (λ b u. S b (spell a ++ u))) → Takes (followed r f) S
takes-followed {A} {B} r f spell P S h k = record { takes = λ ws b rest e. by ws b rest (r ws) refl e }
  where
    by : (ws : List (List ℕ)) (b : B) (rest : List (List ℕ)) (o : Option (A × List (List ℕ))) → r ws ≡ o → after o f ≡ Some (b, rest) → Read S ws b rest
    by ws b rest None is e = absurd (none-some (b, rest) e)
    by ws b rest (Some x) is e =
        let one = h.takes ws x.0 x.1 is in
        let two = (k x.0 one.known.1).takes x.1 b rest e in
        record {
          text = spell x.0 ++ two.text;
          whole = one.whole ∙ ap (λ t. t ++ fields x.1) one.known.0 ∙ ap (λ t. spell x.0 ++ t) two.whole ∙ sym (append_assoc (spell x.0) two.text (fields rest));
          known = two.known;
        }

many-more : {A : Type 0} (of : List ℕ → Option A) (spell : A → List ℕ) (P : A → Type 0) → ((w : List ℕ) (a : A) → of w ≡ Some a → (32 ∷ w ≡ spell a) × P a) → (w : List ℕ) (ws : List (List ℕ)) (m : List A × List (List ℕ)) (o : Option A) → of w ≡ o → (fields ws ≡ flat_map spell m.0 ++ fields m.1) × AllByRecursion P m.0 → (fields (w ∷ ws) ≡ flat_map spell (gathered o w ws m).0 ++ fields (gathered o w ws m).1) × AllByRecursion P (gathered o w ws m).0
many-more of spell P h w ws m None is more = (refl, tt)
many-more of spell P h w ws m (Some a) is more =
    let one = h w a is in
    (ap (λ r. (32 ∷ w) ++ r) more.0 ∙ ap (λ t. t ++ (flat_map spell m.0 ++ fields m.1)) one.0 ∙ sym (append_assoc (spell a) (flat_map spell m.0) (fields m.1)), (one.1, more.1))

many-read : {A : Type 0} (of : List ℕ → Option A) (spell : A → List ℕ) (P : A → Type 0) → ((w : List ℕ) (a : A) → of w ≡ Some a → (32 ∷ w ≡ spell a) × P a) → (ws : List (List ℕ)) → (fields ws ≡ flat_map spell (many of ws).0 ++ fields (many of ws).1) × AllByRecursion P (many of ws).0
many-read of spell P h [] = (refl, tt)
many-read of spell P h (w ∷ ws) = many-more of spell P h w ws (many of ws) (of w) refl (many-read of spell P h ws)

-- a part
pub takes-part : {A : Type 0} (key : List ℕ) (of : List ℕ → Option A) (spell : A → List ℕ) (P : A → Type 0) → ((w : List ℕ) (a : A) → of w ≡ Some a → (32 ∷ w ≡ spell a) × P a) → Takes (part key of) (λ xs t. (t ≡ part_text (32 ∷ key) spell xs) × AllByRecursion P xs)
takes-part {A} key of spell P h = record { takes = t }
  where
    S : List A → List ℕ → Type 0
    S xs t = (t ≡ part_text (32 ∷ key) spell xs) × AllByRecursion P xs

    some : (ws : List (List ℕ)) (m : List A × List (List ℕ)) (xs : List A) (rest : List (List ℕ)) → (fields ws ≡ flat_map spell m.0 ++ fields m.1) × AllByRecursion P m.0 → one_or_more m ≡ Some (xs, rest) → Read (λ ys t. S ys ((32 ∷ key) ++ t)) ws xs rest
    some ws ([], vs) xs rest known e = absurd (none-some (xs, rest) e)
    some ws (y ∷ ys, vs) xs rest known e =
        let same = same_Some (y ∷ ys, vs) (xs, rest) e in
        let value : y ∷ ys ≡ xs = ap (λ x. x.0) same in
        let left : vs ≡ rest = ap (λ x. x.1) same in
        record {
          text = flat_map spell (y ∷ ys);
          whole = known.0 ∙ ap (λ r. flat_map spell (y ∷ ys) ++ fields r) left;
          known = subst (λ zs. S zs ((32 ∷ key) ++ flat_map spell (y ∷ ys))) value (refl, known.1);
        }

    by : (w : List ℕ) (ws : List (List ℕ)) (xs : List A) (rest : List (List ℕ)) (b : Bool) → bytes_eq w key ≡ b → cond b (one_or_more (many of ws)) (Some ([], w ∷ ws)) ≡ Some (xs, rest) → Read S (w ∷ ws) xs rest
    by w ws xs rest true is e = behind S key w ws xs rest (bytes-same w key is) (some ws (many of ws) xs rest (many-read of spell P h ws) e)
    by w ws xs rest false is e = (takes-done [] S (refl, tt)).takes (w ∷ ws) xs rest e

    t : (ws : List (List ℕ)) (xs : List A) (rest : List (List ℕ)) → part key of ws ≡ Some (xs, rest) → Read S ws xs rest
    t [] xs rest e = (takes-done [] S (refl, tt)).takes [] xs rest e
    t (w ∷ ws) xs rest e = by w ws xs rest (bytes_eq w key) refl e

-- the text is read as the value, where what follows is as N says
pub record Again {A : Type 0} (r : Reader A) (a : A) (text : List ℕ) (N : List (List ℕ) → Type 0) : Type 0 where
  pub front : List (List ℕ)
  pub spelled : fields front ≡ text
  pub plain : AllByRecursion Plain front
  pub reads : (rest : List (List ℕ)) → N rest → r (front ++ rest) ≡ Some (a, rest)

-- whatever follows
abbrev pub Any : List (List ℕ) → Type 0
Any ws = Unit {0}

pub again-as : {A : Type 0} (r : Reader A) (a : A) (text other : List ℕ) (N M : List (List ℕ) → Type 0) → text ≡ other → ((rest : List (List ℕ)) → M rest → N rest) → Again r a text N → Again r a other M
again-as r a text other N M same weaker h = record { front = h.front; spelled = h.spelled ∙ same; plain = h.plain; reads = λ rest m. h.reads rest (weaker rest m) }

pub again-done : {A : Type 0} (a : A) (N : List (List ℕ) → Type 0) → Again (done a) a [] N
again-done a N = record { front = []; spelled = refl; plain = tt; reads = λ rest n. refl }

pub again-word : {A : Type 0} (of : List ℕ → Option A) (w : List ℕ) (a : A) → of w ≡ Some a → Plain w → Again (word of) a (32 ∷ w) Any
again-word of w a is plain = record { front = w ∷ []; spelled = append-nil (32 ∷ w); plain = (plain, tt); reads = λ rest n. ap (option_map (λ b. (b, rest))) is }

pub again-keyed : {A : Type 0} (key : List ℕ) (r : Reader A) (a : A) (t : List ℕ) (N : List (List ℕ) → Type 0) → Plain key → Again r a t N → Again (keyed key r) a ((32 ∷ key) ++ t) N
again-keyed key r a t N plain h = record {
  front = key ∷ h.front;
  spelled = ap (λ u. (32 ∷ key) ++ u) h.spelled;
  plain = (plain, h.plain);
  reads = λ rest n. ap (λ b. cond b (r (h.front ++ rest)) None) (same-bytes key) ∙ h.reads rest n;
}

-- a word that picks a reader
pub again-kind : {A : Type 0} (q r : Reader A) (w : List ℕ) (a : A) (t : List ℕ) (N : List (List ℕ) → Type 0) → ((ws : List (List ℕ)) → q (w ∷ ws) ≡ r ws) → Plain w → Again r a t N → Again q a ((32 ∷ w) ++ t) N
again-kind q r w a t N picks plain h = record {
  front = w ∷ h.front;
  spelled = ap (λ u. (32 ∷ w) ++ u) h.spelled;
  plain = (plain, h.plain);
  reads = λ rest n. picks (h.front ++ rest) ∙ h.reads rest n;
}

-- the first word is not the key
abbrev pub NotFirst : List ℕ → List (List ℕ) → Type 0
NotFirst key [] = ⊥
NotFirst key (w ∷ ws) = bytes_eq w key ≡ false

not-first-reads : {A : Type 0} (key : List ℕ) (r other : Reader A) (ws rest : List (List ℕ)) (o : Option (A × List (List ℕ))) → NotFirst key ws → other (ws ++ rest) ≡ o → either key r other (ws ++ rest) ≡ o
not-first-reads key r other [] rest o apart e = absurd apart
not-first-reads key r other (w ∷ ws) rest o apart e = ap (λ b. cond b (r (ws ++ rest)) (other (w ∷ (ws ++ rest)))) apart ∙ e

pub again-there : {A : Type 0} (key : List ℕ) (r other : Reader A) (a : A) (t : List ℕ) (N : List (List ℕ) → Type 0) → (h : Again other a t N) → NotFirst key h.front → Again (either key r other) a t N
again-there key r other a t N h apart = record {
  front = h.front;
  spelled = h.spelled;
  plain = h.plain;
  reads = λ rest n. not-first-reads key r other h.front rest (Some (a, rest)) apart (h.reads rest n);
}

-- the text is read, and with what follows it is as K says
pub record AgainBefore {A : Type 0} (r : Reader A) (a : A) (text : List ℕ) (K N : List (List ℕ) → Type 0) : Type 0 where
  pub again : Again r a text N
  pub before : (rest : List (List ℕ)) → N rest → K (again.front ++ rest)

pub before-followed : {A B : Type 0} (r : Reader A) (f : A → Reader B) (a : A) (b : B) (t u : List ℕ) (K N M : List (List ℕ) → Type 0) → (g : Again r a t N) → (h : Again (f a) b u M) → ((rest : List (List ℕ)) → M rest → N (h.front ++ rest)) → ((rest : List (List ℕ)) → M rest → K (g.front ++ (h.front ++ rest))) → AgainBefore (followed r f) b (t ++ u) K M
before-followed r f a b t u K N M g h follows begins = record {
  again = record {
    front = g.front ++ h.front;
    spelled = fields-append g.front h.front ∙ ap (λ x. x ++ fields h.front) g.spelled ∙ ap (λ x. t ++ x) h.spelled;
    plain = all-append Plain g.front h.front g.plain h.plain;
    reads = λ rest m. ap (λ ws. after (r ws) f) (append_assoc g.front h.front rest) ∙ ap (λ o. after o f) (g.reads (h.front ++ rest) (follows rest m)) ∙ h.reads rest m;
  };
  before = λ rest m. subst K (sym (append_assoc g.front h.front rest)) (begins rest m);
}

pub again-followed : {A B : Type 0} (r : Reader A) (f : A → Reader B) (a : A) (b : B) (t u : List ℕ) (N M : List (List ℕ) → Type 0) → Again r a t N → (h : Again (f a) b u M) → ((rest : List (List ℕ)) → M rest → N (h.front ++ rest)) → Again (followed r f) b (t ++ u) M
again-followed r f a b t u N M g h follows = (before-followed r f a b t u Any N M g h follows (λ rest m. tt)).again

-- a field, after which anything may follow
pub again-field : {A B : Type 0} (r : Reader A) (f : A → Reader B) (a : A) (b : B) (t u : List ℕ) (M : List (List ℕ) → Type 0) → Again r a t Any → Again (f a) b u M → Again (followed r f) b (t ++ u) M
again-field r f a b t u M g h = again-followed r f a b t u Any M g h (λ rest m. tt)

-- what follows is no item
abbrev pub NoItem : {A : Type 0} → (List ℕ → Option A) → List (List ℕ) → Type 0
NoItem of [] = Unit {0}
NoItem of (w ∷ ws) = of w ≡ None

-- a word for each item
pub record Item {A : Type 0} (of : List ℕ → Option A) (spell : A → List ℕ) (a : A) : Type 0 where
  pub text : List ℕ
  pub spelled : 32 ∷ text ≡ spell a
  pub plain : Plain text
  pub reads : of text ≡ Some a

pub record Items {A : Type 0} (of : List ℕ → Option A) (spell : A → List ℕ) (xs : List A) : Type 0 where
  pub front : List (List ℕ)
  pub spelled : fields front ≡ flat_map spell xs
  pub plain : AllByRecursion Plain front
  pub reads : (rest : List (List ℕ)) → NoItem of rest → many of (front ++ rest) ≡ (xs, rest)

none-more : {A : Type 0} (of : List ℕ → Option A) (rest : List (List ℕ)) → NoItem of rest → many of rest ≡ ([], rest)
none-more of [] n = refl
none-more of (w ∷ ws) n = ap (λ o. gathered o w ws (many of ws)) n

pub items : {A : Type 0} (of : List ℕ → Option A) (spell : A → List ℕ) (xs : List A) → AllByRecursion (Item of spell) xs → Items of spell xs
items of spell [] all = record { front = []; spelled = refl; plain = tt; reads = none-more of }
items of spell (x ∷ xs) all =
    let one = all.0 in
    let more = items of spell xs all.1 in
    record {
      front = one.text ∷ more.front;
      spelled = ap (λ t. (32 ∷ one.text) ++ t) more.spelled ∙ ap (λ t. t ++ flat_map spell xs) one.spelled;
      plain = (one.plain, more.plain);
      reads = λ rest n. ap (λ o. gathered o one.text (more.front ++ rest) (many of (more.front ++ rest))) one.reads ∙ ap (λ m. (x ∷ m.0, m.1)) (more.reads rest n);
    }

-- what follows a part is neither its word nor an item
abbrev pub AfterPart : {A : Type 0} → List ℕ → (List ℕ → Option A) → List (List ℕ) → Type 0
AfterPart key of [] = Unit {0}
AfterPart key of (w ∷ ws) = (bytes_eq w key ≡ false) × (of w ≡ None)

no-item : {A : Type 0} (key : List ℕ) (of : List ℕ → Option A) (rest : List (List ℕ)) → AfterPart key of rest → NoItem of rest
no-item key of [] n = tt
no-item key of (w ∷ ws) n = n.1

no-part : {A : Type 0} (key : List ℕ) (of : List ℕ → Option A) (rest : List (List ℕ)) → AfterPart key of rest → part key of rest ≡ Some ([], rest)
no-part key of [] n = refl
no-part key of (w ∷ ws) n = ap (λ b. cond b (one_or_more (many of ws)) (Some ([], w ∷ ws))) n.0

-- nothing, or this word first
abbrev pub Starts : List ℕ → List (List ℕ) → Type 0
Starts key [] = Unit {0}
Starts key (w ∷ ws) = w ≡ key

-- a part is read again, and begins with its word
pub record AgainPart {A : Type 0} (r : Reader A) (a : A) (text key : List ℕ) (N : List (List ℕ) → Type 0) : Type 0 where
  pub again : Again r a text N
  pub starts : Starts key again.front

pub again-part : {A : Type 0} (key : List ℕ) (of : List ℕ → Option A) (spell : A → List ℕ) (xs : List A) → Plain key → AllByRecursion (Item of spell) xs → AgainPart (part key of) xs (part_text (32 ∷ key) spell xs) key (AfterPart key of)
again-part key of spell [] plain all = record { again = record { front = []; spelled = refl; plain = tt; reads = no-part key of }; starts = tt }
again-part key of spell (x ∷ xs) plain all =
    let h = items of spell (x ∷ xs) all in
    record {
      again = record {
        front = key ∷ h.front;
        spelled = ap (λ t. (32 ∷ key) ++ t) h.spelled;
        plain = (plain, h.plain);
        reads = λ rest n. ap (λ b. cond b (one_or_more (many of (h.front ++ rest))) (Some ([], key ∷ (h.front ++ rest)))) (same-bytes key) ∙ ap one_or_more (h.reads rest (no-item key of rest n));
      };
      starts = refl;
    }

-- a part that is the last
pub again-last : {A B : Type 0} (r : Reader A) (g : A → B) (a : A) (text key : List ℕ) (N M : List (List ℕ) → Type 0) → ((rest : List (List ℕ)) → M rest → N rest) → AgainPart r a text key N → AgainPart (followed r (λ x. done (g x))) (g a) text key M
again-last r g a text key N M weaker h = record {
  again = record { front = h.again.front; spelled = h.again.spelled; plain = h.again.plain; reads = λ rest m. ap (λ o. after o (λ x. done (g x))) (h.again.reads rest (weaker rest m)) };
  starts = h.starts;
}

-- a reader that reads all words of a line
pub whole-read : {A : Type 0} (r : Reader A) (S : A → List ℕ → Type 0) (ws : List (List ℕ)) (a : A) → Takes r S → all_read (r ws) ≡ Some a → S a (fields ws)
whole-read {A} r S ws a h e = by (r ws) refl e
  where
    by : (o : Option (A × List (List ℕ))) → r ws ≡ o → all_read o ≡ Some a → S a (fields ws)
    by None is e = absurd (none-some a e)
    by (Some (b, [])) is e =
        let one = h.takes ws b [] is in
        let value : b ≡ a = same_Some b a e in
        let text : one.text ≡ fields ws = sym (one.whole ∙ append-nil one.text) in
        subst (λ x. S x (fields ws)) value (subst (λ t. S b t) text one.known)
    by (Some (b, w ∷ vs)) is e = absurd (none-some a e)
