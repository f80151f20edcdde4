-- Lines of entries that are told to the log, and written there.
use Rattle.std.proofs.Common.{◌⊎◌, ◌≡◌, ℕ, ◌+◌, ◌≤◌, Bool, true, false, List, [], ◌++◌, length, Option, None, Result, Ok, Err, refl, ap, sym, ◌∙◌, subst, append-nil, inl, inr, arith}
use Rattle.std.specs.Io.KnownBytes.{Appends}
use Rattle.std.proofs.KnownBytes.{Appends-nil, Appends-trans}
use Rattle.std.proofs.lemmas.Bool.{true≢false}
use Rattle.rx_rules.proofs.Common.{Rose}
use Rattle.rx_rules.specs.declared.entries.Entry.{Entry}
use Rattle.rx10_coordinator.specs.declared.log.Log.{Log}
use Rattle.rx_lines.specs.declared.output.Pending.{Pending}
use Rattle.rx_lines.specs.Stated.{log_lines}
use Rattle.rx_lines.specs.Inside.Telling.{TextIsTold, IsLeft}
use Rattle.rx10_coordinator.specs.Inside.Logging.{IsLogged, IsTorn, IsCut, IsWritten, OrElse}
use Rattle.rx_lines.proofs.Telling.{rose-on}
use Rattle.rx_lines.proofs.LogLines.{lines-on}

-- what holds of each way a call may end
pub or-map : {T E : Type 0} (r : Result T E) (A B C D : Type 0) → OrElse r A B → (A → C) → (B → D) → OrElse r C D
or-map (Ok t) A B C D h f g = f h
or-map (Err e) A B C D h f g = g h

pub inr-map : {A B C : Type 0} → A ⊎ B → (B → C) → A ⊎ C
inr-map (inl a) f = inl a
inr-map (inr b) f = inr (f b)

-- nothing is left, or a write has failed
pub left-whole : (b : Bool) (f g : ℕ) (rest text : List ℕ) → b ≡ false → text ≡ [] → IsLeft b f g rest text → rest ≡ []
left-whole false f g rest text e none h = h ∙ none
left-whole true f g rest text e none h = cc

pub left-rose : (b : Bool) (f g : ℕ) (rest text : List ℕ) → b ≡ true → IsLeft b f g rest text → Rose f g
left-rose true f g rest text e h = h.0
left-rose false f g rest text e h = cc

pub all-written : (w : Option (List ℕ)) (f : ℕ) (v : Option (List ℕ)) (g : ℕ) (l : Log) (text : List ℕ) → l.pending.is_failed ≡ false → l.pending.text.items ≡ [] → TextIsTold w f v g l.pending text → IsWritten w f v g l text
all-written w f v g l text ok none t =
    let rest : t.rest ≡ [] = left-whole l.pending.is_failed f g t.rest l.pending.text.items ok none t.left in
    let all : text ≡ t.sent = t.all ∙ (ap (λ z. t.sent ++ z) rest ∙ append-nil t.sent) in
    record { wrote = subst (Appends w v) (sym all) t.wrote; later = t.later; none = none; whole = ok }

pub all-cut : (w : Option (List ℕ)) (f : ℕ) (v : Option (List ℕ)) (g : ℕ) (t : Pending) (text : List ℕ) → t.is_failed ≡ true → TextIsTold w f v g t text → IsCut w f v g text
all-cut w f v g t text fails h =
    record { part = h.sent; left = h.rest; all = h.all; wrote = h.wrote; rose = left-rose t.is_failed f g h.rest t.text.items fails h.left }

module _ (x : Option (List ℕ)) (h : ℕ) (y : Option (List ℕ)) (i : ℕ) where
  -- without a log nothing is known of its bytes
  pub unkept : (l : Log) (es fs : List Entry) → l.is_kept ≡ false → IsLogged x h y i l es → IsLogged x h y i l fs
  unkept l es fs off k =
      record {
        lines = subst (λ (z : Option (List ℕ)). Appends z y (log_lines 0 fs)) (sym (k.silent off)) tt;
        later = k.later;
        none = k.none;
        whole = k.whole;
        silent = k.silent;
      }

  -- where a log is kept, these are the same entries
  pub logged-as : (l : Log) (es fs : List Entry) → (l.is_kept ≡ true → es ≡ fs) → IsLogged x h y i l es → IsLogged x h y i l fs
  logged-as l es fs same k = by l.is_kept refl where
    by : (b : Bool) → l.is_kept ≡ b → IsLogged x h y i l fs
    by true e = subst (λ (z : List Entry). IsLogged x h y i l z) (same e) k
    by false e = unkept l es fs e k

  module _ (v : Option (List ℕ)) (g : ℕ) (l m : Log) (n : ℕ) (es fs : List Entry) (long : n ≡ length es) (k : IsLogged x h y i l es) where
    lines-at : log_lines 0 es ++ log_lines n fs ≡ log_lines 0 (es ++ fs)
    lines-at =
        let at : n ≡ 0 + length es = omega (arith, long) in
        ap (λ (j : ℕ). log_lines 0 es ++ log_lines j fs) at ∙ lines-on 0 es fs

    pub now-logged : m.is_kept ≡ l.is_kept → IsWritten y i v g m (log_lines n fs) → IsLogged x h v g m (es ++ fs)
    now-logged same w =
        record {
          lines = subst (Appends x v) lines-at (Appends-trans x y v (log_lines 0 es) (log_lines n fs) k.lines w.wrote);
          later = (let a = k.later in let b = w.later in omega arith);
          none = w.none;
          whole = w.whole;
          silent = λ e. k.silent (sym same ∙ e);
        }

    pub now-torn : IsCut y i v g (log_lines n fs) → IsTorn x h v g es
    now-torn w =
        record {
          more = fs;
          part = w.part;
          left = w.left;
          torn = sym w.all ∙ ap (λ (j : ℕ). log_lines j fs) long;
          lines = Appends-trans x y v (log_lines 0 es) w.part k.lines w.wrote;
          rose = rose-on h i g k.later w.rose;
        }

pub logged-on : (x : Option (List ℕ)) (h : ℕ) (y : Option (List ℕ)) (i : ℕ) (l : Log) (es fs : List Entry) → es ≡ fs → IsLogged x h y i l es → IsLogged x h y i l fs
logged-on x h y i l es fs e k = subst (λ (z : List Entry). IsLogged x h y i l z) e k

pub torn-on : (x : Option (List ℕ)) (h : ℕ) (y : Option (List ℕ)) (i : ℕ) (es fs : List Entry) → es ≡ fs → IsTorn x h y i es → IsTorn x h y i fs
torn-on x h y i es fs e k = subst (λ (z : List Entry). IsTorn x h y i z) e k

-- before the first entry
pub log-opens : (x : Option (List ℕ)) (h : ℕ) (l : Log) → l.pending.text.items ≡ [] → l.pending.is_failed ≡ false → (l.is_kept ≡ false → x ≡ None) → IsLogged x h x h l []
log-opens x h l none ok silent = record { lines = Appends-nil x; later = low h; none = none; whole = ok; silent = silent } where
  low : (n : ℕ) → n ≤ n
  low n = omega arith

pub is-kept : (b : Bool) (x : Option (List ℕ)) → b ≡ true → b ≡ false → x ≡ None
is-kept b x on off = absurd (true≢false (sym on ∙ off))
