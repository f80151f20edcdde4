-- What was served.
use Rattle.std.proofs.Common.{true, false, ◌⊎◌, ◌-◌, ◌^◌, ◌≡◌, ℕ, ◌+◌, ◌≤◌, Bool, List, [], ◌∷◌, ◌++◌, length, take, length-append, length-take, Option, None, refl, sym, ◌∙◌, ap, subst, append_assoc, append-nil, inl, inr, arith}
use Rattle.std.specs.Io.KnownBytes.{Consumes, IsAtEnd, Appends}
use Rattle.std.proofs.KnownBytes.{Appends-nil, Consumes-trans}
use Rattle.rx_rules.proofs.Common.{Rose}
use Rattle.rx_rules.specs.declared.entries.Entry.{Entry}
use Rattle.rx_coordinator.specs.declared.parking.Parking.{Parking}
use Rattle.rx10_coordinator.specs.declared.desk.Desk.{Desk}
use Rattle.rx10_coordinator.specs.declared.log.Log.{Log}
use Rattle.rx_lines.specs.declared.output.Pending.{Pending}
use Rattle.rx10_coordinator.specs.declared.received.Received.{Received}
use Rattle.rx10_coordinator.specs.declared.status.Status.{Status}
use Rattle.rx10_coordinator.specs.declared.status.Status.TheVariants.{Done, ReadFault, WriteFault, LogFault}
use Rattle.rx_lines.specs.Session.{Between, IsOpen, LineAnswered, greeting}
use Rattle.rx10_coordinator.specs.Serving.{Served}
use Rattle.rx_lines.specs.Stated.{log_lines}
use Rattle.rx10_coordinator.specs.Log.{Logged, HasFailed}
use Rattle.rx_lines.specs.Inside.Telling.{TextIsTold, IsLeft, Puts}
use Rattle.rx10_coordinator.specs.Inside.Logging.{IsLogged, IsTorn}
use Rattle.rx10_coordinator.specs.Inside.Desk.{DeskInvariant, LinesAnswered, Breaks, IsLine}
use Rattle.rx_lines.proofs.Telling.{without, joined}
use Rattle.rx10_coordinator.proofs.Cutting.{line-ends}
use Rattle.rx10_coordinator.proofs.Going.{answers-more}
use Rattle.rx10_coordinator.proofs.Logging.{left-whole, left-rose}

-- nothing was told so far
pub tells-none : (w : Option (List ℕ)) (f : ℕ) (t : Pending) → t.text.items ≡ [] → t.is_failed ≡ false → TextIsTold w f w f t []
tells-none w f t none whole =
    record { sent = []; rest = []; later = refl-le f; wrote = Appends-nil w; all = refl; left = is-left t.is_failed f [] t.text.items whole (sym none) } where
      refl-le : (n : ℕ) → n ≤ n
      refl-le n = omega arith

      is-left : (b : Bool) (g : ℕ) (rest text : List ℕ) → b ≡ false → rest ≡ text → IsLeft b g g rest text
      is-left false g rest text e same = same
      is-left true g rest text e same = cc

-- the greeting is told
pub opened : (p : ℕ) (w : Option (List ℕ)) (f : ℕ) (v : Option (List ℕ)) (g : ℕ) (x : Option (List ℕ)) (h : ℕ) (b : Between) (k : Parking) (l : Log) (d : Desk) (r : Received) → IsOpen b → DeskInvariant p b k → d.parking ≡ k → d.log ≡ l → IsLogged x h x h l [] → IsLine r [] → TextIsTold w f v g d.pending (greeting p) → LinesAnswered p w f v g x h x h d r []
opened p w f v g x h b k l d r opens holds same kept log line told =
    record {
      lines = [];
      last = [];
      before = b;
      after = b;
      replies = [];
      cut = refl;
      opens = opens;
      answered = (refl, refl);
      holds = subst (DeskInvariant p b) (sym same) holds;
      reads = line;
      tells = subst (λ (z : List ℕ). TextIsTold w f v g d.pending z) (sym (append-nil (greeting p))) told;
      logged = subst (λ (es : List Entry). IsLogged x h x h d.log es) (sym opens.entries) (subst (λ (m : Log). IsLogged x h x h m []) (sym kept) log);
    }

-- what is told is written
pub wrote : (p : ℕ) (w : Option (List ℕ)) (f : ℕ) (v u : Option (List ℕ)) (g k : ℕ) (x : Option (List ℕ)) (h : ℕ) (y : Option (List ℕ)) (i : ℕ) (d e : Desk) (r : Received) (bytes : List ℕ) → e.parking ≡ d.parking → e.log ≡ d.log → ((text : List ℕ) → TextIsTold w f v g d.pending text → TextIsTold w f u k e.pending (text ++ [])) → LinesAnswered p w f v g x h y i d r bytes → LinesAnswered p w f u k x h y i e r bytes
wrote p w f v u g k x h y i d e r bytes same kept told s =
    record {
      lines = s.lines;
      last = s.last;
      before = s.before;
      after = s.after;
      replies = s.replies;
      cut = s.cut;
      opens = s.opens;
      answered = s.answered;
      holds = subst (DeskInvariant p s.after) (sym same) s.holds;
      reads = s.reads;
      tells = without w f u k e.pending (greeting p ++ s.replies) (told (greeting p ++ s.replies) s.tells);
      logged = subst (λ (l : Log). IsLogged x h y i l s.after.entries) (sym kept) s.logged;
    }

module _ (p : ℕ) (w : Option (List ℕ)) (f : ℕ) (v : Option (List ℕ)) (g : ℕ) (x : Option (List ℕ)) (h : ℕ) (y : Option (List ℕ)) (i : ℕ) (d : Desk) (r : Received) (bytes : List ℕ) (old new : Option (List ℕ)) where
  -- all that was read was heard
  heard : (status : Status) (s : LinesAnswered p w f v g x h y i d r bytes) → Consumes old new bytes → (status ≡ LogFault → ⊥) → (status ≡ WriteFault → Rose f g) → (s.tells.rest ≡ []) ⊎ HasFailed f g status → (status ≡ Done → IsAtEnd new ⊎ (2 ^ 64 - 1 ≤ length bytes)) → Logged p old new w v x y f g h i status
  heard status s took apart fails whole over =
      record {
        heard = bytes;
        unheard = [];
        text = greeting p ++ s.replies;
        written = s.tells.sent;
        rest = s.tells.rest;
        more = [];
        part = [];
        left = [];
        took = subst (Consumes old new) (sym (append-nil bytes)) took;
        session = record { lines = s.lines; last = s.last; before = s.before; after = s.after; replies = s.replies; cut = s.cut; opens = s.opens; answered = s.answered; told = refl };
        wrote = s.tells.wrote;
        front = s.tells.all;
        whole = whole;
        logged = subst (Appends x y) (sym (append-nil (log_lines 0 s.after.entries))) s.logged.lines;
        torn = refl;
        kept = inl (refl, refl);
        fails = fails;
        log_fails = λ e. absurd (apart e);
        over = over;
      }

  pub served : (status : Status) → (status ≡ LogFault → ⊥) → (status ≡ WriteFault → ⊥) → d.pending.is_failed ≡ false → d.pending.text.items ≡ [] → Consumes old new bytes → (status ≡ Done → IsAtEnd new ⊎ (2 ^ 64 - 1 ≤ length bytes)) → LinesAnswered p w f v g x h y i d r bytes → Logged p old new w v x y f g h i status
  served status apart other ok none took over s = heard status s took apart (λ e. absurd (other e)) (inl (left-whole d.pending.is_failed f g s.tells.rest d.pending.text.items ok none s.tells.left)) over

  pub unwritten : d.pending.is_failed ≡ true → Consumes old new bytes → LinesAnswered p w f v g x h y i d r bytes → Logged p old new w v x y f g h i WriteFault
  unwritten fails took s =
      let rose = left-rose d.pending.is_failed f g s.tells.rest d.pending.text.items fails s.tells.left in
      heard WriteFault s took (λ e. (let n : ⊥ = cc in n)) (λ _. rose) (inr (inl refl, rose)) (λ e. absurd (let n : ⊥ = cc in n))

-- a write to the log has failed, and the replies so far are written or not
pub broken : (p : ℕ) (w : Option (List ℕ)) (f : ℕ) (v u : Option (List ℕ)) (g k : ℕ) (x : Option (List ℕ)) (h : ℕ) (y : Option (List ℕ)) (i : ℕ) (d e : Desk) (bytes : List ℕ) (old new : Option (List ℕ)) → e.pending.text.items ≡ [] → ((text : List ℕ) → TextIsTold w f v g d.pending text → TextIsTold w f u k e.pending (text ++ [])) → Consumes old new bytes → Breaks p w f v g x h y i d bytes → Logged p old new w u x y f k h i LogFault
broken p w f v u g k x h y i d e bytes old new none told took s =
    let text = greeting p ++ s.replies in
    let t = without w f u k e.pending text (told text s.tells) in
    record {
      heard = s.heard;
      unheard = s.unheard;
      text = text;
      written = t.sent;
      rest = t.rest;
      more = s.torn.more;
      part = s.torn.part;
      left = s.torn.left;
      took = subst (Consumes old new) s.all took;
      session = record { lines = s.lines; last = s.last; before = s.before; after = s.after; replies = s.replies; cut = s.cut; opens = s.opens; answered = s.answered; told = refl };
      wrote = t.wrote;
      front = t.all;
      whole = by e.pending.is_failed refl t.rest t.left;
      logged = s.torn.lines;
      torn = s.torn.torn;
      kept = inr refl;
      fails = λ e. absurd (let n : ⊥ = cc in n);
      log_fails = λ _. s.torn.rose;
      over = λ c. absurd (let n : ⊥ = cc in n);
    }
  where
    by : (b : Bool) → e.pending.is_failed ≡ b → (rest : List ℕ) → IsLeft e.pending.is_failed f k rest e.pending.text.items → (rest ≡ []) ⊎ HasFailed f k LogFault
    by false c rest left = inl (left-whole e.pending.is_failed f k rest e.pending.text.items c none left)
    by true c rest left = inr (inr refl, left-rose e.pending.is_failed f k rest e.pending.text.items c left)

-- without a log, none can fail
no-rise : Rose 0 0 → ⊥
no-rise r = grind (arith, r)

pub no-fault : (p : ℕ) (old new w v y : Option (List ℕ)) (f g : ℕ) (status : Status) → Logged p old new w v None y f g 0 0 status → status ≡ LogFault → ⊥
no-fault p old new w v y f g status s e = no-rise (s.log_fails e)

pub unlogged : (p : ℕ) (old new w v y : Option (List ℕ)) (f g : ℕ) (status : Status) → Logged p old new w v None y f g 0 0 status → Served p old new w v f g status
unlogged p old new w v y f g status s =
    record {
      bytes = s.heard;
      text = s.text;
      written = s.written;
      rest = s.rest;
      took = took s.kept;
      session = s.session;
      wrote = s.wrote;
      front = s.front;
      whole = whole s.whole;
      fails = s.fails;
      over = s.over;
    }
  where
    none : status ≡ LogFault → ⊥
    none e = no-rise (s.log_fails e)

    took : (((s.unheard ≡ []) × (s.part ≡ [])) ⊎ (status ≡ LogFault)) → Consumes old new s.heard
    took (inl k) = subst (Consumes old new) (ap (λ z. s.heard ++ z) k.0 ∙ append-nil s.heard) s.took
    took (inr k) = absurd (none k)

    whole : ((s.rest ≡ []) ⊎ HasFailed f g status) → (s.rest ≡ []) ⊎ (status ≡ WriteFault)
    whole (inl k) = inl k
    whole (inr k) = by k.0 where
      by : ((status ≡ WriteFault) ⊎ (status ≡ LogFault)) → (s.rest ≡ []) ⊎ (status ≡ WriteFault)
      by (inl e) = inr e
      by (inr e) = absurd (none e)

pub given-as : (p : ℕ) (w : Option (List ℕ)) (f : ℕ) (v : Option (List ℕ)) (g : ℕ) (x : Option (List ℕ)) (h : ℕ) (y : Option (List ℕ)) (i : ℕ) (d : Desk) (r : Received) (bytes other : List ℕ) → bytes ≡ other → LinesAnswered p w f v g x h y i d r bytes → LinesAnswered p w f v g x h y i d r other
given-as p w f v g x h y i d r bytes other e s = subst (LinesAnswered p w f v g x h y i d r) e s

-- more bytes came, and none of them was heard
pub unheard : (p : ℕ) (w : Option (List ℕ)) (f : ℕ) (v : Option (List ℕ)) (g : ℕ) (x : Option (List ℕ)) (h : ℕ) (y : Option (List ℕ)) (i : ℕ) (d : Desk) (bytes more all : List ℕ) → all ≡ bytes ++ more → Breaks p w f v g x h y i d bytes → Breaks p w f v g x h y i d all
unheard p w f v g x h y i d bytes more all e s =
    record {
      heard = s.heard;
      unheard = s.unheard ++ more;
      lines = s.lines;
      last = s.last;
      before = s.before;
      after = s.after;
      replies = s.replies;
      all = e ∙ (ap (λ z. z ++ more) s.all ∙ append_assoc s.heard s.unheard more);
      cut = s.cut;
      opens = s.opens;
      answered = s.answered;
      tells = s.tells;
      torn = s.torn;
    }

-- a write to the log has failed in the entries of a line, or in those of a release that it made possible
pub broke_off : {K : Type 0} (written : K → Option (List ℕ)) (faults : K → ℕ) (o n : K) (p : ℕ) (w : Option (List ℕ)) (f : ℕ) (x : Option (List ℕ)) (h : ℕ) (y : Option (List ℕ)) (i : ℕ) (z : Option (List ℕ)) (j : ℕ) (d e : Desk) (r : Received) (given : List ℕ) (byte : ℕ) → byte ≡ 10 → (s : LinesAnswered p w f (written o) (faults o) x h y i d r given)
    → ((IsTorn x h z j s.after.entries × Puts written faults o d.pending n e.pending [])
    ⊎ ((c : Between) × (text : List ℕ) × LineAnswered p s.after s.last text c × IsTorn x h z j c.entries × Puts written faults o d.pending n e.pending text))
    → Breaks p w f (written n) (faults n) x h z j e (given ++ byte ∷ [])
broke_off written faults o n p w f x h y i z j d e r given byte ends s (inl k) =
    record {
      heard = given;
      unheard = byte ∷ [];
      lines = s.lines;
      last = s.last;
      before = s.before;
      after = s.after;
      replies = s.replies;
      all = refl;
      cut = s.cut;
      opens = s.opens;
      answered = s.answered;
      tells = without w f (written n) (faults n) e.pending (greeting p ++ s.replies) (k.1 w f (greeting p ++ s.replies) s.tells);
      torn = k.0;
    }
broke_off written faults o n p w f x h y i z j d e r given byte ends s (inr k) =
    record {
      heard = given ++ byte ∷ [];
      unheard = [];
      lines = s.lines ++ s.last ∷ [];
      last = [];
      before = s.before;
      after = k.0;
      replies = s.replies ++ k.1;
      all = sym (append-nil (given ++ byte ∷ []));
      cut = line-ends 10 byte given s.lines s.last ends s.cut;
      opens = s.opens;
      answered = answers-more p s.before s.lines s.replies s.after s.last k.1 k.0 s.answered k.2;
      tells = joined w f (written n) (faults n) e.pending (greeting p) s.replies k.1 (k.4 w f (greeting p ++ s.replies) s.tells);
      torn = k.3;
    }

-- nothing was read
pub read-none : (a b c : Option (List ℕ)) (given buf : List ℕ) (n : ℕ) → n ≡ 0 → Consumes a b given → Consumes b c (take n buf) → Consumes a c given
read-none a b c given buf n none h k =
    subst (Consumes a c) (append-nil given) (Consumes-trans a b c given [] h (subst (λ (m : ℕ). Consumes b c (take m buf)) none k))

-- so much was read
pub read-more : (given buf : List ℕ) (n i : ℕ) → i ≤ length given → n ≤ length buf → (n ≡ 0 → ⊥) → i + 1 ≤ length (given ++ take n buf)
read-more given buf n i low fits some =
    let e = length-append given (take n buf) in
    let t = length-take n buf in
    grind (arith, e, t)

pub not-done : ReadFault ≡ Done → ⊥
not-done e = cc

pub read-fails : ReadFault ≡ LogFault → ⊥
read-fails e = cc

pub read-cut : ReadFault ≡ WriteFault → ⊥
read-cut e = cc

pub done-fails : Done ≡ LogFault → ⊥
done-fails e = cc

pub done-cut : Done ≡ WriteFault → ⊥
done-cut e = cc
