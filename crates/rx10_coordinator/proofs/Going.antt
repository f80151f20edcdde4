-- A session goes on.
use Rattle.std.proofs.Common.{◌≡◌, ℕ, true, ◌||◌, List, [], ◌∷◌, ◌++◌, refl, ap, sym, ◌∙◌, subst, append_assoc, append-nil, inl, inr}
use Rattle.rx_rules.proofs.Common.{ScopeId, TaskId}
use Rattle.rx_rules.specs.declared.entries.Entry.{Entry}
use Rattle.rx_finish.specs.declared.ledger.Outcome.{Outcome}
use Rattle.rx_coordinator.specs.declared.requests.Request.{Request}
use Rattle.rx_coordinator.specs.declared.requests.Request.TheVariants.{Send}
use Rattle.rx_coordinator.specs.declared.requests.Answer.{Answer}
use Rattle.rx_coordinator.specs.declared.requests.Answer.TheVariants.{Bad, Full, NoMemory, NotYet, Sent}
use Rattle.rx_coordinator.specs.declared.waiters.Waiter.{Waiter}
use Rattle.rx_coordinator.specs.declared.waiters.Waiters.{Waiters}
use Rattle.rx_coordinator.specs.declared.parking.Parking.{Parking}
use Rattle.rx_coordinator.specs.declared.parking.Freed.TheVariants.{One, NoOne, Short}
use Rattle.rx_coordinator.specs.Stands.{IsReplyTo, Landing}
use Rattle.rx_coordinator.specs.Parking.{Parks, AskedBeside, FreedFrom, FreedIs, request_of, answer_to}
use Rattle.rx_lines.specs.Replies.{freed_line}
use Rattle.rx_lines.specs.Session.{Between, Are, RequestIsAnswered, Frees, FreesEach, Rests, freed_lines, LineAnswered, AllAnswered, ran_out}
use Rattle.rx10_coordinator.specs.Inside.Desk.{DeskInvariant}

-- what holds of the entries after an answer holds of some, and these the answer tells
landed : (p : ℕ) (es : List Entry) (t : TaskId) (S : List Entry → Type 0) → Landing p es t S → (fs : List Entry) × Landing p es t (Are fs) × S fs
landed p es t S (inl h) = (es ++ h.0 ∷ [], inl (h.0, h.1, h.2, refl), h.3)
landed p es t S (inr h) = (es, inr (h.0, refl), h.1)

asked : (p : ℕ) (es : List Entry) (q : Request) (a : Answer) (S : List Entry → Type 0) → IsReplyTo p es q a S → (fs : List Entry) × IsReplyTo p es q a (Are fs) × S fs
asked p es q Bad S h = (es, (h.0, refl), h.1)
asked p es q Full S h = (es, (h.0, h.1, refl), h.2)
asked p es q NoMemory S h = (es, (h.0, refl), h.1)
asked p es q (NotYet place) S h = (es, (h.0, h.1, refl), h.2)
asked p es (Send t to) (Sent b) S h =
    let l = landed p (es ++ h.0 ∷ []) b.child S h.3 in
    (l.0, (h.0, h.1, h.2, l.1), l.2)
asked p es q _ S h = (es ++ h.0 ∷ [], (h.0, h.1, h.2, refl), h.3)

beside : (p : ℕ) (es : List Entry) (q : Request) (ws us : Waiters) (a : Answer) (S : List Entry → Type 0) → AskedBeside p es q ws a S us → (fs : List Entry) × AskedBeside p es q ws a (Are fs) us × S fs
beside p es q ws us a S (inl h) = (es, inl (h.0, h.1, refl, h.3), h.2)
beside p es q ws us a S (inr h) =
    let r = asked p es q a S h.1 in
    (r.0, inr (h.0, r.1, h.2), r.2)

-- a request is answered
pub asks : (p : ℕ) (b : Between) (q : Request) (a : Answer) (k l : Parking) → DeskInvariant p b k → AskedBeside p b.entries q k.waiters a (Parks l p) l.waiters → (c : Between) × RequestIsAnswered p b q a c × DeskInvariant p c l
asks p b q a k l on h =
    let r = beside p b.entries q k.waiters l.waiters a (Parks l p) h in
    let c : Between = record { entries = r.0; waiters = l.waiters; is_short = b.is_short || ran_out a } in
    (c, record { asked = subst (λ (ws : Waiters). AskedBeside p b.entries q ws a (Are r.0) l.waiters) (sym on.waiters) r.1; there = r.2.all.there; short = refl }, record { parks = r.2; waiters = refl })

-- a release that has waited is done
pub frees : (p : ℕ) (b : Between) (s : ScopeId) (who : Waiter) (o : Outcome) (k l : Parking) → DeskInvariant p b k → FreedIs p b.entries (One s who o) k.waiters (Parks l p) l.waiters → (c : Between) × Frees p b who o c × DeskInvariant p c l
frees p b s who o k l on h =
    let r = asked p b.entries (request_of who) (answer_to who o) (Parks l p) h.2 in
    let c : Between = record { entries = r.0; waiters = l.waiters; is_short = b.is_short } in
    let freed : FreedFrom p b.entries s.0 who o k.waiters (Are r.0) l.waiters = (h.0, h.1, r.1, h.3, h.4) in
    (c, record { scope = s.0; freed = subst (λ (ws : Waiters). FreedFrom p b.entries s.0 who o ws (Are r.0) l.waiters) (sym on.waiters) freed; short = refl }, record { parks = r.2; waiters = refl })

-- none is possible
pub rests : (p : ℕ) (b : Between) (k l : Parking) → DeskInvariant p b k → FreedIs p b.entries NoOne k.waiters (Parks l p) l.waiters → (c : Between) × Rests p b c × DeskInvariant p c l
rests p b k l on h =
    let c : Between = record { entries = b.entries; waiters = l.waiters; is_short = b.is_short } in
    (c, inl (subst (λ (ws : Waiters). FreedIs p b.entries NoOne ws (Are b.entries) l.waiters) (sym on.waiters) (refl, h.1), refl), record { parks = h.0; waiters = refl })

-- memory or numbers ran out
pub wants : (p : ℕ) (b : Between) (k l : Parking) → DeskInvariant p b k → FreedIs p b.entries Short k.waiters (Parks l p) l.waiters → (c : Between) × Rests p b c × DeskInvariant p c l
wants p b k l on h =
    let c : Between = record { entries = b.entries; waiters = l.waiters; is_short = true } in
    (c, inr (subst (λ (ws : Waiters). FreedIs p b.entries Short ws (Are b.entries) l.waiters) (sym on.waiters) (refl, h.1), refl), record { parks = h.0; waiters = refl })

-- or the loop has made all its turns
pub stops : (p : ℕ) (b : Between) (k : Parking) → DeskInvariant p b k → (c : Between) × Rests p b c × DeskInvariant p c k
stops p b k on = wants p b k k on (on.parks, λ m. inl refl)

-- nothing comes by that
pub rested-same : (p : ℕ) (b c : Between) → Rests p b c → b.entries ≡ c.entries
rested-same p b c (inl h) = h.0.0
rested-same p b c (inr h) = h.0.0

-- one release more
pub frees-more : (p : ℕ) (b : Between) (xs : List (Waiter × Outcome)) (c d : Between) (who : Waiter) (o : Outcome) → FreesEach p b xs c → Frees p c who o d → FreesEach p b (xs ++ (who, o) ∷ []) d
frees-more p b [] c d who o e h = (d, subst (λ (z : Between). Frees p z who o d) e h, refl)
frees-more p b (x ∷ xs) c d who o e h = (e.0, e.1, frees-more p e.0 xs c d who o e.2 h)

pub lines-more : (xs : List (Waiter × Outcome)) (who : Waiter) (o : Outcome) → freed_lines xs ++ freed_line who o ≡ freed_lines (xs ++ (who, o) ∷ [])
lines-more [] who o = sym (append-nil (freed_line who o))
lines-more (x ∷ xs) who o = append_assoc (freed_line x.0 x.1) (freed_lines xs) (freed_line who o) ∙ ap (λ z. freed_line x.0 x.1 ++ z) (lines-more xs who o)

-- one line more
pub answers-more : (p : ℕ) (b : Between) (lines : List (List ℕ)) (text : List ℕ) (c : Between) (line reply : List ℕ) (d : Between) → AllAnswered p b lines text c → LineAnswered p c line reply d → AllAnswered p b (lines ++ line ∷ []) (text ++ reply) d
answers-more p b [] text c line reply d h k =
    (d, reply, [], subst (λ (z : Between). LineAnswered p z line reply d) h.1 k, (refl, refl), ap (λ z. z ++ reply) h.0 ∙ sym (append-nil reply))
answers-more p b (l ∷ ls) text c line reply d h k =
    (h.0, h.1, h.2 ++ reply, h.3, answers-more p h.0 ls h.2 c line reply d h.4 k, ap (λ z. z ++ reply) h.5 ∙ append_assoc h.1 h.2 reply)
