use Rattle.std.proofs.Common.{ℕ, List, ◌≡◌, [], ◌∷◌, ◌++◌, refl, arith, inl, inr, length-append}
use Rattle.rx_rules.proofs.Common.{TaskId, PlaceId, Tree}
use Rattle.rx_rules.specs.declared.entries.Entry.{Entry}
use Rattle.rx_finish.specs.declared.ledger.Born.{Born}
use Rattle.rx_coordinator.specs.declared.requests.Request.TheVariants.{Spawn, Send}
use Rattle.rx_coordinator.specs.declared.requests.Answer.{Answer}
use Rattle.rx_coordinator.specs.declared.requests.Answer.TheVariants.{Bad, Full, NoMemory, NotYet, Spawned}
use Rattle.rx_coordinator.specs.Stands.{IsReplyTo, IsUsedUp}
use Rattle.rx_coordinator.proofs.coordinator.Coordinator.send.Goals as goal

pub land_child-requires-clause-stands : goal.land_child-requires-clause-stands
land_child-requires-clause-stands c =
    let r = c.requires in
    let a = c.in-Spawned.ensures r.0 r.1 r.2 in
    (r.0, r.1 ++ a.0 ∷ [], a.3)

pub land_child-requires-clause-room : goal.land_child-requires-clause-room
land_child-requires-clause-room c =
    let r = c.requires in
    let a = c.in-Spawned.ensures r.0 r.1 r.2 in
    let long = length-append r.1 (a.0 ∷ []) in
    let count = a.3.count in
    let was = r.2.count in
    let low = c.if-self.false in
    omega (arith, long, count, was, low)

-- a spawn has no other answers
others : (p : ℕ) (es : List Entry) (t : TaskId) (to : PlaceId) (a : Answer) (S : List Entry → Type 0) → (a ≡ Bad → ⊥) → (a ≡ Full → ⊥) → (a ≡ NoMemory → ⊥) → ((b : Born) → a ≡ Spawned b → ⊥) → IsReplyTo p es (Spawn t to) a S → ⊥
others p es t to Bad S bad full short spawned h = bad refl
others p es t to Full S bad full short spawned h = full refl
others p es t to NoMemory S bad full short spawned h = short refl
others p es t to (NotYet place) S bad full short spawned h = h.1
others p es t to (Spawned b) S bad full short spawned h = spawned b refl
others p es t to _ S bad full short spawned h = h.1

pub unreachable-requires : goal.unreachable-requires
unreachable-requires c =
    let r = c.requires in
    others r.0 r.1 c.args.task c.args.to c.spawn.result _ c.in_default.not-Bad c.in_default.not-Full c.in_default.not-NoMemory c.in_default.not-Spawned (c.spawn.ensures r.0 r.1 r.2)

pub returns-in-Spawned : goal.returns-in-Spawned
returns-in-Spawned c = λ p es st.
    let a = c.in-Spawned.ensures p es st in
    (a.0, a.1, a.2, c.land_child.ensures p (es ++ a.0 ∷ []) a.3)

-- numbers for two entries are used up where those for one are
more : (T : Tree) (n : ℕ) (t : TaskId) (to : PlaceId) → IsUsedUp T n (Spawn t to) → IsUsedUp T n (Send t to)
more T n t to (inl low) = inl (omega (arith, low))
more T n t to (inr h) = inr h

pub returns-in-Full : goal.returns-in-Full
returns-in-Full c = λ p es st.
    let a = c.in-Full.ensures p es st in
    (a.0, more _ _ c.args.task c.args.to a.1, a.2)
