use Rattle.std.proofs.Common.{◌++◌, [], ◌∷◌, List, length, refl, subst, ap, ◌∙◌, Option, Some, None}
use Rattle.std.proofs.lemmas.List.{get_or_push}
use Rattle.rx_store.specs.declared.table.Held.{Held}
use Rattle.rx_store.specs.Table.{AllLive}
use Rattle.rx_store.proofs.Giving.{live_front, live_given}
use Rattle.rx_store.proofs.table.give_all.Goals as goal

pub give-requires : goal.give-requires
give-requires c =
    let xs = c.pop.new.self.items in
    let A : List (Option Held) → Type 0 = λ z. AllLive c.loop-slot.heap z in
    let all = subst A (c.in-Some.ensures.items ∙ ap (λ z. xs ++ z ∷ []) c.in-Some-slot.is) c.loop-slot.invariant.live in
    all.live (length xs) c.in-Some-slot.held (get_or_push xs (Some c.in-Some-slot.held) None (length xs) refl)

pub loop-slot-preserved-in-Some-slot : goal.loop-slot-preserved-in-Some-slot
loop-slot-preserved-in-Some-slot c =
    let xs = c.pop.new.self.items in
    let A : List (Option Held) → Type 0 = λ z. AllLive c.loop-slot.heap z in
    let all = subst A (c.in-Some.ensures.items ∙ ap (λ z. xs ++ z ∷ []) c.in-Some-slot.is) c.loop-slot.invariant.live in
    record { live = live_given c.loop-slot.heap c.give.new.self xs c.in-Some-slot.held c.give.ensures.gone all; words = c.give.ensures.words ∙ c.loop-slot.invariant.words }

pub loop-slot-preserved : goal.loop-slot-preserved
loop-slot-preserved c =
    let xs = c.pop.new.self.items in
    let A : List (Option Held) → Type 0 = λ z. AllLive c.loop-slot.heap z in
    record { live = live_front c.loop-slot.heap xs c.in-Some.slot (subst A c.in-Some.ensures.items c.loop-slot.invariant.live); words = c.loop-slot.invariant.words }
