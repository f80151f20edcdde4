use Rattle.std.proofs.Common.{◌≡◌, ◌+◌, ◌-◌, ◌^◌, ◌<◌, ◌≤◌, List, length, get_or, arith, ap, refl, sym, subst, ◌∙◌, vec_capacity}
use Rattle.std.proofs.lemmas.List.{get_or_read}
use Rattle.rx_heap.specs.declared.block.Hole.{Hole}
use Rattle.rx_heap.specs.Inside.HoleEdits.{Joins}
use Rattle.std.specs.List.Sorted.{IsNonDecreasingBy}
use Rattle.rx_heap.proofs.Finding.{rising}
use Rattle.rx_heap.proofs.Placing.{place_from, hole_fits, read_fits, place_alone, place_has_room, place_next, place_last, place_between, ends_there, ends_elsewhere, begins_there, begins_elsewhere, within_there}
use Rattle.rx_heap.proofs.holes.put.Goals as goal

pub ends_before-joins_last-requires-clause-ends : goal.ends_before-joins_last-requires-clause-ends
ends_before-joins_last-requires-clause-ends c = λ j d is.
    let hs = c.args.holes.now.items in
    let room = c.requires.room.1 in
    let P : List Hole → Type 0 = λ z. c.count_before-i.result ≤ length z → (get_or z j d).start + (get_or z j d).len < 2 ^ 32 in
    let made : P hs = λ le. let fits = hole_fits c.requires.room.0 hs _ _ _ j d room (omega arith) in let small = room.small in omega arith in
    subst P (sym c.as_slice-row.ensures.value) made c.count_before-i.ensures.within

pub overflow_add-joined : goal.overflow_add-joined
overflow_add-joined c =
    let hs = c.args.holes.now.items in
    let e = c.as_slice-row.ensures.value in
    let room = c.requires.room.1 in
    let r = c.index.result.now in
    let lt = within_there hs _ c.count_before-i.result e (c.begins_at-joins_next.ensures.within c.if-joins_next.true) in
    let fits = read_fits c.requires.room.0 hs _ _ _ c.count_before-i.result r room lt c.index.ensures in
    let next = begins_there hs _ c.count_before-i.result _ _ e c.if-joins_next.true c.begins_at-joins_next.ensures.begins r lt ∙ ap (λ (z : Hole). z.start) (sym c.index.ensures) in
    let small = room.small in
    omega arith

pub overflow_add-joined-then-joins_next : goal.overflow_add-joined-then-joins_next
overflow_add-joined-then-joins_next c =
    let hs = c.args.holes.now.items in
    let e = c.as_slice-row.ensures.value in
    let room = c.requires.room.1 in
    let i = c.count_before-i.result in
    let r = c.index.result.now in
    let p = c.index-last.result.now in
    let lt = within_there hs _ i e (c.begins_at-joins_next.ensures.within c.if-joins_next.true) in
    let some = c.ends_before-joins_last.ensures.some c.if-joins_last.true in
    let last = ap (λ (z : Hole). z.start + z.len) c.index-last.ensures ∙ ends_there hs _ i _ _ e c.if-joins_last.true c.ends_before-joins_last.ensures.ends (i - 1) p (omega arith) in
    let next = begins_there hs _ i _ _ e c.if-joins_next.true c.begins_at-joins_next.ensures.begins r lt ∙ ap (λ (z : Hole). z.start) (sym c.index.ensures) in
    let fits = read_fits c.requires.room.0 hs _ _ _ i r room lt c.index.ensures in
    let small = room.small in
    omega arith

pub count_before-i-requires : goal.count_before-i-requires
count_before-i-requires c =
    let R : List Hole → Type 0 = λ z. IsNonDecreasingBy (λ h. h.start) z in
    subst R (sym c.as_slice-row.ensures.value) (rising _ 0 _ c.requires.room.1.apart)

pub overflow_add-joined-then-joins_next-2 : goal.overflow_add-joined-then-joins_next-2
overflow_add-joined-then-joins_next-2 c =
    let hs = c.args.holes.now.items in
    let e = c.as_slice-row.ensures.value in
    let room = c.requires.room.1 in
    let r = c.index-then-joins_next-2.result.now in
    let lt = within_there hs _ c.count_before-i.result e (c.begins_at-joins_next.ensures.within c.if-joins_next-2.true) in
    let fits = read_fits c.requires.room.0 hs _ _ _ c.count_before-i.result r room lt c.index-then-joins_next-2.ensures in
    let next = begins_there hs _ c.count_before-i.result _ _ e c.if-joins_next-2.true c.begins_at-joins_next.ensures.begins r lt ∙ ap (λ (z : Hole). z.start) (sym c.index-then-joins_next-2.ensures) in
    let small = room.small in
    omega arith

pub unreachable-requires : goal.unreachable-requires
unreachable-requires c =
    let hs = c.args.holes.now.items in
    let e = c.as_slice-row.ensures.value in
    let i = c.count_before-i.result in
    let p = place_from c.requires.room.0 hs _ _ i _ _ e c.requires.some c.requires.room.1 c.count_before-i.ensures.within c.count_before-i.ensures.before c.count_before-i.ensures.after in
    let has : length hs < vec_capacity c.args.holes.now =
    place_has_room _ hs _ i c.args.hole p (ends_elsewhere hs _ i _ _ e c.if-joins_last.false c.ends_before-joins_last.ensures.ends) (begins_elsewhere hs _ i _ _ e c.if-joins_next-2.false c.begins_at-joins_next.ensures.begins) in
    omega (arith, c.args.holes.now.ok.0, c.in-Err.ensures.full)

pub returns-then-joins_next-clause-joins : goal.returns-then-joins_next-clause-joins
returns-then-joins_next-clause-joins c =
    let hs = c.args.holes.now.items in
    let e = c.as_slice-row.ensures.value in
    let i = c.count_before-i.result in
    let r = c.index.result.now in
    let p = c.index-last.result.now in
    let h = c.args.hole in
    let g : Hole = record { start = p.start; len = p.len + (h.len + r.len) } in
    let lt = within_there hs _ i e (c.begins_at-joins_next.ensures.within c.if-joins_next.true) in
    let some = c.ends_before-joins_last.ensures.some c.if-joins_last.true in
    let is : i - 1 + 1 ≡ i = omega arith in
    let last = ends_there hs _ i _ _ e c.if-joins_last.true c.ends_before-joins_last.ensures.ends (i - 1) p is in
    let next = begins_there hs _ i _ _ e c.if-joins_next.true c.begins_at-joins_next.ensures.begins p lt in
    let starts = ap (λ (z : Hole). z.start) c.index-last.ensures in
    let lens = ap (λ (z : Hole). z.len) c.index-last.ensures in
    let len = ap (λ (z : Hole). z.len) (get_or_read hs i r lt c.index.ensures p) in
    let J : List Hole → Type 0 = λ z. Joins hs z h.start h.len in
    subst J (sym c.remove.ensures.items)
    (place_between hs i (i - 1) g p h.start h.len is lt last next starts (omega arith))

pub returns-else-joins_next-clause-joins : goal.returns-else-joins_next-clause-joins
returns-else-joins_next-clause-joins c =
    let hs = c.args.holes.now.items in
    let e = c.as_slice-row.ensures.value in
    let i = c.count_before-i.result in
    let q = c.index-last.result.now in
    let h = c.args.hole in
    let g : Hole = record { start = q.start; len = q.len + h.len } in
    let p = place_from c.requires.room.0 hs _ _ i _ _ e c.requires.some c.requires.room.1 c.count_before-i.ensures.within c.count_before-i.ensures.before c.count_before-i.ensures.after in
    let some = c.ends_before-joins_last.ensures.some c.if-joins_last.true in
    let is : i - 1 + 1 ≡ i = omega arith in
    let last = ends_there hs _ i _ _ e c.if-joins_last.true c.ends_before-joins_last.ensures.ends (i - 1) q is in
    let starts = ap (λ (z : Hole). z.start) c.index-last.ensures in
    let lens = ap (λ (z : Hole). z.len + h.len) c.index-last.ensures in
    place_last _ hs _ i (i - 1) g q h.start h.len p is last (begins_elsewhere hs _ i _ _ e c.if-joins_next.false c.begins_at-joins_next.ensures.begins) starts lens

pub returns-then-joins_next-2-clause-joins : goal.returns-then-joins_next-2-clause-joins
returns-then-joins_next-2-clause-joins c =
    let hs = c.args.holes.now.items in
    let e = c.as_slice-row.ensures.value in
    let i = c.count_before-i.result in
    let r = c.index-then-joins_next-2.result.now in
    let h = c.args.hole in
    let g : Hole = record { start = h.start; len = r.len + h.len } in
    let p = place_from c.requires.room.0 hs _ _ i _ _ e c.requires.some c.requires.room.1 c.count_before-i.ensures.within c.count_before-i.ensures.before c.count_before-i.ensures.after in
    let lt = within_there hs _ i e (c.begins_at-joins_next.ensures.within c.if-joins_next-2.true) in
    let next = begins_there hs _ i _ _ e c.if-joins_next-2.true c.begins_at-joins_next.ensures.begins r lt in
    let lens = ap (λ (z : Hole). z.len + h.len) c.index-then-joins_next-2.ensures in
    place_next _ hs _ i g r h.start h.len p lt (ends_elsewhere hs _ i _ _ e c.if-joins_last.false c.ends_before-joins_last.ensures.ends) next refl lens

pub returns-in-Ok-clause-joins : goal.returns-in-Ok-clause-joins
returns-in-Ok-clause-joins c =
    let hs = c.args.holes.now.items in
    let e = c.as_slice-row.ensures.value in
    let i = c.count_before-i.result in
    let h = c.args.hole in
    let p = place_from c.requires.room.0 hs _ _ i _ _ e c.requires.some c.requires.room.1 c.count_before-i.ensures.within c.count_before-i.ensures.before c.count_before-i.ensures.after in
    let J : List Hole → Type 0 = λ z. Joins hs z h.start h.len in
    subst J (sym c.in-Ok.ensures.items)
    (place_alone _ hs _ i h p (ends_elsewhere hs _ i _ _ e c.if-joins_last.false c.ends_before-joins_last.ensures.ends) (begins_elsewhere hs _ i _ _ e c.if-joins_next-2.false c.begins_at-joins_next.ensures.begins))
