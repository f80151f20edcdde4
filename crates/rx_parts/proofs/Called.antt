-- Calls of a book as the laws of parts have them.
use Rattle.std.proofs.Common.{◌≡◌, ℕ, ◌+◌, List, [], ◌∷◌, ◌++◌, length, arith, ap, ◌∙◌, subst, append_assoc, length-append}
use Rattle.std.proofs.lemmas.List.{map-append}
use Rattle.rx_base.proofs.Elements.{empty-from}
use Rattle.rx_rules.proofs.Common.{Block, Given}
use Rattle.rx_book.specs.declared.views.Stamped.{Stamped}
use Rattle.rx_book.specs.History.{stamped, stamp_all, entries_by}
use Rattle.rx_book.proofs.History.{entries_by-append, entries_by-same}
use Rattle.rx_parts.specs.Ledger.{LedgerItem, LegalLedger}
use Rattle.rx_parts.specs.declared.items.EntryItem.{EntryItem}
use Rattle.rx_parts.specs.Calling.{AllHostItems}
use Rattle.rx_parts.specs.Telling.{IsCall}
use Rattle.rx_parts.specs.Histories.{ledger_item, ledger_items}
use Rattle.rx_parts.proofs.Fitting.{none_by}

-- what others appended between what a caller had seen and what its call appended has no entry of the caller
pub others-between : {I : Type 0} → (c : List ℕ) (seen between : List (Stamped I)) (added : List I) → entries_by c seen ++ stamp_all c added ≡ entries_by c ((seen ++ between) ++ stamp_all c added) → entries_by c between ≡ []
others-between c seen between added h =
    let own : entries_by c (stamp_all c added) ≡ stamp_all c added = entries_by-same c added in
    let parts : entries_by c ((seen ++ between) ++ stamp_all c added) ≡ (entries_by c seen ++ entries_by c between) ++ stamp_all c added =
    entries_by-append c (seen ++ between) (stamp_all c added) ∙ ap (λ v. v ++ entries_by c (stamp_all c added)) (entries_by-append c seen between) ∙ ap (λ v. (entries_by c seen ++ entries_by c between) ++ v) own in
    let sizes : length (entries_by c seen ++ stamp_all c added) ≡ length ((entries_by c seen ++ entries_by c between) ++ stamp_all c added) = ap length (h ∙ parts) in
    let left : length (entries_by c seen ++ stamp_all c added) ≡ length (entries_by c seen) + length (stamp_all c added) = length-append (entries_by c seen) (stamp_all c added) in
    let right : length ((entries_by c seen ++ entries_by c between) ++ stamp_all c added) ≡ length (entries_by c seen ++ entries_by c between) + length (stamp_all c added) = length-append (entries_by c seen ++ entries_by c between) (stamp_all c added) in
    let both : length (entries_by c seen ++ entries_by c between) ≡ length (entries_by c seen) + length (entries_by c between) = length-append (entries_by c seen) (entries_by c between) in
    empty-from (entries_by c between) (omega (arith, sizes, left, right, both))

-- A call of the ledger's book that appended what was due and then one entry more is a call in the sense of the laws of parts: after
-- what its caller c had seen come entries of others, then what was due, and then that entry.
pub call-is-one : (code : Block) (U : Given) (c : List ℕ) (seen between : List (Stamped EntryItem)) (due : List EntryItem) (last : EntryItem) → entries_by c between ≡ [] → LegalLedger code U (ledger_items seen) → LegalLedger code U (ledger_items ((seen ++ between) ++ stamp_all c (due ++ last ∷ []))) → AllHostItems (ledger_items (stamp_all c due)) → IsCall code U (ledger_items seen) (ledger_items between) (ledger_items (stamp_all c due)) (ledger_item (stamped c last))
call-is-one code U c seen between due last none short long hosts =
    let added : ledger_items (stamp_all c (due ++ last ∷ [])) ≡ ledger_items (stamp_all c due) ++ ledger_item (stamped c last) ∷ [] =
    ap ledger_items (map-append (stamped c) due (last ∷ [])) ∙ map-append ledger_item (stamp_all c due) (stamp_all c (last ∷ [])) in
    let front : ledger_items (seen ++ between) ≡ ledger_items seen ++ ledger_items between = map-append ledger_item seen between in
    let whole : ledger_items ((seen ++ between) ++ stamp_all c (due ++ last ∷ [])) ≡ ledger_items seen ++ (ledger_items between ++ (ledger_items (stamp_all c due) ++ ledger_item (stamped c last) ∷ [])) =
    map-append ledger_item (seen ++ between) (stamp_all c (due ++ last ∷ []))
    ∙ ap (λ v. v ++ ledger_items (stamp_all c (due ++ last ∷ []))) front
    ∙ ap (λ v. (ledger_items seen ++ ledger_items between) ++ v) added
    ∙ append_assoc (ledger_items seen) (ledger_items between) (ledger_items (stamp_all c due) ++ ledger_item (stamped c last) ∷ []) in
    record { short = short; alone = none_by c between none; hosts = hosts; long = subst (λ (v : List LedgerItem). LegalLedger code U v) whole long }
