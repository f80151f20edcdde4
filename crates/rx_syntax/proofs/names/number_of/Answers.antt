use Rattle.std.proofs.Common.{◌≡◌, ℕ, List, Some, slice_get, ◌∷◌, ◌++◌, [], length, map, false, nat_eq, ap, sym, ◌∙◌, subst, inr}
use Rattle.std.specs.List.{list_any}
use Rattle.std.specs.Cmp.Lexicographic.{pointwise}
use Rattle.std.proofs.lemmas.List.{map-append}
use Rattle.rx_base.proofs.Elements.{get-pushed}
use Rattle.rx_syntax.specs.Tokens.{AreDistinct, IsName}
use Rattle.rx_syntax.specs.Lexical.{padded}
use Rattle.rx_syntax.specs.Names.{IsTable}
use Rattle.rx_syntax.specs.Tables.{names_of}
use Rattle.rx_syntax.proofs.Naming.{found-name, absent-name, distinct-more, names-more, found-keys, not-found, new-keys}
use Rattle.rx_syntax.proofs.names.number_of.Goals.{In_ok-push}
use Rattle.rx_syntax.proofs.names.number_of.Goals as goal

pub returns-then-not-added-clause-found : goal.returns-then-not-added-clause-found
returns-then-not-added-clause-found c =
    let i = c.in_ok-number.ensures in
    let t = c.requires.table in
    let keys : c.insert_full.new.self.keys ≡ c.args.table.now.filled.keys = i.keys ∙ found-keys _ c.in_ok-number.added _ _ i.added c.if-not-added.true in
    found-name _ _ _ _ c.args.filled _ (keys ∙ t.filled) t.are_names c.requires.name c.requires.filled i.stored.1 i.stored.2

-- the names with the new one
names : (c : In_ok-push) → names_of c.push.new.self ≡ names_of c.args.table.now.names ++ c.args.word.now ∷ []
names c =
    ap (map (λ v. v.items)) c.in_ok-push.ensures.items
    ∙ map-append _ c.args.table.now.names.items _
    ∙ ap (λ w. names_of c.args.table.now.names ++ w ∷ []) (c.in_ok-to_vec.ensures.items_if_clones_equal (λ x y e. e))

table : (c : In_ok-push) → IsTable record { filled = c.insert_full.new.self; names = c.push.new.self }
table c =
    let i = c.in_ok-number.ensures in
    let t = c.requires.table in
    let none : list_any (pointwise nat_eq c.args.filled) c.args.table.now.filled.keys ≡ false = not-found _ c.in_ok-number.added i.added c.if-not-added.false in
    let new = absent-name _ _ c.args.word.now c.args.filled t.filled c.requires.filled none in
    record {
      filled = i.keys ∙ new-keys _ _ _ none ∙ ap (λ ks. ks ++ c.args.filled ∷ []) t.filled ∙ ap (λ k. map padded (names_of c.args.table.now.names) ++ k ∷ []) c.requires.filled ∙ sym (map-append padded (names_of c.args.table.now.names) (c.args.word.now ∷ [])) ∙ ap (map padded) (sym (names c));
      are_names = subst (λ ns. (i : ℕ) (name : List ℕ) → slice_get ns i ≡ Some name → IsName name) (sym (names c)) (names-more _ c.args.word.now t.are_names c.requires.name);
      distinct = subst AreDistinct (sym (names c)) (distinct-more _ c.args.word.now t.distinct new);
    }

found : (c : In_ok-push) → slice_get (names_of c.push.new.self) c.in_ok-number.number ≡ Some c.args.word.now
found c =
    let i = c.in_ok-number.ensures in
    found-name _ _ _ _ c.args.filled _ (table c).filled (table c).are_names c.requires.name c.requires.filled i.stored.1 i.stored.2

pub returns-clause-table : goal.returns-clause-table
returns-clause-table = table

pub returns-clause-found : goal.returns-clause-found
returns-clause-found = found

pub returns-clause-numbers : goal.returns-clause-numbers
returns-clause-numbers c =
    let last : slice_get (names_of c.push.new.self) (length (names_of c.args.table.now.names)) ≡ Some c.args.word.now = ap (λ ns. slice_get ns (length (names_of c.args.table.now.names))) (names c) ∙ get-pushed (names_of c.args.table.now.names) c.args.word.now in
    inr ((table c).distinct _ _ c.args.word.now (found c) last, (c.args.word.now, names c))
