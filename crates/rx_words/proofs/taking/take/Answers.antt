use Rattle.std.proofs.Common.{ℕ, Option, Some, refl, sym, ◌∙◌, subst}
use Rattle.rx_words.specs.declared.kind.Kind.{Kind}
use Rattle.rx_words.specs.Words.{number_of, taken}
use Rattle.rx_words.specs.Commands.{wants_of, IsTaken}
use Rattle.rx_words.proofs.Values.{number-taken}
use Rattle.rx_words.proofs.taking.take.Goals as goal

pub returns-in-Size : goal.returns-in-Size
returns-in-Size c =
    let said = c.args.said.now in
    let took = c.take_number.result in
    let new = c.take_number.new.told in
    subst (λ (kind : Kind). IsTaken took (record said { size = new }) (taken kind (wants_of said) c.args.k c.args.value.now)) (sym c.in-Size.is ∙ c.kind_of.ensures)
    (number-taken took (number_of 1 10000 c.args.value.now) new (λ (o : Option ℕ). record said { size = o }) (λ (n : ℕ). record (wants_of said) { size = Some n }) (λ n. refl)
    (λ good. (c.take_number.ensures.within good, c.requires.1, c.requires.2, c.requires.3, c.requires.4)) c.take_number.ensures.took)

pub returns-in-Places : goal.returns-in-Places
returns-in-Places c =
    let said = c.args.said.now in
    let took = c.take_number-in-Places.result in
    let new = c.take_number-in-Places.new.told in
    subst (λ (kind : Kind). IsTaken took (record said { places = new }) (taken kind (wants_of said) c.args.k c.args.value.now)) (sym c.in-Places.is ∙ c.kind_of.ensures)
    (number-taken took (number_of 1 16 c.args.value.now) new (λ (o : Option ℕ). record said { places = o }) (λ (n : ℕ). record (wants_of said) { places = Some n }) (λ n. refl)
    (λ good. (c.requires.0, c.take_number-in-Places.ensures.within good, c.requires.2, c.requires.3, c.requires.4)) c.take_number-in-Places.ensures.took)

pub returns-in-Heap : goal.returns-in-Heap
returns-in-Heap c =
    let said = c.args.said.now in
    let took = c.take_number-in-Heap.result in
    let new = c.take_number-in-Heap.new.told in
    subst (λ (kind : Kind). IsTaken took (record said { heap = new }) (taken kind (wants_of said) c.args.k c.args.value.now)) (sym c.in-Heap.is ∙ c.kind_of.ensures)
    (number-taken took (number_of 1 4096 c.args.value.now) new (λ (o : Option ℕ). record said { heap = o }) (λ (n : ℕ). record (wants_of said) { heap = Some n }) (λ n. refl)
    (λ good. (c.requires.0, c.requires.1, c.take_number-in-Heap.ensures.within good, c.requires.3, c.requires.4)) c.take_number-in-Heap.ensures.took)

pub returns-in-Workers : goal.returns-in-Workers
returns-in-Workers c =
    let said = c.args.said.now in
    let took = c.take_number-in-Workers.result in
    let new = c.take_number-in-Workers.new.told in
    subst (λ (kind : Kind). IsTaken took (record said { workers = new }) (taken kind (wants_of said) c.args.k c.args.value.now)) (sym c.in-Workers.is ∙ c.kind_of.ensures)
    (number-taken took (number_of 1 8 c.args.value.now) new (λ (o : Option ℕ). record said { workers = o }) (λ (n : ℕ). record (wants_of said) { workers = Some n }) (λ n. refl)
    (λ good. (c.requires.0, c.requires.1, c.requires.2, c.take_number-in-Workers.ensures.within good, c.requires.4)) c.take_number-in-Workers.ensures.took)

pub returns-in-Watch : goal.returns-in-Watch
returns-in-Watch c =
    let said = c.args.said.now in
    let took = c.take_number-in-Watch.result in
    let new = c.take_number-in-Watch.new.told in
    subst (λ (kind : Kind). IsTaken took (record said { watch = new }) (taken kind (wants_of said) c.args.k c.args.value.now)) (sym c.in-Watch.is ∙ c.kind_of.ensures)
    (number-taken took (number_of 1 1000 c.args.value.now) new (λ (o : Option ℕ). record said { watch = o }) (λ (n : ℕ). record (wants_of said) { watch = Some n }) (λ n. refl)
    (λ good. (c.requires.0, c.requires.1, c.requires.2, c.requires.3, c.take_number-in-Watch.ensures.within good)) c.take_number-in-Watch.ensures.took)
