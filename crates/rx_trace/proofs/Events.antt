-- The words of events are read as the events that they tell.
use Rattle.std.proofs.Common.{◌≡◌, ℕ, ◌<◌, ◌^◌, true, false, cond, List, [], ◌∷◌, ◌++◌, slice_index, refl, ap, sym, ◌∙◌, subst, arith, append-nil, append_assoc, ◌≢◌, Option, Some, None, option_map, codes, ℤ, FitsSigned}
use Rattle.std.specs.Int.{w64}
use Rattle.std.specs.Char.{is_ascii_digit}
use Rattle.std.proofs.lemmas.Bool.{ne_eqb}
use Rattle.std.proofs.lemmas.Option.{none-some}
use Rattle.rx_rules.proofs.Common.{TaskId, GlobalRef}
use Rattle.rx_base.proofs.Elements.{flat4}
use Rattle.rx_rules.specs.declared.events.Cell.{Cell}
use Rattle.rx_rules.specs.declared.events.Cell.TheVariants.{Make, MakeFull, Get, Put, Forget, GetRefused, PutRefused, ForgetStale}
use Rattle.rx_rules.specs.declared.events.PlaceEvent.{PlaceEvent}
use Rattle.rx_rules.specs.declared.events.PlaceEvent.TheVariants.{Done, Close}
use Rattle.rx_text.specs.Numbers.{natural_text}
use Rattle.rx_text.proofs.Digits.{all-digits, digit-first, some-decimal}
use Rattle.rx_trace.specs.EventLines.{call_text, answer_text, event_text}
use Rattle.rx_trace.specs.Fields.{natural_field, number_field, path_field, task_field, block_field}
use Rattle.rx_trace.specs.Limits.{IsShort, FitsPath, FitsBlock, FitsCell, FitsEvent}
use Rattle.rx_fields.specs.Words.{fields}
use Rattle.rx_fields.specs.Inside.Readers.{Reader, after, done, keyed}
use Rattle.rx_fields.specs.Inside.FieldWords.{next, natural_of, task_spelt, natural_at, number_at, path_at, block_at}
use Rattle.rx_trace.specs.Inside.EventWords.{made_at, make_at, got_at, get_at, written_at, put_at, forgotten_at, forget_at, cell_at, done_at, close_at, event_from, event_at}
use Rattle.rx_fields.proofs.Cuts.{Plain}
use Rattle.rx_trace.proofs.Faults.{plain-word-is}
use Rattle.rx_trace.proofs.ReadFields.{natural-item, natural-takes, task-item, task-takes, one-word, word-again}
use Rattle.rx_fields.proofs.Figures.{natural-plain, below-again}
use Rattle.rx_trace.proofs.Entries.{Told, path-one, value-one, path-again, value-again}
use Rattle.rx_trace.proofs.Spelt.{Read, Takes, takes-done, takes-followed, takes-keyed, takes-either, Again, Any, again-as, again-done, again-keyed, again-kind, again-field}

abbrev IsValue : ℤ → Type 0
IsValue v = FitsSigned w64 v

natural-one : Takes natural_at (Told natural_field IsShort)
natural-one = one-word natural_of natural_field IsShort natural-takes

abbrev block : ℕ → ℕ → ℕ → GlobalRef
block home start generation = record { home = record { 0 = home }; start = start; generation = generation }

block-one : (home : ℕ) → Takes (block_at home) (Told block_field (FitsBlock home))
block-one home =
    takes-followed natural_at _ natural_field IsShort (Told block_field (FitsBlock home)) natural-one (λ start a.
    takes-followed natural_at _ natural_field IsShort _ natural-one (λ generation b.
    takes-done (block home start generation) _ (ap (λ r. natural_field start ++ r) (append-nil (natural_field generation)), (refl, a, b))))

-- a cell, by its call and answer
abbrev IsCell : ℕ → Cell → List ℕ → Type 0
IsCell home cell t = (t ≡ call_text cell ++ answer_text cell) × FitsCell home cell

flat-make : (m w a s g : List ℕ) → m ++ (w ++ (a ++ (s ++ (g ++ [])))) ≡ (m ++ w) ++ ((a ++ s) ++ g)
flat-make m w a s g = simp (append_assoc, append-nil)

flat-full : (m w f : List ℕ) → m ++ (w ++ (f ++ [])) ≡ (m ++ w) ++ f
flat-full m w f = simp (append_assoc, append-nil)

flat-get : (g b i s v : List ℕ) → g ++ (b ++ (i ++ (s ++ (v ++ [])))) ≡ ((g ++ b) ++ i) ++ (s ++ v)
flat-get g b i s v = simp (append_assoc, append-nil)

flat-put : (p b i v c : List ℕ) → p ++ (b ++ (i ++ (v ++ (c ++ [])))) ≡ (((p ++ b) ++ i) ++ v) ++ c
flat-put p b i v c = simp (append_assoc, append-nil)

make-takes : (home : ℕ) → Takes make_at (λ cell t. IsCell home cell (codes " make" ++ t))
make-takes home =
    takes-followed natural_at _ natural_field IsShort (λ cell t. IsCell home cell (codes " make" ++ t)) natural-one (λ words a.
    takes-either (codes "at") _ _ _ (
    takes-followed natural_at _ natural_field IsShort _ natural-one (λ start b.
    takes-followed natural_at _ natural_field IsShort _ natural-one (λ generation c.
    takes-done (Make words start generation) _ (flat-make (codes " make") (natural_field words) (codes " at") (natural_field start) (natural_field generation), (a, b, c))))) (
    takes-keyed (codes "full") _ _ (
    takes-done (MakeFull words) _ (flat-full (codes " make") (natural_field words) (codes " full"), a))))

get-takes : (home : ℕ) → Takes (get_at home) (λ cell t. IsCell home cell (codes " get" ++ t))
get-takes home =
    takes-followed (block_at home) _ block_field (FitsBlock home) (λ cell t. IsCell home cell (codes " get" ++ t)) (block-one home) (λ target a.
    takes-followed number_at _ number_field IsValue _ value-one (λ index b.
    takes-either (codes "is") _ _ _ (
    takes-followed number_at _ number_field IsValue _ value-one (λ value c.
    takes-done (Get target index value) _ (flat-get (codes " get") (block_field target) (number_field index) (codes " is") (number_field value), (a, b, c)))) (
    takes-either (codes "stale") _ _ _ (
    takes-done (GetRefused target index true) _ (flat4 (codes " get") (block_field target) (number_field index) (codes " stale"), (a, b))) (
    takes-keyed (codes "index") _ _ (
    takes-done (GetRefused target index false) _ (flat4 (codes " get") (block_field target) (number_field index) (codes " index"), (a, b)))))))

put-takes : (home : ℕ) → Takes (put_at home) (λ cell t. IsCell home cell (codes " put" ++ t))
put-takes home =
    takes-followed (block_at home) _ block_field (FitsBlock home) (λ cell t. IsCell home cell (codes " put" ++ t)) (block-one home) (λ target a.
    takes-followed number_at _ number_field IsValue _ value-one (λ index b.
    takes-followed number_at _ number_field IsValue _ value-one (λ value c.
    takes-either (codes "ok") _ _ _ (
    takes-done (Put target index value) _ (flat-put (codes " put") (block_field target) (number_field index) (number_field value) (codes " ok"), (a, b, c))) (
    takes-either (codes "stale") _ _ _ (
    takes-done (PutRefused target index value true) _ (flat-put (codes " put") (block_field target) (number_field index) (number_field value) (codes " stale"), (a, b, c))) (
    takes-keyed (codes "index") _ _ (
    takes-done (PutRefused target index value false) _ (flat-put (codes " put") (block_field target) (number_field index) (number_field value) (codes " index"), (a, b, c))))))))

forget-takes : (home : ℕ) → Takes (forget_at home) (λ cell t. IsCell home cell (codes " forget" ++ t))
forget-takes home =
    takes-followed (block_at home) _ block_field (FitsBlock home) (λ cell t. IsCell home cell (codes " forget" ++ t)) (block-one home) (λ target a.
    takes-either (codes "ok") _ _ _ (
    takes-done (Forget target) _ (flat-full (codes " forget") (block_field target) (codes " ok"), a)) (
    takes-keyed (codes "stale") _ _ (
    takes-done (ForgetStale target) _ (flat-full (codes " forget") (block_field target) (codes " stale"), a))))

abbrev cell_text : Cell → List ℕ
cell_text cell = call_text cell ++ answer_text cell

cell-one : (home : ℕ) → Takes (cell_at home) (Told cell_text (FitsCell home))
cell-one home =
    let S : Cell → List ℕ → Type 0 = Told cell_text (FitsCell home) in
    takes-either (codes "make") _ _ S (make-takes home) (
    takes-either (codes "get") _ _ S (get-takes home) (
    takes-either (codes "put") _ _ S (put-takes home) (
    takes-keyed (codes "forget") _ S (forget-takes home))))

abbrev pub IsEvent : ℕ → PlaceEvent → List ℕ → Type 0
IsEvent home e t = (t ≡ event_text e) × FitsEvent home e

flat-done : (t s c a p : List ℕ) → t ++ (s ++ ((c ++ a) ++ (p ++ []))) ≡ (((t ++ s) ++ c) ++ a) ++ p
flat-done t s c a p = simp (append_assoc, append-nil)

done-takes : (home : ℕ) (task : TaskId) → IsShort task.0 → Takes (done_at home task) (λ e t. IsEvent home e (task_field task ++ t))
done-takes home task short =
    takes-followed natural_at _ natural_field IsShort (λ e t. IsEvent home e (task_field task ++ t)) natural-one (λ stamp a.
    takes-followed (cell_at home) _ cell_text (FitsCell home) _ (cell-one home) (λ cell b.
    takes-followed path_at _ path_field FitsPath _ path-one (λ path c.
    takes-done (Done task stamp cell path) _ (flat-done (task_field task) (natural_field stamp) (call_text cell) (answer_text cell) (path_field path), (short, a, b, c)))))

close-takes : (home : ℕ) → Takes close_at (IsEvent home)
close-takes home =
    takes-followed natural_at _ natural_field IsShort (IsEvent home) natural-one (λ stamp a.
    takes-keyed (codes "close") _ _ (takes-done (Close stamp) _ (refl, a)))

-- what is read as an event is its text
pub event-takes : (home : ℕ) → Takes (event_at home) (IsEvent home)
event-takes home = record { takes = t }
  where
    by : (w : List ℕ) (ws : List (List ℕ)) (e : PlaceEvent) (rest : List (List ℕ)) (o : Option TaskId) → task_spelt w ≡ o → event_from home o w ws ≡ Some (e, rest) → Read (IsEvent home) (w ∷ ws) e rest
    by w ws e rest None is h = (close-takes home).takes (w ∷ ws) e rest h
    by w ws e rest (Some task) is h =
        let known = task-takes w task is in
        let one = (done-takes home task known.1).takes ws e rest h in
        record {
          text = task_field task ++ one.text;
          whole = ap (λ v. v ++ fields ws) known.0 ∙ ap (λ v. task_field task ++ v) one.whole ∙ sym (append_assoc (task_field task) one.text (fields rest));
          known = one.known;
        }

    t : (ws : List (List ℕ)) (e : PlaceEvent) (rest : List (List ℕ)) → event_at home ws ≡ Some (e, rest) → Read (IsEvent home) ws e rest
    t [] e rest h = absurd (none-some (e, rest) h)
    t (w ∷ ws) e rest h = by w ws e rest (task_spelt w) refl h

natural-once : (n : ℕ) → IsShort n → Again natural_at n (natural_field n) Any
natural-once n short = word-again natural_of natural_field n (natural-item n short)

block-again : (home : ℕ) (target : GlobalRef) → FitsBlock home target → Again (block_at home) target (block_field target) Any
block-again home target fits =
    let same : block home target.start target.generation ≡ target = ap (λ h. record { home = record { 0 = h }; start = target.start; generation = target.generation }) (sym fits.0) in
    subst (λ (b : GlobalRef). Again (block_at home) b (block_field target) Any) same (
    again-as (block_at home) (block home target.start target.generation) _ _ Any Any (ap (λ r. natural_field target.start ++ r) (append-nil (natural_field target.generation))) (λ rest n. n) (
    again-field natural_at _ target.start _ (natural_field target.start) _ Any (natural-once target.start fits.1) (
    again-field natural_at _ target.generation _ (natural_field target.generation) _ Any (natural-once target.generation fits.2) (
    again-done (block home target.start target.generation) Any))))

-- the readers that the words of calls pick
made-again : (home : ℕ) (words : ℕ) (cell : Cell) (key t : List ℕ) → Plain key → IsShort words → 32 ∷ 109 ∷ 97 ∷ 107 ∷ 101 ∷ (natural_field words ++ ((32 ∷ key) ++ t)) ≡ cell_text cell → Again (made_at words) cell ((32 ∷ key) ++ t) Any → Again (cell_at home) cell (cell_text cell) Any
made-again home words cell key t plain short is h =
    again-as (cell_at home) cell _ _ Any Any is (λ rest n. n) (
    again-kind (cell_at home) make_at (codes "make") cell _ Any (λ ws. refl) (plain-word-is (codes "make") refl) (
    again-field natural_at _ words cell (natural_field words) _ Any (natural-once words short) h))

got-again : (home : ℕ) (target : GlobalRef) (index : ℤ) (cell : Cell) (t : List ℕ) → FitsBlock home target → IsValue index → codes " get" ++ (block_field target ++ (number_field index ++ t)) ≡ cell_text cell → Again (got_at target index) cell t Any → Again (cell_at home) cell (cell_text cell) Any
got-again home target index cell t fits low is h =
    again-as (cell_at home) cell _ _ Any Any is (λ rest n. n) (
    again-kind (cell_at home) (get_at home) (codes "get") cell _ Any (λ ws. refl) (plain-word-is (codes "get") refl) (
    again-field (block_at home) _ target cell (block_field target) _ Any (block-again home target fits) (
    again-field number_at _ index cell (number_field index) _ Any (value-again index low) h)))

written-again : (home : ℕ) (target : GlobalRef) (index value : ℤ) (cell : Cell) (t : List ℕ) → FitsBlock home target → IsValue index → IsValue value → codes " put" ++ (block_field target ++ (number_field index ++ (number_field value ++ t))) ≡ cell_text cell → Again (written_at target index value) cell t Any → Again (cell_at home) cell (cell_text cell) Any
written-again home target index value cell t fits low small is h =
    again-as (cell_at home) cell _ _ Any Any is (λ rest n. n) (
    again-kind (cell_at home) (put_at home) (codes "put") cell _ Any (λ ws. refl) (plain-word-is (codes "put") refl) (
    again-field (block_at home) _ target cell (block_field target) _ Any (block-again home target fits) (
    again-field number_at _ index cell (number_field index) _ Any (value-again index low) (
    again-field number_at _ value cell (number_field value) _ Any (value-again value small) h))))

forgotten-again : (home : ℕ) (target : GlobalRef) (cell : Cell) (t : List ℕ) → FitsBlock home target → codes " forget" ++ (block_field target ++ t) ≡ cell_text cell → Again (forgotten_at target) cell t Any → Again (cell_at home) cell (cell_text cell) Any
forgotten-again home target cell t fits is h =
    again-as (cell_at home) cell _ _ Any Any is (λ rest n. n) (
    again-kind (cell_at home) (forget_at home) (codes "forget") cell _ Any (λ ws. refl) (plain-word-is (codes "forget") refl) (
    again-field (block_at home) _ target cell (block_field target) _ Any (block-again home target fits) h))

-- an answer that is one word
answered : (q : Reader Cell) (key : List ℕ) (cell : Cell) → Plain key → ((ws : List (List ℕ)) → q (key ∷ ws) ≡ done cell ws) → Again q cell ((32 ∷ key) ++ []) Any
answered q key cell plain picks = again-kind q (done cell) key cell [] Any picks plain (again-done cell Any)

pub cell-again : (home : ℕ) (cell : Cell) → FitsCell home cell → Again (cell_at home) cell (cell_text cell) Any
cell-again home (Make words start generation) fits =
    made-again home words (Make words start generation) (codes "at") _ (plain-word-is (codes "at") refl) fits.0
    (flat-make (codes " make") (natural_field words) (codes " at") (natural_field start) (natural_field generation))
    (again-kind (made_at words) _ (codes "at") (Make words start generation) _ Any (λ ws. refl) (plain-word-is (codes "at") refl) (
    again-field natural_at _ start (Make words start generation) (natural_field start) _ Any (natural-once start fits.1) (
    again-field natural_at _ generation (Make words start generation) (natural_field generation) _ Any (natural-once generation fits.2) (
    again-done (Make words start generation) Any))))
cell-again home (MakeFull words) fits =
    made-again home words (MakeFull words) (codes "full") [] (plain-word-is (codes "full") refl) fits
    (flat-full (codes " make") (natural_field words) (codes " full"))
    (answered (made_at words) (codes "full") (MakeFull words) (plain-word-is (codes "full") refl) (λ ws. refl))
cell-again home (Get target index value) fits =
    got-again home target index (Get target index value) _ fits.0 fits.1
    (flat-get (codes " get") (block_field target) (number_field index) (codes " is") (number_field value))
    (again-kind (got_at target index) _ (codes "is") (Get target index value) _ Any (λ ws. refl) (plain-word-is (codes "is") refl) (
    again-field number_at _ value (Get target index value) (number_field value) _ Any (value-again value fits.2) (
    again-done (Get target index value) Any)))
cell-again home (GetRefused target index true) fits =
    got-again home target index (GetRefused target index true) _ fits.0 fits.1
    (flat4 (codes " get") (block_field target) (number_field index) (codes " stale"))
    (answered (got_at target index) (codes "stale") (GetRefused target index true) (plain-word-is (codes "stale") refl) (λ ws. refl))
cell-again home (GetRefused target index false) fits =
    got-again home target index (GetRefused target index false) _ fits.0 fits.1
    (flat4 (codes " get") (block_field target) (number_field index) (codes " index"))
    (answered (got_at target index) (codes "index") (GetRefused target index false) (plain-word-is (codes "index") refl) (λ ws. refl))
cell-again home (Put target index value) fits =
    written-again home target index value (Put target index value) _ fits.0 fits.1 fits.2
    (flat-put (codes " put") (block_field target) (number_field index) (number_field value) (codes " ok"))
    (answered (written_at target index value) (codes "ok") (Put target index value) (plain-word-is (codes "ok") refl) (λ ws. refl))
cell-again home (PutRefused target index value true) fits =
    written-again home target index value (PutRefused target index value true) _ fits.0 fits.1 fits.2
    (flat-put (codes " put") (block_field target) (number_field index) (number_field value) (codes " stale"))
    (answered (written_at target index value) (codes "stale") (PutRefused target index value true) (plain-word-is (codes "stale") refl) (λ ws. refl))
cell-again home (PutRefused target index value false) fits =
    written-again home target index value (PutRefused target index value false) _ fits.0 fits.1 fits.2
    (flat-put (codes " put") (block_field target) (number_field index) (number_field value) (codes " index"))
    (answered (written_at target index value) (codes "index") (PutRefused target index value false) (plain-word-is (codes "index") refl) (λ ws. refl))
cell-again home (Forget target) fits =
    forgotten-again home target (Forget target) _ fits
    (flat-full (codes " forget") (block_field target) (codes " ok"))
    (answered (forgotten_at target) (codes "ok") (Forget target) (plain-word-is (codes "ok") refl) (λ ws. refl))
cell-again home (ForgetStale target) fits =
    forgotten-again home target (ForgetStale target) _ fits
    (flat-full (codes " forget") (block_field target) (codes " stale"))
    (answered (forgotten_at target) (codes "stale") (ForgetStale target) (plain-word-is (codes "stale") refl) (λ ws. refl))

abbrev task_numbered : ℕ → TaskId
task_numbered n = record { 0 = n }

-- a number is no task
no-task : (w : List ℕ) → is_ascii_digit (slice_index (w ++ []) 0) ≡ true → task_spelt w ≡ None
no-task [] e = refl
no-task (b ∷ bs) e = ap (λ t. option_map task_numbered (next (cond t (Some bs) None) natural_of)) (ne_eqb b 116 apart)
  where
    apart : b ≢ 116
    apart h = let t : true ≡ false = sym e ∙ ap is_ascii_digit h in cc

-- the text of an event is read as it
pub event-again : (home : ℕ) (e : PlaceEvent) → FitsEvent home e → Again (event_at home) e (event_text e) Any
event-again home (Done task stamp cell path) fits =
    let e : PlaceEvent = Done task stamp cell path in
    let t = task-item task fits.0 in
    let h = again-field natural_at _ stamp e (natural_field stamp) _ Any (natural-once stamp fits.1) (
    again-field (cell_at home) _ cell e (cell_text cell) _ Any (cell-again home cell fits.2) (
    again-field path_at _ path e (path_field path) _ Any (path-again path fits.3) (
    again-done e Any))) in
    record {
      front = t.text ∷ h.front;
      spelled = ap (λ v. v ++ fields h.front) t.spelled ∙ ap (λ v. task_field task ++ v) h.spelled
          ∙ flat-done (task_field task) (natural_field stamp) (call_text cell) (answer_text cell) (path_field path);
      plain = (t.plain, h.plain);
      reads = λ rest n. ap (λ o. event_from home o t.text (h.front ++ rest)) t.reads ∙ h.reads rest n;
    }
event-again home (Close stamp) fits =
    let e : PlaceEvent = Close stamp in
    let low : stamp < 2 ^ 32 = fits in
    let last = again-keyed (codes "close") _ e [] Any (plain-word-is (codes "close") refl) (again-done e Any) in
    let none = no-task (natural_text stamp) (digit-first (natural_text stamp) [] (some-decimal stamp) (all-digits stamp (omega arith))) in
    let i = natural-item stamp fits in
    let text = natural_text stamp in
    record {
      front = text ∷ last.front;
      spelled = ap (λ v. natural_field stamp ++ v) last.spelled;
      plain = (natural-plain stamp (omega arith), last.plain);
      reads = λ rest n. ap (λ o. event_from home o text (last.front ++ rest)) none
          ∙ ap (λ o. after (option_map (λ a. (a, last.front ++ rest)) o) (λ s. keyed (codes "close") (done (Close s)))) (below-again (2 ^ 32) stamp low (omega arith))
          ∙ last.reads rest n;
    }
