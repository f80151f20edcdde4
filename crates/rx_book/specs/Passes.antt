-- What a pass and a note show.
use Rattle.std.specs.Prelude.{◌≡◌}
use Rattle.atomic_table.specs.Seated.{TableId}
use Rattle.rx_book.specs.declared.views.View.{View}
use Rattle.rx_book.specs.declared.passes.Pass.{Pass}
use Rattle.rx_book.specs.declared.passes.Note.{Note}

module _ {I : Type 0} where
  -- what the holder of a pass knows: its number, what it has seen, its own entries
  abbrev pub view_of : Pass I → View I
  view_of p = p.seat.me.0

  -- the word to which a pass belongs; a pass is of the book that has this word
  abbrev pub word_of : Pass I → TableId
  word_of p = p.seat.table_id

  -- what a note holds; of its view only `seen`, `reach` and `dead` mean anything
  abbrev pub note_view : Note I → View I
  note_view n = n.seat.me.0

  -- the word to which a note belongs
  abbrev pub note_word : Note I → TableId
  note_word n = n.seat.table_id

  -- the view w has seen as much as v
  pub record IsAsSeen (v w : View I) : Type 0 where
    pub seen : w.seen ≡ v.seen
    pub reach : w.reach ≡ v.reach
    pub dead : w.dead ≡ v.dead
