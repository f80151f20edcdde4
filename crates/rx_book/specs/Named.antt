-- What contracts see of a book.
use Rattle.atomic_table.specs.Seated.{TableId}

-- its word, by which a pass or a note is of this book, and what is fixed of its object
pub record BookName (F : Type 0) : Type 0 where
  pub word : TableId
  pub fixed : F
