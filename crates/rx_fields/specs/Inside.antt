-- What contracts say that only the reader of a trace cites; a reader of its public contracts needs none of it.
pub mod Readers
pub mod FieldWords
pub mod PartWords
