pub mod TupleWords
