pub mod RowWords
