pub mod Columns
pub mod Formed
pub mod Parsed
pub mod Reading
-- what the public clauses cite of the crates below
pub use Rattle.ch_sql_tokens.specs.Lexed
pub use Rattle.ch_sql_tokens.specs.Spelling
pub use Rattle.ch_sql_grammar.specs.Grammar
pub use Rattle.ch_sql_grammar.specs.Tree
pub use Rattle.ch_sql_places.specs.Refusal
pub use Rattle.ch_sql_limits.specs.Limits
pub use Rattle.ch_sql_limits.specs.Texts
pub use Rattle.ch_sql_text.specs.Printed
