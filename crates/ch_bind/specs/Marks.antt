-- A mark for each column of a side.
use Rattle.std.specs.Prelude.{◌≡◌, ◌<◌, ℕ, Bool, false, List, length, slice_index_or}
use Rattle.ch_bind.specs.References.{is_named}
use Rattle.ch_bind.specs.declared.references.Reference.{Reference}

pub record AreMarks (marks : List Bool) (n side : ℕ) (refs : List Reference) : Type 0 where
  pub size : length marks ≡ n
  pub each : (at : ℕ) → at < n → slice_index_or marks at false ≡ is_named refs side at
