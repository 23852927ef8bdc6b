-- A draft that is read to its end.
use Rattle.std.specs.Prelude.{◌≡◌, ℕ, ◌<◌, ◌≤◌, ◌^◌, List, All, length, sum_by, None}
use Rattle.std.specs.List.{AllByRecursion}
use Rattle.ch_tables.specs.Draft.{IsDraftOf, all_rows}
use Rattle.ch_tables.specs.Refusal.{repeated}
use Rattle.ch_tables.specs.declared.draft.Draft.{Draft}

-- each row has a field for each column
abbrev pub AreWide : ℕ → List (List (List ℕ)) → Type 0
AreWide width rows = AllByRecursion (λ fields. length fields ≡ width) rows

-- it keeps what a table keeps
pub record IsWhole (draft : Draft) : Type 0 where
  pub width : length draft.columns.items ≡ length draft.header
  pub few_columns : length draft.header < 2 ^ 32
  pub full : All (λ column. length column ≡ draft.rows) draft.columns.items
  pub few : sum_by length draft.columns.items < 2 ^ 32
  pub few_parts : length draft.spans.items < 2 ^ 32
  pub spans : All (λ span. (span.from ≤ span.to) × (span.to ≤ draft.rows)) draft.spans.items
  pub names : repeated draft.header ≡ None
  pub bodies : List (List (List (List ℕ)))
  pub draft_of : IsDraftOf draft draft.header bodies
  pub wide : AreWide (length draft.header) (all_rows bodies)
