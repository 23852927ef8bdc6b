-- The generated files, as a shelf tells them and as a command reads them.
use Rattle.std.specs.Prelude.{ℕ, ◌≤◌, List, [], ◌∷◌, ◌++◌, length, map, sum_by, if◌then◌else◌}
use Rattle.std.specs.List.{AllByRecursion}
use Rattle.ch_command.specs.Reading.{most_bytes, most_bytes_in_all}
use Rattle.ch_generated.specs.Draws.{generator_of}
use Rattle.ch_generated.specs.Inputs.{files_of, is_join, schedule_begins, u_begins, workers_of}
use Rattle.ch_generated.specs.ScheduleText.{schedule_text}
use Rattle.ch_generated.specs.TableText.{t_part_text, t_rows, u_text}
use Rattle.ch_generated.specs.declared.Request.{Request}
use Rattle.ch_outside.specs.MapShelf.{bytes_at}
use Rattle.ch_outside.specs.Shelf.{Files}

-- by their names
abbrev pub files_told : Request → Files
files_told request = bytes_at (files_of request)

abbrev pub size_of : List ℕ × List ℕ → ℕ
size_of file = length file.1

-- no file is longer than one may be, nor are all of them together longer than the files of a command
pub record AreShort (files : List (List ℕ × List ℕ)) : Type 0 where
  pub each : AllByRecursion (λ (file : List ℕ × List ℕ). size_of file ≤ most_bytes) files
  pub together : sum_by size_of files ≤ most_bytes_in_all

-- the texts of the four parts of table t
abbrev pub t_texts : Request → List (List ℕ)
t_texts request = map (λ part. t_part_text part (t_rows request.rows (generator_of request.seed))) (0 ∷ 1 ∷ 2 ∷ 3 ∷ [])

-- what they hold, in the order in which they are read
abbrev pub contents_of : Request → List (List ℕ)
contents_of request =
    schedule_text (workers_of request.kind) (schedule_begins request) ∷ t_texts request
    ++ (if is_join request.kind then u_text (u_begins request) ∷ [] else [])
