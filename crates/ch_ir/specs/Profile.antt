-- The settings of a profile, and the text that gives them.
use Rattle.std.specs.Prelude.{Option, Some, None, ℕ, ◌+◌, Bool, true, false, if◌then◌else◌, ◌&&◌, List, [], ◌∷◌, ℤ, pos, negsuc, nat_eq, nat_le, codes, bytes_eq}
use Rattle.std.specs.declared.result.Result.{Result}
use Rattle.std.specs.declared.result.Result.TheVariants.{Ok, Err}
use Rattle.std.specs.List.{list_all}
use Rattle.ch_cells.specs.Number.{number_of, is_digit}
use Rattle.ch_lines.specs.Lines.{lines_of, fields_of, says}
use Rattle.ch_ir.specs.declared.setting.Setting.{Setting}
use Rattle.ch_ir.specs.declared.setting.Setting.TheVariants.{Stages, Cells, Ops, Words, Width, Window, DistinctRows, DistinctCols, GroupRows, GroupCols, TopSteps, TopGap, SketchHashes, SketchCells, BloomHashes, BloomCells, SkylinePoints}
use Rattle.ch_ir.specs.declared.setting.Range.{Range}
use Rattle.ch_ir.specs.declared.profile.Profile.{Profile}
use Rattle.ch_ir.specs.declared.read.ProfileWhy.{ProfileWhy}
use Rattle.ch_ir.specs.declared.read.ProfileWhy.TheVariants as why
use Rattle.ch_ir.specs.declared.read.ProfileError.{ProfileError}
use Rattle.ch_ir.specs.declared.read.ProfileError.TheVariants.{Bad}

abbrev pub name_of : Setting → List ℕ
name_of Stages = codes "stages"
name_of Cells = codes "cells"
name_of Ops = codes "ops"
name_of Words = codes "words"
name_of Width = codes "width"
name_of Window = codes "window"
name_of DistinctRows = codes "distinct_rows"
name_of DistinctCols = codes "distinct_cols"
name_of GroupRows = codes "group_rows"
name_of GroupCols = codes "group_cols"
name_of TopSteps = codes "top_steps"
name_of TopGap = codes "top_gap"
name_of SketchHashes = codes "sketch_hashes"
name_of SketchCells = codes "sketch_cells"
name_of BloomHashes = codes "bloom_hashes"
name_of BloomCells = codes "bloom_cells"
name_of SkylinePoints = codes "skyline_points"

-- the least and the greatest value
abbrev pub range_of : Setting → Range
range_of Stages = record { low = 1; high = 256 }
range_of Cells = record { low = 1; high = 1048576 }
range_of Ops = record { low = 48; high = 256 }
range_of Words = record { low = 64; high = 8192 }
range_of Width = record { low = 1; high = 20 }
range_of Window = record { low = 1; high = 256 }
range_of DistinctRows = record { low = 1; high = 65536 }
range_of DistinctCols = record { low = 1; high = 16 }
range_of GroupRows = record { low = 1; high = 65536 }
range_of GroupCols = record { low = 1; high = 16 }
range_of TopSteps = record { low = 0; high = 40 }
range_of TopGap = record { low = 1; high = 1048576 }
range_of SketchHashes = record { low = 1; high = 8 }
range_of SketchCells = record { low = 1; high = 65536 }
range_of BloomHashes = record { low = 1; high = 8 }
range_of BloomCells = record { low = 1; high = 65536 }
range_of SkylinePoints = record { low = 1; high = 16 }

abbrev pub default_settings : Profile
default_settings = record {
  stages = 32;
  cells = 131072;
  ops = 64;
  words = 2048;
  width = 20;
  window = 32;
  distinct_rows = 4096;
  distinct_cols = 4;
  group_rows = 4096;
  group_cols = 4;
  top_steps = 8;
  top_gap = 1;
  sketch_hashes = 3;
  sketch_cells = 4096;
  bloom_hashes = 3;
  bloom_cells = 4096;
  skyline_points = 10;
}

abbrev pub with_setting : Profile → Setting → ℕ → Profile
with_setting p Stages value = record p { stages = value }
with_setting p Cells value = record p { cells = value }
with_setting p Ops value = record p { ops = value }
with_setting p Words value = record p { words = value }
with_setting p Width value = record p { width = value }
with_setting p Window value = record p { window = value }
with_setting p DistinctRows value = record p { distinct_rows = value }
with_setting p DistinctCols value = record p { distinct_cols = value }
with_setting p GroupRows value = record p { group_rows = value }
with_setting p GroupCols value = record p { group_cols = value }
with_setting p TopSteps value = record p { top_steps = value }
with_setting p TopGap value = record p { top_gap = value }
with_setting p SketchHashes value = record p { sketch_hashes = value }
with_setting p SketchCells value = record p { sketch_cells = value }
with_setting p BloomHashes value = record p { bloom_hashes = value }
with_setting p BloomCells value = record p { bloom_cells = value }
with_setting p SkylinePoints value = record p { skyline_points = value }

-- the place in the order of a profile's numbers
abbrev pub number_of_setting : Setting → ℕ
number_of_setting Stages = 0
number_of_setting Cells = 1
number_of_setting Ops = 2
number_of_setting Words = 3
number_of_setting Width = 4
number_of_setting Window = 5
number_of_setting DistinctRows = 6
number_of_setting DistinctCols = 7
number_of_setting GroupRows = 8
number_of_setting GroupCols = 9
number_of_setting TopSteps = 10
number_of_setting TopGap = 11
number_of_setting SketchHashes = 12
number_of_setting SketchCells = 13
number_of_setting BloomHashes = 14
number_of_setting BloomCells = 15
number_of_setting SkylinePoints = 16

abbrev pub settings : List Setting
settings = Stages ∷ Cells ∷ Ops ∷ Words ∷ Width ∷ Window ∷ DistinctRows ∷ DistinctCols ∷ GroupRows ∷ GroupCols ∷ TopSteps ∷ TopGap ∷ SketchHashes ∷ SketchCells ∷ BloomHashes ∷ BloomCells ∷ SkylinePoints ∷ []

abbrev pub setting_among : List Setting → List ℕ → Option Setting
setting_among [] name = None
setting_among (s ∷ ss) name = if bytes_eq (name_of s) name then Some s else setting_among ss name

unfoldable pub setting_named : List ℕ → Option Setting
setting_named name = setting_among settings name

-- the settings that a text has given so far, by their places
abbrev pub Given : Type 0
Given = ℕ → Bool

abbrev pub none_given : Given
none_given n = false

abbrev pub with_given : Given → Setting → Given
with_given given s n = if nat_eq n (number_of_setting s) then true else given n

-- what a text has said so far
pub record Said : Type 0 where
  pub profile : Profile
  pub given : Given

-- `0`, or a digit 1 to 9 and digits: a number without sign, of any length
abbrev pub is_number : List ℕ → Bool
is_number [] = false
is_number (c ∷ []) = list_all is_digit (c ∷ [])
is_number (c ∷ d ∷ cs) = if nat_eq c 48 then false else list_all is_digit (c ∷ d ∷ cs)

-- the number that a text spells, where it lies in the range
abbrev pub within_range : Range → Option ℤ → Option ℕ
within_range range None = None
within_range range (Some (pos n)) = if nat_le range.low n && nat_le n range.high then Some n else None
within_range range (Some (negsuc n)) = None

abbrev pub with_value : Said → Setting → ℕ → Said
with_value said s value = record { profile = with_setting said.profile s value; given = with_given said.given s }

abbrev pub value_said : Said → Setting → Option ℕ → Result Said ProfileWhy
value_said said s None = Err why.OutOfRange
value_said said s (Some value) = Ok (with_value said s value)

abbrev pub setting_said : Said → Option Setting → List ℕ → Result Said ProfileWhy
setting_said said None number = Err why.UnknownName
setting_said said (Some s) number =
    if said.given (number_of_setting s) then Err why.Repeated
    else (if is_number number then value_said said s (within_range (range_of s) (number_of number)) else Err why.BadNumber)

-- a line of settings: exactly a name and a number
abbrev pub fields_said : Said → List (List ℕ) → Result Said ProfileWhy
fields_said said (name ∷ number ∷ []) = setting_said said (setting_named name) number
fields_said said [] = Err why.NotASetting
fields_said said (name ∷ []) = Err why.NotASetting
fields_said said (name ∷ number ∷ more ∷ others) = Err why.NotASetting

-- an empty line and a comment say nothing
abbrev pub line_said : Said → List (List ℕ) → Result Said ProfileWhy
line_said said fields = if says fields then fields_said said fields else Ok said

-- what a line says, and then what the others do
abbrev pub and_then : ℕ → Result Said ProfileWhy → (Said → Result Profile ProfileError) → Result Profile ProfileError
and_then at (Ok said) others = others said
and_then at (Err reason) others = Err (Bad at reason)

-- lines, the first of them with this number
abbrev pub lines_said : ℕ → Said → List (List ℕ) → Result Profile ProfileError
lines_said at said [] = Ok said.profile
lines_said at said (line ∷ lines) = and_then at (line_said said (fields_of line)) (λ now. lines_said (at + 1) now lines)

-- the profile that a text gives, or its first bad line, counted from 1
unfoldable pub profile_of : List ℕ → Result Profile ProfileError
profile_of text = lines_said 1 (record { profile = default_settings; given = none_given }) (lines_of text)
