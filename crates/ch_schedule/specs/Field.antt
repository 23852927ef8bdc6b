-- The fields of a line of a schedule, and what a field is.
use Rattle.std.specs.Prelude.{◌≡◌, ◌<◌, ℕ, ◌+◌, ◌-◌, ◌*◌, ◌^◌, ◌&&◌, nat_lt, nat_le, if◌then◌else◌, List, [], ◌∷◌, length, ℤ, pos, negsuc, Option, Some, None, codes, bytes_eq, option_map}
use Rattle.std.specs.Option.{option_and_then}
use Rattle.ch_cells.specs.Number.{number_of}
use Rattle.ch_schedule.specs.declared.field.Fields.{Fields}
use Rattle.ch_schedule.specs.declared.field.Fields.TheVariants as fields

-- what was cut are these fields
abbrev pub Are : Fields → List (List ℕ) → Type 0
Are fields.None all = all ≡ []
Are (fields.One a) all = all ≡ a.now ∷ []
Are (fields.Two a b) all = all ≡ a.now ∷ b.now ∷ []
Are (fields.Three a b c) all = all ≡ a.now ∷ b.now ∷ c.now ∷ []
Are fields.More all = 3 < length all

abbrev pub below_word : Option ℤ → Option ℕ
below_word None = None
below_word (Some (negsuc n)) = None
below_word (Some (pos n)) = if nat_lt n (2 ^ 32) then Some n else None

-- a number below 2^32, in the spelling of cells, without sign
abbrev pub natural_of : List ℕ → Option ℕ
natural_of field = below_word (number_of field)

-- a hexadecimal digit in lower case
abbrev pub digit_of : ℕ → Option ℕ
digit_of c = if nat_le 48 c && nat_le c 57 then Some (c - 48) else if nat_le 97 c && nat_le c 102 then Some (c - 97 + 10) else None

abbrev pub byte_of : ℕ → ℕ → Option ℕ
byte_of high low = option_and_then (λ h. option_map (λ l. h * 16 + l) (digit_of low)) (digit_of high)

-- two digits for each byte
abbrev pub bytes_of : List ℕ → Option (List ℕ)
bytes_of [] = Some []
bytes_of (c ∷ []) = None
bytes_of (high ∷ low ∷ rest) = option_and_then (λ b. option_map (λ bs. b ∷ bs) (bytes_of rest)) (byte_of high low)

-- `-` for no bytes, or at most 512 digits
abbrev pub hex_of : List ℕ → Option (List ℕ)
hex_of field = if bytes_eq field (codes "-") then Some [] else if nat_lt 512 (length field) then None else bytes_of field
