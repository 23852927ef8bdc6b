-- What is printed of a key and a value.
use Rattle.std.specs.Prelude.{ℕ, suc, ◌==◌, ◌&&◌, if◌then◌else◌, List, [], ◌∷◌, ◌++◌, map, length, ℤ, pos, int_lt, Option, Some, None, slice_index_or}
use Rattle.ch_pred.specs.Sound.{carried_of, place_in}
use Rattle.ch_pred.specs.declared.bound.Bound.{Bound}
use Rattle.ch_pred.specs.declared.bound.Printed.{Printed}
use Rattle.ch_pred.specs.declared.bound.Printed.TheVariants as printed
use Rattle.ch_pred.specs.declared.pred.Col.{Col}
use Rattle.ch_flat.specs.Flat.{pick}

-- where the word of a column stands in a row
abbrev pub place_of : Bound → Col → ℕ
place_of b c = place_in (carried_of b c.side) c.at

-- where the word of a column stands in a key with a value behind it; past both if it isn't a column of the key
abbrev pub key_place : List Col → Col → ℕ
key_place [] c = 1
key_place (k ∷ ks) c = if (k.side == c.side) && (k.at == c.at) then 0 else suc (key_place ks c)

abbrev pub group_place : List Col → Printed → ℕ
group_place keys (printed.Column c) = key_place keys c
group_place keys printed.Best = length keys

-- the words at some places of each key with its value behind it
abbrev pub value_lines : List ℕ → List (List ℤ) → List ℤ → List (List ℤ)
value_lines places [] vs = []
value_lines places (k ∷ ks) [] = []
value_lines places (k ∷ ks) (v ∷ vs) = pick (k ++ v ∷ []) places ∷ value_lines places ks vs

-- the keys whose value is above a number
abbrev pub keys_above : ℤ → List (List ℤ) → List ℤ → List (List ℤ)
keys_above above [] vs = []
keys_above above (k ∷ ks) [] = []
keys_above above (k ∷ ks) (v ∷ vs) = if int_lt above v then k ∷ keys_above above ks vs else keys_above above ks vs

-- the words at some places of each key with 0 behind it
abbrev pub key_lines : List ℕ → List (List ℤ) → List (List ℤ)
key_lines places ks = map (λ k. pick (k ++ pos 0 ∷ []) places) ks

-- what a row counts for in a sum: the word at a place, or 1
abbrev pub amount_at : List ℤ → Option ℕ → ℤ
amount_at ws None = pos 1
amount_at ws (Some place) = slice_index_or ws place (pos 0)
