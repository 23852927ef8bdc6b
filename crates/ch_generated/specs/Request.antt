-- What the words `SEED ROWS KIND` behind the program's name ask for.
use Rattle.std.specs.Prelude.{ℕ, zero, suc, if◌then◌else◌, List, [], ◌∷◌, Option, Some, None, bytes_eq, codes, option_and_then, option_map}
use Rattle.ch_numbers.specs.Natural.{natural_of}
use Rattle.ch_generated.specs.declared.request.InputKind.{InputKind}
use Rattle.ch_generated.specs.declared.request.InputKind.TheVariants.{Filter, Distinct, Top, Group, Having, Join, Skyline}
use Rattle.ch_generated.specs.declared.request.Request.{Request}

-- a number of 64 bits
unfoldable pub seed_of : List ℕ → Option ℕ
seed_of text = natural_of 18446744073709551615 text

abbrev pub positive : ℕ → Option ℕ
positive zero = None
positive (suc n) = Some (suc n)

-- a number from 1 to 1,000,000
unfoldable pub rows_of : List ℕ → Option ℕ
rows_of text = option_and_then positive (natural_of 1000000 text)

abbrev pub kind_name : InputKind → List ℕ
kind_name Filter = codes "filter"
kind_name Distinct = codes "distinct"
kind_name Top = codes "top"
kind_name Group = codes "group"
kind_name Having = codes "having"
kind_name Join = codes "join"
kind_name Skyline = codes "skyline"

-- the kind of this name
abbrev pub kind_of : List ℕ → Option InputKind
kind_of word =
    if bytes_eq word (codes "filter") then Some Filter
    else if bytes_eq word (codes "distinct") then Some Distinct
    else if bytes_eq word (codes "top") then Some Top
    else if bytes_eq word (codes "group") then Some Group
    else if bytes_eq word (codes "having") then Some Having
    else if bytes_eq word (codes "join") then Some Join
    else if bytes_eq word (codes "skyline") then Some Skyline
    else None

abbrev pub request_with : Option ℕ → Option ℕ → Option InputKind → Option Request
request_with seed rows kind =
    option_and_then (λ s. option_and_then (λ n. option_map (λ k. record { seed = s; rows = n; kind = k }) kind) rows) seed

-- the program's name and exactly three words
unfoldable pub request_of : List (List ℕ) → Option Request
request_of [] = None
request_of (program ∷ []) = None
request_of (program ∷ seed ∷ []) = None
request_of (program ∷ seed ∷ rows ∷ []) = None
request_of (program ∷ seed ∷ rows ∷ kind ∷ []) = request_with (seed_of seed) (rows_of rows) (kind_of kind)
request_of (program ∷ seed ∷ rows ∷ kind ∷ more ∷ others) = None

-- the line that refuses all other words
abbrev pub usage_line : List ℕ
usage_line = codes "usage: cheetah_gen SEED ROWS KIND\n"
