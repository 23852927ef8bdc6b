-- The line that a text spells.
use Rattle.std.specs.Prelude.{ℕ, ◌==◌, if◌then◌else◌, List, [], ◌∷◌, Option, Some, None, option_map, option_and_then, codes, bytes_eq, ◌≡◌}
use Rattle.std.specs.declared.result.Result.{Result}
use Rattle.std.specs.declared.result.Result.TheVariants.{Ok, Err}
use Rattle.std.specs.List.{slice_split}
use Rattle.ch_ir.specs.declared.program.Operand.{Operand}
use Rattle.ch_ir.specs.declared.program.Operand.TheVariants.{Word, Const}
use Rattle.ch_ir.specs.declared.program.Binary.{Binary}
use Rattle.ch_ir.specs.declared.program.Binary.TheVariants as binary
use Rattle.ch_ir.specs.declared.program.Op.{Op}
use Rattle.ch_ir.specs.declared.program.Op.TheVariants.{Set, Two, Bit, Pick, Hash}
use Rattle.ch_ir.specs.declared.program.Test.{Test}
use Rattle.ch_ir.specs.declared.program.Test.TheVariants.{Always, KeyEq, KeyEqOrFree, Less}
use Rattle.ch_ir.specs.declared.program.Update.{Update}
use Rattle.ch_ir.specs.declared.program.Update.TheVariants as update
use Rattle.ch_ir.specs.declared.program.Access.{Access}
use Rattle.ch_ir.specs.declared.program.Array.{Array}
use Rattle.ch_asm_lines.specs.Spelling.{binary_text}
use Rattle.ch_asm_lines.specs.Numbers.{word_of, seed_of, constant_of}
use Rattle.ch_asm_lines.specs.declared.read.Asked.{Asked}
use Rattle.ch_asm_lines.specs.declared.line.Line.{Line}
use Rattle.ch_asm_lines.specs.declared.line.Line.TheVariants as line
use Rattle.ch_asm_lines.specs.declared.line.LineError.{LineError}
use Rattle.ch_asm_lines.specs.declared.line.LineError.TheVariants.{Bad, Memory}

infixl 10 ◌>>=◌
abbrev pub ◌>>=◌ : {A B : Type 0} → Option A → (A → Option B) → Option B
o >>= f = option_and_then f o

abbrev pub Fails : {Y : Type 0} → Option Y → LineError → Type 0
Fails spelled Bad = spelled ≡ None
Fails spelled Memory = Unit {0}

-- What a call gives, seen by view, is what a text spells, or the text spells nothing, unless memory runs out.
abbrev pub GivesBy : {X Y : Type 0} → (X → Y) → Option Y → Result X LineError → Type 0
GivesBy view spelled (Ok x) = spelled ≡ Some (view x)
GivesBy view spelled (Err e) = Fails spelled e

abbrev pub Gives : {X : Type 0} → Option X → Result X LineError → Type 0
Gives spelled result = GivesBy (λ x. x) spelled result

-- what stands before the first of these bytes, and what stands behind it
unfoldable pub cut_of : ℕ → List ℕ → Option (List ℕ × List ℕ)
cut_of at [] = None
cut_of at (b ∷ bs) = if b == at then Some ([], bs) else option_map (λ c. (b ∷ c.0, c.1)) (cut_of at bs)

unfoldable pub listed_word_of : List ℕ → Option ℕ
listed_word_of [] = None
listed_word_of (b ∷ bs) = if b == 119 then word_of bs else None

unfoldable pub operand_of : List ℕ → Option Operand
operand_of [] = None
operand_of (b ∷ bs) = if b == 119 then option_map Word (word_of bs) else if b == 35 then option_map Const (constant_of bs) else None

-- the items that the texts spell, where each spells one
abbrev pub each_of : {X : Type 0} → (List ℕ → Option X) → List (List ℕ) → Option (List X)
each_of item [] = Some []
each_of item (text ∷ texts) = item text >>= λ x. option_map (λ xs. x ∷ xs) (each_of item texts)

unfoldable pub list_of : {X : Type 0} → (List ℕ → Option X) → List ℕ → Option (List X)
list_of item text = if bytes_eq text (codes "-") then Some [] else each_of item (slice_split (λ b. b == 44) text)

abbrev pub test_named : List ℕ → ℕ → Option Test
test_named name n =
    if bytes_eq name (codes "keyeq") then Some (KeyEq n)
    else if bytes_eq name (codes "keyorfree") then Some (KeyEqOrFree n)
    else if bytes_eq name (codes "less") then Some (Less n)
    else None

unfoldable pub test_of : List ℕ → Option Test
test_of text = if bytes_eq text (codes "always") then Some Always else do
  parts ← cut_of 58 text
  n ← word_of parts.1
  test_named parts.0 n

abbrev pub update_named : List ℕ → Operand → Option Update
update_named name a =
    if bytes_eq name (codes "put") then Some (update.Put a)
    else if bytes_eq name (codes "addsat") then Some (update.AddSat a)
    else if bytes_eq name (codes "min") then Some (update.Min a)
    else if bytes_eq name (codes "max") then Some (update.Max a)
    else if bytes_eq name (codes "or") then Some (update.Or a)
    else None

unfoldable pub update_of : List ℕ → Option Update
update_of text = if bytes_eq text (codes "keep") then Some update.Keep else do
  parts ← cut_of 58 text
  a ← operand_of parts.1
  update_named parts.0 a

abbrev pub binaries : List Binary
binaries = binary.Add ∷ binary.Sub ∷ binary.Lt ∷ binary.Le ∷ binary.Eq ∷ binary.Ne ∷ binary.And ∷ binary.Or ∷ binary.Mask ∷ []

abbrev pub binary_among : List Binary → List ℕ → Option Binary
binary_among [] name = None
binary_among (b ∷ bs) name = if bytes_eq (binary_text b) name then Some b else binary_among bs name

unfoldable pub binary_of : List ℕ → Option Binary
binary_of name = binary_among binaries name

-- the first field, as it is read, and what stands behind it
unfoldable pub field_of : {X : Type 0} → (List ℕ → Option X) → List ℕ → Option (X × List ℕ)
field_of read text = do
  parts ← cut_of 32 text
  x ← read parts.0
  Some (x, parts.1)

-- an op from what stands behind its name

unfoldable pub pick_of : ℕ → List ℕ → Option Op
pick_of to text = do
  asked ← field_of operand_of text
  first ← field_of operand_of asked.1
  second ← operand_of first.1
  Some (Pick to asked.0 first.0 second)

unfoldable pub hash_of : ℕ → List ℕ → Option Op
hash_of to text = do
  seed ← field_of seed_of text
  modulus ← field_of word_of seed.1
  words ← list_of listed_word_of modulus.1
  Some (Hash to seed.0 modulus.0 words)

unfoldable pub two_of : ℕ → List ℕ → List ℕ → Option Op
two_of to name text = do
  b ← binary_of name
  x ← field_of operand_of text
  y ← operand_of x.1
  Some (Two to b x.0 y)

unfoldable pub op_named : ℕ → List ℕ → List ℕ → Option Op
op_named to name text =
    if bytes_eq name (codes "set") then option_map (λ a. Set to a) (operand_of text)
    else if bytes_eq name (codes "bit") then option_map (λ a. Bit to a) (operand_of text)
    else if bytes_eq name (codes "pick") then pick_of to text
    else if bytes_eq name (codes "hash") then hash_of to text
    else two_of to name text

unfoldable pub op_of : List ℕ → Option Op
op_of text = do
  to ← field_of word_of text
  parts ← cut_of 32 to.1
  op_named to.0 parts.0 parts.1

-- the first four fields of an access
unfoldable pub asked_of : List ℕ → Option (Asked × List ℕ)
asked_of text = do
  array ← field_of word_of text
  index ← field_of operand_of array.1
  guard ← field_of operand_of index.1
  test ← field_of test_of guard.1
  Some (record { array = array.0; index = index.0; guard = guard.0; test = test.0 }, test.1)

unfoldable pub access_with : Asked → List ℕ → Option Access
access_with asked text = do
  key ← field_of (list_of operand_of) text
  hits ← field_of (list_of update_of) key.1
  misses ← field_of (list_of update_of) hits.1
  old ← field_of word_of misses.1
  hit ← word_of old.1
  Some (record { array = asked.array; index = asked.index; guard = asked.guard; test = asked.test; key = key.0; yes = hits.0; no = misses.0; old = old.0; hit = hit })

unfoldable pub access_of : List ℕ → Option Access
access_of text = asked_of text >>= λ asked. access_with asked.0 asked.1

unfoldable pub array_of : List ℕ → Option Array
array_of text = do
  entries ← field_of word_of text
  cells ← word_of entries.1
  Some (record { entries = entries.0; cells = cells })

-- a line from its first field and what stands behind it
unfoldable pub line_named : List ℕ → List ℕ → Option Line
line_named name text =
    if bytes_eq name (codes "width") then option_map line.Width (word_of text)
    else if bytes_eq name (codes "array") then option_map line.Array (array_of text)
    else if bytes_eq name (codes "op") then option_map line.Op (op_of text)
    else if bytes_eq name (codes "access") then option_map line.Access (access_of text)
    else if bytes_eq name (codes "verdict") then option_map line.Verdict (word_of text)
    else None

unfoldable pub line_of : List ℕ → Option Line
line_of text =
    if bytes_eq text (codes "cheetah program 1") then Some line.Header
    else if bytes_eq text (codes "stage") then Some line.Stage
    else if bytes_eq text (codes "end") then Some line.End
    else cut_of 32 text >>= λ parts. line_named parts.0 parts.1
