-- How a line of a program text is spelled: its fields, with one space between them.
use Rattle.std.specs.Prelude.{ℕ, List, [], ◌∷◌, ◌++◌, map, codes}
use Rattle.std.specs.Fmt.{decimal, signed_decimal}
use Rattle.std.specs.List.{join_with_byte}
use Rattle.ch_ir.specs.declared.program.Operand.{Operand}
use Rattle.ch_ir.specs.declared.program.Operand.TheVariants.{Word, Const}
use Rattle.ch_ir.specs.declared.program.Binary.{Binary}
use Rattle.ch_ir.specs.declared.program.Binary.TheVariants as binary
use Rattle.ch_ir.specs.declared.program.Op.{Op}
use Rattle.ch_ir.specs.declared.program.Op.TheVariants.{Set, Two, Bit, Pick, Hash}
use Rattle.ch_ir.specs.declared.program.Test.{Test}
use Rattle.ch_ir.specs.declared.program.Test.TheVariants.{Always, KeyEq, KeyEqOrFree, Less}
use Rattle.ch_ir.specs.declared.program.Update.{Update}
use Rattle.ch_ir.specs.declared.program.Update.TheVariants as update
use Rattle.ch_ir.specs.declared.program.Access.{Access}
use Rattle.ch_ir.specs.declared.program.Array.{Array}
use Rattle.ch_asm_lines.specs.declared.line.Line.{Line}
use Rattle.ch_asm_lines.specs.declared.line.Line.TheVariants as line

-- `w` and the number of a word
abbrev pub word_text : ℕ → List ℕ
word_text w = 119 ∷ decimal w

-- a word, or `#` and a constant
abbrev pub operand_text : Operand → List ℕ
operand_text (Word w) = word_text w
operand_text (Const c) = 35 ∷ signed_decimal c

-- a list of texts, joined by `,`; the empty one is `-`
abbrev pub list_text : List (List ℕ) → List ℕ
list_text [] = 45 ∷ []
list_text (x ∷ xs) = join_with_byte 44 (x ∷ xs)

abbrev pub words_text : List ℕ → List ℕ
words_text words = list_text (map word_text words)

abbrev pub operands_text : List Operand → List ℕ
operands_text operands = list_text (map operand_text operands)

-- a name and what belongs to it, with `:` between them
abbrev pub with_colon : List ℕ → List ℕ → List ℕ
with_colon name text = name ++ 58 ∷ text

abbrev pub test_text : Test → List ℕ
test_text Always = codes "always"
test_text (KeyEq n) = with_colon (codes "keyeq") (decimal n)
test_text (KeyEqOrFree n) = with_colon (codes "keyorfree") (decimal n)
test_text (Less c) = with_colon (codes "less") (decimal c)

abbrev pub update_text : Update → List ℕ
update_text update.Keep = codes "keep"
update_text (update.Put a) = with_colon (codes "put") (operand_text a)
update_text (update.AddSat a) = with_colon (codes "addsat") (operand_text a)
update_text (update.Min a) = with_colon (codes "min") (operand_text a)
update_text (update.Max a) = with_colon (codes "max") (operand_text a)
update_text (update.Or a) = with_colon (codes "or") (operand_text a)

abbrev pub updates_text : List Update → List ℕ
updates_text updates = list_text (map update_text updates)

abbrev pub binary_text : Binary → List ℕ
binary_text binary.Add = codes "add"
binary_text binary.Sub = codes "sub"
binary_text binary.Lt = codes "lt"
binary_text binary.Le = codes "le"
binary_text binary.Eq = codes "eq"
binary_text binary.Ne = codes "ne"
binary_text binary.And = codes "and"
binary_text binary.Or = codes "or"
binary_text binary.Mask = codes "mask"

-- the word that is assigned, the name of what it gets, and what that is made of
abbrev pub op_fields : Op → List (List ℕ)
op_fields (Set to a) = decimal to ∷ codes "set" ∷ operand_text a ∷ []
op_fields (Two to b x y) = decimal to ∷ binary_text b ∷ operand_text x ∷ operand_text y ∷ []
op_fields (Bit to a) = decimal to ∷ codes "bit" ∷ operand_text a ∷ []
op_fields (Pick to a x y) = decimal to ∷ codes "pick" ∷ operand_text a ∷ operand_text x ∷ operand_text y ∷ []
op_fields (Hash to seed n words) = decimal to ∷ codes "hash" ∷ decimal seed ∷ decimal n ∷ words_text words ∷ []

abbrev pub access_fields : Access → List (List ℕ)
access_fields x = decimal x.array ∷ operand_text x.index ∷ operand_text x.guard ∷ test_text x.test
    ∷ operands_text x.key ∷ updates_text x.yes ∷ updates_text x.no ∷ decimal x.old ∷ decimal x.hit ∷ []

abbrev pub array_fields : Array → List (List ℕ)
array_fields a = decimal a.entries ∷ decimal a.cells ∷ []

abbrev pub line_fields : Line → List (List ℕ)
line_fields line.Header = codes "cheetah" ∷ codes "program" ∷ codes "1" ∷ []
line_fields (line.Width w) = codes "width" ∷ decimal w ∷ []
line_fields (line.Array a) = codes "array" ∷ array_fields a
line_fields line.Stage = codes "stage" ∷ []
line_fields (line.Op op) = codes "op" ∷ op_fields op
line_fields (line.Access x) = codes "access" ∷ access_fields x
line_fields (line.Verdict w) = codes "verdict" ∷ decimal w ∷ []
line_fields line.End = codes "end" ∷ []

-- a line, without its line feed
unfoldable pub line_text : Line → List ℕ
line_text l = join_with_byte 32 (line_fields l)

-- a line with its line feed
abbrev pub ended : List ℕ → List ℕ
ended text = text ++ 10 ∷ []
