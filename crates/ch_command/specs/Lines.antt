-- Lines that every command may say.
use Rattle.std.specs.Prelude.{ℕ, List, ◌++◌, codes}

abbrev pub no_words_line : List ℕ
no_words_line = codes "usage: no words\n"

abbrev pub missing_line : List ℕ → List ℕ
missing_line file = codes "input: file " ++ file ++ codes " missing\n"

abbrev pub too_large_line : List ℕ → List ℕ
too_large_line file = codes "input: file " ++ file ++ codes " too large\n"

abbrev pub read_fault_line : List ℕ → List ℕ
read_fault_line file = codes "read fault: " ++ file ++ codes "\n"

abbrev pub write_fault_line : List ℕ
write_fault_line = codes "write fault\n"

abbrev pub memory_line : List ℕ
memory_line = codes "memory\n"
