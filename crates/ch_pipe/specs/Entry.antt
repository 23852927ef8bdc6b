-- What an access makes of an entry, of the words and of the registers.
use Rattle.std.specs.Prelude.{◌≡◌, ◌<◌, ◌≤◌, ◌+◌, ℕ, Bool, true, if◌then◌else◌, List, [], ◌∷◌, ℤ, pos, negsuc, get_or, set, length, replicate, IsTrue}
use Rattle.ch_ir.specs.declared.program.Operand.{Operand}
use Rattle.ch_ir.specs.declared.program.Access.{Access}
use Rattle.ch_ir.specs.Machine.{Registers, holds_at, is_set, truth}
use Rattle.ch_ir.specs.Rules.{key_words, test_fits}
use Rattle.ch_pipe.specs.Total.{value_at, values_of, nat_of, OperandBelow, UpdatesRoom, total_updates, total_store}

abbrev pub KeyRoom : ℕ → List Operand → Type 0
KeyRoom n [] = Unit {0}
KeyRoom n (a ∷ rest) = OperandBelow n a × KeyRoom n rest

abbrev pub hit_on : Access → List ℤ → List ℤ → Bool
hit_on x words cells = holds_at x.test (values_of words x.key) cells

-- the words after an access to these cells
abbrev pub words_on : Access → List ℤ → List ℤ → List ℤ
words_on x words cells = set (total_store x.old cells words) x.hit (truth (hit_on x words cells))

-- the cells after it
abbrev pub cells_on : Access → List ℤ → List ℤ → List ℤ
cells_on x words cells = total_updates words (if hit_on x words cells then x.yes else x.no) cells

-- the words after an access whose guard isn't set, to an array of so many cells
abbrev pub words_off : ℕ → Access → List ℤ → List ℤ
words_off n x words = set (total_store x.old (replicate n (pos 0)) words) x.hit (pos 0)

abbrev pub entry_cells : Access → List ℤ → Registers → List ℤ
entry_cells x words registers = get_or (get_or registers x.array []) (nat_of (value_at words x.index)) []

abbrev pub total_words : ℕ → Access → List ℤ → Registers → List ℤ
total_words n x words registers = if is_set (value_at words x.guard) then words_on x words (entry_cells x words registers) else words_off n x words

abbrev pub total_registers : Access → List ℤ → Registers → Registers
total_registers x words registers = if is_set (value_at words x.guard)
    then set registers x.array (set (get_or registers x.array []) (nat_of (value_at words x.index)) (cells_on x words (entry_cells x words registers)))
    else registers

pub record AccessRoom (n cells : ℕ) (x : Access) : Type 0 where
  pub index : OperandBelow n x.index
  pub guard : OperandBelow n x.guard
  pub key : KeyRoom n x.key
  pub yes : UpdatesRoom n x.yes
  pub no : UpdatesRoom n x.no
  pub yes_many : length x.yes ≡ cells
  pub no_many : length x.no ≡ cells
  pub key_many : length x.key ≡ key_words x.test
  pub test : IsTrue (test_fits x.test cells)
  pub some : 0 < cells
  pub old : x.old + cells ≤ n
  pub hit : x.hit < n

abbrev pub IsIndex : ℤ → Type 0
IsIndex (pos n) = Unit {0}
IsIndex (negsuc n) = ⊥

-- what keeps an access in range
pub record AccessCan (n cells : ℕ) (x : Access) (words : List ℤ) (registers : Registers) : Type 0 where
  pub there : x.array < length registers
  pub index : is_set (value_at words x.guard) ≡ true → IsIndex (value_at words x.index)
  pub inside : is_set (value_at words x.guard) ≡ true → nat_of (value_at words x.index) < length (get_or registers x.array [])
  pub each : (e : ℕ) → e < length (get_or registers x.array []) → length (get_or (get_or registers x.array []) e []) ≡ cells
  pub room : AccessRoom n cells x
