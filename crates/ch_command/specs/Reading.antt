-- What reading the files of a command gives.
use Rattle.std.specs.Prelude.{◌++◌, ◌-◌, ℕ, min, nat_le, List, [], ◌∷◌, length, sum_by, Option, Some, None, Result, Ok, Err, if◌then◌else◌}
use Rattle.ch_outside.specs.Shelf.{Files}
use Rattle.ch_command.specs.Lines.{missing_line, too_large_line}

-- the most bytes of a file, and of all files of a command
abbrev pub most_bytes : ℕ
most_bytes = 67108864

abbrev pub most_bytes_in_all : ℕ
most_bytes_in_all = 536870912

-- the most bytes of the next file, after so many bytes were read
abbrev pub limit_after : ℕ → ℕ
limit_after taken = min most_bytes (most_bytes_in_all - taken)

-- the bytes of a file of this name, or the line that refuses it
abbrev pub contents_of : List ℕ → ℕ → Option (List ℕ) → Result (List ℕ) (List ℕ)
contents_of name limit None = Err (missing_line name)
contents_of name limit (Some bytes) = if nat_le (length bytes) limit then Ok bytes else Err (too_large_line name)

-- how many bytes that is
abbrev pub taken : List (List ℕ) → ℕ
taken contents = sum_by length contents

-- what is read, or the line that refuses it
abbrev pub Contents : Type 0
Contents = Result (List (List ℕ)) (List ℕ)

-- after the bytes of a file
abbrev pub after : Result (List ℕ) (List ℕ) → (List ℕ → Contents) → Contents
after (Ok bytes) more = more bytes
after (Err line) more = Err line

-- the files of these names in turn, after those that were read: the bytes of all of them, or the line of the first that is refused
abbrev pub read_on : Files → List (List ℕ) → List (List ℕ) → Contents
read_on files read [] = Ok read
read_on files read (name ∷ names) = after (contents_of name (limit_after (taken read)) (files name)) (λ bytes. read_on files (read ++ bytes ∷ []) names)

abbrev pub read_all : Files → List (List ℕ) → Contents
read_all files names = read_on files [] names
