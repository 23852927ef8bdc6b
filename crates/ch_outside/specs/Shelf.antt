-- What a shelf answers.
use Rattle.std.specs.Prelude.{◌≡◌, ℕ, ◌+◌, ◌<◌, ◌≤◌, List, length, Option, IfSome, IsSomeAnd, Some, None, Result, Ok, Err}
use Rattle.ch_outside.specs.Faults.{Rose, one_more}
use Rattle.ch_outside.specs.declared.shelf.ShelfError.{ShelfError}
use Rattle.ch_outside.specs.declared.shelf.ShelfError.TheVariants.{Missing, Failed, TooLarge, Memory}

-- the bytes of each file, by its name
abbrev pub Files : Type 0
Files = List ℕ → Option (List ℕ)

-- what a call may answer, and why: of what is told, the name and the limit, the faults before and
-- after, and the answer
abbrev pub Reads : Option Files → List ℕ → ℕ → ℕ → ℕ → Result (List ℕ) ShelfError → Type 0
Reads told name limit before now (Ok bytes) = (length bytes ≤ limit) × IfSome told (λ files. files name ≡ Some bytes)
Reads told name limit before now (Err Missing) = (now ≡ before) × IfSome told (λ files. files name ≡ None)
Reads told name limit before now (Err Failed) = Rose before now
Reads told name limit before now (Err (TooLarge taken)) =
    (taken ≡ limit + 1) × (now ≡ before) × IfSome told (λ files. IsSomeAnd (files name) (λ bytes. limit < length bytes))
Reads told name limit before now (Err Memory) = Unit {0}

-- what reading a file to its end answers, where the file's bytes are known: all of them, or that
-- they are more than the limit
abbrev pub ReadsToEnd : Option (List ℕ) → ℕ → Result (List ℕ) ShelfError → Type 0
ReadsToEnd file limit (Ok bytes) = (length bytes ≤ limit) × IfSome file (λ all. bytes ≡ all)
ReadsToEnd file limit (Err Missing) = ⊥
ReadsToEnd file limit (Err Failed) = Unit {0}
ReadsToEnd file limit (Err (TooLarge taken)) = (taken ≡ limit + 1) × IfSome file (λ all. limit < length all)
ReadsToEnd file limit (Err Memory) = Unit {0}

-- a count that grows at each failure and nowhere else, after this answer
abbrev pub faults_after : Result (List ℕ) ShelfError → ℕ → ℕ
faults_after (Ok bytes) before = before
faults_after (Err Missing) before = before
faults_after (Err Failed) before = one_more before
faults_after (Err (TooLarge taken)) before = before
faults_after (Err Memory) before = before
