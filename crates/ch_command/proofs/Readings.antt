-- One read among the reads of several files.
use Rattle.std.proofs.Common.{◌≡◌, ◌≤◌, ◌<◌, ◌+◌, ◌++◌, ◌∙◌, ℕ, List, [], ◌∷◌, All, Contains, add-one, ap, drop, drop-cons, get_or, inl, inr, length, map, Option, Some, None, Result, Ok, Err, refl, sym, arith, rules}
use Rattle.std.specs.Option.{IfSome}
use Rattle.std.proofs.lemmas.List.{get_or-map, length-map}
use Rattle.std.proofs.lemmas.List.Elements.{All-append}
use Rattle.std.proofs.lemmas.List.Sums.{sum_by-append}
use Rattle.ch_outside.specs.Faults.{Rose}
use Rattle.ch_outside.specs.Shelf.{Files}
use Rattle.ch_command.specs.Reading.{after, contents_of, limit_after, most_bytes, read_all, read_on, taken}
use Rattle.ch_command.specs.Verdict.{ReadsFile, ReadsFiles}
use Rattle.ch_command.specs.declared.verdict.Verdict.{Verdict}
use Rattle.ch_command.specs.declared.verdict.Verdict.TheVariants.{Said, ReadFault, Memory}

pub later_rose : (before middle now : ℕ) → before ≤ middle → Rose middle now → Rose before now
later_rose before middle now le (inl lt) = inl (omega arith)
later_rose before middle now le (inr end) = inr end

-- the name at a place is the first of those that are left, and one of all
pub next_name : {S : Type 0} (f : S → List ℕ) (xs : List S) (i : ℕ) (d : S) → i < length xs → map f (drop i xs) ≡ f (get_or xs i d) ∷ map f (drop (i + 1) xs)
next_name f xs i d lt = rw (add-one i, drop-cons xs i d lt) refl

pub named : {S : Type 0} (f : S → List ℕ) (xs : List S) (i : ℕ) (d : S) → i < length xs → Contains (map f xs) (f (get_or xs i d))
named f xs i d lt = (i, rw (length-map xs f) lt, get_or-map f xs i d (f (get_or xs i d)) lt)

-- what reading them from here on gives, by what the next read gives
read_here : (files : Files) (read : List (List ℕ)) (name : List ℕ) (names left : List (List ℕ)) (limit : ℕ) (found : Result (List ℕ) (List ℕ)) → limit ≡ limit_after (taken read) → left ≡ name ∷ names →
    contents_of name limit (files name) ≡ found → read_on files read left ≡ after found (λ bytes. read_on files (read ++ bytes ∷ []) names)
read_here files read name names left limit found l e is = rw (e, sym l, is) refl

pub goes_on : (told now_told : Option Files) (read : List (List ℕ)) (name : List ℕ) (names left all : List (List ℕ)) (limit : ℕ) (bytes : List ℕ) → now_told ≡ told → limit ≡ limit_after (taken read) → left ≡ name ∷ names →
    IfSome told (λ files. read_on files read left ≡ read_all files all) → IfSome now_told (λ files. contents_of name limit (files name) ≡ Ok bytes) → IfSome told (λ files. read_on files (read ++ bytes ∷ []) names ≡ read_all files all)
goes_on None now_told read name names left all limit bytes t l e so is = tt
goes_on (Some files) now_told read name names left all limit bytes t l e so is =
    let here : contents_of name limit (files name) ≡ Ok bytes = rw t at is in
    sym (read_here files read name names left limit (Ok bytes) l e here) ∙ so

ends : (told now_told : Option Files) (read : List (List ℕ)) (name : List ℕ) (names left all : List (List ℕ)) (limit : ℕ) (line : List ℕ) → now_told ≡ told → limit ≡ limit_after (taken read) → left ≡ name ∷ names →
    IfSome told (λ files. read_on files read left ≡ read_all files all) → IfSome now_told (λ files. contents_of name limit (files name) ≡ Err line) → IfSome told (λ files. read_all files all ≡ Err line)
ends None now_told read name names left all limit line t l e so is = tt
ends (Some files) now_told read name names left all limit line t l e so is =
    let here : contents_of name limit (files name) ≡ Err line = rw t at is in
    sym so ∙ read_here files read name names left limit (Err line) l e here

pub stops : (told now_told : Option Files) (before middle now : ℕ) (read : List (List ℕ)) (name : List ℕ) (names left all : List (List ℕ)) (limit : ℕ) (why : Verdict) → now_told ≡ told → before ≤ middle → limit ≡ limit_after (taken read) →
    left ≡ name ∷ names → Contains all name → IfSome told (λ files. read_on files read left ≡ read_all files all) →
    ReadsFile now_told (record { before = middle; now = now }) name limit (Err why) → ReadsFiles told (record { before = before; now = now }) all (Err why)
stops told now_told before middle now read name names left all limit (Said outcome) t le l e one so is = (is.0, ends told now_told read name names left all limit outcome.err t l e so is.1)
stops told now_told before middle now read name names left all limit (ReadFault line) t le l e one so is = (later_rose before middle now le is.0, record { file = name; named = one; said = is.1 })
stops told now_told before middle now read name names left all limit Memory t le l e one so is = tt

pub small_and : (contents : List (List ℕ)) (bytes : List ℕ) (limit n : ℕ) → limit ≡ limit_after n → All (λ b. length b ≤ most_bytes) contents → length bytes ≤ limit → All (λ b. length b ≤ most_bytes) (contents ++ bytes ∷ [])
small_and contents bytes limit n l all le =
    let here : length bytes ≤ most_bytes = omega (arith, l, le) in
    All-append (λ b. length b ≤ most_bytes) contents (bytes ∷ []) all (search (rules, here))

pub taken_and : (contents : List (List ℕ)) (bytes : List ℕ) → taken (contents ++ bytes ∷ []) ≡ taken contents + length bytes
taken_and contents bytes =
    let none : 0 + length bytes ≡ length bytes = omega arith in
    sum_by-append length contents (bytes ∷ []) ∙ ap (λ n. taken contents + n) none
