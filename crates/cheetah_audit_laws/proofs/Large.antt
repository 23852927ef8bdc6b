-- The files of a check are read, or one of them is too large.
use Rattle.std.proofs.Common.{◌≡◌, ◌∙◌, ◌⊎◌, ap, refl, inl, inr, ℕ, ◌+◌, ◌<◌, ◌≤◌, Bool, true, false, List, [], ◌∷◌, ◌++◌, map, length, Option, Some, None, Result, Ok, Err, arith}
use Rattle.std.specs.Prelude.{if◌then◌else◌, nat_le}
use Rattle.std.proofs.lemmas.Bool.{cases_lt}
use Rattle.std.proofs.lemmas.Bool.Decides.{nat_tests}
use Rattle.std.proofs.lemmas.List.Sums.{sum_by-cons}
use Rattle.ch_command.proofs.Readings.{taken_and}
use Rattle.ch_command.specs.Lines.{too_large_line}
use Rattle.ch_command.specs.Reading.{after, contents_of, limit_after, most_bytes, most_bytes_in_all, read_all, read_on, taken}
use Rattle.ch_lists.specs.Members.{Each, In}
use Rattle.ch_outside.specs.Shelf.{Files}
use Rattle.cheetah_audit_words.specs.Words.{profile_of}
use Rattle.cheetah_inputs.specs.Inputs.{listed, names_of}
use Rattle.cheetah_words.specs.Tables.{parts_in}
use Rattle.cheetah_audit_laws.specs.Checked.{Asked, IsKept, IsTooLarge, request_with, texts_in}

-- a file that is there
abbrev pub IsThere : Files → List ℕ → Type 0
IsThere files name = (bytes : List ℕ) × (files name ≡ Some bytes)

-- and has no more bytes than a file may have
abbrev pub IsSmall : Files → List ℕ → Type 0
IsSmall files name = (bytes : List ℕ) × (files name ≡ Some bytes) × (length bytes ≤ most_bytes)

pub record Overflows (files : Files) (read names : List (List ℕ)) : Type 0 where
  pub file : List ℕ
  pub named : In file names
  pub bytes : List ℕ
  pub is : files file ≡ Some bytes
  pub said : read_on files read names ≡ Err (too_large_line file)
  pub large : (most_bytes < length bytes) ⊎ (most_bytes_in_all < taken read + taken (texts_in files names))

past : (n size : ℕ) → nat_le size (limit_after n) ≡ false → (most_bytes < size) ⊎ (most_bytes_in_all < n + size)
past n size e =
    let more : limit_after n < size = grind (arith, nat_tests) in
    elim (cases_lt most_bytes size) [
      | inl large ↦ inl large
      | inr small ↦ inr (omega (arith, more, small))
    ]

module _ (files : Files) where
  step : (read : List (List ℕ)) (name bytes : List ℕ) (names : List (List ℕ)) (fits : Bool) → files name ≡ Some bytes → nat_le (length bytes) (limit_after (taken read)) ≡ fits
      → read_on files read (name ∷ names) ≡ after (if fits then Ok bytes else Err (too_large_line name)) (λ bytes. read_on files (read ++ bytes ∷ []) names)
  step read name bytes names fits is e = rw (is, e) refl

  sizes : (name bytes : List ℕ) (names : List (List ℕ)) → files name ≡ Some bytes → taken (texts_in files (name ∷ names)) ≡ length bytes + taken (texts_in files names)
  sizes name bytes names is = rw is (sum_by-cons length bytes (texts_in files names))

  pub read_or_large : (read names : List (List ℕ)) → Each (IsThere files) names → ((contents : List (List ℕ)) × (read_on files read names ≡ Ok contents)) ⊎ Overflows files read names
  read_or_large read [] there = inl (read, refl)
  read_or_large read (name ∷ names) there =
      let here = there name (inl refl) in
      by here.0 here.1 (nat_le (length here.0) (limit_after (taken read))) refl (read_or_large (read ++ here.0 ∷ []) names (λ file i. there file (inr i)))
    where
      by : (bytes : List ℕ) → files name ≡ Some bytes → (fits : Bool) → nat_le (length bytes) (limit_after (taken read)) ≡ fits
          → ((contents : List (List ℕ)) × (read_on files (read ++ bytes ∷ []) names ≡ Ok contents)) ⊎ Overflows files (read ++ bytes ∷ []) names
          → ((contents : List (List ℕ)) × (read_on files read (name ∷ names) ≡ Ok contents)) ⊎ Overflows files read (name ∷ names)
      by bytes is true e (inl rest) = inl (rest.0, step read name bytes names true is e ∙ rest.1)
      by bytes is true e (inr rest) = inr (record {
        file = rest.file;
        named = inr rest.named;
        bytes = rest.bytes;
        is = rest.is;
        said = step read name bytes names true is e ∙ rest.said;
        large = elim rest.large [
          | inl large ↦ inl large
          | inr all ↦ let more = taken_and read bytes in let size = sizes name bytes names is in inr (omega (arith, all, more, size))
        ];
      })
      by bytes is false e rest = inr (record {
        file = name;
        named = inl refl;
        bytes = bytes;
        is = is;
        said = step read name bytes names false is e;
        large = elim (past (taken read) (length bytes) e) [
          | inl large ↦ inl large
          | inr all ↦ let size = sizes name bytes names is in inr (omega (arith, all, size))
        ];
      })

  -- what is read is there and small
  pub read_small : (read names contents : List (List ℕ)) → read_on files read names ≡ Ok contents → Each (IsSmall files) names
  read_small read [] contents e = λ name i. absurd i
  read_small read (name ∷ names) contents e = by (files name) refl e (λ bytes. read_small (read ++ bytes ∷ []) names contents)
    where
      more : List ℕ → Result (List (List ℕ)) (List ℕ)
      more bytes = read_on files (read ++ bytes ∷ []) names

      fits_in : (size n : ℕ) → nat_le size (limit_after n) ≡ true → size ≤ most_bytes
      fits_in size n e = let less : size ≤ limit_after n = grind (arith, nat_tests) in omega (arith, less)

      by_size : (bytes : List ℕ) (fits : Bool) → files name ≡ Some bytes → nat_le (length bytes) (limit_after (taken read)) ≡ fits → after (if fits then Ok bytes else Err (too_large_line name)) more ≡ Ok contents
          → (more bytes ≡ Ok contents → Each (IsSmall files) names) → Each (IsSmall files) (name ∷ names)
      by_size bytes true is fits e ih file i = elim i [
        | inl same ↦ (bytes, ap files same ∙ is, fits_in (length bytes) (taken read) fits)
        | inr j ↦ ih e file j
      ]
      by_size bytes false is fits e ih file i = absurd cc

      by : (o : Option (List ℕ)) → files name ≡ o → after (contents_of name (limit_after (taken read)) o) more ≡ Ok contents → ((bytes : List ℕ) → more bytes ≡ Ok contents → Each (IsSmall files) names)
          → Each (IsSmall files) (name ∷ names)
      by None is e ih = absurd cc
      by (Some bytes) is e ih = by_size bytes (nat_le (length bytes) (limit_after (taken read))) is refl e (ih bytes)

-- one file among the others

apart : (profile : Option (List ℕ)) (x name : List ℕ) (parts : List (List ℕ)) → In name (listed profile ++ listed (Some x) ++ parts) → (name ≡ x) ⊎ In name (listed profile ++ parts)
apart None x name parts (inl e) = inl e
apart None x name parts (inr i) = inr i
apart (Some p) x name parts (inl e) = inr (inl e)
apart (Some p) x name parts (inr (inl e)) = inl e
apart (Some p) x name parts (inr (inr i)) = inr (inr i)

among : (profile : Option (List ℕ)) (x name : List ℕ) (parts : List (List ℕ)) → In name (listed profile ++ parts) → In name (listed profile ++ listed (Some x) ++ parts)
among None x name parts i = inr i
among (Some p) x name parts (inl e) = inl e
among (Some p) x name parts (inr i) = inr (inr i)

module _ (asked : Asked) (schedule trace text : List ℕ) (before after : Files) (kept : IsKept asked trace text before after) (contents : List (List ℕ))
    (read : read_all before (names_of (request_with asked schedule)) ≡ Ok contents) where
  abbrev parts : List (List ℕ)
  parts = map (λ part. part.file) (parts_in asked.tables)

  -- it is the trace, or there and small
  stands : (name : List ℕ) → In name (names_of (request_with asked trace)) → (name ≡ trace) ⊎ IsSmall after name
  stands name i = elim (apart (profile_of asked.profile) trace name parts i) [
    | inl same ↦ inl same
    | inr other ↦
        let small = read_small before [] (names_of (request_with asked schedule)) contents read name (among (profile_of asked.profile) schedule name parts other) in
        inr (small.0, kept.others name other ∙ small.1, small.2)
  ]

  there : Each (IsThere after) (names_of (request_with asked trace))
  there name i = elim (stands name i) [
    | inl same ↦ (text, ap after same ∙ kept.holds)
    | inr small ↦ (small.0, small.1)
  ]

  some_same : (a b : List ℕ) (o : Option (List ℕ)) → o ≡ Some a → o ≡ Some b → a ≡ b
  some_same a b o p q = cc

  pub checked_or_large : ((checked : List (List ℕ)) × (read_all after (names_of (request_with asked trace)) ≡ Ok checked))
      ⊎ ((file : List ℕ) × IsTooLarge asked trace text after file × (read_all after (names_of (request_with asked trace)) ≡ Err (too_large_line file)))
  checked_or_large = elim (read_or_large after [] (names_of (request_with asked trace)) there) [
    | inl all ↦ inl all
    | inr over ↦ inr (
      over.file,
      record {
        named = over.named;
        large = elim over.large [
          | inl large ↦ elim (stands over.file over.named) [
            | inl same ↦
                let bytes : over.bytes ≡ text = some_same over.bytes text (after over.file) over.is (ap after same ∙ kept.holds) in
                let size = ap length bytes in inl (omega (arith, large, size))
            | inr small ↦
                let bytes : over.bytes ≡ small.0 = some_same over.bytes small.0 (after over.file) over.is small.1 in
                let size = ap length bytes in let few = small.2 in absurd (omega (arith, large, size, few))
          ]
          | inr all ↦ inr (omega (arith, all))
        ];
      },
      over.said,
    )
  ]
