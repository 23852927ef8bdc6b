-- What is read of the files of words that check, by what was read of those of the words that wrote.
use Rattle.std.proofs.Common.{◌≡◌, ◌∙◌, ap, sym, refl, subst, ℕ, Bool, true, false, inl, inr, List, [], ◌∷◌, ◌++◌, map, length, Option, Some, None, Result, Ok, Err}
use Rattle.std.specs.Prelude.{if◌then◌else◌, nat_le, unwrap_or, IsSome}
use Rattle.std.proofs.lemmas.List.{append-nil, append_assoc}
use Rattle.ch_command.specs.Lines.{too_large_line}
use Rattle.ch_command.specs.Reading.{after, contents_of, limit_after, read_all, read_on, taken}
use Rattle.ch_lists.specs.Members.{Each}
use Rattle.ch_outside.specs.Shelf.{Files}
use Rattle.cheetah_audit_meaning.specs.Meaning.{other_contents, trace_text, without_schedule}
use Rattle.cheetah_audit_words.specs.Words.{profile_of}
use Rattle.cheetah_inputs.specs.Inputs.{behind, first_text, listed, names_of, part_texts, profile_text}
use Rattle.cheetah_words.specs.Tables.{parts_in}
use Rattle.cheetah_words.specs.Words.{Request}
use Rattle.cheetah_audit_laws.specs.Checked.{Asked, IsKept, request_with, texts_in}

-- what a file holds
abbrev text_in : Files → List ℕ → List ℕ
text_in files name = unwrap_or (files name) []

read_texts : (files : Files) (read names contents : List (List ℕ)) → read_on files read names ≡ Ok contents → contents ≡ read ++ texts_in files names
read_texts files read [] contents e = let same : read ≡ contents = cc in sym same ∙ sym (append-nil read)
read_texts files read (name ∷ names) contents e =
    by_file (files name) refl e (λ bytes. read_texts files (read ++ bytes ∷ []) names contents)
  where
    more : List ℕ → Result (List (List ℕ)) (List ℕ)
    more bytes = read_on files (read ++ bytes ∷ []) names

    by_size : (bytes : List ℕ) (fits : Bool) → files name ≡ Some bytes → after (if fits then Ok bytes else Err (too_large_line name)) more ≡ Ok contents
        → (more bytes ≡ Ok contents → contents ≡ (read ++ bytes ∷ []) ++ texts_in files names) → contents ≡ read ++ text_in files name ∷ texts_in files names
    by_size bytes true is e ih = ih e ∙ (append_assoc read (bytes ∷ []) (texts_in files names) ∙ ap (λ o. read ++ unwrap_or o [] ∷ texts_in files names) (sym is))
    by_size bytes false is e ih = absurd cc

    by_file : (o : Option (List ℕ)) → files name ≡ o → after (contents_of name (limit_after (taken read)) o) more ≡ Ok contents
        → ((bytes : List ℕ) → more bytes ≡ Ok contents → contents ≡ (read ++ bytes ∷ []) ++ texts_in files names) → contents ≡ read ++ text_in files name ∷ texts_in files names
    by_file None is e ih = absurd cc
    by_file (Some bytes) is e ih = by_size bytes (nat_le (length bytes) (limit_after (taken read))) is e (ih bytes)

pub all_texts : (files : Files) (names contents : List (List ℕ)) → read_all files names ≡ Ok contents → contents ≡ texts_in files names
all_texts files names contents e = read_texts files [] names contents e

-- the files that are kept have the same texts

same_texts : (before after : Files) (names : List (List ℕ)) → Each (λ file. after file ≡ before file) names → texts_in after names ≡ texts_in before names
same_texts before after [] same = refl
same_texts before after (name ∷ names) same =
    let here : after name ≡ before name = same name (inl refl) in
    λ i. unwrap_or (here i) [] ∷ same_texts before after names (λ file i. same file (inr i)) i

module _ (before after : Files) (trace : List ℕ) where
  -- the texts of the words that wrote, and of those that check
  abbrev wrote : Option (List ℕ) → Option (List ℕ) → List (List ℕ) → List (List ℕ)
  wrote profile schedule parts = texts_in before (listed profile ++ listed schedule ++ parts)

  abbrev checks : Option (List ℕ) → List (List ℕ) → List (List ℕ)
  checks profile parts = texts_in after (listed profile ++ listed (Some trace) ++ parts)

  -- those that are read as inputs
  abbrev besides : Option (List ℕ) → List (List ℕ) → List (List ℕ)
  besides profile parts = listed (first_text profile (checks profile parts)) ++ behind (Some trace) (behind profile (checks profile parts))

  trace_here : (profile : Option (List ℕ)) (parts : List (List ℕ)) → unwrap_or (first_text (Some trace) (behind profile (checks profile parts))) [] ≡ text_in after trace
  trace_here None parts = refl
  trace_here (Some p) parts = refl

  profile_here : (profile schedule : Option (List ℕ)) (parts : List (List ℕ)) → Each (λ file. after file ≡ before file) (listed profile ++ listed None ++ parts)
      → first_text profile (besides profile parts) ≡ first_text profile (wrote profile schedule parts)
  profile_here None schedule parts same = refl
  profile_here (Some p) schedule parts same = let here : after p ≡ before p = same p (inl refl) in ap (λ o. Some (unwrap_or o [])) here

  parts_here : (profile schedule : Option (List ℕ)) (parts : List (List ℕ)) → IsSome schedule → Each (λ file. after file ≡ before file) (listed profile ++ listed None ++ parts)
      → behind profile (besides profile parts) ≡ behind schedule (behind profile (wrote profile schedule parts))
  parts_here None (Some s) parts some same = same_texts before after parts same
  parts_here (Some p) (Some s) parts some same = same_texts before after parts (λ file i. same file (inr i))
  parts_here None None parts some same = let wrong : false ≡ true = some in absurd cc
  parts_here (Some p) None parts some same = let wrong : false ≡ true = some in absurd cc

no_schedule : (profile : Option (List ℕ)) (parts : List (List ℕ)) → listed profile ++ listed None ++ parts ≡ listed profile ++ parts
no_schedule None parts = refl
no_schedule (Some p) parts = refl

-- the same of the files of words that are read

module _ (asked : Asked) (schedule trace text : List ℕ) (before after : Files) (kept : IsKept asked trace text before after)
    (contents checked : List (List ℕ)) (read : read_all before (names_of (request_with asked schedule)) ≡ Ok contents) (again : read_all after (names_of (request_with asked trace)) ≡ Ok checked) where
  abbrev request : Request
  request = request_with asked schedule

  abbrev checking : Request
  checking = request_with asked trace

  abbrev parts : List (List ℕ)
  parts = map (λ part. part.file) (parts_in asked.tables)

  others : Each (λ file. after file ≡ before file) (listed (profile_of asked.profile) ++ listed None ++ parts)
  others = subst (Each (λ file. after file ≡ before file)) (sym (no_schedule (profile_of asked.profile) parts)) kept.others

  is_read : contents ≡ wrote before after trace request.profile request.schedule parts
  is_read = all_texts before (names_of request) contents read

  is_checked : checked ≡ checks before after trace request.profile parts
  is_checked = all_texts after (names_of checking) checked again

  pub trace_is : trace_text checking checked ≡ text
  trace_is = ap (trace_text checking) is_checked ∙ (trace_here before after trace request.profile parts ∙ ap (λ o. unwrap_or o []) kept.holds)

  pub same_profile : profile_text (without_schedule checking) (other_contents checking checked) ≡ profile_text request contents
  same_profile =
      ap (λ texts. first_text request.profile (other_contents checking texts)) is_checked
      ∙ (profile_here before after trace request.profile request.schedule parts others ∙ ap (first_text request.profile) (sym is_read))

  pub same_parts : part_texts (without_schedule checking) (other_contents checking checked) ≡ part_texts request contents
  same_parts =
      ap (λ texts. behind request.profile (other_contents checking texts)) is_checked
      ∙ (parts_here before after trace request.profile request.schedule parts refl others ∙ ap (λ texts. behind request.schedule (behind request.profile texts)) (sym is_read))
