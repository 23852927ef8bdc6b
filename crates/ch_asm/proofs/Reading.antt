-- A text that is read line by line.
use Rattle.std.proofs.Common.{◌≡◌, ℕ, ◌+◌, List, [], ◌∷◌, ◌++◌, length, Some, None, refl, sym, ap, ◌∙◌, append_assoc, map, inl, inr, length-append}
use Rattle.std.specs.Prelude.{min}
use Rattle.std.specs.declared.result.Result.TheVariants.{Err}
use Rattle.std.proofs.lemmas.List.{append-nil, length-map}
use Rattle.ch_ir.specs.declared.program.Program.{Program}
use Rattle.ch_asm_lines.specs.Spelling.{line_text, ended}
use Rattle.ch_asm_lines.specs.Reading.{cut_of, line_of}
use Rattle.ch_asm_lines.specs.declared.line.Line.{Line}
use Rattle.ch_asm_lines.proofs.Bytes.{cut_is, cut_inner, none_inner}
use Rattle.ch_asm_lines.proofs.LineLaws.{line_is}
use Rattle.ch_asm_lines.proofs.Options.{bound}
use Rattle.ch_asm.specs.declared.error.AsmError.{AsmError}
use Rattle.ch_asm.specs.declared.error.AsmError.TheVariants as error
use Rattle.ch_asm.specs.declared.place.Place.{Place}
use Rattle.ch_asm.specs.declared.place.Place.TheVariants.{Ended}
use Rattle.ch_asm.specs.Text.{program_lines, program_text, spelled, IsProgram}
use Rattle.ch_asm.specs.Refusal.{IsInner, IsBadLine, Refuses}
use Rattle.ch_asm.specs.Steps.{step, step_text, Steps}
use Rattle.ch_asm.proofs.Places.{said, IsPlace, step_said, step_fits}
use Rattle.ch_asm.proofs.Texts.{spelled_both}
use Rattle.ch_asm.proofs.Refusals.{place_begins, no_step, at_end, bad_is_none}

-- How far a text was read: the lines that lead to a place, and the rest.
pub record IsRead (text : List ℕ) (place : Place) (rest : List ℕ) : Type 0 where
  pub whole : text ≡ spelled (said place) ++ rest
  pub fits : IsPlace place

-- one line more
pub record OneMore (text : List ℕ) (place next : Place) (more : List ℕ) : Type 0 where
  pub read : IsRead text next more
  pub longer : length (said next) ≡ length (said place) + 1

pub one_more : (text : List ℕ) (place next : Place) (first more rest : List ℕ) → IsRead text place rest → cut_of 10 rest ≡ Some (first, more) → step_text place first ≡ Some next → OneMore text place next more
unfolding step_text
one_more text place next first more rest read parts e =
    let b = bound (line_of first) (step place) next e in
    let l : Line = b.0 in
    let is = line_is first l b.1 in
    let longer = step_said place l next b.2 in
    record {
      read = record {
        whole =
            read.whole
            ∙ ap (λ (t : List ℕ). spelled (said place) ++ t) (cut_is 10 rest (first, more) parts ∙ ap (λ (t : List ℕ). t ++ 10 ∷ more) is.0 ∙ sym (append_assoc (line_text l) (10 ∷ []) more))
            ∙ sym (append_assoc (spelled (said place)) (ended (line_text l)) more)
            ∙ ap (λ (t : List ℕ). (spelled (said place) ++ t) ++ more) (sym (append-nil (ended (line_text l))))
            ∙ ap (λ (t : List ℕ). t ++ more) (sym (spelled_both (said place) (l ∷ [])) ∙ ap spelled (sym longer));
        fits = step_fits place l next b.2 read.fits is.1;
      };
      longer = ap length longer ∙ length-append (said place) (l ∷ []);
    }

-- a line to which no step leads
pub bad_line : (text : List ℕ) (place : Place) (first more rest : List ℕ) → IsRead text place rest → cut_of 10 rest ≡ Some (first, more) → step_text place first ≡ None → IsBadLine text (length (said place) + 1)
bad_line text place first more rest read parts none = record {
  before = map line_text (said place);
  rest = rest;
  whole = read.whole;
  place = ap (λ n. n + 1) (sym (length-map (said place) line_text));
  begins = place_begins place read.fits;
  ends = inl (record {
    line = first;
    more = more;
    inner = cut_inner 10 rest (first, more) parts;
    comes = cut_is 10 rest (first, more) parts;
    begins_none = no_step place first read.fits none;
  });
}

-- no line feed comes, and the text is not at its end
pub bad_end : (text : List ℕ) (place : Place) (rest : List ℕ) → IsRead text place rest → cut_of 10 rest ≡ None → ((p : Program) → place ≡ Ended p → rest ≡ [] → ⊥) → IsBadLine text (length (said place) + 1)
bad_end text place rest read none open_end =
    let inner : IsInner rest = none_inner 10 rest none in
    record {
      before = map line_text (said place);
      rest = rest;
      whole = read.whole;
      place = ap (λ n. n + 1) (sym (length-map (said place) line_text));
      begins = place_begins place read.fits;
      ends = inr (record {
        inner = inner;
        is_none = λ p h e. let end = at_end place text rest p read.fits read.whole inner h e in open_end p end.0 end.1;
      });
    }

-- what a step that fails says
pub step_refuses : (text : List ℕ) (place : Place) (first more rest : List ℕ) (line : ℕ) (e : AsmError) → IsRead text place rest → cut_of 10 rest ≡ Some (first, more)
    → line ≡ min (length (said place) + 1) 4294967295 → Steps (step_text place first) line (Err e) → Refuses text e
step_refuses text place first more rest line (error.Line at) read parts number s =
    (length (said place) + 1, bad_line text place first more rest read parts s.0, s.1 ∙ number)
step_refuses text place first more rest line error.Memory read parts number s = tt

-- what is refused is no program's text
pub refused_only : (text : List ℕ) (e : AsmError) → Refuses text e → (p : Program) → IsProgram p → text ≡ program_text p → e ≡ error.Memory
refused_only text (error.Line line) r p h t = absurd (bad_is_none text r.0 p r.1 h t)
refused_only text error.Memory r p h t = refl

-- a whole text
pub read_whole : (text : List ℕ) (p : Program) → IsRead text (Ended p) [] → IsProgram p × (text ≡ program_text p)
unfolding program_text program_lines
read_whole text p read = (read.fits, read.whole ∙ append-nil (spelled (said (Ended p))))
