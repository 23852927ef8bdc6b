-- Texts are read as lines as they are spelled, and only so.
use Rattle.std.proofs.Common.{◌≡◌, ◌∙◌, ℕ, List, [], ◌∷◌, ◌++◌, Some, refl, sym, ap, subst, inl, inr, append_assoc}
use Rattle.std.specs.Prelude.{option_map, ◌==◌}
use Rattle.std.specs.List.{join_with_byte, slice_split}
use Rattle.std.proofs.lemmas.List.Splits.{slice_split_at, join_with_byte-slice_split}
use Rattle.ch_lists.specs.Members.{Each}
use Rattle.ch_trace_lines.specs.Range.{IsLine}
use Rattle.ch_trace_lines.specs.Reading.{line_at, lines_of, lines_in}
use Rattle.ch_trace_lines.specs.Spelling.{line_text, lines_text}
use Rattle.ch_trace_lines.specs.declared.line.Line.{Line}
use Rattle.ch_trace_lines.proofs.Options.{bound, mapped}
use Rattle.ch_trace_lines.proofs.Bytes.{no_feeds}
use Rattle.ch_trace_lines.proofs.Lines.{line_is, line_back, line_inner}

abbrev Spells : List (List ℕ) → List Line → Type 0
Spells parts lines = (join_with_byte 10 parts ≡ lines_text lines) × Each IsLine lines

none_spelled : Each IsLine []
none_spelled l i = absurd i

more_spelled : (l : Line) (ls : List Line) → IsLine l → Each IsLine ls → Each IsLine (l ∷ ls)
more_spelled l ls h k x (inl e) = subst IsLine (sym e) h
more_spelled l ls h k x (inr i) = k x i

parts_is : (parts : List (List ℕ)) (lines : List Line) → lines_of parts ≡ Some lines → Spells parts lines
parts_is [] lines e = cc
parts_is ([] ∷ []) lines e = let same : [] ≡ lines = cc in subst (Spells ([] ∷ [])) same (refl, none_spelled)
parts_is ((b ∷ bs) ∷ []) lines e = cc
parts_is (text ∷ next ∷ texts) lines e =
    let l = bound (line_at text) (λ l. option_map (λ ls. l ∷ ls) (lines_of (next ∷ texts))) lines e in
    let m = mapped (λ ls. l.0 ∷ ls) (lines_of (next ∷ texts)) lines l.2 in
    let first = line_is text l.0 l.1 in
    let more = parts_is (next ∷ texts) m.0 m.1 in
    let said : join_with_byte 10 (text ∷ next ∷ texts) ≡ lines_text (l.0 ∷ m.0) =
    ap (λ (t : List ℕ). t ++ 10 ∷ join_with_byte 10 (next ∷ texts)) first.0 ∙ (ap (λ (t : List ℕ). line_text l.0 ++ 10 ∷ t) more.0 ∙ sym (append_assoc (line_text l.0) (10 ∷ []) (lines_text m.0))) in
    let all : Spells (text ∷ next ∷ texts) (l.0 ∷ m.0) = (said, more_spelled l.0 m.0 first.1 more.1) in
    subst (Spells (text ∷ next ∷ texts)) m.2 all

pub text_is : (text : List ℕ) (lines : List Line) → lines_in text ≡ Some lines → (text ≡ lines_text lines) × Each IsLine lines
text_is text lines e =
    let r = parts_is (slice_split (λ b. b == 10) text) lines e in
    (sym (join_with_byte-slice_split 10 text) ∙ r.0, r.1)

onto : (text : List ℕ) (parts : List (List ℕ)) (l : Line) (lines : List Line) → line_at text ≡ Some l → lines_of parts ≡ Some lines → lines_of (text ∷ parts) ≡ Some (l ∷ lines)
onto text [] l lines e h = cc
onto text (next ∷ texts) l lines e h = rw (e, h) refl

pub text_back : (lines : List Line) → Each IsLine lines → lines_in (lines_text lines) ≡ Some lines
text_back [] h = refl
text_back (l ∷ ls) h =
    let inner = no_feeds (line_text l) (line_inner l (h l (inl refl))) in
    let cut : slice_split (λ b. b == 10) (lines_text (l ∷ ls)) ≡ line_text l ∷ slice_split (λ b. b == 10) (lines_text ls) =
    ap (slice_split (λ b. b == 10)) (append_assoc (line_text l) (10 ∷ []) (lines_text ls)) ∙ slice_split_at (λ b. b == 10) (line_text l) 10 (lines_text ls) inner refl in
    ap lines_of cut ∙ onto (line_text l) (slice_split (λ b. b == 10) (lines_text ls)) l ls (line_back l (h l (inl refl))) (text_back ls (λ x i. h x (inr i)))
