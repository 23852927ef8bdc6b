-- A text that is refused is no program's, and a text is one program's.
use Rattle.std.proofs.Common.{◌≡◌, ℕ, List, [], ◌∷◌, ◌++◌, length, Option, Some, None, refl, sym, ap, ◌∙◌, subst, append_assoc, map, inl, inr, arith, length-append}
use Rattle.std.specs.Prelude.{option_and_then, ◌==◌}
use Rattle.std.specs.List.{slice_split, AllByRecursion}
use Rattle.std.proofs.lemmas.List.{append-nil, map-append}
use Rattle.ch_ir.specs.declared.program.Program.{Program}
use Rattle.ch_asm_lines.specs.Spelling.{line_text}
use Rattle.ch_asm_lines.specs.Range.{IsLine}
use Rattle.ch_asm_lines.specs.declared.line.Line.{Line}
use Rattle.ch_asm_lines.proofs.Bytes.{cut_back, cut_none}
use Rattle.ch_asm_lines.proofs.Lists.{split_cut, split_whole}
use Rattle.ch_asm_lines.proofs.ListLaws.{split_some}
use Rattle.ch_asm_lines.proofs.LineLaws.{line_back, line_inner}
use Rattle.ch_asm.specs.declared.place.Place.{Place}
use Rattle.ch_asm.specs.declared.place.Place.TheVariants.{Start, Ended}
use Rattle.ch_asm.specs.Text.{lines_of, program_lines, program_text, lines_text, spelled, IsProgram}
use Rattle.ch_asm.specs.Refusal.{Begin, IsInner, IsBadLine}
use Rattle.ch_asm.specs.Steps.{step, step_text}
use Rattle.ch_asm.proofs.Places.{said, IsPlace, completes, program_fits, place_fits}
use Rattle.ch_asm.proofs.Walks.{walk, said_walks}

-- the place to which texts lead
abbrev walk_texts : Place → List (List ℕ) → Option Place
walk_texts place [] = Some place
walk_texts place (t ∷ ts) = option_and_then (λ next. walk_texts next ts) (step_text place t)

over : (next : Place) (ts b : List (List ℕ)) (o : Option Place) → ((p : Place) → walk_texts p ts ≡ Some next → walk_texts p (ts ++ b) ≡ walk_texts next b)
    → option_and_then (λ p. walk_texts p ts) o ≡ Some next → option_and_then (λ p. walk_texts p (ts ++ b)) o ≡ walk_texts next b
over next ts b None on e = cc
over next ts b (Some p) on e = on p e

texts_on : (place next : Place) (a b : List (List ℕ)) → walk_texts place a ≡ Some next → walk_texts place (a ++ b) ≡ walk_texts next b
texts_on place next [] b e = let same : place ≡ next = cc in ap (λ p. walk_texts p b) same
texts_on place next (t ∷ ts) b e = over next ts b (step_text place t) (λ p h. texts_on p next ts b h) e

step_line : (place : Place) (l : Line) → IsLine l → step_text place (line_text l) ≡ step place l
unfolding step_text
step_line place l h = ap (option_and_then (step place)) (line_back l h)

each_walk : (ls : List Line) (o : Option Place) → ((p : Place) → walk_texts p (map line_text ls) ≡ walk p ls)
    → option_and_then (λ next. walk_texts next (map line_text ls)) o ≡ option_and_then (λ next. walk next ls) o
each_walk ls None same = refl
each_walk ls (Some p) same = same p

texts_walk : (place : Place) (ls : List Line) → AllByRecursion IsLine ls → walk_texts place (map line_text ls) ≡ walk place ls
texts_walk place [] h = refl
texts_walk place (l ∷ ls) h =
    ap (option_and_then (λ next. walk_texts next (map line_text ls))) (step_line place l h.0)
    ∙ each_walk ls (step place l) (λ p. texts_walk p ls h.1)

place_walks : (place : Place) → IsPlace place → walk_texts Start (map line_text (said place)) ≡ Some place
place_walks place h = texts_walk Start (said place) (place_fits place h) ∙ said_walks place

program_walks : (p : Program) → IsProgram p → walk_texts Start (program_lines p) ≡ Some (Ended p)
unfolding program_lines
program_walks p h = place_walks (Ended p) h

-- the lines that lead to a place begin a program's text
pub place_begins : (place : Place) → IsPlace place → Begin (map line_text (said place))
unfolding program_lines
place_begins place h =
    let c = completes place h in
    record {
      program = c.program;
      is_program = c.is_program;
      others = map line_text c.others;
      whole = ap (map line_text) c.whole ∙ map-append line_text (said place) c.others;
    }

-- with a text to which no step leads they begin none
pub no_step : (place : Place) (t : List ℕ) → IsPlace place → step_text place t ≡ None → Begin (map line_text (said place) ++ t ∷ []) → ⊥
no_step place t h none b =
    let before : List (List ℕ) = map line_text (said place) in
    let other : walk_texts Start (program_lines b.program) ≡ None =
    ap (walk_texts Start) (b.whole ∙ append_assoc before (t ∷ []) b.others)
    ∙ texts_on Start place before (t ∷ b.others) (place_walks place h)
    ∙ ap (option_and_then (λ next. walk_texts next b.others)) none in
    let walked = program_walks b.program b.is_program in
    cc

-- line feeds

lines_inner : (ls : List Line) → AllByRecursion IsLine ls → AllByRecursion IsInner (map line_text ls)
lines_inner [] h = tt
lines_inner (l ∷ ls) h = (line_inner l h.0, lines_inner ls h.1)

place_inner : (place : Place) → IsPlace place → AllByRecursion IsInner (map line_text (said place))
place_inner place h = lines_inner (said place) (place_fits place h)

program_inner : (p : Program) → IsProgram p → AllByRecursion IsInner (program_lines p)
unfolding program_lines
program_inner p h = lines_inner (lines_of p) (program_fits p h)

each_front : {X : Type 0} (P : X → Type 0) (xs ys : List X) → AllByRecursion P (xs ++ ys) → AllByRecursion P xs
each_front P [] ys h = tt
each_front P (x ∷ xs) ys h = (h.0, each_front P xs ys h.1)

regrouped : (l t rest : List ℕ) → ((l ++ 10 ∷ []) ++ t) ++ rest ≡ l ++ 10 ∷ (t ++ rest)
regrouped l t rest = simp append_assoc

-- the parts of a text that begins with whole lines
split_lines : (ls : List (List ℕ)) (rest : List ℕ) → AllByRecursion IsInner ls → slice_split (λ b. b == 10) (lines_text ls ++ rest) ≡ ls ++ slice_split (λ b. b == 10) rest
split_lines [] rest h = refl
split_lines (l ∷ ls) rest h =
    let more : List ℕ = lines_text ls ++ rest in
    ap (slice_split (λ b. b == 10)) (regrouped l (lines_text ls) rest)
    ∙ split_cut 10 (l ++ 10 ∷ more) (l, more) (cut_back 10 l more h.0)
    ∙ ap (λ (ts : List (List ℕ)). l ∷ ts) (split_lines ls rest h.1)

split_program : (p : Program) → IsProgram p → slice_split (λ b. b == 10) (program_text p) ≡ program_lines p ++ [] ∷ []
unfolding program_text
split_program p h = ap (slice_split (λ b. b == 10)) (sym (append-nil (lines_text (program_lines p)))) ∙ split_lines (program_lines p) [] (program_inner p h)

last_same : (xs ys : List (List ℕ)) (x y : List ℕ) → xs ++ x ∷ [] ≡ ys ++ y ∷ [] → (xs ≡ ys) × (x ≡ y)
last_same [] [] x y e = let same : x ≡ y = cc in (refl, same)
last_same [] (z ∷ ys) x y e = let wrong : [] ≡ ys ++ y ∷ [] = cc in absurd (omega (arith, ap length wrong, length-append ys (y ∷ [])))
last_same (z ∷ xs) [] x y e = let wrong : xs ++ x ∷ [] ≡ [] = cc in absurd (omega (arith, ap length wrong, length-append xs (x ∷ [])))
last_same (z ∷ xs) (w ∷ ys) x y e =
    let first : z ≡ w = cc in
    let others : xs ++ x ∷ [] ≡ ys ++ y ∷ [] = cc in
    let more = last_same xs ys x y others in
    (cc, more.1)

none_left : (xs ys : List (List ℕ)) → [] ≡ xs ++ ys → ys ≡ []
none_left [] ys e = sym e
none_left (x ∷ xs) ys e = cc

-- what stands in front of a last element goes on from a front that leaves something
front_goes_on : (xs front rest : List (List ℕ)) (x : List ℕ) → xs ++ x ∷ [] ≡ front ++ rest → (rest ≡ [] → ⊥) → (others : List (List ℕ)) × (xs ≡ front ++ others)
front_goes_on xs [] rest x e some = (xs, refl)
front_goes_on [] (f ∷ front) rest x e some =
    let wrong : [] ≡ front ++ rest = cc in
    absurd (some (none_left front rest wrong))
front_goes_on (y ∷ xs) (f ∷ front) rest x e some =
    let first : y ≡ f = cc in
    let others : xs ++ x ∷ [] ≡ front ++ rest = cc in
    let more = front_goes_on xs front rest x others some in
    let tail = more.1 in
    (more.0, cc)

-- a program's text is the lines of a place and what comes: nothing comes, and the place is its end
pub at_end : (place : Place) (text rest : List ℕ) (p : Program) → IsPlace place → text ≡ spelled (said place) ++ rest → IsInner rest → IsProgram p → text ≡ program_text p → (place ≡ Ended p) × (rest ≡ [])
at_end place text rest p h whole inner hp e =
    let before : List (List ℕ) = map line_text (said place) in
    let parts : program_lines p ++ [] ∷ [] ≡ before ++ rest ∷ [] =
    sym (split_program p hp) ∙ ap (slice_split (λ b. b == 10)) (sym e ∙ whole) ∙ split_lines before rest (place_inner place h)
    ∙ ap (λ (ts : List (List ℕ)). before ++ ts) (split_whole 10 rest (cut_none 10 rest inner)) in
    let same = last_same (program_lines p) before [] rest parts in
    let walked : Some (Ended p) ≡ Some place = sym (program_walks p hp) ∙ ap (walk_texts Start) same.0 ∙ place_walks place h in
    (cc, sym same.1)

-- the parts of a text with a bad line
pub split_bad : (text : List ℕ) (n : ℕ) (bad : IsBadLine text n) → slice_split (λ b. b == 10) text ≡ bad.before ++ slice_split (λ b. b == 10) bad.rest
split_bad text n bad =
    let inner : AllByRecursion IsInner bad.before =
    each_front IsInner bad.before bad.begins.others
    (subst (λ (ts : List (List ℕ)). AllByRecursion IsInner ts) bad.begins.whole (program_inner bad.begins.program bad.begins.is_program)) in
    ap (slice_split (λ b. b == 10)) bad.whole ∙ split_lines bad.before bad.rest inner

-- a text with a bad line is no program's
pub bad_is_none : (text : List ℕ) (n : ℕ) (p : Program) → IsBadLine text n → IsProgram p → text ≡ program_text p → ⊥
bad_is_none text n p bad hp e = elim bad.ends [
  | inl other ↦
      let before : List (List ℕ) = bad.before in
      let tail : List (List ℕ) = slice_split (λ b. b == 10) other.more in
      let parts : program_lines p ++ [] ∷ [] ≡ (before ++ other.line ∷ []) ++ tail =
      sym (split_program p hp) ∙ ap (slice_split (λ b. b == 10)) (sym e) ∙ split_bad text n bad
      ∙ ap (λ (t : List ℕ). before ++ slice_split (λ b. b == 10) t) other.comes
      ∙ ap
      (λ (ts : List (List ℕ)). before ++ ts)
      (split_cut 10 (other.line ++ 10 ∷ other.more) (other.line, other.more) (cut_back 10 other.line other.more other.inner))
      ∙ sym (append_assoc before (other.line ∷ []) tail) in
      let goes = front_goes_on (program_lines p) (before ++ other.line ∷ []) tail [] parts (split_some 10 other.more) in
      other.begins_none (record { program = p; is_program = hp; others = goes.0; whole = goes.1 })
  | inr last ↦ last.is_none p hp e
]

pub once : (p q : Program) → IsProgram p → IsProgram q → program_text p ≡ program_text q → p ≡ q
once p q hp hq e =
    let lines = last_same (program_lines p) (program_lines q) [] [] (sym (split_program p hp) ∙ ap (slice_split (λ b. b == 10)) e ∙ split_program q hq) in
    let walked : Some (Ended p) ≡ Some (Ended q) = sym (program_walks p hp) ∙ ap (walk_texts Start) lines.0 ∙ program_walks q hq in
    cc
