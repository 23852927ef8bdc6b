-- The lines that lead to a place, and a program that begins with them.
use Rattle.std.proofs.Common.{◌≡◌, ◌<◌, ◌^◌, ℕ, true, List, [], ◌∷◌, ◌++◌, length, Some, None, refl, sym, ap, ◌∙◌, subst, append_assoc, map, inl, inr, arith}
use Rattle.std.specs.Prelude.{◌==◌}
use Rattle.std.specs.List.{flat_map, AllByRecursion}
use Rattle.std.proofs.lemmas.List.{append-nil, map-append}
use Rattle.std.proofs.lemmas.Grind.{flat_map-append}
use Rattle.std.proofs.lemmas.Bool.Decides.{nat_tests}
use Rattle.ch_ir.specs.declared.program.Op.{Op}
use Rattle.ch_ir.specs.declared.program.Access.{Access}
use Rattle.ch_ir.specs.declared.program.Array.{Array}
use Rattle.ch_ir.specs.declared.program.Stage.{Stage}
use Rattle.ch_ir.specs.declared.program.Program.{Program}
use Rattle.ch_asm_lines.specs.Range.{IsWord, IsArray, IsOp, IsAccess, IsLine}
use Rattle.ch_asm_lines.specs.declared.line.Line.{Line}
use Rattle.ch_asm_lines.specs.declared.line.Line.TheVariants as line
use Rattle.ch_asm_lines.proofs.Options.{chosen}
use Rattle.ch_asm.specs.declared.place.Begun.{Begun}
use Rattle.ch_asm.specs.declared.place.Place.{Place}
use Rattle.ch_asm.specs.declared.place.Place.TheVariants.{Start, Headed, Arrays, InStage, Judged, Ended}
use Rattle.ch_asm.specs.Text.{stage_lines, lines_of, IsStage, IsProgram}
use Rattle.ch_asm.specs.Steps.{step, after_start, after_header, after_array, after_part, after_verdict, with_stage, judged, empty_stage}

-- the lines behind the arrays and the stages
abbrev pub body : ℕ → List Array → List Line → List Line
body w arrays rest = line.Header ∷ line.Width w ∷ (map line.Array arrays ++ rest)

-- the lines that lead to a place
abbrev pub said : Place → List Line
said Start = []
said Headed = line.Header ∷ []
said (Arrays w arrays) = line.Header ∷ line.Width w ∷ map line.Array arrays
said (InStage d s) = body d.width d.arrays (flat_map stage_lines d.stages ++ stage_lines s)
said (Judged p) = body p.width p.arrays (flat_map stage_lines p.stages ++ line.Verdict p.verdict ∷ [])
said (Ended p) = lines_of p

pub record IsBegun (d : Begun) : Type 0 where
  pub width : IsWord d.width
  pub arrays : AllByRecursion IsArray d.arrays
  pub stages : AllByRecursion IsStage d.stages

abbrev pub IsPlace : Place → Type 0
IsPlace Start = Unit {0}
IsPlace Headed = Unit {0}
IsPlace (Arrays w arrays) = IsWord w × AllByRecursion IsArray arrays
IsPlace (InStage d s) = IsBegun d × IsStage s
IsPlace (Judged p) = IsProgram p
IsPlace (Ended p) = IsProgram p

-- one more at the end

each_more : {X : Type 0} (P : X → Type 0) (xs : List X) (x : X) → AllByRecursion P xs → P x → AllByRecursion P (xs ++ x ∷ [])
each_more P [] x h p = (p, tt)
each_more P (y ∷ ys) x h p = (h.0, each_more P ys x h.1 p)

pub each_both : {X : Type 0} (P : X → Type 0) (xs ys : List X) → AllByRecursion P xs → AllByRecursion P ys → AllByRecursion P (xs ++ ys)
each_both P [] ys h k = k
each_both P (x ∷ xs) ys h k = (h.0, each_both P xs ys h.1 k)

flat_one : (ss : List Stage) (s : Stage) → flat_map stage_lines (ss ++ s ∷ []) ≡ flat_map stage_lines ss ++ stage_lines s
flat_one ss s = flat_map-append stage_lines ss (s ∷ []) ∙ ap (λ (ls : List Line). flat_map stage_lines ss ++ ls) (append-nil (stage_lines s))

body_more : (w : ℕ) (arrays : List Array) (a b : List Line) → body w arrays (a ++ b) ≡ body w arrays a ++ b
body_more w arrays a b = ap (λ (ls : List Line). line.Header ∷ line.Width w ∷ ls) (sym (append_assoc (map line.Array arrays) a b))

-- the lines up to a stage's end, and more
ended_stage : (d : Begun) (s : Stage) (more : List Line) → body d.width d.arrays (flat_map stage_lines (d.stages ++ s ∷ []) ++ more) ≡ said (InStage d s) ++ more
ended_stage d s more =
    ap (λ (ls : List Line). body d.width d.arrays (ls ++ more)) (flat_one d.stages s)
    ∙ body_more d.width d.arrays (flat_map stage_lines d.stages ++ stage_lines s) more

no_access : (xs : List Access) → (length xs == 0) ≡ true → [] ≡ xs
no_access [] e = refl
no_access (x ∷ xs) e = let wrong : length (x ∷ xs) ≡ 0 = grind (arith, nat_tests) in absurd (omega arith)

op_more : (ops : List Op) (op : Op) → map line.Op (ops ++ op ∷ []) ++ [] ≡ (map line.Op ops ++ []) ++ line.Op op ∷ []
op_more ops op =
    append-nil (map line.Op (ops ++ op ∷ [])) ∙ map-append line.Op ops (op ∷ [])
    ∙ ap (λ (ls : List Line). ls ++ line.Op op ∷ []) (sym (append-nil (map line.Op ops)))

access_more : (ops : List Op) (xs : List Access) (x : Access) → map line.Op ops ++ map line.Access (xs ++ x ∷ []) ≡ (map line.Op ops ++ map line.Access xs) ++ line.Access x ∷ []
access_more ops xs x =
    ap (λ (ls : List Line). map line.Op ops ++ ls) (map-append line.Access xs (x ∷ []))
    ∙ sym (append_assoc (map line.Op ops) (map line.Access xs) (line.Access x ∷ []))

in_stage : (d : Begun) (s t : Stage) (l : Line) → stage_lines t ≡ stage_lines s ++ l ∷ [] → said (InStage d t) ≡ said (InStage d s) ++ l ∷ []
in_stage d s t l e =
    ap (λ (ls : List Line). body d.width d.arrays (flat_map stage_lines d.stages ++ ls)) e
    ∙ ap (body d.width d.arrays) (sym (append_assoc (flat_map stage_lines d.stages) (stage_lines s) (l ∷ [])))
    ∙ body_more d.width d.arrays (flat_map stage_lines d.stages ++ stage_lines s) (l ∷ [])

-- What a step gives: one more line is said, and the numbers stay in range.
record Goes (place : Place) (l : Line) (next : Place) : Type 0 where
  said : said next ≡ said place ++ l ∷ []
  fits : IsPlace place → IsLine l → IsPlace next

goes_to : (place : Place) (l : Line) (here next : Place) → Some here ≡ Some next → Goes place l here → Goes place l next
goes_to place l here next e g = let same : here ≡ next = cc in subst (λ (p : Place). Goes place l p) same g

part_goes : (d : Begun) (s : Stage) (l : Line) (next : Place) → after_part d s l ≡ Some next → Goes (InStage d s) l next
part_goes d s (line.Op op) next e = elim (chosen (length s.accesses == 0) _ None next e) [
  | inl p ↦
      let none : [] ≡ s.accesses = no_access s.accesses p.0 in
      let t : Stage = record { ops = s.ops ++ op ∷ []; accesses = s.accesses } in
      let lines : stage_lines t ≡ stage_lines s ++ line.Op op ∷ [] =
      subst (λ (xs : List Access). (line.Stage ∷ (map line.Op (s.ops ++ op ∷ []) ++ map line.Access xs)) ≡ (line.Stage ∷ (map line.Op s.ops ++ map line.Access xs)) ++ line.Op op ∷ []) none
      (ap (λ (ls : List Line). line.Stage ∷ ls) (op_more s.ops op)) in
      goes_to (InStage d s) (line.Op op) (InStage d t) next p.1 (record {
        said = in_stage d s t (line.Op op) lines;
        fits = λ h k. (h.0, record { ops = each_more IsOp s.ops op h.1.ops k; accesses = h.1.accesses });
      })
  | inr p ↦ let wrong = p.1 in cc
]
part_goes d s (line.Access x) next e =
    let t : Stage = record { ops = s.ops; accesses = s.accesses ++ x ∷ [] } in
    goes_to (InStage d s) (line.Access x) (InStage d t) next e (record {
      said = in_stage d s t (line.Access x) (ap (λ (ls : List Line). line.Stage ∷ ls) (access_more s.ops s.accesses x));
      fits = λ h k. (h.0, record { ops = h.1.ops; accesses = each_more IsAccess s.accesses x h.1.accesses k });
    })
part_goes d s line.Stage next e = goes_to (InStage d s) line.Stage (InStage (with_stage d s) empty_stage) next e (record {
  said = ended_stage d s (line.Stage ∷ []);
  fits = λ h k. (record { width = h.0.width; arrays = h.0.arrays; stages = each_more IsStage d.stages s h.0.stages h.1 }, record { ops = tt; accesses = tt });
})
part_goes d s (line.Verdict v) next e = goes_to (InStage d s) (line.Verdict v) (judged (with_stage d s) v) next e (record {
  said = ended_stage d s (line.Verdict v ∷ []);
  fits = λ h k. record { width = h.0.width; arrays = h.0.arrays; stages = each_more IsStage d.stages s h.0.stages h.1; verdict = k };
})
part_goes d s l next e = cc

array_goes : (w : ℕ) (arrays : List Array) (l : Line) (next : Place) → after_array w arrays l ≡ Some next → Goes (Arrays w arrays) l next
array_goes w arrays (line.Array a) next e = goes_to (Arrays w arrays) (line.Array a) (Arrays w (arrays ++ a ∷ [])) next e (record {
  said = ap (λ (ls : List Line). line.Header ∷ line.Width w ∷ ls) (map-append line.Array arrays (a ∷ []));
  fits = λ h k. (h.0, each_more IsArray arrays a h.1 k);
})
array_goes w arrays line.Stage next e = goes_to (Arrays w arrays) line.Stage (InStage (record { width = w; arrays = arrays; stages = [] }) empty_stage) next e (record {
  said = refl;
  fits = λ h k. (record { width = h.0; arrays = h.1; stages = tt }, record { ops = tt; accesses = tt });
})
array_goes w arrays (line.Verdict v) next e = goes_to (Arrays w arrays) (line.Verdict v) (judged (record { width = w; arrays = arrays; stages = [] }) v) next e (record {
  said = refl;
  fits = λ h k. record { width = h.0; arrays = h.1; stages = tt; verdict = k };
})
array_goes w arrays l next e = cc

start_goes : (l : Line) (next : Place) → after_start l ≡ Some next → Goes Start l next
start_goes line.Header next e = goes_to Start line.Header Headed next e (record { said = refl; fits = λ h k. tt })
start_goes l next e = cc

header_goes : (l : Line) (next : Place) → after_header l ≡ Some next → Goes Headed l next
header_goes (line.Width w) next e = goes_to Headed (line.Width w) (Arrays w []) next e (record { said = refl; fits = λ h k. (k, tt) })
header_goes l next e = cc

verdict_goes : (p : Program) (l : Line) (next : Place) → after_verdict p l ≡ Some next → Goes (Judged p) l next
verdict_goes p line.End next e = goes_to (Judged p) line.End (Ended p) next e (record {
  said =
      ap (body p.width p.arrays) (sym (append_assoc (flat_map stage_lines p.stages) (line.Verdict p.verdict ∷ []) (line.End ∷ [])))
      ∙ body_more p.width p.arrays (flat_map stage_lines p.stages ++ line.Verdict p.verdict ∷ []) (line.End ∷ []);
  fits = λ h k. h;
})
verdict_goes p l next e = cc

step_goes : (place : Place) (l : Line) (next : Place) → step place l ≡ Some next → Goes place l next
step_goes Start l next e = start_goes l next e
step_goes Headed l next e = header_goes l next e
step_goes (Arrays w arrays) l next e = array_goes w arrays l next e
step_goes (InStage d s) l next e = part_goes d s l next e
step_goes (Judged p) l next e = verdict_goes p l next e
step_goes (Ended p) l next e = cc

pub step_said : (place : Place) (l : Line) (next : Place) → step place l ≡ Some next → said next ≡ said place ++ l ∷ []
step_said place l next e = (step_goes place l next e).said

pub step_fits : (place : Place) (l : Line) (next : Place) → step place l ≡ Some next → IsPlace place → IsLine l → IsPlace next
step_fits place l next e h k = (step_goes place l next e).fits h k

-- a program that goes on from a place
pub record Completed (place : Place) : Type 0 where
  pub program : Program
  pub is_program : IsProgram program
  pub others : List Line
  pub whole : lines_of program ≡ said place ++ others

zero_fits : 0 < 2 ^ 32
zero_fits = omega arith

pub completes : (place : Place) → IsPlace place → Completed place
completes Start h =
    let p : Program = record { width = 0; arrays = []; stages = []; verdict = 0 } in
    record { program = p; is_program = record { width = zero_fits; arrays = tt; stages = tt; verdict = zero_fits }; others = lines_of p; whole = refl }
completes Headed h =
    let p : Program = record { width = 0; arrays = []; stages = []; verdict = 0 } in
    record {
      program = p;
      is_program = record { width = zero_fits; arrays = tt; stages = tt; verdict = zero_fits };
      others = line.Width 0 ∷ line.Verdict 0 ∷ line.End ∷ [];
      whole = refl;
    }
completes (Arrays w arrays) h =
    let p : Program = record { width = w; arrays = arrays; stages = []; verdict = 0 } in
    record { program = p; is_program = record { width = h.0; arrays = h.1; stages = tt; verdict = zero_fits }; others = line.Verdict 0 ∷ line.End ∷ []; whole = refl }
completes (InStage d s) h =
    let p : Program = record { width = d.width; arrays = d.arrays; stages = d.stages ++ s ∷ []; verdict = 0 } in
    record {
      program = p;
      is_program = record { width = h.0.width; arrays = h.0.arrays; stages = each_more IsStage d.stages s h.0.stages h.1; verdict = zero_fits };
      others = line.Verdict 0 ∷ line.End ∷ [];
      whole = ended_stage d s (line.Verdict 0 ∷ line.End ∷ []);
    }
completes (Judged p) h =
    record {
      program = p;
      is_program = h;
      others = line.End ∷ [];
      whole = ap (body p.width p.arrays) (sym (append_assoc (flat_map stage_lines p.stages) (line.Verdict p.verdict ∷ []) (line.End ∷ [])))
          ∙ body_more p.width p.arrays (flat_map stage_lines p.stages ++ line.Verdict p.verdict ∷ []) (line.End ∷ []);
    }
completes (Ended p) h = record { program = p; is_program = h; others = []; whole = sym (append-nil (lines_of p)) }

-- all that is said is in range

map_fits : {X : Type 0} (P : X → Type 0) (make : X → Line) → ((x : X) → P x → IsLine (make x)) → (xs : List X) → AllByRecursion P xs → AllByRecursion IsLine (map make xs)
map_fits P make fits [] h = tt
map_fits P make fits (x ∷ xs) h = (fits x h.0, map_fits P make fits xs h.1)

stage_fits : (s : Stage) → IsStage s → AllByRecursion IsLine (stage_lines s)
stage_fits s h = (tt, each_both IsLine (map line.Op s.ops) (map line.Access s.accesses) (map_fits IsOp line.Op (λ x p. p) s.ops h.ops) (map_fits IsAccess line.Access (λ x p. p) s.accesses h.accesses))

stages_fit : (ss : List Stage) → AllByRecursion IsStage ss → AllByRecursion IsLine (flat_map stage_lines ss)
stages_fit [] h = tt
stages_fit (s ∷ ss) h = each_both IsLine (stage_lines s) (flat_map stage_lines ss) (stage_fits s h.0) (stages_fit ss h.1)

pub program_fits : (p : Program) → IsProgram p → AllByRecursion IsLine (lines_of p)
program_fits p h = (
  tt,
  (
    h.width,
    each_both IsLine (map line.Array p.arrays) (flat_map stage_lines p.stages ++ line.Verdict p.verdict ∷ line.End ∷ [])
        (map_fits IsArray line.Array (λ x q. q) p.arrays h.arrays)
        (each_both IsLine (flat_map stage_lines p.stages) (line.Verdict p.verdict ∷ line.End ∷ []) (stages_fit p.stages h.stages) (h.verdict, (tt, tt))),
  ),
)

pub place_fits : (place : Place) → IsPlace place → AllByRecursion IsLine (said place)
place_fits Start h = tt
place_fits Headed h = (tt, tt)
place_fits (Arrays w arrays) h = (tt, (h.0, map_fits IsArray line.Array (λ x q. q) arrays h.1))
place_fits (InStage d s) h = (
  tt,
  (
    h.0.width,
    each_both IsLine (map line.Array d.arrays) (flat_map stage_lines d.stages ++ stage_lines s) (map_fits IsArray line.Array (λ x q. q) d.arrays h.0.arrays)
        (each_both IsLine (flat_map stage_lines d.stages) (stage_lines s) (stages_fit d.stages h.0.stages) (stage_fits s h.1)),
  ),
)
place_fits (Judged p) h = (
  tt,
  (
    h.width,
    each_both IsLine (map line.Array p.arrays) (flat_map stage_lines p.stages ++ line.Verdict p.verdict ∷ []) (map_fits IsArray line.Array (λ x q. q) p.arrays h.arrays)
        (each_both IsLine (flat_map stage_lines p.stages) (line.Verdict p.verdict ∷ []) (stages_fit p.stages h.stages) (h.verdict, tt)),
  ),
)
place_fits (Ended p) h = program_fits p h
