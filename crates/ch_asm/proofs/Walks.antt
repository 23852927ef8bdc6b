-- The lines that are said of a place lead to it.
use Rattle.std.proofs.Common.{◌≡◌, ℕ, List, [], ◌∷◌, ◌++◌, Option, Some, None, refl, sym, ap, ◌∙◌, subst, append_assoc, map}
use Rattle.std.specs.Prelude.{option_and_then}
use Rattle.std.specs.List.{flat_map}
use Rattle.std.proofs.lemmas.List.{append-nil}
use Rattle.ch_ir.specs.declared.program.Op.{Op}
use Rattle.ch_ir.specs.declared.program.Access.{Access}
use Rattle.ch_ir.specs.declared.program.Array.{Array}
use Rattle.ch_ir.specs.declared.program.Stage.{Stage}
use Rattle.ch_ir.specs.declared.program.Program.{Program}
use Rattle.ch_asm_lines.specs.declared.line.Line.{Line}
use Rattle.ch_asm_lines.specs.declared.line.Line.TheVariants as line
use Rattle.ch_asm.specs.declared.place.Begun.{Begun}
use Rattle.ch_asm.specs.declared.place.Place.{Place}
use Rattle.ch_asm.specs.declared.place.Place.TheVariants.{Start, Headed, Arrays, InStage, Judged, Ended}
use Rattle.ch_asm.specs.Text.{stage_lines}
use Rattle.ch_asm.specs.Steps.{step, with_stage, judged, empty_stage}
use Rattle.ch_asm.proofs.Places.{said, body}

-- the place to which lines lead
abbrev pub walk : Place → List Line → Option Place
walk place [] = Some place
walk place (l ∷ ls) = option_and_then (λ next. walk next ls) (step place l)

over : (next : Place) (ls b : List Line) (o : Option Place) → ((p : Place) → walk p ls ≡ Some next → walk p (ls ++ b) ≡ walk next b)
    → option_and_then (λ p. walk p ls) o ≡ Some next → option_and_then (λ p. walk p (ls ++ b)) o ≡ walk next b
over next ls b None on e = cc
over next ls b (Some p) on e = on p e

walk_on : (place next : Place) (a b : List Line) → walk place a ≡ Some next → walk place (a ++ b) ≡ walk next b
walk_on place next [] b e = let same : place ≡ next = cc in ap (λ p. walk p b) same
walk_on place next (l ∷ ls) b e = over next ls b (step place l) (λ p h. walk_on p next ls b h) e

arrays_walk : (w : ℕ) (front rest : List Array) → walk (Arrays w front) (map line.Array rest) ≡ Some (Arrays w (front ++ rest))
arrays_walk w front [] = ap (λ (xs : List Array). Some (Arrays w xs)) (sym (append-nil front))
arrays_walk w front (a ∷ rest) = arrays_walk w (front ++ a ∷ []) rest ∙ ap (λ (xs : List Array). Some (Arrays w xs)) (append_assoc front (a ∷ []) rest)

ops_walk : (d : Begun) (front rest : List Op) → walk (InStage d (record { ops = front; accesses = [] })) (map line.Op rest) ≡ Some (InStage d (record { ops = front ++ rest; accesses = [] }))
ops_walk d front [] = ap (λ (xs : List Op). Some (InStage d (record { ops = xs; accesses = [] }))) (sym (append-nil front))
ops_walk d front (op ∷ rest) = ops_walk d (front ++ op ∷ []) rest ∙ ap (λ (xs : List Op). Some (InStage d (record { ops = xs; accesses = [] }))) (append_assoc front (op ∷ []) rest)

accesses_walk : (d : Begun) (ops : List Op) (front rest : List Access)
    → walk (InStage d (record { ops = ops; accesses = front })) (map line.Access rest) ≡ Some (InStage d (record { ops = ops; accesses = front ++ rest }))
accesses_walk d ops front [] = ap (λ (xs : List Access). Some (InStage d (record { ops = ops; accesses = xs }))) (sym (append-nil front))
accesses_walk d ops front (x ∷ rest) =
    accesses_walk d ops (front ++ x ∷ []) rest ∙ ap (λ (xs : List Access). Some (InStage d (record { ops = ops; accesses = xs }))) (append_assoc front (x ∷ []) rest)

parts_walk : (d : Begun) (s : Stage) → walk (InStage d empty_stage) (map line.Op s.ops ++ map line.Access s.accesses) ≡ Some (InStage d s)
parts_walk d s =
    walk_on (InStage d empty_stage) (InStage d (record { ops = s.ops; accesses = [] })) (map line.Op s.ops) (map line.Access s.accesses) (ops_walk d [] s.ops)
    ∙ accesses_walk d s.ops [] s.accesses

-- all that was begun stands in front of what comes at this place
abbrev IsBehind : Begun → Place → Type 0
IsBehind d (Arrays w arrays) = record { width = w; arrays = arrays; stages = [] } ≡ d
IsBehind d (InStage begun s) = with_stage begun s ≡ d
IsBehind d place = ⊥

stage_begins : (d : Begun) (place : Place) → IsBehind d place → step place line.Stage ≡ Some (InStage d empty_stage)
stage_begins d (Arrays w arrays) h = ap (λ (b : Begun). Some (InStage b empty_stage)) h
stage_begins d (InStage begun s) h = ap (λ (b : Begun). Some (InStage b empty_stage)) h
stage_begins d Start h = absurd h
stage_begins d Headed h = absurd h
stage_begins d (Judged p) h = absurd h
stage_begins d (Ended p) h = absurd h

verdict_ends : (d : Begun) (v : ℕ) (place : Place) → IsBehind d place → step place (line.Verdict v) ≡ Some (judged d v)
verdict_ends d v (Arrays w arrays) h = ap (λ (b : Begun). Some (judged b v)) h
verdict_ends d v (InStage begun s) h = ap (λ (b : Begun). Some (judged b v)) h
verdict_ends d v Start h = absurd h
verdict_ends d v Headed h = absurd h
verdict_ends d v (Judged p) h = absurd h
verdict_ends d v (Ended p) h = absurd h

stage_walk : (d : Begun) (place : Place) (s : Stage) → IsBehind d place → walk place (stage_lines s) ≡ Some (InStage d s)
stage_walk d place s h =
    ap (option_and_then (λ next. walk next (map line.Op s.ops ++ map line.Access s.accesses))) (stage_begins d place h) ∙ parts_walk d s

abbrev with_stages : Begun → List Stage → Begun
with_stages d ss = record { width = d.width; arrays = d.arrays; stages = d.stages ++ ss }

-- where some stages lead
record StagesLead (d : Begun) (place : Place) (ss : List Stage) : Type 0 where
  to : Place
  walked : walk place (flat_map stage_lines ss) ≡ Some to
  behind : IsBehind (with_stages d ss) to

stages_walk : (d : Begun) (place : Place) (ss : List Stage) → IsBehind d place → StagesLead d place ss
stages_walk d place [] h =
    let same : d ≡ with_stages d [] = ap (λ (ss : List Stage). record { width = d.width; arrays = d.arrays; stages = ss }) (sym (append-nil d.stages)) in
    record { to = place; walked = refl; behind = subst (λ (b : Begun). IsBehind b place) same h }
stages_walk d place (s ∷ ss) h =
    let more = stages_walk (with_stage d s) (InStage d s) ss refl in
    let same : with_stages (with_stage d s) ss ≡ with_stages d (s ∷ ss) =
    ap (λ (ss' : List Stage). record { width = d.width; arrays = d.arrays; stages = ss' }) (append_assoc d.stages (s ∷ []) ss) in
    record {
      to = more.to;
      walked = walk_on place (InStage d s) (stage_lines s) (flat_map stage_lines ss) (stage_walk d place s h) ∙ more.walked;
      behind = subst (λ (b : Begun). IsBehind b more.to) same more.behind;
    }

-- where the lines up to the last stage lead
record BodyLeads (d : Begun) (rest : List Line) : Type 0 where
  to : Place
  walked : walk Start (body d.width d.arrays (flat_map stage_lines d.stages ++ rest)) ≡ walk to rest
  behind : IsBehind d to

body_walk : (d : Begun) (rest : List Line) → BodyLeads d rest
body_walk d rest =
    let lead = stages_walk (record { width = d.width; arrays = d.arrays; stages = [] }) (Arrays d.width d.arrays) d.stages refl in
    record {
      to = lead.to;
      walked =
          walk_on (Arrays d.width []) (Arrays d.width d.arrays) (map line.Array d.arrays) (flat_map stage_lines d.stages ++ rest) (arrays_walk d.width [] d.arrays)
          ∙ walk_on (Arrays d.width d.arrays) lead.to (flat_map stage_lines d.stages) rest lead.walked;
      behind = lead.behind;
    }

abbrev begun_of : Program → Begun
begun_of p = record { width = p.width; arrays = p.arrays; stages = p.stages }

pub said_walks : (place : Place) → walk Start (said place) ≡ Some place
said_walks Start = refl
said_walks Headed = refl
said_walks (Arrays w arrays) = arrays_walk w [] arrays
said_walks (InStage d s) = let lead = body_walk d (stage_lines s) in lead.walked ∙ stage_walk d lead.to s lead.behind
said_walks (Judged p) =
    let lead = body_walk (begun_of p) (line.Verdict p.verdict ∷ []) in
    lead.walked ∙ ap (option_and_then (λ next. walk next [])) (verdict_ends (begun_of p) p.verdict lead.to lead.behind)
said_walks (Ended p) =
    let lead = body_walk (begun_of p) (line.Verdict p.verdict ∷ line.End ∷ []) in
    lead.walked ∙ ap (option_and_then (λ next. walk next (line.End ∷ []))) (verdict_ends (begun_of p) p.verdict lead.to lead.behind)
