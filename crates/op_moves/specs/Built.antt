-- What a builder stands for: the stages that it ends with, whatever moves are to come.
use Rattle.std.proofs.Common.{◌≡◌, List, [], ◌∷◌, ◌++◌, ap, sym, ◌∙◌}
use Rattle.std.proofs.lemmas.List.{append_assoc, append-nil}
use Rattle.ch_ir.specs.declared.program.Stage.{Stage}
use Rattle.op_moves.specs.declared.builder.Builder.{Builder}
use Rattle.op_moves.specs.Moves.{Move, staged}

abbrev pub stages_after : Builder → List Move → List Stage
stages_after b rest = b.stages ++ staged b.before rest

-- the new builder has made more moves
abbrev pub HasMade : List Move → Builder → Builder → Type 0
HasMade moves old new = (rest : List Move) → stages_after new rest ≡ stages_after old (moves ++ rest)

pub then_made : (xs ys : List Move) (a b c : Builder) → HasMade xs a b → HasMade ys b c → HasMade (xs ++ ys) a c
then_made xs ys a b c f g = λ rest. g rest ∙ (f (ys ++ rest) ∙ ap (stages_after a) (sym (append_assoc xs ys rest)))

-- the stages of a builder that was new and made the moves
pub all_made : (moves : List Move) (old new : Builder) (stages : List Stage) → ((rest : List Move) → stages_after old rest ≡ staged [] rest) → HasMade moves old new
    → stages ≡ stages_after new [] → stages ≡ staged [] moves
all_made moves old new stages begun made is = is ∙ (made [] ∙ (begun (moves ++ []) ∙ ap (staged []) (append-nil moves)))
