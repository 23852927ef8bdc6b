-- What the words over generated files ask for.
use Rattle.std.specs.Prelude.{Bool, false, List, ℕ, [], ◌∷◌, ◌++◌, map, None, Some, codes, if◌then◌else◌}
use Rattle.ch_generated.specs.Inputs.{is_join, query_text}
use Rattle.ch_generated.specs.declared.InputKind.{InputKind}
use Rattle.cheetah_words.specs.Tables.{Part}
use Rattle.cheetah_words.specs.Words.{Request}

abbrev pub t_part : List ℕ → Part
t_part file = record { name = codes "t"; file = file }

-- the parts of the tables, of which a join has two
abbrev pub parts_by : Bool → List Part
parts_by join = t_part (codes "t0") ∷ t_part (codes "t1") ∷ t_part (codes "t2") ∷ t_part (codes "t3") ∷ [] ++ (if join then record { name = codes "u"; file = codes "u0" } ∷ [] else [])

-- the query of the kind, the schedule and the parts; no profile, and no plan
abbrev pub asked_of : InputKind → Request
asked_of kind = record { query = query_text kind; profile = None; schedule = Some (codes "s"); plan = false; tables = parts_by (is_join kind) }

-- the files that are read for them, in this order: the schedule's, and those of the parts
abbrev pub names_asked : InputKind → List (List ℕ)
names_asked kind = codes "s" ∷ map (λ part. part.file) (parts_by (is_join kind))
