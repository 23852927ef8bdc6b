-- What is said of a run: its counts, and the report of one that isn't confirmed.
use Rattle.std.specs.Prelude.{ℕ, List, [], ◌∷◌, ◌++◌, map, flat_map, codes}
use Rattle.std.specs.Fmt.{decimal}
use Rattle.std.specs.List.{join_with_byte}
use Rattle.ch_cells.specs.declared.outcome.Counts.{Counts}
use Rattle.ch_cells.specs.declared.outcome.OpenFlow.{OpenFlow}

abbrev pub named : List ℕ → ℕ → List ℕ
named name n = name ++ decimal n

abbrev pub counts_line : Counts → List ℕ
counts_line c = named (codes "rows=") c.rows ++ (named (codes " sends=") c.sends ++ (named (codes " pruned=") c.pruned
    ++ (named (codes " forwarded=") c.forwarded ++ (named (codes " steps=") c.steps ++ 10 ∷ []))))

-- numbers with `,` between them, or `none`
abbrev pub numbers_text : List ℕ → List ℕ
numbers_text [] = codes "none"
numbers_text (n ∷ ns) = join_with_byte 44 (map decimal (n ∷ ns))

-- numbers, each behind a `,`
abbrev pub behind_commas : List ℕ → List ℕ
behind_commas [] = []
behind_commas (n ∷ ns) = 44 ∷ (decimal n ++ behind_commas ns)

abbrev pub flow_numbers : OpenFlow → List ℕ
flow_numbers f = named (codes "pass ") f.pass ++ (named (codes " worker ") f.worker ++ (named (codes " acknowledged ") f.acknowledged ++ named (codes " of ") f.of))

-- the line of a worker whose end isn't confirmed
abbrev pub flow_line : OpenFlow → List ℕ
flow_line f = flow_numbers f ++ (codes " unacknowledged " ++ (numbers_text f.unacknowledged ++ 10 ∷ []))

-- the report's last line: how many rows the answer over the received rows has
abbrev pub partial_line : ℕ → List ℕ
partial_line rows = named (codes "partial answer rows=") rows ++ 10 ∷ []

abbrev pub report : List OpenFlow → ℕ → List ℕ
report flows partial = flat_map flow_line flows ++ partial_line partial
