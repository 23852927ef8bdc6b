-- The fields of a line.
use Rattle.std.specs.Prelude.{◌≡◌, ◌<◌, ℕ, List, [], ◌∷◌, length}
use Rattle.ch_trace_lines.specs.declared.cut.Fields.{Fields}
use Rattle.ch_trace_lines.specs.declared.cut.Fields.TheVariants as fields

-- what was cut are these fields
abbrev pub Are : Fields → List (List ℕ) → Type 0
Are (fields.One a) all = all ≡ a.now ∷ []
Are (fields.Two a b) all = all ≡ a.now ∷ b.now ∷ []
Are (fields.Three a b c) all = all ≡ a.now ∷ b.now ∷ c.now ∷ []
Are (fields.Four a b c d) all = all ≡ a.now ∷ b.now ∷ c.now ∷ d.now ∷ []
Are (fields.Five a b c d e) all = all ≡ a.now ∷ b.now ∷ c.now ∷ d.now ∷ e.now ∷ []
Are fields.More all = 5 < length all
