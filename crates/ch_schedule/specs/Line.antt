-- What the fields of a line say: a step, `drain`, or nothing that is one of them.
use Rattle.std.specs.Prelude.{ℕ, if◌then◌else◌, List, [], ◌∷◌, Option, Some, None, codes, bytes_eq, option_map}
use Rattle.std.specs.Option.{option_and_then}
use Rattle.ch_schedule.specs.declared.line.Line.{Line}
use Rattle.ch_schedule.specs.declared.line.Line.TheVariants as line
use Rattle.ch_schedule.specs.declared.step.How.{How}
use Rattle.ch_schedule.specs.declared.step.How.TheVariants.{Take, Keep, Lose}
use Rattle.ch_schedule.specs.declared.step.Link.{Link}
use Rattle.ch_schedule.specs.declared.step.Link.TheVariants as link
use Rattle.ch_schedule.specs.declared.step.Step.{Step}
use Rattle.ch_schedule.specs.declared.step.Step.TheVariants as step
use Rattle.ch_schedule.specs.Field.{natural_of, hex_of}

abbrev pub how_of : List ℕ → Option How
how_of word = if bytes_eq word (codes "keep") then Some Keep else if bytes_eq word (codes "lose") then Some Lose else None

abbrev pub link_of : List ℕ → Option Link
link_of word = if bytes_eq word (codes "up") then Some link.Up else if bytes_eq word (codes "down") then Some link.Down else if bytes_eq word (codes "back") then Some link.Back else None

-- a delivery at a place of a link
abbrev pub delivery : Link → ℕ → How → Step
delivery link.Up at how = step.Up at how
delivery link.Down at how = step.Down at how
delivery link.Back at how = step.Back at how

abbrev pub both : {A B C : Type 0} → (A → B → C) → Option A → Option B → Option C
both f a b = option_and_then (λ x. option_map (f x) b) a

-- the step of a line, where there is one
abbrev pub as_line : Option Step → Option Line
as_line s = option_map (λ s. line.Step s) s

abbrev pub alone_of : List ℕ → Option Line
alone_of name = if bytes_eq name (codes "restart") then Some (line.Step step.Restart) else if bytes_eq name (codes "drain") then Some line.Drain else None

abbrev pub with_one_of : List ℕ → List ℕ → Option Line
with_one_of name a =
    if bytes_eq name (codes "send") then as_line (option_map (λ w. step.Send w) (natural_of a))
    else as_line (both (λ l n. delivery l n Take) (link_of name) (natural_of a))

abbrev pub resend_of : List ℕ → List ℕ → Option Line
resend_of a b = as_line (both (λ w k. step.Resend w k) (natural_of a) (natural_of b))

abbrev pub inject_of : List ℕ → List ℕ → Option Line
inject_of a b = as_line (both (λ l bytes. step.Inject l bytes) (link_of a) (hex_of b))

abbrev pub delivered_of : List ℕ → List ℕ → List ℕ → Option Line
delivered_of name a b = as_line (option_and_then (λ l. both (λ n how. delivery l n how) (natural_of a) (how_of b)) (link_of name))

abbrev pub with_two_of : List ℕ → List ℕ → List ℕ → Option Line
with_two_of name a b = if bytes_eq name (codes "resend") then resend_of a b else if bytes_eq name (codes "inject") then inject_of a b else delivered_of name a b

-- the line of some fields
unfoldable pub line_of : List (List ℕ) → Option Line
line_of [] = None
line_of (name ∷ []) = alone_of name
line_of (name ∷ a ∷ []) = with_one_of name a
line_of (name ∷ a ∷ b ∷ []) = with_two_of name a b
line_of (name ∷ a ∷ b ∷ c ∷ others) = None
