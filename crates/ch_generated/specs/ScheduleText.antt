-- The schedule: steps that are drawn, then `drain`.
use Rattle.std.specs.Prelude.{ℕ, zero, suc, ◌==◌, ◌||◌, nat_lt, if◌then◌else◌, List, [], ◌∷◌, ◌++◌, codes}
use Rattle.std.specs.Fmt.{decimal}
use Rattle.rand_pcg.specs.Lcg.{Lcg}
use Rattle.ch_generated.specs.Draws.{after, drawn}

abbrev pub numbered_line : List ℕ → ℕ → List ℕ
numbered_line name n = name ++ (decimal n ++ 10 ∷ [])

-- the line of a step of this number, whose own number is drawn where it has one
abbrev pub line_of : ℕ → ℕ → Lcg → List ℕ
line_of workers step generator =
    if nat_lt step 3 then numbered_line (codes "send ") (drawn workers generator)
    else if step == 3 then codes "up 0\n"
    else if step == 4 then numbered_line (codes "up ") (drawn 4 generator)
    else if step == 5 then codes "down 0\n"
    else if step == 6 then codes "back 0\n"
    else codes "up 0 lose\n"

-- a step is one of eight
unfoldable pub step_line : ℕ → Lcg → List ℕ
step_line workers generator = line_of workers (drawn 8 generator) (after 1 generator)

-- how many words it takes for its own number
abbrev pub words_of : ℕ → ℕ
words_of step = if nat_lt step 3 || step == 4 then 1 else 0

unfoldable pub after_step : Lcg → Lcg
after_step generator = after (words_of (drawn 8 generator)) (after 1 generator)

-- so many steps
unfoldable pub steps_text : ℕ → ℕ → Lcg → List ℕ
steps_text workers zero generator = []
steps_text workers (suc steps) generator = step_line workers generator ++ steps_text workers steps (after_step generator)

unfoldable pub schedule_text : ℕ → Lcg → List ℕ
schedule_text workers generator = steps_text workers 1000 generator ++ codes "drain\n"
