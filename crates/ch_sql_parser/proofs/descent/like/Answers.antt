use Rattle.std.proofs.Common.{◌≡◌, refl, true, arith, sym, ◌∙◌}
use Rattle.ch_sql_places.specs.Machine.{is_pattern}
use Rattle.ch_sql_parser.proofs.Rules.{like_rule}
use Rattle.ch_sql_parser.proofs.Trees.{plain_like}
use Rattle.ch_sql_parser.proofs.descent.like.Goals as goal

pub returns-clause-moves : goal.returns-clause-moves
returns-clause-moves c = λ around.
    let same : c.as_slice-bytes.result.now ≡ c.in-Some.text.now = c.as_slice-bytes.ensures in
    let good : is_pattern c.as_slice-bytes.result.now ≡ true = sym c.ends_in_percent.ensures.value ∙ grind arith in
    rw (like_rule, ← c.in-Some.ensures.value, ← same, good, plain_like, c.in_ok-from_slice.ensures) refl
