use Rattle.std.proofs.Common.{◌≡◌, ◌∙◌, ◌+◌, ℕ, Option, true, false, sym, ap, subst, arith}
use Rattle.ch_sql_grammar.specs.declared.terminal.Mark.TheVariants as mark
use Rattle.ch_sql_grammar.specs.Tokens.{marked}
use Rattle.ch_sql_grammar.specs.declared.query.ColumnRef.{ColumnRef}
use Rattle.ch_sql_places.specs.Machine.{Heading, may_be_outer}
use Rattle.ch_sql_places.specs.Parsing.{parse_at}
use Rattle.ch_sql_parser.specs.Behind.{LeadsTo, is_inner}
use Rattle.ch_sql_parser.proofs.Stepping.{behind_else, behind_inner, behind_outer, behind_where, semi_behind}
use Rattle.ch_sql_parser.proofs.heads.semi_join.Goals as goal
use Rattle.ch_sql_parser.proofs.heads.semi_join.Goals.{then-not-mark_at-via-then-not-mark_at, then-not-mark_at-via-else-not-mark_at+then-not-is_outer}

pub returns-then-not-mark_at : goal.returns-then-not-mark_at
returns-then-not-mark_at c =
    elim c.then-not-mark_at.branch [
      | then-not-mark_at-via-then-not-mark_at w ↦
          let none : marked mark.Where c.args.tokens.now c.args.at ≡ false = grind arith in
          behind_else c.args.tokens.now c.args.head c.args.at none
      | then-not-mark_at-via-else-not-mark_at+then-not-is_outer w ↦
          let inner : may_be_outer c.args.head ≡ false = grind arith in
          behind_inner c.args.tokens.now c.args.head c.args.at inner
    ]

pub returns-in-Some : goal.returns-in-Some
returns-in-Some c =
    let comes : marked mark.Where c.args.tokens.now c.args.at ≡ true = grind arith in
    let outer : may_be_outer c.args.head ≡ true = grind arith in
    let leads = let P : Option (ColumnRef × ℕ) → Type 0 = λ o. LeadsTo c.args.tokens.now c.args.head (c.args.at + 1) o in subst P c.in-Some.is (c.in_ok-key.ensures c.args.head) in
    let place = ap (λ p. parse_at c.args.tokens.now (Heading p) c.in-Some.next) (sym c.inner_place.ensures) in
    semi_behind c.args.tokens.now _ _ _ (behind_outer c.args.tokens.now c.args.head c.args.at comes outer ∙ leads ∙ place) c.head_from.ensures.moves (c.head_from.ensures.semi (ap is_inner c.inner_place.ensures))

pub returns-in-None : goal.returns-in-None
returns-in-None c =
    let comes : marked mark.Where c.args.tokens.now c.args.at ≡ true = grind arith in
    let outer : may_be_outer c.args.head ≡ true = grind arith in
    let leads = let P : Option (ColumnRef × ℕ) → Type 0 = λ o. LeadsTo c.args.tokens.now c.args.head (c.args.at + 1) o in subst P c.in-None.is (c.in_ok-key.ensures c.args.head) in
    behind_outer c.args.tokens.now c.args.head c.args.at comes outer ∙ leads ∙ behind_where c.args.tokens.now c.args.head c.args.at comes outer
