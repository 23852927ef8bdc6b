use Rattle.std.proofs.Common.{◌≡◌, ◌∙◌, ◌+◌, Some, true, false, sym, ap, arith}
use Rattle.ch_sql_grammar.specs.declared.terminal.Mark.TheVariants as mark
use Rattle.ch_sql_grammar.specs.Tokens.{marked}
use Rattle.ch_sql_parser.specs.Behind.{opens_select}
use Rattle.ch_sql_parser.proofs.Leading.{lead_unnamed, bare_opens, bare_closed, dot_unnamed, dotted_opens, dotted_closed}
use Rattle.ch_sql_parser.proofs.heads.semi_key.Goals as goal

pub returns-in_default : goal.returns-in_default
returns-in_default c = λ h. lead_unnamed c.args.tokens.now h c.args.at (sym c.in_default.ensures.value)

pub returns-then-not-opens_inner : goal.returns-then-not-opens_inner
returns-then-not-opens_inner c = λ h.
    let dot : marked mark.Dot c.args.tokens.now (c.args.at + 1) ≡ false = grind arith in
    let opens : opens_select c.args.tokens.now (c.args.at + 1) ≡ false = grind arith in
    bare_closed c.args.tokens.now h c.in-Some.first.now c.args.at (sym c.in-Some.ensures.value) dot opens

pub returns-then-not-mark_at : goal.returns-then-not-mark_at
returns-then-not-mark_at c = λ h.
    let dot : marked mark.Dot c.args.tokens.now (c.args.at + 1) ≡ false = grind arith in
    let opens : opens_select c.args.tokens.now (c.args.at + 1) ≡ true = grind arith in
    let copied : c.in-Some.first.now ≡ c.in_ok-name.name = sym (c.in_ok-name.ensures ∙ c.as_slice.ensures) in
    bare_opens c.args.tokens.now h c.in_ok-name.name c.args.at (sym c.in-Some.ensures.value ∙ ap Some copied) dot opens

pub returns-in_default-name_there : goal.returns-in_default-name_there
returns-in_default-name_there c = λ h.
    let dot : marked mark.Dot c.args.tokens.now (c.args.at + 1) ≡ true = grind arith in
    dot_unnamed c.args.tokens.now h c.in-Some.first.now c.args.at (sym c.in-Some.ensures.value) dot (sym c.in_default-name_there.ensures.value)

pub returns-then-not-opens_inner-2 : goal.returns-then-not-opens_inner-2
returns-then-not-opens_inner-2 c = λ h.
    let dot : marked mark.Dot c.args.tokens.now (c.args.at + 1) ≡ true = grind arith in
    let opens : opens_select c.args.tokens.now (c.args.at + 3) ≡ false = grind arith in
    dotted_closed c.args.tokens.now h c.in-Some.first.now c.in-Some-name_there.second.now c.args.at (sym c.in-Some.ensures.value) dot (sym c.in-Some-name_there.ensures.value) opens

pub returns : goal.returns
returns c = λ h.
    let dot : marked mark.Dot c.args.tokens.now (c.args.at + 1) ≡ true = grind arith in
    let opens : opens_select c.args.tokens.now (c.args.at + 3) ≡ true = grind arith in
    let table : c.in-Some.first.now ≡ c.in_ok-table.table = sym (c.in_ok-table.ensures ∙ c.as_slice-2.ensures) in
    let name : c.in-Some-name_there.second.now ≡ c.in_ok-name-2.name = sym (c.in_ok-name-2.ensures ∙ c.as_slice-3.ensures) in
    dotted_opens c.args.tokens.now h c.in_ok-table.table c.in_ok-name-2.name c.args.at (sym c.in-Some.ensures.value ∙ ap Some table) dot (sym c.in-Some-name_there.ensures.value ∙ ap Some name) opens
