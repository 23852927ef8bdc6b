use Rattle.std.proofs.Common.{◌∙◌, ap, sym, map, refl}
use Rattle.ch_sql_grammar.specs.declared.terminal.Mark.TheVariants as mark
use Rattle.ch_sql_grammar.specs.Tree.{plain_of, plains}
use Rattle.ch_sql_text.specs.Printed.{filter_tokens, and_members, or_members, in_parens, is_or, is_and_or}
use Rattle.ch_sql_text.specs.Writing.{puts}
use Rattle.ch_sql_text.proofs.Puts.{list_step, on_ok, parens_written, plain_not}
use Rattle.ch_sql_text.proofs.filter.+filter.Goals as goal

pub write_and-loop-member-preserved : goal.write_and-loop-member-preserved
write_and-loop-member-preserved t c =
    let enclosed = parens_written _ (is_and_or (plain_of c.member-item.result)) (filter_tokens (plain_of c.member-item.result)) c.mark_if.new.self c.mark_if-in-loop-member.new.self c.write_pred.new.writer c.mark_if-in-loop-member-2.new.self
    c.is_and_or_pred-in_parens.ensures c.in_ok-mark_if-2.ensures c.in_ok-write_pred.ensures c.in_ok-mark_if-3.ensures in
    list_step (λ ms. and_members (plains (map plain_of ms))) (λ m. in_parens (is_and_or (plain_of m)) (filter_tokens (plain_of m))) (λ y ys. refl) c.args.members.now c.loop-member.member-index c.member-item.result c.loop-member.behind_one mark.And
    c.loop-member.writer c.mark_if.new.self c.mark_if-in-loop-member-2.new.self c.loop-member-test.true c.member-item.is c.in_ok-mark_if.ensures enclosed
    ∙ c.loop-member.invariant

pub write_or-loop-member-preserved : goal.write_or-loop-member-preserved
write_or-loop-member-preserved t c =
    let enclosed = parens_written _ (is_or (plain_of c.member-item.result)) (filter_tokens (plain_of c.member-item.result)) c.mark_if.new.self c.mark_if-in-loop-member.new.self c.write_pred.new.writer c.mark_if-in-loop-member-2.new.self
    c.is_or_pred-in_parens.ensures c.in_ok-mark_if-2.ensures c.in_ok-write_pred.ensures c.in_ok-mark_if-3.ensures in
    list_step (λ ms. or_members (plains (map plain_of ms))) (λ m. in_parens (is_or (plain_of m)) (filter_tokens (plain_of m))) (λ y ys. refl) c.args.members.now c.loop-member.member-index c.member-item.result c.loop-member.behind_one mark.Or
    c.loop-member.writer c.mark_if.new.self c.mark_if-in-loop-member-2.new.self c.loop-member-test.true c.member-item.is c.in_ok-mark_if.ensures enclosed
    ∙ c.loop-member.invariant

pub write_pred-returns-in_ok-write_pred-in-Not : goal.write_pred-returns-in_ok-write_pred-in-Not
write_pred-returns-in_ok-write_pred-in-Not t c =
    let inner = c.in-Not.inner.value in
    on_ok _ _ _ (λ e.
    parens_written _ (is_and_or (plain_of inner)) (filter_tokens (plain_of inner)) c.mark.new.self c.mark_if.new.self c.write_pred.new.writer c.mark_if-in-Not.new.self
    (c.is_and_or_pred-in_parens.ensures ∙ ap (λ p. is_and_or (plain_of p)) c.deref.ensures) c.in_ok-mark_if-in-Not.ensures (c.in_ok-write_pred-in-Not.ensures ∙ ap (λ p. puts c.mark_if.new.self (filter_tokens (plain_of p))) c.deref-in-Not.ensures) e
    ∙ ap (λ w. puts w (in_parens (is_and_or (plain_of inner)) (filter_tokens (plain_of inner)))) c.in_ok-mark-in-Not.ensures
    ∙ ap (λ p. puts c.args.writer.now (filter_tokens p)) (sym (ap plain_of c.in-Not.is ∙ plain_not c.in-Not.inner)))
    c.mark_if-in-Not.ensures
