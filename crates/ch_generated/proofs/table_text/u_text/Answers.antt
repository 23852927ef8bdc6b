use Rattle.std.proofs.Common.{◌≡◌, ◌∙◌, ℕ, sym, ap, arith}
use Rattle.rand_pcg.specs.Lcg.{Lcg}
use Rattle.ch_generated.specs.Draws.{after}
use Rattle.ch_generated.specs.TableText.{part_text, u_header, u_rows, u_text}
use Rattle.ch_generated.proofs.DrawLemmas.{after_none, after_row, u_rows_none}
use Rattle.ch_generated.proofs.Texts.{u_more}
use Rattle.ch_generated.proofs.table_text.u_text.Goals as goal

pub loop-row-init : goal.loop-row-init
loop-row-init c = (c.in_ok-text.ensures.items ∙ ap (part_text u_header) (sym (u_rows_none c.args.generator.now)), sym (after_none c.args.generator.now))

pub loop-row-preserved : goal.loop-row-preserved
loop-row-preserved c =
    let n : ℕ = c.loop-row._row in
    let g : Lcg = c.args.generator.now in (
      u_more n g c.loop-row.generator c.loop-row.text.items _ c.loop-row.invariant.1 c.loop-row.invariant.0 c.in_ok-push_u_row.ensures.line,
      c.in_ok-push_u_row.ensures.after ∙ ap (λ (h : Lcg). after 2 h) c.loop-row.invariant.1 ∙ after_row n 2 g,
    )

pub returns-clause-text : goal.returns-clause-text
unfolding u_text
returns-clause-text c =
    let all : c.loop-row._row ≡ 100 = omega arith in
    c.from_vec.ensures ∙ c.loop-row.invariant.0 ∙ ap (λ (n : ℕ). part_text u_header (u_rows n c.args.generator.now)) all
