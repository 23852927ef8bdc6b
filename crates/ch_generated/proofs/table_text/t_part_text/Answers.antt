use Rattle.std.proofs.Common.{◌++◌, ◌∙◌, List, ℕ, Vec, Global, ap}
use Rattle.ch_generated.specs.TableText.{t_part_text}
use Rattle.ch_generated.specs.declared.table_text.TableRow.{TableRow}
use Rattle.ch_generated.proofs.Texts.{lines_from, lines_in, lines_out}
use Rattle.ch_generated.proofs.table_text.t_part_text.Goals as goal
use Rattle.ch_generated.proofs.table_text.t_part_text.Goals.{then-place-part+in_ok-push_t_row, else-place-part}

pub loop-place-init : goal.loop-place-init
unfolding t_part_text
loop-place-init c = ap (λ (t : List ℕ). t ++ lines_from c.args.part 0 c.args.rows.now) c.in_ok-text.ensures.items

no_row : TableRow
no_row = record { k = 0; v = 0; b = 0 }

pub loop-place-preserved : goal.loop-place-preserved
loop-place-preserved c =
    let part : ℕ = c.args.part in
    let place : ℕ = c.loop-place.place in
    let rows : List TableRow = c.args.rows.now in
    elim c.if-place-part.branch [
      | then-place-part+in_ok-push_t_row w ↦
          lines_in part place rows _ c.loop-place.text.items _ _ c.loop-place-test.true w.if-place-part.true
          (ap (λ (t : Vec ℕ Global). t.items) w.text-is ∙ w.in_ok-push_t_row.ensures) c.loop-place.invariant
      | else-place-part w ↦
          lines_out part place rows no_row c.loop-place.text.items _ _ c.loop-place-test.true w.if-place-part.false
          (ap (λ (t : Vec ℕ Global). t.items) w.text-is) c.loop-place.invariant
    ]
