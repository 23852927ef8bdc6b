-- The laws of Group.
use Rattle.std.proofs.Common.{◌≡◌, true, refl, None, subst, sym, ap}
use Rattle.std.specs.List.{list_all}
use Rattle.std.proofs.lemmas.Bool.{and_parts}
use Rattle.ch_cover.specs.Rows.{Row}
use Rattle.ch_cover.specs.Cover.{CoversOnce}
use Rattle.ch_cover.proofs.Narrower.{narrower_once}
use Rattle.ch_ir.specs.Machine.{cleared}
use Rattle.ch_pred.specs.Meaning.{at, at_each}
use Rattle.ch_pred.specs.declared.bound.Bound.{Bound}
use Rattle.ch_prune.specs.Sent.{is_cell_word, is_sent}
use Rattle.ch_verdicts.specs.Agrees.{Agrees}
use Rattle.ch_words.specs.Rows.{Gate, answer_over, is_gated, row_seen}
use Rattle.ch_words.specs.Words.{Reading}
use Rattle.ch_words.proofs.GroupCover as covers
use Rattle.op_moves.specs.Columns.{column_word, read_columns}
use Rattle.op_moves.specs.Steps.{steps_agree}
use Rattle.op_group.specs.Sizes.{Sizes, IsFine}
use Rattle.op_group.specs.Policy.{group_policy}
use Rattle.op_group.specs.Program.{group_program}
use Rattle.op_group.specs.Agrees.{group_steps, group_takes, registers_after}
use Rattle.op_group.specs.Fact.{group_fact}
use Rattle.op_group.specs.Serving.{GroupServes}

pub group_agrees : (s : Sizes) → IsFine s → Agrees group_takes (group_program s) None (cleared (group_program s).arrays) (group_policy s)
group_agrees s fine = steps_agree group_takes (group_program s) (group_policy s) (registers_after s) (group_steps s fine)

pub group_sent : (s : Sizes) (d : Reading) (b : Bound) (gate : Gate) → GroupServes s d b gate → (r : Row) → is_sent gate b r ≡ true → group_takes r ≡ true
group_sent s d b gate serves r h = (and_parts (list_all is_cell_word r.words) _ (and_parts _ _ (and_parts (is_gated gate b r) _ h).1).1).0

pub group_covers : (s : Sizes) (d : Reading) (b : Bound) (gate : Gate) → GroupServes s d b gate → CoversOnce (is_sent gate b) (group_policy s) (answer_over d b)
group_covers s d b gate serves =
    narrower_once (is_gated gate b) (is_sent gate b) (group_policy s) (answer_over d b) (λ r h. (and_parts (is_gated gate b r) _ h).0)
    (covers.group_covers d b gate serves.keys s.is_max serves.value serves.own serves.fits (group_policy s)
    (group_fact s (λ r. at_each (row_seen b r) serves.keys) (λ r. at (row_seen b r) serves.value) (λ r x e. read_columns b serves.keys s.key x r serves.read e) (λ r. column_word b serves.value s.value r serves.stands)))
