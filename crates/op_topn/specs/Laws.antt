-- The laws of ORDER BY with LIMIT that are left: it takes what workers send, and its policy covers the answer.
use Rattle.std.proofs.Common.{◌≡◌, true}
use Rattle.std.specs.List.{list_all}
use Rattle.std.proofs.lemmas.Bool.{and_parts}
use Rattle.ch_cover.specs.Cover.{CoversOnce}
use Rattle.ch_cover.specs.Rows.{Row}
use Rattle.ch_cover.proofs.Narrower.{narrower_once}
use Rattle.ch_pred.specs.Meaning.{at}
use Rattle.ch_pred.specs.declared.bound.Bound.{Bound}
use Rattle.ch_prune.specs.Sent.{is_cell_word, is_sent}
use Rattle.ch_words.specs.Rows.{Gate, answer_over, is_gated, row_seen}
use Rattle.ch_words.specs.Words.{Reading}
use Rattle.ch_words.proofs.TopCover.{top_covers}
use Rattle.op_moves.specs.Columns.{column_word}
use Rattle.op_topn.specs.Fact.{top_fact}
use Rattle.op_topn.specs.History.{top_takes}
use Rattle.op_topn.specs.Policy.{top_policy}
use Rattle.op_topn.specs.Serves.{TopServes}
use Rattle.op_topn.specs.declared.sizes.Sizes.{Sizes}

pub top_sent : (s : Sizes) (d : Reading) (b : Bound) (gate : Gate) → TopServes s d b gate → (r : Row) → is_sent gate b r ≡ true → top_takes r ≡ true
top_sent s d b gate h r p = (and_parts (list_all is_cell_word r.words) _ (and_parts _ _ (and_parts (is_gated gate b r) _ p).1).1).0

pub policy_covers : (s : Sizes) (d : Reading) (b : Bound) (gate : Gate) → TopServes s d b gate → CoversOnce (is_sent gate b) (top_policy s) (answer_over d b)
policy_covers s d b gate h =
    narrower_once (is_gated gate b) (is_sent gate b) (top_policy s) (answer_over d b) (λ r p. (and_parts (is_gated gate b r) _ p).0)
    (top_covers d b gate h.by s.descending s.limit h.own h.fits (top_policy s) (top_fact s (λ r. at (row_seen b r) h.by) (λ r. column_word b h.by s.value r h.place)))
