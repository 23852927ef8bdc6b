-- The laws of SKYLINE OF that are left: it takes what workers send, and its policy covers the answer.
use Rattle.std.proofs.Common.{◌≡◌, true, List, ℤ, sym, ◌∙◌, ap₂}
use Rattle.std.specs.List.{list_all}
use Rattle.std.specs.Ordering.{int_cmp}
use Rattle.std.proofs.lemmas.Bool.{and_parts}
use Rattle.ch_cover.specs.Cover.{CoversOnce}
use Rattle.ch_cover.specs.Rows.{Row}
use Rattle.ch_cover.proofs.Narrower.{narrower_once}
use Rattle.ch_pred.specs.Meaning.{dominates as dims_dominate}
use Rattle.ch_pred.specs.declared.bound.Bound.{Bound}
use Rattle.ch_prune.specs.Sent.{is_cell_word, is_sent}
use Rattle.ch_words.specs.Rows.{Gate, answer_over, is_gated, row_seen}
use Rattle.ch_words.specs.Words.{Reading}
use Rattle.ch_words.proofs.SkylineCover.{skyline_covers}
use Rattle.op_skyline.specs.Fact.{point_seen, points_tell, skyline_fact}
use Rattle.op_skyline.specs.History.{skyline_takes}
use Rattle.op_skyline.specs.Policy.{dominates, skyline_policy}
use Rattle.op_skyline.specs.Serves.{SkylineServes}
use Rattle.op_skyline.specs.declared.sizes.Sizes.{Sizes}

pub skyline_sent : (s : Sizes) (d : Reading) (b : Bound) (gate : Gate) → SkylineServes s d b gate → (r : Row) → is_sent gate b r ≡ true → skyline_takes r ≡ true
skyline_sent s d b gate h r p = (and_parts (list_all is_cell_word r.words) _ (and_parts _ _ (and_parts (is_gated gate b r) _ p).1).1).0

pub policy_covers : (s : Sizes) (d : Reading) (b : Bound) (gate : Gate) → SkylineServes s d b gate → CoversOnce (is_sent gate b) (skyline_policy s) (answer_over d b)
policy_covers s d b gate h =
    narrower_once (is_gated gate b) (is_sent gate b) (skyline_policy s) (answer_over d b) (λ r p. (and_parts (is_gated gate b r) _ p).0)
    (skyline_covers d b gate h.dims h.own h.fits (skyline_policy s) (skyline_fact s (λ y r. dims_dominate int_cmp h.dims (row_seen b y) (row_seen b r))
    (λ y r e. points_tell (row_seen b y) (row_seen b r) h.dims
    (ap₂ (λ (p t : List ℤ). dominates p t) (sym (point_seen b h.dims s.places s.max y h.stand)) (sym (point_seen b h.dims s.places s.max r h.stand)) ∙ e))))
