-- The policy of a Distinct, and the queries that it serves.
use Rattle.std.specs.Prelude.{◌≡◌, ℕ, List, map}
use Rattle.ch_cover.specs.Rows.{Policy, Row}
use Rattle.ch_ir.specs.Hash.{hash_of}
use Rattle.ch_pred.specs.Named.{printed_cols}
use Rattle.ch_pred.specs.declared.bound.Bound.{Bound}
use Rattle.ch_pred.specs.declared.bound.Shape.TheVariants as shape
use Rattle.ch_words.specs.Policies.{Key, least_recent}
use Rattle.ch_words.specs.Rows.{Gate, GateFits}
use Rattle.ch_words.specs.Words.{Reading, asked_of_words}
use Rattle.op_moves.specs.Values.{word_at}
use Rattle.op_moves.specs.Columns.{AreRead}
use Rattle.op_distinct.specs.Sizes.{Sizes}

abbrev pub key_of : Sizes → Row → Key
key_of s r = map (word_at r) s.key

abbrev pub hash_row : Sizes → Key → ℕ
hash_row s k = hash_of 0 k s.rows

-- of each hash row the latest keys
abbrev pub distinct_policy : Sizes → Policy
distinct_policy s = least_recent s.cols (hash_row s) (key_of s)

-- a DISTINCT whose printed columns are at the key's places, where a row's bit is whether it holds
pub record DistinctServes (s : Sizes) (d : Reading) (b : Bound) (gate : Gate) : Type 0 where
  pub own : b.shape ≡ shape.Distinct
  pub fits : GateFits gate (asked_of_words d b) b.shape
  pub read : AreRead b (printed_cols b.printed) s.key
