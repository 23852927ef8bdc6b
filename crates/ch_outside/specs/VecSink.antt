-- Bytes that are written in memory.
use Rattle.std.specs.Prelude.{ℕ, List, ◌++◌, Result, is_ok, if◌then◌else◌}
use Rattle.ch_outside.specs.FaultPlan.{Plan, after_call}

-- what was written, and the calls that fail
pub record BytesInMemory : Type 0 where
  pub bytes : List ℕ
  pub plan : Plan

-- the sink after a call with this piece and this answer
abbrev pub after_put : {T E : Type 0} → BytesInMemory → List ℕ → Result T E → BytesInMemory
after_put sink piece answer = record {
  bytes = if is_ok answer then sink.bytes ++ piece else sink.bytes;
  plan = after_call sink.plan;
}
