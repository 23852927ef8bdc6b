-- Calls that fail where they are told to.
use Rattle.std.specs.Prelude.{ℕ, ◌==◌, List, Bool, if◌then◌else◌}
use Rattle.std.specs.List.{list_any}
use Rattle.ch_outside.specs.Faults.{one_more}

pub record Plan : Type 0 where
  -- the numbers of the calls that fail, counted from 0
  pub fail : List ℕ
  -- how many calls there were
  pub calls : ℕ
  -- how many of them failed
  pub faults : ℕ

-- whether the next call fails
abbrev pub fails_next : Plan → Bool
fails_next plan = list_any (λ n. n == plan.calls) plan.fail

-- the plan after the next call
abbrev pub after_call : Plan → Plan
after_call plan = record {
  fail = plan.fail;
  calls = one_more plan.calls;
  faults = if fails_next plan then one_more plan.faults else plan.faults;
}
