use Rattle.std.proofs.Common.{◌≡◌, ◌++◌, map, take}
use Rattle.std.specs.Prelude.{codes, flat_map}
use Rattle.ch_bind.specs.Binding.{plain_bound}
use Rattle.cheetah_pack_meaning.specs.Meaning.{said_alone}
use Rattle.cheetah_pack_run.proofs.running.run_packed.Given as goal
use Rattle.cheetah_pack_run.specs.Running.{IsInstalled}

abbrev pub invariant-loop-number : goal.invariant-loop-number
invariant-loop-number l = record {
  installed : IsInstalled l.plans l.profile l.selector l.number l.pipe;
  out : l.out.items ≡ flat_map (λ said. said.out ++ codes "\n") (map (λ b. said_alone l.profile l.tables (plain_bound b)) (take l.number l.bounds));
  err : l.err.items ≡ flat_map (λ said. said.err) (map (λ b. said_alone l.profile l.tables (plain_bound b)) (take l.number l.bounds));
}
