use Rattle.std.proofs.Common.{false, ◌∙◌, ap}
use Rattle.ch_pred.specs.Holds.{holds_of}
use Rattle.ch_pred.proofs.Forms.{exact_weak}
use Rattle.ch_pred.proofs.GateLaws.{part_is_all}
use Rattle.ch_pred.proofs.PartLaws.{part_is_gate, implies_part, implies_weak}
use Rattle.ch_pred.proofs.truth.parts_follow.Goals as goal

pub returns-clause-gate : goal.returns-clause-gate
returns-clause-gate _ row p side = part_is_gate row side false p

pub returns-clause-part : goal.returns-clause-part
returns-clause-part _ = implies_part

pub returns-clause-weak : goal.returns-clause-weak
returns-clause-weak _ = implies_weak

pub returns-clause-same_part : goal.returns-clause-same_part
returns-clause-same_part _ row p side n = part_is_gate row side false p ∙ part_is_all side row false p n

pub returns-clause-same_weak : goal.returns-clause-same_weak
returns-clause-same_weak _ row p side n e = ap (holds_of row) (exact_weak p side e) ∙ (part_is_gate row side false p ∙ part_is_all side row false p n)
