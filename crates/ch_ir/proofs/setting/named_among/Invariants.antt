use Rattle.std.proofs.Common.{◌≡◌, drop}
use Rattle.ch_ir.specs.Profile.{setting_among}
use Rattle.ch_ir.proofs.setting.named_among.Given as goal

abbrev pub invariant-loop-setting : goal.invariant-loop-setting
invariant-loop-setting l = setting_among (drop l.setting-index l.settings) l.name ≡ setting_among l.settings l.name
