use Rattle.std.proofs.Common.{◌++◌, take, drop, ap, ◌∙◌, arith}
use Rattle.std.specs.Int.{w32, to_be_bytes}
use Rattle.ch_packet.proofs.Heads.{fault_of-long, spelling-epoch, fault_of-epoch}
use Rattle.ch_packet.proofs.packet.set_epoch.Goals as goal

pub write_epoch-requires : goal.write_epoch-requires
write_epoch-requires c = omega (arith, fault_of-long c.args.bytes.now c.requires)

pub returns-clause-packet : goal.returns-clause-packet
returns-clause-packet c = λ packet is same.
    c.write_epoch.ensures
    ∙ ap (λ bytes. take 12 bytes ++ to_be_bytes w32 c.args.epoch ++ drop 16 bytes) same
    ∙ spelling-epoch packet c.args.epoch

pub returns-clause-accepted : goal.returns-clause-accepted
returns-clause-accepted c = rw c.write_epoch.ensures (fault_of-epoch c.args.bytes.now c.args.epoch c.requires)
