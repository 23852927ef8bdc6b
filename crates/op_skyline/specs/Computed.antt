-- What a builder has made where it computed ops.
use Rattle.std.proofs.Common.{List, ◌++◌, sym, subst}
use Rattle.std.proofs.lemmas.List.{map-append}
use Rattle.ch_ir.specs.declared.program.Op.{Op}
use Rattle.op_moves.specs.Built.{HasMade, then_made}
use Rattle.op_moves.specs.Moves.{Move, Compute}
use Rattle.op_moves.specs.declared.builder.Builder.{Builder}
use Rattle.op_skyline.specs.Emitted.{computes}

abbrev pub HasComputed : List Op → Builder → Builder → Type 0
HasComputed ops old new = HasMade (computes ops) old new

pub then_computed : (xs ys : List Op) (a b c : Builder) → HasComputed xs a b → HasComputed ys b c → HasComputed (xs ++ ys) a c
then_computed xs ys a b c f g = subst (λ (ms : List Move). HasMade ms a c) (sym (map-append Compute xs ys)) (then_made (computes xs) (computes ys) a b c f g)
