-- The numbers of moved words and arrays fit their types.
use Rattle.std.proofs.Common.{◌<◌, ◌≤◌, ◌+◌, ◌^◌, ℕ, List, [], ◌∷◌, ◌++◌, arith, length}
use Rattle.std.proofs.lemmas.List.{length-append}
use Rattle.ch_ir.specs.declared.program.Operand.{Operand}
use Rattle.ch_ir.specs.declared.program.Op.{Op}
use Rattle.ch_ir.specs.declared.program.Access.{Access}
use Rattle.ch_ir.specs.declared.program.Array.{Array}
use Rattle.ch_ir.specs.declared.program.Stage.{Stage}
use Rattle.ch_ir.specs.declared.program.Program.{Program}
use Rattle.ch_ir.specs.declared.program.Update.{Update}
use Rattle.ch_ir.specs.Measure.{access_end, op_end, operand_end, operands_end, words_of}
use Rattle.ch_ir.specs.Rules.{update_operand, update_operands}
use Rattle.ch_pack_laws.specs.declared.Seat.{Seat}
use Rattle.ch_pack_laws.specs.Packed.{all_arrays, free_after, free_after_all, seat_of}
use Rattle.ch_pack_laws.specs.Plans.{AllFine, free_grows}
use Rattle.ch_pack_laws.specs.Right.{shaped}
use Rattle.ch_pack_laws.specs.Rooms.{AccessRoom, AccessesRoom, OpsRoom, StagesRoom}
use Rattle.ch_pack.specs.Small.{AccessSmall, AccessesSmall, OperandsSmall, OpsSmall, ProgramsSmall, StagesSmall, UpdatesSmall, VerdictsSmall}

end_left : (xs ys : List Operand) → operands_end xs ≤ operands_end (xs ++ ys)
end_left [] ys = omega arith
end_left (a ∷ xs) ys = let e = end_left xs ys in omega arith

end_right : (xs ys : List Operand) → operands_end ys ≤ operands_end (xs ++ ys)
end_right [] ys = omega arith
end_right (a ∷ xs) ys = let e = end_right xs ys in omega arith

operands_small : (m : Seat) (operands : List Operand) → operands_end operands + m.shift ≤ 2 ^ 32 → OperandsSmall m operands
operands_small m [] h = tt
operands_small m (a ∷ rest) h = (omega arith, operands_small m rest (omega arith))

updates_small : (m : Seat) (us : List Update) → operands_end (update_operands us) + m.shift ≤ 2 ^ 32 → UpdatesSmall m us
updates_small m [] h = tt
updates_small m (u ∷ us) h =
    let a = end_left (update_operand u) (update_operands us) in
    let b = end_right (update_operand u) (update_operands us) in
    (operands_small m (update_operand u) (omega (arith, a, h)), updates_small m us (omega (arith, b, h)))

ops_small : (m : Seat) (width words : ℕ) (ops : List Op) → words + m.shift ≤ 2 ^ 32 → OpsRoom width words ops → OpsSmall m ops
ops_small m width words [] h room = tt
ops_small m width words (op ∷ ops) h room = let e : op_end op ≤ words = room.0.within in (omega (arith, e, h), ops_small m width words ops h room.1)

access_small : (m : Seat) (arrays : List Array) (words : ℕ) (x : Access) → words + m.shift ≤ 2 ^ 32 → m.base + length arrays ≤ 2 ^ 32 → AccessRoom arrays m.width words x → AccessSmall m x
access_small m arrays words x h b room =
    let w : access_end arrays x ≤ words = room.within in
    let updates : List Operand = update_operands x.yes ++ update_operands x.no in
    let index : operand_end x.index ≤ words = omega (arith, w) in
    let guard : operand_end x.guard ≤ words = omega (arith, w) in
    let rest : operands_end (x.key ++ updates) ≤ words = omega (arith, w) in
    let key = end_left x.key updates in
    let later = end_right x.key updates in
    let yes = end_left (update_operands x.yes) (update_operands x.no) in
    let no = end_right (update_operands x.yes) (update_operands x.no) in
    let old = room.end_old in
    let hit = room.end_hit in
    let there = room.there in
    record {
      index = omega (arith, index, h);
      guard = omega (arith, guard, h);
      key = operands_small m x.key (omega (arith, key, rest, h));
      yes = updates_small m x.yes (omega (arith, yes, later, rest, h));
      no = updates_small m x.no (omega (arith, no, later, rest, h));
      old = old_small m arrays words x h room;
      hit = omega (arith, hit, h);
      array = omega (arith, there, b);
    }
  where
    old_small : (m : Seat) (arrays : List Array) (words : ℕ) (x : Access) → words + m.shift ≤ 2 ^ 32 → AccessRoom arrays m.width words x → x.old + m.shift < 2 ^ 32
    old_small m arrays words x h room = let s = (shaped arrays x room.shape).cells in let e = room.end_old in omega (arith, s, e, h)

accesses_small : (m : Seat) (arrays : List Array) (words : ℕ) (xs : List Access) → words + m.shift ≤ 2 ^ 32 → m.base + length arrays ≤ 2 ^ 32 → AccessesRoom arrays m.width words xs → AccessesSmall m xs
accesses_small m arrays words [] h b room = tt
accesses_small m arrays words (x ∷ []) h b room = access_small m arrays words x h b room
accesses_small m arrays words (x ∷ y ∷ zs) h b room = elim room [ ]

stages_small : (m : Seat) (arrays : List Array) (words : ℕ) (stages : List Stage) → words + m.shift ≤ 2 ^ 32 → m.base + length arrays ≤ 2 ^ 32 → StagesRoom arrays m.width words stages → StagesSmall m stages
stages_small m arrays words [] h b room = tt
stages_small m arrays words (t ∷ ts) h b room = ((ops_small m m.width words t.ops h room.0.0, accesses_small m arrays words t.accesses h b room.0.1), stages_small m arrays words ts h b room.1)

pub programs_small : (width free base chosen : ℕ) (ps : List Program) → AllFine width ps → free_after_all free ps < 2 ^ 32 → base + length (all_arrays ps) < 2 ^ 32 → chosen + length ps < 2 ^ 32
    → ProgramsSmall free base chosen ps
programs_small width free base chosen [] fine f b c = tt
programs_small width free base chosen (p ∷ ps) fine f b c =
    let grows = free_grows (free_after free p) ps in
    let many = length-append p.arrays (all_arrays ps) in (
      record {
        stages = stages_small (seat_of p free base chosen) p.arrays (words_of p) p.stages (omega (arith, grows, f)) (omega (arith, many, b)) fine.0.right.rooms;
        next_free = omega (arith, grows, f);
        next_base = omega (arith, many, b);
        next_chosen = omega (arith, c);
      },
      programs_small width (free_after free p) (base + length p.arrays) (chosen + 1) ps fine.1 f (omega (arith, many, b)) (omega (arith, c)),
    )

pub verdicts_small : (free chosen : ℕ) (ps : List Program) → free_after_all free ps < 2 ^ 32 → chosen + length ps < 2 ^ 32 → VerdictsSmall free chosen ps
verdicts_small free chosen [] f c = tt
verdicts_small free chosen (p ∷ ps) f c =
    let grows = free_grows (free_after free p) ps in (
      record { verdict = omega (arith, grows, f); next_free = omega (arith, grows, f); next_chosen = omega (arith, c) },
      verdicts_small (free_after free p) (chosen + 1) ps f (omega (arith, c)),
    )
