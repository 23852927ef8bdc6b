-- A builder of the program, in the midst of the thresholds.
use Rattle.std.proofs.Common.{◌≡◌, ◌<◌, ℕ, suc, ◌+◌, ◌*◌, ◌-◌, List, [], ◌∷◌, ◌++◌, sym, ◌∙◌, ap, arith}
use Rattle.ch_ir.specs.declared.program.Operand.TheVariants.{Word}
use Rattle.ch_ir.specs.declared.program.Binary.TheVariants as binary
use Rattle.ch_ir.specs.declared.program.Op.TheVariants.{Two}
use Rattle.op_moves.specs.Built.{HasMade, stages_after}
use Rattle.op_moves.specs.Moves.{Move, Compute, staged}
use Rattle.op_moves.specs.declared.builder.Builder.{Builder}
use Rattle.op_topn.specs.Emitted.{firsts, moves_of, step, steps}
use Rattle.op_topn.specs.declared.sizes.Sizes.{Sizes}

-- the moves of so many thresholds are made, and `bad` is the word that tells whether the row is bad so far
pub record IsUnderWay (s : Sizes) (builder : Builder) (done bad : ℕ) : Type 0 where
  pub bad_is : bad ≡ s.width + 9 + 7 * done
  pub made : (rest : List Move) → stages_after builder (steps s (s.steps - done) (done + 1) bad ++ rest) ≡ staged [] (firsts s ++ (steps s s.steps 1 (s.width + 9) ++ rest))

pub begun : (s : Sizes) (a b : Builder) → ((rest : List Move) → stages_after a rest ≡ staged [] rest) → HasMade (firsts s) a b → IsUnderWay s b 0 (s.width + 9)
begun s a b empty first = record {
  bad_is = omega arith;
  made = λ rest.
      let all : s.steps - 0 ≡ s.steps = omega arith in
      let moves : List Move = steps s s.steps 1 (s.width + 9) ++ rest in
      ap (λ (n : ℕ). stages_after b (steps s n 1 (s.width + 9) ++ rest)) all ∙ (first moves ∙ empty (firsts s ++ moves));
}

pub next : (s : Sizes) (a b : Builder) (done bad : ℕ) → done < s.steps → IsUnderWay s a done bad → HasMade (step s (done + 1) bad) a b → IsUnderWay s b (done + 1) (bad + 7)
next s a b done bad more way one = record {
  bad_is = let e = way.bad_is in omega arith;
  made = λ rest.
      let left : s.steps - done ≡ suc (s.steps - (done + 1)) = omega arith in
      let later : List Move = steps s (s.steps - (done + 1)) (done + 1 + 1) (bad + 7) in
      one (later ++ rest) ∙ (sym (ap (λ (n : ℕ). stages_after a (steps s n (done + 1) bad ++ rest)) left) ∙ way.made rest);
}

pub ended : (s : Sizes) (a b : Builder) (done bad : ℕ) → done ≡ s.steps → IsUnderWay s a done bad → HasMade (Compute (Two (bad + 1) binary.Le (Word s.width) (Word bad)) ∷ []) a b
    → stages_after b [] ≡ staged [] (moves_of s)
ended s a b done bad e way last =
    let none : s.steps - done ≡ 0 = omega arith in
    let is_last : bad ≡ s.width + 9 + 7 * s.steps = (let k = way.bad_is in omega arith) in
    let rest : ℕ → List Move = λ n. Compute (Two (n + 1) binary.Le (Word s.width) (Word n)) ∷ [] in
    last []
    ∙ (sym (ap (λ (n : ℕ). stages_after a (steps s n (done + 1) bad ++ rest bad)) none)
    ∙ (way.made (rest bad) ∙ ap (λ (n : ℕ). staged [] (firsts s ++ (steps s s.steps 1 (s.width + 9) ++ rest n))) is_last))
