-- A builder of the program, in the midst of the points.
use Rattle.std.proofs.Common.{◌≡◌, ◌<◌, ◌≤◌, ℕ, suc, ◌+◌, ◌*◌, ◌-◌, ◌^◌, List, [], ◌∷◌, ◌++◌, pos, length, refl, sym, ◌∙◌, ap, ap₂, subst, arith}
use Rattle.std.proofs.Math.Nat.{mul-suc}
use Rattle.std.proofs.lemmas.List.{append_assoc}
use Rattle.std.proofs.lemmas.Nat.{mul-le}
use Rattle.ch_ir.specs.declared.program.Operand.TheVariants.{Word, Const}
use Rattle.ch_ir.specs.declared.program.Binary.TheVariants as binary
use Rattle.ch_ir.specs.declared.program.Op.TheVariants.{Two}
use Rattle.op_moves.specs.Built.{HasMade, stages_after}
use Rattle.op_moves.specs.Moves.{Move, Compute, staged}
use Rattle.op_moves.specs.declared.builder.Builder.{Builder}
use Rattle.op_skyline.specs.Computed.{HasComputed}
use Rattle.op_skyline.specs.Emitted.{computes, first_ops, gate_after, moves_of, point_moves, points_from, points_of}
use Rattle.op_skyline.specs.declared.place.Place.{Place}
use Rattle.op_skyline.specs.declared.sizes.Sizes.{Sizes}

-- the moves of so many points are made, and the place is that of the next one
pub record IsUnderWay (s : Sizes) (builder : Builder) (done : ℕ) (p : Place) : Type 0 where
  pub dimensions_is : p.dimensions ≡ length s.places
  pub base_is : p.base ≡ s.width + 4 + 3 * length s.places + (4 * length s.places + 9) * done
  pub values_is : p.values ≡ s.width + 1
  pub score_is : p.score ≡ s.width + 2 * length s.places
  pub gate_in : p.gate < p.base
  pub carry_in : p.carry < p.base
  pub key_in : p.key < p.base
  pub gate_is : gate_after (s.points - done) (length s.places) p.base p.gate ≡ gate_after s.points (length s.places) (s.width + 4 + 3 * length s.places) s.width
  pub made : (rest : List Move) → stages_after builder (points_from (s.points - done) p.dimensions done p.base p.gate p.carry p.key p.values p.score ++ rest)
      ≡ staged [] (computes (first_ops s) ++ (points_of s ++ rest))

-- where the words of the first point stand
abbrev pub first : Sizes → Place
first s = record {
  dimensions = length s.places;
  base = s.width + 4 + 3 * length s.places;
  gate = s.width;
  carry = s.width + 1 + 2 * length s.places;
  key = s.width + 3 + 3 * length s.places;
  values = s.width + 1;
  score = s.width + 2 * length s.places;
}

-- and those of the point after one
abbrev pub after : Place → Place
after p = record p {
  base = p.base + 4 * p.dimensions + 9;
  gate = p.base + 3 * p.dimensions + 5;
  carry = p.base + 3 * p.dimensions + 6;
  key = p.base + 4 * p.dimensions + 8;
}

pub begun : (s : Sizes) (a b : Builder) (p : Place) → p ≡ first s → ((rest : List Move) → stages_after a rest ≡ staged [] rest) → HasComputed (first_ops s) a b → IsUnderWay s b 0 p
begun s a b p e empty firsts = subst (IsUnderWay s b 0) (sym e) (record {
  dimensions_is = refl;
  base_is = omega arith;
  values_is = refl;
  score_is = refl;
  gate_in = omega arith;
  carry_in = omega arith;
  key_in = omega arith;
  gate_is = ap (λ (n : ℕ). gate_after n (length s.places) (s.width + 4 + 3 * length s.places) s.width) all;
  made = λ rest.
      ap (λ (n : ℕ). stages_after b (points_from n (length s.places) 0 (s.width + 4 + 3 * length s.places) s.width (s.width + 1 + 2 * length s.places) (s.width + 3 + 3 * length s.places) (s.width + 1) (s.width + 2 * length s.places) ++ rest)) all
      ∙ (firsts (points_of s ++ rest) ∙ empty (computes (first_ops s) ++ (points_of s ++ rest)));
})
  where
    all : s.points - 0 ≡ s.points
    all = omega arith

next_after : (s : Sizes) (a b : Builder) (done : ℕ) (p : Place) → done < s.points → IsUnderWay s a done p
    → HasMade (point_moves p.dimensions done p.base p.gate p.carry p.key p.values p.score) a b → IsUnderWay s b (done + 1) (after p)
next_after s a b done p more way one =
    let d = way.dimensions_is in
    let e = way.base_is in
    let m = mul-suc (4 * length s.places + 9) done in
    let left : s.points - done ≡ suc (s.points - (done + 1)) = omega arith in
    let suc_is : suc done ≡ done + 1 = omega arith in
    let product : (4 * length s.places + 9) * (done + 1) ≡ (4 * length s.places + 9) * done + (4 * length s.places + 9) = ap (λ (n : ℕ). (4 * length s.places + 9) * n) (sym suc_is) ∙ m ∙ omega arith in
    let later : List Move = points_from (s.points - (done + 1)) p.dimensions (done + 1) (p.base + 4 * p.dimensions + 9) (p.base + 3 * p.dimensions + 5) (p.base + 3 * p.dimensions + 6) (p.base + 4 * p.dimensions + 8) p.values p.score in
    record {
      dimensions_is = d;
      base_is = omega arith;
      values_is = way.values_is;
      score_is = way.score_is;
      gate_in = omega arith;
      carry_in = omega arith;
      key_in = omega arith;
      gate_is = ap (λ (n : ℕ). gate_after (s.points - (done + 1)) (length s.places) (p.base + 4 * n + 9) (p.base + 3 * n + 5)) d
          ∙ (sym (ap (λ (n : ℕ). gate_after n (length s.places) p.base p.gate) left) ∙ way.gate_is);
      made = λ rest.
          one (later ++ rest)
          ∙ (ap (stages_after a) (sym (append_assoc (point_moves p.dimensions done p.base p.gate p.carry p.key p.values p.score) later rest))
          ∙ (sym (ap (λ (n : ℕ). stages_after a (points_from n p.dimensions done p.base p.gate p.carry p.key p.values p.score ++ rest)) left) ∙ way.made rest));
    }

pub next : (s : Sizes) (a b : Builder) (done : ℕ) (p q : Place) → done < s.points → q ≡ after p → IsUnderWay s a done p
    → HasMade (point_moves p.dimensions done p.base p.gate p.carry p.key p.values p.score) a b → IsUnderWay s b (done + 1) q
next s a b done p q more e way one = subst (IsUnderWay s b (done + 1)) (sym e) (next_after s a b done p more way one)

pub ended : (s : Sizes) (a b : Builder) (done : ℕ) (p : Place) → done ≡ s.points → IsUnderWay s a done p → HasMade (Compute (Two p.base binary.Eq (Word p.gate) (Const (pos 0))) ∷ []) a b
    → stages_after b [] ≡ staged [] (moves_of s)
ended s a b done p e way last =
    let none : s.points - done ≡ 0 = omega arith in
    let word_is : p.base ≡ s.width + 4 + 3 * length s.places + (4 * length s.places + 9) * s.points = way.base_is ∙ ap (λ (n : ℕ). s.width + 4 + 3 * length s.places + (4 * length s.places + 9) * n) e in
    let gate_is : p.gate ≡ gate_after s.points (length s.places) (s.width + 4 + 3 * length s.places) s.width = sym (ap (λ (n : ℕ). gate_after n (length s.places) p.base p.gate) none) ∙ way.gate_is in
    let rest : ℕ → ℕ → List Move = λ w g. Compute (Two w binary.Eq (Word g) (Const (pos 0))) ∷ [] in
    last []
    ∙ (sym (ap (λ (n : ℕ). stages_after a (points_from n p.dimensions done p.base p.gate p.carry p.key p.values p.score ++ rest p.base p.gate)) none)
    ∙ (way.made (rest p.base p.gate) ∙ ap₂ (λ (w g : ℕ). staged [] (computes (first_ops s) ++ (points_of s ++ rest w g))) word_is gate_is))

-- the words of a point are numbered far below 2^32
pub base_small : (s : Sizes) (builder : Builder) (done : ℕ) (p : Place) → IsUnderWay s builder done p → s.width < 2 ^ 31 → length s.places ≤ 4 → done ≤ s.points → s.points ≤ 2 ^ 16 → p.base + 32 < 2 ^ 32
base_small s builder done p way narrow few some points =
    let e = way.base_is in
    let a : 4 * length s.places + 9 ≤ 25 = omega arith in
    let b : done ≤ 2 ^ 16 = omega arith in
    let h = mul-le (4 * length s.places + 9) done 25 (2 ^ 16) a b in
    omega arith
