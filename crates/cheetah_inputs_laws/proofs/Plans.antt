-- A query whose needs are within the limits has a plan.
use Rattle.std.proofs.Common.{◌≡◌, ◌≤◌, ◌<◌, ◌^◌, ◌+◌, refl, None, arith}
use Rattle.std.proofs.lemmas.List.{length-map}
use Rattle.ch_ir.specs.declared.profile.Profile.{Profile}
use Rattle.ch_ir.specs.declared.setting.Setting.TheVariants.{BloomCells, BloomHashes, DistinctCols, DistinctRows, Ops, SketchCells, SketchHashes, SkylinePoints, TopGap, TopSteps}
use Rattle.ch_plan.proofs.HavingPlans.{having_of, having_plan, sum_fits}
use Rattle.ch_plan.proofs.KeyPlans.{distinct_fine, distinct_of, distinct_plan, group_fine, group_of, group_plan, key_few, key_fits}
use Rattle.ch_plan.proofs.KindPlans.{filter_plan, skyline_plan, skyline_sizes_of, top_of, top_plan}
use Rattle.ch_plan.proofs.Placed.{dims_placed, placed}
use Rattle.ch_plan.proofs.TwoPassPlans.{filters_of, join_plan, semi_plan, semi_sizes_of}
use Rattle.ch_plan.specs.Kinds.{IsPlanOf, IsPlannable}
use Rattle.ch_plan.specs.Needs.{greatest_length, need_of, plan_refusal}
use Rattle.ch_plan.specs.Ranged.{IsRanged}
use Rattle.ch_plan.specs.declared.kind.PlanKind.{PlanKind}
use Rattle.ch_plan.specs.declared.kind.PlanKind.TheVariants as kind
use Rattle.ch_pred.specs.Sound.{IsCarried}
use Rattle.ch_pred.specs.declared.bound.Bound.{Bound}
use Rattle.ch_pred.specs.declared.bound.Shape.{Shape}
use Rattle.ch_pred.specs.declared.bound.Shape.TheVariants as shape
use Rattle.ch_pred.specs.declared.pred.Col.{Col}
use Rattle.ch_prune.specs.declared.filter.Filter.{Filter}
use Rattle.op_bloom.specs.Fine as bloom
use Rattle.op_distinct.specs.declared.distinct.Distinct.{Distinct}
use Rattle.op_group.specs.declared.group.Group.{Group}
use Rattle.op_having.specs.declared.having.HavingOp.{HavingOp}
use Rattle.op_join.specs.declared.join.JoinOp.{JoinOp}
use Rattle.op_moves.specs.Columns.{place_of}
use Rattle.op_semi.specs.declared.semi.Semi.{Semi}
use Rattle.op_skyline.specs.declared.skyline.Skyline.{Skyline}
use Rattle.op_topn.specs.declared.topn.TopN.{TopN}

-- the limit of an ORDER BY fits 32 bits
abbrev pub IsLimited : Shape → Type 0
IsLimited shape.Filter = Unit {0}
IsLimited shape.Distinct = Unit {0}
IsLimited (shape.Top by descending limit) = limit < 2 ^ 32
IsLimited (shape.Group keys max value) = Unit {0}
IsLimited (shape.Having keys sum above) = Unit {0}
IsLimited (shape.Join left right) = Unit {0}
IsLimited (shape.Skyline dims) = Unit {0}
IsLimited (shape.Semi key inner) = Unit {0}

module _ (b : Bound) (profile : Profile) (few : greatest_length b.carried ≤ 16) (ranged : IsRanged profile) (within : plan_refusal (need_of b profile) profile ≡ None) where
  abbrev Planned : Type 0
  Planned = (k : PlanKind) × IsPlanOf k b profile

  stands : (c : Col) → IsCarried b c.side c.at → (2 ≤ place_of b c) × (place_of b c < greatest_length b.carried + 3)
  stands c carried = let h = placed b c.side c.at carried in (omega (arith, h), omega (arith, h))

  filters_fine : (left right : Col) → IsCarried b left.side left.at → IsCarried b right.side right.at → bloom.IsFine (filters_of b profile left right)
  filters_fine left right first second =
      let hashes = (ranged BloomHashes).1 in
      let low = (ranged BloomCells).0 in
      let high = (ranged BloomCells).1 in
      record {
        wide = omega arith;
        narrow = omega (arith, few);
        few = hashes;
        left = stands left first;
        right = stands right second;
        some = omega (arith, low);
        small = omega (arith, high);
      }

  by_shape : (s : Shape) → b.shape ≡ s → IsPlannable b s → IsLimited s → Planned
  by_shape shape.Filter e is fits =
      let many = (ranged Ops).0 in
      let o : Filter = record { front = record {}; ops = profile.ops; width = greatest_length b.carried + 3; least = omega arith; some = omega (arith, many) } in
      (kind.Filter o, filter_plan b profile o e refl refl within)
  by_shape shape.Distinct e is fits =
      let fine = distinct_fine b profile few ranged is in
      let s = distinct_of b profile in
      let o : Distinct = record { front = record {}; ops = profile.ops; width = s.width; rows = s.rows; cols = s.cols; key = s.key; fine = fine; many = (ranged Ops).0 } in
      (kind.Distinct o, distinct_plan b profile o e refl refl within)
  by_shape (shape.Top by descending limit) e is fits =
      let steps = (ranged TopSteps).1 in
      let gap = (ranged TopGap).1 in
      let at = stands by is.0 in
      let o : TopN = record {
        front = record {};
        ops = profile.ops;
        sizes = top_of b profile by descending limit;
        fine = record { past = at.0; wide = at.1; narrow = omega (arith, few); few_steps = steps; small_gap = gap; some_rows = is.1; few_rows = fits };
        many = (ranged Ops).0;
      } in
      (kind.Top o, top_plan b profile by descending limit o e refl refl within)
  by_shape (shape.Group keys max value) e is fits =
      let s = group_of b profile keys max value in
      let o : Group = record {
        front = record {};
        ops = profile.ops;
        width = s.width;
        rows = s.rows;
        cols = s.cols;
        key = s.key;
        value = s.value;
        max = s.is_max;
        fine = group_fine b profile keys max value few ranged is.0 is.1;
        many = (ranged Ops).0;
      } in
      (kind.Group o, group_plan b profile keys max value o e refl refl within)
  by_shape (shape.Having keys sum above) e is fits =
      let s = having_of b profile keys sum above in
      let low = (ranged SketchCells).0 in
      let o : HavingOp = record {
        front = record {};
        ops = profile.ops;
        sizes = s;
        fine = record {
          wide = omega arith;
          narrow = omega (arith, few);
          few = (ranged SketchHashes).1;
          short = key_few b keys few is.0;
          keys = key_fits b keys is.0;
          value = sum_fits b sum s.width s.value refl refl is.1;
          some = omega (arith, low);
          above = is.2;
        };
        many = (ranged Ops).0;
      } in
      (kind.Having o, having_plan b profile keys sum above o e refl refl within)
  by_shape (shape.Join left right) e is fits =
      let o : JoinOp = record { front = record {}; ops = profile.ops; sizes = filters_of b profile left right; fine = filters_fine left right is.0 is.1; many = (ranged Ops).0 } in
      (kind.Join o, join_plan b profile left right o e is.2 is.3 refl refl within)
  by_shape (shape.Skyline dims) e is fits =
      let points = (ranged SkylinePoints).1 in
      let places = length-map dims (λ k. place_of b k.col) in
      let ways = length-map dims (λ k. k.max) in
      let some = is.1 in
      let most = is.2 in
      let o : Skyline = record {
        front = record {};
        ops = profile.ops;
        sizes = skyline_sizes_of b profile dims;
        fine = record {
          wide = omega arith;
          narrow = omega (arith, few);
          some = omega (arith, places, some);
          few = omega (arith, places, most);
          same = omega (arith, places, ways);
          placed = dims_placed b dims is.0;
          few_points = omega (arith, points);
        };
        many = (ranged Ops).0;
      } in
      (kind.Skyline o, skyline_plan b profile dims o e refl refl within)
  by_shape (shape.Semi key inner) e is fits =
      let low = (ranged DistinctRows).0 in
      let high = (ranged DistinctRows).1 in
      let o : Semi = record {
        front = record {};
        ops = profile.ops;
        sizes = semi_sizes_of b profile key inner;
        fine = record { bloom = filters_fine key inner is.0 is.1; some = omega (arith, low); small = omega (arith, high); few = (ranged DistinctCols).1 };
        many = (ranged Ops).0;
      } in
      (kind.Semi o, semi_plan b profile key inner o e refl refl within)

  pub planned : IsPlannable b b.shape → IsLimited b.shape → Planned
  planned is fits = by_shape b.shape refl is fits
