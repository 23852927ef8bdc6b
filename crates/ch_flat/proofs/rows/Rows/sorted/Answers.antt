use Rattle.std.proofs.Common.{◌≤◌, ◌∙◌, ap, arith, length, map, List, ℤ}
use Rattle.ch_flat.specs.Flat.{end_of, starts}
use Rattle.ch_flat.specs.Heads.{with_head}
use Rattle.ch_flat.proofs.Places.{starts_whole}
use Rattle.ch_flat.proofs.rows.Rows.sorted.Goals as goal

pub sort_heads-requires : goal.sort_heads-requires
sort_heads-requires c =
    let w = c.self.inside.width in
    let n = c.self.inside.count in
    let words : List ℤ = c.as_slice-words.result.now in
    let invariant = c.self.invariant in
    let whole : end_of w n 0 ≤ length words = omega (arith, c.as_slice-words.ensures.len, ap (λ (ws : List ℤ). length ws) c.as_slice-words.ensures.value, invariant) in
    (starts w n 0, c.in_ok-heads.ensures ∙ ap (map (with_head w words)) (c.as_slice.ensures.value ∙ c.in_ok-starts.ensures), starts_whole w n 0 words whole)
