use Rattle.std.proofs.Common.{◌≡◌, ℕ, ◌+◌, ◌-◌, ◌^◌, ◌<◌, ◌≤◌, min, List, [], ◌++◌, length, take, Option, Some, None, ap, ◌∙◌, sym, arith}
use Rattle.std.specs.Option.{IfSome, option_map}
use Rattle.std.proofs.lemmas.List.{length-take, take_all}
use Rattle.std.proofs.lemmas.Grind.{common_steps}
use Rattle.ch_outside.proofs.disk_shelf.read_to_end.Goals as goal

-- a front that is shorter than it might be is the whole
whole_front : (known : Option (List ℕ)) (bytes : List ℕ) (limit most : ℕ) → length bytes ≤ limit → length bytes < 2 ^ 63
    → most ≡ min (limit + 1) (2 ^ 64 - 1) → IfSome (option_map (take most) known) (λ xs. bytes ≡ [] ++ xs) → IfSome known (λ all. bytes ≡ all)
whole_front None bytes limit most fits small is front = tt
whole_front (Some all) bytes limit most fits small is front =
    let same : bytes ≡ take most all = front in
    let long : length bytes ≡ min most (length all) = ap length same ∙ length-take most all in
    let short : length all ≤ most = omega arith in
    same ∙ take_all most all short

pub returns-in-Ok : goal.returns-in-Ok
returns-in-Ok g c =
    let fits : length c.from_vec.result ≤ c.args.limit = grind (arith, common_steps) in
    let small : length c.from_vec.result < 2 ^ 63 = grind (arith, common_steps) in
    let most : c.take-front.result.limit ≡ min (c.args.limit + 1) (2 ^ 64 - 1) = cc in
    let front = simp (c.new-bytes.ensures.items, c.take-front.ensures.inner, sym c.from_vec.ensures) at c.in-Ok.ensures.bytes in
    (fits, whole_front _ _ _ _ fits small most front)
