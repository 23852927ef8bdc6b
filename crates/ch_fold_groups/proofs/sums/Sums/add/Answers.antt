use Rattle.std.proofs.Common.{◌≡◌, ◌++◌, ◌∷◌, [], ℤ, List, ◌^◌, refl, ap, sym, ◌∙◌, subst, arith, pos, negsuc, ◌+ℤ◌, ◌≤ℤ◌, Some, None, position, w64, to_z, of_z}
use Rattle.std.specs.Prelude.{slice_set}
use Rattle.std.proofs.lemmas.Int.{ints}
use mir.Syntax.{w128}
use Rattle.ch_pred.specs.Meaning.{total}
use Rattle.ch_fold_groups.specs.Kept.{KeepsGroups, Valued}
use Rattle.ch_fold_groups.proofs.Bounds.{sum_within}
use Rattle.ch_fold_groups.proofs.Steps.{both_more, is_key, key_new, sum_new, sum_there}
use Rattle.ch_fold_groups.proofs.sums.Sums.add.Goals as goal

pub overflow_add-index_mut : goal.overflow_add-index_mut
overflow_add-index_mut c =
    let found : position (is_key c.args.key.items) c.self.inside.keys ≡ Some c.in-Some.number = sym (c.in-Some.ensures ∙ ap (λ (k : List ℤ). position (is_key k) c.self.inside.keys) c.as_slice.ensures.value) in
    let kept : Valued ℤ = record { keys = c.self.inside.keys; values = c.self.inside.sums.items } in
    let room = c.requires.room in
    let h = sum_within room.0 kept (subst (λ (z : Valued ℤ). KeepsGroups total room.0 z) (sym c.self.view_is) room.1) room.2 room.3 c.args.key.items c.in-Some.number c.index_mut.result.now found in
    let high : c.index_mut.result.now ≤ℤ pos (2 ^ 126) = subst (λ (z : ℤ). z ≤ℤ pos (2 ^ 126)) (sym c.index_mut.ensures.value) h.0 in
    let low : negsuc (2 ^ 126) ≤ℤ c.index_mut.result.now = subst (λ (z : ℤ). negsuc (2 ^ 126) ≤ℤ z) (sym c.index_mut.ensures.value) h.1 in
    let value : to_z w64 (of_z w64 c.args.value) ≡ c.args.value = omega (arith, ints) in
    omega (arith, ints, high, low, value, c.from.ensures)

pub returns-in-Some-clause-ok : goal.returns-in-Some-clause-ok
returns-in-Some-clause-ok c = λ groups k.
    let found : position (is_key c.args.key.items) c.self.inside.keys ≡ Some c.in-Some.number = sym (c.in-Some.ensures ∙ ap (λ (k : List ℤ). position (is_key k) c.self.inside.keys) c.as_slice.ensures.value) in
    let kept : Valued ℤ = record { keys = c.self.inside.keys; values = c.self.inside.sums.items } in
    let sum = to_z w128 (of_z w128 (to_z w128 (of_z w128 c.index_mut.result.now) +ℤ to_z w128 (of_z w128 c.from.result))) in
    let new : Valued ℤ = record { keys = c.self.inside.keys; values = slice_set c.self.inside.sums.items c.in-Some.number sum } in
    let room = c.requires.room in
    let h = sum_within room.0 kept (subst (λ (z : Valued ℤ). KeepsGroups total room.0 z) (sym c.self.view_is) room.1) room.2 room.3 c.args.key.items c.in-Some.number c.index_mut.result.now found in
    let high : c.index_mut.result.now ≤ℤ pos (2 ^ 126) = subst (λ (z : ℤ). z ≤ℤ pos (2 ^ 126)) (sym c.index_mut.ensures.value) h.0 in
    let low : negsuc (2 ^ 126) ≤ℤ c.index_mut.result.now = subst (λ (z : ℤ). negsuc (2 ^ 126) ≤ℤ z) (sym c.index_mut.ensures.value) h.1 in
    let value : to_z w64 (of_z w64 c.args.value) ≡ c.args.value = omega (arith, ints) in
    let whole : sum ≡ c.index_mut.result.now +ℤ c.args.value = omega (arith, ints, high, low, value, c.from.ensures) in
    sum_there groups kept (subst (λ (z : Valued ℤ). KeepsGroups total groups z) (sym c.self.view_is) k) c.args.key.items c.args.value c.in-Some.number c.index_mut.result.now new
    sum found refl refl (whole ∙ ap (λ (n : ℤ). n +ℤ c.args.value) c.index_mut.ensures.value)

pub invariant_of-self-in-None : goal.invariant_of-self-in-None
invariant_of-self-in-None c =
    let absent : position (is_key c.args.key.items) c.self.inside.keys ≡ None = sym (c.in-None.ensures ∙ ap (λ (k : List ℤ). position (is_key k) c.self.inside.keys) c.as_slice.ensures.value) in
    both_more c.self.inside.keys c.add.new.self c.self.inside.sums.items c.push_reserved.new.self.items c.args.key.items (to_z w128 (of_z w128 c.from-in-None.result)) c.self.invariant
    (c.in_ok-add-in-None.ensures.ok ∙ key_new c.self.inside.keys c.args.key.items absent)
    (c.push_reserved.ensures.items ∙ ap (λ (vs : List ℤ). vs ++ to_z w128 (of_z w128 c.from-in-None.result) ∷ []) c.reserve.ensures.items)

pub returns-in_ok-add-in-None-clause-ok : goal.returns-in_ok-add-in-None-clause-ok
returns-in_ok-add-in-None-clause-ok c = λ groups k.
    let absent : position (is_key c.args.key.items) c.self.inside.keys ≡ None = sym (c.in-None.ensures ∙ ap (λ (k : List ℤ). position (is_key k) c.self.inside.keys) c.as_slice.ensures.value) in
    let kept : Valued ℤ = record { keys = c.self.inside.keys; values = c.self.inside.sums.items } in
    let new : Valued ℤ = record { keys = c.add.new.self; values = c.push_reserved.new.self.items } in
    let sum = to_z w128 (of_z w128 c.from-in-None.result) in
    let value : to_z w64 (of_z w64 c.args.value) ≡ c.args.value = omega (arith, ints) in
    let whole : sum ≡ c.args.value = omega (arith, ints, value, c.from-in-None.ensures) in
    sum_new groups kept (subst (λ (z : Valued ℤ). KeepsGroups total groups z) (sym c.self.view_is) k) c.args.key.items c.args.value new sum whole absent
    (c.in_ok-add-in-None.ensures.ok ∙ key_new c.self.inside.keys c.args.key.items absent)
    (c.push_reserved.ensures.items ∙ ap (λ (vs : List ℤ). vs ++ sum ∷ []) c.reserve.ensures.items)
