use Rattle.std.proofs.Common.{◌≡◌, ◌++◌, ◌∷◌, [], ℤ, List, refl, ap, sym, ◌∙◌, subst, arith, Some, None, position, w64, to_z, of_z}
use Rattle.std.specs.Prelude.{slice_set}
use Rattle.std.proofs.lemmas.Int.{ints}
use Rattle.ch_pred.specs.Meaning.{best_of}
use Rattle.ch_pred.specs.Values.{words}
use Rattle.ch_fold_laws.specs.Kept.{better}
use Rattle.ch_fold_groups.specs.Kept.{KeepsGroups, Valued}
use Rattle.ch_fold_groups.proofs.Steps.{best_new, best_there, both_more, is_key, key_new}
use Rattle.ch_fold_groups.proofs.bests.Bests.add.Goals as goal

pub invariant_of-self-in-None : goal.invariant_of-self-in-None
invariant_of-self-in-None c =
    let absent : position (is_key c.args.key.items) c.self.inside.keys ≡ None = sym (c.in-None.ensures ∙ ap (λ (k : List ℤ). position (is_key k) c.self.inside.keys) c.as_slice.ensures.value) in
    both_more c.self.inside.keys c.add.new.self c.self.inside.bests.items c.push_reserved.new.self.items c.args.key.items (to_z w64 (of_z w64 c.args.value)) c.self.invariant
    (c.in_ok-add-in-None.ensures.ok ∙ key_new c.self.inside.keys c.args.key.items absent)
    (c.push_reserved.ensures.items ∙ ap (λ (vs : List ℤ). vs ++ to_z w64 (of_z w64 c.args.value) ∷ []) c.reserve.ensures.items)

pub returns-in-Some-clause-ok : goal.returns-in-Some-clause-ok
returns-in-Some-clause-ok c = λ groups k.
    let found : position (is_key c.args.key.items) c.self.inside.keys ≡ Some c.in-Some.number = sym (c.in-Some.ensures ∙ ap (λ (k : List ℤ). position (is_key k) c.self.inside.keys) c.as_slice.ensures.value) in
    let kept : Valued ℤ = record { keys = c.self.inside.keys; values = c.self.inside.bests.items } in
    let new : Valued ℤ = record { keys = c.self.inside.keys; values = slice_set c.self.inside.bests.items c.in-Some.number (to_z w64 (of_z w64 c.better.result)) } in
    let out : to_z w64 (of_z w64 c.better.result) ≡ c.better.result = omega (arith, ints) in
    let best : to_z w64 (of_z w64 c.index.result.now) ≡ c.index.result.now = omega (arith, ints) in
    let value : to_z w64 (of_z w64 c.args.value) ≡ c.args.value = omega (arith, ints) in
    best_there c.args.max groups kept (subst (λ (z : Valued ℤ). KeepsGroups (best_of words c.args.max) groups z) (sym c.self.view_is) k) c.args.key.items c.args.value c.in-Some.number c.index.result.now new
    (to_z w64 (of_z w64 c.better.result)) found refl refl (out ∙ (c.better.ensures ∙ (λ i. better c.args.max ((best ∙ c.index.ensures) i) (value i))))

pub returns-in_ok-add-in-None-clause-ok : goal.returns-in_ok-add-in-None-clause-ok
returns-in_ok-add-in-None-clause-ok c = λ groups k.
    let absent : position (is_key c.args.key.items) c.self.inside.keys ≡ None = sym (c.in-None.ensures ∙ ap (λ (k : List ℤ). position (is_key k) c.self.inside.keys) c.as_slice.ensures.value) in
    let kept : Valued ℤ = record { keys = c.self.inside.keys; values = c.self.inside.bests.items } in
    let new : Valued ℤ = record { keys = c.add.new.self; values = c.push_reserved.new.self.items } in
    let value : to_z w64 (of_z w64 c.args.value) ≡ c.args.value = omega (arith, ints) in
    best_new c.args.max groups kept (subst (λ (z : Valued ℤ). KeepsGroups (best_of words c.args.max) groups z) (sym c.self.view_is) k) c.args.key.items c.args.value new absent
    (c.in_ok-add-in-None.ensures.ok ∙ key_new c.self.inside.keys c.args.key.items absent)
    (c.push_reserved.ensures.items ∙ (λ i. c.reserve.ensures.items i ++ value i ∷ []))
