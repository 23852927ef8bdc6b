-- One text behind those that stand already.
use Rattle.std.proofs.Common.{◌≡◌, ◌∙◌, ap, sym, ℕ, zero, suc, List, [], ◌∷◌, ◌++◌, append_assoc, append-nil, map, take, Some}
use Rattle.std.specs.Prelude.{flat_map, slice_get}
use Rattle.ch_command.specs.declared.outcome.Outcome.{Outcome}
use Rattle.ch_pred.specs.declared.bound.Bound.{Bound}

pub joined_more : (h : Outcome → List ℕ) (f : Bound → Outcome) (bounds : List Bound) (k : ℕ) (b : Bound) → slice_get bounds k ≡ Some b
    → flat_map h (map f (take (suc k) bounds)) ≡ flat_map h (map f (take k bounds)) ++ h (f b)
joined_more h f [] k b e = absurd cc
joined_more h f (x ∷ bounds) zero b e = let same : x ≡ b = cc in append-nil (h (f x)) ∙ ap (λ (y : Bound). h (f y)) same
joined_more h f (x ∷ bounds) (suc k) b e =
    ap (λ r. h (f x) ++ r) (joined_more h f bounds k b e) ∙ sym (append_assoc (h (f x)) (flat_map h (map f (take k bounds))) (h (f b)))

-- a text that is added
pub added : (h : Outcome → List ℕ) (f : Bound → Outcome) (bounds : List Bound) (k : ℕ) (b : Bound) (said : Outcome) (old new : List ℕ) → slice_get bounds k ≡ Some b → said ≡ f b
    → old ≡ flat_map h (map f (take k bounds)) → new ≡ old ++ h said → new ≡ flat_map h (map f (take (suc k) bounds))
added h f bounds k b said old new e is before after =
    after ∙ (ap (λ (o : Outcome). old ++ h o) is ∙ (ap (λ r. r ++ h (f b)) before ∙ sym (joined_more h f bounds k b e)))
