-- Columns of one side within a bound, where side and bound are known by another name.
use Rattle.std.proofs.Common.{◌≡◌, ℕ, ◌<◌, sym, subst}
use Rattle.ch_pred.specs.Plain.{Plain}
use Rattle.ch_pred.specs.Names.{Names}

pub named_alike : (p : Plain) (s t h k : ℕ) → s ≡ t → h ≡ k → Names (λ side at. (side ≡ t) × (at < k)) p → Names (λ side at. (side ≡ s) × (at < h)) p
named_alike p s t h k e f n =
    subst (λ (x : ℕ). Names (λ side at. (side ≡ x) × (at < h)) p) (sym e)
    (subst (λ (x : ℕ). Names (λ side at. (side ≡ t) × (at < x)) p) (sym f) n)
