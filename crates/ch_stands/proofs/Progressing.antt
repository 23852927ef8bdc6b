-- A worker that goes on, and the others that stay.
use Rattle.std.proofs.Common.{◌≡◌, ℕ, suc, ◌+◌, ◌<◌, ◌≤◌, Bool, true, false, List, [], ◌∷◌, length, refl, ap, sym, ◌∙◌, arith, inl, inr, subst}
use Rattle.std.specs.Prelude.{slice_index_or, slice_set, if◌then◌else◌, Option, Some, None, slice_get}
use mathlib.Core.Path.{fun_ext}
use Rattle.std.proofs.lemmas.Bool.{cases_Bool, cases_eq}
use Rattle.std.proofs.lemmas.List.{length-set, get_or-set_same, get_or-set_other}
use Rattle.ch_ends.specs.Worker.{Progress, IsAt, acked_of}
use Rattle.ch_protocol.specs.Sender.{may_send, next_number, open_at}
use Rattle.ch_protocol.specs.Machine.{Config, size, workers}
use Rattle.ch_stands.specs.Parties.{WorkersStand}

-- one worker is elsewhere
pub workers_set : (c : Config) (ws : List Progress) (pass epoch : ℕ) (next next' : ℕ → ℕ) (acked acked' : ℕ → ℕ → Bool) (w : ℕ) (x : Progress)
    → WorkersStand c ws pass epoch next acked → w < workers c → IsAt x (size c w) c.window pass epoch (next' w) (acked' w)
    → ((v : ℕ) → (v ≡ w → ⊥) → (next' v ≡ next v) × (acked' v ≡ acked v))
    → WorkersStand c (slice_set ws w x) pass epoch next' acked'
workers_set c ws pass epoch next next' acked acked' w x h lt at others = record {
  many = length-set ws w x ∙ h.many;
  each = λ v d inside. elim (cases_eq v w) [
    | inl e ↦
        subst (λ (y : Progress). IsAt y (size c v) c.window pass epoch (next' v) (acked' v)) (sym (ap (λ (n : ℕ). slice_index_or (slice_set ws w x) n d) e ∙ get_or-set_same ws w x d (omega (arith, h.many, lt))))
        (subst (λ (n : ℕ). IsAt x (size c n) c.window pass epoch (next' n) (acked' n)) (sym e) at)
    | inr ne ↦
        let o = others v ne in
        rw (get_or-set_other ws w v x d ne, o.0, o.1) (h.each v d inside)
  ];
}

-- a worker's acknowledged numbers are the state's
pub acked_same : (x : Progress) (rows window pass epoch next : ℕ) (acked : ℕ → Bool) → IsAt x rows window pass epoch next acked → acked_of x ≡ acked
acked_same x rows window pass epoch next acked h = fun_ext h.acked_is

pub may_same : (x : Progress) (rows window pass epoch next : ℕ) (acked : ℕ → Bool) → IsAt x rows window pass epoch next acked
    → may_send x.rows x.window x.next (acked_of x) ≡ may_send rows window next acked
may_same x rows window pass epoch next acked h = rw (h.rows_is, h.window_is, h.next_is, acked_same x rows window pass epoch next acked h) refl

pub open_same : (x : Progress) (rows window pass epoch next : ℕ) (acked : ℕ → Bool) (k : ℕ) → IsAt x rows window pass epoch next acked
    → open_at x.next (acked_of x) k ≡ open_at next acked k
open_same x rows window pass epoch next acked k h =
    ap (λ (n : ℕ). open_at n (acked_of x) k) h.next_is ∙ ap (λ (a : ℕ → Bool). open_at next a k) (acked_same x rows window pass epoch next acked h)

-- a worker that may send is one number further after it did
pub sent_at : (x y : Progress) (rows window pass epoch next : ℕ) (acked : ℕ → Bool) → IsAt x rows window pass epoch next acked → may_send rows window next acked ≡ true
    → IsAt y x.rows x.window x.pass x.epoch (if may_send x.rows x.window x.next (acked_of x) then suc x.next else x.next) (acked_of x)
    → IsAt y rows window pass epoch (suc next) acked
sent_at x y rows window pass epoch next acked h may t = record {
  rows_is = t.rows_is ∙ h.rows_is;
  window_is = t.window_is ∙ h.window_is;
  pass_is = t.pass_is ∙ h.pass_is;
  epoch_is = t.epoch_is ∙ h.epoch_is;
  next_is = t.next_is ∙ rw (may_same x rows window pass epoch next acked h, may) (ap suc h.next_is);
  acked_is = λ k. t.acked_is k ∙ h.acked_is k;
}

-- what the number of a send tells
pub number_is : (rows window next k : ℕ) (acked : ℕ → Bool) → Some k ≡ next_number rows window next acked → (may_send rows window next acked ≡ true) × (k ≡ next)
number_is rows window next k acked e = go (may_send rows window next acked) e
  where
    go : (b : Bool) → Some k ≡ (if b then Some next else None) → (b ≡ true) × (k ≡ next)
    go true e = (refl, cc)
    go false e = absurd (cc)

pub no_number : (rows window next : ℕ) (acked : ℕ → Bool) → ◌≡◌ {A = Option ℕ} None (next_number rows window next acked) → may_send rows window next acked ≡ false
no_number rows window next acked e = go (may_send rows window next acked) e
  where
    go : (b : Bool) → ◌≡◌ {A = Option ℕ} None (if b then Some next else None) → b ≡ false
    go true e = absurd (cc)
    go false e = refl
