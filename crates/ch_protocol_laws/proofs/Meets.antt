-- The ways in which a packet meets the switch.
use Rattle.std.proofs.Common.{◌≡◌, ◌<◌, Bool, true, false, cond, not, ◌&&◌, eqb, nat_lt, sym, subst, arith, inl, inr, eqb-true, ltb-true, ltb-false}
use Rattle.std.proofs.lemmas.Bool.{cases_Bool, eqb-false}
use Rattle.ch_protocol.specs.Packets.{Name}
use Rattle.ch_protocol.specs.Machine.{Config, State, size, verdict, go_down, follow, meet}
use Rattle.ch_protocol.specs.declared.fate.Fate.{Fate}
use Rattle.ch_protocol.specs.declared.fate.Fate.TheVariants.{Dropped, Pruned, Forwarded, Passed}
use Rattle.ch_protocol.proofs.Tests.{either_way}

-- what holds in each case holds after the packet
pub meet_cases : (c : Config) (P : State → Type 0) (s : State) (x : Name)
    → (s.expected x.pass x.worker < x.number → P s)
    → (x.number < s.expected x.pass x.worker → P (go_down s x))
    → (s.expected x.pass x.worker ≡ x.number → x.number ≡ size c x.worker → P (follow true Forwarded s x))
    → (s.expected x.pass x.worker ≡ x.number → (x.number ≡ size c x.worker → ⊥) → verdict c s.epoch s.processed x ≡ true → P (follow false Pruned s x))
    → (s.expected x.pass x.worker ≡ x.number → (x.number ≡ size c x.worker → ⊥) → verdict c s.epoch s.processed x ≡ false → P (follow false Forwarded s x))
    → P (meet c s x)
meet_cases c P s x above below end pruned kept =
    either_way (λ (f : Fate). P (follow fin f s x)) (nat_lt (s.expected x.pass x.worker) x.number) Dropped _ (λ t. above (ltb-true (s.expected x.pass x.worker) x.number t))
    (λ f. either_way (λ (f : Fate). P (follow fin f s x)) (nat_lt x.number (s.expected x.pass x.worker)) Passed _ (λ t. below (ltb-true x.number (s.expected x.pass x.worker) t))
    (λ g. accepted (omega (arith, ltb-false (s.expected x.pass x.worker) x.number f, ltb-false x.number (s.expected x.pass x.worker) g))))
  where
    fin : Bool
    fin = eqb x.number (size c x.worker)

    -- the fate where the packet is accepted, a Fin or a row
    next : Bool → Bool → Fate
    next b v = cond (not b && v) Pruned Forwarded

    accepted : s.expected x.pass x.worker ≡ x.number → P (follow (eqb x.number (size c x.worker)) (next (eqb x.number (size c x.worker)) (verdict c s.epoch s.processed x)) s x)
    accepted is = elim (cases_Bool (eqb x.number (size c x.worker))) [
      | inl t ↦ subst (λ (b : Bool). P (follow b (next b (verdict c s.epoch s.processed x)) s x)) (sym t) (end is (eqb-true x.number (size c x.worker) t))
      | inr f ↦ subst (λ (b : Bool). P (follow b (next b (verdict c s.epoch s.processed x)) s x)) (sym f)
          (let row : x.number ≡ size c x.worker → ⊥ = eqb-false x.number (size c x.worker) f in
          elim (cases_Bool (verdict c s.epoch s.processed x)) [
            | inl v ↦ subst (λ (b : Bool). P (follow false (next false b) s x)) (sym v) (pruned is row v)
            | inr v ↦ subst (λ (b : Bool). P (follow false (next false b) s x)) (sym v) (kept is row v)
          ])
    ]
