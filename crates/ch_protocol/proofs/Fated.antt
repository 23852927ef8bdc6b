-- What the fate of a packet at the switch tells of the links.
use Rattle.std.proofs.Common.{◌≡◌, ◌↔◌, ◌⊎◌, ℕ, suc, Bool, List, [], ◌∷◌, ◌++◌, length, remove, Option, Some, None, refl, inl, inr, arith}
use Rattle.std.proofs.lemmas.List.{length-append}
use Rattle.ch_protocol.specs.Packets.{Name, Packet}
use Rattle.ch_protocol.specs.Machine.{Config, State, How, is_fin, fate_at, follow, meet_at}
use Rattle.ch_protocol.specs.Machine.How.{Take, Keep, Lose}
use Rattle.ch_protocol.specs.Fates.{switch_fate, up_fate}
use Rattle.ch_protocol.specs.declared.fate.Fate.{Fate}
use Rattle.ch_protocol.specs.declared.fate.Fate.TheVariants as fate
use Rattle.ch_protocol.specs.declared.fate.NoteFate.TheVariants.{Pruned, Forwarded, Passed}

-- one more at the end
more : {X : Type 0} (xs : List X) (x : X) → length (xs ++ x ∷ []) ≡ suc (length xs)
more xs x = omega (arith, length-append xs (x ∷ []))

goes : (fin : Bool) (f : Fate) (s : State) (x : Name) → ((switch_fate f ≡ Forwarded) ⊎ (switch_fate f ≡ Passed)) ↔ (length (follow fin f s x).down ≡ suc (length s.down))
goes fin fate.Dropped s x = ((λ h. elim h [ inl e ↦ absurd cc | inr e ↦ absurd cc ]), (λ e. absurd (omega (arith, e))))
goes fin fate.Pruned s x = ((λ h. elim h [ inl e ↦ absurd cc | inr e ↦ absurd cc ]), (λ e. absurd (omega (arith, e))))
goes fin fate.Forwarded s x = ((λ h. more s.down _), (λ e. inl refl))
goes fin fate.Passed s x = ((λ h. more s.down _), (λ e. inr refl))

pub sent_on : (c : Config) (s : State) (i : ℕ) (how : How) (o : Option Packet) → ((up_fate c s how o ≡ Forwarded) ⊎ (up_fate c s how o ≡ Passed)) ↔ (length (meet_at c s i how o).down ≡ suc (length s.down))
sent_on c s i how None = ((λ h. elim h [ inl e ↦ absurd cc | inr e ↦ absurd cc ]), (λ e. absurd (omega (arith, e))))
sent_on c s i Take (Some m) = goes (is_fin c m.name) (fate_at c s m.name) (record s { up = remove s.up i }) m.name
sent_on c s i Keep (Some m) = goes (is_fin c m.name) (fate_at c s m.name) s m.name
sent_on c s i Lose (Some m) = ((λ h. elim h [ inl e ↦ absurd cc | inr e ↦ absurd cc ]), (λ e. absurd (omega (arith, e))))

answers : (fin : Bool) (f : Fate) (s : State) (x : Name) → (switch_fate f ≡ Pruned) ↔ (length (follow fin f s x).back ≡ suc (length s.back))
answers fin fate.Dropped s x = ((λ h. absurd cc), (λ e. absurd (omega (arith, e))))
answers fin fate.Pruned s x = ((λ h. more s.back _), (λ e. refl))
answers fin fate.Forwarded s x = ((λ h. absurd cc), (λ e. absurd (omega (arith, e))))
answers fin fate.Passed s x = ((λ h. absurd cc), (λ e. absurd (omega (arith, e))))

pub acknowledged : (c : Config) (s : State) (i : ℕ) (how : How) (o : Option Packet) → (up_fate c s how o ≡ Pruned) ↔ (length (meet_at c s i how o).back ≡ suc (length s.back))
acknowledged c s i how None = ((λ h. absurd cc), (λ e. absurd (omega (arith, e))))
acknowledged c s i Take (Some m) = answers (is_fin c m.name) (fate_at c s m.name) (record s { up = remove s.up i }) m.name
acknowledged c s i Keep (Some m) = answers (is_fin c m.name) (fate_at c s m.name) s m.name
acknowledged c s i Lose (Some m) = ((λ h. absurd cc), (λ e. absurd (omega (arith, e))))
