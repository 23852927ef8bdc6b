use Rattle.std.proofs.Common.{◌≡◌, ◌≤◌, ◌-◌, ◌++◌, ℕ, List, [], ◌∷◌, Option, Some, None, refl, ◌∙◌, ap, arith, length, take, drop, get_or}
use Rattle.std.specs.Option.{option_map, option_and_then}
use Rattle.std.proofs.lemmas.List.{append_assoc, take_all}
use Rattle.std.proofs.lemmas.Slice.{pushed}
use Rattle.ch_schedule.specs.Field.{byte_of, bytes_of}
use Rattle.ch_schedule.proofs.field.read_bytes.Goals as goal

joined : (o : Option (List ℕ)) (bytes new : List ℕ) (b : ℕ) → new ≡ bytes ++ b ∷ []
    → option_map (λ (more : List ℕ). new ++ more) o ≡ option_map (λ (more : List ℕ). bytes ++ more) (option_map (λ (bs : List ℕ). b ∷ bs) o)
joined None bytes new b e = refl
joined (Some bs) bytes new b e = ap (λ (xs : List ℕ). Some xs) (ap (λ (xs : List ℕ). xs ++ bs) e ∙ append_assoc bytes (b ∷ []) bs)

-- one more byte of the digits
step : (bytes rest digits new : List ℕ) (n b : ℕ) → 2 ≤ length rest → Some b ≡ byte_of (get_or rest 0 0) (get_or rest 1 0) → new ≡ bytes ++ b ∷ [] → n ≡ length rest
    → option_map (λ (more : List ℕ). bytes ++ more) (bytes_of rest) ≡ bytes_of digits → option_map (λ (more : List ℕ). new ++ more) (bytes_of (take (n - 2) (drop 2 rest))) ≡ bytes_of digits
step bytes [] digits new n b two h e m inv = absurd (omega arith)
step bytes (x ∷ []) digits new n b two h e m inv = absurd (omega arith)
step bytes (x ∷ y ∷ rest) digits new n b two h e m inv =
    ap (λ (xs : List ℕ). option_map (λ (more : List ℕ). new ++ more) (bytes_of xs)) (take_all (n - 2) rest (omega arith)) ∙ joined (bytes_of rest) bytes new b e
    ∙ ap (λ (o : Option ℕ). option_map (λ (more : List ℕ). bytes ++ more) (option_and_then (λ (c : ℕ). option_map (λ (bs : List ℕ). c ∷ bs) (bytes_of rest)) o)) h ∙ inv

pub loop-rest-preserved : goal.loop-rest-preserved
loop-rest-preserved c =
    step c.loop-rest.bytes.items c.loop-rest.rest.now c.args.digits.now c.push.new.self.items _ c.in-Some.next c.in-len2-up.len_at_least c.in-Some.ensures
    (pushed (c.in-Some.next ∷ []) refl c.in_ok-push.was c.push.ensures.items) refl c.loop-rest.invariant
