-- Notes are the same where their parts are.
use Rattle.std.proofs.Common.{◌≡◌, ◌∙◌, ap, sym, refl, Bool, true, false, List, [], ◌∷◌, ℕ, Option, Some, None}
use Rattle.std.specs.Prelude.{bytes_eq, not, ◌&&◌}
use Rattle.std.proofs.lemmas.Bool.{and_parts}
use Rattle.std.proofs.lemmas.Slice.Eq.{bytes_eq-Decides}
use Rattle.ch_protocol.specs.Machine.{Config, State, stopped}
use Rattle.ch_protocol.specs.declared.fate.NoteFate.{NoteFate}
use Rattle.ch_protocol.specs.declared.fate.NoteFate.TheVariants.{Nothing, Sent, Dropped, Pruned, Forwarded, Passed, New, Old, Taken, Ignored, Lost, Injected, Restarted}
use Rattle.ch_trace_lines.proofs.Words.{same_bytes}
use Rattle.ch_trace_lines.specs.Reading.{fate_among}
use Rattle.ch_trace_lines.specs.Spelling.{fate_text}
use Rattle.ch_trace_lines.specs.Trace.{noted_at}
use Rattle.ch_trace_lines.specs.declared.line.Noted.{Noted}
use Rattle.ch_audit_laws.specs.Walks as walks
use Rattle.ch_audit_laws.specs.Walks.{is_next}

abbrev fates : List NoteFate
fates = Nothing ∷ Sent ∷ Dropped ∷ Pruned ∷ Forwarded ∷ Passed ∷ New ∷ Old ∷ Taken ∷ Ignored ∷ Lost ∷ Injected ∷ Restarted ∷ []

told : (f : NoteFate) → fate_among fates (fate_text f) ≡ Some f
told Nothing = refl
told Sent = refl
told Dropped = refl
told Pruned = refl
told Forwarded = refl
told Passed = refl
told New = refl
told Old = refl
told Taken = refl
told Ignored = refl
told Lost = refl
told Injected = refl
told Restarted = refl

same_text : (f g : NoteFate) → fate_text f ≡ fate_text g → f ≡ g
same_text f g e = let both : Some f ≡ Some g = sym (told f) ∙ (ap (fate_among fates) e ∙ told g) in cc

itself : (a : List ℕ) → bytes_eq a a ≡ true
itself a = (bytes_eq-Decides a a).1 refl

same_packets : (a b : Option (List ℕ)) → walks.same_bytes a b ≡ true → a ≡ b
same_packets None None e = refl
same_packets None (Some b) e = cc
same_packets (Some a) None e = cc
same_packets (Some a) (Some b) e = ap Some (same_bytes a b e)

packet_itself : (a : Option (List ℕ)) → walks.same_bytes a a ≡ true
packet_itself None = refl
packet_itself (Some a) = itself a

not_true : (b : Bool) → not b ≡ true → b ≡ false
not_true true e = cc
not_true false e = refl

both : (a b : Bool) → a ≡ true → b ≡ true → (a && b) ≡ true
both a b e f = rw (e, f) refl

same_note : (n m : Noted) → n.step ≡ m.step → n.bytes ≡ m.bytes → n.fate ≡ m.fate → n ≡ m
same_note n m a b c = λ i. record { step = a i; bytes = b i; fate = c i }

pub next_is : (c : Config) (s : State) (n : Noted) → is_next c s n ≡ true → (stopped c s ≡ false) × (n ≡ noted_at c s n.step)
next_is c s n e =
    let m = noted_at c s n.step in
    let p = and_parts (not (stopped c s)) (walks.same_bytes n.bytes m.bytes && bytes_eq (fate_text n.fate) (fate_text m.fate)) e in
    let q = and_parts (walks.same_bytes n.bytes m.bytes) (bytes_eq (fate_text n.fate) (fate_text m.fate)) p.1 in
    (not_true (stopped c s) p.0, same_note n m refl (same_packets n.bytes m.bytes q.0) (same_text n.fate m.fate (same_bytes (fate_text n.fate) (fate_text m.fate) q.1)))

pub is_the_next : (c : Config) (s : State) (n : Noted) → stopped c s ≡ false → n ≡ noted_at c s n.step → is_next c s n ≡ true
is_the_next c s n runs is =
    let m = noted_at c s n.step in
    let bytes : walks.same_bytes n.bytes m.bytes ≡ true = ap (λ (k : Noted). walks.same_bytes k.bytes m.bytes) is ∙ packet_itself m.bytes in
    let fate : bytes_eq (fate_text n.fate) (fate_text m.fate) ≡ true = ap (λ (k : Noted). bytes_eq (fate_text k.fate) (fate_text m.fate)) is ∙ itself (fate_text m.fate) in
    both (not (stopped c s)) _ (ap not runs) (both (walks.same_bytes n.bytes m.bytes) (bytes_eq (fate_text n.fate) (fate_text m.fate)) bytes fate)
