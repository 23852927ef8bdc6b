-- The steps of a schedule that is read can be spelled in a trace.
use Rattle.std.proofs.Common.{◌≡◌, ◌∙◌, ◌<◌, ◌≤◌, ◌*◌, ◌^◌, ℕ, zero, suc, Bool, true, false, List, [], ◌∷◌, length, ap, arith, cond, inl, inr, refl, subst, sym}
use Rattle.std.specs.Prelude.{bytes_eq, codes, is_some, nat_lt, not, option_map, if◌then◌else◌, Option, Some, None}
use Rattle.std.specs.Option.{option_and_then}
use Rattle.std.proofs.lemmas.Bool.{cases_lt, lt-ltb}
use Rattle.ch_lines.specs.Lines.{fields_of, says}
use Rattle.ch_lists.specs.Members.{In, Each}
use Rattle.ch_lists.proofs.Members.{Each-from_All, In-append}
use Rattle.ch_packet.specs.Fault.{fault_of}
use Rattle.ch_schedule.proofs.Limits.{read_unforged}
use Rattle.ch_schedule.specs.Bad.{IsSchedule, is_forged, said_in, steps_in, steps_of}
use Rattle.ch_schedule.specs.Field.{bytes_of, hex_of, natural_of}
use Rattle.ch_schedule.specs.Line.{alone_of, as_line, delivered_of, delivery, how_of, inject_of, line_of, link_of, resend_of, with_one_of, with_two_of}
use Rattle.ch_schedule.specs.declared.line.Line.{Line}
use Rattle.ch_schedule.specs.declared.line.Line.TheVariants as line
use Rattle.ch_schedule.specs.declared.step.How.{How}
use Rattle.ch_schedule.specs.declared.step.How.TheVariants.{Take}
use Rattle.ch_schedule.specs.declared.step.Link.{Link}
use Rattle.ch_schedule.specs.declared.step.Link.TheVariants as link
use Rattle.ch_schedule.specs.declared.step.Schedule.{Schedule}
use Rattle.ch_schedule.specs.declared.step.Step.{Step}
use Rattle.ch_schedule.specs.declared.step.Step.TheVariants as step
use Rattle.ch_trace_lines.proofs.Hex.{bytes_is, hex_length}
use Rattle.ch_trace_lines.proofs.Options.{bound, chosen, mapped}
use Rattle.ch_trace_lines.proofs.Words.{number_is}
use Rattle.ch_trace_lines.specs.Range.{AreBytes, IsNumber}
use Rattle.ch_trace_laws.specs.Sendable.{IsReadable}

-- a step as a line of a schedule says it, where it isn't asked whether what it injects is a packet
abbrev IsSaid : Step → Type 0
IsSaid (step.Send worker) = IsNumber worker
IsSaid (step.Resend worker place) = IsNumber worker × IsNumber place
IsSaid (step.Up at how) = IsNumber at
IsSaid (step.Down at how) = IsNumber at
IsSaid (step.Back at how) = IsNumber at
IsSaid (step.Inject l bytes) = (length bytes ≤ 256) × AreBytes bytes
IsSaid step.Restart = Unit {0}

abbrev Says : Option Line → Type 0
Says None = Unit {0}
Says (Some line.Drain) = Unit {0}
Says (Some (line.Step s)) = IsSaid s

either_says : (b : Bool) (x y : Option Line) → Says x → Says y → Says (cond b x y)
either_says true x y h k = h
either_says false x y h k = k

step_says : (o : Option Step) → ((s : Step) → o ≡ Some s → IsSaid s) → Says (as_line o)
step_says None h = tt
step_says (Some s) h = h s refl

number_below : (field : List ℕ) (n : ℕ) → natural_of field ≡ Some n → IsNumber n
number_below field n e = (number_is field n e).1

delivered_said : (l : Link) (n : ℕ) (how : How) → IsNumber n → IsSaid (delivery l n how)
delivered_said link.Up n how h = h
delivered_said link.Down n how h = h
delivered_said link.Back n how h = h

hex_said : (field bytes : List ℕ) → hex_of field ≡ Some bytes → (length bytes ≤ 256) × AreBytes bytes
hex_said field bytes e = elim (chosen (bytes_eq field (codes "-")) (Some []) (cond (nat_lt 512 (length field)) None (bytes_of field)) bytes e) [
  | inl p ↦ let none : [] ≡ bytes = let k = p.1 in cc in subst (λ (bs : List ℕ). (length bs ≤ 256) × AreBytes bs) none (omega arith, tt)
  | inr p ↦ elim (chosen (nat_lt 512 (length field)) None (bytes_of field) bytes p.1) [
    | inl q ↦ let wrong = q.1 in absurd cc
    | inr q ↦
        let are = bytes_is field bytes q.1 in
        let long : length field ≡ 2 * length bytes = ap (λ bs. length bs) are.0 ∙ hex_length bytes in
        (few (length field) (length bytes) long q.0, are.1)
  ]
]
  where
    few : (m n : ℕ) → m ≡ 2 * n → nat_lt 512 m ≡ false → n ≤ 256
    few m n e f = elim (cases_lt 512 m) [
      | inl lt ↦ let t = lt-ltb 512 m lt in absurd (cc (t, f))
      | inr le ↦ omega (arith, e, le)
    ]

alone_says : (name : List ℕ) → Says (alone_of name)
alone_says name = either_says (bytes_eq name (codes "restart")) (Some (line.Step step.Restart)) _ tt (either_says (bytes_eq name (codes "drain")) (Some line.Drain) None tt tt)

one_says : (name a : List ℕ) → Says (with_one_of name a)
one_says name a =
    either_says (bytes_eq name (codes "send")) (as_line (option_map (λ w. step.Send w) (natural_of a))) (as_line (option_and_then (λ l. option_map (λ n. delivery l n Take) (natural_of a)) (link_of name)))
    (step_says (option_map (λ w. step.Send w) (natural_of a)) (λ s e.
    let m = mapped (λ w. step.Send w) (natural_of a) s e in subst IsSaid m.2 (number_below a m.0 m.1)))
    (step_says (option_and_then (λ l. option_map (λ n. delivery l n Take) (natural_of a)) (link_of name)) (λ s e.
    let l = bound (link_of name) (λ l. option_map (λ n. delivery l n Take) (natural_of a)) s e in
    let m = mapped (λ n. delivery l.0 n Take) (natural_of a) s l.2 in
    subst IsSaid m.2 (delivered_said l.0 m.0 Take (number_below a m.0 m.1))))

resend_says : (a b : List ℕ) → Says (resend_of a b)
resend_says a b = step_says (option_and_then (λ w. option_map (λ k. step.Resend w k) (natural_of b)) (natural_of a)) (λ s e.
    let w = bound (natural_of a) (λ w. option_map (λ k. step.Resend w k) (natural_of b)) s e in
    let m = mapped (λ k. step.Resend w.0 k) (natural_of b) s w.2 in
    let both : IsSaid (step.Resend w.0 m.0) = (number_below a w.0 w.1, number_below b m.0 m.1) in
    subst IsSaid m.2 both)

inject_says : (a b : List ℕ) → Says (inject_of a b)
inject_says a b = step_says (option_and_then (λ l. option_map (λ bytes. step.Inject l bytes) (hex_of b)) (link_of a)) (λ s e.
    let l = bound (link_of a) (λ l. option_map (λ bytes. step.Inject l bytes) (hex_of b)) s e in
    let m = mapped (λ bytes. step.Inject l.0 bytes) (hex_of b) s l.2 in
    let both : IsSaid (step.Inject l.0 m.0) = hex_said b m.0 m.1 in
    subst IsSaid m.2 both)

delivery_says : (name a b : List ℕ) → Says (delivered_of name a b)
delivery_says name a b = step_says (option_and_then (λ l. option_and_then (λ n. option_map (λ how. delivery l n how) (how_of b)) (natural_of a)) (link_of name)) (λ s e.
    let l = bound (link_of name) (λ l. option_and_then (λ n. option_map (λ how. delivery l n how) (how_of b)) (natural_of a)) s e in
    let n = bound (natural_of a) (λ n. option_map (λ how. delivery l.0 n how) (how_of b)) s l.2 in
    let m = mapped (λ how. delivery l.0 n.0 how) (how_of b) s n.2 in
    subst IsSaid m.2 (delivered_said l.0 n.0 m.0 (number_below a n.0 n.1)))

two_says : (name a b : List ℕ) → Says (with_two_of name a b)
two_says name a b =
    either_says (bytes_eq name (codes "resend")) (resend_of a b) (cond (bytes_eq name (codes "inject")) (inject_of a b) (delivered_of name a b)) (resend_says a b)
    (either_says (bytes_eq name (codes "inject")) (inject_of a b) (delivered_of name a b) (inject_says a b) (delivery_says name a b))

line_says : (fields : List (List ℕ)) → Says (line_of fields)
unfolding line_of
line_says [] = tt
line_says (name ∷ []) = alone_says name
line_says (name ∷ a ∷ []) = one_says name a
line_says (name ∷ a ∷ b ∷ []) = two_says name a b
line_says (name ∷ a ∷ b ∷ c ∷ others) = tt

steps_said : (o : Option Line) → Says o → Each IsSaid (steps_of o)
steps_said None h s i = absurd i
steps_said (Some line.Drain) h s i = absurd i
steps_said (Some (line.Step x)) h s (inl e) = subst IsSaid (sym e) h
steps_said (Some (line.Step x)) h s (inr i) = absurd i

texts_said : (texts : List (List ℕ)) → Each IsSaid (steps_in texts)
texts_said [] s i = absurd i
texts_said (text ∷ texts) s i = elim (In-append s (steps_of (said_in text)) (steps_in texts) i) [
  | inl j ↦ steps_said (said_in text) (either_says (says (fields_of text)) (line_of (fields_of text)) None (line_says (fields_of text)) tt) s j
  | inr j ↦ texts_said texts s j
]

given : (b : Bool) → not b ≡ false → b ≡ true
given true e = refl
given false e = cc

readable : (s : Step) → IsSaid s → is_forged s ≡ false → IsReadable s
readable (step.Send worker) h fair = h
readable (step.Resend worker place) h fair = h
readable (step.Up at how) h fair = h
readable (step.Down at how) h fair = h
readable (step.Back at how) h fair = h
readable (step.Inject l bytes) h fair = (h.0, given (is_some (fault_of bytes)) fair, h.1)
readable step.Restart h fair = tt

pub all_readable : (texts : List (List ℕ)) (schedule : Schedule) → IsSchedule texts schedule → Each IsReadable schedule.steps
all_readable texts schedule is s i =
    readable s (subst (λ (xs : List Step). Each IsSaid xs) (sym is.steps_are) (texts_said texts) s i) (Each-from_All (λ x. is_forged x ≡ false) schedule.steps (read_unforged texts schedule is) s i)
