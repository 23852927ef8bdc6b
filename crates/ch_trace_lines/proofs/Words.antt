-- Each field is read as it is spelled, and only so.
use Rattle.std.proofs.Common.{◌≡◌, ◌≢◌, ◌∙◌, ℕ, ◌*◌, ◌<◌, ◌≤◌, ◌^◌, Bool, true, false, List, [], ◌∷◌, length, Option, Some, None, refl, sym, ap, subst, arith, inl, inr}
use Rattle.std.specs.Prelude.{ℤ, pos, negsuc, option_and_then, nat_lt, ◌==◌, ◌||◌, bytes_eq, codes, is_some}
use Rattle.std.specs.Fmt.{decimal}
use Rattle.std.specs.List.{list_all}
use Rattle.std.proofs.lemmas.Bool.{false_from_ne_true, or_parts, or_from, lt-ltb, le-ltb, ltb-true, ltb-false, eqb-false, ne_eqb}
use Rattle.std.proofs.lemmas.Int.{ints}
use Rattle.ch_cells.specs.Number.{number_of}
use Rattle.ch_cells.proofs.Spelling.{law}
use Rattle.ch_lists.specs.Members.{In}
use Rattle.ch_packet.specs.Fault.{fault_of}
use Rattle.ch_protocol.specs.declared.fate.NoteFate.{NoteFate}
use Rattle.ch_protocol.specs.declared.fate.NoteFate.TheVariants.{Nothing, Sent, Dropped, Pruned, Forwarded, Passed, New, Old, Taken, Ignored, Lost, Injected, Restarted}
use Rattle.ch_schedule.specs.Field.{natural_of, below_word, bytes_of}
use Rattle.ch_schedule.specs.Line.{link_of}
use Rattle.ch_schedule.specs.declared.step.How.{How}
use Rattle.ch_schedule.specs.declared.step.How.TheVariants.{Take, Keep, Lose}
use Rattle.ch_schedule.specs.declared.step.Link.{Link}
use Rattle.ch_schedule.specs.declared.step.Link.TheVariants as link
use Rattle.ch_trace_lines.specs.Fates.{delivered, fates_for}
use Rattle.ch_trace_lines.specs.Range.{IsPacket, IsGiven}
use Rattle.ch_trace_lines.specs.Reading.{how_of, fate_among, as_packet, packet_of, as_given, given_of}
use Rattle.ch_trace_lines.specs.Spelling.{hex_text, packet_text, given_text, link_text, how_text, fate_text}
use Rattle.ch_trace_lines.proofs.Options.{bound, chosen}
use Rattle.ch_trace_lines.proofs.Bytes.{is_field_byte}
use Rattle.ch_trace_lines.proofs.Hex.{bytes_is, bytes_back, hex_field, hex_length}
use Rattle.std.proofs.lemmas.Slice.Eq.{bytes_eq-Decides}

pub same_bytes : (a b : List ℕ) → bytes_eq a b ≡ true → a ≡ b
same_bytes a b e = (bytes_eq-Decides a b).0 e

other_bytes : (a b : List ℕ) → a ≢ b → bytes_eq a b ≡ false
other_bytes a b ne = false_from_ne_true (bytes_eq a b) (λ e. ne (same_bytes a b e))

pub number_is : (f : List ℕ) (n : ℕ) → natural_of f ≡ Some n → (f ≡ decimal n) × (n < 2 ^ 32)
number_is f n e = go (number_of f) refl e
  where
    go : (o : Option ℤ) → number_of f ≡ o → below_word o ≡ Some n → (f ≡ decimal n) × (n < 2 ^ 32)
    go None s h = cc
    go (Some (negsuc m)) s h = cc
    go (Some (pos m)) s h = elim (chosen (nat_lt m (2 ^ 32)) (Some m) None n h) [
      | inl p ↦
          let same : m ≡ n = let k = p.1 in cc in
          let small : m < 2 ^ 32 = ltb-true m (2 ^ 32) p.0 in
          (((law (pos m) f).0 s).spelled ∙ ap decimal same, omega arith)
      | inr p ↦ let wrong = p.1 in cc
    ]

pub number_back : (n : ℕ) → n < 2 ^ 32 → natural_of (decimal n) ≡ Some n
number_back n h =
    let read : number_of (decimal n) ≡ Some (pos n) = (law (pos n) (decimal n)).1 (record { range = omega (arith, ints); spelled = refl }) in
    let small : nat_lt n (2 ^ 32) ≡ true = lt-ltb n (2 ^ 32) h in
    rw (read, small) refl

pub link_is : (w : List ℕ) (l : Link) → link_of w ≡ Some l → w ≡ link_text l
link_is w l e = elim (chosen (bytes_eq w (codes "up")) (Some link.Up) _ l e) [
  | inl p ↦ let same : link.Up ≡ l = let k = p.1 in cc in same_bytes w (codes "up") p.0 ∙ ap link_text same
  | inr p ↦ elim (chosen (bytes_eq w (codes "down")) (Some link.Down) _ l p.1) [
    | inl q ↦ let same : link.Down ≡ l = let k = q.1 in cc in same_bytes w (codes "down") q.0 ∙ ap link_text same
    | inr q ↦ elim (chosen (bytes_eq w (codes "back")) (Some link.Back) None l q.1) [
      | inl r ↦ let same : link.Back ≡ l = let k = r.1 in cc in same_bytes w (codes "back") r.0 ∙ ap link_text same
      | inr r ↦ let wrong = r.1 in cc
    ]
  ]
]

pub link_back : (l : Link) → link_of (link_text l) ≡ Some l
link_back link.Up = refl
link_back link.Down = refl
link_back link.Back = refl

pub link_field : (l : Link) → list_all is_field_byte (link_text l) ≡ true
link_field link.Up = refl
link_field link.Down = refl
link_field link.Back = refl

pub how_is : (w : List ℕ) (h : How) → how_of w ≡ Some h → w ≡ how_text h
how_is w h e = elim (chosen (bytes_eq w (codes "take")) (Some Take) _ h e) [
  | inl p ↦ let same : Take ≡ h = let k = p.1 in cc in same_bytes w (codes "take") p.0 ∙ ap how_text same
  | inr p ↦ elim (chosen (bytes_eq w (codes "keep")) (Some Keep) _ h p.1) [
    | inl q ↦ let same : Keep ≡ h = let k = q.1 in cc in same_bytes w (codes "keep") q.0 ∙ ap how_text same
    | inr q ↦ elim (chosen (bytes_eq w (codes "lose")) (Some Lose) None h q.1) [
      | inl r ↦ let same : Lose ≡ h = let k = r.1 in cc in same_bytes w (codes "lose") r.0 ∙ ap how_text same
      | inr r ↦ let wrong = r.1 in cc
    ]
  ]
]

pub how_back : (h : How) → how_of (how_text h) ≡ Some h
how_back Take = refl
how_back Keep = refl
how_back Lose = refl

pub how_field : (h : How) → list_all is_field_byte (how_text h) ≡ true
how_field Take = refl
how_field Keep = refl
how_field Lose = refl

pub fate_is : (fs : List NoteFate) (w : List ℕ) (f : NoteFate) → fate_among fs w ≡ Some f → (w ≡ fate_text f) × In f fs
fate_is [] w f e = cc
fate_is (x ∷ xs) w f e = elim (chosen (bytes_eq (fate_text x) w) (Some x) (fate_among xs w) f e) [
  | inl p ↦ let same : x ≡ f = let k = p.1 in cc in (sym (same_bytes (fate_text x) w p.0) ∙ ap fate_text same, inl (sym same))
  | inr p ↦ let r = fate_is xs w f p.1 in (r.0, inr r.1)
]

abbrev Back : List NoteFate → NoteFate → Type 0
Back fs f = fate_among fs (fate_text f) ≡ Some f

delivered_back : (l : Link) (f : NoteFate) → In f (delivered l) → Back (delivered l) f
delivered_back link.Up f (inl e) = subst (Back (delivered link.Up)) (sym e) refl
delivered_back link.Up f (inr (inl e)) = subst (Back (delivered link.Up)) (sym e) refl
delivered_back link.Up f (inr (inr (inl e))) = subst (Back (delivered link.Up)) (sym e) refl
delivered_back link.Up f (inr (inr (inr (inl e)))) = subst (Back (delivered link.Up)) (sym e) refl
delivered_back link.Up f (inr (inr (inr (inr i)))) = absurd i
delivered_back link.Down f (inl e) = subst (Back (delivered link.Down)) (sym e) refl
delivered_back link.Down f (inr (inl e)) = subst (Back (delivered link.Down)) (sym e) refl
delivered_back link.Down f (inr (inr i)) = absurd i
delivered_back link.Back f (inl e) = subst (Back (delivered link.Back)) (sym e) refl
delivered_back link.Back f (inr (inl e)) = subst (Back (delivered link.Back)) (sym e) refl
delivered_back link.Back f (inr (inr i)) = absurd i

pub fate_back : (l : Link) (h : How) (there : Bool) (f : NoteFate) → In f (fates_for l h there) → Back (fates_for l h there) f
fate_back l h false f (inl e) = subst (Back (Nothing ∷ [])) (sym e) refl
fate_back l h false f (inr i) = absurd i
fate_back l Take true f i = delivered_back l f i
fate_back l Keep true f i = delivered_back l f i
fate_back l Lose true f (inl e) = subst (Back (Lost ∷ [])) (sym e) refl
fate_back l Lose true f (inr i) = absurd i

pub fate_field : (f : NoteFate) → list_all is_field_byte (fate_text f) ≡ true
fate_field Nothing = refl
fate_field Sent = refl
fate_field Dropped = refl
fate_field Pruned = refl
fate_field Forwarded = refl
fate_field Passed = refl
fate_field New = refl
fate_field Old = refl
fate_field Taken = refl
fate_field Ignored = refl
fate_field Lost = refl
fate_field Injected = refl
fate_field Restarted = refl

-- packets
no_dash : (bytes : List ℕ) → bytes_eq (hex_text bytes) (codes "-") ≡ false
no_dash bytes = other_bytes (hex_text bytes) (codes "-") (λ e. absurd (omega (arith, ap length e, hex_length bytes)))

is_none : {X : Type 0} (o : Option X) → is_some o ≡ false → o ≡ None
is_none None e = refl
is_none (Some x) e = cc

pub packet_is : (f : List ℕ) (p : Option (List ℕ)) → packet_of f ≡ Some p → (f ≡ packet_text p) × IsPacket p
packet_is f p e = elim (chosen (bytes_eq f (codes "-")) (Some None) (option_and_then as_packet (bytes_of f)) p e) [
  | inl q ↦ let same : None ≡ p = let k = q.1 in cc in (same_bytes f (codes "-") q.0 ∙ ap packet_text same, subst IsPacket same tt)
  | inr q ↦
      let b = bound (bytes_of f) as_packet p q.1 in
      let r = bytes_is f b.0 b.1 in
      elim (chosen (is_some (fault_of b.0)) None (Some (Some b.0)) p b.2) [
        | inl s ↦ let wrong = s.1 in cc
        | inr s ↦
            let same : Some b.0 ≡ p = let k = s.1 in cc in
            let good : IsPacket (Some b.0) = (is_none (fault_of b.0) s.0, r.1) in
            (r.0 ∙ ap packet_text same, subst IsPacket same good)
      ]
]

packet_read : (digits bytes : List ℕ) → bytes_eq digits (codes "-") ≡ false → bytes_of digits ≡ Some bytes → fault_of bytes ≡ None → packet_of digits ≡ Some (Some bytes)
packet_read digits bytes a b c = rw (a, b, c) refl

pub packet_back : (p : Option (List ℕ)) → IsPacket p → packet_of (packet_text p) ≡ Some p
packet_back None h = refl
packet_back (Some bytes) h = packet_read (hex_text bytes) bytes (no_dash bytes) (bytes_back bytes h.1) h.0

pub packet_field : (p : Option (List ℕ)) → list_all is_field_byte (packet_text p) ≡ true
packet_field None = refl
packet_field (Some bytes) = hex_field bytes

-- injects
length_none : {X : Type 0} (xs : List X) → (length xs == 0) ≡ false → xs ≢ []
length_none xs e n = eqb-false (length xs) 0 e (ap length n)

given_hex : (bytes : List ℕ) → bytes ≢ [] → hex_text bytes ≡ given_text bytes
given_hex [] ne = absurd (ne refl)
given_hex (b ∷ bs) ne = refl

empty : IsGiven []
unfolding fault_of
empty = (omega arith, refl, tt)

pub given_is : (f : List ℕ) (bytes : List ℕ) → given_of f ≡ Some bytes → (f ≡ given_text bytes) × IsGiven bytes
given_is f bytes e = elim (chosen (bytes_eq f (codes "-")) (Some []) _ bytes e) [
  | inl q ↦ let same : [] ≡ bytes = let k = q.1 in cc in (same_bytes f (codes "-") q.0 ∙ ap given_text same, subst IsGiven same empty)
  | inr q ↦ elim (chosen ((length f == 0) || nat_lt 512 (length f)) None (option_and_then as_given (bytes_of f)) bytes q.1) [
    | inl r ↦ let wrong = r.1 in cc
    | inr r ↦
        let o = or_parts (length f == 0) (nat_lt 512 (length f)) r.0 in
        let b = bound (bytes_of f) as_given bytes r.1 in
        let d = bytes_is f b.0 b.1 in
        elim (chosen (is_some (fault_of b.0)) (Some b.0) None bytes b.2) [
          | inl s ↦
              let same : b.0 ≡ bytes = let k = s.1 in cc in
              let some : b.0 ≢ [] = λ n. length_none f o.0 (d.0 ∙ ap hex_text n) in
              let short : length b.0 ≤ 256 = omega (arith, ltb-false 512 (length f) o.1, ap length d.0, hex_length b.0) in
              let good : IsGiven b.0 = (short, s.0, d.1) in
              ((d.0 ∙ given_hex b.0 some) ∙ ap given_text same, subst IsGiven same good)
          | inr s ↦ let wrong = s.1 in cc
        ]
  ]
]

given_read : (digits bytes : List ℕ) → bytes_eq digits (codes "-") ≡ false → ((length digits == 0) || nat_lt 512 (length digits)) ≡ false → bytes_of digits ≡ Some bytes → is_some (fault_of bytes) ≡ true
    → given_of digits ≡ Some bytes
given_read digits bytes a b c d = rw (a, b, c, d) refl

pub given_back : (bytes : List ℕ) → IsGiven bytes → given_of (given_text bytes) ≡ Some bytes
given_back [] h = refl
given_back (b ∷ bs) h =
    let digits = hex_text (b ∷ bs) in
    let n : length digits ≡ 2 * length (b ∷ bs) = hex_length (b ∷ bs) in
    let some : (length digits == 0) ≡ false = ne_eqb (length digits) 0 (λ e. absurd (omega (arith, e, n))) in
    let short : nat_lt 512 (length digits) ≡ false = le-ltb 512 (length digits) (omega (arith, h.0, n)) in
    given_read digits (b ∷ bs) (no_dash (b ∷ bs)) (or_from (length digits == 0) (nat_lt 512 (length digits)) some short) (bytes_back (b ∷ bs) h.2) h.1

pub given_field : (bytes : List ℕ) → list_all is_field_byte (given_text bytes) ≡ true
given_field [] = refl
given_field (b ∷ bs) = hex_field (b ∷ bs)
