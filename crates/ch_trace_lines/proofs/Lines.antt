-- Lines are read as they are spelled, and only so.
use Rattle.std.proofs.Common.{◌≡◌, ◌∙◌, ℕ, true, List, [], ◌∷◌, Option, Some, None, refl, sym, ap, subst, inl, inr}
use Rattle.std.specs.Prelude.{option_map, option_and_then, bytes_eq, codes, is_some, ◌==◌, not}
use Rattle.std.specs.Fmt.{decimal}
use Rattle.std.specs.List.{list_all, join_with_byte, slice_split}
use Rattle.std.proofs.lemmas.List.Splits.{join_with_byte-slice_split}
use Rattle.ch_lists.specs.Members.{In}
use Rattle.ch_protocol.specs.declared.fate.NoteFate.{NoteFate}
use Rattle.ch_protocol.specs.declared.fate.NoteFate.TheVariants.{Injected, Restarted}
use Rattle.ch_schedule.specs.Field.{natural_of}
use Rattle.ch_schedule.specs.Line.{link_of, delivery}
use Rattle.ch_schedule.specs.declared.step.How.{How}
use Rattle.ch_schedule.specs.declared.step.Link.{Link}
use Rattle.ch_schedule.specs.declared.step.Link.TheVariants as link
use Rattle.ch_schedule.specs.declared.step.Step.{Step}
use Rattle.ch_schedule.specs.declared.step.Step.TheVariants as step
use Rattle.ch_trace_lines.specs.Fates.{fates_for}
use Rattle.ch_trace_lines.specs.Range.{sent_of, IsNumber, IsPacket, IsEvent, IsLine}
use Rattle.ch_trace_lines.specs.Reading.{how_of, fate_among, packet_of, given_of, noted, alone_of, ending_of, send_of, inject_of, with_two_of, resend_of, delivery_of, line_of, line_at}
use Rattle.ch_trace_lines.specs.Spelling.{packet_text, link_text, how_text, fate_text, send_fields, resend_fields, delivery_fields, inject_fields, event_fields, line_fields, line_text}
use Rattle.ch_trace_lines.specs.declared.line.Ending.TheVariants.{Done, Open}
use Rattle.ch_trace_lines.specs.declared.line.Line.{Line}
use Rattle.ch_trace_lines.specs.declared.line.Line.TheVariants.{Event, End}
use Rattle.ch_trace_lines.proofs.Options.{bound, mapped, chosen}
use Rattle.ch_trace_lines.proofs.Bytes.{is_line_byte, all_both, fields_are_lines, lines_no_feed, number_field}
use Rattle.ch_trace_lines.proofs.Words.{same_bytes, number_is, number_back, link_is, link_back, link_field, how_is, how_back, how_field, fate_is, fate_back, fate_field, packet_is, packet_back, packet_field, given_is, given_back, given_field}
use Rattle.ch_trace_lines.proofs.Splits.{AreFields, fields_split}

-- the fields are those of the line, which is in range
abbrev Answers : List (List ℕ) → Line → Type 0
Answers fields l = (fields ≡ line_fields l) × IsLine l

alone_is : (name : List ℕ) (l : Line) → alone_of name ≡ Some l → Answers (name ∷ []) l
alone_is name l e = elim (chosen (bytes_eq name (codes "restart")) (Some (noted step.Restart None Restarted)) None l e) [
  | inl p ↦
      let same : noted step.Restart None Restarted ≡ l = let k = p.1 in cc in
      let said : name ∷ [] ≡ codes "restart" ∷ [] = ap (λ t. t ∷ []) (same_bytes name (codes "restart") p.0) in
      subst (Answers (name ∷ [])) same (said, (refl, refl))
  | inr p ↦ let wrong = p.1 in cc
]

ending_is : (name word : List ℕ) (l : Line) → ending_of name word ≡ Some l → Answers (name ∷ word ∷ []) l
ending_is name word l e = elim (chosen (bytes_eq name (codes "end")) _ None l e) [
  | inl p ↦
      let first = same_bytes name (codes "end") p.0 in
      elim (chosen (bytes_eq word (codes "done")) (Some (End Done)) _ l p.1) [
        | inl q ↦
            let same : End Done ≡ l = let k = q.1 in cc in
            let second = same_bytes word (codes "done") q.0 in
            let said : name ∷ word ∷ [] ≡ line_fields (End Done) = ap (λ t. t ∷ word ∷ []) first ∙ ap (λ t. codes "end" ∷ t ∷ []) second in
            subst (Answers (name ∷ word ∷ [])) same (said, tt)
        | inr q ↦ elim (chosen (bytes_eq word (codes "open")) (Some (End Open)) None l q.1) [
          | inl r ↦
              let same : End Open ≡ l = let k = r.1 in cc in
              let second = same_bytes word (codes "open") r.0 in
              let said : name ∷ word ∷ [] ≡ line_fields (End Open) = ap (λ t. t ∷ word ∷ []) first ∙ ap (λ t. codes "end" ∷ t ∷ []) second in
              subst (Answers (name ∷ word ∷ [])) same (said, tt)
          | inr r ↦ let wrong = r.1 in cc
        ]
      ]
  | inr p ↦ let wrong = p.1 in cc
]

send_is : (name a b : List ℕ) (l : Line) → name ≡ codes "send" → send_of a b ≡ Some l → Answers (name ∷ a ∷ b ∷ []) l
send_is name a b l first e =
    let w = bound (natural_of a) (λ x. option_map (λ packet. noted (step.Send x) packet (sent_of packet)) (packet_of b)) l e in
    let p = mapped (λ packet. noted (step.Send w.0) packet (sent_of packet)) (packet_of b) l w.2 in
    let n = number_is a w.0 w.1 in
    let k = packet_is b p.0 p.1 in
    let said : name ∷ a ∷ b ∷ [] ≡ send_fields w.0 p.0 = ap (λ t. t ∷ a ∷ b ∷ []) first ∙ (ap (λ t. codes "send" ∷ t ∷ b ∷ []) n.0 ∙ ap (λ t. codes "send" ∷ decimal w.0 ∷ t ∷ []) k.0) in
    let range : IsLine (noted (step.Send w.0) p.0 (sent_of p.0)) = (n.1, k.1, refl) in
    let all : Answers (name ∷ a ∷ b ∷ []) (noted (step.Send w.0) p.0 (sent_of p.0)) = (said, range) in
    subst (Answers (name ∷ a ∷ b ∷ [])) p.2 all

inject_is : (name a b : List ℕ) (l : Line) → name ≡ codes "inject" → inject_of a b ≡ Some l → Answers (name ∷ a ∷ b ∷ []) l
inject_is name a b l first e =
    let w = bound (link_of a) (λ x. option_map (λ bytes. noted (step.Inject x bytes) None Injected) (given_of b)) l e in
    let p = mapped (λ bytes. noted (step.Inject w.0 bytes) None Injected) (given_of b) l w.2 in
    let n = link_is a w.0 w.1 in
    let k = given_is b p.0 p.1 in
    let said : name ∷ a ∷ b ∷ [] ≡ inject_fields w.0 p.0 = ap (λ t. t ∷ a ∷ b ∷ []) first ∙ (ap (λ t. codes "inject" ∷ t ∷ b ∷ []) n ∙ ap (λ t. codes "inject" ∷ link_text w.0 ∷ t ∷ []) k.0) in
    let range : IsLine (noted (step.Inject w.0 p.0) None Injected) = (k.1, refl, refl) in
    let all : Answers (name ∷ a ∷ b ∷ []) (noted (step.Inject w.0 p.0) None Injected) = (said, range) in
    subst (Answers (name ∷ a ∷ b ∷ [])) p.2 all

with_two_is : (name a b : List ℕ) (l : Line) → with_two_of name a b ≡ Some l → Answers (name ∷ a ∷ b ∷ []) l
with_two_is name a b l e = elim (chosen (bytes_eq name (codes "send")) (send_of a b) _ l e) [
  | inl p ↦ send_is name a b l (same_bytes name (codes "send") p.0) p.1
  | inr p ↦ elim (chosen (bytes_eq name (codes "inject")) (inject_of a b) None l p.1) [
    | inl q ↦ inject_is name a b l (same_bytes name (codes "inject") q.0) q.1
    | inr q ↦ let wrong = q.1 in cc
  ]
]

resend_is : (name a b c : List ℕ) (l : Line) → resend_of name a b c ≡ Some l → Answers (name ∷ a ∷ b ∷ c ∷ []) l
resend_is name a b c l e = elim (chosen (bytes_eq name (codes "resend")) _ None l e) [
  | inl q ↦
      let first = same_bytes name (codes "resend") q.0 in
      let w = bound (natural_of a) (λ x. option_and_then (λ y. option_map (λ packet. noted (step.Resend x y) packet (sent_of packet)) (packet_of c)) (natural_of b)) l q.1 in
      let v = bound (natural_of b) (λ y. option_map (λ packet. noted (step.Resend w.0 y) packet (sent_of packet)) (packet_of c)) l w.2 in
      let p = mapped (λ packet. noted (step.Resend w.0 v.0) packet (sent_of packet)) (packet_of c) l v.2 in
      let n = number_is a w.0 w.1 in
      let m = number_is b v.0 v.1 in
      let k = packet_is c p.0 p.1 in
      let said : name ∷ a ∷ b ∷ c ∷ [] ≡ resend_fields w.0 v.0 p.0 =
      ap (λ t. t ∷ a ∷ b ∷ c ∷ []) first ∙ (ap (λ t. codes "resend" ∷ t ∷ b ∷ c ∷ []) n.0 ∙ (ap (λ t. codes "resend" ∷ decimal w.0 ∷ t ∷ c ∷ []) m.0 ∙ ap (λ t. codes "resend" ∷ decimal w.0 ∷ decimal v.0 ∷ t ∷ []) k.0)) in
      let range : IsLine (noted (step.Resend w.0 v.0) p.0 (sent_of p.0)) = (n.1, m.1, k.1, refl) in
      let all : Answers (name ∷ a ∷ b ∷ c ∷ []) (noted (step.Resend w.0 v.0) p.0 (sent_of p.0)) = (said, range) in
      subst (Answers (name ∷ a ∷ b ∷ c ∷ [])) p.2 all
  | inr q ↦ let wrong = q.1 in cc
]

delivery_line : (l : Link) (at : ℕ) (how : How) (packet : Option (List ℕ)) (fate : NoteFate) → IsNumber at → IsPacket packet → In fate (fates_for l how (is_some packet))
    → Answers (delivery_fields l at how packet fate) (noted (delivery l at how) packet fate)
delivery_line link.Up at how packet fate n p i = (refl, (n, p, i))
delivery_line link.Down at how packet fate n p i = (refl, (n, p, i))
delivery_line link.Back at how packet fate n p i = (refl, (n, p, i))

five : (a b c d e t u v w x : List ℕ) → a ≡ t → b ≡ u → c ≡ v → d ≡ w → e ≡ x → a ∷ b ∷ c ∷ d ∷ e ∷ [] ≡ t ∷ u ∷ v ∷ w ∷ x ∷ []
five a b c d e t u v w x f g h i j = cc

delivery_is : (name a b c d : List ℕ) (l : Line) → delivery_of name a b c d ≡ Some l → Answers (name ∷ a ∷ b ∷ c ∷ d ∷ []) l
delivery_is name a b c d l e =
    let rest_four = λ (y : Link) (at : ℕ) (how : How) (packet : Option (List ℕ)). option_map (λ fate. noted (delivery y at how) packet fate) (fate_among (fates_for y how (is_some packet)) d) in
    let y = bound (link_of name) (λ y. option_and_then (λ at. option_and_then (λ how. option_and_then (λ packet. rest_four y at how packet) (packet_of c)) (how_of b)) (natural_of a)) l e in
    let n = bound (natural_of a) (λ at. option_and_then (λ how. option_and_then (λ packet. rest_four y.0 at how packet) (packet_of c)) (how_of b)) l y.2 in
    let h = bound (how_of b) (λ how. option_and_then (λ packet. rest_four y.0 n.0 how packet) (packet_of c)) l n.2 in
    let p = bound (packet_of c) (λ packet. rest_four y.0 n.0 h.0 packet) l h.2 in
    let f = mapped (λ fate. noted (delivery y.0 n.0 h.0) p.0 fate) (fate_among (fates_for y.0 h.0 (is_some p.0)) d) l p.2 in
    let number = number_is a n.0 n.1 in
    let packet = packet_is c p.0 p.1 in
    let fate = fate_is (fates_for y.0 h.0 (is_some p.0)) d f.0 f.1 in
    let said = five name a b c d (link_text y.0) (decimal n.0) (how_text h.0) (packet_text p.0) (fate_text f.0) (link_is name y.0 y.1) number.0 (how_is b h.0 h.1) packet.0 fate.0 in
    let all = delivery_line y.0 n.0 h.0 p.0 f.0 number.1 packet.1 fate.1 in
    let whole : Answers (name ∷ a ∷ b ∷ c ∷ d ∷ []) (noted (delivery y.0 n.0 h.0) p.0 f.0) = (said ∙ all.0, all.1) in
    subst (Answers (name ∷ a ∷ b ∷ c ∷ d ∷ [])) f.2 whole

fields_is : (fields : List (List ℕ)) (l : Line) → line_of fields ≡ Some l → Answers fields l
unfolding line_of
fields_is [] l e = cc
fields_is (name ∷ []) l e = alone_is name l e
fields_is (name ∷ a ∷ []) l e = ending_is name a l e
fields_is (name ∷ a ∷ b ∷ []) l e = with_two_is name a b l e
fields_is (name ∷ a ∷ b ∷ c ∷ []) l e = resend_is name a b c l e
fields_is (name ∷ a ∷ b ∷ c ∷ d ∷ []) l e = delivery_is name a b c d l e
fields_is (name ∷ a ∷ b ∷ c ∷ d ∷ x ∷ others) l e = cc

pub line_is : (text : List ℕ) (l : Line) → line_at text ≡ Some l → (text ≡ line_text l) × IsLine l
line_is text l e =
    let r = fields_is (slice_split (λ b. b == 32) text) l e in
    (sym (join_with_byte-slice_split 32 text) ∙ ap (join_with_byte 32) r.0, r.1)

-- and back
abbrev Reads : Line → Type 0
Reads l = line_of (line_fields l) ≡ Some l

delivery_back : (l : Link) (at : ℕ) (how : How) (packet : Option (List ℕ)) (fate : NoteFate) → IsNumber at → IsPacket packet → In fate (fates_for l how (is_some packet))
    → delivery_of (link_text l) (decimal at) (how_text how) (packet_text packet) (fate_text fate) ≡ Some (noted (delivery l at how) packet fate)
delivery_back l at how packet fate n p i =
    rw (link_back l, number_back at n, how_back how, packet_back packet p, fate_back l how (is_some packet) fate i) refl

event_back : (s : Step) (packet : Option (List ℕ)) (fate : NoteFate) → IsEvent s packet fate → Reads (noted s packet fate)
unfolding line_of
event_back (step.Send w) packet fate h = rw (number_back w h.0, packet_back packet h.1) (ap (λ f. Some (noted (step.Send w) packet f)) (sym h.2))
event_back (step.Resend w k) packet fate h = rw (number_back w h.0, number_back k h.1, packet_back packet h.2) (ap (λ f. Some (noted (step.Resend w k) packet f)) (sym h.3))
event_back (step.Up at how) packet fate h = delivery_back link.Up at how packet fate h.0 h.1 h.2
event_back (step.Down at how) packet fate h = delivery_back link.Down at how packet fate h.0 h.1 h.2
event_back (step.Back at how) packet fate h = delivery_back link.Back at how packet fate h.0 h.1 h.2
event_back (step.Inject l bytes) packet fate h =
    rw (link_back l, given_back bytes h.0) (ap (λ p. Some (noted (step.Inject l bytes) p Injected)) (sym h.1) ∙ ap (λ f. Some (noted (step.Inject l bytes) packet f)) (sym h.2))
event_back step.Restart packet fate h = ap (λ p. Some (noted step.Restart p Restarted)) (sym h.0) ∙ ap (λ f. Some (noted step.Restart packet f)) (sym h.1)

fields_back : (l : Line) → IsLine l → Reads l
unfolding line_of
fields_back (Event n) h = event_back n.step n.bytes n.fate h
fields_back (End Done) h = refl
fields_back (End Open) h = refl

delivery_bytes : (l : Link) (at : ℕ) (how : How) (packet : Option (List ℕ)) (fate : NoteFate) → IsNumber at → AreFields (delivery_fields l at how packet fate)
delivery_bytes l at how packet fate n = (link_field l, (number_field at n, (how_field how, (packet_field packet, (fate_field fate, tt)))))

event_bytes : (s : Step) (packet : Option (List ℕ)) (fate : NoteFate) → IsEvent s packet fate → AreFields (event_fields s packet fate)
event_bytes (step.Send w) packet fate h = (refl, (number_field w h.0, (packet_field packet, tt)))
event_bytes (step.Resend w k) packet fate h = (refl, (number_field w h.0, (number_field k h.1, (packet_field packet, tt))))
event_bytes (step.Up at how) packet fate h = delivery_bytes link.Up at how packet fate h.0
event_bytes (step.Down at how) packet fate h = delivery_bytes link.Down at how packet fate h.0
event_bytes (step.Back at how) packet fate h = delivery_bytes link.Back at how packet fate h.0
event_bytes (step.Inject l bytes) packet fate h = (refl, (link_field l, (given_field bytes, tt)))
event_bytes step.Restart packet fate h = (refl, tt)

line_bytes : (l : Line) → IsLine l → AreFields (line_fields l)
line_bytes (Event n) h = event_bytes n.step n.bytes n.fate h
line_bytes (End Done) h = (refl, (refl, tt))
line_bytes (End Open) h = (refl, (refl, tt))

split_fields : (fields : List (List ℕ)) → AreFields fields → (fields ≡ [] → ⊥) → slice_split (λ b. b == 32) (join_with_byte 32 fields) ≡ fields
split_fields [] h some = absurd (some refl)
split_fields (f ∷ fs) h some = fields_split f fs h

some_event : (s : Step) (packet : Option (List ℕ)) (fate : NoteFate) → event_fields s packet fate ≡ [] → ⊥
some_event (step.Send w) packet fate e = cc
some_event (step.Resend w k) packet fate e = cc
some_event (step.Up at how) packet fate e = cc
some_event (step.Down at how) packet fate e = cc
some_event (step.Back at how) packet fate e = cc
some_event (step.Inject l bytes) packet fate e = cc
some_event step.Restart packet fate e = cc

some_fields : (l : Line) → line_fields l ≡ [] → ⊥
some_fields (Event n) e = some_event n.step n.bytes n.fate e
some_fields (End ending) e = cc

pub line_back : (l : Line) → IsLine l → line_at (line_text l) ≡ Some l
line_back l h = ap line_of (split_fields (line_fields l) (line_bytes l h) (some_fields l)) ∙ fields_back l h

joined_bytes : (f : List ℕ) (fs : List (List ℕ)) → AreFields (f ∷ fs) → list_all is_line_byte (join_with_byte 32 (f ∷ fs)) ≡ true
joined_bytes f [] h = fields_are_lines f h.0
joined_bytes f (g ∷ gs) h = all_both is_line_byte f (32 ∷ join_with_byte 32 (g ∷ gs)) (fields_are_lines f h.0) (joined_bytes g gs h.1)

all_bytes : (fields : List (List ℕ)) → AreFields fields → list_all is_line_byte (join_with_byte 32 fields) ≡ true
all_bytes [] h = refl
all_bytes (f ∷ fs) h = joined_bytes f fs h

pub line_inner : (l : Line) → IsLine l → list_all is_line_byte (line_text l) ≡ true
line_inner l h = all_bytes (line_fields l) (line_bytes l h)

pub line_feedless : (l : Line) → IsLine l → list_all (λ b. not (b == 10)) (line_text l) ≡ true
line_feedless l h = lines_no_feed (line_text l) (line_inner l h)
