-- Lines are read as they are spelled, and only so.
use Rattle.std.proofs.Common.{◌≡◌, ℕ, true, List, [], ◌∷◌, ◌++◌, Option, Some, None, refl, ap, ◌∙◌, subst, inl, inr}
use Rattle.std.specs.Prelude.{option_map, bytes_eq, codes, ◌==◌, not}
use Rattle.std.specs.List.{list_all, join_with_byte}
use Rattle.std.specs.Fmt.{decimal}
use Rattle.std.proofs.lemmas.Bool.{and_parts}
use Rattle.ch_ir.specs.declared.program.Op.{Op}
use Rattle.ch_ir.specs.declared.program.Op.TheVariants.{Set, Two, Bit, Pick, Hash}
use Rattle.ch_ir.specs.declared.program.Access.{Access}
use Rattle.ch_asm_lines.specs.declared.line.Line.{Line}
use Rattle.ch_asm_lines.specs.declared.line.Line.TheVariants as line
use Rattle.ch_asm_lines.specs.Spelling.{line_text, line_fields, op_fields, access_fields, array_fields}
use Rattle.ch_asm_lines.specs.Range.{IsWord, IsOp, IsAccess, IsArray, IsLine}
use Rattle.ch_asm_lines.specs.Numbers.{word_of}
use Rattle.ch_asm_lines.specs.Reading.{cut_of, op_of, access_of, array_of, line_named, line_of}
use Rattle.ch_asm_lines.proofs.Options.{bound, mapped, chosen}
use Rattle.ch_asm_lines.proofs.Digits.{word_is, word_back}
use Rattle.ch_asm_lines.proofs.Bytes.{is_field_byte, is_line_byte, fields_are_lines, lines_no_feed, all_both, cut_is}
use Rattle.ch_asm_lines.proofs.Parts.{same_bytes, binary_field}
use Rattle.ch_asm_lines.proofs.Ops.{op_is, op_back, access_is, access_back, array_is, array_back, words, seeds, operands, tests, word_lists, keys, update_lists}

-- a line from its first field and what stands behind it
abbrev with_name : List ℕ → List ℕ → List ℕ
with_name name t = name ++ 32 ∷ t

made_is : {X : Type 0} (make : X → Line) (read : List ℕ → Option X) (text : X → List ℕ) (Fits : X → Type 0) (known : List ℕ)
    → ((t : List ℕ) (x : X) → read t ≡ Some x → (t ≡ text x) × Fits x)
    → ((x : X) → Fits x → (with_name known (text x) ≡ line_text (make x)) × IsLine (make x))
    → (name t : List ℕ) (l : Line) → bytes_eq name known ≡ true → option_map make (read t) ≡ Some l → (with_name name t ≡ line_text l) × IsLine l
made_is make read text Fits known is made name t l e h =
    let m = mapped make (read t) l h in
    let r = is t m.0 m.1 in
    let n = made m.0 r.1 in
    subst (λ (z : Line). (with_name name t ≡ line_text z) × IsLine z) m.2
    (ap (λ xs. with_name xs t) (same_bytes name known e) ∙ ap (with_name known) r.0 ∙ n.0, n.1)

op_text : (op : Op) → IsOp op → (with_name (codes "op") (join_with_byte 32 (op_fields op)) ≡ line_text (line.Op op)) × IsLine (line.Op op)
unfolding line_text
op_text (Set to a) h = (refl, h)
op_text (Two to b x y) h = (refl, h)
op_text (Bit to a) h = (refl, h)
op_text (Pick to a x y) h = (refl, h)
op_text (Hash to seed n ws) h = (refl, h)

named_is : (name t : List ℕ) (l : Line) → line_named name t ≡ Some l → (with_name name t ≡ line_text l) × IsLine l
unfolding line_named line_text
named_is name t l e = elim (chosen (bytes_eq name (codes "width")) _ _ l e) [
  | inl p ↦ made_is line.Width word_of decimal IsWord (codes "width") word_is (λ w h. (refl, h)) name t l p.0 p.1
  | inr p ↦ elim (chosen (bytes_eq name (codes "array")) _ _ l p.1) [
    | inl q ↦ made_is line.Array array_of (λ a. join_with_byte 32 (array_fields a)) IsArray (codes "array") array_is (λ a h. (refl, h)) name t l q.0 q.1
    | inr q ↦ elim (chosen (bytes_eq name (codes "op")) _ _ l q.1) [
      | inl r ↦ made_is line.Op op_of (λ op. join_with_byte 32 (op_fields op)) IsOp (codes "op") op_is op_text name t l r.0 r.1
      | inr r ↦ elim (chosen (bytes_eq name (codes "access")) _ _ l r.1) [
        | inl s ↦ made_is line.Access access_of (λ x. join_with_byte 32 (access_fields x)) IsAccess (codes "access") access_is (λ x h. (refl, h)) name t l s.0 s.1
        | inr s ↦ elim (chosen (bytes_eq name (codes "verdict")) _ None l s.1) [
          | inl v ↦ made_is line.Verdict word_of decimal IsWord (codes "verdict") word_is (λ w h. (refl, h)) name t l v.0 v.1
          | inr v ↦ let wrong = v.1 in cc
        ]
      ]
    ]
  ]
]

plain_is : (t known : List ℕ) (made l : Line) → bytes_eq t known ≡ true → Some made ≡ Some l → known ≡ line_text made → IsLine made → (t ≡ line_text l) × IsLine l
plain_is t known made l e k text h =
    let same : made ≡ l = cc in
    subst (λ (z : Line). (t ≡ line_text z) × IsLine z) same (same_bytes t known e ∙ text, h)

header_text : codes "cheetah program 1" ≡ line_text line.Header
unfolding line_text
header_text = refl

stage_text : codes "stage" ≡ line_text line.Stage
unfolding line_text
stage_text = refl

end_text : codes "end" ≡ line_text line.End
unfolding line_text
end_text = refl

pub line_is : (t : List ℕ) (l : Line) → line_of t ≡ Some l → (t ≡ line_text l) × IsLine l
unfolding line_of
line_is t l e = elim (chosen (bytes_eq t (codes "cheetah program 1")) _ _ l e) [
  | inl p ↦ plain_is t (codes "cheetah program 1") line.Header l p.0 p.1 header_text tt
  | inr p ↦ elim (chosen (bytes_eq t (codes "stage")) _ _ l p.1) [
    | inl q ↦ plain_is t (codes "stage") line.Stage l q.0 q.1 stage_text tt
    | inr q ↦ elim (chosen (bytes_eq t (codes "end")) _ _ l q.1) [
      | inl r ↦ plain_is t (codes "end") line.End l r.0 r.1 end_text tt
      | inr r ↦
          let c = bound (cut_of 32 t) _ l r.1 in
          let n = named_is c.0.0 c.0.1 l c.2 in
          (cut_is 32 t c.0 c.1 ∙ n.0, n.1)
    ]
  ]
]

op_line : (op : Op) → line_text (line.Op op) ≡ with_name (codes "op") (join_with_byte 32 (op_fields op))
unfolding line_text
op_line (Set to a) = refl
op_line (Two to b x y) = refl
op_line (Bit to a) = refl
op_line (Pick to a x y) = refl
op_line (Hash to seed n ws) = refl

from_op : (t : List ℕ) → line_of (with_name (codes "op") t) ≡ option_map line.Op (op_of t)
unfolding line_of line_named cut_of
from_op t = refl

pub line_back : (l : Line) → IsLine l → line_of (line_text l) ≡ Some l
unfolding line_of line_named line_text cut_of
line_back line.Header h = refl
line_back (line.Width w) h = ap (option_map line.Width) (word_back w h)
line_back (line.Array a) h = ap (option_map line.Array) (array_back a h)
line_back line.Stage h = refl
line_back (line.Op op) h = ap line_of (op_line op) ∙ from_op (join_with_byte 32 (op_fields op)) ∙ ap (option_map line.Op) (op_back op h)
line_back (line.Access x) h = ap (option_map line.Access) (access_back x h)
line_back (line.Verdict w) h = ap (option_map line.Verdict) (word_back w h)
line_back line.End h = refl

-- no line feeds

each_field : (fields : List (List ℕ)) → list_all (list_all is_field_byte) fields ≡ true → list_all is_line_byte (join_with_byte 32 fields) ≡ true
each_field [] h = refl
each_field (f ∷ []) h = fields_are_lines f (and_parts (list_all is_field_byte f) true h).0
each_field (f ∷ g ∷ fs) h =
    let t = and_parts (list_all is_field_byte f) (list_all (list_all is_field_byte) (g ∷ fs)) h in
    all_both is_line_byte f (32 ∷ join_with_byte 32 (g ∷ fs)) (fields_are_lines f t.0) (each_field (g ∷ fs) t.1)

op_bytes : (op : Op) → IsOp op → list_all (list_all is_field_byte) (op_fields op) ≡ true
op_bytes (Set to a) h = rw (words.bytes to h.0, operands.bytes a h.1) refl
op_bytes (Two to b x y) h = rw (words.bytes to h.0, binary_field b, operands.bytes x h.1, operands.bytes y h.2) refl
op_bytes (Bit to a) h = rw (words.bytes to h.0, operands.bytes a h.1) refl
op_bytes (Pick to a x y) h = rw (words.bytes to h.0, operands.bytes a h.1, operands.bytes x h.2, operands.bytes y h.3) refl
op_bytes (Hash to seed n ws) h = rw (words.bytes to h.0, seeds.bytes seed h.1, words.bytes n h.2, word_lists.bytes ws h.3) refl

access_bytes : (x : Access) → IsAccess x → list_all (list_all is_field_byte) (access_fields x) ≡ true
access_bytes x h =
    rw (
      words.bytes x.array h.array,
      operands.bytes x.index h.index,
      operands.bytes x.guard h.guard,
      tests.bytes x.test h.test,
      keys.bytes x.key h.key,
      update_lists.bytes x.yes h.yes,
      update_lists.bytes x.no h.no,
      words.bytes x.old h.old,
      words.bytes x.hit h.hit,
    ) refl

line_bytes : (l : Line) → IsLine l → list_all (list_all is_field_byte) (line_fields l) ≡ true
line_bytes line.Header h = refl
line_bytes (line.Width w) h = rw (words.bytes w h) refl
line_bytes (line.Array a) h = rw (words.bytes a.entries h.entries, words.bytes a.cells h.cells) refl
line_bytes line.Stage h = refl
line_bytes (line.Op op) h = op_bytes op h
line_bytes (line.Access x) h = access_bytes x h
line_bytes (line.Verdict w) h = rw (words.bytes w h) refl
line_bytes line.End h = refl

pub line_inner : (l : Line) → IsLine l → list_all (λ b. not (b == 10)) (line_text l) ≡ true
unfolding line_text
line_inner l h = lines_no_feed (join_with_byte 32 (line_fields l)) (each_field (line_fields l) (line_bytes l h))
