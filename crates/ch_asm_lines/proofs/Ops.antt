-- Ops and accesses are read as they are spelled, and only so.
use Rattle.std.proofs.Common.{◌≡◌, ℕ, ◌<◌, ◌^◌, true, List, ◌∷◌, ◌++◌, Option, Some, refl, ap, ap₂, ◌∙◌, subst, arith, map, inl, inr}
use Rattle.std.specs.Prelude.{option_map, option_and_then, bytes_eq, codes}
use Rattle.std.specs.List.{list_all, join_with_byte, AllByRecursion}
use Rattle.std.specs.Fmt.{decimal}
use Rattle.ch_ir.specs.declared.program.Operand.{Operand}
use Rattle.ch_ir.specs.declared.program.Binary.{Binary}
use Rattle.ch_ir.specs.declared.program.Binary.TheVariants as binary
use Rattle.ch_ir.specs.declared.program.Op.{Op}
use Rattle.ch_ir.specs.declared.program.Op.TheVariants.{Set, Two, Bit, Pick, Hash}
use Rattle.ch_ir.specs.declared.program.Update.{Update}
use Rattle.ch_ir.specs.declared.program.Access.{Access}
use Rattle.ch_ir.specs.declared.program.Array.{Array}
use Rattle.ch_asm_lines.specs.declared.read.Asked.{Asked}
use Rattle.ch_asm_lines.specs.Spelling.{word_text, words_text, operand_text, operands_text, updates_text, list_text, test_text, update_text, binary_text, op_fields, access_fields, array_fields}
use Rattle.ch_asm_lines.specs.Range.{IsWord, IsOperand, IsTest, IsUpdate, IsOp, IsAccess, IsArray}
use Rattle.ch_asm_lines.specs.Numbers.{word_of, seed_of}
use Rattle.ch_asm_lines.specs.Reading.{cut_of, listed_word_of, operand_of, list_of, test_of, update_of, binary_of, field_of, pick_of, hash_of, two_of, op_named, op_of, asked_of, access_with, access_of, array_of}
use Rattle.ch_asm_lines.proofs.Options.{bound, mapped, chosen}
use Rattle.ch_asm_lines.proofs.Digits.{word_is, word_back, seed_is, seed_back}
use Rattle.ch_asm_lines.proofs.Bytes.{is_field_byte, decimal_item, items_are_fields, fields_no_space, cut_is, cut_back}
use Rattle.ch_asm_lines.proofs.Parts.{Codes, same_bytes, words_code, operands_code, tests_code, updates_code, binary_is, binary_back, binary_field}
use Rattle.ch_asm_lines.proofs.ListLaws.{list_is, list_back, list_field}

-- How a field is read and spelled: as it is spelled, and only so, with no space in it.
pub record Fields {X : Type 0} (Fits : X → Type 0) (text : X → List ℕ) (read : List ℕ → Option X) : Type 0 where
  pub is : (t : List ℕ) (x : X) → read t ≡ Some x → (t ≡ text x) × Fits x
  pub back : (x : X) → Fits x → read (text x) ≡ Some x
  pub bytes : (x : X) → Fits x → list_all is_field_byte (text x) ≡ true

abbrev of_code : {X : Type 0} (Fits : X → Type 0) (text : X → List ℕ) (read : List ℕ → Option X) → Codes Fits text read → Fields Fits text read
of_code Fits text read code = record { is = code.is; back = code.back; bytes = λ x h. items_are_fields (text x) (code.bytes x h) }

abbrev of_list : {X : Type 0} (Fits : X → Type 0) (text : X → List ℕ) (read : List ℕ → Option X) → Codes Fits text read → Fields (AllByRecursion Fits) (λ xs. list_text (map text xs)) (list_of read)
of_list Fits text read code = record { is = list_is Fits text read code; back = list_back Fits text read code; bytes = list_field Fits text read code }

word_field : (w : ℕ) → IsWord w → list_all is_field_byte (decimal w) ≡ true
word_field w h = items_are_fields (decimal w) (decimal_item w (omega arith))

pub words : Fields IsWord decimal word_of
words = record { is = word_is; back = word_back; bytes = word_field }

pub seeds : Fields (λ n. n < 2 ^ 64) decimal seed_of
seeds = record { is = seed_is; back = seed_back; bytes = λ n h. items_are_fields (decimal n) (decimal_item n h) }

pub operands : Fields IsOperand operand_text operand_of
operands = of_code IsOperand operand_text operand_of operands_code

pub tests : Fields IsTest test_text test_of
tests = of_code IsTest test_text test_of tests_code

pub word_lists : Fields (AllByRecursion IsWord) words_text (list_of listed_word_of)
word_lists = of_list IsWord word_text listed_word_of words_code

pub keys : Fields (AllByRecursion IsOperand) operands_text (list_of operand_of)
keys = of_list IsOperand operand_text operand_of operands_code

pub update_lists : Fields (AllByRecursion IsUpdate) updates_text (list_of update_of)
update_lists = of_list IsUpdate update_text update_of updates_code

-- a field and what stands behind it

pub field_is : {X : Type 0} (Fits : X → Type 0) (text : X → List ℕ) (read : List ℕ → Option X) → Fields Fits text read
    → (t : List ℕ) (y : X × List ℕ) → field_of read t ≡ Some y → (t ≡ text y.0 ++ 32 ∷ y.1) × Fits y.0
unfolding field_of
field_is {X} Fits text read code t y e =
    let c = bound (cut_of 32 t) (λ parts. option_and_then (λ x. Some (x, parts.1)) (read parts.0)) y e in
    let r = bound (read c.0.0) (λ x. Some (x, c.0.1)) y c.2 in
    let n = code.is c.0.0 r.0 r.1 in
    let same : (r.0, c.0.1) ≡ y = let k = r.2 in cc in
    subst (λ (z : X × List ℕ). (t ≡ text z.0 ++ 32 ∷ z.1) × Fits z.0) same
    (cut_is 32 t c.0 c.1 ∙ ap (λ (front : List ℕ). front ++ 32 ∷ c.0.1) n.0, n.1)

pub field_back : {X : Type 0} (Fits : X → Type 0) (text : X → List ℕ) (read : List ℕ → Option X) → Fields Fits text read
    → (x : X) (rest : List ℕ) → Fits x → field_of read (text x ++ 32 ∷ rest) ≡ Some (x, rest)
unfolding field_of
field_back Fits text read code x rest h =
    rw (cut_back 32 (text x) rest (fields_no_space (text x) (code.bytes x h)), code.back x h) refl

-- ops

abbrev op_text : Op → List ℕ
op_text op = join_with_byte 32 (op_fields op)

-- what stands behind the name of an op
abbrev behind : ℕ → List ℕ → List ℕ → List ℕ
behind to name text = decimal to ++ 32 ∷ (name ++ 32 ∷ text)

pick_is : (to : ℕ) (t : List ℕ) (op : Op) → IsWord to → pick_of to t ≡ Some op → (behind to (codes "pick") t ≡ op_text op) × IsOp op
unfolding pick_of
pick_is to t op h e =
    let a = bound (field_of operand_of t) _ op e in
    let x = bound (field_of operand_of a.0.1) _ op a.2 in
    let y = bound (operand_of x.0.1) _ op x.2 in
    let ta = field_is IsOperand operand_text operand_of operands t a.0 a.1 in
    let tx = field_is IsOperand operand_text operand_of operands a.0.1 x.0 x.1 in
    let ty = operands.is x.0.1 y.0 y.1 in
    let same : Pick to a.0.0 x.0.0 y.0 ≡ op = let k = y.2 in cc in
    subst (λ (z : Op). (behind to (codes "pick") t ≡ op_text z) × IsOp z) same
    (ap (behind to (codes "pick")) (ta.0 ∙ ap (λ (r : List ℕ). operand_text a.0.0 ++ 32 ∷ r) (tx.0 ∙ ap (λ (r : List ℕ). operand_text x.0.0 ++ 32 ∷ r) ty.0)), (h, ta.1, tx.1, ty.1))

hash_is : (to : ℕ) (t : List ℕ) (op : Op) → IsWord to → hash_of to t ≡ Some op → (behind to (codes "hash") t ≡ op_text op) × IsOp op
unfolding hash_of
hash_is to t op h e =
    let a = bound (field_of seed_of t) _ op e in
    let x = bound (field_of word_of a.0.1) _ op a.2 in
    let y = bound (list_of listed_word_of x.0.1) _ op x.2 in
    let ta = field_is (λ n. n < 2 ^ 64) decimal seed_of seeds t a.0 a.1 in
    let tx = field_is IsWord decimal word_of words a.0.1 x.0 x.1 in
    let ty = word_lists.is x.0.1 y.0 y.1 in
    let same : Hash to a.0.0 x.0.0 y.0 ≡ op = let k = y.2 in cc in
    subst (λ (z : Op). (behind to (codes "hash") t ≡ op_text z) × IsOp z) same
    (ap (behind to (codes "hash")) (ta.0 ∙ ap (λ (r : List ℕ). decimal a.0.0 ++ 32 ∷ r) (tx.0 ∙ ap (λ (r : List ℕ). decimal x.0.0 ++ 32 ∷ r) ty.0)), (h, ta.1, tx.1, ty.1))

two_is : (to : ℕ) (name t : List ℕ) (op : Op) → IsWord to → two_of to name t ≡ Some op → (behind to name t ≡ op_text op) × IsOp op
unfolding two_of
two_is to name t op h e =
    let b = bound (binary_of name) _ op e in
    let x = bound (field_of operand_of t) _ op b.2 in
    let y = bound (operand_of x.0.1) _ op x.2 in
    let tb = binary_is name b.0 b.1 in
    let tx = field_is IsOperand operand_text operand_of operands t x.0 x.1 in
    let ty = operands.is x.0.1 y.0 y.1 in
    let same : Two to b.0 x.0.0 y.0 ≡ op = let k = y.2 in cc in
    subst (λ (z : Op). (behind to name t ≡ op_text z) × IsOp z) same
    (ap₂ (behind to) tb (tx.0 ∙ ap (λ (r : List ℕ). operand_text x.0.0 ++ 32 ∷ r) ty.0), (h, tx.1, ty.1))

one_is : (to : ℕ) (name t : List ℕ) (make : ℕ → Operand → Op) (op : Op) → IsWord to → option_map (make to) (operand_of t) ≡ Some op
    → ((a : Operand) → IsOperand a → (behind to name (operand_text a) ≡ op_text (make to a)) × IsOp (make to a)) → (behind to name t ≡ op_text op) × IsOp op
one_is to name t make op h e made =
    let m = mapped (make to) (operand_of t) op e in
    let a = operands.is t m.0 m.1 in
    let n = made m.0 a.1 in
    subst (λ (z : Op). (behind to name t ≡ op_text z) × IsOp z) m.2 (ap (behind to name) a.0 ∙ n.0, n.1)

along : (to : ℕ) (name known t : List ℕ) (op : Op) → bytes_eq name known ≡ true → (behind to known t ≡ op_text op) × IsOp op → (behind to name t ≡ op_text op) × IsOp op
along to name known t op e h = (ap (λ xs. behind to xs t) (same_bytes name known e) ∙ h.0, h.1)

named_is : (to : ℕ) (name t : List ℕ) (op : Op) → IsWord to → op_named to name t ≡ Some op → (behind to name t ≡ op_text op) × IsOp op
unfolding op_named
named_is to name t op h e = elim (chosen (bytes_eq name (codes "set")) _ _ op e) [
  | inl p ↦ along to name (codes "set") t op p.0 (one_is to (codes "set") t Set op h p.1 (λ a f. (refl, (h, f))))
  | inr p ↦ elim (chosen (bytes_eq name (codes "bit")) _ _ op p.1) [
    | inl q ↦ along to name (codes "bit") t op q.0 (one_is to (codes "bit") t Bit op h q.1 (λ a f. (refl, (h, f))))
    | inr q ↦ elim (chosen (bytes_eq name (codes "pick")) _ _ op q.1) [
      | inl r ↦ along to name (codes "pick") t op r.0 (pick_is to t op h r.1)
      | inr r ↦ elim (chosen (bytes_eq name (codes "hash")) _ _ op r.1) [
        | inl s ↦ along to name (codes "hash") t op s.0 (hash_is to t op h s.1)
        | inr s ↦ two_is to name t op h s.1
      ]
    ]
  ]
]

pub op_is : (t : List ℕ) (op : Op) → op_of t ≡ Some op → (t ≡ join_with_byte 32 (op_fields op)) × IsOp op
unfolding op_of
op_is t op e =
    let to = bound (field_of word_of t) _ op e in
    let c = bound (cut_of 32 to.0.1) _ op to.2 in
    let tt' = field_is IsWord decimal word_of words t to.0 to.1 in
    let n = named_is to.0.0 c.0.0 c.0.1 op tt'.1 c.2 in
    (tt'.0 ∙ ap (λ (r : List ℕ). decimal to.0.0 ++ 32 ∷ r) (cut_is 32 to.0.1 c.0 c.1) ∙ n.0, n.1)

-- no name of two operands is another op's
two_named : (to : ℕ) (b : Binary) (t : List ℕ) → op_named to (binary_text b) t ≡ two_of to (binary_text b) t
unfolding op_named
two_named to binary.Add t = refl
two_named to binary.Sub t = refl
two_named to binary.Lt t = refl
two_named to binary.Le t = refl
two_named to binary.Eq t = refl
two_named to binary.Ne t = refl
two_named to binary.And t = refl
two_named to binary.Or t = refl
two_named to binary.Mask t = refl

-- an op whose name has no space
from_name : (to : ℕ) (name t : List ℕ) → IsWord to → list_all is_field_byte name ≡ true → op_of (behind to name t) ≡ op_named to name t
unfolding op_of
from_name to name t h n = rw (field_back IsWord decimal word_of words to (name ++ 32 ∷ t) h, cut_back 32 name t (fields_no_space name n)) refl

pub op_back : (op : Op) → IsOp op → op_of (join_with_byte 32 (op_fields op)) ≡ Some op
unfolding op_named pick_of hash_of two_of
op_back (Set to a) h = from_name to (codes "set") (operand_text a) h.0 refl ∙ ap (option_map (λ x. Set to x)) (operands.back a h.1)
op_back (Bit to a) h = from_name to (codes "bit") (operand_text a) h.0 refl ∙ ap (option_map (λ x. Bit to x)) (operands.back a h.1)
op_back (Pick to a x y) h =
    from_name to (codes "pick") (operand_text a ++ 32 ∷ (operand_text x ++ 32 ∷ operand_text y)) h.0 refl
    ∙ rw (
      field_back IsOperand operand_text operand_of operands a (operand_text x ++ 32 ∷ operand_text y) h.1,
      field_back IsOperand operand_text operand_of operands x (operand_text y) h.2,
      operands.back y h.3,
    ) refl
op_back (Hash to seed n ws) h =
    from_name to (codes "hash") (decimal seed ++ 32 ∷ (decimal n ++ 32 ∷ words_text ws)) h.0 refl
    ∙ rw (
      field_back (λ n. n < 2 ^ 64) decimal seed_of seeds seed (decimal n ++ 32 ∷ words_text ws) h.1,
      field_back IsWord decimal word_of words n (words_text ws) h.2,
      word_lists.back ws h.3,
    ) refl
op_back (Two to b x y) h =
    from_name to (binary_text b) (operand_text x ++ 32 ∷ operand_text y) h.0 (binary_field b)
    ∙ two_named to b (operand_text x ++ 32 ∷ operand_text y)
    ∙ rw (binary_back b, field_back IsOperand operand_text operand_of operands x (operand_text y) h.1, operands.back y h.2) refl

-- accesses

-- the first four fields, and what stands behind them
abbrev asked_text : Asked → List ℕ → List ℕ
asked_text a rest = decimal a.array ++ 32 ∷ (operand_text a.index ++ 32 ∷ (operand_text a.guard ++ 32 ∷ (test_text a.test ++ 32 ∷ rest)))

record IsAsked (a : Asked) : Type 0 where
  array : IsWord a.array
  index : IsOperand a.index
  guard : IsOperand a.guard
  test : IsTest a.test

abbrev lists_text : List Operand → List Update → List Update → ℕ → ℕ → List ℕ
lists_text key hits misses old hit = operands_text key ++ 32 ∷ (updates_text hits ++ 32 ∷ (updates_text misses ++ 32 ∷ (decimal old ++ 32 ∷ decimal hit)))

asked_is : (t : List ℕ) (y : Asked × List ℕ) → asked_of t ≡ Some y → (t ≡ asked_text y.0 y.1) × IsAsked y.0
unfolding asked_of
asked_is t y e =
    let a = bound (field_of word_of t) _ y e in
    let i = bound (field_of operand_of a.0.1) _ y a.2 in
    let g = bound (field_of operand_of i.0.1) _ y i.2 in
    let s = bound (field_of test_of g.0.1) _ y g.2 in
    let ta = field_is IsWord decimal word_of words t a.0 a.1 in
    let ti = field_is IsOperand operand_text operand_of operands a.0.1 i.0 i.1 in
    let tg = field_is IsOperand operand_text operand_of operands i.0.1 g.0 g.1 in
    let ts = field_is IsTest test_text test_of tests g.0.1 s.0 s.1 in
    let asked : Asked = record { array = a.0.0; index = i.0.0; guard = g.0.0; test = s.0.0 } in
    let same : (asked, s.0.1) ≡ y = let k = s.2 in cc in
    subst (λ (z : Asked × List ℕ). (t ≡ asked_text z.0 z.1) × IsAsked z.0) same (
      ta.0 ∙ ap (λ (r : List ℕ). decimal a.0.0 ++ 32 ∷ r) (ti.0 ∙ ap (λ (r : List ℕ). operand_text i.0.0 ++ 32 ∷ r) (tg.0 ∙ ap (λ (r : List ℕ). operand_text g.0.0 ++ 32 ∷ r) ts.0)),
      record { array = ta.1; index = ti.1; guard = tg.1; test = ts.1 },
    )

asked_back : (a : Asked) (rest : List ℕ) → IsAsked a → asked_of (asked_text a rest) ≡ Some (a, rest)
unfolding asked_of
asked_back a rest h =
    rw (
      field_back IsWord decimal word_of words a.array (operand_text a.index ++ 32 ∷ (operand_text a.guard ++ 32 ∷ (test_text a.test ++ 32 ∷ rest))) h.array,
      field_back IsOperand operand_text operand_of operands a.index (operand_text a.guard ++ 32 ∷ (test_text a.test ++ 32 ∷ rest)) h.index,
      field_back IsOperand operand_text operand_of operands a.guard (test_text a.test ++ 32 ∷ rest) h.guard,
      field_back IsTest test_text test_of tests a.test rest h.test,
    ) refl

with_is : (a : Asked) (t : List ℕ) (x : Access) → IsAsked a → access_with a t ≡ Some x → (asked_text a t ≡ join_with_byte 32 (access_fields x)) × IsAccess x
unfolding access_with
with_is a t x h e =
    let k = bound (field_of (list_of operand_of) t) _ x e in
    let u = bound (field_of (list_of update_of) k.0.1) _ x k.2 in
    let v = bound (field_of (list_of update_of) u.0.1) _ x u.2 in
    let o = bound (field_of word_of v.0.1) _ x v.2 in
    let i = bound (word_of o.0.1) _ x o.2 in
    let tk = field_is (AllByRecursion IsOperand) operands_text (list_of operand_of) keys t k.0 k.1 in
    let tu = field_is (AllByRecursion IsUpdate) updates_text (list_of update_of) update_lists k.0.1 u.0 u.1 in
    let tv = field_is (AllByRecursion IsUpdate) updates_text (list_of update_of) update_lists u.0.1 v.0 v.1 in
    let to = field_is IsWord decimal word_of words v.0.1 o.0 o.1 in
    let ti = words.is o.0.1 i.0 i.1 in
    let same : record { array = a.array; index = a.index; guard = a.guard; test = a.test; key = k.0.0; yes = u.0.0; no = v.0.0; old = o.0.0; hit = i.0 } ≡ x = let z = i.2 in cc in
    subst (λ (z : Access). (asked_text a t ≡ join_with_byte 32 (access_fields z)) × IsAccess z) same (
      ap (asked_text a) (tk.0 ∙ ap (λ (r : List ℕ). operands_text k.0.0 ++ 32 ∷ r) (tu.0 ∙ ap (λ (r : List ℕ). updates_text u.0.0 ++ 32 ∷ r)
          (tv.0 ∙ ap (λ (r : List ℕ). updates_text v.0.0 ++ 32 ∷ r) (to.0 ∙ ap (λ (r : List ℕ). decimal o.0.0 ++ 32 ∷ r) ti.0)))),
      record { array = h.array; index = h.index; guard = h.guard; test = h.test; key = tk.1; yes = tu.1; no = tv.1; old = to.1; hit = ti.1 },
    )

pub access_is : (t : List ℕ) (x : Access) → access_of t ≡ Some x → (t ≡ join_with_byte 32 (access_fields x)) × IsAccess x
unfolding access_of
access_is t x e =
    let a = bound (asked_of t) _ x e in
    let ta = asked_is t a.0 a.1 in
    let w = with_is a.0.0 a.0.1 x ta.1 a.2 in
    (ta.0 ∙ w.0, w.1)

with_back : (a : Asked) (key : List Operand) (hits misses : List Update) (old hit : ℕ) → AllByRecursion IsOperand key → AllByRecursion IsUpdate hits → AllByRecursion IsUpdate misses → IsWord old → IsWord hit
    → access_with a (lists_text key hits misses old hit)
    ≡ Some (record { array = a.array; index = a.index; guard = a.guard; test = a.test; key = key; yes = hits; no = misses; old = old; hit = hit })
unfolding access_with
with_back a key hits misses old hit hk hy hn ho hh =
    rw (
      field_back (AllByRecursion IsOperand) operands_text (list_of operand_of) keys key (updates_text hits ++ 32 ∷ (updates_text misses ++ 32 ∷ (decimal old ++ 32 ∷ decimal hit))) hk,
      field_back (AllByRecursion IsUpdate) updates_text (list_of update_of) update_lists hits (updates_text misses ++ 32 ∷ (decimal old ++ 32 ∷ decimal hit)) hy,
      field_back (AllByRecursion IsUpdate) updates_text (list_of update_of) update_lists misses (decimal old ++ 32 ∷ decimal hit) hn,
      field_back IsWord decimal word_of words old (decimal hit) ho,
      words.back hit hh,
    ) refl

pub access_back : (x : Access) → IsAccess x → access_of (join_with_byte 32 (access_fields x)) ≡ Some x
unfolding access_of
access_back x h =
    let a : Asked = record { array = x.array; index = x.index; guard = x.guard; test = x.test } in
    let ha : IsAsked a = record { array = h.array; index = h.index; guard = h.guard; test = h.test } in
    rw (asked_back a (lists_text x.key x.yes x.no x.old x.hit) ha) (with_back a x.key x.yes x.no x.old x.hit h.key h.yes h.no h.old h.hit)

-- arrays

pub array_is : (t : List ℕ) (a : Array) → array_of t ≡ Some a → (t ≡ join_with_byte 32 (array_fields a)) × IsArray a
unfolding array_of
array_is t a e =
    let n = bound (field_of word_of t) _ a e in
    let c = bound (word_of n.0.1) _ a n.2 in
    let tn = field_is IsWord decimal word_of words t n.0 n.1 in
    let tc = words.is n.0.1 c.0 c.1 in
    let same : record { entries = n.0.0; cells = c.0 } ≡ a = let k = c.2 in cc in
    subst (λ (z : Array). (t ≡ join_with_byte 32 (array_fields z)) × IsArray z) same
    (tn.0 ∙ ap (λ (r : List ℕ). decimal n.0.0 ++ 32 ∷ r) tc.0, record { entries = tn.1; cells = tc.1 })

pub array_back : (a : Array) → IsArray a → array_of (join_with_byte 32 (array_fields a)) ≡ Some a
unfolding array_of
array_back a h = rw (field_back IsWord decimal word_of words a.entries (decimal a.cells) h.entries, words.back a.cells h.cells) refl
