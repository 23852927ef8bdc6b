-- The parts of a line are read as they are spelled, and only so.
use Rattle.std.proofs.Common.{◌≡◌, ℕ, true, false, List, [], ◌∷◌, ◌++◌, Option, Some, None, refl, sym, ap, ◌∙◌, subst, arith, inl, inr}
use Rattle.std.specs.Prelude.{option_map, ◌==◌, bytes_eq, codes}
use Rattle.std.specs.List.{list_all}
use Rattle.std.specs.Fmt.{decimal}
use Rattle.std.proofs.lemmas.Bool.Decides.{nat_tests}
use Rattle.std.proofs.lemmas.Slice.Eq.{bytes_eq-Decides}
use Rattle.ch_ir.specs.declared.program.Operand.{Operand}
use Rattle.ch_ir.specs.declared.program.Operand.TheVariants.{Word, Const}
use Rattle.ch_ir.specs.declared.program.Binary.{Binary}
use Rattle.ch_ir.specs.declared.program.Binary.TheVariants as binary
use Rattle.ch_ir.specs.declared.program.Test.{Test}
use Rattle.ch_ir.specs.declared.program.Test.TheVariants.{Always, KeyEq, KeyEqOrFree, Less}
use Rattle.ch_ir.specs.declared.program.Update.{Update}
use Rattle.ch_ir.specs.declared.program.Update.TheVariants as update
use Rattle.ch_asm_lines.specs.Spelling.{word_text, operand_text, test_text, update_text, binary_text, with_colon}
use Rattle.ch_asm_lines.specs.Range.{IsWord, IsOperand, IsTest, IsUpdate}
use Rattle.ch_asm_lines.specs.Numbers.{word_of, constant_of}
use Rattle.ch_asm_lines.specs.Reading.{cut_of, listed_word_of, operand_of, test_of, test_named, update_of, update_named, binary_of, binary_among, binaries}
use Rattle.ch_asm_lines.proofs.Options.{bound, mapped, chosen}
use Rattle.ch_asm_lines.proofs.Digits.{word_is, word_back, constant_is, constant_back}
use Rattle.ch_asm_lines.proofs.Bytes.{is_item_byte, is_field_byte, decimal_item, constant_item, cut_is}

pub same_bytes : (a b : List ℕ) → bytes_eq a b ≡ true → a ≡ b
same_bytes a b e = (bytes_eq-Decides a b).0 e

-- How something is read and spelled. It is read as it is spelled, and only so. Where it stands in a list, it has no comma
-- and is no `-`.
pub record Codes {X : Type 0} (Fits : X → Type 0) (text : X → List ℕ) (read : List ℕ → Option X) : Type 0 where
  pub is : (t : List ℕ) (x : X) → read t ≡ Some x → (t ≡ text x) × Fits x
  pub back : (x : X) → Fits x → read (text x) ≡ Some x
  pub bytes : (x : X) → Fits x → list_all is_item_byte (text x) ≡ true
  pub starts : (x : X) (rest : List ℕ) → bytes_eq (text x ++ rest) (codes "-") ≡ false

-- words and operands

word_small : (w : ℕ) → IsWord w → list_all is_item_byte (decimal w) ≡ true
word_small w h = decimal_item w (omega arith)

listed_is : (t : List ℕ) (w : ℕ) → listed_word_of t ≡ Some w → (t ≡ word_text w) × IsWord w
unfolding listed_word_of
listed_is [] w e = cc
listed_is (b ∷ bs) w e = elim (chosen (b == 119) (word_of bs) None w e) [
  | inl p ↦
      let at : b ≡ 119 = let t = p.0 in grind (arith, nat_tests) in
      let n = word_is bs w p.1 in
      (ap (λ x. x ∷ bs) at ∙ ap (λ xs. 119 ∷ xs) n.0, n.1)
  | inr p ↦ let wrong = p.1 in cc
]

listed_back : (w : ℕ) → IsWord w → listed_word_of (word_text w) ≡ Some w
unfolding listed_word_of
listed_back w h = word_back w h

pub words_code : Codes IsWord word_text listed_word_of
words_code = record { is = listed_is; back = listed_back; bytes = word_small; starts = λ w rest. refl }

operand_is : (t : List ℕ) (a : Operand) → operand_of t ≡ Some a → (t ≡ operand_text a) × IsOperand a
unfolding operand_of
operand_is [] a e = cc
operand_is (b ∷ bs) a e = elim (chosen (b == 119) (option_map Word (word_of bs)) _ a e) [
  | inl p ↦
      let at : b ≡ 119 = let t = p.0 in grind (arith, nat_tests) in
      let m = mapped Word (word_of bs) a p.1 in
      let n = word_is bs m.0 m.1 in
      subst (λ (x : Operand). (b ∷ bs ≡ operand_text x) × IsOperand x) m.2 (ap (λ x. x ∷ bs) at ∙ ap (λ xs. 119 ∷ xs) n.0, n.1)
  | inr p ↦ elim (chosen (b == 35) (option_map Const (constant_of bs)) None a p.1) [
    | inl q ↦
        let at : b ≡ 35 = let t = q.0 in grind (arith, nat_tests) in
        let m = mapped Const (constant_of bs) a q.1 in
        let n = constant_is bs m.0 m.1 in
        subst (λ (x : Operand). (b ∷ bs ≡ operand_text x) × IsOperand x) m.2 (ap (λ x. x ∷ bs) at ∙ ap (λ xs. 35 ∷ xs) n.0, n.1)
    | inr q ↦ let wrong = q.1 in cc
  ]
]

operand_back : (a : Operand) → IsOperand a → operand_of (operand_text a) ≡ Some a
unfolding operand_of
operand_back (Word w) h = ap (option_map Word) (word_back w h)
operand_back (Const c) h = ap (option_map Const) (constant_back c h)

operand_item : (a : Operand) → IsOperand a → list_all is_item_byte (operand_text a) ≡ true
operand_item (Word w) h = word_small w h
operand_item (Const c) h = constant_item c h

operand_starts : (a : Operand) (rest : List ℕ) → bytes_eq (operand_text a ++ rest) (codes "-") ≡ false
operand_starts (Word w) rest = refl
operand_starts (Const c) rest = refl

pub operands_code : Codes IsOperand operand_text operand_of
operands_code = record { is = operand_is; back = operand_back; bytes = operand_item; starts = operand_starts }

-- tests

test_named_is : (name : List ℕ) (n : ℕ) (test : Test) → IsWord n → test_named name n ≡ Some test → (with_colon name (decimal n) ≡ test_text test) × IsTest test
test_named_is name n test h e = elim (chosen (bytes_eq name (codes "keyeq")) (Some (KeyEq n)) _ test e) [
  | inl p ↦ let same : KeyEq n ≡ test = let k = p.1 in cc in
      subst (λ (x : Test). (with_colon name (decimal n) ≡ test_text x) × IsTest x) same (ap (λ xs. with_colon xs (decimal n)) (same_bytes name (codes "keyeq") p.0), h)
  | inr p ↦ elim (chosen (bytes_eq name (codes "keyorfree")) (Some (KeyEqOrFree n)) _ test p.1) [
    | inl q ↦ let same : KeyEqOrFree n ≡ test = let k = q.1 in cc in
        subst (λ (x : Test). (with_colon name (decimal n) ≡ test_text x) × IsTest x) same (ap (λ xs. with_colon xs (decimal n)) (same_bytes name (codes "keyorfree") q.0), h)
    | inr q ↦ elim (chosen (bytes_eq name (codes "less")) (Some (Less n)) None test q.1) [
      | inl r ↦ let same : Less n ≡ test = let k = r.1 in cc in
          subst (λ (x : Test). (with_colon name (decimal n) ≡ test_text x) × IsTest x) same (ap (λ xs. with_colon xs (decimal n)) (same_bytes name (codes "less") r.0), h)
      | inr r ↦ let wrong = r.1 in cc
    ]
  ]
]

test_is : (t : List ℕ) (test : Test) → test_of t ≡ Some test → (t ≡ test_text test) × IsTest test
unfolding test_of
test_is t test e = elim (chosen (bytes_eq t (codes "always")) (Some Always) _ test e) [
  | inl p ↦ let same : Always ≡ test = let k = p.1 in cc in
      subst (λ (x : Test). (t ≡ test_text x) × IsTest x) same (same_bytes t (codes "always") p.0, tt)
  | inr p ↦
      let c = bound (cut_of 58 t) _ test p.1 in
      let n = bound (word_of c.0.1) _ test c.2 in
      let w = word_is c.0.1 n.0 n.1 in
      let named = test_named_is c.0.0 n.0 test w.1 n.2 in
      (cut_is 58 t c.0 c.1 ∙ ap (λ xs. with_colon c.0.0 xs) w.0 ∙ named.0, named.1)
]

test_back : (test : Test) → IsTest test → test_of (test_text test) ≡ Some test
unfolding test_of cut_of
test_back Always h = refl
test_back (KeyEq n) h = rw (word_back n h) refl
test_back (KeyEqOrFree n) h = rw (word_back n h) refl
test_back (Less n) h = rw (word_back n h) refl

test_item : (test : Test) → IsTest test → list_all is_item_byte (test_text test) ≡ true
test_item Always h = refl
test_item (KeyEq n) h = word_small n h
test_item (KeyEqOrFree n) h = word_small n h
test_item (Less n) h = word_small n h

test_starts : (test : Test) (rest : List ℕ) → bytes_eq (test_text test ++ rest) (codes "-") ≡ false
test_starts Always rest = refl
test_starts (KeyEq n) rest = refl
test_starts (KeyEqOrFree n) rest = refl
test_starts (Less n) rest = refl

pub tests_code : Codes IsTest test_text test_of
tests_code = record { is = test_is; back = test_back; bytes = test_item; starts = test_starts }

-- updates

-- the name is this one
record IsNamed (name text : List ℕ) (u v : Update) : Type 0 where
  named : name ≡ text
  same : u ≡ v

named_here : (name text : List ℕ) (u v : Update) → bytes_eq name text ≡ true → Some u ≡ Some v → IsNamed name text u v
named_here name text u v t e = record { named = same_bytes name text t; same = cc }

update_named_is : (name : List ℕ) (a : Operand) (u : Update) → IsOperand a → update_named name a ≡ Some u → (with_colon name (operand_text a) ≡ update_text u) × IsUpdate u
update_named_is name a u h e =
    let Goal : Update → Type 0 = λ v. (with_colon name (operand_text a) ≡ update_text v) × IsUpdate v in
    let behind = λ (text : List ℕ). λ (e : name ≡ text). ap (λ xs. with_colon xs (operand_text a)) e in
    elim (chosen (bytes_eq name (codes "put")) (Some (update.Put a)) _ u e) [
      | inl p ↦ let n = named_here name (codes "put") (update.Put a) u p.0 p.1 in subst Goal n.same (behind (codes "put") n.named, h)
      | inr p ↦ elim (chosen (bytes_eq name (codes "addsat")) (Some (update.AddSat a)) _ u p.1) [
        | inl q ↦ let n = named_here name (codes "addsat") (update.AddSat a) u q.0 q.1 in subst Goal n.same (behind (codes "addsat") n.named, h)
        | inr q ↦ elim (chosen (bytes_eq name (codes "min")) (Some (update.Min a)) _ u q.1) [
          | inl r ↦ let n = named_here name (codes "min") (update.Min a) u r.0 r.1 in subst Goal n.same (behind (codes "min") n.named, h)
          | inr r ↦ elim (chosen (bytes_eq name (codes "max")) (Some (update.Max a)) _ u r.1) [
            | inl s ↦ let n = named_here name (codes "max") (update.Max a) u s.0 s.1 in subst Goal n.same (behind (codes "max") n.named, h)
            | inr s ↦ elim (chosen (bytes_eq name (codes "or")) (Some (update.Or a)) None u s.1) [
              | inl o ↦ let n = named_here name (codes "or") (update.Or a) u o.0 o.1 in subst Goal n.same (behind (codes "or") n.named, h)
              | inr o ↦ let wrong = o.1 in cc
            ]
          ]
        ]
      ]
    ]

update_is : (t : List ℕ) (u : Update) → update_of t ≡ Some u → (t ≡ update_text u) × IsUpdate u
unfolding update_of
update_is t u e = elim (chosen (bytes_eq t (codes "keep")) (Some update.Keep) _ u e) [
  | inl p ↦ let same : update.Keep ≡ u = let k = p.1 in cc in
      subst (λ (x : Update). (t ≡ update_text x) × IsUpdate x) same (same_bytes t (codes "keep") p.0, tt)
  | inr p ↦
      let c = bound (cut_of 58 t) _ u p.1 in
      let n = bound (operand_of c.0.1) _ u c.2 in
      let w = operand_is c.0.1 n.0 n.1 in
      let named = update_named_is c.0.0 n.0 u w.1 n.2 in
      (cut_is 58 t c.0 c.1 ∙ ap (λ xs. with_colon c.0.0 xs) w.0 ∙ named.0, named.1)
]

update_back : (u : Update) → IsUpdate u → update_of (update_text u) ≡ Some u
unfolding update_of cut_of
update_back update.Keep h = refl
update_back (update.Put a) h = rw (operand_back a h) refl
update_back (update.AddSat a) h = rw (operand_back a h) refl
update_back (update.Min a) h = rw (operand_back a h) refl
update_back (update.Max a) h = rw (operand_back a h) refl
update_back (update.Or a) h = rw (operand_back a h) refl

update_item : (u : Update) → IsUpdate u → list_all is_item_byte (update_text u) ≡ true
update_item update.Keep h = refl
update_item (update.Put a) h = operand_item a h
update_item (update.AddSat a) h = operand_item a h
update_item (update.Min a) h = operand_item a h
update_item (update.Max a) h = operand_item a h
update_item (update.Or a) h = operand_item a h

update_starts : (u : Update) (rest : List ℕ) → bytes_eq (update_text u ++ rest) (codes "-") ≡ false
update_starts update.Keep rest = refl
update_starts (update.Put a) rest = refl
update_starts (update.AddSat a) rest = refl
update_starts (update.Min a) rest = refl
update_starts (update.Max a) rest = refl
update_starts (update.Or a) rest = refl

pub updates_code : Codes IsUpdate update_text update_of
updates_code = record { is = update_is; back = update_back; bytes = update_item; starts = update_starts }

-- names of ops of two operands

among_is : (bs : List Binary) (name : List ℕ) (b : Binary) → binary_among bs name ≡ Some b → name ≡ binary_text b
among_is [] name b e = cc
among_is (x ∷ xs) name b e = elim (chosen (bytes_eq (binary_text x) name) (Some x) (binary_among xs name) b e) [
  | inl p ↦ let same : x ≡ b = let k = p.1 in cc in sym (same_bytes (binary_text x) name p.0) ∙ ap binary_text same
  | inr p ↦ among_is xs name b p.1
]

pub binary_is : (name : List ℕ) (b : Binary) → binary_of name ≡ Some b → name ≡ binary_text b
unfolding binary_of
binary_is name b e = among_is binaries name b e

pub binary_back : (b : Binary) → binary_of (binary_text b) ≡ Some b
unfolding binary_of
binary_back binary.Add = refl
binary_back binary.Sub = refl
binary_back binary.Lt = refl
binary_back binary.Le = refl
binary_back binary.Eq = refl
binary_back binary.Ne = refl
binary_back binary.And = refl
binary_back binary.Or = refl
binary_back binary.Mask = refl

pub binary_field : (b : Binary) → list_all is_field_byte (binary_text b) ≡ true
binary_field binary.Add = refl
binary_field binary.Sub = refl
binary_field binary.Lt = refl
binary_field binary.Le = refl
binary_field binary.Eq = refl
binary_field binary.Ne = refl
binary_field binary.And = refl
binary_field binary.Or = refl
binary_field binary.Mask = refl
