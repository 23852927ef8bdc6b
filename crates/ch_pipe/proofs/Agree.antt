-- Where the machine has a value, it is what the pipeline computes.
use Rattle.std.proofs.Common.{◌≡◌, ◌<◌, ◌≤◌, ℕ, ◌+◌, Bool, true, false, List, [], ◌∷◌, ℤ, pos, negsuc, ◌+ℤ◌, refl, sym, ◌∙◌, ap, ap₂, arith, Option, Some, None, length, get_or, set, inl, inr, ◌⊎◌, nat_lt, w64, subst}
use Rattle.std.specs.Prelude.{if◌then◌else◌}
use Rattle.std.specs.Option.{option_map, option_and_then}
use Rattle.std.specs.Int.{saturate_signed, int_min, int_max, int_bit_or}
use Rattle.std.proofs.lemmas.Bool.{cases_Bool, cases_eq, eq-eqb, ne_eqb}
use Rattle.std.proofs.lemmas.List.{length-set, get_or-set_same, get_or-set_other}
use Rattle.ch_ir.specs.declared.program.Operand.{Operand}
use Rattle.ch_ir.specs.declared.program.Operand.TheVariants.{Word, Const}
use Rattle.ch_ir.specs.declared.program.Update.{Update}
use Rattle.ch_ir.specs.declared.program.Update.TheVariants as update
use Rattle.ch_ir.specs.declared.program.Op.{Op}
use Rattle.ch_ir.specs.declared.program.Access.{Access}
use Rattle.ch_ir.specs.declared.program.Op.TheVariants.{Set, Two, Bit, Pick, Hash}
use Rattle.ch_ir.specs.Hash.{hash_of}
use Rattle.ch_ir.specs.Machine.{Words, Registers, State, put, put_all, read, read_all, read_words, cons_read, truth, is_set, two_of, bit_of, both, picked, op_to, op_value, exec_ops, updated, update_all, index_of, at_entry, holds_at}
use Rattle.ch_pipe.specs.Entry.{entry_cells, hit_on}
use Rattle.ch_pipe.specs.Total.{values_of, nat_of, value_at, values_at, total_value, total_ops, total_update, total_updates, total_store}

-- each value that a word has is the one in the list
abbrev pub Shows : Words → List ℤ → Type 0
Shows ws words = (w : ℕ) (v : ℤ) → ws w ≡ Some v → get_or words w (pos 0) ≡ v

pub shows_read : (ws : Words) (words : List ℤ) → Shows ws words → (a : Operand) (v : ℤ) → read ws a ≡ Some v → value_at words a ≡ v
shows_read ws words s (Word w) v h = s w v h
shows_read ws words s (Const c) v h = cc

pub record ConsRead (first : Option ℤ) (rest : Option (List ℤ)) (vs : List ℤ) : Type 0 where
  pub head : ℤ
  pub tail : List ℤ
  pub first_is : first ≡ Some head
  pub rest_is : rest ≡ Some tail
  pub all : head ∷ tail ≡ vs

cons_some : (first : Option ℤ) (rest : Option (List ℤ)) (vs : List ℤ) → cons_read first rest ≡ Some vs → ConsRead first rest vs
cons_some None rest vs h = cc
cons_some (Some x) None vs h = cc
cons_some (Some x) (Some xs) vs h = record { head = x; tail = xs; first_is = refl; rest_is = refl; all = cc }

pub record BothRead (f : ℤ → ℤ → ℤ) (a b : Option ℤ) (v : ℤ) : Type 0 where
  pub x : ℤ
  pub y : ℤ
  pub a_is : a ≡ Some x
  pub b_is : b ≡ Some y
  pub value : f x y ≡ v

both_some : (f : ℤ → ℤ → ℤ) (a b : Option ℤ) (v : ℤ) → both f a b ≡ Some v → BothRead f a b v
both_some f None b v h = cc
both_some f (Some x) None v h = cc
both_some f (Some x) (Some y) v h = record { x = x; y = y; a_is = refl; b_is = refl; value = cc }

pub record Mapped {A B : Type 0} (f : A → B) (a : Option A) (v : B) : Type 0 where
  pub x : A
  pub is : a ≡ Some x
  pub value : f x ≡ v

mapped : {A B : Type 0} (f : A → B) (a : Option A) (v : B) → option_map f a ≡ Some v → Mapped f a v
mapped f None v h = cc
mapped f (Some x) v h = record { x = x; is = refl; value = cc }

shows_words : (ws : Words) (words : List ℤ) → Shows ws words → (numbers : List ℕ) (vs : List ℤ) → read_words ws numbers ≡ Some vs → values_at words numbers ≡ vs
shows_words ws words s [] vs h = cc
shows_words ws words s (w ∷ rest) vs h =
    let c = cons_some (ws w) (read_words ws rest) vs h in
    ap₂ (λ (a : ℤ) (b : List ℤ). a ∷ b) (s w c.head c.first_is) (shows_words ws words s rest c.tail c.rest_is) ∙ c.all

shows_all : (ws : Words) (words : List ℤ) → Shows ws words → (xs : List Operand) (vs : List ℤ) → read_all ws xs ≡ Some vs → values_of words xs ≡ vs
shows_all ws words s [] vs h = cc
shows_all ws words s (a ∷ rest) vs h =
    let c = cons_some (read ws a) (read_all ws rest) vs h in
    ap₂ (λ (a : ℤ) (b : List ℤ). a ∷ b) (shows_read ws words s a c.head c.first_is) (shows_all ws words s rest c.tail c.rest_is) ∙ c.all

picked_some : (a b c : Option ℤ) (v : ℤ) → picked a b c ≡ Some v → (x : ℤ) × (a ≡ Some x) × BothRead (λ y z. if is_set x then y else z) b c v
picked_some None b c v h = cc
picked_some (Some x) b c v h = (x, refl, both_some (λ y z. if is_set x then y else z) b c v h)

shows_op : (ws : Words) (words : List ℤ) → Shows ws words → (op : Op) (v : ℤ) → op_value ws op ≡ Some v → total_value words op ≡ v
shows_op ws words s (Set to a) v h = shows_read ws words s a v h
shows_op ws words s (Two to kind a b) v h =
    let c = both_some (two_of kind) (read ws a) (read ws b) v h in
    ap₂ (two_of kind) (shows_read ws words s a c.x c.a_is) (shows_read ws words s b c.y c.b_is) ∙ c.value
shows_op ws words s (Bit to a) v h =
    let c = mapped bit_of (read ws a) v h in ap bit_of (shows_read ws words s a c.x c.is) ∙ c.value
shows_op ws words s (Pick to a b c) v h =
    let p = picked_some (read ws a) (read ws b) (read ws c) v h in
    let q = p.2 in
    ap (λ (x : ℤ). if is_set x then value_at words b else value_at words c) (shows_read ws words s a p.0 p.1)
    ∙ ap₂ (λ (y z : ℤ). if is_set p.0 then y else z) (shows_read ws words s b q.x q.a_is) (shows_read ws words s c q.y q.b_is) ∙ q.value
shows_op ws words s (Hash to seed modulus numbers) v h =
    let c = mapped (λ (vs : List ℤ). pos (hash_of seed vs modulus)) (read_words ws numbers) v h in
    ap (λ (vs : List ℤ). pos (hash_of seed vs modulus)) (shows_words ws words s numbers c.x c.is) ∙ c.value

pub shows_put : (ws : Words) (words : List ℤ) → Shows ws words → (to : ℕ) (v : ℤ) → to < length words → Shows (put ws to v) (set words to v)
shows_put ws words s to v lt w x h = elim (cases_eq w to) [
  | inl e ↦ let same : Some v ≡ Some x = rw (eq-eqb w to e) at h in ap (λ (n : ℕ). get_or (set words to v) n (pos 0)) e ∙ get_or-set_same words to v (pos 0) lt ∙ cc
  | inr ne ↦ get_or-set_other words to w v (pos 0) ne ∙ s w x (rw (ne_eqb w to ne) at h)
]

abbrev pub TosBelow : ℕ → List Op → Type 0
TosBelow n [] = Unit {0}
TosBelow n (op ∷ ops) = (op_to op < n) × TosBelow n ops

pub length_ops : (ops : List Op) (words : List ℤ) → length (total_ops ops words) ≡ length words
length_ops [] words = refl
length_ops (op ∷ ops) words = length_ops ops (set words (op_to op) (total_value words op)) ∙ length-set words (op_to op) (total_value words op)

pub record Step {A B : Type 0} (f : A → Option B) (o : Option A) (v : B) : Type 0 where
  pub x : A
  pub is : o ≡ Some x
  pub then_is : f x ≡ Some v

pub step_some : {A B : Type 0} (f : A → Option B) (o : Option A) (v : B) → option_and_then f o ≡ Some v → Step f o v
step_some f None v h = cc
step_some f (Some x) v h = record { x = x; is = refl; then_is = h }

pub shows_ops : (ops : List Op) (n : ℕ) (ws ws' : Words) (words : List ℤ) → TosBelow n ops → length words ≡ n → Shows ws words → exec_ops ops ws ≡ Some ws' → Shows ws' (total_ops ops words)
shows_ops [] n ws ws' words t l s h = let same : ws ≡ ws' = cc in subst (λ (x : Words). Shows x words) same s
shows_ops (op ∷ ops) n ws ws' words t l s h =
    let c = step_some (λ (v : ℤ). exec_ops ops (put ws (op_to op) v)) (op_value ws op) ws' h in
    let value : total_value words op ≡ c.x = shows_op ws words s op c.x c.is in
    let next : Shows (put ws (op_to op) c.x) (set words (op_to op) (total_value words op)) =
    subst (λ (x : ℤ). Shows (put ws (op_to op) c.x) (set words (op_to op) x)) (sym value) (shows_put ws words s (op_to op) c.x (let k = t.0 in omega arith)) in
    shows_ops ops n (put ws (op_to op) c.x) ws' (set words (op_to op) (total_value words op)) t.1 (length-set words (op_to op) (total_value words op) ∙ l) next c.then_is

shows_update : (ws : Words) (words : List ℤ) → Shows ws words → (u : Update) (x v : ℤ) → updated ws u x ≡ Some v → total_update words u x ≡ v
shows_update ws words s update.Keep x v h = cc
shows_update ws words s (update.Put a) x v h = shows_read ws words s a v h
shows_update ws words s (update.AddSat a) x v h = let c = mapped (λ (y : ℤ). saturate_signed w64 (x +ℤ y)) (read ws a) v h in ap (λ (y : ℤ). saturate_signed w64 (x +ℤ y)) (shows_read ws words s a c.x c.is) ∙ c.value
shows_update ws words s (update.Min a) x v h = let c = mapped (int_min x) (read ws a) v h in ap (int_min x) (shows_read ws words s a c.x c.is) ∙ c.value
shows_update ws words s (update.Max a) x v h = let c = mapped (int_max x) (read ws a) v h in ap (int_max x) (shows_read ws words s a c.x c.is) ∙ c.value
shows_update ws words s (update.Or a) x v h = let c = mapped (int_bit_or w64 x) (read ws a) v h in ap (int_bit_or w64 x) (shows_read ws words s a c.x c.is) ∙ c.value

shows_updates : (ws : Words) (words : List ℤ) → Shows ws words → (us : List Update) (cells new : List ℤ) → update_all ws us cells ≡ Some new → total_updates words us cells ≡ new
shows_updates ws words s [] [] new h = cc
shows_updates ws words s [] (x ∷ xs) new h = cc
shows_updates ws words s (u ∷ us) [] new h = cc
shows_updates ws words s (u ∷ us) (x ∷ xs) new h =
    let c = cons_some (updated ws u x) (update_all ws us xs) new h in
    ap₂ (λ (a : ℤ) (b : List ℤ). a ∷ b) (shows_update ws words s u x c.head c.first_is) (shows_updates ws words s us xs c.tail c.rest_is) ∙ c.all

pub shows_store : (cells : List ℤ) (ws : Words) (words : List ℤ) (to : ℕ) → to + length cells ≤ length words → Shows ws words → Shows (put_all ws to cells) (total_store to cells words)
shows_store [] ws words to l s = s
shows_store (x ∷ xs) ws words to l s =
    let k = length-set words to x in
    shows_store xs (put ws to x) (set words to x) (to + 1) (omega arith) (shows_put ws words s to x (omega arith))

pub length_store : (cells : List ℤ) (words : List ℤ) (to : ℕ) → length (total_store to cells words) ≡ length words
length_store [] words to = refl
length_store (x ∷ xs) words to = length_store xs (set words to x) (to + 1) ∙ length-set words to x

pub index_nat : (v : ℤ) (len e : ℕ) → index_of v len ≡ Some e → nat_of v ≡ e
index_nat (negsuc n) len e h = cc
index_nat (pos n) len e h = elim (cases_Bool (nat_lt n len)) [
  | inl t ↦ let same : Some n ≡ Some e = rw t at h in cc
  | inr t ↦ let bad : ◌≡◌ {A = Option ℕ} None (Some e) = rw t at h in cc
]

pub record Agrees (s : State) (words : List ℤ) (registers : Registers) (n : ℕ) : Type 0 where
  pub shows : Shows s.words words
  pub same : registers ≡ s.registers
  pub many : length words ≡ n

if_set : {A : Type 0} (g : ℤ) (a b c : A) → (if is_set g then a else b) ≡ c → ((is_set g ≡ true) × (a ≡ c)) ⊎ ((is_set g ≡ false) × (b ≡ c))
if_set g a b c h = elim (cases_Bool (is_set g)) [
  | inl t ↦ inl (t, rw t at h)
  | inr t ↦ inr (t, rw t at h)
]

-- what the entry and the words become, where the access is made
pub entry_agrees : (x : Access) (s s' : State) (words : List ℤ) (e many : ℕ) → length words ≡ many → x.hit < many
    → x.old + length (get_or (get_or s.registers x.array []) e []) ≤ many → Shows s.words words → nat_of (value_at words x.index) ≡ e
    → at_entry x s e ≡ Some s'
    → Agrees s' (set (total_store x.old (entry_cells x words s.registers) words) x.hit (truth (hit_on x words (entry_cells x words s.registers))))
    (set s.registers x.array (set (get_or s.registers x.array []) (nat_of (value_at words x.index))
    (total_updates words (if hit_on x words (entry_cells x words s.registers) then x.yes else x.no) (entry_cells x words s.registers)))) many
entry_agrees x s s' words e many l hl ol sh index h =
    let cells : List ℤ = get_or (get_or s.registers x.array []) e [] in
    let col : List (List ℤ) = get_or s.registers x.array [] in
    let k = step_some (λ (key : List ℤ). option_map (λ (new : List ℤ). record {
      words = put (put_all s.words x.old cells) x.hit (truth (holds_at x.test key cells));
      registers = set s.registers x.array (set col e new);
    }) (update_all s.words (if holds_at x.test key cells then x.yes else x.no) cells)) (read_all s.words x.key) s' h in
    let hit : Bool = holds_at x.test k.x cells in
    let u = mapped (λ (new : List ℤ). record {
      words = put (put_all s.words x.old cells) x.hit (truth hit);
      registers = set s.registers x.array (set col e new);
    }) (update_all s.words (if hit then x.yes else x.no) cells) s' k.then_is in
    let key : values_of words x.key ≡ k.x = shows_all s.words words sh x.key k.x k.is in
    let new : total_updates words (if hit then x.yes else x.no) cells ≡ u.x = shows_updates s.words words sh (if hit then x.yes else x.no) cells u.x u.is in
    let stored = shows_store cells s.words words x.old (omega arith) sh in
    let many1 = length_store cells words x.old in
    let put_in = shows_put (put_all s.words x.old cells) (total_store x.old cells words) stored x.hit (truth hit) (omega arith) in
    let base : Agrees (record { words = put (put_all s.words x.old cells) x.hit (truth hit); registers = set s.registers x.array (set col e u.x) })
    (set (total_store x.old cells words) x.hit (truth hit)) (set s.registers x.array (set col e (total_updates words (if hit then x.yes else x.no) cells))) many =
    record {
      shows = put_in;
      same = ap (λ (y : List ℤ). set s.registers x.array (set col e y)) new;
      many = length-set (total_store x.old cells words) x.hit (truth hit) ∙ many1 ∙ l;
    } in
    let made = subst (λ (t : State). Agrees t (set (total_store x.old cells words) x.hit (truth hit)) (set s.registers x.array (set col e (total_updates words (if hit then x.yes else x.no) cells))) many) u.value base in
    rw (index, key) made
