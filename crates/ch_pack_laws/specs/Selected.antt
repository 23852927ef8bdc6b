-- The stages of the selected program do what the program does alone, on its own words and arrays.
use Rattle.std.proofs.Common.{◌≡◌, ◌<◌, ◌≤◌, ℕ, ◌+◌, Bool, true, false, List, [], ◌∷◌, ◌++◌, ℤ, pos, refl, sym, ◌∙◌, ap, ap₂, arith, Option, Some, length, get_or, set, map}
use Rattle.std.specs.Prelude.{if◌then◌else◌, replicate}
use Rattle.std.specs.Option.{option_and_then, option_map}
use Rattle.std.proofs.lemmas.List.{length-set}
use Rattle.ch_ir.specs.declared.program.Operand.{Operand}
use Rattle.ch_ir.specs.declared.program.Operand.TheVariants.{Word, Const}
use Rattle.ch_ir.specs.declared.program.Op.{Op}
use Rattle.ch_ir.specs.declared.program.Op.TheVariants.{Set, Two, Bit, Pick, Hash}
use Rattle.ch_ir.specs.declared.program.Update.{Update}
use Rattle.ch_ir.specs.declared.program.Update.TheVariants as update
use Rattle.ch_ir.specs.declared.program.Access.{Access}
use Rattle.ch_ir.specs.declared.program.Array.{Array}
use Rattle.ch_ir.specs.Hash.{hash_of}
use Rattle.ch_ir.specs.Machine.{Words, Registers, State, at_entry, bit_of, both, cons_read, exec_access, exec_ops, holds_at, index_of, is_set, op_to, op_value, picked, put, put_all, read, read_all, read_words, truth, two_of, update_all, updated}
use Rattle.ch_pack_laws.specs.declared.Seat.{Seat}
use Rattle.ch_pack_laws.specs.Packed.{moved_access, moved_op, moved_operand, moved_update, moved_word}
use Rattle.ch_pack_laws.specs.Moved.{Both, IsSeat, Mirrors, assigned_other, beside_get, beside_set, mirror_put, moved_high, same_map, same_then}
use Rattle.ch_pack_laws.specs.Rooms.{AccessRoom, OpsRoom}

-- What a moved program reads

pub read_moved : (m : Seat) (ws vs : Words) (a : Operand) → Mirrors m ws vs → read vs (moved_operand m a) ≡ read ws a
read_moved m ws vs (Word w) s = s.same w
read_moved m ws vs (Const c) s = refl

pub read_all_moved : (m : Seat) (ws vs : Words) (operands : List Operand) → Mirrors m ws vs → read_all vs (map (moved_operand m) operands) ≡ read_all ws operands
read_all_moved m ws vs [] s = refl
read_all_moved m ws vs (a ∷ rest) s = ap₂ cons_read (read_moved m ws vs a s) (read_all_moved m ws vs rest s)

pub read_words_moved : (m : Seat) (ws vs : Words) (words : List ℕ) → Mirrors m ws vs → read_words vs (map (moved_word m) words) ≡ read_words ws words
read_words_moved m ws vs [] s = refl
read_words_moved m ws vs (w ∷ rest) s = ap₂ cons_read (s.same w) (read_words_moved m ws vs rest s)

pub op_moved : (m : Seat) (ws vs : Words) (op : Op) → Mirrors m ws vs → op_value vs (moved_op m op) ≡ op_value ws op
op_moved m ws vs (Set to a) s = read_moved m ws vs a s
op_moved m ws vs (Two to kind a b) s = ap₂ (λ (x y : Option ℤ). both (two_of kind) x y) (read_moved m ws vs a s) (read_moved m ws vs b s)
op_moved m ws vs (Bit to a) s = ap (option_map bit_of) (read_moved m ws vs a s)
op_moved m ws vs (Pick to a b c) s =
    ap (λ (x : Option ℤ). picked x (read vs (moved_operand m b)) (read vs (moved_operand m c))) (read_moved m ws vs a s)
    ∙ ap₂ (λ (y z : Option ℤ). picked (read ws a) y z) (read_moved m ws vs b s) (read_moved m ws vs c s)
op_moved m ws vs (Hash to seed modulus words) s = ap (option_map (λ (xs : List ℤ). pos (hash_of seed xs modulus))) (read_words_moved m ws vs words s)

pub op_to_moved : (m : Seat) (op : Op) → op_to (moved_op m op) ≡ moved_word m (op_to op)
op_to_moved m (Set to a) = refl
op_to_moved m (Two to kind a b) = refl
op_to_moved m (Bit to a) = refl
op_to_moved m (Pick to a b c) = refl
op_to_moved m (Hash to seed modulus words) = refl

updated_moved : (m : Seat) (ws vs : Words) (u : Update) (x : ℤ) → Mirrors m ws vs → updated vs (moved_update m u) x ≡ updated ws u x
updated_moved m ws vs update.Keep x s = refl
updated_moved m ws vs (update.Put a) x s = read_moved m ws vs a s
updated_moved m ws vs (update.AddSat a) x s = rw (read_moved m ws vs a s) refl
updated_moved m ws vs (update.Min a) x s = rw (read_moved m ws vs a s) refl
updated_moved m ws vs (update.Max a) x s = rw (read_moved m ws vs a s) refl
updated_moved m ws vs (update.Or a) x s = rw (read_moved m ws vs a s) refl

update_all_moved : (m : Seat) (ws vs : Words) (us : List Update) (cells : List ℤ) → Mirrors m ws vs → update_all vs (map (moved_update m) us) cells ≡ update_all ws us cells
update_all_moved m ws vs [] [] s = refl
update_all_moved m ws vs [] (x ∷ xs) s = refl
update_all_moved m ws vs (u ∷ us) [] s = refl
update_all_moved m ws vs (u ∷ us) (x ∷ xs) s = ap₂ cons_read (updated_moved m ws vs u x s) (update_all_moved m ws vs us xs s)

either_moved : (m : Seat) (ws vs : Words) (hit : Bool) (us others : List Update) (cells : List ℤ) → Mirrors m ws vs
    → update_all vs (if hit then map (moved_update m) us else map (moved_update m) others) cells ≡ update_all ws (if hit then us else others) cells
either_moved m ws vs true us others cells s = update_all_moved m ws vs us cells s
either_moved m ws vs false us others cells s = update_all_moved m ws vs others cells s

-- Values in the words from a number on

pub below_all : (ws : Words) (to : ℕ) (vs : List ℤ) (w : ℕ) → w < to → put_all ws to vs w ≡ ws w
below_all ws to [] w h = refl
below_all ws to (v ∷ vs) w h = below_all (put ws to v) (to + 1) vs w (omega arith) ∙ assigned_other ws to v w (omega arith)

mirror_all : (m : Seat) (f g : Words) (to at : ℕ) (xs : List ℤ) → IsSeat m → m.width ≤ to → at ≡ to + m.shift → Mirrors m f g → Mirrors m (put_all f to xs) (put_all g at xs)
mirror_all m f g to at [] k own e s = s
mirror_all m f g to at (x ∷ xs) k own e s =
    let here : moved_word m to ≡ at = moved_high m to own ∙ sym e in
    let next : Mirrors m (put f to x) (put g at x) = let P : ℕ → Type 0 = λ n. Mirrors m (put f to x) (put g n x) in subst_at P here (mirror_put m f g to x k s) in
    mirror_all m (put f to x) (put g at x) (to + 1) (at + 1) xs k (omega arith) (omega arith) next
  where
    subst_at : (P : ℕ → Type 0) {a b : ℕ} → a ≡ b → P a → P b
    subst_at P e p = rw (sym e) p

-- The words of the selected program, beside those below a number, which stay

pub record Alongside (m : Seat) (low : ℕ) (before ws vs : Words) : Type 0 where
  pub mirrors : Mirrors m ws vs
  pub kept : (w : ℕ) → w < low → vs w ≡ before w

next_along : (m : Seat) (low : ℕ) (before ws vs : Words) (to : ℕ) (v : ℤ) → IsSeat m → low ≤ m.shift → m.width ≤ to → Alongside m low before ws vs
    → Alongside m low before (put ws to v) (put vs (moved_word m to) v)
next_along m low before ws vs to v k l own s = record {
  mirrors = mirror_put m ws vs to v k s.mirrors;
  kept = λ w h. let e = moved_high m to own in assigned_other vs (moved_word m to) v w (omega arith) ∙ s.kept w h;
}

pub ops_follow : (m : Seat) (low words : ℕ) (before ws vs : Words) (ops : List Op) → IsSeat m → low ≤ m.shift → OpsRoom m.width words ops → Alongside m low before ws vs
    → Both (Alongside m low before) (exec_ops ops ws) (exec_ops (map (moved_op m) ops) vs)
ops_follow m low words before ws vs [] k l room s = s
ops_follow m low words before ws vs (op ∷ ops) k l room s =
    rw (op_moved m ws vs op s.mirrors, op_to_moved m op)
    (same_then (Alongside m low before) (op_value ws op) (λ v. exec_ops ops (put ws (op_to op) v)) (λ v. exec_ops (map (moved_op m) ops) (put vs (moved_word m (op_to op)) v))
    (λ v. ops_follow m low words before (put ws (op_to op) v) (put vs (moved_word m (op_to op)) v) ops k l room.1 (next_along m low before ws vs (op_to op) v k l room.0.own s)))

-- The same with the registers, which stand between others

pub record Beside (m : Seat) (front rest : Registers) (many low : ℕ) (before : Words) (s t : State) : Type 0 where
  pub along : Alongside m low before s.words t.words
  pub registers : t.registers ≡ front ++ (s.registers ++ rest)
  pub many_own : length s.registers ≡ many

-- what the seats of the selected program have in common
pub record Sits (m : Seat) (front : Registers) (low : ℕ) (before : Words) : Type 0 where
  pub seat : IsSeat m
  pub low_shift : low ≤ m.shift
  pub base : length front ≡ m.base
  pub chosen_low : m.chosen < low
  pub chosen : before m.chosen ≡ Some (pos 1)

column_beside : (m : Seat) (front rest : Registers) (many low : ℕ) (before : Words) (a : ℕ) (s t : State) → a < many → length front ≡ m.base → Beside m front rest many low before s t
    → get_or t.registers (m.base + a) [] ≡ get_or s.registers a []
column_beside m front rest many low before a s t h l b =
    let e = b.many_own in
    ap (λ (r : Registers). get_or r (m.base + a) []) b.registers ∙ beside_get front s.registers rest a m.base [] l (omega arith)

-- an access to an entry of a column, after its key is read
abbrev pub written : Access → State → ℕ → List (List ℤ) → Bool → List ℤ → State
written x s e column hit new = record {
  words = put (put_all s.words x.old (get_or column e [])) x.hit (truth hit);
  registers = set s.registers x.array (set column e new);
}

abbrev pub keyed : Access → State → ℕ → List (List ℤ) → List ℤ → Option State
keyed x s e column key =
    option_map (written x s e column (holds_at x.test key (get_or column e [])))
    (update_all s.words (if holds_at x.test key (get_or column e []) then x.yes else x.no) (get_or column e []))

-- words after the old words and hit
next_access : (m : Seat) (low : ℕ) (before ws vs : Words) (x : Access) (cells : List ℤ) (v : ℤ) → IsSeat m → low ≤ m.shift → m.width ≤ x.old → m.width ≤ x.hit → Alongside m low before ws vs
    → Alongside m low before (put (put_all ws x.old cells) x.hit v) (put (put_all vs (moved_word m x.old) cells) (moved_word m x.hit) v)
next_access m low before ws vs x cells v k l own_old own_hit s =
    next_along m low before (put_all ws x.old cells) (put_all vs (moved_word m x.old) cells) x.hit v k l own_hit
    (record {
      mirrors = mirror_all m ws vs x.old (moved_word m x.old) cells k own_old (moved_high m x.old own_old) s.mirrors;
      kept = λ w h. let e = moved_high m x.old own_old in below_all vs (moved_word m x.old) cells w (omega arith) ∙ s.kept w h;
    })

entry_follows : (m : Seat) (front rest : Registers) (arrays : List Array) (words low : ℕ) (before : Words) (guard : ℕ) (x : Access) (s t : State) (e : ℕ)
    → Sits m front low before → AccessRoom arrays m.width words x → Beside m front rest (length arrays) low before s t
    → Both (Beside m front rest (length arrays) low before) (at_entry x s e) (at_entry (moved_access m guard x) t e)
entry_follows m front rest arrays words low before guard x s t e k room b =
    let column : List (List ℤ) = get_or s.registers x.array [] in
    let got = column_beside m front rest (length arrays) low before x.array s t room.there k.base b in
    rw (got, read_all_moved m s.words t.words x.key b.along.mirrors)
    (same_then (Beside m front rest (length arrays) low before) (read_all s.words x.key) (keyed x s e column) (keyed (moved_access m guard x) t e column)
    (λ key.
    let hit : Bool = holds_at x.test key (get_or column e []) in
    rw (either_moved m s.words t.words hit x.yes x.no (get_or column e []) b.along.mirrors)
    (same_map (Beside m front rest (length arrays) low before) (update_all s.words (if hit then x.yes else x.no) (get_or column e []))
    (written x s e column hit) (written (moved_access m guard x) t e column hit)
    (λ new is. record {
      along = next_access m low before s.words t.words x (get_or column e []) (truth hit) k.seat k.low_shift room.own_old room.own_hit b.along;
      registers = ap (λ (r : Registers). set r (m.base + x.array) (set column e new)) b.registers
          ∙ beside_set front s.registers rest x.array m.base (set column e new) k.base (let c = b.many_own in let d = room.there in omega arith);
      many_own = length-set s.registers x.array (set column e new) ∙ b.many_own;
    }))))

-- an access whose guard is read
abbrev pub entered : Access → State → Option State
entered x s = option_and_then (λ i. option_and_then (at_entry x s) (index_of i (length (get_or s.registers x.array [])))) (read s.words x.index)

abbrev pub left_out : ℕ → Access → State → State
left_out cells x s = record { words = put (put_all s.words x.old (replicate cells (pos 0))) x.hit (pos 0); registers = s.registers }

entered_follows : (m : Seat) (front rest : Registers) (arrays : List Array) (words low : ℕ) (before : Words) (guard : ℕ) (x : Access) (s t : State)
    → Sits m front low before → AccessRoom arrays m.width words x → Beside m front rest (length arrays) low before s t
    → Both (Beside m front rest (length arrays) low before) (entered x s) (entered (moved_access m guard x) t)
entered_follows m front rest arrays words low before guard x s t k room b =
    let S : State → State → Type 0 = Beside m front rest (length arrays) low before in
    let many : ℕ = length (get_or s.registers x.array []) in
    rw (column_beside m front rest (length arrays) low before x.array s t room.there k.base b, read_moved m s.words t.words x.index b.along.mirrors)
    (same_then S (read s.words x.index) (λ i. option_and_then (at_entry x s) (index_of i many)) (λ i. option_and_then (at_entry (moved_access m guard x) t) (index_of i many))
    (λ i. same_then S (index_of i many) (at_entry x s) (at_entry (moved_access m guard x) t) (λ e. entry_follows m front rest arrays words low before guard x s t e k room b)))

opened_follows : (m : Seat) (front rest : Registers) (arrays : List Array) (words low : ℕ) (before : Words) (guard : ℕ) (x : Access) (s t : State) (cells : ℕ) (opened : Bool)
    → Sits m front low before → AccessRoom arrays m.width words x → Beside m front rest (length arrays) low before s t
    → Both (Beside m front rest (length arrays) low before) (if opened then entered x s else Some (left_out cells x s))
    (if opened then entered (moved_access m guard x) t else Some (left_out cells (moved_access m guard x) t))
opened_follows m front rest arrays words low before guard x s t cells true k room b = entered_follows m front rest arrays words low before guard x s t k room b
opened_follows m front rest arrays words low before guard x s t cells false k room b = record {
  along = next_access m low before s.words t.words x (replicate cells (pos 0)) (pos 0) k.seat k.low_shift room.own_old room.own_hit b.along;
  registers = b.registers;
  many_own = b.many_own;
}

pub access_follows : (m : Seat) (front rest : Registers) (arrays : List Array) (words low : ℕ) (before : Words) (guard : ℕ) (x : Access) (s t : State) (cells : ℕ) (v u : ℤ)
    → Sits m front low before → AccessRoom arrays m.width words x → Beside m front rest (length arrays) low before s t
    → read s.words x.guard ≡ Some v → t.words guard ≡ Some u → is_set u ≡ is_set v
    → Both (Beside m front rest (length arrays) low before) (exec_access cells x s) (exec_access cells (moved_access m guard x) t)
access_follows m front rest arrays words low before guard x s t cells v u k room b ev eu same =
    rw (ev, eu, same) (opened_follows m front rest arrays words low before guard x s t cells (is_set v) k room b)
