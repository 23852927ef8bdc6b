-- The packed program is within the packed needs.
use Rattle.std.proofs.Common.{◌≡◌, ◌<◌, ◌≤◌, ℕ, suc, ◌+◌, ◌*◌, Bool, true, false, List, [], ◌∷◌, ◌++◌, refl, ap, ap₂, arith, inl, inr, length, map, max}
use Rattle.std.specs.Prelude.{if◌then◌else◌, nat_lt}
use Rattle.std.proofs.lemmas.Bool.{cases_lt, lt-ltb}
use Rattle.std.proofs.lemmas.List.{length-append, length-map, map-append}
use Rattle.ch_ir.specs.declared.program.Operand.{Operand}
use Rattle.ch_ir.specs.declared.program.Operand.TheVariants.{Word, Const}
use Rattle.ch_ir.specs.declared.program.Op.{Op}
use Rattle.ch_ir.specs.declared.program.Access.{Access}
use Rattle.ch_ir.specs.declared.program.Array.{Array}
use Rattle.ch_ir.specs.declared.program.Stage.{Stage}
use Rattle.ch_ir.specs.declared.program.Program.{Program}
use Rattle.ch_ir.specs.Machine.{cells_of, op_to}
use Rattle.ch_ir.specs.Measure.{access_end, greatest_array, most_ops, old_end, op_end, operand_end, operands_end, ops_end, run_end, sizes_of, stage_end, stages_end, words_of}
use Rattle.ch_ir.specs.Rules.{operands_of, update_operands}
use Rattle.ch_prune.specs.Needs.{IsWithin}
use Rattle.ch_prune.specs.declared.operator.Need.{Need}
use Rattle.ch_pack_laws.specs.declared.Seat.{Seat}
use Rattle.ch_pack_laws.specs.Packed.{all_arrays, all_moved, compared, first_free, free_after, free_after_all, greatest_width, guarded, joined, last_free, last_stage, moved_access, moved_op, moved_operand, moved_stages, moved_word, packed, packed_stages, seat_of, selector_of}
use Rattle.ch_pack_laws.specs.Moved.{moved_high, moved_low}
use Rattle.ch_pack_laws.specs.Right.{shaped}
use Rattle.ch_pack_laws.specs.Rooms.{AccessRoom, AccessesRoom, OpsRoom, StagesRoom}
use Rattle.ch_pack_laws.specs.Selected.{op_to_moved}
use Rattle.ch_pack_laws.specs.SelectedStages.{AreAmong}
use Rattle.ch_pack_laws.specs.Plans.{AllAmong, AllFine, free_grows, verdict_anywhere, verdict_low, verdict_word}
use Rattle.ch_pack_laws.specs.Lawful.{operands_moved, updates_moved}
use Rattle.ch_pack_laws.specs.Needs.{AllWithin, greatest, packed_need, total}
use Rattle.ch_pack_laws.specs.Steps.{AllUnbroken, all_among, all_fine}

moved_most : (m : Seat) (w : ℕ) → moved_word m w ≤ w + m.shift
moved_most m w = elim (cases_lt w m.width) [
  | inl a ↦ let e = moved_low m w a in omega arith
  | inr a ↦ let e = moved_high m w a in omega arith
]

operand_most : (m : Seat) (a : Operand) (words high : ℕ) → words + m.shift ≤ high → operand_end a ≤ words → operand_end (moved_operand m a) ≤ high
operand_most m (Word w) words high r h = let e = moved_most m w in omega arith
operand_most m (Const c) words high r h = omega arith

operands_most : (m : Seat) (operands : List Operand) (words high : ℕ) → words + m.shift ≤ high → operands_end operands ≤ words → operands_end (map (moved_operand m) operands) ≤ high
operands_most m [] words high r h = omega arith
operands_most m (a ∷ rest) words high r h =
    let first : operand_end a ≤ words = omega arith in
    let second : operands_end rest ≤ words = omega arith in
    let e = operand_most m a words high r first in
    let f = operands_most m rest words high r second in
    omega arith

op_most : (m : Seat) (op : Op) (words high : ℕ) → words + m.shift ≤ high → op_end op ≤ words → op_end (moved_op m op) ≤ high
op_most m op words high r h =
    let reads : operands_end (operands_of op) ≤ words = omega arith in
    let to : op_to op + 1 ≤ words = omega arith in
    let e = operands_most m (operands_of op) words high r reads in
    let f = moved_most m (op_to op) in
    let P : ℕ → List Operand → Type 0 = λ w xs. max (w + 1) (operands_end xs) ≤ high in
    two (λ w xs. max (w + 1) (operands_end xs) ≤ high) (op_to_moved m op) (operands_moved m op) (omega arith)
  where
    two : (P : ℕ → List Operand → Type 0) {a b : ℕ} {x y : List Operand} → a ≡ b → x ≡ y → P b y → P a x
    two P e f h = rw (e, f) h

ops_most : (m : Seat) (width words high : ℕ) (ops : List Op) → words + m.shift ≤ high → OpsRoom width words ops → ops_end (map (moved_op m) ops) ≤ high
ops_most m width words high [] r room = omega arith
ops_most m width words high (op ∷ ops) r room =
    let e = op_most m op words high r room.0.within in
    let f = ops_most m width words high ops r room.1 in
    most_of_two (op_end (moved_op m op)) (ops_end (map (moved_op m) ops)) high e f
  where
    most_of_two : (a b high : ℕ) → a ≤ high → b ≤ high → max a b ≤ high
    most_of_two a b high h k = omega arith

both_most : (a b high : ℕ) → a ≤ high → b ≤ high → max a b ≤ high
both_most a b high h k = omega arith

-- the old words
old_most : (all : List Array) (x : Access) (n high : ℕ) → cells_of all x.array ≡ n → 0 < n → x.old + n ≤ high → old_end all x ≤ high
old_most all x n high e p h = go (nat_lt x.array (length all)) (cells_of all x.array) e
  where
    go : (b : Bool) (c : ℕ) → c ≡ n → run_end x.old (if b then c else 1) ≤ high
    go true c e = let k = lt-ltb 0 c (omega arith) in rw k (omega arith)
    go false c e = omega arith

access_most : (m : Seat) (all arrays : List Array) (guard words high : ℕ) (x : Access) → AreAmong all arrays m.base → words + m.shift ≤ high → guard < high → AccessRoom arrays m.width words x
    → access_end all (moved_access m guard x) ≤ high
access_most m all arrays guard words high x among r g room =
    let operands : List Operand = x.key ++ (update_operands x.yes ++ update_operands x.no) in
    let w : access_end arrays x ≤ words = room.within in
    let index : operand_end x.index ≤ words = omega arith in
    let rest : operands_end operands ≤ words = omega arith in
    let a = operand_most m x.index words high r index in
    let b = operands_most m operands words high r rest in
    let lists : map (moved_operand m) x.key ++ (update_operands (moved_access m guard x).yes ++ update_operands (moved_access m guard x).no) ≡ map (moved_operand m) operands =
    rw (updates_moved m x.yes, updates_moved m x.no, map-append (moved_operand m) x.key (update_operands x.yes ++ update_operands x.no), map-append (moved_operand m) (update_operands x.yes) (update_operands x.no)) refl in
    let c : operands_end (map (moved_operand m) x.key ++ (update_operands (moved_access m guard x).yes ++ update_operands (moved_access m guard x).no)) ≤ high = rw lists b in
    let s = shaped arrays x room.shape in
    let cells = among.cells x.array room.there in
    let end_old = room.end_old in
    let end_hit = room.end_hit in
    let old = moved_most m x.old in
    let hit = moved_most m x.hit in
    let d = old_most all (moved_access m guard x) (cells_of arrays x.array) high cells s.cells (omega arith) in
    five (operand_end (moved_operand m x.index)) guard (operands_end (map (moved_operand m) x.key ++ (update_operands (moved_access m guard x).yes ++ update_operands (moved_access m guard x).no)))
    (old_end all (moved_access m guard x)) (moved_word m x.hit) high a g c d (omega arith)
  where
    five : (index guard rest old hit high : ℕ) → index ≤ high → guard < high → rest ≤ high → old ≤ high → hit < high → max (max index (max (guard + 1) rest)) (max old (hit + 1)) ≤ high
    five index guard rest old hit high a b c d e = omega arith

guarded_most : (m : Seat) (all arrays : List Array) (guard words high : ℕ) (xs : List Access) → AreAmong all arrays m.base → words + m.shift ≤ high → guard < high → m.chosen < high → AccessesRoom arrays m.width words xs
    → stage_end all (guarded m guard xs) ≤ high
guarded_most m all arrays guard words high [] among r g c room = omega arith
guarded_most m all arrays guard words high (x ∷ []) among r g c room =
    let w : access_end arrays x ≤ words = room.within in
    let own : operand_end x.guard ≤ words = omega arith in
    let a = operand_most m x.guard words high r own in
    let b = access_most m all arrays guard words high x among r g room in
    four guard m.chosen (operand_end (moved_operand m x.guard)) (access_end all (moved_access m guard x)) high g c a b
  where
    four : (guard chosen own access high : ℕ) → guard < high → chosen < high → own ≤ high → access ≤ high → max (max (max (guard + 1) (max (chosen + 1) (max own 0))) 0) (max access 0) ≤ high
    four guard chosen own access high a b c d = omega arith
guarded_most m all arrays guard words high (x ∷ y ∷ zs) among r g c room = elim room [ ]

stages_most : (m : Seat) (all arrays : List Array) (guard words high : ℕ) (stages : List Stage) → AreAmong all arrays m.base → words + m.shift ≤ high → guard + length stages ≤ high → m.chosen < high → StagesRoom arrays m.width words stages
    → stages_end all (moved_stages m guard stages) ≤ high
stages_most m all arrays guard words high [] among r g c room = omega arith
stages_most m all arrays guard words high (t ∷ ts) among r g c room =
    let near : guard < high = omega (arith, g) in
    let far : guard + 1 + length ts ≤ high = omega (arith, g) in
    let a = ops_most m m.width words high t.ops r room.0.0 in
    let b = guarded_most m all arrays guard words high t.accesses among r near c room.0.1 in
    let d = stages_most m all arrays (guard + 1) words high ts among r far c room.1 in
    three (ops_end (map (moved_op m) t.ops)) (stage_end all (guarded m guard t.accesses)) (stages_end all (moved_stages m (guard + 1) ts)) high a b d
  where
    three : (a b d high : ℕ) → a ≤ high → b ≤ high → d ≤ high → max (max a 0) (max b d) ≤ high
    three a b d high h k l = omega arith

end_append : (all : List Array) (xs ys : List Stage) (high : ℕ) → stages_end all xs ≤ high → stages_end all ys ≤ high → stages_end all (xs ++ ys) ≤ high
end_append all [] ys high a b = b
end_append all (x ∷ xs) ys high a b =
    both_most (stage_end all x) (stages_end all (xs ++ ys)) high (left (stage_end all x) (stages_end all xs) high a) (end_append all xs ys high (other (stage_end all x) (stages_end all xs) high a) b)
  where
    left : (a b high : ℕ) → max a b ≤ high → a ≤ high
    left a b high h = omega arith

    other : (a b high : ℕ) → max a b ≤ high → b ≤ high
    other a b high h = omega arith

plans_most : (all : List Array) (width free base chosen high : ℕ) (ps : List Program) → AllFine width ps → AllAmong all base ps → width ≤ free → chosen + length ps ≤ free → free_after_all free ps ≤ high
    → stages_end all (all_moved free base chosen ps) ≤ high
plans_most all width free base chosen high [] fine among l c h = omega arith
plans_most all width free base chosen high (p ∷ ps) fine among l c h =
    let grows = free_grows (free_after free p) ps in
    let a = stages_most (seat_of p free base chosen) all p.arrays free (words_of p) high p.stages among.0 (omega arith) (omega arith) (omega arith) fine.0.right.rooms in
    let b = plans_most all width (free_after free p) (base + length p.arrays) (chosen + 1) high ps fine.1 among.1 (omega arith) (omega arith) h in
    end_append all (moved_stages (seat_of p free base chosen) free p.stages) (all_moved (free_after free p) (base + length p.arrays) (chosen + 1) ps) high a b

compared_most : (selector chosen number high : ℕ) (ps : List Program) → selector < chosen → chosen + length ps ≤ high → ops_end (compared selector chosen number ps) ≤ high
compared_most selector chosen number high [] l h = omega arith
compared_most selector chosen number high (p ∷ ps) l h =
    let a = compared_most selector (chosen + 1) (number + 1) high ps (omega arith) (omega arith) in
    three chosen selector (ops_end (compared selector (chosen + 1) (number + 1) ps)) high (omega arith) (omega arith) a
  where
    three : (chosen selector rest high : ℕ) → chosen < high → selector < high → rest ≤ high → max (max (chosen + 1) (max (selector + 1) (max 0 0))) rest ≤ high
    three chosen selector rest high a b c = omega arith

joined_most : (width free chosen last high : ℕ) (ps : List Program) → AllFine width ps → width ≤ free → chosen + length ps ≤ free → free_after_all free ps ≤ high → last + length ps < high → ops_end (joined free chosen last ps) ≤ high
joined_most width free chosen last high [] fine l c h k = omega arith
joined_most width free chosen last high (p ∷ ps) fine l c h k =
    let n = fine.0.narrow in
    let grows = free_grows (free_after free p) ps in
    let low = verdict_low free p (omega arith) in
    let at : moved_word (seat_of p free 0 chosen) p.verdict ≡ verdict_word free p = verdict_anywhere free 0 chosen p in
    let a = joined_most width (free_after free p) (chosen + 1) (last + 1) high ps fine.1 (omega arith) (omega arith) h (omega arith) in
    four last chosen (moved_word (seat_of p free 0 chosen) p.verdict) (ops_end (joined (free_after free p) (chosen + 1) (last + 1) ps)) high (omega arith) (omega arith) (omega arith) a
  where
    four : (last chosen verdict rest high : ℕ) → last + 1 < high → chosen < high → verdict < high → rest ≤ high
        → max (max (last + 1 + 1) (max (chosen + 1) (max (verdict + 1) (max (last + 1) 0)))) rest ≤ high
    four last chosen verdict rest high a b c d = omega arith

-- All stages
packed_end : (ps : List Program) → AllUnbroken ps → stages_end (all_arrays ps) (packed_stages ps) ≤ last_free ps + length ps + 1
packed_end ps unbroken =
    let width : ℕ = selector_of ps in
    let free : ℕ = first_free ps in
    let last : ℕ = last_free ps in
    let high : ℕ = last + length ps + 1 in
    let grows : free ≤ last = free_grows free ps in
    let fine = all_fine width ps (omega arith) unbroken in
    let a = compared_most width (width + 1) 0 high ps (omega arith) (omega arith) in
    let b = plans_most (all_arrays ps) width free 0 (width + 1) high ps fine (all_among ps) (omega arith) (omega arith) (omega arith) in
    let c = joined_most width free (width + 1) last high ps fine (omega arith) (omega arith) (omega arith) (omega arith) in
    let d = last_most last (ops_end (joined free (width + 1) last ps)) high (omega arith) c in
    first_most (ops_end (compared width (width + 1) 0 ps)) (stages_end (all_arrays ps) (all_moved free 0 (width + 1) ps ++ last_stage ps ∷ [])) high a
    (end_append (all_arrays ps) (all_moved free 0 (width + 1) ps) (last_stage ps ∷ []) high b d)
  where
    last_most : (last rest high : ℕ) → last < high → rest ≤ high → max (max (max (max (last + 1) (max 0 0)) rest) 0) 0 ≤ high
    last_most last rest high a b = omega arith

    first_most : (first rest high : ℕ) → first ≤ high → rest ≤ high → max (max first 0) rest ≤ high
    first_most first rest high a b = omega arith

-- Each size against the need

width_same : (ops : ℕ) (needs : List Need) (ps : List Program) → AllWithin ops needs ps → greatest_width ps ≡ greatest (λ n. n.width) needs
unfolding sizes_of
width_same ops [] [] h = refl
width_same ops [] (p ∷ ps) h = elim h [ ]
width_same ops (n ∷ needs) [] h = elim h [ ]
width_same ops (n ∷ needs) (p ∷ ps) h = ap₂ max h.0.width (width_same ops needs ps h.1)

arrays_most : (xs ys : List Array) (high : ℕ) → greatest_array xs ≤ high → greatest_array ys ≤ high → greatest_array (xs ++ ys) ≤ high
arrays_most [] ys high a b = b
arrays_most (x ∷ xs) ys high a b =
    both_most (x.entries * x.cells) (greatest_array (xs ++ ys)) high (left (x.entries * x.cells) (greatest_array xs) high a) (arrays_most xs ys high (other (x.entries * x.cells) (greatest_array xs) high a) b)
  where
    left : (a b high : ℕ) → max a b ≤ high → a ≤ high
    left a b high h = omega arith

    other : (a b high : ℕ) → max a b ≤ high → b ≤ high
    other a b high h = omega arith

cells_within : (ops high : ℕ) (needs : List Need) (ps : List Program) → AllWithin ops needs ps → greatest (λ n. n.cells) needs ≤ high → greatest_array (all_arrays ps) ≤ high
unfolding sizes_of
cells_within ops high [] [] h k = omega arith
cells_within ops high [] (p ∷ ps) h k = elim h [ ]
cells_within ops high (n ∷ needs) [] h k = elim h [ ]
cells_within ops high (n ∷ needs) (p ∷ ps) h k =
    arrays_most p.arrays (all_arrays ps) high (chain (greatest_array p.arrays) n.cells (greatest (λ n. n.cells) needs) high h.0.cells k) (cells_within ops high needs ps h.1 (rest n.cells (greatest (λ n. n.cells) needs) high k))
  where
    chain : (a b c high : ℕ) → a ≤ b → max b c ≤ high → a ≤ high
    chain a b c high h k = omega arith

    rest : (b c high : ℕ) → max b c ≤ high → c ≤ high
    rest b c high k = omega arith

words_within : (ops free : ℕ) (needs : List Need) (ps : List Program) → AllWithin ops needs ps → free_after_all free ps ≤ free + total (λ n. n.words + n.stages) needs
unfolding sizes_of
words_within ops free [] [] h = omega arith
words_within ops free [] (p ∷ ps) h = elim h [ ]
words_within ops free (n ∷ needs) [] h = elim h [ ]
words_within ops free (n ∷ needs) (p ∷ ps) h =
    let a = words_within ops (free_after free p) needs ps h.1 in
    sums free (length p.stages) (words_of p) n.words n.stages (total (λ n. n.words + n.stages) needs) (free_after_all (free_after free p) ps) h.0.words h.0.stages a
  where
    sums : (free s w words stages rest end : ℕ) → w ≤ words → s ≤ stages → end ≤ free + s + w + rest → end ≤ free + (words + stages + rest)
    sums free s w words stages rest end a b c = omega arith

moved_length : (m : Seat) (guard : ℕ) (stages : List Stage) → length (moved_stages m guard stages) ≡ 2 * length stages
moved_length m guard [] = refl
moved_length m guard (t ∷ ts) = let e = moved_length m (guard + 1) ts in omega arith

stages_within : (ops free base chosen : ℕ) (needs : List Need) (ps : List Program) → AllWithin ops needs ps → length (all_moved free base chosen ps) ≤ 2 * total (λ n. n.stages) needs
unfolding sizes_of
stages_within ops free base chosen [] [] h = omega arith
stages_within ops free base chosen [] (p ∷ ps) h = elim h [ ]
stages_within ops free base chosen (n ∷ needs) [] h = elim h [ ]
stages_within ops free base chosen (n ∷ needs) (p ∷ ps) h =
    let a = stages_within ops (free_after free p) (base + length p.arrays) (chosen + 1) needs ps h.1 in
    let b = length-append (moved_stages (seat_of p free base chosen) free p.stages) (all_moved (free_after free p) (base + length p.arrays) (chosen + 1) ps) in
    let c = moved_length (seat_of p free base chosen) free p.stages in
    let d = h.0.stages in
    omega arith

most_append : (xs ys : List Stage) (high : ℕ) → most_ops xs ≤ high → most_ops ys ≤ high → most_ops (xs ++ ys) ≤ high
most_append [] ys high a b = b
most_append (x ∷ xs) ys high a b =
    both_most (length x.ops) (most_ops (xs ++ ys)) high (left (length x.ops) (most_ops xs) high a) (most_append xs ys high (other (length x.ops) (most_ops xs) high a) b)
  where
    left : (a b high : ℕ) → max a b ≤ high → a ≤ high
    left a b high h = omega arith

    other : (a b high : ℕ) → max a b ≤ high → b ≤ high
    other a b high h = omega arith

guarded_ops : (m : Seat) (guard : ℕ) (xs : List Access) → length (guarded m guard xs).ops ≤ 1
guarded_ops m guard [] = omega arith
guarded_ops m guard (x ∷ xs) = omega arith

moved_ops : (m : Seat) (guard high : ℕ) (stages : List Stage) → 1 ≤ high → most_ops stages ≤ high → most_ops (moved_stages m guard stages) ≤ high
moved_ops m guard high [] o h = omega arith
moved_ops m guard high (t ∷ ts) o h =
    let a = guarded_ops m guard t.accesses in
    let b = moved_ops m (guard + 1) high ts o (rest (length t.ops) (most_ops ts) high h) in
    let c = length-map t.ops (moved_op m) in
    three (length (map (moved_op m) t.ops)) (length t.ops) (length (guarded m guard t.accesses).ops) (most_ops (moved_stages m (guard + 1) ts)) (most_ops ts) high c a o b h
  where
    rest : (a b high : ℕ) → max a b ≤ high → b ≤ high
    rest a b high h = omega arith

    three : (a a' b c c' high : ℕ) → a ≡ a' → b ≤ 1 → 1 ≤ high → c ≤ high → max a' c' ≤ high → max a (max b c) ≤ high
    three a a' b c c' high e f o g h = omega arith

plans_ops : (ops free base chosen : ℕ) (needs : List Need) (ps : List Program) → 1 ≤ ops → AllWithin ops needs ps → most_ops (all_moved free base chosen ps) ≤ ops
unfolding sizes_of
plans_ops ops free base chosen [] [] o h = omega arith
plans_ops ops free base chosen [] (p ∷ ps) o h = elim h [ ]
plans_ops ops free base chosen (n ∷ needs) [] o h = elim h [ ]
plans_ops ops free base chosen (n ∷ needs) (p ∷ ps) o h =
    most_append (moved_stages (seat_of p free base chosen) free p.stages) (all_moved (free_after free p) (base + length p.arrays) (chosen + 1) ps) ops
    (moved_ops (seat_of p free base chosen) free ops p.stages o h.0.many) (plans_ops ops (free_after free p) (base + length p.arrays) (chosen + 1) needs ps o h.1)

compared_length : (selector chosen number : ℕ) (ps : List Program) → length (compared selector chosen number ps) ≡ length ps
compared_length selector chosen number [] = refl
compared_length selector chosen number (p ∷ ps) = ap suc (compared_length selector (chosen + 1) (number + 1) ps)

joined_length : (free chosen last : ℕ) (ps : List Program) → length (joined free chosen last ps) ≡ length ps
joined_length free chosen last [] = refl
joined_length free chosen last (p ∷ ps) = ap suc (joined_length (free_after free p) (chosen + 1) (last + 1) ps)

-- at most four programs, whose verdicts are joined by five ops
pub packed_within : (ops : ℕ) (needs : List Need) (ps : List Program) → AllUnbroken ps → AllWithin ops needs ps → length ps ≤ 4 → 5 ≤ ops → IsWithin (packed_need needs) ops (sizes_of (packed ps))
unfolding packed sizes_of
packed_within ops needs ps unbroken h few many =
    let width : ℕ = selector_of ps in
    let free : ℕ = first_free ps in
    let last : ℕ = last_free ps in
    let all : List Array = all_arrays ps in
    let same : width ≡ greatest (λ n. n.width) needs = width_same ops needs ps h in
    let grows : free ≤ last = free_grows free ps in
    let end = packed_end ps unbroken in
    let words = words_within ops free needs ps h in
    let stages = stages_within ops free 0 (width + 1) needs ps h in
    let count = length-append (all_moved free 0 (width + 1) ps) (last_stage ps ∷ []) in
    let begin = compared_length width (width + 1) 0 ps in
    let finish = joined_length free (width + 1) last ps in
    let last_ops : most_ops (last_stage ps ∷ []) ≤ ops = last_most (length (joined free (width + 1) last ps)) (length ps) ops finish few many in
    record {
      width = ap (λ (n : ℕ). n + 1) same;
      cells = cells_within ops (greatest (λ n. n.cells) needs) needs ps h (omega arith);
      words = all_words width (length ps) free last (stages_end all (packed_stages ps)) (total (λ n. n.words + n.stages) needs) (greatest (λ n. n.width) needs) same refl grows end words few;
      stages = omega arith;
      many = both_most (length (compared width (width + 1) 0 ps)) (most_ops (all_moved free 0 (width + 1) ps ++ last_stage ps ∷ [])) ops (omega (arith, begin, few, many))
          (most_append (all_moved free 0 (width + 1) ps) (last_stage ps ∷ []) ops (plans_ops ops free 0 (width + 1) needs ps (omega arith) h) last_ops);
    }
  where
    last_most : (a n ops : ℕ) → a ≡ n → n ≤ 4 → 5 ≤ ops → max (suc a) 0 ≤ ops
    last_most a n ops e f g = omega arith

    all_words : (width n free last end sums need_width : ℕ) → width ≡ need_width → free ≡ width + 1 + n → free ≤ last → end ≤ last + n + 1 → last ≤ free + sums → n ≤ 4 → max (width + 1) (max end (last + n + 1)) ≤ need_width + 1 + sums + 16
    all_words width n free last end sums need_width e f g h i j = omega arith
