-- The run of the first ops: the row's point, its score, and what the first entry may take.
use Rattle.std.proofs.Common.{◌≡◌, ◌<◌, ◌≤◌, ℕ, zero, suc, ◌+◌, ◌*◌, Bool, true, false, List, [], ◌∷◌, ◌++◌, ℤ, pos, negsuc, ◌+ℤ◌, ◌-ℤ◌, ◌≤ℤ◌, int_lt, refl, sym, ◌∙◌, ap, arith, Some, length, subst, w64, leb, ltb, leb-true, ltb-true}
use Rattle.std.specs.Prelude.{if◌then◌else◌}
use Rattle.std.specs.Int.{saturate_signed}
use Rattle.std.specs.List.{list_all}
use Rattle.std.proofs.lemmas.Bool.{and_parts}
use Rattle.std.proofs.lemmas.Int.{ints}
use Rattle.ch_cover.specs.Rows.{Row}
use Rattle.ch_ir.specs.declared.program.Operand.{Operand}
use Rattle.ch_ir.specs.declared.program.Operand.TheVariants.{Word, Const}
use Rattle.ch_ir.specs.declared.program.Binary.TheVariants as binary
use Rattle.ch_ir.specs.declared.program.Op.{Op}
use Rattle.ch_ir.specs.declared.program.Op.TheVariants.{Set}
use Rattle.ch_ir.specs.Machine.{Words, put, read, exec_ops, two_of, truth}
use Rattle.op_moves.specs.Values.{put_same, put_other, word_at}
use Rattle.op_skyline.specs.Emitted.{turned_ops, sum_ops, copy_ops, first_ops}
use Rattle.op_skyline.specs.Fine.{IsFine, is_place}
use Rattle.op_skyline.specs.Ops.{ops_then, two_runs, set_runs, ne_truth}
use Rattle.op_skyline.specs.Policy.{oriented, point_at, point_of, score}
use Rattle.op_moves.specs.Range.{Small, saturated, turned_small}
use Rattle.op_skyline.specs.Run.{Holds, holds_kept, Ran}
use Rattle.op_skyline.specs.Settled.{largest}
use Rattle.op_skyline.specs.declared.sizes.Sizes.{Sizes}

abbrev pub AllSmall : List ℤ → Type 0
AllSmall [] = Unit {0}
AllSmall (v ∷ vs) = Small v × AllSmall vs

score_high : (p : List ℤ) → AllSmall p → score p ≤ℤ pos (length p * 2305843009213693951)
score_high [] s = omega (arith, ints)
score_high (v ∷ p) s = let more = score_high p s.1 in let h = s.0.high in omega (arith, ints)

pub small_score : (p : List ℤ) → AllSmall p → length p ≤ 4 → int_lt (score p) largest ≡ true
small_score p s h = let high = score_high p s in let l : score p ≤ℤ pos 9223372036854775804 = omega (arith, ints) in below (score p) l
  where
    below : (v : ℤ) → v ≤ℤ pos 9223372036854775804 → int_lt v largest ≡ true
    below v l = grind (arith, ints)

-- each word of the row from its bit on, as the program is given it
abbrev pub IsGiven : ℕ → Row → Words → Type 0
IsGiven w r ws = (p : ℕ) → 2 ≤ p → p < w → ws p ≡ Some (word_at r p)

oriented_is : (max : Bool) (v : ℤ) → Small v → two_of (if max then binary.Add else binary.Sub) (pos 0) v ≡ oriented max v
oriented_is true v s = let l = s.low in let h = s.high in saturated (pos 0 +ℤ v) (omega (arith, ints)) (omega (arith, ints)) ∙ grind (arith, ints)
oriented_is false v s = let l = s.low in let h = s.high in saturated (pos 0 -ℤ v) (omega (arith, ints)) (omega (arith, ints)) ∙ grind (arith, ints)

pub point_small : (places : List ℕ) (max : List Bool) (r : Row) → ((p : ℕ) → Small (word_at r p)) → AllSmall (point_at places max r)
point_small [] max r h = tt
point_small (p ∷ places) [] r h = tt
point_small (p ∷ places) (m ∷ max) r h = (go m, point_small places max r h)
  where
    go : (b : Bool) → Small (oriented b (word_at r p))
    go true = h p
    go false = turned_small (word_at r p) (h p)

pub point_long : (places : List ℕ) (max : List Bool) (r : Row) → length max ≡ length places → length (point_at places max r) ≡ length places
point_long [] max r e = refl
point_long (p ∷ places) [] r e = absurd (omega arith)
point_long (p ∷ places) (m ∷ max) r e = ap suc (point_long places max r (omega arith))

record Held (ops : List Op) (ws : Words) (to : ℕ) (vs : List ℤ) : Type 0 where
  ran : Ran ops ws to
  held : Holds ran.words to vs

turned_runs : (w to : ℕ) (places : List ℕ) (max : List Bool) (r : Row) (ws : Words) → w ≤ to → list_all (is_place w) places ≡ true → IsGiven w r ws → ((p : ℕ) → Small (word_at r p))
    → Held (turned_ops to places max) ws to (point_at places max r)
turned_runs w to [] max r ws h b g small = record { ran = record { words = ws; is = refl; low = λ m p. refl }; held = tt }
turned_runs w to (p ∷ places) [] r ws h b g small = record { ran = record { words = ws; is = refl; low = λ m p. refl }; held = tt }
turned_runs w to (p ∷ places) (m ∷ max) r ws h b g small =
    let parts = and_parts (is_place w p) (list_all (is_place w) places) b in
    let place = and_parts (leb 2 p) (ltb p w) parts.0 in
    let v : ℤ = word_at r p in
    let y : ℤ = oriented m v in
    let ws1 : Words = put ws to y in
    let low1 : (i : ℕ) → i < to → ws1 i ≡ ws i = λ i k. put_other ws to y i (omega arith) in
    let more = turned_runs w (to + 1) places max r ws1 (omega arith) parts.1 (λ i k j. low1 i (omega arith) ∙ g i k j) small in
    let low = more.ran.low in
    record {
      ran = record {
        words = more.ran.words;
        is = two_runs ws to (if m then binary.Add else binary.Sub) (Const (pos 0)) (Word p) (pos 0) v (turned_ops (to + 1) places max) refl (g p (leb-true 2 p place.0) (ltb-true p w place.1))
            ∙ ap (λ (z : ℤ). exec_ops (turned_ops (to + 1) places max) (put ws to z)) (oriented_is m v (small p)) ∙ more.ran.is;
        low = λ i k. low i (omega arith) ∙ low1 i k;
      };
      held = (low to (omega arith) ∙ put_same ws to y to refl, more.held);
    }

record Summed (ops : List Op) (ws : Words) (to at : ℕ) (sum : ℤ) : Type 0 where
  ran : Ran ops ws to
  sum_is : ran.words at ≡ Some sum

sum_runs : (n to x : ℕ) (so_far : Operand) (ws : Words) (acc v : ℤ) (xs : List ℤ) → length xs ≡ n → x + suc n ≤ to → read ws so_far ≡ Some acc → Holds ws x (v ∷ xs) → AllSmall (v ∷ xs)
    → negsuc 9223372036854775807 ≤ℤ (acc -ℤ pos (suc n * 2305843009213693951)) → (acc +ℤ pos (suc n * 2305843009213693951)) ≤ℤ pos 9223372036854775807
    → Summed (sum_ops (suc n) to x so_far) ws to (to + n) (acc +ℤ score (v ∷ xs))
sum_runs zero to x so_far ws acc v [] lx b ea hx small low high =
    let l = small.0.low in let h = small.0.high in
    let fits : saturate_signed w64 (acc +ℤ v) ≡ acc +ℤ (v +ℤ pos 0) = saturated (acc +ℤ v) (omega (arith, ints)) (omega (arith, ints)) ∙ omega (arith, ints) in
    record {
      ran = record { words = put ws to (saturate_signed w64 (acc +ℤ v)); is = two_runs ws to binary.Add so_far (Word x) acc v [] ea hx.0; low = λ m p. put_other ws to (saturate_signed w64 (acc +ℤ v)) m (omega arith) };
      sum_is = put_same ws to (saturate_signed w64 (acc +ℤ v)) (to + 0) (omega arith) ∙ ap Some fits;
    }
sum_runs zero to x so_far ws acc v (u ∷ xs) lx b ea hx small low high = absurd (omega arith)
sum_runs (suc n) to x so_far ws acc v [] lx b ea hx small low high = absurd (omega arith)
sum_runs (suc n) to x so_far ws acc v (u ∷ xs) lx b ea hx small low high =
    let l = small.0.low in let h = small.0.high in
    let y : ℤ = acc +ℤ v in
    let fits : saturate_signed w64 (acc +ℤ v) ≡ y = saturated (acc +ℤ v) (omega (arith, ints)) (omega (arith, ints)) in
    let ws1 : Words = put ws to y in
    let low1 : (m : ℕ) → m < to → ws1 m ≡ ws m = λ m p. put_other ws to y m (omega arith) in
    let more = sum_runs n (to + 1) (x + 1) (Word to) ws1 y u xs (omega arith) (omega arith) (put_same ws to y to refl) (holds_kept ws ws1 (x + 1) to (u ∷ xs) low1 (omega arith) hx.1) small.1
    (omega (arith, ints)) (omega (arith, ints)) in
    let more_low = more.ran.low in
    record {
      ran = record {
        words = more.ran.words;
        is = two_runs ws to binary.Add so_far (Word x) acc v (sum_ops (suc n) (to + 1) (x + 1) (Word to)) ea hx.0
            ∙ ap (λ (z : ℤ). exec_ops (sum_ops (suc n) (to + 1) (x + 1) (Word to)) (put ws to z)) fits ∙ more.ran.is;
        low = λ m p. more_low m (omega arith) ∙ low1 m p;
      };
      sum_is = ap more.ran.words (let e : to + suc n ≡ to + 1 + n = omega arith in e) ∙ more.sum_is ∙ ap Some (assoc acc v (score (u ∷ xs)));
    }
  where
    assoc : (a b c : ℤ) → (a +ℤ b) +ℤ c ≡ a +ℤ (b +ℤ c)
    assoc a b c = omega (arith, ints)

copy_runs : (n to x : ℕ) (vs : List ℤ) (ws : Words) → length vs ≡ n → x + n ≤ to → Holds ws x vs → Held (copy_ops n to x) ws to vs
copy_runs zero to x [] ws l b h = record { ran = record { words = ws; is = refl; low = λ m p. refl }; held = tt }
copy_runs zero to x (v ∷ vs) ws l b h = absurd (omega arith)
copy_runs (suc n) to x [] ws l b h = absurd (omega arith)
copy_runs (suc n) to x (v ∷ vs) ws l b h =
    let ws1 : Words = put ws to v in
    let low1 : (m : ℕ) → m < to → ws1 m ≡ ws m = λ m p. put_other ws to v m (omega arith) in
    let more = copy_runs n (to + 1) (x + 1) vs ws1 (omega arith) (omega arith) (holds_kept ws ws1 (x + 1) to vs low1 (omega arith) h.1) in
    let low = more.ran.low in
    record {
      ran = record { words = more.ran.words; is = set_runs ws to (Word x) v (copy_ops n (to + 1) (x + 1)) h.0 ∙ more.ran.is; low = λ m p. low m (omega arith) ∙ low1 m p };
      held = (low to (omega arith) ∙ put_same ws to v to refl, more.held);
    }

-- what the first ops leave
pub record Started (s : Sizes) (ws : Words) (bit : Bool) (p : List ℤ) : Type 0 where
  pub words : Words
  pub is : exec_ops (first_ops s) ws ≡ Some words
  pub gate_is : words s.width ≡ Some (truth bit)
  pub values_are : Holds words (s.width + 1) p
  pub score_is : words (s.width + 2 * length s.places) ≡ Some (score p)
  pub carried_is : Holds words (s.width + 1 + 2 * length s.places) (pos 1 ∷ score p ∷ p)
  pub key_is : words (s.width + 3 + 3 * length s.places) ≡ Some (score p)

pub starts : (s : Sizes) → IsFine s → (r : Row) (ws : Words) (bit : Bool) → ws 2 ≡ Some (truth bit) → IsGiven s.width r ws → ((p : ℕ) → Small (word_at r p))
    → (v : ℤ) (xs : List ℤ) → point_of s r ≡ v ∷ xs → AllSmall (v ∷ xs) → Started s ws bit (v ∷ xs)
starts s fine r ws bit eb given small v xs is_point all =
    let w : ℕ = s.width in
    let n : ℕ = length s.places in
    let p : List ℤ = v ∷ xs in
    let few = fine.few in
    let long : length p ≡ n = ap (λ (q : List ℤ). length q) (sym is_point) ∙ point_long s.places s.max r fine.same in
    let m : ℕ = length xs in
    let n_is : n ≡ suc m = omega arith in
    let wide = fine.wide in
    let ws1 : Words = put ws w (truth bit) in
    let low1 : (i : ℕ) → i < w → ws1 i ≡ ws i = λ i h. put_other ws w (truth bit) i (omega arith) in
    let turned = turned_runs w (w + 1) s.places s.max r ws1 (omega arith) fine.placed (λ i k h. low1 i h ∙ given i k h) small in
    let ws2 : Words = turned.ran.words in
    let values2 : Holds ws2 (w + 1) p = subst (Holds ws2 (w + 1)) is_point turned.held in
    let summed = sum_runs m (w + 1 + n) (w + 1) (Const (pos 0)) ws2 (pos 0) v xs refl (omega arith) refl values2 all (omega (arith, ints)) (omega (arith, ints)) in
    let ws3 : Words = summed.ran.words in
    let low3 = summed.ran.low in
    let sp : ℤ = score p in
    let zero_first : pos 0 +ℤ sp ≡ sp = omega (arith, ints) in
    let score3 : ws3 (w + 2 * n) ≡ Some sp = ap ws3 (let e : w + 2 * n ≡ w + 1 + n + m = omega arith in e) ∙ summed.sum_is ∙ ap Some zero_first in
    let ws4 : Words = put ws3 (w + 1 + 2 * n) (pos 1) in
    let ws5 : Words = put ws4 (w + 2 + 2 * n) sp in
    let low5 : (i : ℕ) → i < w + 1 + 2 * n → ws5 i ≡ ws3 i = λ i h. put_other ws4 (w + 2 + 2 * n) sp i (omega arith) ∙ put_other ws3 (w + 1 + 2 * n) (pos 1) i (omega arith) in
    let values5 : Holds ws5 (w + 1) p = holds_kept ws2 ws5 (w + 1) (w + 1 + n) p (λ i h. low5 i (omega arith) ∙ low3 i h) (omega arith) values2 in
    let copied = copy_runs n (w + 3 + 2 * n) (w + 1) p ws5 long (omega arith) values5 in
    let ws6 : Words = copied.ran.words in
    let low6 = copied.ran.low in
    let ws7 : Words = put ws6 (w + 3 + 3 * n) sp in
    let low7 : (i : ℕ) → i < w + 3 + 3 * n → ws7 i ≡ ws6 i = λ i h. put_other ws6 (w + 3 + 3 * n) sp i (omega arith) in
    let score6 : ws6 (w + 2 * n) ≡ Some sp = low6 (w + 2 * n) (omega arith) ∙ low5 (w + 2 * n) (omega arith) ∙ score3 in
    let last : List Op = Set (w + 3 + 3 * n) (Word (w + 2 * n)) ∷ [] in
    let copies : List Op = copy_ops n (w + 3 + 2 * n) (w + 1) ++ last in
    let op5 : List Op = Set (w + 2 + 2 * n) (Word (w + 2 * n)) ∷ copies in
    let op4 : List Op = Set (w + 1 + 2 * n) (Const (pos 1)) ∷ op5 in
    let sums : exec_ops (sum_ops n (w + 1 + n) (w + 1) (Const (pos 0))) ws2 ≡ Some ws3 = ap (λ (k : ℕ). exec_ops (sum_ops k (w + 1 + n) (w + 1) (Const (pos 0))) ws2) n_is ∙ summed.ran.is in
    let one : w + 1 + 2 * n + 1 ≡ w + 2 + 2 * n = omega arith in
    let three : w + 2 + 2 * n + 1 ≡ w + 3 + 2 * n = omega arith in
    record {
      words = ws7;
      is = two_runs ws w binary.Ne (Word 2) (Const (pos 0)) (truth bit) (pos 0) (turned_ops (w + 1) s.places s.max ++ (sum_ops n (w + 1 + n) (w + 1) (Const (pos 0)) ++ op4)) eb refl
          ∙ ap (λ (x : ℤ). exec_ops (turned_ops (w + 1) s.places s.max ++ (sum_ops n (w + 1 + n) (w + 1) (Const (pos 0)) ++ op4)) (put ws w x)) (ne_truth bit)
          ∙ ops_then (turned_ops (w + 1) s.places s.max) (sum_ops n (w + 1 + n) (w + 1) (Const (pos 0)) ++ op4) ws1 ws2 turned.ran.is
          ∙ ops_then (sum_ops n (w + 1 + n) (w + 1) (Const (pos 0))) op4 ws2 ws3 sums
          ∙ set_runs ws3 (w + 1 + 2 * n) (Const (pos 1)) (pos 1) op5 refl
          ∙ set_runs ws4 (w + 2 + 2 * n) (Word (w + 2 * n)) sp copies (put_other ws3 (w + 1 + 2 * n) (pos 1) (w + 2 * n) (omega arith) ∙ score3)
          ∙ ops_then (copy_ops n (w + 3 + 2 * n) (w + 1)) last ws5 ws6 copied.ran.is
          ∙ set_runs ws6 (w + 3 + 3 * n) (Word (w + 2 * n)) sp [] score6;
      gate_is = low7 w (omega arith) ∙ low6 w (omega arith) ∙ low5 w (omega arith) ∙ low3 w (omega arith) ∙ turned.ran.low w (omega arith) ∙ put_same ws w (truth bit) w refl;
      values_are = holds_kept ws5 ws7 (w + 1) (w + 1 + n) p (λ i h. low7 i (omega arith) ∙ low6 i (omega arith)) (omega arith) values5;
      score_is = low7 (w + 2 * n) (omega arith) ∙ score6;
      carried_is = (
        low7 (w + 1 + 2 * n) (omega arith) ∙ low6 (w + 1 + 2 * n) (omega arith) ∙ put_other ws4 (w + 2 + 2 * n) sp (w + 1 + 2 * n) (omega arith) ∙ put_same ws3 (w + 1 + 2 * n) (pos 1) (w + 1 + 2 * n) refl,
        (
          low7 (w + 1 + 2 * n + 1) (omega arith) ∙ low6 (w + 1 + 2 * n + 1) (omega arith) ∙ put_same ws4 (w + 2 + 2 * n) sp (w + 1 + 2 * n + 1) one,
          subst (λ (i : ℕ). Holds ws7 i p) (let e : w + 3 + 2 * n ≡ w + 1 + 2 * n + 1 + 1 = omega arith in e) (holds_kept ws6 ws7 (w + 3 + 2 * n) (w + 3 + 3 * n) p low7 (omega arith) copied.held),
        ),
      );
      key_is = put_same ws6 (w + 3 + 3 * n) sp (w + 3 + 3 * n) refl;
    }
