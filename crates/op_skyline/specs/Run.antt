-- The access of a point, and the ops that compare and carry. A point that isn't there is None.
use Rattle.std.proofs.Common.{◌≡◌, ◌<◌, ◌≤◌, ℕ, zero, suc, ◌+◌, ◌*◌, Bool, true, false, List, [], ◌∷◌, ◌++◌, ℤ, pos, int_le, int_lt, refl, ◌∙◌, ap, arith, Option, Some, None, length, get_or, replicate, subst}
use Rattle.std.specs.Prelude.{if◌then◌else◌, ◌&&◌}
use Rattle.std.proofs.lemmas.List.{length-replicate, get_or_at, set_at}
use Rattle.ch_ir.specs.declared.program.Operand.TheVariants.{Word}
use Rattle.ch_ir.specs.declared.program.Binary.TheVariants as binary
use Rattle.ch_ir.specs.declared.program.Op.{Op}
use Rattle.ch_ir.specs.declared.program.Op.TheVariants.{Two}
use Rattle.ch_ir.specs.declared.program.Test.TheVariants.{Less}
use Rattle.ch_ir.specs.declared.program.Update.TheVariants as update
use Rattle.ch_ir.specs.Machine.{Words, Registers, put, put_all, exec_ops, exec_access, truth, holds_at, update_all}
use Rattle.op_moves.specs.Values.{put_same, put_other, put_all_below}
use Rattle.op_skyline.specs.Emitted.{puts_from, point_access, compare_ops, carry_ops}
use Rattle.op_skyline.specs.Ops.{two_runs, pick_runs, and_truth}
use Rattle.op_skyline.specs.Policy.{score}

-- the words from a number on hold the values
abbrev pub Holds : Words → ℕ → List ℤ → Type 0
Holds ws from [] = Unit {0}
Holds ws from (v ∷ vs) = (ws from ≡ Some v) × Holds ws (from + 1) vs

pub holds_kept : (ws ws' : Words) (from n : ℕ) (vs : List ℤ) → ((m : ℕ) → m < n → ws' m ≡ ws m) → from + length vs ≤ n → Holds ws from vs → Holds ws' from vs
holds_kept ws ws' from n [] same b h = tt
holds_kept ws ws' from n (v ∷ vs) same b h = (same from (omega arith) ∙ h.0, holds_kept ws ws' (from + 1) n vs same (omega arith) h.1)

pub all_held : (ws : Words) (to : ℕ) (vs : List ℤ) → Holds (put_all ws to vs) to vs
all_held ws to [] = tt
all_held ws to (v ∷ vs) = (put_all_below (put ws to v) (to + 1) vs to (omega arith) ∙ put_same ws to v to refl, all_held (put ws to v) (to + 1) vs)

abbrev pub entry_of : ℕ → Option (List ℤ) → List ℤ
entry_of n None = replicate (suc (suc n)) (pos 0)
entry_of n (Some p) = pos 1 ∷ score p ∷ p

abbrev pub IsFormed : ℕ → Option (List ℤ) → Type 0
IsFormed n None = Unit {0}
IsFormed n (Some p) = length p ≡ n

pub entry_long : (n : ℕ) (c : Option (List ℤ)) → IsFormed n c → length (entry_of n c) ≡ suc (suc n)
entry_long n None f = length-replicate (suc (suc n)) (pos 0)
entry_long n (Some p) f = ap (λ (m : ℕ). suc (suc m)) f

puts_give : (ws : Words) (from : ℕ) (vs cells : List ℤ) (n : ℕ) → Holds ws from vs → length vs ≡ n → length cells ≡ n → update_all ws (puts_from n from) cells ≡ Some vs
puts_give ws from [] [] zero h a b = refl
puts_give ws from [] (x ∷ cells) zero h a b = absurd (omega arith)
puts_give ws from (v ∷ vs) cells zero h a b = absurd (omega arith)
puts_give ws from [] cells (suc n) h a b = absurd (omega arith)
puts_give ws from (v ∷ vs) [] (suc n) h a b = absurd (omega arith)
puts_give ws from (v ∷ vs) (x ∷ cells) (suc n) h a b = rw (h.0, puts_give ws (from + 1) vs cells n h.1 (omega arith) (omega arith)) refl

keeps : (ws : Words) (cells : List ℤ) (n : ℕ) → length cells ≡ n → update_all ws (replicate n update.Keep) cells ≡ Some cells
keeps ws [] zero h = refl
keeps ws [] (suc n) h = absurd (omega arith)
keeps ws (x ∷ cells) zero h = absurd (omega arith)
keeps ws (x ∷ cells) (suc n) h = rw (keeps ws cells n (omega arith)) refl

-- the entry is free, or its score is below the key
abbrev pub is_lower : ℤ → Option (List ℤ) → Bool
is_lower key None = true
is_lower key (Some p) = int_lt (score p) key

lower_is : (n : ℕ) (key : ℤ) (d : Option (List ℤ)) → holds_at (Less 1) (key ∷ []) (entry_of n d) ≡ is_lower key d
lower_is n key None = refl
lower_is n key (Some p) = refl

pub point_made : (n array base gate carry key : ℕ) (ws : Words) (front rest : Registers) (c d : Option (List ℤ)) (g : Bool) (kv : ℤ)
    → length front ≡ array → ws gate ≡ Some (truth g) → ws key ≡ Some kv → Holds ws carry (entry_of n c) → IsFormed n c → IsFormed n d
    → exec_access (suc (suc n)) (point_access n array base gate carry key) (record { words = ws; registers = front ++ (entry_of n d ∷ []) ∷ rest })
    ≡ Some (record {
      words = put (put_all ws base (if g then entry_of n d else replicate (suc (suc n)) (pos 0))) (base + n + 2) (truth (g && is_lower kv d));
      registers = front ++ (entry_of n (if g && is_lower kv d then c else d) ∷ []) ∷ rest;
    })
point_made n array base gate carry key ws front rest c d false kv lf eg ek hc fc fd = rw eg refl
point_made n array base gate carry key ws front rest c d true kv lf eg ek hc fc fd = go (is_lower kv d) refl
  where
    at_array : get_or (front ++ (entry_of n d ∷ []) ∷ rest) array [] ≡ entry_of n d ∷ []
    at_array = get_or_at front (entry_of n d ∷ []) rest [] array lf

    test : holds_at (Less 1) (kv ∷ []) (entry_of n d) ≡ is_lower kv d
    test = lower_is n kv d

    go : (b : Bool) → is_lower kv d ≡ b
        → exec_access (suc (suc n)) (point_access n array base gate carry key) (record { words = ws; registers = front ++ (entry_of n d ∷ []) ∷ rest })
        ≡ Some (record { words = put (put_all ws base (entry_of n d)) (base + n + 2) (truth b); registers = front ++ (entry_of n (if b then c else d) ∷ []) ∷ rest })
    go true t = rw (eg, at_array, ek, at_array, test, t, puts_give ws carry (entry_of n c) (entry_of n d) (suc (suc n)) hc (entry_long n c fc) (entry_long n d fd), set_at front (entry_of n d ∷ []) rest (entry_of n c ∷ []) array lf) refl
    go false t = rw (eg, at_array, ek, at_array, test, t, keeps ws (entry_of n d) (suc (suc n)) (entry_long n d fd), set_at front (entry_of n d ∷ []) rest (entry_of n d ∷ []) array lf) refl

-- what some ops leave: the words before a number stay
pub record Ran (ops : List Op) (ws : Words) (from : ℕ) : Type 0 where
  pub words : Words
  pub is : exec_ops ops ws ≡ Some words
  pub low : (m : ℕ) → m < from → words m ≡ ws m

-- in each dimension the first value is at most the second
abbrev pub all_le : List ℤ → List ℤ → Bool
all_le [] os = true
all_le (x ∷ xs) [] = true
all_le (x ∷ xs) (o ∷ os) = int_le x o && all_le xs os

pub record Compared (n x old prev : ℕ) (ws : Words) (a : Bool) : Type 0 where
  pub ran : Ran (compare_ops n x old prev) ws (prev + 1)
  pub told : ran.words (prev + 2 * n) ≡ Some (truth a)

pub compare_runs : (n x old prev : ℕ) (ws : Words) (xs os : List ℤ) (a : Bool) → length xs ≡ n → length os ≡ n → x + n ≤ prev → old + n ≤ prev
    → Holds ws x xs → Holds ws old os → ws prev ≡ Some (truth a) → Compared n x old prev ws (a && all_le xs os)
compare_runs zero x old prev ws [] os a lx lo bx bo hx ho ea =
    record { ran = record { words = ws; is = refl; low = λ m p. refl }; told = ap ws (let e : prev + 2 * 0 ≡ prev = omega arith in e) ∙ ea ∙ ap (λ (b : Bool). Some (truth b)) (none a) }
  where
    none : (b : Bool) → b ≡ (b && true)
    none true = refl
    none false = refl
compare_runs zero x old prev ws (v ∷ xs) os a lx lo bx bo hx ho ea = absurd (omega arith)
compare_runs (suc n) x old prev ws [] os a lx lo bx bo hx ho ea = absurd (omega arith)
compare_runs (suc n) x old prev ws (v ∷ xs) [] a lx lo bx bo hx ho ea = absurd (omega arith)
compare_runs (suc n) x old prev ws (v ∷ xs) (o ∷ os) a lx lo bx bo hx ho ea =
    let le : Bool = int_le v o in
    let ws1 : Words = put ws (prev + 1) (truth le) in
    let ws2 : Words = put ws1 (prev + 2) (truth (a && le)) in
    let low2 : (m : ℕ) → m < prev + 1 → ws2 m ≡ ws m = λ m p. put_other ws1 (prev + 2) (truth (a && le)) m (omega arith) ∙ put_other ws (prev + 1) (truth le) m (omega arith) in
    let more = compare_runs n (x + 1) (old + 1) (prev + 2) ws2 xs os (a && le) (omega arith) (omega arith) (omega arith) (omega arith)
    (holds_kept ws ws2 (x + 1) (prev + 1) xs low2 (omega arith) hx.1) (holds_kept ws ws2 (old + 1) (prev + 1) os low2 (omega arith) ho.1) (put_same ws1 (prev + 2) (truth (a && le)) (prev + 2) refl) in
    let rest : List Op = compare_ops n (x + 1) (old + 1) (prev + 2) in
    let last : List Op = Two (prev + 2) binary.And (Word prev) (Word (prev + 1)) ∷ rest in
    let low = more.ran.low in
    record {
      ran = record {
        words = more.ran.words;
        is = two_runs ws (prev + 1) binary.Le (Word x) (Word old) v o last hx.0 ho.0
            ∙ two_runs ws1 (prev + 2) binary.And (Word prev) (Word (prev + 1)) (truth a) (truth le) rest (put_other ws (prev + 1) (truth le) prev (omega arith) ∙ ea) (put_same ws (prev + 1) (truth le) (prev + 1) refl)
            ∙ ap (λ (y : ℤ). exec_ops rest (put ws1 (prev + 2) y)) (and_truth a le) ∙ more.ran.is;
        low = λ m p. low m (omega arith) ∙ low2 m p;
      };
      told = ap more.ran.words (let e : prev + 2 * suc n ≡ prev + 2 + 2 * n = omega arith in e) ∙ more.told ∙ ap (λ (b : Bool). Some (truth b)) (turned a le (all_le xs os));
    }
  where
    turned : (a b c : Bool) → ((a && b) && c) ≡ (a && (b && c))
    turned true b c = refl
    turned false b c = refl

pub record Carried (n to hit old carry : ℕ) (ws : Words) (vs : List ℤ) : Type 0 where
  pub ran : Ran (carry_ops n to hit old carry) ws to
  pub held : Holds ran.words to vs

pub carry_runs : (n to hit old carry : ℕ) (ws : Words) (os cs : List ℤ) (h : Bool) → length os ≡ n → length cs ≡ n → hit < to → old + n ≤ to → carry + n ≤ to
    → ws hit ≡ Some (truth h) → Holds ws old os → Holds ws carry cs → Carried n to hit old carry ws (if h then os else cs)
carry_runs zero to hit old carry ws [] [] h lo lc bh bo bc eh ho hc = record { ran = record { words = ws; is = refl; low = λ m p. refl }; held = go h }
  where
    go : (b : Bool) → Holds ws to (if b then [] else [])
    go true = tt
    go false = tt
carry_runs zero to hit old carry ws (o ∷ os) cs h lo lc bh bo bc eh ho hc = absurd (omega arith)
carry_runs zero to hit old carry ws [] (v ∷ cs) h lo lc bh bo bc eh ho hc = absurd (omega arith)
carry_runs (suc n) to hit old carry ws [] cs h lo lc bh bo bc eh ho hc = absurd (omega arith)
carry_runs (suc n) to hit old carry ws (o ∷ os) [] h lo lc bh bo bc eh ho hc = absurd (omega arith)
carry_runs (suc n) to hit old carry ws (o ∷ os) (v ∷ cs) h lo lc bh bo bc eh ho hc =
    let y : ℤ = if h then o else v in
    let ws1 : Words = put ws to y in
    let low1 : (m : ℕ) → m < to → ws1 m ≡ ws m = λ m p. put_other ws to y m (omega arith) in
    let more = carry_runs n (to + 1) hit (old + 1) (carry + 1) ws1 os cs h (omega arith) (omega arith) (omega arith) (omega arith) (omega arith) (low1 hit bh ∙ eh)
    (holds_kept ws ws1 (old + 1) to os low1 (omega arith) ho.1) (holds_kept ws ws1 (carry + 1) to cs low1 (omega arith) hc.1) in
    let low = more.ran.low in
    record {
      ran = record {
        words = more.ran.words;
        is = pick_runs ws to (Word hit) (Word old) (Word carry) h o v (carry_ops n (to + 1) hit (old + 1) (carry + 1)) eh ho.0 hc.0 ∙ more.ran.is;
        low = λ m p. low m (omega arith) ∙ low1 m p;
      };
      held = subst (Holds more.ran.words to) (both h) (low to (omega arith) ∙ put_same ws to y to refl, more.held);
    }
  where
    both : (b : Bool) → (if b then o else v) ∷ (if b then os else cs) ≡ (if b then o ∷ os else v ∷ cs)
    both true = refl
    both false = refl
