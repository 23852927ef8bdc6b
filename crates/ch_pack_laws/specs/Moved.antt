-- What a moved program reads and assigns, over functions of words of any kind: values, or what is known of them.
use Rattle.std.proofs.Common.{◌≡◌, ◌≢◌, ◌<◌, ◌≤◌, ℕ, zero, suc, ◌+◌, List, [], ◌∷◌, ◌++◌, refl, sym, ◌∙◌, ap, arith, inl, inr, Option, Some, None, length, get_or, set, nat_eq}
use Rattle.std.specs.Prelude.{if◌then◌else◌}
use Rattle.std.specs.Option.{option_and_then, option_map}
use Rattle.std.proofs.lemmas.Bool.{cases_eq, cases_lt, eq-eqb, ne_eqb, lt-ltb, le-ltb}
use Rattle.ch_pack_laws.specs.declared.Seat.{Seat}
use Rattle.ch_pack_laws.specs.Packed.{moved_word}

-- the moved words are apart from the given ones
abbrev pub IsSeat : Seat → Type 0
IsSeat m = m.width ≤ m.shift

pub moved_low : (m : Seat) (w : ℕ) → w < m.width → moved_word m w ≡ w
unfolding moved_word
moved_low m w h = rw (lt-ltb w m.width h) refl

pub moved_high : (m : Seat) (w : ℕ) → m.width ≤ w → moved_word m w ≡ w + m.shift
unfolding moved_word
moved_high m w h = rw (le-ltb w m.width h) refl

pub moved_apart : (m : Seat) (w v : ℕ) → IsSeat m → w ≢ v → moved_word m w ≢ moved_word m v
moved_apart m w v k h = λ e. elim (cases_lt w m.width) [
  | inl a ↦ elim (cases_lt v m.width) [
    | inl b ↦ h (sym (moved_low m w a) ∙ (e ∙ moved_low m v b))
    | inr b ↦ let x : w ≡ v + m.shift = sym (moved_low m w a) ∙ (e ∙ moved_high m v b) in absurd (omega arith)
  ]
  | inr a ↦ elim (cases_lt v m.width) [
    | inl b ↦ let x : w + m.shift ≡ v = sym (moved_high m w a) ∙ (e ∙ moved_low m v b) in absurd (omega arith)
    | inr b ↦ let x : w + m.shift ≡ v + m.shift = sym (moved_high m w a) ∙ (e ∙ moved_high m v b) in h (omega arith)
  ]
]

-- a word between the given and the moved ones is none of them
pub moved_not : (m : Seat) (w c : ℕ) → m.width ≤ c → c < m.shift → moved_word m w ≢ c
moved_not m w c k h = λ e. elim (cases_lt w m.width) [
  | inl a ↦ let x : w ≡ c = sym (moved_low m w a) ∙ e in absurd (omega arith)
  | inr a ↦ let x : w + m.shift ≡ c = sym (moved_high m w a) ∙ e in absurd (omega arith)
]

abbrev pub assigned : {A : Type 0} → (ℕ → Option A) → ℕ → A → ℕ → Option A
assigned f to v w = if nat_eq w to then Some v else f w

pub assigned_same : {A : Type 0} (f : ℕ → Option A) (to : ℕ) (v : A) (w : ℕ) → w ≡ to → assigned f to v w ≡ Some v
assigned_same f to v w e = rw (eq-eqb w to e) refl

pub assigned_other : {A : Type 0} (f : ℕ → Option A) (to : ℕ) (v : A) (w : ℕ) → w ≢ to → assigned f to v w ≡ f w
assigned_other f to v w e = rw (ne_eqb w to e) refl

-- the moved program sees at the moved places what the program sees
pub record Mirrors {A : Type 0} (m : Seat) (f g : ℕ → Option A) : Type 0 where
  pub same : (w : ℕ) → g (moved_word m w) ≡ f w

pub mirror_put : {A : Type 0} (m : Seat) (f g : ℕ → Option A) (to : ℕ) (v : A) → IsSeat m → Mirrors m f g → Mirrors m (assigned f to v) (assigned g (moved_word m to) v)
mirror_put m f g to v k s = record {
  same = λ w. elim (cases_eq w to) [
    | inl e ↦ assigned_same g (moved_word m to) v (moved_word m w) (ap (moved_word m) e) ∙ sym (assigned_same f to v w e)
    | inr e ↦ assigned_other g (moved_word m to) v (moved_word m w) (moved_apart m w to k e) ∙ (s.same w ∙ sym (assigned_other f to v w e))
  ];
}

pub mirror_between : {A : Type 0} (m : Seat) (f g : ℕ → Option A) (c : ℕ) (v : A) → m.width ≤ c → c < m.shift → Mirrors m f g → Mirrors m f (assigned g c v)
mirror_between m f g c v k h s = record { same = λ w. assigned_other g c v (moved_word m w) (moved_not m w c k h) ∙ s.same w }

-- Both have a value, or neither has
abbrev pub Both : {A B : Type 0} → (A → B → Type 0) → Option A → Option B → Type 0
Both R None None = Unit {0}
Both R None (Some b) = ⊥
Both R (Some a) None = ⊥
Both R (Some a) (Some b) = R a b

pub both_then : {A B C D : Type 0} (R : A → B → Type 0) (S : C → D → Type 0) (o : Option A) (p : Option B) (f : A → Option C) (g : B → Option D)
    → Both R o p → ((a : A) (b : B) → R a b → Both S (f a) (g b)) → Both S (option_and_then f o) (option_and_then g p)
both_then R S None None f g h k = tt
both_then R S None (Some b) f g h k = elim h [ ]
both_then R S (Some a) None f g h k = elim h [ ]
both_then R S (Some a) (Some b) f g h k = k a b h

pub same_then : {A C D : Type 0} (S : C → D → Type 0) (o : Option A) (f : A → Option C) (g : A → Option D) → ((a : A) → Both S (f a) (g a)) → Both S (option_and_then f o) (option_and_then g o)
same_then S None f g k = tt
same_then S (Some a) f g k = k a

pub same_map : {A C D : Type 0} (S : C → D → Type 0) (o : Option A) (f : A → C) (g : A → D) → ((a : A) → o ≡ Some a → S (f a) (g a)) → Both S (option_map f o) (option_map g o)
same_map S None f g k = tt
same_map S (Some a) f g k = k a refl

-- Lists with others in front of them and behind

pub beside_get : {A : Type 0} (front own rest : List A) (a n : ℕ) (d : A) → length front ≡ n → a < length own → get_or (front ++ (own ++ rest)) (n + a) d ≡ get_or own a d
beside_get [] [] rest a n d e h = absurd (omega arith)
beside_get [] (x ∷ own) rest zero n d e h = let z : n + zero ≡ zero = omega arith in rw z refl
beside_get [] (x ∷ own) rest (suc a) n d e h = let z : n + suc a ≡ suc (0 + a) = omega arith in rw z (beside_get [] own rest a 0 d refl (omega arith))
beside_get (y ∷ front) own rest a zero d e h = absurd (omega arith)
beside_get (y ∷ front) own rest a (suc n) d e h = let z : suc n + a ≡ suc (n + a) = omega arith in rw z (beside_get front own rest a n d (omega arith) h)

pub beside_set : {A : Type 0} (front own rest : List A) (a n : ℕ) (v : A) → length front ≡ n → a < length own → set (front ++ (own ++ rest)) (n + a) v ≡ front ++ (set own a v ++ rest)
beside_set [] [] rest a n v e h = absurd (omega arith)
beside_set [] (x ∷ own) rest zero n v e h = let z : n + zero ≡ zero = omega arith in rw z refl
beside_set {A} [] (x ∷ own) rest (suc a) n v e h =
    let z : n + suc a ≡ suc (0 + a) = omega arith in rw z (ap (λ (xs : List A). x ∷ xs) (beside_set [] own rest a 0 v refl (omega arith)))
beside_set (y ∷ front) own rest a zero v e h = absurd (omega arith)
beside_set {A} (y ∷ front) own rest a (suc n) v e h =
    let z : suc n + a ≡ suc (n + a) = omega arith in rw z (ap (λ (xs : List A). y ∷ xs) (beside_set front own rest a n v (omega arith) h))
