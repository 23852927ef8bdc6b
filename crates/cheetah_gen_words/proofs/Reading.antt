-- The generated files are read whole.
use Rattle.std.proofs.Common.{◌≡◌, ◌≤◌, ◌+◌, ◌-◌, ◌∙◌, ◌++◌, ap, append_assoc, arith, codes, cond, length, map, refl, sym, Bool, true, false, List, [], ◌∷◌, Some, Ok, ℕ}
use Rattle.std.specs.Prelude.{min, nat_le, sum_by}
use Rattle.std.specs.List.{AllByRecursion}
use Rattle.std.proofs.lemmas.Bool.Decides.{nat_tests}
use Rattle.std.proofs.lemmas.List.{append-nil}
use Rattle.std.proofs.lemmas.List.Sums.{sum_by-cons, sum_by_push}
use Rattle.ch_command.specs.Reading.{read_all, read_on, taken}
use Rattle.ch_generated.specs.Draws.{generator_of}
use Rattle.ch_generated.specs.Inputs.{files_of, is_join, schedule_begins, u_begins, workers_of}
use Rattle.ch_generated.specs.ScheduleText.{schedule_text}
use Rattle.ch_generated.specs.TableText.{t_part_text, t_rows, u_text}
use Rattle.ch_generated.specs.declared.Request.{Request}
use Rattle.cheetah_gen_words.specs.Asked.{names_asked, parts_by}
use Rattle.cheetah_gen_words.specs.Files.{AreShort, contents_of, files_told, size_of}
use Rattle.ch_outside.specs.MapShelf.{bytes_at}
use Rattle.ch_outside.specs.Shelf.{Files}

-- files of these names have these contents, none too long
abbrev AreThere : Files → List (List ℕ) → List (List ℕ) → Type 0
AreThere files [] [] = Unit {0}
AreThere files [] (bytes ∷ contents) = ⊥
AreThere files (name ∷ names) [] = ⊥
AreThere files (name ∷ names) (bytes ∷ contents) = (files name ≡ Some bytes) × (length bytes ≤ 67108864) × AreThere files names contents

within_limit : (before bytes : ℕ) → bytes ≤ 67108864 → before + bytes ≤ 536870912 → nat_le bytes (min 67108864 (536870912 - before)) ≡ true
within_limit before bytes h all = let le : bytes ≤ min 67108864 (536870912 - before) = omega arith in grind (arith, nat_tests)

read_within : (files : Files) (read names contents : List (List ℕ)) → AreThere files names contents → taken read + taken contents ≤ 536870912 → read_on files read names ≡ Ok (read ++ contents)
read_within files read [] [] there all = ap Ok (sym (append-nil read))
read_within files read [] (bytes ∷ contents) there all = absurd there
read_within files read (name ∷ names) [] there all = absurd there
read_within files read (name ∷ names) (bytes ∷ contents) there all =
    let both : taken (bytes ∷ contents) ≡ length bytes + taken contents = sum_by-cons length bytes contents in
    let more : taken (read ++ bytes ∷ []) ≡ taken read + length bytes = sum_by_push length read bytes in
    let le = within_limit (taken read) (length bytes) there.1 (omega (arith, both, all)) in
    let rest = read_within files (read ++ bytes ∷ []) names contents there.2 (omega (arith, both, more, all)) in
    let step : read_on files read (name ∷ names) ≡ read_on files (read ++ bytes ∷ []) names = rw (there.0, le) refl in
    step ∙ (rest ∙ ap Ok (append_assoc read (bytes ∷ []) contents))

five_sum : {X : Type 0} (f : X → ℕ) (a b c d e : X) → sum_by f (a ∷ b ∷ c ∷ d ∷ e ∷ []) ≡ f a + (f b + (f c + (f d + (f e + 0))))
five_sum f a b c d e = simp (sum_by-cons f)

six_sum : {X : Type 0} (f : X → ℕ) (a b c d e g : X) → sum_by f (a ∷ b ∷ c ∷ d ∷ e ∷ g ∷ []) ≡ f a + (f b + (f c + (f d + (f e + (f g + 0)))))
six_sum f a b c d e g = simp (sum_by-cons f)

-- what they hold, in the order in which they are read
abbrev contents_by : Bool → List ℕ → List (List ℕ) → List ℕ → List (List ℕ)
contents_by join schedule texts u = schedule ∷ texts ++ (cond join (u ∷ []) [])

module _ (a b c d u s : List ℕ) where
  abbrev t_list : List (List ℕ × List ℕ)
  t_list = (codes "t0", a) ∷ (codes "t1", b) ∷ (codes "t2", c) ∷ (codes "t3", d) ∷ []

  abbrev list_by : Bool → List (List ℕ × List ℕ)
  list_by join = t_list ++ ((cond join ((codes "u0", u) ∷ []) []) ++ (codes "s", s) ∷ [])

  abbrev names_by : Bool → List (List ℕ)
  names_by join = codes "s" ∷ codes "t0" ∷ codes "t1" ∷ codes "t2" ∷ codes "t3" ∷ (cond join (codes "u0" ∷ []) [])

  there_by : (join : Bool) → AllByRecursion (λ (file : List ℕ × List ℕ). size_of file ≤ 67108864) (list_by join) → AreThere (bytes_at (list_by join)) (names_by join) (contents_by join s (a ∷ b ∷ c ∷ d ∷ []) u)
  there_by true h = (refl, h.1.1.1.1.1.0, (refl, h.0, (refl, h.1.0, (refl, h.1.1.0, (refl, h.1.1.1.0, (refl, h.1.1.1.1.0, tt))))))
  there_by false h = (refl, h.1.1.1.1.0, (refl, h.0, (refl, h.1.0, (refl, h.1.1.0, (refl, h.1.1.1.0, tt)))))

  taken_by : (join : Bool) → sum_by size_of (list_by join) ≤ 536870912 → taken (contents_by join s (a ∷ b ∷ c ∷ d ∷ []) u) ≤ 536870912
  taken_by true h = omega (arith, h, six_sum size_of (codes "t0", a) (codes "t1", b) (codes "t2", c) (codes "t3", d) (codes "u0", u) (codes "s", s), six_sum length s a b c d u)
  taken_by false h = omega (arith, h, five_sum size_of (codes "t0", a) (codes "t1", b) (codes "t2", c) (codes "t3", d) (codes "s", s), five_sum length s a b c d)

pub files_are_read : (request : Request) → AreShort (files_of request) → read_all (files_told request) (names_asked request.kind) ≡ Ok (contents_of request)
unfolding files_of
files_are_read request short =
    let join = is_join request.kind in
    let rows = t_rows request.rows (generator_of request.seed) in
    let a = t_part_text 0 rows in
    let b = t_part_text 1 rows in
    let c = t_part_text 2 rows in
    let d = t_part_text 3 rows in
    let u = u_text (u_begins request) in
    let s = schedule_text (workers_of request.kind) (schedule_begins request) in
    let all : taken (contents_of request) ≤ 536870912 = taken_by a b c d u s join short.together in
    named join (read_within (files_told request) [] (names_by a b c d u s join) (contents_of request) (there_by a b c d u s join short.each) (omega (arith, all)))
  where
    named : (join : Bool) → read_all (files_told request) (codes "s" ∷ codes "t0" ∷ codes "t1" ∷ codes "t2" ∷ codes "t3" ∷ (cond join (codes "u0" ∷ []) [])) ≡ Ok (contents_of request)
        → read_all (files_told request) (codes "s" ∷ map (λ part. part.file) (parts_by join)) ≡ Ok (contents_of request)
    named true e = e
    named false e = e
