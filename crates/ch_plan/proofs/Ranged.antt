-- A profile that is read has its numbers in their ranges.
use Rattle.std.proofs.Common.{◌≡◌, ℕ, Bool, true, false, refl, arith, List, [], ◌∷◌, Option, Some, None, ℤ, pos, negsuc, subst, if◌then◌else◌, ◌&&◌, nat_le, ◌+◌}
use Rattle.std.proofs.lemmas.Bool.{and_parts, leb-true}
use Rattle.std.specs.declared.result.Result.{Result}
use Rattle.std.specs.declared.result.Result.TheVariants.{Ok, Err}
use Rattle.ch_cells.specs.Number.{number_of}
use Rattle.ch_lines.specs.Lines.{fields_of, lines_of, says}
use Rattle.ch_ir.specs.declared.profile.Profile.{Profile}
use Rattle.ch_ir.specs.declared.read.ProfileWhy.{ProfileWhy}
use Rattle.ch_ir.specs.declared.read.ProfileWhy.TheVariants as why
use Rattle.ch_ir.specs.declared.setting.Setting.{Setting}
use Rattle.ch_ir.specs.declared.setting.Setting.TheVariants.{Stages, Cells, Ops, Words, Width, Window, DistinctRows, DistinctCols, GroupRows, GroupCols, TopSteps, TopGap, SketchHashes, SketchCells, BloomHashes, BloomCells, SkylinePoints}
use Rattle.ch_ir.specs.Profile.{Said, and_then, default_settings, fields_said, is_number, line_said, lines_said, none_given, number_of_setting, profile_of, range_of, setting_named, setting_said, value_said, with_setting, within_range}
use Rattle.ch_plan.specs.Ranged.{IsRanged, Ranges, value_of}

-- a number that is set leaves the others as they are
kept : (p : Profile) (s t : Setting) (v : ℕ) → Ranges s v → Ranges t (value_of p t) → Ranges t (value_of (with_setting p s v) t)
kept p Stages Stages v hs ht = hs
kept p Cells Cells v hs ht = hs
kept p Ops Ops v hs ht = hs
kept p Words Words v hs ht = hs
kept p Width Width v hs ht = hs
kept p Window Window v hs ht = hs
kept p DistinctRows DistinctRows v hs ht = hs
kept p DistinctCols DistinctCols v hs ht = hs
kept p GroupRows GroupRows v hs ht = hs
kept p GroupCols GroupCols v hs ht = hs
kept p TopSteps TopSteps v hs ht = hs
kept p TopGap TopGap v hs ht = hs
kept p SketchHashes SketchHashes v hs ht = hs
kept p SketchCells SketchCells v hs ht = hs
kept p BloomHashes BloomHashes v hs ht = hs
kept p BloomCells BloomCells v hs ht = hs
kept p SkylinePoints SkylinePoints v hs ht = hs
kept p s t v hs ht = ht

pub default_is_ranged : IsRanged default_settings
default_is_ranged Stages = (omega arith, omega arith)
default_is_ranged Cells = (omega arith, omega arith)
default_is_ranged Ops = (omega arith, omega arith)
default_is_ranged Words = (omega arith, omega arith)
default_is_ranged Width = (omega arith, omega arith)
default_is_ranged Window = (omega arith, omega arith)
default_is_ranged DistinctRows = (omega arith, omega arith)
default_is_ranged DistinctCols = (omega arith, omega arith)
default_is_ranged GroupRows = (omega arith, omega arith)
default_is_ranged GroupCols = (omega arith, omega arith)
default_is_ranged TopSteps = (omega arith, omega arith)
default_is_ranged TopGap = (omega arith, omega arith)
default_is_ranged SketchHashes = (omega arith, omega arith)
default_is_ranged SketchCells = (omega arith, omega arith)
default_is_ranged BloomHashes = (omega arith, omega arith)
default_is_ranged BloomCells = (omega arith, omega arith)
default_is_ranged SkylinePoints = (omega arith, omega arith)

one_value : {A B : Type 0} (a b : A) (r : Result A B) → r ≡ Ok a → r ≡ Ok b → a ≡ b
one_value a b r x y = cc

otherwise : (t : Bool) (w : ProfileWhy) (r : Result Said ProfileWhy) (next : Said) → (if t then Err w else r) ≡ Ok next → r ≡ Ok next
otherwise true w r next e = cc
otherwise false w r next e = e

only : (t : Bool) (r : Result Said ProfileWhy) (w : ProfileWhy) (next : Said) → (if t then r else Err w) ≡ Ok next → r ≡ Ok next
only true r w next e = e
only false r w next e = cc

value_step : (said : Said) (s : Setting) (read : Option ℤ) (next : Said) → IsRanged said.profile → value_said said s (within_range (range_of s) read) ≡ Ok next → IsRanged next.profile
value_step said s None next h e = cc
value_step said s (Some (negsuc n)) next h e = cc
value_step said s (Some (pos n)) next h e = go (nat_le (range_of s).low n && nat_le n (range_of s).high) refl e
  where
    go : (t : Bool) → (nat_le (range_of s).low n && nat_le n (range_of s).high) ≡ t → value_said said s (if t then Some n else None) ≡ Ok next → IsRanged next.profile
    go false x e = cc
    go true x e =
        let both = and_parts _ _ x in
        subst (λ (z : Said). IsRanged z.profile) (one_value _ _ _ refl e) (λ t. kept said.profile s t n (leb-true _ _ both.0, leb-true _ _ both.1) (h t))

setting_step : (said : Said) (s : Option Setting) (number : List ℕ) (next : Said) → IsRanged said.profile → setting_said said s number ≡ Ok next → IsRanged next.profile
setting_step said None number next h e = cc
setting_step said (Some s) number next h e =
    value_step said s (number_of number) next h (only (is_number number) _ why.BadNumber next (otherwise (said.given (number_of_setting s)) why.Repeated _ next e))

fields_step : (said : Said) (fields : List (List ℕ)) (next : Said) → IsRanged said.profile → fields_said said fields ≡ Ok next → IsRanged next.profile
fields_step said [] next h e = cc
fields_step said (name ∷ []) next h e = cc
fields_step said (name ∷ number ∷ []) next h e = setting_step said (setting_named name) number next h e
fields_step said (name ∷ number ∷ more ∷ others) next h e = cc

line_step : (said : Said) (fields : List (List ℕ)) (next : Said) → IsRanged said.profile → line_said said fields ≡ Ok next → IsRanged next.profile
line_step said fields next h e = go (says fields) e
  where
    go : (t : Bool) → (if t then fields_said said fields else Ok said) ≡ Ok next → IsRanged next.profile
    go true e = fields_step said fields next h e
    go false e = subst (λ (z : Said). IsRanged z.profile) (one_value _ _ _ refl e) h

lines_step : (at : ℕ) (said : Said) (lines : List (List ℕ)) (p : Profile) → IsRanged said.profile → lines_said at said lines ≡ Ok p → IsRanged p
lines_step at said [] p h e = subst IsRanged (one_value _ _ _ refl e) h
lines_step at said (line ∷ lines) p h e = go (line_said said (fields_of line)) refl (λ now. lines_step (at + 1) now lines p) e
  where
    go : (r : Result Said ProfileWhy) → line_said said (fields_of line) ≡ r → ((now : Said) → IsRanged now.profile → lines_said (at + 1) now lines ≡ Ok p → IsRanged p)
        → and_then at r (λ now. lines_said (at + 1) now lines) ≡ Ok p → IsRanged p
    go (Ok now) x rest e = rest now (line_step said (fields_of line) now h x) e
    go (Err reason) x rest e = cc

pub read_is_ranged : (text : List ℕ) (p : Profile) → profile_of text ≡ Ok p → IsRanged p
unfolding profile_of
read_is_ranged text p e = lines_step 1 (record { profile = default_settings; given = none_given }) (lines_of text) p default_is_ranged e
