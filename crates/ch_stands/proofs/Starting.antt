-- The parties of a run at its start.
use Rattle.std.proofs.Common.{◌≡◌, ℕ, zero, suc, ◌+◌, ◌*◌, ◌<◌, ◌≤◌, Bool, true, false, ◌&&◌, List, [], ◌∷◌, length, map, replicate, refl, ap, sym, ◌∙◌, arith, inl, inr, subst}
use Rattle.std.specs.Prelude.{slice_index, slice_index_or, sum_by, nat_lt}
use Rattle.std.specs.List.{fold}
use Rattle.std.proofs.lemmas.List.{length-replicate}
use Rattle.ch_ends.specs.Bits.{has_bit}
use Rattle.ch_ends.specs.Master.{Receipts, no_bits, no_receipts, flows_of, bits_of, holds}
use Rattle.ch_ends.specs.Worker.{Progress, IsAt}
use Rattle.ch_protocol.specs.Packets.{Part, Tuple, Name}
use Rattle.ch_protocol.specs.Sender.{first_number, none_acked}
use Rattle.ch_protocol.specs.Machine.{Config, size, workers, total, rows_in}
use Rattle.ch_protocol.specs.Forwarder.{none_expected}
use Rattle.ch_verdicts.specs.Handed.{IsPass}
use Rattle.ch_switch.specs.Switching.{Switching, place_of, fresh}
use Rattle.ch_survival.specs.Given.{Given}
use Rattle.ch_stands.specs.Parties.{WorkersStand, MasterStands, SwitchStands, first_undone}
use Rattle.ch_stands.specs.Team.{sizes_of}
use Rattle.ch_stands.proofs.Lists.{length-map}
use Rattle.ch_stands.proofs.Restarting.{least_none}

-- the numbers of rows are the workers' sizes
rows_many : (ps : List Part) → length (sizes_of ps) ≡ length (map rows_in ps)
rows_many [] = refl
rows_many (p ∷ ps) = ap suc (rows_many ps)

rows_size : (p : Part) → length p.tuples ≡ length (rows_in p)
rows_size p = sym (length-map _ p.tuples)

rows_at : (ps : List Part) (w : ℕ) → slice_index (sizes_of ps) w ≡ length (slice_index_or (map rows_in ps) w [])
rows_at [] w = refl
rows_at (p ∷ ps) zero = rows_size p
rows_at (p ∷ ps) (suc w) = rows_at ps w

rows_fold : (a : ℕ) (ps : List Part) → fold (λ a n. a + n) a (sizes_of ps) ≡ fold (λ a rows. a + length rows) a (map rows_in ps)
rows_fold a [] = refl
rows_fold a (p ∷ ps) = ap (λ n. fold (λ b m. b + m) (a + n) (sizes_of ps)) (rows_size p) ∙ rows_fold (a + length (rows_in p)) ps

pub many_is : (c : Config) → length (sizes_of c.parts) ≡ workers c
many_is c = rows_many c.parts

pub size_at : (c : Config) (w : ℕ) → slice_index (sizes_of c.parts) w ≡ size c w
size_at c w = rows_at c.parts w

pub total_is : (c : Config) → sum_by (λ n. n) (sizes_of c.parts) ≡ total c
total_is c = rows_fold 0 c.parts

-- no bit of the receipts is set
replicate_false : (n k : ℕ) → slice_index_or (replicate n false) k false ≡ false
replicate_false zero k = refl
replicate_false (suc n) zero = refl
replicate_false (suc n) (suc k) = replicate_false n k

no_bit : (rows : List ℕ) (w k : ℕ) → has_bit (slice_index_or (no_bits rows) w []) k ≡ false
no_bit [] w k = refl
no_bit (n ∷ rows) zero k = replicate_false (n + 1) k
no_bit (n ∷ rows) (suc w) k = no_bit rows w k

bits_long : (rows : List ℕ) (w : ℕ) → w < length rows → length (slice_index_or (no_bits rows) w []) ≡ slice_index rows w + 1
bits_long [] w lt = absurd (omega arith)
bits_long (n ∷ rows) zero lt = length-replicate (n + 1) false
bits_long (n ∷ rows) (suc w) lt = bits_long rows w (omega (arith, lt))

flows_is : (rows : List ℕ) (pass : ℕ) → IsPass pass → flows_of (no_receipts rows) pass ≡ no_bits rows
flows_is rows pass (inl e) = rw e refl
flows_is rows pass (inr e) = rw e refl

holds_none : (rows : List ℕ) (x : Name) → IsPass x.pass → false ≡ holds (no_receipts rows) x
holds_none rows x p = rw (flows_is rows x.pass p) (sym (no_bit rows x.worker x.number))

zero_at : (n k : ℕ) → slice_index (replicate n 0) k ≡ 0
zero_at zero k = refl
zero_at (suc n) zero = refl
zero_at (suc n) (suc k) = zero_at n k

-- the workers of a run at its start
pub workers_start : (c : Config) (rows : List ℕ) (ws : List Progress) → rows ≡ sizes_of c.parts → length ws ≡ length rows
    → ((w : ℕ) (d : Progress) → w < length rows → IsAt (slice_index_or ws w d) (slice_index rows w) c.window 1 0 first_number none_acked)
    → WorkersStand c ws 1 0 (λ w. first_number) (λ w. none_acked)
workers_start c rows ws rs many each =
    let n : length rows ≡ workers c = ap (λ (l : List ℕ). length l) rs ∙ many_is c in
    let at : (w : ℕ) → slice_index rows w ≡ size c w = λ w. ap (λ (l : List ℕ). slice_index l w) rs ∙ size_at c w in
    record {
      many = many ∙ n;
      each = λ w d lt. subst (λ (k : ℕ). IsAt (slice_index_or ws w d) k c.window 1 0 first_number none_acked) (at w) (each w d (omega (arith, n, lt)));
    }

pub none_done : (c : Config) → 0 ≡ first_undone c (λ w. none_acked)
none_done c = least_none (workers c)

-- the switch of a run at its start
pub switch_start : (g : Given) → SwitchStands g (fresh g.program g.begun g.slot (workers g.config)) 0 none_expected []
switch_start g = record {
  program_is = refl;
  slot_is = refl;
  workers_is = refl;
  epoch_is = refl;
  small = omega arith;
  keeps_is = no_epoch g.config.two_passes;
  expects = λ q w is lt. sym (zero_at (2 * workers g.config) (place_of (workers g.config) q w));
  registers_is = λ f. refl;
}
  where
    no_epoch : (b : Bool) → false ≡ (b && nat_lt 0 0)
    no_epoch true = refl
    no_epoch false = refl

-- the master of a run at its start
pub master_start : (c : Config) (rows : List ℕ) → rows ≡ sizes_of c.parts → MasterStands c (no_receipts rows) []
master_start c rows rs =
    let n : length rows ≡ workers c = ap (λ (l : List ℕ). length l) rs ∙ many_is c in
    let at : (w : ℕ) → slice_index rows w ≡ size c w = λ w. ap (λ (l : List ℕ). slice_index l w) rs ∙ size_at c w in
    record {
      many = λ q is. ap (λ (l : List (List Bool)). length l) (flows_is rows q is) ∙ (length-map (λ m. replicate (m + 1) false) rows ∙ n);
      numbers = λ q w is lt. ap (λ (l : List (List Bool)). length (slice_index_or l w [])) (flows_is rows q is) ∙ (bits_long rows w (omega (arith, n, lt)) ∙ ap (λ (k : ℕ). k + 1) (at w));
      stands = λ y there. holds_none rows y there.pass;
    }
