-- An engine at its start.
use Rattle.std.proofs.Common.{◌≡◌, ℕ, ◌+◌, ◌<◌, ◌≤◌, List, [], length, refl, ap, sym, ◌∙◌, subst, vec_capacity}
use Rattle.std.specs.Prelude.{slice_index, slice_index_or, sum_by}
use Rattle.ch_ends.specs.Master.{no_receipts}
use Rattle.ch_ends.specs.Worker.{Progress, IsAt}
use Rattle.ch_finish.specs.Fold.{StandsFor}
use Rattle.ch_protocol.specs.Packets.{Part}
use Rattle.ch_protocol.specs.Sender.{first_number, none_acked}
use Rattle.ch_protocol.specs.Forwarder.{none_expected}
use Rattle.ch_protocol.specs.Machine.{workers, start}
use Rattle.ch_switch.specs.Switching.{Switching, fresh}
use Rattle.ch_survival.specs.Given.{Given}
use Rattle.ch_stands.specs.Parties.{SwitchStands, MasterStands}
use Rattle.ch_ends.specs.Master.{Receipts}
use Rattle.ch_stands.specs.Team.{sizes_of}
use Rattle.ch_stands.proofs.Starting.{workers_start, switch_start, master_start, none_done, total_is}
use Rattle.ch_engine.specs.declared.engine.Engine.{Engine}
use Rattle.ch_engine.specs.Stands.{Stands, AreFolded, counts_of}

pub started : (g : Given) (x : Engine) (rows : List ℕ) → g.config.parts ≡ x.parts → x.two_passes ≡ g.config.two_passes → x.switch ≡ fresh g.program g.begun g.slot (workers g.config)
    → AreFolded x.ranks.now x.bound.now g.config → rows ≡ sizes_of x.parts → x.pass ≡ 1 → x.first_open ≡ 0
    → length x.workers.items ≡ length rows → ((w : ℕ) (d : Progress) → w < length rows → IsAt (slice_index_or x.workers.items w d) (slice_index rows w) g.config.window 1 0 first_number none_acked)
    → x.master ≡ no_receipts rows → x.up.packets ≡ [] → x.down.packets ≡ [] → x.back.packets ≡ [] → StandsFor x.ranks.now x.bound.now x.fold []
    → counts_of x.counts ≡ record { rows = sum_by (λ n. n) rows; sends = 0; pruned = 0; forwarded = 0; steps = 0 } → 16 ≤ vec_capacity x.arriving
    → Stands g x (start g.config)
started g x rows parts kind switch folded rs pass first many each master up down back fold counts room =
    let c = g.config in
    let rows_are : rows ≡ sizes_of c.parts = rs ∙ ap (λ (ps : List Part). sizes_of ps) (sym parts) in
    record {
      parts = parts;
      kind = kind;
      folded = folded;
      pass = pass;
      workers_are = workers_start c rows x.workers.items rows_are many each;
      first = first ∙ none_done c;
      switch = subst (λ (st : Switching). SwitchStands g st 0 none_expected []) (sym switch) (switch_start g);
      master = subst (λ (r : Receipts). MasterStands c r []) (sym master) (master_start c rows rows_are);
      up = up;
      down = down;
      back = back;
      fold = fold;
      counts = counts ∙ ap (λ (k : ℕ). record { rows = k; sends = 0; pruned = 0; forwarded = 0; steps = 0 }) (ap (λ (l : List ℕ). sum_by (λ n. n) l) rows_are ∙ total_is c);
      room = room;
    }

pub at_rows : (ws : List Progress) (lent rows : List ℕ) (a b : ℕ) → lent ≡ rows → a ≡ b
    → ((w : ℕ) (d : Progress) → w < length lent → IsAt (slice_index_or ws w d) (slice_index lent w) a 1 0 first_number none_acked)
    → (w : ℕ) (d : Progress) → w < length rows → IsAt (slice_index_or ws w d) (slice_index rows w) b 1 0 first_number none_acked
at_rows ws lent rows a b e q h =
    subst (λ (k : ℕ). (w : ℕ) (d : Progress) → w < length rows → IsAt (slice_index_or ws w d) (slice_index rows w) k 1 0 first_number none_acked) q
    (subst (λ (l : List ℕ). (w : ℕ) (d : Progress) → w < length l → IsAt (slice_index_or ws w d) (slice_index l w) a 1 0 first_number none_acked) e h)
