use Rattle.std.proofs.Common.{◌≡◌, ◌<◌, ◌+◌, ◌++◌, ℕ, ℤ, List, [], ◌∷◌, pos, length, get_or, set, take, drop, sym, ◌∙◌, ap, ap₂, arith, to_z, of_z, w64, rules, subst}
use mir.Val.{SFits}
use Rattle.std.proofs.lemmas.List.{take_more_set, drop-set-lt, drop_more, append_assoc, length-set}
use Rattle.std.proofs.lemmas.Int.{to_z-of_z}
use Rattle.ch_ir.specs.declared.program.Update.{Update}
use Rattle.ch_ir.specs.declared.program.Update.TheVariants.{Keep}
use Rattle.ch_pipe.specs.Total.{total_update, total_updates, UpdatesRoom}
use Rattle.ch_pipe.proofs.cells.update_cells.Goals as goal

step : (words : List ℤ) (us : List Update) (cells : List ℤ) (i : ℕ) (v : ℤ) (u : Update) (x : ℤ) (r : List ℤ) → i < length us → length cells ≡ length us
    → v ≡ total_update words (get_or us i u) (get_or cells i x)
    → take i cells ++ total_updates words (drop i us) (drop i cells) ≡ r
    → take (i + 1) (set cells i v) ++ total_updates words (drop (i + 1) us) (drop (i + 1) (set cells i v)) ≡ r
step words us cells i v u x r lt n e h =
    let m : i < length cells = omega arith in
    ap₂ (λ (a b : List ℤ). a ++ total_updates words (drop (i + 1) us) b) (take_more_set cells i v m) (drop-set-lt (i + 1) cells i v (omega arith))
    ∙ append_assoc (take i cells) (v ∷ []) (total_updates words (drop (i + 1) us) (drop (i + 1) cells))
    ∙ ap (λ (y : ℤ). take i cells ++ y ∷ total_updates words (drop (i + 1) us) (drop (i + 1) cells)) e
    ∙ ap₂ (λ (a : List Update) (b : List ℤ). take i cells ++ total_updates words a b) (sym (drop_more us i u lt)) (sym (drop_more cells i x m))
    ∙ h

pub loop-at-preserved : goal.loop-at-preserved
loop-at-preserved c =
    let us : List Update = c.args.updates.now in
    let at : ℕ = c.loop-at.at in
    let inv = c.loop-at.invariant in
    let fits : SFits w64 c.updated.result = record { sfits = c.updated.type_inv } in
    let cell : SFits w64 (get_or c.loop-at.cells at (pos 0)) = search rules in
    let value : to_z w64 (of_z w64 c.updated.result) ≡ total_update c.args.words.now (get_or us at Keep) (get_or c.loop-at.cells at (pos 0)) =
    to_z-of_z w64 c.updated.result fits ∙ c.updated.ensures ∙ ap (total_update c.args.words.now (get_or us at Keep)) (to_z-of_z w64 (get_or c.loop-at.cells at (pos 0)) cell) in
    let more : UpdatesRoom (length c.args.words.now) (get_or us at Keep ∷ drop (at + 1) us) = subst (UpdatesRoom (length c.args.words.now)) (drop_more us at Keep c.loop-at-test.true) inv.room in
    record {
      many = length-set c.loop-at.cells at (to_z w64 (of_z w64 c.updated.result)) ∙ inv.many;
      room = more.1;
      same = step c.args.words.now us c.loop-at.cells at (to_z w64 (of_z w64 c.updated.result)) Keep (pos 0) (total_updates c.args.words.now us c.args.cells.now) c.loop-at-test.true inv.many value inv.same;
    }
