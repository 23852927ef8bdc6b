use Rattle.std.proofs.Common.{◌≡◌, ℕ, ◌+◌, ◌<◌, ◌++◌, List, [], length, map, take, All, ap, sym, ◌∙◌, arith, subst}
use Rattle.std.specs.Prelude.{slice_index_or}
use Rattle.ch_tables.specs.TableValue.{TableValue}
use Rattle.ch_parts.specs.Scanned.{part_of}
use Rattle.ch_parts.specs.Tidy.{IsSource, source_part}
use Rattle.ch_parts.specs.declared.row.Source.{Source}
use Rattle.ch_sources.proofs.Listed.{all_more, new_source, parts_more}
use Rattle.ch_sources.proofs.listing.push_sources.Goals as goal

pub loop-part-preserved : goal.loop-part-preserved
loop-part-preserved c =
    let side = c.args.side in
    let part = c.loop-part.part in
    let rows = c.rows-rows.result in
    let t = c.args.table.now in
    let s : Source = record { side = side; part = part; rows = rows } in
    let now = c.loop-part.sources.items in
    let old = c.args.sources.now.items in
    let lt : part < length t.parts = omega (arith, c.loop-part-test.true, c.parts-part-end.ensures) in
    let items = c.in_ok-push.ensures.items in
    let f = c.loop-part.invariant.sources in
    let h = c.loop-part.invariant.parts in
    record {
      sources = λ b tables less e all. subst (λ (ss : List Source). All (IsSource b tables) ss) (sym items) (all_more (IsSource b tables) now s (f b tables less e all) (new_source b tables side part rows t less e lt c.rows-rows.ensures));
      parts = λ texts b tables e. ap (map (source_part texts b tables)) items
          ∙ parts_more texts b tables old now s t.parts side part (h texts b tables e) lt (ap (λ (u : TableValue). part_of texts b side (slice_index_or u.parts part [])) e);
    }
