use Rattle.std.proofs.Common.{◌≡◌, ℕ, ◌+◌, List, map, refl}
use Rattle.ch_parts.specs.Scanned.{parts_of_table}
use Rattle.ch_parts.specs.Tidy.{source_part}
use Rattle.ch_sources.proofs.Listed.{listed_first}
use Rattle.ch_sources.proofs.listing.new_sources.Goals as goal

pub loop-number-preserved : goal.loop-number-preserved
loop-number-preserved c =
    let f = c.in_ok-push_table.ensures.sources in
    let g = c.in_ok-push_table.ensures.parts in
    let h = c.loop-number.invariant.parts in
    let b = c.args.bound.now in
    let tables = c.args.tables.now in
    record {
      sources = f c.loop-number.invariant.sources;
      parts = λ texts. listed_first (parts_of_table texts b tables) c.loop-number.number (map (source_part texts b tables) c.loop-number.sources.items) (map (source_part texts b tables) c.push_table.new.sources.items) (parts_of_table texts b tables c.loop-number.number) (h texts) (g texts) refl;
    }
