use Rattle.std.proofs.Common.{◌≡◌, ℕ, ◌+◌, List, map, refl}
use Rattle.ch_parts.specs.Scanned.{parts_of_side}
use Rattle.ch_parts.specs.Tidy.{source_part}
use Rattle.ch_sources.proofs.Listed.{listed_more}
use Rattle.ch_sources.proofs.listing.push_table.Goals as goal

pub loop-side-preserved : goal.loop-side-preserved
loop-side-preserved c =
    let f = c.in_ok-push_side.ensures.sources in
    let g = c.in_ok-push_side.ensures.parts in
    let i = c.loop-side.invariant.sources in
    let h = c.loop-side.invariant.parts in
    let b = c.args.bound.now in
    let tables = c.args.tables.now in
    record {
      sources = λ all. f (i all);
      parts = λ texts. listed_more (parts_of_side texts b tables c.args.number) c.loop-side.side (map (source_part texts b tables) c.args.sources.now.items) (map (source_part texts b tables) c.loop-side.sources.items) (map (source_part texts b tables) c.push_side.new.sources.items) (parts_of_side texts b tables c.args.number c.loop-side.side) (h texts) (g texts) refl;
    }
