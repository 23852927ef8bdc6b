use Rattle.std.proofs.Common.{◌≡◌, true, ◌<◌, ◌-◌, ◌+◌, ◌*◌, length, [], List, map}
use Rattle.ch_sql_places.specs.Machine.{Level, Want, Member, Negs, Conjs, level_depth, takes_or}
use Rattle.ch_sql_grammar.specs.Tree.{Plain, plain_of}
use Rattle.ch_sql_places.specs.Parsing.{parse_at}
use Rattle.ch_sql_parser.proofs.descent.+parsing.Given as goal

abbrev pub decreases-pred : goal.decreases-pred
decreases-pred l = 3 * (32 - l.depth) + 2

abbrev pub decreases-conj : goal.decreases-conj
decreases-conj l = 3 * (32 - l.depth) + 1

abbrev pub decreases-neg : goal.decreases-neg
decreases-neg l = 3 * (32 - l.depth)

abbrev pub invariant-conj-loop-alloc : goal.invariant-conj-loop-alloc
invariant-conj-loop-alloc l = record {
  same : (conjs : List Plain) (level : Level) → level_depth level ≡ l.depth →
      parse_at l.tokens (Want (Member conjs [] level)) l.at ≡ parse_at l.tokens (Negs conjs (map plain_of l.negs.items) level) l.place;
  onward : l.at < l.place;
}

abbrev pub decreases-conj-loop-alloc : goal.decreases-conj-loop-alloc
decreases-conj-loop-alloc l = length l.tokens - l.place

abbrev pub invariant-pred-loop-alloc : goal.invariant-pred-loop-alloc
invariant-pred-loop-alloc l = record {
  same : (level : Level) → takes_or level ≡ true → level_depth level ≡ l.depth →
      parse_at l.tokens (Want (Member [] [] level)) l.at ≡ parse_at l.tokens (Conjs (map plain_of l.conjs.items) level) l.place;
  onward : l.at < l.place;
}

abbrev pub decreases-pred-loop-alloc : goal.decreases-pred-loop-alloc
decreases-pred-loop-alloc l = length l.tokens - l.place
