use Rattle.std.proofs.Common.{◌≡◌, drop, map, false}
use Rattle.ch_sql_grammar.specs.declared.terminal.Mark.TheVariants as mark
use Rattle.ch_sql_grammar.specs.Tree.{plain_of, plains}
use Rattle.ch_sql_text.specs.Printed.{marked_off, and_members, or_members}
use Rattle.ch_sql_text.specs.Writing.{puts}
use Rattle.ch_sql_text.proofs.filter.+filter.Given as goal

-- the members left are still to be written
abbrev pub invariant-write_and-loop-member : goal.invariant-write_and-loop-member
invariant-write_and-loop-member l =
    puts l.writer (marked_off l.behind_one mark.And (and_members (plains (map plain_of (drop l.member-index l.members))))) ≡ puts l.initial.writer (marked_off false mark.And (and_members (plains (map plain_of l.members))))

abbrev pub invariant-write_or-loop-member : goal.invariant-write_or-loop-member
invariant-write_or-loop-member l =
    puts l.writer (marked_off l.behind_one mark.Or (or_members (plains (map plain_of (drop l.member-index l.members))))) ≡ puts l.initial.writer (marked_off false mark.Or (or_members (plains (map plain_of l.members))))
