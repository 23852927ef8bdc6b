use Rattle.std.proofs.Common.{ℕ, List, sym, ◌∙◌, subst, arith}
use Rattle.ch_lines.specs.Lines.{lines_of}
use Rattle.ch_schedule.specs.declared.read.ScheduleError.{ScheduleError}
use Rattle.ch_schedule.specs.Bad.{Refuses}
use Rattle.ch_schedule.proofs.Lines.{front, line_added, refused}
use Rattle.ch_schedule.proofs.read.read_schedule.Goals as goal

pub returns-in-Err-clause-refused : goal.returns-in-Err-clause-refused
returns-in-Err-clause-refused c =
    let lines : List (List ℕ) = lines_of c.args.text.now in
    let rest : List (List ℕ) = lines_of c.in-Some.cut.rest.now in
    let f = front lines rest c.loop-cut.at c.in-Some.cut.first.now (sym c.loop-cut.invariant.left ∙ c.in-Some.ensures.line) in
    subst (λ (e : ScheduleError). Refuses lines e) (sym c.refusal.ensures) (refused lines rest c.loop-cut.at c.in-Some.cut.first.now c.loop-cut.schedule c.in-Err.stop f c.loop-cut.invariant.so_far c.in-Err.ensures.bad)

pub loop-cut-preserved : goal.loop-cut-preserved
loop-cut-preserved c =
    let lines : List (List ℕ) = lines_of c.args.text.now in
    let rest : List (List ℕ) = lines_of c.in-Some.cut.rest.now in
    let f = front lines rest c.loop-cut.at c.in-Some.cut.first.now (sym c.loop-cut.invariant.left ∙ c.in-Some.ensures.line) in
    let many = c.loop-cut.invariant.many in
    let shorter = c.in-Some.ensures.shorter in
    record {
      many = omega arith;
      left = f.behind;
      so_far = line_added lines rest c.loop-cut.at c.in-Some.cut.first.now c.loop-cut.schedule c.add_line.new.schedule f c.loop-cut.invariant.so_far c.in-Ok.ensures.good;
    }
