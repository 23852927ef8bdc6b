-- Rows, and what names them on the links.
use Rattle.std.specs.Prelude.{ℕ, ℤ, Bool, ◌==◌, ◌&&◌, List}

-- a row of a worker's part: its bit, which is its gate, and its words
pub record Tuple : Type 0 where
  pub bit : Bool
  pub words : List ℤ

-- what a worker scans: the rows of one part, and the side of their table, 0 for the first and 1 for the second
pub record Part : Type 0 where
  pub side : ℕ
  pub tuples : List Tuple

-- A packet of rows is named by its flow, which is a pass and a worker, and by its number there. The rows of a worker
-- with n rows have the numbers 0 to n - 1, and its Fin, which ends the flow, has the number n
pub record Name : Type 0 where
  pub pass : ℕ
  pub worker : ℕ
  pub number : ℕ

abbrev pub same_name : Name → Name → Bool
same_name x y = (x.pass == y.pass) && ((x.worker == y.worker) && (x.number == y.number))

-- A Row or a Fin on a link, with the epoch that it carries. Links forge nothing, so whether it is a Row or a Fin, its
-- side, its bit and its words are those that its name tells
pub record Packet : Type 0 where
  pub name : Name
  pub epoch : ℕ

-- who acknowledges: the switch, which pruned the row, or the master, which received it
pub data Origin : Type 0 where
  Switch : Origin
  Master : Origin

pub record Ack : Type 0 where
  pub origin : Origin
  pub name : Name
  pub epoch : ℕ
