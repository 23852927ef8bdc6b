-- One fixed completion of each place.
use Rattle.std.specs.Prelude.{List, [], ◌∷◌, pos}
use Rattle.ch_sql_grammar.specs.declared.terminal.Mark.{Mark}
use Rattle.ch_sql_grammar.specs.declared.terminal.Mark.TheVariants as mark
use Rattle.ch_sql_grammar.specs.declared.terminal.Terminal.{Terminal}
use Rattle.ch_sql_grammar.specs.declared.terminal.Terminal.TheVariants as terminal
use Rattle.ch_sql_grammar.specs.declared.head.HeadPlace.{HeadPlace}
use Rattle.ch_sql_grammar.specs.declared.head.HeadPlace.TheVariants as head
use Rattle.ch_sql_grammar.specs.declared.head.HeadTaker.{HeadTaker}
use Rattle.ch_sql_grammar.specs.declared.head.HeadTaker.TheVariants as headtaker
use Rattle.ch_sql_grammar.specs.declared.tail.TailPlace.{TailPlace}
use Rattle.ch_sql_grammar.specs.declared.tail.TailPlace.TheVariants as place
use Rattle.ch_sql_grammar.specs.declared.tail.TailTaker.{TailTaker}
use Rattle.ch_sql_grammar.specs.declared.tail.TailTaker.TheVariants as tailtaker
use Rattle.ch_sql_places.specs.Machine.{Around, Member, Negated, Level, Whole, Group, First, Second, Leading, Place, Heading, Lead, LeadCol, LeadIn, LeadListed, Want, Name, Dot, Atom, Compared, Low, LowAnd, High, In, Listed, Next, LikeText, Negs, Conjs, Closed, Tailing}

-- `a` and `0`
abbrev pub a_name : Terminal
a_name = terminal.Name (97 ∷ [])

abbrev pub a_literal : Terminal
a_literal = terminal.Number (pos 0)

abbrev pub an_equal : Terminal
an_equal = terminal.Mark mark.Eq

-- the open parentheses are closed
abbrev mutual
  pub closing : Around → List Terminal
  closing (Member conjs negs level) = closing_level level
  closing (Negated around) = closing around

  pub closing_level : Level → List Terminal
  closing_level (Whole h) = []
  closing_level (Group around) = terminal.Mark mark.RightParen ∷ closing around

abbrev pub one : Mark → List Terminal
one m = terminal.Mark m ∷ []

-- `FROM a`
abbrev pub from_a : List Terminal
from_a = terminal.Mark mark.From ∷ a_name ∷ []

-- behind the column of a head
abbrev pub head_taken : HeadTaker → List Terminal
head_taken (headtaker.Item distinct items) = from_a
head_taken (headtaker.Extreme items max) = terminal.Mark mark.RightParen ∷ from_a
head_taken (headtaker.FirstOn items left right) = an_equal ∷ a_name ∷ []
head_taken (headtaker.SecondOn items left right first_on) = []
head_taken (headtaker.InnerKey items outer key) = terminal.Mark mark.From ∷ a_name ∷ terminal.Mark mark.RightParen ∷ []

abbrev pub head_completion : HeadPlace → List Terminal
head_completion head.Start = terminal.Mark mark.Select ∷ terminal.Mark mark.Star ∷ from_a
head_completion head.Select = terminal.Mark mark.Star ∷ from_a
head_completion (head.Items distinct items) = terminal.Mark mark.Star ∷ from_a
head_completion (head.Extreme items max) = terminal.Mark mark.LeftParen ∷ a_name ∷ terminal.Mark mark.RightParen ∷ from_a
head_completion (head.Taking taker) = a_name ∷ head_taken taker
head_completion (head.Name taker n) = head_taken taker
head_completion (head.Dot taker n) = a_name ∷ head_taken taker
head_completion (head.Closing items max col) = terminal.Mark mark.RightParen ∷ from_a
head_completion (head.Listing distinct items) = from_a
head_completion (head.From distinct items) = a_name ∷ []
head_completion (head.Table distinct items table) = []
head_completion (head.JoinTable items left) = a_name ∷ terminal.Mark mark.On ∷ a_name ∷ an_equal ∷ a_name ∷ []
head_completion (head.On items left right) = terminal.Mark mark.On ∷ a_name ∷ an_equal ∷ a_name ∷ []
head_completion (head.Equals items left right first_on) = an_equal ∷ a_name ∷ []
head_completion (head.InnerFrom items outer key inner_key) = terminal.Mark mark.From ∷ a_name ∷ terminal.Mark mark.RightParen ∷ []
head_completion (head.InnerTable items outer key inner_key) = a_name ∷ terminal.Mark mark.RightParen ∷ []
head_completion (head.InnerClose items outer key inner_key inner) = terminal.Mark mark.RightParen ∷ []
head_completion (head.Whole h) = []

-- `LIMIT 0`, and `> 0`
abbrev pub limit_zero : List Terminal
limit_zero = terminal.Mark mark.Limit ∷ a_literal ∷ []

abbrev pub above_zero : List Terminal
above_zero = terminal.Mark mark.Gt ∷ a_literal ∷ []

-- behind the column of a tail
abbrev pub tail_taken : TailTaker → List Terminal
tail_taken tailtaker.By = limit_zero
tail_taken (tailtaker.Key keys) = []
tail_taken (tailtaker.Sum keys) = terminal.Mark mark.RightParen ∷ above_zero
tail_taken (tailtaker.Dim dims) = one mark.Max

abbrev pub tail_completion : TailPlace → List Terminal
tail_completion (place.Start begins) = []
tail_completion place.Order = terminal.Mark mark.By ∷ a_name ∷ limit_zero
tail_completion place.Group = terminal.Mark mark.By ∷ a_name ∷ []
tail_completion place.Skyline = terminal.Mark mark.Of ∷ a_name ∷ one mark.Max
tail_completion (place.Taking taker) = a_name ∷ tail_taken taker
tail_completion (place.Name taker n) = tail_taken taker
tail_completion (place.Dot taker n) = a_name ∷ tail_taken taker
tail_completion (place.Direction by) = limit_zero
tail_completion (place.Limit by descending) = limit_zero
tail_completion (place.LimitNumber by descending) = a_literal ∷ []
tail_completion (place.Keys keys) = []
tail_completion (place.Having keys) = terminal.Mark mark.Count ∷ terminal.Mark mark.LeftParen ∷ terminal.Mark mark.Star ∷ terminal.Mark mark.RightParen ∷ above_zero
tail_completion (place.SumOpen keys) = terminal.Mark mark.LeftParen ∷ a_name ∷ terminal.Mark mark.RightParen ∷ above_zero
tail_completion (place.SumClose keys col) = terminal.Mark mark.RightParen ∷ above_zero
tail_completion (place.CountOpen keys) = terminal.Mark mark.LeftParen ∷ terminal.Mark mark.Star ∷ terminal.Mark mark.RightParen ∷ above_zero
tail_completion (place.CountStar keys) = terminal.Mark mark.Star ∷ terminal.Mark mark.RightParen ∷ above_zero
tail_completion (place.CountClose keys) = terminal.Mark mark.RightParen ∷ above_zero
tail_completion (place.Above keys a) = above_zero
tail_completion (place.AboveNumber keys a) = a_literal ∷ []
tail_completion (place.DimDirection dims col) = one mark.Max
tail_completion (place.Dims dims) = []
tail_completion (place.Whole t) = []
tail_completion (place.Ended t) = []

abbrev pub completion : Place → List Terminal
completion (Heading at) = head_completion at
completion (Lead h) = a_name ∷ an_equal ∷ a_literal ∷ []
completion (LeadCol h col) = an_equal ∷ a_literal ∷ []
completion (LeadIn h col) = terminal.Mark mark.LeftParen ∷ a_literal ∷ one mark.RightParen
completion (LeadListed h col) = a_literal ∷ one mark.RightParen
completion (Want around) = a_name ∷ an_equal ∷ a_literal ∷ closing around
completion (Name (First around) n) = an_equal ∷ a_literal ∷ closing around
completion (Name (Second around col c) n) = closing around
completion (Name (Leading h) n) = an_equal ∷ a_literal ∷ []
completion (Dot (First around) n) = a_name ∷ an_equal ∷ a_literal ∷ closing around
completion (Dot (Second around col c) n) = a_name ∷ closing around
completion (Dot (Leading h) n) = a_name ∷ an_equal ∷ a_literal ∷ []
completion (Atom around col) = an_equal ∷ a_literal ∷ closing around
completion (Compared around col c) = a_literal ∷ closing around
completion (Low around col) = a_literal ∷ terminal.Mark mark.And ∷ a_literal ∷ closing around
completion (LowAnd around col low) = terminal.Mark mark.And ∷ a_literal ∷ closing around
completion (High around col low) = a_literal ∷ closing around
completion (In around col) = terminal.Mark mark.LeftParen ∷ a_literal ∷ terminal.Mark mark.RightParen ∷ closing around
completion (Listed around col literals) = a_literal ∷ terminal.Mark mark.RightParen ∷ closing around
completion (Next around col literals) = terminal.Mark mark.RightParen ∷ closing around
completion (LikeText around col) = terminal.Text (37 ∷ []) ∷ closing around
completion (Negs conjs negs level) = closing_level level
completion (Conjs conjs level) = closing_level level
completion (Closed p level) = closing_level level
completion (Tailing h filter at) = tail_completion at
