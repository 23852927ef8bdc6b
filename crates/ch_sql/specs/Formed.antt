-- What holds of the parts of each query that tokens derive.
use Rattle.std.specs.Prelude.{ℕ, ◌+◌, ◌≤◌, ◌≡◌, ◌≢◌, Bool, true, false, List, [], Option, Some, None}
use Rattle.std.specs.List.{list_all}
use Rattle.ch_sql_grammar.specs.declared.query.Item.{Item}
use Rattle.ch_sql_grammar.specs.declared.query.Source.{Source}
use Rattle.ch_sql_grammar.specs.declared.query.Source.TheVariants as source
use Rattle.ch_sql_grammar.specs.declared.query.Tail.{Tail}
use Rattle.ch_sql_grammar.specs.declared.query.Tail.TheVariants as tail
use Rattle.ch_sql_grammar.specs.Grammar.{is_plain_item}
use Rattle.ch_sql_grammar.specs.Tree.{Plain, Plains, Compare, Between, Within, Like, And, Or, Not, nil, cons, Select}

abbrev pub members_count : Plains → ℕ
members_count nil = 0
members_count (cons p ps) = members_count ps + 1

-- a list of literals isn't empty, and an And and an Or have two members or more
abbrev mutual
  pub IsFormedPred : Plain → Type 0
  IsFormedPred (Compare col cmp side) = Unit {0}
  IsFormedPred (Between col low high) = Unit {0}
  IsFormedPred (Within col literals) = literals ≢ []
  IsFormedPred (Like col prefix) = Unit {0}
  IsFormedPred (And members) = (2 ≤ members_count members) × AreFormed members
  IsFormedPred (Or members) = (2 ≤ members_count members) × AreFormed members
  IsFormedPred (Not inner) = IsFormedPred inner

  pub AreFormed : Plains → Type 0
  AreFormed nil = Unit {0}
  AreFormed (cons p ps) = IsFormedPred p × AreFormed ps

abbrev pub IsFormedFilter : Option Plain → Type 0
IsFormedFilter None = Unit {0}
IsFormedFilter (Some p) = IsFormedPred p

-- keys and dimensions aren't empty
abbrev pub IsFormedTail : Tail → Type 0
IsFormedTail tail.Nothing = Unit {0}
IsFormedTail (tail.Top by descending limit) = Unit {0}
IsFormedTail (tail.Group keys having) = keys ≢ []
IsFormedTail (tail.Skyline dims) = dims ≢ []

abbrev pub ArePlainItems : List Item → Type 0
ArePlainItems items = list_all is_plain_item items ≡ true

-- DISTINCT has plain items, one table and no tail; a join has no tail; a semi-join has plain items and no tail
abbrev pub FitsSource : Source → Bool → List Item → Tail → Type 0
FitsSource (source.One table) true items t = ArePlainItems items × (t ≡ tail.Nothing)
FitsSource (source.One table) false items t = IsFormedTail t
FitsSource (source.Join left right first_on second_on) distinct items t = (distinct ≡ false) × (t ≡ tail.Nothing)
FitsSource (source.Semi outer inner key inner_key) distinct items t = (distinct ≡ false) × ArePlainItems items × (t ≡ tail.Nothing)

pub record IsFormed (q : Select) : Type 0 where
  pub items : q.items ≢ []
  pub source : FitsSource q.source q.distinct q.items q.tail
  pub filter : IsFormedFilter q.filter
