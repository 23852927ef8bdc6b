-- The texts that a query's dictionary holds: its text literals, and the texts of its tables. The pattern of a LIKE is none.
use Rattle.std.specs.Prelude.{ℕ, List, [], ◌∷◌, ◌++◌, flat_map}
use Rattle.ch_pred.specs.Plain.{Plain, Plains, Truth, Compare, Between, Within, Like, And, Or, Not, nil, cons, plain_of}
use Rattle.ch_pred.specs.declared.bound.Bound.{Bound}
use Rattle.ch_pred.specs.declared.pred.Arg.{Arg}
use Rattle.ch_pred.specs.declared.pred.Arg.TheVariants as arg
use Rattle.ch_pred.specs.declared.pred.Literal.{Literal}
use Rattle.ch_pred.specs.declared.pred.Literal.TheVariants as literal
use Rattle.ch_tables.specs.TableValue.{TableValue}
use Rattle.ch_lists.specs.Ordered.{ordered}
use Rattle.ch_ranks.specs.Dictionary.{text_cmp}
use Rattle.ch_tables.specs.Texts.{texts_of, with_texts}
use Rattle.ch_parts.specs.Scanned.{table_at}

abbrev pub literal_texts : Literal → List (List ℕ)
literal_texts (literal.Number n) = []
literal_texts (literal.Text text) = text ∷ []

abbrev pub arg_texts : Arg → List (List ℕ)
arg_texts (arg.Column col) = []
arg_texts (arg.Value value) = literal_texts value

abbrev mutual
  pub filter_texts : Plain → List (List ℕ)
  filter_texts Truth = []
  filter_texts (Compare col cmp other) = arg_texts other
  filter_texts (Between col low high) = literal_texts low ++ literal_texts high
  filter_texts (Within col literals) = flat_map literal_texts literals
  filter_texts (Like col prefix) = []
  filter_texts (And members) = member_texts members
  filter_texts (Or members) = member_texts members
  filter_texts (Not inner) = filter_texts inner

  pub member_texts : Plains → List (List ℕ)
  member_texts nil = []
  member_texts (cons p ps) = filter_texts p ++ member_texts ps

-- those of the tables, which are given by their numbers
abbrev pub tables_texts : List TableValue → List ℕ → List (List ℕ)
tables_texts tables numbers = flat_map (λ number. texts_of (table_at tables number)) numbers

-- by a query's filter and the numbers of its tables
abbrev pub texts_asked : Plain → List ℕ → List TableValue → List (List ℕ)
texts_asked filter numbers tables = filter_texts filter ++ tables_texts tables numbers

abbrev pub asked_texts : Bound → List TableValue → List (List ℕ)
asked_texts b tables = texts_asked (plain_of b.filter) b.tables tables

-- the texts, each once, in ascending order
abbrev pub dictionary_of : List (List ℕ) → List (List ℕ)
dictionary_of texts = ordered text_cmp (with_texts [] texts)
