-- Keywords, in any case.
use Rattle.std.specs.Prelude.{ℕ, List, Option, Some, None, codes, if◌then◌else◌}
use Rattle.std.specs.Str.{str_eq_ignore_ascii_case}
use Rattle.ch_sql_grammar.specs.declared.terminal.Mark.{Mark}
use Rattle.ch_sql_grammar.specs.declared.terminal.Mark.TheVariants as mark

abbrev pub select_keyword : List ℕ → Option Mark
select_keyword w =
    if str_eq_ignore_ascii_case w (codes "SELECT") then Some mark.Select else
    if str_eq_ignore_ascii_case w (codes "DISTINCT") then Some mark.Distinct else
    if str_eq_ignore_ascii_case w (codes "FROM") then Some mark.From else
    if str_eq_ignore_ascii_case w (codes "JOIN") then Some mark.Join else
    if str_eq_ignore_ascii_case w (codes "ON") then Some mark.On else
    if str_eq_ignore_ascii_case w (codes "WHERE") then Some mark.Where else
    if str_eq_ignore_ascii_case w (codes "MAX") then Some mark.Max else
    if str_eq_ignore_ascii_case w (codes "MIN") then Some mark.Min else None

abbrev pub tail_keyword : List ℕ → Option Mark
tail_keyword w =
    if str_eq_ignore_ascii_case w (codes "ORDER") then Some mark.Order else
    if str_eq_ignore_ascii_case w (codes "BY") then Some mark.By else
    if str_eq_ignore_ascii_case w (codes "ASC") then Some mark.Asc else
    if str_eq_ignore_ascii_case w (codes "DESC") then Some mark.Desc else
    if str_eq_ignore_ascii_case w (codes "LIMIT") then Some mark.Limit else
    if str_eq_ignore_ascii_case w (codes "GROUP") then Some mark.Group else
    if str_eq_ignore_ascii_case w (codes "HAVING") then Some mark.Having else
    if str_eq_ignore_ascii_case w (codes "SUM") then Some mark.Sum else
    if str_eq_ignore_ascii_case w (codes "COUNT") then Some mark.Count else
    if str_eq_ignore_ascii_case w (codes "SKYLINE") then Some mark.Skyline else
    if str_eq_ignore_ascii_case w (codes "OF") then Some mark.Of else None

abbrev pub pred_keyword : List ℕ → Option Mark
pred_keyword w =
    if str_eq_ignore_ascii_case w (codes "AND") then Some mark.And else
    if str_eq_ignore_ascii_case w (codes "OR") then Some mark.Or else
    if str_eq_ignore_ascii_case w (codes "NOT") then Some mark.Not else
    if str_eq_ignore_ascii_case w (codes "BETWEEN") then Some mark.Between else
    if str_eq_ignore_ascii_case w (codes "IN") then Some mark.In else
    if str_eq_ignore_ascii_case w (codes "LIKE") then Some mark.Like else None

abbrev pub first_some : {A : Type 0} → Option A → Option A → Option A
first_some (Some x) o = Some x
first_some None o = o

-- the keyword that a word is
unfoldable pub keyword_of : List ℕ → Option Mark
keyword_of w = first_some (select_keyword w) (first_some (tail_keyword w) (pred_keyword w))
