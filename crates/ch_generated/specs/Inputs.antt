-- The files, the query and the words of a request, and the front of the line that sums up its answer.
use Rattle.std.specs.Prelude.{ℕ, ◌*◌, Bool, true, false, if◌then◌else◌, List, [], ◌∷◌, ◌++◌, codes}
use Rattle.std.specs.Fmt.{decimal}
use Rattle.std.specs.List.{concat}
use Rattle.rand_pcg.specs.Lcg.{Lcg}
use Rattle.ch_generated.specs.Draws.{after, generator_of}
use Rattle.ch_generated.specs.Request.{kind_name}
use Rattle.ch_generated.specs.ScheduleText.{schedule_text}
use Rattle.ch_generated.specs.TableText.{t_part_text, t_rows, u_text}
use Rattle.ch_generated.specs.declared.table_text.TableRow.{TableRow}
use Rattle.ch_generated.specs.declared.request.InputKind.{InputKind}
use Rattle.ch_generated.specs.declared.request.InputKind.TheVariants.{Filter, Distinct, Top, Group, Having, Join, Skyline}
use Rattle.ch_generated.specs.declared.request.Request.{Request}

abbrev pub query_text : InputKind → List ℕ
query_text Filter = codes "SELECT k, v FROM t WHERE v < 1000"
query_text Distinct = codes "SELECT DISTINCT k FROM t"
query_text Top = codes "SELECT k, v FROM t ORDER BY v DESC LIMIT 10"
query_text Group = codes "SELECT k, MAX(v) FROM t GROUP BY k"
query_text Having = codes "SELECT k FROM t GROUP BY k HAVING SUM(v) > 100000000"
query_text Join = codes "SELECT v, y FROM t JOIN u ON t.k = u.k"
query_text Skyline = codes "SELECT v, b FROM t SKYLINE OF v MAX, b MIN"

abbrev pub is_join : InputKind → Bool
is_join Filter = false
is_join Distinct = false
is_join Top = false
is_join Group = false
is_join Having = false
is_join Join = true
is_join Skyline = false

-- each part of a table is scanned by a worker
abbrev pub workers_of : InputKind → ℕ
workers_of kind = if is_join kind then 5 else 4

-- the draws: the rows of t, then those of u, then the schedule
abbrev pub u_begins : Request → Lcg
u_begins request = after (3 * request.rows) (generator_of request.seed)

abbrev pub schedule_begins : Request → Lcg
schedule_begins request = if is_join request.kind then after (2 * 100) (u_begins request) else u_begins request

abbrev pub t_file : ℕ → List ℕ → List TableRow → List ℕ × List ℕ
t_file part name rows = (name, t_part_text part rows)

-- table t in four parts
abbrev pub t_files : List TableRow → List (List ℕ × List ℕ)
t_files rows = t_file 0 (codes "t0") rows ∷ t_file 1 (codes "t1") rows ∷ t_file 2 (codes "t2") rows ∷ t_file 3 (codes "t3") rows ∷ []

abbrev pub u_files : Request → List (List ℕ × List ℕ)
u_files request = if is_join request.kind then (codes "u0", u_text (u_begins request)) ∷ [] else []

abbrev pub schedule_file : Request → List ℕ × List ℕ
schedule_file request = (codes "s", schedule_text (workers_of request.kind) (schedule_begins request))

-- each file as its name and its text
unfoldable pub files_of : Request → List (List ℕ × List ℕ)
files_of request = t_files (t_rows request.rows (generator_of request.seed)) ++ (u_files request ++ schedule_file request ∷ [])

abbrev pub t_words : List (List ℕ)
t_words = codes "t=t0" ∷ codes "t=t1" ∷ codes "t=t2" ∷ codes "t=t3" ∷ []

-- the words that ask for the query over these files
unfoldable pub command_words : InputKind → List (List ℕ)
command_words kind = codes "cheetah" ∷ codes "--query" ∷ query_text kind ∷ codes "--schedule" ∷ codes "s" ∷ (t_words ++ (if is_join kind then codes "u=u0" ∷ [] else []))

-- the front of the line that sums up an answer of so many rows and bytes
abbrev pub summary_front : InputKind → ℕ → ℕ → List ℕ
summary_front kind rows bytes = concat (codes "kind=" ∷ kind_name kind ∷ codes " answer_rows=" ∷ decimal rows ∷ codes " answer_bytes=" ∷ decimal bytes ∷ codes " " ∷ [])
