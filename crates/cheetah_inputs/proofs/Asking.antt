-- What reading a query, binding it and checking its sums comes to.
use Rattle.std.proofs.Common.{◌≡◌, ◌≢◌, ◌≤◌, ◌∙◌, ◌⊎◌, ap, inl, inr, refl, sym, ℕ, List, All, length, map, Option, Some, None, Result, Ok, Err}
use Rattle.ch_bind.specs.Binding.{PlainBound, bound_of, plain_bound}
use Rattle.ch_bind.specs.Checks.{bind_refusal}
use Rattle.ch_bind.specs.declared.error.BindError.{BindError}
use Rattle.ch_bind.specs.declared.error.BindError.TheVariants as bind
use Rattle.ch_bind.specs.declared.shape.TableShape.{TableShape}
use Rattle.ch_command.specs.Command.{refused}
use Rattle.ch_command.specs.declared.outcome.Ending.TheVariants.{Input}
use Rattle.ch_messages.specs.Query.{query_line}
use Rattle.ch_pred.specs.Sound.{IsSound}
use Rattle.ch_pred.specs.declared.bound.Bound.{Bound}
use Rattle.ch_sql.specs.Reading.{IsQueryError}
use Rattle.ch_sql.specs.declared.read.QueryError.{QueryError}
use Rattle.ch_sql.specs.declared.read.QueryError.TheVariants as query
use Rattle.ch_sql_grammar.specs.Tree.{Select}
use Rattle.ch_sql_limits.specs.Texts.{Spells}
use Rattle.ch_tables.specs.TableValue.{TableValue}
use Rattle.cheetah_inputs.proofs.Chains.{reads_then, refused_then}
use Rattle.cheetah_inputs.specs.Messages.{bind_line}
use Rattle.cheetah_inputs.specs.Question.{OfBound, OfQuestion, OfSelect, ReadsQuestion, ReadsSelect, ReadsSums, bound_or_refused, never, or_refused}
use Rattle.ch_bind.specs.Shapes.{shape_of}
use Rattle.cheetah_inputs.specs.declared.refusal.Refusal.{Refusal}
use Rattle.cheetah_inputs.specs.declared.refusal.Refusal.TheVariants as refusal

module _ (q : Select) (tables : List TableValue) (shapes : List TableShape) (same : shapes ≡ map shape_of tables) where
  pub select_reads : (b : Bound) (read : Result Bound Refusal) → bind_refusal q shapes ≡ None → plain_bound b ≡ bound_of q shapes → IsSound b → All (λ columns. length columns ≤ 16) b.carried → ReadsSums tables b read → ReadsSelect q tables read
  select_reads b (Ok summed) passes bound sound few reads =
      rw reads.0 (record { passes = rw same at passes; is_bound = rw same at bound; summed = reads.1; sound = sound; few = few })
  select_reads b (Err (refusal.Line line)) passes bound sound few reads =
      let all : bound_or_refused q tables ≡ Ok (plain_bound b) = rw (← same, passes) (ap Ok (sym bound)) in
      reads_then (bound_or_refused q tables) (λ error. refused Input (bind_line error)) (OfBound tables never) (plain_bound b) (refused Input line) all reads
  select_reads b (Err refusal.Memory) passes bound sound few reads = tt

  pub select_refused : (error : BindError) (line : List ℕ) → (error ≡ bind.Memory) ⊎ (bind_refusal q shapes ≡ Some error) → error ≢ bind.Memory → line ≡ bind_line error → OfSelect tables never q (refused Input line)
  select_refused error line (inl memory) known said = absurd (known memory)
  select_refused error line (inr found) known said =
      let none : bound_or_refused q tables ≡ Err error = rw (← same, found) refl in
      refused_then (bound_or_refused q tables) (λ error. refused Input (bind_line error)) (OfBound tables never) error (refused Input line) none (ap (refused Input) said)

pub question_reads : (text : List ℕ) (tables : List TableValue) (q : Select) (read : Result Bound Refusal) → Spells text q → ReadsSelect q tables read → ReadsQuestion text tables read
question_reads text tables q (Ok bound) spelled reads = record { query = q; spelled = spelled; passes = reads.passes; is_bound = reads.is_bound; summed = reads.summed; sound = reads.sound; few = reads.few }
question_reads text tables q (Err (refusal.Line line)) spelled reads = inl (record { value = q; is = spelled; rest = reads })
question_reads text tables q (Err refusal.Memory) spelled reads = tt

pub question_none : (text : List ℕ) (tables : List TableValue) (error : QueryError) (line : List ℕ) → IsQueryError text error → error ≢ query.Memory → line ≡ query_line error → OfQuestion text tables never (refused Input line)
question_none text tables error line is known said = inr (record { error = error; is = record { known = known; is = is }; said = ap (refused Input) said })
