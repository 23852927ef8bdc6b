-- What is written of an answer's text so far.
use Rattle.std.specs.Prelude.{◌≡◌, ℕ, List, [], false, Some}
use Rattle.csv.specs.Records.{fields_of, partial_of}
use Rattle.csv.specs.Writing.{default_writer, fields_written, has_written, text_written, writer_setup}
use Rattle.ch_print.specs.declared.answer.AnswerText.{AnswerText}

-- up to the end of the last line these bytes, and of the next line these fields
pub record HasWritten (t : AnswerText) (bytes : List ℕ) (line : List (List ℕ)) : Type 0 where
  pub setup : writer_setup t.writer ≡ default_writer
  pub ended : fields_written t.writer ≡ 0
  pub clean : has_written t.writer ≡ false
  pub text : text_written (λ v. Some v.items) t.writer ≡ Some bytes
  pub whole : partial_of t.line ≡ []
  pub fields : fields_of t.line ≡ line
