-- What the words mean is there, and is one thing.
use Rattle.std.proofs.Common.{◌≡◌, ◌≢◌, ◌∙◌, sym, refl, inl, inr, false, ℕ, ◌+◌, List, [], ◌∷◌, length, map, Option, Some, None, Result}
use Rattle.ch_bind.specs.Binding.{PlainBound}
use Rattle.ch_command.proofs.Commands.{IsMeaning, Total, Unique, misused_is_command, read_ends, read_one, read_some, reading_is_command, said_all, said_once, then_all, then_one, then_some}
use Rattle.ch_command.specs.Command.{IsCommand, IsDecided, ReadThen, Refuses, refused}
use Rattle.ch_command.specs.Status.{is_usage}
use Rattle.ch_command.specs.declared.outcome.Ending.TheVariants.{Done, Input, Rejected}
use Rattle.ch_command.specs.declared.outcome.Outcome.{Outcome}
use Rattle.ch_ir.specs.declared.profile.Profile.{Profile}
use Rattle.ch_messages.specs.Query.{query_line}
use Rattle.ch_sql.proofs.Readings as queries
use Rattle.ch_sql.specs.declared.read.QueryError.{QueryError}
use Rattle.ch_sql_limits.specs.Texts.{Spells}
use Rattle.ch_tables.specs.TableValue.{TableValue}
use Rattle.cheetah_inputs.specs.Inputs.{profile_or_line, profile_text, tables_or_line}
use Rattle.cheetah_inputs.specs.Messages.{bind_line}
use Rattle.cheetah_inputs.specs.Question.{AfterBound, Rejects, bound_or_refused, refused_sum, summed_or_refused}
use Rattle.cheetah_pack_words.specs.Words.{Wish, usage_line}
use Rattle.cheetah_pack_words.specs.Words.Wish.{Asking, Misused}
use Rattle.cheetah_words.specs.Words.{Request}
use Rattle.cheetah_pack_meaning.specs.Limits.{limit_line}
use Rattle.cheetah_pack_meaning.specs.Meaning.{OfContents, OfTables, command_for, files_of, others, outcome_of, queries_text, said_alone, together, unless_refused}
use Rattle.cheetah_pack_meaning.specs.Queries.{AfterQueries, OfBound, OfQueries, OfQuery, OfSelect, count_line, few_or_count, numbered, queries_of}

abbrev says : ℕ → QueryError → Outcome
says number error = refused Input (numbered number (query_line error))

text_is_decided : (number : ℕ) (text : List ℕ) → IsDecided (Spells text) (Refuses (Rejects text) (says number))
text_is_decided number text = record {
  either = elim (queries.either text) [
    | inl read ↦ inl (read.0, read.1)
    | inr none ↦ inr (says number none.0, record { error = none.0; is = record { known = none.1; is = none.2 }; said = refl })
  ];
  one_value = queries.one_query text;
  one_refusal = said_once (Rejects text) (says number) (λ e f p q. queries.one_error text e f p.known q.known p.is q.is);
  not_both = λ query outcome p q. queries.not_both text query q.error q.is.known p q.is.is;
}

-- one query

module _ (number : ℕ) (tables : List TableValue) (next : AfterBound) where
  abbrev refused_bound : PlainBound → Outcome → Type 0
  refused_bound = OfBound number tables next

  query_some : ((q : PlainBound) → Total (next q)) → (text : List ℕ) → Total (OfQuery number text tables next)
  query_some more text = then_some (Spells text) (Refuses (Rejects text) (says number)) (OfSelect number tables next) (text_is_decided number text) (λ query e.
      read_some (bound_or_refused query tables) (λ error. refused Input (numbered number (bind_line error))) refused_bound (λ p f.
      read_some (summed_or_refused p tables) (λ error. refused Input (numbered number (refused_sum p tables error))) next (λ q g. more q)))

  query_one : ((q : PlainBound) → Unique (next q)) → (text : List ℕ) → Unique (OfQuery number text tables next)
  query_one more text = then_one (Spells text) (Refuses (Rejects text) (says number)) (OfSelect number tables next) (text_is_decided number text) (λ query e.
      read_one (bound_or_refused query tables) (λ error. refused Input (numbered number (bind_line error))) refused_bound (λ p.
      read_one (summed_or_refused p tables) (λ error. refused Input (numbered number (refused_sum p tables error))) next more))

  query_all : (P : Outcome → Type 0) → ((line : List ℕ) → P (refused Input line)) → ((q : PlainBound) (outcome : Outcome) → next q outcome → P outcome)
      → (text : List ℕ) (outcome : Outcome) → OfQuery number text tables next outcome → P outcome
  query_all P none more text = then_all P (Spells text) (Refuses (Rejects text) (says number)) (OfSelect number tables next)
      (said_all P (Rejects text) (says number) (λ error. none (numbered number (query_line error)))) (λ query.
      read_ends P (bound_or_refused query tables) (λ error. refused Input (numbered number (bind_line error))) refused_bound (λ error. none (numbered number (bind_line error))) (λ p f.
      read_ends P (summed_or_refused p tables) (λ error. refused Input (numbered number (refused_sum p tables error))) next (λ error. none (numbered number (refused_sum p tables error))) (λ q g. more q)))

-- all of them

queries_some : (number : ℕ) (texts : List (List ℕ)) (tables : List TableValue) (next : AfterQueries) → ((qs : List PlainBound) → Total (next qs)) → Total (OfQueries number texts tables next)
queries_some number [] tables next more = more []
queries_some number (text ∷ texts) tables next more =
    query_some number tables (λ q. OfQueries (number + 1) texts tables (λ qs. next (q ∷ qs))) (λ q. queries_some (number + 1) texts tables (λ qs. next (q ∷ qs)) (λ qs. more (q ∷ qs))) text

queries_one : (number : ℕ) (texts : List (List ℕ)) (tables : List TableValue) (next : AfterQueries) → ((qs : List PlainBound) → Unique (next qs)) → Unique (OfQueries number texts tables next)
queries_one number [] tables next more = more []
queries_one number (text ∷ texts) tables next more =
    query_one number tables (λ q. OfQueries (number + 1) texts tables (λ qs. next (q ∷ qs))) (λ q. queries_one (number + 1) texts tables (λ qs. next (q ∷ qs)) (λ qs. more (q ∷ qs))) text

queries_all : (P : Outcome → Type 0) → ((line : List ℕ) → P (refused Input line)) → (number : ℕ) (texts : List (List ℕ)) (tables : List TableValue) (next : AfterQueries)
    → ((qs : List PlainBound) (outcome : Outcome) → next qs outcome → P outcome) → (outcome : Outcome) → OfQueries number texts tables next outcome → P outcome
queries_all P none number [] tables next more = more []
queries_all P none number (text ∷ texts) tables next more =
    query_all number tables (λ q. OfQueries (number + 1) texts tables (λ qs. next (q ∷ qs))) P none
    (λ q. queries_all P none (number + 1) texts tables (λ qs. next (q ∷ qs)) (λ qs. more (q ∷ qs))) text

-- the files

module _ (request : Request) (contents : List (List ℕ)) where
  abbrev profile : Result Profile (List ℕ)
  profile = profile_or_line (profile_text request (others contents))

  abbrev tables : Result (List TableValue) (List ℕ)
  tables = tables_or_line request (others contents)

  abbrev texts : Result (List (List ℕ)) ℕ
  texts = few_or_count (queries_of (queries_text contents))

  abbrev refused_count : ℕ → Outcome
  refused_count count = refused Input (count_line count)

  abbrev behind : Profile → List TableValue → List (List ℕ) → Outcome → Type 0
  behind p ts queries = OfQueries 0 queries ts (λ qs o. o ≡ outcome_of p ts qs)

  abbrev after_profile : Profile → Outcome → Type 0
  after_profile p outcome = ReadThen tables (refused Input) (OfTables (queries_text contents) p) outcome

  contents_some : Total (OfContents request contents)
  contents_some = read_some profile (refused Input) after_profile (λ p e.
      read_some tables (refused Input) (OfTables (queries_text contents) p) (λ ts f.
      read_some texts refused_count (behind p ts) (λ queries g. queries_some 0 queries ts (λ qs o. o ≡ outcome_of p ts qs) (λ qs. (outcome_of p ts qs, refl)))))

  contents_one : Unique (OfContents request contents)
  contents_one = read_one profile (refused Input) after_profile (λ p.
      read_one tables (refused Input) (OfTables (queries_text contents) p) (λ ts.
      read_one texts refused_count (behind p ts) (λ queries. queries_one 0 queries ts (λ qs o. o ≡ outcome_of p ts qs) (λ qs a b x y. x ∙ sym y))))

  -- what holds of each refusal and of the answers holds of what the contents come to
  contents_all : (P : Outcome → Type 0) → ((line : List ℕ) → P (refused Input line)) → ((line : List ℕ) → P (refused Rejected line)) → ((sayings : List Outcome) → P (together sayings))
      → (outcome : Outcome) → OfContents request contents outcome → P outcome
  contents_all P none over done = read_ends P profile (refused Input) after_profile none (λ p e.
      read_ends P tables (refused Input) (OfTables (queries_text contents) p) none (λ ts f.
      read_ends P texts refused_count (behind p ts) (λ count. none (count_line count)) (λ queries g.
      queries_all P none 0 queries ts (λ qs o. o ≡ outcome_of p ts qs) (λ qs outcome is. rw is (either (limit_line p qs) (map (said_alone p ts) qs))))))
    where
      either : (line : Option (List ℕ)) (sayings : List Outcome) → P (unless_refused line (together sayings))
      either None sayings = done sayings
      either (Some line) sayings = over line

pub never_misused : (request : Request) (contents : List (List ℕ)) (outcome : Outcome) → OfContents request contents outcome → is_usage outcome.ending ≡ false
never_misused request contents = contents_all request contents (λ o. is_usage o.ending ≡ false) (λ line. refl) (λ line. refl) (λ sayings. refl)

meaning : (request : Request) → IsMeaning (length (files_of request)) (OfContents request)
meaning request = record {
  some = λ contents same. contents_some request contents;
  one = contents_one request;
  taken = never_misused request;
  quiet = λ contents. contents_all request contents (λ o. o.ending ≢ Done → o.out ≡ []) (λ line other. refl) (λ line other. refl) (λ sayings other. absurd (other refl));
}

pub is_command : (wish : Wish) → IsCommand (command_for wish)
is_command Misused = misused_is_command (λ line. line ≡ usage_line) (usage_line, refl)
is_command (Asking request) = reading_is_command (files_of request) (OfContents request) (meaning request)
