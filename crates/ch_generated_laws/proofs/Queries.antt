-- The queries are spelled by their texts.
use Rattle.std.proofs.Common.{◌≡◌, ℕ, Bool, true, false, List, [], ◌∷◌, map, refl, sym, subst, arith, inl, lit≤}
use Rattle.std.specs.List.{AllByRecursion, list_all}
use Rattle.std.specs.Prelude.{nat_le}
use Rattle.std.specs.Fmt.{digits}
use Rattle.std.specs.Int.RustNames.{unsigned_abs}
use Rattle.std.proofs.lemmas.Bool.{and_parts}
use Rattle.std.proofs.lemmas.Bool.Decides.{nat_tests}
use Rattle.ch_cells.specs.Number.{greatest_magnitude}
use Rattle.std.proofs.lemmas.List.Elements.{All-from_recursion}
use Rattle.ch_generated.specs.Inputs.{query_text}
use Rattle.ch_generated.specs.declared.InputKind.{InputKind}
use Rattle.ch_generated.specs.declared.InputKind.TheVariants.{Filter, Distinct, Top, Group, Having, Join, Skyline}
use Rattle.ch_sql_grammar.specs.Keyword.{keyword_of}
use Rattle.ch_sql_grammar.specs.declared.terminal.Terminal.TheVariants as terminal
use Rattle.ch_sql_grammar.specs.Grammar.{IsForm, form_tokens}
use Rattle.ch_sql_grammar.specs.declared.terminal.Terminal.{Terminal}
use Rattle.ch_sql_limits.specs.Limits.{FitsLimits, IsQueryWithin}
use Rattle.ch_sql_limits.specs.Texts.{Spells, seen}
use Rattle.ch_sql_text.specs.Law.{IsSpellable}
use Rattle.ch_sql_text.specs.Printed as printed
use Rattle.ch_sql_text.specs.Printed.{printed_tokens}
use Rattle.ch_sql_text.specs.Spelled.{mark_token, printed_token}
use Rattle.ch_sql_text.proofs.Rescan.{all_seen, are_tokens}
use Rattle.ch_sql_text.proofs.Reread.{read_again}
use Rattle.ch_sql_tokens.specs.Lexed.{IsQueryText}
use Rattle.ch_sql_tokens.specs.Spelling.{IsToken}
use Rattle.ch_generated_laws.specs.Queries.{form_of, select_of}

-- each name isn't empty, and each number in range
can_spell : Terminal → Bool
can_spell (terminal.Mark m) = true
can_spell (terminal.Name []) = false
can_spell (terminal.Name (b ∷ bs)) = true
can_spell (terminal.Number n) = nat_le (unsigned_abs n) greatest_magnitude
can_spell (terminal.Text text) = true

spelled_one : (t : Terminal) → can_spell t ≡ true → IsSpellable t
unfolding can_spell
spelled_one (terminal.Mark m) e = tt
spelled_one (terminal.Name []) e = cc
spelled_one (terminal.Name (b ∷ bs)) e = λ same. cc
spelled_one (terminal.Number n) e = grind (arith, nat_tests)
spelled_one (terminal.Text text) e = tt

spelled_all : (ts : List Terminal) → list_all can_spell ts ≡ true → AllByRecursion IsSpellable ts
spelled_all [] e = tt
spelled_all (t ∷ ts) e = let p = and_parts (can_spell t) (list_all can_spell ts) e in (spelled_one t p.0, spelled_all ts p.1)

all_can : (kind : InputKind) → list_all can_spell (form_tokens (form_of kind)) ≡ true
unfolding can_spell
all_can Filter = refl
all_can Distinct = refl
all_can Top = refl
all_can Group = refl
all_can Having = refl
all_can Join = refl
all_can Skyline = refl

is_form : (kind : InputKind) → IsForm (form_of kind)
is_form Filter = tt
is_form Distinct = refl
is_form Top = tt
is_form Group = tt
is_form Having = tt
is_form Join = tt
is_form Skyline = tt

fits : (kind : InputKind) → FitsLimits (form_of kind)
fits Filter = (lit≤ tt, tt)
fits Distinct = tt
fits Top = tt
fits Group = tt
fits Having = tt
fits Join = tt
fits Skyline = tt

text_is : (kind : InputKind) → printed.query_text (select_of kind) ≡ query_text kind
unfolding printed_tokens mark_token keyword_of digits
text_is Filter = refl
text_is Distinct = refl
text_is Top = refl
text_is Group = refl
text_is Having = refl
text_is Join = refl
text_is Skyline = refl

short : (kind : InputKind) → IsQueryText (query_text kind)
short Filter = lit≤ tt
short Distinct = lit≤ tt
short Top = lit≤ tt
short Group = lit≤ tt
short Having = lit≤ tt
short Join = lit≤ tt
short Skyline = lit≤ tt

pub spelled : (kind : InputKind) → Spells (query_text kind) (select_of kind)
spelled kind =
    let ts : List Terminal = form_tokens (form_of kind) in
    let within : IsQueryWithin (seen (map printed_token ts)) (select_of kind) =
    record { form = form_of kind; is_form = is_form kind; fits = fits kind; spelled = inl (all_seen ts); stands_for = refl } in
    subst (λ (text : List ℕ). Spells text (select_of kind)) (text_is kind)
    (read_again (map printed_token ts) (select_of kind) (All-from_recursion IsToken (map printed_token ts) (are_tokens ts (spelled_all ts (all_can kind)))) within
    (subst IsQueryText (sym (text_is kind)) (short kind)))
