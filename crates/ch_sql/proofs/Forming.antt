-- Each query that tokens derive is formed.
use Rattle.std.proofs.Common.{◌≡◌, ◌≢◌, ◌∙◌, ap, sym, refl, subst, ℕ, ◌+◌, ◌≤◌, Bool, true, false, List, [], ◌∷◌, ◌++◌, length, Option, Some, None, option_map, arith, length-append}
use Rattle.ch_sql_grammar.specs.declared.terminal.Terminal.{Terminal}
use Rattle.ch_sql_grammar.specs.Tree.{Plain, Plains, nil, cons, plains, all_of, any_of, Select}
use Rattle.ch_sql_grammar.specs.Grammar as grammar
use Rattle.ch_sql_grammar.specs.Grammar.{Pred, conj, or, Conj, neg, and, Neg, not, parens, atom, Form, IsForm, IsQuery, atom_tree, conj_trees, neg_trees, neg_tree, pred_tree, conj_tree, endings_tree, form_tree}
use Rattle.ch_sql.specs.Formed.{members_count, IsFormedPred, AreFormed, IsFormedFilter, IsFormedTail, IsFormed}

has_last : {A : Type 0} (xs : List A) (x : A) → xs ++ (x ∷ []) ≢ []
has_last xs x e = absurd (omega (arith, ap length e, length-append xs (x ∷ [])))

-- a list of members that isn't empty, each formed
abbrev Members : List Plain → Type 0
Members ps = (ps ≢ []) × AreFormed (plains ps)

appended : (ps : List Plain) (p : Plain) → AreFormed (plains ps) → IsFormedPred p → AreFormed (plains (ps ++ (p ∷ [])))
appended [] p all h = (h, tt)
appended (x ∷ xs) p all h = (all.0, appended xs p all.1 h)

any_formed : (ps : List Plain) → Members ps → IsFormedPred (any_of ps)
any_formed [] h = absurd (h.0 refl)
any_formed (p ∷ []) h = h.1.0
any_formed (p ∷ r ∷ ps) h = (omega arith, h.1)

all_formed : (ps : List Plain) → Members ps → IsFormedPred (all_of ps)
all_formed [] h = absurd (h.0 refl)
all_formed (p ∷ []) h = h.1.0
all_formed (p ∷ r ∷ ps) h = (omega arith, h.1)

atom_formed : (a : grammar.Atom) → IsFormedPred (atom_tree a)
atom_formed (grammar.compare col c s) = tt
atom_formed (grammar.between col low high) = tt
atom_formed (grammar.within col front last) = has_last front last
atom_formed (grammar.like col text) = tt

mutual
  pred_members : (p : Pred) → Members (conj_trees p)
  pred_members (conj c) = (has_last [] _, (all_formed (neg_trees c) (conj_members c), tt))
  pred_members (or p c) = (has_last (conj_trees p) _, appended (conj_trees p) _ (pred_members p).1 (all_formed (neg_trees c) (conj_members c)))

  conj_members : (c : Conj) → Members (neg_trees c)
  conj_members (neg n) = (has_last [] _, (neg_formed n, tt))
  conj_members (and c n) = (has_last (neg_trees c) _, appended (neg_trees c) _ (conj_members c).1 (neg_formed n))

  neg_formed : (n : Neg) → IsFormedPred (neg_tree n)
  neg_formed (not n) = neg_formed n
  neg_formed (parens p) = any_formed (conj_trees p) (pred_members p)
  neg_formed (atom a) = atom_formed a

where_formed : (filter : Option Pred) → IsFormedFilter (option_map pred_tree filter)
where_formed None = tt
where_formed (Some p) = any_formed (conj_trees p) (pred_members p)

and_formed : (filter : Option Conj) → IsFormedFilter (option_map conj_tree filter)
and_formed None = tt
and_formed (Some c) = all_formed (neg_trees c) (conj_members c)

tail_formed : (e : Option grammar.Ending) → IsFormedTail (endings_tree e)
tail_formed None = tt
tail_formed (Some (grammar.top by d n)) = tt
tail_formed (Some (grammar.group front last having)) = has_last front last
tail_formed (Some (grammar.skyline front last)) = has_last front last

form_formed : (form : Form) → IsForm form → IsFormed (form_tree form)
form_formed (grammar.distinct front last table filter) is = record { items = has_last front last; source = (is, refl); filter = where_formed filter }
form_formed (grammar.join front last left right first_on second_on filter) is = record { items = has_last front last; source = (refl, refl); filter = where_formed filter }
form_formed (grammar.semi front last outer key inner_key inner filter) is = record { items = has_last front last; source = (refl, is, refl); filter = and_formed filter }
form_formed (grammar.one front last table filter ending) is = record { items = has_last front last; source = tail_formed ending; filter = where_formed filter }

pub formed : (tokens : List Terminal) (q : Select) → IsQuery tokens q → IsFormed q
formed tokens q is = subst IsFormed (sym is.stands_for) (form_formed is.form is.is_form)
