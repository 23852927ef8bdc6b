-- A worked query over words.
use Rattle.std.proofs.Common.{refl, sym, subst, inl, inr, arith}
use Rattle.ch_pred.proofs.Layers.{plain_of-Truth}
use Rattle.ch_pred.specs.Plain.{Plain}
use Rattle.ch_pred.specs.Names.{Names}
use Rattle.ch_words.specs.Readings.{left_of}
use Rattle.ch_words.specs.Rows.{row_seen}
use Rattle.ch_pred.specs.Sound.{IsCarried}
use Rattle.ch_words.specs.Packets.{TableFits, table_of}
use Rattle.ch_words.specs.Worked.{query, tables, texts, kinds, DistinctTexts}

fits : TableFits texts kinds query 0 (table_of tables 0)
fits row (inl e) at (inl c) = rw (e, c) (inr (inl refl))
fits row (inr (inl e)) at (inl c) = rw (e, c) (inl refl)
fits row (inr (inr (inl e))) at (inl c) = rw (e, c) (inr (inl refl))
fits row (inl e) at (inr x) = elim x [ ]
fits row (inr (inl e)) at (inr x) = elim x [ ]
fits row (inr (inr (inl e))) at (inr x) = elim x [ ]
fits row (inr (inr (inr x))) at c = elim x [ ]

pub distinct_texts : DistinctTexts
unfolding row_seen
distinct_texts = record {
  sound = record {
    names = record { filter = subst (λ (p : Plain). Names (left_of (IsCarried query)) p) (sym plain_of-Truth) tt; shape = ((inl refl, refl), tt) };
    sides = omega arith;
    alone = λ e. refl;
    ascends = (refl, tt);
    kinds_fit = tt;
    first = fits;
    second = λ row i. absurd i;
  };
  sent = rw plain_of-Truth refl;
  over_words = rw plain_of-Truth refl;
  read = refl;
  over_cells = rw plain_of-Truth refl;
}
