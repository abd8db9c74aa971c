-- Rows after others that a check has tried, and the rows 5 and 17. Assumes nothing.
use mathlib.Core.Path.{◌≡◌, refl, sym, ap, ◌∙◌}
use mathlib.Core.Bool.{true, false}
use mathlib.Core.List.{List, [], ◌∷◌, ◌++◌}
use Prim.Native.Nat.{ℕ}
use Rattle.std.specs.Prelude.{Result, Ok, Err}
use Rattle.std.specs.Result.{IsErrAnd}
use Rattle.refusal.specs.Told.{Reason, by_row, told_refusal, told_check}
use Rattle.refusal.specs.declared.Refusal.{Refusal}
use Rattle.refusal.proofs.Numbers as n
use Rattle.walk.specs.Index.{By}
use Rattle.tables.specs.Checks.{Row, first_row, Limits, too_short, short_row, index_row}
use Rattle.tables.proofs.Rows.{Numbered, index_number, first_here, first_past, first_last, first_some, first_row_append}

-- ---- rows after others, which a check has tried

module _ (rs ss : List Row) (numbered : Numbered rs) where
  pub later_rows : by_row 0 ≡ by_row (first_row rs) → {r : Reason} → r ≡ by_row (first_row ss) → r ≡ by_row (first_row (rs ++ ss))
  later_rows e g = g ∙ ap by_row (sym (first_row_append rs ss numbered (n.passed e)))

  -- what a `?` returns: the refusal that the check gave
  pub first_refuses : (x : Result (Unit {0}) Refusal) (r : Refusal) → IsErrAnd x (λ (e : Refusal). e ≡ r) → told_refusal r ≡ by_row (first_row rs)
      → told_check x ≡ by_row (first_row (rs ++ ss))
  first_refuses (Ok v) r h e = absurd h
  first_refuses (Err q) r h e = ap told_refusal h ∙ e ∙ ap by_row (sym (first_some rs ss _ (n.refused {r = r} e).some refl))

-- ---- row 17, the last of its rows

module _ (l : Limits) (by : By) (places : ℕ) where
  pub index_refuses : (index_row l by places).holds ≡ true → 17 ≡ first_row (index_row l by places ∷ [])
  index_refuses e = sym (first_here _ _ e ∙ index_number l by places)

  pub index_passes : (index_row l by places).holds ≡ false → 0 ≡ first_row (index_row l by places ∷ [])
  index_passes e = sym (first_last _ e)

-- ---- row 5, then 17

module _ (l : Limits) (by : By) (f u c places : ℕ) where
  pub arrays_short : too_short l f u c ≡ true → 5 ≡ first_row (short_row l f u c ∷ index_row l by places ∷ [])
  arrays_short h = sym (first_here _ _ h)

  pub arrays_long : too_short l f u c ≡ false → {r : ℕ} → r ≡ first_row (index_row l by places ∷ []) → r ≡ first_row (short_row l f u c ∷ index_row l by places ∷ [])
  arrays_long h g = g ∙ sym (first_past _ _ h)
