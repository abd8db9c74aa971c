-- The fingerprint's answer, case by case, as the definition has it; and where it is refused, exactly. Assumes nothing.
use mathlib.Core.Path.{◌≡◌, refl, sym, ap, ◌∙◌}
use mathlib.Core.List.{List, []}
use Prim.Native.Nat.{ℕ}
use lib.IntN.{ℤ}
use Rattle.ints.proofs.Bools.{clash}
use Rattle.exact.specs.Answers.{Answer, given, refused}
use Rattle.exact.specs.Fingerprint.{fingerprint}
use Rattle.exact.specs.Places.{held}
use Rattle.exact.proofs.Answered.{is_given}
use Rattle.refusal.specs.Told.{Reason, number_of, position_of}
use Rattle.refusal.specs.declared.Refusal.{Refusal}
use Rattle.refusal.proofs.Numbers.{Refuses}
use Rattle.tables.specs.Checks.{first_row, query_rows}
use Rattle.tables.proofs.Rows.{rows_pass, rows_refuse_at_0, no_positions_query}
use Rattle.tables.proofs.Entry.{Entry, refused_where, done_where}
use Rattle.tables.proofs.InWords.{query_in_words}
use Rattle.murm_query.specs.Fingerprints.{fingerprinted, FingerprintExactly}

module _ (n k : ℕ) (numbers : List ℤ) where
  abbrev print : Answer
  print = given (fingerprint n (held n k numbers))

  pub printed : 0 ≡ first_row (query_rows n k numbers) → print ≡ fingerprinted n k numbers
  unfolding fingerprinted
  printed e = sym (rows_pass (query_rows n k numbers) print refused (sym e))

  pub not_printed : {r : Refusal} → Refuses r (first_row (query_rows n k numbers)) → refused (number_of r) (position_of r) ≡ fingerprinted n k numbers
  unfolding fingerprinted
  not_printed x =
      ap (λ (t : Reason). refused t.number t.position) x.told
      ∙ sym (rows_refuse_at_0 (query_rows n k numbers) print refused (no_positions_query n k numbers) _ x.some refl)

  -- ---- exactly

  apart : (r p : ℕ) → print ≡ refused r p → ⊥
  apart r p e = clash (sym (ap is_given e)) refl

  entry : Entry (fingerprinted n k numbers) print (λ r p (m : Unit {0}). refused r p) tt (query_rows n k numbers) []
  unfolding fingerprinted
  entry = record {
    is = refl;
    same = λ r p s q m m' e. (ap number_in e, ap position_in e, refl);
    later = λ e r p m. (λ z. absurd (apart r p z), λ y. absurd y.0);
  }
    where
      number_in : Answer → ℕ
      number_in (given j) = 0
      number_in (refused r p) = r

      position_in : Answer → ℕ
      position_in (given j) = 0
      position_in (refused r p) = p

pub fingerprint_exactly : FingerprintExactly
fingerprint_exactly = record {
  not_given = λ q r p.
      let z = refused_where (entry q.width q.exponent q.numbers) (query_in_words q) tt r p in (λ e. (z.0 e).0, λ f. z.1 (f, refl));
  is_given_lem = λ q. done_where (entry q.width q.exponent q.numbers) (query_in_words q) (λ r p m. apart q.width q.exponent q.numbers r p);
}
