-- `had_step` meets its contract: at the largest exponent, or where a result does not fit, the places stay; otherwise the
-- results are lowered. Assumes nothing.
use native.Mathlib.Omega.{arith}
use Rattle.steps.proofs.Steps.{h_refused_k, h_refused, h_stepped}
use Rattle.steps.proofs.had_step.Goals as goal

pub returns-then-k-eq-MOST_K : goal.returns-then-k-eq-MOST_K
returns-then-k-eq-MOST_K g c = record { by = λ ks e p. h_refused_k _ _ ks _ _ (omega (arith, c.if-k-eq-MOST_K.true)) c.requires.ready }

pub returns-then-not-h_left : goal.returns-then-not-h_left
returns-then-not-h_left g c = record {
  by = λ ks e p. h_refused _ _ ks _ _ c.requires.ready (omega (arith, c.if-k-eq-MOST_K.false)) (rw e at c.h_left.ensures) c.if-not-h_left.true;
}

pub returns : goal.returns
returns g c = record {
  by = λ ks e p. h_stepped _ _ ks _ _ _ (omega (arith, c.if-k-eq-MOST_K.false)) (rw e at c.h_left.ensures) c.if-not-h_left.false
      (c.normalize_denominator.ensures.lowered, c.normalize_denominator.ensures.kept);
}
