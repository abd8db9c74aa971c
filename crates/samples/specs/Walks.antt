-- The worked example and the small tables at width 1, as the definitions compute them, what the lists of X come to, and
-- that lists and candidates of H and T with 29 gates fit. Two words are of walk/proofs: `answered`, `act_by`.
-- SPECIFICATION 8.18, 10.7 and 11.2. Assumes nothing.
use Rattle.std.specs.Prelude.{◌≡◌, true, false, List, [], ◌∷◌, reverse, ℕ, zero, suc, ◌<◌, eqb, length}
use Rattle.std.proofs.Math.Option.{none, some}
use Rattle.ints.specs.Lists.{pick}
use Rattle.circuit.specs.Codes.{valid_for}
use Rattle.circuit.specs.Pairs.{inverse}
use Rattle.generators.specs.Generators.{generators}
use Rattle.exact.specs.Matrix.{identity}
use Rattle.exact.specs.Rows.{gate_of}
use Rattle.exact.specs.Lists.{product}
use Rattle.exact.specs.Fits.{step_fits, all_fit, steps}
use Rattle.exact.specs.Fingerprint.{fingerprint}
use Rattle.walk.specs.Walk.{Rules, root, list_at, walk}
use Rattle.walk.specs.Modes.{by_print, keeping, in_mode}
use Rattle.walk.specs.AtWidth.{built}
use Rattle.walk.proofs.Nodewise.{answered}
use Rattle.walk.proofs.Laws.{act_by}

-- 0 and 1 exchanged
abbrev other : ℕ → ℕ
other x = pick (eqb x 0) 1 0

-- one generator, which undoes itself, and one fingerprint for both products
abbrev pub one_print : Rules
one_print = record {
  Mat = ℕ;
  one = 0;
  act = λ g x. other x;
  fits = λ g x. true;
  known = λ x y. true;
  answers = λ x y. true;
  equal = eqb;
  inverse = eqb;
  disjoint = λ g h. false;
  generators = 1 ∷ [];
}

-- H and T in turn, 29 gates with H at both ends; basis 33 is H, 0, and T, 20480
abbrev pub in_turn : ℕ → List ℕ
in_turn zero = 0 ∷ []
in_turn (suc m) = 0 ∷ 20480 ∷ in_turn m

pub record WalkSamples : Type 0 where
  -- every step of a list of 29 gates fits, and every candidate of a build with gate limit 29
  pub list_29 : (length (in_turn 14) ≡ 29) × (steps 1 (in_turn 14) ≡ all_fit)
  pub candidates_29 : (k g : ℕ) → k < length (built keeping 1 33 29 1000000).nodes → length (list_at (built keeping 1 33 29 1000000).nodes k) < 29
      → valid_for 1 33 g ≡ true → step_fits 1 (gate_of 1 g) (product 1 (reverse (list_at (built keeping 1 33 29 1000000).nodes k))) ≡ true
  -- where all fingerprints clash, node 0 alone is kept by the fingerprint, and both products where clashes are kept
  pub clash_lost : walk (in_mode by_print one_print) 8 2 ≡ record { nodes = root ∷ []; last = 1; depth = 1; saturated = false }
  pub clash_kept : walk (in_mode keeping one_print) 8 2 ≡ record { nodes = root ∷ record { parent = 0; list = 1 ∷ [] } ∷ []; last = 2; depth = 2; saturated = false }
  pub worked_keeping : built keeping 1 24 8 10 ≡ record {
    nodes = root ∷ record { parent = 0; list = 12288 ∷ [] } ∷ record { parent = 0; list = 16384 ∷ [] }
        ∷ record { parent = 1; list = 12288 ∷ 12288 ∷ [] } ∷ [];
    last = 4;
    depth = 3;
    saturated = false;
  }
  -- the worked example, limits 1 8 10 24: basis 24 is S, 12288, and Sdg, 16384. Four nodes; depth 3 added none
  -- (SPECIFICATION 10.7)
  pub worked : built by_print 1 24 8 10 ≡ record {
    nodes = root ∷ record { parent = 0; list = 12288 ∷ [] } ∷ record { parent = 0; list = 16384 ∷ [] }
        ∷ record { parent = 1; list = 12288 ∷ 12288 ∷ [] } ∷ [];
    last = 4;
    depth = 3;
    saturated = false;
  }
  -- Z is answered by S S, T by none
  pub worked_z : answered by_print 1 24 8 10 (product 1 (8192 ∷ [])) ≡ some (12288 ∷ 12288 ∷ [])
  pub worked_t : answered by_print 1 24 8 10 (product 1 (20480 ∷ [])) ≡ none
  -- basis 2 is X alone: with E 1 node 0 alone, saturated; with E 2 two nodes, not saturated; with G 0 node 0 alone
  -- (SPECIFICATION 11.2)
  pub one_entry : built by_print 1 2 8 1 ≡ record { nodes = root ∷ []; last = 0; depth = 0; saturated = true }
  pub two_entries : built by_print 1 2 8 2 ≡ record { nodes = root ∷ record { parent = 0; list = 4096 ∷ [] } ∷ []; last = 2; depth = 2; saturated = false }
  pub no_depths : built by_print 1 2 0 2 ≡ record { nodes = root ∷ []; last = 0; depth = 0; saturated = false }
  -- no generators: basis 256 is Cx, which has no valid code at width 1 (SPECIFICATION 6.9)
  pub no_generators : built by_print 1 256 8 2 ≡ record { nodes = root ∷ []; last = 0; depth = 0; saturated = false }
  -- X, 4096, is the one generator of basis 2 at width 1, it undoes itself, its fingerprint is not the identity's, and T
  -- is not among its products
  pub only_x : generators 1 2 ≡ 4096 ∷ []
  pub x_back : inverse 4096 4096 ≡ true
  pub prints_differ : eqb (fingerprint 1 identity) (fingerprint 1 (act_by 1 4096 identity)) ≡ false
  pub x_not_t : answered by_print 1 2 8 2 (product 1 (20480 ∷ [])) ≡ none
