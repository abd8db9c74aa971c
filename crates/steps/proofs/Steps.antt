-- One gate in place: what each row operation leaves is the exact step, and of all of them only H and Ch can fail to
-- fit. Assumes nothing.
use mathlib.Core.Path.{◌≡◌, refl, sym, ap, ◌∙◌, subst}
use mathlib.Core.Bool.{Bool, true, false, ◌&&◌, and-false}
use mathlib.Core.List.{List}
use Prim.Native.Nat.{ℕ, ◌+◌, ◌^◌, ◌≤◌, ◌<◌}
use native.Mathlib.Omega.{arith}
use lib.IntN.{ℤ}
use lib.ListN.{length}
use Rattle.std.specs.Prelude.{Option, Some, None}
use Rattle.cyclotomic.specs.Zomega.{Zω, Small, fits}
use Rattle.cyclotomic.proofs.Answers.{small_fits, fits_small}
use Rattle.circuit.specs.Pairs.{mask_of}
use Rattle.exact.specs.Matrix.{Exact, all_entries, lower}
use Rattle.exact.proofs.Words.{Equal, Proper, AllSmall}
use Rattle.exact.specs.Rows.{Gate, phase, exchange, had, then, raw, act}
use Rattle.exact.specs.Fits.{most_k, step_fits}
use Rattle.ints.proofs.Bools.{and_both}
use Rattle.exact.proofs.Values.{equal_sym, equal_trans, equal_same, lower_unique, entries_to, entries_from}
use Rattle.exact.proofs.Answered.{given_step, refused_step, step_given, step_refused}
use Rattle.exact.proofs.Acts.{act_lowest}
use Rattle.exact.proofs.Keeps.{phase_act, exchange_act, phase_small, exchange_small, phase_step_fits, exchange_step_fits, had_step, had_step_k, step_equal, act_equal', made_equal, equal_lowest, act_then}
use Rattle.exact.specs.Places.{read, held}
use Rattle.places.specs.Places.{places, Same, Kept}
use Rattle.places.proofs.Placed.{kept_refl, kept_trans}
use Rattle.rows.specs.Rows.{phase_rows, exchange_rows, h_rows}
use Rattle.rows.proofs.ByMask.{phase_rows_lem, exchange_rows_lem, h_rows_lem}
use Rattle.h_rows.specs.Work.{HDone}
use Rattle.places.specs.Held.{Holds, Ready}
use Rattle.steps.specs.Step.{Stepped}

module _ (n k : ℕ) (l l' : List ℤ) (w : Ready n k l) where
  -- the places hold the raw operation's result, and nothing is to lower
  raw_held : (g : Gate) → length l' ≡ places → (raw g (held n k l)).k ≡ k
      → ((r c : ℕ) → r < 2 ^ n → c < 2 ^ n → read n l' r c ≡ (raw g (held n k l)).e r c)
      → AllSmall n (raw g (held n k l)).e → Equal n (act n g (held n k l)) (raw g (held n k l)) → Holds n k l' (act n g (held n k l))
  raw_held g h e same s a = record {
    long = h;
    equal = equal_trans n (record { exponent = sym e; entries = same }) (equal_sym n a);
    small = record { small = λ r c p q. subst Small (sym (same r c p q)) (s.small r c p q) };
  }

  pub phase_stepped : (mask p : ℕ) → k ≤ most_k → length l' ≡ places → Same n (read n l') (phase_rows mask p (read n l)) → Kept n l l'
      → (ks : List ℕ) → mask ≡ mask_of ks → Stepped n k (phase ks p) l l' (Some k)
  phase_stepped mask p b h s q ks e =
      let done = raw_held (phase ks p) h refl
      (λ r c i j. s.at r c i j ∙ ap (λ (x : ℕ). phase_rows x p (read n l) r c) e ∙ phase_rows_lem ks p (read n l) r c)
      (phase_small n ks p (held n k l) w.small) (phase_act n ks p w.lowest) in
      record { answer = given_step n (phase ks p) (held n k l) (phase_step_fits n ks p (held n k l) w.small b) done.equal.exponent; left = done; kept = q }

  pub exchange_stepped : (control t : ℕ) → k ≤ most_k → length l' ≡ places → Same n (read n l') (exchange_rows control (2 ^ t) (read n l)) → Kept n l l'
      → (ks : List ℕ) → control ≡ mask_of ks → Proper n (exchange ks t) → Stepped n k (exchange ks t) l l' (Some k)
  exchange_stepped control t b h s q ks e pr =
      let done = raw_held (exchange ks t) h refl
      (λ r c i j. s.at r c i j ∙ ap (λ (x : ℕ). exchange_rows x (2 ^ t) (read n l) r c) e ∙ exchange_rows_lem ks t (read n l) r c)
      (exchange_small n ks t (held n k l) pr w.small) (exchange_act n ks t pr w.lowest) in
      record { answer = given_step n (exchange ks t) (held n k l) (exchange_step_fits n ks t (held n k l) pr w.small b) done.equal.exponent; left = done; kept = q }

-- ---- H and Ch

module _ (n k : ℕ) (ks : List ℕ) (t : ℕ) (l : List ℤ) where
  -- the operation on the places, before lowering
  abbrev summed : Exact
  summed = raw (had ks t) (held n k l)

  abbrev tested : Bool
  tested = all_entries n (λ r c. fits (summed.e r c))

  tested_true : AllSmall n (h_rows (mask_of ks) (2 ^ t) (read n l)) → tested ≡ true
  tested_true a = entries_from n (λ r c. fits (summed.e r c)) (λ r c i j. small_fits (summed.e r c) (subst Small (h_rows_lem ks t (read n l) r c) (a.small r c i j)))

  tested_false : (AllSmall n (h_rows (mask_of ks) (2 ^ t) (read n l)) → ⊥) → tested ≡ false
  tested_false u = by tested refl
    where
      by : (b : Bool) → tested ≡ b → b ≡ false
      by true e = absurd (u (record { small = λ r c i j. subst Small (sym (h_rows_lem ks t (read n l) r c)) (fits_small (summed.e r c) (entries_to n (λ r c. fits (summed.e r c)) e r c i j)) }))
      by false e = refl

  -- a matrix that stays
  stays : Ready n k l → Holds n k l (held n k l)
  stays w = record { long = w.long; equal = record { exponent = refl; entries = λ r c i j. refl }; small = w.small }

  pub h_refused_k : most_k ≤ k → Ready n k l → Stepped n k (had ks t) l l None
  h_refused_k h w = record { answer = refused_step n (had ks t) (held n k l) (had_step_k n ks t (held n k l) h); left = stays w; kept = kept_refl n l }

  pub h_refused : {l' : List ℤ} {ok : Bool} → Ready n k l → k < most_k → HDone n (h_rows (mask_of ks) (2 ^ t) (read n l)) l l' ok → ok ≡ false → Stepped n k (had ks t) l l' None
  h_refused w h d e = record {
    answer = refused_step n (had ks t) (held n k l) (had_step n ks t (held n k l) h ∙ tested_false (d.refused e).1);
    left = rw (d.refused e).0 (stays w);
    kept = d.kept;
  }

  pub h_stepped : {j : ℕ} (l' : List ℤ) {l'' : List ℤ} {ok : Bool} → k < most_k → HDone n (h_rows (mask_of ks) (2 ^ t) (read n l)) l l' ok → ok ≡ true
      → Holds n j l'' (lower n (held n (k + 1) l')) × Kept n l' l'' → Stepped n k (had ks t) l l'' (Some j)
  h_stepped {j} l' {l''} h d e w =
      record {
        answer = given_step n (had ks t) (held n k l) (had_step n ks t (held n k l) h ∙ tested_true (d.done e).1) same.exponent;
        left = record { long = w.0.long; equal = same; small = w.0.small };
        kept = kept_trans n d.kept w.1;
      }
    where
      one : Equal n (held n (k + 1) l') summed
      one = record { exponent = omega arith; entries = λ r c i j. (d.done e).0.at r c i j ∙ h_rows_lem ks t (read n l) r c }

      same : Equal n (held n j l'') (lower n summed)
      same = equal_trans n w.0.equal (lower_unique n (equal_same n one))

module _ (n : ℕ) {x : ℕ → ℕ → Zω} {l : List ℤ} where
  -- what fits is within the limit
  pub summed_small : (l' : List ℤ) {ok : Bool} → HDone n x l l' ok → ok ≡ true → AllSmall n (read n l')
  summed_small l' d e = record { small = λ r c i j. subst Small (sym ((d.done e).0.at r c i j)) ((d.done e).1.small r c i j) }

-- ---- the places after a step are ready for the next

pub ready_next : {n k j : ℕ} {g : Gate} {l l' : List ℤ} → Stepped n k g l l' (Some j) → Ready n j l'
ready_next {n} {k} {j} {g} {l} s =
    record { long = s.left.long; small = s.left.small; lowest = equal_lowest n (equal_sym n s.left.equal) (act_lowest n g (held n k l)) }

-- ---- one gate after another

module _ (n k : ℕ) (g h : Gate) (l : List ℤ) (pr : Proper n h) where
  -- the second is applied to what the first left
  pub stepped_then : {j : ℕ} {l1 l2 : List ℤ} (r : Option ℕ) → Stepped n k g l l1 (Some j) → Stepped n j h l1 l2 r → Stepped n k (then g h) l l2 r
  unfolding step_fits
  stepped_then {j} {l1} {l2} (Some i) s w = record {
    answer =
        given_step n (then g h) (held n k l)
        (and_both (step_fits n g (held n k l)) (step_fits n h (act n g (held n k l))) (step_given n g (held n k l) s.answer) (sym (alike s) ∙ step_given n h (held n j l1) w.answer))
        (w.left.equal.exponent ∙ (same s).exponent);
    left = record { long = w.left.long; equal = equal_trans n w.left.equal (same s); small = w.left.small };
    kept = kept_trans n s.kept w.kept;
  }
    where
      alike : Stepped n k g l l1 (Some j) → step_fits n h (held n j l1) ≡ step_fits n h (act n g (held n k l))
      alike s = step_equal n h s.left.equal pr

      same : Stepped n k g l l1 (Some j) → Equal n (act n h (held n j l1)) (act n (then g h) (held n k l))
      same s = equal_trans n (act_equal' n h s.left.equal pr) (act_then n g h (held n k l) pr)
  stepped_then {j} {l1} {l2} None s w = record {
    answer =
        refused_step n (then g h) (held n k l)
        (ap (λ (b : Bool). step_fits n g (held n k l) && b) (sym (step_equal n h s.left.equal pr) ∙ step_refused n h (held n j l1) w.answer) ∙ and-false (step_fits n g (held n k l)));
    left =
        rw (step_given n g (held n k l) s.answer)
        (record {
          long = w.left.long;
          equal = record { exponent = refl; entries = λ r c i j. w.left.equal.entries r c i j ∙ (made_equal n h s.left.equal pr).entries r c i j };
          small = w.left.small;
        });
    kept = kept_trans n s.kept w.kept;
  }

  -- the first does not fit
  pub stepped_unfit : {l1 : List ℤ} → Stepped n k g l l1 None → Stepped n k (then g h) l l1 None
  unfolding step_fits
  stepped_unfit s = record {
    answer = refused_step n (then g h) (held n k l) (ap (λ (b : Bool). b && step_fits n h (act n g (held n k l))) (step_refused n g (held n k l) s.answer));
    left = rw (step_refused n g (held n k l) s.answer) s.left;
    kept = s.kept;
  }

-- the answer is known by an equation
pub at_answer : {n k : ℕ} {g : Gate} {l l' : List ℤ} {r s : Option ℕ} → r ≡ s → Stepped n k g l l' r → Stepped n k g l l' s
at_answer {n} {k} {g} {l} {l'} e w = subst (λ (x : Option ℕ). Stepped n k g l l' x) e w
