-- Whether a table can be printed, and its text, by what the build answered. Assumes nothing.
use mathlib.Core.List.{List}
use mathlib.Core.Path.{◌≡◌, sym, ap, subst}
use Prim.Native.Nat.{ℕ}
use Rattle.tables.specs.Checks.{Arrays}
use Rattle.murm_build.specs.Entries.{told_building}
use Rattle.std.specs.Prelude.{Result}
use Rattle.refusal.specs.declared.Refusal.{Refusal}
use Rattle.murm_config.specs.declared.Murm.{Murm}
use Rattle.circuits_text.specs.Writing.{Put}
use Rattle.circuits_text.proofs.Placing.{put_as}
use Rattle.circuits_input.specs.Input.{InputLine}
use Rattle.circuits_parts.specs.Texts.{Printable}
use Rattle.circuits_built.specs.Built.{reply_then}

module _ {built b : Result Murm Refusal} (e : built ≡ b) where
  pub ready_as : (parents codes : List ℕ) → Printable (told_building built) parents codes → Printable (told_building b) parents codes
  ready_as parents codes r = subst (λ (z : Result Murm Refusal). Printable (told_building z) parents codes) e r

  pub building_as :
      {p : ℕ} {xs ys : List ℕ} (m : Arrays) (ls : List InputLine) →
      Put 0 (reply_then (told_building b) m ls) p xs ys → Put 0 (reply_then (told_building built) m ls) p xs ys
  building_as m ls d = put_as (ap (λ (z : Result Murm Refusal). reply_then (told_building z) m ls) (sym e)) d
