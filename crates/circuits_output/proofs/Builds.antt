-- What a build's equation says of its reply: what is printed, what the arrays hold, and that a table can be printed.
-- Assumes nothing.
use mathlib.Core.List.{List}
use mathlib.Core.Path.{◌≡◌, refl, sym, ap}
use Rattle.walk.specs.Modes.{by_print}
use Rattle.tables.specs.Checks.{Limits, Arrays}
use Rattle.tables.specs.Tables.{BuildReply, table, refusal, Left, left, build_of}
use Rattle.tables.proofs.Accepted.{roomy}
use Rattle.tables.proofs.FromBuild.{build_built}
use Rattle.tables.proofs.Counts.{good_record}
use Rattle.circuits_input.specs.Input.{InputLine}
use Rattle.circuits_parts.specs.Texts.{Printable}
use Rattle.circuits_built.specs.Built.{reply_then}
use Rattle.circuits_output.specs.Output.{built_text}

module _ (l : Limits) (lent : Arrays) {after : Arrays} where
  pub text_is : {reply : BuildReply} (ls : List InputLine) → left reply after ≡ build_of by_print l lent → reply_then reply after ls ≡ built_text lent ls l
  unfolding built_text
  text_is ls e = ap (λ (z : Left). reply_then z.reply z.arrays ls) e

  pub arrays_are : {reply : BuildReply} → left reply after ≡ build_of by_print l lent → after ≡ (build_of by_print l lent).arrays
  arrays_are e = ap (λ (z : Left). z.arrays) e

  pub ready : (reply : BuildReply) → left reply after ≡ build_of by_print l lent → Printable reply after.parents after.codes
  ready (table t) e =
      let b = (build_built by_print l lent after t (sym e)).0 in
      let r = roomy t.limits after b.room in
      (good_record t after b, r.1, r.2)
  ready (refusal number position) e = refl
