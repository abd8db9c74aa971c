-- The code's kinds are the seventeen. Assumes nothing.
use mathlib.Core.Path.{◌≡◌, refl, sym, ap}
use mathlib.Core.Bool.{true}
use Prim.Native.Nat.{ℕ}
use lib.Dec.{ltb}
use lib.ListN.{get_or, get_or-map}
use Rattle.std.specs.Prelude.{Option, Some, None, MatchOption}
use Rattle.ints.specs.Lists.{all, range}
use Rattle.kinds.specs.declared.GateKind.{GateKind}
use Rattle.kinds.specs.declared.GateKind.TheVariants as code
use Rattle.kinds.specs.declared.TheConstants.{BY_NUMBER}
use Rattle.kinds.specs.Kinds.{Kind, kind_at, number, is_kind, of_tables, dual, kind_charge}
use Rattle.kinds.specs.Told.{told_kind, told_found}
use Rattle.kinds.proofs.ByNumber.{every_kind_lem, told_alike, alike}

-- each is a kind
pub told_is : (k : GateKind) → is_kind (told_kind k) ≡ true
unfolding is_kind
told_is code.H = refl
told_is code.X = refl
told_is code.Z = refl
told_is code.S = refl
told_is code.Sdg = refl
told_is code.T = refl
told_is code.Tdg = refl
told_is code.Cx = refl
told_is code.Cz = refl
told_is code.Ccx = refl
told_is code.Ccz = refl
told_is code.Y = refl
told_is code.Sx = refl
told_is code.Swap = refl
told_is code.Cy = refl
told_is code.Ch = refl
told_is code.Cswap = refl

-- the code's list of them is the definition's
pub by_number : (k : ℕ) → told_found (get_or BY_NUMBER k None) ≡ kind_at k
unfolding kind_at
by_number k = sym (get_or-map told_found BY_NUMBER k None)

-- the kinds of tables are those with a number below 12
pub tables_below : (k : GateKind) → of_tables (told_kind k) ≡ ltb (number (told_kind k)) 12
unfolding of_tables number
tables_below code.H = refl
tables_below code.X = refl
tables_below code.Z = refl
tables_below code.S = refl
tables_below code.Sdg = refl
tables_below code.T = refl
tables_below code.Tdg = refl
tables_below code.Cx = refl
tables_below code.Cz = refl
tables_below code.Ccx = refl
tables_below code.Ccz = refl
tables_below code.Y = refl
tables_below code.Sx = refl
tables_below code.Swap = refl
tables_below code.Cy = refl
tables_below code.Ch = refl
tables_below code.Cswap = refl

-- and those that a kind undoes
pub undone : (k : Kind) → of_tables k ≡ is_kind (dual k)
unfolding all range kind_at is_kind of_tables dual
undone k = alike _ _ (every_kind_lem (λ k. told_alike (of_tables k) (is_kind (dual k))) refl k)

-- what is answered of the kind that was found, or of none: the charge, the kind that undoes it
pub charge_found : (o : Option GateKind) (n : ℕ) → MatchOption o (n ≡ 0) (λ k. n ≡ kind_charge (told_kind k)) → n ≡ kind_charge (told_found o)
unfolding kind_charge
charge_found (Some k) n h = h
charge_found None n h = h

pub dual_found : (o r : Option GateKind) → MatchOption o (r ≡ None) (λ k. told_found r ≡ dual (told_kind k)) → told_found r ≡ dual (told_found o)
unfolding dual
dual_found (Some k) r h = h
dual_found None r h = ap told_found h
