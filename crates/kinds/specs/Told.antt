-- The code's kinds as those of the definition. Assumes nothing.
use Rattle.std.specs.Prelude.{◌≡◌, ℕ, Option, Some, None, Result, MatchResult}
use Rattle.kinds.specs.declared.GateKind.{GateKind}
use Rattle.kinds.specs.declared.GateKind.TheVariants as code
use Rattle.kinds.specs.declared.UnknownKind.{UnknownKind}
use Rattle.kinds.specs.Kinds.{Kind, kind_at}
use Rattle.kinds.specs.Kinds.{H, X, Z, S, Sdg, T, Tdg, Cx, Cz, Ccx, Ccz, Y, Sx, Swap, Cy, Ch, Cswap, Other}

abbrev pub told_kind : GateKind → Kind
told_kind code.H = H
told_kind code.X = X
told_kind code.Z = Z
told_kind code.S = S
told_kind code.Sdg = Sdg
told_kind code.T = T
told_kind code.Tdg = Tdg
told_kind code.Cx = Cx
told_kind code.Cz = Cz
told_kind code.Ccx = Ccx
told_kind code.Ccz = Ccz
told_kind code.Y = Y
told_kind code.Sx = Sx
told_kind code.Swap = Swap
told_kind code.Cy = Cy
told_kind code.Ch = Ch
told_kind code.Cswap = Cswap

-- a kind that was found, or that there is none
abbrev pub told_found : Option GateKind → Kind
told_found (Some k) = told_kind k
told_found None = Other

-- what a number is taken for: its kind, or that no kind has it
abbrev pub Tried : ℕ → Result GateKind UnknownKind → Type 0
Tried n r = MatchResult r (λ k. told_kind k ≡ kind_at n) (λ e. (e.0 ≡ n) × (kind_at n ≡ Other))
