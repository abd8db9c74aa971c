-- When three operands are placed at a width and when they rise (SPECIFICATION 2.1, 2.4). Assumes nothing.
use Rattle.std.specs.Prelude.{Bool, true, ◌&&◌, List, [], ◌∷◌, ℕ, eqb, ltb, take, drop}
use Rattle.ints.specs.Lists.{all, distinct}

-- the first m of three operands are used: those are below n and distinct, the others are 0
unfoldable pub placed : ℕ → ℕ → ℕ → ℕ → ℕ → Bool
placed n m a b c =
    all (λ q. ltb q n) (take m (a ∷ b ∷ c ∷ []))
    && (distinct (take m (a ∷ b ∷ c ∷ [])) && all (λ q. eqb q 0) (drop m (a ∷ b ∷ c ∷ [])))

-- each number is below the next
unfoldable pub rises : List ℕ → Bool
rises [] = true
rises (x ∷ []) = true
rises (x ∷ y ∷ l) = ltb x y && rises (y ∷ l)

-- the first m operands rise; how many must, each kind says (SPECIFICATION 2.1)
abbrev pub ordered : ℕ → ℕ → ℕ → ℕ → Bool
ordered m a b c = rises (take m (a ∷ b ∷ c ∷ []))
