-- What is done to 4,096 signed places that hold a matrix. Assumes nothing.
use Rattle.std.specs.Prelude.{◌≡◌, List, ℕ, ◌+◌, ◌*◌, ◌^◌, ◌≤◌, ◌<◌, ℤ, pos, get_or, set}
use Rattle.cyclotomic.specs.Zomega.{Zω}

abbrev pub places : ℕ
places = 4096

-- the list with z at place e
unfoldable pub put : List ℤ → ℕ → Zω → List ℤ
put l e z = set (set (set (set l (4 * e) z.a) (4 * e + 1) z.b) (4 * e + 2) z.c) (4 * e + 3) z.d

-- two matrices of width n have the same entries
pub record Same (n : ℕ) (x y : ℕ → ℕ → Zω) : Type 0 where
  pub at : (r c : ℕ) → r < 2 ^ n → c < 2 ^ n → x r c ≡ y r c

-- the places past those of a matrix of width n hold what they held
pub record Kept (n : ℕ) (l l' : List ℤ) : Type 0 where
  pub past : (j : ℕ) → 4 * (2 ^ n * 2 ^ n) ≤ j → get_or l' j (pos 0) ≡ get_or l j (pos 0)

-- the places past those of a matrix of width n are 0
pub record Blank (n : ℕ) (l : List ℤ) : Type 0 where
  pub past : (j : ℕ) → 4 * (2 ^ n * 2 ^ n) ≤ j → get_or l j (pos 0) ≡ pos 0
