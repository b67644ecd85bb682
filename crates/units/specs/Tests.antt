-- Tests of numbers, and lists of tests.
use Rattle.std.specs.Prelude.{◌≡◌, Bool, Option, Some, None, cond, ltb, true, false, ◌&&◌, ◌||◌, List, [], ◌∷◌, ℕ, zero, suc, ◌+◌, ◌≤◌, ◌<◌, eqb}

-- the lowest of the `count` numbers from n on that passes the test, and the number after them where none does
unfoldable pub lowest : (ℕ → Bool) → ℕ → ℕ → ℕ
lowest test zero n = n
lowest test (suc count) n = elim (test n) [ true ↦ n | false ↦ lowest test count (suc n) ]

-- a number, if it is below the end: a search that comes to its end has found none
unfoldable pub below : ℕ → ℕ → Option ℕ
below end n = cond (ltb n end) (Some n) None

-- r is the first of the `count` numbers from n on that passes the test
pub record FirstOf (test : ℕ → Bool) (count n r : ℕ) : Type 0 where
  pub least : n ≤ r
  pub most : r < n + count
  pub holds : test r ≡ true
  pub before : (m : ℕ) → n ≤ m → m < r → test m ≡ false

-- none of them passes it
abbrev pub NoneOf : (ℕ → Bool) → ℕ → ℕ → Type 0
NoneOf test count n = (m : ℕ) → n ≤ m → m < n + count → test m ≡ false

-- some of the `count` numbers from n on passes the test
unfoldable pub some : (ℕ → Bool) → ℕ → ℕ → Bool
some test zero n = false
some test (suc count) n = test n || some test count (n + 1)

-- one past the last of the first n numbers that passes the test, and 0 where none does
unfoldable pub past_last : (ℕ → Bool) → ℕ → ℕ
past_last test zero = 0
past_last test (suc n) = elim (test n) [ true ↦ suc n | false ↦ past_last test n ]

-- for each of the `count` numbers from n on, whether it passes the test
unfoldable pub marks : (ℕ → Bool) → ℕ → ℕ → List Bool
marks test zero n = []
marks test (suc count) n = test n ∷ marks test count (n + 1)

-- a number is one of a list
unfoldable pub among : ℕ → List ℕ → Bool
among n [] = false
among n (m ∷ others) = eqb n m || among n others

-- every test of the list passes
abbrev pub all_of : List Bool → Bool
all_of [] = true
all_of (test ∷ tests) = test && all_of tests
