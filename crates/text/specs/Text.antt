-- Text in ASCII codes: decimal digits, a line of numbers parted by spaces, and what a buffer holds with a text at its front.
use Rattle.std.specs.Prelude.{cond, List, [], ◌∷◌, ◌++◌, ℕ, zero, suc, ◌+◌, ◌/◌, ◌%◌, ltb, length, drop}

-- the decimal digits of n without zeros in front; of a number with more than `most` digits the last `most`
unfoldable pub digits_of : ℕ → ℕ → List ℕ
digits_of zero n = []
digits_of (suc most) n = cond (ltb n 10) ((48 + n) ∷ []) (digits_of most (n / 10) ++ ((48 + n % 10) ∷ []))

-- 20 digits hold every 64-bit number
unfoldable pub decimal_of : ℕ → List ℕ
decimal_of n = digits_of 20 n

-- a text, and each number after a single space
unfoldable pub spaced : List ℕ → List ℕ → List ℕ
spaced s [] = s
spaced s (n ∷ ns) = spaced ((s ++ (32 ∷ [])) ++ decimal_of n) ns

-- a line: a word, each number after a single space, and a line feed
unfoldable pub line_with : List ℕ → List ℕ → List ℕ
line_with word numbers = spaced word numbers ++ (10 ∷ [])

-- a buffer with a text at its front: the text, and behind it the bytes that stood there
unfoldable pub onto : List ℕ → List ℕ → List ℕ
onto text b = text ++ drop (length text) b
