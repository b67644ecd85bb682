-- The line that the evaluation program prints (document 01, after the whole sheet's table), in ASCII codes.
use Rattle.std.specs.Prelude.{List, [], ◌∷◌, ℕ, replicate, Ok, Err}
use Rattle.refusal.specs.Refusal.{Answer, number_of, place_of}
use Rattle.result.specs.Result.{outcome_in, fields_of}
use Rattle.evaluation.specs.Answer.{answer_of, buffer_of}
use Rattle.text.specs.Text.{line_with}

-- "OK"
unfoldable pub accepted_word : List ℕ
accepted_word = 79 ∷ 75 ∷ []

-- "REFUSED"
unfoldable pub refused_word : List ℕ
refused_word = 82 ∷ 69 ∷ 70 ∷ 85 ∷ 83 ∷ 69 ∷ 68 ∷ []

-- the line for an answer and the bytes of the result buffer
unfoldable pub line_of : Answer → List ℕ → List ℕ
line_of (Ok tt) b = line_with accepted_word (fields_of (outcome_in b))
line_of (Err r) b = line_with refused_word (number_of r ∷ place_of r ∷ [])

-- the line of a sheet, evaluated with a result buffer of 32 zeros
unfoldable pub line_of_sheet : List ℕ → List ℕ
line_of_sheet s = line_of (answer_of s 32) (buffer_of s (replicate 32 0))
