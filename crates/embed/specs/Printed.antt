-- What a C or Rust program gets as text: the line that the evaluation program prints for a sheet.
use Rattle.std.specs.Prelude.{cond, List, [], ℕ, ltb}
use Rattle.line.specs.Line.{line_of_sheet}

-- the line, and nothing for a buffer of less than 276 bytes, which might not hold it
unfoldable pub printed_of : List ℕ → ℕ → List ℕ
printed_of s size = cond (ltb size 276) [] (line_of_sheet s)
