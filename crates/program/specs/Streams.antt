-- Which bytes were read and written, for a reader and a writer whose bytes are known: those that the reader has left, and those that the writer
-- holds, before and after.
use Rattle.std.specs.Prelude.{◌≡◌, List, ℕ, ◌<◌, length, take, Option, Some, None, Ok, Err}
use Rattle.std.specs.Io.KnownBytes.{Keeps, Appends, Consumes, IsAtEnd}
use Rattle.line.specs.Line.{line_of_sheet}
use Rattle.program.specs.declared.Failure.TheVariants.{NotRead, NotWritten}
use Rattle.program.specs.Program.{Transfer, Ending}

-- The bytes counted were read to the front of the piece; none were only at the end of the input, or with no room for one. A failure read none.
abbrev pub Took : Option (List ℕ) → Option (List ℕ) → List ℕ → Transfer → Type 0
Took old new piece (Ok n) = Consumes old new (take n piece) × (n ≡ 0 → 0 < length piece → IsAtEnd new)
Took old new piece (Err e) = Keeps old new

-- bytes before a failure, as many as stand at the front of the sheet
abbrev pub TookPart : Option (List ℕ) → Option (List ℕ) → List ℕ → Type 0
TookPart old new sheet = (k : ℕ) × (k < length sheet) × Consumes old new (take k sheet)

-- The bytes counted were read to the front of the sheet, up to the end of the input where they do not fill it.
abbrev pub TookAll : Option (List ℕ) → Option (List ℕ) → List ℕ → Transfer → Type 0
TookAll old new sheet (Ok n) = Consumes old new (take n sheet) × (n < length sheet → IsAtEnd new)
TookAll old new sheet (Err e) = TookPart old new sheet

-- the bytes counted were written from the front of the piece; a failure wrote none
abbrev pub Gave : Option (List ℕ) → Option (List ℕ) → List ℕ → Transfer → Type 0
Gave old new piece (Ok n) = Appends old new (take n piece)
Gave old new piece (Err e) = Keeps old new

-- so many from the front, and not all
abbrev pub GavePart : Option (List ℕ) → Option (List ℕ) → List ℕ → Type 0
GavePart old new bytes = (k : ℕ) × (k < length bytes) × Appends old new (take k bytes)

-- all the bytes were written, or, with a failure, a part of them that is not the whole
abbrev pub GaveWhole : Option (List ℕ) → Option (List ℕ) → List ℕ → Transfer → Type 0
GaveWhole old new bytes (Ok n) = Appends old new bytes
GaveWhole old new bytes (Err e) = GavePart old new bytes

-- ---- the whole job

abbrev pub TookSheet : Option (List ℕ) → Option (List ℕ) → List ℕ → Ending → Type 0
TookSheet old new sheet (Ok p) = Consumes old new (take p.read sheet) × (p.read < length sheet → IsAtEnd new)
TookSheet old new sheet (Err (NotWritten n e)) = Consumes old new (take n sheet) × (n < length sheet → IsAtEnd new)
TookSheet old new sheet (Err (NotRead e)) = TookPart old new sheet

-- the line of the bytes that were read, or a part of it; nothing if they were not read
abbrev pub GaveLine : Option (List ℕ) → Option (List ℕ) → List ℕ → Ending → Type 0
GaveLine old new sheet (Ok p) = Appends old new (line_of_sheet (take p.read sheet))
GaveLine old new sheet (Err (NotWritten n e)) = GavePart old new (line_of_sheet (take n sheet))
GaveLine old new sheet (Err (NotRead e)) = Keeps old new

-- what is written for an input: its line, however long the input is, or a part of the line that is not the whole, or nothing
abbrev pub PrintsLine : List ℕ → Option (List ℕ) → Option (List ℕ) → Ending → Type 0
PrintsLine input old new (Ok p) = Appends old new (line_of_sheet input)
PrintsLine input old new (Err (NotWritten n e)) = GavePart old new (line_of_sheet input)
PrintsLine input old new (Err (NotRead e)) = Keeps old new

abbrev pub Prints : Option (List ℕ) → Option (List ℕ) → Option (List ℕ) → Ending → Type 0
Prints None old new ending = Unit {0}
Prints (Some input) old new ending = PrintsLine input old new ending
