-- The limit of an accepted sheet, and its verdict (document 01, "L_urban"; document 02, wish 1).
use Rattle.std.specs.Prelude.{◌≡◌, true, List, ◌⊎◌, ℕ, ◌≤◌, leb, length, Ok}
use Rattle.record.specs.Records.{record_at, byte, word, looked_up}
use Rattle.limit.specs.Limits.{table_limit}
use Rattle.urban.specs.declared.Outcome.{Outcome}
use Rattle.urban.specs.Urban.{flag}
use Rattle.decision.specs.Decision.{pmr_in, sheet_limit, decision_of}
use Rattle.evaluation.specs.Answer.{buffer_of, IsAccepted}

-- it was looked up, for M1, by PMR, phase and byte 17: from 68 to 75
pub record FromTable (s : List ℕ) (limit : ℕ) : Type 0 where
  pub by_table : looked_up (record_at s 0) ≡ true
  pub m1 : byte (record_at s 0) 1 ≡ 1
  pub is : limit ≡ table_limit (pmr_in s) (byte (record_at s 0) 16) (byte (record_at s 0) 17)
  pub range : (68 ≤ limit) × (limit ≤ 75)

-- it was written: from 50 to 100
pub record FromField (s : List ℕ) (limit : ℕ) : Type 0 where
  pub is : limit ≡ word (record_at s 0) 14
  pub range : (50 ≤ limit) × (limit ≤ 100)

-- Of an accepted sheet a limit was found; it is handed on with the result's fields; and byte 5 of the result is 1 if L_urban, at byte 10, is not
-- above it, else 0.
pub record PassByLimit (s b : List ℕ) : Type 0 where
  pub limit : ℕ
  pub found : sheet_limit s ≡ Ok limit
  pub source : FromTable s limit ⊎ FromField s limit
  pub outcome : Outcome
  pub handed_on : decision_of s ≡ Ok (record { outcome = outcome; limit = limit })
  pub pass : byte (buffer_of s b) 5 ≡ flag (leb (word (buffer_of s b) 10) limit)

abbrev pub AllByLimit : Type 0
AllByLimit = (s b : List ℕ) → IsAccepted s (length b) → PassByLimit s b
