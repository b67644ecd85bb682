-- How answers compare with those of an evaluation without wish 5 of document 02: it has one number for a gear without an acceleration window, 7, and
-- one for a gear without a constant-speed window, 10, as in document 01, whatever the shortage. It is the same definition with these numbers.
use Rattle.std.specs.Prelude.{◌≡◌, cond, List, ◌↔◌, ℕ, ◌<◌, eqb, length}
use Rattle.refusal.specs.Refusal.{by_shortage, WindowNumbers, window_numbers, answer_number_by, answer_place}
use Rattle.evaluation.specs.Answer.{answer_of, buffer_of}
use Rattle.evaluation.specs.Rows.{rows_by, First}

abbrev pub one_number : WindowNumbers
one_number = record { acceleration = by_shortage 7 7; constant = by_shortage 10 10 }

-- what the caller gets back: a number, 0 for an accepted sheet, a place, and every byte of the buffer
pub record Returned : Type 0 where
  pub number : ℕ
  pub place : ℕ
  pub buffer : List ℕ

-- with these numbers of a missing window
abbrev pub returned_by : WindowNumbers → List ℕ → List ℕ → Returned
returned_by numbers s b = record { number = answer_number_by numbers (answer_of s (length b)); place = answer_place (answer_of s (length b)); buffer = buffer_of s b }

-- the two numbers of a missing window put together again
unfoldable pub together : ℕ → ℕ
together n = cond (eqb n 14) 7 (cond (eqb n 15) 10 n)

-- Of every sheet and every buffer: what is 14 is 7 without wish 5 and what is 15 is 10; every other number, every place and every byte are the same.
abbrev pub KeptButForShortages : Type 0
KeptButForShortages = (s b : List ℕ) → let now = returned_by window_numbers s b in returned_by one_number s b ≡ record { number = together now.number; place = now.place; buffer = now.buffer }

-- And the evaluation without it refuses with a number and a place if and only if the row with them is the first of the table, in which these rows have
-- 7 and 10, whose cause holds.
abbrev pub ByOneNumber : Type 0
ByOneNumber = (s b : List ℕ) (n p : ℕ) → 0 < n → (((returned_by one_number s b).number ≡ n) × ((returned_by one_number s b).place ≡ p)) ↔ First (rows_by one_number s (length b)) n p
