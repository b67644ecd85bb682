-- Production checks on the list of cars offered so far, in their order, each as its L_urban (document 02, wish 11; document 001, annex 7, 3, and
-- its paragraph 8.1).
use Rattle.std.specs.Prelude.{Bool, cond, ◌&&◌, List, [], ◌∷◌, ℕ, ◌+◌, ◌-◌, leb, length, take, Result, Ok, Err}
use Rattle.refusal.specs.Refusal.{number_in}
use Rattle.production.specs.declared.Status.{Status}
use Rattle.production.specs.declared.Status.TheVariants.{Open, Conforms, DoesNotConform}
use Rattle.production.specs.declared.AfterVerdict.{AfterVerdict}

-- Paragraph 8.1: the limit is applied with 1 dB more. Both are whole numbers of any size.
unfoldable pub meets : ℕ → ℕ → Bool
meets limit car = leb car (limit + 1)

-- One car is measured. If it meets the requirement, the type conforms. If not, two more are measured, and there is no verdict before both have
-- been: the type conforms if both meet it, else it does not. Cars after the third do not count.
abbrev pub status_of : ℕ → List ℕ → Status
status_of limit [] = Open
status_of limit (first ∷ []) = cond (meets limit first) Conforms Open
status_of limit (first ∷ second ∷ []) = cond (meets limit first) Conforms Open
status_of limit (first ∷ second ∷ third ∷ later) =
    cond (meets limit first) Conforms (cond (meets limit second && meets limit third) Conforms DoesNotConform)

-- how many cars are asked for, as far as is known
abbrev pub asked_for : ℕ → List ℕ → ℕ
asked_for limit [] = 1
asked_for limit (first ∷ others) = cond (meets limit first) 1 3

-- how many of those offered are counted: the first ones, up to the number that is asked for
abbrev pub counted_of : ℕ → List ℕ → ℕ
counted_of limit cars = length (take (asked_for limit cars) cars)

-- how many are still wanted
abbrev pub wanted_of : ℕ → List ℕ → ℕ
wanted_of limit cars = asked_for limit cars - counted_of limit cars

-- A car is counted, or refused after the verdict.
abbrev pub Reply : Type 0
Reply = Result (Unit {0}) AfterVerdict

-- the refusal at a number of cars counted
abbrev pub refused_at : ℕ → Reply
refused_at counted = Err (record { counted = counted })

-- The reply to one more car after these: it is counted while there is no verdict, and refused after it, at the number of cars counted.
abbrev pub reply_by : Status → ℕ → Reply
reply_by Open counted = Ok tt
reply_by Conforms counted = refused_at counted
reply_by DoesNotConform counted = refused_at counted

abbrev pub reply_of : ℕ → List ℕ → Reply
reply_of limit cars = reply_by (status_of limit cars) (counted_of limit cars)

-- the number and the place of a refusal: 0 and 0 for a car that is counted
abbrev pub number_of : AfterVerdict → ℕ
number_of refusal = 20

abbrev pub place_of : AfterVerdict → ℕ
place_of refusal = refusal.counted

abbrev pub reply_number : Reply → ℕ
reply_number reply = number_in number_of reply

abbrev pub reply_place : Reply → ℕ
reply_place reply = number_in place_of reply
