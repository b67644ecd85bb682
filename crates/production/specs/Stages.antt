-- A check as the code keeps it: the stage stands for what the cars counted so far have given. Here is what each function answers; `Sequences` has
-- what follows from it for all the cars of a check.
use Rattle.std.specs.Prelude.{Bool, cond, ℕ, Ok}
use Rattle.production.specs.declared.Stage.{Stage}
use Rattle.production.specs.declared.Stage.TheVariants.{NoCar, FirstMet, FirstFailed, SecondMet, SecondFailed, BothMet, NotBothMet}
use Rattle.production.specs.declared.Check.{Check}
use Rattle.production.specs.declared.Status.{Status}
use Rattle.production.specs.declared.Status.TheVariants.{Open, Conforms, DoesNotConform}
use Rattle.production.specs.declared.Offered.{Offered}
use Rattle.production.specs.Annex.{meets, Reply, refused_at}

-- ---- the status and the number of cars still wanted

abbrev pub status_at : Stage → Status
status_at NoCar = Open
status_at FirstMet = Conforms
status_at FirstFailed = Open
status_at SecondMet = Open
status_at SecondFailed = Open
status_at BothMet = Conforms
status_at NotBothMet = DoesNotConform

abbrev pub wanted_at : Stage → ℕ
wanted_at NoCar = 1
wanted_at FirstMet = 0
wanted_at FirstFailed = 2
wanted_at SecondMet = 1
wanted_at SecondFailed = 1
wanted_at BothMet = 0
wanted_at NotBothMet = 0

-- ---- one more car

-- the reply to it
abbrev pub reply_at : Stage → Reply
reply_at NoCar = Ok tt
reply_at FirstMet = refused_at 1
reply_at FirstFailed = Ok tt
reply_at SecondMet = Ok tt
reply_at SecondFailed = Ok tt
reply_at BothMet = refused_at 3
reply_at NotBothMet = refused_at 3

-- the stage that it leads to, by whether it met the requirement
abbrev pub next_stage : Stage → Bool → Stage
next_stage NoCar met = cond met FirstMet FirstFailed
next_stage FirstMet met = FirstMet
next_stage FirstFailed met = cond met SecondMet SecondFailed
next_stage SecondMet met = cond met BothMet NotBothMet
next_stage SecondFailed met = NotBothMet
next_stage BothMet met = BothMet
next_stage NotBothMet met = NotBothMet

-- a check before its first car
abbrev pub start_of : ℕ → Check
start_of limit = record { limit = limit; stage = NoCar }

-- a check offered a car; the limit stays
unfoldable pub offer_of : Check → ℕ → Offered
offer_of check car = record { check = record { limit = check.limit; stage = next_stage check.stage (meets check.limit car) }; reply = reply_at check.stage }
