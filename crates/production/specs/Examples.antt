-- Examples: a limit, the cars offered, and what should be known after the last of them.
use Rattle.std.specs.Prelude.{List, [], ◌∷◌, ℕ, Ok}
use Rattle.production.specs.declared.Status.{Status}
use Rattle.production.specs.declared.Status.TheVariants.{Open, Conforms, DoesNotConform}
use Rattle.production.specs.Annex.{Reply, refused_at, status_of, wanted_of, reply_of}

-- what is known after the cars of a check: the status, how many more are wanted, and the reply to one more
pub record Known : Type 0 where
  pub status : Status
  pub wanted : ℕ
  pub reply : Reply

-- the course of a check, and what should be known at its end
pub record Course : Type 0 where
  pub limit : ℕ
  pub cars : List ℕ
  pub known : Known

abbrev pub course : ℕ → List ℕ → Status → ℕ → Reply → Course
course limit cars status wanted reply =
    record { limit = limit; cars = cars; known = record { status = status; wanted = wanted; reply = reply } }

-- what the annex gives
abbrev pub known_of : Course → Known
known_of c = record { status = status_of c.limit c.cars; wanted = wanted_of c.limit c.cars; reply = reply_of c.limit c.cars }

abbrev pub courses : List Course
courses =
    course 72 [] Open 1 (Ok tt)
    -- 73 dB is the limit plus 1 dB; a later car changes nothing, however loud
    ∷ course 72 (73 ∷ []) Conforms 0 (refused_at 1)
    ∷ course 72 (73 ∷ 65535 ∷ []) Conforms 0 (refused_at 1)
    ∷ course 72 (73 ∷ 74 ∷ 74 ∷ 74 ∷ []) Conforms 0 (refused_at 1)
    -- two more are measured after a first that fails, also if the second fails
    ∷ course 72 (74 ∷ []) Open 2 (Ok tt)
    ∷ course 72 (74 ∷ 80 ∷ []) Open 1 (Ok tt)
    ∷ course 72 (74 ∷ 80 ∷ 70 ∷ []) DoesNotConform 0 (refused_at 3)
    ∷ course 72 (74 ∷ 80 ∷ 70 ∷ 70 ∷ 70 ∷ []) DoesNotConform 0 (refused_at 3)
    -- both must meet it
    ∷ course 72 (74 ∷ 73 ∷ []) Open 1 (Ok tt)
    ∷ course 72 (74 ∷ 73 ∷ 73 ∷ []) Conforms 0 (refused_at 3)
    ∷ course 72 (74 ∷ 73 ∷ 74 ∷ []) DoesNotConform 0 (refused_at 3)
    ∷ course 72 (74 ∷ 74 ∷ 74 ∷ []) DoesNotConform 0 (refused_at 3)
    ∷ course 72 (74 ∷ 73 ∷ 73 ∷ 74 ∷ []) Conforms 0 (refused_at 3)
    -- the ends of 16 bits: 65,534 + 1 is 65,535, and 65,535 + 1 is above every car
    ∷ course 65535 (65535 ∷ []) Conforms 0 (refused_at 1)
    ∷ course 65534 (65535 ∷ []) Conforms 0 (refused_at 1)
    ∷ course 65533 (65535 ∷ []) Open 2 (Ok tt)
    ∷ course 0 (1 ∷ []) Conforms 0 (refused_at 1)
    ∷ course 0 (2 ∷ []) Open 2 (Ok tt)
    ∷ []
