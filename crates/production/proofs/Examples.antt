-- What is known in the examples, computed from the definitions. Assumes nothing.
use mathlib.Core.Path.{◌≡◌, refl}
use mathlib.Core.List.{map}
use Rattle.production.specs.Annex.{meets}
use Rattle.production.specs.Examples.{known_of, courses}

-- what the annex gives is, course by course, what it should
pub every_course : map known_of courses ≡ map (λ c. c.known) courses
unfolding meets
every_course = refl
