-- The examples, computed from the definitions. Assumes nothing.
use mathlib.Core.Path.{◌≡◌, refl}
use mathlib.Core.List.{map}
use Rattle.limit.specs.Limits.{limit_table, class_of, table_limit, limit_of}
use Rattle.limit.specs.Examples.{samples}

-- what the rules give is, sample by sample, what they should
pub every_sample : map (λ s. s.given) samples ≡ map (λ s. s.expected) samples
unfolding limit_table class_of table_limit limit_of
every_sample = refl
