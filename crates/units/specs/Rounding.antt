-- Document 01, "From levels to windows", first sentence: rounded always means to the nearest, a half going up.
use Rattle.std.specs.Prelude.{ℕ, ◌+◌, ◌*◌, ◌/◌}

-- n / d rounded: the whole part of n / d + 1/2, for any divisor d above 0
unfoldable pub rounded : ℕ → ℕ → ℕ
rounded n d = (2 * n + d) / (2 * d)
