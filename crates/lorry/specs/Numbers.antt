-- A lorry as numbers, in the order in which C and Rust, a file and the examples have them.
use Rattle.std.specs.Prelude.{ℕ}
use Rattle.lorry.specs.declared.TwoAxles.{TwoAxles}

-- two axles: the power in tenths of kW; the front load, the rear load and the rear axle's maximum in kg
abbrev pub lorry_of : ℕ → ℕ → ℕ → ℕ → TwoAxles
lorry_of power front rear rear_max = record { power = power; front = front; rear = rear; rear_max = rear_max }
