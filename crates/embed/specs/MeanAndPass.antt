-- What a C or Rust program finds behind its pointers after four levels have been judged.
use Rattle.std.specs.Prelude.{cond, ℕ, Ok, Err}
use Rattle.motorcycle.specs.Verdict.{Verdict}

-- the mean, and what was there before if the levels are refused
abbrev pub mean_or : Verdict → ℕ → ℕ
mean_or (Ok judged) kept = judged.mean.0
mean_or (Err refusal) kept = kept

-- 1 if the mean passes, 0 if it fails; what was there before if the levels are refused
abbrev pub pass_or : Verdict → ℕ → ℕ
pass_or (Ok judged) kept = cond judged.pass 1 0
pass_or (Err refusal) kept = kept
