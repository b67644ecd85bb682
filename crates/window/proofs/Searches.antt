-- The search for the first window, place by place, and what is found. Assumes nothing.
use mathlib.Core.Path.{◌≡◌, sym, ap, ◌∙◌}
use mathlib.Core.Bool.{true, false}
use mathlib.Core.List.{List}
use Prim.Native.Nat.{ℕ, ◌+◌, ◌-◌, ◌≤◌, ◌<◌}
use native.Mathlib.Omega.{arith}
use lib.ListN.{length}
use lib.Dec.{ltb}
use borrow.Author.Tests.{lt-ltb, le-ltb, ltb-true, ltb-false}
use Rattle.std.specs.Prelude.{Result, Ok, Err}
use Rattle.units.proofs.Lowest.{Lowest, found, Passed, passed_start, passed_next, passed_stop, passed_end}
use Rattle.units.proofs.Tests.{by_test}
use Rattle.refusal.specs.declared.Shortage.{Shortage}
use Rattle.window.specs.declared.ValidRun.{ValidRun}
use Rattle.window.specs.declared.Four.{Four}
use Rattle.window.specs.Windows.{fitting, four_at, first_place, shortage_of, first_window}

module _ (rest : List ValidRun) where
  -- nothing fits before place i
  pub Reached : ℕ → Type 0
  Reached i = Passed (λ k. fitting (four_at rest k)) (length rest - 3) i

  pub reached_start : Reached 0
  unfolding Reached
  reached_start = passed_start (λ k. fitting (four_at rest k)) (length rest - 3)

  pub reached_next : (i : ℕ) → i + 3 < length rest → fitting (four_at rest i) ≡ false → Reached i → Reached (i + 1)
  unfolding Reached
  reached_next i h e r = passed_next (λ k. fitting (four_at rest k)) (length rest - 3) i (omega arith) e r

  pub found_here : (i : ℕ) → i + 3 < length rest → fitting (four_at rest i) ≡ true → Reached i → first_window rest ≡ Ok (four_at rest i)
  unfolding Reached first_window first_place
  found_here i h e r = simp (passed_stop (λ k. fitting (four_at rest k)) (length rest - 3) i (omega arith) e r, lt-ltb i (length rest - 3) (omega arith))

  pub found_nowhere : (i : ℕ) → length rest ≤ i + 3 → Reached i → first_window rest ≡ Err (shortage_of (length rest))
  unfolding Reached first_window first_place
  found_nowhere i h r = simp (passed_end (λ k. fitting (four_at rest k)) (length rest - 3) i (omega arith) r, le-ltb i (length rest - 3) (omega arith))

-- ---- what is found, for a reader to check: a window, and no earlier one; or nothing, and then there is none

pub record FirstFound (rest : List ValidRun) (f : Four) : Type 0 where
  pub place : ℕ
  pub inside : place + 3 < length rest
  pub is : f ≡ four_at rest place
  pub fits : fitting f ≡ true
  pub earliest : (i : ℕ) → i < place → fitting (four_at rest i) ≡ false

module _ (rest : List ValidRun) where
  search : Lowest (λ i. fitting (four_at rest i)) (length rest - 3) 0 (first_place rest)
  unfolding first_place
  search = found (λ i. fitting (four_at rest i)) (length rest - 3) 0

  pub first_is : (f : Four) → first_window rest ≡ Ok f → FirstFound rest f
  unfolding first_window
  first_is f =
      by_test (λ (w : Result Four Shortage). w ≡ Ok f → FirstFound rest f) (ltb (first_place rest) (length rest - 3)) _ _
      (λ t e.
      let inside = ltb-true (first_place rest) (length rest - 3) t in
      let same : four_at rest (first_place rest) ≡ f = cc in
      record {
        place = first_place rest;
        inside = omega arith;
        is = sym same;
        fits = sym (ap fitting same) ∙ search.passes (omega arith);
        earliest = λ i h. search.before i (omega arith) h;
      })
      (λ t e. absurd (let z : ◌≡◌ {A = ℕ} 0 1 = cc in omega arith))

  -- nothing, with the shortage of so many runs
  pub none_is : (x : Shortage) → first_window rest ≡ Err x → (x ≡ shortage_of (length rest)) × ((i : ℕ) → i + 3 < length rest → fitting (four_at rest i) ≡ false)
  unfolding first_window
  none_is x =
      by_test (λ (w : Result Four Shortage). w ≡ Err x → (x ≡ shortage_of (length rest)) × ((i : ℕ) → i + 3 < length rest → fitting (four_at rest i) ≡ false)) (ltb (first_place rest) (length rest - 3)) _ _
      (λ t e. absurd (let z : ◌≡◌ {A = ℕ} 0 1 = cc in omega arith))
      (λ t e.
      let same : shortage_of (length rest) ≡ x = cc in
      (sym same, λ i h. search.before i (omega arith) (omega (arith, ltb-false (first_place rest) (length rest - 3) t))))
