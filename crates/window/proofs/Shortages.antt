-- Each way to have no window comes exactly on its cause. Assumes nothing.
use mathlib.Core.Path.{◌≡◌, refl, ap, ◌∙◌}
use mathlib.Core.Bool.{Bool, true, false}
use mathlib.Core.List.{List}
use Prim.Native.Nat.{ℕ, ◌≤◌, ◌<◌}
use native.Mathlib.Omega.{arith}
use lib.ListN.{length}
use lib.Dec.{ltb}
use borrow.Author.Tests.{lt-ltb, le-ltb, ltb-true, ltb-false}
use Rattle.std.specs.Prelude.{Err}
use Rattle.refusal.specs.declared.Shortage.TheVariants.{TooFew, TooWide}
use Rattle.window.specs.declared.ValidRun.{ValidRun}
use Rattle.window.specs.Windows.{shortage_of, first_window}
use Rattle.window.specs.Shortages.{NoneFits, OnTheirCauses}
use Rattle.window.proofs.Searches.{first_is, none_is}
use Rattle.window.proofs.Parts.{none_of}

few : (count : ℕ) → count < 4 → shortage_of count ≡ TooFew
unfolding shortage_of
few count h = simp (lt-ltb count 4 h)

many : (count : ℕ) → 4 ≤ count → shortage_of count ≡ TooWide
unfolding shortage_of
many count h = simp (le-ltb count 4 h)

module _ (rest : List ValidRun) where
  no_window : length rest < 4 → first_window rest ≡ Err TooFew
  no_window h = none_of rest (λ i l. absurd (omega arith)) ∙ ap Err (few (length rest) h)

  few_only : first_window rest ≡ Err TooFew → length rest < 4
  few_only e = by (ltb (length rest) 4) refl
    where
      by : (b : Bool) → ltb (length rest) 4 ≡ b → length rest < 4
      by true t = ltb-true (length rest) 4 t
      by false t = absurd (let same : TooFew ≡ TooWide = (none_is rest TooFew e).0 ∙ many (length rest) (ltb-false (length rest) 4 t) in let z : ◌≡◌ {A = ℕ} 0 1 = cc in omega arith)

  wide_only : first_window rest ≡ Err TooWide → (4 ≤ length rest) × NoneFits rest
  wide_only e = (by (ltb (length rest) 4) refl, (none_is rest TooWide e).1)
    where
      by : (b : Bool) → ltb (length rest) 4 ≡ b → 4 ≤ length rest
      by false t = ltb-false (length rest) 4 t
      by true t = absurd (let same : TooWide ≡ TooFew = (none_is rest TooWide e).0 ∙ few (length rest) (ltb-true (length rest) 4 t) in let z : ◌≡◌ {A = ℕ} 0 1 = cc in omega arith)

  pub on_their_causes : OnTheirCauses rest
  on_their_causes =
      record {
        too_few = (few_only, no_window);
        too_wide = (wide_only, λ h. none_of rest h.1 ∙ ap Err (many (length rest) h.0));
        few_have_none = λ h f e. omega (arith, (first_is rest f e).inside);
      }
