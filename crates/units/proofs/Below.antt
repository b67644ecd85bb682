-- What a search answers that has found none when it comes to its end: the lowest number that passes the test, if one does. Assumes nothing.
use mathlib.Core.Path.{◌≡◌, refl, sym}
use mathlib.Core.Bool.{Bool, true, false, cond}
use Prim.Native.Nat.{ℕ, ◌+◌, ◌≤◌, ◌<◌}
use native.Mathlib.Omega.{arith}
use lib.Dec.{ltb}
use borrow.Author.Tests.{lt-ltb, le-ltb, ltb-true, ltb-false}
use denote.Ref.{Bor}
use denote.Param.Members.{Mut}
use Rattle.std.specs.Prelude.{Option, Some, None, MatchOption, List, is_some, ⊤}
use Rattle.std.specs.Fn.{CalledAt}
use Rattle.std.specs.Iterator.{YieldsThen}
use Rattle.std.specs.List.{FoldsTo}
use Rattle.std.specs.declared.ops.Range.{Range}
use Rattle.std.proofs.iter.Yields.{nat_range_steps}
use Rattle.std.proofs.lemmas.Iterator.{first_from_Range}
use Rattle.units.specs.Tests.{lowest, below}
use Rattle.units.proofs.Lowest.{lowest_is, first_is_lowest, none_by_lowest}
use Rattle.units.proofs.Tests.{by_test}

-- ---- `find` over a range

-- the first number that passes, or that none does, tells the answer
first_is_below : (test : ℕ → Bool) (from count last : ℕ) (r : Option ℕ) → from + count ≡ last → MatchOption r ((k : ℕ) → from ≤ k → k < last → k < last → test k ≡ false) (λ i. (from ≤ i) × (i < last) × (i < last → test i ≡ true) × ((k : ℕ) → from ≤ k → k < i → k < last → test k ≡ false)) → r ≡ below last (lowest test count from)
unfolding below
first_is_below test from count last None e none =
    let past : lowest test count from ≡ last = lowest_is test count from last (record { least = omega arith; most = omega arith; before = λ k l m. none k l m m; passes = λ l. absurd (omega arith) }) in
    simp (past, le-ltb last last (omega arith))
first_is_below test from count last (Some i) e found =
    let here : lowest test count from ≡ i = lowest_is test count from i (record { least = found.0; most = omega arith; before = λ k l m. found.3 k l m (omega arith); passes = λ l. found.2 found.1 }) in
    simp (here, lt-ltb i last found.1)

-- `find` over a range, with a closure that computes the test of each number before the end
pub below_from_find :
    {F : Type 0} {g : Mut F (Bor ℕ × Unit {0}) Bool} (test : ℕ → Bool) (count : ℕ) (s u : Range ℕ) (f : F) (r : Option ℕ) → s.start + count ≡ s.end → (xs : List ℕ) × (j : F) × YieldsThen nat_range_steps s xs r u × FoldsTo (λ p x q. CalledAt g p x false q) f xs j × MatchOption r ⊤ (λ x. (h : F) × CalledAt g j x true h) → ((x : ℕ) (b : Bool) (q : F) → CalledAt g f x b q → q ≡ f) → ((x : ℕ) (b : Bool) (q : F) → x < s.end → CalledAt g f x b q → b ≡ test x) → r ≡ below s.end (lowest test count s.start)
below_from_find test count s u f r e ran stays gives =
    first_is_below test s.start count s.end r e (first_from_Range s u f r (λ i. i < s.end → test i ≡ true) (λ i. i < s.end → test i ≡ false) ran (λ x q k l. sym (gives x true q l k)) (λ x q k. (stays x false q k, λ l. sym (gives x false q l k))))

-- ---- a search that goes from number to number

-- it begins at 0, and answers the first that passes the test
pub first_below_end : (test : ℕ → Bool) (end : ℕ) (r : Option ℕ) → (r ≡ None → (k : ℕ) → k < end → test k ≡ false) → ((i : ℕ) → r ≡ Some i → (i < end) × (test i ≡ true) × ((k : ℕ) → k < i → test k ≡ false)) → r ≡ below end (lowest test end 0)
unfolding below
first_below_end test end None none some =
    let past : lowest test end 0 ≡ 0 + end = none_by_lowest test end 0 (λ k l m. none refl k (omega arith)) in
    rw (le-ltb (lowest test end 0) end (omega arith))
first_below_end test end (Some i) none some =
    let s = some i refl in
    let at : lowest test end 0 ≡ i = first_is_lowest test end 0 i (record { least = omega arith; most = omega arith; holds = s.1; before = λ k l m. s.2 k m }) in
    rw (at, lt-ltb i end s.0)

-- ---- what its answer says

pub below_some : (end n i : ℕ) → below end n ≡ Some i → (n ≡ i) × (i < end)
unfolding below
below_some end n i = by_test (λ o. o ≡ Some i → (n ≡ i) × (i < end)) (ltb n end) _ _ (λ t e. let same : n ≡ i = cc in (same, omega (arith, ltb-true n end t))) (λ t e. absurd (cc))

pub below_none : (end n : ℕ) → below end n ≡ None → end ≤ n
unfolding below
below_none end n = by_test (λ o. o ≡ None → end ≤ n) (ltb n end) _ _ (λ t e. absurd (cc)) (λ t e. ltb-false n end t)

pub is_some_below : (end n : ℕ) → is_some (below end n) ≡ ltb n end
unfolding below
is_some_below end n = by (ltb n end)
  where
    by : (b : Bool) → is_some (cond b (Some n) None) ≡ b
    by true = refl
    by false = refl
