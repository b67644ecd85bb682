-- A table of starts, each the lowest q of its N, and what the place of a q among them says. One computed test over a table gives for
-- every q of its range the N of `between`: that it exists, that there is no other, and that `lowest` finds it. Assumes nothing.
use mathlib.Core.Path.{◌≡◌, refl, sym}
use mathlib.Core.Bool.{Bool, true, false, ◌&&◌}
use mathlib.Core.List.{List}
use Prim.Native.Nat.{ℕ, zero, suc, ◌+◌, ◌-◌, ◌*◌, ◌^◌, ◌≤◌, ◌<◌}
use native.Mathlib.Nat.{le_of_eq, le_trans, lt_of_le_of_lt, lt_of_lt_of_le, lt_irrefl, le_antisymm, le_of_suc-le-suc, add-zero, lt_of_not-le, pow-le-pow_left, pow-le-pow_right}
use native.Mathlib.Omega.{arith}
use lib.Dec.{T, leb, ltb, lit<, leb→le, le→leb, ltb→lt, lt→ltb}
use lib.ListN.{length, get_or}
use lib.Ieee.Fits.{and_i, and_l, and_r}
use borrow.Author.Tests.{ltb-true, ltb-false}
use Rattle.std.proofs.lemmas.List.{get_or_default}
use Rattle.std.proofs.lemmas.List.Sorted.{IsNonDecreasingBy-from_all_adjacent}
use Rattle.units.specs.Tests.{lowest}
use Rattle.units.proofs.Table.{every, at}
use Rattle.units.proofs.Lowest.{lowest_alone}
use Rattle.reference.specs.Reference.{between}
use Rattle.reference.specs.Place.{StartsRise, Placed}

-- ---- the two tests of a definition, as facts

record Both (a b c d : ℕ) : Type 0 where
  least : a ≤ b
  most : c < d

facts : (a b c d : ℕ) → T (leb a b && ltb c d) → Both a b c d
facts a b c d t = record { least = leb→le a b (and_l (leb a b) (ltb c d) t); most = ltb→lt c d (and_r (leb a b) (ltb c d) t) }

pub tests : (a b c d : ℕ) → a ≤ b → c < d → T (leb a b && ltb c d)
tests a b c d l m = and_i (leb a b) (ltb c d) (le→leb a b l) (lt→ltb c d m)

-- ---- one N alone has its inequality

module _ (e from to q : ℕ) where
  its : (N : ℕ) → T (between e from to q N) → Both (10 ^ (2 * N + from)) (q ^ e) (q ^ e) (10 ^ (2 * N + to))
  unfolding between
  its N t = facts (10 ^ (2 * N + from)) (q ^ e) (q ^ e) (10 ^ (2 * N + to)) t

  not_below : to ≤ from + 2 → (M N : ℕ) → M < N → T (between e from to q M) → T (between e from to q N) → ⊥
  not_below w M N h s t = lt_irrefl _ (lt_of_lt_of_le (its M s).most (le_trans (pow-le-pow_right (lit< tt) (omega arith)) (its N t).least))

  -- no other N has it
  pub between_unique : to ≤ from + 2 → (M N : ℕ) → T (between e from to q M) → T (between e from to q N) → M ≡ N
  between_unique w M N s t =
      le_antisymm (le_of_suc-le-suc (lt_of_not-le (λ h. not_below w N M h t s))) (le_of_suc-le-suc (lt_of_not-le (λ h. not_below w M N h s t)))

  -- so `lowest` finds it
  pub lowest_between : to ≤ from + 2 → (N : ℕ) → T (between e from to q N) → N < 400 → lowest (between e from to q) 400 0 ≡ N
  lowest_between w N t h = lowest_alone (between e from to q) N t (λ M s. between_unique w M N s t) 400 0 (omega arith) (omega arith)

-- ---- a table of starts

-- the starts rise. The test is computed
pub rising : (starts : List ℕ) → T (every (λ i s. leb s (get_or starts (i + 1) s)) 0 starts) → StartsRise starts
unfolding StartsRise
rising starts t = IsNonDecreasingBy-from_all_adjacent (λ s. s) starts neighbours
  where
    neighbours : (k d : ℕ) → k + 1 < length starts → get_or starts k d ≤ get_or starts (k + 1) d
    neighbours k d h =
        let below : get_or starts k 0 ≤ get_or starts (k + 1) (get_or starts k 0) = leb→le _ _ (at (λ i s. leb s (get_or starts (i + 1) s)) starts t k (omega arith)) in
        rw (get_or_default starts k d 0 (omega arith), get_or_default starts (k + 1) d (get_or starts k 0) h) below

-- s is the lowest q of the N that is i + 1 above `below`: it reaches that N's power of ten, and one less does not
unfoldable pub start : ℕ → ℕ → ℕ → ℕ → ℕ → Bool
start e from below i s = leb (10 ^ (2 * (below + suc i) + from)) (s ^ e) && ltb ((s - 1) ^ e) (10 ^ (2 * (below + suc i) + from))

-- What a table is for: the q from `first` to `last`, whose N go from `below` on, one more at each start. The test is computed.
pub record Starts (e from to below first last : ℕ) (starts : List ℕ) : Type 0 where
  pub step : to ≡ from + 2
  pub tested : T (every (start e from below) 0 starts)
  pub opens : T (leb (10 ^ (2 * below + from)) (first ^ e))
  pub closes : T (ltb (last ^ e) (10 ^ (2 * (below + length starts) + to)))

module _ (e from to below first last : ℕ) (starts : List ℕ) (table : Starts e from to below first last starts) (q r : ℕ) (placed : Placed starts q r) where
  -- the start at a place
  entry : (i : ℕ) → i < length starts → let s = get_or starts i 0 in Both (10 ^ (2 * (below + suc i) + from)) (s ^ e) ((s - 1) ^ e) (10 ^ (2 * (below + suc i) + from))
  unfolding start
  entry i h =
      let s = get_or starts i 0 in
      let p = 10 ^ (2 * (below + suc i) + from) in
      facts p (s ^ e) ((s - 1) ^ e) p (at (start e from below) starts table.tested i h)

  lower : first ≤ q → (k : ℕ) → k ≡ r → 10 ^ (2 * (below + k) + from) ≤ q ^ e
  lower h zero s = rw add-zero (le_trans (leb→le (10 ^ (2 * below + from)) (first ^ e) table.opens) (pow-le-pow_left h e))
  lower h (suc i) s =
      let behind : r - 1 ≡ i = omega arith in
      let reached : get_or starts i 0 ≤ q = rw behind at (placed.reached (omega arith)) in
      le_trans (entry i (omega (arith, placed.bounded))).least (pow-le-pow_left reached e)

  upper : q ≤ last → q ^ e < 10 ^ (2 * (below + r) + to)
  upper h = by (ltb r (length starts)) refl
    where
      by : (b : Bool) → ltb r (length starts) ≡ b → q ^ e < 10 ^ (2 * (below + r) + to)
      by true f =
          let inside = ltb-true r (length starts) f in
          let next : 2 * (below + suc r) + from ≡ 2 * (below + r) + to = omega (arith, table.step) in
          let under : q ≤ get_or starts r 0 - 1 = omega (arith, placed.short inside) in
          rw next at (lt_of_le_of_lt (pow-le-pow_left under e) (entry r inside).most)
      by false f =
          let end : length starts ≡ r = le_antisymm (ltb-false r (length starts) f) placed.bounded in
          rw end at (lt_of_le_of_lt (pow-le-pow_left h e) (ltb→lt (last ^ e) (10 ^ (2 * (below + length starts) + to)) table.closes))

  -- the N of q is as many above `below` as q has starts behind it
  pub placed_between : first ≤ q → q ≤ last → T (between e from to q (below + r))
  unfolding between
  placed_between lo hi = tests (10 ^ (2 * (below + r) + from)) (q ^ e) (q ^ e) (10 ^ (2 * (below + r) + to)) (lower lo r refl) (upper hi)

  pub placed_lowest : first ≤ q → q ≤ last → below + r < 400 → below + r ≡ lowest (between e from to q) 400 0
  placed_lowest lo hi h = sym (lowest_between e from to q (le_of_eq table.step) (below + r) (placed_between lo hi) h)
