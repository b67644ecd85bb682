-- Rule 2's search: the nearest gear so far, place by place. Assumes nothing.
use Rattle.std.specs.Prelude.{Option, Some, None}
use Rattle.std.specs.Option.{option_map}
use mathlib.Core.Path.{◌≡◌, refl, sym, ap, ◌∙◌}
use mathlib.Core.Bool.{Bool, true, false, ◌&&◌, and-true}
use mathlib.Core.List.{List}
use Prim.Native.Nat.{ℕ, zero, suc, ◌+◌, ◌≤◌, ◌<◌}
use native.Mathlib.Nat.{le_antisymm, lt_of_lt_of_le, le_of_lt}
use native.Mathlib.Numerals.{add-one}
use native.Mathlib.Omega.{arith}
use lib.Dec.{ltb, eqb}
use lib.ListN.{length}
use borrow.Author.Tests.{ltb-true, ltb-false, lt-ltb, le-ltb, eq-eqb, ne_eqb}
use Rattle.units.specs.Tests.{lowest, below}
use Rattle.units.proofs.Lowest.{lowest_most, first_is_lowest, none_by_lowest}
use Rattle.units.specs.declared.Hundredths.{Hundredths}
use Rattle.gears.specs.declared.Gear.{Gear}
use Rattle.gears.specs.declared.Best.{Best}
use Rattle.gears.specs.Rules.{a, gap, near, nearer, nearest}

-- b is the nearest of the near gears before place i, the first of those as near
pub record NearestSoFar (R : ℕ) (gears : List Gear) (i : ℕ) (b : Best) : Type 0 where
  pub before : b.place < i
  pub is_near : near R (a gears b.place) ≡ true
  pub is : gap (a gears b.place) R ≡ b.distance.0
  pub least : (k : ℕ) → k < i → near R (a gears k) ≡ true → b.distance.0 ≤ gap (a gears k) R
  pub first : (k : ℕ) → k < b.place → near R (a gears k) ≡ true → b.distance.0 < gap (a gears k) R

-- what is known of the gears before place i: the nearest of them, or that none is near
abbrev pub Seen : ℕ → List Gear → ℕ → Option Best → Type 0
Seen R gears i None = (k : ℕ) → k < i → near R (a gears k) ≡ false
Seen R gears i (Some b) = NearestSoFar R gears i b

-- an acceleration this far from R is nearer than the nearest so far
abbrev pub nearer_than : Option Best → ℕ → Bool
nearer_than None d = true
nearer_than (Some b) d = ltb d b.distance.0

module _ (R : ℕ) (gears : List Gear) where
  -- k is before i, or it is i
  up_to : (P : ℕ → Type 0) (i : ℕ) → ((k : ℕ) → k < i → P k) → P i → (k : ℕ) → k < i + 1 → P k
  up_to P i f p k h = by (ltb k i) refl
    where
      by : (t : Bool) → ltb k i ≡ t → P k
      by true e = f k (ltb-true k i e)
      by false e = let same : k ≡ i = le_antisymm (omega arith) (ltb-false k i e) in rw same p

  module _ (i : ℕ) where
    -- gear i is near, and nearer than the nearest so far
    pub taken : (o : Option Best) (d : Hundredths) → near R (a gears i) ≡ true → d.0 ≡ gap (a gears i) R → nearer_than o d.0 ≡ true → Seen R gears i o → Seen R gears (i + 1) (Some (record { place = i; distance = d }))
    taken None d n e t none =
        record {
          before = omega arith;
          is_near = n;
          is = sym e;
          least = up_to (λ k. near R (a gears k) ≡ true → d.0 ≤ gap (a gears k) R) i (λ k h m. absurd (cc (none k h))) (λ m. omega arith);
          first = λ k h m. absurd (cc (none k h));
        }
    taken (Some b) d n e t seen =
        let l = ltb-true d.0 b.distance.0 t in
        record {
          before = omega arith;
          is_near = n;
          is = sym e;
          least = up_to (λ k. near R (a gears k) ≡ true → d.0 ≤ gap (a gears k) R) i (λ k h m. le_of_lt (lt_of_lt_of_le l (seen.least k h m))) (λ m. omega arith);
          first = λ k h m. lt_of_lt_of_le l (seen.least k h m);
        }

    -- gear i is not near, or not nearer than the nearest so far
    pub passed : (o : Option Best) (d : Hundredths) → d.0 ≡ gap (a gears i) R → (near R (a gears i) && nearer_than o d.0) ≡ false → Seen R gears i o → Seen R gears (i + 1) o
    passed None d e t none = up_to (λ k. near R (a gears k) ≡ false) i none (sym (and-true (near R (a gears i))) ∙ t)
    passed (Some b) d e t seen =
        record {
          before = omega (arith, seen.before);
          is_near = seen.is_near;
          is = seen.is;
          least = up_to (λ k. near R (a gears k) ≡ true → b.distance.0 ≤ gap (a gears k) R) i seen.least (λ m. omega (arith, ltb-false d.0 b.distance.0 (sym (ap (λ (t : Bool). t && ltb d.0 b.distance.0) m) ∙ t)));
          first = seen.first;
        }

  -- at the end it is the gear of rule 2
  pub nearest_found : (b : Best) → Seen R gears (length gears) (Some b) → nearest R gears ≡ b.place
  unfolding nearest nearer
  nearest_found b seen = first_is_lowest _ (length gears) 0 b.place (record { least = omega arith; most = omega (arith, seen.before); holds = best; before = λ k l m. worse k m (near R (a gears k)) refl })
    where
      -- a gear before it is not near, or this one is nearer
      worse : (k : ℕ) → k < b.place → (t : Bool) → near R (a gears k) ≡ t → (near R (a gears k) && eqb (lowest (nearer R gears k) (length gears) 0) (length gears)) ≡ false
      worse k h false e = simp e
      worse k h true e =
          let hit : nearer R gears k b.place ≡ true = simp (seen.is_near, lt-ltb (gap (a gears b.place) R) (gap (a gears k) R) (omega (arith, seen.is, seen.first k h e))) in
          simp (e, ne_eqb (lowest (nearer R gears k) (length gears) 0) (length gears) (omega (arith, seen.before, lowest_most (nearer R gears k) (length gears) 0 b.place (omega arith) hit)))

      -- no near gear is nearer than it
      none_nearer : (k : ℕ) → k < length gears → (t : Bool) → near R (a gears k) ≡ t → nearer R gears b.place k ≡ false
      none_nearer k l false e = simp e
      none_nearer k l true e = simp (e, le-ltb (gap (a gears k) R) (gap (a gears b.place) R) (omega (arith, seen.least k l e, seen.is)))

      best : (near R (a gears b.place) && eqb (lowest (nearer R gears b.place) (length gears) 0) (length gears)) ≡ true
      best =
          let all : lowest (nearer R gears b.place) (length gears) 0 ≡ 0 + length gears = none_by_lowest (nearer R gears b.place) (length gears) 0 (λ k l m. none_nearer k (omega arith) (near R (a gears k)) refl) in
          simp (seen.is_near, eq-eqb (lowest (nearer R gears b.place) (length gears) 0) (length gears) (omega arith))

  pub none_found : Seen R gears (length gears) None → nearest R gears ≡ length gears
  unfolding nearest
  none_found none =
      let all : nearest R gears ≡ 0 + length gears = none_by_lowest _ (length gears) 0 (λ k l m. simp (none k (omega arith))) in
      omega arith

  pub found : (o : Option Best) → Seen R gears (length gears) o → option_map (λ b. b.place) o ≡ below (length gears) (nearest R gears)
  unfolding below
  found None none = simp (le-ltb (nearest R gears) (length gears) (omega (arith, none_found none)))
  found (Some b) seen = simp (nearest_found b seen, lt-ltb b.place (length gears) seen.before)

  -- there is always such an answer
  seen_next : (i : ℕ) (o : Option Best) → Seen R gears i o → (p : Option Best) × Seen R gears (i + 1) p
  seen_next i o seen = by (near R (a gears i)) (nearer_than o d.0) refl refl
    where
      d : Hundredths
      d = record { 0 = gap (a gears i) R }

      by : (n t : Bool) → near R (a gears i) ≡ n → nearer_than o d.0 ≡ t → (p : Option Best) × Seen R gears (i + 1) p
      by true true n t = (Some (record { place = i; distance = d }), taken i o d n refl t seen)
      by true false n t = (o, passed i o d refl (simp (n, t)) seen)
      by false t n f = (o, passed i o d refl (simp n) seen)

  seen_upto : (i : ℕ) → (o : Option Best) × Seen R gears i o
  seen_upto zero = (None, λ k h. absurd (omega arith))
  seen_upto (suc i) = let s = seen_upto i in rw (← add-one i) (seen_next i s.0 s.1)

  -- rule 2 takes no gear only if none is near
  pub none_near : length gears ≤ nearest R gears → (k : ℕ) → k < length gears → near R (a gears k) ≡ false
  none_near h k l = by (seen_upto (length gears))
    where
      by : (o : Option Best) × Seen R gears (length gears) o → near R (a gears k) ≡ false
      by (None, none) = none k l
      by (Some b, seen) = absurd (omega (arith, seen.before, nearest_found b seen))
