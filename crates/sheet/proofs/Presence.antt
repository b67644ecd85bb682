-- Which gears have an acceleration run, record by record. Assumes nothing.
use mathlib.Core.Path.{◌≡◌, refl, sym, ap, ap₂, ◌∙◌}
use mathlib.Core.Bool.{Bool, true, false, ◌&&◌, ◌||◌, or-false}
use mathlib.Core.List.{List}
use Prim.Native.Nat.{ℕ, ◌+◌, ◌-◌, ◌≤◌, ◌<◌}
use native.Mathlib.Nat.{zero-add}
use native.Mathlib.Omega.{arith}
use lib.Dec.{eqb, ltb}
use lib.ListN.{length, get_or, set}
use lib.Seq.{get_or-set_same, get_or-set_other, ext_get_or}
use borrow.Author.Tests.{eqb-true, eqb-false}
use Rattle.std.specs.Prelude.{is_some}
use Rattle.units.specs.Tests.{lowest, below, some}
use Rattle.units.proofs.Some.{some_here, some_next, some_end, some-lowest}
use Rattle.units.proofs.Tests.{marks_long, marks_at}
use Rattle.record.specs.Records.{records, record_at, byte}
use Rattle.record.proofs.Layouts.{run_ranges}
use Rattle.sheet.specs.Sheet.{RunsGood, has_byte, accelerates, any_acceleration, has_acceleration, present_of}
use Rattle.units.proofs.Below.{is_some_below}

-- a search for the byte of an acceleration run tells whether there is one
pub any_found : (s : List ℕ) (kind : ℕ) → 2 ≤ records s → kind ≡ 2 → is_some (below (records s - 1) (lowest (has_byte s 0 kind) (records s - 1 - 1) 1)) ≡ any_acceleration s
unfolding any_acceleration
any_found s kind two e =
    let runs : records s - 1 - 1 ≡ records s - 2 = omega arith in
    let end : records s - 1 ≡ 1 + (records s - 2) = omega arith in
    is_some_below (records s - 1) _ ∙ ap₂ ltb (ap₂ (λ (k n : ℕ). lowest (has_byte s 0 k) n 1) e runs) end ∙ some-lowest (accelerates s) (records s - 2) 1

-- a gear that a run has is at most 16
pub gear_below : (s : List ℕ) (i : ℕ) → RunsGood s → 1 ≤ i → i < records s - 1 → byte (record_at s i) 1 < 17
gear_below s i good h l = let r = run_ranges (record_at s i) (good.good i h (omega arith)) in omega (arith, r.gear.1)

module _ (s : List ℕ) (end : ℕ) where
  -- record n is an acceleration run of the gear
  abbrev pub of : ℕ → ℕ → Bool
  of g n = accelerates s n && has_byte s 1 g n

  -- what was seen before record i, and the records from i on, are all
  pub Marked : List Bool → ℕ → Type 0
  Marked seen i = (g : ℕ) → g ≤ 16 → (get_or seen g false || some (of g) (end - i) i) ≡ some (of g) (end - 1) 1

  pub marked_start : (seen : List Bool) → ((g : ℕ) → g ≤ 16 → get_or seen g false ≡ false) → Marked seen 1
  unfolding Marked
  marked_start seen none g h = ap (λ (t : Bool). t || some (of g) (end - 1) 1) (none g h)

  pub marked_other : (seen : List Bool) (i : ℕ) → i < end → accelerates s i ≡ false → Marked seen i → Marked seen (i + 1)
  unfolding Marked
  marked_other seen i h e r g l =
      ap (λ (t : Bool). get_or seen g false || t) (sym (some_next (of g) end i h (ap (λ (t : Bool). t && eqb (byte (record_at s i) 1) g) e))) ∙ r g l

  pub marked_run : (seen : List Bool) (i : ℕ) → i < end → accelerates s i ≡ true → byte (record_at s i) 1 < length seen → Marked seen i → Marked (set seen (byte (record_at s i) 1) true) (i + 1)
  unfolding Marked
  marked_run seen i h e l r g m = by (eqb (byte (record_at s i) 1) g) refl
    where
      n : ℕ
      n = byte (record_at s i) 1

      joined : (b : Bool) → eqb (byte (record_at s i) 1) g ≡ b → of g i ≡ b
      joined b f = ap (λ (t : Bool). t && eqb (byte (record_at s i) 1) g) e ∙ f

      by : (b : Bool) → eqb (byte (record_at s i) 1) g ≡ b → (get_or (set seen (byte (record_at s i) 1) true) g false || some (of g) (end - (i + 1)) (i + 1)) ≡ some (of g) (end - 1) 1
      by true f =
          let same : byte (record_at s i) 1 ≡ g = eqb-true (byte (record_at s i) 1) g f in
          let here : get_or (set seen (byte (record_at s i) 1) true) g false ≡ true = rw (sym same) (get_or-set_same seen (byte (record_at s i) 1) true false l) in
          ap (λ (t : Bool). t || some (of g) (end - (i + 1)) (i + 1)) here ∙ sym (always (get_or seen g false) (some_here (of g) end i h (joined true f))) ∙ r g m
        where
          always : (p : Bool) {q : Bool} → q ≡ true → (p || q) ≡ true
          always true w = refl
          always false w = w
      by false f =
          let there : get_or (set seen (byte (record_at s i) 1) true) g false ≡ get_or seen g false = get_or-set_other seen (byte (record_at s i) 1) g true false (λ q. eqb-false (byte (record_at s i) 1) g f (sym q)) in
          ap (λ (t : Bool). t || some (of g) (end - (i + 1)) (i + 1)) there ∙ ap (λ (t : Bool). get_or seen g false || t) (sym (some_next (of g) end i h (joined false f))) ∙ r g m

  pub marked_end : (seen : List Bool) (i : ℕ) → end ≤ i → Marked seen i → (g : ℕ) → g ≤ 16 → get_or seen g false ≡ some (of g) (end - 1) 1
  unfolding Marked
  marked_end seen i h r g l = sym (or-false (get_or seen g false)) ∙ sym (ap (λ (t : Bool). get_or seen g false || t) (some_end (of g) end i h)) ∙ r g l

-- ---- all gears

pub present_at : (s : List ℕ) (g : ℕ) → g ≤ 16 → get_or (present_of s) g false ≡ has_acceleration s g
unfolding present_of
present_at s g h = marks_at (has_acceleration s) 17 0 g (omega arith) ∙ ap (has_acceleration s) (zero-add g)

pub present_is : (s : List ℕ) (seen : List Bool) → length seen ≡ 17 → ((g : ℕ) → g ≤ 16 → get_or seen g false ≡ has_acceleration s g) → seen ≡ present_of s
unfolding present_of
present_is s seen e at =
    ext_get_or false seen (present_of s) (e ∙ sym (marks_long (has_acceleration s) 17 0)) (λ g h. at g (omega arith) ∙ sym (present_at s g (omega arith)))
