-- From the chosen gears to the fields of the result: W, C and a', kp and L_urban (document 01, end of "Gears", and "L_urban"). Levels are in
-- tenths of dB(A), accelerations, k and kp in hundredths.
use Rattle.std.specs.Prelude.{Bool, true, false, cond, ℕ, ◌+◌, ◌-◌, ◌*◌, ◌≤◌, ◌<◌, leb, ltb}
use Rattle.units.specs.Rounding.{rounded}
use Rattle.window.specs.Windows.{condition_level}
use Rattle.reference.specs.declared.Reference.{Reference}
use Rattle.gears.specs.Rules.{k_of}
use Rattle.urban.specs.declared.ChosenGear.{ChosenGear}
use Rattle.urban.specs.declared.Chosen.{Chosen}
use Rattle.urban.specs.declared.Chosen.TheVariants.{One, Pair}
use Rattle.urban.specs.declared.Basis.{Basis}
use Rattle.urban.specs.declared.LUrban.{LUrban}
use Rattle.urban.specs.declared.Outcome.{Outcome}

-- ---- W, C and a'

-- a chosen gear's acceleration
abbrev pub a_of : ChosenGear → ℕ
a_of g = g.gear.acceleration.0

-- what the rules give of a pair: a_ref is above a(j) and not above a(i)
abbrev pub Straddled : Reference → Chosen → Type 0
Straddled r (One rule g) = Unit {0}
Straddled r (Pair rule i j) = (a_of j < r.a_ref.0) × (r.a_ref.0 ≤ a_of i)

-- L(j) + k × (L(i) − L(j)), the total rounded once. A difference that would be below 0 is 0 here, so one of the two parts with k is 0
-- and the other is what k adds, or takes off.
unfoldable pub weighed_level : ℕ → ℕ → ℕ → ℕ
weighed_level k i j = rounded (100 * j + k * (i - j) - k * (j - i)) 100

-- k, W, C and a': for one gear 1.00, its own levels and its own acceleration, and no gear j; for a pair its k, the weighed levels and a_ref
unfoldable pub basis_of : Reference → Chosen → Basis
basis_of r (One rule g) =
    record {
      rule = rule;
      i = g.gear.number;
      j = 0;
      k = 100;
      w = record { 0 = condition_level g.acceleration_window };
      c = record { 0 = condition_level g.constant_window };
      a = g.gear.acceleration;
    }
basis_of r (Pair rule i j) =
    let k = k_of r.a_ref.0 (a_of i) (a_of j) in
    record {
      rule = rule;
      i = i.gear.number;
      j = j.gear.number;
      k = k;
      w = record { 0 = weighed_level k (condition_level i.acceleration_window) (condition_level j.acceleration_window) };
      c = record { 0 = weighed_level k (condition_level i.constant_window) (condition_level j.constant_window) };
      a = r.a_ref;
    }

-- ---- kp and L_urban

-- kp = 1 − a_urban / a', which is (a' − a_urban) / a', rounded as a whole to hundredths; 0 for an a' below a_urban
unfoldable pub part_power : ℕ → ℕ → ℕ
part_power a_urban a = cond (ltb a a_urban) 0 (rounded (100 * (a - a_urban)) a)

-- L_urban and its kp, from a', W and C: W itself below PMR 25.0; from there on C where W is below it, and W − kp × (W − C) otherwise. W
-- and C are tenths and kp hundredths; L_urban is whole dB(A), rounded once.
unfoldable pub l_urban_of : Reference → ℕ → ℕ → ℕ → LUrban
l_urban_of r a w c =
    let kp = part_power r.a_urban.0 a in
    cond (ltb r.pmr 250) (record { kp = 0; level = rounded w 10 })
    (cond (ltb w c) (record { kp = 100; level = rounded c 10 })
    (record { kp = kp; level = rounded (100 * w - kp * (w - c)) 1000 }))

-- ---- the fields of the result

-- it passes if L_urban is not above the limit
unfoldable pub outcome_of : Reference → ℕ → Basis → Outcome
outcome_of r limit b =
    let l = l_urban_of r b.a.0 b.w.0 b.c.0 in
    record {
      rule = b.rule;
      i = b.i;
      j = b.j;
      k = b.k;
      kp = l.kp;
      pass = leb l.level limit;
      w = b.w;
      c = b.c;
      l_urban = l.level;
      a_urban = r.a_urban;
      a_ref = r.a_ref;
      pmr = r.pmr;
      a = b.a;
    }

-- pass as a number: pass 1, fail 0
abbrev pub flag : Bool → ℕ
flag true = 1
flag false = 0
