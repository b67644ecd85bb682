-- L_urban lies near the figure. Both are brought over one denominator, 8000 × D × d, where D is a pair's a(i) − a(j), or 1, and d the
-- denominator of kp. Assumes nothing.
use mathlib.Core.Path.{◌≡◌, refl, ap, ap₂}
use mathlib.Core.Bool.{Bool, true, false, cond}
use Prim.Native.Nat.{ℕ, ◌+◌, ◌-◌, ◌*◌, ◌≤◌, ◌<◌, max}
use native.Mathlib.Nat.{mul-pos, mul_comm, mul-le-mul_left, max-eq_left, max-eq_right}
use native.Mathlib.Omega.{arith}
use lib.Dec.{ltb}
use borrow.Author.Tests.{ltb-true, ltb-false}
use Rattle.units.specs.Rounding.{rounded}
use Rattle.units.proofs.Rounding.{rounded_most}
use Rattle.window.specs.declared.Four.{Four}
use Rattle.window.specs.Windows.{larger_sum, condition_level}
use Rattle.reference.specs.declared.Reference.{Reference}
use Rattle.gears.specs.Rules.{k_of}
use Rattle.urban.specs.declared.ChosenGear.{ChosenGear}
use Rattle.urban.specs.declared.Chosen.{Chosen}
use Rattle.urban.specs.declared.Chosen.TheVariants.{One, Pair}
use Rattle.urban.specs.Urban.{a_of, Straddled, part_power}
use Rattle.urban.proofs.Weights.{by_order, on_line, weighed_sum}
use Rattle.figure.specs.Fractions.{Frac, ◌over◌, ◌⊖◌, ◌⊗◌, below}
use Rattle.figure.specs.Figure.{accelerating, constant, exact_mean, exact_k, exact_weighed, exact_level, exact_w, exact_c, a_prime, exact_kp, figure, dk, dp, reported, bound, Close}
use Rattle.figure.proofs.Near.{Near, rounded_near, scale, Shares, weighed_near}
use Rattle.figure.proofs.Fractions.{Is, is_over, rebase, is_add, is_sub, is_mul, is_apart, is_le, is_below, is_larger}
use Rattle.figure.proofs.Reported.{reported_level, joined, reported_is, as_mean, joined-max}

-- ---- k and kp: k hundredths are a fraction f from 0 to 1, n over d, rounded

record Share (k : ℕ) (f : Frac) (n d : ℕ) : Type 0 where
  pos : 0 < d
  part : n ≤ d
  small : k ≤ 100
  near : Near (2 * d * k) (200 * n) d
  is : Is f n d

share : {f : Frac} (n d : ℕ) → 0 < d → n ≤ d → Is f n d → Share (rounded (100 * n) d) f n d
share n d h l i =
    record {
      pos = h;
      part = l;
      small = rounded_most (100 * n) d 100 h (omega arith);
      near = omega (arith, rounded_near (100 * n) d h);
      is = i;
    }

shares : {k : ℕ} {f : Frac} {n d : ℕ} → Share k f n d → Shares k (100 - k) n (d - n) d
shares s = let p = s.part in let q = s.small in record { hundred = omega arith; whole = omega arith; near = s.near }

k_share : (r : Reference) (i j : ChosenGear) → a_of j < r.a_ref.0 → r.a_ref.0 ≤ a_of i → Share (k_of r.a_ref.0 (a_of i) (a_of j)) (exact_k r i j) (r.a_ref.0 - a_of j) (a_of i - a_of j)
unfolding k_of exact_k
k_share r i j lo hi = share (r.a_ref.0 - a_of j) (a_of i - a_of j) (omega arith) (omega arith) (is_over _ _ (omega arith))

kp_share : (u a : ℕ) → 0 < u → (n : ℕ) × (d : ℕ) × Share (part_power u a) (exact_kp u a) n d
unfolding part_power exact_kp rounded
kp_share u a h = by (ltb a u) refl
  where
    by : (b : Bool) → ltb a u ≡ b → (n : ℕ) × (d : ℕ) × Share (cond b 0 (rounded (100 * (a - u)) a)) (cond b (0 over 1) (1 over 1 ⊖ u over a)) n d
    by true e = (0, 1, share 0 1 (omega arith) (omega arith) (is_over 0 1 (omega arith)))
    by false e =
        let more = ltb-false a u e in
        let all = rebase a a (omega arith) (is_over 1 1 (omega arith)) (omega arith) in
        (a - u, a, share (a - u) a (omega arith) (omega arith) (is_sub all (is_over u a (omega arith))))

-- ---- w and c, over 40 × D

unfoldable D : Chosen → ℕ
D (One rule g) = 1
D (Pair rule i j) = a_of i - a_of j

unfoldable scaled : (ChosenGear → Four) → Reference → Chosen → ℕ
scaled window r (One rule g) = larger_sum (window g)
scaled window r (Pair rule i j) = (a_of i - a_of j - (r.a_ref.0 - a_of j)) * larger_sum (window j) + (r.a_ref.0 - a_of j) * larger_sum (window i)

-- how far the two gears' sums are apart, and the larger of that in the two conditions
unfoldable sums_apart : (ChosenGear → Four) → Chosen → ℕ
sums_apart window (One rule g) = 0
sums_apart window (Pair rule i j) = (larger_sum (window i) - larger_sum (window j)) + (larger_sum (window j) - larger_sum (window i))

unfoldable spread : Chosen → ℕ
spread g = max (sums_apart accelerating g) (sums_apart constant g)

within_spread : (g : Chosen) → (sums_apart accelerating g ≤ spread g) × (sums_apart constant g ≤ spread g)
unfolding spread
within_spread g = (omega arith, omega arith)

D-pos : (r : Reference) (g : Chosen) → Straddled r g → 0 < D g
unfolding D
D-pos r (One rule g) s = omega arith
D-pos r (Pair rule i j) s = omega arith

level_near : (sum : ℕ) → Near (4 * rounded sum 4) sum 2
level_near sum = omega (arith, rounded_near sum 4 (omega arith))

level_close : (window : ChosenGear → Four) (r : Reference) (g : Chosen) (e : ℕ) → Straddled r g → sums_apart window g ≤ e → Near (800 * D g * reported_level window r g) (200 * scaled window r g) (800 * D g + D g * e)
unfolding D scaled sums_apart reported_level condition_level
level_close window r (One rule g) e s h = omega (arith, level_near (larger_sum (window g)))
level_close window r (Pair rule i j) e s h =
    let k = k_share r i j s.0 s.1 in
    rw (weighed_sum (k_of r.a_ref.0 (a_of i) (a_of j)) (condition_level (window i)) (condition_level (window j)) k.small)
    (omega (
      arith,
      weighed_near {g = e} 4 1 (condition_level (window j)) (condition_level (window i)) (omega arith) (shares k) (level_near (larger_sum (window j))) (level_near (larger_sum (window i))) (omega arith),
    ))

level_is : (window : ChosenGear → Four) (r : Reference) (g : Chosen) → Straddled r g → Is (exact_level window r g) (scaled window r g) (40 * D g)
unfolding D scaled exact_level exact_weighed exact_k exact_mean
level_is window r (One rule g) s = rebase _ _ (omega arith) (is_over (larger_sum (window g)) 40 (omega arith)) (omega arith)
level_is window r (Pair rule i j) s =
    rebase _ _ (omega arith)
    (is_sub (is_add (rebase (d * larger_sum (window j)) (d * 40) (omega arith) mj (omega arith)) (is_mul k (is_sub mi mj))) (is_mul k (is_sub mj mi)))
    (ap₂ (λ x y. x * y) (on_line n d (larger_sum (window j)) (larger_sum (window i)) (omega arith)) (mul_comm 40 d))
  where
    n : ℕ
    n = r.a_ref.0 - a_of j

    d : ℕ
    d = a_of i - a_of j

    k : Is (n over d) n d
    k = is_over n d (omega arith)

    mi : Is (larger_sum (window i) over 40) (larger_sum (window i)) 40
    mi = is_over (larger_sum (window i)) 40 (omega arith)

    mj : Is (larger_sum (window j) over 40) (larger_sum (window j)) 40
    mj = is_over (larger_sum (window j)) 40 (omega arith)

spread_is : (g : Chosen) → Is (dk g) (spread g) 40
unfolding dk spread sums_apart exact_mean
spread_is (One rule g) = rebase _ _ (omega arith) (is_over 0 1 (omega arith)) refl
spread_is (Pair rule i j) =
    is_larger (omega arith)
    (is_apart (is_over (larger_sum (accelerating i)) 40 (omega arith)) (is_over (larger_sum (accelerating j)) 40 (omega arith)))
    (is_apart (is_over (larger_sum (constant i)) 40 (omega arith)) (is_over (larger_sum (constant j)) 40 (omega arith)))

-- ---- the figure from w and c, which are x and y over 40 × D; kp is n over d

unfoldable exact_joined : Bool → ℕ → ℕ → ℕ → ℕ → ℕ
exact_joined low n d x y = cond low (d * x) (cond (ltb x y) (d * y) ((d - n) * x + n * y))

-- the test w < c taken away, as for the reported L_urban
exact_max : (n d x y : ℕ) → n ≤ d → 200 * exact_joined false n d x y ≡ (d - n) * max (200 * x) (200 * y) + n * (200 * y)
unfolding exact_joined
exact_max n d x y h = by (ltb x y) refl
  where
    by : (b : Bool) → ltb x y ≡ b → 200 * cond b (d * y) ((d - n) * x + n * y) ≡ (d - n) * max (200 * x) (200 * y) + n * (200 * y)
    by true e =
        let whole : (d - n) + n ≡ d = omega arith in
        rw (max-eq_right {n = 200 * x} {m = 200 * y} (omega (arith, ltb-true x y e))) (omega (arith, ap (λ t. t * y) whole))
    by false e = rw (max-eq_left {n = 200 * x} {m = 200 * y} (omega (arith, ltb-false x y e))) (omega arith)

larger_near : {x y e : ℕ} (s w c : ℕ) → Near (s * w) x e → Near (s * c) y e → Near (s * max w c) (max x y) e
larger_near s w c h k =
    by_order w c
    (λ p. rw (max-eq_right p) (omega (arith, mul-le-mul_left s p)))
    (λ p. rw (max-eq_left p) (omega (arith, mul-le-mul_left s p)))

joined_close : (low : Bool) {kp : ℕ} {f : Frac} {n d : ℕ} (s : Share kp f n d) (D w c x y e : ℕ) → Near (800 * D * w) (200 * x) e → Near (800 * D * c) (200 * y) e → Near (8000 * D * d * joined low kp w c) (200 * exact_joined low (n) (d) x y) (4000 * D * d + d * e + d * (x - y))
unfolding joined exact_joined
joined_close true {d = d} s D w c x y e h k = omega (arith, scale (d) h, scale (400 * D * d) (rounded_near w 10 (omega arith)))
joined_close false {kp} {n = n} {d = d} s D w c x y e h k =
    rw (joined-max kp w c s.small, exact_max (n) (d) x y s.part)
    (omega (
      arith,
      weighed_near {g = 200 * (x - y)} (800 * D) 10 (max w c) c (omega arith) (shares s) (larger_near (800 * D) w c h k) k (omega arith),
    ))

figure_is : (low : Bool) {kp : ℕ} {f w c : Frac} {n d : ℕ} (s : Share kp f n d) (D : ℕ) {x y : ℕ} → 0 < D → Is w x (40 * D) → Is c y (40 * D) → Is (cond low w (cond (below w c) c (w ⊖ f ⊗ (w ⊖ c)))) (200 * exact_joined low (n) (d) x y) (8000 * D * d)
unfolding exact_joined
figure_is true s D h i j = rebase _ _ (omega arith) i (omega arith)
figure_is false {kp} {f} {w} {c} {n} {d} s D {x} {y} h i j = rw (is_below (omega arith) i j) (by (ltb x y) refl)
  where
    by : (b : Bool) → ltb x y ≡ b → Is (cond b c (w ⊖ f ⊗ (w ⊖ c))) (200 * cond b (d * y) ((d - n) * x + n * y)) (8000 * D * d)
    by true e = rebase _ _ (omega arith) j (omega arith)
    by false e =
        rebase _ _ (mul-pos s.pos (omega arith))
        (is_sub (rebase (d * x) (d * (40 * D)) (omega arith) i (omega arith)) (is_mul s.is (is_sub i j)))
        (rw (as_mean (n) (d) x y s.part (ltb-false x y e)) (omega arith))

-- ---- the two together

pub close : Close
unfolding figure exact_w exact_c dp bound
close r g limit hu h =
    is_le {n = 8000 * m * d} (mul-pos {m = 8000 * m} (omega (arith, hm)) s.pos)
    (is_apart
    (rebase (8000 * m * d * reported r g limit) (8000 * m * d) (omega arith) (is_over (reported r g limit) 1 (omega arith)) (omega arith))
    (figure_is (ltb r.pmr 250) s m hm w c))
    (is_add
    (rebase (4800 * m * d) (8000 * m * d) (omega arith) (is_over _ _ (omega arith)) (omega arith))
    (rebase (m * d * spread g + d * (x - y)) (8000 * m * d) (omega (arith, hm))
    (is_mul (is_over _ _ (omega arith)) (is_add (rebase (m * spread g) (40 * m) (omega arith) (spread_is g) (omega arith)) (is_sub w c)))
    (omega arith)))
    (rw (reported_is r g limit) (omega (arith, near)))
  where
    kp : (n : ℕ) × (d : ℕ) × Share (part_power r.a_urban.0 (a_prime r g)) (exact_kp r.a_urban.0 (a_prime r g)) n d
    kp = kp_share r.a_urban.0 (a_prime r g) hu

    d : ℕ
    d = kp.1

    s : Share (part_power r.a_urban.0 (a_prime r g)) (exact_kp r.a_urban.0 (a_prime r g)) kp.0 d
    s = kp.2

    m : ℕ
    m = D g

    hm : 0 < m
    hm = D-pos r g h

    x : ℕ
    x = scaled accelerating r g

    y : ℕ
    y = scaled constant r g

    w : Is (exact_level accelerating r g) x (40 * m)
    w = level_is accelerating r g h

    c : Is (exact_level constant r g) y (40 * m)
    c = level_is constant r g h

    e : ℕ
    e = 800 * m + m * spread g

    near : Near (8000 * m * d * joined (ltb r.pmr 250) (part_power r.a_urban.0 (a_prime r g)) (reported_level accelerating r g) (reported_level constant r g)) (200 * exact_joined (ltb r.pmr 250) kp.0 d x y) (4000 * m * d + d * e + d * (x - y))
    near =
        joined_close (ltb r.pmr 250) s m _ _ x y e
        (level_close accelerating r g (spread g) h (within_spread g).0)
        (level_close constant r g (spread g) h (within_spread g).1)
