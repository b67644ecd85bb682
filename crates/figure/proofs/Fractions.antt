-- Laws of fractions: a fraction is met as "v over n", where n is a denominator that a whole computation shares. Assumes nothing.
use mathlib.Core.Path.{◌≡◌, refl, ap}
use mathlib.Core.Bool.{Bool, true, false, cond}
use Prim.Native.Nat.{ℕ, ◌+◌, ◌*◌, ◌-◌, ◌≤◌, ◌<◌, max}
use native.Mathlib.Nat.{mul-le-mul_right, mul-lt-mul_of_pos_right, mul-pos, le_of_mul-le-mul_right, lt_of_mul-lt-mul_right, eq_of_mul-eq-mul_left, mul-sub, max-eq_left, max-eq_right, le_of_lt}
use native.Mathlib.Omega.{arith}
use lib.Dec.{ltb}
use borrow.Author.Tests.{ltb-true, ltb-false, lt-ltb, le-ltb}
use Rattle.figure.specs.Fractions.{Frac, ◌over◌, ◌⊕◌, ◌⊖◌, ◌⊗◌, below, ◌≼◌, larger, apart}

-- f is v over n
pub record Is (f : Frac) (v n : ℕ) : Type 0 where
  pub pos : 0 < f.den
  pub same : f.num * n ≡ v * f.den

pub is_over : (v n : ℕ) → 0 < n → Is (v over n) v n
is_over v n h = record { pos = h; same = refl }

-- over another denominator
pub rebase : {f : Frac} {v n : ℕ} (v' n' : ℕ) → 0 < n → Is f v n → v * n' ≡ v' * n → Is f v' n'
rebase {f} {v} {n} v' n' h i e = record {
  pos = i.pos;
  same = eq_of_mul-eq-mul_left n h _ _ (omega (arith, ap (λ t. t * n') i.same, ap (λ t. t * f.den) e));
}

pub is_add : {f g : Frac} {v w n : ℕ} → Is f v n → Is g w n → Is (f ⊕ g) (v + w) n
unfolding ◌⊕◌
is_add {f} {g} i j = record {
  pos = mul-pos i.pos j.pos;
  same = omega (arith, ap (λ t. t * g.den) i.same, ap (λ t. t * f.den) j.same);
}

pub is_mul : {f g : Frac} {v w n m : ℕ} → Is f v n → Is g w m → Is (f ⊗ g) (v * w) (n * m)
unfolding ◌⊗◌
is_mul {f} {g} {v} {w} {n} {m} i j = record {
  pos = mul-pos i.pos j.pos;
  same = omega (arith, ap (λ t. t * (g.num * m)) i.same, ap (λ t. v * f.den * t) j.same);
}

-- a - b against v - w, where a * n is v * k and b * n is w * k
differ : (a b v w n k : ℕ) → a * n ≡ v * k → b * n ≡ w * k → (a - b) * n ≡ (v - w) * k
differ a b v w n k p q = omega (arith, mul-sub n a b, mul-sub k v w)

pub is_sub : {f g : Frac} {v w n : ℕ} → Is f v n → Is g w n → Is (f ⊖ g) (v - w) n
unfolding ◌⊖◌
is_sub {f} {g} {v} {w} {n} i j = record {
  pos = mul-pos i.pos j.pos;
  same = differ (f.num * g.den) (g.num * f.den) v w n (f.den * g.den)
      (omega (arith, ap (λ t. t * g.den) i.same)) (omega (arith, ap (λ t. t * f.den) j.same));
}

pub is_apart : {f g : Frac} {v w n : ℕ} → Is f v n → Is g w n → Is (apart f g) ((v - w) + (w - v)) n
unfolding apart
is_apart i j = is_add (is_sub i j) (is_sub j i)

-- the order of two fractions is that of what stands over a denominator that they share
pub is_le : {f g : Frac} {v w n : ℕ} → 0 < n → Is f v n → Is g w n → v ≤ w → f ≼ g
unfolding ◌≼◌
is_le {f} {g} {n = n} h i j l = (
  i.pos,
  j.pos,
  le_of_mul-le-mul_right {k = n}
      (omega (arith, ap (λ t. t * g.den) i.same, ap (λ t. t * f.den) j.same, mul-le-mul_right (f.den * g.den) l)) h,
)

pub is_below : {f g : Frac} {v w n : ℕ} → 0 < n → Is f v n → Is g w n → below f g ≡ ltb v w
unfolding below ◌≼◌
is_below {f} {g} {v} {w} {n} h i j = go (ltb v w) refl
  where
    go : (b : Bool) → ltb v w ≡ b → ltb (f.num * g.den) (g.num * f.den) ≡ b
    go true e = lt-ltb (f.num * g.den) (g.num * f.den) (lt_of_mul-lt-mul_right n
        (omega (
          arith,
          ap (λ t. t * g.den) i.same,
          ap (λ t. t * f.den) j.same,
          mul-lt-mul_of_pos_right (ltb-true v w e) (mul-pos i.pos j.pos),
        )))
    go false e = le-ltb (f.num * g.den) (g.num * f.den) (is_le h j i (ltb-false v w e)).2

pub is_larger : {f g : Frac} {v w n : ℕ} → 0 < n → Is f v n → Is g w n → Is (larger f g) (max v w) n
unfolding larger
is_larger {f} {g} {v} {w} {n} h i j = rw (is_below h i j) (go (ltb v w) refl)
  where
    go : (b : Bool) → ltb v w ≡ b → Is (cond b g f) (max v w) n
    go true e = rw (max-eq_right (le_of_lt (ltb-true v w e))) j
    go false e = rw (max-eq_left (ltb-false v w e)) i
