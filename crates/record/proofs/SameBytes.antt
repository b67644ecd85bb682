-- Two records with the same bytes have the same fields. Assumes nothing.
use mathlib.Core.Path.{◌≡◌, ap, ap₂}
use mathlib.Core.Bool.{cond}
use mathlib.Core.List.{List}
use Prim.Native.Nat.{ℕ, ◌+◌, ◌*◌, ◌<◌}
use native.Mathlib.Omega.{arith}
use lib.Dec.{eqb}
use Rattle.units.specs.Bytes.{number}
use Rattle.record.specs.declared.Backgrounds.{Backgrounds}
use Rattle.record.specs.declared.Category.{Category}
use Rattle.record.specs.declared.StartLine.{StartLine}
use Rattle.record.specs.declared.Vehicle.{Vehicle}
use Rattle.record.specs.Records.{byte, word, backgrounds_in, category_of, start_line_of, vehicle_in, closing_in}

abbrev pub SameBytes : List ℕ → List ℕ → Type 0
SameBytes r r' = (k : ℕ) → k < 32 → byte r k ≡ byte r' k

pub same_word : (r r' : List ℕ) (k : ℕ) → byte r k ≡ byte r' k → byte r (k + 1) ≡ byte r' (k + 1) → word r k ≡ word r' k
unfolding number
same_word r r' k p q = ap₂ (λ (x : ℕ) (y : ℕ). x + 256 * (y + 256 * 0)) p q

word_of : (r r' : List ℕ) → SameBytes r r' → (k : ℕ) → k < 31 → word r k ≡ word r' k
word_of r r' a k l = same_word r r' k (a k (omega arith)) (a (k + 1) (omega arith))

same_backgrounds_in : (r r' : List ℕ) → SameBytes r r' → (left right : ℕ) → left < 31 → right < 31 → backgrounds_in r left right ≡ backgrounds_in r' left right
unfolding backgrounds_in
same_backgrounds_in r r' a left right h k =
    ap₂ (λ (x : ℕ) (y : ℕ). record { left = record { 0 = x }; right = record { 0 = cond (eqb y 0) x y } }) (word_of r r' a left h) (word_of r r' a right k)

vehicle : Category → StartLine → (power mass long rated : ℕ) → Backgrounds → (limit phase low : ℕ) → Vehicle
vehicle category line power mass long rated backgrounds limit phase low =
    record {
      category = category;
      start_line = line;
      power = power;
      mass = mass;
      length = long;
      rated_speed = rated;
      backgrounds = backgrounds;
      limit = limit;
      phase = phase;
      low_car = low;
    }

same_fields :
    {c c' : Category} {l l' : StartLine} {p m n r t f w p' m' n' r' t' f' w' : ℕ} {b b' : Backgrounds} → c ≡ c' → l ≡ l' → p ≡ p' → m ≡ m' → n ≡ n' → r ≡ r' → b ≡ b' → t ≡ t' → f ≡ f' → w ≡ w' → vehicle c l p m n r b t f w ≡ vehicle c' l' p' m' n' r' b' t' f' w'
same_fields e1 e2 e3 e4 e5 e6 e7 e8 e9 e10 = cc

pub vehicle_of : (r r' : List ℕ) → SameBytes r r' → vehicle_in r ≡ vehicle_in r'
unfolding vehicle_in vehicle
vehicle_of r r' a =
    let w = word_of r r' a in
    same_fields (ap category_of (a 1 (omega arith))) (ap start_line_of (a 2 (omega arith))) (w 4 (omega arith)) (w 6 (omega arith)) (w 8 (omega arith)) (w 10 (omega arith)) (same_backgrounds_in r r' a 12 18 (omega arith) (omega arith)) (w 14 (omega arith)) (a 16 (omega arith)) (a 17 (omega arith))

pub closing_of : (r r' : List ℕ) → SameBytes r r' → closing_in r ≡ closing_in r'
unfolding closing_in
closing_of r r' a =
    ap₂ (λ (x : ℕ) (y : Backgrounds). record { runs = x; backgrounds = y }) (word_of r r' a 2 (omega arith)) (same_backgrounds_in r r' a 4 6 (omega arith) (omega arith))
