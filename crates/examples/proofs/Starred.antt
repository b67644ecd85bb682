-- Every starred example of document 01 holds, every session with a background on each side, every one whose limit is looked up, and every one in
-- which a gear has no window. Assumes nothing.
use mathlib.Core.List.{List, [], ◌∷◌, map}
use Prim.Native.Nat.{ℕ, zero, suc, ◌<◌}
use native.Mathlib.Nat.{le_of_suc-le-suc, not-suc-le-zero}
use lib.Dec.{T}
use lib.Ieee.Fits.{and_l, and_r}
use lib.ListN.{length, get_or}
use Rattle.units.specs.Tests.{all_of}
use Rattle.examples.specs.Starred.{Example, Holds, starred, sided, limited, shortages}
use Rattle.examples.proofs.Computed.{test, holds, every_starred_test, every_sided_test, every_limited_test, every_shortage_test}

tested : (none : Example) (es : List Example) → T (all_of (map test es)) → (n : ℕ) → n < length es → Holds (get_or es n none)
tested none [] t n h = absurd (not-suc-le-zero h)
tested none (e ∷ es) t zero h = holds e (and_l (test e) (all_of (map test es)) t)
tested none (e ∷ es) t (suc n) h = tested none es (and_r (test e) (all_of (map test es)) t) n (le_of_suc-le-suc h)

-- every example of a table holds
pub every_starred : (none : Example) (n : ℕ) → n < length starred → Holds (get_or starred n none)
every_starred none = tested none starred every_starred_test

pub every_sided : (none : Example) (n : ℕ) → n < length sided → Holds (get_or sided n none)
every_sided none = tested none sided every_sided_test

pub every_limited : (none : Example) (n : ℕ) → n < length limited → Holds (get_or limited n none)
every_limited none = tested none limited every_limited_test

pub every_shortage : (none : Example) (n : ℕ) → n < length shortages → Holds (get_or shortages n none)
every_shortage none = tested none shortages every_shortage_test
