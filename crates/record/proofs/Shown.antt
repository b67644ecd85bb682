-- Laws of a shown record. Assumes nothing.
use mathlib.Core.Path.{◌≡◌, ◌∙◌}
use mathlib.Core.List.{List, []}
use Prim.Native.Nat.{ℕ, ◌+◌, ◌*◌, ◌≤◌, ◌<◌}
use native.Mathlib.Omega.{arith}
use lib.ListN.{length, get_or, take, drop, length-take, length-drop}
use lib.Seq.{get_or-take, get_or-drop}
use borrow.Author.Tests.{lt-ltb, le-ltb}
use Rattle.record.specs.Records.{records, record_at}

module _ (s : List ℕ) (n : ℕ) where
  pub shown : n < records s → record_at s n ≡ take 32 (drop (32 * n) s)
  unfolding record_at
  shown h = rw (lt-ltb n (records s) h)

  pub none : records s ≤ n → record_at s n ≡ []
  unfolding record_at
  none h = rw (le-ltb n (records s) h)

  -- a whole record has 32 bytes
  pub record_long : n < records s → length (record_at s n) ≡ 32
  unfolding records
  record_long h = rw (shown h) (simp (length-take, length-drop) (omega arith))

  -- byte k of a record, where it stands in the sheet
  pub byte_of : (k : ℕ) → n < records s → k < 32 → get_or (record_at s n) k 0 ≡ get_or s (32 * n + k) 0
  byte_of k h l = rw (shown h) (get_or-take 32 (drop (32 * n) s) k 0 l ∙ get_or-drop (32 * n) s k 0)
