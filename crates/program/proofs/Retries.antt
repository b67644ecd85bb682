-- What holds of calls that are tried again. Assumes nothing.
use Rattle.std.proofs.Common.{◌≡◌, true}
use Rattle.program.specs.Program.{Transfer, interrupted_by, Retried, once, again}

-- what one call does, and a call after interrupted ones does as well
pub retried_does : {F : Type 0} (call does : F → Transfer → F → Type 0) → ((old new : F) (r : Transfer) → call old r new → does old r new)
    → ((old mid new : F) (r s : Transfer) → interrupted_by r ≡ true → does old r mid → does mid s new → does old s new) → (old new : F) (r : Transfer) → Retried call old r new → does old r new
retried_does call does one more old new r (once h) = one old new r h
retried_does call does one more old new r (again {mid = mid} {r = s} h i k) = more old mid new s r i (retried_does call does one more old mid s h) (one mid new r k)
