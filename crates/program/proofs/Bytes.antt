-- What reads and writes do to known bytes, one after another. Assumes nothing.
use Rattle.std.proofs.Common.{◌≡◌, ℕ, ◌<◌, true, List, ◌++◌, length, take, drop, sym, ap, ◌∙◌, Option, Some, None, Result, Ok, Err, true≢false, subst, ◌+◌, ◌≤◌}
use Rattle.std.specs.declared.io.Error.{Error}
use Rattle.std.specs.Io.KnownBytes.{ReadConsumes, WriteAppends, Keeps, Appends, Consumes, IsAtEnd}
use Rattle.std.proofs.Math.Seq.{take-add, take-append_seam}
use Rattle.std.proofs.KnownBytes.{Keeps-trans, Consumes-trans, Appends-trans}
use Rattle.text.specs.Text.{onto}
use Rattle.line.specs.Line.{line_of_sheet}
use Rattle.program.specs.declared.Failure.TheVariants.{NotWritten}
use Rattle.program.proofs.Room.{line_of_all}
use Rattle.program.specs.Program.{interrupted_by}
use Rattle.program.specs.Streams.{GavePart, Prints}

-- ---- a call after one that was interrupted, which moved nothing

Consumes-after : (a b c : Option (List ℕ)) (bs : List ℕ) → Keeps a b → Consumes b c bs → Consumes a c bs
Consumes-after None b c bs k h = tt
Consumes-after (Some x) None c bs k h = absurd k
Consumes-after (Some x) (Some y) None bs k h = absurd h
Consumes-after (Some x) (Some y) (Some z) bs k h = sym k ∙ h

Appends-after : (a b c : Option (List ℕ)) (bs : List ℕ) → Keeps a b → Appends b c bs → Appends a c bs
Appends-after None b c bs k h = tt
Appends-after (Some x) None c bs k h = absurd k
Appends-after (Some x) (Some y) None bs k h = absurd h
Appends-after (Some x) (Some y) (Some z) bs k h = h ∙ ap (λ l. l ++ bs) k

pub interrupted_read : (a b c : Option (List ℕ)) (p q : List ℕ) (r s : Result ℕ Error) → true ≡ interrupted_by r → ReadConsumes a b r p → ReadConsumes b c s q → ReadConsumes a c s q
unfolding interrupted_by
interrupted_read a b c p q (Ok n) s i h k = absurd (true≢false i)
interrupted_read a b c p q (Err e) (Ok n) i h k = (Consumes-after a b c (take n q) h k.0, k.1)
interrupted_read a b c p q (Err e) (Err f) i h k = Keeps-trans a b c h k

pub interrupted_write : (a b c : Option (List ℕ)) (p : List ℕ) (r s : Result ℕ Error) → true ≡ interrupted_by r → WriteAppends a b r p → WriteAppends b c s p → WriteAppends a c s p
unfolding interrupted_by
interrupted_write a b c p (Ok n) s i h k = absurd (true≢false i)
interrupted_write a b c p (Err e) (Ok n) i h k = Appends-after a b c (take n p) h k
interrupted_write a b c p (Err e) (Err f) i h k = Keeps-trans a b c h k

-- ---- a call after those that moved the bytes up to `at`

pub Consumes-on : (a b c : Option (List ℕ)) (at n : ℕ) (old new : List ℕ) → Consumes a b (take at old) → take at new ≡ take at old → Consumes b c (take n (drop at new)) → Consumes a c (take (at + n) new)
Consumes-on a b c at n old new h kept k =
    subst (Consumes a c) (sym (take-add at n new)) (Consumes-trans a b c (take at new) (take n (drop at new)) (subst (Consumes a b) (sym kept) h) k)

pub Appends-on : (a b c : Option (List ℕ)) (at n : ℕ) (bytes : List ℕ) → Appends a b (take at bytes) → Appends b c (take n (drop at bytes)) → Appends a c (take (at + n) bytes)
Appends-on a b c at n bytes h k =
    subst (Appends a c) (sym (take-add at n bytes)) (Appends-trans a b c (take at bytes) (take n (drop at bytes)) h k)

-- ---- the line at the front of its buffer

pub take-onto : (n : ℕ) (text old : List ℕ) → n ≡ length text → take n (onto text old) ≡ text
unfolding onto
take-onto n text old e = ap (λ k. take k (text ++ drop (length text) old)) e ∙ take-append_seam text (drop (length text) old)

-- ---- the whole job

pub prints : (a b old new : Option (List ℕ)) (sheet : List ℕ) (n k : ℕ) → length sheet ≡ 32769 → n ≤ length sheet → Consumes a b (take n sheet) → (n < length sheet → IsAtEnd b) → Appends old new (line_of_sheet (take n sheet)) → Prints a old new (Ok (record { read = n; written = k }))
prints None b old new sheet n k room h took end gave = tt
prints (Some x) None old new sheet n k room h took end gave = absurd took
prints (Some x) (Some y) old new sheet n k room h took end gave = subst (Appends old new) (line_of_all sheet x y n room h took end) gave

pub prints_part : (a b old new : Option (List ℕ)) (sheet : List ℕ) (n : ℕ) (e : Error) → length sheet ≡ 32769 → n ≤ length sheet → Consumes a b (take n sheet) → (n < length sheet → IsAtEnd b) → GavePart old new (line_of_sheet (take n sheet)) → Prints a old new (Err (NotWritten n e))
prints_part None b old new sheet n e room h took end gave = tt
prints_part (Some x) None old new sheet n e room h took end gave = absurd took
prints_part (Some x) (Some y) old new sheet n e room h took end gave = subst (GavePart old new) (line_of_all sheet x y n room h took end) gave
