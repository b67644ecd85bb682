-- The library's digits are those of the definition, and there are at most 20. Assumes nothing.
use Rattle.std.proofs.Common.{◌≡◌, List, ℕ, ◌++◌, ◌+◌, length, take, drop, sym, ap, ◌∙◌, arith}
use Rattle.std.proofs.lemmas.Slice.{put_mid-paste}
use lib.Seq.{take_all, sets-eq}
use Rattle.text.specs.Text.{decimal_of}
use Rattle.text.proofs.Digits.{at_most_20, written}
use Rattle.text.proofs.put_number.Goals as goal

pub returns-clause-end : goal.returns-clause-end
returns-clause-end c =
    let n = c.args.n in
    let digits : c.as_bytes-digits.result.now ≡ decimal_of n = c.as_bytes-digits.ensures.value ∙ c.format.ensures.text ∙ written n (omega arith) in
    let most = at_most_20 n (omega arith) in
    let short = ap length (written n (omega arith)) in
    let long = ap length digits in
    (omega arith, omega arith)

pub returns-clause-written : goal.returns-clause-written
returns-clause-written c =
    let n = c.args.n in
    let out = c.args.out.now in
    let digits : c.as_bytes-digits.result.now ≡ decimal_of n = c.as_bytes-digits.ensures.value ∙ c.format.ensures.text ∙ written n (omega arith) in
    let long = ap length digits in
    let most = at_most_20 n (omega arith) in
    let short = ap length (written n (omega arith)) in
    put_mid-paste c.args.at _ out c.copy_from_slice.new.self (decimal_of n) (length (decimal_of n)) (c.copy_from_slice.ensures.after ∙ digits) (omega arith) (omega arith)
    ∙ ap (λ (x : List ℕ). take c.args.at out ++ x ++ drop (c.args.at + length (decimal_of n)) out) (take_all (length (decimal_of n)) (decimal_of n) (omega arith))
    ∙ sym (sets-eq (decimal_of n) out c.args.at (omega arith))
