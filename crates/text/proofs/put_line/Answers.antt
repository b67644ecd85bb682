-- Each turn stores a space and a number behind what stands there, and the line feed ends the line. Assumes nothing.
use mathlib.Core.Path.{◌≡◌, sym, ap, ◌∙◌}
use mathlib.Core.List.{List, [], ◌∷◌, ◌++◌}
use Prim.Native.Nat.{ℕ, ◌+◌}
use native.Mathlib.Omega.{arith}
use lib.ListN.{length, take, get_or, length-append}
use lib.Seq.{sets}
use Rattle.text.specs.Text.{decimal_of, spaced, line_with}
use Rattle.text.proofs.Digits.{one_more, all_of, parted}
use Rattle.text.proofs.Stores.{behind, front}
use Rattle.text.proofs.put_line.Goals as goal

pub loop-number-preserved : goal.loop-number-preserved
loop-number-preserved c =
    let l = c.loop-number in
    let w = c.put_word-end in
    let numbers = c.args.numbers.now in
    let text = spaced [] (take l.number-index numbers) in
    let number = decimal_of (get_or numbers l.number-index 0) in
    let more = one_more [] numbers l.number-index (omega arith) in
    let space = c.put-end in
    let digits = c.put_number-end in
    let spaced_off = length-append text (32 ∷ []) in
    record {
      most = omega arith;
      size = rw (more, length-append (text ++ (32 ∷ [])) number) (omega arith);
      bytes =
          digits.ensures.written
          ∙ ap (λ (d : List ℕ). sets d space.result number) (space.ensures.written ∙ ap (λ (d : List ℕ). sets d l.end (32 ∷ [])) l.invariant.bytes ∙ behind w.new.out text (32 ∷ []) w.result l.end l.invariant.size)
          ∙ behind w.new.out (text ++ (32 ∷ [])) number w.result space.result (omega arith)
          ∙ ap (sets w.new.out w.result) (sym more);
    }

pub returns-clause-size : goal.returns-clause-size
returns-clause-size c =
    let word = c.args.word.now in
    let numbers = spaced [] c.args.numbers.now in
    let last : c.loop-number.end ≡ c.put_word-end.result + length numbers = rw (all_of [] c.args.numbers.now c.loop-number.number-index (omega arith)) at c.loop-number.invariant.size in
    rw (parted word c.args.numbers.now, length-append word (numbers ++ (10 ∷ [])), length-append numbers (10 ∷ [])) (omega arith)

pub returns-clause-bytes : goal.returns-clause-bytes
returns-clause-bytes c =
    let l = c.loop-number in
    let w = c.put_word-end in
    let word = c.args.word.now in
    let out = c.args.out.now in
    let numbers = spaced [] c.args.numbers.now in
    let text = line_with word c.args.numbers.now in
    let all = all_of [] c.args.numbers.now l.number-index (omega arith) in
    let last : l.end ≡ w.result + length numbers = rw all at l.invariant.size in
    let size : length text ≡ c.put.result = rw (parted word c.args.numbers.now, length-append word (numbers ++ (10 ∷ [])), length-append numbers (10 ∷ [])) (omega arith) in
    c.put.ensures.written
    ∙ ap (λ (d : List ℕ). sets d l.end (10 ∷ [])) (rw all at l.invariant.bytes)
    ∙ behind w.new.out numbers (10 ∷ []) w.result l.end last
    ∙ ap (λ (d : List ℕ). sets d w.result (numbers ++ (10 ∷ []))) w.ensures.written
    ∙ behind out word (numbers ++ (10 ∷ [])) 0 w.result (omega arith)
    ∙ ap (sets out 0) (sym (parted word c.args.numbers.now))
    ∙ front out text (omega arith)
