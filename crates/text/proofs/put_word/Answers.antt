-- Each turn stores one byte more of the word. Assumes nothing.
use mathlib.Core.Path.{◌≡◌, sym, ap, ◌∙◌}
use mathlib.Core.List.{List}
use Prim.Native.Nat.{ℕ, ◌+◌, ◌<◌}
use native.Mathlib.Omega.{arith}
use lib.ListN.{length, drop, get_or, set}
use lib.Seq.{sets}
use Rattle.text.proofs.Stores.{word_more, word_done}
use Rattle.text.proofs.put_word.Goals as goal

pub loop-byte-preserved : goal.loop-byte-preserved
loop-byte-preserved c =
    let l = c.loop-byte in
    let w = c.args.word.now in
    let inside : l.byte-index < length w = omega arith in
    record {
      end = omega arith;
      whole = rw (c.put-end.ensures.written, c.put-end.ensures.end, l.invariant.end) (word_more l.out w l.byte-index inside ∙ rw l.invariant.end at l.invariant.whole);
    }

pub returns-clause-end : goal.returns-clause-end
returns-clause-end c = omega arith

pub returns-clause-written : goal.returns-clause-written
returns-clause-written c =
    let l = c.loop-byte in
    word_done l.out c.args.word.now l.end (omega arith) ∙ l.invariant.whole
