-- After as many turns as `number-index` tells, so many numbers stand behind the word.
use mathlib.Core.Path.{◌≡◌}
use mathlib.Core.List.{[]}
use Prim.Native.Nat.{◌≤◌, ◌+◌, ◌*◌}
use lib.ListN.{length, take}
use lib.Seq.{sets}
use Rattle.text.specs.Text.{spaced}
use Rattle.text.proofs.put_line.Given as goal

abbrev pub invariant-loop-number : goal.invariant-loop-number
invariant-loop-number l = record {
  most : l.end ≤ length l.word + 21 * l.number-index;
  size : l.end ≡ l.initial.end + length (spaced [] (take l.number-index l.numbers));
  bytes : l.out ≡ sets l.initial.out l.initial.end (spaced [] (take l.number-index l.numbers));
}
