-- What is stored after the bytes passed, with the rest of the word to come, is the whole.
use mathlib.Core.Path.{◌≡◌}
use lib.ListN.{drop}
use lib.Seq.{sets}
use Rattle.text.proofs.put_word.Given as goal

abbrev pub invariant-loop-byte : goal.invariant-loop-byte
invariant-loop-byte l = record { end : l.end ≡ l.byte-index; whole : sets l.out l.end (drop l.end l.word) ≡ sets l.initial.out 0 l.word }
