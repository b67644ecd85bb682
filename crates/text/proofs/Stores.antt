-- Texts stored on a buffer one after another. Assumes nothing.
use mathlib.Core.Path.{◌≡◌, sym, ap, ◌∙◌}
use mathlib.Core.List.{List, [], ◌∷◌, ◌++◌}
use Prim.Native.Nat.{ℕ, suc, ◌+◌, ◌≤◌, ◌<◌}
use native.Mathlib.Nat.{zero-add}
use native.Mathlib.Numerals.{add-one}
use native.Mathlib.Omega.{arith}
use lib.ListN.{length, drop, get_or, set, drop_of_length-le}
use lib.Seq.{sets, sets-eq, drop-cons}
use Rattle.text.specs.Text.{onto}

-- ---- a word, byte by byte

pub word_more : (d w : List ℕ) (n : ℕ) → n < length w → sets (set d n (get_or w n 0)) (n + 1) (drop (n + 1) w) ≡ sets d n (drop n w)
word_more d w n h = rw (add-one n, drop-cons w n 0 h)

pub word_done : (d w : List ℕ) (n : ℕ) → length w ≤ n → d ≡ sets d n (drop n w)
word_done d w n h = rw (drop_of_length-le w h)

-- ---- a text behind another

pub sets_append : (d a b : List ℕ) (i : ℕ) → sets d i (a ++ b) ≡ sets (sets d i a) (i + length a) b
sets_append d [] b i = ap (λ (n : ℕ). sets d n b) (omega arith)
sets_append d (x ∷ a) b i =
    sets_append (set d i x) a b (suc i)
    ∙ ap (λ (n : ℕ). sets (sets (set d i x) (suc i) a) n b) (omega arith)

pub behind : (d a b : List ℕ) (i n : ℕ) → n ≡ i + length a → sets (sets d i a) n b ≡ sets d i (a ++ b)
behind d a b i n e = sym (sets_append d a b i ∙ ap (λ (m : ℕ). sets (sets d i a) m b) (sym e))

-- ---- a text at the front

pub front : (d a : List ℕ) → length a ≤ length d → sets d 0 a ≡ onto a d
unfolding onto
front d a h = sets-eq a d 0 (omega arith) ∙ ap (λ (n : ℕ). a ++ drop n d) (zero-add (length a))
