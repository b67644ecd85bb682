-- The number 0 is that of an accepted sheet and of no refusal; the number and the place of an answer are what the functions give. Assumes nothing.
use mathlib.Core.Path.{◌≡◌, refl}
use Prim.Native.Nat.{◌<◌}
use native.Mathlib.Omega.{arith}
use Rattle.refusal.specs.declared.Shortage.TheVariants.{TooFew, TooWide}
use Rattle.refusal.specs.declared.Refusal.{Refusal}
use Rattle.refusal.specs.declared.Refusal.TheVariants.{ShortBuffer, WrongSize, NoVehicle, NoClosing, BrokenRecord, NoLimitForN1, NoLimitEntry, PmrOutOfRange, NoRun, NoWindow, NotFalling, NoRule, NoConstantSpeed}
use Rattle.std.specs.Prelude.{Ok, Err}
use Rattle.refusal.specs.Refusal.{Answer, number_in, number_of, place_of, answer_number, answer_place}

refusals_numbered : (r : Refusal) → 0 < number_of r
refusals_numbered ShortBuffer = omega arith
refusals_numbered WrongSize = omega arith
refusals_numbered NoVehicle = omega arith
refusals_numbered (NoClosing n) = omega arith
refusals_numbered (BrokenRecord n) = omega arith
refusals_numbered NoLimitForN1 = omega arith
refusals_numbered NoLimitEntry = omega arith
refusals_numbered PmrOutOfRange = omega arith
refusals_numbered NoRun = omega arith
refusals_numbered (NoWindow g TooFew) = omega arith
refusals_numbered (NoWindow g TooWide) = omega arith
refusals_numbered (NotFalling g) = omega arith
refusals_numbered NoRule = omega arith
refusals_numbered (NoConstantSpeed g TooFew) = omega arith
refusals_numbered (NoConstantSpeed g TooWide) = omega arith

pub accepted_by_0 : (a : Answer) → answer_number a ≡ 0 → a ≡ Ok tt
accepted_by_0 (Ok tt) e = refl
accepted_by_0 (Err r) e = let none : ⊥ = omega (arith, refusals_numbered r) in absurd none

-- ---- what the functions give of an answer is its number and its place

pub numbered : (a : Answer) → number_in number_of a ≡ answer_number a
numbered (Ok t) = refl
numbered (Err r) = refl

pub placed : (a : Answer) → number_in place_of a ≡ answer_place a
placed (Ok t) = refl
placed (Err r) = refl
