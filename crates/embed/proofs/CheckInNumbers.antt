-- Production checks kept as two numbers. Assumes nothing.
use mathlib.Core.Path.{◌≡◌, refl, ap, ◌∙◌}
use mathlib.Core.List.{List, [], ◌∷◌}
use Prim.Native.Nat.{ℕ}
use Rattle.production.specs.declared.Check.{Check}
use Rattle.std.specs.Prelude.{Option, Some, None, Ok, Err}
use Rattle.production.specs.Annex.{Reply, reply_number, reply_place}
use Rattle.production.specs.Stages.{offer_of}
use Rattle.production.specs.Sequences.{check_of}
use Rattle.production.specs.Numbers.{status_number, restored_of, check_numbers, restored_from}
use Rattle.production.proofs.Numbers.{comes_back, keeps_its_numbers}
use Rattle.production.proofs.Sequences.{refused_changes_nothing, status_by_annex, wanted_by_annex, offer_by_annex}
use Rattle.embed.specs.CheckInNumbers.{offer_code, offer_place, numbers_after, status_code, status_or, wanted_or, RefusedLeavesNumbers, OfferInNumbers, StatusInNumbers}

-- a refused car leaves the check, and so its numbers
refused_keeps : (check : Check) (car : ℕ) (reply : Reply) → (offer_of check car).reply ≡ reply → (reply_number reply ≡ 0 → ⊥) → check_numbers (offer_of check car).check ≡ check_numbers check
refused_keeps check car (Ok tt) e refused = absurd (refused refl)
refused_keeps check car (Err refusal) e refused = ap check_numbers (refused_changes_nothing check car refusal.counted e []).0

pub refused_leaves_numbers : RefusedLeavesNumbers
refused_leaves_numbers limit stage car = by (restored_of limit stage) refl
  where
    by : (r : Option Check) → restored_of limit stage ≡ r → (offer_code r car ≡ 0 → ⊥) → numbers_after r car (limit ∷ stage ∷ []) ≡ limit ∷ stage ∷ []
    by (Some check) e refused = refused_keeps check car (offer_of check car).reply refl refused ∙ keeps_its_numbers limit stage check e
    by None e refused = refl

-- ---- the numbers of a check

restored : (numbers : List ℕ) (check : Check) → numbers ≡ check_numbers check → restored_from numbers ≡ Some check
restored numbers check e = ap restored_from e ∙ comes_back check

pub offer_in_numbers : (numbers : List ℕ) (car : ℕ) {answer place : ℕ} {after : List ℕ} → answer ≡ offer_code (restored_from numbers) car → place ≡ offer_place (restored_from numbers) car → after ≡ numbers_after (restored_from numbers) car numbers → OfferInNumbers numbers car answer place after
offer_in_numbers numbers car a p n limit cars e =
    let r = restored numbers (check_of limit cars) e in
    let by = offer_by_annex (check_of limit cars) car refl limit cars refl in
    (a ∙ ap (λ (x : Option Check). offer_code x car) r ∙ ap reply_number by.0, p ∙ ap (λ (x : Option Check). offer_place x car) r ∙ ap reply_place by.0, n ∙ ap (λ (x : Option Check). numbers_after x car numbers) r ∙ ap check_numbers by.1)

pub status_in_numbers : (numbers : List ℕ) (status₀ wanted₀ : ℕ) {answer status wanted : ℕ} → answer ≡ status_code (restored_from numbers) → status ≡ status_or (restored_from numbers) status₀ → wanted ≡ wanted_or (restored_from numbers) wanted₀ → StatusInNumbers numbers answer status wanted
status_in_numbers numbers status₀ wanted₀ a s w limit cars e =
    let check = check_of limit cars in
    let r = restored numbers check e in
    (a ∙ ap status_code r, s ∙ ap (λ (x : Option Check). status_or x status₀) r ∙ ap status_number (status_by_annex check refl limit cars refl), w ∙ ap (λ (x : Option Check). wanted_or x wanted₀) r ∙ wanted_by_annex check refl limit cars refl)
