-- What holds of a whole check, whatever cars are offered. Assumes nothing.
use mathlib.Core.Path.{◌≡◌, refl, sym, ap, ◌∙◌}
use mathlib.Core.Bool.{Bool, true, false, cond, ◌&&◌}
use mathlib.Core.List.{List, [], ◌∷◌, ◌++◌}
use Prim.Native.Nat.{ℕ, ◌-◌, ◌≤◌}
use native.Mathlib.Omega.{arith}
use lib.ListN.{length, take}
use Rattle.production.specs.declared.Stage.{Stage}
use Rattle.production.specs.declared.Stage.TheVariants.{NoCar, FirstMet, FirstFailed, SecondMet, SecondFailed, BothMet, NotBothMet}
use Rattle.production.specs.declared.Check.{Check}
use Rattle.production.specs.declared.Offered.{Offered}
use Rattle.production.specs.declared.Status.{Status}
use Rattle.production.specs.declared.Status.TheVariants.{Open, Conforms, DoesNotConform}
use Rattle.production.specs.Annex.{meets, status_of, wanted_of, reply_by, reply_of, reply_number}
use Rattle.production.specs.Stages.{status_at, wanted_at, reply_at, next_stage, start_of, offer_of}
use Rattle.production.specs.Numbers.{status_number}
use Rattle.production.specs.Sequences.{after_cars, check_of, StatusByAnnex, WantedByAnnex, OfferByAnnex, KeptIfRefused, LimitStays, VerdictStays, RefusedChangesNothing, TwoMoreAlways, NeverBeforeTheThird, WantedWhileOpen}

-- ---- a check that wants no car stays as it is

same_stage : (stage : Stage) → wanted_at stage ≡ 0 → (met : Bool) → next_stage stage met ≡ stage
same_stage NoCar none met = absurd (omega arith)
same_stage FirstMet none met = refl
same_stage FirstFailed none met = absurd (omega arith)
same_stage SecondMet none met = absurd (omega arith)
same_stage SecondFailed none met = absurd (omega arith)
same_stage BothMet none met = refl
same_stage NotBothMet none met = refl

same_check : (check : Check) → wanted_at check.stage ≡ 0 → (car : ℕ) → (offer_of check car).check ≡ check
unfolding offer_of
same_check check none car = ap (λ (stage : Stage). record { limit = check.limit; stage = stage }) (same_stage check.stage none (meets check.limit car))

-- by induction over the cars
stays : (check : Check) → wanted_at check.stage ≡ 0 → (later : List ℕ) → after_cars check later ≡ check
stays check none [] = refl
stays check none (car ∷ later) = rw (same_check check none car) (stays check none later)

-- it wants one exactly while it is open
wanted_at_open : (stage : Stage) → (status_at stage ≡ Open → 1 ≤ wanted_at stage) × (1 ≤ wanted_at stage → status_at stage ≡ Open)
wanted_at_open NoCar = (λ e. omega arith, λ h. refl)
wanted_at_open FirstMet = (λ e. absurd (omega (arith, ap status_number e)), λ h. absurd (omega arith))
wanted_at_open FirstFailed = (λ e. omega arith, λ h. refl)
wanted_at_open SecondMet = (λ e. omega arith, λ h. refl)
wanted_at_open SecondFailed = (λ e. omega arith, λ h. refl)
wanted_at_open BothMet = (λ e. absurd (omega (arith, ap status_number e)), λ h. absurd (omega arith))
wanted_at_open NotBothMet = (λ e. absurd (omega (arith, ap status_number e)), λ h. absurd (omega arith))

pub verdict_stays : VerdictStays
verdict_stays check verdict =
    let none : 1 ≤ wanted_at check.stage → ⊥ = λ h. verdict ((wanted_at_open check.stage).1 h) in
    stays check (omega (arith, none))

-- it wants none where it refuses a car
none_wanted : (stage : Stage) → reply_number (reply_at stage) ≡ 20 → wanted_at stage ≡ 0
none_wanted NoCar refused = absurd (omega arith)
none_wanted FirstMet refused = refl
none_wanted FirstFailed refused = absurd (omega arith)
none_wanted SecondMet refused = absurd (omega arith)
none_wanted SecondFailed refused = absurd (omega arith)
none_wanted BothMet refused = refl
none_wanted NotBothMet refused = refl

pub refused_changes_nothing : RefusedChangesNothing
unfolding offer_of
refused_changes_nothing check car counted refused later =
    let same = stays check (none_wanted check.stage (ap reply_number refused)) (car ∷ later) in
    (same, λ next. rw same refused)

-- ---- the annex, by how many cars were offered and which of the first three meet the requirement

-- what the annex says, by the status, the number of cars asked for and the number counted
abbrev Says : Stage → Status → ℕ → ℕ → Type 0
Says stage status asked counted = (status_at stage ≡ status) × (wanted_at stage ≡ asked - counted) × (reply_at stage ≡ reply_by status counted)

first_car : (car : ℕ) (first : Bool) → Says (next_stage NoCar first) (cond first Conforms Open) (cond first 1 3) (length (take (cond first 1 3) (car ∷ [])))
first_car car true = (refl, refl, refl)
first_car car false = (refl, refl, refl)

second_car : (car next : ℕ) (first second : Bool) → Says (next_stage (next_stage NoCar first) second) (cond first Conforms Open) (cond first 1 3) (length (take (cond first 1 3) (car ∷ next ∷ [])))
second_car car next true second = (refl, refl, refl)
second_car car next false true = (refl, refl, refl)
second_car car next false false = (refl, refl, refl)

third_car : (car next last : ℕ) (later : List ℕ) (first second third : Bool) → Says (next_stage (next_stage (next_stage NoCar first) second) third) (cond first Conforms (cond (second && third) Conforms DoesNotConform)) (cond first 1 3) (length (take (cond first 1 3) (car ∷ next ∷ last ∷ later)))
third_car car next last later true second third = (refl, refl, refl)
third_car car next last later false true true = (refl, refl, refl)
third_car car next last later false true false = (refl, refl, refl)
third_car car next last later false false third = (refl, refl, refl)

-- no car is wanted after three
none_after_three : (first second third : Bool) → wanted_at (next_stage (next_stage (next_stage NoCar first) second) third) ≡ 0
none_after_three true second third = refl
none_after_three false true true = refl
none_after_three false true false = refl
none_after_three false false third = refl

-- after any cars from the start, the status, the cars wanted and the reply to one more car are those of the annex
pub follows_the_annex : (limit : ℕ) (cars : List ℕ) → let stage = (check_of limit cars).stage in (status_at stage ≡ status_of limit cars) × (wanted_at stage ≡ wanted_of limit cars) × (reply_at stage ≡ reply_of limit cars)
unfolding offer_of
follows_the_annex limit [] = (refl, refl, refl)
follows_the_annex limit (first ∷ []) = first_car first (meets limit first)
follows_the_annex limit (first ∷ second ∷ []) = second_car first second (meets limit first) (meets limit second)
follows_the_annex limit (first ∷ second ∷ third ∷ later) =
    let stage = next_stage (next_stage (next_stage NoCar (meets limit first)) (meets limit second)) (meets limit third) in
    rw (stays (record { limit = limit; stage = stage }) (none_after_three (meets limit first) (meets limit second) (meets limit third)) later)
    (third_car first second third later (meets limit first) (meets limit second) (meets limit third))

-- ---- what the operations promise

-- one more car, after these
with_one_more : (check : Check) (cars : List ℕ) (car : ℕ) → (offer_of (after_cars check cars) car).check ≡ after_cars check (cars ++ car ∷ [])
with_one_more check [] car = refl
with_one_more check (first ∷ cars) car = with_one_more (offer_of check first).check cars car

module _ (check : Check) where
  pub status_by_annex : {status : Status} → status ≡ status_at check.stage → StatusByAnnex check status
  status_by_annex is limit cars led = is ∙ ap (λ (c : Check). status_at c.stage) led ∙ (follows_the_annex limit cars).0

  pub wanted_by_annex : {wanted : ℕ} → wanted ≡ wanted_at check.stage → WantedByAnnex check wanted
  wanted_by_annex is limit cars led = is ∙ ap (λ (c : Check). wanted_at c.stage) led ∙ (follows_the_annex limit cars).1

  pub offer_by_annex : (car : ℕ) {offered : Offered} → offered ≡ offer_of check car → OfferByAnnex check car offered
  unfolding offer_of
  offer_by_annex car is limit cars led =
      rw is
      (ap (λ (c : Check). reply_at c.stage) led ∙ (follows_the_annex limit cars).2, ap (λ (c : Check). (offer_of c car).check) led ∙ with_one_more (start_of limit) cars car)

  pub kept_if_refused : (car : ℕ) {offered : Offered} → offered ≡ offer_of check car → KeptIfRefused check offered
  kept_if_refused car is counted refused = rw is (refused_changes_nothing check car counted (rw is at refused) []).0

-- ---- the limit, and the statuses

same_limit : (check : Check) (cars : List ℕ) → (after_cars check cars).limit ≡ check.limit
unfolding offer_of
same_limit check [] = refl
same_limit check (car ∷ cars) = same_limit (offer_of check car).check cars

pub limit_stays : LimitStays
limit_stays limit cars = same_limit (start_of limit) cars

pub two_more_always : TwoMoreAlways
two_more_always limit first [] fails h = rw fails refl
two_more_always limit first (second ∷ []) fails h = rw fails refl
two_more_always limit first (second ∷ third ∷ later) fails h = absurd (omega arith)

no_failure : (first : Bool) → cond first Conforms Open ≡ DoesNotConform → ⊥
no_failure true e = omega (arith, ap status_number e)
no_failure false e = omega (arith, ap status_number e)

pub never_before_the_third : NeverBeforeTheThird
never_before_the_third limit [] e = absurd (no_failure false e)
never_before_the_third limit (first ∷ []) e = absurd (no_failure (meets limit first) e)
never_before_the_third limit (first ∷ second ∷ []) e = absurd (no_failure (meets limit first) e)
never_before_the_third limit (first ∷ second ∷ third ∷ later) e = omega arith

pub wanted_while_open : WantedWhileOpen
wanted_while_open limit cars =
    let says = follows_the_annex limit cars in
    rw (sym says.0, sym says.1) (wanted_at_open (check_of limit cars).stage)
