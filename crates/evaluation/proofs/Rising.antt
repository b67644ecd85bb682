-- A louder sheet has no lower L_urban. Assumes nothing.
use mathlib.Core.Path.{◌≡◌, refl, sym, ap, ◌∙◌}
use mathlib.Core.List.{List, [], ◌++◌}
use Prim.Native.Nat.{ℕ, ◌+◌, ◌-◌, ◌≤◌, ◌<◌}
use native.Mathlib.Omega.{arith}
use lib.ListN.{length, get_or, drop}
use Rattle.std.specs.Prelude.{Ok}
use Rattle.units.specs.Bytes.{number}
use Rattle.units.proofs.Among.{listed}
use Rattle.record.specs.declared.RunKind.TheVariants.{Acceleration, ConstantSpeed}
use Rattle.record.specs.Records.{records}
use Rattle.sheet.proofs.Examinations.{WholeSheet}
use Rattle.window.specs.declared.ValidRun.{ValidRun}
use Rattle.window.specs.declared.Four.{Four}
use Rattle.window.proofs.Rising.{Risen, FourRisen, sum_rising}
use Rattle.valid_runs.specs.declared.Condition.{Condition}
use Rattle.valid_runs.specs.ValidRuns.{candidate_of, window_of}
use Rattle.valid_runs.proofs.Members.{Member, window_members}
use Rattle.reference.specs.declared.Reference.{Reference}
use Rattle.session.specs.declared.Track.{Track}
use Rattle.session.specs.Session.{condition_of, gear_acceleration}
use Rattle.session.proofs.Entries.{same_acceleration}
use Rattle.urban.specs.declared.ChosenGear.{ChosenGear}
use Rattle.urban.specs.declared.Chosen.{Chosen}
use Rattle.urban.specs.declared.Chosen.TheVariants.{One, Pair}
use Rattle.urban.specs.declared.Outcome.{Outcome}
use Rattle.result.specs.Result.{result_bytes}
use Rattle.result.proofs.Results.{at_ten}
use Rattle.decision.specs.declared.Judged.{Judged}
use Rattle.decision.specs.Decision.{decision_of, sheet_session, reference_in, selection_in}
use Rattle.decision.proofs.Selections.{IsMeasured, Measuring}
use Rattle.decision.proofs.Results.{sheet_whole, decided}
use Rattle.figure.specs.Figure.{accelerating, constant, reported, GearNotLower, ChosenNotLower}
use Rattle.figure.proofs.Rising.{rising}
use Rattle.evaluation.specs.Demand.{runs_of, chosen_runs_by, chosen_runs, NoneLower, RisesFrom}
use Rattle.evaluation.proofs.Accepted.{reported_in}
use Rattle.evaluation.proofs.SameRuns.{same_list}
use Rattle.evaluation.proofs.OnlyLevels.{same_track, same_reference, run_rising}

-- ---- where a window's runs stand among the chosen ones

-- a window's four record numbers stand in a list from place k on
record ListedAt (runs : List ℕ) (k : ℕ) (f : Four) : Type 0 where
  inside : k + 3 < length runs
  a : get_or runs k 0 ≡ f.a.number
  b : get_or runs (k + 1) 0 ≡ f.b.number
  c : get_or runs (k + 2) 0 ≡ f.c.number
  d : get_or runs (k + 3) 0 ≡ f.d.number

-- the two windows of a chosen gear, from place k on
record GearListedAt (runs : List ℕ) (k : ℕ) (g : ChosenGear) : Type 0 where
  acceleration : ListedAt runs k (accelerating g)
  constant : ListedAt runs (k + 4) (constant g)

first_listed : (g : ChosenGear) (others : List ℕ) → GearListedAt (runs_of g ++ others) 0 g
first_listed g others =
    record { acceleration = record { inside = omega arith; a = refl; b = refl; c = refl; d = refl }; constant = record { inside = omega arith; a = refl; b = refl; c = refl; d = refl } }

second_listed : (i j : ChosenGear) → GearListedAt (runs_of i ++ runs_of j) 8 j
second_listed i j =
    record { acceleration = record { inside = omega arith; a = refl; b = refl; c = refl; d = refl }; constant = record { inside = omega arith; a = refl; b = refl; c = refl; d = refl } }

-- ---- a gear in both sheets

module _ (s s' : List ℕ) (n : NoneLower s s') (w : WholeSheet s (sheet_whole s)) where
  -- two windows over the same backgrounds
  window_rising : (o o' : Condition) (k : ℕ) (f f' : Four) → o.backgrounds ≡ o'.backgrounds → window_of s o ≡ Ok f → window_of s' o' ≡ Ok f' → ListedAt (chosen_runs s) k f → ListedAt (chosen_runs s) k f' → FourRisen f f'
  window_rising o o' k f f' same e e' p p' =
      let m = window_members s o f e in
      let m' = window_members s' o' f' e' in
      record {
        a = of k f.a f'.a (omega (arith, p.inside)) p.a p'.a m.a m'.a;
        b = of (k + 1) f.b f'.b (omega (arith, p.inside)) p.b p'.b m.b m'.b;
        c = of (k + 2) f.c f'.c (omega (arith, p.inside)) p.c p'.c m.c m'.c;
        d = of (k + 3) f.d f'.d (omega (arith, p.inside)) p.d p'.d m.d m'.d;
      }
    where
      of : (i : ℕ) (v v' : ValidRun) → i < length (chosen_runs s) → get_or (chosen_runs s) i 0 ≡ v.number → get_or (chosen_runs s) i 0 ≡ v'.number → Member s o 1 (records s - 2) v → Member s' o' 1 (records s' - 2) v' → Risen v v'
      of i v v' l q q' m m' =
          run_rising s s' n.only_levels o o' (get_or (chosen_runs s) i 0) v v' (omega (arith, q, m.last, w.two)) same (ap (candidate_of s o) q ∙ m.is) (ap (candidate_of s' o') q' ∙ m'.is) (n.none_lower (get_or (chosen_runs s) i 0) (listed (chosen_runs s) i l))

  tracks : (sheet_session s).track ≡ (sheet_session s').track
  tracks = same_track s s' n.only_levels (sheet_whole s) w

  gear_rising :
      (k : ℕ) (g g' : ChosenGear) → IsMeasured (sheet_session s) g → IsMeasured (sheet_session s') g' → GearListedAt (chosen_runs s) k g → GearListedAt (chosen_runs s) k g' → GearNotLower g g'
  unfolding sheet_session
  gear_rising k g g' m m' p p' =
      let same : (sheet_session s).track.backgrounds ≡ (sheet_session s').track.backgrounds = ap (λ (t : Track). t.backgrounds) tracks in
      let fast = window_rising (condition_of (sheet_session s).track Acceleration g.gear.number) (condition_of (sheet_session s').track Acceleration g'.gear.number) k (accelerating g) (accelerating g') same m.accelerating m'.accelerating p.acceleration p'.acceleration in
      let slow = window_rising (condition_of (sheet_session s).track ConstantSpeed g.gear.number) (condition_of (sheet_session s').track ConstantSpeed g'.gear.number) (k + 4) (constant g) (constant g') same m.constant m'.constant p.constant p'.constant in
      record {
        a = m.acceleration ∙ same_acceleration (sheet_session s).track.path (accelerating g) (accelerating g') fast ∙ ap (λ (t : Track). gear_acceleration t.path (accelerating g')) tracks ∙ sym m'.acceleration;
        w = sum_rising (accelerating g) (accelerating g') fast;
        c = sum_rising (constant g) (constant g') slow;
      }

-- ---- the chosen gears of both

eight_is_not_sixteen : (g i j : ChosenGear) → runs_of g ≡ runs_of i ++ runs_of j → ⊥
eight_is_not_sixteen g i j e = let z : ◌≡◌ {A = ℕ} 8 16 = ap length e in omega arith

module _ (s s' : List ℕ) (n : NoneLower s s') (w : WholeSheet s (sheet_whole s)) (same_runs : chosen_runs s ≡ chosen_runs s') where
  runs_are : (t : List ℕ) (g : Chosen) → selection_in t ≡ Ok g → chosen_runs t ≡ chosen_runs_by (Ok g)
  unfolding chosen_runs
  runs_are t g e = ap chosen_runs_by e

  chosen_rising : (g h : Chosen) → selection_in s ≡ Ok g → selection_in s' ≡ Ok h → Measuring (sheet_session s) (Ok g) → Measuring (sheet_session s') (Ok h) → ChosenNotLower g h
  chosen_rising (One rule g) (One rule' h) e e' m m' =
      gear_rising s s' n w 0 g h m m' (rw (runs_are s (One rule g) e) (first_listed g [])) (rw (same_runs ∙ runs_are s' (One rule' h) e') (first_listed h []))
  chosen_rising (Pair rule i j) (Pair rule' i' j') e e' m m' =
      let runs = runs_are s (Pair rule i j) e in
      let runs' = same_runs ∙ runs_are s' (Pair rule' i' j') e' in
      (gear_rising s s' n w 0 i i' m.0 m'.0 (rw runs (first_listed i (runs_of j))) (rw runs' (first_listed i' (runs_of j'))), gear_rising s s' n w 8 j j' m.1 m'.1 (rw runs (second_listed i j)) (rw runs' (second_listed i' j')))
  chosen_rising (One rule g) (Pair rule' i j) e e' m m' = absurd (eight_is_not_sixteen g i j (sym (runs_are s (One rule g) e) ∙ same_runs ∙ runs_are s' (Pair rule' i j) e'))
  chosen_rising (Pair rule i j) (One rule' h) e e' m m' = absurd (eight_is_not_sixteen h i j (sym (runs_are s' (One rule' h) e') ∙ sym same_runs ∙ runs_are s (Pair rule i j) e))

-- ---- L_urban of both

level_rising : (s s' : List ℕ) (j j' : Judged) → decision_of s ≡ Ok j → decision_of s' ≡ Ok j' → NoneLower s s' → j.outcome.l_urban ≤ j'.outcome.l_urban
unfolding reported
level_rising s s' j j' e e' n =
    let d = decided s j e in
    let d' = decided s' j' e' in
    let same : reference_in s' ≡ reference_in s = sym (same_reference s s' n.only_levels (sheet_whole s) d.sheet) in
    let here : j.outcome.l_urban ≡ reported (reference_in s) d.chosen_gears j.limit = ap (λ (x : Outcome). x.l_urban) d.is in
    let there : j'.outcome.l_urban ≡ reported (reference_in s) d'.chosen_gears j'.limit = ap (λ (x : Outcome). x.l_urban) d'.is ∙ ap (λ (r : Reference). reported r d'.chosen_gears j'.limit) same in
    let runs = same_list s s' n.only_levels j j' d d' n.same_runs in
    let rises = rising (reference_in s) d.chosen_gears d'.chosen_gears j.limit j'.limit d.straddled (chosen_rising s s' n d.sheet runs d.chosen_gears d'.chosen_gears d.chosen_is d'.chosen_is d.measured d'.measured) in
    omega (arith, here, there, rises)

-- Rising, for every sheet that decides on a result; that of the other sheet stands at byte 10
pub rises_from : (s : List ℕ) (j : Judged) → decision_of s ≡ Ok j → RisesFrom s j.outcome.l_urban
unfolding RisesFrom
rises_from s j e s' b a n =
    let r = reported_in s' b a in
    rw (r.bytes, at_ten r.judged.outcome (drop 32 b)) (level_rising s s' j r.judged e r.decides n)

-- and its own at byte 10 of its result
pub rises_written : (s b rest : List ℕ) (j : Judged) → decision_of s ≡ Ok j → b ≡ result_bytes j.outcome ++ rest → RisesFrom s (number b 10 2)
rises_written s b rest j e written = rw (written, at_ten j.outcome rest) (rises_from s j e)
