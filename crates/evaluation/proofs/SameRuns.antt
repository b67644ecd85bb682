-- Two sheets of which only levels differ and in which the same record numbers are chosen have the same list of chosen runs. The list stands in
-- the order of gear, kind and number, which are the same in both sheets. Assumes nothing.
use mathlib.Core.Path.{◌≡◌, refl, ap₂, ◌∙◌}
use mathlib.Core.List.{List, [], ◌++◌}
use Prim.Native.Nat.{ℕ, ◌+◌, ◌-◌, ◌*◌, ◌≤◌, ◌<◌}
use native.Mathlib.Omega.{arith}
use Rattle.std.specs.Prelude.{Ok}
use Rattle.record.specs.declared.RunKind.TheVariants.{Acceleration, ConstantSpeed}
use Rattle.record.specs.Records.{records, record_at, byte, kind_byte}
use Rattle.sheet.proofs.Examinations.{WholeSheet}
use Rattle.window.specs.declared.ValidRun.{ValidRun}
use Rattle.window.specs.declared.Four.{Four}
use Rattle.valid_runs.specs.declared.Condition.{Condition}
use Rattle.valid_runs.specs.ValidRuns.{window_of}
use Rattle.valid_runs.proofs.Counting.{counts}
use Rattle.valid_runs.proofs.Members.{Member, window_members, InOrder, window_in_order}
use Rattle.session.specs.Session.{condition_of}
use Rattle.urban.specs.declared.ChosenGear.{ChosenGear}
use Rattle.urban.specs.declared.Chosen.{Chosen}
use Rattle.urban.specs.declared.Chosen.TheVariants.{One, Pair}
use Rattle.decision.specs.declared.Judged.{Judged}
use Rattle.decision.specs.Decision.{sheet_session, selection_in}
use Rattle.decision.proofs.Selections.{IsMeasured, Measuring}
use Rattle.decision.proofs.Results.{sheet_whole, Decided}
use Rattle.figure.specs.Figure.{accelerating, constant}
use Rattle.evaluation.specs.Demand.{numbers_of, runs_of, chosen_runs_by, chosen_runs, is_chosen, OnlyLevels}
use Rattle.evaluation.proofs.OnlyLevels.{same_records, same_before}
use Rattle.evaluation.proofs.InKeyOrder.{Rises, rises_later, one_list}

-- gear and kind of a record as one number, and with them its own number as one
group : ℕ → ℕ → ℕ
group gear kind = 4 * gear + kind

key : List ℕ → ℕ → ℕ
key s n = 65536 * group (byte (record_at s n) 1) (byte (record_at s n) 0) + n

-- ---- one window

-- the keys of a window's four: they are of one group, and their numbers rise
record Keyed (K : ℕ → ℕ) (x : ℕ) (f : Four) : Type 0 where
  a : K f.a.number ≡ 65536 * x + f.a.number
  b : K f.b.number ≡ 65536 * x + f.b.number
  c : K f.c.number ≡ 65536 * x + f.c.number
  d : K f.d.number ≡ 65536 * x + f.d.number
  order : InOrder f
  most : f.d.number < 65536

module _ (K : ℕ → ℕ) (t : List ℕ) (few : records t ≤ 1024) (same : (n : ℕ) → n < records t → K n ≡ key t n) where
  keyed : (o : Condition) (f : Four) → window_of t o ≡ Ok f → Keyed K (group o.gear (kind_byte o.kind)) f
  unfolding key
  keyed o f e =
      let m = window_members t o f e in
      record { a = of f.a m.a; b = of f.b m.b; c = of f.c m.c; d = of f.d m.d; order = window_in_order t o f e; most = omega (arith, m.d.last) }
    where
      of : (v : ValidRun) → Member t o 1 (records t - 2) v → K v.number ≡ 65536 * group o.gear (kind_byte o.kind) + v.number
      of v m =
          let c = counts t o v.number v m.is in
          same v.number (omega (arith, m.first, m.last)) ∙ ap₂ (λ (g : ℕ) (k : ℕ). 65536 * group g k + v.number) c.is_gear c.is_kind

four_rises : (K : ℕ → ℕ) (x low : ℕ) (f : Four) (rest : List ℕ) → Keyed K x f → low ≤ 65536 * x → Rises K (65536 * (x + 1)) rest → Rises K low (numbers_of f ++ rest)
unfolding Rises
four_rises K x low f rest k h r =
    let others = rises_later K (65536 * (x + 1)) (K f.d.number + 1) rest (omega (arith, k.d, k.most)) r in
    (omega (arith, k.a), (omega (arith, k.a, k.b, k.order.ab), (omega (arith, k.b, k.c, k.order.bc), (omega (arith, k.c, k.d, k.order.cd), others))))

-- ---- the chosen gears

module _ (K : ℕ → ℕ) (t : List ℕ) (few : records t ≤ 1024) (same : (n : ℕ) → n < records t → K n ≡ key t n) where
  gear_rises : (g : ChosenGear) (low : ℕ) (rest : List ℕ) → IsMeasured (sheet_session t) g → low ≤ 65536 * group g.gear.number 2 → Rises K (65536 * group g.gear.number 4) rest → Rises K low (runs_of g ++ rest)
  unfolding sheet_session group
  gear_rises g low rest m h r =
      let fast = keyed K t few same (condition_of (sheet_session t).track Acceleration g.gear.number) (accelerating g) m.accelerating in
      let slow = keyed K t few same (condition_of (sheet_session t).track ConstantSpeed g.gear.number) (constant g) m.constant in
      let next : 65536 * (group g.gear.number 3 + 1) ≡ 65536 * group g.gear.number 4 = omega arith in
      four_rises K (group g.gear.number 2) low (accelerating g) (numbers_of (constant g) ++ rest) fast h
      (four_rises K (group g.gear.number 3) (65536 * (group g.gear.number 2 + 1)) (constant g) rest slow (omega arith) (rw next r))

  chosen_rises : (g : Chosen) → Measuring (sheet_session t) (Ok g) → Rises K 0 (chosen_runs_by (Ok g))
  unfolding Rises group
  chosen_rises (One rule g) m = gear_rises g 0 [] m (omega arith) tt
  chosen_rises (Pair rule i j) m = gear_rises i 0 (runs_of j) m.0 (omega arith) (gear_rises j (65536 * group i.gear.number 4) [] m.1 (omega (arith, m.2)) tt)

  runs_rise : (g : Chosen) → selection_in t ≡ Ok g → Measuring (sheet_session t) (Ok g) → Rises K 0 (chosen_runs t)
  unfolding chosen_runs
  runs_rise g e m = rw e (chosen_rises g m)

few_records : (s : List ℕ) → WholeSheet s (sheet_whole s) → records s ≤ 1024
unfolding records
few_records s w = w.size.few

-- ---- both sheets

module _ (s s' : List ℕ) (only : OnlyLevels s s') where
  same_key : (n : ℕ) → n < records s' → key s n ≡ key s' n
  unfolding key
  same_key n h =
      let inside : n < records s = omega (arith, same_records s s' only) in
      ap₂ (λ (g : ℕ) (k : ℕ). 65536 * group g k + n) (same_before s s' only n 1 inside (omega arith)) (same_before s s' only n 0 inside (omega arith))

  pub same_list : (j j' : Judged) → Decided s j → Decided s' j' → ((n : ℕ) → is_chosen s n ≡ is_chosen s' n) → chosen_runs s ≡ chosen_runs s'
  same_list j j' d d' same =
      one_list (key s) 0 (chosen_runs s) (chosen_runs s')
      (runs_rise (key s) s (few_records s d.sheet) (λ n h. refl) d.chosen_gears d.chosen_is d.measured)
      (runs_rise (key s) s' (few_records s' d'.sheet) same_key d'.chosen_gears d'.chosen_is d'.measured)
      same
