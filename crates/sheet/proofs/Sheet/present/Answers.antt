-- `sheet::Sheet::present` meets its contract: each gear of a run passed is marked, and no other. Assumes nothing.
use Rattle.std.proofs.Common.{◌≡◌, ℕ, ◌-◌, List, true, false, ◌&&◌, set, refl, sym, ap, ◌∙◌, arith}
use lib.ListN.{length-set, get_or-replicate}
use borrow.Author.Tests.{eq-eqb, ne_eqb}
use Rattle.units.specs.Tests.{some}
use Rattle.record.specs.Records.{records, record_at, byte}
use Rattle.sheet.specs.Sheet.{has_byte, accelerates, has_acceleration, present_of}
use Rattle.sheet.proofs.Presence.{gear_below, marked_start, marked_run, marked_other, marked_end, present_is}
use Rattle.sheet.proofs.Sheet.present.Goals as goal
use Rattle.sheet.proofs.Sheet.present.Goals.{then-r-byte, else-r-byte}

pub loop-i-init : goal.loop-i-init
loop-i-init c = (refl, marked_start _ _ _ (λ g h. get_or-replicate 17 g false false (omega arith)))

pub bounds-seen-r : goal.bounds-seen-r
unfolding records
bounds-seen-r c =
    let gear : byte c.at-r.result.now 1 ≡ byte (record_at c.bytes-bytes.result.now c.loop-i.i) 1 = ap (λ (r : List ℕ). byte r 1) c.at-r.ensures in
    omega (arith, gear, gear_below c.bytes-bytes.result.now c.loop-i.i c.bytes-bytes.ensures.runs_good (omega arith) (omega arith))

pub loop-i-preserved : goal.loop-i-preserved
unfolding records
loop-i-preserved c =
    let s = c.bytes-bytes.result.now in
    let l = c.loop-i in
    let shown : c.at-r.result.now ≡ record_at s l.i = c.at-r.ensures in
    let kind : byte c.at-r.result.now 0 ≡ byte (record_at s l.i) 0 = ap (λ (r : List ℕ). byte r 0) shown in
    let gear : byte c.at-r.result.now 1 ≡ byte (record_at s l.i) 1 = ap (λ (r : List ℕ). byte r 1) shown in
    let most = gear_below s l.i c.bytes-bytes.ensures.runs_good (omega arith) (omega arith) in
    elim c.if-r-byte.branch [
      | then-r-byte w ↦
          rw (w.seen-is ∙ ap (λ (g : ℕ). set l.seen g true) gear)
          (length-set l.seen (byte (record_at s l.i) 1) true ∙ l.invariant.0, marked_run s (records s - 1) l.seen l.i c.loop-i-test.true (eq-eqb _ _ (sym kind ∙ w.if-r-byte.true ∙ c.byte.ensures)) (omega (arith, l.invariant.0, most)) l.invariant.1)
      | else-r-byte w ↦
          rw w.seen-is (l.invariant.0, marked_other s (records s - 1) l.seen l.i c.loop-i-test.true (ne_eqb _ _ (λ k. w.if-r-byte.false (kind ∙ k ∙ sym c.byte.ensures))) l.invariant.1)
    ]

pub returns : goal.returns
unfolding has_acceleration records
returns c =
    let s = c.bytes-bytes.result.now in
    let l = c.loop-i in
    let runs : records s - 1 - 1 ≡ records s - 2 = omega arith in
    present_is s l.seen l.invariant.0 (λ g h. marked_end s (records s - 1) l.seen l.i c.loop-i-test.false l.invariant.1 g h ∙ ap (λ (n : ℕ). some (λ k. accelerates s k && has_byte s 1 g k) n 1) runs)
    ∙ ap present_of c.bytes-bytes.ensures.value
