-- `valid_runs::window_of` meets its contract: the runs that are kept, and those to come, stand for all. Assumes nothing.
use Rattle.std.proofs.Common.{◌≡◌, List, ℕ, length, arith, tests, ap, ◌∙◌, Result, Err}
use Rattle.std.specs.Result.{result_or}
use Rattle.refusal.specs.declared.Shortage.{Shortage}
use Rattle.refusal.specs.declared.Shortage.TheVariants.{TooWide}
use Rattle.window.specs.declared.Four.{Four}
use Rattle.record.specs.Records.{records}
use Rattle.window.specs.Windows.{first_window}
use Rattle.valid_runs.specs.ValidRuns.{window_of}
use Rattle.valid_runs.proofs.Seeking.{next_range, sought_stored, sought_carried, window_found, all_searched}
use Rattle.valid_runs.proofs.window_of.Goals as goal

pub returns-in-Ok : goal.returns-in-Ok
unfolding records
returns-in-Ok c =
    let s = c.bytes-bytes.result.now in
    let o = c.args.condition in
    let stored = sought_stored s o _ _ _ _ _ c.push.new.self.items _ c.in-Some.ensures c.in-Some-candidate.ensures c.push.ensures.items c.loop-i.invariant.kept in
    window_found s o c.bytes-bytes.ensures.runs_good.two _ _ _ _ (c.in-Ok.ensures ∙ ap first_window c.deref.ensures.0) stored ∙ ap (λ (x : List ℕ). window_of x o) c.bytes-bytes.ensures.value

pub loop-i-preserved-then-is_full : goal.loop-i-preserved-then-is_full
unfolding records
loop-i-preserved-then-is_full c =
    let s = c.bytes-bytes.result.now in
    let o = c.args.condition in
    let stored = sought_stored s o _ _ _ _ _ c.push.new.self.items _ c.in-Some.ensures c.in-Some-candidate.ensures c.push.ensures.items c.loop-i.invariant.kept in
    let full : length c.push.new.self.items ≡ 16 = grind (arith, tests) in
    record {
      room = grind (arith, tests);
      first = omega arith;
      past = omega (arith, next_range s o _ _ _ c.in-Some.ensures);
      kept = sought_carried s o _ _ _ _ _ _ full (c.in_default-first_window.ensures ∙ ap first_window c.deref.ensures.0) c.carry.ensures stored;
    }

pub loop-i-preserved : goal.loop-i-preserved
unfolding records
loop-i-preserved c =
    let s = c.bytes-bytes.result.now in
    let o = c.args.condition in
    record {
      room = grind (arith, tests);
      first = omega arith;
      past = omega (arith, next_range s o _ _ _ c.in-Some.ensures);
      kept = sought_stored s o _ _ _ _ _ c.push.new.self.items _ c.in-Some.ensures c.in-Some-candidate.ensures c.push.ensures.items c.loop-i.invariant.kept;
    }

pub returns-then-carried : goal.returns-then-carried
unfolding records
returns-then-carried c =
    let l = c.loop-i in
    let all = rw c.if-carried.true at (all_searched c.bytes-bytes.result.now c.args.condition c.bytes-bytes.ensures.runs_good.two l.from l.carried l.runs.items l.invariant.past c.in_default.ensures l.invariant.kept) in
    c.or.ensures ∙ ap (λ (r : Result Four Shortage). result_or r (Err TooWide)) (c.first_window-found.ensures ∙ ap first_window c.deref-2.ensures.0) ∙ all ∙ ap (λ (x : List ℕ). window_of x c.args.condition) c.bytes-bytes.ensures.value

pub returns-else-carried : goal.returns-else-carried
unfolding records
returns-else-carried c =
    let l = c.loop-i in
    let all = rw c.if-carried.false at (all_searched c.bytes-bytes.result.now c.args.condition c.bytes-bytes.ensures.runs_good.two l.from l.carried l.runs.items l.invariant.past c.in_default.ensures l.invariant.kept) in
    c.first_window-found.ensures ∙ ap first_window c.deref-2.ensures.0 ∙ all ∙ ap (λ (x : List ℕ). window_of x c.args.condition) c.bytes-bytes.ensures.value
