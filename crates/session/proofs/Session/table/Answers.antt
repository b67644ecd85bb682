-- The entries of the gears passed are in the table, and each gear passed has a window. Assumes nothing.
use Rattle.std.proofs.Common.{rules, ◌≡◌, refl, sym, ◌∙◌, arith}
use mathlib.Core.Logic.{inl, inr}
use Rattle.window.specs.Windows.{empty_run, empty_four}
use Rattle.gears.specs.Rules.{empty_gear}
use Rattle.session.specs.Session.{empty_entry}
use Rattle.session.proofs.Tables.{tabling_start, count_most, tabling_remains, tabling_other, table_is, tabled_stop, tabled_end, without_at, without_none}
use Rattle.session.proofs.Session.table.Goals as goal
use Rattle.session.proofs.Session.table.Goals.{in-Remains, in-Dropped}

pub loop-gear-init : goal.loop-gear-init
unfolding empty_entry empty_gear empty_four empty_run
loop-gear-init c = let empty : c.default-entries.result ≡ empty_entry = search rules in rw empty (tabling_start _)

pub bounds-entries-count : goal.bounds-entries-count
bounds-entries-count c = let few = count_most _ _ _ _ c.loop-gear.invariant in omega arith

pub offset_bounds-entries-count : goal.offset_bounds-entries-count
offset_bounds-entries-count c = let few = count_most _ _ _ _ c.loop-gear.invariant in search rules

pub overflow_add-count : goal.overflow_add-count
overflow_add-count c = let few = count_most _ _ _ _ c.loop-gear.invariant in search rules

pub returns-in-NoWindow : goal.returns-in-NoWindow
returns-in-NoWindow c =
    let l = c.loop-gear in
    let state = sym c.in-NoWindow.ensures in
    let here = tabled_stop _ _ _ l.gear l.auto.gear c.loop-gear-test.true _ state refl l.invariant in
    table_is _ _ _ l.gear _ here (without_at _ _ _ l.auto.gear c.loop-gear-test.true here state) l.invariant

pub loop-gear-preserved : goal.loop-gear-preserved
loop-gear-preserved c =
    let l = c.loop-gear in
    elim c.match-state_of.branch [
      | in-Remains w ↦ rw (w.entries-is, w.count-is) (tabling_remains _ _ _ _ l.auto.gear c.loop-gear-test.true _ (sym w.in-Remains.ensures) l.invariant)
      | in-Dropped w ↦ rw (w.entries-is, w.count-is) (elim w.in-Dropped.is [
        | inl e ↦ tabling_other _ _ _ _ l.auto.gear c.loop-gear-test.true _ refl refl (sym c.state_of.ensures ∙ e) l.invariant
        | inr e ↦ tabling_other _ _ _ _ l.auto.gear c.loop-gear-test.true _ refl refl (sym c.state_of.ensures ∙ e) l.invariant
      ])
    ]

pub returns : goal.returns
returns c =
    let l = c.loop-gear in
    let here = tabled_end _ _ _ l.gear c.loop-gear-test.false l.invariant in
    table_is _ _ _ l.gear _ here (without_none _ (omega arith)) l.invariant
