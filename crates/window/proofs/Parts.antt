-- The first window of runs that are gathered and searched part by part. Assumes nothing.
use mathlib.Core.Path.{◌≡◌, refl, sym, ap, ◌∙◌}
use mathlib.Core.Bool.{Bool, true, false, cond}
use mathlib.Core.List.{List, ◌++◌}
use Prim.Native.Nat.{ℕ, ◌+◌, ◌-◌, ◌≤◌, ◌<◌}
use native.Mathlib.Omega.{arith}
use lib.Dec.{ltb}
use lib.ListN.{length, get_or, drop, length-append, length-drop, get_or-append}
use lib.Seq.{get_or-drop, drop-append-le}
use borrow.Author.Tests.{lt-ltb, le-ltb, ltb-true, ltb-false}
use Rattle.std.specs.Prelude.{Result, Ok, Err}
use Rattle.units.proofs.Lowest.{lowest_is}
use Rattle.refusal.specs.declared.Shortage.{Shortage}
use Rattle.refusal.specs.declared.Shortage.TheVariants.{TooWide}
use Rattle.window.specs.declared.ValidRun.{ValidRun}
use Rattle.window.specs.declared.Four.{Four}
use Rattle.window.specs.Windows.{fitting, empty_run, four_at, first_place, shortage_of, first_window}
use Rattle.window.proofs.Searches.{first_is, none_is}

four : ValidRun → ValidRun → ValidRun → ValidRun → Four
four a b c d = record { a = a; b = b; c = c; d = d }

same_four : {a b c d a' b' c' d' : ValidRun} → a ≡ a' → b ≡ b' → c ≡ c' → d ≡ d' → four a b c d ≡ four a' b' c' d'
same_four p q r s = cc

-- four neighbours of a first part
four_in : (xs ys : List ValidRun) (i : ℕ) → i + 3 < length xs → four_at (xs ++ ys) i ≡ four_at xs i
unfolding four_at four
four_in xs ys i h =
    same_four (get_or-append xs ys empty_run i (omega arith)) (get_or-append xs ys empty_run (i + 1) (omega arith)) (get_or-append xs ys empty_run (i + 2) (omega arith)) (get_or-append xs ys empty_run (i + 3) h)

-- and of what is left after n runs
four_after : (ws : List ValidRun) (n i : ℕ) → four_at (drop n ws) i ≡ four_at ws (n + i)
unfolding four_at four
four_after ws n i = same_four (get_or-drop n ws i empty_run) (at 1) (at 2) (at 3)
  where
    at : (k : ℕ) → get_or (drop n ws) (i + k) empty_run ≡ get_or ws (n + i + k) empty_run
    at k = let place : n + (i + k) ≡ n + i + k = omega arith in get_or-drop n ws (i + k) empty_run ∙ ap (λ (m : ℕ). get_or ws m empty_run) place

module _ (rest : List ValidRun) where
  -- a place that fits, with none before it, is the first window's
  pub first_of : (p : ℕ) → p + 3 < length rest → fitting (four_at rest p) ≡ true → ((i : ℕ) → i < p → fitting (four_at rest i) ≡ false) → first_window rest ≡ Ok (four_at rest p)
  unfolding first_window first_place
  first_of p h e none =
      simp
      (lowest_is (λ i. fitting (four_at rest i)) (length rest - 3) 0 p (record { least = omega arith; most = omega arith; before = λ k l m. none k m; passes = λ l. e }), lt-ltb p (length rest - 3) (omega arith))

  pub none_of : ((i : ℕ) → i + 3 < length rest → fitting (four_at rest i) ≡ false) → first_window rest ≡ Err (shortage_of (length rest))
  unfolding first_window first_place
  none_of none =
      simp
      (lowest_is (λ i. fitting (four_at rest i)) (length rest - 3) 0 (length rest - 3) (record { least = omega arith; most = omega arith; before = λ k l m. none k (omega arith); passes = λ l. absurd (omega arith) }), le-ltb (length rest - 3) (length rest - 3) (omega arith))

-- A window, or none whatever the shortage: a part of some runs may be short where all of them are not.
unfoldable pub widened : Result Four Shortage → Result Four Shortage
widened (Ok f) = Ok f
widened (Err x) = Err TooWide

-- places that do not fit can be left out from the front
skipped : (ws : List ValidRun) (n : ℕ) → n ≤ length ws → ((i : ℕ) → i < n → fitting (four_at ws i) ≡ false) → widened (first_window ws) ≡ widened (first_window (drop n ws))
unfolding widened
skipped ws n h none = by (first_window (drop n ws)) refl
  where
    long : length (drop n ws) ≡ length ws - n
    long = length-drop n ws

    -- a place before n, or one of what is left
    before : (p : ℕ) → ((j : ℕ) → j < p → fitting (four_at (drop n ws) j) ≡ false) → (i : ℕ) → i < n + p → fitting (four_at ws i) ≡ false
    before p rest i l = side (ltb i n) refl
      where
        side : (b : Bool) → ltb i n ≡ b → fitting (four_at ws i) ≡ false
        side true t = none i (ltb-true i n t)
        side false t =
            let after = ltb-false i n t in
            let place : n + (i - n) ≡ i = omega arith in
            sym (ap fitting (four_after ws n (i - n) ∙ ap (four_at ws) place)) ∙ rest (i - n) (omega arith)

    by : (w : Result Four Shortage) → first_window (drop n ws) ≡ w → widened (first_window ws) ≡ widened w
    by (Ok f) e =
        let w = first_is (drop n ws) f e in
        let here : four_at ws (n + w.place) ≡ f = sym (four_after ws n w.place) ∙ sym w.is in
        ap widened (first_of ws (n + w.place) (omega (arith, w.inside, long)) (ap fitting here ∙ w.fits) (before w.place w.earliest) ∙ ap Ok here)
    by (Err x) e = ap widened (none_of ws (λ i l. before (length ws - n - 3) (λ j k. (none_is (drop n ws) x e).1 j (omega (arith, long))) i (omega arith)))

-- a window of a first part is the first of all
pub found_in_part : (xs ys : List ValidRun) (f : Four) → first_window xs ≡ Ok f → first_window (xs ++ ys) ≡ Ok f
found_in_part xs ys f e =
    let w = first_is xs f e in
    let here : four_at (xs ++ ys) w.place ≡ f = four_in xs ys w.place w.inside ∙ sym w.is in
    first_of (xs ++ ys) w.place (omega (arith, w.inside, length-append xs ys)) (ap fitting here ∙ w.fits) (λ i l. ap fitting (four_in xs ys i (omega (arith, w.inside))) ∙ w.earliest i l) ∙ ap Ok here

-- of a first part without a window, only the last three runs matter for what follows
carried_on : (xs ys : List ValidRun) (x : Shortage) → first_window xs ≡ Err x → widened (first_window (xs ++ ys)) ≡ widened (first_window (drop (length xs - 3) xs ++ ys))
carried_on xs ys x e =
    skipped (xs ++ ys) (length xs - 3) (omega (arith, length-append xs ys)) (λ i l. ap fitting (four_in xs ys i (omega arith)) ∙ (none_is xs x e).1 i (omega arith))
    ∙ ap (λ (l : List ValidRun). widened (first_window l)) (drop-append-le (length xs - 3) xs ys (omega arith))

-- four or more without a window are too wide
four_or_more : (rest : List ValidRun) → 4 ≤ length rest → widened (first_window rest) ≡ first_window rest
unfolding widened shortage_of
four_or_more rest h = by (first_window rest) refl
  where
    wide : shortage_of (length rest) ≡ TooWide
    wide = simp (le-ltb (length rest) 4 h)

    by : (w : Result Four Shortage) → first_window rest ≡ w → widened w ≡ w
    by (Ok f) e = refl
    by (Err x) e = ap Err (sym ((none_is rest x e).0 ∙ wide))

-- ---- runs that stand for all of which a part was searched

-- They are all; or some were carried on from a part without a window, and then all are four or more, and have the window of these.
unfoldable pub StandFor : Bool → List ValidRun → List ValidRun → Type 0
StandFor false some all = some ≡ all
StandFor true some all = (4 ≤ length all) × (widened (first_window some) ≡ first_window all)

module _ (all : List ValidRun) where
  -- a window of their first part is the first of all
  pub found_in : (carried : Bool) (xs ys : List ValidRun) (f : Four) → StandFor carried (xs ++ ys) all → first_window xs ≡ Ok f → first_window all ≡ Ok f
  unfolding StandFor widened
  found_in false xs ys f l e = ap first_window (sym l) ∙ found_in_part xs ys f e
  found_in true xs ys f l e = sym l.1 ∙ ap widened (found_in_part xs ys f e)

  -- if that part has none, its last three are carried on
  pub carried : (before : Bool) (xs ys : List ValidRun) (x : Shortage) → 4 ≤ length xs → StandFor before (xs ++ ys) all → first_window xs ≡ Err x → StandFor true (drop (length xs - 3) xs ++ ys) all
  unfolding StandFor
  carried false xs ys x h l e =
      let many : 4 ≤ length all = rw (← l) (omega (arith, length-append xs ys)) in
      (many, sym (carried_on xs ys x e) ∙ ap (λ (r : List ValidRun). widened (first_window r)) l ∙ four_or_more all many)
  carried true xs ys x h l e = (l.0, sym (carried_on xs ys x e) ∙ l.1)

  -- if they have none, neither have all, which are too wide if runs were carried on
  pub none_in : (carried : Bool) (some : List ValidRun) (x : Shortage) → StandFor carried some all → first_window some ≡ Err x → first_window all ≡ Err (cond carried TooWide x)
  unfolding StandFor widened
  none_in false some x l e = ap first_window (sym l) ∙ e
  none_in true some x l e = sym l.1 ∙ ap widened e
