-- The result record (document 01, end of "L_urban"): 32 bytes, 16-bit numbers low byte first; its fields read back, and as they are printed.
use Rattle.std.specs.Prelude.{List, [], ◌∷◌, ℕ, ◌/◌, ◌%◌, eqb, get_or}
use Rattle.units.specs.Bytes.{number}
use Rattle.urban.specs.declared.Outcome.{Outcome}
use Rattle.urban.specs.Urban.{flag}

abbrev pub low_byte : ℕ → ℕ
low_byte n = n % 256

abbrev pub high_byte : ℕ → ℕ
high_byte n = n / 256

unfoldable pub result_bytes : Outcome → List ℕ
result_bytes o =
    -- 0 to 5: rule, gear i, gear j or 0, k, kp, pass
    o.rule ∷ o.i ∷ o.j ∷ o.k ∷ o.kp ∷ flag o.pass
    -- 6 W, 8 C, 10 L_urban
    ∷ low_byte o.w.0 ∷ high_byte o.w.0
    ∷ low_byte o.c.0 ∷ high_byte o.c.0
    ∷ low_byte o.l_urban ∷ high_byte o.l_urban
    -- 12 a_urban, 14 a_ref, 16 PMR, 18 a'
    ∷ low_byte o.a_urban.0 ∷ high_byte o.a_urban.0
    ∷ low_byte o.a_ref.0 ∷ high_byte o.a_ref.0
    ∷ low_byte o.pmr ∷ high_byte o.pmr
    ∷ low_byte o.a.0 ∷ high_byte o.a.0
    -- 20 to 31
    ∷ 0 ∷ 0 ∷ 0 ∷ 0 ∷ 0 ∷ 0 ∷ 0 ∷ 0 ∷ 0 ∷ 0 ∷ 0 ∷ 0
    ∷ []

-- the fields as they stand in the bytes of a result record
unfoldable pub outcome_in : List ℕ → Outcome
outcome_in b =
    record {
      rule = get_or b 0 0;
      i = get_or b 1 0;
      j = get_or b 2 0;
      k = get_or b 3 0;
      kp = get_or b 4 0;
      pass = eqb (get_or b 5 0) 1;
      w = record { 0 = number b 6 2 };
      c = record { 0 = number b 8 2 };
      l_urban = number b 10 2;
      a_urban = record { 0 = number b 12 2 };
      a_ref = record { 0 = number b 14 2 };
      pmr = number b 16 2;
      a = record { 0 = number b 18 2 };
    }

-- the result's 13 fields as they are printed: in record order, pass last
unfoldable pub fields_of : Outcome → List ℕ
fields_of o =
    o.rule ∷ o.i ∷ o.j ∷ o.k ∷ o.kp
    ∷ o.w.0 ∷ o.c.0 ∷ o.l_urban
    ∷ o.a_urban.0 ∷ o.a_ref.0 ∷ o.pmr ∷ o.a.0
    ∷ flag o.pass ∷ []
