-- The results by name.
use Rattle.std.specs.Prelude.{ℕ}

-- results: "0 none, 1 neutral, 2 pass, 3 fail, 4 softfail, 5 temperror, 6 permerror"
abbrev pub result_none : ℕ
result_none = 0

abbrev pub result_neutral : ℕ
result_neutral = 1

abbrev pub result_pass : ℕ
result_pass = 2

abbrev pub result_fail : ℕ
result_fail = 3

abbrev pub result_softfail : ℕ
result_softfail = 4

abbrev pub result_temperror : ℕ
result_temperror = 5

abbrev pub result_permerror : ℕ
result_permerror = 6
