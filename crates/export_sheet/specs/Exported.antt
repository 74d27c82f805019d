-- A sheet as a caller in another language hands it over: bare numbers instead of PSNs.
use Rattle.std.specs.Prelude.{List, ℕ, get_or}
use Rattle.laws.specs.Tabulate.{tabulate}
use Rattle.address.specs.declared.Psn.{Psn}

-- the PSN of each entry
abbrev pub given_psn : List ℕ → ℕ → ℕ
given_psn psns i = get_or psns i 0

-- the first 64 of them
unfoldable pub given_psns : List ℕ → List Psn
given_psns psns = tabulate 64 (λ i. record { 0 = given_psn psns i })
