-- Four equal parts make equal markings. Assumes nothing.
use mathlib.Core.Path.{◌≡◌}
use Prim.Native.Nat.{ℕ}
use Rattle.answer_numbers.specs.declared.Marking.{Marking}

pub parts : {v n s p v' n' s' p' : ℕ} → v ≡ v' → n ≡ n' → s ≡ s' → p ≡ p'
    → ◌≡◌ {A = Marking} (record { verdict = v; number = n; psn = s; place = p }) (record { verdict = v'; number = n'; psn = s'; place = p' })
parts hv hn hs hp = λ i. record { verdict = hv i; number = hn i; psn = hs i; place = hp i }
