-- What test 14 means; 10 and 11 are in recording, 12, 13, 15 and 16 in column and sector. Assumes nothing.
use mathlib.Core.Path.{◌≡◌, refl, ap}
use mathlib.Core.Logic.{◌↔◌}
use mathlib.Core.List.{List}
use Prim.Native.Nat.{ℕ}
use native.Mathlib.Omega.{arith}
use Rattle.answer.specs.declared.Answer.TheVariants.{NoPsn}
use Rattle.answer.specs.Answer.{number_of}
use Rattle.bis.specs.declared.PsnFound.{PsnFound}
use Rattle.bis.specs.declared.PsnFound.TheVariants.{Found, NotFound}
use Rattle.bis.specs.Reading.{IsPsnOf, psn_in}
use Rattle.bis.proofs.Statements.{no-psn-found}
use Rattle.judging.specs.Tests.{found_answer, psn_answer}

-- ---- 14: refused exactly where no accepted PSN has the sixteen AUNs

pub no-psn-iff : (block : List (List ℕ)) → ((psn_answer block).answer ≡ NoPsn) ↔ ((psn : ℕ) → IsPsnOf block psn → ⊥)
unfolding psn_answer
no-psn-iff block = (λ e. (no-psn-found block).0 (is_none (psn_in block) e), λ none. ap (λ (p : PsnFound). (found_answer p).answer) ((no-psn-found block).1 none))
  where
    is_none : (p : PsnFound) → (found_answer p).answer ≡ NoPsn → p ≡ NotFound
    is_none (Found q) e = let z : ◌≡◌ {A = ℕ} 0 14 = ap number_of e in absurd (omega arith)
    is_none NotFound e = refl
