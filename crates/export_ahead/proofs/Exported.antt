-- What is returned are the parts of the outcome. Assumes nothing.
use mathlib.Core.Path.{◌≡◌, ap, ◌∙◌}
use mathlib.Core.Bool.{Bool}
use Prim.Native.Nat.{ℕ}
use Rattle.answer.specs.Answer.{number_of, place_of}
use Rattle.look_ahead.specs.declared.Ahead.{Ahead}
use Rattle.look_ahead.specs.Outcome.{Outcome}
use Rattle.export_ahead.specs.Exported.{ahead_seen}

-- h is what the operation gave, n and p its number and place, and is what it is defined to give, for each bit before the frame
pub in-numbers : {h : Ahead} {n p : ℕ} (is : Bool → Outcome) → ((b : Bool) → record { answer = h.answer; bits = h.bits } ≡ is b)
    → n ≡ number_of h.answer → p ≡ place_of h.answer → (b : Bool) → record { number = n; place = p; bits = h.bits } ≡ ahead_seen (is b)
in-numbers {h} is hh hn hp b = (λ i. record { number = hn i; place = hp i; bits = h.bits }) ∙ ap ahead_seen (hh b)
