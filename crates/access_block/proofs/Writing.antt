-- A byte of an access block, and an address field. Assumes nothing.
use mathlib.Core.Path.{◌≡◌, ap, ◌∙◌}
use mathlib.Core.List.{List, []}
use Prim.Native.Nat.{ℕ, ◌+◌, ◌<◌, ◌≤◌}
use borrow.Author.Tests.{lt-ltb, le-ltb}
use lib.ListN.{get_or}
use Rattle.address.specs.declared.AunAnswer.{AunAnswer}
use Rattle.answer.specs.declared.Answer.TheVariants.{Done}
use Rattle.address.specs.Judged.{judged}
use Rattle.address.specs.Conversions.{psn_to_aun}
use Rattle.address.proofs.Accepted.{aun-answered}
use Rattle.bis.specs.AddressField.{address_field}
use Rattle.bis.specs.AccessBlock.{field_of, field_at, byte_at, control_at, access_byte}

-- ---- a byte of the access block

pub in-a-field : (fields : List (List ℕ)) (side : List ℕ) (row C : ℕ) → row < 6
    → get_or (get_or fields (field_at row C) []) (byte_at row C) 0 ≡ access_byte fields side row C
in-a-field fields side row C h = rw (lt-ltb row 6 h)

pub in-control-data : (fields : List (List ℕ)) (side : List ℕ) (row C : ℕ) → 6 ≤ row
    → get_or side (16 + control_at row C) 0 ≡ access_byte fields side row C
in-control-data fields side row C h = rw (le-ltb row 6 h)

-- ---- an address field

-- field is made of the AUN that is answered of the PSN and address unit y
pub field-made : (psn : ℕ) (side : List ℕ) {y : ℕ} {field : List ℕ} {unit : AunAnswer} → y < 16 → judged psn ≡ Done → unit ≡ psn_to_aun psn y
    → field ≡ address_field unit.aun.0 (get_or side y 0) → field ≡ field_of psn side y
unfolding field_of
field-made psn side {y} h accepted e f = f ∙ ap (λ (a : ℕ). address_field a (get_or side y 0)) (aun-answered psn y h accepted e)
