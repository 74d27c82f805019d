-- What is read in a BIS block given by its columns: answers 12, 13 and 14 of document 01, and the side data.
use Rattle.std.specs.Prelude.{◌≡◌, Bool, cond, not, List, [], ℕ, ◌-◌, ◌<◌, eqb, ltb, length, get_or}
use Rattle.laws.specs.First.{first}
use Rattle.laws.specs.Tabulate.{tabulate}
use Rattle.column.specs.Column.{has_roots}
use Rattle.answer.specs.declared.Answer.TheVariants.{Done}
use Rattle.answer.specs.Answer.{is_done}
use Rattle.address.specs.declared.PsnAnswer.{PsnAnswer}
use Rattle.address.specs.Judged.{judged}
use Rattle.address.specs.Conversions.{aun_of, aun_to_psn}
use Rattle.bis.specs.declared.PsnFound.{PsnFound}
use Rattle.bis.specs.declared.PsnFound.TheVariants.{Found, NotFound}
use Rattle.bis.specs.AddressField.{partly_inverted, aun_in, flag_in}
use Rattle.bis.specs.AccessBlock.{row_of_af, column_of_af, row_of_uc, column_of_uc}
use Rattle.sizes.specs.Sizes.{side_size}

-- ---- 12: the lowest column without its 32 roots, or 24

unfoldable pub wrong_column : List (List ℕ) → ℕ → Bool
wrong_column block C = not (has_roots 32 (get_or block C []))

unfoldable pub first_wrong_column : List (List ℕ) → ℕ
first_wrong_column block = first 24 (wrong_column block)

-- ---- 13: the lowest address unit whose primary address field has not its 4 roots, or 16

-- address field y, its bytes at the places of formula 35
unfoldable pub field_in : List (List ℕ) → ℕ → List ℕ
field_in block y = tabulate 9 (λ x. get_or (get_or block (column_of_af x y) []) (row_of_af x y) 0)

-- the same with the inversion undone
unfoldable pub primary_in : List (List ℕ) → ℕ → List ℕ
primary_in block y = partly_inverted (field_in block y)

unfoldable pub wrong_field : List (List ℕ) → ℕ → Bool
wrong_field block y = not (has_roots 4 (primary_in block y))

unfoldable pub first_wrong_field : List (List ℕ) → ℕ
first_wrong_field block = first 16 (wrong_field block)

-- ---- 14: the accepted PSN that has the sixteen AUNs

-- the AUN of address unit y
abbrev pub aun_at : List (List ℕ) → ℕ → ℕ
aun_at block y = aun_in (primary_in block y)

-- the block has the sixteen AUNs of an accepted PSN
pub record IsPsnOf (block : List (List ℕ)) (psn : ℕ) : Type 0 where
  pub accepted : judged psn ≡ Done
  pub auns : (y : ℕ) → y < 16 → aun_at block y ≡ aun_of psn y

-- the lowest address unit whose AUN is not that of the PSN, or 16
unfoldable pub other_unit : List (List ℕ) → ℕ → ℕ → Bool
other_unit block psn y = not (eqb (aun_at block y) (aun_of psn y))

unfoldable pub first_other_unit : List (List ℕ) → ℕ → ℕ
first_other_unit block psn = first 16 (other_unit block psn)

-- a PSN, if it is accepted and has the sixteen AUNs
abbrev pub found_if : List (List ℕ) → PsnAnswer → PsnFound
found_if block answer = cond (is_done answer.answer) (cond (ltb (first_other_unit block answer.psn.0) 16) NotFound (Found answer.psn)) NotFound

-- only the PSN of the cluster with unit 0's AUN can have them (proofs/Statements: psn-found, no-psn-found)
unfoldable pub psn_in : List (List ℕ) → PsnFound
psn_in block = found_if block (aun_to_psn (aun_at block 0))

-- ---- the side data: 16 flag bytes, then the user control data

abbrev pub side_byte_in : List (List ℕ) → ℕ → ℕ
side_byte_in block k = cond (ltb k 16) (flag_in (primary_in block k)) (get_or (get_or block (column_of_uc (k - 16)) []) (row_of_uc (k - 16)) 0)

unfoldable pub side_in : List (List ℕ) → List ℕ
side_in block = tabulate side_size (side_byte_in block)

-- what a lent slice holds afterwards: one of another length stays as it was
unfoldable pub side_out : List (List ℕ) → List ℕ → List ℕ
side_out block lent = cond (eqb (length lent) side_size) (side_in block) lent

-- ---- a block in which nothing is wrong, with what is read in it

pub record Reads (block : List (List ℕ)) (psn : ℕ) (side : List ℕ) : Type 0 where
  pub right-columns : first_wrong_column block ≡ 24
  pub right-fields : first_wrong_field block ≡ 16
  pub has-psn : psn_in block ≡ Found (record { 0 = psn })
  pub has-side : side_in block ≡ side
