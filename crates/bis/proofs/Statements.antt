-- What is promised of address fields and BIS blocks, on their definitions. Mapping has where each byte stands. Assumes nothing.
use mathlib.Core.Path.{◌≡◌, refl, sym, ap, ◌∙◌}
use mathlib.Core.Logic.{◌↔◌}
use mathlib.Core.Bool.{true}
use mathlib.Core.List.{List, []}
use Prim.Native.Nat.{ℕ, ◌^◌, ◌<◌}
use native.Mathlib.Omega.{arith}
use lib.ListN.{length, get_or, take, drop}
use Rattle.laws.specs.Bytes.{Bytes}
use Rattle.answer.specs.declared.Answer.TheVariants.{Done}
use Rattle.address.specs.declared.Psn.{Psn}
use Rattle.address.specs.Judged.{judged}
use Rattle.column.specs.Column.{generator, MultipleOf, ParityExactly, has_roots}
use Rattle.bis.specs.declared.PsnFound.{PsnFound}
use Rattle.bis.specs.declared.PsnFound.TheVariants.{Found, NotFound}
use Rattle.bis.specs.AddressField.{primary_field, partly_inverted, address_field, aun_in, flag_in}
use Rattle.bis.specs.AccessBlock.{Side}
use Rattle.bis.specs.BisBlock.{bis_block, Block}
use Rattle.bis.specs.Reading.{IsPsnOf, psn_in, side_in, Reads}
use Rattle.bis.proofs.AddressFields.{aun-back, flag-back, primary-roots, primary-multiple, primary-back, inverted-back, field-only}
use Rattle.bis.proofs.Psn.{found-is, is-there}
use Rattle.bis.proofs.Blocks.{written-block, written-columns, column-multiple, written-parity, written-fields, written-psn, written-side, side-in, block-is}

-- ---- 13.9.2.2: partial inversion undoes itself; with it undone an address field has its roots, its AUN and its flag byte, and nine bytes
-- that have the roots are an address field

pub inversion-undone : (field : List ℕ) → length field ≡ 9 → Bytes field → partly_inverted (partly_inverted field) ≡ field
inversion-undone = inverted-back

pub field_back : (aun flag : ℕ) → aun < 2 ^ 32 → flag < 256
    → (has_roots 4 (partly_inverted (address_field aun flag)) ≡ true)
    × (aun_in (partly_inverted (address_field aun flag)) ≡ aun)
    × (flag_in (partly_inverted (address_field aun flag)) ≡ flag)
field_back aun flag ha hf =
    let back = primary-back aun flag hf in
    (ap (has_roots 4) back ∙ primary-roots aun flag hf, ap aun_in back ∙ aun-back aun flag ha, ap flag_in back ∙ flag-back aun flag)

pub field-determined : (field : List ℕ) → length field ≡ 9 → Bytes field → has_roots 4 (partly_inverted field) ≡ true
    → field ≡ address_field (aun_in (partly_inverted field)) (flag_in (partly_inverted field))
field-determined = field-only

-- ---- 13.9.2.2, 13.12: a primary address field and a BIS code word are multiples of their generators

pub field-multiple : (aun flag : ℕ) → flag < 256 → MultipleOf (generator 4) (primary_field aun flag)
field-multiple = primary-multiple

pub word-multiple : (psn : ℕ) (side : List ℕ) → judged psn ≡ Done → Side side → (C : ℕ) → C < 24 → MultipleOf (generator 32) (get_or (bis_block psn side) C [])
word-multiple psn side accepted is = column-multiple psn side accepted is.bytes

-- and the code word's last 32 bytes are the only ones that make it one
pub word-parity : (psn : ℕ) (side : List ℕ) → judged psn ≡ Done → Side side → (C : ℕ) → C < 24
    → ParityExactly 32 (take 30 (get_or (bis_block psn side) C [])) (drop 30 (get_or (bis_block psn side) C []))
word-parity psn side accepted is = written-parity psn side accepted is.bytes

-- ---- 14: the PSN that is found is accepted and has the sixteen AUNs, and such a PSN is found; none is found exactly where there is none

pub psn-found : (block : List (List ℕ)) (psn : ℕ) → (psn_in block ≡ Found (record { 0 = psn })) ↔ IsPsnOf block psn
psn-found block psn = (found-is block psn, is-there block psn)

pub no-psn-found : (block : List (List ℕ)) → (psn_in block ≡ NotFound) ↔ ((psn : ℕ) → IsPsnOf block psn → ⊥)
no-psn-found block = (none_is, by (psn_in block) refl)
  where
    none_is : psn_in block ≡ NotFound → (psn : ℕ) → IsPsnOf block psn → ⊥
    none_is e psn is = let found = is-there block psn is in let no : ◌≡◌ {A = ℕ} 0 1 = cc in omega arith

    by : (found : PsnFound) → psn_in block ≡ found → ((psn : ℕ) → IsPsnOf block psn → ⊥) → psn_in block ≡ NotFound
    by (Found p) e none = absurd (none p.0 (found-is block p.0 e))
    by NotFound e none = e

-- ---- a block that was written has 24 columns of 62 bytes, and is read back

pub block_written : (psn : ℕ) (side : List ℕ) → judged psn ≡ Done → Side side → Block (bis_block psn side)
block_written psn side accepted is = written-block psn side accepted is.bytes

pub read-back : (psn : ℕ) (side : List ℕ) → judged psn ≡ Done → Side side → Reads (bis_block psn side) psn side
read-back psn side accepted is =
    record {
      right-columns = written-columns psn side accepted is.bytes;
      right-fields = written-fields psn side accepted is.bytes;
      has-psn = is-there (bis_block psn side) psn (written-psn psn side accepted is.bytes);
      has-side = written-side psn side accepted is.bytes is.size;
    }

-- ---- and nothing else is read

pub record Written (block : List (List ℕ)) (psn : ℕ) (side : List ℕ) : Type 0 where
  pub accepted : judged psn ≡ Done
  pub side-data : Side side
  pub whole : block ≡ bis_block psn side

pub nothing-else : (block : List (List ℕ)) (psn : ℕ) (side : List ℕ) → Block block → Reads block psn side → Written block psn side
nothing-else block psn side is reads =
    let is-psn = found-is block psn reads.has-psn in
    record {
      accepted = is-psn.accepted;
      side-data = rw (sym reads.has-side) (side-in block is);
      whole = block-is block is psn reads.right-columns reads.right-fields is-psn ∙ ap (bis_block psn) reads.has-side;
    }

-- ---- so a block determines its PSN and its side data

pub block-inj : (psn psn' : ℕ) (side side' : List ℕ) → judged psn ≡ Done → Side side → judged psn' ≡ Done → Side side'
    → bis_block psn side ≡ bis_block psn' side' → (psn ≡ psn') × (side ≡ side')
block-inj psn psn' side side' accepted is accepted' is' e =
    let reads = read-back psn side accepted is in
    let reads' = read-back psn' side' accepted' is' in
    let found : psn_in (bis_block psn side) ≡ psn_in (bis_block psn' side') = ap psn_in e in
    let same : ◌≡◌ {A = Psn} (record { 0 = psn }) (record { 0 = psn' }) = cc in
    (ap (λ (p : Psn). p.0) same, sym reads.has-side ∙ ap side_in e ∙ reads'.has-side)
