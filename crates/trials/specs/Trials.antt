-- Document 01, 'Marked and unmarked trials': those that are marked, in one table, and what it says of the definitions.
use Rattle.std.specs.Prelude.{Bool, true, false, List, [], ◌∷◌, ◌≡◌, ℕ}
use Rattle.galois.specs.Field.{product}
use Rattle.modulation.specs.Modulation.{Two, d00, d01, d10, d11, Three, m000, m001, m010, m100, m101, modulate}
use Rattle.modulation.specs.Bits.{bits}
use Rattle.gaps.specs.Gaps.{gaps}

-- the bit in front of the data bits: ONE, ZERO, or either
pub data Before : Type 0 where
  after_one after-zero either : Before

pub data Trial : Type 0 where
  -- data bits that end their frame, their modulation bits, # of the next sync
  modulation : Before → List Two → List Three → Bool → Trial
  -- modulation bits and the lengths of their gaps
  spacing : List Three → List ℕ → Trial
  -- two elements of the field and their product
  multiplication : ℕ → ℕ → ℕ → Trial

abbrev pub trials : List Trial
trials =
    modulation after_one (d11 ∷ []) (m000 ∷ []) false ∷
    modulation after-zero (d11 ∷ []) (m101 ∷ []) false ∷
    modulation either (d00 ∷ []) (m000 ∷ []) true ∷
    modulation either (d00 ∷ d00 ∷ []) (m010 ∷ m100 ∷ []) true ∷
    modulation either (d00 ∷ d11 ∷ []) (m010 ∷ m100 ∷ []) false ∷
    modulation either (d00 ∷ d00 ∷ d00 ∷ []) (m010 ∷ m100 ∷ m000 ∷ []) false ∷
    modulation either (d00 ∷ d11 ∷ d00 ∷ []) (m010 ∷ m100 ∷ m000 ∷ []) true ∷
    modulation either (d00 ∷ d10 ∷ []) (m010 ∷ m000 ∷ []) false ∷
    modulation either (d01 ∷ d00 ∷ []) (m010 ∷ m000 ∷ []) true ∷
    modulation after-zero (d11 ∷ d01 ∷ d11 ∷ d01 ∷ []) (m001 ∷ m000 ∷ m000 ∷ m010 ∷ []) false ∷
    modulation after-zero (d11 ∷ d01 ∷ d11 ∷ []) (m101 ∷ m010 ∷ m101 ∷ []) false ∷
    modulation after-zero (d10 ∷ d01 ∷ d11 ∷ d01 ∷ d11 ∷ []) (m001 ∷ m010 ∷ m101 ∷ m010 ∷ m101 ∷ []) false ∷
    spacing (m001 ∷ m010 ∷ m101 ∷ m010 ∷ m101 ∷ []) (1 ∷ 1 ∷ 1 ∷ 1 ∷ 1 ∷ 1 ∷ []) ∷
    multiplication 0x02 0x80 0x1d ∷
    []

abbrev Modulates : Bool → List Two → List Three → Bool → Type 0
Modulates before ds ms hash = modulate before ds ≡ record { groups = ms; terminated = hash }

abbrev pub Holds : Trial → Type 0
Holds (modulation after_one ds ms hash) = Modulates true ds ms hash
Holds (modulation after-zero ds ms hash) = Modulates false ds ms hash
Holds (modulation either ds ms hash) = Modulates true ds ms hash × Modulates false ds ms hash
Holds (spacing ms l) = gaps (bits ms) ≡ l
Holds (multiplication a b c) = product a b ≡ c

abbrev pub AllHold : List Trial → Type 0
AllHold [] = Unit {0}
AllHold (t ∷ ts) = Holds t × AllHold ts
