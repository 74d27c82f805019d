-- Frame sync, 13.17.4: the patterns of Figure 39 and their order, Figure 41.
use Rattle.std.specs.Prelude.{Bool, cond, List, [], ◌∷◌, ◌++◌, ℕ, ◌%◌, get_or}
use Rattle.modulation.specs.Modulation.{Three, m000, m001, m010, m100, m101}

-- the sync numbers
pub data FS : Type 0 where
  FS0 FS1 FS2 FS3 FS4 FS5 FS6 : FS

-- Figure 39: the 24-bit sync body, with # first; # is ONE where the frame before ended by a terminating row
abbrev pub sync_body : Bool → List Three
sync_body hash = cond hash m101 m001 ∷ m010 ∷ m000 ∷ m000 ∷ m010 ∷ m000 ∷ m000 ∷ m010 ∷ []

-- Figure 39: the 6-bit sync ID
abbrev pub sync_id : FS → List Three
sync_id FS0 = m000 ∷ m001 ∷ []
sync_id FS1 = m010 ∷ m010 ∷ []
sync_id FS2 = m101 ∷ m000 ∷ []
sync_id FS3 = m100 ∷ m001 ∷ []
sync_id FS4 = m000 ∷ m100 ∷ []
sync_id FS5 = m001 ∷ m001 ∷ []
sync_id FS6 = m010 ∷ m000 ∷ []

abbrev pub sync : Bool → FS → List Three
sync hash n = sync_body hash ++ sync_id n

-- Figure 41: recording frames 0 to 30 of an address unit (proofs/Syncs: as printed, and Figure 40)
abbrev pub sync_numbers : List FS
sync_numbers =
    FS0 ∷
    FS1 ∷ FS2 ∷ FS3 ∷ FS3 ∷ FS1 ∷ FS4 ∷ FS1 ∷ FS5 ∷ FS5 ∷ FS4 ∷ FS3 ∷ FS4 ∷ FS6 ∷ FS6 ∷ FS3 ∷
    FS5 ∷ FS3 ∷ FS2 ∷ FS2 ∷ FS5 ∷ FS6 ∷ FS5 ∷ FS1 ∷ FS1 ∷ FS6 ∷ FS2 ∷ FS6 ∷ FS4 ∷ FS4 ∷ FS2 ∷ []

-- recording frame n of a physical cluster
unfoldable pub sync_number : ℕ → FS
sync_number n = get_or sync_numbers (n % 31) FS0
