-- 17PP (13.17.2) pair by pair: a machine whose state is the pairs that wait for more to decide their word. It gives what the rows give
-- (proofs/Machine: machine-is).
use Rattle.std.specs.Prelude.{Bool, true, false, not, cond, List, [], ◌∷◌, ◌++◌, ℕ, get_or}
use Rattle.modulation.specs.Modulation.{Two, d00, d01, d10, d11, Three, m000, m001, m010, m100, m101, Modulated}

-- the pairs that wait
pub data Wait : Type 0 where
  w w00 w0000 w000000 w000010 w11 w1101 w110111 w11011100 w1101110000 : Wait

abbrev pub waiting : Wait → List Two
waiting w = []
waiting w00 = d00 ∷ []
waiting w0000 = d00 ∷ d00 ∷ []
waiting w000000 = d00 ∷ d00 ∷ d00 ∷ []
waiting w000010 = d00 ∷ d00 ∷ d10 ∷ []
waiting w11 = d11 ∷ []
waiting w1101 = d11 ∷ d01 ∷ []
waiting w110111 = d11 ∷ d01 ∷ d11 ∷ []
waiting w11011100 = d11 ∷ d01 ∷ d11 ∷ d00 ∷ []
waiting w1101110000 = d11 ∷ d01 ∷ d11 ∷ d00 ∷ d00 ∷ []

-- numbered in this order
abbrev pub wait_number : Wait → ℕ
wait_number w = 0
wait_number w00 = 1
wait_number w0000 = 2
wait_number w000000 = 3
wait_number w000010 = 4
wait_number w11 = 5
wait_number w1101 = 6
wait_number w110111 = 7
wait_number w11011100 = 8
wait_number w1101110000 = 9

abbrev pub wait_at : ℕ → Wait
wait_at k = get_or (w ∷ w00 ∷ w0000 ∷ w000000 ∷ w000010 ∷ w11 ∷ w1101 ∷ w110111 ∷ w11011100 ∷ w1101110000 ∷ []) k w

-- the groups that one more pair decides, what waits then, and the bit before that
pub record Step : Type 0 where
  pub out : List Three
  pub to : Wait
  pub bit : Bool

abbrev go : List Three → Wait → Bool → Step
go m t b = record { out = m; to = t; bit = b }

abbrev also : List Three → Step → Step
also m s = record { out = m ++ s.out; to = s.to; bit = s.bit }

-- 11 after the bit b; 110111 as it is, and substituted
abbrev pub x11 : Bool → Three
x11 b = cond b m000 m101

abbrev pub plain : Bool → List Three
plain b = x11 b ∷ m010 ∷ m101 ∷ []

abbrev pub substituted : List Three
substituted = m001 ∷ m000 ∷ m000 ∷ []

abbrev step-w : Bool → Two → Step
step-w b d00 = go [] w00 b
step-w b d01 = go (m010 ∷ []) w false
step-w b d10 = go (m001 ∷ []) w true
step-w b d11 = go [] w11 b

abbrev step-w00 : Bool → Two → Step
step-w00 b d00 = go [] w0000 b
step-w00 b d01 = go (m000 ∷ m100 ∷ []) w false
step-w00 b d10 = go (m010 ∷ m000 ∷ []) w false
step-w00 b d11 = go (m010 ∷ m100 ∷ []) w false

abbrev step-w0000 : Bool → Two → Step
step-w0000 b d00 = go [] w000000 b
step-w0000 b d01 = go (m010 ∷ m100 ∷ m100 ∷ []) w false
step-w0000 b d10 = go [] w000010 b
step-w0000 b d11 = go (m000 ∷ m100 ∷ m100 ∷ []) w false

-- one pair more, after the bit b
abbrev pub step : Wait → Bool → Two → Step
step w b d = step-w b d
step w00 b d = step-w00 b d
step w0000 b d = step-w0000 b d
step w000000 b d =
    elim d [
      | d00 ↦ go (m010 ∷ m100 ∷ m100 ∷ m100 ∷ []) w false
      | d01 ↦ also (m010 ∷ m100 ∷ m000 ∷ []) (step-w false d01)
      | d10 ↦ also (m010 ∷ m100 ∷ m000 ∷ []) (step-w false d10)
      | d11 ↦ also (m010 ∷ m100 ∷ m000 ∷ []) (step-w false d11)
    ]
step w000010 b d =
    elim d [
      | d00 ↦ go (m000 ∷ m100 ∷ m100 ∷ m100 ∷ []) w false
      | d01 ↦ also (m000 ∷ m100 ∷ m000 ∷ []) (step-w false d01)
      | d10 ↦ also (m000 ∷ m100 ∷ m000 ∷ []) (step-w false d10)
      | d11 ↦ also (m000 ∷ m100 ∷ m000 ∷ []) (step-w false d11)
    ]
step w11 b d =
    elim d [
      | d00 ↦ also (x11 b ∷ []) (step-w (not b) d00)
      | d01 ↦ go [] w1101 b
      | d10 ↦ also (x11 b ∷ []) (step-w (not b) d10)
      | d11 ↦ also (x11 b ∷ []) (step-w (not b) d11)
    ]
step w1101 b d =
    elim d [
      | d00 ↦ also (x11 b ∷ m010 ∷ []) (step-w false d00)
      | d01 ↦ also (x11 b ∷ m010 ∷ []) (step-w false d01)
      | d10 ↦ also (x11 b ∷ m010 ∷ []) (step-w false d10)
      | d11 ↦ go [] w110111 b
    ]
step w110111 b d =
    elim d [
      | d00 ↦ go [] w11011100 b
      | d01 ↦ also substituted (step-w false d01)
      | d10 ↦ also (plain b) (step-w true d10)
      | d11 ↦ also (plain b) (step-w true d11)
    ]
step w11011100 b d =
    elim d [
      | d00 ↦ go [] w1101110000 b
      | d01 ↦ also (plain b) (step-w00 true d01)
      | d10 ↦ also substituted (step-w00 false d10)
      | d11 ↦ also substituted (step-w00 false d11)
    ]
step w1101110000 b d =
    elim d [
      | d00 ↦ also substituted (step-w0000 false d00)
      | d01 ↦ also substituted (step-w0000 false d01)
      | d10 ↦ also (plain b) (step-w0000 true d10)
      | d11 ↦ also (plain b) (step-w0000 true d11)
    ]

abbrev ended : List Three → Bool → Modulated
ended m t = record { groups = m; terminated = t }

-- the frame ends
abbrev pub stop : Wait → Bool → Modulated
stop w b = ended [] false
stop w00 b = ended (m000 ∷ []) true
stop w0000 b = ended (m010 ∷ m100 ∷ []) true
stop w000000 b = ended (m010 ∷ m100 ∷ m000 ∷ []) false
stop w000010 b = ended (m000 ∷ m100 ∷ m000 ∷ []) false
stop w11 b = ended (x11 b ∷ []) false
stop w1101 b = ended (x11 b ∷ m010 ∷ []) false
stop w110111 b = ended (plain b) false
stop w11011100 b = ended (plain b ++ (m000 ∷ [])) true
stop w1101110000 b = ended (substituted ++ (m010 ∷ m100 ∷ [])) true

abbrev pub put : List Three → Modulated → Modulated
put m f = record { groups = m ++ f.groups; terminated = f.terminated }

abbrev pub machine : List Two → Wait → Bool → Modulated
machine [] s b = stop s b
machine (d ∷ ds) s b = put (step s b d).out (machine ds (step s b d).to (step s b d).bit)
