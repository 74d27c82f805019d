-- A demodulator, word by word: a word is the first of the rows whose groups stand there, whose condition agrees, and behind which the
-- frame can go on so. What is read is defined by it, and theorems take it away again: that it gives the data bits back, that no others give
-- the frame, and when there are none.
use Rattle.std.specs.Prelude.{Bool, true, false, not, ◌&&◌, List, [], ◌∷◌, ◌++◌, ℕ, zero, suc, ◌-◌, eqb, length, drop}
use Rattle.std.specs.Bool.{beq}
use Rattle.laws.specs.First.{first}
use Rattle.modulation.specs.Modulation.{Two, Three, three_number, Row, When, always, after_one, after-zero, before-010, at-end, row_at, starts, starts_with010, last_bit, terminates, Modulated}

-- gs may follow the word of a row: no word starts with 100, and at the frame's end # says whether the row is a terminating one
abbrev pub follows : When → Bool → List Three → Bool
follows w hash [] = beq (terminates w) hash
follows w hash (g ∷ gs) = not (eqb (three_number g) 0b100)

-- the row's own condition, after the bit b and in front of gs
abbrev pub agrees : When → Bool → List Three → Bool
agrees always b gs = true
agrees after_one b gs = b
agrees after-zero b gs = not b
agrees before-010 b gs = starts_with010 gs
agrees at-end b [] = true
agrees at-end b (g ∷ gs) = false

-- the word of row r stands at the front of gs, the groups up to the frame's end, after the bit b
abbrev pub reads : Bool → Bool → List Three → Row → Bool
reads b hash gs r =
    starts three_number r.groups gs && (follows r.when hash (drop (length r.groups) gs) && agrees r.when b (drop (length r.groups) gs))

-- the row of the word at the front of gs; where no other is read it is the last, and if that is wrong modulating again shows it
unfoldable pub row_read : Bool → Bool → List Three → ℕ
row_read b hash gs = first 15 (λ k. reads b hash gs (row_at k))

-- the groups that are left of a frame, of which the first k belong to the word before; b is the bit before
unfoldable pub demodulate_from : Bool → List Three → ℕ → Bool → List Two
demodulate_from hash [] k b = []
demodulate_from hash (g ∷ gs) (suc k) b = demodulate_from hash gs k b
demodulate_from hash (g ∷ gs) zero b =
    let r = row_at (row_read b hash (g ∷ gs)) in
    r.pairs ++ demodulate_from hash gs (length r.groups - 1) (last_bit false r.groups)

abbrev pub demodulate : Bool → Modulated → List Two
demodulate b f = demodulate_from f.terminated f.groups 0 b
