-- A strict automaton over groups of three modulation bits. A state says which words may stand here and how many data bits are pending; a
-- group leads to the next state and adds to the number of the data bits, which grows by two bits a group. Pending bits count as zeros until
-- a later group adds them. It accepts what some data bits give, and no more (proofs/Complete, proofs/Sound).
use Rattle.std.specs.Prelude.{Bool, cond, List, [], ◌∷◌, ℕ, ◌+◌, ◌*◌, ◌/◌, ◌%◌, eqb, get_or}
use Rattle.modulation.specs.Modulation.{Two, two_number, Three, three_number}

-- State s at group g: 32 times what is added, and the next state, at place 8 s + g. States 0 and 1 are a frame's start after a ZERO and after
-- a ONE, and in state 2 no group is right any more.
unfoldable pub transitions : List ℕ
transitions =
    3 ∷ 68 ∷ 5 ∷ 2 ∷ 2 ∷ 102 ∷ 2 ∷ 2 ∷
    7 ∷ 68 ∷ 5 ∷ 2 ∷ 2 ∷ 2 ∷ 2 ∷ 2 ∷
    2 ∷ 2 ∷ 2 ∷ 2 ∷ 2 ∷ 2 ∷ 2 ∷ 2 ∷
    2 ∷ 2 ∷ 2 ∷ 2 ∷ 8 ∷ 2 ∷ 2 ∷ 2 ∷
    9 ∷ 68 ∷ 5 ∷ 2 ∷ 2 ∷ 2 ∷ 2 ∷ 2 ∷
    10 ∷ 196 ∷ 133 ∷ 2 ∷ 11 ∷ 230 ∷ 2 ∷ 2 ∷
    7 ∷ 68 ∷ 12 ∷ 2 ∷ 2 ∷ 2 ∷ 2 ∷ 2 ∷
    387 ∷ 452 ∷ 396 ∷ 2 ∷ 8 ∷ 486 ∷ 2 ∷ 2 ∷
    13 ∷ 196 ∷ 133 ∷ 2 ∷ 78 ∷ 230 ∷ 2 ∷ 2 ∷
    15 ∷ 452 ∷ 396 ∷ 2 ∷ 8 ∷ 486 ∷ 2 ∷ 2 ∷
    259 ∷ 324 ∷ 261 ∷ 2 ∷ 520 ∷ 358 ∷ 2 ∷ 2 ∷
    16 ∷ 452 ∷ 389 ∷ 2 ∷ 14 ∷ 486 ∷ 2 ∷ 2 ∷
    10 ∷ 193 ∷ 133 ∷ 2 ∷ 11 ∷ 241 ∷ 2 ∷ 2 ∷
    2 ∷ 324 ∷ 288 ∷ 2 ∷ 520 ∷ 358 ∷ 2 ∷ 2 ∷
    131 ∷ 196 ∷ 133 ∷ 2 ∷ 0 ∷ 230 ∷ 2 ∷ 2 ∷
    2 ∷ 2 ∷ 2949 ∷ 2 ∷ 1544 ∷ 2 ∷ 2 ∷ 2 ∷
    2 ∷ 68 ∷ 32 ∷ 2 ∷ 1544 ∷ 102 ∷ 2 ∷ 2 ∷
    7 ∷ 68 ∷ 2 ∷ 2 ∷ 2 ∷ 2 ∷ 2 ∷ 2 ∷
    []

-- State s at the frame's end, at place 2 s + #: twice what is added, or 1 where no frame ends so.
unfoldable pub ends : List ℕ
ends =
    0 ∷ 1 ∷ 0 ∷ 1 ∷ 1 ∷ 1 ∷ 1 ∷ 0 ∷ 0 ∷ 1 ∷ 2 ∷ 1 ∷
    0 ∷ 1 ∷ 6 ∷ 0 ∷ 2 ∷ 1 ∷ 6 ∷ 0 ∷ 4 ∷ 8 ∷ 6 ∷ 0 ∷
    2 ∷ 1 ∷ 4 ∷ 8 ∷ 2 ∷ 1 ∷ 1 ∷ 24 ∷ 0 ∷ 24 ∷ 0 ∷ 1 ∷
    []

abbrev pub start : Bool → ℕ
start before = cond before 1 0

abbrev pub next : ℕ → ℕ → ℕ
next s g = get_or transitions (8 * s + g) 0 % 32

abbrev pub value_added : ℕ → ℕ → ℕ
value_added s g = get_or transitions (8 * s + g) 0 / 32

abbrev pub ending : ℕ → Bool → ℕ
ending s hash = get_or ends (2 * s + cond hash 1 0) 0

-- the state behind the groups
unfoldable pub state_after : ℕ → List Three → ℕ
state_after s [] = s
state_after s (g ∷ gs) = state_after (next s (three_number g)) gs

-- the number of the data bits behind the groups, where it was a before
unfoldable pub number_after : ℕ → ℕ → List Three → ℕ
number_after s a [] = a
number_after s a (g ∷ gs) = number_after (next s (three_number g)) (4 * a + value_added s (three_number g)) gs

-- a frame may end so
abbrev pub accepts : ℕ → List Three → Bool → Bool
accepts s gs hash = eqb (ending (state_after s gs) hash % 2) 0

-- the number of its data bits
abbrev pub number_read : ℕ → ℕ → List Three → Bool → ℕ
number_read s a gs hash = number_after s a gs + ending (state_after s gs) hash / 2

-- the number with the pairs ds behind it
unfoldable pub onto : ℕ → List Two → ℕ
onto a [] = a
onto a (d ∷ ds) = onto (4 * a + two_number d) ds
