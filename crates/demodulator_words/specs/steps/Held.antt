-- What the automaton holds between two words of a frame, and the words that it leaves.
use Rattle.std.specs.Prelude.{Bool, List, ◌≡◌, ℕ, ◌+◌, ◌*◌, ◌/◌, ◌%◌, ◌<◌, Option, IfSome, SomeIff}
use Rattle.modulation.specs.Modulation.{Three}
use Rattle.automaton.specs.Automaton.{ending, state_after, number_after}
use Rattle.automaton.specs.steps.Table.{limit}

-- x is a state and a number of 46 bits whose pending bits are zeros; 2251799813685248 is 2^51
pub record Held (x : ℕ) : Type 0 where
  pub state : x % 32 < 18
  pub below : x < 2251799813685248
  pub pending : x / 32 % 32 % limit (x % 32) ≡ 0

-- with the groups gs read, x is a word of 46 bits and what is held of the next; 70368744177664 is 2^46
pub record NextWord (gs : List Three) (x word held : ℕ) : Type 0 where
  pub number : word * 70368744177664 + held / 32 ≡ number_after (x % 32) (x / 32) gs
  pub state : held % 32 ≡ state_after (x % 32) gs
  pub below : word < 70368744177664
  pub holds : Held held

-- at the frame's end x is a last word, if a frame may end so
pub record LastWord (x : ℕ) (hash : Bool) (answer : Option ℕ) : Type 0 where
  pub word : SomeIff answer (ending (x % 32) hash % 2 ≡ 0) (x / 32 + ending (x % 32) hash / 2)
  pub below : IfSome answer (λ word. word < 70368744177664)
