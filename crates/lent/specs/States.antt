-- "Word 0 is 0xF0000000 running or 0xF0000001 aborted; agent i is bit (i mod 32) of word 1 + i div 32. An aborted state
-- has no agents. Any set of the score's agents is a lawful state." "The state gains a last word, the number of instants run
-- since the start, aborted ones included: 34 words, the start state with 0" (W7). The number stands beside the state of the
-- language, which has none.
--     running_word, aborted_word
--     agents_in                the agents awake in a state, rising
--     state_fault              whether bytes meet number 9, at a score with n agents
--     state_of                  the state that bytes stand for
--     agent_words              32 words for a set of agents
--     state_words, as_bytes    a state as words, and as bytes, its number aside
--     instant_number           the last word
--     numbered                 a state with its number, as bytes
--     start_bytes              the start state
--     next_bytes               the state that an answered instant leaves: one more has been run
--     last_number, at_last     an instant that is wanted there meets number 18
--     SameButNumber            states that differ at most in their numbers
--     LawfulState              a state of a score with n agents
--     SameState                two states with the same agents
use Rattle.std.specs.Prelude.{◌≡◌, Bool, cond, ◌&&◌, ◌||◌, not, ℕ, suc, ◌+◌, ◌*◌, ◌/◌, ◌%◌, ◌<◌, eqb, leb, length}
use mathlib.Core.List.{List, [], ◌∷◌, ◌++◌, map, Memᴰ}
use Rattle.laws.specs.Sets.{Same, below, keep, any, has}
use Rattle.tcc.specs.Score.{Score}
use Rattle.tcc.specs.Instant.{State, running, aborted, start_state, Answer, after}
use Rattle.words.specs.Word.{word_at}
use Rattle.bits.specs.Bits.{bit_at, bits_value, bytes_of}

abbrev pub running_word : ℕ
running_word = 0xF0000000

abbrev pub aborted_word : ℕ
aborted_word = 0xF0000001

unfoldable pub agents_in : List ℕ → List ℕ
agents_in s = keep (λ i. bit_at (word_at s (1 + i / 32)) (i % 32)) (below 1024)

-- word 0 wrong, an agent of n or above, aborted with agents
unfoldable pub state_fault : ℕ → List ℕ → Bool
state_fault n s =
    not (eqb (word_at s 0) running_word || eqb (word_at s 0) aborted_word)
    || any (λ i. leb n i) (agents_in s)
    || (eqb (word_at s 0) aborted_word && any (λ i. leb 0 i) (agents_in s))

unfoldable pub state_of : List ℕ → State
state_of s = cond (eqb (word_at s 0) aborted_word) aborted (running (agents_in s))

unfoldable pub agent_words : List ℕ → List ℕ
agent_words agents = map (λ k. bits_value (λ j. has (32 * k + j) agents) 32) (below 32)

abbrev pub state_words : State → List ℕ
state_words (running agents) = running_word ∷ agent_words agents
state_words aborted = aborted_word ∷ agent_words []

unfoldable pub as_bytes : State → List ℕ
as_bytes st = bytes_of (state_words st)

unfoldable pub instant_number : List ℕ → ℕ
instant_number s = word_at s 33

unfoldable pub numbered : State → ℕ → List ℕ
numbered st n = bytes_of (state_words st ++ n ∷ [])

abbrev pub start_bytes : Score → List ℕ
start_bytes sc = numbered (start_state sc) 0

abbrev pub next_bytes : List ℕ → Answer → List ℕ
next_bytes s a = numbered (after a) (suc (instant_number s))

abbrev pub last_number : ℕ
last_number = 4294967295

abbrev pub at_last : List ℕ → Bool
at_last s = eqb (instant_number s) last_number

pub record SameButNumber (s t : List ℕ) : Type 0 where
  pub long : length s ≡ length t
  pub words : (i : ℕ) → i < 33 → word_at s i ≡ word_at t i

unfoldable pub LawfulState : ℕ → State → Type 0
LawfulState n (running agents) = (i : ℕ) → Memᴰ i agents → i < n
LawfulState n aborted = Unit

unfoldable pub SameState : State → State → Type 0
SameState (running a) (running b) = Same a b
SameState (running a) aborted = ⊥
SameState aborted (running b) = ⊥
SameState aborted aborted = Unit
