-- The marked cases of document 01, as one table.
--     bytes            words as bytes, low byte first
--     Seen             what a case says of an instant: status, count, the agents awake next, rising
--     Case, Holds      a case, and what it claims of the definitions
--     sample           score S
--     state_with, input_with
--                      the words of a state, the bytes of an input map
--     listed, printed  the words of the input list {1}, {}, {1,3}, and of the journal that S makes of it
--     marked           the table
--     Marked           every case of the table holds
use Rattle.std.specs.Prelude.{◌≡◌, List, [], ◌∷◌, ◌++◌, map, ℕ, ◌*◌, ◌/◌, ◌%◌, ◌^◌, length, take, drop, set, replicate}
use Rattle.laws.specs.Sets.{below, keep, has}
use Rattle.tcc.specs.Score.{Score}
use Rattle.tcc.specs.Weight.{weight}
use Rattle.tcc.specs.Instant.{Answer, count, running, answers}
use Rattle.format.specs.Decode.{decode}
use Rattle.check_verdicts.specs.Verdict.{Verdict, Accepted, Length, Token, Reference, Circle}
use Rattle.check_score.specs.Check.{verdict}
use Rattle.lent.specs.States.{start_bytes}
use Rattle.lent.specs.Lengths.{map_bytes, scratch_bytes, no_scratch}
use Rattle.instant_call.specs.Reply.{Reply}
use Rattle.refusals.specs.Refused.{State, Input}
use Rattle.instant_call.specs.InstantCall.{Exit, lent, exit}
use Rattle.journal_step.specs.Reply.{Reply as RunReply}
use Rattle.journal_step.specs.Reply.{Accepted as Played}
use Rattle.refusals.specs.Refused.{Full}
use Rattle.journal_run.specs.RunCall as run

abbrev pub bytes : List ℕ → List ℕ
bytes [] = []
bytes (w ∷ ws) = w % 2 ^ 8 ∷ w / 2 ^ 8 % 2 ^ 8 ∷ w / 2 ^ 16 % 2 ^ 8 ∷ w / 2 ^ 24 ∷ bytes ws

pub record Seen : Type 0 where
  pub status : ℕ
  pub count : ℕ
  pub awake : List ℕ

abbrev pub seen : Score → Answer → Seen
seen sc a = record { status = a.status; count = count a; awake = keep (λ i. has i a.awake) (below (length sc.agents)) }

pub data Case : Type 0 where
  -- the check of a score, given by its words
  checked : List ℕ → Verdict → Case
  -- the check of any bytes of a length
  any_bytes : ℕ → Verdict → Case
  -- the weights of the agents, from agent 0 on
  weights : List ℕ → List ℕ → Case
  -- instants of a score from awake agents, by their input tokens
  instants : List ℕ → List ℕ → List (List ℕ) → List Seen → Case
  -- an instant call that is refused, given by the words of the score and of the state and the bytes of the input map:
  -- all buffers are as they were, whatever the other three held
  turned_down : List ℕ → List ℕ → List ℕ → Reply → Case
  -- a run from the start state, given by the words of the score and of the input list and by the length of the journal:
  -- the words that the journal then starts with, beyond which it is as it was, the words of the state, and the reply,
  -- whatever journal and scratch held
  runs : List ℕ → List ℕ → ℕ → List ℕ → List ℕ → RunReply → Case

abbrev pub Holds : Case → Type 0
Holds (checked ws v) = verdict (bytes ws) ≡ v
Holds (any_bytes n v) = (s : List ℕ) → length s ≡ n → verdict s ≡ v
Holds (weights ws l) = map (weight (decode (bytes ws))) (below (length (decode (bytes ws)).agents)) ≡ l
Holds (instants ws agents inputs l) = map (seen (decode (bytes ws))) (answers (decode (bytes ws)) (running agents) inputs) ≡ l
Holds (turned_down ws state input r) =
    (store output scratch : List ℕ) → length store ≡ map_bytes → length output ≡ map_bytes → length scratch ≡ scratch_bytes →
    ◌≡◌ {A = Exit} (exit (bytes ws) input (lent (bytes state) store output scratch)) (record { lent = lent (bytes state) store output scratch; reply = r })
Holds (runs ws inputs n written state r) =
    (journal scratch : List ℕ) → length journal ≡ n → length scratch ≡ scratch_bytes →
    ◌≡◌ {A = run.Exit} (run.exit (bytes ws) (bytes inputs) (run.lent (start_bytes (decode (bytes ws))) journal scratch))
    (record { lent = run.lent (bytes state) (bytes written ++ drop (4 * length written) journal) no_scratch; reply = r })

abbrev pub sample : List ℕ
sample = 0x10000403 ∷ 0xB0000302 ∷ 0x50000002 ∷ 0x70000400 ∷ 0xA0000000 ∷ 0x80000002 ∷ 0x60000C01 ∷ 0x30000004 ∷ 0x20030200 ∷ []

abbrev pub aborting : List ℕ
aborting = set sample 2 0x40000001

-- running, with agent i of the first 32 awake where bit i is set, and a number of instants run
abbrev pub state_with : ℕ → ℕ → List ℕ
state_with agents number = 0xF0000000 ∷ agents ∷ replicate 31 0 ++ number ∷ []

-- an input map whose tokens are the bits of its first byte
abbrev pub input_with : ℕ → List ℕ
input_with tokens = tokens ∷ replicate 31 0

-- {1}, {}, {1,3}
abbrev pub listed : List ℕ
listed = 0xC0000000 ∷ 0xD0000001 ∷ 0xC0000000 ∷ 0xC0000000 ∷ 0xD0000001 ∷ 0xD0000003 ∷ []

abbrev pub printed : List ℕ
printed = 0xC0000000 ∷ 0xD0000001 ∷ 0xE0000002 ∷ 0xC0000000 ∷ 0xC0000001 ∷ 0xD0000001 ∷ 0xD0000003 ∷ []

-- agent 0 tells 1, agent 1 is "unless 1" with body 0, T = 2
abbrev pub unless_pair : List ℕ
unless_pair = 0x10000101 ∷ 0xB0000000 ∷ 0x50000001 ∷ 0x90000400 ∷ 0x30000001 ∷ []

-- agent 1 is the parallel of agent 0, a tell, with itself
abbrev pub parallel_pair : List ℕ
parallel_pair = 0x10000101 ∷ 0xB0000000 ∷ 0x50000001 ∷ 0x60000000 ∷ 0x30000001 ∷ []

abbrev pub marked : List Case
marked =
    instants sample (4 ∷ []) ((1 ∷ []) ∷ [] ∷ (1 ∷ 3 ∷ []) ∷ [])
    (record { status = 0; count = 3; awake = 2 ∷ [] } ∷ record { status = 0; count = 2; awake = 2 ∷ [] } ∷ record { status = 1; count = 4; awake = 2 ∷ [] } ∷ [])
    ∷ weights sample (1 ∷ 2 ∷ 4 ∷ 0 ∷ 3 ∷ [])
    ∷ any_bytes 0 Length
    ∷ any_bytes 3 Length
    ∷ any_bytes 5388 Length
    ∷ checked (set sample 7 0x30000005) (Reference 7)
    ∷ checked (set sample 7 0x30000004) Accepted
    ∷ checked (set sample 8 0x20040200) (Token 8)
    ∷ checked (set sample 5 0x60000801) (Circle 0)
    ∷ turned_down sample (state_with 0x20 0) (input_with 0) State
    ∷ turned_down sample (state_with 0x10 0) (input_with 0x10) Input
    ∷ instants aborting (4 ∷ []) ((1 ∷ []) ∷ [] ∷ [])
    (record { status = 2; count = 0; awake = [] } ∷ record { status = 2; count = 0; awake = [] } ∷ [])
    ∷ instants aborting (4 ∷ []) ((0 ∷ []) ∷ []) (record { status = 2; count = 0; awake = [] } ∷ [])
    ∷ runs sample listed 16 (take 4 printed) (state_with 0x4 2) (Full 2)
    ∷ runs sample listed 12 (take 3 printed) (state_with 0x4 1) (Full 1)
    ∷ runs sample listed 36 printed (state_with 0x4 3) (Played 3)
    ∷ instants unless_pair (1 ∷ []) ([] ∷ []) (record { status = 0; count = 0; awake = 0 ∷ [] } ∷ [])
    ∷ instants unless_pair (1 ∷ []) ((1 ∷ []) ∷ []) (record { status = 0; count = 1; awake = [] } ∷ [])
    ∷ weights parallel_pair (1 ∷ 3 ∷ [])
    ∷ instants parallel_pair (1 ∷ []) ([] ∷ []) (record { status = 0; count = 2; awake = [] } ∷ [])
    ∷ []

abbrev pub Each : List Case → Type 0
Each [] = Unit {0}
Each (c ∷ l) = Holds c × Each l

abbrev pub Marked : Type 0
Marked = Each marked
