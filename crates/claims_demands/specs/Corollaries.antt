-- What a customer asks for, each in a line.
--     TwoConsoles      two consoles that meet the contracts, from one state and given the same switches, leave the same
--                      statuses, stores, outputs and states, instant by instant
--     Splitting        splitting a run into shorter runs or single instants changes nothing: lists of calls whose answered
--                      instants have the same inputs end in the same state
use Rattle.std.specs.Prelude.{◌≡◌, List, map, ℕ}
use Rattle.claims_demands.specs.Calls.{Call, InTurn, Answered, Answers}

abbrev pub TwoConsoles : Type 0
TwoConsoles =
    (score first last₁ last₂ : List ℕ) (calls₁ calls₂ : List Call) (answered₁ answered₂ : List Answered) →
    InTurn score first calls₁ last₁ → Answers score calls₁ answered₁ → InTurn score first calls₂ last₂ → Answers score calls₂ answered₂ →
    map (λ p. p.inputs) answered₁ ≡ map (λ p. p.inputs) answered₂ → answered₁ ≡ answered₂

abbrev pub Splitting : Type 0
Splitting =
    (score first last₁ last₂ : List ℕ) (calls₁ calls₂ : List Call) (answered₁ answered₂ : List Answered) →
    InTurn score first calls₁ last₁ → Answers score calls₁ answered₁ → InTurn score first calls₂ last₂ → Answers score calls₂ answered₂ →
    map (λ p. p.inputs) answered₁ ≡ map (λ p. p.inputs) answered₂ → last₁ ≡ last₂
