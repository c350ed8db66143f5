-- "16 is answered exactly if one of the four counts passes its limit", the counts told by the paths and not by the copying.
--     Different      no element of a list stands in it twice
--     MoreThan       there are more than n different things of a kind
--     AgentPair, ProcedurePair    an agent other than a watch, a procedure, with a set that it stands under
--     Asked          a set of two tokens or more that a next or an unless asks for
--     AskedMember    such a set and one of its tokens
--     Passes         one of the four counts passes its limit
--     Limits         the claim
use Rattle.std.specs.Prelude.{◌≡◌, true, false, ◌⊎◌, ℕ, ◌+◌, ◌<◌, length}
use mathlib.Core.List.{List, [], ◌∷◌, Memᴰ}
use Rattle.tcc.specs.Limits.{most_tokens, most_agents, most_procedures, most_rules}
use Rattle.tcc.specs.declared.Agent.{Agent}
use Rattle.tcc.specs.declared.Agent.TheVariants.{Next, Unless}
use Rattle.draft_language.specs.Draft.{Draft, draft_agent_at, LawfulDraft}
use Rattle.draft_language.specs.declared.DraftAgent.TheVariants.{Plain}
use Rattle.draft_pairs.specs.TokenSets.{holds, with, several}
use Rattle.draft_plain.specs.Stands.{Place, agent, procedure, Stands}
use Rattle.draft_plain.specs.Plain.{plain_of, fits}

pub data Different {A : Type 0} : List A → Type 0 where
  none : Different []
  more : {x : A} {l : List A} → (Memᴰ x l → ⊥) → Different l → Different (x ∷ l)

pub record MoreThan {A : Type 0} (n : ℕ) (before : ℕ) (Is : A → Type 0) : Type 0 where
  pub those : List A
  pub different : Different those
  pub are : (x : A) → Memᴰ x those → Is x
  pub many : n < before + length those

abbrev pub AgentPair : Draft → Place → Type 0
AgentPair d x = (i : ℕ) × (set : ℕ) × (a : Agent) × (x ≡ agent i set) × (draft_agent_at d i ≡ Plain a) × Stands d x

abbrev pub ProcedurePair : Draft → Place → Type 0
ProcedurePair d x = (p : ℕ) × (set : ℕ) × (x ≡ procedure p set) × Stands d x

pub data Asked (d : Draft) : ℕ → Type 0 where
  by_next : {i b set : ℕ} → Stands d (agent i set) → draft_agent_at d i ≡ Plain (Next b) → several set ≡ true → Asked d set
  by_unless : {i t b set : ℕ} → Stands d (agent i set) → draft_agent_at d i ≡ Plain (Unless t b) → several (with t set) ≡ true → Asked d (with t set)

pub record Asking : Type 0 where
  pub set : ℕ
  pub token : ℕ

abbrev pub AskedMember : Draft → Asking → Type 0
AskedMember d x = Asked d x.set × (holds x.set x.token ≡ true)

abbrev pub Passes : Draft → Type 0
Passes d = MoreThan most_agents 0 (AgentPair d) ⊎ (MoreThan most_procedures 0 (ProcedurePair d) ⊎ (MoreThan most_tokens d.tokens (Asked d) ⊎ MoreThan most_rules (length d.rules) (AskedMember d)))

abbrev pub Limits : Type 0
Limits = (d : Draft) → LawfulDraft d → (fits (plain_of d) ≡ false → Passes d) × (Passes d → fits (plain_of d) ≡ false)
