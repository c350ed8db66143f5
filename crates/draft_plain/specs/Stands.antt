-- Which agents and procedures of a draft stand under which sets of watch tokens, "on a path of bodies, halves and calls from
-- procedure 0".
--     Place          an agent, or a procedure, and a set
--     Stands         it stands under that set on such a path
use Rattle.std.specs.Prelude.{◌≡◌, ℕ}
use mathlib.Core.List.{Memᴰ}
use Rattle.tcc.specs.Score.{parts_of, procedures_of}
use Rattle.tcc.specs.declared.Agent.{Agent}
use Rattle.draft_language.specs.Draft.{Draft, draft_agent_at, root_of}
use Rattle.draft_language.specs.declared.DraftAgent.TheVariants.{Plain, Watch}
use Rattle.draft_pairs.specs.TokenSets.{with}

pub data Place : Type 0 where
  agent : ℕ → ℕ → Place
  procedure : ℕ → ℕ → Place

pub data Stands (d : Draft) : Place → Type 0 where
  start : Stands d (procedure 0 0)
  root : {p set : ℕ} → Stands d (procedure p set) → Stands d (agent (root_of d p) set)
  part : {i b set : ℕ} {a : Agent} → Stands d (agent i set) → draft_agent_at d i ≡ Plain a → Memᴰ b (parts_of a) → Stands d (agent b set)
  called : {i p set : ℕ} {a : Agent} → Stands d (agent i set) → draft_agent_at d i ≡ Plain a → Memᴰ p (procedures_of a) → Stands d (procedure p set)
  watched : {i t b set : ℕ} → Stands d (agent i set) → draft_agent_at d i ≡ Watch t b → Stands d (agent b (with t set))
