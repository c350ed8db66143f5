-- Laws of what an agent refers to.
--     leads_by                       the pairs that it leads to, under a set
--     RefersBelow                    it is among so many agents and procedures
--     agent_leads_lem, agent_below   both by the agent's form
--     refers_plain                   what the agent of a pair refers to
--     refers_leads, refers_below     the pair leads there, and that is the draft's
use mathlib.Core.Path.{◌≡◌, refl, sym, ap, ◌∙◌, subst⁻¹}
use mathlib.Core.List.Memᴰ
use mathlib.Core.List.{List, [], ◌∷◌}
use Prim.Native.Nat.{ℕ, ◌<◌}
use native.Mathlib.Omega.{arith}
use Rattle.laws.proofs.Sets.{Within}
use Rattle.tcc.specs.Score.{parts_of, procedures_of}
use Rattle.tcc.specs.declared.Agent.{Agent}
use Rattle.tcc.specs.declared.Agent.TheVariants.{Skip, Abort, Tell, Parallel, When, Next, Unless, Call}
use Rattle.format.specs.Decode.{sizes}
use Rattle.draft_language.specs.Draft.{Draft, draft_agent_at}
use Rattle.draft_language.specs.declared.DraftAgent.TheVariants.{Plain}
use Rattle.draft_language.proofs.Whens.{when_is, part_known}
use Rattle.draft_pairs.specs.Pairs.{pair, number_in, set_in}
use Rattle.draft_plain.specs.Places.{procedure_at, target, agent_leads, leads_to}
use Rattle.draft_plain.proofs.Places.{KnownAgent, agents_most, leads_agent}
use Rattle.draft_format.specs.DraftFile.{decode_draft}
use Rattle.draft_format.specs.Translatable.{Translatable}
use Rattle.draft_copying.specs.declared.targets.References.{References}
use Rattle.draft_copying.specs.declared.targets.References.TheVariants.{Nothing, Body, Halves, Procedure}
use Rattle.draft_copying.specs.Referring.{agent_refers, references_of}
use Rattle.draft_copying.proofs.Translatable.{agents_many, roots_many}

abbrev pub leads_by : Draft → ℕ → References → List ℕ
leads_by d set Nothing = []
leads_by d set (Body b) = target d b set ∷ []
leads_by d set (Halves a b) = target d a set ∷ target d b set ∷ []
leads_by d set (Procedure p) = pair (procedure_at p) set ∷ []

abbrev pub RefersBelow : ℕ → ℕ → References → Type 0
RefersBelow agents procedures Nothing = Unit {0}
RefersBelow agents procedures (Body b) = b < agents
RefersBelow agents procedures (Halves a b) = (a < agents) × (b < agents)
RefersBelow agents procedures (Procedure p) = p < procedures

agent_leads_lem : (d : Draft) (set : ℕ) (a : Agent) → agent_leads d set (Plain a) ≡ leads_by d set (agent_refers a)
agent_leads_lem d set Skip = refl
agent_leads_lem d set Abort = refl
agent_leads_lem d set (Tell t) = refl
agent_leads_lem d set (Parallel a b) = refl
agent_leads_lem d set (When t b) = refl
agent_leads_lem d set (Next b) = refl
agent_leads_lem d set (Unless t b) = refl
agent_leads_lem d set (Call p) = refl

agent_below : (agents procedures : ℕ) (a : Agent) → Within (λ b. b < agents) (parts_of a) → Within (λ p. p < procedures) (procedures_of a) → RefersBelow agents procedures (agent_refers a)
agent_below n m Skip f g = tt
agent_below n m Abort f g = tt
agent_below n m (Tell t) f g = tt
agent_below n m (Parallel a b) f g = (f a (Memᴰ.head refl), f b (Memᴰ.tail (Memᴰ.head refl)))
agent_below n m (When t b) f g = f b (Memᴰ.head refl)
agent_below n m (Next b) f g = f b (Memᴰ.head refl)
agent_below n m (Unless t b) f g = f b (Memᴰ.head refl)
agent_below n m (Call p) f g = g p (Memᴰ.head refl)

module _ {s : List ℕ} (ok : Translatable s) {key : ℕ} (agent : KnownAgent (decode_draft s) key) {refers : References} (is : refers ≡ references_of (draft_agent_at (decode_draft s) (number_in key))) where
  refers_plain : refers ≡ agent_refers agent.written
  refers_plain = is ∙ ap references_of agent.is_written

  pub refers_leads : leads_to (decode_draft s) key ≡ leads_by (decode_draft s) (set_in key) refers
  refers_leads =
      leads_agent (decode_draft s) key refl refl (omega (arith, agent.known, agents_most (decode_draft s) ok.lawful)) agent.is_written
      ∙ agent_leads_lem (decode_draft s) (set_in key) agent.written
      ∙ ap (leads_by (decode_draft s) (set_in key)) (sym refers_plain)

  pub refers_below : RefersBelow (sizes s).agents (sizes s).procedures refers
  refers_below = subst⁻¹ (RefersBelow (sizes s).agents (sizes s).procedures) refers_plain (agent_below (sizes s).agents (sizes s).procedures agent.written parts calls)
    where
      parts : Within (λ b. b < (sizes s).agents) (parts_of agent.written)
      parts b m = omega (arith, agents_many ok, part_known (decode_draft s) ok.lawful (number_in key) agent.known agent.is_written b m)

      calls : Within (λ p. p < (sizes s).procedures) (procedures_of agent.written)
      calls p m = omega (arith, roots_many ok, ok.lawful.procedures_known (number_in key) p (rw (when_is (decode_draft s) (number_in key) agent.is_written) m))
