-- `put_agents`: each agent is the plain score's.
use mathlib.Core.Path.{subst⁻¹}
use Rattle.std.proofs.Common.{refl, ap, ◌∙◌, ◌+◌, arith}
use Rattle.tcc.specs.declared.Agent.TheVariants.{Skip}
use Rattle.draft_plain.specs.Plain.{plain_of}
use Rattle.encoding.specs.Encode.{agent_word}
use Rattle.bits.proofs.Put.{putting_none, putting_more, putting_all}
use Rattle.draft_format.specs.DraftFile.{decode_draft}
use Rattle.draft_words.proofs.Pairs.{agents_few, agents_all, agent_known, agent_entry, agent_here, agent_fits, AgentFits}
use Rattle.draft_words.proofs.put_agents.Goals as goal

pub shared_ref_as_front-row-items : goal.shared_ref_as_front-row-items
shared_ref_as_front-row-items c = omega (arith, agents_few c.args.source.gathered)

pub loop-k-init : goal.loop-k-init
loop-k-init c = (refl, putting_none agent_word (plain_of (decode_draft c.args.source.draft.now)).agents 2 c.args.plain.now)

pub plain_agent-requires : goal.plain_agent-requires
plain_agent-requires c = record { fact = agent_entry c.args.source.gathered c.loop-k.k c.loop-k-test.true }

pub agent_word-w-requires : goal.agent_word-w-requires
agent_word-w-requires c =
    let g = c.args.source.gathered in
    let f = subst⁻¹ AgentFits (c.plain_agent.ensures ∙ agent_here g c.loop-k.k c.loop-k-test.true) (agent_fits g c.loop-k.k c.loop-k-test.true) in
    record { by_index = f.tokens; by_index_2 = f.parts; by_index_3 = f.procedures }

pub loop-k-preserved : goal.loop-k-preserved
loop-k-preserved c =
    let g = c.args.source.gathered in
    let l = c.loop-k in
    let made = c.plain_agent.ensures ∙ agent_here g l.k c.loop-k-test.true in (
      c.put_word.auto.bytes ∙ l.invariant.0,
      putting_more agent_word (plain_of (decode_draft c.args.source.draft.now)).agents 2 c.args.plain.now Skip l.k (2 + l.k) c.agent_word-w.result l.plain c.put_word.new.bytes
          (agent_known g l.k c.loop-k-test.true) refl (omega arith) (c.agent_word-w.ensures ∙ ap agent_word made) l.invariant.1 c.put_word.ensures,
    )

pub returns : goal.returns
returns c =
    let l = c.loop-k in
    putting_all agent_word (plain_of (decode_draft c.args.source.draft.now)).agents 2 c.args.plain.now l.k l.plain (agents_all c.args.source.gathered l.k c.loop-k-test.false) l.invariant.1
