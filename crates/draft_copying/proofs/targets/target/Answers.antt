-- `target`: a watch leads to its body, with its token added; an agent that is none ends the way.
use Rattle.std.proofs.Common.{sym, ◌∙◌, arith}
use Rattle.draft_copying.proofs.Translatable.{token_few, body_below}
use Rattle.draft_copying.proofs.Leading.{going_on, going_ends}
use Rattle.draft_copying.proofs.targets.target.Goals as goal

pub returns : goal.returns
returns c = going_ends c.requires.translatable c.loop-token.invariant (sym c.draft_agent_at.ensures ∙ c.in_default.is) c.renumbered.ensures

pub with_token-added-requires : goal.with_token-added-requires
with_token-added-requires c = omega (arith, token_few c.requires.translatable c.loop-token.i (sym c.draft_agent_at.ensures ∙ c.in-Watch.is))

pub loop-token-smaller : goal.loop-token-smaller
loop-token-smaller c = body_below c.requires.translatable c.loop-token.i (sym c.draft_agent_at.ensures ∙ c.in-Watch.is)

pub loop-token-preserved : goal.loop-token-preserved
loop-token-preserved c = going_on c.requires.translatable c.loop-token.invariant (sym c.draft_agent_at.ensures ∙ c.in-Watch.is) c.with_token-added.ensures
