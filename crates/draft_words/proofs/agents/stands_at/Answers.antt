-- `stands_at`: the place in the whole table of what the reference leads to is its place among the agents, which come first.
use Rattle.draft_words.proofs.Standing.{table_rises, agent_stands}
use Rattle.draft_words.proofs.agents.stands_at.Goals as goal

pub place-requires-clause-rising : goal.place-requires-clause-rising
place-requires-clause-rising c = table_rises c.args.source.gathered

pub returns : goal.returns
returns c = agent_stands c.args.source.gathered c.place.ensures c.target.ensures c.requires.fact
