-- Contracts of inner functions: what an agent refers to.
--     references_of     its body, its halves or its procedure; nothing of a watch, which a reference passes
use Rattle.tcc.specs.declared.Agent.{Agent}
use Rattle.tcc.specs.declared.Agent.TheVariants.{Skip, Abort, Tell, Parallel, When, Next, Unless, Call}
use Rattle.draft_language.specs.declared.DraftAgent.{DraftAgent}
use Rattle.draft_language.specs.declared.DraftAgent.TheVariants.{Plain, Watch}
use Rattle.draft_copying.specs.declared.targets.References.{References}
use Rattle.draft_copying.specs.declared.targets.References.TheVariants.{Nothing, Body, Halves, Procedure}

abbrev pub agent_refers : Agent → References
agent_refers Skip = Nothing
agent_refers Abort = Nothing
agent_refers (Tell t) = Nothing
agent_refers (Parallel a b) = Halves a b
agent_refers (When t b) = Body b
agent_refers (Next b) = Body b
agent_refers (Unless t b) = Body b
agent_refers (Call p) = Procedure p

abbrev pub references_of : DraftAgent → References
references_of (Plain a) = agent_refers a
references_of (Watch t b) = Nothing
