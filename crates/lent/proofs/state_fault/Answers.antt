-- `lent::state_fault`: by the first word. The arms `RUNNING` and `ABORTED` go by their numbers.
use Rattle.std.proofs.Common.{◌∙◌, sym, arith}
use Rattle.lent.proofs.Faults.{fault_running, fault_aborted, fault_other}
use Rattle.lent.proofs.state_fault.Goals as goal

pub returns-in-4026531840 : goal.returns-in-4026531840
returns-in-4026531840 c = let a = c.args in
    c.agent_from.ensures ∙ fault_running a.agents a.state.now (sym c.word_at.ensures ∙ c.in-4026531840.is)

pub returns-in-4026531841 : goal.returns-in-4026531841
returns-in-4026531841 c = let a = c.args in
    c.agent_from-in-4026531841.ensures ∙ fault_aborted a.agents a.state.now (sym c.word_at.ensures ∙ c.in-4026531841.is)

pub returns-in_default : goal.returns-in_default
returns-in_default c = fault_other c.args.agents c.args.state.now (λ p. omega arith) (λ p. omega arith)
