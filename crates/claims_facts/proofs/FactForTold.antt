-- A token that an agent tells at every instant can be made a standing fact.
--     alike              two consoles
--     journals_stand     the journal check
--     fact_for_told      both: the theorem
use mathlib.Core.Path.{refl}
use Rattle.score_answer.specs.Answer.{value_in}
use Rattle.claims_demands.proofs.Accepted.{lawful}
use Rattle.claims_demands.proofs.Calls.{linked}
use Rattle.claims_demands.proofs.JournalExact.{exactly}
use Rattle.claims_facts.specs.FactForTold.{Alike, JournalsStand, FactForTold}
use Rattle.claims_facts.proofs.OneMore.{adds_fact}
use Rattle.claims_facts.proofs.Rows.{linked_told}
use Rattle.claims_facts.proofs.Histories.{is_history}

alike : Alike
alike t score score' first last last' calls calls' answered answered' x turn answers turn' answers' inputs told =
    linked_told score score' (adds_fact x) (linked turn answers) (linked turn' answers') refl inputs told

journals_stand : JournalsStand
journals_stand t score score' journal before after before' after' answer answer' x long long' c c' told zero =
    let h = (exactly score journal before after answer (value_in answer) x.accepted long c).0 (zero, refl) in
    (exactly score' journal before' after' answer' (value_in answer) x.accepted' long' c').1
    (is_history (adds_fact x) (lawful score x.accepted) h.0 told) h.1

pub fact_for_told : FactForTold
fact_for_told = (alike, journals_stand)
