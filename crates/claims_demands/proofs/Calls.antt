-- The answered instants of a list of calls.
--     linked             they are instants in a row, from the first state to the last
--     calls_answer       every list of calls has its answered instants
--     calls_meet         each call of the list meets its contract
use mathlib.Core.Path.{◌≡◌, subst, ◌∙◌}
use mathlib.Core.List.{List, [], ◌∷◌, ◌++◌, Memᴰ}
use Prim.Native.Nat.{ℕ}
use native.Mathlib.Decide.{ℕ_discrete}
use Rattle.laws.proofs.Sets.{on_cons}
use Rattle.lent_maps.specs.Maps.{tokens_in}
use Rattle.score_answer.specs.Answer.{number_in}
use Rattle.claims_demands.specs.Calls.{Call, instant, run, Meets, InTurn, then, Answered, answered_by, Answers, one, refused, those}
use Rattle.claims_demands.specs.Calls as calls
use Rattle.claims_demands.proofs.Instants.{accepted_instant, refused_state}
use Rattle.claims_demands.proofs.Linked.{Linked, linked_append}
use Rattle.claims_demands.proofs.Linked as row
use Rattle.claims_demands.proofs.Played.{plays_linked}
use Rattle.claims_demands.proofs.Runs.{taken_rises, run_shown, run_plays}

module _ {score : List ℕ} where
  pub linked : {s last : List ℕ} {made : List Call} {answered : List Answered} → InTurn score s made last → Answers score made answered → Linked score s answered last
  linked calls.InTurn.none calls.Answers.none = row.none
  linked (then c at x) (one n y) = row.then at (accepted_instant c n) (linked x y)
  linked (then {last = last} c at x) (refused {more = more} n y) = subst (λ s. Linked score s more last) (refused_state c n ∙ at) (linked x y)
  linked (then {last = last} c at x) (those {played = played} {more = more} p y) =
      subst (λ s. Linked score s (played ++ more) last) at
      (linked_append (plays_linked score (taken_rises c) p) (subst (λ s. Linked score s more last) (run_shown c p).state (linked x y)))

  one_call : (call : Call) → Meets score call → {made : List Call} {more : List Answered} → Answers score made more → (answered : List Answered) × Answers score (call ∷ made) answered
  one_call (instant input before after answer) c {made} {more} y = go (ℕ_discrete (number_in answer) 0)
    where
      go : Dec (number_in answer ≡ 0) → (answered : List Answered) × Answers score (instant input before after answer ∷ made) answered
      go (yes n) = (answered_by (tokens_in input) before after answer ∷ more, one n y)
      go (no n) = (more, refused n y)
  one_call (run inputs before after answer) c {made} {more} y = let p = run_plays c in (p.0 ++ more, those p.2 y)

  pub calls_answer : {s last : List ℕ} {made : List Call} → InTurn score s made last → (answered : List Answered) × Answers score made answered
  calls_answer calls.InTurn.none = ([], calls.Answers.none)
  calls_answer (then {call = call} c at x) = one_call call c (calls_answer x).1

  pub calls_meet : {s last : List ℕ} {made : List Call} → InTurn score s made last → (call : Call) → Memᴰ call made → Meets score call
  calls_meet calls.InTurn.none call m = elim m [ ]
  calls_meet (then c at x) call m = on_cons {P = Meets score} c (calls_meet x) call m
