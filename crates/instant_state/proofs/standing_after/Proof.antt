-- `standing_after`: by the status, with the agents awake.
use mathlib.Core.Path.{◌≡◌, refl}
use mathlib.Core.Bool.{not}
use lib.Dec.{eqb}
use Rattle.instant_engine.specs.declared.Outcome.{Outcome}
use Rattle.instant_state.proofs.standing_after.Statement.{statement}
use Rattle.instant_state.proofs.standing_after.Tie as tie

stands : (o : Outcome) → (not (eqb o.status 2) ≡ not (eqb o.status 2)) × (o.awake ≡ o.awake)
stands o = (refl, refl)

returns : tie.Need-returns
returns c = stands c.args.outcome

pub standing_after_spec : {M : Type 1} → statement M
standing_after_spec = tie.close (tie.spec returns)
