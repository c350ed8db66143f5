-- The three numbers are those that a console would count.
--     counted_by_calls      the theorem
use mathlib.Core.Path.{sym, ap, ◌∙◌}
use lib.Dec.{eqb}
use lib.ListN.{length}
use Rattle.laws.proofs.Sets.{keep_agrees}
use Rattle.tcc.specs.Instant.{answer}
use Rattle.format.specs.Decode.{decode}
use Rattle.lent.specs.States.{state_of}
use Rattle.settings_tried.specs.Settings.{settings}
use Rattle.settings_tried.proofs.AllSettings.{all_settings}
use Rattle.settings_call.proofs.Outcomes.{distinct}
use Rattle.claims_settings.specs.CountedByCalls.{CountedByCalls}
use Rattle.claims_settings.proofs.Counts.{found}
use Rattle.claims_settings.proofs.Tried.{tried_ends}

pub counted_by_calls : CountedByCalls
counted_by_calls score state switches k a c n ends tried status h =
    let f = found c n in
    f.counts status h
    ∙ ap length (keep_agrees (λ s. eqb (answer (decode score) (state_of state) s).status status) (λ s. eqb (ends s) status) (settings k switches)
    (λ s m. ap (λ x. eqb x status) (sym (tried_ends f.accepts s ((all_settings k switches (distinct f.accepts)).0 s m) (tried s m)).1)))
