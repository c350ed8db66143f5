-- Where all settings are counted under 0, each is harmless.
--     harmless      the theorem
use mathlib.Core.Path.{◌≡◌, refl, ◌∙◌}
use mathlib.Core.List.{List, Memᴰ}
use Prim.Native.Nat.{ℕ, zero, suc, ◌<◌}
use native.Mathlib.Omega.{arith}
use Rattle.tcc.specs.Instant.{answer}
use Rattle.tcc.proofs.Status.{answer_status}
use Rattle.format.specs.Decode.{decode}
use Rattle.lent.specs.States.{state_of}
use Rattle.settings_tried.specs.Settings.{settings}
use Rattle.score_answer.specs.Answer.{settings_in}
use Rattle.claims_settings.specs.Harmless.{Harmless}
use Rattle.claims_settings.proofs.Counts.{Found, found}
use Rattle.claims_settings.proofs.AddUp.{add_up}
use Rattle.claims_settings.proofs.Tried.{tried_ends, as_tried, ending_some}

module _ {score state switches : List ℕ} {k a : ℕ} (f : Found score state switches k a) (one_none : settings_in a 1 ≡ 0) (two_none : settings_in a 2 ≡ 0) where
  quiet : {s : List ℕ} → Memᴰ s (settings k switches) → (n : ℕ) → (answer (decode score) (state_of state) s).status ≡ n → n < 3 → n ≡ 0
  quiet m zero e h = refl
  quiet m (suc zero) e h = absurd (omega (arith, one_none, f.counts 1 (omega arith), ending_some (decode score) (state_of state) 1 m e))
  quiet m (suc (suc zero)) e h = absurd (omega (arith, two_none, f.counts 2 (omega arith), ending_some (decode score) (state_of state) 2 m e))
  quiet m (suc (suc (suc n))) e h = absurd (omega arith)

pub harmless : Harmless
harmless score state switches k a c n all set setting status t =
    let f = found c n in
    let sum = (add_up score state switches k a c n).0 in
    let (accepted, is) = tried_ends f.accepts set setting t in
    let (s, m, same) = as_tried f.accepts set setting in
    (accepted, is ∙ same ∙ quiet f (omega arith) (omega arith) m (answer (decode score) (state_of state) s).status refl (answer_status (decode score) (state_of state) s))
