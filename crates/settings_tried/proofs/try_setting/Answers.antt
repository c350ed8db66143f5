-- `try_setting`: by the status.
use mathlib.Core.Bool.{cond}
use mir.Val.{bool_byte}
use Rattle.std.proofs.Common.{◌≡◌, refl, ap, ◌∙◌, Bool, true, false, List, [], ◌∷◌, ℕ, length, nat_eq}
use Rattle.tcc.specs.Score.{Score}
use Rattle.tcc.specs.Instant.{State, answer}
use Rattle.format.specs.Decode.{decode}
use Rattle.flags.specs.Flags.{set_of}
use Rattle.settings_tried.specs.Settings.{counts}
use Rattle.settings_tried.specs.Standing.{state_from}
use Rattle.settings_tried.proofs.Counting.{three}
use Rattle.settings_tried.proofs.try_setting.Goals as goal

-- a setting ends with a status or it does not
ends : (s : List ℕ) (b : Bool) → bool_byte b ≡ length (cond b (s ∷ []) [])
ends s true = refl
ends s false = refl

one_ends : (sc : Score) (st : State) (s : List ℕ) (n : ℕ) → n ≡ (answer sc st s).status →
    record { quiet = bool_byte (nat_eq n 0); clashed = bool_byte (nat_eq n 1); aborted = bool_byte (nat_eq n 2) } ≡ counts sc st (s ∷ [])
unfolding counts
one_ends sc st s n e = three
    (ends s (nat_eq n 0) ∙ ap (λ m. length (cond (nat_eq m 0) (s ∷ []) [])) e)
    (ends s (nat_eq n 1) ∙ ap (λ m. length (cond (nat_eq m 1) (s ∷ []) [])) e)
    (ends s (nat_eq n 2) ∙ ap (λ m. length (cond (nat_eq m 2) (s ∷ []) [])) e)

pub returns : goal.returns
returns c =
    let a = c.args in
    three c.from.ensures c.from-2.ensures c.from-3.ensures
    ∙ one_ends (decode a.prepared.now.bytes.now) (state_from a.running a.awake.now) (set_of a.pressed.now) c.status_in-status.result c.status_in-status.ensures
