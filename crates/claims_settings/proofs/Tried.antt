-- A setting tried by the instant call ends as the definition of an instant says.
--     tried_ends       the call is accepted, and its status is the definition's
--     ending_some      so a status that a setting ends with is counted
--     some_ending      and one that is counted is some setting's
use mathlib.Core.Path.{◌≡◌, refl, sym, ap, ◌∙◌}
use mathlib.Core.List.Memᴰ
use mathlib.Core.List.{List, [], ◌∷◌, Memᴰ}
use Prim.Native.Nat.{ℕ, ◌<◌}
use native.Mathlib.Omega.{arith}
use borrow.Author.Tests.{eq-eqb, eqb-true, ne_eqb}
use lib.Dec.{eqb}
use lib.ListN.{length}
use Rattle.laws.specs.Sets.{keep}
use Rattle.laws.proofs.Sets.{keep_kept, on_keep}
use Rattle.tcc.specs.Score.{Score}
use Rattle.tcc.specs.Instant.{State, answer}
use Rattle.tcc.proofs.Status.{status_same}
use Rattle.format.specs.Decode.{sizes, decode}
use Rattle.lent.specs.States.{state_of, instant_number, last_number}
use Rattle.lent.proofs.Numbered.{state_aside, fault_aside}
use Rattle.lent_maps.specs.Maps.{tokens_in}
use Rattle.settings_tried.specs.Settings.{settings, ending}
use Rattle.settings_tried.specs.AllSettings.{Setting}
use Rattle.settings_tried.proofs.AllSettings as settings
use Rattle.settings_call.proofs.Outcomes.{Accepts, distinct, known}
use Rattle.score_answer.specs.Answer.{number_in}
use Rattle.claims_demands.proofs.Accepted.{known_input}
use Rattle.claims_demands.proofs.Instants.{accepted_instant, settled_instant}
use Rattle.claims_settings.specs.Tried.{Tried}

module _ {score state switches : List ℕ} {k : ℕ} (a : Accepts score state switches k) (set : List ℕ) (setting : Setting k switches set) where
  module _ {status : ℕ} (t : Tried score state set status) where
    tried_accepted : number_in t.answer ≡ 0
    tried_accepted = settled_instant t.meets (record {
      accepted = a.accepted;
      long = t.right;
      faultless = fault_aside t.before.state state t.from.words (sizes score).agents ∙ a.lawful;
      known = known_input score t.input (λ x m. known a x (setting.chosen x ((t.pressed x).0 m)));
      below = ne_eqb (instant_number t.before.state) last_number (λ e. omega (arith, t.below));
    })

    pub tried_ends : (number_in t.answer ≡ 0) × (status ≡ (answer (decode score) (state_of state) set).status)
    tried_ends = (
      tried_accepted,
      sym t.ends
          ∙ ap (λ p. p.status) (accepted_instant t.meets tried_accepted).is
          ∙ ap (λ st. (answer (decode score) st (tokens_in t.input)).status) (state_aside t.before.state state t.from.words)
          ∙ status_same (decode score) (state_of state) t.pressed,
    )

  -- the setting, as it is tried
  pub as_tried : (s : List ℕ) × Memᴰ s (settings k switches) × ((answer (decode score) (state_of state) set).status ≡ (answer (decode score) (state_of state) s).status)
  as_tried = let (s, m, same) = settings.tried k switches set (distinct a) setting in (s, m, status_same (decode score) (state_of state) same)

module _ (sc : Score) (st : State) (n : ℕ) where
  pub ending_some : {s : List ℕ} {l : List (List ℕ)} → Memᴰ s l → (answer sc st s).status ≡ n → 0 < ending sc st n l
  ending_some {s} {l} m e = go (keep (λ x. eqb (answer sc st x).status n) l) (keep_kept (λ x. eqb (answer sc st x).status n) m (eq-eqb (answer sc st s).status n e))
    where
      go : (k : List (List ℕ)) → Memᴰ s k → 0 < length k
      go [] i = absurd (Memᴰ.not-nil i)
      go (x ∷ k) i = omega arith

  pub some_ending : (l : List (List ℕ)) → 0 < ending sc st n l → (s : List ℕ) × Memᴰ s l × ((answer sc st s).status ≡ n)
  some_ending l h = go (keep (λ x. eqb (answer sc st x).status n) l) h (on_keep {P = λ s. Memᴰ s l × ((answer sc st s).status ≡ n)} (λ x. eqb (answer sc st x).status n) l (λ s m e. (m, eqb-true (answer sc st s).status n e)))
    where
      go : (k : List (List ℕ)) → 0 < length k → ((s : List ℕ) → Memᴰ s k → Memᴰ s l × ((answer sc st s).status ≡ n)) → (s : List ℕ) × Memᴰ s l × ((answer sc st s).status ≡ n)
      go [] h each = absurd (omega arith)
      go (s ∷ k) h each = let (m, e) = each s (Memᴰ.head refl) in (s, m, e)
