-- What the engine returns is the instant's answer.
--     flags_none         no flag is set for the empty set
--     flags_same         sets with the same members have the same flags
--     aborted_outcome, aborted_trial     marks with a live abort
--     quiet_outcome, quiet_trial         marks without
use mathlib.Core.Path.{◌≡◌, refl, sym, ap, subst, ◌∙◌}
use mathlib.Core.Bool.{Bool, true, false}
use mir.Val.{bool_byte}
use mathlib.Core.List.{List, [], Memᴰ}
use Prim.Native.Nat.{ℕ}
use lib.ListN.{length, get_or, replicate, length-replicate}
use Rattle.laws.specs.Sets.{Same, any}
use Rattle.laws.proofs.Booleans.{true_is_false}
use Rattle.tcc.specs.Score.{Score, agent_at}
use Rattle.tcc.specs.Instant.{is_abort, left_awake, instant}
use Rattle.tcc.specs.FixedPoint.{Settled}
use Rattle.flags.specs.Flags.{set_of, flags_of}
use Rattle.flags.proofs.Flags.{flag_member, member_flag, set_of_none, flags_of_length, flags_of_member, member_flags_of, flags_settled}
use Rattle.instant_engine.specs.declared.Outcome.{Outcome}
use Rattle.instant_engine.specs.declared.Trial.{Trial}
use Rattle.instant_engine.specs.Marks.{Fixed}
use Rattle.instant_engine.specs.Outcome.{outcome_of, trial_of}
use Rattle.instant_engine.proofs.ScratchCount.{aborts_so, settled_so}

pub flags_none : (n : ℕ) → replicate n false ≡ flags_of n []
flags_none n = flags_settled n [] (replicate n false) (length-replicate n false) (λ i lt. (λ m. subst (λ l. Memᴰ i l) (set_of_none n) m, λ m. elim m [ ]))

flags_same : (n : ℕ) {l k : List ℕ} → Same l k → flags_of n l ≡ flags_of n k
flags_same n {l} {k} same = flags_settled n k (flags_of n l) (flags_of_length n l) (λ i lt. (λ m. (same i).0 (flags_of_member n l m), λ m. member_flags_of n l lt ((same i).1 m)))

abbrev outcome : ℕ → ℕ → List Bool → List Bool → Outcome
outcome status count store awake = record { status = status; count = count; store = store; awake = awake }

abbrev trial : ℕ → List Bool → Trial
trial status store = record { status = status; store = store }

module _ (sc : Score) (agents inputs lives : List ℕ) (held : List Bool) (fixed : Fixed sc agents inputs lives (set_of held)) where
  abbrev Aborting : Bool
  Aborting = any (λ i. is_abort (agent_at sc i)) lives

  pub aborted_outcome : true ≡ Aborting → outcome 2 0 (replicate 256 false) (replicate 1024 false) ≡ outcome_of (instant sc agents inputs)
  unfolding outcome_of
  aborted_outcome e = ap (λ s. outcome 2 0 s (replicate 1024 false)) (flags_none 256) ∙ ap (outcome 2 0 (flags_of 256 [])) (flags_none 1024) ∙ ap outcome_of (sym (aborts_so sc agents inputs lives (set_of held) fixed e))

  pub aborted_trial : true ≡ Aborting → trial 2 (replicate 256 false) ≡ trial_of (instant sc agents inputs)
  unfolding trial_of
  aborted_trial e = ap (trial 2) (flags_none 256) ∙ ap trial_of (sym (aborts_so sc agents inputs lives (set_of held) fixed e))

  module _ (none : false ≡ Aborting) where
    quiet : Settled sc lives (set_of held) (instant sc agents inputs)
    quiet = settled_so sc agents inputs lives (set_of held) fixed none

    quiet_status : bool_byte (get_or held 0 false) ≡ (instant sc agents inputs).status
    quiet_status = go (get_or held 0 false) refl
      where
        go : (b : Bool) → get_or held 0 false ≡ b → bool_byte b ≡ (instant sc agents inputs).status
        go true e = sym (quiet.clash (flag_member held e))
        go false e = sym (quiet.no_clash (λ m. true_is_false (member_flag held m) e))

    quiet_store : length held ≡ 256 → held ≡ flags_of 256 (instant sc agents inputs).store
    quiet_store long = flags_settled 256 (instant sc agents inputs).store held long (λ i lt. quiet.same_store i)

    pub quiet_trial : (status : ℕ) → length held ≡ 256 → status ≡ bool_byte (get_or held 0 false) → trial status held ≡ trial_of (instant sc agents inputs)
    unfolding trial_of
    quiet_trial status long p = ap (λ x. trial x held) (p ∙ quiet_status) ∙ ap (trial (instant sc agents inputs).status) (quiet_store long)

    pub quiet_outcome : (status count : ℕ) (awake : List Bool) → length held ≡ 256 → status ≡ bool_byte (get_or held 0 false) →
        (((instant sc agents inputs).status ≡ 2 → ⊥) → count ≡ length (instant sc agents inputs).reduced) → awake ≡ flags_of 1024 (left_awake sc (set_of held) lives) →
        outcome status count held awake ≡ outcome_of (instant sc agents inputs)
    unfolding outcome_of
    quiet_outcome status count awake long p q r =
        let a = instant sc agents inputs in
        let p' : status ≡ a.status = p ∙ quiet_status in
        let q' : count ≡ length a.reduced = q quiet.unaborted in
        let s' : held ≡ flags_of 256 a.store = quiet_store long in
        let r' : awake ≡ flags_of 1024 a.awake = r ∙ flags_same 1024 quiet.same_awake in
        ap (λ x. outcome x count held awake) p' ∙ ap (λ x. outcome a.status x held awake) q'
        ∙ ap (λ x. outcome a.status (length a.reduced) x awake) s' ∙ ap (outcome a.status (length a.reduced) (flags_of 256 a.store)) r'
