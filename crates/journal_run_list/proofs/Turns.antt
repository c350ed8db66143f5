-- The instant of a list that a run plays next.
--     Turn             the part that comes next, and the tokens that it tells
--     next, told_below, lists     what reading it says
--     stands_round     its next state goes into bytes and back
use mathlib.Core.Path.{◌≡◌, sym, ap, subst⁻¹, ◌∙◌}
use mathlib.Core.Bool.{Bool, false}
use mathlib.Core.List.{List, ◌∷◌}
use Prim.Native.Nat.{ℕ, ◌+◌, ◌<◌, ◌≤◌}
use lib.ListN.{length, get_or, drop}
use Rattle.tcc.specs.Instant.{State, answer, after}
use Rattle.words.specs.Word.{words}
use Rattle.format.specs.Decode.{sizes, decode}
use Rattle.format.specs.Playable.{Playable}
use Rattle.format.proofs.Decode.{sizes_few}
use Rattle.flags.specs.Flags.{set_of, flags_of}
use Rattle.lent.specs.States.{state_of, as_bytes, LawfulState, SameState}
use Rattle.lent.proofs.Round.{state_round}
use Rattle.instant_state.proofs.Inside.{after_lawful}
use Rattle.journal_form.specs.Form.{Good}
use Rattle.journal_instants.specs.Instants.{tokens_of, input_lists}
use Rattle.journal_instants.specs.Parts.{part_at}
use Rattle.journal_step.proofs.FromStanding.{told_set, told_known, inside}
use Rattle.journal_step.proofs.Reading.{Reading, Next, reading_next}

pub record Turn (score inputs : List ℕ) (at : ℕ) (here : List ℕ) (told : List Bool) : Type 0 where
  pub reading : Reading (sizes score).tokens inputs at
  pub not_end : at < length inputs
  pub is : here ≡ part_at Good inputs at
  pub read : told ≡ flags_of 256 (tokens_of 13 (words here))

module _ {score inputs : List ℕ} {at : ℕ} {here : List ℕ} {told : List Bool} (t : Turn score inputs at here told) where
  pub next : Next (sizes score).tokens inputs at here
  next = subst⁻¹ (Next (sizes score).tokens inputs at) t.is (reading_next (sizes score).tokens inputs at t.reading t.not_end)

  pub told_below : (i : ℕ) → (sizes score).tokens ≤ i → get_or told i false ≡ false
  told_below = told_known (sizes score).tokens (sizes_few score).0 t.read next.told

  pub lists : input_lists (drop at inputs) ≡ set_of told ∷ input_lists (drop (at + length here) inputs)
  lists = next.lists ∙ ap (λ l. l ∷ input_lists (drop (at + length here) inputs)) (sym (told_set (sizes score).tokens (sizes_few score).0 t.read next.told))

  pub stands_round : Playable score → (st : State) → LawfulState (sizes score).agents st → let a = answer (decode score) st (set_of told) in SameState (state_of (as_bytes (after a))) (after a)
  stands_round p st law = state_round _ (after_lawful (decode score) _ 1024 p.lawful.agents_at_most (inside score p st law told told_below))
