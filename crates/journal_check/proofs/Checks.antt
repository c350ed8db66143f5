-- A journal check half way: what it has read, and what it has still to read.
--     Checking         the invariant: the whole check is the check from here on
--     checking_none    before the first instant
--     checking_end     past the last
--     Turn             the part that comes next
--     next             what reading it says
--     first_formed     its words are as the form asks
--     checking_more    one instant more
--     checking_unlawful, checking_differs, checking_last     an instant that ends the check
use mathlib.Core.Path.{◌≡◌, refl, sym, ap, ap₂, subst⁻¹, ◌∙◌}
use mathlib.Core.Bool.{Bool, true, false, cond, not, ◌&&◌}
use mathlib.Core.List.{List, Memᴰ}
use Prim.Native.Nat.{ℕ, suc, ◌+◌, ◌^◌, ◌<◌, ◌≤◌}
use native.Mathlib.Numerals.{add-one}
use native.Mathlib.Omega.{arith}
use borrow.Author.Tests.{eq-eqb, ne_eqb}
use lib.Dec.{eqb}
use lib.ListN.{length, get_or, drop, length-drop}
use Rattle.std.specs.Prelude.{Err}
use Rattle.tcc.specs.Instant.{start_state, Answer, answer, after}
use Rattle.words.specs.Word.{words}
use Rattle.format.specs.Decode.{sizes, decode}
use Rattle.format.specs.Playable.{Playable}
use Rattle.lent.specs.States.{state_fault, state_of, as_bytes, instant_number, start_bytes, next_bytes, last_number, LawfulState}
use Rattle.lent.proofs.Numbered.{numbered_state, number_round}
use Rattle.instant_state.specs.declared.Standing.{Standing}
use Rattle.instant_state.specs.Standing.{state_in}
use Rattle.journal_form.specs.Form.{Good, form_of}
use Rattle.journal_instants.specs.Instants.{instants_in, inputs_in}
use Rattle.journal_instants.specs.Parts.{part_at}
use Rattle.journal_instants.proofs.Parts.{instants_end}
use Rattle.journal_words.specs.History.{entry}
use Rattle.journal_words.specs.Formed.{Formed}
use Rattle.journal_words.proofs.Forms.{good_instants}
use Rattle.journal_step.specs.AnswerIn.{answer_in}
use Rattle.journal_step.specs.Reply.{Reply}
use Rattle.refusals.specs.Refused.{Next as Unlawful, Differs}
use Rattle.journal_step.specs.Reply.{Accepted}
use Rattle.journal_step.proofs.Reading.{Reading, reading_none, Next, reading_next}
use Rattle.journal_step.proofs.Starts.{start_lawful}
use Rattle.journal_check.specs.declared.Mismatch.TheVariants.{Unlawful as NextUnlawful, Differs as OtherWords}
use Rattle.journal_check.specs.Check.{same, check_from}
use Rattle.journal_check.specs.JournalCheckCall.{checked}
use Rattle.journal_check.specs.Held.{Accepts, Held}

pub record Checking (score journal : List ℕ) (stands : Standing) (n at : ℕ) : Type 0 where
  pub state : List ℕ
  pub whole : checked score journal ≡ check_from score state n (instants_in (words (drop at journal)))
  pub stands_for : state_of state ≡ state_in stands
  pub number_is : instant_number state ≡ n
  pub few : n ≤ last_number
  pub lawful : LawfulState (sizes score).agents (state_in stands)
  pub counted : n ≤ at
  pub reading : Reading (sizes score).tokens journal at
  pub formed : (ws : List ℕ) → Memᴰ ws (instants_in (words (drop at journal))) → Formed (sizes score).tokens ws

pub checking_none : (score journal : List ℕ) (stands : Standing) → Playable score → form_of true (sizes score).tokens journal ≡ Good → ((i : ℕ) → get_or journal i 0 < 2 ^ 8) →
    state_in stands ≡ state_of (as_bytes (start_state (decode score))) → Checking score journal stands 0 0
checking_none score journal stands p good small e = record {
  state = start_bytes (decode score);
  whole = refl;
  stands_for = numbered_state (start_state (decode score)) 0 ∙ sym e;
  number_is = number_round (start_state (decode score)) 0 (omega arith);
  few = omega arith;
  lawful = subst⁻¹ (LawfulState (sizes score).agents) e (start_lawful score p);
  counted = omega arith;
  reading = reading_none true (sizes score).tokens journal good;
  formed = λ ws m. (good_instants true (sizes score).tokens journal good small ws m).formed;
}

pub checking_end : {score journal : List ℕ} {stands : Standing} {n at : ℕ} → Checking score journal stands n at → length journal ≤ at → Accepted n ≡ checked score journal
unfolding check_from
checking_end {score} {journal} {n = n} {at = at} c le = sym (c.whole ∙ ap (check_from score c.state n) (instants_end (drop at journal) (omega (arith, length-drop at journal))))

pub record Turn (score journal : List ℕ) (stands : Standing) (n at : ℕ) (here : List ℕ) : Type 0 where
  pub checking : Checking score journal stands n at
  pub not_end : at < length journal
  pub is : here ≡ part_at Good journal at

module _ {score journal : List ℕ} {stands : Standing} {n at : ℕ} {here : List ℕ} (t : Turn score journal stands n at here) where
  pub next : Next (sizes score).tokens journal at here
  next = subst⁻¹ (Next (sizes score).tokens journal at) t.is (reading_next (sizes score).tokens journal at t.checking.reading t.not_end)

  pub first_formed : Formed (sizes score).tokens (words here)
  first_formed = t.checking.formed (words here) (subst⁻¹ (Memᴰ (words here)) next.instants (Memᴰ.head refl))

  abbrev now : Answer
  now = answer (decode score) (state_in stands) (inputs_in (words here))

  abbrev later : Reply
  later = check_from score (next_bytes t.checking.state now) (suc n) (instants_in (words (drop (at + length here) journal)))

  from_here : checked score journal ≡ cond (state_fault (sizes score).agents (as_bytes (after now))) Unlawful (cond (not (eqb n last_number) && same (words here) (entry (decode score) (inputs_in (words here)) now)) later (Differs n))
  unfolding check_from answer_in
  from_here =
      t.checking.whole ∙ ap (check_from score t.checking.state n) next.instants
      ∙ ap₂
      (λ st m.
      let x = answer (decode score) st (inputs_in (words here)) in
      cond (state_fault (sizes score).agents (as_bytes (after x))) Unlawful
      (cond (not (eqb m last_number) && same (words here) (entry (decode score) (inputs_in (words here)) x)) (check_from score (next_bytes t.checking.state x) (suc n) (instants_in (words (drop (at + length here) journal)))) (Differs n)))
      t.checking.stands_for t.checking.number_is

  by_words : {f w : Bool} → state_fault (sizes score).agents (as_bytes (after now)) ≡ f → same (words here) (entry (decode score) (inputs_in (words here)) now) ≡ w →
      checked score journal ≡ cond f Unlawful (cond (not (eqb n last_number) && w) later (Differs n))
  by_words f w = from_here ∙ ap₂ (λ x y. cond x Unlawful (cond (not (eqb n last_number) && y) later (Differs n))) f w

  pub checking_unlawful : Held score now (words here) (Err NextUnlawful) → Unlawful ≡ checked score journal
  checking_unlawful u = sym (by_words u refl)

  pub checking_differs : Held score now (words here) (Err OtherWords) → Differs n ≡ checked score journal
  checking_differs h = sym (by_words h.0 h.1 ∙ go (not (eqb n last_number)))
    where
      go : (b : Bool) → cond (b && false) later (Differs n) ≡ Differs n
      go true = refl
      go false = refl

  pub checking_last : {standing : Standing} → Accepts score now (words here) standing → n ≡ last_number → Differs n ≡ checked score journal
  checking_last h e = sym (by_words h.faultless h.same_words ∙ ap (λ b. cond (not b && true) later (Differs n)) (eq-eqb n last_number e))

  pub checking_more : {standing : Standing} → Accepts score now (words here) standing → (n ≡ last_number → ⊥) → Checking score journal standing (n + 1) (at + length here)
  checking_more h ne = record {
    state = next_bytes t.checking.state now;
    whole =
        by_words h.faultless h.same_words
        ∙ ap (λ b. cond (not b && true) later (Differs n)) (ne_eqb n last_number ne)
        ∙ ap (λ k. check_from score (next_bytes t.checking.state now) k (instants_in (words (drop (at + length here) journal)))) (sym (add-one n));
    stands_for = numbered_state (after now) (suc (instant_number t.checking.state)) ∙ sym h.stands;
    number_is = number_round (after now) (suc (instant_number t.checking.state)) (omega (arith, below, t.checking.number_is)) ∙ omega (arith, t.checking.number_is);
    few = omega (arith, below);
    lawful = h.lawful;
    counted = omega (arith, next.some, t.checking.counted);
    reading = next.follows;
    formed = λ ws m. t.checking.formed ws (subst⁻¹ (Memᴰ ws) next.instants (Memᴰ.tail m));
  }
    where
      below : n < last_number
      below = omega (arith, t.checking.few)
