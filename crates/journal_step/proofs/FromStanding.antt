-- An instant from where a score stands, by what its parts return.
--     told_set, told_known
--                      flags read from rising tokens are those tokens, and none from T on
--     inside           what the answer names is the score's
--     stepped          what the parts return is the instant
--     status_few       its status is 0, 1 or 2
--     outputs_known    no output is flagged from T on
--     words_are        its words are those of the definition
use mathlib.Core.Path.{◌≡◌, ap, ap₂, subst⁻¹, ◌∙◌}
use mathlib.Core.Bool.{Bool, false, not}
use mathlib.Core.List.{List, Memᴰ}
use Prim.Native.Nat.{ℕ, ◌<◌, ◌≤◌}
use native.Mathlib.Omega.{arith}
use native.Mathlib.Decide.{dec_lt}
use lib.Dec.{eqb, leb}
use lib.ListN.{length, get_or}
use Rattle.laws.specs.Sets.{any}
use Rattle.laws.proofs.Booleans.{true_is_false}
use Rattle.tcc.specs.Score.{Score}
use Rattle.tcc.specs.Instant.{State, Answer, output, answer, after}
use Rattle.tcc.proofs.Output.{output_from}
use Rattle.tcc.proofs.Status.{answer_status}
use Rattle.format.specs.Decode.{sizes, decode}
use Rattle.format.specs.Playable.{Playable}
use Rattle.format.proofs.Decode.{playable_agents, decode_tokens}
use Rattle.flags.specs.Flags.{set_of, flags_of}
use Rattle.flags.proofs.Flags.{member_flag}
use Rattle.instant_engine.specs.declared.Outcome.{Outcome}
use Rattle.instant_engine.specs.Outcome.{outcome_of}
use Rattle.lent.specs.States.{state_of, as_bytes, LawfulState}
use Rattle.instant_state.specs.declared.Standing.{Standing}
use Rattle.instant_state.specs.Standing.{state_in}
use Rattle.instant_state.proofs.Inside.{Inside, answer_inside, flags_known}
use Rattle.journal_words.specs.History.{instant_words, entry, RisingBelow}
use Rattle.journal_words.proofs.Rising.{rising_set, output_rising}
use Rattle.journal_step.specs.declared.Step.{Step}
use Rattle.journal_step.specs.Stepped.{Stepped}
use Rattle.journal_step.proofs.Steps.{stands_after, stands_lawful, output_so, never_unlawful}

-- ---- what is told to an instant

module _ (tokens : ℕ) (few : tokens ≤ 256) {told : List Bool} {inputs : List ℕ} (read : told ≡ flags_of 256 inputs) (rising : RisingBelow tokens inputs) where
  pub told_set : set_of told ≡ inputs
  told_set = ap set_of read ∙ rising_set 256 tokens inputs few rising

  pub told_known : (t : ℕ) → tokens ≤ t → get_or told t false ≡ false
  told_known t le = ap (λ l. get_or l t false) read ∙ flags_known 256 tokens inputs rising.below t le

told_below : (n : ℕ) (told : List Bool) → ((t : ℕ) → n ≤ t → get_or told t false ≡ false) → (t : ℕ) → Memᴰ t (set_of told) → t < n
told_below n told known t m = go (dec_lt t n)
  where
    go : Dec (t < n) → t < n
    go (yes h) = h
    go (no h) = absurd (true_is_false (member_flag told m) (known t (omega arith)))

-- ---- the instant

module _ (score : List ℕ) (p : Playable score) (st : State) (law : LawfulState (sizes score).agents st)
    (told : List Bool) (known : (t : ℕ) → (sizes score).tokens ≤ t → get_or told t false ≡ false) where
  abbrev sc : Score
  sc = decode score

  abbrev a : Answer
  a = answer sc st (set_of told)

  pub inside : Inside sc a
  inside =
      answer_inside sc st (set_of told) p.lawful (subst⁻¹ (λ n. LawfulState n st) (playable_agents score p) law)
      (λ t m. omega (arith, decode_tokens score, told_below (sizes score).tokens told known t m))

  few : length sc.agents ≤ 1024
  few = p.lawful.agents_at_most

  module _ (o : Outcome) (is : o ≡ outcome_of a) where
    standing_so : (s : Standing) → (s.running ≡ not (eqb o.status 2)) × (s.awake ≡ o.awake) → state_in s ≡ state_of (as_bytes (after a))
    unfolding outcome_of
    standing_so s e = ap state_in (at ∙ ap (λ x. record { running = not (eqb x.status 2); awake = x.awake }) is) ∙ stands_after sc a few inside
      where
        at : s ≡ record { running = not (eqb o.status 2); awake = o.awake }
        at = λ i. record { running = e.0 i; awake = e.1 i }

    pub stepped : (s : Step) → s.status ≡ o.status → s.out ≡ flags_of 256 (output sc o.status (set_of o.store)) →
        s.unlawful ≡ any (λ i. leb (sizes score).agents i) (set_of o.awake) →
        (s.standing.running ≡ not (eqb o.status 2)) × (s.standing.awake ≡ o.awake) →
        Stepped score a s
    unfolding outcome_of
    stepped s e sends u stands = record {
      status_is = e ∙ ap (λ x. x.status) is;
      out_is = sends ∙ ap (λ x. flags_of 256 (output sc x.status (set_of x.store))) is ∙ ap (flags_of 256) (output_so sc a few inside p.lawful);
      unlawful_is = u ∙ ap (λ x. any (λ i. leb (sizes score).agents i) (set_of x.awake)) is ∙ never_unlawful sc a few inside (sizes score).agents (playable_agents score p);
      stands = standing_so s.standing stands;
      lawful = subst⁻¹ (LawfulState (sizes score).agents) (standing_so s.standing stands) (stands_lawful sc a few inside (sizes score).agents (playable_agents score p));
    }

-- ---- what such an instant has

module _ (score : List ℕ) (p : Playable score) (st : State) (inputs : List ℕ) {s : Step} (h : Stepped score (answer (decode score) st inputs) s) where
  abbrev sends : List ℕ
  sends = output (decode score) (answer (decode score) st inputs).status (answer (decode score) st inputs).store

  pub status_few : s.status < 3
  status_few = omega (arith, h.status_is, answer_status (decode score) st inputs)

  pub outputs_known : (t : ℕ) → (sizes score).tokens ≤ t → get_or s.out t false ≡ false
  outputs_known t le =
      ap (λ l. get_or l t false) h.out_is
      ∙ flags_known 256 (decode score).tokens sends
      (λ u m. omega (arith, (output_from (decode score) _ _ u m).high, p.lawful.ports_known)) t (omega (arith, decode_tokens score))

  pub words_are : instant_words s.status inputs (set_of s.out) ≡ entry (decode score) inputs (answer (decode score) st inputs)
  words_are =
      ap₂ (λ x l. instant_words x inputs (set_of l)) h.status_is h.out_is
      ∙ ap (instant_words (answer (decode score) st inputs).status inputs)
      (rising_set 256 (decode score).tokens sends p.lawful.tokens_at_most (output_rising (decode score) _ _ p.lawful.ports_ordered p.lawful.ports_known))
