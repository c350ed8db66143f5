-- Instant calls, over and over.
--     played_instant       an accepted instant call on the map of rising tokens has those tokens as its inputs
--     plays_linked         such calls, each from the state that the one before left, are instants in a row
--     lengths_right        buffers of the right lengths pass the test of number 8
--     plays                from a state without fault there are such calls along the instants that a run writes
use mathlib.Core.Path.{◌≡◌, refl, sym, ap, subst, subst⁻¹, ◌∙◌}
use mathlib.Core.Bool.{false}
use mathlib.Core.List.Memᴰ
use mathlib.Core.List.{List, [], ◌∷◌}
use Prim.Native.Nat.{ℕ, suc, ◌*◌, ◌-◌}
use native.Mathlib.Omega.{arith}
use lib.ListN.{length, take, replicate, length-replicate}
use Rattle.tcc.specs.Instant.{Answer, after}
use Rattle.format.specs.Decode.{sizes, decode}
use Rattle.format.proofs.Decode.{decode_tokens, sizes_few}
use Rattle.check_verdicts.specs.Verdicts.{verdict_number}
use Rattle.check_score.specs.Check as check
use Rattle.lent.specs.Lengths.{state_bytes, map_bytes, scratch_bytes, no_scratch}
use Rattle.lent.specs.States.{state_fault, instant_number, next_bytes, at_last}
use Rattle.lent.proofs.Numbered.{numbered_length, numbered_fault}
use Rattle.lent_maps.specs.Maps.{tokens_in, map_of}
use Rattle.lent_maps.proofs.Round.{map_of_length}
use Rattle.instant_call.specs.InstantCall.{Lent, lent, length_fault, exit}
use Rattle.instant_call.proofs.Exits.{Lengths-are}
use Rattle.journal_words.specs.History.{entry, RisingBelow}
use Rattle.journal_words.proofs.Rising.{rising_map}
use Rattle.journal_step.specs.AnswerIn.{answer_in}
use Rattle.journal_run_list.specs.Run.{MayStop, Not, Next, Last, Room, stop_at, Ran, unless_stopped, run_from}
use Rattle.journal_run_list.proofs.Took.{not_last}
use Rattle.score_answer.specs.Answer.{number_in, packed}
use Rattle.score_answer.specs.Replies.{of_reply}
use Rattle.score.specs.ScoreInstant.{ScoreInstant}
use Rattle.claims_demands.specs.Calls.{Answered, answered_by, Plays, none, then}
use Rattle.claims_demands.proofs.Accepted.{given, Known, known_input, next_faultless}
use Rattle.claims_demands.proofs.Instants.{IsInstant, accepted_instant, settled_instant}
use Rattle.claims_demands.proofs.Linked.{Linked}
use Rattle.claims_demands.proofs.Linked as linked
use Rattle.claims_demands.proofs.RunExit.{Rises}

lengths_right : (input : List ℕ) (l : Lent) → Lengths-are input l → length_fault input l ≡ false
lengths_right input l r = rw (r.state_long, r.input_long, r.store_long, r.output_long, r.scratch_long)

module _ (score : List ℕ) where
  tokens_back : {inputs : List ℕ} → RisingBelow (decode score).tokens inputs → tokens_in (map_of inputs) ≡ inputs
  tokens_back {inputs} r = rising_map (decode score).tokens inputs (omega (arith, decode_tokens score, (sizes_few score).0)) r

  pub played_instant : {inputs : List ℕ} {l m : Lent} {a : ℕ} → RisingBelow (decode score).tokens inputs → ScoreInstant score (map_of inputs) l m a → number_in a ≡ 0 → IsInstant score (answered_by inputs l m a)
  played_instant {inputs} {l} {m} {a} r c n = subst (λ x. IsInstant score (answered_by x l m a)) (tokens_back r) (accepted_instant c n)

  pub plays_linked : {s last : List ℕ} {lists : List (List ℕ)} {played : List Answered} → Rises score lists → Plays score s lists played last → Linked score s played last
  plays_linked rises none = linked.none
  plays_linked rises (then {inputs = inputs} at c n x) = linked.then at (played_instant (rises inputs (Memᴰ.head refl)) c n) (plays_linked (λ l m. rises l (Memᴰ.tail m)) x)

  module _ (accepted : verdict_number (check.verdict score) ≡ 0) where
    -- the instants of a list, so many of them
    abbrev Some : List ℕ → ℕ → List (List ℕ) → Type 0
    Some s n lists = (played : List Answered) × (last : List ℕ) × Plays score s (take n lists) played last

    pub plays : (lists : List (List ℕ)) → Rises score lists → (s : List ℕ) → length s ≡ state_bytes → state_fault (sizes score).agents s ≡ false → (room : ℕ) → Some s (run_from score s room lists).instants lists
    unfolding run_from answer_in
    plays [] rises s long faultless _ = ([], s, none)
    plays (inputs ∷ more) rises s long faultless room =
        go (stop_at score (at_last s) a (4 * length words) room) (not_last score (at_last s) a (4 * length words) room)
        (run_from score (next_bytes s a) (room - 4 * length words) more)
        (plays more (λ l m. rises l (Memᴰ.tail m)) (next_bytes s a) (numbered_length (after a) (suc (instant_number s))) follows (room - 4 * length words))
      where
        a : Answer
        a = given score s inputs

        words : List ℕ
        words = entry (decode score) inputs a

        rising : RisingBelow (decode score).tokens inputs
        rising = rises inputs (Memᴰ.head refl)

        before : Lent
        before = lent s (replicate map_bytes 0) (replicate map_bytes 0) no_scratch

        behind : Lent
        behind = (exit score (map_of inputs) before).lent

        answer : ℕ
        answer = packed (of_reply (exit score (map_of inputs) before).reply)

        called : ScoreInstant score (map_of inputs) before behind answer
        called = record { written = refl; answered = refl }

        follows : state_fault (sizes score).agents (next_bytes s a) ≡ false
        follows = numbered_fault (after a) (suc (instant_number s)) (sizes score).agents ∙ next_faultless score accepted s faultless inputs rising.below

        answers : at_last s ≡ false → number_in answer ≡ 0
        answers below = settled_instant called (record {
          accepted = accepted;
          long = lengths_right (map_of inputs) before (record {
            state_long = long;
            input_long = map_of_length inputs;
            store_long = length-replicate {A = ℕ} map_bytes 0;
            output_long = length-replicate {A = ℕ} map_bytes 0;
            scratch_long = length-replicate {A = ℕ} scratch_bytes 0;
          });
          faultless = faultless;
          known = known_input score (map_of inputs) (subst⁻¹ (Known score) (tokens_back rising) rising.below);
          below = below;
        })

        go : (stop : MayStop) → (stop ≡ Not → at_last s ≡ false) → (r : Ran) → Some (next_bytes s a) r.instants more → Some s (unless_stopped stop s words r).instants (inputs ∷ more)
        go Not below r rest =
            let n = answers (below refl) in
            let ends : next_bytes s a ≡ behind.state = sym (ap (λ q. q.after) (played_instant rising called n).is) in
            (answered_by inputs before behind answer ∷ rest.0, rest.1, then refl called n (subst (λ t. Plays score t (take r.instants more) rest.0 rest.1) ends rest.2))
        go Next below r rest = ([], s, none)
        go Last below r rest = ([], s, none)
        go Room below r rest = ([], s, none)
