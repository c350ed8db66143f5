-- The marked cases hold: antt runs the definitions on each. Of a refused call it runs the score check and what is asked
-- of one agent or token; the agents and tokens of whole buffers are found by the laws of crate lent. Of a run it runs the
-- score check, the form of the list and the instants from the start state, in place of those from the state's bytes.
use mathlib.Core.Path.{◌≡◌, refl, sym, ◌∙◌}
use mathlib.Core.Bool.{true, false}
use mathlib.Core.List.Memᴰ
use mathlib.Core.List.{List, [], ◌∷◌, ◌++◌}
use Prim.Native.Nat.{ℕ, ◌+◌, ◌*◌, ◌/◌, ◌%◌}
use native.Mathlib.Omega.{arith}
use lib.Dec.{leb}
use lib.ListN.{length, take, drop}
use Rattle.laws.specs.Sets.{any}
use Rattle.laws.proofs.Sets.{some_any, keep_kept, lt_below}
use Rattle.tcc.specs.Closure.{fires, firing, close_within, close}
use Rattle.tcc.specs.Unguarded.{met_from, circular}
use Rattle.tcc.specs.Instant.{running, reached, instant, output, answer, answers}
use Rattle.words.specs.Word.{words, word_at, field}
use Rattle.words.specs.Map.{in_map}
use Rattle.format.specs.Format.{is_word, decode_agent, is_rule}
use Rattle.format.specs.Decode.{sizes, decode}
use Rattle.check_verdicts.specs.Verdict.{Length}
use Rattle.check_verdicts.specs.Verdicts.{verdict_number}
use Rattle.check_verdicts.proofs.Verdicts.{accepted_only}
use Rattle.check_faults.specs.Faults.{word_verdict, first_fault, length_verdict}
use Rattle.check_circles.specs.Circles.{circle_from}
use Rattle.check_score.specs.Check.{verdict}
use Rattle.bits.specs.Bits.{bit_at, bits_value, bytes_of}
use Rattle.lent.specs.States.{agents_in, state_fault, agent_words, numbered, LawfulState}
use Rattle.lent.specs.Lengths.{state_bytes, map_bytes, scratch_bytes, no_scratch}
use Rattle.lent.proofs.Faults.{fault_running}
use Rattle.lent.proofs.Round.{lawful_bytes}
use Rattle.lent.proofs.Numbered.{numbered_fault}
use Rattle.lent_maps.specs.Maps.{tokens_in}
use Rattle.refusals.specs.Refused.{State, Input}
use Rattle.instant_call.specs.InstantCall.{Lent, lent, length_fault, token_fault, kept, exit}
use Rattle.journal_form.specs.Form.{Good, may_follow, first_against, form_of}
use Rattle.journal_instants.specs.Instants.{up_to, instants_in, tokens_of, input_lists}
use Rattle.journal_words.specs.History.{instant_words}
use Rattle.journal_run_list.specs.Run.{MayStop, Not, Room, Ran}
use Rattle.journal_run.specs.RunCall as run
use Rattle.claims_cases.specs.Cases.{bytes, turned_down, Holds, sample, state_with, input_with, listed, printed, Marked}
use Rattle.claims_cases.proofs.Runs.{play_on, exit_plays}

refused_length : (n : ℕ) → length_verdict n ≡ Length → (s : List ℕ) → length s ≡ n → verdict s ≡ Length
unfolding verdict
refused_length n e s h = rw (h, e)

lengths_right : (state input store output scratch : List ℕ) → length state ≡ state_bytes → length input ≡ map_bytes → length store ≡ map_bytes → length output ≡ map_bytes → length scratch ≡ scratch_bytes →
    length_fault input (lent state store output scratch) ≡ false
lengths_right state input store output scratch a b c d e = rw (a, b, c, d, e)

module _ (score input : List ℕ) (l : Lent) (accepted : verdict_number (verdict score) ≡ 0) (right : length_fault input l ≡ false) where
  bad_state : state_fault (sizes score).agents l.state ≡ true → exit score input l ≡ kept l State
  unfolding exit
  bad_state e = rw (accepted_only (verdict score) accepted, right, e)

  bad_input : state_fault (sizes score).agents l.state ≡ false → token_fault score input ≡ true → exit score input l ≡ kept l Input
  unfolding exit
  bad_input e t = rw (accepted_only (verdict score) accepted, right, e, t)

-- agent 5 is awake, of five agents
agent_5 : state_fault 5 (bytes (state_with 0x20 0)) ≡ true
unfolding words field agents_in
agent_5 =
    let s = bytes (state_with 0x20 0) in
    sym (fault_running 5 s refl) ∙ some_any (λ i. leb 5 i) (keep_kept (λ i. bit_at (word_at s (1 + i / 32)) (i % 32)) (lt_below 1024 {i = 5} (omega arith)) refl) refl

agent_4_bytes : bytes (state_with 0x10 0) ≡ numbered (running (4 ∷ [])) 0
unfolding numbered agent_words bits_value bytes_of
agent_4_bytes = refl

start_lawful : LawfulState 5 (running (4 ∷ []))
unfolding LawfulState
start_lawful i m = let e = Memᴰ.eq_of_singleton m in omega arith

agent_4 : state_fault 5 (bytes (state_with 0x10 0)) ≡ false
agent_4 = rw agent_4_bytes (numbered_fault (running (4 ∷ [])) 0 5 ∙ lawful_bytes 5 (omega arith) (running (4 ∷ [])) start_lawful)

-- token 4 is in the map, of four tokens
token_4 : any (λ t. leb 4 t) (tokens_in (input_with 0x10)) ≡ true
unfolding field in_map tokens_in
token_4 = some_any (λ t. leb 4 t) (keep_kept (in_map (input_with 0x10)) (lt_below 256 {i = 4} (omega arith)) refl) refl

sample_accepted : verdict_number (verdict (bytes sample)) ≡ 0
unfolding fires firing close_within close met_from circular words field is_word decode_agent is_rule decode word_verdict first_fault circle_from verdict
sample_accepted = refl

state_refused : Holds (turned_down sample (state_with 0x20 0) (input_with 0) State)
unfolding words field
state_refused store output scratch h i j =
    bad_state (bytes sample) (input_with 0) (lent (bytes (state_with 0x20 0)) store output scratch) sample_accepted
    (lengths_right (bytes (state_with 0x20 0)) (input_with 0) store output scratch refl refl h i j) agent_5

input_refused : Holds (turned_down sample (state_with 0x10 0) (input_with 0x10) Input)
unfolding words field
input_refused store output scratch h i j =
    bad_input (bytes sample) (input_with 0x10) (lent (bytes (state_with 0x10 0)) store output scratch) sample_accepted
    (lengths_right (bytes (state_with 0x10 0)) (input_with 0x10) store output scratch refl refl h i j) agent_4 token_4

-- the list has its form
listed_good : form_of false 4 (bytes listed) ≡ Good
unfolding words field is_word may_follow first_against form_of
listed_good = refl

-- a run of S from its start state, by what it does
sample_runs : (n : ℕ) (r : Ran) → play_on (decode (bytes sample)) (running (4 ∷ [])) 0 n (input_lists (bytes listed)) ≡ r →
    (journal scratch : List ℕ) → length journal ≡ n → length scratch ≡ scratch_bytes →
    run.exit (bytes sample) (bytes listed) (run.lent (numbered (running (4 ∷ [])) 0) journal scratch)
    ≡ record { lent = run.lent r.state (bytes_of r.words ++ drop (4 * length r.words) journal) no_scratch; reply = run.ending r.stop r.instants }
unfolding words field up_to instants_in tokens_of input_lists
sample_runs n r e journal scratch h i =
    exit_plays (bytes sample) sample_accepted (bytes listed) journal scratch (running (4 ∷ [])) start_lawful i listed_good (omega arith) ∙ rw (h, e) refl

-- what a run does that leaves agent 2 awake
abbrev ran : List ℕ → ℕ → MayStop → Ran
ran written n stop = record { words = written; state = bytes (state_with 0x4 n); instants = n; stop = stop }

pub marked : Marked
unfolding fires firing close_within close met_from circular reached instant output answer answers words field is_word decode_agent is_rule decode word_verdict first_fault circle_from verdict bits_value bytes_of agent_words numbered up_to instants_in tokens_of input_lists instant_words play_on
marked = (
  refl,
  (
    refl,
    (
      refused_length 0 refl,
      (
        refused_length 3 refl,
        (
          refused_length 5388 refl,
          (refl, (refl, (refl, (refl, (state_refused, (input_refused, (refl, (refl, (sample_runs 16 (ran (take 4 printed) 2 Room) refl, (sample_runs 12 (ran (take 3 printed) 1 Room) refl, (sample_runs 36 (ran printed 3 Not) refl, (refl, (refl, (refl, (refl, tt))))))))))))))),
        ),
      ),
    ),
  ),
)
