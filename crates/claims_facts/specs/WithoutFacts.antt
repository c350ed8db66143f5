-- "Scores without such words keep their journals byte for byte." A rule word before there were facts, and with it the score
-- check, what a score stands for, and what each call does with every buffer lent, written out as they were.
--     rule_before, rule_verdict_before  the rule of a word, and rows 4 and 5 at it
--     verdict_before, decode_before     the score check, and the score that bytes stand for
--     instant_before                    the instant call
--     run_from_before, run_before       the run, instant by instant and as a call
--     check_from_before, check_before   the journal check likewise
--     WordBefore                        a word has the rule and the verdict of before
--     NoFact                            a score has no rule word with bit 27 set
--     CallsBefore                       every call does with a score what it did, in every byte, and answers as it did
--     WithoutFacts                      so with each word with bit 27 clear, and with each score without a fact
use Rattle.std.specs.Prelude.{◌≡◌, cond, true, false, not, ◌&&◌, List, [], ◌∷◌, map, ℕ, suc, ◌+◌, ◌-◌, ◌*◌, ◌<◌, ◌≤◌, eqb, ltb, length, take, drop}
use Rattle.tcc.specs.Closure.{Rule}
use Rattle.tcc.specs.Score.{Score}
use Rattle.tcc.specs.Instant.{Answer, answer, after}
use Rattle.words.specs.Word.{field, kind, words, word_at}
use Rattle.format.specs.declared.Sizes.{Sizes}
use Rattle.format.specs.Format.{is_word, agent_of, decode_agent, rule_of}
use Rattle.format.specs.Decode.{sizes, decode}
use Rattle.check_verdicts.specs.Verdict.{Verdict, Accepted}
use Rattle.check_verdicts.specs.Verdicts.{verdict_number, or_else, by_verdict}
use Rattle.check_words.specs.WordFaults.{at_word, ports_verdict, agent_verdict, root_verdict, rule_verdict}
use Rattle.check_faults.specs.Faults.{length_verdict, head_verdict, count_verdict}
use Rattle.check_circles.specs.Circles.{circle_from}
use Rattle.check_score.specs.Check.{verdict}
use Rattle.lent.specs.Lengths.{scratch_bytes, no_scratch}
use Rattle.lent.specs.States.{state_fault, state_of, as_bytes, start_bytes, next_bytes, at_last}
use Rattle.lent_maps.specs.Maps.{tokens_in}
use Rattle.instant_call.specs.InstantCall.{Lent, Exit, length_fault, token_fault, kept, cleared, answered}
use Rattle.refusals.specs.Refused.{Turned, Lengths, State as NoState, Input, Differs, Last, Next}
use Rattle.journal_form.specs.Form.{form_of}
use Rattle.journal_instants.specs.Instants.{instants_in, inputs_in, input_lists}
use Rattle.journal_words.specs.History.{entry}
use Rattle.journal_step.specs.Reply as history
use Rattle.journal_step.specs.ByForm.{by_form}
use Rattle.journal_run_list.specs.Run.{Not, Ran, stop_at, stopped, unless_stopped}
use Rattle.journal_run.specs.RunCall as run
use Rattle.journal_check.specs.Check.{same}
use Rattle.journal_check.specs.JournalCheckCall as journalcheck
use Rattle.score_answer.specs.Answer.{packed}
use Rattle.score_answer.specs.Replies.{of_verdict, of_reply, of_run_reply}
use Rattle.score.specs.CheckCall.{CheckCall}
use Rattle.score.specs.ScoreInstant.{ScoreInstant}
use Rattle.score.specs.ScoreRun.{ScoreRun}
use Rattle.score.specs.ScoreJournalCheck.{ScoreJournalCheck}

-- "conclusion 7..0, premises 15..8 and 23..16"
abbrev pub rule_before : ℕ → Rule ℕ
rule_before w = record { premises = field w 8 8 ∷ field w 16 8 ∷ []; conclusion = field w 0 8 }

abbrev pub rule_verdict_before : Sizes → ℕ → ℕ → Verdict
rule_verdict_before h k w = at_word h k (is_word 2 24 w) (field w 0 8 ∷ field w 8 8 ∷ field w 16 8 ∷ []) false

abbrev pub word_verdict_before : Sizes → ℕ → ℕ → Verdict
word_verdict_before h k w =
    cond (ltb k 2) (ports_verdict h k w)
    (cond (ltb k (2 + h.agents)) (agent_verdict h (k - 2) (decode_agent w))
    (cond (ltb k (2 + h.agents + h.procedures)) (root_verdict h k w)
    (rule_verdict_before h k w)))

abbrev pub first_fault_before : Sizes → ℕ → List ℕ → Verdict
first_fault_before h k [] = Accepted
first_fault_before h k (w ∷ ws) = or_else (word_verdict_before h k w) (first_fault_before h (suc k) ws)

abbrev pub decode_before : List ℕ → Score
decode_before s =
    record {
      tokens = (sizes s).tokens;
      lowest_port = field (word_at s 1) 0 8;
      highest_port = field (word_at s 1) 8 8;
      agents = map agent_of (take (sizes s).agents (drop 2 (words s)));
      roots = map (λ w. field w 0 10) (take (sizes s).procedures (drop (2 + (sizes s).agents) (words s)));
      rules = map rule_before (drop (2 + (sizes s).agents + (sizes s).procedures) (words s));
    }

abbrev pub verdict_before : List ℕ → Verdict
verdict_before s =
    or_else (length_verdict (length s))
    (or_else (head_verdict (word_at s 0))
    (or_else (count_verdict (sizes s) (length (words s)))
    (or_else (first_fault_before (sizes s) 1 (drop 1 (words s)))
    (circle_from (decode_before s) 0 (length (decode_before s).roots)))))

abbrev pub played_before : List ℕ → Lent → Answer → Exit
played_before score l a = cond (state_fault (sizes score).agents (as_bytes (after a))) (cleared l Next) (answered (decode_before score) l.state a)

abbrev pub instant_before : List ℕ → List ℕ → Lent → Exit
instant_before score input l =
    by_verdict (verdict_before score) (λ f. kept l (Turned f))
    (cond (length_fault input l) (kept l Lengths)
    (cond (state_fault (sizes score).agents l.state) (kept l NoState)
    (cond (token_fault score input) (kept l Input)
    (cond (at_last l.state) (kept l (Last 0))
    (played_before score l (answer (decode_before score) (state_of l.state) (tokens_in input)))))))

abbrev pub run_from_before : List ℕ → List ℕ → ℕ → List (List ℕ) → Ran
run_from_before score state room [] = stopped state Not
run_from_before score state room (inputs ∷ more) =
    let a = answer (decode_before score) (state_of state) inputs in
    let e = entry (decode_before score) inputs a in
    unless_stopped (stop_at score (at_last state) a (4 * length e) room) state e (run_from_before score (next_bytes state a) (room - 4 * length e) more)

abbrev pub run_before : List ℕ → List ℕ → run.Lent → run.Exit
run_before score inputs l =
    by_verdict (verdict_before score) (λ f. run.kept l (Turned f))
    (cond (run.length_fault l) (run.kept l Lengths)
    (cond (state_fault (sizes score).agents l.state) (run.kept l NoState)
    (by_form (form_of false (sizes score).tokens inputs) (run.kept l)
    (run.ended l (run_from_before score l.state (length l.journal) (input_lists inputs))))))

abbrev pub check_from_before : List ℕ → List ℕ → ℕ → List (List ℕ) → history.Reply
check_from_before score state read [] = history.Accepted read
check_from_before score state read (ws ∷ more) =
    let a = answer (decode_before score) (state_of state) (inputs_in ws) in
    cond (state_fault (sizes score).agents (as_bytes (after a))) Next
    (cond (not (at_last state) && same ws (entry (decode_before score) (inputs_in ws) a)) (check_from_before score (next_bytes state a) (suc read) more) (Differs read))

abbrev pub check_before : List ℕ → List ℕ → List ℕ → journalcheck.Exit
check_before score journal scratch =
    by_verdict (verdict_before score) (λ f. journalcheck.left scratch (Turned f))
    (cond (not (eqb (length scratch) scratch_bytes)) (journalcheck.left scratch Lengths)
    (by_form (form_of true (sizes score).tokens journal) (journalcheck.left scratch)
    (journalcheck.left no_scratch (check_from_before score (start_bytes (decode_before score)) 0 (instants_in (words journal))))))

pub record WordBefore (w : ℕ) : Type 0 where
  pub rule : rule_of w ≡ rule_before w
  pub verdict : (h : Sizes) (k : ℕ) → rule_verdict h k w ≡ rule_verdict_before h k w

abbrev pub NoFact : List ℕ → Type 0
NoFact s = (k : ℕ) → 2 + (sizes s).agents + (sizes s).procedures ≤ k → k < length (words s) → kind (word_at s k) ≡ 2 → field (word_at s k) 27 1 ≡ 0

pub record CallsBefore (score : List ℕ) : Type 0 where
  pub verdict_is : verdict score ≡ verdict_before score
  pub score_is : verdict_number (verdict_before score) ≡ 0 → decode score ≡ decode_before score
  pub checks : (a : ℕ) → CheckCall score a → a ≡ packed (of_verdict (verdict_before score))
  pub instants : (input : List ℕ) (l m : Lent) (a : ℕ) → ScoreInstant score input l m a →
      (m ≡ (instant_before score input l).lent) × (a ≡ packed (of_reply (instant_before score input l).reply))
  pub runs : (inputs : List ℕ) (l m : run.Lent) (a : ℕ) → ScoreRun score inputs l m a →
      (m ≡ (run_before score inputs l).lent) × (a ≡ packed (of_run_reply (run_before score inputs l).reply))
  pub journals : (journal l m : List ℕ) (a : ℕ) → ScoreJournalCheck score journal l m a →
      (m ≡ (check_before score journal l).scratch) × (a ≡ packed (of_run_reply (check_before score journal l).reply))

abbrev pub WithoutFacts : Type 0
WithoutFacts = ((w : ℕ) → field w 27 1 ≡ 0 → WordBefore w) × ((score : List ℕ) → NoFact score → CallsBefore score)
