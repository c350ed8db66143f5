-- A run half way: what it wrote, and what it has still to do.
--     behind           words and a count before what a run does from here on
--     Half             the invariant: the whole run is what was written and the run from here on
--     half_none        before the first instant
--     half_more        one instant more
--     half_stopped     an instant that is not written ends the run
--     room_is, put_back
--                      the part of the journal that is lent to an instant
--     half_ended       so does the end of the list
use mathlib.Core.Path.{◌≡◌, refl, sym, ap, ap₂, subst, ◌∙◌}
use mathlib.Core.Bool.{cond}
use mathlib.Core.List.{List, [], ◌∷◌, ◌++◌, append_assoc, append-nil}
use Prim.Native.Nat.{ℕ, suc, ◌+◌, ◌*◌, ◌-◌, ◌<◌, ◌≤◌}
use native.Mathlib.Omega.{arith}
use borrow.Author.Tests.{ne_eqb}
use lib.Dec.{eqb}
use lib.ListN.{length, take, drop, length-append, length-drop, take-append-drop}
use lib.Seq.{take_at, drop-append-add, drop-drop, drop-length, take_all}
use borrow.Rule.Slice.PartMut.{put_mid, Post-is}
use Rattle.tcc.specs.Instant.{Answer, answer, after}
use Rattle.format.specs.Decode.{sizes, decode}
use Rattle.bits.specs.Bits.{bytes_of}
use Rattle.bits.proofs.Bytes.{bytes_of_length, bytes_of_append, put_front}
use Rattle.lent.specs.States.{state_of, as_bytes, instant_number, numbered, next_bytes, last_number, LawfulState, SameState}
use Rattle.lent.proofs.Numbered.{numbered_state, numbered_same, number_round}
use Rattle.instant_state.specs.Standing.{state_in}
use Rattle.instant_state.specs.declared.Standing.{Standing}
use Rattle.journal_instants.specs.Instants.{input_lists}
use Rattle.journal_words.specs.History.{entry}
use Rattle.journal_step.specs.AnswerIn.{answer_in}
use Rattle.std.specs.Prelude.{Err}
use Rattle.journal_run_list.specs.declared.Stop.{Stop}
use Rattle.journal_run_list.specs.declared.Stop.TheVariants as Why
use Rattle.journal_run_list.specs.declared.Taken.{Taken}
use Rattle.journal_run_list.specs.declared.Ended.{Ended}
use Rattle.journal_run_list.specs.Run.{MayStop, Not, stop_at, Ran, stopped, preceded, unless_stopped, run_from}
use Rattle.journal_run_list.specs.Advance.{Wrote, Refused, RanTo}

abbrev pub behind : List ℕ → ℕ → Ran → Ran
behind ws n r = record { words = ws ++ r.words; state = r.state; instants = n + r.instants; stop = r.stop }

pub record Half (score inputs s₀ j₀ journal : List ℕ) (stands : Standing) (number n at filled : ℕ) : Type 0 where
  pub words : List ℕ
  pub state : List ℕ
  pub whole : run_from score s₀ (length j₀) (input_lists inputs) ≡ behind words n (run_from score state (length j₀ - filled) (input_lists (drop at inputs)))
  pub filled_is : filled ≡ 4 * length words
  pub journal_is : journal ≡ bytes_of words ++ drop (4 * length words) j₀
  pub stands_for : state_of state ≡ state_in stands
  pub number_is : instant_number state ≡ number
  pub state_is : state ≡ cond (eqb n 0) s₀ (numbered (state_in stands) number)

behind_none : (r : Ran) → r ≡ behind [] 0 r
behind_none r =
    let i : r.instants ≡ 0 + r.instants = omega arith in
    λ k. record { words = r.words; state = r.state; instants = i k; stop = r.stop }

pub half_none : (score inputs s₀ j₀ : List ℕ) (stands : Standing) (number : ℕ) → state_of s₀ ≡ state_in stands → instant_number s₀ ≡ number → Half score inputs s₀ j₀ j₀ stands number 0 0 0
unfolding bytes_of
half_none score inputs s₀ j₀ stands number e m =
    let z : length j₀ ≡ length j₀ - 0 = omega arith in
    record { words = []; state = s₀; whole = ap (λ m. run_from score s₀ m (input_lists inputs)) z ∙ behind_none _; filled_is = refl; journal_is = refl; stands_for = e; number_is = m; state_is = refl }

-- the words of an instant put behind those before it
put_behind : (ws e j₀ journal : List ℕ) (filled : ℕ) → filled ≡ 4 * length ws → journal ≡ put_front ws j₀ →
    take filled journal ++ (bytes_of e ++ drop (4 * length e) (drop filled journal)) ≡ put_front (ws ++ e) j₀
put_behind ws e j₀ journal filled f j =
    ap₂ (λ n k. take n k ++ (bytes_of e ++ drop (4 * length e) (drop n k))) (f ∙ sym (bytes_of_length ws)) j
    ∙ ap₂ (λ l k. l ++ (bytes_of e ++ k)) (take_at (bytes_of ws) _ (length (bytes_of ws)) refl) later
    ∙ sym (append_assoc (bytes_of ws) (bytes_of e) _)
    ∙ ap₂ ◌++◌ (sym (bytes_of_append ws e)) (ap (λ k. drop k j₀) more)
  where
    later : drop (4 * length e) (drop (length (bytes_of ws)) (put_front ws j₀)) ≡ drop (4 * length ws + 4 * length e) j₀
    later =
        drop-drop (4 * length e) (length (bytes_of ws)) (put_front ws j₀)
        ∙ drop-append-add (bytes_of ws) (drop (4 * length ws) j₀) (4 * length e)
        ∙ drop-drop (4 * length e) (4 * length ws) j₀

    more : 4 * length ws + 4 * length e ≡ 4 * length (ws ++ e)
    more = omega (arith, length-append ws e)

-- the part of the journal that is lent to an instant, and what comes back
pub room_is : (journal : List ℕ) (filled : ℕ) → take (length journal - filled) (drop filled journal) ≡ drop filled journal
room_is journal filled = take_all (length journal - filled) (drop filled journal) (omega (arith, length-drop filled journal))

pub put_back : (journal part : List ℕ) (filled : ℕ) → filled ≤ length journal → put_mid filled (length journal - filled) journal part ≡ take filled journal ++ part
put_back journal part filled h =
    ap (λ l. take filled journal ++ (part ++ l)) (Post-is filled (length journal) journal h ∙ drop-length journal)
    ∙ ap (λ l. take filled journal ++ l) (append-nil part)

-- a count that is not none
counted : (n : ℕ) {A : Type 0} (x y : A) → y ≡ cond (eqb (n + 1) 0) x y
counted n x y = sym (ap (λ b. cond b x y) (ne_eqb (n + 1) 0 (λ z. omega arith)))

behind_more : (ws e : List ℕ) (n : ℕ) (r : Ran) → behind ws n (preceded e r) ≡ behind (ws ++ e) (n + 1) r
behind_more ws e n r =
    let i : n + suc r.instants ≡ n + 1 + r.instants = omega arith in
    λ k. record { words = sym (append_assoc ws e r.words) k; state = r.state; instants = i k; stop = r.stop }

behind_stopped : (ws state : List ℕ) (n : ℕ) (why : MayStop) → behind ws n (stopped state why) ≡ record { words = ws; state = state; instants = n; stop = why }
behind_stopped ws state n why =
    let i : n + 0 ≡ n = omega arith in
    λ k. record { words = append-nil ws k; state = state; instants = i k; stop = why }

unless_not : {stop : MayStop} (state e : List ℕ) (r : Ran) → stop ≡ Not → unless_stopped stop state e r ≡ preceded e r
unless_not state e r q = ap (λ x. unless_stopped x state e r) q

unless_stopped_lem : {stop : MayStop} (why : Stop) (state e : List ℕ) (r : Ran) → stop ≡ Err why → unless_stopped stop state e r ≡ stopped state (Err why)
unless_stopped_lem why state e r q = ap (λ x. unless_stopped x state e r) q ∙ go why
  where
    go : (w : Stop) → unless_stopped (Err w) state e r ≡ stopped state (Err w)
    go Why.Next = refl
    go Why.Last = refl
    go Why.Room = refl

module _ (score inputs s₀ j₀ journal : List ℕ) (stands : Standing) (number n at filled : ℕ) (half : Half score inputs s₀ j₀ journal stands number n at filled) where
  ended_as : (journal' : List ℕ) (e : Ended) → journal' ≡ journal → e.instants ≡ n → e.standing ≡ stands → e.number ≡ number → LawfulState (sizes score).agents (state_in stands) →
      run_from score half.state (length j₀ - filled) (input_lists (drop at inputs)) ≡ stopped half.state e.stop →
      RanTo score s₀ j₀ journal' (run_from score s₀ (length j₀) (input_lists inputs)) e
  ended_as journal' e j i st m law r = record {
    stop_is = ap (λ x. x.stop) w;
    instants_are = ap (λ x. x.instants) w ∙ sym i;
    journal_is = j ∙ half.journal_is ∙ sym (ap (λ x. bytes_of x.words ++ drop (4 * length x.words) j₀) w);
    state_is = ap (λ x. x.state) w ∙ half.state_is ∙ sym (ap₂ (λ k x. cond (eqb k 0) s₀ (numbered (state_in x) e.number)) i st ∙ ap (λ k. cond (eqb n 0) s₀ (numbered (state_in stands) k)) m);
    lawful = subst (λ x. LawfulState (sizes score).agents (state_in x)) (sym st) law;
  }
    where
      w : run_from score s₀ (length j₀) (input_lists inputs) ≡ record { words = half.words; state = half.state; instants = n; stop = e.stop }
      w = half.whole ∙ ap (behind half.words n) r ∙ behind_stopped half.words half.state n e.stop

  pub half_ended : (e : Ended) → e.stop ≡ Not → e.instants ≡ n → e.standing ≡ stands → e.number ≡ number → LawfulState (sizes score).agents (state_in stands) → input_lists (drop at inputs) ≡ [] →
      RanTo score s₀ j₀ journal (run_from score s₀ (length j₀) (input_lists inputs)) e
  unfolding run_from
  half_ended e q i st m law none = ended_as journal e refl i st m law (ap (run_from score half.state (length j₀ - filled)) none ∙ ap (stopped half.state) (sym q))

  module _ (told more_bytes : List ℕ) (lists : input_lists (drop at inputs) ≡ told ∷ input_lists more_bytes) where
    abbrev a : Answer
    a = answer (decode score) (state_in stands) told

    abbrev words_of : List ℕ
    words_of = entry (decode score) told a

    answer_is : answer_in score half.state told ≡ a
    unfolding answer_in
    answer_is = ap (λ st. answer (decode score) st told) half.stands_for

    from_here : run_from score half.state (length j₀ - filled) (input_lists (drop at inputs))
        ≡ unless_stopped (stop_at score (eqb number last_number) a (4 * length words_of) (length j₀ - filled)) half.state words_of (run_from score (next_bytes half.state a) (length j₀ - filled - 4 * length words_of) (input_lists more_bytes))
    unfolding run_from
    from_here = ap (run_from score half.state (length j₀ - filled)) lists
        ∙ ap₂ (λ x m. unless_stopped (stop_at score (eqb m last_number) x (4 * length (entry (decode score) told x)) (length j₀ - filled)) half.state (entry (decode score) told x)
        (run_from score (next_bytes half.state x) (length j₀ - filled - 4 * length (entry (decode score) told x)) (input_lists more_bytes))) answer_is half.number_is

    module _ (room : List ℕ) (long : length room ≡ length j₀ - filled) (room' : List ℕ) where
      stop_as : {stop : MayStop} → stop_at score (eqb number last_number) a (4 * length words_of) (length room) ≡ stop → stop_at score (eqb number last_number) a (4 * length words_of) (length j₀ - filled) ≡ stop
      stop_as e = ap (stop_at score (eqb number last_number) a (4 * length words_of)) (sym long) ∙ e

      pub half_more : room ≡ drop filled journal → (t : Taken) → Wrote score (eqb number last_number) a words_of room room' t → (more : ℕ) → drop more inputs ≡ more_bytes → SameState (state_of (as_bytes (after a))) (after a) → number < last_number →
          Half score inputs s₀ j₀ (take filled journal ++ room') t.standing (number + 1) (n + 1) more (filled + t.bytes)
      half_more r t took more d s' below = record {
        words = half.words ++ words_of;
        state = next_bytes half.state a;
        whole = half.whole
            ∙ ap (behind half.words n) (from_here ∙ unless_not half.state words_of _ (stop_as took.not_stopped))
            ∙ behind_more half.words words_of n _
            ∙ ap₂ (λ m l. behind (half.words ++ words_of) (n + 1) (run_from score (next_bytes half.state a) m (input_lists l))) bytes (sym d);
        filled_is = ap₂ ◌+◌ half.filled_is took.bytes_are ∙ length_four;
        journal_is = ap (λ l. take filled journal ++ l) (took.written ∙ ap (λ l. bytes_of words_of ++ drop (4 * length words_of) l) r) ∙ put_behind half.words words_of j₀ journal filled half.filled_is half.journal_is;
        stands_for = numbered_state (after a) (suc (instant_number half.state)) ∙ sym took.stands;
        number_is = number_round (after a) (suc (instant_number half.state)) (omega (arith, half.number_is)) ∙ next;
        state_is = counted n s₀ (next_bytes half.state a) ∙ ap (λ x. cond (eqb (n + 1) 0) s₀ x) (ap (numbered (after a)) next ∙ sym (ap (λ st. numbered st (number + 1)) took.stands ∙ numbered_same _ _ (number + 1) s'));
      }
        where
          next : suc (instant_number half.state) ≡ number + 1
          next = omega (arith, half.number_is)

          bytes : length j₀ - filled - 4 * length words_of ≡ length j₀ - (filled + t.bytes)
          bytes = omega (arith, took.bytes_are)

          length_four : 4 * length half.words + 4 * length words_of ≡ 4 * length (half.words ++ words_of)
          length_four = omega (arith, length-append half.words words_of)

      pub half_stopped : room ≡ drop filled journal → (why : Stop) → Refused score (eqb number last_number) a words_of room room' why →
          (e : Ended) → e.stop ≡ Err why → e.instants ≡ n → e.standing ≡ stands → e.number ≡ number → LawfulState (sizes score).agents (state_in stands) →
          RanTo score s₀ j₀ (take filled journal ++ room') (run_from score s₀ (length j₀) (input_lists inputs)) e
      half_stopped r why took e is i st m law =
          ended_as _ e (ap (λ l. take filled journal ++ l) (took.kept ∙ r) ∙ take-append-drop filled journal) i st m law
          (from_here ∙ unless_stopped_lem why half.state words_of _ (stop_as took.stop_is) ∙ ap (stopped half.state) (sym is))
