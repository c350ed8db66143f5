-- One instant of a run: played, and written if it can be.
--     took, refused    what the parts return is the instant
--     last_first       at the last number 18 is the reason, with room or without
--     not_stopped, not_last, only_last, not_full, took_fits
--                      whether it is written, and if not, why
use mathlib.Core.Path.{◌≡◌, refl, sym, ap, ap₂, subst⁻¹, ◌∙◌}
use mathlib.Core.Bool.{Bool, true, false, cond}
use mathlib.Core.List.{List, ◌++◌}
use Prim.Native.Nat.{ℕ, ◌*◌, ◌≤◌}
use native.Mathlib.Omega.{arith}
use borrow.Author.Tests.{leb-true}
use lib.Dec.{leb}
use lib.ListN.{length, drop}
use Rattle.tcc.specs.Instant.{State, Answer, answer, after}
use Rattle.format.specs.Decode.{sizes, decode}
use Rattle.format.specs.Playable.{Playable}
use Rattle.flags.specs.Flags.{set_of}
use Rattle.bits.specs.Bits.{bytes_of}
use Rattle.lent.specs.States.{state_fault, as_bytes, LawfulState}
use Rattle.instant_state.specs.Standing.{state_in}
use Rattle.journal_words.specs.History.{instant_words, entry}
use Rattle.journal_step.specs.declared.Step.{Step}
use Rattle.journal_step.specs.Stepped.{Stepped}
use Rattle.journal_step.proofs.FromStanding.{words_are}
use Rattle.std.specs.Prelude.{Err}
use Rattle.journal_run_list.specs.declared.Stop.{Stop}
use Rattle.journal_run_list.specs.declared.Taken.{Taken}
use Rattle.journal_run_list.specs.Run.{MayStop, Not, Next, Last, Room, stop_by, stop_at}
use Rattle.journal_run_list.specs.Advance.{Wrote, Refused}

module _ (score : List ℕ) (p : Playable score) (st : State) (inputs : List ℕ) (s : Step) (is : Stepped score (answer (decode score) st inputs) s) where
  abbrev a : Answer
  a = answer (decode score) st inputs

  abbrev words : List ℕ
  words = instant_words s.status inputs (set_of s.out)

  are : words ≡ entry (decode score) inputs a
  are = words_are score p st inputs is

  stop_so : (last : Bool) {bytes : ℕ} (room : ℕ) {stop : MayStop} → bytes ≡ 4 * length words → stop_by s.unlawful last bytes room ≡ stop → stop_at score last a (4 * length (entry (decode score) inputs a)) room ≡ stop
  unfolding stop_at
  stop_so last room b e = sym (ap₂ (λ x y. stop_by x last y room) is.unlawful_is (b ∙ ap (λ ws. 4 * length ws) are)) ∙ e

  pub took : (last : Bool) (t : Taken) (before after' : List ℕ) →
      t.bytes ≡ 4 * length words →
      stop_by s.unlawful last t.bytes (length before) ≡ Not →
      t.standing ≡ s.standing →
      after' ≡ bytes_of words ++ drop (4 * length words) before →
      Wrote score last a (entry (decode score) inputs a) before after' t
  took last t before after' b goes stands w = record {
    not_stopped = stop_so last (length before) b goes;
    bytes_are = b ∙ ap (λ ws. 4 * length ws) are;
    written = w ∙ ap (λ ws. bytes_of ws ++ drop (4 * length ws) before) are;
    stands = ap state_in stands ∙ is.stands;
    lawful = subst⁻¹ (λ x. LawfulState (sizes score).agents (state_in x)) stands is.lawful;
  }

  pub refused : (last : Bool) {bytes : ℕ} (journal : List ℕ) {why : Stop} →
      bytes ≡ 4 * length words →
      stop_by s.unlawful last bytes (length journal) ≡ Err why →
      Refused score last a (entry (decode score) inputs a) journal journal why
  refused last journal b stops = record { stop_is = stop_so last (length journal) b stops; kept = refl }

pub last_first : (needed room : ℕ) → stop_by false true needed room ≡ Last
last_first _ _ = refl

-- an instant that is written is not wanted at the last number, and fits
pub not_stopped : (unlawful last : Bool) (needed room : ℕ) → stop_by unlawful last needed room ≡ Not → (last ≡ false) × (needed ≤ room)
not_stopped true last needed room e = absurd (let n : ◌≡◌ {A = ℕ} 0 1 = cc in omega arith)
not_stopped false true needed room e = absurd (let q : Last ≡ Not = sym (last_first needed room) ∙ e in let n : ◌≡◌ {A = ℕ} 0 1 = cc in omega arith)
not_stopped false false needed room e = (refl, go (leb needed room) refl e)
  where
    go : (b : Bool) → leb needed room ≡ b → cond b Not Room ≡ Not → needed ≤ room
    go true p q = leb-true needed room p
    go false p q = absurd (let n : ◌≡◌ {A = ℕ} 0 1 = cc in omega arith)

pub not_last : (score : List ℕ) (last : Bool) (a : Answer) (needed room : ℕ) → stop_at score last a needed room ≡ Not → last ≡ false
unfolding stop_at
not_last score last a needed room e = (not_stopped (state_fault (sizes score).agents (as_bytes (after a))) last needed room e).0

pub not_full : (score : List ℕ) (last : Bool) (a : Answer) (needed room : ℕ) → stop_at score last a needed room ≡ Room → last ≡ false
unfolding stop_at
not_full score last a needed room = go (state_fault (sizes score).agents (as_bytes (after a))) last
  where
    go : (unlawful last : Bool) → stop_by unlawful last needed room ≡ Room → last ≡ false
    go true last e = absurd (let n : ◌≡◌ {A = ℕ} 0 1 = cc in omega arith)
    go false true e = absurd (let q : Last ≡ Room = sym (last_first needed room) ∙ e in let n : ◌≡◌ {A = ℕ} 0 1 = cc in omega arith)
    go false false e = refl

pub only_last : (score : List ℕ) (last : Bool) (a : Answer) (needed room : ℕ) → stop_at score last a needed room ≡ Last → last ≡ true
unfolding stop_at
only_last score last a needed room = go (state_fault (sizes score).agents (as_bytes (after a))) last (leb needed room)
  where
    go : (x y z : Bool) → cond x Next (cond y Last (cond z Not Room)) ≡ Last → y ≡ true
    go true y z e = absurd (let n : ◌≡◌ {A = ℕ} 0 1 = cc in omega arith)
    go false true z e = refl
    go false false true e = absurd (let n : ◌≡◌ {A = ℕ} 0 1 = cc in omega arith)
    go false false false e = absurd (let n : ◌≡◌ {A = ℕ} 0 1 = cc in omega arith)

pub took_fits : {score ws room room' : List ℕ} {last : Bool} {a : Answer} {t : Taken} → Wrote score last a ws room room' t → (last ≡ false) × (t.bytes ≤ length room)
unfolding stop_at
took_fits {score} {ws} {room} {room'} {last} {a} {t} took =
    let w = not_stopped (state_fault (sizes score).agents (as_bytes (after a))) last (4 * length ws) (length room) took.not_stopped in
    (w.0, omega (arith, took.bytes_are, w.1))
