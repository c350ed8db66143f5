-- Instants from sets with the same members.
--     SameAnswer           the same status and agents reduced; stores and agents awake with the same members
--     answer_refl, answer_trans     it goes from an answer to itself, and on
--     both_settled         two answers that the same marks settle are the same
--     lives, store         the marks: what is reached from some agents and inputs
--     marks_closed         they are closed
--     marks_sound          and sound, for any agents and inputs with the same members
--     abort_cases          an abort is live among them, or none is
--     aborting, settling     in the one case those have the aborted answer, in the other the marks settle theirs
--     own_aborting, own_settling     so have they themselves
--     unaborted_settled    and the marks settle any answer that is not aborted
--     instant_same         so agents and inputs with the same members give the same answer
use mathlib.Core.Path.{◌≡◌, refl, sym, ap, ◌∙◌}
use mathlib.Core.Bool.{Bool, true, false}
use mathlib.Core.List.{List, Memᴰ}
use Prim.Native.Nat.{ℕ}
use Rattle.laws.specs.Sets.{Same, any, has}
use Rattle.laws.proofs.Booleans.{true_is_false}
use Rattle.laws.proofs.Sets.{any_some, some_any, has_member, member_has, same_refl, same_sym, same_trans}
use Rattle.tcc.specs.Score.{Score, agent_at}
use Rattle.tcc.specs.Instant.{live, held, live_in, held_in, is_abort, reached, Answer, aborted_answer, instant}
use Rattle.tcc.specs.FixedPoint.{Closed, Sound, Marked, Settled}
use Rattle.tcc.specs.declared.Agent.TheVariants.{Abort}
use Rattle.tcc.proofs.FixedPoint.{Reached, live_in_lem, held_in_lem, in_live, in_held, is_abort_lem, reached_least, reach, settles, aborts}

pub record SameAnswer (a b : Answer) : Type 0 where
  pub status : a.status ≡ b.status
  pub store : Same a.store b.store
  pub reduced : a.reduced ≡ b.reduced
  pub awake : Same a.awake b.awake

pub answer_refl : (a : Answer) → SameAnswer a a
answer_refl a = record { status = refl; store = same_refl a.store; reduced = refl; awake = same_refl a.awake }

pub answer_trans : {a b c : Answer} → SameAnswer a b → SameAnswer b c → SameAnswer a c
answer_trans p q = record { status = p.status ∙ q.status; store = same_trans p.store q.store; reduced = p.reduced ∙ q.reduced; awake = same_trans p.awake q.awake }

pub both_settled : (sc : Score) (lives store : List ℕ) (a b : Answer) → Settled sc lives store a → Settled sc lives store b → SameAnswer a b
both_settled sc lives store a b p q = record {
  status = go (has 0 store) refl;
  store = same_trans (same_sym p.same_store) q.same_store;
  reduced = sym p.same_reduced ∙ q.same_reduced;
  awake = same_trans (same_sym p.same_awake) q.same_awake;
}
  where
    go : (c : Bool) → has 0 store ≡ c → a.status ≡ b.status
    go true e = let m = has_member 0 store e in p.clash m ∙ sym (q.clash m)
    go false e = let n : Memᴰ 0 store → ⊥ = λ m. true_is_false (member_has m) e in p.no_clash n ∙ sym (q.no_clash n)

module _ (sc : Score) {agents agents' inputs inputs' : List ℕ} (same : Same agents agents') (same_inputs : Same inputs inputs') where
  closed_by : {Live Held : ℕ → Type 0} → Closed sc agents inputs Live Held → Closed sc agents' inputs' Live Held
  closed_by c = record {
    begins = λ i m. c.begins i ((same i).1 m);
    told = λ t m. c.told t ((same_inputs t).1 m);
    tells = c.tells;
    splits = c.splits;
    calls = c.calls;
    awaits = c.awaits;
    rules = c.rules;
    clash = c.clash;
  }

module _ (sc : Score) (agents inputs : List ℕ) where
  pub lives : List ℕ
  lives = live_in (reached sc agents inputs)

  pub store : List ℕ
  store = held_in (reached sc agents inputs)

  pub marks_closed : Closed sc agents inputs (Marked lives) (Marked store)
  unfolding lives store
  marks_closed = let c = reach sc agents inputs in let r = reached sc agents inputs in record {
    begins = λ i m. in_live r (c.begins i m);
    told = λ t m. in_held r (c.told t m);
    tells = λ i t l e. in_held r (c.tells i t (live_in_lem r l) e);
    splits = λ i a b l e. let both = c.splits i a b (live_in_lem r l) e in (in_live r both.0, in_live r both.1);
    calls = λ i p l e. in_live r (c.calls i p (live_in_lem r l) e);
    awaits = λ i t b l e h. in_live r (c.awaits i t b (live_in_lem r l) e (held_in_lem r h));
    rules = λ u m h. in_held r (c.rules u m (λ p k. held_in_lem r (h p k)));
    clash = λ t z l. in_held r (c.clash t (held_in_lem r z) l);
  }

  pub abort_cases : {P : Type 0} → ((i : ℕ) → Memᴰ i lives → agent_at sc i ≡ Abort → P) → (((i : ℕ) → Memᴰ i lives → agent_at sc i ≡ Abort → ⊥) → P) → P
  abort_cases {P} found none = go (any (λ i. is_abort (agent_at sc i)) lives) refl
    where
      go : (b : Bool) → any (λ i. is_abort (agent_at sc i)) lives ≡ b → P
      go true e = let x = any_some (λ i. is_abort (agent_at sc i)) lives e in found x.0 x.1 (is_abort_lem (agent_at sc x.0) x.2)
      go false e = none (λ i m a. true_is_false (some_any (λ k. is_abort (agent_at sc k)) m (rw a)) e)

  module _ {agents' inputs' : List ℕ} (same : Same agents agents') (same_inputs : Same inputs inputs') where
    pub marks_sound : Sound sc agents' inputs' (Marked lives) (Marked store)
    unfolding lives store
    marks_sound =
        let c = closed_by sc (same_sym same) (same_sym same_inputs) (reach sc agents' inputs') in
        let least = reached_least sc agents inputs (λ i. Reached sc agents' inputs' (live i)) (λ t. Reached sc agents' inputs' (held t)) c in
        let r = reached sc agents inputs in
        record { lives = λ i m. least (live i) (live_in_lem r m); holds = λ t m. least (held t) (held_in_lem r m) }

    pub aborting : (i : ℕ) → Memᴰ i lives → agent_at sc i ≡ Abort → instant sc agents' inputs' ≡ aborted_answer
    aborting = aborts sc agents' inputs' lives store marks_sound

    pub settling : ((i : ℕ) → Memᴰ i lives → agent_at sc i ≡ Abort → ⊥) → Settled sc lives store (instant sc agents' inputs')
    settling = settles sc agents' inputs' lives store marks_sound (closed_by sc same same_inputs marks_closed)

module _ (sc : Score) (agents inputs : List ℕ) where
  pub own_aborting : (i : ℕ) → Memᴰ i (lives sc agents inputs) → agent_at sc i ≡ Abort → instant sc agents inputs ≡ aborted_answer
  own_aborting = aborting sc agents inputs (same_refl agents) (same_refl inputs)

  pub own_settling : ((i : ℕ) → Memᴰ i (lives sc agents inputs) → agent_at sc i ≡ Abort → ⊥) → Settled sc (lives sc agents inputs) (store sc agents inputs) (instant sc agents inputs)
  own_settling = settling sc agents inputs (same_refl agents) (same_refl inputs)

  pub unaborted_settled : ((instant sc agents inputs).status ≡ 2 → ⊥) → Settled sc (lives sc agents inputs) (store sc agents inputs) (instant sc agents inputs)
  unaborted_settled unaborted = abort_cases sc agents inputs (λ i m a. absurd (unaborted (ap (λ x. x.status) (own_aborting i m a)))) own_settling

pub instant_same : (sc : Score) {agents agents' inputs inputs' : List ℕ} → Same agents agents' → Same inputs inputs' → SameAnswer (instant sc agents inputs) (instant sc agents' inputs')
instant_same sc {agents} {agents'} {inputs} {inputs'} same same_inputs = abort_cases sc agents inputs
    (λ i m a. rw (own_aborting sc agents inputs i m a, aborting sc agents inputs same same_inputs i m a) (answer_refl aborted_answer))
    (λ none. both_settled sc (lives sc agents inputs) (store sc agents inputs) (instant sc agents inputs) (instant sc agents' inputs') (own_settling sc agents inputs none) (settling sc agents inputs same same_inputs none))
