-- Passes until there is nothing to add.
--     Settling           marks that passes have added to, with the store closed after each
--     settling_none, settling_more     there was none; there was one more
--     starts_sound       the agents and the closed inputs that an instant starts with are sound marks
--     settled            after a pass that needs no other, the marks are the least fixed point
use mathlib.Core.Path.{◌≡◌, subst, subst⁻¹}
use mathlib.Core.Bool.{Bool, false}
use mathlib.Core.List.{List, Memᴰ}
use Prim.Native.Nat.{ℕ}
use native.Mathlib.Omega.{arith}
use Rattle.tcc.specs.Score.{Score, agent_at}
use Rattle.tcc.specs.Lawful.{Lawful}
use Rattle.tcc.specs.Store.{closure}
use Rattle.tcc.specs.FixedPoint.{Marked, Sound}
use Rattle.tcc.specs.declared.Agent.{Agent}
use Rattle.tcc.proofs.FixedPoint.{reach}
use Rattle.flags.specs.Flags.{set_of, flags_of}
use Rattle.flags.proofs.Flags.{member_within}
use Rattle.instant_marks.specs.Passed.{Served, Passed}
use Rattle.instant_engine.specs.Marks.{Shut, Fixed}
use Rattle.instant_engine.proofs.Closing.{closed_shut, closed_above, closed_reached}

module _ (sc : Score) where
  pub record Settling (live₀ held₀ live held : List ℕ) : Type 0 where
    pub sound : (agents inputs : List ℕ) → Sound sc agents inputs (Marked live₀) (Marked held₀) → Sound sc agents inputs (Marked live) (Marked held)
    pub begins : (i : ℕ) → Memᴰ i live₀ → Memᴰ i live
    pub told : (t : ℕ) → Memᴰ t held₀ → Memᴰ t held
    pub shut : Shut sc held

  pub settling_none : (live held : List ℕ) → Shut sc held → Settling live held live held
  settling_none live held shut = record { sound = λ agents inputs s. s; begins = λ i m. m; told = λ t m. m; shut = shut }

  pub starts_sound : Lawful sc → (agents inputs : List ℕ) → Sound sc agents inputs (Marked agents) (Marked (set_of (flags_of 256 (closure sc inputs))))
  starts_sound lawful agents inputs = record {
    lives = (reach sc agents inputs).begins;
    holds = closed_reached sc lawful inputs agents inputs (reach sc agents inputs).told;
  }

  module _ (live₀ held₀ : List ℕ) (live held live' held' : List Bool) (grew : Bool) (h : Settling live₀ held₀ (set_of live) (set_of held)) (passed : Passed sc 0 live held live' held' grew) where
    pub settling_more : Lawful sc → (closed : List Bool) → closed ≡ flags_of 256 (closure sc (set_of held')) → Settling live₀ held₀ (set_of live') (set_of closed)
    settling_more lawful closed e = subst⁻¹ (λ l. Settling live₀ held₀ (set_of live') (set_of l)) e record {
      sound = λ agents inputs s. let s' = passed.sound agents inputs (h.sound agents inputs s) in record {
        lives = s'.lives;
        holds = closed_reached sc lawful (set_of held') agents inputs s'.holds;
      };
      begins = λ i m. passed.keeps_live i (h.begins i m);
      told = λ t m. let k = passed.keeps_held t (h.told t m) in closed_above sc lawful (set_of held') t (omega (arith, member_within held' k, passed.long_held)) k;
      shut = closed_shut sc lawful (set_of held');
    }

    module _ (last : grew ≡ false) (inputs : List ℕ) (starts : Sound sc live₀ inputs (Marked live₀) (Marked held₀)) (takes : (t : ℕ) → Memᴰ t inputs → Memᴰ t held₀) where
      -- a live agent has had its effect
      served : (i : ℕ) {a : Agent} → Memᴰ i (set_of live') → agent_at sc i ≡ a → Served sc (set_of live') (set_of held') a
      served i {a} m e = subst (Served sc (set_of live') (set_of held')) e (passed.served last i (omega arith) m)

      shut : Shut sc (set_of held')
      shut = subst⁻¹ (λ l. Shut sc (set_of l)) (passed.still last) h.shut

      pub settled : Fixed sc live₀ inputs (set_of live') (set_of held')
      settled = record {
        sound = passed.sound live₀ inputs (h.sound live₀ inputs starts);
        closed = record {
          begins = λ i m. passed.keeps_live i (h.begins i m);
          told = λ t m. passed.keeps_held t (h.told t (takes t m));
          tells = λ i t m e. served i m e;
          splits = λ i a b m e. served i m e;
          calls = λ i p m e. served i m e;
          awaits = λ i t b m e. served i m e;
          rules = shut.rules;
          clash = shut.clash;
        };
      }
