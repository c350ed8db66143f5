-- Contracts of inner functions: what a pass of the engine adds to its marks, the agents that are live and the tokens that
-- are held, as flags. How much of what follows a pass marks is the engine's choice; what every choice has in common is
-- enough for the instant's answer (`tcc/specs/FixedPoint.antt`).
--     Served         an agent, once it is live, has had its effect
--     Passed         a pass that has come down to agent i: the marks before it and now, and whether another may find more;
--                    marks are only added, and each follows from those before; if no other is needed, no token was added
--                    and each live agent from i on has had its effect
use Rattle.std.specs.Prelude.{◌≡◌, Bool, false, cond, ℕ, ◌+◌, ◌≤◌, length}
use mathlib.Core.List.{List, Memᴰ}
use Rattle.tcc.specs.Score.{Score, agent_at, root_of}
use Rattle.tcc.specs.FixedPoint.{Marked, Sound}
use Rattle.tcc.specs.declared.Agent.{Agent}
use Rattle.tcc.specs.declared.Agent.TheVariants.{Skip, Abort, Tell, Parallel, When, Next, Unless, Call}
use Rattle.flags.specs.Flags.{set_of}

abbrev pub Served : Score → List ℕ → List ℕ → Agent → Type 0
Served sc live held Skip = Unit {0}
Served sc live held Abort = Unit {0}
Served sc live held (Tell t) = Memᴰ t held
Served sc live held (Parallel a b) = Memᴰ a live × Memᴰ b live
Served sc live held (When t b) = Memᴰ t held → Memᴰ b live
Served sc live held (Next b) = Unit {0}
Served sc live held (Unless t b) = Unit {0}
Served sc live held (Call p) = Memᴰ (root_of sc p) live

pub record Passed (sc : Score) (i : ℕ) (live₀ held₀ live held : List Bool) (grew : Bool) : Type 0 where
  pub long_live : length live ≡ 1024
  pub long_held : length held ≡ 256
  pub keeps_live : (j : ℕ) → Memᴰ j (set_of live₀) → Memᴰ j (set_of live)
  pub keeps_held : (t : ℕ) → Memᴰ t (set_of held₀) → Memᴰ t (set_of held)
  pub sound : (agents inputs : List ℕ) → Sound sc agents inputs (Marked (set_of live₀)) (Marked (set_of held₀)) → Sound sc agents inputs (Marked (set_of live)) (Marked (set_of held))
  pub served : grew ≡ false → (j : ℕ) → i ≤ j → Memᴰ j (set_of live) → Served sc (set_of live) (set_of held) (agent_at sc j)
  pub still : grew ≡ false → held ≡ held₀
  pub larger : length (set_of live₀) + length (set_of held₀) + cond grew 1 0 ≤ length (set_of live) + length (set_of held)
