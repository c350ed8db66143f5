-- A pass over the agents in which each live one has its effect.
--     served_more       an agent that has had its effect has had it where more agents are live
--     passed_none       the pass begins
--     passed_by         agent k is not live, or has had its effect
--     passed_lower      an agent below comes alive
--     passed_anywhere   any agent comes alive that was not
--     passed_token      a token comes in that was not
--     Coming            live agent k is read
--     part_few, root_few     what it names has a flag
--     served_here       it has had its effect already
--     tells_new, tells_held, splits, answers, waits, calls_new, calls_live     it is passed, by its kind
use mathlib.Core.Path.{◌≡◌, refl, subst, subst⁻¹, ◌∙◌}
use mathlib.Core.Bool.{Bool, true, false}
use mathlib.Core.List.{List, Memᴰ}
use mathlib.Core.Logic.{⊎_elim}
use Prim.Native.Nat.{ℕ, ◌+◌, ◌<◌, ◌≤◌}
use native.Mathlib.Decide.{ℕ_discrete}
use native.Mathlib.Omega.{arith}
use lib.ListN.{length, get_or, set, length-set, get_or-eq_default}
use Rattle.laws.proofs.Booleans.{true_is_false}
use Rattle.laws.proofs.Sets.{Among}
use Rattle.tcc.specs.Score.{Score, agent_at, root_of, tokens_of, parts_of, procedures_of}
use Rattle.tcc.specs.Lawful.{Lawful}
use Rattle.tcc.specs.Instant.{Fact, live, held, reached}
use Rattle.tcc.specs.FixedPoint.{Marked, Sound}
use Rattle.tcc.specs.declared.Agent.{Agent}
use Rattle.tcc.specs.declared.Agent.TheVariants.{Skip, Abort, Tell, Parallel, When, Next, Unless, Call}
use Rattle.tcc.proofs.FixedPoint.{reach}
use Rattle.flags.specs.Flags.{set_of}
use Rattle.flags.proofs.Flags.{flag_member, member_flag, set_kept, set_here, set_cases, set_longer, set_more}
use Rattle.format.proofs.Known.{part_lower}
use Rattle.instant_marks.specs.Passed.{Served, Passed}

module _ (sc : Score) where
  served_more : (lives more holds : List ℕ) → Among lives more → (a : Agent) → Served sc lives holds a → Served sc more holds a
  served_more lives more holds h Skip s = tt
  served_more lives more holds h Abort s = tt
  served_more lives more holds h (Tell t) s = s
  served_more lives more holds h (Parallel a b) s = (h a s.0, h b s.1)
  served_more lives more holds h (When t b) s = λ m. h b (s m)
  served_more lives more holds h (Next b) s = tt
  served_more lives more holds h (Unless t b) s = tt
  served_more lives more holds h (Call p) s = h (root_of sc p) s

  -- agents past the end are skips
  pub passed_none : (lives holds : List Bool) (i : ℕ) → length lives ≡ 1024 → length holds ≡ 256 → length sc.agents ≤ i → Passed sc i lives holds lives holds false
  passed_none lives holds i ll lh past = record {
    long_live = ll;
    long_held = lh;
    keeps_live = λ j m. m;
    keeps_held = λ t m. m;
    sound = λ agents inputs s. s;
    served = λ e j le m. subst⁻¹ (Served sc (set_of lives) (set_of holds)) (get_or-eq_default sc.agents Skip (omega arith)) tt;
    still = λ e. refl;
    larger = omega arith;
  }

  module _ (i : ℕ) (lives₀ holds₀ lives holds : List Bool) (grew : Bool) (h : Passed sc i lives₀ holds₀ lives holds grew) where
    -- wherever the marks are sound, a mark is one of the instant's
    abbrev Comes : Fact → Type 0
    Comes x = (agents inputs : List ℕ) → Sound sc agents inputs (Marked (set_of lives)) (Marked (set_of holds)) → Memᴰ x (reached sc agents inputs)

    pub passed_by : (k : ℕ) → i ≤ k + 1 → (Memᴰ k (set_of lives) → Served sc (set_of lives) (set_of holds) (agent_at sc k)) → Passed sc k lives₀ holds₀ lives holds grew
    passed_by k next here = record {
      long_live = h.long_live;
      long_held = h.long_held;
      keeps_live = h.keeps_live;
      keeps_held = h.keeps_held;
      sound = h.sound;
      served = λ e j le m. go e j le m (ℕ_discrete j k);
      still = h.still;
      larger = h.larger;
    }
      where
        go : grew ≡ false → (j : ℕ) → k ≤ j → Memᴰ j (set_of lives) → Dec (j ≡ k) → Served sc (set_of lives) (set_of holds) (agent_at sc j)
        go e j le m (yes p) = subst⁻¹ (λ n. Served sc (set_of lives) (set_of holds) (agent_at sc n)) p (here (subst (λ n. Memᴰ n (set_of lives)) p m))
        go e j le m (no n) = h.served e j (omega arith) m

    module _ (a : ℕ) (few : a < 1024) (comes : Comes (live a)) where
      abbrev now : List Bool
      now = set lives a true

      sound_live : (agents inputs : List ℕ) → Sound sc agents inputs (Marked (set_of lives₀)) (Marked (set_of holds₀)) → Sound sc agents inputs (Marked (set_of now)) (Marked (set_of holds))
      sound_live agents inputs s =
          let s' = h.sound agents inputs s in
          record {
            lives = λ j m. ⊎_elim (λ (e : j ≡ a). subst⁻¹ (λ n. Memᴰ (live n) (reached sc agents inputs)) e (comes agents inputs s')) (λ (k : Memᴰ j (set_of lives)). s'.lives j k) (set_cases lives a m);
            holds = s'.holds;
          }

      pub passed_lower : a < i → Passed sc i lives₀ holds₀ now holds grew
      passed_lower low = record {
        long_live = length-set lives a true ∙ h.long_live;
        long_held = h.long_held;
        keeps_live = λ j m. set_kept lives a (h.keeps_live j m);
        keeps_held = h.keeps_held;
        sound = sound_live;
        served = λ e j le m. served_more (set_of lives) (set_of now) (set_of holds) (λ x k. set_kept lives a k) (agent_at sc j)
            (h.served e j le (⊎_elim (λ (p : j ≡ a). absurd (omega arith)) (λ (k : Memᴰ j (set_of lives)). k) (set_cases lives a m)));
        still = h.still;
        larger = omega (arith, h.larger, set_more lives now (length-set lives a true) (λ x k. set_kept lives a k));
      }

      pub passed_anywhere : get_or lives a false ≡ false → (k : ℕ) → Passed sc k lives₀ holds₀ now holds true
      passed_anywhere out k = record {
        long_live = length-set lives a true ∙ h.long_live;
        long_held = h.long_held;
        keeps_live = λ j m. set_kept lives a (h.keeps_live j m);
        keeps_held = h.keeps_held;
        sound = sound_live;
        served = λ e. absurd (true_is_false refl e);
        still = λ e. absurd (true_is_false refl e);
        larger = omega (arith, h.larger, set_longer lives a (omega (arith, h.long_live)) out);
      }

    module _ (t : ℕ) (few : t < 256) (comes : Comes (held t)) where
      pub passed_token : get_or holds t false ≡ false → (k : ℕ) → Passed sc k lives₀ holds₀ lives (set holds t true) true
      passed_token out k = record {
        long_live = h.long_live;
        long_held = length-set holds t true ∙ h.long_held;
        keeps_live = h.keeps_live;
        keeps_held = λ u m. set_kept holds t (h.keeps_held u m);
        sound = λ agents inputs s. let s' = h.sound agents inputs s in record {
          lives = s'.lives;
          holds = λ u m. ⊎_elim (λ (e : u ≡ t). subst⁻¹ (λ n. Memᴰ (held n) (reached sc agents inputs)) e (comes agents inputs s')) (λ (k : Memᴰ u (set_of holds)). s'.holds u k) (set_cases holds t m);
        };
        served = λ e. absurd (true_is_false refl e);
        still = λ e. absurd (true_is_false refl e);
        larger = omega (arith, h.larger, set_longer holds t (omega (arith, h.long_held)) out);
      }

-- live agent k is read
pub record Coming (sc : Score) (k : ℕ) (lives₀ holds₀ lives holds : List Bool) (grew : Bool) : Type 0 where
  pub lawful : Lawful sc
  pub known : k < 1024
  pub passed : Passed sc (k + 1) lives₀ holds₀ lives holds grew
  pub here : get_or lives k false ≡ true

module _ {sc : Score} {k : ℕ} {lives₀ holds₀ lives holds : List Bool} {grew : Bool} (g : Coming sc k lives₀ holds₀ lives holds grew) where
  abbrev After : List Bool → List Bool → Bool → Type 0
  After = Passed sc k lives₀ holds₀

  k_live : Memᴰ k (set_of lives)
  k_live = flag_member lives g.here

  pub part_few : {a : Agent} (b : ℕ) → agent_at sc k ≡ a → Memᴰ b (parts_of a) → b < 1024
  part_few {a} b e m = omega (arith, part_lower g.lawful k b e m, g.known)

  pub served_here : Served sc (set_of lives) (set_of holds) (agent_at sc k) → After lives holds grew
  served_here s = passed_by sc (k + 1) lives₀ holds₀ lives holds grew g.passed k (omega arith) (λ m. s)

  module _ {t : ℕ} (e : agent_at sc k ≡ Tell t) where
    pub tells_new : get_or holds t false ≡ false → After lives (set holds t true) true
    tells_new out = passed_token sc (k + 1) lives₀ holds₀ lives holds grew g.passed t
        (omega (arith, g.lawful.tokens_known k t (subst⁻¹ (λ x. Memᴰ t (tokens_of x)) e (Memᴰ.head refl)), g.lawful.tokens_at_most))
        (λ agents inputs s. (reach sc agents inputs).tells k t (s.lives k k_live) e) out k

    pub tells_held : get_or holds t false ≡ true → After lives holds grew
    tells_held f = served_here (subst⁻¹ (Served sc (set_of lives) (set_of holds)) e (flag_member holds f))

  pub splits : {a b : ℕ} → agent_at sc k ≡ Parallel a b → After (set (set lives a true) b true) holds grew
  splits {a} {b} e =
      let la : a < k = part_lower g.lawful k a e (Memᴰ.head refl) in
      let lb : b < k = part_lower g.lawful k b e (Memᴰ.tail (Memᴰ.head refl)) in
      let l : k < 1024 = g.known in
      let one = passed_lower sc (k + 1) lives₀ holds₀ lives holds grew g.passed a (omega arith) (λ agents inputs s. ((reach sc agents inputs).splits k a b (s.lives k k_live) e).0) (omega arith) in
      let two = passed_lower sc (k + 1) lives₀ holds₀ (set lives a true) holds grew one b (omega arith) (λ agents inputs s. ((reach sc agents inputs).splits k a b (s.lives k (set_kept lives a k_live)) e).1) (omega arith) in
      passed_by sc (k + 1) lives₀ holds₀ (set (set lives a true) b true) holds grew two k (omega arith)
      (λ m. subst⁻¹ (Served sc (set_of (set (set lives a true) b true)) (set_of holds)) e (
        set_kept (set lives a true) b (set_here lives a (omega (arith, g.passed.long_live))),
        set_here (set lives a true) b (omega (arith, one.long_live)),
      ))

  module _ {t b : ℕ} (e : agent_at sc k ≡ When t b) where
    pub answers : get_or holds t false ≡ true → After (set lives b true) holds grew
    answers f =
        let lb : b < k = part_lower g.lawful k b e (Memᴰ.head refl) in
        let one = passed_lower sc (k + 1) lives₀ holds₀ lives holds grew g.passed b (part_few b e (Memᴰ.head refl))
        (λ agents inputs s. (reach sc agents inputs).awaits k t b (s.lives k k_live) e (s.holds t (flag_member holds f))) (omega arith) in
        passed_by sc (k + 1) lives₀ holds₀ (set lives b true) holds grew one k (omega arith)
        (λ m. subst⁻¹ (Served sc (set_of (set lives b true)) (set_of holds)) e (λ _. set_here lives b (omega (arith, part_few b e (Memᴰ.head refl), g.passed.long_live))))

    pub waits : get_or holds t false ≡ false → After lives holds grew
    waits f = served_here (subst⁻¹ (Served sc (set_of lives) (set_of holds)) e (λ m. absurd (true_is_false (member_flag holds m) f)))

  module _ {p : ℕ} (e : agent_at sc k ≡ Call p) (root : ℕ) (is : root ≡ root_of sc p) where
    pub root_few : root < 1024
    root_few = omega (arith, g.lawful.roots_known p (g.lawful.procedures_known k p (subst⁻¹ (λ x. Memᴰ p (procedures_of x)) e (Memᴰ.head refl))), g.lawful.agents_at_most)

    pub calls_new : get_or lives root false ≡ false → After (set lives root true) holds true
    calls_new out = passed_anywhere sc (k + 1) lives₀ holds₀ lives holds grew g.passed root root_few
        (λ agents inputs s. subst⁻¹ (λ n. Memᴰ (live n) (reached sc agents inputs)) is ((reach sc agents inputs).calls k p (s.lives k k_live) e)) out k

    pub calls_live : get_or lives root false ≡ true → After lives holds grew
    calls_live f = served_here (subst⁻¹ (Served sc (set_of lives) (set_of holds)) e (subst (λ n. Memᴰ n (set_of lives)) is (flag_member lives f)))
