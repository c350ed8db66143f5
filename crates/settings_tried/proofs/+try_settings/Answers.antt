-- `try_settings`: with the first switch left, then without it.
--     both     the numbers of both, the chosen switches having been released in between
--     few      their sums stay small
use mathlib.Core.Path.{ap₂, subst⁻¹}
use Rattle.std.proofs.Common.{◌≡◌, ap, ◌∙◌, ℕ, ◌≤◌, ◌<◌, ◌-◌, Bool, true, false, List, ◌∷◌, arith, length, get_or}
use Rattle.std.proofs.Math.ListN.{set}
use Rattle.tcc.specs.Score.{Score}
use Rattle.tcc.specs.Instant.{State}
use Rattle.format.specs.Decode.{decode}
use Rattle.settings_tried.specs.declared.Counts.{Counts}
use Rattle.settings_tried.specs.Sums.{plus}
use Rattle.settings_tried.specs.Standing.{state_from}
use Rattle.settings_tried.proofs.Counting.{three, counted}
use Rattle.settings_tried.proofs.Tried.{with, released, tried_none, tried_both, tried_few}
use Rattle.settings_tried.proofs.+try_settings.Goals as goal
use Rattle.settings_tried.proofs.+try_settings.Goals.{in_default-via-in-Some+else-k-left, in_default-via-in_default}

module _ (sc : Score) (st : State) (chosen last : List Bool) (k token x : ℕ) (left rest : List ℕ) (first second : Counts)
    (first_is : first ≡ counted sc st (with (set chosen token true)) (k - 1) rest) (last_is : last ≡ set chosen token true)
    (second_is : second ≡ counted sc st (with (set last token (get_or chosen token false))) k rest)
    (some : k ≡ 0 → ⊥) (left_is : left ≡ x ∷ rest) (token_is : token ≡ x) (within : token < length chosen) where
  both : plus first second ≡ counted sc st (with chosen) k left
  both =
      ap₂ plus first_is (second_is ∙ ap (λ l. counted sc st (with l) k rest) (released chosen last token last_is))
      ∙ tried_both sc st chosen k token left rest some (left_is ∙ rw (← token_is)) within

  few : length left ≤ 16 → let p = plus first second in (p.quiet ≤ 12870) × (p.clashed ≤ 12870) × (p.aborted ≤ 12870)
  few h = subst⁻¹ (λ (p : Counts). (p.quiet ≤ 12870) × (p.clashed ≤ 12870) × (p.aborted ≤ 12870)) both (tried_few sc st chosen k left h)

pub add-requires : goal.add-requires
add-requires t c =
    let a = c.args in
    let first = c.try_settings-with.ensures in
    let small =
    few (decode a.prepared.now.bytes.now) (state_from a.running a.awake.now) a.chosen.now c.try_settings-with.new.chosen a.k c.from-token.result c.in-Some.first.now a.left.now c.in-Some.others.now
    c.try_settings-with.result c.try_settings-without.result first.value first.chosen_unchanged c.try_settings-without.ensures.value c.if-k-eq0.false c.in-Some.ensures.cases.0 c.from-token.ensures (omega arith) c.requires in
    (omega arith, omega arith, omega arith)

pub returns-in-Some-clause-value : goal.returns-in-Some-clause-value
returns-in-Some-clause-value t c =
    let first = c.try_settings-with.ensures in
    c.add.ensures ∙ both _ _ _ _ _ _ _ _ _ _ _ first.value first.chosen_unchanged c.try_settings-without.ensures.value c.if-k-eq0.false c.in-Some.ensures.cases.0 c.from-token.ensures (omega arith)

pub returns-in-Some-clause-chosen_unchanged : goal.returns-in-Some-clause-chosen_unchanged
returns-in-Some-clause-chosen_unchanged t c = c.try_settings-without.ensures.chosen_unchanged ∙ released _ _ _ c.try_settings-with.ensures.chosen_unchanged

pub returns-in_default-clause-value : goal.returns-in_default-clause-value
returns-in_default-clause-value t c =
    let a = c.args in
    let over : length a.left.now < a.k =
    elim c.in_default.branch [
      | in_default-via-in-Some+else-k-left w ↦ omega arith
      | in_default-via-in_default w ↦ omega (arith, w.in_default.ensures.cases)
    ] in
    let zero = c.default.ensures in
    three zero.0 zero.1.0 zero.1.1 ∙ tried_none (decode a.prepared.now.bytes.now) (state_from a.running a.awake.now) a.chosen.now a.k a.left.now over
