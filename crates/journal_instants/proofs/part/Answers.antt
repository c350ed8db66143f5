-- `part`: the first part of what is left from the position on, or no bytes.
use Rattle.std.proofs.Common.{◌≡◌, ℕ, ◌<◌, ◌⊎◌, inl, inr, drop, take, ap, ◌∙◌, sym, arith}
use Rattle.std.proofs.Math.Seq.{length-take-le}
use Rattle.std.proofs.lemmas.Grind.{common_steps}
use Rattle.journal_instants.specs.Parts.{part_from}
use Rattle.journal_instants.proofs.Parts.{span_fits, part_on, part_off, part_past, part_against}
use Rattle.journal_instants.proofs.part.Goals as goal
use Rattle.journal_instants.proofs.part.Goals.{in_default-via-in-Ok-Some+else-at-eq0, in_default-via-in-Ok+in_default, in_default-via-in_default}

pub slice_bounds-result-end : goal.slice_bounds-result-end
slice_bounds-result-end c =
    let rest = c.in-Ok-Some.rest.now in
    sym (length-take-le c.span_of.result rest (omega (arith, span_fits rest, c.span_of.ensures)))

pub returns-in-Ok-Some : goal.returns-in-Ok-Some
returns-in-Ok-Some c =
    let a = c.args in
    let left : c.in-Ok-Some.rest.now ≡ drop a.at a.bytes.now = grind (arith, common_steps) in
    ap (λ n. take n c.in-Ok-Some.rest.now) c.span_of.ensures ∙ ap part_from left ∙ part_on a.bytes.now a.at c.in-Ok-Some.is-0 c.if-at-eq0.true

past : {n at : ℕ} → (n < at) ⊎ (n < n) → n < at
past (inl l) = l
past (inr l) = omega arith

pub returns-in_default : goal.returns-in_default
returns-in_default c =
    let a = c.args in
    elim c.in_default.branch [
      | in_default-via-in-Ok-Some+else-at-eq0 w ↦ part_off a.bytes.now a.at w.in-Ok-Some.is-0 w.if-at-eq0.false
      | in_default-via-in-Ok+in_default w ↦ part_past a.bytes.now a.at w.in_default.is-0 (past w.in_default.ensures.lookup.0)
      | in_default-via-in_default w ↦ part_against a.bytes.now a.at w.in_default.is-0
    ]
