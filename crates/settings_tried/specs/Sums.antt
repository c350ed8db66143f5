-- Two threes of numbers, added.
--     plus        number by number
--     AllFit      each of the three numbers fits a word of the machine
use Rattle.std.specs.Prelude.{◌+◌, ◌<◌, ◌^◌}
use Rattle.settings_tried.specs.declared.Counts.{Counts}

abbrev pub plus : Counts → Counts → Counts
plus a b = record { quiet = a.quiet + b.quiet; clashed = a.clashed + b.clashed; aborted = a.aborted + b.aborted }

abbrev pub AllFit : Counts → Type 0
AllFit c = (c.quiet < 2 ^ 64) × (c.clashed < 2 ^ 64) × (c.aborted < 2 ^ 64)
