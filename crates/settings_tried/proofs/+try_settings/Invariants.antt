-- `try_settings`: with the first switch left, then without it; the number of switches left falls.
use Rattle.std.proofs.Common.{length}
use Rattle.settings_tried.proofs.+try_settings.Given as goal

abbrev pub decreases-try_settings : goal.decreases-try_settings
decreases-try_settings l = length l.left.now
