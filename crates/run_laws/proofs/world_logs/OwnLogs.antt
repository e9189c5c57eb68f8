-- Whose log it is: a client's, the cleaner's, or a manager's. The small world of a log has its owner by name and by number.
use Rattle.std.specs.Prelude.{◌≡◌}
use Rattle.headline.specs.Logs.{Role, log_by, renews}
use Rattle.log_tie.specs.Setting.{Setting}

-- the small world is that of its log
abbrev pub IsOf : Setting → Role → Type 0
IsOf g r = (g.log ≡ record { 0 = log_by r }) × (g.doubts ≡ renews r)
